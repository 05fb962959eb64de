-- A run of compiled words stops at the word that stands where the lines with pattern rows for places stop.
use mathlib.Core.Path.{◌≡◌, refl, sym, ◌∙◌, ap, fun_ext}
use mathlib.Core.List.{List, [], ◌∷◌, map}
use Prim.Native.Nat.{ℕ, zero, suc, ◌+◌}
use native.Mathlib.Omega.{arith}
use lib.ListN.{get_or}
use Rattle.code.specs.declared.Instruction.{Instruction}
use Rattle.code.proofs.WordLaws.{word_read}
use Rattle.theory.specs.Outcome.{Outcome, done, stuck, room, bind}
use Rattle.theory.specs.World.{World}
use Rattle.theory.specs.Machine.{Line, line_at, State, step, exec}
use Rattle.theory.specs.Bounds.{AllInRange}
use Rattle.theory.proofs.Places.{moved_to, moved_step}
use Rattle.calls.specs.Compile.{code_words}
use Rattle.calls.specs.Run.{lines_from, lines_of}
use Rattle.calls.proofs.CompiledWords.{fields_fit}

-- an outcome with another place for each
module _ {A : Type 0} where
  abbrev pub moved_by : (ℕ → ℕ) → Outcome A → Outcome A
  moved_by row (done a) = done a
  moved_by row (stuck place why) = stuck (row place) why
  moved_by row (room place) = room (row place)

  moved_twice : (row : ℕ → ℕ) (place : ℕ) (o : Outcome A) → moved_by row (moved_to place o) ≡ moved_to (row place) o
  moved_twice row place (done a) = refl
  moved_twice row place (stuck other why) = refl
  moved_twice row place (room other) = refl

module _ {A B : Type 0} (row : ℕ → ℕ) where
  moved_by_bind : (o : Outcome A) (f : A → Outcome B) → moved_by row (bind o f) ≡ bind (moved_by row o) (λ a. moved_by row (f a))
  moved_by_bind (done a) f = refl
  moved_by_bind (stuck place why) f = refl
  moved_by_bind (room place) f = refl

module _ (W : World) (kind : ℕ → ℕ) (row : ℕ → ℕ) where
  -- a step ends at its own place
  moved_by_step : (place : ℕ) (i : Instruction) (s : State W) → moved_by row (step W kind place i s) ≡ step W kind (row place) i s
  moved_by_step place i s =
      ap (moved_by row) (sym (moved_step W kind place place i s)) ∙ moved_twice row place (step W kind place i s) ∙ moved_step W kind (row place) place i s

  moved_by_exec : (c : List Line) (s : State W) → moved_by row (exec W kind c s) ≡ exec W kind (map (λ l. line_at (row l.place) l.instruction) c) s
  moved_by_exec [] s = refl
  moved_by_exec (l ∷ c) s =
      rw (moved_by_bind, moved_by_step) (ap (bind (step W kind (row l.place) l.instruction s)) (fun_ext (moved_by_exec c)))

-- words read as lines, with the rows of the lines that they were written for
rows_back : (kind : ℕ → ℕ) (row : ℕ → ℕ) (place : ℕ) (lines : List Line) → AllInRange kind lines → ((i : ℕ) → row (place + i) ≡ get_or (map (λ l. l.place) lines) i 0)
    → map (λ l. line_at (row l.place) l.instruction) (lines_from place (code_words lines)) ≡ lines
unfolding lines_from
rows_back kind row place [] h rows = refl
rows_back kind row place (l ∷ lines) h rows =
    let here : row place ≡ l.place = ap row (omega arith) ∙ rows 0 in
    rw (word_read l.instruction (fields_fit kind l.instruction h.0))
    (λ i. line_at (here i) l.instruction ∷ rows_back kind row (suc place) lines h.1 (λ j. ap row (omega arith) ∙ rows (suc j)) i)

-- the run of the words is that of the lines, with the i-th line's row for word i
pub rows_for_words : (W : World) (kind : ℕ → ℕ) (lines : List Line) → AllInRange kind lines → (s : State W)
    → moved_by (λ word. get_or (map (λ l. l.place) lines) word 0) (exec W kind (lines_of (code_words lines)) s) ≡ exec W kind lines s
rows_for_words W kind lines h s =
    let row : ℕ → ℕ = λ word. get_or (map (λ l. l.place) lines) word 0 in
    moved_by_exec W kind row (lines_of (code_words lines)) s
    ∙ ap (λ c. exec W kind c s) (rows_back kind row zero lines h (λ i. ap row (omega arith)))
