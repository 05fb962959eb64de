-- The place of an answer is a label: code with other places on its lines ends the same, but for the place.
use mathlib.Core.Path.{◌≡◌, refl, sym, ◌∙◌, ap, fun_ext}
use Rattle.std.specs.Prelude.{Option, None, Some}
use mathlib.Core.List.{List, [], ◌∷◌, map}
use Prim.Native.Nat.{ℕ, zero, suc}
use native.Mathlib.Omega.{arith}
use Rattle.code.specs.declared.Instruction.{Instruction}
use Rattle.code.specs.declared.Instruction.TheVariants.{Load, Store, StoreConst, Decode, Encode, Create, AnalyzeTuple, CreateTuple, Opposite, KeyOf, Match, Encrypt, Decrypt, Sign, Verify, Hash}
use Rattle.theory.specs.Outcome.{Outcome, done, stuck, room, bind, Answer, got, not, full, at, need}
use Rattle.theory.specs.World.{World}
use Rattle.theory.specs.Machine.{Line, line_at, State, messages, step, exec}

-- an outcome at another place
module _ {A : Type 0} where
  abbrev pub moved_to : ℕ → Outcome A → Outcome A
  moved_to place (done a) = done a
  moved_to place (stuck other why) = stuck place why
  moved_to place (room other) = room place

  -- done, stuck or out of room: what moving keeps
  abbrev pub form : Outcome A → ℕ
  form (done a) = 0
  form (stuck place why) = 1
  form (room place) = 2

  pub moved_done : (place : ℕ) (x : Outcome A) {a : A} → moved_to place x ≡ done a → x ≡ done a
  moved_done place (done b) e = e
  moved_done place (stuck other why) e = absurd (omega (arith, ap form e))
  moved_done place (room other) e = absurd (omega (arith, ap form e))

module _ {A B : Type 0} (place : ℕ) where
  moved_bind : (x : Outcome A) (f : A → Outcome B) → moved_to place (bind x f) ≡ bind (moved_to place x) (λ a. moved_to place (f a))
  moved_bind (done a) f = refl
  moved_bind (stuck other why) f = refl
  moved_bind (room other) f = refl

module _ {A : Type 0} (place other : ℕ) where
  moved_at : (x : Answer A) → moved_to place (at other x) ≡ at place x
  moved_at (got a) = refl
  moved_at (not why) = refl
  moved_at full = refl

  moved_need : (o : Option A) → moved_to place (need other o) ≡ need place o
  moved_need (Some a) = refl
  moved_need None = refl

ruleset moves = (moved_bind, moved_at, moved_need)

module _ (W : World) (kind : ℕ → ℕ) (place : ℕ) where
  moved_messages : (other : ℕ) (s : State W) (b n : ℕ) → moved_to place (messages W other s b n) ≡ messages W place s b n
  unfolding messages
  moved_messages other s b zero = refl
  moved_messages other s b (suc n) = simp (moves, moved_messages other s (suc b) n)

  pub moved_step : (other : ℕ) (i : Instruction) (s : State W) → moved_to place (step W kind other i s) ≡ step W kind place i s
  moved_step other (Load r) s = simp moves
  moved_step other (Store r) s = simp moves
  moved_step other (StoreConst c b) s = simp moves
  moved_step other (Decode v) s = simp moves
  moved_step other (Encode v) s = simp moves
  moved_step other (Create v) s = simp moves
  moved_step other (AnalyzeTuple t b n) s = simp moves
  moved_step other (CreateTuple t b n) s = simp (moves, moved_messages)
  moved_step other (Opposite K k) s = simp moves
  moved_step other KeyOf s = simp moves
  moved_step other (Match r) s = simp moves
  moved_step other (Encrypt v) s = simp moves
  moved_step other (Decrypt v) s = simp moves
  moved_step other (Sign v) s = simp moves
  moved_step other (Verify v r) s = simp moves
  moved_step other (Hash h) s = simp moves

  moved_exec : (c : List Line) (s : State W) → moved_to place (exec W kind c s) ≡ exec W kind (map (λ l. line_at place l.instruction) c) s
  moved_exec [] s = refl
  moved_exec (l ∷ c) s =
      rw (moved_bind, moved_step) (ap (bind (step W kind place l.instruction s)) (fun_ext (moved_exec c)))

-- the same instructions end the same, wherever
pub same_instructions : (W : World) (kind : ℕ → ℕ) (c d : List Line) (s : State W)
    → map (λ l. l.instruction) c ≡ map (λ l. l.instruction) d → moved_to 0 (exec W kind c s) ≡ moved_to 0 (exec W kind d s)
same_instructions W kind c d s e =
    moved_exec W kind 0 c s ∙ ap (λ x. exec W kind x s) (relabelled c d e) ∙ sym (moved_exec W kind 0 d s)
  where
    twice : (c : List Line) → map (λ l. line_at 0 l.instruction) c ≡ map (line_at 0) (map (λ l. l.instruction) c)
    twice [] = refl
    twice (l ∷ c) = ap (λ x. line_at 0 l.instruction ∷ x) (twice c)

    relabelled : (c d : List Line) → map (λ l. l.instruction) c ≡ map (λ l. l.instruction) d → map (λ l. line_at 0 l.instruction) c ≡ map (λ l. line_at 0 l.instruction) d
    relabelled c d e = twice c ∙ ap (map (line_at 0)) e ∙ sym (twice d)
