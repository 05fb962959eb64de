-- A round's code taken apart: its words in turn, and the words between INPUT and OUTPUT.
use mathlib.Core.Path.{◌≡◌, refl, sym, ◌∙◌, ap}
use Rattle.std.specs.Prelude.{Option, None, Some}
use mathlib.Core.List.{List, [], ◌∷◌, ◌++◌, map}
use Prim.Native.Nat.{ℕ, suc, ◌+◌, ◌-◌, ◌<◌, ◌≤◌}
use native.Mathlib.Nat.{add-zero, add-suc, suc-add}
use native.Mathlib.Omega.{arith}
use lib.ListN.{length, get_or, take, drop, length-append, length-take, length-drop}
use lib.Seq.{take-append_seam, get_or-take, get_or-drop}
use Rattle.code.specs.Instruction.{instruction_of}
use Rattle.code.specs.declared.Instruction.{Instruction}
use Rattle.theory.specs.Outcome.{bind}
use Rattle.theory.specs.RowModel.{row_world}
use Rattle.theory.specs.Machine.{Line, State, exec}
use Rattle.theory.proofs.InTurn.{from, later_line, exec_append, exec_from}
use Rattle.calls.specs.Run.{add_line, lines_from, lines_of}
use Rattle.calls.specs.Frame.{output_word, framed, middle}

add_append : (place : ℕ) (o : Option Instruction) (a b : List Line) → add_line place o (a ++ b) ≡ add_line place o a ++ b
add_append place (Some i) a b = refl
add_append place None a b = refl

-- the lines of words in turn
pub lines_append : (place : ℕ) (a b : List ℕ) → lines_from place (a ++ b) ≡ lines_from place a ++ lines_from (place + length a) b
unfolding lines_from
lines_append place [] b = rw (add-zero place)
lines_append place (word ∷ a) b =
    ap (add_line place (instruction_of word)) (lines_append (suc place) a b ∙ ap (λ n. lines_from (suc place) a ++ lines_from n b) (suc-add place (length a) ∙ sym (add-suc place (length a))))
    ∙ add_append place (instruction_of word) (lines_from (suc place) a) (lines_from (place + suc (length a)) b)

later_add : (first place : ℕ) (o : Option Instruction) (a : List Line) → map (later_line first) (add_line place o a) ≡ add_line (first + place) o (map (later_line first) a)
later_add first place (Some i) a = refl
later_add first place None a = refl

-- the lines of words further on
pub lines_later : (first place : ℕ) (words : List ℕ) → lines_from (first + place) words ≡ map (later_line first) (lines_from place words)
unfolding lines_from
lines_later first place [] = refl
lines_later first place (word ∷ words) =
    ap (add_line (first + place) (instruction_of word)) (ap (λ n. lines_from n words) (sym (add-suc first place)) ∙ lines_later first (suc place) words)
    ∙ sym (later_add first place (instruction_of word) (lines_from (suc place) words))

-- what stands in a frame
pub middle_framed : (code : List ℕ) → middle (framed code) ≡ code
unfolding middle
middle_framed code =
    let fits : length (framed code) - 2 ≡ length code = omega (arith, length-append code (output_word ∷ [])) in
    ap (λ n. take n (code ++ (output_word ∷ []))) fits ∙ take-append_seam code (output_word ∷ [])

-- the words between the first and the last
module _ (code : List ℕ) (two : 2 ≤ length code) where
  pub middle_length : length (middle code) + 2 ≡ length code
  unfolding middle
  middle_length = omega (arith, length-take (length code - 2) (drop 1 code), length-drop 1 code)

  pub middle_at : (i : ℕ) → i < length (middle code) → get_or (middle code) i 0 ≡ get_or code (1 + i) 0
  unfolding middle
  middle_at i inside =
      let within : i < length code - 2 = omega (arith, middle_length) in
      get_or-take (length code - 2) (drop 1 code) i 0 within ∙ get_or-drop 1 code i 0

-- no more lines than words
pub lines_few : (place : ℕ) (words : List ℕ) → length (lines_from place words) ≤ length words
unfolding lines_from
lines_few place [] = omega arith
lines_few place (word ∷ words) = go (instruction_of word) (lines_few (suc place) words)
  where
    go : (o : Option Instruction) → length (lines_from (suc place) words) ≤ length words → length (add_line place o (lines_from (suc place) words)) ≤ suc (length words)
    go (Some i) few = omega (arith, few)
    go None few = omega (arith, few)

module _ (kind : ℕ → ℕ) where
  -- the steps of words from a place on
  pub later_steps : (first : ℕ) (words : List ℕ) (s : State row_world) → exec row_world kind (lines_from first words) s ≡ from first (exec row_world kind (lines_of words) s)
  later_steps first words s =
      ap (λ n. exec row_world kind (lines_from n words) s) (sym (add-zero first)) ∙ ap (λ lines. exec row_world kind lines s) (lines_later first 0 words)
      ∙ exec_from row_world kind first (lines_of words) s

  -- the steps of a round are those of one half and then of the other, their places counted from INPUT
  pub steps_in_turn : (m c : List ℕ) (s : State row_world)
      → exec row_world kind (lines_from 1 (middle (framed (m ++ c)))) s
      ≡ bind (from 1 (exec row_world kind (lines_of m) s)) (λ t. from (1 + length m) (exec row_world kind (lines_of c) t))
  steps_in_turn m c s =
      ap (λ words. exec row_world kind (lines_from 1 words) s) (middle_framed (m ++ c)) ∙ ap (λ lines. exec row_world kind lines s) (lines_append 1 m c)
      ∙ exec_append row_world kind (lines_from 1 m) (lines_from (1 + length m) c) s
      ∙ λ i. bind (later_steps 1 m s i) (λ t. later_steps (1 + length m) c t i)
