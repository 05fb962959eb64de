-- Where code stops is one of its words.
use mathlib.Core.Path.{◌≡◌}
use Rattle.std.specs.Prelude.{Option, None, Some}
use mathlib.Core.List.{List, [], ◌∷◌}
use Prim.Native.Nat.{ℕ, suc, ◌+◌, ◌<◌}
use native.Mathlib.Omega.{arith}
use lib.ListN.{length}
use Rattle.code.specs.Instruction.{instruction_of}
use Rattle.code.specs.declared.Instruction.{Instruction}
use Rattle.theory.specs.Outcome.{Outcome, done, stuck, room, bind}
use Rattle.theory.specs.World.{World}
use Rattle.theory.specs.Machine.{State, step, exec}
use Rattle.theory.proofs.Places.{moved_to, moved_step}
use Rattle.calls.specs.Run.{add_line, lines_from}

-- an outcome that stops, if it does, before a word
module _ {A : Type 0} where
  abbrev pub StopsBefore : ℕ → Outcome A → Type 0
  StopsBefore end (done a) = Unit {0}
  StopsBefore end (stuck place why) = place < end
  StopsBefore end (room place) = place < end

module _ {A B : Type 0} (place end : ℕ) (f : A → Outcome B) (rest : (a : A) → StopsBefore end (f a)) (inside : place < end) where
  stops_bind : (o : Outcome A) → moved_to place o ≡ o → StopsBefore end (bind o f)
  stops_bind (done a) e = rest a
  stops_bind (stuck other why) e = let same : place ≡ other = cc in omega arith
  stops_bind (room other) e = let same : place ≡ other = cc in omega arith

module _ (W : World) (kind : ℕ → ℕ) where
  stops_from : (end place : ℕ) (words : List ℕ) → place + length words ≡ end → (s : State W) → StopsBefore end (exec W kind (lines_from place words) s)
  unfolding lines_from
  stops_from end place [] long s = tt
  stops_from end place (word ∷ words) long s =
      let next : suc place + length words ≡ end = omega arith in
      let inside : place < end = omega arith in
      go (instruction_of word) inside (stops_from end (suc place) words next)
    where
      go : (o : Option Instruction) → place < end → ((t : State W) → StopsBefore end (exec W kind (lines_from (suc place) words) t))
          → StopsBefore end (exec W kind (add_line place o (lines_from (suc place) words)) s)
      go None inside rest = rest s
      go (Some i) inside rest = stops_bind place end (exec W kind (lines_from (suc place) words)) rest inside (step W kind place i s) (moved_step W kind place place i s)

  pub stops_before : (words : List ℕ) (s : State W) → StopsBefore (length words) (exec W kind (lines_from 0 words) s)
  stops_before words s = stops_from (length words) 0 words (omega arith) s
