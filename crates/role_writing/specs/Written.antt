-- A role's words are written where nothing refuses and they fit.
use Rattle.std.specs.Prelude.{ℕ, ◌+◌, ◌*◌, ◌≤◌, Bool, true, false, List, [], length}
use Rattle.std.proofs.lemmas.List.Edits.{sets}
use Rattle.theory.specs.Emission.{Env, Emitted, ok, refuse, and_then}
use Rattle.calls.specs.Compile.{code_words}
use Rattle.calls.specs.Half.{half}
use Rattle.calls.specs.Role.{Halves, compiled, refused_in, again, rounds_of, in_turn}

-- the two halves of a round in turn
unfoldable pub round_emitted : List ℕ → List ℕ → List ℕ → Env → Emitted
round_emitted kinds matching creating e = and_then (half false matching kinds e) (λ e'. half true creating kinds (again e'))

-- code with its frame fits from a place on
abbrev pub CodeFits : (List ℕ → List ℕ) → ℕ → ℕ → Emitted → Type 0
CodeFits frame place room (ok lines e) = place + length (frame (code_words lines)) ≤ room
CodeFits frame place room (refuse answer) = ⊥

-- where the words end, which cells are set after them, and the code
pub record CodeLeft (A : Type 0) : Type 0 where
  pub end : ℕ
  pub objects : ℕ → Bool
  pub named : ℕ → Bool
  pub code : List A

-- code of so many elements a word
abbrev pub code_left : {A : Type 0} → ℕ → (List ℕ → List A) → (List ℕ → List ℕ) → ℕ → List A → Emitted → CodeLeft A
code_left size packed frame place code (ok lines e) =
    let words = frame (code_words lines) in
    record { end = place + length words; objects = e.objects; named = e.raws; code = sets code (size * place) (packed words) }
code_left size packed frame place code (refuse answer) = record { end = place; objects = λ v. false; named = λ v. false; code = code }

-- every half compiles, and the rounds fit
abbrev pub RoundsFit : ℕ → Halves → Type 0
RoundsFit room (compiled halves) = length (in_turn (rounds_of halves)) ≤ room
RoundsFit room (refused_in n answer) = ⊥

abbrev pub rounds_in : Halves → List (List ℕ)
rounds_in (compiled halves) = rounds_of halves
rounds_in (refused_in n answer) = []
