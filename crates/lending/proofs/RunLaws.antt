-- Run over lent bytes: lengths that fit or are refused, and what is packed back.
use Prim.Native.Nat.{ℕ}
use mathlib.Core.Path.{◌≡◌, refl, sym, ◌∙◌, ap}
use mathlib.Core.Bool.{Bool, true, false}
use mathlib.Core.List.{List}
use lib.Dec.{T}
use Rattle.word.specs.Bytes.{elements, spelled}
use Rattle.word.proofs.ByteLaws.{Below, spelled_elements}
use Rattle.word.proofs.TestLaws.{both, equals, at_most, is_false}
use Rattle.answers.specs.declared.Ran.TheVariants.{Limit}
use Rattle.numbers.specs.Limits.{most_code_words}
use Rattle.looking.specs.Found.{used_with}
use Rattle.calls.specs.Run.{Lent, RunOutcome, unchanged, lengths_fit, run}
use Rattle.looking.proofs.LookLaws.{true_holds, found_some, found_limit, run_refused_lem}
use Rattle.lending.specs.declared.RunAnswer.{RunAnswer}
use Rattle.lending.specs.Entries.{RunLeft, ran_numbers, run_whole, lent_elements, rows_spelled, run_spelled, run_refused, run_entry}
use Rattle.lending.proofs.ChoiceLaws.{where_true, either_way}
use Rattle.lending.proofs.SliceLaws.{slices_fit, Fitting, fitting, refits}

module _ (x : Lent) (code : List ℕ) where
  abbrev pub bytes_fit : Bool
  bytes_fit = slices_fit x.objects x.messages x.certificates x.terms code most_code_words

  abbrev pub RunFitting : Type 0
  RunFitting = Fitting x.objects x.messages x.certificates x.terms code most_code_words

  pub run_fitting : bytes_fit ≡ true → RunFitting
  run_fitting e = fitting x.objects x.messages x.certificates x.terms code most_code_words (true_holds e)

  lengths_fit_lem : T (run_whole x code) → T (lengths_fit (lent_elements x) (elements 4 code)) → T bytes_fit
  lengths_fit_lem w h =
      let l = simp (both, equals, at_most) at h in
      refits x.objects x.messages x.certificates x.terms code most_code_words w l.0.0.0.0.0.1 l.0.0.0.0.1 l.0.0.0.1 l.0.0.1 l.1

  refused_by_run : bytes_fit ≡ false → T (run_whole x code) → run (lent_elements x) (elements 4 code) ≡ unchanged Limit (lent_elements x)
  refused_by_run e w =
      let unfit = is_false (lengths_fit (lent_elements x) (elements 4 code)) λ t. rw e at (lengths_fit_lem w t) in
      sym (run_refused_lem (lent_elements x) (elements 4 code) (found_some (elements 8 x.terms) _ (found_limit (lent_elements x) (elements 4 code) refl unfit)).0)

  -- 1, of whole elements or not
  pub run_limit : Below 256 x.objects → Below 256 x.messages → Below 256 x.terms → bytes_fit ≡ false → run_refused x ≡ run_entry x code
  unfolding run_entry
  run_limit objects messages terms e = either_way (run_whole x code) (run_spelled (run (lent_elements x) (elements 4 code))) (run_refused x) λ w.
      let t = simp both at w in
      rw (refused_by_run e w, spelled_elements 2 x.objects t.0.0.0.0 objects, spelled_elements 2 x.messages t.0.0.0.1 messages, spelled_elements 8 x.terms t.0.1 terms)

  -- what is packed back
  abbrev packed : ℕ → RunOutcome → RunLeft
  packed used o =
      record { answer = ran_numbers o.answer used o.counter o.accumulator; objects = spelled 2 o.objects; messages = spelled 2 o.messages; terms = o.terms }

  spells : T (run_whole x code) → run_spelled (run (lent_elements x) (elements 4 code)) ≡ run_entry x code
  unfolding run_entry
  spells w = where_true (run_whole x code) (run_spelled (run (lent_elements x) (elements 4 code))) (run_refused x) w

  pub run_packed : {o left : RunOutcome} {answer : RunAnswer} {used : ℕ} {objects messages : List ℕ} {fit : Bool} → fit ≡ bytes_fit → fit ≡ true
      → o ≡ run (lent_elements x) (elements 4 code)
      → left ≡ rows_spelled o → used ≡ used_with o.answer o.terms → objects ≡ spelled 2 left.objects → messages ≡ spelled 2 left.messages
      → answer ≡ ran_numbers left.answer used left.counter left.accumulator
      → record { answer = answer; objects = objects; messages = messages; terms = left.terms } ≡ run_entry x code
  run_packed {o} {left} {answer} {used} said holds same e u o' m' n =
      rw (n, o', m') (ap (packed used) e ∙ ap (λ (count : ℕ). packed count (rows_spelled o)) u ∙ ap run_spelled same ∙ spells (run_fitting (sym said ∙ holds)).all_whole)

-- what is unpacked
pub lent_elements_lem : (x : Lent) (code : List ℕ) {objects messages pairs words : List ℕ} → objects ≡ elements 2 x.objects → messages ≡ elements 2 x.messages
    → pairs ≡ elements 8 x.certificates → words ≡ elements 4 code
    → run (record { kinds = x.kinds; objects = objects; messages = messages; certificates = pairs; accumulator = x.accumulator; terms = elements 8 x.terms; counter = x.counter }) words
    ≡ run (lent_elements x) (elements 4 code)
lent_elements_lem x code o m p q = rw (o, m, p, q)

-- a run over unpacked rows, which are packed back
abbrev pub with_rows : Lent → List ℕ → Lent
with_rows x rows = record {
  kinds = x.kinds;
  objects = x.objects;
  messages = x.messages;
  certificates = x.certificates;
  accumulator = x.accumulator;
  terms = rows;
  counter = x.counter;
}

pub rows_packed : (x : Lent) (words : List ℕ) {ran : RunOutcome} {used : ℕ} {rows terms : List ℕ} → rows ≡ elements 8 x.terms
    → ran ≡ run (with_rows x rows) words → used ≡ used_with ran.answer ran.terms → terms ≡ spelled 8 ran.terms
    → (let o = run (with_rows x (elements 8 x.terms)) words in
    (record { answer = ran.answer; objects = ran.objects; messages = ran.messages; accumulator = ran.accumulator; terms = terms; counter = ran.counter } ≡ rows_spelled o)
    × (used ≡ used_with o.answer o.terms))
rows_packed x words {ran} {used} r e u t =
    let same : ran ≡ run (with_rows x (elements 8 x.terms)) words = rw r at e in
    (rw t (ap rows_spelled same), u ∙ ap (λ o. used_with o.answer o.terms) same)
