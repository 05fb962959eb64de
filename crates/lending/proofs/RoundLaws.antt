-- Round and take over lent bytes: lengths that fit or are refused, and what is packed back.
use Prim.Native.Nat.{ℕ}
use mathlib.Core.Path.{◌≡◌, sym, ◌∙◌, ap}
use mathlib.Core.Logic.{◌↔◌}
use mathlib.Core.Bool.{Bool, true, false, ◌&&◌}
use mathlib.Core.List.{List}
use native.Mathlib.Omega.{arith}
use lib.Dec.{T, eqb}
use lib.ListN.{length, drop_of_length-le}
use lib.Seq.{drop-cons}
use Rattle.word.specs.Bytes.{elements, spelled}
use Rattle.word.proofs.ByteLaws.{Below, length_words, spelled_elements}
use Rattle.word.proofs.TestLaws.{both, equals, at_most, is_false}
use Rattle.answers.specs.First.{first}
use Rattle.answers.specs.declared.Ran.TheVariants.{Limit}
use Rattle.answers.specs.declared.rounds.Session.{Session}
use Rattle.answers.specs.declared.rounds.Rounded.TheVariants.{Ran}
use Rattle.numbers.specs.Limits.{most_round_words}
use Rattle.calls.specs.Round.{RoundLent, RoundOutcome, TakenOutcome, untouched, round_lengths_fit, round, taken_of}
use Rattle.looking.proofs.LookLaws.{true_holds}
use Rattle.lending.specs.declared.RoundAnswer.{RoundAnswer}
use Rattle.lending.specs.Entries.{slices_whole}
use Rattle.lending.specs.RoundEntry.{record_bytes, session_fields, session_of, taken_spelled, take_refused, take_entry}
use Rattle.lending.specs.RoundEntry.{RoundBytes, RoundLeft, round_whole, round_elements, round_refused, round_entry}
use Rattle.lending.specs.RoundEntry.{rounded_numbers, round_rows_spelled, round_spelled}
use Rattle.lending.proofs.ChoiceLaws.{where_true, either_way}
use Rattle.lending.proofs.SliceLaws.{slices_fit, Fitting, fitting, refits}

-- a record's fields are those of its session
fields_back : (fields : List ℕ) → length fields ≡ 5 → session_fields (session_of fields) ≡ fields
fields_back fields long = sym (
    drop-cons fields 0 0 (omega arith)
    ∙ rw (
      drop-cons fields 1 0 (omega arith),
      drop-cons fields 2 0 (omega arith),
      drop-cons fields 3 0 (omega arith),
      drop-cons fields 4 0 (omega arith),
      drop_of_length-le fields {i = 5} (omega arith),
    )
    )

pub record_back : (bytes : List ℕ) → length bytes ≡ record_bytes → Below 256 bytes → spelled 4 (session_fields (session_of (elements 4 bytes))) ≡ bytes
record_back bytes long below =
    ap (spelled 4) (fields_back (elements 4 bytes) (length_words 4 _ bytes ∙ rw long)) ∙ spelled_elements 4 bytes (rw long tt) below

module _ (x : RoundBytes) (code : List ℕ) where
  abbrev is_record : Bool
  is_record = eqb (length x.session) record_bytes

  abbrev are_whole : Bool
  are_whole = slices_whole x.objects x.messages x.certificates x.terms code

  pub whole_parts : T (round_whole x code) ↔ ((length x.session ≡ record_bytes) × T are_whole)
  whole_parts = (
    λ h. let t = (both is_record are_whole).0 h in ((equals (length x.session) record_bytes).0 t.0, t.1),
    λ h. (both is_record are_whole).1 ((equals (length x.session) record_bytes).1 h.0, h.1),
  )

  abbrev are_fitting : Bool
  are_fitting = slices_fit x.objects x.messages x.certificates x.terms code most_round_words

  abbrev pub bytes_fit : Bool
  bytes_fit = is_record && are_fitting

  -- a record, and slices that fit
  pub record RoundFitting : Type 0 where
    pub record_bytes_lem : length x.session ≡ record_bytes
    pub slices : Fitting x.objects x.messages x.certificates x.terms code most_round_words

  pub round_fitting : bytes_fit ≡ true → RoundFitting
  round_fitting e =
      let t = (both is_record are_fitting).0 (true_holds e) in
      record {
        record_bytes_lem = (equals (length x.session) record_bytes).0 t.0;
        slices = fitting x.objects x.messages x.certificates x.terms code most_round_words t.1;
      }

  lengths_fit_lem : T (round_whole x code) → T (round_lengths_fit (round_elements x) (elements 4 code)) → T bytes_fit
  lengths_fit_lem whole h =
      let w = (both is_record are_whole).0 whole in
      let l = (simp (both, equals, at_most) at h).0.0.0 in
      let cells = l.0.0.0.0 in
      let fit =
      refits x.objects x.messages x.certificates x.terms code most_round_words w.1 cells.0.0.1 cells.0.1 cells.1
      l.0.0.0.1 l.1 in
      (both is_record are_fitting).1 (w.0, fit)

  refused_by_round : bytes_fit ≡ false → T (round_whole x code)
      → round (round_elements x) (elements 4 code) ≡ untouched (Ran Limit) (round_elements x)
  unfolding round first
  refused_by_round e w = rw (is_false (round_lengths_fit (round_elements x) (elements 4 code)) λ t. rw e at (lengths_fit_lem w t))

  abbrev outcome : RoundOutcome
  outcome = round (round_elements x) (elements 4 code)

  -- 1, of whole elements or not
  pub round_limit : Below 256 x.session → Below 256 x.objects → Below 256 x.messages → Below 256 x.terms → bytes_fit ≡ false
      → round_refused x ≡ round_entry x code
  unfolding round_entry
  round_limit session objects messages terms e = either_way (round_whole x code) (round_spelled outcome) (round_refused x) λ w.
      let t = whole_parts.0 w in
      let slices = simp both at t.1 in
      rw (
        refused_by_round e w,
        record_back x.session t.0 session,
        spelled_elements 2 x.objects slices.0.0.0.0 objects,
        spelled_elements 2 x.messages slices.0.0.0.1 messages,
        spelled_elements 8 x.terms slices.0.1 terms,
      )

  -- as the code finds it, in two parts
  module _ {slices fit : Bool} (fitting_slices : slices ≡ are_fitting) (all : fit ≡ (is_record && slices)) where
    all_fit : fit ≡ bytes_fit
    all_fit = all ∙ rw fitting_slices

    pub bytes_fitting : fit ≡ true → RoundFitting
    bytes_fitting fits = round_fitting (sym all_fit ∙ fits)

    pub bytes_limit : fit ≡ false → Below 256 x.session → Below 256 x.objects → Below 256 x.messages → Below 256 x.terms → round_refused x ≡ round_entry x code
    bytes_limit unfit session objects messages terms = round_limit session objects messages terms (sym all_fit ∙ unfit)

  spells : T (round_whole x code) → round_spelled outcome ≡ round_entry x code
  unfolding round_entry
  spells w = where_true (round_whole x code) (round_spelled outcome) (round_refused x) w

  -- what is packed back
  abbrev packed : RoundOutcome → RoundLeft
  packed o = record {
    answer = rounded_numbers o.answer;
    session = spelled 4 (session_fields o.session);
    objects = spelled 2 o.objects;
    messages = spelled 2 o.messages;
    terms = o.terms;
  }

  pub round_packed : {o left : RoundOutcome} {answer : RoundAnswer} {session objects messages : List ℕ} → RoundFitting → o ≡ outcome
      → left ≡ round_rows_spelled o → objects ≡ spelled 2 left.objects → messages ≡ spelled 2 left.messages
      → session ≡ spelled 4 (session_fields left.session) → answer ≡ rounded_numbers left.answer
      → record { answer = answer; session = session; objects = objects; messages = messages; terms = left.terms } ≡ round_entry x code
  round_packed f same e o' m' s' n =
      rw (n, o', m', s') (ap packed e ∙ ap round_spelled same ∙ spells (whole_parts.1 (f.record_bytes_lem, f.slices.all_whole)))

-- what is unpacked
pub round_elements_lem : (x : RoundBytes) (code : List ℕ) {session : Session} {objects messages pairs words : List ℕ}
    → session ≡ session_of (elements 4 x.session) → objects ≡ elements 2 x.objects → messages ≡ elements 2 x.messages
    → pairs ≡ elements 8 x.certificates → words ≡ elements 4 code
    → round (record {
      session = session;
      rounds = x.rounds;
      kinds = x.kinds;
      objects = objects;
      messages = messages;
      certificates = pairs;
      terms = elements 8 x.terms;
    }) words ≡ round (round_elements x) (elements 4 code)
round_elements_lem x code s o m p q = rw (s, o, m, p, q)

-- a round over unpacked rows, which are packed back
abbrev pub with_rows : RoundLent → List ℕ → RoundLent
with_rows x rows = record {
  session = x.session;
  rounds = x.rounds;
  kinds = x.kinds;
  objects = x.objects;
  messages = x.messages;
  certificates = x.certificates;
  terms = rows;
}

pub round_rows_packed : (x : RoundLent) (words : List ℕ) {ended : RoundOutcome} {rows terms : List ℕ} → rows ≡ elements 8 x.terms
    → ended ≡ round (with_rows x rows) words → terms ≡ spelled 8 ended.terms
    → record { answer = ended.answer; session = ended.session; objects = ended.objects; messages = ended.messages; terms = terms }
    ≡ round_rows_spelled (round (with_rows x (elements 8 x.terms)) words)
round_rows_packed x words r e t = rw t (ap round_rows_spelled (rw r at e))

-- take
pub take_limit : (bytes : List ℕ) → (length bytes ≡ record_bytes → ⊥) → take_refused bytes ≡ take_entry bytes
unfolding take_entry
take_limit bytes other = rw (is_false (eqb (length bytes) record_bytes) λ t. other ((equals (length bytes) record_bytes).0 t))

pub take_whole : (bytes : List ℕ) → length bytes ≡ record_bytes → taken_spelled (taken_of (session_of (elements 4 bytes))) ≡ take_entry bytes
unfolding take_entry
take_whole bytes long =
    where_true (eqb (length bytes) record_bytes) (taken_spelled (taken_of (session_of (elements 4 bytes)))) (take_refused bytes)
    ((equals (length bytes) record_bytes).1 long)

pub take_packed : (bytes : List ℕ) {session : Session} {taken : TakenOutcome} {after : List ℕ} → length bytes ≡ record_bytes
    → session ≡ session_of (elements 4 bytes) → taken ≡ taken_of session → after ≡ spelled 4 (session_fields taken.session)
    → record { answer = record { number = 0; answer = taken.answer }; session = after } ≡ take_entry bytes
take_packed bytes long s t a = rw a (ap taken_spelled (t ∙ ap taken_of s) ∙ take_whole bytes long)
