-- The arrays that hold the parts of a bundle that opened.
use Prim.Native.Nat.{ℕ, ◌-◌, ◌≤◌}
use mathlib.Core.Path.{◌≡◌, sym, ◌∙◌, ap}
use mathlib.Core.List.{List, [], ◌++◌, append-nil}
use native.Mathlib.Omega.{arith}
use lib.ListN.{length, take, drop, replicate, drop_of_length-le, length-take, length-append, length-replicate}
use lib.Seq.{take_at}
use Rattle.bundles.specs.Opening.{bundle_in, opened}
use Rattle.bundles.specs.declared.Header.{Header}
use Rattle.std.specs.Prelude.{Some}
use Rattle.bundles.proofs.BundleLaws.{fields, lengths}
use Rattle.stores.specs.Cells.{unset}
use Rattle.calls.specs.Compile.{CompileOutcome, compile}
use Rattle.calls.specs.Run.{Lent, RunOutcome, run}
use Rattle.calls.specs.Valid.{LentWithin}
use Rattle.calls.proofs.RunLaws.{run_within}
use Rattle.terms.specs.Rules.{used_rows}
use Rattle.numbers.specs.Limits.{variables, message_cells, scratch_cells, most_code_words, most_term_rows}
use Rattle.looking.specs.Found.{used_with}
use Rattle.running.proofs.EndLaws.{used_counted}
use Rattle.bundles.proofs.OpeningLaws.{opened_is}
use Rattle.bundles.specs.Given.{lent_to, compile_of}

-- a part that fills its array
pub whole : {array part : List ℕ} → array ≡ part ++ [] → array ≡ part
whole is = rw append-nil at is

module _ (bytes : List ℕ) {header : Header} (opens : opened bytes ≡ Some header) where
  pub pattern_front : {rows : List ℕ} (rest : List ℕ) → rows ≡ (bundle_in bytes).pattern ++ rest → take header.pattern_rows rows ≡ (bundle_in bytes).pattern
  pattern_front rest is = rw is (take_at (bundle_in bytes).pattern rest header.pattern_rows (lengths bytes header opens).pattern)

  pub certificates_front : {pairs : List ℕ} (rest : List ℕ) → pairs ≡ (bundle_in bytes).certificates ++ rest
      → take header.certificates pairs ≡ (bundle_in bytes).certificates
  certificates_front rest is = rw is (take_at (bundle_in bytes).certificates rest header.certificates (lengths bytes header opens).certificates)

  -- zero rows after the bundle's
  pub terms_lent : (room : List ℕ) {rows : List ℕ} → length room ≡ most_term_rows → rows ≡ (bundle_in bytes).terms ++ replicate (length room - header.term_rows) 0
      → rows ≡ (lent_to (bundle_in bytes)).terms
  terms_lent room long is = rw ((lengths bytes header opens).terms, ← long) is

  -- cells fill their slice, and scratch starts unset
  pub objects_lent : (room : List ℕ) {cells : List ℕ} → length room ≡ variables → cells ≡ (bundle_in bytes).objects ++ drop 64 room → cells ≡ (lent_to (bundle_in bytes)).objects
  objects_lent room long is = whole (is ∙ ap (λ rest. (bundle_in bytes).objects ++ rest) (drop_of_length-le room {i = 64} (omega (arith, long))))

  pub messages_lent : (room : List ℕ) {cells : List ℕ} → length room ≡ message_cells → cells ≡ (bundle_in bytes).named ++ replicate (length room - 64) unset
      → cells ≡ (lent_to (bundle_in bytes)).messages
  messages_lent room long is = rw long at is

  pub named_front : {cells : List ℕ} → cells ≡ (lent_to (bundle_in bytes)).messages → take 64 cells ≡ (bundle_in bytes).named
  named_front is = rw is (take_at (bundle_in bytes).named (replicate 192 unset) 64 (lengths bytes header opens).named)

  -- what compile is given is what the bundle holds
  pub compile_given : (code : List ℕ) {pattern kinds objects messages : List ℕ} {outcome : CompileOutcome} → pattern ≡ (bundle_in bytes).pattern
      → kinds ≡ (lent_to (bundle_in bytes)).kinds → objects ≡ (lent_to (bundle_in bytes)).objects → messages ≡ (lent_to (bundle_in bytes)).messages
      → outcome ≡ compile header.create pattern kinds objects (take 64 messages) code
      → outcome ≡ compile_of (bundle_in bytes) code
  compile_given code pattern-is kinds-are objects-are messages-are compiles =
      compiles ∙ rw (pattern-is, kinds-are, objects-are, named_front messages-are, ← (fields bytes header opens).create)

  -- what run is lent is what the bundle holds
  pub run_lent : (code : List ℕ) {kinds objects messages certificates terms : List ℕ} {outcome : RunOutcome} → kinds ≡ (lent_to (bundle_in bytes)).kinds
      → objects ≡ (lent_to (bundle_in bytes)).objects → messages ≡ (lent_to (bundle_in bytes)).messages → certificates ≡ (bundle_in bytes).certificates
      → terms ≡ (lent_to (bundle_in bytes)).terms
      → outcome
      ≡ run (record { kinds = kinds; objects = objects; messages = messages; certificates = certificates; accumulator = header.accumulator; terms = terms; counter = header.counter }) code
      → outcome ≡ run (lent_to (bundle_in bytes)) code
  run_lent code kinds-are objects-are messages-are certificates-are terms-are ran =
      let f = fields bytes header opens in
      ran ∙ rw (kinds-are, objects-are, messages-are, certificates-are, terms-are, ← f.accumulator, ← f.counter)

-- what is lent to a bundle's run is within the limits, so that its used rows come back
module _ (bytes : List ℕ) {header : Header} (opens : opened bytes ≡ Some header) (code : List ℕ) (few : length code ≤ most_code_words) where
  abbrev x : Lent
  x = lent_to (bundle_in bytes)

  within : LentWithin x
  within =
      let l = lengths bytes header opens in
      let f = fields bytes header opens in
      let o = opened_is bytes header opens in
      record {
        kinds = l.kinds;
        objects = l.objects;
        messages = length-append (bundle_in bytes).named (replicate scratch_cells unset) ∙ omega (arith, l.named, length-replicate scratch_cells unset);
        certificates = omega (arith, l.certificates, f.limits.2);
        terms = rw length-append (omega (arith, l.terms, f.limits.1, length-replicate {A = ℕ} (most_term_rows - length (bundle_in bytes).terms) 0));
        counter = rw (f.counter, o.is) o.within.header.counter;
      }

  pub ran_counted : {outcome : RunOutcome} {used : ℕ} → outcome ≡ run x code → used ≡ used_with outcome.answer outcome.terms → used ≡ used_rows outcome.terms
  ran_counted e used =
      used_counted x code ((run_within x code).1 (within, few)) (used ∙ ap (λ o. used_with o.answer o.terms) e) ∙ sym (ap (λ o. used_rows o.terms) e)

-- a front that is a part lies within its array
module _ (count : ℕ) (array : List ℕ) {part : List ℕ} (is : take count array ≡ part) (long : length part ≡ count) where
  pub front_length : count ≡ length (take count array)
  front_length = sym (ap length is ∙ long)

  pub front_inside : count ≤ length array
  front_inside = omega (arith, front_length, length-take count array)
