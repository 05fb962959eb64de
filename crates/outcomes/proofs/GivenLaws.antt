-- What a bundle gives, one way out after another.
use Prim.Native.Nat.{ℕ, ◌≤◌}
use mathlib.Core.Path.{◌≡◌, refl, sym, ◌∙◌, ap}
use mathlib.Core.Bool.{Bool, true, false, not, cond}
use Rattle.std.specs.Prelude.{Option, None, Some, Ok, Err}
use mathlib.Core.List.{List, ◌++◌}
use native.Mathlib.Omega.{arith}
use borrow.Author.Tests.{not-true, not-false, eq-eqb, ne_eqb}
use lib.Dec.{leb}
use lib.ListN.{length, take, drop, length-take, replicate, take-append-drop, length-replicate}
use lib.Seq.{length-take-le, drop_at}
use Rattle.answers.specs.First.{first}
use Rattle.answers.specs.Numbers.{compiled_number, compiled_place}
use Rattle.answers.specs.declared.Compiled.{Compiled}
use Rattle.answers.specs.declared.Compiled.TheVariants.{Done, Limit, BadStore, BadPattern, WrongKind, WrittenWhileSet, ReadWhileUnset, CodeTooShort}
use Rattle.terms.specs.Rules.{used_rows}
use Rattle.numbers.specs.Limits.{most_code_words}
use Rattle.bundles.specs.Opening.{header_in, bundle_in, opened_by, opened}
use Rattle.bundles.specs.declared.Header.{Header}
use Rattle.bundles.proofs.OpeningLaws.{opened_is}
use Rattle.bundles.proofs.BundleLaws.{lengths}
use Rattle.bundles.specs.Bundle.{Bundle, read_bundle, clear_of}
use Rattle.bundles.specs.Given.{Given, ran, lent_to, compile_of, compiled_from, given_compiled, given_read, given_by}
use Rattle.theory.specs.Emission.{Emitted, ok, refuse}
use Rattle.calls.specs.Compile.{CompileOutcome, code_words, used_part, leaves, finished, refusals, emitted, compile_by, compile}
use Rattle.calls.specs.Run.{RunOutcome, run}
use Rattle.calls.proofs.CompileLaws.{part_fits}
use Rattle.calls.proofs.Product.{compile_writes}
use Rattle.running.specs.declared.Ended.{Ended}
use Rattle.outcomes.specs.Held.{Held, ended_by, held_by}

pub refused_none : (bytes : List ℕ) → opened bytes ≡ None → read_bundle bytes ≡ None
unfolding opened
refused_none bytes refuses = go (read_bundle bytes) refuses
  where
    go : (b : Option Bundle) → opened_by b (header_in bytes) ≡ None → b ≡ None
    go None e = refl
    go (Some b) e = absurd (let z : ◌≡◌ {A = ℕ} 0 1 = cc in omega arith)

-- compile leaves words past the written ones, and all of them where it refuses
pub record Leaves (code : List ℕ) (o : CompileOutcome) : Type 0 where
  pub past : drop (compiled_place o.answer) o.code ≡ drop (compiled_place o.answer) code
  pub refuses : (compiled_number o.answer ≡ 0 → ⊥) → o.code ≡ code

finished_leaves : (E : Emitted) (code : List ℕ) → Leaves code (finished E code)
finished_leaves (refuse answer) code = record { past = refl; refuses = λ _. refl }
finished_leaves (ok lines e) code = go (leb (length words) (length code))
  where
    words : List ℕ
    words = code_words lines

    go : (b : Bool) → Leaves code (cond b (leaves (Done (length words)) (words ++ drop (length words) code)) (leaves (CodeTooShort (length words)) code))
    go true = record { past = drop_at words (drop (length words) code) (length words) refl; refuses = λ n. absurd (n refl) }
    go false = record { past = refl; refuses = λ _. refl }

pub compile_leaves : (create : Bool) (pattern kinds objects named code : List ℕ) → Leaves code (compile create pattern kinds objects named code)
unfolding compile
compile_leaves create pattern kinds objects named code = by (first (refusals create pattern kinds objects named))
  where
    by : (o : Option Compiled) → Leaves code (compile_by create pattern kinds objects named o code)
    by (Some answer) = record { past = refl; refuses = λ _. refl }
    by None = finished_leaves (emitted create pattern kinds objects named) code

-- how a run ended, with its cells and rows
pub ended_is : {ended : Ended} {o : RunOutcome} {objects messages rows : List ℕ}
    → record { answer = ended.answer; objects = objects; messages = messages; accumulator = ended.accumulator; terms = rows; counter = ended.counter } ≡ o
    → ended.used ≡ used_rows rows → ended ≡ ended_by o
ended_is {ended} is counted =
    (λ i. record { answer = ended.answer; used = counted i; accumulator = ended.accumulator; counter = ended.counter }) ∙ ap ended_by is

-- only the first answer has number 0
not_zero : (answer : Compiled) → ((words : ℕ) → answer ≡ Done words → ⊥) → compiled_number answer ≡ 0 → ⊥
not_zero (Done words) other e = other words refl
not_zero Limit other e = omega arith
not_zero BadStore other e = omega arith
not_zero (BadPattern row) other e = omega arith
not_zero (WrongKind row) other e = omega arith
not_zero (WrittenWhileSet row) other e = omega arith
not_zero (ReadWhileUnset row) other e = omega arith
not_zero (CodeTooShort words) other e = omega arith

-- compile refuses, or its words run
module _ (b : Bundle) {room code : List ℕ} {answer : Compiled} (zeros : room ≡ replicate most_code_words 0)
    (is : record { answer = answer; code = code } ≡ compile_of b room) (objects messages rows : List ℕ) where
  compiled : record { answer = answer; code = code } ≡ compiled_from b
  compiled = rw zeros at is

  left : Leaves room (record { answer = answer; code = code })
  left = rw is (compile_leaves b.create b.pattern b.kinds b.objects b.named room)

  pub compile_refuses : {number place : ℕ} → number ≡ compiled_number answer → place ≡ compiled_place answer → ((words : ℕ) → answer ≡ Done words → ⊥)
      → record { gave = Err (record { number = number; place = place }); code = code; objects = objects; messages = messages; rows = rows }
      ≡ held_by (given_compiled b (compiled_from b)) room objects messages rows
  compile_refuses {number} {place} number_is place_is other =
      let n : compiled_number answer ≡ 0 → ⊥ = not_zero answer other in
      let all : ◌≡◌ {A = Held} (record { gave = Err (record { number = number; place = place }); code = code; objects = objects; messages = messages; rows = rows })
      (held_by (given_compiled b (record { answer = answer; code = code })) room objects messages rows) =
      rw (ne_eqb (compiled_number answer) 0 n, given_compiled, held_by, number_is, place_is, left.refuses n) in
      all ∙ ap (λ c. held_by (given_compiled b c) room objects messages rows) compiled

  pub compile_runs : {place : ℕ} {ended : Ended} {after-objects after-messages after-rows : List ℕ} → answer ≡ Done place → place ≤ length code
      → record { answer = ended.answer; objects = after-objects; messages = after-messages; accumulator = ended.accumulator; terms = after-rows; counter = ended.counter }
      ≡ run (lent_to b) (take place code)
      → ended.used ≡ used_rows after-rows
      → record { gave = Ok (place, ended); code = code; objects = after-objects; messages = after-messages; rows = after-rows }
      ≡ held_by (given_compiled b (compiled_from b)) room objects messages rows
  compile_runs {place} {ended} {after-objects} {after-messages} {after-rows} done fits ends counted =
      let place_is : place ≡ compiled_place answer = sym (ap compiled_place done) in
      let o = run (lent_to b) (take place code) in
      let whole : code ≡ take place code ++ drop place room =
      sym (take-append-drop place code) ∙ ap (λ rest. take place code ++ rest) (rw (← place_is) at left.past) in
      let words : place ≡ length (take place code) = sym (length-take-le place code fits) in
      let all : ◌≡◌ {A = Held} (record { gave = Ok (place, ended); code = code; objects = after-objects; messages = after-messages; rows = after-rows })
      (record {
        gave = Ok (length (take place code), ended_by o);
        code = take place code ++ drop (length (take place code)) room;
        objects =
            o.objects;
        messages = o.messages;
        rows = o.terms;
      }) =
      λ i. record {
        gave = Ok (words i, ended_is ends counted i);
        code = (whole ∙ ap (λ n. take place code ++ drop n room) words) i;
        objects = (ends i).objects;
        messages = (ends i).messages;
        rows = (ends i).terms;
      } in
      let words_are : used_part (compiled_place answer) code ≡ take place code = ap (λ n. used_part n code) (sym place_is) ∙ part_fits place code fits in
      let given_is : ◌≡◌ {A = Given} (given_compiled b (record { answer = answer; code = code })) (ran (take place code) o) =
      rw (eq-eqb (compiled_number answer) 0 (ap compiled_number done), given_compiled) (ap (λ w. ran w (run (lent_to b) w)) words_are) in
      all ∙ ap (λ g. held_by g room objects messages rows) (sym given_is) ∙ ap (λ c. held_by (given_compiled b c) room objects messages rows) compiled

-- a spare certificate bit is set, or none is
module _ (bytes : List ℕ) {certificates : List ℕ} {clear : Bool} (are : certificates ≡ (bundle_in bytes).certificates) (is : clear ≡ clear_of certificates) where
  pub spare_set : (code objects messages rows : List ℕ) → not clear ≡ true
      → record { gave = Err (record { number = 3; place = 0 }); code = code; objects = objects; messages = messages; rows = rows }
      ≡ held_by (given_read (Some (bundle_in bytes))) code objects messages rows
  spare_set code objects messages rows bad =
      let set : clear_of (bundle_in bytes).certificates ≡ false = ap clear_of (sym are) ∙ sym is ∙ not-true clear bad in
      rw (set, given_read)

  pub spare_clear : {held : Held} (code objects messages rows : List ℕ) → not clear ≡ false
      → held ≡ held_by (given_compiled (bundle_in bytes) (compiled_from (bundle_in bytes))) code objects messages rows
      → held ≡ held_by (given_read (Some (bundle_in bytes))) code objects messages rows
  spare_clear code objects messages rows fine gives =
      let spares : clear_of (bundle_in bytes).certificates ≡ true = ap clear_of (sym are) ∙ sym is ∙ not-false clear fine in
      rw (spares, given_read) gives

-- no bundle, or what one gives
pub not_opened : (bytes code objects messages rows : List ℕ) → opened bytes ≡ None
    → record { gave = Err (record { number = 1; place = 0 }); code = code; objects = objects; messages = messages; rows = rows } ≡ held_by (given_by bytes) code objects messages rows
unfolding given_by
not_opened bytes code objects messages rows refuses = rw (refused_none bytes refuses)

pub is_opened : (bytes : List ℕ) (header : Header) {held : Held} (code objects messages rows : List ℕ) → opened bytes ≡ Some header
    → held ≡ held_by (given_read (Some (bundle_in bytes))) code objects messages rows → held ≡ held_by (given_by bytes) code objects messages rows
unfolding given_by
is_opened bytes header code objects messages rows opens gives = rw (opened_is bytes header opens).bundle gives

pub long_room : {room : List ℕ} → room ≡ replicate most_code_words 0 → length room ≡ most_code_words
long_room is = ap length is ∙ length-replicate {A = ℕ} most_code_words 0

-- compiled words fit the slice that is lent
module _ (bytes : List ℕ) (header : Header) (opens : opened bytes ≡ Some header) where
  abbrev b : Bundle
  b = bundle_in bytes

  pub few_words : (code : List ℕ) {words : ℕ} → (compile_of b code).answer ≡ Done words → words ≤ 767
  few_words code {words} e =
      let w = compile_writes b.create b.pattern b.kinds b.objects b.named (lengths bytes header opens).kinds code words e in
      omega (arith, w.compiles.counts, w.limits.words)

  -- in the slice that they were written to, and for run
  pub words_fit : {room after : List ℕ} {answer : Compiled} {words : ℕ} → room ≡ replicate most_code_words 0 → length after ≡ length room
      → record { answer = answer; code = after } ≡ compile_of b room → answer ≡ Done words
      → (words ≤ length after) × (length (take words after) ≤ most_code_words)
  words_fit {room} {after} {answer} {words} zeros long is done =
      let few : words ≤ 767 = few_words room (sym (ap (λ o. o.answer) is) ∙ done) in
      (omega (arith, few, long, long_room zeros), omega (arith, few, length-take words after))

  pub few_place : (code : List ℕ) → compiled_number (compile_of b code).answer ≡ 0 → compiled_place (compile_of b code).answer ≤ 767
  few_place code done = go (compile_of b code).answer refl done
    where
      go : (answer : Compiled) → (compile_of b code).answer ≡ answer → compiled_number answer ≡ 0 → compiled_place answer ≤ 767
      go (Done words) e d = few_words code e
      go Limit e d = omega arith
      go BadStore e d = omega arith
      go (BadPattern row) e d = absurd (omega arith)
      go (WrongKind row) e d = absurd (omega arith)
      go (WrittenWhileSet row) e d = absurd (omega arith)
      go (ReadWhileUnset row) e d = absurd (omega arith)
      go (CodeTooShort words) e d = absurd (omega arith)
