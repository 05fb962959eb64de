-- The entries over bytes: what they leave is what compile and run leave of the elements, spelled.
use Prim.Native.Nat.{ℕ, ◌*◌, ◌<◌, ◌≤◌, ◌%◌, ◌^◌}
use mathlib.Core.Path.{◌≡◌, sym, ◌∙◌, ap}
use mathlib.Core.Logic.{◌↔◌, ◌≢◌}
use mathlib.Core.Bool.{Bool, true, false}
use mathlib.Core.List.{List, ◌++◌}
use native.Mathlib.Decide.{dec_lt}
use native.Mathlib.Omega.{arith}
use borrow.Author.Tests.{eq-eqb}
use lib.Dec.{T, eqb}
use lib.Seq.{length-take-le}
use lib.ListN.{length, take, drop, get_or, take-append-drop, length-map, get_or-eq_default}
use lib.Seq.{take-append_seam, drop-append_seam}
use Rattle.word.proofs.All.{all_get_d}
use Rattle.word.specs.Bytes.{elements, spelled}
use Rattle.word.proofs.TestLaws.{both, equals, at_most, stable, is_true, is_false}
use Rattle.word.proofs.ByteLaws.{Below, length_spelled, spelled_append, elements_spelled, spelled_elements}
use Rattle.answers.specs.Numbers.{compiled_number, compiled_place, ran_number}
use Rattle.code.specs.GoodWords.{AllGoodWords}
use Rattle.calls.specs.Compile.{CompileOutcome, code_words, compiled_code, compile}
use Rattle.calls.specs.Run.{Lent, RunOutcome, run}
use Rattle.lending.specs.Entries.{compile_spelled, compile_refused, compile_whole, compile_entry, run_spelled, run_refused, run_whole, lent_elements, run_entry}
use Rattle.promises.specs.Answers.{RunAnswers, compile_number}
use Rattle.promises.specs.Demand3.{CodeFor, Prepared}
use Rattle.promises.specs.ForC.{Bytes, Whole, CompileWhole, CompileForC, RunWhole, RunComes, AsLent, RunForC, BytesFor, PreparedForC, ForC}
use Rattle.promises.proofs.WordLaws as Words
use Rattle.promises.proofs.NumberLaws.{compile_table, run_table}
use Rattle.promises.proofs.TableLaws.{table_written, used_words}
use Rattle.promises.proofs.Demand3.{demand_3}

module _ {A : Type 0} where
  -- what is so whether a test holds or not
  pub by_test : (b : Bool) → (T b → A) → ((T b → ⊥) → A) → A
  by_test true passes fails = passes tt
  by_test false passes fails = fails λ n. n

-- bytes are below 256 wherever they are read, and whole slices are the spelling of their elements
pub below : (bytes : List ℕ) → Bytes bytes → Below 256 bytes
below bytes all = all_get_d (λ byte. byte < 256) bytes 0 all (omega arith)

pub spells : (size : ℕ) (bytes : List ℕ) → Whole size bytes → Bytes bytes → spelled size (elements size bytes) ≡ bytes
spells size bytes fits all = spelled_elements size bytes ((equals (length bytes % size) 0).1 fits) (below bytes all)

module _ (create : ℕ) (pattern kinds objects named code : List ℕ) where
  abbrev is_whole : Bool
  is_whole = compile_whole create pattern kinds objects named code

  abbrev means : CompileOutcome
  means = compile (eqb create 1) (elements 8 pattern) kinds (elements 2 objects) (elements 2 named) (elements 4 code)

  whole_says : T is_whole ↔ CompileWhole create pattern kinds objects named code
  whole_says =
      simp (both, equals, at_most) (
        λ h. record { direction = h.0.0.0.0; pattern_bytes = h.0.0.0.1; object_bytes = h.0.0.1; named_bytes = h.0.1; code_bytes = h.1 },
        λ w. ((((w.direction, w.pattern_bytes), w.object_bytes), w.named_bytes), w.code_bytes),
      )

  entry_whole : T is_whole → compile_entry create pattern kinds objects named code ≡ compile_spelled means
  unfolding compile_entry
  entry_whole t = rw (is_true is_whole t)

  entry_refused : (T is_whole → ⊥) → compile_entry create pattern kinds objects named code ≡ compile_refused code
  unfolding compile_entry
  entry_refused n = rw (is_false is_whole n)

  comes_whole : (number place : ℕ) → T is_whole
      → (((compile_entry create pattern kinds objects named code).answer.number ≡ number) × ((compile_entry create pattern kinds objects named code).answer.place ≡ place))
      ↔ ((compiled_number means.answer ≡ number) × (compiled_place means.answer ≡ place))
  comes_whole number place t = rw (entry_whole t) (λ h. h, λ h. h)

  not_whole : (number : ℕ) → (T is_whole → ⊥) → (compile_entry create pattern kinds objects named code).answer.number ≡ number → number ≡ 1
  not_whole number n e = sym e ∙ ap (λ o. o.answer.number) (entry_refused n)

  module _ (bytes : Bytes code) where
    -- a slice of whole words is the spelling of its words, and so is each end of it
    spelled_code : T is_whole → spelled 4 (elements 4 code) ≡ code
    spelled_code t = spells 4 code (whole_says.0 t).code_bytes bytes

    rest_spelled : T is_whole → (n : ℕ) → n ≤ length (elements 4 code) → spelled 4 (drop n (elements 4 code)) ≡ drop (4 * n) code
    rest_spelled t n fits =
        let front = spelled 4 (take n (elements 4 code)) in
        let count : 4 * n ≡ length front = sym (length_spelled 4 (take n (elements 4 code)) ∙ ap (λ k. 4 * k) (length-take-le n (elements 4 code) fits)) in
        let parts : front ++ spelled 4 (drop n (elements 4 code)) ≡ code =
        sym (spelled_append 4 (take n (elements 4 code)) (drop n (elements 4 code))) ∙ ap (spelled 4) (take-append-drop n (elements 4 code)) ∙ spelled_code t in
        sym (drop-append_seam front (spelled 4 (drop n (elements 4 code)))) ∙ (λ i. drop (sym count i) (parts i))

    left_so : (compile_entry create pattern kinds objects named code).answer.number ≢ 0 → (compile_entry create pattern kinds objects named code).code ≡ code
    left_so n =
        by_test is_whole
        (λ t.
        let e = entry_whole t in
        ap (λ o. o.code) e
        ∙ ap (spelled 4) ((compile_table (eqb create 1) (elements 8 pattern) kinds (elements 2 objects) (elements 2 named) (elements 4 code)).left λ z. n (ap (λ o. o.answer.number) e ∙ z))
        ∙ spelled_code t)
        (λ r. ap (λ o. o.code) (entry_refused r))

    done_whole : (compile_entry create pattern kinds objects named code).answer.number ≡ 0 → T is_whole
    done_whole e = stable is_whole λ n. let z = not_whole 0 n e in omega arith

    written_so : (compile_entry create pattern kinds objects named code).answer.number ≡ 0
        → (compile_entry create pattern kinds objects named code).code ≡ spelled 4 (compiled_code means) ++ drop (4 * (compile_entry create pattern kinds objects named code).answer.place) code
    written_so e =
        let t = done_whole e in
        let whole-entry = entry_whole t in
        let number : compile_number means ≡ 0 = sym (ap (λ o. o.answer.number) whole-entry) ∙ e in
        let w = table_written (eqb create 1) (elements 8 pattern) kinds (elements 2 objects) (elements 2 named) (elements 4 code) number in
        let place : (compile_entry create pattern kinds objects named code).answer.place ≡ length w.lines = ap (λ o. o.answer.place) whole-entry ∙ w.count.1 in
        let few : length w.lines ≤ length (elements 4 code) =
        (((compile_table (eqb create 1) (elements 8 pattern) kinds (elements 2 objects) (elements 2 named) (elements 4 code)).done (length w.lines)).0 w.count).2 in
        ap (λ o. o.code) whole-entry ∙ ap (spelled 4) w.code ∙ spelled_append 4 (code_words w.lines) (drop (length w.lines) (elements 4 code))
        ∙ (λ i. spelled 4 (sym (used_words w) i) ++ rest_spelled t (length w.lines) few i) ∙ ap (λ n. spelled 4 (compiled_code means) ++ drop (4 * n) code) (sym place)

    pub compile_for_c : CompileForC create pattern kinds objects named code
    compile_for_c =
        let table = compile_table (eqb create 1) (elements 8 pattern) kinds (elements 2 objects) (elements 2 named) (elements 4 code) in
        record {
          limit = (
            λ a h. let t = whole_says.1 h.0 in table.limit.0 ((comes_whole 1 0 t).0 a) h.1,
            λ n.
                by_test is_whole
                (λ t. (comes_whole 1 0 t).1 (table.limit.1 λ w. n (whole_says.0 t, w)))
                (λ r. (ap (λ o. o.answer.number) (entry_refused r), ap (λ o. o.answer.place) (entry_refused r))),
          );
          numbers = λ number place other. (
            λ a. let t = stable is_whole (λ n. other (not_whole number n a.0)) in (whole_says.0 t, (comes_whole number place t).0 a),
            λ h. (comes_whole number place (whole_says.1 h.0)).1 h.1,
          );
          left = left_so;
          written = written_so;
        }

module _ (x : Lent) (code : List ℕ) where
  abbrev runs_on : RunOutcome
  runs_on = run (lent_elements x) (elements 4 code)

  run_whole_says : T (run_whole x code) ↔ RunWhole x code
  run_whole_says =
      simp (both, equals) (
        λ h. record { object_bytes = h.0.0.0.0; message_bytes = h.0.0.0.1; certificate_bytes = h.0.0.1; term_bytes = h.0.1; code_bytes = h.1 },
        λ w. ((((w.object_bytes, w.message_bytes), w.certificate_bytes), w.term_bytes), w.code_bytes),
      )

  run_whole_lem : T (run_whole x code) → run_entry x code ≡ run_spelled runs_on
  unfolding run_entry
  run_whole_lem t = rw (is_true (run_whole x code) t)

  run_refused_lem : (T (run_whole x code) → ⊥) → run_entry x code ≡ run_refused x
  unfolding run_entry
  run_refused_lem n = rw (is_false (run_whole x code) n)

  ran_whole : (number place reason : ℕ) → T (run_whole x code) → RunComes x code number place reason ↔ RunAnswers runs_on number place reason
  ran_whole number place reason t = rw (run_whole_lem t) (λ h. h, λ h. h)

  ran_not_whole : (number : ℕ) → (T (run_whole x code) → ⊥) → (run_entry x code).answer.number ≡ number → number ≡ 1
  ran_not_whole number n e = sym e ∙ ap (λ o. o.answer.number) (run_refused_lem n)

  module _ (objects : Bytes x.objects) (messages : Bytes x.messages) (terms : Bytes x.terms) where
    as_lent : (run_entry x code).answer.number ≢ 0 → AsLent x code (run_entry x code)
    as_lent n =
        by_test (run_whole x code)
        (λ t.
        let e = run_whole_lem t in
        let w = run_whole_says.0 t in
        let same = (run_table (lent_elements x) (elements 4 code)).left λ z. n (ap (λ o. o.answer.number) e ∙ z) in
        record {
          objects = ap (λ o. o.objects) e ∙ ap (λ o. spelled 2 o.objects) same ∙ spells 2 x.objects w.object_bytes objects;
          messages = ap (λ o. o.messages) e ∙ ap (λ o. spelled 2 o.messages) same ∙ spells 2 x.messages w.message_bytes messages;
          terms = ap (λ o. o.terms) e ∙ ap (λ o. spelled 8 o.terms) same ∙ spells 8 x.terms w.term_bytes terms;
          counter = ap (λ o. o.answer.counter) e ∙ ap (λ o. o.counter) same;
          accumulator = ap (λ o. o.answer.accumulator) e ∙ ap (λ o. o.accumulator) same;
        })
        (λ r.
        let e = run_refused_lem r in
        record {
          objects = ap (λ o. o.objects) e;
          messages = ap (λ o. o.messages) e;
          terms = ap (λ o. o.terms) e;
          counter = ap (λ o. o.answer.counter) e;
          accumulator = ap (λ o. o.answer.accumulator) e;
        })

    ran_done_whole : (run_entry x code).answer.number ≡ 0 → T (run_whole x code)
    ran_done_whole e = stable (run_whole x code) λ n. let z = ran_not_whole 0 n e in omega arith

    used_none : (run_entry x code).answer.number ≡ 1 → (run_entry x code).answer.used ≡ 0
    used_none one =
        by_test (run_whole x code)
        (λ t.
        let e = run_whole_lem t in
        let number : ran_number runs_on.answer ≡ 1 = sym (ap (λ o. o.answer.number) e) ∙ one in
        ap (λ o. o.answer.used) e ∙ rw (eq-eqb (ran_number runs_on.answer) 1 number))
        (λ r. ap (λ o. o.answer.used) (run_refused_lem r))

    pub run_for_c : RunForC x code
    run_for_c =
        let table = run_table (lent_elements x) (elements 4 code) in
        record {
          limit = (
            λ a h. let t = run_whole_says.1 h.0 in table.limit.0 ((ran_whole 1 0 0 t).0 a) h.1,
            λ n.
                by_test (run_whole x code)
                (λ t. (ran_whole 1 0 0 t).1 (table.limit.1 λ w. n (run_whole_says.0 t, w)))
                (λ r. let e = run_refused_lem r in (ap (λ o. o.answer.number) e, ap (λ o. o.answer.place) e, ap (λ o. o.answer.reason) e)),
          );
          numbers = λ number place reason other. (
            λ a. let t = stable (run_whole x code) (λ n. other (ran_not_whole number n a.0)) in (run_whole_says.0 t, (ran_whole number place reason t).0 a),
            λ h. (ran_whole number place reason (run_whole_says.1 h.0)).1 h.1,
          );
          left = as_lent;
          done = λ e.
              let s = run_whole_lem (ran_done_whole e) in
              record {
                objects = ap (λ o. o.objects) s;
                messages = ap (λ o. o.messages) s;
                terms = ap (λ o. o.terms) s;
                counter = ap (λ o. o.answer.counter) s;
                accumulator = ap (λ o. o.answer.accumulator) s;
              };
          used = used_none;
        }

-- good words have 32 bits
pub words_below : {kind : ℕ → ℕ} (all : List ℕ) → AllGoodWords kind all → Below (256 ^ 4) all
words_below {kind} all good i = go (dec_lt i (length all))
  where
    go : Dec (i < length all) → get_or all i 0 < 256 ^ 4
    go (yes inside) = (((Words.words).good kind (get_or all i 0)).0 (good i inside)).bits
    go (no outside) = rw (get_or-eq_default all 0 {n = i} (omega arith)) (omega arith)

-- the words of the bytes in front are the words that compile wrote
module _ {create : ℕ} {pattern : List ℕ} {x : Lent} {code : List ℕ} (c : BytesFor create pattern x code) where
  code_for : CodeFor (eqb create 1) (elements 8 pattern) (lent_elements x) (elements 4 code)
  code_for =
      let called = compile_entry create pattern x.kinds c.objects c.named c.slice in
      let t = done_whole create pattern x.kinds c.objects c.named c.slice c.bytes c.done in
      let e = entry_whole create pattern x.kinds c.objects c.named c.slice t in
      let outcome = compile (eqb create 1) (elements 8 pattern) x.kinds (elements 2 c.objects) (elements 2 c.named) (elements 4 c.slice) in
      let number : compile_number outcome ≡ 0 = sym (ap (λ o. o.answer.number) e) ∙ c.done in
      let w = table_written (eqb create 1) (elements 8 pattern) x.kinds (elements 2 c.objects) (elements 2 c.named) (elements 4 c.slice) number in
      let place : called.answer.place ≡ length (code_words w.lines) = ap (λ o. o.answer.place) e ∙ w.count.1 ∙ sym (length-map w.lines _) in
      let front = spelled 4 (compiled_code outcome) in
      let count : 4 * called.answer.place ≡ length front =
      ap (λ n. 4 * n) (place ∙ ap length (sym (used_words w))) ∙ sym (length_spelled 4 (compiled_code outcome)) in
      let bytes : code ≡ front =
      sym c.part ∙ (λ i. take (count i) (written_so create pattern x.kinds c.objects c.named c.slice c.bytes c.done i))
      ∙ take-append_seam front (drop (4 * called.answer.place) c.slice) in
      record {
        objects = elements 2 c.objects;
        named = elements 2 c.named;
        slice = elements 4 c.slice;
        done = number;
        part = sym (ap (elements 4) bytes ∙ elements_spelled 4 (compiled_code outcome) (omega arith) (rw (used_words w) (words_below (code_words w.lines) w.good)));
        same_objects = c.same_objects;
        same_named = c.same_named;
      }

module _ {create : ℕ} {pattern : List ℕ} {x : Lent} {code : List ℕ} where
  prepared : PreparedForC create pattern x code → Prepared (eqb create 1) (elements 8 pattern) (lent_elements x) (elements 4 code)
  prepared p = record { compiled = code_for p.compiled; valid = p.valid; room = p.room }

pub for_c : ForC
for_c = record {
  compiles = compile_for_c;
  runs = run_for_c;
  matching = λ p held. demand_3.matching (prepared p) held;
  creating = λ p. demand_3.creating (prepared p);
}
