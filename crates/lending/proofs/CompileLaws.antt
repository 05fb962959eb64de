-- Compile over lent bytes: what fits or is refused, and words that come to the code's bytes.
use Prim.Native.Nat.{ℕ, ◌*◌, ◌/◌, ◌%◌, ◌<◌, ◌≤◌}
use mathlib.Core.Path.{◌≡◌, refl, sym, ◌∙◌, ap}
use mathlib.Core.Bool.{Bool, true, false, ◌&&◌}
use mathlib.Core.List.{List, ◌++◌}
use native.Mathlib.Omega.{arith}
use lib.Dec.{T, eqb, leb}
use lib.ListN.{length, get_or, take, drop}
use Rattle.word.specs.Bytes.{elements, spelled}
use Rattle.word.proofs.ByteLaws.{Below, length_words, spelled_append, spelled_elements}
use Rattle.word.proofs.TestLaws.{both, equals, at_most, is_false}
use Rattle.answers.specs.Numbers.{compiled_number, compiled_place}
use Rattle.answers.specs.declared.Compiled.{Compiled}
use Rattle.answers.specs.declared.Compiled.TheVariants.{Done, Limit, CodeTooShort}
use Rattle.numbers.specs.Limits.{variables, named_cells, most_pattern_rows, most_code_words}
use Rattle.calls.specs.Compile.{CompileOutcome, leaves, written, lengths_fit, compile}
use Rattle.answers.specs.First.{first}
use Rattle.delivery.proofs.DeliveryLaws.{too_short, all_fit}
use Rattle.knowing.specs.Known.{known}
use Rattle.stores.specs.Cells.{is_set, unset}
use Rattle.compiler.specs.CompileKnown.{compile_known}
use Rattle.compiler.proofs.OverCells.{Compiles, known_compiles, not_done}
use Rattle.looking.proofs.LookLaws.{true_holds}
use Rattle.lending.specs.Entries.{CompileLeft, compiled_numbers, compile_spelled, compile_refused, compile_whole, compile_entry}
use Rattle.lending.proofs.ChoiceLaws.{where_true, either_way}
use Rattle.lending.proofs.SplitLaws.{spelled_rest}

-- words that come to bytes
module _ (words code : List ℕ) (exact : length code % 4 ≡ 0) (below : Below 256 code) where
  abbrev all : List ℕ
  all = elements 4 code

  count : length all ≡ length code / 4
  count = length_words 4 (length code / 4) code

  same : spelled 4 all ≡ code
  same = spelled_elements 4 code ((equals (length code % 4) 0).1 exact) below

  pub bytes_short : length code / 4 < length words → record { answer = compiled_numbers (CodeTooShort (length words)); code = code } ≡ compile_spelled (written words all)
  bytes_short less = rw same at (ap compile_spelled (too_short words all (rw count less)))

  rest : length words ≤ length code / 4 → spelled 4 (drop (length words) all) ≡ drop (4 * length words) code
  rest most = spelled_rest 4 code ((equals (length code % 4) 0).1 exact) below (length words) (rw count most)

  pub bytes_fit_lem : {after : List ℕ} → length words ≤ length code / 4 → after ≡ spelled 4 words ++ drop (4 * length words) code
      → record { answer = compiled_numbers (Done (length words)); code = after } ≡ compile_spelled (written words all)
  bytes_fit_lem most e =
      rw (e, ← rest most, ← spelled_append 4 words (drop (length words) all)) (ap compile_spelled (all_fit words all (rw count most) refl))

module _ (create : ℕ) (pattern kinds objects named code : List ℕ) where
  abbrev pub bytes_fit : Bool
  bytes_fit =
      leb create 1 && eqb (length pattern % 8) 0 && leb (length pattern) (8 * most_pattern_rows) && eqb (length objects) (2 * variables)
      && eqb (length named) (2 * named_cells)
      && eqb (length code % 4) 0

  abbrev is_whole : Bool
  is_whole = compile_whole create pattern kinds objects named code

  abbrev outcome : CompileOutcome
  outcome = compile (eqb create 1) (elements 8 pattern) kinds (elements 2 objects) (elements 2 named) (elements 4 code)

  -- a direction, and whole elements, for which there is room
  pub record Fitting : Type 0 where
    pub all_whole : T is_whole
    pub few_rows : length pattern / 8 ≤ most_pattern_rows
    pub object_bytes : length objects ≡ 2 * variables
    pub named_bytes : length named ≡ 2 * named_cells
    pub code_bytes : length code % 4 ≡ 0

  pub fitting : bytes_fit ≡ true → Fitting
  fitting e =
      let t = simp (both, equals, at_most) at (true_holds e) in
      record {
        all_whole = simp (both, equals, at_most) ((((t.0.0.0.0.0, t.0.0.0.0.1), omega (arith, t.0.0.1)), omega (arith, t.0.1)), t.1);
        few_rows = omega (arith, t.0.0.0.1);
        object_bytes = t.0.0.1;
        named_bytes = t.0.1;
        code_bytes = t.1;
      }

  pub object_count : Fitting → length (elements 2 objects) ≡ 64
  object_count f = length_words 2 (length objects / 2) objects ∙ omega (arith, f.object_bytes)

  pub named_count : Fitting → length (elements 2 named) ≡ 64
  named_count f = length_words 2 (length named / 2) named ∙ omega (arith, f.named_bytes)

  -- elements within the limits are bytes that fit
  refits : T is_whole → T (lengths_fit (eqb create 1) (elements 8 pattern) kinds (elements 2 objects) (elements 2 named)) → T bytes_fit
  refits =
      simp (both, equals, at_most, length_words) λ w l.
      (((((w.0.0.0.0, w.0.0.0.1), omega (arith, w.0.0.0.1, l.0.0.0.1)), omega (arith, w.0.0.1, l.0.1)), omega (arith, w.0.1, l.1)), w.1)

  refused_by_compile : bytes_fit ≡ false → T is_whole → outcome ≡ leaves Limit (elements 4 code)
  unfolding compile first
  refused_by_compile e w = rw (is_false (lengths_fit (eqb create 1) (elements 8 pattern) kinds (elements 2 objects) (elements 2 named)) λ t. rw e at (refits w t))

  -- 1, of whole elements or not
  pub compile_limit : Below 256 code → bytes_fit ≡ false → compile_refused code ≡ compile_entry create pattern kinds objects named code
  unfolding compile_entry
  compile_limit below e = either_way is_whole (compile_spelled outcome) (compile_refused code) λ w.
      rw (refused_by_compile e w, spelled_elements 4 code (simp both at w).1 below)

  -- what the compiler leaves in numbers and bytes, by its answer's number
  module _ {answer : Compiled} {buffer : List ℕ} (f : Fitting) (compiles : Compiles (eqb create 1) (elements 8 pattern) kinds (elements 2 objects) (elements 2 named) answer buffer) where
    fits : compile_spelled outcome ≡ compile_entry create pattern kinds objects named code
    unfolding compile_entry
    fits = where_true is_whole (compile_spelled outcome) (compile_refused code) f.all_whole

    pub entry_refused : Below 256 code → (compiled_number answer ≡ 0 → ⊥)
        → record { answer = compiled_numbers answer; code = code } ≡ compile_entry create pattern kinds objects named code
    entry_refused below other =
        rw (spelled_elements 4 code ((equals (length code % 4) 0).1 f.code_bytes) below) at (ap compile_spelled (compiles.refused (elements 4 code) other)) ∙ fits

    pub entry_done : {left : CompileLeft} → compiled_number answer ≡ 0 → left ≡ compile_spelled (written (take (compiled_place answer) buffer) (elements 4 code))
        → left ≡ compile_entry create pattern kinds objects named code
    entry_done zero e = e ∙ ap compile_spelled (compiles.delivered (elements 4 code) zero) ∙ fits

  -- as the code has it
  module _ {fit : Bool} (said : fit ≡ bytes_fit) (holds : fit ≡ true) {rows object_cells named_cells : List ℕ}
      (r : rows ≡ elements 8 pattern) (o : object_cells ≡ elements 2 objects) (n : named_cells ≡ elements 2 named) (seen heard : ℕ)
      (sees : known seen ≡ (λ v. is_set (get_or object_cells v unset))) (hears : known heard ≡ (λ v. is_set (get_or named_cells v unset)))
      (blank : List ℕ) (long : length blank ≡ most_code_words) {answer : Compiled} {buffer : List ℕ} {set_objects set_named : ℕ → Bool}
      (left : record { answer = answer; words = buffer; objects = set_objects; named = set_named } ≡ compile_known (eqb create 1) rows kinds (known seen) (known heard) blank) where
    bytes_fitting : Fitting
    bytes_fitting = fitting (sym said ∙ holds)

    compiles : Compiles (eqb create 1) (elements 8 pattern) kinds (elements 2 objects) (elements 2 named) answer buffer
    compiles =
        known_compiles _ _ _ _ _ seen heard (object_count bytes_fitting) (named_count bytes_fitting) (rw o at sees) (rw n at hears) blank long (rw r at left)

    pub words_long : {words : ℕ} → answer ≡ Done words → words ≤ length buffer
    words_long e =
        let zero : compiled_number answer ≡ 0 = rw e in
        omega (arith, rw e at (compiles.few zero), compiles.long zero)

    pub words_few : {words : ℕ} → answer ≡ Done words → words ≤ most_code_words
    words_few e = let zero : compiled_number answer ≡ 0 = rw e in omega (arith, rw e at (compiles.few zero))

    pub bytes_refused : ((words : ℕ) → answer ≡ Done words → ⊥) → Below 256 code
        → record { answer = compiled_numbers answer; code = code } ≡ compile_entry create pattern kinds objects named code
    bytes_refused other below = entry_refused bytes_fitting compiles below (not_done answer other)

    pub bytes_done : {words : ℕ} → answer ≡ Done words → {after : CompileLeft} → after ≡ compile_spelled (written (take words buffer) (elements 4 code))
        → after ≡ compile_entry create pattern kinds objects named code
    bytes_done e same = entry_done bytes_fitting compiles (rw e) (rw e same)
