-- A role's words are counted half after half.
use mathlib.Core.Path.{◌≡◌, refl, sym, ◌∙◌, ap}
use mathlib.Core.Bool.{Bool, false, not}
use mathlib.Core.List.{List, [], ◌∷◌, ◌++◌}
use Prim.Native.Nat.{ℕ, ◌+◌, ◌-◌, ◌*◌, ◌/◌, ◌%◌, ◌<◌, ◌≤◌}
use native.Mathlib.Nat.{add-zero, zero-add, add_assoc}
use native.Mathlib.Numerals.{add-one}
use native.Mathlib.Omega.{arith}
use lib.ListN.{length, get_or, take, drop, length-append}
use Rattle.answers.specs.Numbers.{compiled_number, compiled_place}
use Rattle.answers.specs.declared.Compiled.{Compiled}
use Rattle.answers.specs.declared.Compiled.TheVariants.{Done}
use Rattle.theory.specs.Machine.{Line}
use Rattle.theory.specs.Emission.{Env, Emitted, ok, refuse}
use Rattle.calls.specs.Compile.{code_words}
use Rattle.calls.specs.Half.{half}
use Rattle.std.specs.List as Lists
use Rattle.calls.specs.Role.{in_turn, sum}
use Rattle.calls.proofs.CompileLaws.{NotDone}
use Rattle.calls.proofs.HalfLaws.{half_refuses, half_words}
use Rattle.compiler.specs.CompileKnown.{KnownOutcome, from_known, known_finished, compile_known}
use Rattle.compiler.proofs.OverCells.{not_done}
use Rattle.role_counting.specs.Counted.{HalfCounted, half_counted, counted_by}
use Rattle.calls.proofs.RoleLaws.{turn_append, turn_one, rounds_words, whole, Reached, reached_none, reached_refused, reached_more, reached_all}

-- the sum as the library has it
folded : (so_far : ℕ) (counts : List ℕ) → Lists.fold ◌+◌ so_far counts ≡ so_far + sum counts
unfolding sum
folded so_far [] = sym (add-zero so_far)
folded so_far (count ∷ counts) = folded (so_far + count) counts ∙ add_assoc so_far count (sum counts)

pub same_sum : (counts : List ℕ) → Lists.sum counts ≡ sum counts
same_sum counts = folded 0 counts ∙ zero-add (sum counts)

-- a half without its words
pub known_half : (create : Bool) (pattern kinds : List ℕ) (objects named : ℕ → Bool) (blank : List ℕ)
    → compile_known create pattern kinds objects named blank ≡ known_finished objects named (half create pattern kinds (from_known objects named)) blank
unfolding compile_known
known_half create pattern kinds objects named blank = refl

module _ (objects named : ℕ → Bool) {o n : ℕ → Bool} {answer : Compiled} {buffer : List ℕ} (blank : List ℕ) where
  counted : (E : Emitted) → record { answer = answer; words = buffer; objects = o; named = n } ≡ known_finished objects named E blank
      → record { answer = answer; objects = o; named = n } ≡ half_counted (from_known objects named) E
  counted (ok lines e') e = ap (λ (x : KnownOutcome). record { answer = x.answer; objects = x.objects; named = x.named }) e
  counted (refuse refusal) e = ap (λ (x : KnownOutcome). record { answer = x.answer; objects = x.objects; named = x.named }) e

pub half_counted_lem : (create : Bool) (pattern kinds : List ℕ) (objects named : ℕ → Bool) (blank : List ℕ) {o n : ℕ → Bool} {answer : Compiled} {buffer : List ℕ}
    → record { answer = answer; words = buffer; objects = o; named = n } ≡ compile_known create pattern kinds objects named blank
    → record { answer = answer; objects = o; named = n } ≡ half_counted (from_known objects named) (half create pattern kinds (from_known objects named))
half_counted_lem create pattern kinds objects named blank e =
    counted objects named blank (half create pattern kinds (from_known objects named)) (e ∙ known_half create pattern kinds objects named blank)

-- a part of the rows
pub part_of : (row count : ℕ) (rows : List ℕ) → take (row + count - row) (drop row rows) ≡ take count (drop row rows)
part_of row count rows = let same : row + count - row ≡ count = omega arith in rw same

-- the halves so far, with one word of a round's frame for each
pub record Counting (kinds counts rows : List ℕ) (start : Env) (half row : ℕ) (create : Bool) (e : Env) (words : ℕ) : Type 0 where
  pub done : List (List ℕ)
  pub reached : Reached kinds counts rows start done half row create e
  pub tally : words ≡ length (in_turn done) + half

module _ (kinds counts rows : List ℕ) (start : Env) where
  pub counting_none : sum counts ≡ length rows → start.next ≡ 0 → Counting kinds counts rows start 0 0 false start 0
  unfolding in_turn
  counting_none all fresh = record { done = []; reached = reached_none kinds counts rows start all fresh; tally = refl }

  module _ {n row : ℕ} {create : Bool} {e : Env} {words : ℕ} (c : Counting kinds counts rows start n row create e words) where
    pub counting_small : words ≤ 768 * n
    counting_small = omega (arith, c.tally, c.reached.few)

    pub counting_all : length counts ≤ n → n ≤ length counts → length counts % 2 ≡ 0 → record { answer = Done words; half = 0 } ≡ counted_by (whole kinds counts rows start)
    counting_all past within even =
        let count : length c.done ≡ n = c.reached.count in
        let same : words ≡ _ = c.tally ∙ ap (λ (m : ℕ). length (in_turn c.done) + m) (sym count) ∙ sym (rounds_words (length counts / 2) c.done (omega (arith, count))) in
        rw (reached_all kinds counts rows start c.reached past, same)

    module _ (inside : n < length counts) where
      abbrev count : ℕ
      count = get_or counts n 0

      abbrev pattern : List ℕ
      pattern = take count (drop row rows)

      -- a half that is done
      record HalfAhead (answer : Compiled) (o r : ℕ → Bool) : Type 0 where
        lines : List Line
        env : Env
        emits : half create pattern kinds e ≡ ok lines env
        place : compiled_place answer ≡ length (code_words lines)
        objects : o ≡ env.objects
        raws : r ≡ env.raws

      counting_next : (lines : List Line) (env : Env) → half create pattern kinds e ≡ ok lines env → {place : ℕ} {o r : ℕ → Bool} → place ≡ length (code_words lines) → o ≡ env.objects
          → r ≡ env.raws → Counting kinds counts rows start (n + 1) (row + count) (not create) (from_known o r) (words + 1 + place)
      counting_next lines env q same objects raws = record {
        done = c.done ++ code_words lines ∷ [];
        reached = rw (add-one n, objects, raws) (reached_more kinds counts rows start c.reached inside lines env q);
        tally =
            rw (turn_append c.done (code_words lines ∷ []), turn_one (code_words lines), length-append (in_turn c.done) (code_words lines), same)
            (omega (arith, c.tally));
      }

      module _ {answer : Compiled} {o r : ℕ → Bool} (h : record { answer = answer; objects = o; named = r } ≡ half_counted e (half create pattern kinds e)) where
        abbrev Result : Emitted → Type 0
        Result E = record { answer = answer; objects = o; named = r } ≡ half_counted e E

        ahead : compiled_number answer ≡ 0 → HalfAhead answer o r
        ahead zero = by (half create pattern kinds e) refl h
          where
            by : (E : Emitted) → half create pattern kinds e ≡ E → Result E → HalfAhead answer o r
            by (ok lines env) q g = record {
              lines = lines;
              env = env;
              emits = q;
              place = ap (λ (x : HalfCounted). compiled_place x.answer) g;
              objects = ap (λ (x : HalfCounted). x.objects) g;
              raws = ap (λ (x : HalfCounted). x.named) g;
            }
            by (refuse refusal) q g =
                absurd (not_done refusal (half_refuses create pattern kinds e c.reached.fresh refusal q) (sym (ap (λ (x : HalfCounted). compiled_number x.answer) g) ∙ zero))

        pub counting_few : compiled_number answer ≡ 0 → compiled_place answer ≤ 767
        counting_few zero =
            let a = ahead zero in
            omega (arith, a.place, half_words create pattern kinds e c.reached.fresh a.lines a.env a.emits)

        pub counting_more : compiled_number answer ≡ 0
            → Counting kinds counts rows start (n + 1) (row + count) (not create) (from_known o r) (words + 1 + compiled_place answer)
        counting_more zero = let a = ahead zero in counting_next a.lines a.env a.emits a.place a.objects a.raws

        pub counting_refused : (compiled_number answer ≡ 0 → ⊥) → record { answer = answer; half = n } ≡ counted_by (whole kinds counts rows start)
        counting_refused other = by (half create pattern kinds e) refl h
          where
            by : (E : Emitted) → half create pattern kinds e ≡ E → Result E → record { answer = answer; half = n } ≡ counted_by (whole kinds counts rows start)
            by (ok lines env) q g = absurd (other (ap (λ (x : HalfCounted). compiled_number x.answer) g))
            by (refuse refusal) q g = rw (reached_refused kinds counts rows start c.reached inside refusal q, ap (λ (x : HalfCounted). x.answer) g)

        -- a half that is done with so many words
        module _ {more : ℕ} (is : answer ≡ Done more) where
          done_zero : compiled_number answer ≡ 0
          done_zero = rw is

          pub done_few : more ≤ 767
          done_few = let few : compiled_place answer ≤ 767 = counting_few done_zero in rw is at few

          pub done_more : Counting kinds counts rows start (n + 1) (row + count) (not create) (from_known o r) (words + 1 + more)
          done_more =
              let next : Counting kinds counts rows start (n + 1) (row + count) (not create) (from_known o r) (words + 1 + compiled_place answer) = counting_more done_zero in
              rw is at next

        pub refused_half : NotDone answer → record { answer = answer; half = n } ≡ counted_by (whole kinds counts rows start)
        refused_half other = counting_refused (not_done answer other)
