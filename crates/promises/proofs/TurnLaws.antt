-- Half after half: what is left from a half on, and how far the halves of a role come.
use Prim.Native.Nat.{ℕ, zero, suc, ◌+◌, ◌*◌, ◌%◌, ◌<◌, ◌≤◌}
use mathlib.Core.Path.{◌≡◌, refl, sym, ◌∙◌, ap}
use mathlib.Core.Logic.{◌↔◌, ◌⊎◌, inl, inr}
use mathlib.Core.Bool.{not}
use mathlib.Core.List.{List, [], ◌∷◌, ◌++◌, append-nil, append_assoc}
use native.Mathlib.Decide.{ℕ_discrete}
use native.Mathlib.Omega.{arith}
use lib.Dec.{T, eqb}
use lib.ListN.{length, get_or, take, drop, length-map, length-append}
use Rattle.word.proofs.TestLaws.{both, equals, at_most}
use Rattle.numbers.specs.Kinds.{kind_in}
use Rattle.answers.specs.declared.Compiled.{Compiled}
use Rattle.code.specs.Instruction.{word_of}
use Rattle.stores.specs.Valid.{kinds_fit, declared}
use Rattle.patterns.specs.Tree.{pattern_of}
use Rattle.theory.specs.Machine.{Line}
use Rattle.theory.specs.Emission.{Env, Emitted, ok, refuse}
use Rattle.calls.specs.Compile.{entry, code_words}
use Rattle.calls.specs.Half.{declared_known, half}
use Rattle.calls.specs.Role.{RoleLent, Halves, compiled, refused_in, after_halves, again, half_then, halves_from, rounds_of, in_turn, role_fits, halves_of}
use Rattle.calls.proofs.RoleLaws.{turn_append, turn_one, rounds_words}
use Rattle.promises.specs.Conditions.{BadVariable}
use Rattle.promises.specs.Halves.{half_rows}
use Rattle.promises.specs.Roles.{RoleWithin, rows_of_half, creates_half, HalfChecked, half_emission, Reached, start, next, HalfTurn}
use Rattle.promises.proofs.ConditionLaws.{no_bad_variable}
use Rattle.promises.proofs.DeclaredLaws.{OnlyDeclared, sets_declared, declared_known_lem, declared_cells}
use Rattle.promises.proofs.HalfTable.{HalfRefuses, HalfSays, checked_limits, half_says, says_half}

-- after a half that creates comes one that matches, and the other way round
other_half : (n : ℕ) → not (eqb (n % 2) 1) ≡ eqb (suc n % 2) 1
other_half n = go (ℕ_discrete (n % 2) 1)
  where
    go : Dec (n % 2 ≡ 1) → not (eqb (n % 2) 1) ≡ eqb (suc n % 2) 1
    go (yes odd) = let after : suc n % 2 ≡ 0 = omega (arith, odd) in rw (odd, after)
    go (no even) = let now : n % 2 ≡ 0 = omega (arith, even) in let after : suc n % 2 ≡ 1 = omega (arith, now) in rw (now, after)

-- compiled halves in front
none_before : (H : Halves) → H ≡ after_halves [] H
unfolding after_halves
none_before (compiled halves) = refl
none_before (refused_in n answer) = refl

one_more : (done : List (List ℕ)) (words : List ℕ) (H : Halves) → after_halves done (after_halves (words ∷ []) H) ≡ after_halves (done ++ (words ∷ [])) H
unfolding after_halves
one_more done words (compiled halves) = ap compiled (sym (append_assoc done (words ∷ []) halves))
one_more done words (refused_in n answer) = refl

-- their words
words_more : (done : List (List ℕ)) (words : List ℕ) → length (in_turn (done ++ (words ∷ []))) ≡ length (in_turn done) + length words
words_more done words =
    ap length (turn_append done (words ∷ []) ∙ ap (λ more. in_turn done ++ more) (turn_one words)) ∙ length-append (in_turn done) words

module _ (ends slice : List ℕ) (x : RoleLent) where
  pub role_within : T (role_fits ends slice x) ↔ RoleWithin ends x
  role_within =
      simp (both, equals, at_most) (
        λ h. record {
          even = h.0.0.0.0.0.0.0;
          rounds = (h.0.0.0.0.0.0.1, h.0.0.0.0.0.1);
          kinds = h.0.0.0.0.1;
          objects = h.0.0.0.1;
          named = h.0.0.1;
          one_end = h.0.1;
          rows = h.1;
        },
        λ w. (((((((w.even, w.rounds.0), w.rounds.1), w.kinds), w.objects), w.named), w.one_end), w.rows),
      )

  module _ (w : RoleWithin ends x) where
    no_bad : T (declared x.kinds x.objects) ↔ (BadVariable x.kinds x.objects → ⊥)
    no_bad = no_bad_variable x.kinds x.objects w.kinds w.objects

    entry_declared : T (declared x.kinds x.objects) ↔ (T (kinds_fit x.kinds) × OnlyDeclared (kind_in x.kinds) (entry x.objects x.named).objects)
    entry_declared = declared_cells x.kinds x.objects x.named w.kinds w.objects

    -- scratch starts again
    from_start : {n words : ℕ} {set : Env} → Reached x n set words → set.next ≡ 0
    from_start start = refl
    from_start (next r c e) = refl

    -- halves set declared variables alone
    still_declared : {n words : ℕ} {set : Env} → Reached x n set words → (BadVariable x.kinds x.objects → ⊥) → OnlyDeclared (kind_in x.kinds) set.objects
    still_declared start none = (entry_declared.0 (no_bad.1 none)).1
    still_declared (next {n} {words} {set} {env} {lines} r c e) none =
        sets_declared (kind_in x.kinds) (creates_half n) (pattern_of (rows_of_half x n)) set env lines e
        (checked_limits x n w.kinds set (from_start r) c lines env e).lines (still_declared r none)

    -- so a later half never gives 3
    known : {n words : ℕ} {set : Env} → Reached x n set words → T (declared_known x.kinds set.objects) ↔ (BadVariable x.kinds x.objects → ⊥)
    known {set = set} r =
        (found r, λ none. (declared_known_lem x.kinds set.objects w.kinds).1 ((entry_declared.0 (no_bad.1 none)).0, still_declared r none))
      where
        found : {n words : ℕ} {set : Env} → Reached x n set words → T (declared_known x.kinds set.objects) → BadVariable x.kinds x.objects → ⊥
        found start t = no_bad.0 (entry_declared.1 ((declared_known_lem x.kinds (entry x.objects x.named).objects w.kinds).0 t))
        found (next r c e) t = c.declared

    module _ {n words : ℕ} {set : Env} (r : Reached x n set words) where
      turn_says : HalfSays x n set (half (creates_half n) (rows_of_half x n) x.kinds set)
      turn_says = half_says x n w.kinds set (from_start r) (known r)

      says_turn : (E : Emitted) → HalfSays x n set E → half (creates_half n) (rows_of_half x n) x.kinds set ≡ E
      says_turn = says_half x n w.kinds set (from_start r) (known r)

    -- what is left from half n on, behind the words of the halves before it
    record Rest (n : ℕ) (set : Env) (words : ℕ) : Type 0 where
      counts : List ℕ
      rows : List ℕ
      done : List (List ℕ)
      left : n + length counts ≡ length x.counts
      same : (k : ℕ) → get_or (half_rows counts rows) k [] ≡ rows_of_half x (n + k)
      is : halves_of ends slice x ≡ after_halves done (halves_from n (creates_half n) x.kinds counts rows set)
      number : length done ≡ n
      count : length (in_turn done) ≡ words

    -- its first half is half n
    own_rows : (n : ℕ) {mine : List ℕ} → mine ≡ rows_of_half x (n + 0) → rows_of_half x n ≡ mine
    own_rows n same = let e : n ≡ n + 0 = omega arith in ap (rows_of_half x) e ∙ sym same

    module _ {n words : ℕ} {set : Env} (r : Reached x n set words) where
      compiled_more : {lines : List Line} {env : Env} → HalfChecked x n → half_emission x n set ≡ ok lines env → suc n ≤ length x.counts
          → Rest n set words → Rest (suc n) (again env) (words + length lines)
      unfolding halves_from half_then
      compiled_more {lines} {env} c e inside R = go R.counts R.rows R.left R.same R.is
        where
          go : (counts rows : List ℕ) → n + length counts ≡ length x.counts → ((k : ℕ) → get_or (half_rows counts rows) k [] ≡ rows_of_half x (n + k))
              → halves_of ends slice x ≡ after_halves R.done (halves_from n (creates_half n) x.kinds counts rows set)
              → Rest (suc n) (again env) (words + length lines)
          go [] rows left same is = absurd (omega (arith, left, inside))
          go (count ∷ counts) rows left same is =
              let compiles : half (creates_half n) (take count rows) x.kinds set ≡ ok lines env =
              ap (λ mine. half (creates_half n) mine x.kinds set) (sym (own_rows n (same 0))) ∙ says_turn r (ok lines env) (c, e) in
              record {
                counts = counts;
                rows = drop count rows;
                done = R.done ++ (code_words lines ∷ []);
                left = omega (arith, left);
                same = λ k. let next : n + suc k ≡ suc n + k = omega arith in same (suc k) ∙ ap (rows_of_half x) next;
                is =
                    is ∙ ap (λ E. after_halves R.done (half_then n E (λ e'. halves_from (suc n) (not (creates_half n)) x.kinds counts (drop count rows) e'))) compiles
                    ∙ ap (λ create. after_halves R.done (after_halves (code_words lines ∷ []) (halves_from (suc n) create x.kinds counts (drop count rows) (again env)))) (other_half n)
                    ∙ one_more R.done (code_words lines) (halves_from (suc n) (creates_half (suc n)) x.kinds counts (drop count rows) (again env));
                number = omega (arith, length-append R.done (code_words lines ∷ []), R.number);
                count = omega (arith, words_more R.done (code_words lines), length-map lines (λ l. word_of l.instruction), R.count);
              }

      refused_here : (answer : Compiled) → HalfRefuses x n set answer → n < length x.counts → Rest n set words → halves_of ends slice x ≡ refused_in n answer
      unfolding halves_from half_then after_halves
      refused_here answer h inside R = go R.counts R.rows R.left R.same R.is
        where
          go : (counts rows : List ℕ) → n + length counts ≡ length x.counts → ((k : ℕ) → get_or (half_rows counts rows) k [] ≡ rows_of_half x (n + k))
              → halves_of ends slice x ≡ after_halves R.done (halves_from n (creates_half n) x.kinds counts rows set) → halves_of ends slice x ≡ refused_in n answer
          go [] rows left same is = absurd (omega (arith, left, inside))
          go (count ∷ counts) rows left same is =
              let refuses : half (creates_half n) (take count rows) x.kinds set ≡ refuse answer =
              ap (λ mine. half (creates_half n) mine x.kinds set) (sym (own_rows n (same 0))) ∙ says_turn r (refuse answer) h in
              is ∙ ap (λ E. after_halves R.done (half_then n E (λ e'. halves_from (suc n) (not (creates_half n)) x.kinds counts (drop count rows) e'))) refuses

    rest : {n words : ℕ} {set : Env} → Reached x n set words → n ≤ length x.counts → Rest n set words
    unfolding in_turn
    rest start inside = record {
      counts = x.counts;
      rows = x.rows;
      done = [];
      left = omega arith;
      same = λ k. let e : k ≡ 0 + k = omega arith in ap (rows_of_half x) e;
      is = none_before (halves_of ends slice x);
      number = refl;
      count = refl;
    }
    rest (next r c e) inside = compiled_more r c e inside (rest r (omega arith))

    pub refused_at : {n words : ℕ} {set : Env} → Reached x n set words → (answer : Compiled) → HalfRefuses x n set answer → n < length x.counts
        → halves_of ends slice x ≡ refused_in n answer
    refused_at r answer h inside = refused_here r answer h inside (rest r (omega arith))

    -- no half is left
    pub record Whole (words : ℕ) : Type 0 where
      pub halves : List (List ℕ)
      pub is : halves_of ends slice x ≡ compiled halves
      pub count : length (in_turn (rounds_of halves)) ≡ words + 2 * length ends

    pub whole : {words : ℕ} {set : Env} → Reached x (length x.counts) set words → Whole words
    unfolding halves_from after_halves
    whole {words} {set} r = let R = rest r (omega arith) in go R R.counts R.rows R.left R.is
      where
        go : (R : Rest (length x.counts) set words) (counts rows : List ℕ) → length x.counts + length counts ≡ length x.counts
            → halves_of ends slice x ≡ after_halves R.done (halves_from (length x.counts) (creates_half (length x.counts)) x.kinds counts rows set) → Whole words
        go R [] rows left is = record {
          halves = R.done;
          is = is ∙ ap compiled (append-nil R.done);
          count = omega (arith, rounds_words (length ends) R.done (omega (arith, R.number, w.even, w.one_end)), R.count, R.number, w.even, w.one_end);
        }
        go R (count ∷ counts) rows left is = absurd (omega (arith, left))

    -- how far the halves come: to the end, or to one that refuses
    pub record Refusing : Type 0 where
      pub n : ℕ
      pub turn : HalfTurn ends x n
      pub answer : Compiled
      pub refuses : HalfRefuses x n turn.set answer

    pub far : (n : ℕ) → n ≤ length x.counts → ((set : Env) × (words : ℕ) × Reached x n set words) ⊎ Refusing
    far zero inside = inl (entry x.objects x.named, 0, start)
    far (suc n) inside = elim (far n (omega arith)) [
      | inl here ↦ by_half here.0 here.1 here.2 (half (creates_half n) (rows_of_half x n) x.kinds here.0) (turn_says here.2)
      | inr refusing ↦ inr refusing
    ]
      where
        by_half : (set : Env) (words : ℕ) → Reached x n set words → (E : Emitted) → HalfSays x n set E → ((set : Env) × (words : ℕ) × Reached x (suc n) set words) ⊎ Refusing
        by_half set words r (ok lines env) h = inl (again env, words + length lines, next r h.0 h.1)
        by_half set words r (refuse answer) h =
            inr (record { n = n; turn = record { within = w; inside = inside; set = set; words = words; reached = r }; answer = answer; refuses = h })
