-- The rows of every pattern within the widths pass 4.
use Prim.Native.Nat.{ℕ, zero, suc, ◌+◌, ◌-◌, ◌<◌, ◌≤◌}
use mathlib.Core.Path.{◌≡◌, refl, sym, ◌∙◌, ap, subst}
use mathlib.Core.Logic.{⊎_elim}
use mathlib.Core.Bool.{Bool, true, false, not, ◌||◌, true≢false}
use Rattle.std.specs.Prelude.{None}
use mathlib.Core.List.{List, [], ◌∷◌, ◌++◌, flat_map}
use native.Mathlib.Nat.{add-zero, add-suc}
use native.Mathlib.Omega.{arith}
use lib.ListN.{length, get_or, take, drop, length-append, take-append-drop}
use lib.Seq.{length-take-le}
use lib.Dec.{T, leb, ltb, le→leb}
use Rattle.word.specs.Lowest.{lowest, each, one_of}
use Rattle.word.proofs.All.{All, all_map}
use Rattle.word.proofs.TestLaws.{is_true, is_below}
use Rattle.word.proofs.LowestLaws.{each_all, lowest_none}
use Rattle.word.proofs.ScanLaws.{lt_or_ge}
use Rattle.patterns.specs.Pattern.{Key, plain_key, op_key, certified_key, Pattern, object, raw, constant, opposite, key_of, encryption, signature, hash, tuple, let_in, Parts, end, part}
use Rattle.patterns.specs.Pattern.{size, sizes, RawsBelow, PartsBelow, Packed, PackedParts}
use Rattle.patterns.specs.Row.{PatternFields, fields_by, pattern_fields, children, children_of}
use Rattle.patterns.specs.Rules.{row_fits, repeats, children_named, bad_row, unnamed, bad_pattern}
use Rattle.patterns.specs.Laid.{row_fields, row_by, key_form, key_name, key_other, root_from, roots, laid, laid_parts, ObjectsBelow, ObjectsInParts, Fits}
use Rattle.patterns.proofs.PatternLaws.{size_positive}
use Rattle.patterns.proofs.CheckLaws.{named_append, named_one, named_more}
use Rattle.patterns.proofs.SumLaws.{times, times_here, times_else, times_append, times_middle, times_none, times_some}
use Rattle.patterns.proofs.EveryLaws.{fields_read, children_taken, key_form_lem, root_below, roots_below, roots_count, laid_length, laid_lengths}

-- how often a number is among so many from a first on: once or never
unfoldable within : ℕ → ℕ → ℕ → ℕ
within k first zero = 0
within k first (suc n) = within k first n + times k ((first + n) ∷ [])

within_more : (k first m n : ℕ) → within k first (m + n) ≡ within k first m + within k (first + m) n
unfolding within
within_more k first m zero = rw (add-zero m) (omega arith)
within_more k first m (suc n) =
    let next : first + (m + n) ≡ first + m + n = omega arith in
    rw (add-suc, within_more k first m n, next) (omega arith)

times_one : (k n : ℕ) → n ≡ k → times k (n ∷ []) ≡ 1
unfolding times
times_one k n same = times_here k n [] same

times_other : (k n : ℕ) → (n ≡ k → ⊥) → times k (n ∷ []) ≡ 0
unfolding times
times_other k n other = times_else k n [] other

within_past : (k first n : ℕ) → first + n ≤ k → within k first n ≡ 0
unfolding within
within_past k first zero past = refl
within_past k first (suc n) past = rw (within_past k first n (omega arith), times_other k (first + n) λ same. omega arith)

times_most : (k n : ℕ) → times k (n ∷ []) ≤ 1
times_most k n =
    ⊎_elim (λ (l : k < n). omega (arith, times_other k n λ same. omega arith))
    (λ (l : n ≤ k). ⊎_elim (λ (m : n < k). omega (arith, times_other k n λ same. omega arith)) (λ (m : k ≤ n). omega (arith, times_one k n (omega arith))) (lt_or_ge n k)) (lt_or_ge k n)

within_once : (k first n : ℕ) → within k first n ≤ 1
unfolding within
within_once k first zero = omega arith
within_once k first (suc n) =
    ⊎_elim (λ (l : k < first + n). omega (arith, within_once k first n, times_other k (first + n) λ same. omega arith))
    (λ (l : first + n ≤ k). omega (arith, within_past k first n l, times_most k (first + n))) (lt_or_ge k (first + n))

within_here : (k n : ℕ) → k < n → within k 0 n ≡ 1
unfolding within
within_here k zero less = absurd (omega arith)
within_here k (suc n) less =
    ⊎_elim (λ (l : k < n). rw (within_here k n l, times_other k (0 + n) λ same. omega arith))
    (λ (l : n ≤ k). rw (within_past k 0 n (omega arith), times_one k (0 + n) (omega arith))) (lt_or_ge k n)

-- rows that are good in themselves, from a place on
unfoldable RowsFit : ℕ → List ℕ → Type 0
RowsFit place [] = Unit {0}
RowsFit place (word ∷ rest) = T (row_fits place (pattern_fields word)) × RowsFit (suc place) rest

fit_append : (place at : ℕ) (front back : List ℕ) → at ≡ place + length front → RowsFit place front → RowsFit at back → RowsFit place (front ++ back)
unfolding RowsFit
fit_append place at [] back here f b = let same : at ≡ place = omega arith in subst (λ (n : ℕ). RowsFit n back) same b
fit_append place at (word ∷ front) back here f b = (f.0, fit_append (suc place) at front back (omega arith) f.1 b)

fit_at : (place : ℕ) (rows : List ℕ) → RowsFit place rows → (i : ℕ) → i < length rows → T (row_fits (place + i) (pattern_fields (get_or rows i 0)))
unfolding RowsFit
fit_at place [] fit i inside = absurd (omega arith)
fit_at place (word ∷ rest) fit zero inside = let same : place ≡ place + 0 = omega arith in subst (λ (n : ℕ). T (row_fits n (pattern_fields word))) same fit.0
fit_at place (word ∷ rest) fit (suc i) inside =
    let same : suc place + i ≡ place + suc i = omega arith in
    subst (λ (n : ℕ). T (row_fits n (pattern_fields (get_or rest i 0)))) same (fit_at (suc place) rest fit.1 i (omega arith))

-- a row that is good in itself, and its children
record Row (at : ℕ) (named : List ℕ) (word : ℕ) : Type 0 where
  fits : T (row_fits at (pattern_fields word))
  names : children_of word ≡ named

module _ (at tag v f x y r : ℕ) (named : List ℕ) where
  row_of : tag < 16 → v < 64 → f < 4 → x < 256 → y < 64 → r < 64 → length named ≤ 4 → All (λ child. child < 128) named
      → T (row_fits at (fields_by (row_fields tag v f x y r named))) → Row at named (row_by tag v f x y r named)
  row_of a b c d e g few below fit =
      let read = fields_read tag v f x y r named a b c d e g few below in
      record {
        fits = subst (λ (row : PatternFields). T (row_fits at row)) (sym read) fit;
        names = ap (λ (row : PatternFields). children row) read ∙ children_taken named few;
      }

-- rows that pass, where so many from a place on are named, each once
record Passes (place : ℕ) (rows : List ℕ) (n : ℕ) : Type 0 where
  fit : RowsFit place rows
  named : (k : ℕ) → times k (children_named rows) ≡ within k place n

-- an owner after the rows under it
owner_passes : (place at n m : ℕ) (front named : List ℕ) (word : ℕ) → at ≡ place + length front → RowsFit place front
    → ((k : ℕ) → times k (children_named front) + times k named ≡ within k place n) → Row at named word → n ≡ m → Passes place (front ++ (word ∷ [])) m
unfolding RowsFit
owner_passes place at n m front named word here fit counts row same =
    record {
      fit = fit_append place at front (word ∷ []) here fit (row.fits, tt);
      named = λ k.
          ap (times k) (named_append front (word ∷ []) ∙ ap (λ (all : List ℕ). children_named front ++ all) (named_one word ∙ row.names))
          ∙ times_append k (children_named front) named ∙ counts k ∙ ap (within k place) same;
    }

leaf_passes : (place word : ℕ) → Row place [] word → Passes place (word ∷ []) 0
unfolding RowsFit within times flat_map
leaf_passes place word row = owner_passes place place 0 0 [] [] word (omega arith) tt (λ k. refl) row refl

-- the forms are good in themselves
module _ (at : ℕ) where
  object_fits_lem : (v : ℕ) → T (row_fits at (fields_by (row_fields 0 v 0 0 0 0 [])))
  unfolding each
  object_fits_lem v = tt

  raw_fits : (r : ℕ) → T (row_fits at (fields_by (row_fields 1 0 0 0 0 r [])))
  unfolding each
  raw_fits r = tt

  constant_fits : (c b : ℕ) → T (row_fits at (fields_by (row_fields 2 c 0 b 0 0 [])))
  unfolding each
  constant_fits c b = tt

  opposite_fits : (k K : ℕ) → T (row_fits at (fields_by (row_fields 3 k 0 0 K 0 [])))
  unfolding each
  opposite_fits k K = tt

  key_of_fits : (k a : ℕ) → T (row_fits at (fields_by (row_fields 4 k 0 0 a 0 [])))
  unfolding each
  key_of_fits k a = tt

  hash_fits : (h r : ℕ) → T (row_fits at (fields_by (row_fields 7 h 0 0 0 r [])))
  unfolding each
  hash_fits h r = tt

  signature_fits : (s : ℕ) (key : Key) (r : ℕ) → key_name key < 64 → T (row_fits at (fields_by (row_fields 6 s (key_form key) (key_name key) (key_other key) r [])))
  unfolding each
  signature_fits s (plain_key x) r less = rw (is_true (leb x 63) (le→leb x 63 (omega arith))) tt
  signature_fits s (op_key x y) r less = rw (is_true (leb x 63) (le→leb x 63 (omega arith))) tt
  signature_fits s (certified_key x y) r less = rw (is_true (leb x 63) (le→leb x 63 (omega arith))) tt

  all_before : (named : List ℕ) → All (λ child. child < at) named → T (each (λ child. ltb child at) named)
  all_before named = (each_all (λ child. ltb child at) (λ child. child < at) (λ child. is_below child at) named).1

  encryption_fits : (e : ℕ) (key : Key) (child : ℕ) → key_name key < 64 → child < at
      → T (row_fits at (fields_by (row_fields 5 e (key_form key) (key_name key) (key_other key) 0 (child ∷ []))))
  unfolding each
  encryption_fits e (plain_key x) child less below = rw (is_true (leb x 63) (le→leb x 63 (omega arith))) (all_before (child ∷ []) (below, tt))
  encryption_fits e (op_key x y) child less below = rw (is_true (leb x 63) (le→leb x 63 (omega arith))) (all_before (child ∷ []) (below, tt))
  encryption_fits e (certified_key x y) child less below = rw (is_true (leb x 63) (le→leb x 63 (omega arith))) (all_before (child ∷ []) (below, tt))

  tuple_fits : (t : ℕ) (named : List ℕ) → length named ≤ 4 → All (λ child. child < at) named → T (row_fits at (fields_by (row_fields 8 t 0 0 0 0 named)))
  unfolding each
  tuple_fits t [] few below = tt
  tuple_fits t (a ∷ []) few below = all_before (a ∷ []) below
  tuple_fits t (a ∷ b ∷ []) few below = all_before (a ∷ b ∷ []) below
  tuple_fits t (a ∷ b ∷ c ∷ []) few below = all_before (a ∷ b ∷ c ∷ []) below
  tuple_fits t (a ∷ b ∷ c ∷ d ∷ []) few below = all_before (a ∷ b ∷ c ∷ d ∷ []) below
  tuple_fits t (a ∷ b ∷ c ∷ d ∷ e ∷ rest) few below = absurd (omega arith)

  let_fits : (r a b : ℕ) → a < at → b < at → T (row_fits at (fields_by (row_fields 9 0 0 0 0 r (a ∷ b ∷ []))))
  unfolding each
  let_fits r a b less below = all_before (a ∷ b ∷ []) (less, (below, tt))

-- what is named under a pattern, with its root: each of its rows once
root_named : (place : ℕ) (p : Pattern) (rows : List ℕ) → Passes place rows (size p - 1) → (k : ℕ) → times k (children_named rows) + times k (root_from place p ∷ []) ≡ within k place (size p)
unfolding within
root_named place p rows passes k =
    let same : suc (size p - 1) ≡ size p = omega (arith, size_positive p) in
    ap (λ (n : ℕ). n + times k (root_from place p ∷ [])) (passes.named k) ∙ ap (within k place) same

-- two runs of rows, one after the other
both_named : (place m n : ℕ) (front back one two : List ℕ) → ((k : ℕ) → times k (children_named front) + times k one ≡ within k place m)
    → ((k : ℕ) → times k (children_named back) + times k two ≡ within k (place + m) n)
    → (k : ℕ) → times k (children_named (front ++ back)) + times k (one ++ two) ≡ within k place (m + n)
both_named place m n front back one two first second k =
    let a : times k (children_named (front ++ back)) ≡ times k (children_named front) + times k (children_named back) =
    ap (times k) (named_append front back) ∙ times_append k (children_named front) (children_named back) in
    omega (arith, a, times_append k one two, first k, second k, within_more k place m n)

-- children stand before their owner
roots_before : (place : ℕ) (ps : Parts) → All (λ child. child < place + sizes ps) (roots place ps)
unfolding roots size
roots_before place end = tt
roots_before place (part p ps) =
    (omega (arith, size_positive p), all_map (roots (place + size p) ps) (λ child less. omega arith) (roots_before (place + size p) ps))

-- the parts of a tuple, one after the other
abbrev PartsPass : ℕ → Parts → Type 0
PartsPass place ps = RowsFit place (laid_parts place ps) × ((k : ℕ) → times k (children_named (laid_parts place ps)) + times k (roots place ps) ≡ within k place (sizes ps))

no_parts : (place : ℕ) → PartsPass place end
unfolding RowsFit laid roots size within times flat_map
no_parts place = (tt, λ k. refl)

more_parts : (place : ℕ) (p : Pattern) (ps : Parts) → Passes place (laid place p) (size p - 1) → PartsPass (place + size p) ps → PartsPass place (part p ps)
unfolding laid roots size
more_parts place p ps one others = (
  fit_append place (place + size p) (laid place p) (laid_parts (place + size p) ps) (omega (arith, laid_length place p)) one.fit others.0,
  both_named place (size p) (sizes ps) (laid place p) (laid_parts (place + size p) ps) (root_from place p ∷ []) (roots (place + size p) ps) (root_named place p (laid place p) one) others.1,
)

-- the rows of a pattern pass, and name all of them but the root
mutual
  unfolding laid size ObjectsBelow RawsBelow Packed

  laid_passes : (place : ℕ) (p : Pattern) → place + size p ≤ 96 → ObjectsBelow 64 p → RawsBelow 64 p → Packed p → Passes place (laid place p) (size p - 1)
  laid_passes place (object row v) few o r b =
      leaf_passes place _ (row_of place 0 v 0 0 0 0 [] (omega arith) o (omega arith) (omega arith) (omega arith) (omega arith) (omega arith) tt (object_fits_lem place v))
  laid_passes place (raw row n) few o r b =
      leaf_passes place _ (row_of place 1 0 0 0 0 n [] (omega arith) (omega arith) (omega arith) (omega arith) (omega arith) r (omega arith) tt (raw_fits place n))
  laid_passes place (constant row c x) few o r b =
      leaf_passes place _ (row_of place 2 c 0 x 0 0 [] (omega arith) o (omega arith) b (omega arith) (omega arith) (omega arith) tt (constant_fits place c x))
  laid_passes place (opposite row k K) few o r b =
      leaf_passes place _ (row_of place 3 k 0 0 K 0 [] (omega arith) o.0 (omega arith) (omega arith) o.1 (omega arith) (omega arith) tt (opposite_fits place k K))
  laid_passes place (key_of row k a) few o r b =
      leaf_passes place _ (row_of place 4 k 0 0 a 0 [] (omega arith) o.0 (omega arith) (omega arith) o.1 (omega arith) (omega arith) tt (key_of_fits place k a))
  laid_passes place (encryption row e key p) few o r b =
      let under = laid_passes place p (omega arith) o.2 r b in
      let child : root_from place p < place + size p = omega (arith, size_positive p) in
      owner_passes place (place + size p) (size p) _ (laid place p) (root_from place p ∷ []) _ (omega (arith, laid_length place p)) under.fit (root_named place p (laid place p) under)
      (row_of (place + size p) 5 e (key_form key) (key_name key) (key_other key) 0 (root_from place p ∷ []) (omega arith) o.0
      (key_form_lem key) (omega (arith, o.1.0)) o.1.1 (omega arith) (omega arith)
      (root_below place p (omega arith), tt) (encryption_fits (place + size p) e key (root_from place p) o.1.0 child)) (omega arith)
  laid_passes place (signature row s key n) few o r b =
      leaf_passes place _
      (row_of place 6 s (key_form key) (key_name key) (key_other key) n [] (omega arith) o.0 (key_form_lem key) (omega (arith, o.1.0)) o.1.1 r (omega arith) tt
      (signature_fits place s key n o.1.0))
  laid_passes place (hash row h n) few o r b =
      leaf_passes place _ (row_of place 7 h 0 0 0 n [] (omega arith) o (omega arith) (omega arith) (omega arith) r (omega arith) tt (hash_fits place h n))
  laid_passes place (tuple row t ps) few o r b =
      let under = parts_pass place ps (omega arith) o.1 r b.1 in
      let most : length (roots place ps) ≤ 4 = omega (arith, roots_count place ps, b.0) in
      owner_passes place (place + sizes ps) (sizes ps) _ (laid_parts place ps) (roots place ps) _ (omega (arith, laid_lengths place ps)) under.0 under.1
      (row_of (place + sizes ps) 8 t 0 0 0 0 (roots place ps) (omega arith) o.0 (omega arith) (omega arith) (omega arith) (omega arith) most
      (roots_below place ps (omega arith)) (tuple_fits (place + sizes ps) t (roots place ps) most (roots_before place ps))) (omega arith)
  laid_passes place (let_in row n p₁ p₂) few o r b =
      let one = laid_passes place p₁ (omega arith) o.0 r.1 b.0 in
      let two = laid_passes (place + size p₁) p₂ (omega arith) o.1 r.2 b.1 in
      let first : root_from place p₁ < place + (size p₁ + size p₂) = omega (arith, size_positive p₁) in
      let second : root_from (place + size p₁) p₂ < place + (size p₁ + size p₂) = omega (arith, size_positive p₂) in
      let long = length-append (laid place p₁) (laid (place + size p₁) p₂) in
      owner_passes place (place + (size p₁ + size p₂)) (size p₁ + size p₂) _ (laid place p₁ ++ laid (place + size p₁) p₂) (root_from place p₁ ∷ root_from (place + size p₁) p₂ ∷ []) _
      (omega (arith, long, laid_length place p₁, laid_length (place + size p₁) p₂))
      (fit_append place (place + size p₁) (laid place p₁) (laid (place + size p₁) p₂) (omega (arith, laid_length place p₁)) one.fit two.fit)
      (both_named place (size p₁) (size p₂) (laid place p₁) (laid (place + size p₁) p₂) (root_from place p₁ ∷ []) (root_from (place + size p₁) p₂ ∷ [])
      (root_named place p₁ (laid place p₁) one) (root_named (place + size p₁) p₂ (laid (place + size p₁) p₂) two))
      (row_of (place + (size p₁ + size p₂)) 9 0 0 0 0 n (root_from place p₁ ∷ root_from (place + size p₁) p₂ ∷ [])
      (omega arith) (omega arith) (omega arith) (omega arith) (omega arith) r.0 (omega arith)
      (root_below place p₁ (omega arith), (root_below (place + size p₁) p₂ (omega arith), tt))
      (let_fits (place + (size p₁ + size p₂)) n (root_from place p₁) (root_from (place + size p₁) p₂) first second)) (omega arith)

  parts_pass : (place : ℕ) (ps : Parts) → place + sizes ps ≤ 96 → ObjectsInParts 64 ps → PartsBelow 64 ps → PackedParts ps
      → PartsPass place ps
  parts_pass place end few o r b = no_parts place
  parts_pass place (part p ps) few o r b =
      let one = laid_passes place p (omega arith) o.0 r.0 b.0 in
      let others = parts_pass (place + size p) ps (omega arith) o.1 r.1 b.1 in
      more_parts place p ps one others

-- children of which none stands twice are never taken again
not_one : (taken : List ℕ) (child : ℕ) → times child taken ≡ 0 → one_of taken child ≡ false
not_one taken child never = go (one_of taken child) refl
  where
    go : (b : Bool) → one_of taken child ≡ b → b ≡ false
    go true e = absurd (omega (arith, times_some child taken e))
    go false e = refl

never_repeats : (taken named : List ℕ) → ((k : ℕ) → times k (taken ++ named) ≤ 1) → repeats taken named ≡ false
unfolding repeats
never_repeats taken [] once = refl
never_repeats taken (child ∷ rest) once =
    let never : times child taken ≡ 0 = omega (arith, once child, times_append child taken (child ∷ rest), times_here child child rest refl) in
    rw (not_one taken child never) (never_repeats (child ∷ taken) rest λ k. rw (times_middle k child taken rest) (once k))

-- what the rows before a place name, and the row there
prefix_once : (rows : List ℕ) → ((k : ℕ) → times k (children_named rows) ≤ 1) → (place : ℕ) → place < length rows
    → (k : ℕ) → times k (children_named (take place rows) ++ children_of (get_or rows place 0)) ≤ 1
prefix_once rows once place inside k =
    let all : children_named rows ≡ children_named (take (suc place) rows) ++ children_named (drop (suc place) rows) =
    ap (λ (l : List ℕ). children_named l) (sym (take-append-drop (suc place) rows)) ∙ named_append (take (suc place) rows) (drop (suc place) rows) in
    let counted = ap (times k) (all ∙ ap (λ (l : List ℕ). l ++ children_named (drop (suc place) rows)) (named_more rows place inside)) in
    omega (arith, once k, counted, times_append k (children_named (take place rows) ++ children_of (get_or rows place 0)) (children_named (drop (suc place) rows)))

module _ (rows : List ℕ) (passes : Passes 0 rows (length rows - 1)) where
  row_good : (place : ℕ) → place < length rows → T (not (bad_row rows place (get_or rows place 0)))
  unfolding bad_row
  row_good place inside =
      let same : 0 + place ≡ place = omega arith in
      let fits : T (row_fits place (pattern_fields (get_or rows place 0))) = subst (λ (n : ℕ). T (row_fits n (pattern_fields (get_or rows place 0)))) same (fit_at 0 rows passes.fit place inside) in
      let once = prefix_once rows (λ k. rw (passes.named k) (within_once k 0 (length rows - 1))) place inside in
      good (row_fits place (pattern_fields (get_or rows place 0))) (repeats (children_named (take place rows)) (children_of (get_or rows place 0))) fits
      (never_repeats (children_named (take place rows)) (children_of (get_or rows place 0)) once)
    where
      good : (fits again : Bool) → T fits → again ≡ false → T (not (not fits || again))
      good true true f e = absurd (true≢false e)
      good true false f e = tt
      good false again f e = absurd f

  row_named : (place word : ℕ) → place < length rows - 1 → T (not (unnamed rows place word))
  unfolding unnamed
  row_named place word inside = go (one_of (children_named rows) place) refl
    where
      go : (b : Bool) → one_of (children_named rows) place ≡ b → T (not (not b))
      go true e = tt
      go false e = absurd (omega (arith, passes.named place, within_here place (length rows - 1) inside, times_none place (children_named rows) e))

  rows_pass : bad_pattern rows ≡ None
  unfolding bad_pattern
  rows_pass =
      let bad : lowest (bad_row rows) rows ≡ None = (lowest_none (bad_row rows) 0 rows).1 row_good in
      let front = length-take-le (length rows - 1) rows (omega arith) in
      let unowned : lowest (unnamed rows) (take (length rows - 1) rows) ≡ None = (lowest_none (unnamed rows) 0 (take (length rows - 1) rows)).1 λ place inside. row_named place _ (omega arith) in
      rw (bad, unowned)

-- the rows of every pattern within the widths pass 4
pub every_pattern_passes : (p : Pattern) → Fits p → bad_pattern (laid 0 p) ≡ None
every_pattern_passes p fits =
    rows_pass (laid 0 p) (rw (laid_length 0 p) (laid_passes 0 p (omega (arith, fits.rows)) fits.objects fits.raws fits.packed))
