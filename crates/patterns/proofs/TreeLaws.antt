-- The tree of a pattern that passes.
use Prim.Native.Nat.{ℕ, zero, suc, ◌+◌, ◌-◌, ◌<◌, ◌≤◌}
use mathlib.Core.Path.{◌≡◌, refl, ◌∙◌, ap, ap₂, subst}
use mathlib.Core.Logic.{⊎_elim}
use mathlib.Core.Bool.{Bool, not}
use Rattle.std.specs.Prelude.{None}
use mathlib.Core.List.{List, [], ◌∷◌, flat_map}
use native.Mathlib.Nat.{le_refl}
use native.Mathlib.Omega.{arith}
use lib.ListN.{length, get_or, take, get_or-eq_default}
use lib.Seq.{take-length}
use lib.Dec.{T}
use Rattle.word.proofs.TestLaws.{twice}
use Rattle.word.proofs.LowestLaws.{lowest_none}
use Rattle.word.proofs.ScanLaws.{lt_or_ge}
use Rattle.word.proofs.All.{All, all_at, all_get_d, all_append, all_map}
use Rattle.patterns.specs.Pattern.{Pattern, object, encryption, tuple, let_in, part, count, size, sizes, RawsBelow, PartsBelow, Packed, PackedParts}
use Rattle.patterns.specs.Row.{PatternFields, pattern_fields, children_of}
use Rattle.patterns.specs.Rules.{children_named, bad_pattern}
use Rattle.patterns.specs.Tree.{key_by, parts_by, forms_by, form_by, no_pattern, pattern_at, patterns_of, pattern_of}
use Rattle.patterns.specs.Kinds.{form_kinds, wrong_kind, RightKinds, RightParts}
use Rattle.patterns.proofs.ArmLaws.{below_ten}
use Rattle.patterns.proofs.RowLaws.{slots_four, raw_below, byte_below, children_count, child_slot}
use Rattle.patterns.proofs.SlotLaws.{four}
use Rattle.patterns.proofs.SumLaws.{times, sum_over, sum_below, sum_append, sum_once, times_some, fresh_all}
pub use Rattle.patterns.proofs.FormLaws.{patterns_length, formed}
use Rattle.patterns.proofs.CheckLaws.{named_more}
use Rattle.patterns.specs.GoodRow.{GoodRow, fields_at, children_at}
use Rattle.patterns.proofs.RuleLaws.{all_good, never_again, all_named}

-- what holds where it holds of all below holds of all
from_below : (P : ℕ → Type 0) → ((n : ℕ) → ((k : ℕ) → k < n → P k) → P n) → (n : ℕ) → P n
from_below P step n = step n (below n)
  where
    below : (n k : ℕ) → k < n → P k
    below zero k less = absurd (omega arith)
    below (suc n) k less = step k λ j l. below n j (omega arith)

-- parts over patterns that agree on the children
pub parts_same : (g h : ℕ → Pattern) (children : List ℕ) → All (λ child. g child ≡ h child) children → parts_by g children ≡ parts_by h children
parts_same g h [] same = refl
parts_same g h (child ∷ rest) same = ap₂ part same.0 (parts_same g h rest same.1)

-- the sizes of parts, added up
parts_size : (below : ℕ → Pattern) (children : List ℕ) → sizes (parts_by below children) ≡ sum_over (λ child. size (below child)) children
unfolding sizes sum_over
parts_size below [] = refl
parts_size below (child ∷ rest) = rw (parts_size below rest)

parts_right : (create : Bool) (kind : ℕ → ℕ) (below : ℕ → Pattern) (children : List ℕ) → All (λ child. RightKinds create kind (below child)) children → RightParts create kind (parts_by below children)
unfolding RightParts
parts_right create kind below [] right = tt
parts_right create kind below (child ∷ rest) right = (right.0, parts_right create kind below rest right.1)

-- the first slots
front_one : (slots : List ℕ) → length slots ≡ 4 → take 1 slots ≡ get_or slots 0 0 ∷ []
front_one = four _ λ a b c d. refl

front_two : (slots : List ℕ) → length slots ≡ 4 → take 2 slots ≡ get_or slots 0 0 ∷ get_or slots 1 0 ∷ []
front_two = four _ λ a b c d. refl

module _ (place word : ℕ) (good : GoodRow place (pattern_fields word)) where
  abbrev row : PatternFields
  row = pattern_fields word

  abbrev form_at : (ℕ → Pattern) → ℕ → Pattern
  form_at below tag = get_or (forms_by below place row) tag (object place row.v)

  -- a child stands before its owner
  pub child_before : (slot : ℕ) → slot < length (children_of word) → get_or row.slots slot 0 < place
  child_before slot inside = rw (← (child_slot word slot inside)) (all_at _ (children_of word) 0 good.below slot inside)

  pub one_child : row.tag ≡ 5 → 1 ≤ length (children_of word)
  one_child e = omega (arith, children_count word, (good.encryption e).1)

  pub two_children : row.tag ≡ 9 → 2 ≤ length (children_of word)
  two_children e = omega (arith, children_count word, (good.let_in e).0)

  pub form_same : (g h : ℕ → Pattern) → ((child : ℕ) → child < place → g child ≡ h child) → form_by g place row ≡ form_by h place row
  form_same g h same =
      below_ten (λ tag. row.tag ≡ tag → form_at g tag ≡ form_at h tag) (λ e. refl) (λ e. refl) (λ e. refl) (λ e. refl) (λ e. refl)
      (λ e. ap (encryption place row.v (key_by row)) (same _ (child_before 0 (omega (arith, one_child e))))) (λ e. refl) (λ e. refl)
      (λ e. ap (tuple place row.v) (parts_same g h (children_of word) (all_map (children_of word) same good.below)))
      (λ e. ap₂ (let_in place row.r) (same _ (child_before 0 (omega (arith, two_children e)))) (same _ (child_before 1 (omega (arith, two_children e)))))
      row.tag good.tag refl

  -- a form and the forms under it
  pub size_form : (below : ℕ → Pattern) → size (form_by below place row) ≡ suc (sum_over (λ child. size (below child)) (children_of word))
  unfolding size sizes sum_over
  size_form below =
      below_ten (λ tag. row.tag ≡ tag → size (form_at below tag) ≡ suc (sum_over (λ child. size (below child)) (children_of word)))
      (λ e. leaf (good.object e).1.1.1.1.0)
      (λ e. leaf (good.raw e).1.1.1.1.0)
      (λ e. leaf (good.constant e).1.1.1.0)
      (λ e. leaf (good.opposite e).1.1.1.0)
      (λ e. leaf (good.key_of e).1.1.1.0)
      (λ e. rw ((good.encryption e).1, front_one row.slots (slots_four word)) (omega arith))
      (λ e. leaf (good.signature e).1.0)
      (λ e. leaf (good.hash e).1.1.1.0)
      (λ e. rw (parts_size below (children_of word)) (omega arith))
      (λ e. rw ((good.let_in e).0, front_two row.slots (slots_four word)) (omega arith))
      row.tag good.tag refl
    where
      leaf : row.n ≡ 0 → 1 ≡ suc (sum_over (λ child. size (below child)) (children_of word))
      leaf e = rw e

  -- kinds of a form and of the forms under it
  right_form : (create : Bool) (kind : ℕ → ℕ) (below : ℕ → Pattern) → T (form_kinds create kind (form_by below place row)) → ((child : ℕ) → child < place → RightKinds create kind (below child))
      → RightKinds create kind (form_by below place row)
  unfolding RightKinds
  right_form create kind below own under =
      below_ten (λ tag. row.tag ≡ tag → T (form_kinds create kind (form_at below tag)) → RightKinds create kind (form_at below tag)) (λ e h. h) (λ e h. h) (λ e h. h) (λ e h. h) (λ e h. h)
      (λ e h. (h, under _ (child_before 0 (omega (arith, one_child e))))) (λ e h. h) (λ e h. h)
      (λ e h. (h, parts_right create kind below (children_of word) (all_map (children_of word) under good.below)))
      (λ e h. (under _ (child_before 0 (omega (arith, two_children e))), under _ (child_before 1 (omega (arith, two_children e)))))
      row.tag good.tag refl own

module _ (rows : List ℕ) (passed : bad_pattern rows ≡ None) where
  abbrev at : ℕ → Pattern
  at = pattern_at (patterns_of rows)

  abbrev size_at : ℕ → ℕ
  size_at place = size (at place)

  -- the pattern of a row is formed over those of its children
  pub pattern_form : (place : ℕ) → place < length rows → at place ≡ form_by at place (fields_at rows place)
  pattern_form place inside =
      let form = formed rows place inside in
      form.form ∙ form_same place (get_or rows place 0) (all_good rows passed place inside) form.below at form.before

  row_size : (place : ℕ) → place < length rows → size_at place ≡ suc (sum_over size_at (children_at rows place))
  row_size place inside = ap size (pattern_form place inside) ∙ size_form place (get_or rows place 0) (all_good rows passed place inside) at

  -- each row counts itself and what its children count
  sizes_sum : (place : ℕ) → place ≤ length rows → sum_below size_at place ≡ place + sum_over size_at (children_named (take place rows))
  unfolding sum_below sum_over flat_map
  sizes_sum zero most = refl
  sizes_sum (suc place) most =
      let inside : place < length rows = omega arith in
      rw (sizes_sum place (omega arith), row_size place inside, named_more rows place inside, sum_append size_at (children_named (take place rows)) (children_at rows place)) (omega arith)

  -- a row is named at most once, and never the last
  named_few : (place : ℕ) → place ≤ length rows → (k : ℕ) → times k (children_named (take place rows)) ≤ 1
  unfolding times flat_map
  named_few zero most k = omega arith
  named_few (suc place) most k =
      let inside : place < length rows = omega arith in
      rw (named_more rows place inside) (fresh_all (children_named (take place rows)) (children_at rows place) (never_again rows passed place inside) (named_few place (omega arith)) k)

  named_below : (place : ℕ) → place ≤ length rows → All (λ child. child < length rows - 1) (children_named (take place rows))
  unfolding flat_map
  named_below zero most = tt
  named_below (suc place) most =
      let inside : place < length rows = omega arith in
      rw (named_more rows place inside)
      (all_append _ (children_named (take place rows)) (children_at rows place) (named_below place (omega arith))
      (all_map (children_at rows place) (λ child less. omega arith) (all_good rows passed place inside).below))

  named_once : (row : ℕ) → row < length rows - 1 → times row (children_named rows) ≡ 1
  named_once row inside =
      let few : times row (children_named rows) ≤ 1 = rw (take-length rows) at (named_few (length rows) (le_refl _) row) in
      let some = times_some row (children_named rows) (all_named rows passed row inside) in
      omega arith

  -- every row is under the root, once
  pub pattern_size : 1 ≤ length rows → size (pattern_of rows) ≡ length rows
  unfolding pattern_of sum_below
  pattern_size some =
      let last : suc (length rows - 1) ≡ length rows = omega arith in
      let all : sum_below size_at (length rows) ≡ length rows + sum_over size_at (children_named rows) = rw (take-length rows) at (sizes_sum (length rows) (le_refl _)) in
      let others : sum_over size_at (children_named rows) ≡ sum_below size_at (length rows - 1) = sum_once size_at (children_named rows) (length rows - 1)
      (rw (take-length rows) at (named_below (length rows) (le_refl _))) named_once in
      let split : sum_below size_at (length rows) ≡ sum_below size_at (length rows - 1) + size_at (length rows - 1) = subst
      (λ (n : ℕ). sum_below size_at n ≡ sum_below size_at (length rows - 1) + size_at (length rows - 1)) last refl in
      omega arith

  -- no form of a pattern without a wrong kind has one
  pub right_kinds : (create : Bool) (kind : ℕ → ℕ) → 1 ≤ length rows → wrong_kind create kind rows ≡ None → RightKinds create kind (pattern_of rows)
  unfolding pattern_of wrong_kind
  right_kinds create kind some right = from_below (λ place. place < length rows → RightKinds create kind (at place)) row_right (length rows - 1) (omega arith)
    where
      own : (place : ℕ) → place < length rows → T (form_kinds create kind (at place))
      own place inside =
          (twice (form_kinds create kind (at place))).0 ((lowest_none (λ row p. not (form_kinds create kind p)) no_pattern (patterns_of rows)).0 right place (rw (patterns_length rows) inside))

      row_right : (place : ℕ) → ((child : ℕ) → child < place → child < length rows → RightKinds create kind (at child)) → place < length rows → RightKinds create kind (at place)
      row_right place below inside =
          let form = pattern_form place inside in
          rw form
          (right_form place (get_or rows place 0) (all_good rows passed place inside) create kind at (rw form at (own place inside)) λ child less. below child less (omega arith))

-- raw variables are of six bits
parts_raws : (below : ℕ → Pattern) → ((row : ℕ) → RawsBelow 64 (below row)) → (children : List ℕ) → PartsBelow 64 (parts_by below children)
unfolding PartsBelow
parts_raws below raws [] = tt
parts_raws below raws (child ∷ rest) = (raws child, parts_raws below raws rest)

raws_form : (below : ℕ → Pattern) → ((row : ℕ) → RawsBelow 64 (below row)) → (place word : ℕ) → RawsBelow 64 (form_by below place (pattern_fields word))
unfolding RawsBelow
raws_form below raws place word =
    let r = raw_below word in
    all_get_d (RawsBelow 64) (forms_by below place (pattern_fields word)) (object place (pattern_fields word).v)
    (tt, (r, (tt, (tt, (tt, (raws _, (r, (r, (parts_raws below raws (children_of word), ((r, raws _, raws _), tt)))))))))) tt (pattern_fields word).tag

-- what every form has over patterns that have it, the pattern of any rows has
every_pattern : (P : Pattern → Type 0) → P no_pattern → ((below : ℕ → Pattern) → ((row : ℕ) → P (below row)) → (place word : ℕ) → P (form_by below place (pattern_fields word)))
    → (rows : List ℕ) → P (pattern_of rows)
unfolding pattern_of
every_pattern P absent form rows = from_below (λ place. P (all place)) row_has (length rows - 1)
  where
    all : ℕ → Pattern
    all = pattern_at (patterns_of rows)

    inside : (place : ℕ) → ((row : ℕ) → row < place → P (all row)) → place < length rows → P (all place)
    inside place before less =
        let is = formed rows place less in
        rw is.form
        (form is.below
        (λ row. ⊎_elim (λ (l : row < place). rw (is.before row l) (before row l)) (λ (l : place ≤ row). rw (is.beyond row l) absent) (lt_or_ge row place)) place (get_or rows place 0))

    row_has : (place : ℕ) → ((row : ℕ) → row < place → P (all row)) → P (all place)
    row_has place before =
        ⊎_elim (inside place before)
        (λ (l : length rows ≤ place). rw (get_or-eq_default (patterns_of rows) no_pattern {n = place} (rw (patterns_length rows) l)) absent) (lt_or_ge place (length rows))

pub raws_below : (rows : List ℕ) → RawsBelow 64 (pattern_of rows)
unfolding RawsBelow
raws_below = every_pattern (RawsBelow 64) tt raws_form

-- a byte is of eight bits, and there are four slots
parts_packed : (below : ℕ → Pattern) → ((row : ℕ) → Packed (below row)) → (children : List ℕ) → PackedParts (parts_by below children)
unfolding PackedParts
parts_packed below packed [] = tt
parts_packed below packed (child ∷ rest) = (packed child, parts_packed below packed rest)

pub parts_count : (below : ℕ → Pattern) (children : List ℕ) → count (parts_by below children) ≡ length children
unfolding count
parts_count below [] = refl
parts_count below (child ∷ rest) = ap suc (parts_count below rest)

packed_form : (below : ℕ → Pattern) → ((row : ℕ) → Packed (below row)) → (place word : ℕ) → Packed (form_by below place (pattern_fields word))
unfolding Packed
packed_form below packed place word =
    let b = byte_below word in
    let few : count (parts_by below (children_of word)) ≤ 4 = omega (arith, parts_count below (children_of word), children_count word) in
    all_get_d Packed (forms_by below place (pattern_fields word)) (object place (pattern_fields word).v)
    (tt, (tt, (b, (tt, (tt, (packed _, (tt, (tt, ((few, parts_packed below packed (children_of word)), ((packed _, packed _), tt)))))))))) tt (pattern_fields word).tag

pub packed : (rows : List ℕ) → Packed (pattern_of rows)
unfolding Packed
packed = every_pattern Packed tt packed_form
