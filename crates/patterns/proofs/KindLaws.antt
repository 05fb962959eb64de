-- Kinds of a row and of its pattern.
use Prim.Native.Nat.{ℕ, zero, suc, ◌-◌, ◌≤◌}
use mathlib.Core.Path.{◌≡◌, refl, sym, ap, ◌∙◌}
use mathlib.Core.Bool.{Bool, true, false, not, ◌&&◌}
use mathlib.Core.List.{List}
use native.Mathlib.Omega.{arith}
use lib.ListN.{get_or, get_or-map}
use lib.Dec.{leb}
use Rattle.word.specs.Lowest.{lowest}
use Rattle.word.proofs.ScanLaws.{lowest_same}
use Rattle.patterns.specs.Pattern.{Key, plain_key, Pattern, object}
use Rattle.patterns.specs.Row.{PatternFields, pattern_fields}
use Rattle.patterns.specs.Tree.{key_by, forms_by, form_by, no_pattern, patterns_of}
use Rattle.patterns.specs.Kinds.{encryption_key, signature_key, form_kinds, wrong_kind}
use Rattle.patterns.specs.RowKinds.{kinds_by, row_kinds}
use Rattle.patterns.proofs.FormLaws.{patterns_length, formed}

module _ (create : Bool) (kind : ℕ → ℕ) where
  -- the form of a row looks at the row's own fields alone
  pub form_kinds_lem : (below : ℕ → Pattern) (place : ℕ) (row : PatternFields) → form_kinds create kind (form_by below place row) ≡ row_kinds create kind row
  unfolding kinds_by
  form_kinds_lem below place row = sym (get_or-map (form_kinds create kind) (forms_by below place row) row.tag (object place row.v))

  -- a tag past the table is taken for a bare variable
  pub kinds_past : (row : PatternFields) → 10 ≤ row.tag → row_kinds create kind row ≡ (leb 1 (kind row.v) && leb (kind row.v) 9)
  unfolding kinds_by
  kinds_past row more =
      let e : row.tag ≡ suc (suc (suc (suc (suc (suc (suc (suc (suc (suc (row.tag - 10)))))))))) = omega arith in
      rw e

  pub wrong_rows : (rows : List ℕ) → wrong_kind create kind rows ≡ lowest (λ place word. not (row_kinds create kind (pattern_fields word))) rows
  unfolding wrong_kind
  wrong_rows rows =
      lowest_same _ _ (patterns_of rows) rows no_pattern 0 (patterns_length rows) λ place inside.
      let form = formed rows place (rw (patterns_length rows) at inside) in
      ap not (ap (form_kinds create kind) form.form ∙ form_kinds_lem form.below place (pattern_fields (get_or rows place 0)))

  -- E one way is S the other way
  pub other_way : (key : Key) → encryption_key (not create) kind key ≡ signature_key create kind key
  other_way key = go create
    where
      go : (b : Bool) → encryption_key (not b) kind key ≡ signature_key b kind key
      go true = refl
      go false = refl

-- a key that is neither op nor keyOf is a variable
pub plain_else : (row : PatternFields) → (row.f ≡ 1 → ⊥) → (row.f ≡ 2 → ⊥) → key_by row ≡ plain_key row.x
plain_else row = go row.f refl
  where
    go : (f : ℕ) → row.f ≡ f → (row.f ≡ 1 → ⊥) → (row.f ≡ 2 → ⊥) → key_by row ≡ plain_key row.x
    go zero e op key = rw e
    go (suc zero) e op key = absurd (op e)
    go (suc (suc zero)) e op key = absurd (key e)
    go (suc (suc (suc f))) e op key = rw e
