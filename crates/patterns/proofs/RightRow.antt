-- The tests of refusal 5 say what document 01 says.
use Prim.Native.Nat.{ℕ, zero, suc, ◌<◌, ◌≤◌}
use mathlib.Core.Path.{◌≡◌, refl, sym, subst, ◌∙◌}
use mathlib.Core.Logic.Iff
use mathlib.Core.Logic.{◌↔◌}
use mathlib.Core.Bool.{Bool, true, false, not, ◌&&◌}
use Rattle.std.specs.Prelude.{None, Some}
use mathlib.Core.List.{List}
use native.Mathlib.Omega.{arith}
use lib.ListN.{length}
use lib.Dec.{T, T_not, eqb, leb}
use Rattle.word.specs.Lowest.{LowestBad, AllGood}
use Rattle.word.proofs.TestLaws.{both, twice, equals, at_most}
use Rattle.word.proofs.LowestLaws.{one_of_two, none_bad, lowest_bad}
use Rattle.patterns.specs.Pattern.{Key, plain_key, op_key, certified_key}
use Rattle.patterns.specs.Row.{PatternFields}
use Rattle.patterns.specs.Rules.{bad_pattern}
use Rattle.patterns.specs.Tree.{key_by}
use Rattle.patterns.specs.Kinds.{private_side, public_side, encryption_key, wrong_kind}
use Rattle.patterns.specs.RowKinds.{kinds_by, row_kinds}
use Rattle.patterns.specs.RightRow.{PrivateKey, PublicKey, RightKey, RightRow}
use Rattle.patterns.proofs.ArmLaws.{below_ten}
use Rattle.patterns.specs.GoodRow.{GoodRow, fields_at}
use Rattle.patterns.proofs.KindLaws.{wrong_rows, other_way}
use Rattle.patterns.proofs.RuleLaws.{all_good}

-- what holds of each form of a key holds of a row's
by_key : (P : Key → Type 0) (row : PatternFields) → row.f ≤ 2 → (row.f ≡ 0 → P (plain_key row.x)) → (row.f ≡ 1 → P (op_key row.x row.y)) → (row.f ≡ 2 → P (certified_key row.x row.y))
    → P (key_by row)
by_key P row = go row.f refl
  where
    go : (f : ℕ) → row.f ≡ f → row.f ≤ 2 → (row.f ≡ 0 → P (plain_key row.x)) → (row.f ≡ 1 → P (op_key row.x row.y)) → (row.f ≡ 2 → P (certified_key row.x row.y)) → P (key_by row)
    go zero e few plain op own = rw e (plain e)
    go (suc zero) e few plain op own = rw e (op e)
    go (suc (suc zero)) e few plain op own = rw e (own e)
    go (suc (suc (suc f))) e few plain op own = absurd (omega arith)

-- a row of one form of key is of no other
other : {A : Type 0} {m n k : ℕ} → m ≡ n → m ≡ k → T (not (eqb n k)) → A
other {n = n} {k = k} e e' differ = absurd (T_not (eqb n k) differ ((equals n k).1 (sym e ∙ e')))

module _ (kind : ℕ → ℕ) (row : PatternFields) (few : row.f ≤ 2) where
  private_says : T (private_side kind (key_by row)) ↔ PrivateKey kind row
  private_says =
      by_key (λ key. T (private_side kind key) ↔ PrivateKey kind row) row few
      (λ e. (λ h. record { plain = e; kinds = (one_of_two 5 6 (kind row.x)).0 h }, λ g. (one_of_two 5 6 (kind row.x)).1 g.kinds))
      (λ e. (λ h. absurd h, λ g. other e g.plain tt)) λ e. (λ h. absurd h, λ g. other e g.plain tt)

  public_says : T (public_side kind (key_by row)) ↔ PublicKey kind row
  public_says =
      by_key (λ key. T (public_side kind key) ↔ PublicKey kind row) row few
      (λ e.
      let two = one_of_two 4 6 (kind row.x) in
      (λ h. record { plain = λ _. two.0 h; op = λ e'. other e e' tt; own = λ e'. other e e' tt }, λ g. two.1 (g.plain e)))
      (λ e. simp (both, equals) (λ h. record { plain = λ e'. other e e' tt; op = λ _. h; own = λ e'. other e e' tt }, λ g. g.op e))
      λ e. simp (both, equals) (λ h. record { plain = λ e'. other e e' tt; op = λ e'. other e e' tt; own = λ _. h }, λ g. g.own e)

  key_says : (create : Bool) → T (encryption_key create kind (key_by row)) ↔ RightKey kind row create
  key_says true = public_says
  key_says false = private_says

module _ (create : Bool) (kind : ℕ → ℕ) (row : PatternFields) where
  bare_says : T (leb 1 (kind row.v) && leb (kind row.v) 9) ↔ ((1 ≤ kind row.v) × (kind row.v ≤ 9))
  bare_says = simp (both, at_most) Iff.rfl

  two_say : (a b : ℕ) → T (eqb (kind row.v) a && eqb (kind row.y) b) ↔ ((kind row.v ≡ a) × (kind row.y ≡ b))
  two_say a b = simp (both, equals) Iff.rfl

  key_two : (few : row.f ≤ 2) (a : ℕ) (way : Bool) → T (eqb (kind row.v) a && encryption_key way kind (key_by row)) ↔ ((kind row.v ≡ a) × RightKey kind row way)
  key_two few a way = simp (both, equals, key_says kind row few way) Iff.rfl

  module _ (place : ℕ) (good : GoodRow place row) where
    into : T (row_kinds create kind row) → RightRow create kind row
    unfolding kinds_by
    into h =
        record {
          object = λ e. bare_says.0 (by_tag 0 e);
          constant = λ e. (equals (kind row.v) 1).0 (by_tag 2 e);
          opposite = λ e. (two_say 4 5).0 (by_tag 3 e);
          key_of = λ e. (two_say 4 3).0 (by_tag 4 e);
          encryption = λ e. (key_two (good.encryption e).0.form 7 create).0 (by_tag 5 e);
          signature = λ e. (key_two (good.signature e).0.form 8 (not create)).0 (rw other_way (by_tag 6 e));
          hash = λ e. (equals (kind row.v) 9).0 (by_tag 7 e);
          tuple = λ e. (equals (kind row.v) 10).0 (by_tag 8 e);
        }
      where
        by_tag : (tag : ℕ) → row.tag ≡ tag → T (kinds_by create kind row tag)
        by_tag tag e = subst (λ (t : ℕ). T (kinds_by create kind row t)) e h

    back : RightRow create kind row → T (row_kinds create kind row)
    unfolding kinds_by
    back g =
        below_ten (λ tag. row.tag ≡ tag → T (kinds_by create kind row tag))
        (λ e. bare_says.1 (g.object e))
        (λ e. tt)
        (λ e. (equals (kind row.v) 1).1 (g.constant e))
        (λ e. (two_say 4 5).1 (g.opposite e))
        (λ e. (two_say 4 3).1 (g.key_of e))
        (λ e. (key_two (good.encryption e).0.form 7 create).1 (g.encryption e))
        (λ e. rw (← (other_way create kind (key_by row))) ((key_two (good.signature e).0.form 8 (not create)).1 (g.signature e)))
        (λ e. (equals (kind row.v) 9).1 (g.hash e))
        (λ e. (equals (kind row.v) 10).1 (g.tuple e))
        (λ e. tt)
        row.tag good.tag refl

module _ (create : Bool) (kind : ℕ → ℕ) (rows : List ℕ) (passed : bad_pattern rows ≡ None) where
  right_says : (place : ℕ) → place < length rows → T (not (not (row_kinds create kind (fields_at rows place)))) ↔ RightRow create kind (fields_at rows place)
  right_says place inside =
      let good = all_good rows passed place inside in
      Iff.trans (twice (row_kinds create kind (fields_at rows place))) (into create kind (fields_at rows place) place good, back create kind (fields_at rows place) place good)

  -- 5, exactly, of rows that passed: the lowest row with a wrong kind
  pub wrong_kind_at : (i : ℕ) → (wrong_kind create kind rows ≡ Some i) ↔ LowestBad (λ place. RightRow create kind (fields_at rows place)) (length rows) i
  wrong_kind_at i = rw (wrong_rows create kind rows) (lowest_bad _ _ rows 0 right_says i)

  pub wrong_kind_none : (wrong_kind create kind rows ≡ None) ↔ AllGood (λ place. RightRow create kind (fields_at rows place)) (length rows)
  wrong_kind_none = rw (wrong_rows create kind rows) (none_bad _ _ rows 0 right_says)
