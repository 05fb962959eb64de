-- The conditions on terms, a way out at a time.
use Rattle.std.specs.Prelude.{Ok, Err}
use Prim.Native.Nat.{ℕ}
use mathlib.Core.Path.{◌≡◌, refl, sym, ◌∙◌, ap}
use mathlib.Core.Bool.{Bool, true, false, not, ◌&&◌}
use mathlib.Core.List.{List}
use borrow.Author.Tests.{eq-eqb, ne_eqb, eqb-true, eqb-false, not-true, not-false}
use lib.ListN.{get_or}
use lib.Dec.{eqb}
use Rattle.answers.specs.Numbers.{reason_number}
use Rattle.answers.specs.declared.Reason.TheVariants.{OtherKind, Differs, NotVerified}
use Rattle.word.specs.Fields.{split, at}
use Rattle.terms.specs.Shape.{Shape, atom, encrypted, signed, hashed, tupled, kind_of}
use Rattle.terms.specs.Row.{term_widths, tag_of}
use Rattle.theory.specs.Outcome.{sure}
use Rattle.theory.specs.Outcome as Outcome
use Rattle.theory.specs.World.{is, same, verify}
use Rattle.theory.specs.Model.{verified}
use Rattle.theory.specs.RowModel.{Table, row_model, row_world}
use Rattle.world.specs.Operations.{Tests, TestsOver, keys_pair}
use Rattle.world.proofs.LookLaws.{kind_tag, look_signed}
use Rattle.world.proofs.OpeningLaws.{pairs_over}

module _ (rows : List ℕ) (kind row word tag : ℕ) (looked : word ≡ get_or rows row 0) (tagged : tag ≡ tag_of word) where
  pub kind_other : (tag ≡ kind → ⊥) → TestsOver rows (is kind row) (Err OtherKind)
  kind_other other = record { says = λ x over. rw (ne_eqb kind (kind_of (row_model.look row x)) (λ e. other (sym (kind_tag row looked tagged x over) ∙ sym e))) }

  pub kind_same : tag ≡ kind → TestsOver rows (is kind row) (Ok tt)
  kind_same e = record { says = λ x over. rw (eq-eqb kind (kind_of (row_model.look row x)) (sym e ∙ sym (kind_tag row looked tagged x over))) }

pub ruleset kind-ways = (kind_other, kind_same)

module _ (row other : ℕ) where
  module _ (differ : Bool) (is : differ ≡ not (eqb row other)) where
    pub rows_differ : differ ≡ true → Tests (same row other) (Err Differs)
    rows_differ e = record { says = λ x. rw (not-true (eqb row other) (sym is ∙ e)) }

    pub rows_same : differ ≡ false → Tests (same row other) (Ok tt)
    rows_same e = record { says = λ x. rw (not-false (eqb row other) (sym is ∙ e)) }

pub ruleset same-ways = (rows_differ, rows_same)

-- only a signature is verified
verified_other : (key body : ℕ) (shape : Shape ℕ) (x : Table) → (kind_of shape ≡ 8 → ⊥) → verified row_model key body shape x ≡ Outcome.not (reason_number NotVerified)
verified_other key body (atom tag number) x other = refl
verified_other key body (encrypted lock inner) x other = refl
verified_other key body (signed lock inner) x other = absurd (other refl)
verified_other key body (hashed inner) x other = refl
verified_other key body (tupled parts) x other = refl

module _ (rows : List ℕ) (key body signature word tag : ℕ) (looked : word ≡ get_or rows signature 0) (tagged : tag ≡ tag_of word) where
  pub verify_other : (tag ≡ 8 → ⊥) → TestsOver rows (verify key body signature) (Err NotVerified)
  verify_other other = record { says = λ x over. verified_other key body (row_model.look signature x) x (λ e. other (sym (kind_tag signature looked tagged x over) ∙ e)) }

  module _ (is_signature : tag ≡ 8) (lock : ℕ) (locked : lock ≡ at 3 (split term_widths word)) (verdict : Bool) (goes : verdict ≡ keys_pair rows lock key) where
    verifying : {inner : ℕ} → inner ≡ at 4 (split term_widths word) → (x : Table) → x.rows ≡ rows
        → row_world.test (verify key body signature) x ≡ sure (reason_number NotVerified) (verdict && eqb body inner)
    verifying {inner} holds x over =
        ap (λ shape. verified row_model key body shape x) (look_signed signature looked tagged x over is_signature locked holds)
        ∙ ap (λ b. sure (reason_number NotVerified) (b && eqb body inner)) (pairs_over lock key x over ∙ sym goes)

    pub verify_closed : not verdict ≡ true → TestsOver rows (verify key body signature) (Err NotVerified)
    verify_closed e = record { says = λ x over. verifying refl x over ∙ rw (not-true verdict e) }

    module _ (is_open : not verdict ≡ false) (inner : ℕ) (holds : inner ≡ at 4 (split term_widths word)) where
      module _ (differ : Bool) (is : differ ≡ not (eqb inner body)) where
        pub verify_differs : differ ≡ true → TestsOver rows (verify key body signature) (Err NotVerified)
        verify_differs e =
            let other = eqb-false inner body (not-true (eqb inner body) (sym is ∙ e)) in
            record { says = λ x over. verifying holds x over ∙ rw (not-false verdict is_open, ne_eqb body inner (λ same. other (sym same))) }

        pub verify_holds : differ ≡ false → TestsOver rows (verify key body signature) (Ok tt)
        verify_holds e =
            let equal = eqb-true inner body (not-false (eqb inner body) (sym is ∙ e)) in
            record { says = λ x over. verifying holds x over ∙ rw (not-false verdict is_open, eq-eqb body inner (sym equal)) }

pub ruleset verify-ways = (verify_other, verify_closed, verify_differs, verify_holds)
