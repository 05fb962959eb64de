-- The tests of refusal 3 say what document 01 says.
use mathlib.Core.Path.{◌≡◌}
use mathlib.Core.Logic.Iff
use mathlib.Core.Logic.{◌↔◌, ◌≢◌, inl, inr, ⊎_elim}
use mathlib.Core.Bool.{Bool, not, ◌&&◌, ◌||◌}
use mathlib.Core.List.{List, [], ◌∷◌}
use Prim.Native.Nat.{ℕ, zero, suc, ◌<◌, ◌≤◌}
use native.Mathlib.Omega.{arith}
use lib.Dec.{T, eqb, leb, ltb}
use lib.ListN.{get_or}
use Rattle.word.specs.Lowest.{each}
use Rattle.word.proofs.All.{All}
use Rattle.word.proofs.TestLaws.{both, either, implied, twice, fails, equals, is_below, at_most}
use Rattle.word.proofs.LowestLaws.{each_all}
use Rattle.terms.specs.Row.{tag_of}
use Rattle.stores.specs.Cells.{unset, is_set}
use Rattle.stores.specs.Certificates.{pair_fits, agents_once}
use Rattle.stores.specs.Valid.{kinds_fit, each_variable, undeclared_unset, cell_fits, object_fits, declared, valid}
use Rattle.stores.specs.GoodStores.{EachVariable, UndeclaredUnset, HoldsKind, UnsetOrUsed, KnownKinds, Declared, GoodStores}
use Rattle.stores.proofs.CertificateLaws.{valid_certificates}

-- each test, as a proposition
pub known_kinds : (kinds : List ℕ) → T (kinds_fit kinds) ↔ KnownKinds kinds
unfolding kinds_fit
known_kinds kinds = each_all (λ kind. leb kind 10) (λ kind. kind ≤ 10) (λ kind. at_most kind 10) kinds

pub undeclared_unset_lem : (kind cell : ℕ) → T (undeclared_unset kind cell) ↔ UndeclaredUnset kind cell
undeclared_unset_lem kind cell = simp (implied, twice, equals) Iff.rfl

pub unset_or_used : (used cell : ℕ) → T (cell_fits used cell) ↔ UnsetOrUsed used cell
unset_or_used used cell = simp either (
  ⊎_elim (λ u. inl ((equals cell unset).0 ((twice (eqb cell unset)).0 u))) (λ l. inr ((is_below cell used).0 l)),
  ⊎_elim (λ e. inl ((twice (eqb cell unset)).1 ((equals cell unset).1 e))) (λ l. inr ((is_below cell used).1 l)),
)

pub object_fits_lem : (rows : List ℕ) (used kind cell : ℕ) → T (object_fits rows used kind cell) ↔ (UndeclaredUnset kind cell × HoldsKind rows used kind cell)
object_fits_lem rows used kind cell =
    simp (both, undeclared_unset_lem kind cell, set_used, set_kind)
    (λ h. (h.0.0, λ set. (h.0.1 set, h.1 set)), λ h. ((h.0, λ set. (h.1 set).0), λ set. (h.1 set).1))
  where
    set_used : T (not (is_set cell) || ltb cell used) ↔ (cell ≢ unset → cell < used)
    set_used = simp (implied, fails, equals, is_below) Iff.rfl

    set_kind : T (not (is_set cell) || eqb (tag_of (get_or rows cell 0)) kind) ↔ (cell ≢ unset → tag_of (get_or rows cell 0) ≡ kind)
    set_kind = simp (implied, fails, equals) Iff.rfl

module _ (test : ℕ → ℕ → Bool) (P : ℕ → ℕ → Type 0) (says : (kind cell : ℕ) → T (test kind cell) ↔ P kind cell) where
  pub each_variable_lem : (kinds cells : List ℕ) → T (each_variable test kinds cells) ↔ EachVariable P kinds cells
  unfolding each_variable
  each_variable_lem [] cells = (λ _ v k. absurd (omega arith), λ _. tt)
  each_variable_lem (kind ∷ kinds) [] = (λ _ v k c. absurd (omega arith), λ _. tt)
  each_variable_lem (kind ∷ kinds) (cell ∷ cells) =
      simp (both, says kind cell, each_variable_lem kinds cells)
      (λ h. first h.0 h.1, λ h. (h zero (omega arith) (omega arith), λ v k c. h (suc v) (omega arith) (omega arith)))
    where
      first : P kind cell → EachVariable P kinds cells → EachVariable P (kind ∷ kinds) (cell ∷ cells)
      first here there zero k c = here
      first here there (suc v) k c = there v (omega arith) (omega arith)

-- 3 is given exactly where the stores are not so
pub declared_stores : (kinds objects : List ℕ) → T (declared kinds objects) ↔ Declared kinds objects
unfolding declared
declared_stores kinds objects =
    simp (both, known_kinds, each_variable_lem undeclared_unset UndeclaredUnset undeclared_unset_lem kinds objects)
    (λ h. record { known = h.0; undeclared = h.1 }, λ d. (d.known, d.undeclared))

module _ (rows : List ℕ) (used : ℕ) (kinds objects messages certificates : List ℕ) (accumulator : ℕ) where
  objects_fit : T (each_variable (object_fits rows used) kinds objects) ↔ EachVariable (λ kind cell. UndeclaredUnset kind cell × HoldsKind rows used kind cell) kinds objects
  objects_fit = each_variable_lem (object_fits rows used) (λ kind cell. UndeclaredUnset kind cell × HoldsKind rows used kind cell) (object_fits_lem rows used) kinds objects

  cells_fit : T (each (cell_fits used) messages) ↔ All (UnsetOrUsed used) messages
  cells_fit = each_all (cell_fits used) (UnsetOrUsed used) (unset_or_used used) messages

  pub stores_parts : T (valid rows used kinds objects messages certificates accumulator)
      ↔ ((T (kinds_fit kinds) × T (each_variable (object_fits rows used) kinds objects) × T (each (cell_fits used) messages))
      × T (each (pair_fits rows used) certificates && agents_once certificates) × T (cell_fits used accumulator))
  unfolding valid
  stores_parts =
      six (kinds_fit kinds) (each_variable (object_fits rows used) kinds objects) (each (cell_fits used) messages) (each (pair_fits rows used) certificates) (agents_once certificates)
      (cell_fits used accumulator)
    where
      six : (a b c d e f : Bool) → T (a && b && c && d && e && f) ↔ ((T a × T b × T c) × T (d && e) × T f)
      six a b c d e f = simp both (λ h. ((h.0.0.0.0.0, h.0.0.0.0.1, h.0.0.0.1), (h.0.0.1, h.0.1), h.1), λ h. (((((h.0.0, h.0.1), h.0.2), h.1.0), h.1.1), h.2))

  pub valid_stores : T (valid rows used kinds objects messages certificates accumulator) ↔ GoodStores rows used kinds objects messages certificates accumulator
  valid_stores =
      Iff.trans stores_parts
      (simp (known_kinds, objects_fit, cells_fit, valid_certificates rows used certificates, unset_or_used used accumulator) (
        λ h.
            record {
              known = h.0.0;
              undeclared = λ v k c. (h.0.1 v k c).0;
              typed = λ v k c. (h.0.1 v k c).1;
              cells = h.0.2;
              certified = h.1;
              held = h.2;
            },
        λ s. ((s.known, (λ v k c. (s.undeclared v k c, s.typed v k c)), s.cells), s.certified, s.held),
      ))
