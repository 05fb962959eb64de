-- Keys that go together, by their words: a way out at a time.
use Prim.Native.Nat.{ℕ, ◌≤◌}
use mathlib.Core.Path.{◌≡◌, sym, ◌∙◌, ap}
use mathlib.Core.Bool.{false, and-true, and-false}
use mathlib.Core.List.{List}
use native.Mathlib.Omega.{arith}
use borrow.Author.Tests.{ne_eqb}
use lib.ListN.{get_or}
use lib.Dec.{eqb}
use Rattle.word.specs.Fields.{split, at}
use Rattle.terms.specs.Row.{atom_widths, tag_of, shape_of}
use Rattle.terms.proofs.RowLaws.{tag_kind}
use Rattle.terms.proofs.ShapeLaws.{shape_atom}
use Rattle.theory.specs.Model.{number_of, pair}
use Rattle.world.specs.Operations.{keys_pair}

atom_number : (word tag number : ℕ) → tag ≤ 6 → tag ≡ tag_of word → number ≡ at 2 (split atom_widths word) → number_of (shape_of word) ≡ number
atom_number word tag number small tagged numbered = ap number_of (shape_atom word (λ a b. omega arith)) ∙ sym numbered

module _ (rows : List ℕ) (key other word opposed tag : ℕ) (looked : word ≡ get_or rows key 0) (met : opposed ≡ get_or rows other 0) (tagged : tag ≡ tag_of word) where
  paired : keys_pair rows key other ≡ pair tag (number_of (shape_of word)) (tag_of opposed) (number_of (shape_of opposed))
  unfolding keys_pair
  paired = rw (← looked, ← met, tag_kind word, tag_kind opposed, tagged)

  pub goes_neither : (tag ≡ 5 → ⊥) → (tag ≡ 6 → ⊥) → false ≡ keys_pair rows key other
  goes_neither other shared = rw (paired, ne_eqb tag 5 other, ne_eqb tag 6 shared, and-false)

  module _ (tag' : ℕ) (tagged' : tag' ≡ tag_of opposed) where
    pub goes_private_not : tag ≡ 5 → (tag' ≡ 4 → ⊥) → (eqb tag' 4) ≡ keys_pair rows key other
    goes_private_not private public = rw (paired, ← tagged', private, ne_eqb tag' 4 public, and-false)

    pub goes_shared_not : tag ≡ 6 → (tag' ≡ 6 → ⊥) → (eqb tag' 6) ≡ keys_pair rows key other
    goes_shared_not shared same = rw (paired, ← tagged', shared, ne_eqb tag' 6 same, and-false)

    module _ (number number' : ℕ) (numbered : number ≡ at 2 (split atom_widths word)) (numbered' : number' ≡ at 2 (split atom_widths opposed)) where
      pub goes_private : tag ≡ 5 → tag' ≡ 4 → (eqb number number') ≡ keys_pair rows key other
      goes_private private public =
          rw (paired, atom_number word tag number (omega arith) tagged numbered, atom_number opposed tag' number' (omega arith) tagged' numbered', ← tagged', private, public, and-true)

      pub goes_shared : tag ≡ 6 → tag' ≡ 6 → (eqb number number') ≡ keys_pair rows key other
      goes_shared shared same =
          rw (paired, atom_number word tag number (omega arith) tagged numbered, atom_number opposed tag' number' (omega arith) tagged' numbered', ← tagged', shared, same, and-true)

pub ruleset goes-ways = (goes_neither, goes_private_not, goes_shared_not, goes_private, goes_shared)
