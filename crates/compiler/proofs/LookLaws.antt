-- What compile finds before the walk, in the checks' order.
use Prim.Native.Nat.{ℕ, suc, zero, ◌+◌, ◌<◌, ◌≤◌}
use mathlib.Core.Path.{◌≡◌, sym, ◌∙◌}
use mathlib.Core.Bool.{Bool, true, false, not, ◌&&◌, ◌||◌, and_assoc, and-true}
use Rattle.std.specs.Prelude.{None, Some, Result, Ok, Err}
use mathlib.Core.List.{List}
use native.Mathlib.Numerals.{add-one}
use lib.Dec.{eqb}
use lib.ListN.{length, get_or, drop, drop_of_length-le}
use lib.Seq.{drop-cons}
use Rattle.answers.specs.declared.Compiled.{Compiled}
use Rattle.answers.specs.declared.Compiled.TheVariants.{Limit, BadStore, BadPattern, WrongKind}
use Rattle.answers.specs.First.{first}
use Rattle.numbers.specs.Kinds.{kind_in}
use Rattle.patterns.specs.Rules.{bad_pattern}
use Rattle.patterns.specs.Kinds.{wrong_kind}
use Rattle.calls.proofs.HalfLaws.{KnownWithin, known_within}
use Rattle.calls.specs.Half.{undeclared_unknown, declared_known, known_fit, known_refusals}
use Rattle.knowing.specs.Findings.{finding_of}

-- the variables from v on: this one, and those behind it
module _ (kinds : List ℕ) (set : ℕ → Bool) (v : ℕ) (gathered : Bool) (left : undeclared_unknown zero kinds set ≡ (gathered && undeclared_unknown v (drop v kinds) set)) where
  pub unknown_gather : v < length kinds
      → undeclared_unknown zero kinds set ≡ ((gathered && (not (eqb (get_or kinds v 0) 0) || not (set v))) && undeclared_unknown (v + 1) (drop (v + 1) kinds) set)
  unfolding undeclared_unknown
  unknown_gather inside =
      left ∙ rw (drop-cons kinds v 0, add-one) (sym (and_assoc gathered (not (eqb (get_or kinds v 0) 0) || not (set v)) (undeclared_unknown (suc v) (drop (suc v) kinds) set)))

  pub unknown_gathered : length kinds ≤ v → gathered ≡ undeclared_unknown zero kinds set
  unfolding undeclared_unknown
  unknown_gathered past = sym (left ∙ rw (drop_of_length-le kinds {i = v} past) (and-true gathered))

module _ (create : Bool) (pattern kinds : List ℕ) (objects : ℕ → Bool) where
  abbrev finding : Result Unit Compiled
  finding = finding_of (first (known_refusals create pattern kinds objects))

  pub found_limit : known_fit (length pattern) (length kinds) ≡ false → Err Limit ≡ finding
  unfolding first
  found_limit e = rw e

  module _ (fits : known_fit (length pattern) (length kinds) ≡ true) where
    pub within : KnownWithin pattern kinds
    within = known_within pattern kinds (rw fits tt)

    pub found_store : declared_known kinds objects ≡ false → Err BadStore ≡ finding
    unfolding first
    found_store e = rw (fits, e)

    module _ (cells : declared_known kinds objects ≡ true) where
      pub found_row : {row : ℕ} → bad_pattern pattern ≡ Some row → Err (BadPattern row) ≡ finding
      unfolding first
      found_row e = rw (fits, cells, e)

      module _ (rows : bad_pattern pattern ≡ None) where
        pub found_kind : {row : ℕ} → wrong_kind create (kind_in kinds) pattern ≡ Some row → Err (WrongKind row) ≡ finding
        unfolding first
        found_kind e = rw (fits, cells, rows, e)

        pub found_nothing : wrong_kind create (kind_in kinds) pattern ≡ None → Ok tt ≡ finding
        unfolding first
        found_nothing e = rw (fits, cells, rows, e)
