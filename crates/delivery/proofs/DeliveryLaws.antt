-- Words that come to a lent slice.
use Prim.Native.Nat.{ℕ, ◌<◌, ◌≤◌}
use mathlib.Core.Path.{◌≡◌}
use mathlib.Core.List.{List, [], ◌++◌}
use lib.ListN.{length, take, drop}
use borrow.Author.Tests.{le-leb, lt-leb}
use Rattle.answers.specs.declared.Compiled.TheVariants.{Done, CodeTooShort}
use Rattle.calls.specs.Compile.{leaves, written, used_part}

-- the used part
pub part_fits : (n : ℕ) (code : List ℕ) → n ≤ length code → take n code ≡ used_part n code
unfolding used_part
part_fits n code most = rw (le-leb n (length code) most)

pub part_short : (n : ℕ) (code : List ℕ) → length code < n → [] ≡ used_part n code
unfolding used_part
part_short n code less = rw (lt-leb n (length code) less)

module _ (words code : List ℕ) where
  pub too_short : length code < length words → leaves (CodeTooShort (length words)) code ≡ written words code
  too_short less = rw (lt-leb (length words) (length code) less)

  pub all_fit : {after : List ℕ} → length words ≤ length code → after ≡ words ++ drop (length words) code → leaves (Done (length words)) after ≡ written words code
  all_fit most same = rw (le-leb (length words) (length code) most, same)
