-- A run whose checks pass is its steps; and what its checks say.
use mathlib.Core.Path.{◌≡◌}
use mathlib.Core.Logic.{◌↔◌}
use mathlib.Core.Bool.{Bool}
use Rattle.std.specs.Prelude.{None}
use mathlib.Core.List.{List}
use Prim.Native.Nat.{ℕ, ◌≤◌}
use lib.Dec.{T}
use lib.ListN.{length}
use Rattle.word.proofs.TestLaws.{both, equals, at_most}
use Rattle.answers.specs.declared.Ran.TheVariants.{Limit, BadStore}
use Rattle.code.specs.Words.{bad_word}
use Rattle.terms.specs.Rules.{used_rows, bad_term}
use Rattle.terms.proofs.TableLaws.{valid_table}
use Rattle.stores.specs.Valid.{valid}
use Rattle.stores.proofs.ValidLaws.{valid_stores}
use Rattle.theory.specs.Outcome.{Outcome}
use Rattle.theory.specs.RowModel.{row_world}
use Rattle.theory.specs.Machine.{State, exec}
use Rattle.answers.specs.First.{first}
use Rattle.numbers.specs.Kinds.{kind_in}
use Rattle.calls.specs.Valid.{LentWithin, ValidStores, Valid}
use Rattle.calls.specs.Run.{Lent, state_of, lines_of, ended, lengths_fit, run}
use Rattle.numbers.specs.Limits.{most_code_words}
use Rattle.calls.proofs.CompileLaws.{passes_when}

-- the test of 3, and the steps
module _ (x : Lent) where
  abbrev pub stores_fit : Bool
  stores_fit = valid x.terms (used_rows x.terms) x.kinds x.objects x.messages x.certificates x.accumulator

  abbrev pub steps_of : List ℕ → Outcome (State row_world)
  steps_of code = exec row_world (kind_in x.kinds) (lines_of code) (state_of x)

-- nothing is refused before the steps
pub record Passed (x : Lent) (code : List ℕ) : Type 0 where
  pub lengths : T (lengths_fit x code)
  pub rows : bad_term x.terms x.counter ≡ None
  pub stores : T (stores_fit x)
  pub words : bad_word (kind_in x.kinds) code ≡ None

module _ (x : Lent) (code : List ℕ) where
  pub run_steps : Passed x code → run x code ≡ ended (length code) x (steps_of x code)
  unfolding run first
  run_steps p = rw (passes_when (lengths_fit x code) Limit p.lengths, p.rows, passes_when (stores_fit x) BadStore p.stores, p.words)

-- what the checks say
pub run_within : (x : Lent) (code : List ℕ) → T (lengths_fit x code) ↔ (LentWithin x × (length code ≤ most_code_words))
run_within x code =
    simp (both, equals, at_most) (
      λ h. (
        record { kinds = h.0.0.0.0.0.0; objects = h.0.0.0.0.0.1; messages = h.0.0.0.0.1; certificates = h.0.0.0.1; terms = h.0.0.1; counter = h.0.1 },
        h.1,
      ),
      λ w. ((((((w.0.kinds, w.0.objects), w.0.messages), w.0.certificates), w.0.terms), w.0.counter), w.1),
    )

pub stores_valid : (x : Lent) → T (stores_fit x) ↔ ValidStores x
stores_valid x = valid_stores x.terms (used_rows x.terms) x.kinds x.objects x.messages x.certificates x.accumulator

module _ {x : Lent} {code : List ℕ} where
  pub passed_valid : Passed x code → Valid x
  passed_valid p = record { within = ((run_within x code).0 p.lengths).0; table = (valid_table x.terms x.counter).0 p.rows; stores = (stores_valid x).0 p.stores }

  pub valid_passes : Valid x → length code ≤ most_code_words → bad_word (kind_in x.kinds) code ≡ None → Passed x code
  valid_passes v few good = record {
    lengths = (run_within x code).1 (v.within, few);
    rows = (valid_table x.terms x.counter).1 v.table;
    stores = (stores_valid x).1 v.stores;
    words = good;
  }
