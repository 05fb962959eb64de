use Prim.Native.Nat.{ℕ}
use mathlib.Core.Path.{◌≡◌, refl}
use mathlib.Core.List.{List}
use native.Mathlib.Omega.{arith}
use lib.ListN.{length-take}
use Rattle.word.specs.Bytes.{elements}
use Rattle.terms.specs.Rules.{used_rows}
use Rattle.calls.specs.Round.{RoundLent, RoundOutcome, round}
use Rattle.looking.specs.Front.{SameBut}
use Rattle.rounds.proofs.NewRowLaws.{round_new_rows}
use Rattle.lending.proofs.RoundLaws.{with_rows, round_rows_packed}
use Rattle.lending.proofs.TableLaws.{used_few, new_rows}
use Rattle.cram.proofs.round_tables.over_rows.Goals as goal

-- the rows that a round writes
new : (x : RoundLent) (words : List ℕ) {ended : RoundOutcome} {rows : List ℕ} {from to : ℕ} → rows ≡ elements 8 x.terms → ended ≡ round (with_rows x rows) words
    → from ≡ used_rows (elements 8 x.terms) → to ≡ ended.session.used → SameBut (elements 8 x.terms) ended.terms from to
new x words {rows = rows} r e f t = new_rows x.terms r f t (rw e (round_new_rows (with_rows x rows) words))

pub pack_new-requires : goal.pack_new-requires
pack_new-requires g c =
    let read = c.unpack-read.ensures in
    (omega (arith, length-take {A = ℕ}), used_few c.args.terms.now (omega (arith, length-take {A = ℕ})) read.1, new _ _ read.0 c.round_front-ended.ensures read.1 refl)

pub returns : goal.returns
returns g c = round_rows_packed _ _ c.unpack-read.ensures.0 c.round_front-ended.ensures c.pack_new.ensures
