use Rattle.lending.proofs.TableLaws.{Reading}
use Rattle.lending.proofs.rows.unpack_used.Given as goal

abbrev pub invariant-loop-place : goal.invariant-loop-place
invariant-loop-place l = Reading l.bytes l.initial.rows l.rows l.place
