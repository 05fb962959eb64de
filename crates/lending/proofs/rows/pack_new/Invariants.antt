use Rattle.word.proofs.ByteLaws.{Packed}
use Rattle.lending.proofs.rows.pack_new.Given as goal

abbrev pub invariant-loop-place : goal.invariant-loop-place
invariant-loop-place l = Packed 8 l.rows l.initial.bytes l.bytes l.place
