use Rattle.word.proofs.ByteLaws.{Packed}
use Rattle.word.proofs.pack_pairs.Given as goal

abbrev pub invariant-loop-place : goal.invariant-loop-place
invariant-loop-place l = Packed 2 l.values l.initial.bytes l.bytes l.place
