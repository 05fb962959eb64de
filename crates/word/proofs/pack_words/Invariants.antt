use Rattle.word.proofs.ByteLaws.{Packed}
use Rattle.word.proofs.pack_words.Given as goal

abbrev pub invariant-loop-place : goal.invariant-loop-place
invariant-loop-place l = Packed 8 l.values l.initial.bytes l.bytes l.place
