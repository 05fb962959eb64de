-- The halves have 33 bits when they are added, and the product fits a word.
use mathlib.Core.Path.{refl}
use native.Mathlib.Omega.{arith}
use Rattle.chains.specs.Chains.{chain_of}
use Rattle.chains.proofs.ChainLaws.{product_fits}
use Rattle.chains.proofs.chain_of.Goals as goal

pub overflow_mul-result : goal.overflow_mul-result
overflow_mul-result c = record { fits = product_fits _ (omega arith) }

pub returns : goal.returns
unfolding chain_of
returns c = refl
