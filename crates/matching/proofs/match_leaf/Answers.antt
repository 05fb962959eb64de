use Rattle.matching.proofs.LeafLaws.{leaf-asks, leaf_object, leaf_raw, leaf_constant, leaf_opposite, leaf_key_of, leaf_hash}
use Rattle.matching.proofs.match_leaf.Goals as goal

pub match_object-requires : goal.match_object-requires
match_object-requires c = search leaf-asks

pub match_raw-requires : goal.match_raw-requires
match_raw-requires c = search leaf-asks

pub match_constant-requires : goal.match_constant-requires
match_constant-requires c = search leaf-asks

pub match_opposite-requires : goal.match_opposite-requires
match_opposite-requires c = search leaf-asks

pub match_key_of-requires : goal.match_key_of-requires
match_key_of-requires c = search leaf-asks

pub match_hash-requires : goal.match_hash-requires
match_hash-requires c = search leaf-asks

pub returns-in-0 : goal.returns-in-0
returns-in-0 c = search (leaf_object)

pub returns-in-1 : goal.returns-in-1
returns-in-1 c = search (leaf_raw)

pub returns-in-2 : goal.returns-in-2
returns-in-2 c = search (leaf_constant)

pub returns-in-3 : goal.returns-in-3
returns-in-3 c = search (leaf_opposite)

pub returns-in-4 : goal.returns-in-4
returns-in-4 c = search (leaf_key_of)

pub returns-in_default : goal.returns-in_default
returns-in_default c = search (leaf_hash)
