use Rattle.creating.proofs.LeafLaws.{leaf-asks, leaf_object, leaf_raw, leaf_constant, leaf_opposite, leaf_key_of, leaf_hash}
use Rattle.creating.proofs.create_leaf.Goals as goal

pub create_object-requires : goal.create_object-requires
create_object-requires c = search leaf-asks

pub load-requires : goal.load-requires
load-requires c = search leaf-asks

pub create_constant-requires : goal.create_constant-requires
create_constant-requires c = search leaf-asks

pub create_opposite-requires : goal.create_opposite-requires
create_opposite-requires c = search leaf-asks

pub certified_key-requires : goal.certified_key-requires
certified_key-requires c = search leaf-asks

pub create_hash-requires : goal.create_hash-requires
create_hash-requires c = search leaf-asks

pub returns-in-0 : goal.returns-in-0
returns-in-0 c = search (leaf_object)

pub returns-in-1 : goal.returns-in-1
returns-in-1 c = search (leaf_raw)

pub returns-in-2 : goal.returns-in-2
returns-in-2 c = search (leaf_constant)

pub returns-in-3 : goal.returns-in-3
returns-in-3 c = search (leaf_opposite)

pub returns-in-4 : goal.returns-in-4
returns-in-4 c = search (leaf_key_of)

pub returns-in_default : goal.returns-in_default
returns-in_default c = search (leaf_hash)
