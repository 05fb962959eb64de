use Rattle.calls.specs.Looks.{creating_looks}
use Rattle.surveys.proofs.JoinLaws.{looks_write, looks_read_raw}
use Rattle.surveys.proofs.LeafLaws.{raw_low, leaf_object, leaf_raw, leaf_constant, leaf_opposite, leaf_key_of, leaf_hash, leaf-asks}
use Rattle.surveys.proofs.created.create_leaf.Goals as goal

pub create_variable-requires : goal.create_variable-requires
create_variable-requires c = search leaf-asks

pub write_object-requires : goal.write_object-requires
write_object-requires c = search leaf-asks

pub create_opposite-requires : goal.create_opposite-requires
create_opposite-requires c = search leaf-asks

pub derive_key-requires : goal.derive_key-requires
derive_key-requires c = search leaf-asks

pub create_hash-requires : goal.create_hash-requires
create_hash-requires c = search leaf-asks

pub returns-in-0 : goal.returns-in-0
returns-in-0 c =
    leaf_object creating_looks _ _ _ c.requires.stands_at c.tag-tag.ensures _ c.variable-v.ensures
    c.in-0.is c.create_variable.ensures

pub returns-in-1 : goal.returns-in-1
returns-in-1 c =
    leaf_raw creating_looks _ _ _ c.requires.stands_at c.tag-tag.ensures _ c.raw.ensures
    c.in-1.is (looks_read_raw (raw_low _ _ c.raw.ensures) c.read_raw.ensures)

pub returns-in-2 : goal.returns-in-2
returns-in-2 c =
    leaf_constant creating_looks _ _ _ c.requires.stands_at c.tag-tag.ensures _ c.variable-v.ensures
    c.in-2.is (looks_write c.write_object.ensures)

pub returns-in-3 : goal.returns-in-3
returns-in-3 c =
    leaf_opposite creating_looks _ _ _ c.requires.stands_at c.tag-tag.ensures _ c.variable-v.ensures _ c.y.ensures
    c.in-3.is c.create_opposite.ensures

pub returns-in-4 : goal.returns-in-4
returns-in-4 c =
    leaf_key_of creating_looks _ _ _ c.requires.stands_at c.tag-tag.ensures _ c.variable-v.ensures _ c.y-in-4.ensures
    c.in-4.is (c.derive_key.ensures _)

pub returns-in_default : goal.returns-in_default
returns-in_default c =
    let n = c.in_default.in_default-own.rest in
    leaf_hash creating_looks _ _ _ c.requires.stands_at c.tag-tag.ensures _ c.variable-v.ensures _ c.raw-in_default.ensures
    c.requires.leaf n.0.0.0.0.0.1 n.0.0.0.0.1 n.0.0.0.1 n.0.0.1 n.0.1 n.1 (c.create_hash.ensures _)
