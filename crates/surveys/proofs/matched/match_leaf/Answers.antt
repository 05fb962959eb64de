use Rattle.calls.specs.Looks.{matching_looks}
use Rattle.surveys.proofs.JoinLaws.{looks_write}
use Rattle.surveys.proofs.LeafLaws.{leaf_object, leaf_raw, leaf_constant, leaf_opposite, leaf_key_of, leaf_hash, leaf-asks}
use Rattle.surveys.proofs.matched.match_leaf.Goals as goal

pub match_object-requires : goal.match_object-requires
match_object-requires c = search leaf-asks

pub match_raw-requires : goal.match_raw-requires
match_raw-requires c = search leaf-asks

pub write_object-requires : goal.write_object-requires
write_object-requires c = search leaf-asks

pub derive_key-requires : goal.derive_key-requires
derive_key-requires c = search leaf-asks

pub match_key_of-requires : goal.match_key_of-requires
match_key_of-requires c = search leaf-asks

pub match_hash-requires : goal.match_hash-requires
match_hash-requires c = search leaf-asks

pub returns-in-0 : goal.returns-in-0
returns-in-0 c =
    λ kind. leaf_object matching_looks _ _ _ c.requires.stands_at c.tag-tag.ensures _ c.variable-v.ensures
    c.in-0.is (c.match_object.ensures kind)

pub returns-in-1 : goal.returns-in-1
returns-in-1 c =
    λ kind. leaf_raw matching_looks _ _ _ c.requires.stands_at c.tag-tag.ensures _ c.raw.ensures
    c.in-1.is (c.match_raw.ensures kind)

pub returns-in-2 : goal.returns-in-2
returns-in-2 c =
    λ kind. leaf_constant matching_looks _ _ _ c.requires.stands_at c.tag-tag.ensures _ c.variable-v.ensures
    c.in-2.is (looks_write c.write_object.ensures)

pub returns-in-3 : goal.returns-in-3
returns-in-3 c =
    λ kind. leaf_opposite matching_looks _ _ _ c.requires.stands_at c.tag-tag.ensures _ c.variable-v.ensures _ c.y.ensures
    c.in-3.is (c.derive_key.ensures kind)

pub returns-in-4 : goal.returns-in-4
returns-in-4 c =
    λ kind. leaf_key_of matching_looks _ _ _ c.requires.stands_at c.tag-tag.ensures _ c.variable-v.ensures _ c.y-in-4.ensures
    c.in-4.is (c.match_key_of.ensures kind)

pub returns-in_default : goal.returns-in_default
returns-in_default c =
    let n = c.in_default.in_default-own.rest in
    λ kind. leaf_hash matching_looks _ _ _ c.requires.stands_at c.tag-tag.ensures _ c.variable-v.ensures _ c.raw-in_default.ensures
    c.requires.leaf n.0.0.0.0.0.1 n.0.0.0.0.1 n.0.0.0.1 n.0.0.1 n.0.1 n.1 (c.match_hash.ensures kind)
