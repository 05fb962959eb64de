-- `leaf_matching::forms::match_hash` meets its contract.
use Rattle.numbers.specs.Kinds.{kind_in}
use Rattle.leaf_matching.proofs.FormLaws.{decoded_inside, hash_same}
use Rattle.leaf_matching.proofs.forms.match_hash.Goals as goal

pub hashed-made-requires : goal.hashed-made-requires
hashed-made-requires c =
    record { r_lt_named_cells = c.requires.r_lt_named_cells; inside = decoded_inside _ (kind_in c.args.kinds.now) _ _ _ _ c.decode-decoded.ensures c.requires.within }

pub returns : goal.returns
returns c = search (hash_same)
