-- `leaf_matching::forms::match_signature` meets its contract.
use Rattle.numbers.specs.Kinds.{kind_in}
use Rattle.leaf_matching.proofs.FormLaws.{decoded_inside, decoded_low, raw_low, signature_verified}
use Rattle.leaf_matching.proofs.forms.match_signature.Goals as goal

pub signing_key-keyed-requires : goal.signing_key-keyed-requires
signing_key-keyed-requires c =
    let kind = kind_in c.args.kinds.now in
    record {
      inside = decoded_inside _ kind _ _ _ _ c.decode-decoded.ensures c.requires.within;
      word_in_bounds = decoded_low _ kind _ _ _ _ c.decode-decoded.ensures c.requires.word_in_bounds_2;
      word_bound = c.requires.word_bound;
    }

pub verified-requires : goal.verified-requires
verified-requires c = search (raw_low)

pub returns : goal.returns
returns c =
    signature_verified _ (kind_in c.args.kinds.now) _ _ _ _ c.decode-decoded.ensures _ c.variable.ensures _ c.raw.ensures _ _ c.signing_key-keyed.ensures c.verified.ensures
