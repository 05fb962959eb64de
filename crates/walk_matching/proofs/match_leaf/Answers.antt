-- `walk_matching::match_leaf` meets its contract, a form at a time.
use Rattle.walk_matching.proofs.LeafLaws.{leaf-asks, leaf-ways, variable_inside, field_inside, key_inside, key_form_low, raw_named}
use borrow.Author.Rules.{rules}
use Rattle.walk_matching.proofs.match_leaf.Goals as goal

pub match_object-requires : goal.match_object-requires
match_object-requires c = search (rules, leaf-asks)

pub match_raw-requires : goal.match_raw-requires
match_raw-requires c = search (rules, leaf-asks)

pub match_constant-requires : goal.match_constant-requires
match_constant-requires c = search (rules, leaf-asks)

pub match_opposite-requires : goal.match_opposite-requires
match_opposite-requires c = search (rules, leaf-asks)

pub match_key_of-requires : goal.match_key_of-requires
match_key_of-requires c = search (rules, leaf-asks)

pub match_signature-requires : goal.match_signature-requires
match_signature-requires c =
    let start = c.requires in record {
      within = start.within;
      word_in_bounds = field_inside _ (search rules) _;
      word_in_bounds_2 = key_inside _ (search rules) _ start.stands_at c.tag.ensures c.in-6.is;
      word_bound = key_form_low start.stands_at c.tag.ensures c.in-6.is;
    }

pub match_hash-requires : goal.match_hash-requires
match_hash-requires c = record {
  within = c.requires.within;
  h_in_bounds = variable_inside _ (search rules) _ _ c.variable-v.ensures;
  r_lt_named_cells = raw_named _ _ c.raw-r.ensures;
}

pub returns-in-0 : goal.returns-in-0
returns-in-0 c = search leaf-ways

pub returns-in-1 : goal.returns-in-1
returns-in-1 c = search leaf-ways

pub returns-in-2 : goal.returns-in-2
returns-in-2 c = search leaf-ways

pub returns-in-3 : goal.returns-in-3
returns-in-3 c = search leaf-ways

pub returns-in-4 : goal.returns-in-4
returns-in-4 c = search leaf-ways

pub returns-in-6 : goal.returns-in-6
returns-in-6 c = search leaf-ways

pub returns-in_default : goal.returns-in_default
returns-in_default c = search leaf-ways
