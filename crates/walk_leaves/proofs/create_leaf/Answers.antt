-- `walk_leaves::create_leaf` meets its contract, form by form.
use Rattle.walk_leaves.proofs.FormLaws.{raw_low}
use Rattle.walk_leaves.proofs.LeafLaws.{leaf_object, leaf_raw, leaf_constant, leaf_opposite, leaf_key_of, leaf_hash}
use mathlib.Core.Path.{sym, ◌∙◌}
use native.Mathlib.Omega.{arith}
use Rattle.patterns.proofs.StandingLaws.{variable_low, second_low}
use borrow.Author.Rules.{rules}
use Rattle.walk_leaves.proofs.create_leaf.Goals as goal

pub get_variable-requires : goal.get_variable-requires
get_variable-requires c = record {
  within = c.requires.within;
  v_in_bounds = omega (arith, c.requires.objects_len, variable_low _ _ c.variable-v.ensures);
}

pub create_raw-requires : goal.create_raw-requires
create_raw-requires c = search (rules, raw_low)

pub make_value-requires : goal.make_value-requires
make_value-requires c = record {
  within = c.requires.within;
  v_in_bounds = omega (arith, c.requires.objects_len, variable_low _ _ c.variable-v.ensures);
}

pub create_opposite-requires : goal.create_opposite-requires
create_opposite-requires c = record {
  within = c.requires.within;
  public_in_bounds = (
    omega (arith, c.requires.objects_len, variable_low _ _ c.variable-v.ensures),
    omega (arith, c.requires.objects_len, second_low _ _ c.y-y.ensures),
  );
}

pub certified_key-requires : goal.certified_key-requires
certified_key-requires c = record {
  within = c.requires.within;
  key_in_bounds = omega (arith, c.requires.objects_len, variable_low _ _ c.variable-v.ensures);
}

pub create_signature-requires : goal.create_signature-requires
create_signature-requires c = let s = c.requires in record { stands_at = s.stands_at; word_value = sym c.tag.ensures ∙ c.in-6.is; within = s.within; objects_len = s.objects_len }

pub create_hash-requires : goal.create_hash-requires
create_hash-requires c = record {
  within = c.requires.within;
  h_in_bounds = (
    omega (arith, c.requires.objects_len, variable_low _ _ c.variable-v.ensures),
    raw_low _ _ c.raw-r.ensures,
  );
}

pub returns-in-0 : goal.returns-in-0
returns-in-0 c =
    leaf_object _ _ _ _ _ _ _ c.requires.stands_at _ _ _ c.tag.ensures _ c.variable-v.ensures
    c.in-0.is c.get_variable.ensures

pub returns-in-1 : goal.returns-in-1
returns-in-1 c =
    leaf_raw _ _ _ _ _ _ _ c.requires.stands_at _ _ _ c.tag.ensures
    _ c.raw-r.ensures c.in-1.is c.requires.within c.create_raw.ensures

pub returns-in-2 : goal.returns-in-2
returns-in-2 c =
    leaf_constant _ _ _ _ _ _ _ c.requires.stands_at _ _ _ c.tag.ensures _ c.variable-v.ensures
    _ c.byte.ensures _ c.byte-made.ensures c.in-2.is c.make_value.ensures

pub returns-in-3 : goal.returns-in-3
returns-in-3 c =
    leaf_opposite _ _ _ _ _ _ _ c.requires.stands_at _ _ _ c.tag.ensures _ c.variable-v.ensures
    _ c.y-y.ensures c.in-3.is c.create_opposite.ensures

pub returns-in-4 : goal.returns-in-4
returns-in-4 c =
    leaf_key_of _ _ _ _ _ _ _ c.requires.stands_at _ _ _ c.tag.ensures _ c.variable-v.ensures
    _ c.y-y.ensures c.in-4.is c.certified_key.ensures

pub returns-in_default : goal.returns-in_default
returns-in_default c =
    leaf_hash _ _ _ _ _ _ _ c.requires.stands_at _ _ _ c.tag.ensures _ c.variable-v.ensures
    _ c.raw-r.ensures c.requires.leaf (λ h. omega arith) (λ h. omega arith) (λ h. omega arith)
    (λ h. omega arith) (λ h. omega arith) (λ h. omega arith) c.create_hash.ensures
