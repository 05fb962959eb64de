-- The steps on copies of the cells, which are copied back where they are done.
use native.Mathlib.Omega.{arith}
use Rattle.rounds.proofs.PlayLaws.{passed, message_small, few_rounds, ready, place_small, round_stops, round_sent}
use Rattle.rounds.proofs.steps.play.Goals as goal

pub overflow_cast-start : goal.overflow_cast-start
overflow_cast-start c = omega (arith, message_small c.requires)

pub copied-requires : goal.copied-requires
copied-requires c = (omega arith, (passed c.requires).valid.within.objects)

pub copied-requires-2 : goal.copied-requires-2
copied-requires-2 c = (omega arith, (passed c.requires).valid.within.messages)

pub overflow_sub-output : goal.overflow_sub-output
overflow_sub-output c = omega (arith, (passed c.requires).within.words)

pub slice_bounds-steps-count : goal.slice_bounds-steps-count
slice_bounds-steps-count c = omega (arith, (passed c.requires).within.words)

pub slice_bounds-steps-start : goal.slice_bounds-steps-start
slice_bounds-steps-start c = omega (arith, (passed c.requires).within.words)

pub steps-ran-requires : goal.steps-ran-requires
steps-ran-requires c = ready c.requires c.copied.ensures c.copied-2.ensures

pub in_round-requires : goal.in_round-requires
in_round-requires c = place_small _ _ c.requires _ _ c.copied.ensures c.copied-2.ensures c.steps-ran.ensures.0

pub returns-in_default : goal.returns-in_default
returns-in_default c =
    round_stops _ _ c.requires _ _ c.copied.ensures c.copied-2.ensures c.steps-ran.ensures.0 c.in_round.ensures c.in_default.not-Done

pub session_after-requires : goal.session_after-requires
session_after-requires c = few_rounds c.requires

pub returns : goal.returns
returns c =
    round_sent _ _ c.requires _ _ c.copied.ensures c.copied-2.ensures c.steps-ran.ensures.0 c.in_round.ensures c.in-Done.is c.steps-ran.ensures.1
    c.session_after.ensures c.copy_from_slice.ensures.after c.copy_from_slice-2.ensures.after
