-- `walk_leaves::create_signature` meets its contract, a way out at a time.
use Rattle.patterns.proofs.StandingLaws.{signature_key, variable_low}
use native.Mathlib.Omega.{arith}
use Rattle.walks.proofs.AskedLaws.{set_read, set_ends}
use Rattle.walk_leaves.proofs.FormLaws.{key_asks, sign_ended, sign_unset, sign_sealed}
use Rattle.walk_leaves.proofs.create_signature.Goals as goal

pub create_key-requires : goal.create_key-requires
create_key-requires c = let s = c.requires in record { word_bound = signature_key s.stands_at s.word_value; within = s.within; objects_len = s.objects_len }

pub seal-requires : goal.seal-requires
seal-requires c =
    let asked = key_asks _ _ _ _ _ _ _ _ _ _ c.create_key.ensures _ c.in_ok-next.was c.requires.within c.requires.objects_len in
    record { within = asked.0; v_in_bounds = omega (arith, asked.1, variable_low _ _ c.variable-s.ensures) }

pub returns-in_err-next : goal.returns-in_err-next
returns-in_err-next c =
    let s = c.requires in
    sign_ended _ _ _ _ _ _ _ s.stands_at s.word_value _ c.variable-s.ensures _ c.raw-r.ensures _ _ _ _ _ c.create_key.ensures c.in_err-next.was c.from_residual.ensures.1

pub returns-in_err-body : goal.returns-in_err-body
returns-in_err-body c =
    let s = c.requires in
    let (e, ends) = set_ends c.args.row c.set_row.ensures c.asked_at.ensures c.in_err-body.was c.from_residual-in_err-body.ensures.1 in
    rw ends (sign_unset _ _ _ _ _ _ _ s.stands_at s.word_value _ c.variable-s.ensures _ c.raw-r.ensures _ _ _ _ _ c.create_key.ensures
    _ c.in_ok-next.was _ c.message_at.ensures e)

pub returns : goal.returns
returns c =
    let s = c.requires in
    let (is_row, read) = set_read c.args.row c.set_row.ensures c.asked_at.ensures c.message_at.ensures c.in_ok-body.was in
    sign_sealed _ _ _ _ _ _ _ s.stands_at s.word_value _ c.variable-s.ensures _ c.raw-r.ensures _ _ _ _ _ c.create_key.ensures
    _ c.in_ok-next.was _ read is_row _ c.sign-signature.ensures c.seal.ensures
