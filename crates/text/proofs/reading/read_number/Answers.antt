use mathlib.Core.Bool.{not}
use mathlib.Core.Path.{ap}
use mathlib.Core.Path.{refl}
use native.Mathlib.Omega.{arith}
use Rattle.text.proofs.ReadStepLaws.{no_bytes, digit_low, digit_high, digit-told, digit_read, number-steps}
use Rattle.text.proofs.reading.read_number.Goals as goal

pub returns-in_err-first : goal.returns-in_err-first
returns-in_err-first c = rw c.from_residual.ensures (no_bytes _ _ _ _ c.in_err-first.ensures.lookup.3)

pub returns-then-not-is_ascii_digit : goal.returns-then-not-is_ascii_digit
returns-then-not-is_ascii_digit c = search number-steps

pub worth-value-requires : goal.worth-value-requires
worth-value-requires c = search digit-told

pub loop-place-init : goal.loop-place-init
loop-place-init c = (refl, search number-steps)

pub returns-then-most-value : goal.returns-then-most-value
returns-then-most-value c = search number-steps

pub returns-then-byte-end : goal.returns-then-byte-end
returns-then-byte-end c = search number-steps

pub returns-then-not-is_ascii_digit-2 : goal.returns-then-not-is_ascii_digit-2
returns-then-not-is_ascii_digit-2 c = search number-steps

pub returns-then-value-eq0 : goal.returns-then-value-eq0
returns-then-value-eq0 c = search number-steps

pub worth-requires : goal.worth-requires
worth-requires c =
    let says = c.is_ascii_digit-in-loop-place.ensures.value in
    (digit_low _ says (ap not c.if-not-is_ascii_digit-2.false), digit_high _ says (ap not c.if-not-is_ascii_digit-2.false))

pub loop-place-preserved : goal.loop-place-preserved
loop-place-preserved c =
    let turn = c.loop-place in
    let inside = c.loop-place-test.true in (
      turn.invariant.0,
      digit_read _ _ _ _ _ _ turn.invariant.1 _ (omega (arith, inside, turn.invariant.0)) c.if-most-value.false
          c.if-byte-end.false c.is_ascii_digit-in-loop-place.ensures.value (ap not c.if-not-is_ascii_digit-2.false) c.if-value-eq0.false c.worth.ensures.0,
    )

pub returns : goal.returns
returns c = search number-steps
