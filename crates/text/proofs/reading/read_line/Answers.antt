use Rattle.text.proofs.ReadStepLaws.{is_read, not_read, stop_first, stop_second, stop_third, stop_fourth, stop_fifth, whole_line}
use Rattle.text.proofs.reading.read_line.Goals as goal

pub returns-in_err-first : goal.returns-in_err-first
returns-in_err-first c = rw c.from_residual.ensures (stop_first _ _ c.args.at (not_read c.read_number.ensures c.in_err-first.was))

pub returns-in_err-second : goal.returns-in_err-second
returns-in_err-second c =
    rw c.from_residual-in_err-second.ensures
    (stop_second _ _ c.args.at
    (is_read c.read_number.ensures c.in_ok-first.was)
    (not_read c.read_number-2.ensures c.in_err-second.was))

pub returns-in_err-third : goal.returns-in_err-third
returns-in_err-third c =
    rw c.from_residual-in_err-third.ensures
    (stop_third _ _ c.args.at
    (is_read c.read_number.ensures c.in_ok-first.was)
    (is_read c.read_number-2.ensures c.in_ok-second.was)
    (not_read c.read_number-3.ensures c.in_err-third.was))

pub returns-in_err-fourth : goal.returns-in_err-fourth
returns-in_err-fourth c =
    rw c.from_residual-in_err-fourth.ensures
    (stop_fourth _ _ c.args.at
    (is_read c.read_number.ensures c.in_ok-first.was)
    (is_read c.read_number-2.ensures c.in_ok-second.was)
    (is_read c.read_number-3.ensures c.in_ok-third.was)
    (not_read c.read_number-4.ensures c.in_err-fourth.was))

pub read_number-requires-5 : goal.read_number-requires-5
read_number-requires-5 c = c.requires.1.1.1.1.0

pub returns-in_err-fifth : goal.returns-in_err-fifth
returns-in_err-fifth c =
    rw c.from_residual-in_err-fifth.ensures
    (stop_fifth _ _ c.args.at
    (is_read c.read_number.ensures c.in_ok-first.was)
    (is_read c.read_number-2.ensures c.in_ok-second.was)
    (is_read c.read_number-3.ensures c.in_ok-third.was)
    (is_read c.read_number-4.ensures c.in_ok-fourth.was)
    (not_read c.read_number-5.ensures c.in_err-fifth.was))

pub returns : goal.returns
returns c =
    whole_line _ _ c.args.at
    (is_read c.read_number.ensures c.in_ok-first.was)
    (is_read c.read_number-2.ensures c.in_ok-second.was)
    (is_read c.read_number-3.ensures c.in_ok-third.was)
    (is_read c.read_number-4.ensures c.in_ok-fourth.was)
    (is_read c.read_number-5.ensures c.in_ok-fifth.was)
    (rw c.in_ok-fifth.was at c.read_number-5.ensures.inside)
