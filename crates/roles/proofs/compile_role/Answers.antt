-- The call's own checks, the halves counted, the room, the rounds written.
use mathlib.Core.Path.{◌≡◌, sym, ◌∙◌}
use mathlib.Core.Bool.{true}
use Prim.Native.Nat.{◌/◌}
use native.Mathlib.Omega.{arith}
use lib.ListN.{length}
use Rattle.answers.specs.Numbers.{compiled_number, compiled_place}
use Rattle.compiler.proofs.OverCells.{not_done}
use Rattle.calls.specs.Role.{RoleLent, sum, role_fits}
use Rattle.role_counting.proofs.LengthLaws.{RoleWithin}
use Rattle.roles.proofs.AnswerLaws.{role_limit, fits_within, fits_sum, role_refused_lem, role_short, role_fit, role_done}
use Rattle.roles.proofs.compile_role.Goals as goal

pub returns-then-not-role_fits : goal.returns-then-not-role_fits
returns-then-not-role_fits c =
    let x : RoleLent = record { rows = c.args.rows.now; counts = c.args.counts.now; kinds = c.args.kinds.now; objects = c.args.objects.now; named = c.args.named.now } in
    role_limit c.args.ends.now c.args.code.now
    x (sym c.role_fits.ensures ∙ c.if-not-role_fits.true)

pub returns-in_default : goal.returns-in_default
returns-in_default c =
    let x : RoleLent = record { rows = c.args.rows.now; counts = c.args.counts.now; kinds = c.args.kinds.now; objects = c.args.objects.now; named = c.args.named.now } in
    let fits : role_fits c.args.ends.now c.args.code.now x ≡ true = sym c.role_fits.ensures ∙ c.if-not-role_fits.false in
    role_refused_lem _ _ x fits _ _
    c.set_cells.ensures c.set_cells-2.ensures
    c.count_words-counted.ensures
    (not_done _ c.in_default.not-Done)

pub returns-then-code-words : goal.returns-then-code-words
returns-then-code-words c =
    let x : RoleLent = record { rows = c.args.rows.now; counts = c.args.counts.now; kinds = c.args.kinds.now; objects = c.args.objects.now; named = c.args.named.now } in
    let fits : role_fits c.args.ends.now c.args.code.now x ≡ true = sym c.role_fits.ensures ∙ c.if-not-role_fits.false in
    let zero : compiled_number c.count_words-counted.result.answer ≡ 0 = rw c.in-Done.is in
    let place : compiled_place c.count_words-counted.result.answer ≡ c.in-Done.words = rw c.in-Done.is in
    rw place at
    (role_short c.args.ends.now c.args.code.now x
    fits _ _ c.set_cells.ensures
    c.set_cells-2.ensures c.count_words-counted.ensures zero
    (omega (arith, c.if-code-words.true, place)))

pub write_rounds-requires : goal.write_rounds-requires
write_rounds-requires c =
    let x : RoleLent = record { rows = c.args.rows.now; counts = c.args.counts.now; kinds = c.args.kinds.now; objects = c.args.objects.now; named = c.args.named.now } in
    let fits : role_fits c.args.ends.now c.args.code.now x ≡ true = sym c.role_fits.ensures ∙ c.if-not-role_fits.false in
    let lengths : RoleWithin (length c.args.counts.now) (length c.args.kinds.now) (length c.args.objects.now) (length c.args.named.now) (length c.args.ends.now) = fits_within c.args.ends.now c.args.code.now x fits in
    let all_rows : sum c.args.counts.now ≡ length c.args.rows.now = fits_sum c.args.ends.now c.args.code.now x fits in
    let zero : compiled_number c.count_words-counted.result.answer ≡ 0 = rw c.in-Done.is in
    let place : compiled_place c.count_words-counted.result.answer ≡ c.in-Done.words = rw c.in-Done.is in
    let l = lengths in
    let a_word_each : length c.args.code.now / 1 ≡ length c.args.code.now = omega arith in record {
      counts_len = (l.even, l.few, omega (arith, l.ends_length), all_rows);
      rounds_fit = rw a_word_each (role_fit c.args.ends.now c.args.code.now x fits _ _
          c.set_cells.ensures
          c.set_cells-2.ensures
          c.count_words-counted.ensures zero
          (omega (arith, c.if-code-words.false, place)));
    }

pub returns : goal.returns
returns c =
    let x : RoleLent = record { rows = c.args.rows.now; counts = c.args.counts.now; kinds = c.args.kinds.now; objects = c.args.objects.now; named = c.args.named.now } in
    let fits : role_fits c.args.ends.now c.args.code.now x ≡ true = sym c.role_fits.ensures ∙ c.if-not-role_fits.false in
    let zero : compiled_number c.count_words-counted.result.answer ≡ 0 = rw c.in-Done.is in
    let place : compiled_place c.count_words-counted.result.answer ≡ c.in-Done.words = rw c.in-Done.is in
    let wrote = c.write_rounds.ensures in
    role_done _ _ x fits _ _
    c.set_cells.ensures
    c.set_cells-2.ensures
    c.count_words-counted.ensures
    zero
    (omega (arith, c.if-code-words.false, place)) wrote.ends_after wrote.code_after
