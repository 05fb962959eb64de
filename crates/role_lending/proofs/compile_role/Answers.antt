-- The lengths of the bytes, the call's own checks, the halves counted, the room, the rounds written.
use mathlib.Core.Path.{◌≡◌, refl, sym, ◌∙◌}
use native.Mathlib.Omega.{arith}
use Rattle.word.specs.Bytes.{elements}
use Rattle.word.proofs.ByteLaws.{Below}
use Rattle.answers.specs.Numbers.{compiled_number, compiled_place}
use Rattle.compiler.proofs.OverCells.{not_done}
use Rattle.calls.specs.Role.{RoleLent}
use Rattle.roles.proofs.AnswerLaws.{role_limit, role_refused_lem, role_short, role_fit, role_done}
use Rattle.role_lending.specs.RoleEntry.{role_elements}
use Rattle.role_lending.proofs.EntryLaws.{fits_bytes, fitting, tested, laid_words, entry_kept, entry_written, entry_limit}
use Rattle.role_lending.proofs.compile_role.Goals as goal

pub returns-then-not-lengths_fit : goal.returns-then-not-lengths_fit
returns-then-not-lengths_fit c =
    rw c.numbers.ensures
    (entry_limit _ _ _ (λ place. (c.type_inv.ends place).fits) (λ place. (c.type_inv.code place).fits) (sym c.lengths_fit.ensures ∙ c.if-not-lengths_fit.true))

pub returns-then-not-role_fits : goal.returns-then-not-role_fits
returns-then-not-role_fits c =
    let x : RoleLent = record { rows = c.args.rows.now; counts = c.args.counts.now; kinds = c.args.kinds.now; objects = c.args.objects.now; named = c.args.named.now } in
    rw c.numbers-then-not-role_fits.ensures
    (entry_kept _ _ x (λ place. (c.type_inv.ends place).fits) (λ place. (c.type_inv.code place).fits)
    (fitting _ _ _ (sym c.lengths_fit.ensures ∙ c.if-not-lengths_fit.false))
    (role_limit _ _ (role_elements x) (fits_bytes c.args.ends.now c.args.code.now x ∙ sym c.role_fits.ensures ∙ c.if-not-role_fits.true)))

pub cells-object_cells-requires : goal.cells-object_cells-requires
cells-object_cells-requires c =
    let x : RoleLent = record { rows = c.args.rows.now; counts = c.args.counts.now; kinds = c.args.kinds.now; objects = c.args.objects.now; named = c.args.named.now } in
    (omega arith, (fitting c.args.ends.now c.args.code.now x (sym c.lengths_fit.ensures ∙ c.if-not-lengths_fit.false)).object_bytes)

pub cells-named_cells-requires : goal.cells-named_cells-requires
cells-named_cells-requires c =
    let x : RoleLent = record { rows = c.args.rows.now; counts = c.args.counts.now; kinds = c.args.kinds.now; objects = c.args.objects.now; named = c.args.named.now } in
    (omega arith, (fitting c.args.ends.now c.args.code.now x (sym c.lengths_fit.ensures ∙ c.if-not-lengths_fit.false)).named_bytes)

pub count_words-counted-requires : goal.count_words-counted-requires
count_words-counted-requires c =
    let x : RoleLent = record { rows = c.args.rows.now; counts = c.args.counts.now; kinds = c.args.kinds.now; objects = c.args.objects.now; named = c.args.named.now } in
    let t = tested c.args.ends.now c.args.code.now x (sym c.lengths_fit.ensures ∙ c.if-not-lengths_fit.false) (sym c.role_fits.ensures ∙ c.if-not-role_fits.false) in
    (t.counts_even, t.counts_few, t.all_rows)

pub returns-in_default : goal.returns-in_default
returns-in_default c =
    let x : RoleLent = record { rows = c.args.rows.now; counts = c.args.counts.now; kinds = c.args.kinds.now; objects = c.args.objects.now; named = c.args.named.now } in
    let t = tested c.args.ends.now c.args.code.now x (sym c.lengths_fit.ensures ∙ c.if-not-lengths_fit.false) (sym c.role_fits.ensures ∙ c.if-not-role_fits.false) in
    rw c.numbers-in_default.ensures
    (entry_kept _ _ x (λ place. (c.type_inv.ends place).fits) (λ place. (c.type_inv.code place).fits) t.bytes
    (role_refused_lem _ _ (role_elements x) t.all_fit _ _ (rw c.cells-object_cells.ensures at c.set_cells.ensures) (rw c.cells-named_cells.ensures at c.set_cells-2.ensures)
    c.count_words-counted.ensures (not_done _ c.in_default.not-Done)))

pub returns-then-code-words : goal.returns-then-code-words
returns-then-code-words c =
    let x : RoleLent = record { rows = c.args.rows.now; counts = c.args.counts.now; kinds = c.args.kinds.now; objects = c.args.objects.now; named = c.args.named.now } in
    let t = tested c.args.ends.now c.args.code.now x (sym c.lengths_fit.ensures ∙ c.if-not-lengths_fit.false) (sym c.role_fits.ensures ∙ c.if-not-role_fits.false) in
    let zero : compiled_number c.count_words-counted.result.answer ≡ 0 = rw c.in-Done.is in
    let place : compiled_place c.count_words-counted.result.answer ≡ c.in-Done.words = rw c.in-Done.is in
    rw c.numbers-then-code-words.ensures
    (rw place at (entry_kept _ _ x (λ place. (c.type_inv.ends place).fits) (λ place. (c.type_inv.code place).fits) t.bytes
    (role_short _ _ (role_elements x) t.all_fit _ _ (rw c.cells-object_cells.ensures at c.set_cells.ensures) (rw c.cells-named_cells.ensures at c.set_cells-2.ensures)
    c.count_words-counted.ensures zero (omega (arith, c.if-code-words.true, place, t.word_count)))))

pub write_rounds-requires : goal.write_rounds-requires
write_rounds-requires c =
    let x : RoleLent = record { rows = c.args.rows.now; counts = c.args.counts.now; kinds = c.args.kinds.now; objects = c.args.objects.now; named = c.args.named.now } in
    let t = tested c.args.ends.now c.args.code.now x (sym c.lengths_fit.ensures ∙ c.if-not-lengths_fit.false) (sym c.role_fits.ensures ∙ c.if-not-role_fits.false) in
    let zero : compiled_number c.count_words-counted.result.answer ≡ 0 = rw c.in-Done.is in
    let place : compiled_place c.count_words-counted.result.answer ≡ c.in-Done.words = rw c.in-Done.is in
    record {
      counts_len = (t.counts_even, t.counts_few, t.two_bytes_an_end, t.all_rows);
      rounds_fit = rw t.word_count at (role_fit (elements 2 c.args.ends.now) (elements 4 c.args.code.now) (role_elements x) t.all_fit _ _ (rw c.cells-object_cells.ensures at c.set_cells.ensures) (rw c.cells-named_cells.ensures at c.set_cells-2.ensures)
          c.count_words-counted.ensures zero (omega (arith, c.if-code-words.false, place, t.word_count)));
    }

pub returns : goal.returns
returns c =
    let x : RoleLent = record { rows = c.args.rows.now; counts = c.args.counts.now; kinds = c.args.kinds.now; objects = c.args.objects.now; named = c.args.named.now } in
    let t = tested c.args.ends.now c.args.code.now x (sym c.lengths_fit.ensures ∙ c.if-not-lengths_fit.false) (sym c.role_fits.ensures ∙ c.if-not-role_fits.false) in
    let zero : compiled_number c.count_words-counted.result.answer ≡ 0 = rw c.in-Done.is in
    let place : compiled_place c.count_words-counted.result.answer ≡ c.in-Done.words = rw c.in-Done.is in
    let ends_below : Below 256 c.args.ends.now = λ i. (c.slice_known-1.given i).fits in
    let code_below : Below 256 c.args.code.now = λ i. (c.slice_known-2-1.given i).fits in
    rw c.numbers-2.ensures
    (entry_written _ _ x ends_below code_below t.bytes
    (role_done _ _ (role_elements x) t.all_fit _ _ (rw c.cells-object_cells.ensures at c.set_cells.ensures) (rw c.cells-named_cells.ensures at c.set_cells-2.ensures)
    c.count_words-counted.ensures zero (omega (arith, c.if-code-words.false, place, t.word_count)) refl refl)
    c.write_rounds.ensures.ends_after
    (c.write_rounds.ensures.code_after ∙ laid_words _ _ x ends_below code_below t.bytes _))
