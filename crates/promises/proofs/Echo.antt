-- The worked round by evaluation, and the figures by what decides a round.
use mathlib.Core.Path.{◌≡◌, refl}
use Rattle.std.specs.Prelude.{Some}
use mathlib.Core.List.{[], ◌∷◌, flat_map}
use mathlib.Core.Bool.{true, false}
use native.Mathlib.Omega.{arith}
use lib.ListN.{replicate}
use Rattle.word.specs.Lowest.{lowest_from, each, one_of}
use Rattle.numbers.specs.Sorts.{as_object}
use Rattle.answers.specs.declared.Compiled.TheVariants.{Done}
use Rattle.code.specs.Instruction as Code
use Rattle.code.specs.Words.{good_word}
use Rattle.code.specs.declared.Instruction.TheVariants.{Decode, Encode}
use Rattle.terms.specs.Row as Row
use Rattle.terms.specs.Rules.{used_rows, known_tag, is_packed, number_fits, parts_below, key_kind_fits, earlier_equal, bad_term_row, bad_term}
use Rattle.stores.specs.Cells.{held, cell_of, store_of, cells_from}
use Rattle.stores.specs.Certificates.{agents_once}
use Rattle.stores.specs.Valid.{kinds_fit, each_variable, valid}
use Rattle.patterns.specs.Row.{pattern_fields}
use Rattle.patterns.specs.Rules as Patterns
use Rattle.patterns.specs.Tree.{patterns_from, patterns_of, pattern_of}
use Rattle.patterns.specs.Kinds.{wrong_kind}
use Rattle.theory.specs.Store.{put}
use Rattle.theory.specs.Machine.{line_at}
use Rattle.theory.specs.Emission.{Env, ok, behind, and_then, add_object, emit}
use Rattle.theory.specs.Meaning.{term_at}
use Rattle.answers.specs.First.{first}
use Rattle.calls.specs.Role.{sum, after_halves, half_then, halves_from, rounds_of, in_turn, ends_from, role}
use Rattle.calls.specs.Half.{undeclared_unknown, declared_known, half}
use Rattle.calls.specs.Run.{state_over, left_by, lines_from}
use Rattle.calls.specs.Frame.{middle, good_round_word, bad_round_word}
use Rattle.calls.specs.Round.{received, answered, sent_by, round}
use Rattle.promises.specs.Reading.{message_before}
use Rattle.promises.specs.Rounds.{RoundAnswers}
use Rattle.promises.specs.Halves.{set_cells, RoundCode, ReadyRound, round_words, answer_after}
use Rattle.promises.specs.Echo.{echo, echo_lent, echo_role, echoed, Echo}
use Rattle.promises.proofs.RoundLaws.{done_steps}
use Rattle.promises.proofs.RoundDecisionLaws.{round_decided}

-- the cells that are set before the round, and between its halves
abbrev before : Env
before = set_cells (received echo_lent)

abbrev between : Env
between = add_object before 0

matching : half false echo.matching echo_lent.kinds before ≡ ok (line_at 0 (Decode (as_object 0)) ∷ []) between
unfolding flat_map lowest_from each one_of kinds_fit pattern_fields Patterns.repeats Patterns.bad_row Patterns.unnamed Patterns.bad_pattern patterns_from
    patterns_of pattern_of wrong_kind put behind and_then emit first undeclared_unknown declared_known half
matching = refl

creating : half true echo.creating echo_lent.kinds between ≡ ok (line_at 0 (Encode (as_object 0)) ∷ []) between
unfolding flat_map lowest_from each one_of kinds_fit pattern_fields Patterns.repeats Patterns.bad_row Patterns.unnamed Patterns.bad_pattern patterns_from
    patterns_of pattern_of wrong_kind put behind and_then emit first undeclared_unknown declared_known half
creating = refl

role_compiled : role (0 ∷ []) (replicate 4 7) echo_role ≡ record { answer = Done 4; half = 0; ends = 4 ∷ []; code = round_words echo }
unfolding sum halves_from half_then after_halves rounds_of in_turn ends_from role Code.word_of flat_map lowest_from each one_of kinds_fit pattern_fields
    Patterns.repeats Patterns.bad_row Patterns.unnamed Patterns.bad_pattern patterns_from patterns_of pattern_of wrong_kind put behind and_then emit first
    undeclared_unknown declared_known half
role_compiled = refl

code : RoundCode echo_lent.kinds before echo between
unfolding Code.word_of
code = record {
  carried = between;
  matches = record { lines = line_at 0 (Decode (as_object 0)) ∷ []; env = between; compiles = matching; words = refl; carries = refl };
  creates = record { lines = line_at 0 (Encode (as_object 0)) ∷ []; env = between; compiles = creating; words = refl; carries = refl };
}

message_held : message_before (received echo_lent) ≡ Some echoed
unfolding term_at held Row.row_of Row.tag_of Row.shape_of
message_held = refl

done : RoundAnswers (round echo_lent (round_words echo)) 0 4 0
unfolding lowest_from each one_of Code.word_of Code.instruction_of good_word Row.row_of Row.tag_of Row.shape_of used_rows known_tag is_packed number_fits
    parts_below key_kind_fits earlier_equal bad_term_row bad_term held cell_of store_of cells_from agents_once kinds_fit each_variable valid put first state_over
    left_by lines_from middle good_round_word bad_round_word answered sent_by round
done = (refl, refl, refl)

answer_held : answer_after (round echo_lent (round_words echo)) ≡ Some echoed
unfolding term_at lowest_from each one_of Code.word_of Code.instruction_of good_word Row.row_of Row.tag_of Row.shape_of used_rows known_tag is_packed number_fits
    parts_below key_kind_fits earlier_equal bad_term_row bad_term held cell_of store_of cells_from agents_once kinds_fit each_variable valid put first state_over
    left_by lines_from middle good_round_word bad_round_word answered sent_by round
answer_held = refl

ready : ReadyRound before echo_lent (round_words echo)
unfolding used_rows Row.row_of
ready =
    let checked = (done_steps echo_lent (round_words echo) done.0).0.checked in
    record {
      valid = record {
        valid = record { within = checked.within.lent; table = checked.table; stores = checked.record_valid.stores };
        used = checked.within.used;
        answer = checked.record_valid.answer;
      };
      cells = refl;
      few = omega arith;
      goes_on = omega arith;
      taken = refl;
      room = record { rows = omega arith; names = omega arith };
    }

pub worked_echo : Echo
worked_echo = record {
  role_compiled = role_compiled;
  next = between;
  code = code;
  ready = ready;
  message_held = message_held;
  done = done;
  leads = ((round_decided echo_lent code ready message_held).finishes echoed _).1 (done, answer_held, refl);
}
