-- The cases by evaluation, and the figures by demand 3.
use Prim.Native.Nat.{ℕ, ◌-◌}
use mathlib.Core.Path.{◌≡◌, refl, ◌∙◌, ap}
use mathlib.Core.Bool.{Bool, true, false}
use Rattle.std.specs.Prelude.{Some}
use mathlib.Core.List.{List, []}
use native.Mathlib.Omega.{arith}
use lib.ListN.{length, replicate}
use Rattle.word.specs.Lowest.{lowest_from, each, one_of}
use Rattle.answers.specs.declared.Compiled.TheVariants as Compiled
use Rattle.code.specs.Instruction as Code
use Rattle.code.specs.Words.{good_word, bad_word}
use Rattle.terms.specs.Row as Row
use Rattle.terms.specs.Rules.{used_rows, known_tag, is_packed, number_fits, parts_below, key_kind_fits, earlier_equal, bad_term_row, bad_term}
use Rattle.terms.specs.Finder.{equal_row, locate}
use Rattle.stores.specs.Cells.{unset, held, cell_of, store_of, cells_from}
use Rattle.stores.specs.Certificates.{agent_of, key_of, spare_of, certified, pair_fits, agents_once}
use Rattle.stores.specs.Valid.{kinds_fit, each_variable, valid}
use Rattle.theory.specs.Store.{put}
use Rattle.theory.specs.Machine.{message, set_message, set_messages, messages}
use Rattle.theory.specs.Meaning.{term_at}
use Rattle.answers.specs.First.{first}
use Rattle.calls.specs.Compile.{leaves, compiled_code, compile}
use Rattle.calls.specs.Run.{Lent, state_over, left_by, lines_from, run}
use Rattle.calls.specs.Cases.{cells, slice, slice_with, P1_code, P2_code, P9_code}
use Rattle.calls.proofs.Cases.{worked}
use Rattle.calls.proofs.CompileLaws.{part_written}
use Rattle.promises.specs.Answers.{RunAnswers, compile_number}
use Rattle.promises.specs.Reading.{message_before, message_after}
use Rattle.promises.specs.Demand3.{CodeFor, Prepared}
use Rattle.promises.specs.Example.{P1_pattern, P1_lent, P1_message, P2_pattern, P2_lent, P2_message, P9_pattern, P9_lent, P9_message, Example}
use Rattle.promises.proofs.NumberLaws.{run_table}
use Rattle.promises.proofs.DecisionLaws.{decided_match, decided_creation}

P1_run : RunAnswers (run P1_lent P1_code) 0 6 0
unfolding lowest_from each one_of Code.word_of Code.instruction_of good_word bad_word Row.row_of Row.tag_of Row.shape_of used_rows known_tag is_packed number_fits
    parts_below key_kind_fits earlier_equal bad_term_row bad_term equal_row locate held cell_of store_of cells_from agent_of key_of spare_of certified pair_fits
    agents_once kinds_fit each_variable valid put message set_message set_messages messages first state_over left_by lines_from run
P1_run = (refl, refl, refl)

P9_run : RunAnswers (run P9_lent P9_code) 10 1 4
unfolding lowest_from each one_of Code.word_of Code.instruction_of good_word bad_word Row.row_of Row.tag_of Row.shape_of used_rows known_tag is_packed number_fits
    parts_below key_kind_fits earlier_equal bad_term_row bad_term equal_row locate held cell_of store_of cells_from agent_of key_of spare_of certified pair_fits
    agents_once kinds_fit each_variable valid put message set_message set_messages messages first state_over left_by lines_from run
P9_run = (refl, refl, refl)

P2_run : RunAnswers (run P2_lent P2_code) 0 6 0
P2_run = let e = worked.0.P2_run in rw e (refl, refl, refl)

P1_held : message_before P1_lent ≡ Some P1_message
unfolding term_at held Row.row_of Row.tag_of Row.shape_of
P1_held = refl

P9_held : message_before P9_lent ≡ Some P9_message
unfolding term_at held Row.row_of Row.tag_of Row.shape_of
P9_held = refl

P2_held : message_after (run P2_lent P2_code) ≡ Some P2_message
unfolding term_at held Row.row_of Row.tag_of Row.shape_of
P2_held = let e = worked.0.P2_run in rw e refl

-- code that was compiled with all cells unset is for a run with all cells unset
compiled : {create : Bool} {pattern code : List ℕ} {x : Lent} → x.objects ≡ cells [] → x.messages ≡ replicate 256 unset
    → compile create pattern x.kinds (cells []) (cells []) slice ≡ leaves (Compiled.Done (length code)) (slice_with code) → CodeFor create pattern x code
compiled {code = code} objects messages e = record {
  objects = cells [];
  named = cells [];
  slice = slice;
  done = ap compile_number e;
  part = ap compiled_code e ∙ part_written code (replicate (12 - length code) 7);
  same_objects = rw objects (record { same_length = refl; same_set = λ i. refl });
  same_named = rw messages (record { same_length = refl; same_set = λ i. refl });
}

P1_prepared : Prepared false P1_pattern P1_lent P1_code
unfolding used_rows Row.row_of
P1_prepared = record {
  compiled = compiled refl refl worked.0.P1;
  valid = (((run_table P1_lent P1_code).done 6).0 P1_run).0.valid;
  room = record { rows = omega arith; names = omega arith };
}

P2_prepared : Prepared true P2_pattern P2_lent P2_code
unfolding used_rows
P2_prepared = record {
  compiled = compiled refl refl worked.0.P2;
  valid = (((run_table P2_lent P2_code).done 6).0 P2_run).0.valid;
  room = record { rows = omega arith; names = omega arith };
}

P9_prepared : Prepared false P9_pattern P9_lent P9_code
unfolding used_rows Row.row_of
P9_prepared = record {
  compiled = compiled refl refl worked.0.P9;
  valid = (((run_table P9_lent P9_code).stuck 1 4).0 P9_run).0.valid;
  room = record { rows = omega arith; names = omega arith };
}

pub example : Example
example = record {
  P1_prepared = P1_prepared;
  P1_message_held = P1_held;
  P1_matches = ((decided_match P1_prepared P1_held).finishes _).1 (P1_run, refl);
  P2_prepared = P2_prepared;
  P2_creates = ((decided_creation P2_prepared).finishes P2_message _).1 (P2_run, P2_held, refl);
  P9_prepared = P9_prepared;
  P9_message_held = P9_held;
  P9_stuck = P9_run;
  P9_nowhere = (decided_match P9_prepared P9_held).stuck.0 P9_run.0;
}
