-- Each case is settled by evaluation.
use mathlib.Core.Path.{refl}
use mathlib.Core.List.{flat_map}
use Rattle.word.specs.Lowest.{lowest_from, each, one_of}
use Rattle.code.specs.Instruction as Code
use Rattle.code.specs.Words.{good_word, bad_word}
use Rattle.terms.specs.Row as Row
use Rattle.terms.specs.Rules.{used_rows, known_tag, is_packed, number_fits, parts_below, key_kind_fits, earlier_equal, bad_term_row, bad_term}
use Rattle.terms.specs.Finder.{equal_row, locate}
use Rattle.stores.specs.Cells.{held, cell_of, store_of, cells_from}
use Rattle.stores.specs.Certificates.{agent_of, key_of, spare_of, certified, pair_fits, agents_once}
use Rattle.stores.specs.Valid.{kinds_fit, each_variable, declared, valid}
use Rattle.patterns.specs.Pattern.{count}
use Rattle.patterns.specs.Row.{pattern_fields}
use Rattle.patterns.specs.Rules as Patterns
use Rattle.patterns.specs.Tree.{patterns_from, patterns_of, pattern_of}
use Rattle.patterns.specs.Kinds.{wrong_kind}
use Rattle.theory.specs.Store.{put, puts}
use Rattle.theory.specs.World.{creatable}
use Rattle.theory.specs.Machine.{message, set_message, set_messages, messages}
use Rattle.theory.specs.Emission.{behind, and_then, readable, occupied, add_raw, emit}
use Rattle.answers.specs.First.{first}
use Rattle.calls.specs.Compile.{used_part, compile}
use Rattle.calls.specs.Run.{state_over, left_by, lines_from, run}
use Rattle.calls.specs.Cases.{Cases}
use Rattle.calls.specs.Orders.{Orders, Corners}

pub worked : Cases × Orders × Corners
unfolding flat_map lowest_from each one_of Code.word_of Code.instruction_of good_word bad_word Row.row_of Row.tag_of Row.shape_of used_rows known_tag is_packed
    number_fits parts_below key_kind_fits earlier_equal bad_term_row bad_term equal_row locate held cell_of store_of cells_from agent_of key_of spare_of certified
    pair_fits agents_once kinds_fit each_variable declared valid count pattern_fields Patterns.repeats Patterns.bad_row Patterns.unnamed Patterns.bad_pattern
    patterns_from patterns_of pattern_of wrong_kind put puts creatable message set_message set_messages messages behind and_then readable occupied add_raw
    emit first used_part compile state_over left_by lines_from run
worked = (
  record {
    P1 = refl;
    P2 = refl;
    P2_run = refl;
    P3 = refl;
    P4 = refl;
    P5 = refl;
    P6 = refl;
    P6_set = refl;
    P7 = refl;
    P8 = refl;
    P9 = refl;
    P9_run = refl;
    P9_stuck = refl;
    P10 = refl;
    P10_run = refl;
  },
  record {
    object_created = (refl, refl);
    raw_created = refl;
    constant_matched = refl;
    op_matched = (refl, refl);
    key_of_both = (refl, refl);
    encryption_matched = (refl, refl);
    encryption_created = (refl, refl);
    encryption_op = refl;
    encryption_key_of = refl;
    signature_both = (refl, refl);
    signature_op = (refl, refl);
    signature_key_of = (refl, refl);
    hash_both = (refl, refl);
    tuple_both = (refl, refl);
    let_both = (refl, refl);
  },
  record {
    empty_tuple = refl;
    created_tuple = refl;
    hash_matched = refl;
    child_twice = refl;
    child_taken = refl;
    child_missing = refl;
    hole = refl;
    equal_rows = refl;
    full_table = refl;
    border = refl;
  },
)
