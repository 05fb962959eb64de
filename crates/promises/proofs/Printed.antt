-- The listing that document 01 prints, by evaluation.
use mathlib.Core.Path.{refl}
use mathlib.Core.List.{flat_map}
use Rattle.word.specs.Bytes.{number, bytes_of, words, spelled}
use Rattle.word.specs.Lowest.{lowest_from, each, one_of}
use Rattle.text.specs.Lines.{digits, decimal, spaced, line, word_line}
use Rattle.code.specs.Instruction as Code
use Rattle.code.specs.Words.{good_word, bad_word}
use Rattle.terms.specs.Row as Row
use Rattle.terms.specs.Rules.{used_rows, known_tag, is_packed, number_fits, parts_below, key_kind_fits, earlier_equal, bad_term_row, bad_term}
use Rattle.terms.specs.Finder.{equal_row, locate}
use Rattle.stores.specs.Cells.{held, cell_of, store_of, cells_from}
use Rattle.stores.specs.Certificates.{agent_of, key_of, spare_of, certified, pair_fits, agents_once}
use Rattle.stores.specs.Valid.{kinds_fit, each_variable, declared, valid}
use Rattle.patterns.specs.Pattern.{count}
use Rattle.patterns.specs.Row.{pattern_fields}
use Rattle.patterns.specs.Rules as Patterns
use Rattle.patterns.specs.Tree.{patterns_from, patterns_of, pattern_of}
use Rattle.patterns.specs.Kinds.{wrong_kind}
use Rattle.theory.specs.Store.{put, puts}
use Rattle.theory.specs.World.{creatable}
use Rattle.theory.specs.Machine.{message, set_message, set_messages, messages}
use Rattle.theory.specs.Emission.{behind, and_then, readable, occupied, add_raw, emit}
use Rattle.answers.specs.First.{first}
use Rattle.calls.specs.Compile.{used_part, compile}
use Rattle.calls.specs.Run.{state_over, left_by, lines_from, run}
use Rattle.bundles.specs.Bundle.{header_of, bundle_of, read_bundle}
use Rattle.bundles.specs.Given.{given_by}
use Rattle.printing.specs.Listing.{code_lines, cell_lines, listing}
use Rattle.promises.specs.Listing.{Printed}

pub printed : Printed
unfolding flat_map number bytes_of words spelled lowest_from each one_of digits decimal spaced line word_line Code.word_of Code.instruction_of good_word
    bad_word Row.row_of Row.tag_of Row.shape_of used_rows known_tag is_packed number_fits parts_below key_kind_fits earlier_equal bad_term_row bad_term equal_row
    locate held cell_of store_of cells_from agent_of key_of spare_of certified pair_fits agents_once kinds_fit each_variable declared valid count pattern_fields
    Patterns.repeats Patterns.bad_row Patterns.unnamed Patterns.bad_pattern patterns_from patterns_of pattern_of wrong_kind put puts creatable message
    set_message set_messages messages behind and_then readable occupied add_raw emit first used_part compile state_over left_by lines_from run header_of
    bundle_of read_bundle given_by code_lines cell_lines listing
printed = record { example = refl }
