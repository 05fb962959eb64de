-- The engine's cases by evaluation; what it answers says that nothing is refused.
use Prim.Native.Nat.{ℕ}
use mathlib.Core.Path.{◌≡◌, refl, ◌∙◌, ap}
use mathlib.Core.Bool.{Bool, true, false}
use mathlib.Core.List.{List, flat_map}
use native.Mathlib.Omega.{arith}
use Rattle.word.specs.Lowest.{lowest_from, each, one_of}
use Rattle.answers.specs.Numbers.{compiled_number, compiled_place}
use Rattle.answers.specs.DirectNumbers.{direct_number, direct_place, direct_reason}
use Rattle.answers.specs.declared.Compiled.TheVariants as Compiled
use Rattle.answers.specs.declared.direct.Direct.TheVariants.{Done}
use Rattle.answers.specs.First.{first}
use Rattle.code.specs.Instruction as Code
use Rattle.code.specs.Words.{good_word, bad_word}
use Rattle.terms.specs.Row as Row
use Rattle.terms.specs.Rules.{used_rows, known_tag, is_packed, number_fits, parts_below, key_kind_fits, earlier_equal, bad_term_row, bad_term}
use Rattle.terms.specs.Finder.{equal_row, locate}
use Rattle.stores.specs.Cells.{held, cell_of, store_of, cells_from}
use Rattle.stores.specs.Certificates.{agent_of, key_of, spare_of, certified, pair_fits, agents_once}
use Rattle.stores.specs.Valid.{kinds_fit, each_variable, declared, valid}
use Rattle.patterns.specs.Pattern.{count}
use Rattle.patterns.specs.Row.{pattern_fields}
use Rattle.patterns.specs.Rules as Patterns
use Rattle.patterns.specs.Tree.{patterns_from, patterns_of, pattern_of}
use Rattle.patterns.specs.Kinds.{wrong_kind}
use Rattle.theory.specs.Store.{put, puts}
use Rattle.theory.specs.World.{creatable}
use Rattle.theory.specs.Machine.{message, set_message, set_messages, messages}
use Rattle.theory.specs.Emission.{behind, and_then, readable, occupied, add_raw, emit}
use Rattle.calls.specs.Compile.{leaves, used_part, compile}
use Rattle.calls.specs.Run.{Lent, state_over, left_by, lines_from, run}
use Rattle.calls.specs.Direct.{DirectOutcome, direct}
use Rattle.calls.specs.CompileThenRun.{lent_to_run}
use Rattle.calls.specs.Cases.{slice}
use Rattle.calls.proofs.Cases.{worked}
use Rattle.promises.specs.Example.{P1_pattern, P2_pattern}
use Rattle.promises.specs.Conditions.{Valid}
use Rattle.promises.specs.Straight.{Compilable}
use Rattle.promises.specs.StraightCases.{P1_bench, P2_bench, StraightCases}
use Rattle.promises.proofs.NumberLaws.{compile_table}
use Rattle.promises.proofs.StraightTable.{straight_table}

-- code of so many words is emitted for the bench's cells, all of them unset
abbrev compiled : (creates : Bool) (pattern : List ℕ) (x : Lent) (words : ℕ) (code : List ℕ)
    → compile creates pattern x.kinds x.objects x.messages slice ≡ leaves (Compiled.Done words) code → Compilable creates pattern x
compiled creates pattern x words code e =
    let (c, E, _) =
    ((compile_table creates pattern x.kinds x.objects x.messages slice).done words).0
    (ap (λ o. compiled_number o.answer) e, ap (λ o. compiled_place o.answer) e) in
    record { checked = c; words = words; emits = E }

-- where the engine is done, what was lent is valid
bench_valid : (creates : Bool) (pattern : List ℕ) (x : Lent) (o : DirectOutcome) → direct creates pattern x ≡ o → o.answer ≡ Done → Valid (lent_to_run x)
bench_valid creates pattern x o e d =
    let answer : (direct creates pattern x).answer ≡ Done = ap (λ o. o.answer) e ∙ d in
    ((straight_table creates pattern x).finishes.0 (ap direct_number answer, ap direct_place answer, ap direct_reason answer)).0.valid

-- by evaluation
pub straight_cases : StraightCases
unfolding flat_map lowest_from each one_of Code.word_of Code.instruction_of good_word bad_word Row.row_of Row.tag_of Row.shape_of used_rows known_tag is_packed
    number_fits parts_below key_kind_fits earlier_equal bad_term_row bad_term equal_row locate held cell_of store_of cells_from agent_of key_of spare_of certified
    pair_fits agents_once kinds_fit each_variable declared valid count pattern_fields Patterns.repeats Patterns.bad_row Patterns.unnamed Patterns.bad_pattern
    patterns_from patterns_of pattern_of wrong_kind put puts creatable message set_message set_messages messages behind and_then readable occupied add_raw
    emit first used_part compile state_over left_by lines_from run direct
straight_cases = record {
  P1 = refl;
  P2 = refl;
  P9 = refl;
  P10 = refl;
  second_part = refl;
  second_part_word = (refl, refl, refl);
  no_message = refl;
  P5 = refl;
  no_room = refl;
  P1_roomy = record {
    asked = record { compilable = compiled false P1_pattern P1_bench 6 _ worked.0.P1; valid = bench_valid false P1_pattern P1_bench _ refl refl };
    room = record { rows = omega arith; names = omega arith };
  };
  P2_roomy = record {
    asked = record { compilable = compiled true P2_pattern P2_bench 6 _ worked.0.P2; valid = bench_valid true P2_pattern P2_bench _ refl refl };
    room = record { rows = omega arith; names = omega arith };
  };
}
