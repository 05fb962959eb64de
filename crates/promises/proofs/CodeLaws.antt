-- Code that was compiled for cells with the same ones set is the code for the cells that run is lent.
use Prim.Native.Nat.{ℕ}
use mathlib.Core.Path.{◌≡◌, sym, ◌∙◌, ap, subst}
use mathlib.Core.Bool.{Bool}
use mathlib.Core.List.{List}
use lib.ListN.{length, take, length-map}
use Rattle.answers.specs.Numbers.{compiled_place}
use Rattle.answers.specs.declared.Compiled.TheVariants as Compiled
use Rattle.code.specs.Instruction.{word_of}
use Rattle.patterns.specs.Kinds.{RightKinds}
use Rattle.patterns.specs.Tree.{pattern_of}
use Rattle.numbers.specs.Limits.{named_cells, variables}
use Rattle.calls.specs.Compile.{CompileOutcome, code_words, used_part, compiled_code, compile}
use Rattle.numbers.specs.Kinds.{kind_in}
use Rattle.calls.specs.Run.{Lent}
use Rattle.calls.proofs.SetCells.{same_cells}
use Rattle.calls.proofs.Product.{Written, compile_writes}
use Rattle.promises.specs.Answers.{compile_number}
use Rattle.promises.specs.Demand3.{CodeFor}
use Rattle.promises.proofs.CompileLaws.{number_done}

-- the same code as from the cells that run is lent
module _ {create : Bool} {pattern : List ℕ} {x : Lent} {code : List ℕ} (c : CodeFor create pattern x code) (long : length x.kinds ≡ variables) where
  abbrev own : CompileOutcome
  own = compile create pattern x.kinds x.objects (take named_cells x.messages) c.slice

  same_own : compile create pattern x.kinds c.objects c.named c.slice ≡ own
  same_own = same_cells create pattern x.kinds c.objects x.objects c.named (take named_cells x.messages) c.slice c.same_objects c.same_named

  own_done : own.answer ≡ Compiled.Done (compiled_place own.answer)
  own_done = number_done own.answer (subst (λ o. compile_number o ≡ 0) same_own c.done)

  own_part : compiled_code own ≡ code
  own_part = subst (λ o. compiled_code o ≡ code) same_own c.part

  pub written : Written create pattern x.kinds x.objects (take named_cells x.messages) long (compiled_place own.answer) own.code
  written = compile_writes create pattern x.kinds x.objects (take named_cells x.messages) long c.slice (compiled_place own.answer) own_done

  pub right_kinds : RightKinds create (kind_in x.kinds) (pattern_of pattern)
  right_kinds = written.right

  pub own_code : code ≡ code_words written.compiles.lines
  own_code = sym own_part ∙ written.compiles.writes

  -- as many words as compile answered
  counted : compiled_place own.answer ≡ length code
  counted =
      written.compiles.counts ∙ sym (length-map written.compiles.lines (λ l. word_of l.instruction))
      ∙ ap length (sym own_code)

  pub own_answer : own.answer ≡ Compiled.Done (length code)
  own_answer = own_done ∙ ap Compiled.Done counted

  pub own_words : used_part (length code) own.code ≡ code
  own_words = ap (λ n. used_part n own.code) (sym counted) ∙ own_part
