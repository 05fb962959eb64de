-- The functions meet their contracts, each by its own crate's proof.
use mathlib.Core.Path.{sym, ◌∙◌, ap}
use Rattle.looking.specs.Found.{used_with}
use Rattle.compiler.proofs.compile.Met as Compile
use Rattle.delivery.proofs.used.Met as Used
use Rattle.running.proofs.run.Met as Run
use Rattle.bundles.proofs.open.Met as Open
use Rattle.cram.proofs.cram_compile.Met as CramCompile
use Rattle.cram.proofs.cram_run.Met as CramRun
use Rattle.product.specs.Functions.{Says, Once, Functions}

says : Says
says = record {
  compiles = λ κs lent answer left learnt. learnt;
  uses = λ κs lent part left learnt. learnt;
  runs = λ κs lent ended left learnt. learnt;
  opens = λ κs lent found left learnt. learnt;
  cram_compiles = λ κs lent answer left learnt. learnt;
  cram_runs = λ κs lent answer left learnt. learnt;
}

once : Once
once = record {
  compiles = λ κs lent one other left also p q. says.compiles κs lent one left p ∙ sym (says.compiles κs lent other also q);
  uses = λ κs lent one other left also p q.
      let e = says.uses κs lent one left p in
      let f = says.uses κs lent other also q in
      (e.0 ∙ sym f.0, e.1 ∙ sym f.1);
  runs = λ κs lent one other left also p q.
      let e = says.runs κs lent one left p in
      let f = says.runs κs lent other also q in
      let same = e.0 ∙ sym f.0 in
      (same, e.1 ∙ ap (λ o. used_with o.answer o.terms) same ∙ sym f.1);
  opens = λ κs lent one other left also p q. says.opens κs lent one left p ∙ sym (says.opens κs lent other also q);
  cram_compiles = λ κs lent one other left also p q. says.cram_compiles κs lent one left p ∙ sym (says.cram_compiles κs lent other also q);
  cram_runs = λ κs lent one other left also p q. says.cram_runs κs lent one left p ∙ sym (says.cram_runs κs lent other also q);
}

pub functions : {M : Type 1} → Functions M
functions = record {
  compile = Compile.met;
  used = Used.met;
  run = Run.met;
  open_bundle = Open.met;
  cram_compile = CramCompile.met;
  cram_run = CramRun.met;
  says = says;
  once = once;
}
