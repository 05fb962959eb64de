-- The functions of roles and rounds meet their contracts, each by its own crate's proof.
use mathlib.Core.Path.{refl, sym, ◌∙◌}
use Rattle.roles.proofs.compile_role.Met as CompileRole
use Rattle.round_parts.proofs.round_part.Met as RoundPart
use Rattle.rounds.proofs.round_of.Met as RoundOf
use Rattle.rounds.proofs.round.Met as Round
use Rattle.rounds.proofs.take_of.Met as TakeOf
use Rattle.rounds.proofs.take.Met as Take
use Rattle.cram.proofs.role_entry.cram_compile_role.Met as CramRole
use Rattle.cram.proofs.session.cram_round.Met as CramRound
use Rattle.cram.proofs.session.cram_take.Met as CramTake
use Rattle.product.specs.RoleFunctions.{RoleSays, RoleOnce, RoleFunctions}

says : RoleSays
says = record {
  compiles = λ κs lent compiled left learnt. learnt;
  cram_compiles = λ κs lent answer left learnt. learnt;
  parts = λ κs lent part left learnt. learnt;
  plays = λ κs lent ended left learnt. learnt;
  cram_rounds = λ κs lent answer left learnt. learnt;
  hands_over = λ κs lent taken left learnt. learnt;
  cram_takes = λ κs lent answer left learnt. learnt;
}

once : RoleOnce
once = record {
  compiles = λ κs lent one other left also p q. says.compiles κs lent one left p ∙ sym (says.compiles κs lent other also q);
  cram_compiles = λ κs lent one other left also p q. says.cram_compiles κs lent one left p ∙ sym (says.cram_compiles κs lent other also q);
  parts = λ κs lent one other left also p q.
      let e = says.parts κs lent one left p in
      let f = says.parts κs lent other also q in
      (e.0 ∙ sym f.0, e.1 ∙ sym f.1);
  plays = λ κs lent one other left also p q. says.plays κs lent one left p ∙ sym (says.plays κs lent other also q);
  cram_rounds = λ κs lent one other left also p q. says.cram_rounds κs lent one left p ∙ sym (says.cram_rounds κs lent other also q);
  hands_over = λ κs lent one other left also p q. says.hands_over κs lent one left p ∙ sym (says.hands_over κs lent other also q);
  cram_takes = λ κs lent one other left also p q. says.cram_takes κs lent one left p ∙ sym (says.cram_takes κs lent other also q);
}

pub role_functions : {M : Type 1} → RoleFunctions M
role_functions = record {
  compile_role = CompileRole.met;
  cram_compile_role = CramRole.met;
  round_part_lem = RoundPart.met;
  round_of_lem = RoundOf.met;
  round = Round.met;
  cram_round = CramRound.met;
  take_of = TakeOf.met;
  take = Take.met;
  cram_take = CramTake.met;
  says = says;
  in_place = λ 𝓤 𝓛 memory routines. record { rounds = λ κs lent answer left. refl; takes = λ κs lent answer left. refl };
  once = once;
}
