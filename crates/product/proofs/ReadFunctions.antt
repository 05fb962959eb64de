-- The functions that read a listing back meet their contracts, each by its own crate's proof.
use mathlib.Core.Path.{sym, ◌∙◌}
use Rattle.code_reading.proofs.read_code.Met as ReadCode
use Rattle.cram.proofs.reading.cram_read_listing.Met as CramRead
use Rattle.product.specs.ReadFunctions.{ReadSays, ReadOnce, ReadFunctions}

says : ReadSays
says = record { reads = λ κs lent answer left learnt. learnt; cram_reads = λ κs lent answer left learnt. learnt }

once : ReadOnce
once = record {
  reads = λ κs lent one other left also p q. says.reads κs lent one left p ∙ sym (says.reads κs lent other also q);
  cram_reads = λ κs lent one other left also p q. says.cram_reads κs lent one left p ∙ sym (says.cram_reads κs lent other also q);
}

pub read_functions : {M : Type 1} → ReadFunctions M
read_functions = record { read_code_lem = ReadCode.met; cram_read_listing = CramRead.met; says = says; once = once }
