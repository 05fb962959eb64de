use Rattle.code.proofs.ReadLaws.{reads_as, reads_none}
use Rattle.code.proofs.instruction_of.Goals as goal

pub returns-in-2 : goal.returns-in-2
returns-in-2 c = search reads_as

pub returns-in-3 : goal.returns-in-3
returns-in-3 c = search reads_as

pub returns-in-4 : goal.returns-in-4
returns-in-4 c = search reads_as

pub returns-in-5 : goal.returns-in-5
returns-in-5 c = search reads_as

pub returns-in-6 : goal.returns-in-6
returns-in-6 c = search reads_as

pub returns-in-7 : goal.returns-in-7
returns-in-7 c = search reads_as

pub returns-in-8 : goal.returns-in-8
returns-in-8 c = search reads_as

pub returns-in-9 : goal.returns-in-9
returns-in-9 c = search reads_as

pub returns-in-10 : goal.returns-in-10
returns-in-10 c = search reads_as

pub returns-in-11 : goal.returns-in-11
returns-in-11 c = search reads_as

pub returns-in-12 : goal.returns-in-12
returns-in-12 c = search reads_as

pub returns-in-13 : goal.returns-in-13
returns-in-13 c = search reads_as

pub returns-in-14 : goal.returns-in-14
returns-in-14 c = search reads_as

pub returns-in-15 : goal.returns-in-15
returns-in-15 c = search reads_as

pub returns-in-16 : goal.returns-in-16
returns-in-16 c = search reads_as

pub returns-in-17 : goal.returns-in-17
returns-in-17 c = search reads_as

pub returns-in_default : goal.returns-in_default
returns-in_default c = reads_none c.args.word c.ranges.word.fits c.in_default.in_default-own.rest
