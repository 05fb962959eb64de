use Rattle.code.proofs.ReadLaws.{spells_as}
use Rattle.code.proofs.word_of.Goals as goal

pub returns-in-Load : goal.returns-in-Load
returns-in-Load c = search spells_as

pub returns-in-Store : goal.returns-in-Store
returns-in-Store c = search spells_as

pub returns-in-StoreConst : goal.returns-in-StoreConst
returns-in-StoreConst c = search spells_as

pub returns-in-Decode : goal.returns-in-Decode
returns-in-Decode c = search spells_as

pub returns-in-Encode : goal.returns-in-Encode
returns-in-Encode c = search spells_as

pub returns-in-Create : goal.returns-in-Create
returns-in-Create c = search spells_as

pub returns-in-AnalyzeTuple : goal.returns-in-AnalyzeTuple
returns-in-AnalyzeTuple c = search spells_as

pub returns-in-CreateTuple : goal.returns-in-CreateTuple
returns-in-CreateTuple c = search spells_as

pub returns-in-Opposite : goal.returns-in-Opposite
returns-in-Opposite c = search spells_as

pub returns-in-KeyOf : goal.returns-in-KeyOf
returns-in-KeyOf c = search spells_as

pub returns-in-Match : goal.returns-in-Match
returns-in-Match c = search spells_as

pub returns-in-Encrypt : goal.returns-in-Encrypt
returns-in-Encrypt c = search spells_as

pub returns-in-Decrypt : goal.returns-in-Decrypt
returns-in-Decrypt c = search spells_as

pub returns-in-Sign : goal.returns-in-Sign
returns-in-Sign c = search spells_as

pub returns-in-Verify : goal.returns-in-Verify
returns-in-Verify c = search spells_as

pub returns-in-Hash : goal.returns-in-Hash
returns-in-Hash c = search spells_as
