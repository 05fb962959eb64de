-- `stepping::step` meets its contract: each way out is a step of the table.
use mathlib.Core.Path.{refl}
use Rattle.stepping.proofs.OperandLaws.{create_kind, stepped, stepped_alike}
use Rattle.stepping.proofs.step.Goals as goal

pub create-requires-clause-v_bound : goal.create-requires-clause-v_bound
create-requires-clause-v_bound c = create_kind _ _ c.requires.t _ c.in-Create.is

pub returns-in-Load : goal.returns-in-Load
returns-in-Load c = stepped_alike _ _ _ _ _ _ c.in-Load.is c.load.ensures refl refl

pub returns-in-Store : goal.returns-in-Store
returns-in-Store c = stepped_alike _ _ _ _ _ _ c.in-Store.is c.store.ensures refl refl

pub returns-in-StoreConst : goal.returns-in-StoreConst
returns-in-StoreConst c = stepped_alike _ _ _ _ _ _ c.in-StoreConst.is c.store_const.ensures refl refl

pub returns-in-Decode : goal.returns-in-Decode
returns-in-Decode c = stepped _ _ _ _ _ _ c.in-Decode.is c.decode.ensures refl refl

pub returns-in-Encode : goal.returns-in-Encode
returns-in-Encode c = stepped_alike _ _ _ _ _ _ c.in-Encode.is c.encode.ensures refl refl

pub returns-in-Create : goal.returns-in-Create
returns-in-Create c = stepped _ _ _ _ _ _ c.in-Create.is c.create.ensures refl refl

pub returns-in-AnalyzeTuple : goal.returns-in-AnalyzeTuple
returns-in-AnalyzeTuple c = stepped_alike _ _ _ _ _ _ c.in-AnalyzeTuple.is c.analyze_tuple.ensures refl refl

pub returns-in-CreateTuple : goal.returns-in-CreateTuple
returns-in-CreateTuple c = stepped_alike _ _ _ _ _ _ c.in-CreateTuple.is
    c.create_tuple.ensures refl refl

pub returns-in-Opposite : goal.returns-in-Opposite
returns-in-Opposite c = stepped_alike _ _ _ _ _ _ c.in-Opposite.is c.opposite.ensures refl refl

pub returns-in-KeyOf : goal.returns-in-KeyOf
returns-in-KeyOf c = stepped_alike _ _ _ _ _ _ c.in-KeyOf.is c.key_of.ensures refl refl

pub returns-in-Match : goal.returns-in-Match
returns-in-Match c = stepped_alike _ _ _ _ _ _ c.in-Match.is c.compare.ensures refl refl

pub returns-in-Encrypt : goal.returns-in-Encrypt
returns-in-Encrypt c = stepped_alike _ _ _ _ _ _ c.in-Encrypt.is c.encrypt.ensures refl refl

pub returns-in-Decrypt : goal.returns-in-Decrypt
returns-in-Decrypt c = stepped_alike _ _ _ _ _ _ c.in-Decrypt.is c.decrypt.ensures refl refl

pub returns-in-Sign : goal.returns-in-Sign
returns-in-Sign c = stepped_alike _ _ _ _ _ _ c.in-Sign.is c.sign.ensures refl refl

pub returns-in-Verify : goal.returns-in-Verify
returns-in-Verify c = stepped_alike _ _ _ _ _ _ c.in-Verify.is c.verify.ensures refl refl

pub returns-in-Hash : goal.returns-in-Hash
returns-in-Hash c = stepped_alike _ _ _ _ _ _ c.in-Hash.is
    (λ kind. c.hash.ensures kind c.in-Hash.field-0) refl refl
