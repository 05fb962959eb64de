use Rattle.code.proofs.KindLaws.{fits_as, split_kinds}
use Rattle.operands.proofs.operands_fit.Goals as goal

pub returns-in-StoreConst : goal.returns-in-StoreConst
returns-in-StoreConst c = search fits_as

pub returns-in-Decode : goal.returns-in-Decode
returns-in-Decode c = search fits_as

pub returns-in-Encode : goal.returns-in-Encode
returns-in-Encode c = search fits_as

pub returns-then-has_kind : goal.returns-then-has_kind
returns-then-has_kind c =
    rw (c.in-Create.is, split_kinds, ← c.has_kind-in-Create.ensures, c.if-has_kind.true)

pub returns-else-has_kind : goal.returns-else-has_kind
returns-else-has_kind c =
    rw (c.in-Create.is, split_kinds, ← c.has_kind-in-Create.ensures, c.if-has_kind.false) c.has_either.ensures

pub returns-then-has_kind-2 : goal.returns-then-has_kind-2
returns-then-has_kind-2 c =
    rw (c.in-AnalyzeTuple.is, ← c.has_kind-in-AnalyzeTuple.ensures, c.if-has_kind-2.true) c.cells_fit.ensures

pub returns-else-has_kind-2 : goal.returns-else-has_kind-2
returns-else-has_kind-2 c =
    rw (c.in-AnalyzeTuple.is, ← c.has_kind-in-AnalyzeTuple.ensures, c.if-has_kind-2.false)

pub returns-then-has_kind-3 : goal.returns-then-has_kind-3
returns-then-has_kind-3 c =
    rw (c.in-CreateTuple.is, ← c.has_kind-in-CreateTuple.ensures, c.if-has_kind-3.true) c.cells_fit-then-has_kind-3.ensures

pub returns-else-has_kind-3 : goal.returns-else-has_kind-3
returns-else-has_kind-3 c =
    rw (c.in-CreateTuple.is, ← c.has_kind-in-CreateTuple.ensures, c.if-has_kind-3.false)

pub returns-then-has_kind-4 : goal.returns-then-has_kind-4
returns-then-has_kind-4 c =
    rw (c.in-Opposite.is, ← c.has_kind-in-Opposite.ensures, c.if-has_kind-4.true) c.has_kind-then-has_kind-4.ensures

pub returns-else-has_kind-4 : goal.returns-else-has_kind-4
returns-else-has_kind-4 c =
    rw (c.in-Opposite.is, ← c.has_kind-in-Opposite.ensures, c.if-has_kind-4.false)

pub returns-in-Encrypt : goal.returns-in-Encrypt
returns-in-Encrypt c = search fits_as

pub returns-in-Decrypt : goal.returns-in-Decrypt
returns-in-Decrypt c = search fits_as

pub returns-in-Sign : goal.returns-in-Sign
returns-in-Sign c = search fits_as

pub returns-in-Verify : goal.returns-in-Verify
returns-in-Verify c = search fits_as

pub returns-in-Hash : goal.returns-in-Hash
returns-in-Hash c = search fits_as
