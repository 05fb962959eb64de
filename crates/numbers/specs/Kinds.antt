-- The kinds of object variables, which are also the tags of term rows. 0 means undeclared.
use Rattle.std.specs.Prelude.{ℕ, List, get_or}

abbrev pub byte_kind : ℕ
byte_kind = 1

abbrev pub nonce_kind : ℕ
nonce_kind = 2

abbrev pub agent_kind : ℕ
agent_kind = 3

abbrev pub public_key : ℕ
public_key = 4

abbrev pub private_key : ℕ
private_key = 5

abbrev pub shared_key : ℕ
shared_key = 6

abbrev pub encryption_kind : ℕ
encryption_kind = 7

abbrev pub signature_kind : ℕ
signature_kind = 8

abbrev pub hash_kind : ℕ
hash_kind = 9

abbrev pub tuple_kind : ℕ
tuple_kind = 10

-- the kind of a variable; one past the kinds is undeclared
abbrev pub kind_in : List ℕ → ℕ → ℕ
kind_in kinds v = get_or kinds v 0
