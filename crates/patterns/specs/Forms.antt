-- The forms of figure 1, which are the tags of pattern rows, and the forms of a key, which are F.
use Rattle.std.specs.Prelude.{ℕ}

abbrev pub object_form : ℕ
object_form = 0

abbrev pub raw_form : ℕ
raw_form = 1

abbrev pub constant_form : ℕ
constant_form = 2

abbrev pub opposite_form : ℕ
opposite_form = 3

abbrev pub key_of_form : ℕ
key_of_form = 4

abbrev pub encryption_form : ℕ
encryption_form = 5

abbrev pub signature_form : ℕ
signature_form = 6

abbrev pub hash_form : ℕ
hash_form = 7

abbrev pub tuple_form : ℕ
tuple_form = 8

abbrev pub let_form : ℕ
let_form = 9

abbrev pub form_count : ℕ
form_count = 10

-- x, k : op(K) and k : keyOf(a)
abbrev pub plain_form : ℕ
plain_form = 0

abbrev pub op_form : ℕ
op_form = 1

abbrev pub certified_form : ℕ
certified_form = 2
