-- Kinds in a pattern: refusal 5.
use Rattle.std.specs.Prelude.{ℕ, Bool, true, false, not, ◌&&◌, List, [], ◌∷◌, eqb, leb, T}
use Rattle.std.specs.Prelude.{Option}
use Rattle.numbers.specs.Kinds.{byte_kind, agent_kind, public_key, private_key, shared_key, encryption_kind, signature_kind, hash_kind, tuple_kind}
use Rattle.word.specs.Lowest.{lowest, one_of}
use Rattle.patterns.specs.Pattern.{Key, plain_key, op_key, certified_key, Pattern, object, raw, constant, opposite, key_of, encryption, signature, hash, tuple, let_in, Parts, end, part}
use Rattle.patterns.specs.Tree.{patterns_of}

-- what opens or signs is private or shared: the key of a matched E or a created S
abbrev pub private_side : (ℕ → ℕ) → Key → Bool
private_side kind (plain_key x) = one_of (private_key ∷ shared_key ∷ []) (kind x)
private_side kind (op_key k K) = false
private_side kind (certified_key k a) = false

-- what seals or verifies is public or shared: the key of a created E or a matched S
abbrev pub public_side : (ℕ → ℕ) → Key → Bool
public_side kind (plain_key x) = one_of (public_key ∷ shared_key ∷ []) (kind x)
public_side kind (op_key k K) = eqb (kind k) public_key && eqb (kind K) private_key
public_side kind (certified_key k a) = eqb (kind k) public_key && eqb (kind a) agent_kind

-- the key of E, and of S, for creating and for matching
abbrev pub encryption_key : Bool → (ℕ → ℕ) → Key → Bool
encryption_key true kind key = public_side kind key
encryption_key false kind key = private_side kind key

abbrev pub signature_key : Bool → (ℕ → ℕ) → Key → Bool
signature_key true kind key = private_side kind key
signature_key false kind key = public_side kind key

-- the kinds that the form at the root of a pattern wants; a bare object variable has 1..9
abbrev pub form_kinds : Bool → (ℕ → ℕ) → Pattern → Bool
form_kinds create kind (object row v) = leb byte_kind (kind v) && leb (kind v) hash_kind
form_kinds create kind (raw row r) = true
form_kinds create kind (constant row c b) = eqb (kind c) byte_kind
form_kinds create kind (opposite row k K) = eqb (kind k) public_key && eqb (kind K) private_key
form_kinds create kind (key_of row k a) = eqb (kind k) public_key && eqb (kind a) agent_kind
form_kinds create kind (encryption row e key p) = eqb (kind e) encryption_kind && encryption_key create kind key
form_kinds create kind (signature row s key r) = eqb (kind s) signature_kind && signature_key create kind key
form_kinds create kind (hash row h r) = eqb (kind h) hash_kind
form_kinds create kind (tuple row t ps) = eqb (kind t) tuple_kind
form_kinds create kind (let_in row r p q) = true

-- 5: the lowest row with a wrong kind
unfoldable pub wrong_kind : Bool → (ℕ → ℕ) → List ℕ → Option ℕ
wrong_kind create kind rows = lowest (λ row p. not (form_kinds create kind p)) (patterns_of rows)

-- no form of a pattern has a wrong kind
abbrev pub RightForm : Bool → (ℕ → ℕ) → Pattern → Type 0
RightForm create kind p = T (form_kinds create kind p)

unfoldable mutual
  pub RightKinds : Bool → (ℕ → ℕ) → Pattern → Type 0
  RightKinds create kind (object row v) = RightForm create kind (object row v)
  RightKinds create kind (raw row r) = RightForm create kind (raw row r)
  RightKinds create kind (constant row c b) = RightForm create kind (constant row c b)
  RightKinds create kind (opposite row k K) = RightForm create kind (opposite row k K)
  RightKinds create kind (key_of row k a) = RightForm create kind (key_of row k a)
  RightKinds create kind (encryption row e key p) = RightForm create kind (encryption row e key p) × RightKinds create kind p
  RightKinds create kind (signature row s key r) = RightForm create kind (signature row s key r)
  RightKinds create kind (hash row h r) = RightForm create kind (hash row h r)
  RightKinds create kind (tuple row t ps) = RightForm create kind (tuple row t ps) × RightParts create kind ps
  RightKinds create kind (let_in row r p₁ p₂) = RightKinds create kind p₁ × RightKinds create kind p₂

  pub RightParts : Bool → (ℕ → ℕ) → Parts → Type 0
  RightParts create kind end = Unit {0}
  RightParts create kind (part p ps) = RightKinds create kind p × RightParts create kind ps
