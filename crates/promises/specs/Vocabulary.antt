-- What keys, names and certificates do, over abstract terms, as document 01 has it.
use Rattle.std.specs.Prelude.{ℕ, suc, ◌<◌, ◌≡◌, ◌↔◌, List, length, get_or}
use Rattle.std.specs.Prelude.{Some}
use Rattle.theory.specs.Outcome.{got}
use Rattle.theory.specs.World as Voc
use Rattle.theory.specs.TermModel.{Term, Terms, atom, encrypted, signed, hashed, tupled, listed, collected, Names, term_world}

-- the terms of tags 1 to 6
abbrev pub byte : ℕ → Term
byte i = atom 1 i

abbrev pub nonce : ℕ → Term
nonce i = atom 2 i

abbrev pub agent : ℕ → Term
agent i = atom 3 i

abbrev pub public : ℕ → Term
public i = atom 4 i

abbrev pub private : ℕ → Term
private i = atom 5 i

abbrev pub shared : ℕ → Term
shared i = atom 6 i

-- encryption under public i opens with private i, under shared i with shared i
pub data Opens : Term → Term → Type 0 where
  with_private : {i : ℕ} → Opens (private i) (public i)
  with_shared : {i : ℕ} → Opens (shared i) (shared i)

-- a signature by private i is verified with public i, by shared i with shared i
pub data Verifies : Term → Term → Type 0 where
  by_private : {i : ℕ} → Verifies (public i) (private i)
  by_shared : {i : ℕ} → Verifies (shared i) (shared i)

-- the tag of a term
pub data Tagged : Term → ℕ → Type 0 where
  is_atom : {tag number : ℕ} → Tagged (atom tag number) tag
  is_encryption : {key body : Term} → Tagged (encrypted key body) 7
  is_signature : {key body : Term} → Tagged (signed key body) 8
  is_hash : {body : Term} → Tagged (hashed body) 9
  is_tuple : {parts : Terms} → Tagged (tupled parts) 10

-- what an operation makes of terms, with the counter and the certificates before and after
abbrev pub Makes : Voc.Op Term → Names → Term → Names → Type 0
Makes o n m n' = term_world.apply o n ≡ got (m, n')

abbrev pub Passes : Voc.Test Term → Names → Type 0
Passes t n = term_world.test t n ≡ got tt

pub record Vocabulary (n : Names) : Type 0 where
  -- op(private i) is public i, and nothing else has an opposite
  pub op : (a m : Term) (n' : Names) → Makes (Voc.op a) n m n' ↔ ((i : ℕ) × (a ≡ private i) × (m ≡ public i) × (n' ≡ n))
  -- a key opens just the encryptions under its counterpart, and gives their body
  pub opens : (k m b : Term) (n' : Names) → Makes (Voc.decrypt k m) n b n' ↔ ((l : Term) × (m ≡ encrypted l b) × Opens k l × (n' ≡ n))
  -- a key verifies just the signatures by its counterpart, and only for their own body
  pub verifies : (k b m : Term) → Passes (Voc.verify k b m) n ↔ ((l : Term) × (m ≡ signed l b) × Verifies k l)
  -- v.decode(m): the kind is the tag
  pub decodes : (kind : ℕ) (m : Term) → Passes (Voc.is kind m) n ↔ Tagged m kind
  pub same : (a b : Term) → Passes (Voc.same a b) n ↔ (a ≡ b)
  -- a created name takes the counter's number and raises it by one; there are 65,536
  pub creates : (kind : ℕ) (m : Term) (n' : Names) → Makes (Voc.create kind) n m n'
      ↔ ((n.counter < 65536) × (m ≡ atom kind n.counter) × (n'.counter ≡ suc n.counter) × (n'.ν ≡ n.ν))
  -- the certificate of an agent
  pub certifies : (a k : Term) (n' : Names) → Makes (Voc.key_of a) n k n' ↔ ((n.ν a ≡ Some k) × (n' ≡ n))
  -- what is sealed, signed, hashed, put together or written down is that
  pub encrypts : (k m e : Term) (n' : Names) → Makes (Voc.encrypt k m) n e n' ↔ ((e ≡ encrypted k m) × (n' ≡ n))
  pub signs : (k m e : Term) (n' : Names) → Makes (Voc.sign k m) n e n' ↔ ((e ≡ signed k m) × (n' ≡ n))
  pub hashes : (m e : Term) (n' : Names) → Makes (Voc.hash m) n e n' ↔ ((e ≡ hashed m) × (n' ≡ n))
  pub tuples : (ms : List Term) (e : Term) (n' : Names) → Makes (Voc.tuple ms) n e n' ↔ ((e ≡ tupled (collected ms)) × (n' ≡ n))
  pub bytes : (c : ℕ) (e : Term) (n' : Names) → Makes (Voc.byte c) n e n' ↔ ((e ≡ byte c) × (n' ≡ n))
  -- the parts of a tuple of exactly so many
  pub parts : (m : Term) (count : ℕ) (g : ℕ → Term) → term_world.parts m count n ≡ got g
      → (ts : Terms) × (m ≡ tupled ts) × (length (listed ts) ≡ count) × ((i : ℕ) → i < count → g i ≡ get_or (listed ts) i m)
  pub parted : (ts : Terms) → (g : ℕ → Term) × (term_world.parts (tupled ts) (length (listed ts)) n ≡ got g)
