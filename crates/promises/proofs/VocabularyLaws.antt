-- What keys, names and certificates do, both ways.
use Prim.Native.Nat.{ℕ, suc, ◌<◌}
use mathlib.Core.Path.{◌≡◌, refl, sym, ap}
use mathlib.Core.Logic.{◌↔◌, inl, inr}
use mathlib.Core.Bool.{Bool, true, false, ◌&&◌}
use Rattle.std.specs.Prelude.{Option, None, Some}
use native.Mathlib.Decide.{dec_lt}
use native.Mathlib.Omega.{arith}
use lib.Dec.{T, eqb}
use lib.ListN.{length, get_or}
use borrow.Author.Tests.{eq-eqb, lt-ltb, le-ltb}
use Rattle.word.proofs.TestLaws.{both, equals, is_true}
use Rattle.theory.specs.Outcome.{Answer, got, not, and_then, sure}
use Rattle.theory.specs.World as Voc
use Rattle.theory.specs.Model.{number_of, goes_with, certified}
use Rattle.theory.specs.TermModel.{Term, Terms, atom, encrypted, signed, hashed, tupled, listed, collected, Names, raised_to, term_model, term_world, same_term, is_yes, shape_of_term}
use Rattle.terms.specs.Shape.{kind_of}
use Rattle.promises.specs.Vocabulary.{public, private, Opens, with_private, with_shared, Verifies, by_private, by_shared, Tagged, is_atom, is_encryption, is_signature, is_hash, is_tuple, Makes, Passes, Vocabulary}
use Rattle.promises.proofs.ReasonLaws.{Paired, pair_iff, low_tags}

-- a test that passes, and one that does not
sure_got : (why : ℕ) (b : Bool) → (sure why b ≡ got tt) ↔ T b
sure_got why true = (λ e. tt, λ t. refl)
sure_got why false = (λ e. let z : ◌≡◌ {A = ℕ} 0 1 = cc in absurd (omega arith), λ t. absurd t)

made_only : (m m' : Term) (n n' : Names) → (◌≡◌ {A = Answer (Term × Names)} (got (m, n)) (got (m', n'))) ↔ ((m' ≡ m) × (n' ≡ n))
made_only m m' n n' = (
  λ e. let q : ◌≡◌ {A = Term × Names} (m, n) (m', n') = cc in (sym (ap (λ (r : Term × Names). r.0) q), sym (ap (λ (r : Term × Names). r.1) q)),
  λ h. rw (h.0, h.1),
)

never : {A : Type 0} {why : ℕ} {a : A} → not why ≡ got a → ⊥
never e = let z : ◌≡◌ {A = ℕ} 0 1 = cc in omega arith

yes_same : (t u : Term) → T (is_yes (same_term t u)) ↔ (t ≡ u)
yes_same t u = go (same_term t u)
  where
    go : (d : Dec (t ≡ u)) → T (is_yes d) ↔ (t ≡ u)
    go (yes e) = (λ _. e, λ _. tt)
    go (no n) = (λ h. absurd h, λ e. absurd (n e))

-- two keys by their tags and numbers
paired : (t i u j : ℕ) → (i ≡ j) × Paired t u → Opens (atom t i) (atom u j)
paired t i u j (e, inl (p, q)) = rw (e, p, q) with_private
paired t i u j (e, inr (p, q)) = rw (e, p, q) with_shared

flip : {k l : Term} → Opens k l → Verifies l k
flip with_private = by_private
flip with_shared = by_shared

flop : {k l : Term} → Verifies k l → Opens l k
flop by_private = with_private
flop by_shared = with_shared

module _ (n : Names) where
  goes : (k l : Term) → T (goes_with term_model k l n) → Opens k l
  goes (atom t i) (atom u j) h = paired t i u j ((pair_iff t i u j).0 h)
  goes (atom t i) (encrypted a b) h = let low = low_tags ((pair_iff t i 7 0).0 h).1 in absurd (omega arith)
  goes (atom t i) (signed a b) h = let low = low_tags ((pair_iff t i 8 0).0 h).1 in absurd (omega arith)
  goes (atom t i) (hashed b) h = let low = low_tags ((pair_iff t i 9 0).0 h).1 in absurd (omega arith)
  goes (atom t i) (tupled ts) h = let low = low_tags ((pair_iff t i 10 0).0 h).1 in absurd (omega arith)
  goes (encrypted a b) l h = let low = low_tags ((pair_iff 7 0 (kind_of (shape_of_term l)) (number_of (shape_of_term l))).0 h).1 in absurd (omega arith)
  goes (signed a b) l h = let low = low_tags ((pair_iff 8 0 (kind_of (shape_of_term l)) (number_of (shape_of_term l))).0 h).1 in absurd (omega arith)
  goes (hashed b) l h = let low = low_tags ((pair_iff 9 0 (kind_of (shape_of_term l)) (number_of (shape_of_term l))).0 h).1 in absurd (omega arith)
  goes (tupled ts) l h = let low = low_tags ((pair_iff 10 0 (kind_of (shape_of_term l)) (number_of (shape_of_term l))).0 h).1 in absurd (omega arith)

  gone : {k l : Term} → Opens k l → T (goes_with term_model k l n)
  gone (with_private {i}) = (pair_iff 5 i 4 i).1 (refl, inl (refl, refl))
  gone (with_shared {i}) = (pair_iff 6 i 6 i).1 (refl, inr (refl, refl))

  -- op
  op_there : (a m : Term) (n' : Names) → Makes (Voc.op a) n m n' → (i : ℕ) × (a ≡ private i) × (m ≡ public i) × (n' ≡ n)
  op_there (atom t i) m n' e = by (eqb t 5) (equals t 5) e
    where
      by : (b : Bool) → T b ↔ (t ≡ 5) → and_then {B = Term × Names} (sure 2 b) (λ _. got (public i, n)) ≡ got (m, n') → (j : ℕ) × (atom t i ≡ private j) × (m ≡ public j) × (n' ≡ n)
      by true is e = let it = (made_only (public i) m n n').0 e in (i, ap (λ t. atom t i) (is.0 tt), it.0, it.1)
      by false is e = absurd (never e)
  op_there (encrypted a b) m n' e = absurd (never e)
  op_there (signed a b) m n' e = absurd (never e)
  op_there (hashed b) m n' e = absurd (never e)
  op_there (tupled ts) m n' e = absurd (never e)

  opens_there : (k m b : Term) (n' : Names) → Makes (Voc.decrypt k m) n b n' → (l : Term) × (m ≡ encrypted l b) × Opens k l × (n' ≡ n)
  opens_there k (encrypted l c) b n' e = by (goes_with term_model k l n) (goes k l) e
    where
      by : (test : Bool) → (T test → Opens k l) → and_then {B = Term × Names} (sure 6 test) (λ _. got (c, n)) ≡ got (b, n') → (j : Term) × (encrypted l c ≡ encrypted j b) × Opens k j × (n' ≡ n)
      by true is e = let it = (made_only c b n n').0 e in (l, ap (encrypted l) (sym it.0), is tt, it.1)
      by false is e = absurd (never e)
  opens_there k (atom t i) b n' e = absurd (never e)
  opens_there k (signed l c) b n' e = absurd (never e)
  opens_there k (hashed c) b n' e = absurd (never e)
  opens_there k (tupled ts) b n' e = absurd (never e)

  opens_back : (k b l : Term) → Opens k l → Makes (Voc.decrypt k (encrypted l b)) n b n
  opens_back k b l o = rw (is_true (goes_with term_model k l n) (gone o))

  verifies_there : (k b m : Term) → Passes (Voc.verify k b m) n → (l : Term) × (m ≡ signed l b) × Verifies k l
  verifies_there k b (signed l c) e =
      let two = (both (goes_with term_model l k n) (is_yes (same_term b c))).0 ((sure_got 7 (goes_with term_model l k n && is_yes (same_term b c))).0 e) in
      (l, ap (signed l) (sym ((yes_same b c).0 two.1)), flip (goes l k two.0))
  verifies_there k b (atom t i) e = absurd (never e)
  verifies_there k b (encrypted l c) e = absurd (never e)
  verifies_there k b (hashed c) e = absurd (never e)
  verifies_there k b (tupled ts) e = absurd (never e)

  verifies_back : (k b l : Term) → Verifies k l → Passes (Voc.verify k b (signed l b)) n
  verifies_back k b l v =
      (sure_got 7 (goes_with term_model l k n && is_yes (same_term b b))).1 ((both (goes_with term_model l k n) (is_yes (same_term b b))).1 (gone (flop v), (yes_same b b).1 refl))

  decodes_there : (kind : ℕ) (m : Term) → kind ≡ kind_of (shape_of_term m) → Tagged m kind
  decodes_there kind (atom t i) e = rw e is_atom
  decodes_there kind (encrypted k b) e = rw e is_encryption
  decodes_there kind (signed k b) e = rw e is_signature
  decodes_there kind (hashed b) e = rw e is_hash
  decodes_there kind (tupled ts) e = rw e is_tuple

  decodes_back : {kind : ℕ} {m : Term} → Tagged m kind → kind ≡ kind_of (shape_of_term m)
  decodes_back is_atom = refl
  decodes_back is_encryption = refl
  decodes_back is_signature = refl
  decodes_back is_hash = refl
  decodes_back is_tuple = refl

  creates_iff : (kind : ℕ) (m : Term) (n' : Names) → Dec (n.counter < 65536)
      → Makes (Voc.create kind) n m n' ↔ ((n.counter < 65536) × (m ≡ atom kind n.counter) × (n'.counter ≡ suc n.counter) × (n'.ν ≡ n.ν))
  creates_iff kind m n' (yes l) = rw (lt-ltb n.counter 65536 l) (
    λ e. let it = (made_only (atom kind n.counter) m (raised_to n (suc n.counter)) n').0 e in (l, it.0, ap (λ (x : Names). x.counter) it.1, ap (λ (x : Names). x.ν) it.1),
    λ h. (made_only (atom kind n.counter) m (raised_to n (suc n.counter)) n').1 (h.1, λ i. record { counter = h.2 i; ν = h.3 i }),
  )
  creates_iff kind m n' (no l) = rw (le-ltb n.counter 65536 (omega arith)) (
    λ e. let z : ◌≡◌ {A = ℕ} 0 1 = cc in absurd (omega arith),
    λ h. absurd (l h.0),
  )

  certifies_iff : (k : Term) (n' : Names) (found : Option Term) → (◌≡◌ {A = Answer (Term × Names)} (certified term_model found n) (got (k, n'))) ↔ ((found ≡ Some k) × (n' ≡ n))
  certifies_iff k n' (Some l) = (λ e. let it = (made_only l k n n').0 e in (ap Some (sym it.0), it.1), λ h. let same : k ≡ l = cc in (made_only l k n n').1 (same, h.1))
  certifies_iff k n' None = (λ e. absurd (never e), λ h. let z : ◌≡◌ {A = ℕ} 0 1 = cc in absurd (omega arith))

  parts_there : (m : Term) (count : ℕ) (g : ℕ → Term) → term_world.parts m count n ≡ got g
      → (ts : Terms) × (m ≡ tupled ts) × (length (listed ts) ≡ count) × ((i : ℕ) → i < count → g i ≡ get_or (listed ts) i m)
  parts_there (tupled ts) count g e = by (eqb (length (listed ts)) count) (equals (length (listed ts)) count) e
    where
      by : (b : Bool) → T b ↔ (length (listed ts) ≡ count) → and_then (sure 4 b) (λ _. got (λ i. get_or (listed ts) i (tupled ts))) ≡ got g
          → (us : Terms) × (tupled ts ≡ tupled us) × (length (listed us) ≡ count) × ((i : ℕ) → i < count → g i ≡ get_or (listed us) i (tupled ts))
      by true is e = let same : (λ (i : ℕ). get_or (listed ts) i (tupled ts)) ≡ g = cc in (ts, refl, is.0 tt, λ i l. ap (λ (h : ℕ → Term). h i) (sym same))
      by false is e = absurd (never e)
  parts_there (atom t i) count g e = absurd (never e)
  parts_there (encrypted k b) count g e = absurd (never e)
  parts_there (signed k b) count g e = absurd (never e)
  parts_there (hashed b) count g e = absurd (never e)

pub vocabulary : (n : Names) → Vocabulary n
vocabulary n = record {
  op = λ a m n'. (op_there n a m n', λ h. rw (h.1, h.2, h.3));
  opens = λ k m b n'. (opens_there n k m b n', λ h. rw (h.1, h.3) (opens_back n k b h.0 h.2));
  verifies = λ k b m. (verifies_there n k b m, λ h. rw h.1 (verifies_back n k b h.0 h.2));
  decodes = λ kind m. (
    λ e. decodes_there n kind m ((equals kind (kind_of (shape_of_term m))).0 ((sure_got 2 (eqb kind (kind_of (shape_of_term m)))).0 e)),
    λ t. (sure_got 2 (eqb kind (kind_of (shape_of_term m)))).1 ((equals kind (kind_of (shape_of_term m))).1 (decodes_back n t)),
  );
  same = λ a b. (λ e. (yes_same a b).0 ((sure_got 3 (is_yes (same_term a b))).0 e), λ q. (sure_got 3 (is_yes (same_term a b))).1 ((yes_same a b).1 q));
  creates = λ kind m n'. creates_iff n kind m n' (dec_lt n.counter 65536);
  certifies = λ a k n'. certifies_iff n k n' (n.ν a);
  encrypts = λ k m e n'. made_only (encrypted k m) e n n';
  signs = λ k m e n'. made_only (signed k m) e n n';
  hashes = λ m e n'. made_only (hashed m) e n n';
  tuples = λ ms e n'. made_only (tupled (collected ms)) e n n';
  bytes = λ c e n'. made_only (atom 1 c) e n n';
  parts = parts_there n;
  parted = λ ts. (λ i. get_or (listed ts) i (tupled ts), rw (eq-eqb (length (listed ts)) (length (listed ts)) refl));
}
