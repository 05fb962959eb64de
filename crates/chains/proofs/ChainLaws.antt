-- A walk along the chain of a word meets every earlier row that equals it, and each row that is noted keeps the chains so.
use Prim.Native.Nat.{ℕ, ◌+◌, ◌*◌, ◌<◌, ◌≤◌}
use mathlib.Core.Path.{◌≡◌, sym, ◌∙◌, ap}
use mathlib.Core.Logic.{◌≢◌}
use mathlib.Core.List.{List}
use native.Mathlib.Decide.{ℕ_discrete}
use native.Mathlib.Omega.{arith}
use lib.ListN.{length, get_or, set}
use lib.Seq.{get_or-set_same, get_or-set_other}
use Rattle.terms.proofs.FinderLaws.{Absent}
use Rattle.chains.specs.Chains.{chain_of, Newest, Headed, Linked}

chain_bound : (word : ℕ) → chain_of word < 4096
unfolding chain_of
chain_bound word = omega arith

pub chain_below : (word chain : ℕ) → chain ≡ chain_of word → chain < 4096
chain_below word chain is = rw is (chain_bound word)

pub product_fits : (halves : ℕ) → halves < 8589934592 → halves * 1327217885 < 18446744073709551616
product_fits halves h = omega arith

-- a row is noted: it is linked to the newest of its chain, and is then the newest itself
module _ (rows newest older : List ℕ) (row chain : ℕ) (is : chain ≡ chain_of (get_or rows row 0)) (headed : Headed rows newest row) where
  pub headed_next : chain < length newest → Headed rows (set newest chain row) (row + 1)
  headed_next inside other = go (ℕ_discrete other chain)
    where
      before : (earlier : ℕ) → earlier < row + 1 → other ≢ chain → chain_of (get_or rows earlier 0) ≡ other → earlier < row
      before earlier l differs same = go (ℕ_discrete earlier row)
        where
          go : Dec (earlier ≡ row) → earlier < row
          go (yes e) = absurd (differs (sym same ∙ ap (λ (at : ℕ). chain_of (get_or rows at 0)) e ∙ sym is))
          go (no other) = omega arith

      go : Dec (other ≡ chain) → Newest rows other (row + 1) (get_or (set newest chain row) other 0)
      go (yes e) = rw (e, get_or-set_same newest chain row 0 inside) λ earlier l same. (omega arith, omega arith, sym is)
      go (no differs) = rw (get_or-set_other newest chain other row 0 differs) λ earlier l same.
          let first = headed other earlier (before earlier l differs same) same in
          (first.0, omega (arith, first.1), first.2)

  pub linked_next : row < length older → Linked rows older row → Linked rows (set older row (get_or newest chain 0)) (row + 1)
  linked_next inside linked at l = go (ℕ_discrete at row)
    where
      go : Dec (at ≡ row) → Newest rows (chain_of (get_or rows at 0)) at (get_or (set older row (get_or newest chain 0)) at 0)
      go (yes e) = rw (e, get_or-set_same older row (get_or newest chain 0) 0 inside, ← is) (headed chain)
      go (no differs) = rw (get_or-set_other older row at (get_or newest chain 0) 0 differs) (linked at (omega arith))

-- the earlier rows that equal a word lie at a row of its chain or before it
abbrev pub Ahead : List ℕ → ℕ → ℕ → ℕ → ℕ → Type 0
Ahead rows row word before at =
    (earlier : ℕ) → earlier < row → get_or rows earlier 0 ≡ word → (earlier ≤ at) × (at < before) × (chain_of (get_or rows at 0) ≡ chain_of word)

module _ (rows older : List ℕ) (row word : ℕ) where
  pub ahead_first : (newest : ℕ) → Newest rows (chain_of word) row newest → Ahead rows row word row newest
  ahead_first newest first earlier l e = first earlier l (ap chain_of e)

  module _ (before at : ℕ) (ahead : Ahead rows row word before at) where
    pub ahead_next : at < row → Linked rows older row → get_or rows at 0 ≢ word → Ahead rows row word at (get_or older at 0)
    ahead_next inside linked differs earlier l e =
        let here = ahead earlier l e in
        let less : earlier < at = below (ℕ_discrete earlier at) here.0 in
        let next = linked at inside earlier less (ap chain_of e ∙ sym here.2) in
        (next.0, next.1, next.2 ∙ here.2)
      where
        below : Dec (earlier ≡ at) → earlier ≤ at → earlier < at
        below (yes same) h = absurd (differs (ap (λ (i : ℕ). get_or rows i 0) (sym same) ∙ e))
        below (no other) h = omega arith

    pub ahead_end : before ≤ at → Absent rows row word
    ahead_end past earlier l e = let here = ahead earlier l e in omega (arith, here.1)
