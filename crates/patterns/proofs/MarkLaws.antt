-- Marks of children.
use Prim.Native.Nat.{ℕ, ◌+◌, ◌<◌, ◌≤◌}
use mathlib.Core.Path.{◌≡◌, refl, sym, ap, ◌∙◌}
use mathlib.Core.Bool.{Bool, true, false, ◌||◌, or_assoc, or_comm, or-false}
use mathlib.Core.List.{List, [], ◌∷◌, ◌++◌, append-nil}
use native.Mathlib.Numerals.{add-one}
use native.Mathlib.Omega.{arith}
use borrow.Author.Tests.{eqb-true, eqb-false}
use lib.ListN.{length, get_or, drop, set, length-set, drop_of_length-le, replicate, get_or-replicate}
use lib.Seq.{drop-cons, get_or-set_same, get_or-set_other}
use lib.Dec.{eqb}
use Rattle.word.specs.Lowest.{one_of}
use Rattle.word.proofs.All.{All}
use Rattle.patterns.specs.Rules.{repeats}
use Rattle.patterns.specs.Marks.{Taken, take_one, take_every, Marked}

pub one_append : (front back : List ℕ) (n : ℕ) → one_of (front ++ back) n ≡ (one_of front n || one_of back n)
unfolding one_of
one_append [] back n = refl
one_append (k ∷ front) back n = rw (one_append front back n, or_assoc)

-- the order of what is taken does not matter
pub one_middle : (child : ℕ) (front back : List ℕ) (n : ℕ) → one_of ((child ∷ front) ++ back) n ≡ one_of (front ++ (child ∷ back)) n
unfolding one_of
one_middle child front back n =
    rw (one_append front back n, one_append front (child ∷ back) n, ← or_assoc, ← or_assoc, or_comm (eqb child n) (one_of front n))

repeats_same : (a b children : List ℕ) → ((n : ℕ) → one_of a n ≡ one_of b n) → repeats a children ≡ repeats b children
unfolding repeats one_of
repeats_same a b [] same = refl
repeats_same a b (child ∷ rest) same =
    rw (same child, repeats_same (child ∷ a) (child ∷ b) rest λ n. ap (λ (t : Bool). eqb child n || t) (same n))

pub marked_none : Marked (replicate 128 false) []
unfolding one_of
marked_none = record { long = refl; each = λ row below. get_or-replicate 128 row false false below }

pub marked_same : {marks : List Bool} {a b : List ℕ} → ((n : ℕ) → one_of a n ≡ one_of b n) → Marked marks a → Marked marks b
marked_same same marked = record { long = marked.long; each = λ row below. marked.each row below ∙ same row }

module _ (marks : List Bool) (named : List ℕ) (marked : Marked marks named) (child : ℕ) (fits : child < 128) where
  marked_one : Marked (set marks child true) (child ∷ named)
  unfolding one_of
  marked_one = record { long = length-set marks child true ∙ marked.long; each = λ row below. go row below (eqb child row) refl }
    where
      go : (row : ℕ) → row < 128 → (same : Bool) → eqb child row ≡ same → get_or (set marks child true) row false ≡ (same || one_of named row)
      go row below true e =
          let here : child ≡ row = eqb-true child row e in
          rw (← here) (get_or-set_same marks child true false (omega (arith, marked.long)))
      go row below false e = get_or-set_other marks child row true false (λ here. eqb-false child row e (sym here)) ∙ marked.each row below

-- all children of a row at once
pub marked_all : (taken : Taken) (named children : List ℕ) → Marked taken.marks named → All (λ child. child < 128) children → Marked (take_every taken children).marks (named ++ children)
unfolding take_every
marked_all taken named [] marked fit = rw append-nil marked
marked_all taken named (child ∷ rest) marked fit =
    marked_same (one_middle child named rest) (marked_all (take_one taken child) (child ∷ named) rest (marked_one taken.marks named marked child fit.0) fit.1)

pub again_all : (taken : Taken) (named children : List ℕ) → Marked taken.marks named → All (λ child. child < 128) children → (take_every taken children).again ≡ (taken.again || repeats named children)
unfolding take_every repeats
again_all taken named [] marked fit = sym (or-false taken.again)
again_all taken named (child ∷ rest) marked fit =
    again_all (take_one taken child) (child ∷ named) rest (marked_one taken.marks named marked child fit.0) fit.1
    ∙ rw (marked.each child fit.0, or_assoc)

-- a loop over the children: what is left of them gives the same marks
module _ (all taken : Taken) (children : List ℕ) (slot : ℕ) (left : all ≡ take_every taken (drop slot children)) where
  pub take_next : (child : ℕ) → slot < length children → get_or children slot 0 ≡ child → all ≡ take_every (take_one taken child) (drop (slot + 1) children)
  unfolding take_every
  take_next child inside e = left ∙ rw (add-one, ← e, drop-cons children slot 0)

  pub take_end : length children ≤ slot → all ≡ taken
  unfolding take_every
  take_end past = left ∙ rw (drop_of_length-le children {i = slot} past)
