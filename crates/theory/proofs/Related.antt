-- Two things related part by part: lists, cells, answers, outcomes and shapes.
use mathlib.Core.Path.{◌≡◌, refl, ap}
use mathlib.Core.Logic.{◌≢◌}
use Rattle.std.specs.Prelude.{Option, None, Some}
use mathlib.Core.List.{List, [], ◌∷◌}
use Prim.Native.Nat.{ℕ, zero, suc, ◌<◌}
use native.Mathlib.Omega.{arith}
use lib.ListN.{length, get_or}
use Rattle.terms.specs.Shape.{Shape, atom, encrypted, signed, hashed, tupled, kind_of}
use Rattle.theory.specs.Outcome.{Outcome, done, stuck, room, bind, Answer, got, not, full, at, need}
use Rattle.theory.specs.Model.{number_of}

module _ {A B : Type 0} (R : A → B → Type 0) where
  pub data EachR : List A → List B → Type 0 where
    nil : EachR [] []
    cons : {a : A} {b : B} {all : List A} {others : List B} → R a b → EachR all others → EachR (a ∷ all) (b ∷ others)

  pub data CellR : Option A → Option B → Type 0 where
    unset : CellR None None
    set : {a : A} {b : B} → R a b → CellR (Some a) (Some b)

  -- the same answer, or no room on the left
  pub data AnswerR : Answer A → Answer B → Type 0 where
    gots : {a : A} {b : B} → R a b → AnswerR (got a) (got b)
    nots : {why : ℕ} → AnswerR (not why) (not why)
    fulls : {answer : Answer B} → AnswerR full answer

  pub data OutcomeR : Outcome A → Outcome B → Type 0 where
    dones : {a : A} {b : B} → R a b → OutcomeR (done a) (done b)
    stucks : {place why : ℕ} → OutcomeR (stuck place why) (stuck place why)
    rooms : {place : ℕ} {outcome : Outcome B} → OutcomeR (room place) outcome

  -- the same end on both sides
  pub data SameEnd : Outcome A → Outcome B → Type 0 where
    both_done : {a : A} {b : B} → R a b → SameEnd (done a) (done b)
    both_stuck : {place why : ℕ} → SameEnd (stuck place why) (stuck place why)

  -- the same head over related parts
  pub data ShapeR : Shape A → Shape B → Type 0 where
    atom_r : {tag number : ℕ} → ShapeR (atom tag number) (atom tag number)
    encrypted_r : {k m : A} {l n : B} → R k l → R m n → ShapeR (encrypted k m) (encrypted l n)
    signed_r : {k m : A} {l n : B} → R k l → R m n → ShapeR (signed k m) (signed l n)
    hashed_r : {m : A} {n : B} → R m n → ShapeR (hashed m) (hashed n)
    tupled_r : {ms : List A} {ns : List B} → EachR ms ns → ShapeR (tupled ms) (tupled ns)

module _ {A B : Type 0} {R : A → B → Type 0} where
  pub each_length : {all : List A} {others : List B} → EachR R all others → length all ≡ length others
  each_length nil = refl
  each_length (cons r rest) = ap suc (each_length rest)

  pub each_at : (a : A) (b : B) {all : List A} {others : List B} → EachR R all others → (i : ℕ) → i < length all → R (get_or all i a) (get_or others i b)
  each_at a b nil i l = absurd (omega arith)
  each_at a b (cons r rest) zero l = r
  each_at a b (cons r rest) (suc i) l = each_at a b rest i (omega arith)

  pub need_related : (place : ℕ) {cell : Option A} {other : Option B} → CellR R cell other → OutcomeR R (need place cell) (need place other)
  need_related place unset = stucks
  need_related place (set r) = dones r

  pub at_related : (place : ℕ) {answer : Answer A} {other : Answer B} → AnswerR R answer other → OutcomeR R (at place answer) (at place other)
  at_related place (gots r) = dones r
  at_related place nots = stucks
  at_related place fulls = rooms

  pub same_end : {outcome : Outcome A} {other : Outcome B} → OutcomeR R outcome other → ((place : ℕ) → outcome ≢ room place) → SameEnd R outcome other
  same_end (dones r) space = both_done r
  same_end stucks space = both_stuck
  same_end (rooms {place = place}) space = absurd (space place refl)

  pub same_kind : {shape : Shape A} {other : Shape B} → ShapeR R shape other → kind_of shape ≡ kind_of other
  same_kind atom_r = refl
  same_kind (encrypted_r r q) = refl
  same_kind (signed_r r q) = refl
  same_kind (hashed_r r) = refl
  same_kind (tupled_r rs) = refl

  pub same_number : {shape : Shape A} {other : Shape B} → ShapeR R shape other → number_of shape ≡ number_of other
  same_number atom_r = refl
  same_number (encrypted_r r q) = refl
  same_number (signed_r r q) = refl
  same_number (hashed_r r) = refl
  same_number (tupled_r rs) = refl

-- what follows from a relation, part by part
module _ {A B : Type 0} {R Q : A → B → Type 0} (f : (a : A) (b : B) → R a b → Q a b) where
  pub cell_map : {cell : Option A} {other : Option B} → CellR R cell other → CellR Q cell other
  cell_map unset = unset
  cell_map (set r) = set (f _ _ r)

  pub each_map : {all : List A} {others : List B} → EachR R all others → EachR Q all others
  each_map nil = nil
  each_map (cons r rest) = cons (f _ _ r) (each_map rest)

  pub shape_map : {shape : Shape A} {other : Shape B} → ShapeR R shape other → ShapeR Q shape other
  shape_map atom_r = atom_r
  shape_map (encrypted_r r q) = encrypted_r (f _ _ r) (f _ _ q)
  shape_map (signed_r r q) = signed_r (f _ _ r) (f _ _ q)
  shape_map (hashed_r r) = hashed_r (f _ _ r)
  shape_map (tupled_r rs) = tupled_r (each_map rs)

  pub outcome_map : {outcome : Outcome A} {other : Outcome B} → OutcomeR R outcome other → OutcomeR Q outcome other
  outcome_map (dones r) = dones (f _ _ r)
  outcome_map stucks = stucks
  outcome_map rooms = rooms

  pub answer_map : {answer : Answer A} {other : Answer B} → AnswerR R answer other → AnswerR Q answer other
  answer_map (gots r) = gots (f _ _ r)
  answer_map nots = nots
  answer_map fulls = fulls

-- one part of a run after another
module _ {A B C D : Type 0} {R : A → B → Type 0} {Q : C → D → Type 0} where
  pub bind_related : {outcome : Outcome A} {other : Outcome B} {f : A → Outcome C} {g : B → Outcome D} → OutcomeR R outcome other
      → ((a : A) (b : B) → R a b → OutcomeR Q (f a) (g b)) → OutcomeR Q (bind outcome f) (bind other g)
  bind_related (dones r) next = next _ _ r
  bind_related stucks next = stucks
  bind_related rooms next = rooms
