-- What figures 2 and 3 share: what a finished rule has gone through, and what right kinds say of variables.
use Prim.Native.Nat.{ℕ}
use mathlib.Core.Path.{◌≡◌, refl, sym, ◌∙◌, ap, subst}
use mathlib.Core.Logic.{◌≢◌}
use mathlib.Core.Bool.{Bool, true, false, ◌&&◌}
use Rattle.std.specs.Prelude.{Option, None, Some}
use native.Mathlib.Omega.{arith}
use lib.Dec.{T, eqb, eqb→eq}
use Rattle.word.proofs.TestLaws.{both}
use Rattle.answers.specs.Numbers.{reason_number}
use Rattle.answers.specs.declared.Reason.TheVariants.{OtherKind, Differs, NotOpened}
use Rattle.terms.specs.Shape.{Shape, kind_of}
use Rattle.terms.specs.Shape as Shape
use Rattle.theory.specs.Outcome.{Outcome, done, stuck, room, bind, Answer, got, not, full, and_then, sure, at, need, free}
use Rattle.theory.specs.World.{Op}
use Rattle.theory.specs.World as Voc
use Rattle.theory.specs.Model.{goes_with, opened, certified}
use Rattle.theory.specs.TermModel.{Term, Names, same_term, is_yes, shape_of_term, term_model, term_world}
use Rattle.theory.specs.Figure2.{TermStores, ◌∉◌, Gives, Decodes}

module _ {A : Type 0} {a b : A} where
  pub done_inj : done a ≡ done b → a ≡ b
  done_inj e = cc

  got_inj : got a ≡ got b → a ≡ b
  got_inj e = cc

-- what is stuck or has no room is not done
module _ {A C : Type 0} {place : ℕ} {b : A} where
  pub stuck_not_done : {why : ℕ} → stuck place why ≡ done b → C
  stuck_not_done e = absurd (let z : ◌≡◌ {A = ℕ} 0 1 = cc in omega arith)

  room_not_done : room place ≡ done b → C
  room_not_done e = absurd (let z : ◌≡◌ {A = ℕ} 0 1 = cc in omega arith)

-- the message of an answer, and the memory
module _ {r q : Term × Names} where
  pub got_message : got r ≡ got q → r.0 ≡ q.0
  got_message e = ap (λ r. r.0) (got_inj e)

  got_memory : got r ≡ got q → r.1 ≡ q.1
  got_memory e = ap (λ r. r.1) (got_inj e)

-- what stands behind a bind that is done
module _ {A B : Type 0} where
  pub bind_then : (x : Outcome A) (f : A → Outcome B) (b : B) → bind x f ≡ done b → (a : A) × (x ≡ done a) × (f a ≡ done b)
  bind_then (done a) f b e = (a, refl, e)
  bind_then (stuck place why) f b e = stuck_not_done e
  bind_then (room place) f b e = room_not_done e

  pub at_then : (row : ℕ) (x : Answer A) (f : A → Outcome B) (b : B) → bind (at row x) f ≡ done b → (a : A) × (x ≡ got a) × (f a ≡ done b)
  at_then row (got a) f b e = (a, refl, e)
  at_then row (not why) f b e = stuck_not_done e
  at_then row full f b e = room_not_done e

  pub need_then : (row : ℕ) (o : Option A) (f : A → Outcome B) (b : B) → bind (need row o) f ≡ done b → (a : A) × (o ≡ Some a) × (f a ≡ done b)
  need_then row (Some a) f b e = (a, refl, e)
  need_then row None f b e = stuck_not_done e

  pub free_then : (row : ℕ) (o : Option A) (f : Unit {0} → Outcome B) (b : B) → bind (free row o) f ≡ done b → (o ≡ None) × (f tt ≡ done b)
  free_then row None f b e = (refl, e)
  free_then row (Some a) f b e = stuck_not_done e

-- over terms a test of equality is equality
pub same_self : (m : Term) → is_yes (same_term m m) ≡ true
same_self m = go (same_term m m)
  where
    go : (d : Dec (m ≡ m)) → is_yes d ≡ true
    go (yes e) = refl
    go (no u) = absurd (u refl)

module _ {B : Type 0} where
  pub same_then : (row : ℕ) (a m : Term) (n : TermStores) (f : Unit {0} → Outcome B) (b : B)
      → bind (at row (term_world.test (Voc.same a m) n.memory)) f ≡ done b → (a ≡ m) × (f tt ≡ done b)
  same_then row a m n f b e = go (same_term a m) e
    where
      go : (d : Dec (a ≡ m)) → bind (at row (sure (reason_number Differs) (is_yes d))) f ≡ done b → (a ≡ m) × (f tt ≡ done b)
      go (yes p) e = (p, e)
      go (no u) e = stuck_not_done e

-- only CREATE takes a name: every other operation leaves the memory of terms
abbrev pub Steady : Op Term → Type 0
Steady (Voc.byte n) = Unit {0}
Steady (Voc.create kind) = ⊥
Steady (Voc.op a) = Unit {0}
Steady (Voc.key_of a) = Unit {0}
Steady (Voc.encrypt k m) = Unit {0}
Steady (Voc.decrypt k m) = Unit {0}
Steady (Voc.sign k m) = Unit {0}
Steady (Voc.hash m) = Unit {0}
Steady (Voc.tuple ms) = Unit {0}

sure_keeps : (why : ℕ) (b : Bool) (r q : Term × Names) → and_then (sure why b) (λ _. got r) ≡ got q → r.1 ≡ q.1
sure_keeps why true r q e = got_memory e
sure_keeps why false r q e = cc

opened_keeps : (k : Term) (s : Shape Term) (x : Names) (r : Term × Names) → opened term_model k s x ≡ got r → x ≡ r.1
opened_keeps k (Shape.atom tag number) x r e = cc
opened_keeps k (Shape.encrypted l b) x r e = sure_keeps (reason_number NotOpened) (goes_with term_model k l x) (b, x) r e
opened_keeps k (Shape.signed l b) x r e = cc
opened_keeps k (Shape.hashed b) x r e = cc
opened_keeps k (Shape.tupled ms) x r e = cc

certified_keeps : (k : Option Term) (x : Names) (r : Term × Names) → certified term_model k x ≡ got r → x ≡ r.1
certified_keeps (Some k) x r e = got_memory e
certified_keeps None x r e = cc

keeps : (o : Op Term) (x : Names) (r : Term × Names) → Steady o → term_world.apply o x ≡ got r → x ≡ r.1
keeps (Voc.byte n) x r s e = got_memory e
keeps (Voc.create kind) x r s e = absurd s
keeps (Voc.op a) x r s e = sure_keeps (reason_number OtherKind) (eqb (kind_of (shape_of_term a)) 5) _ r e
keeps (Voc.key_of a) x r s e = certified_keeps (x.ν a) x r e
keeps (Voc.encrypt k b) x r s e = got_memory e
keeps (Voc.decrypt k c) x r s e = opened_keeps k (shape_of_term c) x r e
keeps (Voc.sign k b) x r s e = got_memory e
keeps (Voc.hash b) x r s e = got_memory e
keeps (Voc.tuple ms) x r s e = got_memory e

module _ {B : Type 0} where
  pub gives_then : (row : ℕ) (o : Op Term) (n : TermStores) (f : Term × Names → Outcome B) (b : B) → Steady o
      → bind (at row (term_world.apply o n.memory)) f ≡ done b → (m : Term) × Gives n o m × (f (m, n.memory) ≡ done b)
  gives_then row o n f b steady e =
      let (r, gives, e) = at_then row (term_world.apply o n.memory) f b e in
      let kept = sym (keeps o n.memory r steady gives) in
      (r.0, subst (λ x. term_world.apply o n.memory ≡ got (r.0, x)) kept gives, subst (λ x. f (r.0, x) ≡ done b) kept e)

  pub decodes_then : (kind : ℕ → ℕ) (row v : ℕ) (m : Term) (n : TermStores) (x : Outcome B) (b : B)
      → bind (free row (n.σ v)) (λ _. bind (at row (term_world.test (Voc.is (kind v) m) n.memory)) λ _. x) ≡ done b
      → (v ∉ n.σ) × Decodes kind n v m × (x ≡ done b)
  decodes_then kind row v m n x b e =
      let (unset, e) = free_then row (n.σ v) _ b e in
      let (_, fits, e) = at_then row (term_world.test (Voc.is (kind v) m) n.memory) _ b e in
      (unset, fits, e)

-- variables of different kinds are different
pub apart : (kind : ℕ → ℕ) (v w k : ℕ) (fits : ℕ → Bool) → T (eqb (kind v) k && fits (kind w)) → (T (fits k) → ⊥) → v ≢ w
apart kind v w k fits t unfit e =
    let (p, q) = (both (eqb (kind v) k) (fits (kind w))).0 t in
    unfit (subst (λ x. T (fits x)) (sym (ap kind e) ∙ eqb→eq (kind v) k p) q)
