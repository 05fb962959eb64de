-- The world of abstract terms: the memory is the name counter and the certificate store ν.
use Rattle.std.specs.Prelude.{ℕ, ◌≡◌, Bool, true, false, List, [], ◌∷◌}
use Rattle.std.specs.Prelude.{Option}
use Rattle.std.proofs.Math.Decide.{ℕ_discrete}
use Rattle.terms.specs.Shape.{Shape}
use Rattle.terms.specs.Shape as Shape
use Rattle.theory.specs.Outcome.{got}
use Rattle.theory.specs.World.{World}
use Rattle.theory.specs.Model.{Model, world}
use Rattle.theory.specs.RowModel.{name}

mutual
  pub data Term : Type 0 where
    atom : ℕ → ℕ → Term
    encrypted : Term → Term → Term
    signed : Term → Term → Term
    hashed : Term → Term
    tupled : Terms → Term
    deriving Discrete as Term-discrete

  pub data Terms : Type 0 where
    nil : Terms
    cons : Term → Terms → Terms

pub same_term : (t u : Term) → Dec (t ≡ u)
same_term = Term-discrete ℕ_discrete

abbrev pub is_yes : {A : Type 0} → Dec A → Bool
is_yes (yes a) = true
is_yes (no n) = false

-- a term is a shape over terms
abbrev pub listed : Terms → List Term
listed nil = []
listed (cons t ts) = t ∷ listed ts

abbrev pub collected : List Term → Terms
collected [] = nil
collected (t ∷ ts) = cons t (collected ts)

abbrev pub shape_of_term : Term → Shape Term
shape_of_term (atom tag number) = Shape.atom tag number
shape_of_term (encrypted key body) = Shape.encrypted key body
shape_of_term (signed key body) = Shape.signed key body
shape_of_term (hashed body) = Shape.hashed body
shape_of_term (tupled ts) = Shape.tupled (listed ts)

abbrev pub term_of : Shape Term → Term
term_of (Shape.atom tag number) = atom tag number
term_of (Shape.encrypted key body) = encrypted key body
term_of (Shape.signed key body) = signed key body
term_of (Shape.hashed body) = hashed body
term_of (Shape.tupled ts) = tupled (collected ts)

pub record Names : Type 0 where
  pub counter : ℕ
  pub ν : Term → Option Term

abbrev pub raised_to : Names → ℕ → Names
raised_to x counter = record { counter = counter; ν = x.ν }

-- every term can be made; there is always room
abbrev pub term_model : Model
term_model = record {
  Msg = Term;
  Mem = Names;
  look = λ t x. shape_of_term t;
  make = λ shape x. got (term_of shape, x);
  fresh = λ x. name x.counter (raised_to x);
  certificate = λ agent x. x.ν agent;
  equal = λ t u x. is_yes (same_term t u);
}

abbrev pub term_world : World
term_world = world term_model
