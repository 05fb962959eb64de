-- What rows mean: the term of a row is what its shape makes of the terms of its parts.
use Rattle.std.specs.Prelude.{ℕ, zero, suc, cond, List, [], ◌∷◌, map}
use Rattle.std.specs.Prelude.{Option, None, Some}
use Rattle.terms.specs.Shape.{Shape, atom, encrypted, signed, hashed, tupled}
use Rattle.terms.specs.Row.{shape_of, row_at}
use Rattle.stores.specs.Certificates.{agent_of, key_of}
use Rattle.theory.specs.TermModel.{Term, same_term, is_yes, term_of}
use Rattle.theory.specs.TermModel as Term

-- a shape over other parts
module _ {A B : Type 0} (g : A → B) where
  abbrev pub reshaped : Shape A → Shape B
  reshaped (atom tag number) = atom tag number
  reshaped (encrypted key body) = encrypted (g key) (g body)
  reshaped (signed key body) = signed (g key) (g body)
  reshaped (hashed body) = hashed (g body)
  reshaped (tupled parts) = tupled (map g parts)

-- the term of a row, to a depth; the parts of a row have smaller numbers, so its own is deep enough
unfoldable pub term_at : List ℕ → ℕ → ℕ → Term
term_at rows zero row = Term.atom 0 0
term_at rows (suc depth) row = term_of (reshaped (term_at rows depth) (shape_of (row_at rows row)))

abbrev pub meaning : List ℕ → ℕ → Term
meaning rows row = term_at rows (suc row) row

-- the public key term of an agent term
unfoldable pub certified_term : List ℕ → List ℕ → Term → Option Term
certified_term rows [] t = None
certified_term rows (word ∷ rest) t =
    cond (is_yes (same_term (meaning rows (agent_of word)) t)) (Some (meaning rows (key_of word))) (certified_term rows rest t)
