-- How a row looks, by its tag.
use Prim.Native.Nat.{ℕ, ◌≤◌}
use mathlib.Core.Path.{◌≡◌, sym, ◌∙◌, ap}
use mathlib.Core.List.{List}
use native.Mathlib.Omega.{arith}
use lib.ListN.{get_or}
use Rattle.word.specs.Fields.{split, at}
use Rattle.terms.specs.Shape.{Shape, atom, encrypted, signed, kind_of}
use Rattle.terms.specs.Row.{term_widths, atom_widths, tag_of, shape_of}
use Rattle.terms.proofs.RowLaws.{tag_kind}
use Rattle.terms.proofs.ShapeLaws.{shape_atom, shape_encrypted, shape_signed}
use Rattle.theory.specs.RowModel.{Table, row_model}

module _ {rows : List ℕ} (row : ℕ) {word tag : ℕ} (looked : word ≡ get_or rows row 0) (tagged : tag ≡ tag_of word) (x : Table) (over : x.rows ≡ rows) where
  abbrev look : Shape ℕ
  look = row_model.look row x

  pub as_word : look ≡ shape_of word
  as_word = rw (over, ← looked)

  pub kind_tag : kind_of look ≡ tag
  kind_tag = ap kind_of as_word ∙ tag_kind word ∙ sym tagged

  pub look_atom : {number : ℕ} → tag ≤ 6 → number ≡ at 2 (split atom_widths word) → look ≡ atom tag number
  look_atom {number} small numbered = as_word ∙ shape_atom word (λ a b. omega arith) ∙ rw (tagged, numbered)

  pub look_encrypted : {key body : ℕ} → tag ≡ 7 → key ≡ at 3 (split term_widths word) → body ≡ at 4 (split term_widths word) → look ≡ encrypted key body
  look_encrypted is key body = as_word ∙ shape_encrypted word (sym tagged ∙ is) ∙ rw (key, body)

  pub look_signed : {key body : ℕ} → tag ≡ 8 → key ≡ at 3 (split term_widths word) → body ≡ at 4 (split term_widths word) → look ≡ signed key body
  look_signed is key body = as_word ∙ shape_signed word (sym tagged ∙ is) ∙ rw (key, body)
