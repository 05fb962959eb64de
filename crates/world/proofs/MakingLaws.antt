-- What is made, a way out at a time.
use Rattle.std.specs.Prelude.{Some, None, Ok, Err}
use Prim.Native.Nat.{ℕ, ◌+◌, ◌<◌, ◌≤◌}
use mathlib.Core.Path.{◌≡◌, sym, ◌∙◌, ap}
use mathlib.Core.List.{List}
use native.Mathlib.Numerals.{add-one}
use native.Mathlib.Omega.{arith}
use borrow.Author.Tests.{ne_eqb, lt-ltb, le-ltb}
use lib.ListN.{get_or}
use Rattle.numbers.specs.Limits.{most_names}
use Rattle.answers.specs.declared.Reason.TheVariants.{OtherKind}
use Rattle.word.specs.Fields.{split, at}
use Rattle.terms.specs.Shape.{atom, encrypted, signed, hashed, tupled, kind_of}
use Rattle.terms.specs.Row.{atom_widths, row_of, tag_of}
use Rattle.theory.specs.World.{byte, op, encrypt, sign, hash, tuple}
use Rattle.theory.specs.Model.{opposite}
use Rattle.theory.specs.RowModel.{row_model}
use Rattle.world.specs.Operations.{MakesWord, MakesOver, NamesAt}
use Rattle.world.proofs.LookLaws.{kind_tag, look_atom}

-- terms that can always be made
pub byte_made : {n word : ℕ} → word ≡ row_of (atom 1 n) → MakesWord (byte n) word
byte_made packs = record { says = λ x. rw packs }

pub encrypt_made : {key body word : ℕ} → word ≡ row_of (encrypted key body) → MakesWord (encrypt key body) word
encrypt_made packs = record { says = λ x. rw packs }

pub sign_made : {key body word : ℕ} → word ≡ row_of (signed key body) → MakesWord (sign key body) word
sign_made packs = record { says = λ x. rw packs }

pub hash_made : {body word : ℕ} → word ≡ row_of (hashed body) → MakesWord (hash body) word
hash_made packs = record { says = λ x. rw packs }

pub tuple_made : {parts : List ℕ} {word : ℕ} → word ≡ row_of (tupled parts) → MakesWord (tuple parts) word
tuple_made packs = record { says = λ x. rw packs }

pub ruleset making-ways = (byte_made, encrypt_made, sign_made, hash_made, tuple_made)

-- a created name
module _ (kind counter : ℕ) where
  pub names_none : most_names ≤ counter → NamesAt kind counter None
  names_none most = record { says = λ x same. rw (same, le-ltb counter most_names most) }

  pub names_next : (word : ℕ) → counter < most_names → word ≡ row_of (atom kind counter) → NamesAt kind counter (Some (word, (counter + 1)))
  names_next word free packs = record { says = λ x same. rw (same, lt-ltb counter most_names free, packs, add-one) }

pub ruleset create-ways = (names_none, names_next)

-- the opposite of a private key
module _ (rows : List ℕ) (key known tag : ℕ) (looked : known ≡ get_or rows key 0) (tagged : tag ≡ tag_of known) where
  pub opposite_other : (tag ≡ 5 → ⊥) → MakesOver rows (op key) (Err OtherKind)
  opposite_other other = record { says = λ x over. rw (ne_eqb (kind_of (row_model.look key x)) 5 (λ e. other (sym (kind_tag key looked tagged x over) ∙ e))) }

  pub opposite_made : (number word : ℕ) → tag ≡ 5 → number ≡ at 2 (split atom_widths known) → word ≡ row_of (atom 4 number) → MakesOver rows (op key) (Ok word)
  opposite_made number word private numbered packs = record {
    says = λ x over.
        ap (λ shape. opposite row_model shape x) (look_atom key looked tagged x over (omega arith) numbered ∙ ap (λ t. atom t number) private) ∙ rw packs;
  }

pub ruleset opposite-ways = (opposite_other, opposite_made)
