-- What is opened or looked up, a way out at a time.
use Rattle.std.specs.Prelude.{Result, Ok, Err}
use Rattle.std.specs.Option.{ok_or}
use Prim.Native.Nat.{ℕ, ◌<◌, ◌≤◌}
use mathlib.Core.Path.{◌≡◌, refl, sym, ◌∙◌, ap}
use mathlib.Core.Bool.{Bool, true, false, not}
use Rattle.std.specs.Prelude.{Option, None, Some}
use mathlib.Core.List.{List, [], ◌∷◌}
use native.Mathlib.Omega.{arith}
use borrow.Author.Tests.{eq-eqb, ne_eqb, not-true, not-false}
use lib.ListN.{length, get_or}
use lib.Dec.{eqb}
use Rattle.numbers.specs.Limits.{most_parts, most_term_rows}
use Rattle.numbers.specs.declared.TermRow.{TermRow}
use Rattle.answers.specs.Numbers.{reason_number}
use Rattle.answers.specs.declared.Reason.{Reason}
use Rattle.answers.specs.declared.Reason.TheVariants.{PartCount, NoCertificate, NotOpened}
use Rattle.word.specs.Fields.{split, at}
use Rattle.terms.specs.Shape.{Shape, atom, encrypted, signed, hashed, tupled, kind_of, parts_of}
use Rattle.terms.specs.Row.{term_widths, tag_of, shape_of}
use Rattle.terms.proofs.ShapeLaws.{shape_tupled}
use Rattle.stores.specs.Certificates.{agent_of, key_of as key_in, certified}
use Rattle.certificates.specs.Answer.{certificate_of}
use Rattle.theory.specs.Outcome.{got, and_then, sure}
use Rattle.theory.specs.Outcome as Outcome
use Rattle.theory.specs.World.{decrypt}
use Rattle.theory.specs.Model.{goes_with, opened, taken}
use Rattle.theory.specs.RowModel.{Table, row_model, row_world}
use Rattle.world.specs.Operations.{OpensOver, CertifiedBy, PartsOver, keys_pair}
use Rattle.world.proofs.LookLaws.{as_word, kind_tag, look_encrypted}

-- an answer that is no row
no_row : {A : Type 0} {reason : Reason} {row : TermRow} → Err reason ≡ Ok row → A
no_row e = let z : ◌≡◌ {A = ℕ} 0 1 = cc in absurd (omega arith)

-- the key of an agent's certificate
no_certificate : (key : Option ℕ) → certificate_of key ≡ None → key ≡ None
no_certificate None e = refl
no_certificate (Some key) e = let z : ◌≡◌ {A = ℕ} 0 1 = cc in absurd (omega arith)

a_certificate : (key : Option ℕ) {row : TermRow} → certificate_of key ≡ Some row → key ≡ Some row.0
a_certificate None e = let z : ◌≡◌ {A = ℕ} 0 1 = cc in absurd (omega arith)
a_certificate (Some key) {row} e = let same : key ≡ row.0 = cc in ap Some same

keys_below : (certificates : List ℕ) (agent key : ℕ) → certified certificates agent ≡ Some key → key < most_term_rows
unfolding certified key_in
keys_below [] agent key e = let z : ◌≡◌ {A = ℕ} 0 1 = cc in absurd (omega arith)
keys_below (word ∷ rest) agent key e = go (eqb (agent_of word) agent) e (keys_below rest agent key)
  where
    go : (b : Bool) → elim b [ true ↦ Some (key_in word) | false ↦ certified rest agent ] ≡ Some key → (certified rest agent ≡ Some key → key < most_term_rows) → key < most_term_rows
    go true q later = let same : key_in word ≡ key = cc in omega arith
    go false q later = later q

module _ (certificates : List ℕ) (agent : ℕ) (says : Option TermRow) (certificate : says ≡ certificate_of (certified certificates agent)) where
  key_of_none : says ≡ None → CertifiedBy certificates agent (Err NoCertificate)
  key_of_none e = record {
    says = λ x same. rw (same, no_certificate (certified certificates agent) (sym certificate ∙ e));
    below = λ row q. no_row q;
  }

  key_of_key : (key : TermRow) → says ≡ Some key → CertifiedBy certificates agent (Ok key)
  key_of_key key e =
      let is = a_certificate (certified certificates agent) (sym certificate ∙ e) in
      record {
        says = λ x same. rw (same, is);
        below = λ row q. let k : key.0 ≡ row.0 = cc in rw k at (keys_below certificates agent key.0 is);
      }

  pub key_of_either : (answer : Result TermRow Reason) → answer ≡ ok_or says NoCertificate → CertifiedBy certificates agent answer
  key_of_either answer is = rw is (go says refl)
    where
      go : (found : Option TermRow) → says ≡ found → CertifiedBy certificates agent (ok_or found NoCertificate)
      go None e = key_of_none e
      go (Some key) e = key_of_key key e

-- what a key opens
opened_other : (key : ℕ) (shape : Shape ℕ) (x : Table) → (kind_of shape ≡ 7 → ⊥) → opened row_model key shape x ≡ Outcome.not (reason_number NotOpened)
opened_other key (atom tag number) x other = refl
opened_other key (encrypted lock body) x other = absurd (other refl)
opened_other key (signed lock body) x other = refl
opened_other key (hashed body) x other = refl
opened_other key (tupled parts) x other = refl

-- keys go together by their rows alone
pub pairs_over : {rows : List ℕ} (key other : ℕ) (x : Table) → x.rows ≡ rows → goes_with row_model key other x ≡ keys_pair rows key other
unfolding keys_pair
pairs_over key other x over = rw over

module _ (rows : List ℕ) (key sealed word tag : ℕ) (looked : word ≡ get_or rows sealed 0) (tagged : tag ≡ tag_of word) where
  pub decrypt_other : (tag ≡ 7 → ⊥) → OpensOver rows (decrypt key sealed) (Err NotOpened)
  decrypt_other other = record {
    says = λ x over. opened_other key (row_model.look sealed x) x (λ e. other (sym (kind_tag sealed looked tagged x over) ∙ e));
    below = λ row q. no_row q;
  }

  module _ (encryption : tag ≡ 7) (lock : ℕ) (locked : lock ≡ at 3 (split term_widths word)) (verdict : Bool) (goes : verdict ≡ keys_pair rows key lock) where
    opening : {inner : ℕ} → inner ≡ at 4 (split term_widths word) → (x : Table) → x.rows ≡ rows
        → row_world.apply (decrypt key sealed) x ≡ and_then (sure (reason_number NotOpened) verdict) (λ _. got (inner, x))
    opening {inner} holds x over =
        ap (λ shape. opened row_model key shape x) (look_encrypted sealed looked tagged x over encryption locked holds)
        ∙ ap (λ b. and_then (sure (reason_number NotOpened) b) (λ _. got (inner, x))) (pairs_over key lock x over ∙ sym goes)

    pub decrypt_closed : not verdict ≡ true → OpensOver rows (decrypt key sealed) (Err NotOpened)
    decrypt_closed e = record { says = λ x over. opening refl x over ∙ rw (not-true verdict e); below = λ row q. no_row q }

    pub decrypt_open : (inner : TermRow) → not verdict ≡ false → inner.0 ≡ at 4 (split term_widths word) → OpensOver rows (decrypt key sealed) (Ok inner)
    decrypt_open inner e holds = record {
      says = λ x over. opening holds x over ∙ rw (not-false verdict e);
      below = λ row q. let k : inner.0 ≡ row.0 = cc in omega arith;
    }

pub ruleset decrypt-ways = (decrypt_other, decrypt_closed, decrypt_open)

-- the parts of a tuple
taken_other : (row n : ℕ) (shape : Shape ℕ) → (kind_of shape ≡ 10 → ⊥) → taken row_model row n shape ≡ Outcome.not (reason_number PartCount)
taken_other row n (atom tag number) other = refl
taken_other row n (encrypted key body) other = refl
taken_other row n (signed key body) other = refl
taken_other row n (hashed body) other = refl
taken_other row n (tupled parts) other = absurd (other refl)

no_tuple : {A : Type 0} {reason : Reason} {word : ℕ} → Err reason ≡ Ok word → A
no_tuple e = let z : ◌≡◌ {A = ℕ} 0 1 = cc in absurd (omega arith)

module _ (rows : List ℕ) (row n word tag : ℕ) (looked : word ≡ get_or rows row 0) (tagged : tag ≡ tag_of word) where
  pub parts_other : (tag ≡ 10 → ⊥) → PartsOver rows row n (Err PartCount)
  parts_other other = record {
    says = λ x over. taken_other row n (row_model.look row x) (λ e. other (sym (kind_tag row looked tagged x over) ∙ e));
    exactly = λ w q. no_tuple q;
    few = λ w q. no_tuple q;
  }

  module _ (tuple : tag ≡ 10) (size : ℕ) (sized : size ≡ length (parts_of (shape_of word))) where
    tuple_parts : (x : Table) → x.rows ≡ rows
        → row_world.parts row n x ≡ and_then (sure (reason_number PartCount) (eqb size n)) (λ _. got (λ i. get_or (parts_of (shape_of word)) i row))
    tuple_parts x over = let shape = shape_tupled word (sym tagged ∙ tuple) in ap (taken row_model row n) (as_word row looked tagged x over ∙ shape) ∙ rw (sized, shape)

    pub parts_differ : (size ≡ n → ⊥) → PartsOver rows row n (Err PartCount)
    parts_differ differs = record {
      says = λ x over. tuple_parts x over ∙ rw (ne_eqb size n differs);
      exactly = λ w q. no_tuple q;
      few = λ w q. no_tuple q;
    }

    pub parts_taken : size ≡ n → size ≤ most_parts → PartsOver rows row n (Ok word)
    parts_taken same small = record {
      says = λ x over. tuple_parts x over ∙ rw (eq-eqb size n same);
      exactly = λ w q. let k : word ≡ w = cc in rw (← k) (sym sized ∙ same);
      few = λ w q. omega arith;
    }

pub ruleset parts-ways = (parts_other, parts_differ, parts_taken)
