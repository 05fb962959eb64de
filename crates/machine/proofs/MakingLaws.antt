-- STORE CONST, CREATE, OPPOSITE, ENCRYPT, SIGN and HASH, a way out at a time.
use Rattle.std.specs.Prelude.{Option, Some, None, Ok, Err}
use Prim.Native.Nat.{ℕ, ◌<◌}
use mathlib.Core.Path.{◌≡◌, refl, ap}
use mathlib.Core.List.{List}
use lib.ListN.{length, get_or, set, length-set}
use Rattle.answers.specs.declared.Reason.{Reason}
use Rattle.numbers.specs.declared.Object.{Object}
use Rattle.numbers.specs.declared.TermRow.{TermRow}
use Rattle.code.specs.declared.Instruction.{Instruction}
use Rattle.code.specs.declared.Instruction.TheVariants.{StoreConst, Create, Opposite, Encrypt, Sign, Hash}
use Rattle.terms.specs.Finder.{Found}
use Rattle.stores.specs.Cells.{unset}
use Rattle.numbers.specs.Kinds.{kind_in}
use Rattle.theory.specs.World.{byte, op, encrypt, sign, hash}
use Rattle.world.specs.Operations.{MakesWord, MakesOver, NamesAt}
use Rattle.machine.specs.Machine.{Slices, with_objects, with_term_rows, holding, using_rows, naming, next, DoesStep, Answered}
use Rattle.machine.specs.declared.Registers.{Registers}
use Rattle.machine.specs.declared.Halt.TheVariants.{Stuck, NoRoom}
use Rattle.machine.proofs.StateLaws.{object_made, accumulator_unset, object_unset}
use Rattle.machine.proofs.SetLaws.{SetIn, UnsetIn, accumulator_given, object_given, row-ways}
use Rattle.machine.proofs.AskLaws.{makes, made_word, made_not, named_none, created_at, created_full}
use Rattle.machine.proofs.FoundLaws.{Finds, finds, found_length, found_row, full_kept}
use Rattle.machine.proofs.AgreeLaws.{reads, gets, fills, answers_as, unset_stops, stops, finds_no_room, makes_accumulator, makes_object}

-- a method that sees objects and rows
abbrev over : List ℕ → List ℕ → Slices → Slices
over objects rows x = with_term_rows (with_objects x objects) rows

abbrev Makes : (ℕ → ℕ) → Instruction → Registers → List ℕ → List ℕ → Answered → List ℕ → List ℕ → Type 0
Makes kind i g objects rows answer objects' rows' = DoesStep kind i g (λ x. over objects rows x) answer (λ x. over objects' rows' x)

module _ (g : Registers) (rows objects : List ℕ) (c : Object) (n : ℕ) (kind : ℕ → ℕ) (word : ℕ) (made : MakesWord (byte n) word) (rows' : List ℕ) (found : Found)
    (answer : Finds rows g.used word found rows') where
  pub store_const_full : found ≡ None → Makes kind (StoreConst c n) g objects rows (Err NoRoom) objects rows'
  store_const_full e x = answers_as _ _ (makes _ _ _ _ made) (finds_no_room g _ answer _ _ e)

  pub store_const_next : (row : TermRow) (used : ℕ) (objects' : List ℕ) (g₁ : Registers) → c.0 < length objects → found ≡ Some (row, used) → objects' ≡ set objects c.0 row.0
      → g₁ ≡ using_rows g used → Makes kind (StoreConst c n) g objects rows (Ok g₁) objects' rows'
  store_const_next row used objects' g₁ inside e w p x = rw (w, p) (answers_as _ _ (makes _ _ _ _ made) (makes_object g _ answer _ e c.0 inside))

pub ruleset store-const-ways = (store_const_full, store_const_next, finds)

module _ (g : Registers) (kinds rows objects : List ℕ) (v : Object) (kind : ℕ) (wanted : kind ≡ kind_in kinds v.0) (name : Option (ℕ × ℕ)) (names : NamesAt kind g.counter name) where
  pub create_nameless : name ≡ None → Makes (kind_in kinds) (Create v) g objects rows (Err NoRoom) objects rows
  create_nameless e x = rw (← wanted) (fills _ _ (named_none _ _ _ _ names e) refl)

  module _ (word counter : ℕ) (named : name ≡ Some (word, counter)) (rows' : List ℕ) (found : Found) (answer : Finds rows g.used word found rows') where
    pub create_full : found ≡ None → Makes (kind_in kinds) (Create v) g objects rows (Err NoRoom) objects rows'
    create_full e x = rw (← wanted) (fills _ _ (created_full _ _ _ _ names named answer e) (ap (λ r. over objects r x) (full_kept answer e)))

    pub create_next : (row : TermRow) (used : ℕ) (objects' : List ℕ) (g₁ : Registers) → v.0 < length objects → found ≡ Some (row, used) → objects' ≡ set objects v.0 row.0
        → g₁ ≡ naming g used counter → Makes (kind_in kinds) (Create v) g objects rows (Ok g₁) objects' rows'
    create_next row used objects' g₁ inside e w p x =
        rw (w, p, ← wanted) (gets _ _ (created_at _ _ _ _ names named answer e)
        (next (object_made _ _ _ _ row.0 (found_row answer e) _ v.0 inside)
        (record { objects_length = length-set objects v.0 row.0; messages_length = refl; rows_length = found_length answer })))

pub ruleset create-ways = (create_nameless, create_full, create_next, finds)

module _ (g : Registers) (rows objects : List ℕ) (private public : Object) (kind : ℕ → ℕ) (cell : TermRow) (read : cell.0 ≡ get_or objects private.0 unset) where
  pub opposite_unset : (answer : Answered) → UnsetIn cell answer → Makes kind (Opposite private public) g objects rows answer objects rows
  opposite_unset answer out x = rw out.stops (unset_stops _ _ (object_unset _ _ _ _ private.0 read out.is_unset))

  module _ (key : TermRow) (keyed : SetIn cell key) where
    pub opposite_not : (answer : Answered) (reason : Reason) → MakesOver rows (op key.0) (Err reason) → answer ≡ Err (Stuck reason)
        → Makes kind (Opposite private public) g objects rows answer objects rows
    opposite_not answer reason made e x = rw e (reads _ _ (object_given _ _ _ _ keyed private.0 read) (stops _ _ (made_not _ _ _ _ made refl)))

    module _ (word : ℕ) (made : MakesOver rows (op key.0) (Ok word)) (rows' : List ℕ) (found : Found) (answer : Finds rows g.used word found rows') where
      pub opposite_full : found ≡ None → Makes kind (Opposite private public) g objects rows (Err NoRoom) objects rows'
      opposite_full e x =
          reads _ _ (object_given _ _ _ _ keyed private.0 read)
          (answers_as _ _ (made_word _ _ _ _ made refl) (finds_no_room g _ answer _ _ e))

      pub opposite_next : (row : TermRow) (used : ℕ) (objects' : List ℕ) (g₁ : Registers) → public.0 < length objects → found ≡ Some (row, used)
          → objects' ≡ set objects public.0 row.0 → g₁ ≡ using_rows g used → Makes kind (Opposite private public) g objects rows (Ok g₁) objects' rows'
      opposite_next row used objects' g₁ inside e w p x =
          rw (w, p) (reads _ _ (object_given _ _ _ _ keyed private.0 read)
          (answers_as _ _ (made_word _ _ _ _ made refl) (makes_object g _ answer _ e public.0 inside)))

pub ruleset opposite-ways = (row-ways, opposite_unset, opposite_not, opposite_full, opposite_next, finds)

module _ (g : Registers) (rows objects : List ℕ) (v : Object) (kind : ℕ → ℕ) (cell : TermRow) (read : cell.0 ≡ get_or objects v.0 unset) where
  pub encrypt_key_unset : (answer : Answered) → UnsetIn cell answer → Makes kind (Encrypt v) g objects rows answer objects rows
  encrypt_key_unset answer out x = rw out.stops (unset_stops _ _ (object_unset _ _ _ _ v.0 read out.is_unset))

  module _ (key : TermRow) (keyed : SetIn cell key) where
    pub encrypt_unset : (answer : Answered) → UnsetIn g.accumulator answer → Makes kind (Encrypt v) g objects rows answer objects rows
    encrypt_unset answer out x = rw out.stops (reads _ _ (object_given _ _ _ _ keyed v.0 read) (unset_stops _ _ (accumulator_unset _ _ _ _ out.is_unset)))

    module _ (body : TermRow) (set_body : SetIn g.accumulator body) (word : ℕ) (made : MakesWord (encrypt key.0 body.0) word)
        (rows' : List ℕ) (found : Found) (answer : Finds rows g.used word found rows') where
      pub encrypt_full : found ≡ None → Makes kind (Encrypt v) g objects rows (Err NoRoom) objects rows'
      encrypt_full e x =
          reads _ _ (object_given _ _ _ _ keyed v.0 read)
          (reads _ _ (accumulator_given _ _ _ set_body) (answers_as _ _ (makes _ _ _ _ made) (finds_no_room g _ answer _ _ e)))

      pub encrypt_next : (row : TermRow) (used : ℕ) (g₁ g₂ : Registers) → found ≡ Some (row, used) → g₁ ≡ using_rows g used → g₂ ≡ holding g₁ row
          → Makes kind (Encrypt v) g objects rows (Ok g₂) objects rows'
      encrypt_next row used g₁ g₂ e p q x =
          rw (q, p) (reads _ _ (object_given _ _ _ _ keyed v.0 read)
          (reads _ _ (accumulator_given _ _ _ set_body) (answers_as _ _ (makes _ _ _ _ made) (makes_accumulator g _ answer _ e))))

pub ruleset encrypt-ways = (row-ways, encrypt_key_unset, encrypt_unset, encrypt_full, encrypt_next, finds)

module _ (g : Registers) (rows objects : List ℕ) (v : Object) (kind : ℕ → ℕ) (cell : TermRow) (read : cell.0 ≡ get_or objects v.0 unset) where
  pub sign_key_unset : (answer : Answered) → UnsetIn cell answer → Makes kind (Sign v) g objects rows answer objects rows
  sign_key_unset answer out x = rw out.stops (unset_stops _ _ (object_unset _ _ _ _ v.0 read out.is_unset))

  module _ (key : TermRow) (keyed : SetIn cell key) where
    pub sign_unset : (answer : Answered) → UnsetIn g.accumulator answer → Makes kind (Sign v) g objects rows answer objects rows
    sign_unset answer out x = rw out.stops (reads _ _ (object_given _ _ _ _ keyed v.0 read) (unset_stops _ _ (accumulator_unset _ _ _ _ out.is_unset)))

    module _ (body : TermRow) (set_body : SetIn g.accumulator body) (word : ℕ) (made : MakesWord (sign key.0 body.0) word)
        (rows' : List ℕ) (found : Found) (answer : Finds rows g.used word found rows') where
      pub sign_full : found ≡ None → Makes kind (Sign v) g objects rows (Err NoRoom) objects rows'
      sign_full e x =
          reads _ _ (object_given _ _ _ _ keyed v.0 read)
          (reads _ _ (accumulator_given _ _ _ set_body) (answers_as _ _ (makes _ _ _ _ made) (finds_no_room g _ answer _ _ e)))

      pub sign_next : (row : TermRow) (used : ℕ) (g₁ g₂ : Registers) → found ≡ Some (row, used) → g₁ ≡ using_rows g used → g₂ ≡ holding g₁ row
          → Makes kind (Sign v) g objects rows (Ok g₂) objects rows'
      sign_next row used g₁ g₂ e p q x =
          rw (q, p) (reads _ _ (object_given _ _ _ _ keyed v.0 read)
          (reads _ _ (accumulator_given _ _ _ set_body) (answers_as _ _ (makes _ _ _ _ made) (makes_accumulator g _ answer _ e))))

pub ruleset sign-ways = (row-ways, sign_key_unset, sign_unset, sign_full, sign_next, finds)

module _ (g : Registers) (rows : List ℕ) (kind : ℕ → ℕ) (h : Object) where
  abbrev Hashes : Answered → List ℕ → Type 0
  Hashes answer rows' = DoesStep kind (Hash h) g (λ x. with_term_rows x rows) answer (λ x. with_term_rows x rows')

  pub hash_unset : (answer : Answered) → UnsetIn g.accumulator answer → Hashes answer rows
  hash_unset answer out x = rw out.stops (unset_stops _ _ (accumulator_unset _ _ _ _ out.is_unset))

  module _ (body : TermRow) (set_body : SetIn g.accumulator body) (word : ℕ) (made : MakesWord (hash body.0) word)
      (rows' : List ℕ) (found : Found) (answer : Finds rows g.used word found rows') where
    pub hash_full : found ≡ None → Hashes (Err NoRoom) rows'
    hash_full e x = reads _ _ (accumulator_given _ _ _ set_body) (answers_as _ _ (makes _ _ _ _ made) (finds_no_room g _ answer _ _ e))

    pub hash_next : (row : TermRow) (used : ℕ) (g₁ g₂ : Registers) → found ≡ Some (row, used) → g₁ ≡ using_rows g used → g₂ ≡ holding g₁ row → Hashes (Ok g₂) rows'
    hash_next row used g₁ g₂ e p q x = rw (q, p) (reads _ _ (accumulator_given _ _ _ set_body) (answers_as _ _ (makes _ _ _ _ made) (makes_accumulator g _ answer _ e)))

pub ruleset hash-ways = (row-ways, hash_unset, hash_full, hash_next, finds)
