-- The table of rows stands for terms: whatever the vocabulary makes of rows, it makes of what they mean, and the table stays valid.
use mathlib.Core.Path.{◌≡◌, refl, sym, ◌∙◌, ap, fun_ext}
use mathlib.Core.Logic.{◌↔◌, inl, inr, ◌≢◌}
use mathlib.Core.Bool.{Bool, true, false, cond}
use Rattle.std.specs.Prelude.{Some}
use mathlib.Core.List.{List, [], ◌∷◌}
use Prim.Native.Nat.{ℕ, suc, ◌+◌, ◌<◌}
use native.Mathlib.Omega.{arith}
use lib.Dec.{T, eqb, ltb}
use lib.ListN.{length, get_or, set}
use lib.Seq.{get_or-set_same}
use Rattle.word.proofs.TestLaws.{equals, is_below}
use Rattle.word.proofs.All.{All, all_map}
use Rattle.terms.specs.Shape.{Shape, atom, kind_of}
use Rattle.terms.specs.Row.{row_of, tag_of, shape_of}
use Rattle.terms.specs.Rules.{used_rows}
use Rattle.terms.specs.Finder.{locate}
use Rattle.terms.proofs.RowLaws.{tag_kind, shape_word}
use Rattle.terms.specs.Table.{NumberFits}
use Rattle.terms.proofs.TableLaws.{GoodShape, good_word}
use Rattle.terms.proofs.FinderLaws.{located_as}
use Rattle.stores.specs.Certificates.{agent_of, key_of, certified}
use Rattle.stores.specs.GoodStores.{GoodPair}
use Rattle.theory.specs.Outcome.{got, full}
use Rattle.theory.specs.Model.{number_of}
use Rattle.theory.specs.RowModel.{Table, with_rows, with_counter, name, placed, row_model, row_world}
use Rattle.numbers.specs.Limits.{most_names}
use Rattle.theory.specs.TermModel.{Term, Names, same_term, is_yes, term_of, term_model, term_world}
use Rattle.theory.specs.TermModel as Term
use Rattle.theory.specs.Meaning.{reshaped, meaning, certified_term}
use Rattle.theory.proofs.Related.{EachR, nil, cons, CellR, unset, AnswerR, gots, fulls, ShapeR, atom_r, encrypted_r, signed_r, hashed_r, tupled_r, each_length, same_kind, shape_map}
use Rattle.theory.proofs.Related as Related
use Rattle.theory.proofs.Refinement.{Reading, Kept, Made}
use Rattle.theory.proofs.ModelRefinement.{Makeable, Fresh, ModelRefines}
use Rattle.theory.proofs.ValidMemory.{ValidMemory, used_inside, row_small, name_taken, row_kept, row_added}
use Rattle.theory.proofs.Meaning.{shape_term, meaning_of, shape_related, meaning_once, meaning_kept, related_reshaped}

-- what a table is in the world of terms
abbrev pub names_of : Table → Names
names_of x = record { counter = x.counter; ν = certified_term x.rows x.certificates }

abbrev pub Means : Table → ℕ → Term → Type 0
Means x row t = (row < x.used) × (meaning x.rows row ≡ t)

abbrev pub kind_of_term : Term → ℕ
kind_of_term t = kind_of (Term.shape_of_term t)

abbrev pub rows_read : Reading row_world term_world
rows_read = record { Good = λ x c. ValidMemory x × (c ≡ names_of x); Means = Means; kind = kind_of_term }

module _ {x : Table} (v : ValidMemory x) where
  open x use {rows, used, counter}

  is_used : (row : ℕ) → row < used → row < used_rows rows
  is_used row l = omega arith

  looked : (row : ℕ) (t : Term) → Means x row t → ShapeR (Means x) (shape_of (get_or rows row 0)) (Term.shape_of_term t)
  looked row t m = rw (← m.1) (shape_related v.table (Means x) row (is_used row m.0) λ part l. (omega arith, refl))

  -- the tag of a row is the kind of its term
  pub tag_means : (row : ℕ) (t : Term) → Means x row t → tag_of (get_or rows row 0) ≡ kind_of_term t
  tag_means row t m = sym (tag_kind (get_or rows row 0)) ∙ same_kind (looked row t m)

  -- rows are equal where their terms are
  equal_means : (row other : ℕ) (t u : Term) → Means x row t → Means x other u → eqb row other ≡ is_yes (same_term t u)
  equal_means row other t u m n = go (eqb row other) (same_term t u) (equals row other)
    where
      go : (b : Bool) (d : Dec (t ≡ u)) → T b ↔ (row ≡ other) → b ≡ is_yes d
      go true (yes same) says = refl
      go false (no differ) says = refl
      go true (no differ) says = absurd (differ (sym m.1 ∙ ap (meaning rows) (says.0 tt) ∙ n.1))
      go false (yes same) says = absurd (says.1 (meaning_once v.table row other (is_used row m.0) (is_used other n.0) (m.1 ∙ same ∙ sym n.1)))

  -- an agent row has the certificate of its term
  certified_means : (certificates : List ℕ) → All (GoodPair rows used) certificates → (row : ℕ) (t : Term) → Means x row t
      → CellR (Means x) (certified certificates row) (certified_term rows certificates t)
  unfolding certified certified_term
  certified_means [] pairs row t m = unset
  certified_means (word ∷ rest) pairs row t m =
      rw (← (equal_means (agent_of word) row (meaning rows (agent_of word)) t (pairs.0.agent.0, refl) m))
      (go (eqb (agent_of word) row) (certified_means rest pairs.1 row t m))
    where
      go : (b : Bool) → CellR (Means x) (certified rest row) (certified_term rows rest t)
          → CellR (Means x) (elim b [ true ↦ Some (key_of word) | false ↦ certified rest row ])
          (cond b (Some (meaning rows (key_of word))) (certified_term rows rest t))
      go true later = Related.set (pairs.0.key.0, refl)
      go false later = later

  -- numbers of private keys are names
  named_means : (row : ℕ) (t : Term) → Means x row t → kind_of_term t ≡ 5 → number_of (Term.shape_of_term t) < counter
  named_means row t m private = go (looked row t m) private (v.table.good row (is_used row m.0)).number
    where
      go : {s : Shape ℕ} {u : Shape Term} → ShapeR (Means x) s u → kind_of u ≡ 5 → NumberFits counter s → number_of u < counter
      go atom_r e fits = fits.1 (λ p. omega arith) (λ p. omega arith)
      go (encrypted_r p q) e fits = absurd (omega arith)
      go (signed_r p q) e fits = absurd (omega arith)
      go (hashed_r p) e fits = absurd (omega arith)
      go (tupled_r ps) e fits = absurd (omega arith)

  -- a shape that may be made is one that a row may have
  abbrev MayBeMade : Shape Term → Type 0
  MayBeMade u = Makeable kind_of_term (λ n. n < counter) u

  good_atom : (tag number : ℕ) → MayBeMade (atom tag number) → GoodShape rows counter used (atom tag number)
  good_atom tag number (inl byte) =
      record { packs = omega arith; number = (λ _. byte.1, λ other _. absurd (other byte.0)); below = tt; key = tt }
  good_atom tag number (inr name) = record { packs = omega arith; number = (λ e. absurd (omega arith), λ _ _. name.2); below = tt; key = tt }

  parts_used : {parts : List ℕ} {ts : List Term} → EachR (Means x) parts ts → All (λ part. part < used) parts
  parts_used nil = tt
  parts_used (cons m ms) = (m.0, parts_used ms)

  good_shape : {s : Shape ℕ} {u : Shape Term} → ShapeR (Means x) s u → MayBeMade u → GoodShape rows counter used s
  good_shape (atom_r {tag = tag} {number = number}) makes = good_atom tag number makes
  good_shape (encrypted_r {k = k} {m = b} {l = l} p q) makes =
      record { packs = (row_small v k p.0, row_small v b q.0); number = tt; below = (p.0, (q.0, tt)); key = rw (tag_means k l p) makes }
  good_shape (signed_r {k = k} {m = b} {l = l} p q) makes =
      record { packs = (row_small v k p.0, row_small v b q.0); number = tt; below = (p.0, (q.0, tt)); key = rw (tag_means k l p) makes }
  good_shape (hashed_r {m = b} p) makes = record { packs = row_small v b p.0; number = tt; below = (p.0, tt); key = tt }
  good_shape (tupled_r {ms = parts} ps) makes =
      record { packs = (rw (each_length ps) makes, all_map parts (row_small v) (parts_used ps)); number = tt; below = parts_used ps; key = tt }

  -- the row of a shape means the shape's term
  row_means : (row : ℕ) {s : Shape ℕ} {u : Shape Term} → row < used → shape_of (get_or rows row 0) ≡ s → ShapeR (Means x) s u → Means x row (term_of u)
  row_means row l e m =
      let parts = related_reshaped (Means x) (meaning rows) (λ a t n. n.1) m in
      (l, meaning_of v.table row (is_used row l) ∙ ap (λ s. term_of (reshaped (meaning rows) s)) e ∙ ap term_of parts)

  -- rows that are kept keep their meanings, and so do the certificates
  module _ (others : List ℕ) (same : (row : ℕ) → row < used → get_or others row 0 ≡ get_or rows row 0) where
    means_kept : (row : ℕ) → row < used → meaning others row ≡ meaning rows row
    means_kept row l = meaning_kept v.table others (λ row h. same row (omega arith)) row (is_used row l)

    certified_kept : (certificates : List ℕ) → All (GoodPair rows used) certificates → (t : Term)
        → certified_term others certificates t ≡ certified_term rows certificates t
    unfolding certified_term
    certified_kept [] pairs t = refl
    certified_kept (word ∷ rest) pairs t =
        rw (means_kept (agent_of word) pairs.0.agent.0, means_kept (key_of word) pairs.0.key.0, certified_kept rest pairs.1 t)

-- a name is taken on both sides
abbrev FreshR : Table → ℕ × Table → ℕ × Names → Type 0
FreshR x = Fresh row_model term_model rows_read (λ c n. n < c.counter) x

-- what is made means the same on both sides
module _ {x : Table} (v : ValidMemory x) where
  open x use {rows, used, counter, certificates}

  -- the row of a made shape means its term, in a table that is valid
  module _ {s : Shape ℕ} {u : Shape Term} (m : ShapeR (Means x) s u) (makes : MayBeMade v u) where
    abbrev MadeR : ℕ × Table → Term × Names → Type 0
    MadeR = Made rows_read x (λ k. k ≡ kind_of u)

    fits : GoodShape rows counter used s
    fits = good_shape v m makes

    kind_made : kind_of_term (term_of u) ≡ kind_of u
    kind_made = ap kind_of (shape_term u)

    present : (row : ℕ) → row < used → get_or rows row 0 ≡ row_of s → MadeR (row, x) (term_of u, names_of x)
    present row l e =
        record { means = row_means v row l (ap shape_of e ∙ shape_word s fits.packs) m; good = (v, refl); kept = λ a t n. n; kind = kind_made }

    added : ((row : ℕ) → row < used → get_or rows row 0 ≢ row_of s) → used < length rows
        → MadeR (used, with_rows x (set rows used (row_of s)) (used + 1)) (term_of u, names_of x)
    added absent free =
        let good = good_word fits absent in
        let valid = row_added v free good in
        let same = row_kept v free good in
        let kept : Kept rows_read x (with_rows x (set rows used (row_of s)) (used + 1)) = λ row t n. (omega arith, means_kept v _ same row n.0 ∙ n.1) in
        let shape = ap shape_of (get_or-set_same rows used (row_of s) 0 free) ∙ shape_word s fits.packs in
        record {
          means = row_means valid used (omega arith) shape (shape_map kept m);
          good = (valid, ap (λ ν. record { counter = counter; ν = ν }) (fun_ext λ t. sym (certified_kept v _ same certificates v.certificates.pairs t)));
          kept = kept;
          kind = kind_made;
        }

    made : AnswerR MadeR (placed x (locate rows used (row_of s))) (got (term_of u, names_of x))
    made =
        located_as rows used (row_of s) (used_inside v) (λ l. AnswerR MadeR (placed x l) (got (term_of u, names_of x))) (λ row l e. gots (present row l e))
        (λ absent free. gots (added absent free)) (λ absent past. fulls)

  fresh_name : AnswerR (FreshR x) (name counter (with_counter x)) (name counter (Term.raised_to (names_of x)))
  fresh_name = go (ltb counter most_names) (is_below counter most_names).0
    where
      taken : counter < most_names → FreshR x (counter, with_counter x (suc counter)) (counter, Term.raised_to (names_of x) (suc counter))
      taken below = record { same = refl; good = (name_taken v below, refl); kept = λ a t m. m; taken = omega arith }

      go : (b : Bool) → (T b → counter < most_names)
          → AnswerR (FreshR x) (cond b (got (counter, with_counter x (suc counter))) full) (cond b (got (counter, Term.raised_to (names_of x) (suc counter))) full)
      go true below = gots (taken (below tt))
      go false below = fulls

pub rows_are_terms : ModelRefines row_model term_model rows_read
rows_are_terms = record {
  Named = λ c n. n < c.counter;
  kinds = λ t c. refl;
  looks = λ good m. looked good.0 _ _ m;
  makes = λ good m makes. rw good.1 (made good.0 m (rw good.1 at makes));
  freshes = λ good. rw good.1 (fresh_name good.0);
  named = λ good m private. rw good.1 (named_means good.0 _ _ m private);
  certificates = λ good m. rw good.1 (certified_means good.0 _ good.0.certificates.pairs _ _ m);
  equals = λ good m n. equal_means good.0 _ _ _ _ m n;
}
