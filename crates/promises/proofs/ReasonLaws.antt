-- Why a step stops, in the state before it.
use Prim.Native.Nat.{ℕ, zero, suc, ◌<◌, ◌≤◌}
use mathlib.Core.Path.{◌≡◌, refl, sym, ◌∙◌, ap, subst}
use mathlib.Core.Logic.{◌↔◌, ◌≢◌, ◌⊎◌, inl, inr}
use mathlib.Core.Bool.{Bool, true, false, ◌&&◌, ◌||◌}
use Rattle.std.specs.Prelude.{Option, None, Some}
use mathlib.Core.List.{List, [], ◌∷◌, map}
use native.Mathlib.Decide.{dec_lt}
use native.Mathlib.Omega.{arith}
use lib.Dec.{T, eqb, ltb}
use lib.ListN.{length, get_or}
use borrow.Author.Tests.{eq-eqb, ne_eqb, lt-ltb, le-ltb}
use Rattle.word.proofs.All.{All}
use Rattle.word.specs.Lowest.{one_of}
use Rattle.word.proofs.LowestLaws.{one_all}
use Rattle.word.proofs.TestLaws.{both, either, equals, is_false}
use Rattle.numbers.specs.Limits.{most_names}
use Rattle.numbers.specs.declared.Object.{Object}
use Rattle.numbers.specs.declared.Raw.{Raw}
use Rattle.code.specs.Words.{has_kind, cells_fit, operands_fit}
use Rattle.code.specs.declared.Instruction.{Instruction}
use Rattle.code.specs.declared.Instruction.TheVariants.{Load, Store, StoreConst, Decode, Encode, Create, AnalyzeTuple, CreateTuple, Opposite, KeyOf, Match, Encrypt, Decrypt, Sign, Verify, Hash}
use Rattle.terms.specs.Shape.{Shape, atom, encrypted, signed, hashed, tupled, kind_of, parts_of}
use Rattle.terms.specs.Row.{row_of, tag_of, shape_of}
use Rattle.terms.specs.Finder.{locate}
use Rattle.terms.proofs.RowLaws.{tag_kind}
use Rattle.terms.proofs.ShapeLaws.{shape_atom, shape_tupled}
use Rattle.terms.proofs.FinderLaws.{located_as, locate_full, equal_absent}
use Rattle.stores.specs.Certificates as Certificates
use Rattle.theory.specs.Outcome.{Outcome, done, stuck, room, bind, got, not, and_then, sure, at, need}
use Rattle.theory.specs.Model.{number_of, pair, goes_with, opened, certified, verified, taken}
use Rattle.theory.specs.World.{op, create}
use Rattle.theory.specs.RowModel.{Table, with_counter, placed, row_model, row_world}
use Rattle.theory.specs.Machine.{State, message, messages, step}
use Rattle.theory.proofs.ValidMemory.{used_inside}
use Rattle.theory.proofs.RowsRunAsTerms.{Held, HasTag, ValidState}
use Rattle.promises.specs.Reasons.{Unset, cells, reads, row_at, tag, number, shape, GoesWith, NoRow, Sticks, unset, other_kind, differs, part_count, no_certificate, not_opened, not_verified, Fills, no_name, name, byte, public_key, encryption, signature, hash, tuple}

-- no certificate, and none found
uncertified : (certificates : List ℕ) (agent : ℕ) → (Certificates.certified certificates agent ≡ None) ↔ All (λ word. Certificates.agent_of word ≢ agent) certificates
unfolding Certificates.certified
uncertified [] agent = (λ e. tt, λ a. refl)
uncertified (word ∷ rest) agent = by (eqb (Certificates.agent_of word) agent) (equals (Certificates.agent_of word) agent) (uncertified rest agent)
  where
    by : (b : Bool) → T b ↔ (Certificates.agent_of word ≡ agent)
        → (Certificates.certified rest agent ≡ None) ↔ All (λ word. Certificates.agent_of word ≢ agent) rest
        → (◌≡◌ {A = Option ℕ} (elim b [ true ↦ Some (Certificates.key_of word) | false ↦ Certificates.certified rest agent ]) None)
        ↔ ((Certificates.agent_of word ≢ agent) × All (λ word. Certificates.agent_of word ≢ agent) rest)
    by true e r = (λ q. let z : ◌≡◌ {A = ℕ} 0 1 = cc in absurd (omega arith), λ a. absurd (a.0 (e.0 tt)))
    by false e r = (λ q. (λ is. e.1 is, r.0 q), λ a. r.1 a.1)

-- the number of a key row
atom_number : (word : ℕ) → tag_of word ≤ 6 → number_of (shape_of word) ≡ Rattle.terms.proofs.ShapeLaws.number_of word
atom_number word low = rw (shape_atom word λ least most. omega arith)

abbrev pub Paired : ℕ → ℕ → Type 0
Paired t u = ((t ≡ 5) × (u ≡ 4)) ⊎ ((t ≡ 6) × (u ≡ 6))

either_pair : (t u : ℕ) → (T (eqb t 5 && eqb u 4) ⊎ T (eqb t 6 && eqb u 6)) ↔ Paired t u
either_pair t u = (there, back)
  where
    there : (T (eqb t 5 && eqb u 4) ⊎ T (eqb t 6 && eqb u 6)) → Paired t u
    there (inl h) = let two = (both (eqb t 5) (eqb u 4)).0 h in inl ((equals t 5).0 two.0, (equals u 4).0 two.1)
    there (inr h) = let two = (both (eqb t 6) (eqb u 6)).0 h in inr ((equals t 6).0 two.0, (equals u 6).0 two.1)

    back : Paired t u → T (eqb t 5 && eqb u 4) ⊎ T (eqb t 6 && eqb u 6)
    back (inl (p, q)) = inl ((both (eqb t 5) (eqb u 4)).1 ((equals t 5).1 p, (equals u 4).1 q))
    back (inr (p, q)) = inr ((both (eqb t 6) (eqb u 6)).1 ((equals t 6).1 p, (equals u 6).1 q))

pub pair_iff : (t n u m : ℕ) → T (pair t n u m) ↔ ((n ≡ m) × Paired t u)
pair_iff t n u m =
    let ors = either (eqb t 5 && eqb u 4) (eqb t 6 && eqb u 6) in
    let ands = both (eqb n m) ((eqb t 5 && eqb u 4) || (eqb t 6 && eqb u 6)) in
    let tags = either_pair t u in
    (λ h. let two = ands.0 h in ((equals n m).0 two.0, tags.0 (ors.0 two.1)), λ h. ands.1 ((equals n m).1 h.0, ors.1 (tags.1 h.1)))

pub low_tags : {t u : ℕ} → Paired t u → (t ≤ 6) × (u ≤ 6)
low_tags (inl (p, q)) = (omega arith, omega arith)
low_tags (inr (p, q)) = (omega arith, omega arith)

module _ (s : State row_world) where
  abbrev x : Table
  x = s.stores.memory

  -- the test of two keys
  goes_iff : (k l : ℕ) → T (goes_with row_model k l x) ↔ GoesWith s k l
  goes_iff k l = (
    λ t.
        let (e, which) = (pair_iff (kind_of (shape s k)) (number_of (shape s k)) (kind_of (shape s l)) (number_of (shape s l))).0 t in
        let tags : Paired (tag s k) (tag s l) = rw (tag_kind (row_at s k), tag_kind (row_at s l)) at which in
        let low = low_tags tags in
        (sym (atom_number (row_at s k) low.0) ∙ e ∙ atom_number (row_at s l) low.1, tags),
    λ g.
        let low = low_tags g.1 in
        (pair_iff (kind_of (shape s k)) (number_of (shape s k)) (kind_of (shape s l)) (number_of (shape s l))).1
        (atom_number (row_at s k) low.0 ∙ g.0 ∙ sym (atom_number (row_at s l) low.1), rw (tag_kind (row_at s k), tag_kind (row_at s l)) g.1),
  )

  module _ (kind : ℕ → ℕ) (place : ℕ) where
    abbrev now : Instruction → Outcome (State row_world)
    now i = step row_world kind place i s

    -- 1
    one : (cell : Option ℕ) (f : ℕ → Outcome (State row_world)) → cell ≡ None → bind (need place cell) f ≡ stuck place 1
    one cell f e = rw e

    past : (cell : Option ℕ) (f : ℕ → Outcome (State row_world)) → ((m : ℕ) → f m ≡ stuck place 1) → bind (need place cell) f ≡ stuck place 1
    past None f h = refl
    past (Some m) f h = h m

    unset_cells : (b n : ℕ) → Unset (cells s b n) → messages row_world place s b n ≡ stuck place 1
    unfolding messages
    unset_cells b zero u = absurd u
    unset_cells b (suc n) (inl e) = rw e
    unset_cells b (suc n) (inr u) = go (message row_world s b) (unset_cells (suc b) n u)
      where
        go : (cell : Option ℕ) → messages row_world place s (suc b) n ≡ stuck place 1
            → bind (need place cell) (λ m. bind (messages row_world place s (suc b) n) λ ms. done (m ∷ ms)) ≡ stuck place 1
        go None e = refl
        go (Some m) e = rw e

    unset_stuck : (i : Instruction) → Unset (reads s i) → now i ≡ stuck place 1
    unset_stuck (Load r) (inl e) = one (message row_world s r.0) _ e
    unset_stuck (Store r) (inl e) = one s.accumulator _ e
    unset_stuck (StoreConst c b) u = absurd u
    unset_stuck (Decode v) (inl e) = one s.accumulator _ e
    unset_stuck (Encode v) (inl e) = one (s.stores.σ v.0) _ e
    unset_stuck (Create v) u = absurd u
    unset_stuck (AnalyzeTuple t b n) (inl e) = one (s.stores.σ t.0) _ e
    unset_stuck (CreateTuple t b n) u = rw (unset_cells b.0 n u)
    unset_stuck (Opposite K k) (inl e) = one (s.stores.σ K.0) _ e
    unset_stuck KeyOf (inl e) = one s.accumulator _ e
    unset_stuck (Match r) (inl e) = one s.accumulator _ e
    unset_stuck (Match r) (inr (inl e)) = past s.accumulator _ λ a. one (message row_world s r.0) _ e
    unset_stuck (Encrypt v) (inl e) = one (s.stores.σ v.0) _ e
    unset_stuck (Encrypt v) (inr (inl e)) = past (s.stores.σ v.0) _ λ k. one s.accumulator _ e
    unset_stuck (Decrypt v) (inl e) = one (s.stores.σ v.0) _ e
    unset_stuck (Decrypt v) (inr (inl e)) = past (s.stores.σ v.0) _ λ k. one s.accumulator _ e
    unset_stuck (Sign v) (inl e) = one (s.stores.σ v.0) _ e
    unset_stuck (Sign v) (inr (inl e)) = past (s.stores.σ v.0) _ λ k. one s.accumulator _ e
    unset_stuck (Verify v r) (inl e) = one (s.stores.σ v.0) _ e
    unset_stuck (Verify v r) (inr (inl e)) = past (s.stores.σ v.0) _ λ k. one (message row_world s r.0) _ e
    unset_stuck (Verify v r) (inr (inr (inl e))) = past (s.stores.σ v.0) _ λ k. past (message row_world s r.0) _ λ b. one s.accumulator _ e
    unset_stuck (Hash h) (inl e) = one s.accumulator _ e
    unset_stuck (Load r) (inr x3) = elim x3 [ ]
    unset_stuck (Store r) (inr x4) = elim x4 [ ]
    unset_stuck (Decode v) (inr x5) = elim x5 [ ]
    unset_stuck (Encode v) (inr x6) = elim x6 [ ]
    unset_stuck (AnalyzeTuple t b n) (inr x7) = elim x7 [ ]
    unset_stuck (Opposite K k) (inr x8) = elim x8 [ ]
    unset_stuck KeyOf (inr x9) = elim x9 [ ]
    unset_stuck (Match r) (inr (inr x11)) = elim x11 [ ]
    unset_stuck (Encrypt v) (inr (inr x12)) = elim x12 [ ]
    unset_stuck (Decrypt v) (inr (inr x13)) = elim x13 [ ]
    unset_stuck (Sign v) (inr (inr x14)) = elim x14 [ ]
    unset_stuck (Verify v r) (inr (inr (inr x16))) = elim x16 [ ]
    unset_stuck (Hash h) (inr x15) = elim x15 [ ]

    -- 4, 6 and 7 by the shape
    taken_not : (m n : ℕ) (sh : Shape ℕ) → length (parts_of sh) ≢ n → taken row_model m n sh ≡ not 4
    taken_not m n (atom tag number) d = refl
    taken_not m n (encrypted l b) d = refl
    taken_not m n (signed l b) d = refl
    taken_not m n (hashed b) d = refl
    taken_not m n (tupled ms) d = rw (ne_eqb (length ms) n d)

    opened_not : (k : ℕ) (sh : Shape ℕ) → ((l b : ℕ) → sh ≡ encrypted l b → GoesWith s k l → ⊥) → opened row_model k sh x ≡ not 6
    opened_not k (atom tag number) d = refl
    opened_not k (encrypted l b) d = rw (is_false (goes_with row_model k l x) λ t. d l b refl ((goes_iff k l).0 t))
    opened_not k (signed l b) d = refl
    opened_not k (hashed b) d = refl
    opened_not k (tupled ms) d = refl

    verified_not : (k b : ℕ) (sh : Shape ℕ) → ((l : ℕ) → sh ≡ signed l b → GoesWith s l k → ⊥) → verified row_model k b sh x ≡ not 7
    verified_not k b (atom tag number) d = refl
    verified_not k b (encrypted l c) d = refl
    verified_not k b (signed l c) d =
        rw (is_false (goes_with row_model l k x && eqb b c) λ t.
        let (g, e) = (both (goes_with row_model l k x) (eqb b c)).0 t in
        d l (ap (signed l) (sym ((equals b c).0 e))) ((goes_iff l k).0 g))
    verified_not k b (hashed c) d = refl
    verified_not k b (tupled ms) d = refl

    by_cell : (cell : Option ℕ) (f : ℕ → Outcome (State row_world)) (m : ℕ) → cell ≡ Some m → bind (need place cell) f ≡ f m
    by_cell cell f m e = rw e

    sticks_so : {i : Instruction} {why : ℕ} → Sticks s kind i why → now i ≡ stuck place why
    sticks_so {i} (unset u) = unset_stuck i u
    sticks_so (other_kind {v} {m} e d) = by_cell s.accumulator _ m e ∙ rw (tag_kind (row_at s m), ne_eqb (kind v.0) (tag s m) λ q. d (sym q))
    sticks_so (differs {r} {a} {b} e f d) = by_cell s.accumulator _ a e ∙ by_cell (message row_world s r.0) _ b f ∙ rw (ne_eqb a b d)
    sticks_so (part_count {t} {b} {n} {m} e d) = by_cell (s.stores.σ t.0) _ m e ∙ rw (taken_not m n (shape s m) d)
    sticks_so (no_certificate {a} e none_of) = by_cell s.accumulator _ a e ∙ rw ((uncertified x.certificates a).1 none_of)
    sticks_so (not_opened {v} {k} {m} e f d) = by_cell (s.stores.σ v.0) _ k e ∙ by_cell s.accumulator _ m f ∙ rw (opened_not k (shape s m) d)
    sticks_so (not_verified {v} {r} {k} {b} {m} e f g d) =
        by_cell (s.stores.σ v.0) _ k e ∙ by_cell (message row_world s r.0) _ b f ∙ by_cell s.accumulator _ m g ∙ rw (verified_not k b (shape s m) d)

    -- and the other way: how a step ends
    data Ends (i : Instruction) : Outcome (State row_world) → Type 0 where
      goes : {t : State row_world} → Ends i (done t)
      sticks : {why : ℕ} → Sticks s kind i why → Ends i (stuck place why)
      fills : Fills s kind i → Ends i (room place)

    read : {i : Instruction} (cell : Option ℕ) (f : ℕ → Outcome (State row_world)) → (cell ≡ None → Unset (reads s i)) → ((m : ℕ) → cell ≡ Some m → Ends i (f m))
        → Ends i (bind (need place cell) f)
    read None f un next = sticks (unset (un refl))
    read (Some m) f un next = next m refl

    check : {i : Instruction} (why : ℕ) (b : Bool) (o : Outcome (State row_world)) → (T b → Ends i o) → ((T b → ⊥) → Sticks s kind i why)
        → Ends i (bind (at place (sure why b)) λ _. o)
    check why true o next un = next tt
    check why false o next un = sticks (un λ t. t)

    module _ (v : ValidState kind s) where
      make : {i : Instruction} (term : Shape ℕ) (y : Table) (f : ℕ × Table → State row_world) → (NoRow s term → Fills s kind i)
          → Ends i (bind (at place (placed y (locate x.rows x.used (row_of term)))) λ r. done (f r))
      make {i} term y f out =
          located_as x.rows x.used (row_of term) (used_inside v.table) (λ l. Ends i (bind (at place (placed y l)) λ r. done (f r)))
          (λ row l e. goes) (λ absent l. goes) (λ absent l. fills (out (absent, l)))

      make_full : (term : Shape ℕ) (y : Table) (f : ℕ × Table → State row_world) → NoRow s term
          → bind (at place (placed y (locate x.rows x.used (row_of term)))) (λ r. done (f r)) ≡ room place
      make_full term y f (absent, l) = rw (locate_full x.rows x.used (row_of term) ((equal_absent x.rows x.used (row_of term) (used_inside v.table)).1 absent) l)

      -- a set object cell's row has the variable's kind
      typed : (o m : ℕ) → s.stores.σ o ≡ Some m → tag s m ≡ kind o
      typed o m e = (subst (Held (HasTag x (kind o))) e (v.objects o)).1

      -- all of several cells are set, or some is not
      all_read : (b n : ℕ) → ((ms : List ℕ) × (cells s b n ≡ map Some ms) × (messages row_world place s b n ≡ done ms)) ⊎ Unset (cells s b n)
      unfolding messages
      all_read b zero = inl ([], refl, refl)
      all_read b (suc n) = go (message row_world s b) refl (all_read (suc b) n)
        where
          go : (cell : Option ℕ) → message row_world s b ≡ cell
              → ((ms : List ℕ) × (cells s (suc b) n ≡ map Some ms) × (messages row_world place s (suc b) n ≡ done ms)) ⊎ Unset (cells s (suc b) n)
              → ((ms : List ℕ) × (message row_world s b ∷ cells s (suc b) n ≡ map Some ms)
              × (bind (need place (message row_world s b)) (λ m. bind (messages row_world place s (suc b) n) λ ms. done (m ∷ ms)) ≡ done ms))
              ⊎ ((message row_world s b ≡ None) ⊎ Unset (cells s (suc b) n))
          go None e rest = inr (inl e)
          go (Some m) e (inl (ms, c, q)) = inl (m ∷ ms, rw (e, c), rw (e, q))
          go (Some m) e (inr u) = inr (inr u)

      -- a variable of the one kind that an operand wants
      one_kind : (o : Object) (n : ℕ) → T (has_kind kind o (n ∷ [])) → kind o.0 ≡ n
      one_kind o n h = one_all (λ k. k ≡ n) (n ∷ []) (kind o.0) (refl, tt) ((both (ltb o.0 64) (one_of (n ∷ []) (kind o.0))).0 h).1

      -- the opposite of a private key
      opposite_as : (m : ℕ) → tag s m ≡ 5 → row_world.apply (op m) x ≡ placed x (locate x.rows x.used (row_of (atom 4 (number s m))))
      opposite_as m e = rw (tag_kind (row_at s m), eq-eqb (tag s m) 5 e, atom_number (row_at s m) (omega arith))

      tuple_ends : (t : Object) (b : Raw) (n m : ℕ) (ms : List ℕ) → shape s m ≡ tupled ms → s.stores.σ t.0 ≡ Some m → (f : (ℕ → ℕ) → State row_world)
          → Ends (AnalyzeTuple t b n) (bind (at place (taken row_model m n (tupled ms))) λ g. done (f g))
      tuple_ends t b n m ms e q f = by (eqb (length ms) n) (equals (length ms) n)
        where
          by : (c : Bool) → T c ↔ (length ms ≡ n) → Ends (AnalyzeTuple t b n) (bind (at place (and_then (sure 4 c) λ _. got (λ i. get_or ms i m))) λ g. done (f g))
          by true h = goes
          by false h = sticks (part_count q λ same. h.1 (sym (ap (λ sh. length (parts_of sh)) e) ∙ same))

      opened_ends : (o : Object) (k m : ℕ) (sh : Shape ℕ) → shape s m ≡ sh → s.stores.σ o.0 ≡ Some k → s.accumulator ≡ Some m → (f : ℕ × Table → State row_world)
          → Ends (Decrypt o) (bind (at place (opened row_model k sh x)) λ r. done (f r))
      opened_ends o k m (encrypted l b) e p q f = by (goes_with row_model k l x) (goes_iff k l)
        where
          by : (c : Bool) → T c ↔ GoesWith s k l → Ends (Decrypt o) (bind (at place (and_then (sure 6 c) λ _. got (b, x))) λ r. done (f r))
          by true h = goes
          by false h = sticks (not_opened p q λ l' b' e' g. let same : encrypted l b ≡ encrypted l' b' = sym e ∙ e' in let key : l ≡ l' = cc in h.1 (subst (GoesWith s k) (sym key) g))
      opened_ends o k m (atom tag number) e p q f = sticks (not_opened p q λ l b e' g. let z : ◌≡◌ {A = ℕ} 0 1 = cc in absurd (omega arith))
      opened_ends o k m (signed l b) e p q f = sticks (not_opened p q λ l b e' g. let z : ◌≡◌ {A = ℕ} 0 1 = cc in absurd (omega arith))
      opened_ends o k m (hashed b) e p q f = sticks (not_opened p q λ l b e' g. let z : ◌≡◌ {A = ℕ} 0 1 = cc in absurd (omega arith))
      opened_ends o k m (tupled ms) e p q f = sticks (not_opened p q λ l b e' g. let z : ◌≡◌ {A = ℕ} 0 1 = cc in absurd (omega arith))

      verified_ends : (o : Object) (c : Raw) (k b m : ℕ) (sh : Shape ℕ) → shape s m ≡ sh → s.stores.σ o.0 ≡ Some k → message row_world s c.0 ≡ Some b → s.accumulator ≡ Some m
          → Ends (Verify o c) (bind (at place (verified row_model k b sh x)) λ _. done s)
      verified_ends o c k b m (signed l body) e p r q = by (goes_with row_model l k x && eqb b body) (both (goes_with row_model l k x) (eqb b body)).1
        where
          by : (t : Bool) → (T (goes_with row_model l k x) × T (eqb b body) → T t) → Ends (Verify o c) (bind (at place (sure 7 t)) λ _. done s)
          by true h = goes
          by false h =
              sticks (not_verified p r q λ l' e' g.
              let same : signed l body ≡ signed l' b = sym e ∙ e' in
              let key : l ≡ l' = cc in
              let its : b ≡ body = cc in
              h ((goes_iff l k).1 (subst (λ n. GoesWith s n k) (sym key) g), (equals b body).1 its))
      verified_ends o c k b m (atom tag number) e p r q = sticks (not_verified p r q λ l e' g. let z : ◌≡◌ {A = ℕ} 0 1 = cc in absurd (omega arith))
      verified_ends o c k b m (encrypted l body) e p r q = sticks (not_verified p r q λ l e' g. let z : ◌≡◌ {A = ℕ} 0 1 = cc in absurd (omega arith))
      verified_ends o c k b m (hashed body) e p r q = sticks (not_verified p r q λ l e' g. let z : ◌≡◌ {A = ℕ} 0 1 = cc in absurd (omega arith))
      verified_ends o c k b m (tupled ms) e p r q = sticks (not_verified p r q λ l e' g. let z : ◌≡◌ {A = ℕ} 0 1 = cc in absurd (omega arith))

      certified_ends : (a : ℕ) (found : Option ℕ) → Certificates.certified x.certificates a ≡ found → s.accumulator ≡ Some a → (f : ℕ × Table → State row_world)
          → Ends KeyOf (bind (at place (certified row_model found x)) λ r. done (f r))
      certified_ends a (Some k) e q f = goes
      certified_ends a None e q f = sticks (no_certificate q ((uncertified x.certificates a).0 e))

      tuple_made : (t : Object) (b : Raw) (n : ℕ) (f : ℕ × Table → State row_world)
          → Ends (CreateTuple t b n) (bind (messages row_world place s b.0 n) λ ms. bind (at place (placed x (locate x.rows x.used (row_of (tupled ms))))) λ r. done (f r))
      tuple_made t b n f = go (all_read b.0 n)
        where
          go : ((ms : List ℕ) × (cells s b.0 n ≡ map Some ms) × (messages row_world place s b.0 n ≡ done ms)) ⊎ Unset (cells s b.0 n)
              → Ends (CreateTuple t b n) (bind (messages row_world place s b.0 n) λ ms. bind (at place (placed x (locate x.rows x.used (row_of (tupled ms))))) λ r. done (f r))
          go (inl (ms, c, q)) = rw q (make (tupled ms) x f λ out. tuple ms c out)
          go (inr u) = rw (unset_cells b.0 n u) (sticks (unset u))

      named_ends : (o : Object) (f : ℕ × Table → State row_world) → Dec (x.counter < most_names)
          → Ends (Create o) (bind (at place (row_world.apply (create (kind o.0)) x)) λ r. done (f r))
      named_ends o f (yes l) = rw (lt-ltb x.counter most_names l) (make (atom (kind o.0) x.counter) (with_counter x (suc x.counter)) f λ out. name l out)
      named_ends o f (no l) = rw (le-ltb x.counter most_names (omega arith)) (fills (no_name (omega arith)))

      ends : (i : Instruction) → T (operands_fit kind i) → Ends i (now i)
      ends (Load r) h = read (message row_world s r.0) _ inl λ m e. goes
      ends (Store r) h = read s.accumulator _ inl λ m e. goes
      ends (StoreConst c b) h = make (atom 1 b) x _ λ out. byte out
      ends (Decode o) h = read s.accumulator _ inl λ m e.
          check 2 (eqb (kind o.0) (kind_of (shape s m))) _ (λ _. goes) (λ n. other_kind e λ q. n ((equals _ _).1 (sym q ∙ sym (tag_kind (row_at s m)))))
      ends (Encode o) h = read (s.stores.σ o.0) _ inl λ m e. goes
      ends (Create o) h = named_ends o _ (dec_lt x.counter most_names)
      ends (AnalyzeTuple t b n) h = read (s.stores.σ t.0) _ inl λ m e.
          let is = shape_tupled (row_at s m) (typed t.0 m e ∙ one_kind t 10 ((both (has_kind kind t (10 ∷ [])) (cells_fit b n)).0 h).0) in
          rw is (tuple_ends t b n m _ is e _)
      ends (CreateTuple t b n) h = tuple_made t b n _
      ends (Opposite K k) h = read (s.stores.σ K.0) _ inl λ m e.
          let private = typed K.0 m e ∙ one_kind K 5 ((both (has_kind kind K (5 ∷ [])) (has_kind kind k (4 ∷ []))).0 h).0 in
          rw (opposite_as m private) (make (atom 4 (number s m)) x _ λ out. public_key e out)
      ends KeyOf h = read s.accumulator _ inl λ m e. certified_ends m (Certificates.certified x.certificates m) refl e _
      ends (Match r) h = read s.accumulator _ inl λ a e. read (message row_world s r.0) _ (λ u. inr (inl u)) λ b q.
          check 3 (eqb a b) _ (λ _. goes) (λ n. differs e q λ same. n ((equals a b).1 same))
      ends (Encrypt o) h = read (s.stores.σ o.0) _ inl λ k e. read s.accumulator _ (λ u. inr (inl u)) λ m q. make (encrypted k m) x _ λ out. encryption e q out
      ends (Decrypt o) h = read (s.stores.σ o.0) _ inl λ k e. read s.accumulator _ (λ u. inr (inl u)) λ m q. opened_ends o k m (shape s m) refl e q _
      ends (Sign o) h = read (s.stores.σ o.0) _ inl λ k e. read s.accumulator _ (λ u. inr (inl u)) λ m q. make (signed k m) x _ λ out. signature e q out
      ends (Verify o r) h = read (s.stores.σ o.0) _ inl λ k e. read (message row_world s r.0) _ (λ u. inr (inl u)) λ b q. read s.accumulator _ (λ u. inr (inr (inl u))) λ m w.
          verified_ends o r k b m (shape s m) refl e q w
      ends (Hash o) h = read s.accumulator _ inl λ m e. make (hashed m) x _ λ out. hash e out

      cells_done : (b n : ℕ) (ms : List ℕ) → cells s b n ≡ map Some ms → messages row_world place s b n ≡ done ms
      unfolding messages
      cells_done b zero [] e = refl
      cells_done b zero (m ∷ ms) e = let z : ◌≡◌ {A = ℕ} 0 1 = cc in absurd (omega arith)
      cells_done b (suc n) [] e = let z : ◌≡◌ {A = ℕ} 0 1 = cc in absurd (omega arith)
      cells_done b (suc n) (m ∷ ms) e =
          let here : message row_world s b ≡ Some m = cc in
          let there : cells s (suc b) n ≡ map Some ms = cc in
          rw (here, cells_done (suc b) n ms there)

      fills_so : {i : Instruction} → T (operands_fit kind i) → Fills s kind i → now i ≡ room place
      fills_so h (no_name l) = rw (le-ltb x.counter most_names l)
      fills_so h (name {v = o} l out) = rw (lt-ltb x.counter most_names l) (make_full (atom (kind o.0) x.counter) (with_counter x (suc x.counter)) _ out)
      fills_so h (byte {c} {b} out) = make_full (atom 1 b) x _ out
      fills_so h (public_key {K} {k} {a = m} e out) =
          let private = typed K.0 m e ∙ one_kind K 5 ((both (has_kind kind K (5 ∷ [])) (has_kind kind k (4 ∷ []))).0 h).0 in
          by_cell (s.stores.σ K.0) _ m e ∙ rw (opposite_as m private) (make_full (atom 4 (number s m)) x _ out)
      fills_so h (encryption {v = o} {k} {m} e q out) = by_cell (s.stores.σ o.0) _ k e ∙ by_cell s.accumulator _ m q ∙ make_full (encrypted k m) x _ out
      fills_so h (signature {v = o} {k} {m} e q out) = by_cell (s.stores.σ o.0) _ k e ∙ by_cell s.accumulator _ m q ∙ make_full (signed k m) x _ out
      fills_so h (hash {h = o} {m} e out) = by_cell s.accumulator _ m e ∙ make_full (hashed m) x _ out
      fills_so h (tuple {t} {b} {n} ms c out) = rw (cells_done b.0 n ms c) (make_full (tupled ms) x _ out)

      pub step_stuck : (i : Instruction) (why : ℕ) → T (operands_fit kind i) → (now i ≡ stuck place why) ↔ Sticks s kind i why
      step_stuck i why h = (λ e. from (ends i h) e, sticks_so)
        where
          from : {o : Outcome (State row_world)} → Ends i o → o ≡ stuck place why → Sticks s kind i why
          from (goes {t = t}) e = cc
          from (sticks {why = other} p) e = let same : other ≡ why = cc in subst (Sticks s kind i) same p
          from (fills p) e = cc

      pub step_full : (i : Instruction) → T (operands_fit kind i) → (now i ≡ room place) ↔ Fills s kind i
      step_full i h = (λ e. from (ends i h) e, fills_so h)
        where
          from : {o : Outcome (State row_world)} → Ends i o → o ≡ room place → Fills s kind i
          from (goes {t = t}) e = cc
          from (sticks p) e = cc
          from (fills p) e = p
