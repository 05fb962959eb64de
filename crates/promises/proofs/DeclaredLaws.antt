-- Emission sets declared variables alone, since what a word in range writes has a kind; and 3 says that no other is set.
use Prim.Native.Nat.{ℕ, zero, suc, ◌+◌, ◌<◌}
use mathlib.Core.Path.{◌≡◌, refl, ◌∙◌, ap, subst}
use mathlib.Core.Logic.{◌↔◌, ◌≢◌}
use mathlib.Core.Bool.{Bool, true, false, cond, not, ◌||◌}
use mathlib.Core.List.{List, [], ◌∷◌, ◌++◌}
use lib.Dec.{T, eqb, ltb}
use Rattle.word.specs.Lowest.{one_of}
use Rattle.word.proofs.All.{All}
use Rattle.word.proofs.TestLaws.{both, equals, implied}
use Rattle.numbers.specs.Limits.{variables}
use Rattle.numbers.specs.declared.Object.{Object}
use Rattle.answers.specs.declared.Compiled.{Compiled}
use Rattle.code.specs.Words.{has_kind, cells_fit}
use Rattle.code.specs.declared.Instruction.{Instruction}
use Rattle.code.specs.declared.Instruction.TheVariants.{Load, Store, StoreConst, Decode, Encode, Create, AnalyzeTuple, CreateTuple, Opposite, KeyOf, Match, Encrypt, Decrypt, Sign, Verify, Hash}
use Rattle.patterns.specs.Pattern.{Key, plain_key, op_key, certified_key, Pattern, object, raw, constant, opposite, key_of, encryption, signature, hash, tuple, let_in, Parts, end, part, count}
use Rattle.theory.specs.Store.{put}
use Rattle.theory.specs.World.{creatable}
use Rattle.theory.specs.Machine.{Line}
use Rattle.theory.specs.Uses.{Used, object_at, message_at, messages_at, uses_of}
use Rattle.theory.specs.Bounds.{InRange, AllInRange}
use Rattle.theory.specs.Emission.{Env, Emitted, ok, refuse, behind, and_then, add_object, readable, occupied, add_raw, one, reading, writing, emit}
use Rattle.theory.specs.Compilers.{compile↓, compile↓parts, compile↑, compile↑parts, compile↑K, creating, verifying}
use Rattle.calls.specs.Compile.{tables, entry}
use native.Mathlib.Omega.{arith}
use lib.ListN.{length, get_or}
use Rattle.numbers.specs.Kinds.{kind_in}
use Rattle.stores.specs.Cells.{unset}
use Rattle.stores.specs.Valid.{kinds_fit, each_variable, undeclared_unset, declared}
use Rattle.stores.specs.GoodStores.{UndeclaredUnset}
use Rattle.stores.proofs.ValidLaws.{undeclared_unset_lem, each_variable_lem}
use Rattle.calls.specs.Half.{undeclared_unknown, declared_known}
use Rattle.promises.specs.Roles.{next}
use native.Mathlib.Nat.{add-zero, zero-add}
use Rattle.promises.proofs.RoundLaws.{unset_cell}

-- a property of both parts of a list
all_parts : {A : Type 0} (P : A → Type 0) (front back : List A) → All P (front ++ back) → All P front × All P back
all_parts P [] back h = (tt, h)
all_parts P (a ∷ front) back h = let (f, b) = all_parts P front back h.1 in ((h.0, f), b)

-- a property of either choice
choice : (P : Emitted → Type 0) {C D : Emitted} (b : Bool) → P C → P D → P (cond b C D)
choice P true c d = c
choice P false c d = d

-- a message cell is no variable
same_objects : (e : Env) (cell : ℕ) → (add_raw e cell).objects ≡ e.objects
unfolding add_raw
same_objects e cell = go (ltb cell 64)
  where
    go : (b : Bool) → (cond b (record { objects = e.objects; raws = put e.raws cell true; next = e.next }) e).objects ≡ e.objects
    go true = refl
    go false = refl

-- scratch numbers that are taken
abbrev raised : Env → ℕ → Env
raised e n = record { objects = e.objects; raws = e.raws; next = e.next + n }

module _ (kind : ℕ → ℕ) where
  -- no undeclared variable is set
  abbrev pub OnlyDeclared : (ℕ → Bool) → Type 0
  OnlyDeclared objects = (v : ℕ) → v < variables → kind v ≡ 0 → T (not (objects v))

  -- so it stays, if the words are in range
  unfoldable KeepsT : (ℕ → Bool) → Emitted → Type 0
  KeepsT objects (ok c e) = AllInRange kind c → OnlyDeclared objects → OnlyDeclared e.objects
  KeepsT objects (refuse answer) = Unit {0}

  record Keeps (objects : ℕ → Bool) (E : Emitted) : Type 0 where
    kept : KeepsT objects E

  refused : {objects : ℕ → Bool} {answer : Compiled} → Keeps objects (refuse answer)
  unfolding KeepsT
  refused = record { kept = tt }

  nothing : (e : Env) → Keeps e.objects (ok [] e)
  unfolding KeepsT
  nothing e = record { kept = λ _ d. d }

  -- one part of the code, and then
  follows : {objects : ℕ → Bool} (C : Emitted) (K : Env → Emitted) → Keeps objects C → ((e : Env) → Keeps e.objects (K e)) → Keeps objects (and_then C K)
  unfolding KeepsT and_then behind
  follows (refuse answer) K t k = record { kept = tt }
  follows {objects} (ok c e) K t k = go (K e) (k e)
    where
      go : (D : Emitted) → Keeps e.objects D → Keeps objects (behind c D)
      go (refuse answer) u = record { kept = tt }
      go (ok d e') u = record { kept = λ r o. let (f, b) = all_parts (λ l. InRange kind l.instruction) c d r in u.kept b (t.kept f o) }

  -- what is written has a kind
  abbrev HasKind : Used → Type 0
  HasKind (object_at v) = kind v ≢ 0
  HasKind (message_at r) = Unit {0}
  HasKind (messages_at b n) = Unit {0}

  not_none : (v : Object) (kinds : List ℕ) → one_of kinds 0 ≡ false → T (has_kind kind v kinds) → kind v.0 ≢ 0
  not_none v kinds out has none = rw (none, out) at ((both (ltb v.0 64) (one_of kinds (kind v.0))).0 has).1

  in_range : (i : Instruction) → InRange kind i → All HasKind (uses_of i).writes
  unfolding one_of
  in_range (Load r) f = tt
  in_range (Store r) f = (tt, tt)
  in_range (StoreConst c b) f = (not_none c (1 ∷ []) refl f.operands, tt)
  in_range (Decode v) f = (not_none v (1 ∷ 2 ∷ 3 ∷ 4 ∷ 5 ∷ 6 ∷ 7 ∷ 8 ∷ 9 ∷ 10 ∷ []) refl f.operands, tt)
  in_range (Encode v) f = tt
  in_range (Create v) f = (not_none v (2 ∷ 5 ∷ 6 ∷ []) refl f.operands, tt)
  in_range (AnalyzeTuple t b n) f = (tt, tt)
  in_range (CreateTuple t b n) f = (not_none t (10 ∷ []) refl ((both (has_kind kind t (10 ∷ [])) (cells_fit b n)).0 f.operands).0, tt)
  in_range (Opposite K k) f = (not_none k (4 ∷ []) refl ((both (has_kind kind K (5 ∷ [])) (has_kind kind k (4 ∷ []))).0 f.operands).1, tt)
  in_range KeyOf f = tt
  in_range (Match r) f = tt
  in_range (Encrypt v) f = tt
  in_range (Decrypt v) f = tt
  in_range (Sign v) f = tt
  in_range (Verify v r) f = tt
  in_range (Hash h) f = tt

  put_declared : (objects : ℕ → Bool) (v : ℕ) → kind v ≢ 0 → OnlyDeclared objects → OnlyDeclared (put objects v true)
  unfolding put
  put_declared objects v some d w inside none = go (eqb v w) refl
    where
      go : (b : Bool) → eqb v w ≡ b → T (not (cond b true (objects w)))
      go true e = absurd (some (ap kind ((equals v w).0 (rw e tt)) ∙ none))
      go false e = d w inside none

  module _ (row : ℕ) (i : Instruction) where
    -- one word, whose writes leave it so
    unfoldable WordT : (ℕ → Bool) → Emitted → Type 0
    WordT objects (ok c e) = AllInRange kind c → InRange kind i × (OnlyDeclared objects → OnlyDeclared e.objects)
    WordT objects (refuse answer) = Unit {0}

    record Word (objects : ℕ → Bool) (E : Emitted) : Type 0 where
      word : WordT objects E

    no_word : {objects : ℕ → Bool} {answer : Compiled} → Word objects (refuse answer)
    unfolding WordT
    no_word = record { word = tt }

    written : (objects : ℕ → Bool) (v : ℕ) (E : Emitted) → (InRange kind i → kind v ≢ 0) → Word (put objects v true) E → Word objects E
    unfolding WordT
    written objects v (ok c e) some w = record { word = λ r. let (f, d) = w.word r in (f, λ o. d (put_declared objects v (some f) o)) }
    written objects v (refuse answer) some w = record { word = tt }

    writes_word : (us : List Used) (e : Env) → (InRange kind i → All HasKind us) → Word e.objects (writing row us (one row i) e)
    unfolding WordT
    writes_word [] e h = record { word = λ r. (r.0, λ d. d) }
    writes_word (object_at v ∷ us) e h =
        choice (Word e.objects) (e.objects v) no_word (written e.objects v _ (λ f. (h f).0) (writes_word us (add_object e v) λ f. (h f).1))
    writes_word (message_at r ∷ us) e h =
        choice (Word e.objects) (occupied e r) no_word (subst (λ objects. Word objects (writing row us (one row i) (add_raw e r))) (same_objects e r) (writes_word us (add_raw e r) λ f. (h f).1))
    writes_word (messages_at b n ∷ us) e h = writes_word us e λ f. (h f).1

    reads_word : (us vs : List Used) (e : Env) → (InRange kind i → All HasKind vs) → Word e.objects (reading row us (writing row vs (one row i)) e)
    reads_word [] vs e h = writes_word vs e h
    reads_word (object_at v ∷ us) vs e h = choice (Word e.objects) (e.objects v) (reads_word us vs e h) no_word
    reads_word (message_at r ∷ us) vs e h = choice (Word e.objects) (readable e r) (reads_word us vs e h) no_word
    reads_word (messages_at b n ∷ us) vs e h = reads_word us vs e h

    kept_by : {objects : ℕ → Bool} (E : Emitted) → Word objects E → Keeps objects E
    unfolding KeepsT WordT
    kept_by (ok c e) w = record { kept = λ r. (w.word r).1 }
    kept_by (refuse answer) w = record { kept = tt }

  -- an instruction, and then; and the last one
  final : (row : ℕ) (i : Instruction) (e : Env) → Keeps e.objects (emit row i e)
  unfolding emit
  final row i e = kept_by row i _ (reads_word row i (uses_of i).reads (uses_of i).writes e (in_range i))

  first : (row : ℕ) (i : Instruction) (K : Env → Emitted) (e : Env) → ((e' : Env) → Keeps e'.objects (K e')) → Keeps e.objects (and_then (emit row i e) K)
  first row i K e k = follows (emit row i e) K (final row i e) k

  -- figure 5
  keeps_verifying : (row : ℕ) (key : Key) (r : ℕ) (e : Env) → Keeps e.objects (verifying row key r e)
  keeps_verifying row (plain_key v) r e = final _ _ e
  keeps_verifying row (op_key k K) r e = first _ _ _ e λ e₁. final _ _ e₁
  keeps_verifying row (certified_key k a) r e = first _ _ _ (raised e 1) λ e₁. first _ _ _ e₁ λ e₂. first _ _ _ e₂ λ e₃. first _ _ _ e₃ λ e₄. first _ _ _ e₄ λ e₅. final _ _ e₅

  mutual
    keeps↓ : (p : Pattern) (e : Env) → Keeps e.objects (compile↓ p e)
    keeps↓ (object row v) e = choice (Keeps e.objects) (e.objects v) (first _ _ _ (raised e 1) λ e₁. first _ _ _ e₁ λ e₂. final _ _ e₂) (final _ _ e)
    keeps↓ (raw row r) e = choice (Keeps e.objects) (e.raws r) (final _ _ e) (final _ _ e)
    keeps↓ (constant row c b) e = first _ _ _ (raised e 1) λ e₁. first _ _ _ e₁ λ e₂. first _ _ _ e₂ λ e₃. final _ _ e₃
    keeps↓ (opposite row k K) e = first _ _ _ (raised e 1) λ e₁. first _ _ _ e₁ λ e₂. first _ _ _ e₂ λ e₃. final _ _ e₃
    keeps↓ (key_of row k a) e = first _ _ _ e λ e₁. first _ _ _ (raised e₁ 1) λ e₂. first _ _ _ e₂ λ e₃. first _ _ _ e₃ λ e₄. final _ _ e₄
    keeps↓ (encryption row v (plain_key dk) p) e = first _ _ _ e λ e₁. first _ _ _ e₁ λ e₂. keeps↓ p e₂
    keeps↓ (encryption row v (op_key k K) p) e = refused
    keeps↓ (encryption row v (certified_key k a) p) e = refused
    keeps↓ (signature row s key r) e = first _ _ _ e λ e₁. keeps_verifying row key r e₁
    keeps↓ (hash row h r) e = first _ _ _ e λ e₁. first _ _ _ (raised e₁ 1) λ e₂. first _ _ _ e₂ λ e₃. first _ _ _ e₃ λ e₄. final _ _ e₄
    keeps↓ (tuple row t ps) e = first _ _ _ e λ e₁. first _ _ _ (raised e₁ (count ps)) λ e₂. keeps↓parts ps row e₁.next e₂
    keeps↓ (let_in row r p₁ p₂) e =
        choice (Keeps e.objects) (e.raws r) refused (follows _ _ (keeps↓ p₂ e) λ e₁. first _ _ _ e₁ λ e₂. keeps↓ p₁ e₂)

    keeps↓parts : (ps : Parts) (row rˢ : ℕ) (e : Env) → Keeps e.objects (compile↓parts ps row rˢ e)
    keeps↓parts end row rˢ e = nothing e
    keeps↓parts (part p ps) row rˢ e = first _ _ _ e λ e₁. follows _ _ (keeps↓ p e₁) λ e₂. keeps↓parts ps row (suc rˢ) e₂

  -- figure 6
  keeps_creating : (row v : ℕ) (e : Env) → Keeps e.objects (creating kind row v e)
  keeps_creating row v e =
      choice (Keeps e.objects) (e.objects v) (nothing e) (choice (Keeps e.objects) (creatable (kind v)) (final _ _ e) refused)

  keeps_key : (row : ℕ) (key : Key) (e : Env) → Keeps e.objects (compile↑K kind row key e)
  keeps_key row (plain_key v) e = keeps_creating row v e
  keeps_key row (op_key k K) e = follows _ _ (keeps_creating row K e) λ e₁. final _ _ e₁
  keeps_key row (certified_key k a) e = first _ _ _ e λ e₁. first _ _ _ e₁ λ e₂. final _ _ e₂

  mutual
    keeps↑ : (p : Pattern) (e : Env) → Keeps e.objects (compile↑ kind p e)
    keeps↑ (object row v) e = follows _ _ (keeps_creating row v e) λ e₁. final _ _ e₁
    keeps↑ (raw row r) e = final _ _ e
    keeps↑ (constant row c b) e = first _ _ _ e λ e₁. final _ _ e₁
    keeps↑ (opposite row k K) e = follows _ _ (keeps_key row (op_key k K) e) λ e₁. final _ _ e₁
    keeps↑ (key_of row k a) e = keeps_key row (certified_key k a) e
    keeps↑ (encryption row v key p) e = follows _ _ (keeps_key row key e) λ e₁. follows _ _ (keeps↑ p e₁) λ e₂. first _ _ _ e₂ λ e₃. final _ _ e₃
    keeps↑ (signature row s key r) e = follows _ _ (keeps_key row key e) λ e₁. first _ _ _ e₁ λ e₂. first _ _ _ e₂ λ e₃. final _ _ e₃
    keeps↑ (hash row h r) e = first _ _ _ e λ e₁. first _ _ _ e₁ λ e₂. final _ _ e₂
    keeps↑ (tuple row t ps) e = follows _ _ (keeps↑parts ps row e.next (raised e (count ps))) λ e₁. first _ _ _ e₁ λ e₂. final _ _ e₂
    keeps↑ (let_in row r p₁ p₂) e = follows _ _ (keeps↑ p₁ e) λ e₁. first _ _ _ e₁ λ e₂. keeps↑ p₂ e₂

    keeps↑parts : (ps : Parts) (row rˢ : ℕ) (e : Env) → Keeps e.objects (compile↑parts kind ps row rˢ e)
    keeps↑parts end row rˢ e = nothing e
    keeps↑parts (part p ps) row rˢ e = follows _ _ (keeps↑ p e) λ e₁. first _ _ _ e₁ λ e₂. keeps↑parts ps row (suc rˢ) e₂

  keeps : (create : Bool) (p : Pattern) (e : Env) → Keeps e.objects (tables create kind p e)
  keeps true p e = keeps↑ p e
  keeps false p e = keeps↓ p e

  pub sets_declared : (create : Bool) (p : Pattern) (e e' : Env) (lines : List Line) → tables create kind p e ≡ ok lines e' → AllInRange kind lines
      → OnlyDeclared e.objects → OnlyDeclared e'.objects
  unfolding KeepsT
  sets_declared create p e e' lines q r d = (subst (Keeps e.objects) q (keeps create p e)).kept r d

-- 3 over known cells and over cells: the kinds are known, and no undeclared variable is set
undeclared_from : (n : ℕ) (kinds : List ℕ) (set : ℕ → Bool) → T (undeclared_unknown n kinds set) ↔ ((v : ℕ) → v < length kinds → get_or kinds v 0 ≡ 0 → T (not (set (n + v))))
unfolding undeclared_unknown
undeclared_from n [] set = (λ _ v k. absurd (omega arith), λ _. tt)
undeclared_from n (kind ∷ kinds) set =
    let tests = both (not (eqb kind 0) || not (set n)) (undeclared_unknown (suc n) kinds set) in
    let here = implied (eqb kind 0) (not (set n)) in
    let rest = undeclared_from (suc n) kinds set in (
      λ t. let (h, r) = tests.0 t in each (λ e. here.0 h ((equals kind 0).1 e)) (rest.0 r),
      λ all. tests.1 (here.1 λ t. rw add-zero at (all zero (omega arith) ((equals kind 0).0 t)), rest.1 λ v l e. later v (all (suc v) (omega arith) e)),
    )
  where
    each : (kind ≡ 0 → T (not (set n))) → ((v : ℕ) → v < length kinds → get_or kinds v 0 ≡ 0 → T (not (set (suc n + v))))
        → (v : ℕ) → v < length (kind ∷ kinds) → get_or (kind ∷ kinds) v 0 ≡ 0 → T (not (set (n + v)))
    each h r zero l e = rw add-zero (h e)
    each h r (suc v) l e = let same : n + suc v ≡ suc n + v = omega arith in rw same (r v (omega arith) e)

    later : (v : ℕ) → T (not (set (n + suc v))) → T (not (set (suc n + v)))
    later v t = let same : suc n + v ≡ n + suc v = omega arith in rw same t

pub declared_known_lem : (kinds : List ℕ) (set : ℕ → Bool) → length kinds ≡ variables → T (declared_known kinds set) ↔ (T (kinds_fit kinds) × OnlyDeclared (kind_in kinds) set)
unfolding declared_known
declared_known_lem kinds set k =
    let tests = both (kinds_fit kinds) (undeclared_unknown 0 kinds set) in
    let cells = undeclared_from 0 kinds set in (
      λ t. let (f, u) = tests.0 t in (f, λ v inside none. rw zero-add at (cells.0 u v (omega (arith, k)) none)),
      λ h. tests.1 (h.0, cells.1 λ v inside none. rw zero-add (h.1 v (omega (arith, k)) none)),
    )

pub declared_cells : (kinds objects named : List ℕ) → length kinds ≡ variables → length objects ≡ variables
    → T (declared kinds objects) ↔ (T (kinds_fit kinds) × OnlyDeclared (kind_in kinds) (entry objects named).objects)
unfolding declared
declared_cells kinds objects named k o =
    let tests = both (kinds_fit kinds) (each_variable undeclared_unset kinds objects) in
    let cells = each_variable_lem undeclared_unset UndeclaredUnset undeclared_unset_lem kinds objects in (
      λ t. let (f, u) = tests.0 t in (f, λ v inside none. (unset_cell (get_or objects v unset)).1 (cells.0 u v (omega (arith, k)) (omega (arith, o)) none)),
      λ h. tests.1 (h.0, cells.1 λ v inside _ none. (unset_cell (get_or objects v unset)).0 (h.1 v (omega (arith, k)) none)),
    )
