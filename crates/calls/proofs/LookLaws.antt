-- Emission looks at what each form's line says, in that order.
use Prim.Native.Nat.{ℕ, suc, ◌<◌}
use mathlib.Core.Path.{◌≡◌, refl, sym, ◌∙◌, ap}
use mathlib.Core.Bool.{Bool, true, false, cond}
use mathlib.Core.List.{List, [], ◌∷◌, ◌++◌}
use native.Mathlib.Omega.{arith}
use lib.Dec.{eqb}
use Rattle.answers.specs.declared.Compiled.{Compiled}
use Rattle.answers.specs.declared.Compiled.TheVariants.{WrongKind, WrittenWhileSet, ReadWhileUnset}
use Rattle.numbers.specs.Limits.{named_cells}
use Rattle.code.specs.declared.Instruction.{Instruction}
use Rattle.patterns.specs.Pattern.{Key, plain_key, op_key, certified_key, Pattern, object, raw, constant, opposite, key_of, encryption, signature, hash, tuple, let_in, Parts, end, part, count, RawsBelow, PartsBelow}
use Rattle.theory.specs.Store.{put}
use Rattle.theory.specs.World.{creatable}
use Rattle.theory.specs.Machine.{Line, line_at, named, scratch}
use Rattle.theory.specs.Emission.{Env, Emitted, ok, refuse, behind, and_then, ◌then◌, add_object, readable, emit, take}
use Rattle.theory.specs.Compilers.{LOAD, STORE, STORE_CONST, DECODE, ENCODE, CREATE, ANALYZE_TUPLE, CREATE_TUPLE, OPPOSITE, KEY_OF, MATCH, ENCRYPT, DECRYPT, SIGN, VERIFY, HASH, compile↓, compile↓parts, key_var, compile↑K, compile↑, compile↑parts}
use Rattle.theory.specs.Compilers as Compilers
use Rattle.theory.proofs.StoreLaws.{put_same}
use Rattle.theory.proofs.CellLaws.{readable_named, readable_scratch, occupied_named, occupied_scratch, add_raw_named, add_raw_scratch}
use Rattle.theory.proofs.CellLaws as Cells
use Rattle.calls.specs.Compile.{tables}
use Rattle.calls.specs.Looks.{Known, Look, writes, writes_raw, unset_on_entry, reads, reads_raw, reads_or_creates, sets, sets_raw, wrong_kind, Verdict, passed, stopped, onward, with_object, with_raw, looked, judged, matching_looks, matching_parts_looks, creating_key_looks, creating_looks, creating_parts_looks, looks_of, known_in, verdict_of}

after_verdict : (c : List Line) (E : Emitted) → verdict_of (behind c E) ≡ verdict_of E
unfolding behind
after_verdict c (ok d e) = refl
after_verdict c (refuse answer) = refl

clash : {k : Known} {answer : Compiled} → stopped answer ≡ passed k → ⊥
clash e = let z : ◌≡◌ {A = ℕ} 0 1 = cc in omega arith

same_known : {k k' : Known} → passed k ≡ passed k' → k ≡ k'
same_known e = cc

-- what is known where a step is emitted
abbrev Any : Known → Type 0
Any k = Unit {0}

abbrev Has : ℕ → Known → Type 0
Has v k = k.objects v ≡ true

-- a variable that is set stays set
put_kept : (f : ℕ → Bool) (k v : ℕ) → f v ≡ true → put f k true v ≡ true
unfolding put
put_kept f k v e = go (eqb k v)
  where
    go : (b : Bool) → cond b true (f v) ≡ true
    go true = refl
    go false = e

pub write_case : (row : ℕ) (e : Env) (c : List Line) (v : ℕ) (b : Bool)
    → verdict_of (cond b (refuse (WrittenWhileSet row)) (ok c (add_object e v))) ≡ cond b (stopped (WrittenWhileSet row)) (passed (with_object (known_in e) v))
write_case row e c v true = refl
write_case row e c v false = refl

pub read_case : (row : ℕ) (e : Env) (c : List Line) (b : Bool) → verdict_of (cond b (ok c e) (refuse (ReadWhileUnset row))) ≡ cond b (passed (known_in e)) (stopped (ReadWhileUnset row))
read_case row e c true = refl
read_case row e c false = refl

has_case : (row : ℕ) (e : Env) (c : List Line) (b : Bool) → b ≡ true → verdict_of (cond b (ok c e) (refuse (ReadWhileUnset row))) ≡ passed (known_in e)
has_case row e c b is = rw is

module _ (kind : ℕ → ℕ) where
  onward_end : (v : Verdict) → onward v (judged kind []) ≡ v
  unfolding judged
  onward_end (passed k) = refl
  onward_end (stopped answer) = refl

  pub judged_one : (l : Look) (k : Known) → judged kind (l ∷ []) k ≡ looked kind l k
  unfolding judged
  judged_one l k = onward_end (looked kind l k)

  pub judged_none : (k : Known) → judged kind [] k ≡ passed k
  unfolding judged
  judged_none k = refl

  pub onward_twice : (v : Verdict) (f g : Known → Verdict) (h : Known → Verdict) → ((k : Known) → h k ≡ onward (f k) g) → onward v h ≡ onward (onward v f) g
  onward_twice (passed k) f g h e = e k
  onward_twice (stopped answer) f g h e = refl

  pub judged_append : (l m : List Look) (k : Known) → judged kind (l ++ m) k ≡ onward (judged kind l k) (judged kind m)
  unfolding judged
  judged_append [] m k = refl
  judged_append (a ∷ l) m k = onward_twice (looked kind a k) (judged kind l) (judged kind m) (judged kind (l ++ m)) (λ k'. judged_append l m k')

  -- emission passes and stops as a list of looks does
  record Looked (P : Known → Type 0) (f : Env → Emitted) (l : List Look) : Type 0 where
    pub at : (e : Env) → P (known_in e) → verdict_of (f e) ≡ judged kind l (known_in e)

  seq_case : {Q : Known → Type 0} {g : Env → Emitted} {m : List Look} (E : Emitted) (v : Verdict) → verdict_of E ≡ v → ((k : Known) → v ≡ passed k → Q k) → Looked Q g m
      → verdict_of (and_then E g) ≡ onward v (judged kind m)
  unfolding and_then
  seq_case {g = g} {m = m} (ok c e) v q known b = after_verdict c (g e) ∙ b.at e (known (known_in e) (sym q)) ∙ ap (λ w. onward w (judged kind m)) q
  seq_case {m = m} (refuse answer) v q known b = ap (λ w. onward w (judged kind m)) q

  seq : {P Q : Known → Type 0} {f g : Env → Emitted} {l m : List Look} → Looked P f l → ((k k' : Known) → P k → judged kind l k ≡ passed k' → Q k') → Looked Q g m
      → Looked P (f then g) (l ++ m)
  seq {f = f} {l = l} {m = m} a known b = record {
    at = λ e p. seq_case (f e) (judged kind l (known_in e)) (a.at e p) (λ k q. known (known_in e) k p q) b ∙ sym (judged_append l m (known_in e));
  }

  -- nothing more is known
  plain : {P : Known → Type 0} {f g : Env → Emitted} {l m : List Look} → Looked P f l → Looked Any g m → Looked P (f then g) (l ++ m)
  plain a b = seq a (λ k k' p q. tt) b

  any : {P : Known → Type 0} {f : Env → Emitted} {l : List Look} → Looked Any f l → Looked P f l
  any a = record { at = λ e p. a.at e tt }

  takes : {P : Known → Type 0} (n : ℕ) {f : ℕ → Env → Emitted} {l : List Look} → ((i : ℕ) → Looked P (f i) l) → Looked P (take n f) l
  takes n h = record { at = λ e p. (h e.next).at _ p }

  -- an instruction that writes, one that reads, one that reads what is set, one that looks at nothing
  writing : (row v : ℕ) (i : Instruction) → ((e : Env) → emit row i e ≡ cond (e.objects v) (refuse (WrittenWhileSet row)) (ok (line_at row i ∷ []) (add_object e v)))
      → Looked Any (emit row i) (writes row v ∷ [])
  writing row v i h = record { at = λ e p. ap verdict_of (h e) ∙ write_case row e (line_at row i ∷ []) v (e.objects v) ∙ sym (judged_one (writes row v) (known_in e)) }

  reading : (row v : ℕ) (i : Instruction) → ((e : Env) → emit row i e ≡ cond (e.objects v) (ok (line_at row i ∷ []) e) (refuse (ReadWhileUnset row)))
      → Looked Any (emit row i) (reads row v ∷ [])
  reading row v i h = record { at = λ e p. ap verdict_of (h e) ∙ read_case row e (line_at row i ∷ []) (e.objects v) ∙ sym (judged_one (reads row v) (known_in e)) }

  having : (row v : ℕ) (i : Instruction) → ((e : Env) → emit row i e ≡ cond (e.objects v) (ok (line_at row i ∷ []) e) (refuse (ReadWhileUnset row)))
      → Looked (Has v) (emit row i) []
  having row v i h = record { at = λ e p. ap verdict_of (h e) ∙ has_case row e (line_at row i ∷ []) (e.objects v) p ∙ sym (judged_none (known_in e)) }

  quiet : (row : ℕ) (i : Instruction) → ((e : Env) → emit row i e ≡ ok (line_at row i ∷ []) e) → Looked Any (emit row i) []
  quiet row i h = record { at = λ e p. ap verdict_of (h e) ∙ sym (judged_none (known_in e)) }

  decode : (row v : ℕ) → Looked Any (emit row (DECODE v)) (writes row v ∷ [])
  unfolding emit
  decode row v = writing row v (DECODE v) (λ e. refl)

  store_const : (row c b : ℕ) → Looked Any (emit row (STORE_CONST c b)) (writes row c ∷ [])
  unfolding emit
  store_const row c b = writing row c (STORE_CONST c b) (λ e. refl)

  create_tuple : (row t i n : ℕ) → Looked Any (emit row (CREATE_TUPLE t (scratch i) n)) (writes row t ∷ [])
  unfolding emit
  create_tuple row t i n = writing row t (CREATE_TUPLE t (scratch i) n) (λ e. refl)

  encode : (row v : ℕ) → Looked Any (emit row (ENCODE v)) (reads row v ∷ [])
  unfolding emit
  encode row v = reading row v (ENCODE v) (λ e. refl)

  encode_set : (row v : ℕ) → Looked (Has v) (emit row (ENCODE v)) []
  unfolding emit
  encode_set row v = having row v (ENCODE v) (λ e. refl)

  decrypt : (row v : ℕ) → Looked Any (emit row (DECRYPT v)) (reads row v ∷ [])
  unfolding emit
  decrypt row v = reading row v (DECRYPT v) (λ e. refl)

  encrypt_set : (row v : ℕ) → Looked (Has v) (emit row (ENCRYPT v)) []
  unfolding emit
  encrypt_set row v = having row v (ENCRYPT v) (λ e. refl)

  sign_set : (row v : ℕ) → Looked (Has v) (emit row (SIGN v)) []
  unfolding emit
  sign_set row v = having row v (SIGN v) (λ e. refl)

  analyze_set : (row t i n : ℕ) → Looked (Has t) (emit row (ANALYZE_TUPLE t (scratch i) n)) []
  unfolding emit
  analyze_set row t i n = having row t (ANALYZE_TUPLE t (scratch i) n) (λ e. refl)

  key_of_lem : (row : ℕ) → Looked Any (emit row KEY_OF) []
  unfolding emit
  key_of_lem row = quiet row KEY_OF (λ e. refl)

  hashes : (row h : ℕ) → Looked Any (emit row (HASH h)) []
  unfolding emit
  hashes row h = quiet row (HASH h) (λ e. refl)

  load_scratch : (row i : ℕ) → Looked Any (emit row (LOAD (scratch i))) []
  unfolding emit
  load_scratch row i = quiet row (LOAD (scratch i)) (λ e. rw (readable_scratch e i))

  match_scratch : (row i : ℕ) → Looked Any (emit row (MATCH (scratch i))) []
  unfolding emit
  match_scratch row i = quiet row (MATCH (scratch i)) (λ e. rw (readable_scratch e i))

  store_scratch : (row i : ℕ) → Looked Any (emit row (STORE (scratch i))) []
  unfolding emit
  store_scratch row i = quiet row (STORE (scratch i)) (λ e. rw (occupied_scratch e i, add_raw_scratch e i))

  load_named : (row r : ℕ) → r < named_cells → Looked Any (emit row (LOAD (named r))) (reads_raw row r ∷ [])
  unfolding emit
  load_named row r below = record {
    at = λ e p.
        ap (λ (b : Bool). verdict_of (cond b (ok (line_at row (LOAD (named r)) ∷ []) e) (refuse (ReadWhileUnset row)))) (readable_named e r below)
        ∙ read_case row e (line_at row (LOAD (named r)) ∷ []) (e.raws r) ∙ sym (judged_one (reads_raw row r) (known_in e));
  }

  pub raw_case : (row r : ℕ) (e : Env) (c : List Line) (b : Bool)
      → verdict_of (cond b (refuse (WrittenWhileSet row)) (ok c (Cells.with_raw e r))) ≡ cond b (stopped (WrittenWhileSet row)) (passed (with_raw (known_in e) r))
  raw_case row r e c true = refl
  raw_case row r e c false = refl

  store_named : (row r : ℕ) → r < named_cells → Looked Any (emit row (STORE (named r))) (writes_raw row r ∷ [])
  unfolding emit
  store_named row r below = record {
    at = λ e p.
        let h : emit row (STORE (named r)) e ≡ cond (e.raws r) (refuse (WrittenWhileSet row))
        (ok (line_at row (STORE (named r)) ∷ []) (Cells.with_raw e r)) = rw (occupied_named e r below, add_raw_named e r below) in
        ap verdict_of h ∙ raw_case row r e (line_at row (STORE (named r)) ∷ []) (e.raws r) ∙ sym (judged_one (writes_raw row r) (known_in e));
  }

  -- after a write the variable is set, and what is set stays so
  wrote_case : (row v : ℕ) (k k' : Known) (b : Bool) → cond b (stopped (WrittenWhileSet row)) (passed (with_object k v)) ≡ passed k' → k'.objects v ≡ true
  wrote_case row v k k' true q = absurd (clash q)
  wrote_case row v k k' false q = ap (λ (k : Known). k.objects v) (sym (same_known q)) ∙ put_same k.objects v true

  wrote : (row v : ℕ) (k k' : Known) → judged kind (writes row v ∷ []) k ≡ passed k' → k'.objects v ≡ true
  wrote row v k k' q = wrote_case row v k k' (k.objects v) (sym (judged_one (writes row v) k) ∙ q)

  last_case : (row v : ℕ) (w : Verdict) (k' : Known) → onward w (judged kind (writes row v ∷ [])) ≡ passed k' → k'.objects v ≡ true
  last_case row v (passed k) k' q = wrote row v k k' q
  last_case row v (stopped answer) k' q = absurd (clash q)

  last_sets : (l : List Look) (row v : ℕ) (k k' : Known) → judged kind (l ++ (writes row v ∷ [])) k ≡ passed k' → k'.objects v ≡ true
  last_sets l row v k k' q = last_case row v (judged kind l k) k' (sym (judged_append l (writes row v ∷ []) k) ∙ q)

  keep_passed : (v : ℕ) (k : Known) → k.objects v ≡ true → (k' : Known) → passed k ≡ passed k' → k'.objects v ≡ true
  keep_passed v k h k' q = ap (λ (k : Known). k.objects v) (sym (same_known q)) ∙ h

  keep_cond : (v : ℕ) (b : Bool) (x y : Verdict) → ((k : Known) → x ≡ passed k → k.objects v ≡ true) → ((k : Known) → y ≡ passed k → k.objects v ≡ true)
      → (k : Known) → cond b x y ≡ passed k → k.objects v ≡ true
  keep_cond v true x y f g = f
  keep_cond v false x y f g = g

  keep_choice : (v : ℕ) (b : Bool) (x y : Known) → x.objects v ≡ true → y.objects v ≡ true → (cond b x y).objects v ≡ true
  keep_choice v true x y f g = f
  keep_choice v false x y f g = g

  one_keeps : (a : Look) (v : ℕ) (k : Known) → k.objects v ≡ true → (k' : Known) → looked kind a k ≡ passed k' → k'.objects v ≡ true
  one_keeps (writes row w) v k h = keep_cond v (k.objects w) (stopped (WrittenWhileSet row)) (passed (with_object k w)) (λ k' q. absurd (clash q))
      (keep_passed v (with_object k w) (put_kept k.objects w v h))
  one_keeps (writes_raw row r) v k h = keep_cond v (k.raws r) (stopped (WrittenWhileSet row)) (passed (with_raw k r)) (λ k' q. absurd (clash q)) (keep_passed v (with_raw k r) h)
  one_keeps (unset_on_entry row r) v k h = keep_cond v (k.raws r) (stopped (WrittenWhileSet row)) (passed k) (λ k' q. absurd (clash q)) (keep_passed v k h)
  one_keeps (reads row w) v k h = keep_cond v (k.objects w) (passed k) (stopped (ReadWhileUnset row)) (keep_passed v k h) (λ k' q. absurd (clash q))
  one_keeps (reads_raw row r) v k h = keep_cond v (k.raws r) (passed k) (stopped (ReadWhileUnset row)) (keep_passed v k h) (λ k' q. absurd (clash q))
  one_keeps (reads_or_creates row w) v k h =
      keep_cond v (k.objects w) (passed k) (cond (creatable (kind w)) (passed (with_object k w)) (stopped (ReadWhileUnset row))) (keep_passed v k h)
      (keep_cond v (creatable (kind w)) (passed (with_object k w)) (stopped (ReadWhileUnset row))
      (keep_passed v (with_object k w) (put_kept k.objects w v h)) (λ k' q. absurd (clash q)))
  one_keeps (sets w) v k h = keep_passed v (cond (k.objects w) k (with_object k w)) (keep_choice v (k.objects w) k (with_object k w) h (put_kept k.objects w v h))
  one_keeps (sets_raw r) v k h = keep_passed v (cond (k.raws r) k (with_raw k r)) (keep_choice v (k.raws r) k (with_raw k r) h h)
  one_keeps (wrong_kind row) v k h = λ k' q. absurd (clash q)

  keep_onward : (v : ℕ) (w : Verdict) (f : Known → Verdict) (k' : Known) → ((k : Known) → w ≡ passed k → k.objects v ≡ true)
      → ((k : Known) → k.objects v ≡ true → f k ≡ passed k' → k'.objects v ≡ true) → onward w f ≡ passed k' → k'.objects v ≡ true
  keep_onward v (passed k) f k' one rest q = rest k (one k refl) q
  keep_onward v (stopped answer) f k' one rest q = absurd (clash q)

  keeps : (l : List Look) (v : ℕ) (k k' : Known) → k.objects v ≡ true → judged kind l k ≡ passed k' → k'.objects v ≡ true
  unfolding judged
  keeps [] v k k' h q = keep_passed v k h k' q
  keeps (a ∷ l) v k k' h q = keep_onward v (looked kind a k) (judged kind l) k' (one_keeps a v k h) (λ k₁ h₁ q₁. keeps l v k₁ k' h₁ q₁) q

  create_case : (row v : ℕ) (k k' : Known) (b c : Bool) → k.objects v ≡ b
      → cond b (passed k) (cond c (passed (with_object k v)) (stopped (ReadWhileUnset row))) ≡ passed k' → k'.objects v ≡ true
  create_case row v k k' true c e q = keep_passed v k e k' q
  create_case row v k k' false true e q = keep_passed v (with_object k v) (put_same k.objects v true) k' q
  create_case row v k k' false false e q = absurd (clash q)

  created_sets : (row v : ℕ) (k k' : Known) → judged kind (reads_or_creates row v ∷ []) k ≡ passed k' → k'.objects v ≡ true
  created_sets row v k k' q = create_case row v k k' (k.objects v) (creatable (kind v)) refl (sym (judged_one (reads_or_creates row v) k) ∙ q)

  create_emit : (row v : ℕ) (e : Env) (b c : Bool) → e.objects v ≡ b
      → verdict_of (cond b (ok [] e) (cond c (emit row (CREATE v) e) (refuse (ReadWhileUnset row))))
      ≡ cond b (passed (known_in e)) (cond c (passed (with_object (known_in e) v)) (stopped (ReadWhileUnset row)))
  unfolding emit
  create_emit row v e true c q = refl
  create_emit row v e false true q = ap (λ (b : Bool). verdict_of (cond b (refuse (WrittenWhileSet row)) (ok (line_at row (CREATE v) ∷ []) (add_object e v)))) q
  create_emit row v e false false q = refl

  creates : (row v : ℕ) → Looked Any (Compilers.creating kind row v) (reads_or_creates row v ∷ [])
  creates row v = record { at = λ e p. create_emit row v e (e.objects v) (creatable (kind v)) refl ∙ sym (judged_one (reads_or_creates row v) (known_in e)) }

  opposite_case : (row : ℕ) (e : Env) (c : List Line) (k : ℕ) (b : Bool)
      → verdict_of (cond b (cond (e.objects k) (refuse (WrittenWhileSet row)) (ok c (add_object e k))) (refuse (ReadWhileUnset row)))
      ≡ onward (cond b (passed (known_in e)) (stopped (ReadWhileUnset row))) (judged kind (writes row k ∷ []))
  opposite_case row e c k true = write_case row e c k (e.objects k) ∙ sym (judged_one (writes row k) (known_in e))
  opposite_case row e c k false = refl

  opposites : (row K k : ℕ) → Looked Any (emit row (OPPOSITE K k)) (reads row K ∷ writes row k ∷ [])
  unfolding emit judged
  opposites row K k = record { at = λ e p. opposite_case row e (line_at row (OPPOSITE K k) ∷ []) k (e.objects K) }

  opposite_set : (row K k : ℕ) → Looked (Has K) (emit row (OPPOSITE K k)) (writes row k ∷ [])
  unfolding emit
  opposite_set row K k = record {
    at = λ e p. opposite_case row e (line_at row (OPPOSITE K k) ∷ []) k (e.objects K) ∙ ap
        (λ (b : Bool). onward (cond b (passed (known_in e)) (stopped (ReadWhileUnset row))) (judged kind (writes row k ∷ []))) p;
  }

  verify_case : (row r : ℕ) (e : Env) (c : List Line) (b : Bool) → r < named_cells
      → verdict_of (cond b (cond (readable e r) (ok c e) (refuse (ReadWhileUnset row))) (refuse (ReadWhileUnset row)))
      ≡ onward (cond b (passed (known_in e)) (stopped (ReadWhileUnset row))) (judged kind (reads_raw row r ∷ []))
  verify_case row r e c true below =
      ap (λ (b : Bool). verdict_of (cond b (ok c e) (refuse (ReadWhileUnset row)))) (readable_named e r below) ∙ read_case row e c (e.raws r) ∙ sym (judged_one (reads_raw row r) (known_in e))
  verify_case row r e c false below = refl

  verifies : (row v r : ℕ) → r < named_cells → Looked Any (emit row (VERIFY v (named r))) (reads row v ∷ reads_raw row r ∷ [])
  unfolding emit judged
  verifies row v r below = record { at = λ e p. verify_case row r e (line_at row (VERIFY v (named r)) ∷ []) (e.objects v) below }

  verify_set : (row v r : ℕ) → r < named_cells → Looked (Has v) (emit row (VERIFY v (named r))) (reads_raw row r ∷ [])
  unfolding emit
  verify_set row v r below = record {
    at = λ e p. verify_case row r e (line_at row (VERIFY v (named r)) ∷ []) (e.objects v) below ∙ ap
        (λ (b : Bool). onward (cond b (passed (known_in e)) (stopped (ReadWhileUnset row))) (judged kind (reads_raw row r ∷ []))) p;
  }

  -- a variable that is set is compared, one that is not is set
  compare : (row v : ℕ) → Looked (Has v) (take 1 λ i. emit row (STORE (scratch i)) then emit row (ENCODE v) then emit row (MATCH (scratch i))) []
  compare row v = takes 1 λ i. seq (any (store_scratch row i)) (λ k k' p q. keeps [] v k k' p q) (plain (encode_set row v) (match_scratch row i))

  object_case : (row v : ℕ) (e : Env) (b : Bool) → e.objects v ≡ b
      → verdict_of (cond b ((take 1 λ i. emit row (STORE (scratch i)) then emit row (ENCODE v) then emit row (MATCH (scratch i))) e) (emit row (DECODE v) e))
      ≡ passed (cond b (known_in e) (with_object (known_in e) v))
  object_case row v e true q = (compare row v).at e q ∙ judged_none (known_in e)
  object_case row v e false q =
      (decode row v).at e tt ∙ judged_one (writes row v) (known_in e) ∙ ap (λ (b : Bool). cond b (stopped (WrittenWhileSet row)) (passed (with_object (known_in e) v))) q

  raw_match : (row r : ℕ) (e : Env) (b : Bool) → r < named_cells → e.raws r ≡ b
      → verdict_of (cond b (emit row (MATCH (named r)) e) (emit row (STORE (named r)) e)) ≡ passed (cond b (known_in e) (with_raw (known_in e) r))
  unfolding emit
  raw_match row r e true below q =
      ap (λ (b : Bool). verdict_of (cond b (ok (line_at row (MATCH (named r)) ∷ []) e) (refuse (ReadWhileUnset row)))) (readable_named e r below ∙ q)
  raw_match row r e false below q =
      (store_named row r below).at e tt ∙ judged_one (writes_raw row r) (known_in e) ∙ ap (λ (b : Bool). cond b (stopped (WrittenWhileSet row)) (passed (with_raw (known_in e) r))) q

  entry_case : (row : ℕ) (E : Emitted) (l : List Look) (k : Known) (b : Bool) → verdict_of E ≡ judged kind l k
      → verdict_of (cond b (refuse (WrittenWhileSet row)) E) ≡ onward (cond b (stopped (WrittenWhileSet row)) (passed k)) (judged kind l)
  entry_case row E l k true q = refl
  entry_case row E l k false q = q

  entered : (row r : ℕ) {f : Env → Emitted} {l : List Look} → Looked Any f l → Looked Any (λ e. cond (e.raws r) (refuse (WrittenWhileSet row)) (f e)) (unset_on_entry row r ∷ l)
  unfolding judged
  entered row r {f} {l} a = record { at = λ e p. entry_case row (f e) l (known_in e) (e.raws r) (a.at e tt) }

  refused : (row : ℕ) → Looked Any (λ e. refuse (WrongKind row)) (wrong_kind row ∷ [])
  refused row = record { at = λ e p. sym (judged_one (wrong_kind row) (known_in e)) }

  nothing : Looked Any (ok []) []
  nothing = record { at = λ e p. sym (judged_none (known_in e)) }

  mutual
    unfolding RawsBelow PartsBelow

    match_looks : (p : Pattern) → RawsBelow named_cells p → Looked Any (compile↓ p) (matching_looks p)
    match_looks (object row v) b = record { at = λ e p. object_case row v e (e.objects v) refl ∙ sym (judged_one (sets v) (known_in e)) }
    match_looks (raw row r) b = record { at = λ e p. raw_match row r e (e.raws r) b refl ∙ sym (judged_one (sets_raw r) (known_in e)) }
    match_looks (constant row c x) b = takes 1 λ i. plain (store_scratch row i) (seq (store_const row c x) (λ k k' p q. wrote row c k k' q) (plain (encode_set row c) (match_scratch row i)))
    match_looks (opposite row k K) b =
        takes 1 λ i. plain (store_scratch row i) (seq (opposites row K k) (λ j j' p q. last_sets (reads row K ∷ []) row k j j' q) (plain (encode_set row k) (match_scratch row i)))
    match_looks (key_of row k a) b = plain (decode row k) (takes 1 λ i. plain (store_scratch row i) (plain (encode row a) (plain (key_of_lem row) (match_scratch row i))))
    match_looks (encryption row e (plain_key x) p) b = plain (decode row e) (plain (decrypt row x) (match_looks p b))
    match_looks (encryption row e (op_key k K) p) b = refused row
    match_looks (encryption row e (certified_key k a) p) b = refused row
    match_looks (signature row s (plain_key x) r) b = plain (decode row s) (verifies row x r b)
    match_looks (signature row s (op_key k K) r) b =
        plain (decode row s) (seq (opposites row K k) (λ j j' p q. last_sets (reads row K ∷ []) row k j j' q) (verify_set row k r b))
    match_looks (signature row s (certified_key k a) r) b =
        plain (decode row s) (takes 1 λ i. plain (store_scratch row i) (plain (encode row a) (plain (key_of_lem row)
        (seq (decode row k) (λ j j' p q. wrote row k j j' q) (seq (any (load_scratch row i)) (λ j j' p q. keeps [] k j j' p q) (verify_set row k r b))))))
    match_looks (hash row h r) b = plain (decode row h) (takes 1 λ i. plain (store_scratch row i) (plain (load_named row r b) (plain (hashes row h) (match_scratch row i))))
    match_looks (tuple row t ps) b =
        seq (decode row t) (λ j j' p q. wrote row t j j' q) (takes (count ps) λ i. plain (analyze_set row t i (count ps)) (match_parts ps row i b))
    match_looks (let_in row r p₁ p₂) (below, first, second) = entered row r (plain (match_looks p₂ second) (plain (load_named row r below) (match_looks p₁ first)))

    match_parts : (ps : Parts) (row i : ℕ) → PartsBelow named_cells ps → Looked Any (compile↓parts ps row i) (matching_parts_looks ps)
    match_parts end row i b = nothing
    match_parts (part p ps) row i (here, there) = plain (load_scratch row i) (plain (match_looks p here) (match_parts ps row (suc i) there))

  key_looks : (row : ℕ) (key : Key) → Looked Any (compile↑K kind row key) (creating_key_looks row key)
  key_looks row (plain_key v) = creates row v
  key_looks row (op_key k K) = seq (creates row K) (λ j j' p q. created_sets row K j j' q) (opposite_set row K k)
  key_looks row (certified_key k a) = plain (encode row a) (plain (key_of_lem row) (decode row k))

  key_sets : (row : ℕ) (key : Key) (k k' : Known) → judged kind (creating_key_looks row key) k ≡ passed k' → k'.objects (key_var key) ≡ true
  key_sets row (plain_key v) j j' q = created_sets row v j j' q
  key_sets row (op_key k K) j j' q = last_sets (reads_or_creates row K ∷ []) row k j j' q
  key_sets row (certified_key k a) j j' q = last_sets (reads row a ∷ []) row k j j' q

  mutual
    unfolding RawsBelow PartsBelow

    create_looks : (p : Pattern) → RawsBelow named_cells p → Looked Any (compile↑ kind p) (creating_looks p)
    create_looks (object row v) b = seq (creates row v) (λ j j' p q. created_sets row v j j' q) (encode_set row v)
    create_looks (raw row r) b = load_named row r b
    create_looks (constant row c x) b = seq (store_const row c x) (λ j j' p q. wrote row c j j' q) (encode_set row c)
    create_looks (opposite row k K) b = seq (key_looks row (op_key k K)) (λ j j' p q. key_sets row (op_key k K) j j' q) (encode_set row k)
    create_looks (key_of row k a) b = key_looks row (certified_key k a)
    create_looks (encryption row e key p) b =
        seq (key_looks row key) (λ j j' h q. key_sets row key j j' q)
        (seq (any (create_looks p b)) (λ j j' h q. keeps (creating_looks p) (key_var key) j j' h q) (plain (encrypt_set row (key_var key)) (decode row e)))
    create_looks (signature row s key r) b =
        seq (key_looks row key) (λ j j' h q. key_sets row key j j' q)
        (seq (any (load_named row r b)) (λ j j' h q. keeps (reads_raw row r ∷ []) (key_var key) j j' h q) (plain (sign_set row (key_var key)) (decode row s)))
    create_looks (hash row h r) b = plain (load_named row r b) (plain (hashes row h) (decode row h))
    create_looks (tuple row t ps) b =
        takes (count ps) λ i. plain (create_parts ps row i b) (seq (create_tuple row t i (count ps)) (λ j j' p q. wrote row t j j' q) (encode_set row t))
    create_looks (let_in row r p₁ p₂) (below, first, second) = plain (create_looks p₁ first) (plain (store_named row r below) (create_looks p₂ second))

    create_parts : (ps : Parts) (row i : ℕ) → PartsBelow named_cells ps → Looked Any (compile↑parts kind ps row i) (creating_parts_looks ps)
    create_parts end row i b = nothing
    create_parts (part p ps) row i (here, there) = plain (create_looks p here) (plain (store_scratch row i) (create_parts ps row (suc i) there))

-- emission stops exactly where the looks do, with the same answer, and leaves set what they leave set
pub looks_emitted : (create : Bool) (kind : ℕ → ℕ) (p : Pattern) (e : Env) → RawsBelow named_cells p → verdict_of (tables create kind p e) ≡ judged kind (looks_of create p) (known_in e)
looks_emitted true kind p e b = (create_looks kind p b).at e tt
looks_emitted false kind p e b = (match_looks kind p b).at e tt
