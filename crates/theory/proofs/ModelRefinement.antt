-- From models to worlds: where looking, making, names and certificates agree, so does the whole vocabulary.
use mathlib.Core.Path.{◌≡◌, refl, sym, ◌∙◌}
use mathlib.Core.Logic.{◌⊎◌, inl, inr}
use mathlib.Core.Bool.{Bool, true, false, ◌&&◌}
use Rattle.std.specs.Prelude.{Option}
use mathlib.Core.List.{[], ◌∷◌}
use Prim.Native.Nat.{ℕ, ◌<◌, ◌≤◌}
use native.Mathlib.Omega.{arith}
use lib.Dec.{T as Holds, eqb, eqb→eq}
use lib.ListN.{length}
use Rattle.word.proofs.LowestLaws.{one_all}
use Rattle.answers.specs.Numbers.{reason_number}
use Rattle.answers.specs.declared.Reason.TheVariants.{OtherKind, Differs, PartCount, NotOpened, NotVerified}
use Rattle.terms.specs.Shape.{Shape, atom, encrypted, signed, hashed, tupled, kind_of}
use Rattle.terms.specs.Table.{Encrypts, Signs}
use Rattle.theory.specs.Outcome.{Answer, and_then, sure}
use Rattle.theory.specs.World.{Op, Test, creatable}
use Rattle.theory.specs.Model.{Model, number_of, goes_with, opened, certified, verified, taken, apply_in, test_in, world}
use Rattle.theory.proofs.Related.{CellR, unset, set, AnswerR, gots, nots, fulls, ShapeR, atom_r, encrypted_r, signed_r, hashed_r, tupled_r, each_length, each_at, same_kind, same_number, answer_map}
use Rattle.theory.proofs.Refinement.{OpR, byte_r, create_r, op_r, key_of_r, encrypt_r, decrypt_r, sign_r, hash_r, tuple_r, TestR, is_r, same_r, verify_r, Makes, Shows, Reading, Kept, Made, Refines}

-- a shape that may be made, where names are so: a byte, a name that is taken, or a term with the right key and few parts
module _ {M : Type 0} (kind : M → ℕ) (Named : ℕ → Type 0) where
  abbrev pub Makeable : Shape M → Type 0
  Makeable (atom tag number) = ((tag ≡ 1) × (number < 256)) ⊎ ((1 < tag) × (tag ≤ 6) × Named number)
  Makeable (encrypted key body) = Encrypts (kind key)
  Makeable (signed key body) = Signs (kind key)
  Makeable (hashed body) = Unit {0}
  Makeable (tupled parts) = length parts ≤ 4

module _ (S T : Model) (F : Reading (world S) (world T)) where
  -- a new name, taken on both sides
  pub record Fresh (Named : T.Mem → ℕ → Type 0) (x : S.Mem) (r : ℕ × S.Mem) (q : ℕ × T.Mem) : Type 0 where
    pub same : r.0 ≡ q.0
    pub good : F.Good r.1 q.1
    pub kept : Kept F x r.1
    pub taken : Named q.1 q.0

  -- what has to be shown of two models
  pub record ModelRefines : Type 1 where
    -- a number is a name that is taken
    pub Named : T.Mem → ℕ → Type 0
    pub kinds : (t : T.Msg) (c : T.Mem) → kind_of (T.look t c) ≡ F.kind t
    pub looks : {x : S.Mem} {c : T.Mem} {a : S.Msg} {t : T.Msg} → F.Good x c → F.Means x a t → ShapeR (F.Means x) (S.look a x) (T.look t c)
    pub makes : {x : S.Mem} {c : T.Mem} {s : Shape S.Msg} {u : Shape T.Msg} → F.Good x c → ShapeR (F.Means x) s u
        → Makeable F.kind (Named c) u → AnswerR (Made F x (λ k. k ≡ kind_of u)) (S.make s x) (T.make u c)
    pub freshes : {x : S.Mem} {c : T.Mem} → F.Good x c → AnswerR (Fresh Named x) (S.fresh x) (T.fresh c)
    -- the number of a private key is one
    pub named : {x : S.Mem} {c : T.Mem} {a : S.Msg} {t : T.Msg} → F.Good x c → F.Means x a t
        → kind_of (T.look t c) ≡ 5 → Named c (number_of (T.look t c))
    pub certificates : {x : S.Mem} {c : T.Mem} {a : S.Msg} {t : T.Msg} → F.Good x c → F.Means x a t
        → CellR (F.Means x) (S.certificate a x) (T.certificate t c)
    pub equals : {x : S.Mem} {c : T.Mem} {a b : S.Msg} {t u : T.Msg} → F.Good x c → F.Means x a t → F.Means x b u
        → S.equal a b x ≡ T.equal t u c

-- a test that both sides make alike
module _ {A B : Type 0} {R : A → B → Type 0} where
  sure_then : (why : ℕ) (test : Bool) {x : Answer A} {y : Answer B} → (Holds test → AnswerR R x y)
      → AnswerR R (and_then (sure why test) λ _. x) (and_then (sure why test) λ _. y)
  sure_then why true r = r tt
  sure_then why false r = nots

sure_same : {R : Type 0} (why : ℕ) (test : Bool) → (Holds test → R) → AnswerR (λ (_ _ : Unit {0}). R) (sure why test) (sure why test)
sure_same why true r = gots (r tt)
sure_same why false r = nots

name_tag : (kind : ℕ) → Holds (creatable kind) → (1 < kind) × (kind ≤ 6)
unfolding creatable
name_tag kind = one_all (λ k. (1 < k) × (k ≤ 6)) (2 ∷ 5 ∷ 6 ∷ []) kind (omega arith)

module _ (S T : Model) (F : Reading (world S) (world T)) (L : ModelRefines S T F) where
  taken_related : {x : S.Mem} (a : S.Msg) (t : T.Msg) (n : ℕ) {s : Shape S.Msg} {u : Shape T.Msg} → ShapeR (F.Means x) s u
      → AnswerR (λ g h. (i : ℕ) → i < n → F.Means x (g i) (h i)) (taken S a n s) (taken T t n u)
  taken_related a t n (tupled_r {ms = ms} r) =
      rw (← (each_length r)) (sure_then (reason_number PartCount) (eqb (length ms) n) λ e. gots λ i l. each_at a t r i (omega (arith, eqb→eq (length ms) n e)))
  taken_related a t n atom_r = nots
  taken_related a t n (encrypted_r p q) = nots
  taken_related a t n (signed_r p q) = nots
  taken_related a t n (hashed_r p) = nots

  module _ {x : S.Mem} {c : T.Mem} (good : F.Good x c) where
    -- nothing is made: a message that was there
    found : {a : S.Msg} {t : T.Msg} → F.Means x a t → Made F x (λ _. Unit {0}) (a, x) (t, c)
    found m = record { means = m; good = good; kept = λ a t n. n; kind = tt }

    goes_with_same : {k l : S.Msg} {t u : T.Msg} → F.Means x k t → F.Means x l u → goes_with S k l x ≡ goes_with T t u c
    goes_with_same m n =
        let p = L.looks good m in
        let q = L.looks good n in
        rw (same_kind p, same_number p, same_kind q, same_number q)

    opened_related : {k : S.Msg} {t : T.Msg} {s : Shape S.Msg} {u : Shape T.Msg} → F.Means x k t → ShapeR (F.Means x) s u
        → AnswerR (Made F x (λ _. Unit {0})) (opened S k s x) (opened T t u c)
    opened_related {t = t} m (encrypted_r {l = l} p q) =
        rw (goes_with_same m p) (sure_then (reason_number NotOpened) (goes_with T t l c) λ _. gots (found q))
    opened_related m atom_r = nots
    opened_related m (signed_r p q) = nots
    opened_related m (hashed_r p) = nots
    opened_related m (tupled_r ps) = nots

    certified_related : {cell : Option S.Msg} {other : Option T.Msg} → CellR (F.Means x) cell other
        → AnswerR (Made F x (λ _. Unit {0})) (certified S cell x) (certified T other c)
    certified_related unset = nots
    certified_related (set m) = gots (found m)

    verified_related : {k b : S.Msg} {t v : T.Msg} {s : Shape S.Msg} {u : Shape T.Msg} → F.Means x k t → F.Means x b v → ShapeR (F.Means x) s u
        → AnswerR (λ (_ _ : Unit {0}). Unit {0}) (verified S k b s x) (verified T t v u c)
    verified_related {t = t} {v = v} m n (signed_r {l = l} {n = d} p q) =
        rw (goes_with_same p m, L.equals good n q) (sure_same (reason_number NotVerified) (goes_with T l t c && T.equal v d c) λ h. tt)
    verified_related m n atom_r = nots
    verified_related m n (encrypted_r p q) = nots
    verified_related m n (hashed_r p) = nots
    verified_related m n (tupled_r ps) = nots

    -- a fresh name, and the atom of it
    created_related : (kind : ℕ) → Holds (creatable kind) → {answer : Answer (ℕ × S.Mem)} {other : Answer (ℕ × T.Mem)}
        → AnswerR (Fresh S T F L.Named x) answer other
        → AnswerR (Made F x (λ k. k ≡ kind)) (and_then answer λ r. S.make (atom kind r.0) r.1) (and_then other λ r. T.make (atom kind r.0) r.1)
    created_related kind creates (gots {a = r} h) =
        let tag = name_tag kind creates in
        answer_map {R = Made F r.1 (λ k. k ≡ kind)}
        (λ u w m. record { means = m.means; good = m.good; kept = λ a t n. m.kept a t (h.kept a t n); kind = m.kind })
        (rw h.same (L.makes h.good atom_r (inr (tag.0, tag.1, h.taken))))
    created_related kind creates nots = nots
    created_related kind creates fulls = fulls

    applied : {o : Op S.Msg} {o' : Op T.Msg} → OpR (F.Means x) F.kind o o' → AnswerR (Made F x (Makes o')) (apply_in S o x) (apply_in T o' c)
    applied (byte_r below) = L.makes good atom_r (inl (refl, below))
    applied (create_r {n = kind} creates) = created_related kind creates (L.freshes good)
    applied (op_r {b = b} m) =
        let p = L.looks good m in
        let kind = kind_of (T.look b c) in
        rw (same_kind p, same_number p)
        (sure_then (reason_number OtherKind) (eqb kind 5) λ e. L.makes good atom_r (inr (omega arith, omega arith, L.named good m (eqb→eq kind 5 e))))
    applied (key_of_r m) = certified_related (L.certificates good m)
    applied (encrypt_r key m n) = L.makes good (encrypted_r m n) key
    applied (decrypt_r m n) = opened_related m (L.looks good n)
    applied (sign_r key m n) = L.makes good (signed_r m n) key
    applied (hash_r m) = L.makes good (hashed_r m) tt
    applied (tuple_r few ms) = L.makes good (tupled_r ms) few

    tested : {q : Test S.Msg} {q' : Test T.Msg} → TestR (F.Means x) q q' → AnswerR (λ _ _. Shows F.kind q') (test_in S q x) (test_in T q' c)
    tested (is_r {n = n} {b = b} m) =
        let kind = kind_of (T.look b c) in
        rw (same_kind (L.looks good m)) (sure_same (reason_number OtherKind) (eqb n kind) λ e. sym (eqb→eq n kind e ∙ L.kinds b c))
    tested (same_r {b = b} {d = d} m n) = rw (L.equals good m n) (sure_same (reason_number Differs) (T.equal b d c) λ h. tt)
    tested (verify_r m n o) = verified_related m n (L.looks good o)

  pub worlds_refine : Refines F
  worlds_refine = record {
    applies = λ good m. applied good m;
    tests = λ good m. tested good m;
    takes = λ {a = a} {t = t} n good m. taken_related a t n (L.looks good m);
  }
