-- The order of 6 and 7: what each form looks at, a line a form, in order.
use Rattle.std.specs.Prelude.{ℕ, Bool, true, false, cond, List, [], ◌∷◌, ◌++◌}
use Rattle.answers.specs.declared.Compiled.{Compiled}
use Rattle.answers.specs.declared.Compiled.TheVariants.{WrongKind, WrittenWhileSet, ReadWhileUnset}
use Rattle.patterns.specs.Pattern.{Key, plain_key, op_key, certified_key, Pattern, object, raw, constant, opposite, key_of, encryption, signature, hash, tuple, let_in, Parts, end, part}
use Rattle.theory.specs.Store.{put}
use Rattle.theory.specs.World.{creatable}
use Rattle.theory.specs.Emission.{Env, Emitted, ok, refuse}

-- which object and raw variables are set
pub record Known : Type 0 where
  pub objects : ℕ → Bool
  pub raws : ℕ → Bool

-- a look, with the row at fault
pub data Look : Type 0 where
  -- 6x: x must be unset, and is set from then on
  writes : ℕ → ℕ → Look
  writes_raw : ℕ → ℕ → Look
  -- 6r on the entry of a matched let, which does not set r
  unset_on_entry : ℕ → ℕ → Look
  -- 7x: x must be set
  reads : ℕ → ℕ → Look
  reads_raw : ℕ → ℕ → Look
  -- 7v, unless it is set or creatable, and then it is set
  reads_or_creates : ℕ → ℕ → Look
  -- none: x is set from then on
  sets : ℕ → Look
  sets_raw : ℕ → Look
  -- 5 came before
  wrong_kind : ℕ → Look

-- what is set after the looks, or the answer of the first that fails
pub data Verdict : Type 0 where
  passed : Known → Verdict
  stopped : Compiled → Verdict

abbrev pub onward : Verdict → (Known → Verdict) → Verdict
onward (passed k) rest = rest k
onward (stopped answer) rest = stopped answer

abbrev pub with_object : Known → ℕ → Known
with_object k v = record { objects = put k.objects v true; raws = k.raws }

abbrev pub with_raw : Known → ℕ → Known
with_raw k r = record { objects = k.objects; raws = put k.raws r true }

module _ (kind : ℕ → ℕ) where
  abbrev pub looked : Look → Known → Verdict
  looked (writes row v) k = cond (k.objects v) (stopped (WrittenWhileSet row)) (passed (with_object k v))
  looked (writes_raw row r) k = cond (k.raws r) (stopped (WrittenWhileSet row)) (passed (with_raw k r))
  looked (unset_on_entry row r) k = cond (k.raws r) (stopped (WrittenWhileSet row)) (passed k)
  looked (reads row v) k = cond (k.objects v) (passed k) (stopped (ReadWhileUnset row))
  looked (reads_raw row r) k = cond (k.raws r) (passed k) (stopped (ReadWhileUnset row))
  looked (reads_or_creates row v) k = cond (k.objects v) (passed k) (cond (creatable (kind v)) (passed (with_object k v)) (stopped (ReadWhileUnset row)))
  looked (sets v) k = passed (cond (k.objects v) k (with_object k v))
  looked (sets_raw r) k = passed (cond (k.raws r) k (with_raw k r))
  looked (wrong_kind row) k = stopped (WrongKind row)

  -- one look after another
  unfoldable pub judged : List Look → Known → Verdict
  judged [] k = passed k
  judged (l ∷ rest) k = onward (looked l k) (judged rest)

-- matching
abbrev mutual
  pub matching_looks : Pattern → List Look
  matching_looks (object row v) = sets v ∷ []
  matching_looks (raw row r) = sets_raw r ∷ []
  matching_looks (constant row c b) = writes row c ∷ []
  matching_looks (opposite row k K) = reads row K ∷ writes row k ∷ []
  matching_looks (key_of row k a) = writes row k ∷ reads row a ∷ []
  matching_looks (encryption row e (plain_key x) p) = writes row e ∷ reads row x ∷ matching_looks p
  matching_looks (encryption row e (op_key k K) p) = wrong_kind row ∷ []
  matching_looks (encryption row e (certified_key k a) p) = wrong_kind row ∷ []
  matching_looks (signature row s (plain_key x) r) = writes row s ∷ reads row x ∷ reads_raw row r ∷ []
  matching_looks (signature row s (op_key k K) r) = writes row s ∷ reads row K ∷ writes row k ∷ reads_raw row r ∷ []
  matching_looks (signature row s (certified_key k a) r) = writes row s ∷ reads row a ∷ writes row k ∷ reads_raw row r ∷ []
  matching_looks (hash row h r) = writes row h ∷ reads_raw row r ∷ []
  matching_looks (tuple row t ps) = writes row t ∷ matching_parts_looks ps
  matching_looks (let_in row r p₁ p₂) = unset_on_entry row r ∷ matching_looks p₂ ++ (reads_raw row r ∷ matching_looks p₁)

  pub matching_parts_looks : Parts → List Look
  matching_parts_looks end = []
  matching_parts_looks (part p ps) = matching_looks p ++ matching_parts_looks ps

-- creating; of a key that is created or found, and of one that is read
abbrev pub creating_key_looks : ℕ → Key → List Look
creating_key_looks row (plain_key x) = reads_or_creates row x ∷ []
creating_key_looks row (op_key k K) = reads_or_creates row K ∷ writes row k ∷ []
creating_key_looks row (certified_key k a) = reads row a ∷ writes row k ∷ []

abbrev mutual
  pub creating_looks : Pattern → List Look
  creating_looks (object row v) = reads_or_creates row v ∷ []
  creating_looks (raw row r) = reads_raw row r ∷ []
  creating_looks (constant row c b) = writes row c ∷ []
  creating_looks (opposite row k K) = creating_key_looks row (op_key k K)
  creating_looks (key_of row k a) = creating_key_looks row (certified_key k a)
  creating_looks (encryption row e key p) = creating_key_looks row key ++ (creating_looks p ++ (writes row e ∷ []))
  creating_looks (signature row s key r) = creating_key_looks row key ++ (reads_raw row r ∷ writes row s ∷ [])
  creating_looks (hash row h r) = reads_raw row r ∷ writes row h ∷ []
  creating_looks (tuple row t ps) = creating_parts_looks ps ++ (writes row t ∷ [])
  creating_looks (let_in row r p₁ p₂) = creating_looks p₁ ++ (writes_raw row r ∷ creating_looks p₂)

  pub creating_parts_looks : Parts → List Look
  creating_parts_looks end = []
  creating_parts_looks (part p ps) = creating_looks p ++ creating_parts_looks ps

abbrev pub looks_of : Bool → Pattern → List Look
looks_of true p = creating_looks p
looks_of false p = matching_looks p

-- what emission knows, and how it ends
abbrev pub known_in : Env → Known
known_in e = record { objects = e.objects; raws = e.raws }

abbrev pub verdict_of : Emitted → Verdict
verdict_of (ok lines e) = passed (known_in e)
verdict_of (refuse answer) = stopped answer
