-- One lemma for each instruction: what is emitted, what it does, and what the rule does at that point.
use Prim.Native.Nat.{ℕ, ◌+◌, ◌≤◌, ◌<◌}
use mathlib.Core.Path.{◌≡◌, refl, ◌∙◌, ap}
use Rattle.std.specs.Prelude.{Option, None, Some}
use mathlib.Core.List.{List, [], ◌∷◌}
use Rattle.answers.specs.Numbers.{reason_number}
use Rattle.answers.specs.declared.Reason.TheVariants.{Unset}
use Rattle.code.specs.declared.Instruction.{Instruction}
use Rattle.theory.specs.Outcome.{Outcome, done, stuck, bind, at, need, free, is_some}
use Rattle.theory.specs.World.{World, Op, Test}
use Rattle.theory.specs.World as Voc
use Rattle.numbers.specs.Limits.{named_cells}
use Rattle.theory.specs.Machine.{line_at, named, scratch, State, step, set_object, set_raw, set_memory, with_accumulator, with_stores, with_scratch, messages, make_object, make_accumulator}
use Rattle.theory.specs.Emission.{Env, Emitted, ok, refuse, behind, and_then, add_object, emit}
use Rattle.theory.specs.Compilers.{LOAD, STORE, STORE_CONST, DECODE, ENCODE, CREATE, ANALYZE_TUPLE, CREATE_TUPLE, OPPOSITE, KEY_OF, MATCH, ENCRYPT, DECRYPT, SIGN, VERIFY, HASH}
use Rattle.theory.proofs.CellLaws.{message_named, message_scratch, set_message_named, set_message_scratch, with_scratches, set_messages_scratch, readable_named, readable_scratch, occupied_named, occupied_scratch, with_raw, add_raw_named, add_raw_scratch}
use Rattle.theory.proofs.Ends.{ends_at}
use Rattle.theory.proofs.Reasons.{ReadWithin, WorldWithin}
use Rattle.theory.proofs.Simulation.{both_stuck, is_stuck, Frame, fits_object, fits_raw, fits_scratch, fits_scratches, RunsAlike, Simulates, reads_it, reads_known, writes_it, writes_known, shares, silent}
use Rattle.theory.proofs.Goes.{Goes, goes}

module _ {W : World} where
  -- a made message becomes the value of a variable, or comes into the accumulator
  abbrev pub with_object : State W → ℕ → W.Msg × W.Mem → State W
  with_object s v made = with_stores W s (set_object W (set_memory W s.stores made.1) v made.0)

  abbrev pub with_made : State W → W.Msg × W.Mem → State W
  with_made s made = with_accumulator W (with_stores W s (set_memory W s.stores made.1)) made.0

module _ {Allowed : ℕ → Type 0} {W : World} {calm : WorldWithin Allowed W} {kind : ℕ → ℕ} {Φ : Frame W}
    {B : Type 0} {agree : State W → B → Type 0} where
  -- an instruction that reads the accumulator where the rule reads the message
  reads_accumulator : (row : ℕ) (i : Instruction) (code : Emitted) {s : State W} (g : W.Msg → Outcome B)
      → ReadWithin Allowed s.accumulator
      → (s.accumulator ≡ None → step W kind row i s ≡ stuck row (reason_number Unset))
      → ((m : W.Msg) → s.accumulator ≡ Some m → Simulates calm kind Φ agree s (behind (line_at row i ∷ []) code) (g m))
      → Simulates calm kind Φ agree s (behind (line_at row i ∷ []) code) (bind (need row s.accumulator) g)
  unfolding RunsAlike behind
  reads_accumulator row i code {s} g ready unset h = go s.accumulator refl ready code h
    where
      go : (a : Option W.Msg) → s.accumulator ≡ a → ReadWithin Allowed a → (code : Emitted)
          → ((m : W.Msg) → s.accumulator ≡ Some m → Simulates calm kind Φ agree s (behind (line_at row i ∷ []) code) (g m))
          → Simulates calm kind Φ agree s (behind (line_at row i ∷ []) code) (bind (need row a) g)
      go (Some m) p ready code h = h m p
      go None p ready (ok c e) h = record { run = rw (unset p) (both_stuck ready) }
      go None p ready (refuse answer) h = record { run = is_stuck }

  -- an instruction that makes a message for a variable, or for the accumulator
  makes_object : (row v : ℕ) (i : Instruction) {code : Emitted} {s : State W} (o : Op W.Msg) {g : W.Msg × W.Mem → Outcome B}
      → step W kind row i s ≡ make_object W kind row s v o
      → ((made : W.Msg × W.Mem) → Simulates calm kind Φ agree (with_object s v made) code (g made))
      → Simulates calm kind Φ agree s (behind (line_at row i ∷ []) code) (bind (at row (W.apply o s.stores.memory)) g)
  makes_object row v i {code} o p h = shares row i code _ _ (ends_at row tt (calm.apply o _)) p h

  makes_accumulator : (row : ℕ) (i : Instruction) {code : Emitted} {s : State W} (o : Op W.Msg) {g : W.Msg × W.Mem → Outcome B}
      → step W kind row i s ≡ make_accumulator W kind row s o
      → ((made : W.Msg × W.Mem) → Simulates calm kind Φ agree (with_made s made) code (g made))
      → Simulates calm kind Φ agree s (behind (line_at row i ∷ []) code) (bind (at row (W.apply o s.stores.memory)) g)
  makes_accumulator row i {code} o p h = shares row i code _ _ (ends_at row tt (calm.apply o _)) p h

  -- an instruction that puts a message to a test
  tests : (row : ℕ) (i : Instruction) {code : Emitted} {s t : State W} (c : Test W.Msg) {y : Outcome B}
      → step W kind row i s ≡ bind (at row (W.test c s.stores.memory)) (λ _. done t)
      → Simulates calm kind Φ agree t code y
      → Simulates calm kind Φ agree s (behind (line_at row i ∷ []) code) (bind (at row (W.test c s.stores.memory)) λ _. y)
  tests row i {code} {t = t} c p h = shares row i code (λ _. t) _ (ends_at row tt (calm.test c _)) p λ _. h

  -- the message becomes the value of a variable: the rule reads it, or it is known
  pub decode : (row v : ℕ) (rest : Env → Emitted) {e : Env} {s : State W} {g : W.Msg → Outcome B} → ReadWithin Allowed s.accumulator
      → ((m : W.Msg) → s.accumulator ≡ Some m
      → Goes calm kind Φ agree (add_object e v) (with_stores W s (set_object W s.stores v m)) (rest (add_object e v)) (g m))
      → Goes calm kind Φ agree e s (and_then (emit row (DECODE v) e) rest)
      (bind (free row (s.stores.σ v)) λ _. bind (need row s.accumulator) λ m.
      bind (at row (W.test (Voc.is (kind v) m) s.stores.memory)) λ _. g m)
  unfolding and_then emit
  decode row v rest {s = s} ready h = goes λ F.
      writes_it row (s.stores.σ v) _ rest _ (F.objects v) λ unset.
      reads_accumulator row (DECODE v) _ _ ready (λ p. rw p) λ m p.
      tests row (DECODE v) (Voc.is (kind v) m) (rw p) ((h m p).go (fits_object F v m unset))

  pub decode_known : (row v : ℕ) (m : W.Msg) (rest : Env → Emitted) {e : Env} {s : State W} {y : Outcome B} → s.accumulator ≡ Some m
      → Goes calm kind Φ agree (add_object e v) (with_stores W s (set_object W s.stores v m)) (rest (add_object e v)) y
      → Goes calm kind Φ agree e s (and_then (emit row (DECODE v) e) rest)
      (bind (free row (s.stores.σ v)) λ _. bind (at row (W.test (Voc.is (kind v) m) s.stores.memory)) λ _. y)
  unfolding and_then emit
  decode_known row v m rest {s = s} p h = goes λ F.
      writes_it row (s.stores.σ v) _ rest _ (F.objects v) λ unset.
      tests row (DECODE v) (Voc.is (kind v) m) (rw p) (h.go (fits_object F v m unset))

  -- the message goes to scratch: the rule reads it, or it is known
  pub store_scratch : (row i : ℕ) (rest : Env → Emitted) {e : Env} {s : State W} {g : W.Msg → Outcome B}
      → Φ.low ≤ i → ReadWithin Allowed s.accumulator
      → ((m : W.Msg) → Goes calm kind Φ agree e (with_scratch W s i m) (rest e) (g m))
      → Goes calm kind Φ agree e s (and_then (emit row (STORE (scratch i)) e) rest) (bind (need row s.accumulator) g)
  unfolding and_then emit
  store_scratch row i rest {e} {s} above ready h = goes λ F.
      writes_known row _ rest (occupied_scratch e i)
      (reads_accumulator row (STORE (scratch i)) _ _ ready (λ p. rw p) λ m p.
      silent (with_scratch W s i m) row (STORE (scratch i)) _ (rw (p, set_message_scratch))
      (rw (add_raw_scratch e i) ((h m).go (fits_scratch F i m above))))

  pub store_scratch_known : (row i : ℕ) (m : W.Msg) (rest : Env → Emitted) {e : Env} {s : State W} {y : Outcome B}
      → Φ.low ≤ i → s.accumulator ≡ Some m
      → Goes calm kind Φ agree e (with_scratch W s i m) (rest e) y
      → Goes calm kind Φ agree e s (and_then (emit row (STORE (scratch i)) e) rest) y
  unfolding and_then emit
  store_scratch_known row i m rest {e} {s} above p h = goes λ F.
      writes_known row _ rest (occupied_scratch e i)
      (silent (with_scratch W s i m) row (STORE (scratch i)) _ (rw (p, set_message_scratch))
      (rw (add_raw_scratch e i) (h.go (fits_scratch F i m above))))

  -- the message becomes the value of a raw variable
  pub store_named : (row r : ℕ) (rest : Env → Emitted) {e : Env} {s : State W} {g : W.Msg → Outcome B}
      → r < named_cells → ReadWithin Allowed s.accumulator
      → ((m : W.Msg) → s.accumulator ≡ Some m
      → Goes calm kind Φ agree (with_raw e r) (with_stores W s (set_raw W s.stores r m)) (rest (with_raw e r)) (g m))
      → Goes calm kind Φ agree e s (and_then (emit row (STORE (named r)) e) rest)
      (bind (free row (s.stores.ρ r)) λ _. bind (need row s.accumulator) g)
  unfolding and_then emit
  store_named row r rest {e} {s} below ready h = goes λ F.
      writes_it row (s.stores.ρ r) _ rest _ (occupied_named e r below ∙ F.raws r) λ unset.
      reads_accumulator row (STORE (named r)) _ _ ready (λ p. rw p) λ m p.
      silent (with_stores W s (set_raw W s.stores r m)) row (STORE (named r)) _ (rw (p, set_message_named))
      (rw (add_raw_named e r below) ((h m p).go (fits_raw F r m unset)))

  pub store_named_known : (row r : ℕ) (m : W.Msg) (rest : Env → Emitted) {e : Env} {s : State W} {y : Outcome B}
      → r < named_cells → s.accumulator ≡ Some m
      → Goes calm kind Φ agree (with_raw e r) (with_stores W s (set_raw W s.stores r m)) (rest (with_raw e r)) y
      → Goes calm kind Φ agree e s (and_then (emit row (STORE (named r)) e) rest) (bind (free row (s.stores.ρ r)) λ _. y)
  unfolding and_then emit
  store_named_known row r m rest {e} {s} below p h = goes λ F.
      writes_it row (s.stores.ρ r) _ rest _ (occupied_named e r below ∙ F.raws r) λ unset.
      silent (with_stores W s (set_raw W s.stores r m)) row (STORE (named r)) _ (rw (p, set_message_named))
      (rw (add_raw_named e r below) (h.go (fits_raw F r m unset)))

  -- a message comes from a cell
  pub load_scratch : (row i : ℕ) (m : W.Msg) (rest : Env → Emitted) {e : Env} {s : State W} {y : Outcome B} → s.scratches i ≡ Some m
      → Goes calm kind Φ agree e (with_accumulator W s m) (rest e) y
      → Goes calm kind Φ agree e s (and_then (emit row (LOAD (scratch i)) e) rest) y
  unfolding and_then emit
  load_scratch row i m rest {e} {s} p h = goes λ F.
      reads_known row _ rest (readable_scratch e i)
      (silent (with_accumulator W s m) row (LOAD (scratch i)) _ (rw (message_scratch, p)) (h.go F))

  pub load_named : (row r : ℕ) (rest : Env → Emitted) {e : Env} {s : State W} {g : W.Msg → Outcome B} → r < named_cells
      → ((m : W.Msg) → Goes calm kind Φ agree e (with_accumulator W s m) (rest e) (g m))
      → Goes calm kind Φ agree e s (and_then (emit row (LOAD (named r)) e) rest) (bind (need row (s.stores.ρ r)) g)
  unfolding and_then emit
  load_named row r rest {e} {s} below h = goes λ F.
      reads_it row (s.stores.ρ r) _ rest _ (readable_named e r below ∙ F.raws r) λ m p.
      silent (with_accumulator W s m) row (LOAD (named r)) _ (rw (message_named, p)) ((h m).go F)

  -- the value of a variable: the rule reads it, or it is known
  pub encode : (row v : ℕ) (rest : Env → Emitted) {e : Env} {s : State W} {g : W.Msg → Outcome B}
      → ((m : W.Msg) → Goes calm kind Φ agree e (with_accumulator W s m) (rest e) (g m))
      → Goes calm kind Φ agree e s (and_then (emit row (ENCODE v) e) rest) (bind (need row (s.stores.σ v)) g)
  unfolding and_then emit
  encode row v rest {s = s} h = goes λ F.
      reads_it row (s.stores.σ v) _ rest _ (F.objects v) λ m p.
      silent (with_accumulator W s m) row (ENCODE v) _ (rw p) ((h m).go F)

  pub encode_known : (row v : ℕ) (m : W.Msg) (rest : Env → Emitted) {e : Env} {s : State W} {y : Outcome B} → s.stores.σ v ≡ Some m
      → Goes calm kind Φ agree e (with_accumulator W s m) (rest e) y
      → Goes calm kind Φ agree e s (and_then (emit row (ENCODE v) e) rest) y
  unfolding and_then emit
  encode_known row v m rest {s = s} p h = goes λ F.
      reads_known row _ rest (F.objects v ∙ ap is_some p) (silent (with_accumulator W s m) row (ENCODE v) _ (rw p) (h.go F))

  pub store_const : (row c b : ℕ) (rest : Env → Emitted) {e : Env} {s : State W} {g : W.Msg × W.Mem → Outcome B}
      → ((made : W.Msg × W.Mem) → Goes calm kind Φ agree (add_object e c) (with_object s c made) (rest (add_object e c)) (g made))
      → Goes calm kind Φ agree e s (and_then (emit row (STORE_CONST c b) e) rest)
      (bind (free row (s.stores.σ c)) λ _. bind (at row (W.apply (Voc.byte b) s.stores.memory)) g)
  unfolding and_then emit
  store_const row c b rest {s = s} h = goes λ F.
      writes_it row (s.stores.σ c) _ rest _ (F.objects c) λ unset.
      makes_object row c (STORE_CONST c b) (Voc.byte b) refl λ made. (h made).go (fits_object F c made.0 unset)

  pub create : (row v : ℕ) (rest : Env → Emitted) {e : Env} {s : State W} {g : W.Msg × W.Mem → Outcome B} → s.stores.σ v ≡ None
      → ((made : W.Msg × W.Mem) → Goes calm kind Φ agree (add_object e v) (with_object s v made) (rest (add_object e v)) (g made))
      → Goes calm kind Φ agree e s (and_then (emit row (CREATE v) e) rest) (bind (at row (W.apply (Voc.create (kind v)) s.stores.memory)) g)
  unfolding and_then emit
  create row v rest unset h = goes λ F.
      writes_known row _ rest (F.objects v ∙ ap is_some unset)
      (makes_object row v (CREATE v) (Voc.create (kind v)) refl λ made. (h made).go (fits_object F v made.0 unset))

  pub create_tuple : (row t b n : ℕ) (ms : List W.Msg) (rest : Env → Emitted) {e : Env} {s : State W} {g : W.Msg × W.Mem → Outcome B}
      → messages W row s (named_cells + b) n ≡ done ms
      → ((made : W.Msg × W.Mem) → Goes calm kind Φ agree (add_object e t) (with_object s t made) (rest (add_object e t)) (g made))
      → Goes calm kind Φ agree e s (and_then (emit row (CREATE_TUPLE t (scratch b) n) e) rest)
      (bind (free row (s.stores.σ t)) λ _. bind (at row (W.apply (Voc.tuple ms) s.stores.memory)) g)
  unfolding and_then emit
  create_tuple row t b n ms rest {s = s} p h = goes λ F.
      writes_it row (s.stores.σ t) _ rest _ (F.objects t) λ unset.
      makes_object row t (CREATE_TUPLE t (scratch b) n) (Voc.tuple ms) (rw p) λ made. (h made).go (fits_object F t made.0 unset)

  -- the opposite of a key: the rule reads the key, or it is known
  pub opposite : (row K k : ℕ) (rest : Env → Emitted) {e : Env} {s : State W} {g : W.Msg × W.Mem → Outcome B}
      → ((made : W.Msg × W.Mem) → Goes calm kind Φ agree (add_object e k) (with_object s k made) (rest (add_object e k)) (g made))
      → Goes calm kind Φ agree e s (and_then (emit row (OPPOSITE K k) e) rest)
      (bind (need row (s.stores.σ K)) λ a. bind (free row (s.stores.σ k)) λ _. bind (at row (W.apply (Voc.op a) s.stores.memory)) g)
  unfolding and_then emit
  opposite row K k rest {s = s} h = goes λ F.
      reads_it row (s.stores.σ K) _ rest _ (F.objects K) λ a p.
      writes_it row (s.stores.σ k) _ rest _ (F.objects k) λ unset.
      makes_object row k (OPPOSITE K k) (Voc.op a) (rw p) λ made. (h made).go (fits_object F k made.0 unset)

  pub opposite_known : (row K k : ℕ) (a : W.Msg) (rest : Env → Emitted) {e : Env} {s : State W} {g : W.Msg × W.Mem → Outcome B}
      → s.stores.σ K ≡ Some a
      → ((made : W.Msg × W.Mem) → Goes calm kind Φ agree (add_object e k) (with_object s k made) (rest (add_object e k)) (g made))
      → Goes calm kind Φ agree e s (and_then (emit row (OPPOSITE K k) e) rest)
      (bind (free row (s.stores.σ k)) λ _. bind (at row (W.apply (Voc.op a) s.stores.memory)) g)
  opposite_known row K k a rest {s = s} p h = goes λ F. rw p at ((opposite row K k rest {s = s} h).go F)

  pub key_of_lem : (row : ℕ) (a : W.Msg) (rest : Env → Emitted) {e : Env} {s : State W} {g : W.Msg × W.Mem → Outcome B}
      → s.accumulator ≡ Some a
      → ((made : W.Msg × W.Mem) → Goes calm kind Φ agree e (with_made s made) (rest e) (g made))
      → Goes calm kind Φ agree e s (and_then (emit row KEY_OF e) rest) (bind (at row (W.apply (Voc.key_of a) s.stores.memory)) g)
  unfolding and_then emit
  key_of_lem row a rest p h = goes λ F. makes_accumulator row KEY_OF (Voc.key_of a) (rw p) λ made. (h made).go F

  pub hash : (row h : ℕ) (m : W.Msg) (rest : Env → Emitted) {e : Env} {s : State W} {g : W.Msg × W.Mem → Outcome B}
      → s.accumulator ≡ Some m
      → ((made : W.Msg × W.Mem) → Goes calm kind Φ agree e (with_made s made) (rest e) (g made))
      → Goes calm kind Φ agree e s (and_then (emit row (HASH h) e) rest) (bind (at row (W.apply (Voc.hash m) s.stores.memory)) g)
  unfolding and_then emit
  hash row h m rest p next = goes λ F. makes_accumulator row (HASH h) (Voc.hash m) (rw p) λ made. (next made).go F

  pub encrypt : (row v : ℕ) (k m : W.Msg) (rest : Env → Emitted) {e : Env} {s : State W} {g : W.Msg × W.Mem → Outcome B}
      → s.stores.σ v ≡ Some k → s.accumulator ≡ Some m
      → ((made : W.Msg × W.Mem) → Goes calm kind Φ agree e (with_made s made) (rest e) (g made))
      → Goes calm kind Φ agree e s (and_then (emit row (ENCRYPT v) e) rest) (bind (at row (W.apply (Voc.encrypt k m) s.stores.memory)) g)
  unfolding and_then emit
  encrypt row v k m rest q p h = goes λ F.
      reads_known row _ rest (F.objects v ∙ ap is_some q) (makes_accumulator row (ENCRYPT v) (Voc.encrypt k m) (rw (q, p)) λ made. (h made).go F)

  pub sign : (row v : ℕ) (k m : W.Msg) (rest : Env → Emitted) {e : Env} {s : State W} {g : W.Msg × W.Mem → Outcome B}
      → s.stores.σ v ≡ Some k → s.accumulator ≡ Some m
      → ((made : W.Msg × W.Mem) → Goes calm kind Φ agree e (with_made s made) (rest e) (g made))
      → Goes calm kind Φ agree e s (and_then (emit row (SIGN v) e) rest) (bind (at row (W.apply (Voc.sign k m) s.stores.memory)) g)
  unfolding and_then emit
  sign row v k m rest q p h = goes λ F.
      reads_known row _ rest (F.objects v ∙ ap is_some q) (makes_accumulator row (SIGN v) (Voc.sign k m) (rw (q, p)) λ made. (h made).go F)

  pub decrypt : (row v : ℕ) (m : W.Msg) (rest : Env → Emitted) {e : Env} {s : State W} {g : W.Msg × W.Mem → Outcome B}
      → s.accumulator ≡ Some m
      → ((made : W.Msg × W.Mem) → Goes calm kind Φ agree e (with_made s made) (rest e) (g made))
      → Goes calm kind Φ agree e s (and_then (emit row (DECRYPT v) e) rest)
      (bind (need row (s.stores.σ v)) λ k. bind (at row (W.apply (Voc.decrypt k m) s.stores.memory)) g)
  unfolding and_then emit
  decrypt row v m rest {s = s} p h = goes λ F.
      reads_it row (s.stores.σ v) _ rest _ (F.objects v) λ k q.
      makes_accumulator row (DECRYPT v) (Voc.decrypt k m) (rw (q, p)) λ made. (h made).go F

  pub match_scratch : (row i : ℕ) (a b : W.Msg) (rest : Env → Emitted) {e : Env} {s : State W} {y : Outcome B}
      → s.accumulator ≡ Some a → s.scratches i ≡ Some b
      → Goes calm kind Φ agree e s (rest e) y
      → Goes calm kind Φ agree e s (and_then (emit row (MATCH (scratch i)) e) rest)
      (bind (at row (W.test (Voc.same a b) s.stores.memory)) λ _. y)
  unfolding and_then emit
  match_scratch row i a b rest {e} {s} p q h = goes λ F.
      reads_known row _ rest (readable_scratch e i)
      (tests row (MATCH (scratch i)) (Voc.same a b) (rw (p, message_scratch, q)) (h.go F))

  pub match_named : (row r : ℕ) (b : W.Msg) (rest : Env → Emitted) {e : Env} {s : State W} {g : W.Msg → Outcome B}
      → r < named_cells → ReadWithin Allowed s.accumulator → s.stores.ρ r ≡ Some b
      → ((m : W.Msg) → Goes calm kind Φ agree e s (rest e) (g m))
      → Goes calm kind Φ agree e s (and_then (emit row (MATCH (named r)) e) rest)
      (bind (need row s.accumulator) λ m. bind (at row (W.test (Voc.same m b) s.stores.memory)) λ _. g m)
  unfolding and_then emit
  match_named row r b rest {e} {s} below ready q h = goes λ F.
      reads_known row _ rest (readable_named e r below ∙ F.raws r ∙ ap is_some q)
      (reads_accumulator row (MATCH (named r)) _ _ ready (λ p. rw p) λ m p.
      tests row (MATCH (named r)) (Voc.same m b) (rw (p, message_named, q)) ((h m).go F))

  -- the body is read by the rule; the key is too, or it is known
  pub verify : (row v r : ℕ) (m : W.Msg) (rest : Env → Emitted) {e : Env} {s : State W} {y : Outcome B}
      → r < named_cells → s.accumulator ≡ Some m
      → Goes calm kind Φ agree e s (rest e) y
      → Goes calm kind Φ agree e s (and_then (emit row (VERIFY v (named r)) e) rest)
      (bind (need row (s.stores.σ v)) λ k. bind (need row (s.stores.ρ r)) λ b.
      bind (at row (W.test (Voc.verify k b m) s.stores.memory)) λ _. y)
  unfolding and_then emit
  verify row v r m rest {e} {s} below p h = goes λ F.
      reads_it row (s.stores.σ v) _ rest _ (F.objects v) λ k q.
      reads_it row (s.stores.ρ r) _ rest _ (readable_named e r below ∙ F.raws r) λ b u.
      tests row (VERIFY v (named r)) (Voc.verify k b m) (rw (q, message_named, u, p)) (h.go F)

  pub verify_known : (row v r : ℕ) (k m : W.Msg) (rest : Env → Emitted) {e : Env} {s : State W} {y : Outcome B}
      → r < named_cells → s.stores.σ v ≡ Some k → s.accumulator ≡ Some m
      → Goes calm kind Φ agree e s (rest e) y
      → Goes calm kind Φ agree e s (and_then (emit row (VERIFY v (named r)) e) rest)
      (bind (need row (s.stores.ρ r)) λ b. bind (at row (W.test (Voc.verify k b m) s.stores.memory)) λ _. y)
  verify_known row v r k m rest below q p h = goes λ F. rw q at ((verify row v r m rest below p h).go F)

  pub analyze_tuple : (row t b n : ℕ) (m : W.Msg) (rest : Env → Emitted) {e : Env} {s : State W} {g : (ℕ → W.Msg) → Outcome B}
      → Φ.low ≤ b → s.stores.σ t ≡ Some m
      → ((parts : ℕ → W.Msg) → Goes calm kind Φ agree e (with_scratches W s b n parts) (rest e) (g parts))
      → Goes calm kind Φ agree e s (and_then (emit row (ANALYZE_TUPLE t (scratch b) n) e) rest) (bind (at row (W.parts m n s.stores.memory)) g)
  unfolding and_then emit
  analyze_tuple row t b n m rest {s = s} above q h = goes λ F.
      reads_known row _ rest (F.objects t ∙ ap is_some q)
      (shares row (ANALYZE_TUPLE t (scratch b) n) _ _ _ (ends_at row tt (calm.parts m n _)) (rw q (simp set_messages_scratch)) λ parts.
      (h parts).go (fits_scratches F b n (λ i. Some (parts i)) above))
