-- Figure 4: the machine over a world.
use Rattle.std.specs.Prelude.{ℕ, zero, suc, ◌+◌, ◌-◌, cond, List, [], ◌∷◌, ltb}
use Rattle.std.specs.Prelude.{Option, Some}
use Rattle.numbers.specs.Sorts.{as_raw}
use Rattle.numbers.specs.Limits.{named_cells}
use Rattle.numbers.specs.declared.Raw.{Raw}
use Rattle.code.specs.declared.Instruction.{Instruction}
use Rattle.code.specs.declared.Instruction.TheVariants.{Load, Store, StoreConst, Decode, Encode, Create, AnalyzeTuple, CreateTuple, Opposite, KeyOf, Match, Encrypt, Decrypt, Sign, Verify, Hash}
use Rattle.theory.specs.Outcome.{Outcome, done, bind, at, need}
use Rattle.theory.specs.Store.{put}
use Rattle.theory.specs.World.{World, Op, byte, create, op, key_of, encrypt, decrypt, sign, hash, tuple, is, same, verify}

abbrev pub named : ℕ → Raw
named r = as_raw r

-- scratch is counted from its first cell
abbrev pub scratch : ℕ → Raw
scratch i = as_raw (named_cells + i)

-- an instruction at a place: a word's number, or the pattern row that it was emitted for
pub record Line : Type 0 where
  pub place : ℕ
  pub instruction : Instruction

abbrev pub line_at : ℕ → Instruction → Line
line_at place instruction = record { place = place; instruction = instruction }

module _ (W : World) where
  -- what the rules speak of: the object store σ, the named message store ρ, and the memory
  pub record Stores : Type 0 where
    pub σ : ℕ → Option W.Msg
    pub ρ : ℕ → Option W.Msg
    pub memory : W.Mem

  -- what the machine has besides
  pub record State : Type 0 where
    pub accumulator : Option W.Msg
    pub scratches : ℕ → Option W.Msg
    pub stores : Stores

  abbrev pub set_object : Stores → ℕ → W.Msg → Stores
  set_object n v m = record { σ = put n.σ v (Some m); ρ = n.ρ; memory = n.memory }

  abbrev pub set_raw : Stores → ℕ → W.Msg → Stores
  set_raw n r m = record { σ = n.σ; ρ = put n.ρ r (Some m); memory = n.memory }

  abbrev pub set_memory : Stores → W.Mem → Stores
  set_memory n x = record { σ = n.σ; ρ = n.ρ; memory = x }

  abbrev pub with_accumulator : State → W.Msg → State
  with_accumulator s m = record { accumulator = Some m; scratches = s.scratches; stores = s.stores }

  abbrev pub with_stores : State → Stores → State
  with_stores s n = record { accumulator = s.accumulator; scratches = s.scratches; stores = n }

  abbrev pub with_scratch : State → ℕ → W.Msg → State
  with_scratch s i m = record { accumulator = s.accumulator; scratches = put s.scratches i (Some m); stores = s.stores }

  -- a message cell by its number
  unfoldable pub message : State → ℕ → Option W.Msg
  message s cell = cond (ltb cell named_cells) (s.stores.ρ cell) (s.scratches (cell - named_cells))

  unfoldable pub set_message : State → ℕ → W.Msg → State
  set_message s cell m = cond (ltb cell named_cells) (with_stores s (set_raw s.stores cell m)) (with_scratch s (cell - named_cells) m)

  -- the n cells from b on: written, and read where all of them are set
  unfoldable pub set_messages : State → ℕ → ℕ → (ℕ → W.Msg) → State
  set_messages s b zero g = s
  set_messages s b (suc n) g = set_message (set_messages s b n g) (b + n) (g n)

  unfoldable pub messages : ℕ → State → ℕ → ℕ → Outcome (List W.Msg)
  messages place s b zero = done []
  messages place s b (suc n) = bind (need place (message s b)) λ m. bind (messages place s (suc b) n) λ ms. done (m ∷ ms)

  module _ (kind : ℕ → ℕ) where
    -- a made message goes to the accumulator, or to an object variable
    abbrev pub make_accumulator : ℕ → State → Op W.Msg → Outcome State
    make_accumulator place s o =
        bind (at place (W.apply o s.stores.memory)) λ r. done (with_accumulator (with_stores s (set_memory s.stores r.1)) r.0)

    abbrev pub make_object : ℕ → State → ℕ → Op W.Msg → Outcome State
    make_object place s v o =
        bind (at place (W.apply o s.stores.memory)) λ r. done (with_stores s (set_object (set_memory s.stores r.1) v r.0))

    -- the instruction table: what a step reads is looked at first
    abbrev pub step : ℕ → Instruction → State → Outcome State
    step place (Load r) s = bind (need place (message s r.0)) λ m. done (with_accumulator s m)
    step place (Store r) s = bind (need place s.accumulator) λ m. done (set_message s r.0 m)
    step place (StoreConst c b) s = make_object place s c.0 (byte b)
    step place (Decode v) s =
        bind (need place s.accumulator) λ m. bind (at place (W.test (is (kind v.0) m) s.stores.memory)) λ _.
        done (with_stores s (set_object s.stores v.0 m))
    step place (Encode v) s = bind (need place (s.stores.σ v.0)) λ m. done (with_accumulator s m)
    step place (Create v) s = make_object place s v.0 (create (kind v.0))
    step place (AnalyzeTuple t b n) s =
        bind (need place (s.stores.σ t.0)) λ m. bind (at place (W.parts m n s.stores.memory)) λ g. done (set_messages s b.0 n g)
    step place (CreateTuple t b n) s = bind (messages place s b.0 n) λ ms. make_object place s t.0 (tuple ms)
    step place (Opposite K k) s = bind (need place (s.stores.σ K.0)) λ a. make_object place s k.0 (op a)
    step place KeyOf s = bind (need place s.accumulator) λ a. make_accumulator place s (key_of a)
    step place (Match r) s =
        bind (need place s.accumulator) λ a. bind (need place (message s r.0)) λ b.
        bind (at place (W.test (same a b) s.stores.memory)) λ _. done s
    step place (Encrypt v) s =
        bind (need place (s.stores.σ v.0)) λ k. bind (need place s.accumulator) λ m. make_accumulator place s (encrypt k m)
    step place (Decrypt v) s =
        bind (need place (s.stores.σ v.0)) λ k. bind (need place s.accumulator) λ m. make_accumulator place s (decrypt k m)
    step place (Sign v) s =
        bind (need place (s.stores.σ v.0)) λ k. bind (need place s.accumulator) λ m. make_accumulator place s (sign k m)
    step place (Verify v r) s =
        bind (need place (s.stores.σ v.0)) λ k. bind (need place (message s r.0)) λ b. bind (need place s.accumulator) λ m.
        bind (at place (W.test (verify k b m) s.stores.memory)) λ _. done s
    step place (Hash h) s = bind (need place s.accumulator) λ m. make_accumulator place s (hash m)

    -- one instruction after another
    abbrev pub exec : List Line → State → Outcome State
    exec [] s = done s
    exec (l ∷ ls) s = bind (step l.place l.instruction s) (exec ls)
