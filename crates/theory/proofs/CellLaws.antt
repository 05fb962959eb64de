-- Message cells by their numbers: named below 64, scratch from there on.
use Prim.Native.Nat.{ℕ, zero, suc, ◌+◌, ◌-◌, ◌<◌, ◌≤◌}
use mathlib.Core.Path.{◌≡◌, refl, ◌∙◌, subst}
use mathlib.Core.Bool.{Bool, true, false, cond}
use Rattle.std.specs.Prelude.{Some}
use mathlib.Core.List.{List, ◌∷◌}
use native.Mathlib.Nat.{add_assoc, add-suc, add-sub_cancel_left}
use native.Mathlib.Decide.{dec_lt}
use native.Mathlib.Omega.{arith}
use borrow.Author.Tests.{lt-ltb, le-ltb}
use lib.Dec.{ltb}
use Rattle.theory.specs.Outcome.{done}
use Rattle.theory.specs.Store.{put, puts}
use Rattle.theory.specs.World.{World}
use Rattle.numbers.specs.Limits.{named_cells, scratch_cells, message_cells}
use Rattle.theory.specs.Machine.{State, set_raw, with_stores, with_scratch, message, set_message, set_messages, messages}
use Rattle.theory.specs.Emission.{Env, readable, occupied, add_raw}
use Rattle.theory.proofs.StoreLaws.{put_other}

named_cell : (r : ℕ) → r < named_cells → ltb r named_cells ≡ true
named_cell r below = lt-ltb r named_cells below

scratch_cell : (i : ℕ) → ltb (named_cells + i) named_cells ≡ false
scratch_cell i = le-ltb (named_cells + i) named_cells (omega arith)

module _ (W : World) (s : State W) where
  pub message_named : (r : ℕ) → r < named_cells → message W s r ≡ s.stores.ρ r
  unfolding message
  message_named r below = rw (named_cell r below)

  pub message_scratch : (i : ℕ) → message W s (named_cells + i) ≡ s.scratches i
  unfolding message
  message_scratch i = rw (scratch_cell i, add-sub_cancel_left named_cells i)

  pub set_message_named : (r : ℕ) (m : W.Msg) → r < named_cells → set_message W s r m ≡ with_stores W s (set_raw W s.stores r m)
  unfolding set_message
  set_message_named r m below = rw (named_cell r below)

  pub set_message_scratch : (i : ℕ) (m : W.Msg) → set_message W s (named_cells + i) m ≡ with_scratch W s i m
  unfolding set_message
  set_message_scratch i m = rw (scratch_cell i, add-sub_cancel_left named_cells i)

module _ (W : World) (s : State W) where
  -- the n scratch cells from b on
  abbrev pub with_scratches : ℕ → ℕ → (ℕ → W.Msg) → State W
  with_scratches b n g =
      record { accumulator = s.accumulator; scratches = puts s.scratches b n (λ i. Some (g i)); stores = s.stores }

  pub set_messages_scratch : (b n : ℕ) (g : ℕ → W.Msg) → set_messages W s (named_cells + b) n g ≡ with_scratches b n g
  unfolding set_messages puts
  set_messages_scratch b zero g = refl
  set_messages_scratch b (suc n) g = rw (add_assoc, set_messages_scratch b n g) (set_message_scratch W _ (b + n) (g n))

  pub messages_scratch : (place b n : ℕ) (m : W.Msg) (ms : List W.Msg) → s.scratches b ≡ Some m
      → messages W place s (named_cells + suc b) n ≡ done ms → messages W place s (named_cells + b) (suc n) ≡ done (m ∷ ms)
  unfolding messages
  messages_scratch place b n m ms p q = rw (message_scratch W s b, p, ← add-suc named_cells b, q)

-- writing messages leaves the memory
module _ (W : World) where
  pub memory_set : (s : State W) (cell : ℕ) (m : W.Msg) → (set_message W s cell m).stores.memory ≡ s.stores.memory
  unfolding set_message
  memory_set s cell m = go (ltb cell named_cells)
    where
      go : (named : Bool) → (cond named (with_stores W s (set_raw W s.stores cell m)) (with_scratch W s (cell - named_cells) m)).stores.memory ≡ s.stores.memory
      go true = refl
      go false = refl

  pub memory_kept : (s : State W) (first n : ℕ) (g : ℕ → W.Msg) → (set_messages W s first n g).stores.memory ≡ s.stores.memory
  unfolding set_messages
  memory_kept s first zero g = refl
  memory_kept s first (suc n) g = memory_set (set_messages W s first n g) (first + n) (g n) ∙ memory_kept s first n g

-- writing a message writes no named cell past the last
module _ (W : World) (r : ℕ) (past : named_cells ≤ r) where
  pub set_past : (s : State W) (cell : ℕ) (m : W.Msg) → (set_message W s cell m).stores.ρ r ≡ s.stores.ρ r
  set_past s cell m = go (dec_lt cell named_cells)
    where
      go : Dec (cell < named_cells) → (set_message W s cell m).stores.ρ r ≡ s.stores.ρ r
      go (yes named) = rw (set_message_named W s cell m named) (put_other s.stores.ρ cell r (Some m) λ e. omega arith)
      go (no other) =
          let e : named_cells + (cell - named_cells) ≡ cell = omega arith in
          subst (λ n. (set_message W s n m).stores.ρ r ≡ s.stores.ρ r) e (rw (set_message_scratch W s (cell - named_cells) m))

  pub sets_past : (s : State W) (first n : ℕ) (g : ℕ → W.Msg) → (set_messages W s first n g).stores.ρ r ≡ s.stores.ρ r
  unfolding set_messages
  sets_past s first zero g = refl
  sets_past s first (suc n) g = set_past (set_messages W s first n g) (first + n) (g n) ∙ sets_past s first n g

-- and writing one of the 256 cells writes no scratch past the last
module _ (W : World) (i : ℕ) (past : scratch_cells ≤ i) where
  pub set_beyond : (s : State W) (cell : ℕ) (m : W.Msg) → cell < message_cells → (set_message W s cell m).scratches i ≡ s.scratches i
  set_beyond s cell m inside = go (dec_lt cell named_cells)
    where
      go : Dec (cell < named_cells) → (set_message W s cell m).scratches i ≡ s.scratches i
      go (yes named) = rw (set_message_named W s cell m named)
      go (no other) =
          let e : named_cells + (cell - named_cells) ≡ cell = omega arith in
          subst (λ n. (set_message W s n m).scratches i ≡ s.scratches i) e
          (rw (set_message_scratch W s (cell - named_cells) m) (put_other s.scratches (cell - named_cells) i (Some m) λ e. omega arith))

  pub sets_beyond : (s : State W) (first n : ℕ) (g : ℕ → W.Msg) → first + n ≤ message_cells → (set_messages W s first n g).scratches i ≡ s.scratches i
  unfolding set_messages
  sets_beyond s first zero g inside = refl
  sets_beyond s first (suc n) g inside =
      set_beyond (set_messages W s first n g) (first + n) (g n) (omega (arith, inside)) ∙ sets_beyond s first n g (omega (arith, inside))

module _ (e : Env) where
  pub readable_named : (r : ℕ) → r < named_cells → readable e r ≡ e.raws r
  unfolding readable
  readable_named r below = rw (named_cell r below)

  pub readable_scratch : (i : ℕ) → readable e (named_cells + i) ≡ true
  unfolding readable
  readable_scratch i = rw (scratch_cell i)

  pub occupied_named : (r : ℕ) → r < named_cells → occupied e r ≡ e.raws r
  unfolding occupied
  occupied_named r below = rw (named_cell r below)

  pub occupied_scratch : (i : ℕ) → occupied e (named_cells + i) ≡ false
  unfolding occupied
  occupied_scratch i = rw (scratch_cell i)

  -- the environment after a named cell is written
  abbrev pub with_raw : ℕ → Env
  with_raw r = record { objects = e.objects; raws = put e.raws r true; next = e.next }

  pub add_raw_named : (r : ℕ) → r < named_cells → add_raw e r ≡ with_raw r
  unfolding add_raw
  add_raw_named r below = rw (named_cell r below)

  pub add_raw_scratch : (i : ℕ) → add_raw e (named_cells + i) ≡ e
  unfolding add_raw
  add_raw_scratch i = rw (scratch_cell i)
