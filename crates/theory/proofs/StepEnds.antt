-- The one induction on a step: how it ends follows from how the world's operations answer, whatever is asked of the memory, of the reasons and of the room.
use Prim.Native.Nat.{ℕ, zero, suc, ◌≤◌}
use mathlib.Core.Path.{◌≡◌, refl, ◌∙◌}
use Rattle.std.specs.Prelude.{Option}
use mathlib.Core.List.{List, [], ◌∷◌}
use Rattle.answers.specs.Numbers.{reason_number}
use Rattle.answers.specs.declared.Reason.TheVariants.{Unset}
use Rattle.numbers.specs.Limits.{named_cells}
use Rattle.code.specs.declared.Instruction.{Instruction}
use Rattle.code.specs.declared.Instruction.TheVariants.{Load, Store, StoreConst, Decode, Encode, Create, AnalyzeTuple, CreateTuple, Opposite, KeyOf, Match, Encrypt, Decrypt, Sign, Verify, Hash}
use Rattle.theory.specs.Outcome.{Outcome, done, bind, at, need}
use Rattle.theory.specs.World.{World, Op, Test}
use Rattle.theory.specs.World as Voc
use Rattle.theory.specs.Machine.{Line, State, message, messages, step, exec}
use Rattle.theory.proofs.CellLaws.{memory_set, memory_kept, set_past, sets_past}
use Rattle.theory.proofs.Ends.{Any, Answers, Ends, ends, ends_at, ends_need, ends_bind}

-- a state whose named cells past the last hold what they held
abbrev pub KeptPast : (W : World) → State W → State W → Type 0
KeptPast W s t = (r : ℕ) → named_cells ≤ r → t.stores.ρ r ≡ s.stores.ρ r

module _ (W : World) (Q : W.Mem → Type 0) where
  -- what a step or a run leaves of a state
  pub record Leaves (s t : State W) : Type 0 where
    pub memory : Q t.stores.memory
    pub past : KeptPast W s t

module _ (Why : ℕ → Type 0) (Full : Type 0) (W : World) (Q : W.Mem → Type 0) where
  -- what has to be shown of a memory: that it is left, and what each operation on it leaves
  pub record Moves (x : W.Mem) : Type 0 where
    pub left : Q x
    pub applies : (o : Op W.Msg) → Answers Why Full (λ r. Q r.1) (W.apply o x)
    pub tests : (t : Test W.Msg) → Answers Why Full Any (W.test t x)
    pub parts : (m : W.Msg) (n : ℕ) → Answers Why Full Any (W.parts m n x)

module _ {At Why : ℕ → Type 0} {Full : Type 0} {W : World} {Q : W.Mem → Type 0} (unset : Why (reason_number Unset)) (kind : ℕ → ℕ) where
  module _ (place : ℕ) (here : At place) (s : State W) (m : Moves Why Full W Q s.stores.memory) where
    kept : (t : State W) → t.stores.memory ≡ s.stores.memory → KeptPast W s t → Ends At Why Full (Leaves W Q s) (done t)
    kept t e p = ends {a = t} (record { memory = rw e m.left; past = p })

    makes : (o : Op W.Msg) (f : W.Msg × W.Mem → State W)
        → ((a : W.Msg × W.Mem) → (f a).stores.memory ≡ a.1) → ((a : W.Msg × W.Mem) → KeptPast W s (f a))
        → Ends At Why Full (Leaves W Q s) (bind (at place (W.apply o s.stores.memory)) λ a. done (f a))
    makes o f e p = ends_bind _ (ends_at place here (m.applies o)) λ a h. ends (record { memory = rw (e a) h; past = p a })

    reads : (cell : Option W.Msg) (f : W.Msg → Outcome (State W)) → ((b : W.Msg) → Ends At Why Full (Leaves W Q s) (f b)) → Ends At Why Full (Leaves W Q s) (bind (need place cell) f)
    reads cell f next = ends_bind f (ends_need place here unset cell) λ b _. next b

    tests : (q : Test W.Msg) (t : State W) → Ends At Why Full (Leaves W Q s) (done t) → Ends At Why Full (Leaves W Q s) (bind (at place (W.test q s.stores.memory)) λ _. done t)
    tests q t h = ends_bind _ (ends_at place here (m.tests q)) λ _ _. h

    messages_end : (first n : ℕ) → Ends At Why Full Any (messages W place s first n)
    unfolding messages
    messages_end first zero = ends tt
    messages_end first (suc n) = ends_bind _ (ends_need place here unset (message W s first)) λ b _. ends_bind _ (messages_end (suc first) n) λ bs _. ends tt

    pub step_ends : (i : Instruction) → Ends At Why Full (Leaves W Q s) (step W kind place i s)
    step_ends (Load c) = reads (message W s c.0) _ λ b. kept _ refl λ r p. refl
    step_ends (Store c) = reads s.accumulator _ λ b. kept _ (memory_set W s c.0 b) λ r p. set_past W r p s c.0 b
    step_ends (StoreConst c b) = makes (Voc.byte b) _ (λ a. refl) λ a r p. refl
    step_ends (Decode v) = reads s.accumulator _ λ b. tests (Voc.is (kind v.0) b) _ (kept _ refl λ r p. refl)
    step_ends (Encode v) = reads (s.stores.σ v.0) _ λ b. kept _ refl λ r p. refl
    step_ends (Create v) = makes (Voc.create (kind v.0)) _ (λ a. refl) λ a r p. refl
    step_ends (AnalyzeTuple t b n) =
        reads (s.stores.σ t.0) _ λ body.
        ends_bind _ (ends_at place here (m.parts body n)) λ g _. kept _ (memory_kept W s b.0 n g) λ r p. sets_past W r p s b.0 n g
    step_ends (CreateTuple t b n) = ends_bind _ (messages_end b.0 n) λ bs _. makes (Voc.tuple bs) _ (λ a. refl) λ a r p. refl
    step_ends (Opposite K k) = reads (s.stores.σ K.0) _ λ b. makes (Voc.op b) _ (λ a. refl) λ a r p. refl
    step_ends KeyOf = reads s.accumulator _ λ b. makes (Voc.key_of b) _ (λ a. refl) λ a r p. refl
    step_ends (Match c) = reads s.accumulator _ λ a. reads (message W s c.0) _ λ b. tests (Voc.same a b) s (kept s refl λ r p. refl)
    step_ends (Encrypt v) = reads (s.stores.σ v.0) _ λ k. reads s.accumulator _ λ b. makes (Voc.encrypt k b) _ (λ a. refl) λ a r p. refl
    step_ends (Decrypt v) = reads (s.stores.σ v.0) _ λ k. reads s.accumulator _ λ b. makes (Voc.decrypt k b) _ (λ a. refl) λ a r p. refl
    step_ends (Sign v) = reads (s.stores.σ v.0) _ λ k. reads s.accumulator _ λ b. makes (Voc.sign k b) _ (λ a. refl) λ a r p. refl
    step_ends (Verify v c) =
        reads (s.stores.σ v.0) _ λ k. reads (message W s c.0) _ λ b. reads s.accumulator _ λ a. tests (Voc.verify k b a) s (kept s refl λ r p. refl)
    step_ends (Hash h) = reads s.accumulator _ λ b. makes (Voc.hash b) _ (λ a. refl) λ a r p. refl

  -- what every memory keeps, a run keeps
  module _ (everywhere : (place : ℕ) → At place) (moves : (x : W.Mem) → Q x → Moves Why Full W Q x) where
    exec_on : (code : List Line) (u s : State W) → Leaves W Q u s → Ends At Why Full (Leaves W Q u) (exec W kind code s)
    exec_on [] u s h = ends h
    exec_on (l ∷ code) u s h =
        ends_bind _ (step_ends l.place (everywhere l.place) s (moves s.stores.memory h.memory) l.instruction) λ t g.
        exec_on code u t (record { memory = g.memory; past = λ r p. g.past r p ∙ h.past r p })

    pub exec_ends : (code : List Line) (s : State W) → Q s.stores.memory → Ends At Why Full (Leaves W Q s) (exec W kind code s)
    exec_ends code s h = exec_on code s s (record { memory = h; past = λ r p. refl })
