-- No step of good code writes past the last scratch cell.
use Prim.Native.Nat.{ℕ, ◌+◌, ◌≤◌}
use mathlib.Core.Path.{◌≡◌, refl, ◌∙◌}
use mathlib.Core.List.{List, [], ◌∷◌}
use lib.Dec.{T, leb}
use Rattle.word.specs.All.{All}
use Rattle.word.proofs.TestLaws.{both, at_most}
use Rattle.numbers.specs.Limits.{scratch_cells, message_cells}
use Rattle.code.specs.Words.{has_kind, cells_fit, operands_fit}
use Rattle.code.specs.declared.Instruction.{Instruction}
use Rattle.code.specs.declared.Instruction.TheVariants.{Load, Store, StoreConst, Decode, Encode, Create, AnalyzeTuple, CreateTuple, Opposite, KeyOf, Match, Encrypt, Decrypt, Sign, Verify, Hash}
use Rattle.numbers.specs.declared.Object.{Object}
use Rattle.numbers.specs.declared.Raw.{Raw}
use Rattle.theory.specs.Outcome.{Outcome, done, bind, at, need}
use Rattle.theory.specs.World.{World, Op, Test}
use Rattle.theory.specs.World as Voc
use Rattle.theory.specs.Machine.{Line, State, message, messages, step, exec}
use Rattle.theory.proofs.CellLaws.{set_beyond, sets_beyond}
use Rattle.theory.proofs.Ends.{Any, Ends, ends, ends_any, ends_bind}
use Rattle.theory.proofs.Fitting.{ByteFits}

-- a state whose scratch past the last cell holds what it held
abbrev pub ScratchKept : (W : World) → State W → State W → Type 0
ScratchKept W s t = (i : ℕ) → scratch_cells ≤ i → t.scratches i ≡ s.scratches i

module _ (kind : ℕ → ℕ) where
  tuple_inside : (t : Object) (b : Raw) (n : ℕ) → T (operands_fit kind (AnalyzeTuple t b n)) → b.0 + n ≤ message_cells
  tuple_inside t b n fits =
      let cells = ((both (has_kind kind t (10 ∷ [])) (cells_fit b n)).0 fits).1 in
      (at_most (b.0 + n) 256).0 ((both (leb n 4) (leb (b.0 + n) 256)).0 cells).1

module _ {W : World} (kind : ℕ → ℕ) where
  module _ (place : ℕ) (s : State W) where
    abbrev Kept : Outcome (State W) → Type 0
    Kept o = Ends Any Any (Unit {0}) (ScratchKept W s) o

    still : {t : State W} → t.scratches ≡ s.scratches → Kept (done t)
    still {t} e = ends {a = t} λ i past. rw e

    after : {A : Type 0} (o : Outcome A) (f : A → Outcome (State W)) → ((a : A) → Kept (f a)) → Kept (bind o f)
    after o f next = ends_bind f (ends_any (λ place. tt) (λ why. tt) tt o) λ a _. next a

    -- a cell is read, a message is made, a condition is tested
    reads : (cell : _) (f : W.Msg → Outcome (State W)) → ((a : W.Msg) → Kept (f a)) → Kept (bind (need place cell) f)
    reads cell f next = after (need place cell) f next

    makes : (o : Op W.Msg) (f : W.Msg × W.Mem → State W) → ((a : W.Msg × W.Mem) → (f a).scratches ≡ s.scratches)
        → Kept (bind (at place (W.apply o s.stores.memory)) λ a. done (f a))
    makes o f same = after (at place (W.apply o s.stores.memory)) (λ a. done (f a)) λ a. still (same a)

    tests : (q : Test W.Msg) (t : State W) → t.scratches ≡ s.scratches → Kept (bind (at place (W.test q s.stores.memory)) λ _. done t)
    tests q t same = after (at place (W.test q s.stores.memory)) (λ _. done t) λ _. still same

    step_keeps : (i : Instruction) → T (operands_fit kind i) → ByteFits i → Kept (step W kind place i s)
    step_keeps (Load c) fits byte = reads (message W s c.0) _ λ b. still refl
    step_keeps (Store c) fits byte = reads s.accumulator _ λ b. ends λ i past. set_beyond W i past s c.0 b byte
    step_keeps (StoreConst c b) fits byte = makes (Voc.byte b) _ λ a. refl
    step_keeps (Decode v) fits byte = reads s.accumulator _ λ b. tests (Voc.is (kind v.0) b) _ refl
    step_keeps (Encode v) fits byte = reads (s.stores.σ v.0) _ λ b. still refl
    step_keeps (Create v) fits byte = makes (Voc.create (kind v.0)) _ λ a. refl
    step_keeps (AnalyzeTuple t b n) fits byte =
        reads (s.stores.σ t.0) _ λ body.
        after (at place (W.parts body n s.stores.memory)) _ λ g. ends λ i past. sets_beyond W i past s b.0 n g (tuple_inside kind t b n fits)
    step_keeps (CreateTuple t b n) fits byte = after (messages W place s b.0 n) _ λ bs. makes (Voc.tuple bs) _ λ a. refl
    step_keeps (Opposite K k) fits byte = reads (s.stores.σ K.0) _ λ b. makes (Voc.op b) _ λ a. refl
    step_keeps KeyOf fits byte = reads s.accumulator _ λ b. makes (Voc.key_of b) _ λ a. refl
    step_keeps (Match c) fits byte = reads s.accumulator _ λ a. reads (message W s c.0) _ λ b. tests (Voc.same a b) s refl
    step_keeps (Encrypt v) fits byte = reads (s.stores.σ v.0) _ λ k. reads s.accumulator _ λ b. makes (Voc.encrypt k b) _ λ a. refl
    step_keeps (Decrypt v) fits byte = reads (s.stores.σ v.0) _ λ k. reads s.accumulator _ λ b. makes (Voc.decrypt k b) _ λ a. refl
    step_keeps (Sign v) fits byte = reads (s.stores.σ v.0) _ λ k. reads s.accumulator _ λ b. makes (Voc.sign k b) _ λ a. refl
    step_keeps (Verify v c) fits byte =
        reads (s.stores.σ v.0) _ λ k. reads (message W s c.0) _ λ b. reads s.accumulator _ λ a. tests (Voc.verify k b a) s refl
    step_keeps (Hash h) fits byte = reads s.accumulator _ λ b. makes (Voc.hash b) _ λ a. refl

  exec_keeps : (code : List Line) → All (λ l. T (operands_fit kind l.instruction) × ByteFits l.instruction) code → (s : State W)
      → Ends Any Any (Unit {0}) (ScratchKept W s) (exec W kind code s)
  exec_keeps [] fit s = ends λ i past. refl
  exec_keeps (l ∷ code) fit s =
      ends_bind _ (step_keeps l.place s l.instruction fit.0.0 fit.0.1) λ t kept.
      ends_more (λ u more i past. more i past ∙ kept i past) (exec_keeps code fit.1 t)
    where
      ends_more : {P Q : State W → Type 0} {o : Outcome (State W)} → ((u : State W) → P u → Q u) → Ends Any Any (Unit {0}) P o → Ends Any Any (Unit {0}) Q o
      ends_more more (ends {a = u} h) = ends (more u h)
      ends_more more (Ends.sticks here why) = Ends.sticks here why
      ends_more more (Ends.overflows here full) = Ends.overflows here full

  pub scratch_kept : (code : List Line) → All (λ l. T (operands_fit kind l.instruction) × ByteFits l.instruction) code → (s t : State W)
      → exec W kind code s ≡ done t → ScratchKept W s t
  scratch_kept code fit s t e = go (rw e at (exec_keeps code fit s))
    where
      go : Ends Any Any (Unit {0}) (ScratchKept W s) (done t) → ScratchKept W s t
      go (ends kept) = kept
