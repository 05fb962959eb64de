-- Compile sees only which cells are set, and of the code slice only its length.
use mathlib.Core.Path.{◌≡◌, refl, ◌∙◌, ap}
use mathlib.Core.Bool.{Bool, true, false, cond, not}
use Rattle.std.specs.Prelude.{Option, None, Some}
use mathlib.Core.List.{List, [], ◌∷◌, ◌++◌}
use Prim.Native.Nat.{ℕ, zero, suc}
use native.Mathlib.Omega.{arith}
use lib.ListN.{length, get_or, take, drop}
use lib.Dec.{eqb, leb}
use Rattle.answers.specs.declared.Compiled.{Compiled}
use Rattle.answers.specs.declared.Compiled.TheVariants.{Done, CodeTooShort}
use Rattle.stores.specs.Cells.{unset, is_set, held, store_of}
use Rattle.stores.specs.Valid.{undeclared_unset, each_variable, declared}
use Rattle.patterns.specs.Tree.{pattern_of}
use Rattle.theory.specs.Outcome.{is_some}
use Rattle.theory.specs.World.{World}
use Rattle.theory.specs.RowModel.{row_world}
use Rattle.theory.specs.Machine.{Stores}
use Rattle.theory.specs.Emission.{Emitted, ok, refuse}
use Rattle.calls.specs.Compile.{SameSet, CompileOutcome, code_words, entry, tables, leaves, written, finished, refusals, emitted, compile_by, compile}
use Rattle.answers.specs.First.{first}
use Rattle.numbers.specs.Kinds.{kind_in}
use Rattle.numbers.specs.Limits.{named_cells}
use Rattle.calls.specs.Run.{Lent, state_over, state_of}
use Rattle.theory.proofs.Compiled.{known}

-- compile sees of a cell whether it holds a row
pub set_held : (cell : ℕ) → is_set cell ≡ is_some (held cell)
unfolding held
set_held cell = go (eqb cell unset)
  where
    go : (b : Bool) → not b ≡ is_some (cond b None (Some cell))
    go true = refl
    go false = refl

-- and of cells what the stores of any world say of them
pub entry_known : (W : World) (objects named : List ℕ) (n : Stores W) → ((v : ℕ) → is_set (get_or objects v unset) ≡ is_some (n.σ v))
    → ((r : ℕ) → is_set (get_or named r unset) ≡ is_some (n.ρ r)) → entry objects named ≡ known W n
entry_known W objects named n object raw = λ i. record { objects = λ v. object v i; raws = λ r. raw r i; next = 0 }

pub lent_known : (x : Lent) → entry x.objects (take named_cells x.messages) ≡ known row_world (state_of x).stores
unfolding state_over store_of
lent_known x =
    entry_known row_world x.objects (take named_cells x.messages) (state_of x).stores
    (λ v. set_held (get_or x.objects v unset)) (λ r. set_held (get_or (take named_cells x.messages) r unset))

-- the same cells set, the same environment
pub same_entry : (objects objects' named named' : List ℕ) → SameSet objects objects' → SameSet named named' → entry objects named ≡ entry objects' named'
same_entry objects objects' named named' o n = λ i. record { objects = λ v. o.same_set v i; raws = λ r. n.same_set r i; next = 0 }

undeclared_same : (kinds cells others : List ℕ) → SameSet cells others → each_variable undeclared_unset kinds cells ≡ each_variable undeclared_unset kinds others
unfolding each_variable
undeclared_same [] cells others s = refl
undeclared_same (k ∷ ks) [] [] s = refl
undeclared_same (k ∷ ks) [] (d ∷ ds) s = absurd (omega (arith, s.same_length))
undeclared_same (k ∷ ks) (c ∷ cs) [] s = absurd (omega (arith, s.same_length))
undeclared_same (k ∷ ks) (c ∷ cs) (d ∷ ds) s =
    rw (s.same_set zero, undeclared_same ks cs ds (record { same_length = omega (arith, s.same_length); same_set = λ i. s.same_set (suc i) }))

declared_same : (kinds cells others : List ℕ) → SameSet cells others → declared kinds cells ≡ declared kinds others
unfolding declared
declared_same kinds cells others s = rw (undeclared_same kinds cells others s)

-- two slices after a compile: the same answer, and both left or with the same words written
pub data SameCode (code code' : List ℕ) : CompileOutcome → CompileOutcome → Type 0 where
  left : {answer : Compiled} → SameCode code code' (leaves answer code) (leaves answer code')
  wrote : {answer : Compiled} (words : List ℕ) → SameCode code code' (leaves answer (words ++ drop (length words) code)) (leaves answer (words ++ drop (length words) code'))

written_same : (words code code' : List ℕ) → length code ≡ length code' → SameCode code code' (written words code) (written words code')
written_same words code code' l = rw l (go (leb (length words) (length code')))
  where
    go : (b : Bool)
        → SameCode code code'
        (cond b (leaves (Done (length words)) (words ++ drop (length words) code)) (leaves (CodeTooShort (length words)) code))
        (cond b (leaves (Done (length words)) (words ++ drop (length words) code')) (leaves (CodeTooShort (length words)) code'))
    go true = wrote words
    go false = left

finished_same : (E : Emitted) (code code' : List ℕ) → length code ≡ length code' → SameCode code code' (finished E code) (finished E code')
finished_same (ok lines e) code code' l = written_same (code_words lines) code code' l
finished_same (refuse answer) code code' l = left

module _ (create : Bool) (pattern kinds : List ℕ) where
  -- two calls that differ only in what set cells hold
  pub same_cells : (objects objects' named named' code : List ℕ) → SameSet objects objects' → SameSet named named'
      → compile create pattern kinds objects named code ≡ compile create pattern kinds objects' named' code
  unfolding compile
  same_cells objects objects' named named' code o n =
      ap (λ r. compile_by create pattern kinds objects named (first r) code) refusals_same ∙ by_refusal (first (refusals create pattern kinds objects' named'))
    where
      refusals_same : refusals create pattern kinds objects named ≡ refusals create pattern kinds objects' named'
      refusals_same = rw (o.same_length, n.same_length, declared_same kinds objects objects' o)

      emitted_same : emitted create pattern kinds objects named ≡ emitted create pattern kinds objects' named'
      emitted_same = ap (tables create (kind_in kinds) (pattern_of pattern)) (same_entry objects objects' named named' o n)

      by_refusal : (r : Option Compiled) → compile_by create pattern kinds objects named r code ≡ compile_by create pattern kinds objects' named' r code
      by_refusal (Some answer) = refl
      by_refusal None = ap (λ E. finished E code) emitted_same

  -- two code slices of one length: the same answer, and the same words written
  pub same_slices : (objects named code code' : List ℕ) → length code ≡ length code'
      → SameCode code code' (compile create pattern kinds objects named code) (compile create pattern kinds objects named code')
  unfolding compile
  same_slices objects named code code' l = by_refusal (first (refusals create pattern kinds objects named))
    where
      by_refusal : (o : Option Compiled) → SameCode code code' (compile_by create pattern kinds objects named o code) (compile_by create pattern kinds objects named o code')
      by_refusal (Some answer) = left
      by_refusal None = finished_same (emitted create pattern kinds objects named) code code' l
