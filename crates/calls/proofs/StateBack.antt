-- The cells that a finished run leaves are its last state again.
use Prim.Native.Nat.{ℕ, zero, ◌<◌, ◌≤◌}
use mathlib.Core.Path.{◌≡◌, refl, sym, ◌∙◌, fun_ext}
use Rattle.std.specs.Prelude.{Option, None, Some}
use mathlib.Core.List.{List}
use native.Mathlib.Nat.{zero-add}
use native.Mathlib.Omega.{arith}
use native.Mathlib.Decide.{dec_lt}
use lib.ListN.{length, get_or, take, drop, length-drop, get_or-eq_default}
use lib.Seq.{take_at, drop_at, length-take-le}
use Rattle.code.proofs.WordLaws.{no_bad_word_iff}
use Rattle.answers.specs.declared.Ran.{Ran}
use Rattle.terms.proofs.TableLaws.{used_rows_lem}
use Rattle.stores.specs.Cells.{unset, held, store_of, cells_from}
use Rattle.theory.specs.Outcome.{done}
use Rattle.theory.specs.RowModel.{row_world}
use Rattle.theory.specs.Machine.{State}
use Rattle.theory.proofs.ValidMemory.{row_small}
use Rattle.theory.proofs.RowsRunAsTerms.{Held, IsUsed, HasTag, ValidState}
use Rattle.theory.proofs.RowsKept.{Appended, exec_leaves}
use Rattle.theory.proofs.StepEnds.{Leaves}
use Rattle.theory.proofs.ScratchKept.{scratch_kept}
use Rattle.numbers.specs.Limits.{named_cells, scratch_cells, variables}
use Rattle.numbers.specs.Kinds.{kind_in}
use Rattle.calls.specs.Run.{Lent, lent_after, lines_of, state_over, state_of, left_by}
use Rattle.calls.proofs.RunLaws.{steps_of, Passed, passed_valid}
use Rattle.calls.proofs.ValidLent.{tagged}
use Rattle.calls.proofs.ValidAgain.{length_cells, get_or_cells, held_back}
use Rattle.calls.proofs.FinishLaws.{good_lines, state_valid}

none_held : held unset ≡ None
unfolding held
none_held = refl

-- past a list of cells nothing is held
past_cells : (cells : List ℕ) (i : ℕ) → length cells ≤ i → held (get_or cells i unset) ≡ None
past_cells cells i long = rw (get_or-eq_default cells unset long) none_held

-- the cells of a store, and past them none
module _ (P : ℕ → Type 0) (small : (row : ℕ) → P row → row < unset) (count : ℕ) (store : ℕ → Option ℕ) (fits : (i : ℕ) → Held P (store i))
    (past : (i : ℕ) → count ≤ i → store i ≡ None) where
  store_back : (i : ℕ) → held (get_or (cells_from 0 count store) i unset) ≡ store i
  store_back i = go (dec_lt i count)
    where
      go : Dec (i < count) → held (get_or (cells_from 0 count store) i unset) ≡ store i
      go (yes inside) = rw (get_or_cells 0 count store i inside, zero-add) (held_back P small (store i) (fits i))
      go (no outside) =
          let over : count ≤ i = omega arith in
          past_cells (cells_from 0 count store) i (omega (arith, length_cells 0 count store)) ∙ sym (past i over)

module _ {x : Lent} {code : List ℕ} (p : Passed x code) (t : State row_world) (steps : steps_of x code ≡ done t) where
  pub last_valid : ValidState (kind_in x.kinds) t
  last_valid = state_valid x code (passed_valid p) p.words t steps

  leaves : Leaves row_world (Appended (state_of x).stores.memory) (state_of x) t
  unfolding state_over
  leaves = exec_leaves (kind_in x.kinds) (lines_of code) (state_of x) t (used_rows_lem x.terms).inside steps

  pub rows_appended : Appended (state_of x).stores.memory t.stores.memory
  rows_appended = leaves.memory

  certificates_stay : t.stores.memory.certificates ≡ x.certificates
  unfolding state_over
  certificates_stay = rows_appended.certificates

  small : (row : ℕ) → IsUsed t.stores.memory row → row < unset
  small row used = let l = row_small last_valid.table row used in omega arith

  -- a variable past the kinds is undeclared, and no row has kind 0
  object_past : (o : ℕ) → variables ≤ o → t.stores.σ o ≡ None
  object_past o over = go (t.stores.σ o) (last_valid.objects o)
    where
      go : (cell : Option ℕ) → Held (HasTag t.stores.memory (kind_in x.kinds o)) cell → cell ≡ None
      go None h = refl
      go (Some row) h =
          absurd (tagged last_valid.table.table row (let c = last_valid.table.counted in omega (arith, h.0))
          (h.1 ∙ get_or-eq_default x.kinds 0 (let l = (passed_valid p).within.kinds in omega arith)))

  -- nothing is put past the named cells, nor past the scratch
  named_past : (r : ℕ) → named_cells ≤ r → t.stores.ρ r ≡ None
  unfolding state_over store_of
  named_past r past =
      let named = take named_cells x.messages in
      let long : length named ≤ r = omega (arith, length-take-le named_cells x.messages (omega (arith, (passed_valid p).within.messages))) in
      leaves.past r past ∙ past_cells named r long

  scratch_past : (i : ℕ) → scratch_cells ≤ i → t.scratches i ≡ None
  unfolding state_over store_of
  scratch_past i past =
      let fit = good_lines (kind_in x.kinds) zero code ((no_bad_word_iff (kind_in x.kinds) code).0 p.words) in
      let scratch = drop named_cells x.messages in
      let long : length scratch ≤ i = omega (arith, length-drop named_cells x.messages, (passed_valid p).within.messages) in
      scratch_kept (kind_in x.kinds) (lines_of code) fit (state_of x) t steps i past ∙ past_cells scratch i long

  used : (kind : ℕ) (cell : Option ℕ) → Held (HasTag t.stores.memory kind) cell → Held (IsUsed t.stores.memory) cell
  used kind None h = tt
  used kind (Some row) h = h.0

  module _ (answer : Ran) where
    object_back : (o : ℕ) → store_of (left_by answer t).objects o ≡ t.stores.σ o
    unfolding left_by store_of
    object_back o =
        store_back (IsUsed t.stores.memory) small variables t.stores.σ (λ o. used (kind_in x.kinds o) (t.stores.σ o) (last_valid.objects o)) object_past o

    raw_back : (r : ℕ) → store_of (take named_cells (left_by answer t).messages) r ≡ t.stores.ρ r
    unfolding left_by store_of
    raw_back r =
        rw (take_at (cells_from 0 named_cells t.stores.ρ) (cells_from 0 scratch_cells t.scratches) named_cells (length_cells 0 named_cells t.stores.ρ))
        (store_back (IsUsed t.stores.memory) small named_cells t.stores.ρ last_valid.raws named_past r)

    scratch_back : (i : ℕ) → store_of (drop named_cells (left_by answer t).messages) i ≡ t.scratches i
    unfolding left_by store_of
    scratch_back i =
        rw (drop_at (cells_from 0 named_cells t.stores.ρ) (cells_from 0 scratch_cells t.scratches) named_cells (length_cells 0 named_cells t.stores.ρ))
        (store_back (IsUsed t.stores.memory) small scratch_cells t.scratches last_valid.scratches scratch_past i)

    accumulator_back : held (left_by answer t).accumulator ≡ t.accumulator
    unfolding left_by
    accumulator_back = held_back (IsUsed t.stores.memory) small t.accumulator last_valid.accumulator

    pub state_back : state_of (lent_after x (left_by answer t)) ≡ t
    unfolding state_over left_by
    state_back = λ i. record {
      accumulator = accumulator_back i;
      scratches = fun_ext scratch_back i;
      stores = record {
        σ = fun_ext object_back i;
        ρ = fun_ext raw_back i;
        memory = record {
          rows = t.stores.memory.rows;
          used = sym last_valid.table.counted i;
          counter = t.stores.memory.counter;
          certificates = sym certificates_stay i;
        };
      };
    }
