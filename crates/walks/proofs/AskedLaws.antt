-- What an operation answers, where a refusal of it ends the walk at a row.
use Rattle.std.specs.Prelude.{Result, Ok, Err, cond, eqb}
use Rattle.std.specs.Result.{IsErrAnd}
use Rattle.std.proofs.lemmas.Result.{err_from_is_err_and}
use Prim.Native.Nat.{ℕ}
use mathlib.Core.Path.{◌≡◌, refl}
use Rattle.answers.specs.declared.Reason.{Reason}
use Rattle.answers.specs.declared.Reason.TheVariants.{Unset}
use Rattle.numbers.specs.declared.TermRow.{TermRow}
use Rattle.stores.specs.Cells.{unset}
use Rattle.machine.proofs.SetLaws.{set_row_given, set_row_refused}
use Rattle.theory.specs.Outcome.{Outcome, bind}
use Rattle.theory.specs.RowModel.{row_world}
use Rattle.theory.specs.Machine.{Stores}
use Rattle.machine.specs.Machine.{Slices}
use Rattle.walks.specs.Walks.{Walked, Comes, asked_at}
use Rattle.walks.specs.declared.Ended.{Ended}
use Rattle.walks.specs.declared.Ended.TheVariants.{Stuck}
use Rattle.walks.proofs.ComesLaws.{then_ends}

-- what the way out of a `?` returns
pub raised : {T : Type 0} {result : Result T Ended} {ended : Ended} → IsErrAnd result (λ e. e ≡ ended) → result ≡ Err ended
raised {result = result} is = let p = err_from_is_err_and result is in let e = p.1 in let s = p.2 in rw e (rw s)

-- a walk that has ended is passed on, whatever was to follow
pub passes : {A B : Type 0} {seen : ℕ → Stores row_world → A} {later : ℕ → Stores row_world → B} {used : ℕ} {before mid : Slices} {o : Outcome A} (f : A → Outcome B) {came answer : Walked}
    {ended : Ended} → came ≡ Err ended → IsErrAnd answer (λ e. e ≡ ended) → Comes seen used before o came mid → Comes later used before (bind o f) answer mid
passes f e raise h = rw (raised raise) (then_ends f (rw e at h))

module _ {T : Type 0} (row : ℕ) {asked : Result T Ended} where
  pub asked_given : (answer : Result T Reason) {x : T} → asked ≡ asked_at row answer → asked ≡ Ok x → answer ≡ Ok x
  asked_given (Ok y) is e = cc
  asked_given (Err reason) is e = absurd (cc)

  pub asked_ends : (answer : Result T Reason) {ended : Ended} {result : Walked} → asked ≡ asked_at row answer → asked ≡ Err ended → IsErrAnd result (λ e. e ≡ ended)
      → (reason : Reason) × (answer ≡ Err reason) × (result ≡ Err (Stuck row reason))
  asked_ends (Ok y) is e raise = absurd (cc)
  asked_ends (Err reason) is e raise = let r = raised raise in (reason, refl, cc)

-- a cell that has to be set
module _ (row : ℕ) {cell : TermRow} {answer : Result TermRow Reason} {asked : Result TermRow Ended}
    (set : answer ≡ cond (eqb cell.0 unset) (Err Unset) (Ok cell)) (is : asked ≡ asked_at row answer) where
  pub set_given : {x : TermRow} → asked ≡ Ok x → (x.0 ≡ unset → ⊥) × (x ≡ cell)
  set_given {x} e =
      let given = asked_given row answer is e in
      let s = set_row_given cell (rw given at set) in
      let same = s.1 in
      (rw same s.0, same)

  pub set_ends : {ended : Ended} {result : Walked} → asked ≡ Err ended → IsErrAnd result (λ e. e ≡ ended) → (cell.0 ≡ unset) × (result ≡ Err (Stuck row Unset))
  set_ends e raise =
      let (reason, refused, ends) = asked_ends row answer is e raise in
      let s = set_row_refused cell (rw refused at set) in
      let why = s.1 in
      (s.0, rw ends (rw why))

  -- and what the cell was read as
  pub set_read : {x : TermRow} {n : ℕ} → cell.0 ≡ n → asked ≡ Ok x → (x.0 ≡ unset → ⊥) × (x.0 ≡ n)
  set_read read e =
      let s = set_given e in
      let same = s.1 in
      (s.0, rw same read)
