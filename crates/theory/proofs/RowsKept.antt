-- A run on rows only appends: rows that were used stay, rows past those it takes stay, certificates and the slice's length stay.
use mathlib.Core.Path.{◌≡◌, refl, ◌∙◌}
use mathlib.Core.List.{List}
use Prim.Native.Nat.{ℕ, suc, ◌<◌, ◌≤◌}
use native.Mathlib.Omega.{arith}
use lib.ListN.{length, get_or, length-set}
use lib.Seq.{get_or-set_other}
use lib.Dec.{ltb}
use mathlib.Core.Bool.{Bool, true, false, cond}
use Rattle.terms.specs.Shape.{atom}
use Rattle.terms.specs.Row.{row_of}
use Rattle.terms.specs.Finder.{locate}
use Rattle.terms.proofs.FinderLaws.{located_as}
use Rattle.theory.specs.Outcome.{done, got, full}
use Rattle.theory.specs.RowModel.{Table, with_counter, name, placed, row_model, row_world}
use Rattle.numbers.specs.Limits.{most_names}
use Rattle.theory.specs.Machine.{Line, State, exec}
use Rattle.theory.proofs.Ends.{Any, Answers, gets, fills, Ends, ends, answers_then}
use Rattle.theory.proofs.StepEnds.{Moves, Leaves, exec_ends}
use Rattle.theory.proofs.Models.{making_moves}

pub record Appended (x y : Table) : Type 0 where
  pub same_length : length y.rows ≡ length x.rows
  pub kept : (row : ℕ) → row < x.used → get_or y.rows row 0 ≡ get_or x.rows row 0
  pub rest : (row : ℕ) → y.used ≤ row → get_or y.rows row 0 ≡ get_or x.rows row 0
  pub more : x.used ≤ y.used
  pub inside : y.used ≤ length x.rows
  pub names : x.counter ≤ y.counter
  pub certificates : y.certificates ≡ x.certificates

module _ (x : Table) where
  placed_appends : (y : Table) (word : ℕ) → Appended x y → Answers Any (Unit {0}) (λ r. Appended x r.1) (placed y (locate y.rows y.used word))
  placed_appends y word a =
      let fits : y.used ≤ length y.rows = omega (arith, a.inside, a.same_length) in
      located_as y.rows y.used word fits (λ l. Answers Any (Unit {0}) (λ r. Appended x r.1) (placed y l))
      (λ row l e. gets a)
      (λ absent l. gets (record {
        same_length = length-set y.rows y.used word ∙ a.same_length;
        kept = λ row h. get_or-set_other y.rows y.used row word 0 (λ e. omega (arith, a.more)) ∙ a.kept row h;
        rest = λ row h. get_or-set_other y.rows y.used row word 0 (λ e. omega arith) ∙ a.rest row (omega arith);
        more = omega (arith, a.more);
        inside = omega (arith, a.same_length);
        names = a.names;
        certificates = a.certificates;
      }))
      (λ absent l. fills tt)

  named_appends : (y : Table) → Appended x y → Answers Any (Unit {0}) (λ r. Appended x r.1) (name y.counter (with_counter y))
  named_appends y a = go (ltb y.counter most_names)
    where
      go : (b : Bool) → Answers Any (Unit {0}) (λ (r : ℕ × Table). Appended x r.1) (cond b (got (y.counter, with_counter y (suc y.counter))) full)
      go true =
          gets {a = (y.counter, with_counter y (suc y.counter))}
          (record {
            same_length = a.same_length;
            kept = a.kept;
            rest = a.rest;
            more = a.more;
            inside = a.inside;
            names = omega (arith, a.names);
            certificates = a.certificates;
          })
      go false = fills tt

  moves_append : (y : Table) → Appended x y → Moves Any (Unit {0}) row_world (Appended x) y
  moves_append y a = making_moves row_model (λ why own. tt)
      (record {
        left = a;
        makes = λ shape. placed_appends y (row_of shape) a;
        creates = λ kind. answers_then _ (named_appends y a) λ r h. placed_appends r.1 (row_of (atom kind r.0)) h;
      })

pub appended_none : (x : Table) → x.used ≤ length x.rows → Appended x x
appended_none x h = record { same_length = refl; kept = λ row l. refl; rest = λ row l. refl; more = omega arith; inside = h; names = omega arith; certificates = refl }

pub exec_leaves : (kind : ℕ → ℕ) (code : List Line) (s t : State row_world) → s.stores.memory.used ≤ length s.stores.memory.rows
    → exec row_world kind code s ≡ done t → Leaves row_world (Appended s.stores.memory) s t
exec_leaves kind code s t h e = go (rw e at left)
  where
    x : Table
    x = s.stores.memory

    left : Ends Any Any (Unit {0}) (Leaves row_world (Appended x) s) (exec row_world kind code s)
    left = exec_ends tt kind (λ place. tt) (moves_append x) code s (appended_none x h)

    go : Ends Any Any (Unit {0}) (Leaves row_world (Appended x) s) (done t) → Leaves row_world (Appended x) s t
    go (ends l) = l

pub exec_appends : (kind : ℕ → ℕ) (code : List Line) (s t : State row_world) → s.stores.memory.used ≤ length s.stores.memory.rows
    → exec row_world kind code s ≡ done t → Appended s.stores.memory t.stores.memory
exec_appends kind code s t h e = (exec_leaves kind code s t h e).memory
