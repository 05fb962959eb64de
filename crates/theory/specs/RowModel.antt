-- The world of rows: a message is a row of the term table, and the memory is the table, the name counter and the certificates.
use Rattle.std.specs.Prelude.{Some, None}
use Rattle.std.specs.Prelude.{ℕ, suc, cond, List, eqb, ltb}
use Rattle.numbers.specs.Limits.{most_names}
use Rattle.terms.specs.Row.{row_of, shape_of, row_at}
use Rattle.terms.specs.Finder.{Located, locate}
use Rattle.terms.specs.Finder.{Found}
use Rattle.stores.specs.Certificates as Certificates
use Rattle.theory.specs.Outcome.{Answer, got, full}
use Rattle.theory.specs.World.{World}
use Rattle.theory.specs.Model.{Model, world}

pub record Table : Type 0 where
  pub rows : List ℕ
  pub used : ℕ
  pub counter : ℕ
  pub certificates : List ℕ

abbrev pub with_rows : Table → List ℕ → ℕ → Table
with_rows x rows used = record { rows = rows; used = used; counter = x.counter; certificates = x.certificates }

abbrev pub with_counter : Table → ℕ → Table
with_counter x counter = record { rows = x.rows; used = x.used; counter = counter; certificates = x.certificates }

-- a created name takes the counter's number and raises it by one
abbrev pub name : {X : Type 0} → ℕ → (ℕ → X) → Answer (ℕ × X)
name counter raised = cond (ltb counter most_names) (got (counter, raised (suc counter))) full

abbrev pub placed_by : Table → List ℕ → Found → Answer (ℕ × Table)
placed_by x rows (Some (row, used)) = got (row.0, with_rows x rows used)
placed_by x rows None = full

-- the row that equals a term, or else the first unused row
abbrev pub placed : Table → Located → Answer (ℕ × Table)
placed x l = placed_by x l.rows l.found

abbrev pub row_model : Model
row_model = record {
  Msg = ℕ;
  Mem = Table;
  look = λ row x. shape_of (row_at x.rows row);
  make = λ shape x. placed x (locate x.rows x.used (row_of shape));
  fresh = λ x. name x.counter (with_counter x);
  certificate = λ agent x. Certificates.certified x.certificates agent;
  equal = λ row other x. eqb row other;
}

abbrev pub row_world : World
row_world = world row_model
