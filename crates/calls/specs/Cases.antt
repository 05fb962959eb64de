-- The cases P1 to P10 of document 01 as one table, from packed rows to the answer. What the listing prints of P1 is promised with the listing.
use Rattle.std.specs.Prelude.{ℕ, ◌+◌, ◌*◌, ◌-◌, ◌^◌, ◌≡◌, true, false, List, [], ◌∷◌, ◌++◌, length, replicate}
use Rattle.word.specs.Fields.{join}
use Rattle.answers.specs.declared.Reason.TheVariants.{PartCount, NoCertificate}
use Rattle.answers.specs.declared.Compiled.TheVariants as Compiled
use Rattle.answers.specs.declared.Ran.TheVariants as Ran
use Rattle.terms.specs.Shape.{atom, encrypted, tupled}
use Rattle.terms.specs.Row.{row_of}
use Rattle.stores.specs.Cells.{unset}
use Rattle.patterns.specs.Row.{pattern_widths}
use Rattle.calls.specs.Compile.{leaves, compile}
use Rattle.calls.specs.Run.{Lent, unchanged, run}

-- a pattern row by its fields from the front: tag, V, F, X, Y, R, n, children
abbrev pub row : List ℕ → ℕ
row fields = join pattern_widths fields

-- rows of a bare object variable and of a bare raw variable
abbrev pub object_row : ℕ → ℕ
object_row v = row (0 ∷ v ∷ [])

abbrev pub raw_row : ℕ → ℕ
raw_row r = row (1 ∷ 0 ∷ 0 ∷ 0 ∷ 0 ∷ r ∷ [])

abbrev pub tuple_row : ℕ → List ℕ → ℕ
tuple_row v children = row (8 ∷ v ∷ 0 ∷ 0 ∷ 0 ∷ 0 ∷ length children ∷ children)

abbrev pub let_row : ℕ → ℕ → ℕ → ℕ
let_row r p₁ p₂ = row (9 ∷ 0 ∷ 0 ∷ 0 ∷ 0 ∷ r ∷ 2 ∷ p₁ ∷ p₂ ∷ [])

-- a code word by the listing's numbers
abbrev pub word : ℕ → ℕ → ℕ → ℕ → ℕ
word operation a b n = operation * 2 ^ 27 + a * 2 ^ 19 + b * 2 ^ 11 + n * 2 ^ 8

-- 64 kinds, and 64 cells, that begin so
abbrev pub kinds : List ℕ → List ℕ
kinds ks = ks ++ replicate (64 - length ks) 0

abbrev pub cells : List ℕ → List ℕ
cells cs = cs ++ replicate (64 - length cs) unset

-- a lent slice of twelve words, and what is in it after a compile
abbrev pub slice : List ℕ
slice = replicate 12 7

abbrev pub slice_with : List ℕ → List ℕ
slice_with words = words ++ replicate (12 - length words) 7

-- a run with all message cells unset and no certificates
abbrev pub lent : List ℕ → List ℕ → ℕ → List ℕ → ℕ → Lent
lent ks objects accumulator terms counter = record {
  kinds = kinds ks;
  objects = cells objects;
  messages = replicate 256 unset;
  certificates = [];
  accumulator = accumulator;
  terms = terms;
  counter = counter;
}

abbrev pub P1_code : List ℕ
P1_code = word 5 1 0 0 ∷ word 8 1 64 2 ∷ word 2 64 0 0 ∷ word 5 0 0 0 ∷ word 2 65 0 0 ∷ word 3 0 0 0 ∷ []

abbrev pub P2_code : List ℕ
P2_code = word 7 3 0 0 ∷ word 10 3 2 0 ∷ word 7 0 0 0 ∷ word 6 0 0 0 ∷ word 13 2 0 0 ∷ word 5 1 0 0 ∷ []

abbrev pub P9_code : List ℕ
P9_code = word 5 0 0 0 ∷ word 8 0 64 0 ∷ []

abbrev pub P10_code : List ℕ
P10_code = word 5 0 0 0 ∷ word 3 64 0 0 ∷ word 6 1 0 0 ∷ word 11 0 0 0 ∷ word 12 64 0 0 ∷ []

pub record Cases : Type 0 where
  pub P1 : compile false (object_row 0 ∷ raw_row 0 ∷ tuple_row 1 (0 ∷ 1 ∷ []) ∷ []) (kinds (2 ∷ 10 ∷ [])) (cells []) (cells []) slice
      ≡ leaves (Compiled.Done 6) (slice_with P1_code)
  pub P2 : compile true (object_row 0 ∷ row (5 ∷ 1 ∷ 1 ∷ 2 ∷ 3 ∷ 0 ∷ 1 ∷ 0 ∷ []) ∷ []) (kinds (2 ∷ 7 ∷ 4 ∷ 5 ∷ [])) (cells []) (cells []) slice
      ≡ leaves (Compiled.Done 6) (slice_with P2_code)
  pub P2_run : run (lent (2 ∷ 7 ∷ 4 ∷ 5 ∷ []) [] unset (replicate 6 0) 0) P2_code
      ≡ record {
        answer = Ran.Done 6;
        objects = cells (2 ∷ 3 ∷ 1 ∷ 0 ∷ []);
        messages = replicate 256 unset;
        accumulator = 3;
        terms = row_of (atom 5 0) ∷ row_of (atom 4 0) ∷ row_of (atom 2 1) ∷ row_of (encrypted 1 2) ∷ replicate 2 0;
        counter = 2;
      }
  pub P3 : compile false (raw_row 0 ∷ raw_row 1 ∷ tuple_row 1 (0 ∷ 1 ∷ []) ∷ raw_row 2 ∷ tuple_row 0 (2 ∷ 3 ∷ []) ∷ []) (kinds (10 ∷ 10 ∷ [])) (cells []) (cells []) slice
      ≡ leaves (Compiled.Done 11)
      (slice_with
      (word 5 0 0 0 ∷ word 8 0 64 2 ∷ word 2 64 0 0 ∷ word 5 1 0 0 ∷ word 8 1 66 2 ∷ word 2 66 0 0 ∷ word 3 0 0 0 ∷ word 2 67 0 0
      ∷ word 3 1 0 0 ∷ word 2 65 0 0 ∷ word 3 2 0 0 ∷ []))
  pub P4 : compile false (object_row 0 ∷ row (5 ∷ 1 ∷ 1 ∷ 2 ∷ 3 ∷ 0 ∷ 1 ∷ 0 ∷ []) ∷ []) (kinds (2 ∷ 7 ∷ 4 ∷ 5 ∷ [])) (cells []) (cells []) slice
      ≡ leaves (Compiled.WrongKind 1) slice
  pub P5 : compile false (row (2 ∷ 0 ∷ 0 ∷ 5 ∷ []) ∷ row (2 ∷ 0 ∷ 0 ∷ 5 ∷ []) ∷ tuple_row 1 (0 ∷ 1 ∷ []) ∷ []) (kinds (1 ∷ 10 ∷ [])) (cells []) (cells []) slice
      ≡ leaves (Compiled.WrittenWhileSet 1) slice
  pub P6 : compile false (object_row 0 ∷ raw_row 0 ∷ let_row 0 0 1 ∷ []) (kinds (2 ∷ [])) (cells []) (cells []) slice
      ≡ leaves (Compiled.Done 3) (slice_with (word 3 0 0 0 ∷ word 2 0 0 0 ∷ word 5 0 0 0 ∷ []))
  pub P6_set : compile false (object_row 0 ∷ raw_row 0 ∷ let_row 0 0 1 ∷ []) (kinds (2 ∷ [])) (cells []) (cells (0 ∷ [])) slice
      ≡ leaves (Compiled.WrittenWhileSet 2) slice
  pub P7 : compile false (object_row 0 ∷ raw_row 1 ∷ let_row 0 0 1 ∷ []) (kinds (2 ∷ [])) (cells []) (cells []) slice
      ≡ leaves (Compiled.ReadWhileUnset 2) slice
  pub P8 : compile false (object_row 0 ∷ []) (kinds (10 ∷ [])) (cells []) (cells []) slice ≡ leaves (Compiled.WrongKind 0) slice
  pub P9 : compile false (tuple_row 0 [] ∷ []) (kinds (10 ∷ [])) (cells []) (cells []) slice ≡ leaves (Compiled.Done 2) (slice_with P9_code)
  pub P9_run : run (lent (10 ∷ []) [] 0 (row_of (tupled []) ∷ []) 0) P9_code
      ≡ record {
        answer = Ran.Done 2;
        objects = cells (0 ∷ []);
        messages = replicate 256 unset;
        accumulator = 0;
        terms = row_of (tupled []) ∷ [];
        counter = 0;
      }
  pub P9_stuck : run (lent (10 ∷ []) [] 1 (row_of (atom 3 0) ∷ row_of (tupled (0 ∷ [])) ∷ []) 0) P9_code
      ≡ unchanged (Ran.Stuck 1 PartCount) (lent (10 ∷ []) [] 1 (row_of (atom 3 0) ∷ row_of (tupled (0 ∷ [])) ∷ []) 0)
  pub P10 : compile false (row (4 ∷ 0 ∷ 0 ∷ 0 ∷ 1 ∷ []) ∷ []) (kinds (4 ∷ 3 ∷ [])) (cells (unset ∷ 0 ∷ [])) (cells []) slice
      ≡ leaves (Compiled.Done 5) (slice_with P10_code)
  pub P10_run : run (lent (4 ∷ 3 ∷ []) (unset ∷ 0 ∷ []) 1 (row_of (atom 3 1) ∷ row_of (atom 4 0) ∷ []) 1) P10_code
      ≡ unchanged (Ran.Stuck 3 NoCertificate) (lent (4 ∷ 3 ∷ []) (unset ∷ 0 ∷ []) 1 (row_of (atom 3 1) ∷ row_of (atom 4 0) ∷ []) 1)
