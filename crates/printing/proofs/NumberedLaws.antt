-- Lines for the elements of a list, numbers rising: the lines of code words, and those of set cells.
use Prim.Native.Nat.{ℕ, suc, ◌+◌, ◌*◌, ◌<◌, ◌≤◌}
use mathlib.Core.Path.{◌≡◌}
use mathlib.Core.List.{List, [], ◌∷◌, ◌++◌, append_assoc}
use native.Mathlib.Nat.{add-zero, zero-add, add-suc, suc-add}
use native.Mathlib.Numerals.{add-one}
use native.Mathlib.Omega.{arith}
use lib.ListN.{length, get_or, take, length-append}
use lib.Seq.{take-suc, length-take-le}
use Rattle.text.specs.Written.{Wrote}
use Rattle.text.proofs.WrittenLaws.{wrote_nothing, wrote_then}

pub record Numbered (lines : ℕ → List ℕ → List ℕ) : Type 0 where
  pub none : (number : ℕ) → lines number [] ≡ []
  pub more : (number element : ℕ) (rest : List ℕ) → lines number (element ∷ rest) ≡ lines number (element ∷ []) ++ lines (suc number) rest

module _ {lines : ℕ → List ℕ → List ℕ} (numbered : Numbered lines) where
  lines_append : (number : ℕ) (all more : List ℕ) → lines number (all ++ more) ≡ lines number all ++ lines (number + length all) more
  lines_append number [] more = rw (numbered.none number, add-zero)
  lines_append number (element ∷ rest) more =
      rw (
        numbered.more number element (rest ++ more),
        numbered.more number element rest,
        lines_append (suc number) rest more,
        append_assoc,
        add-suc,
        suc-add,
      )

  -- element after element
  pub no_line : (all before : List ℕ) (at : ℕ) → Wrote (lines 0 (take 0 all)) before at before at
  no_line all before at = rw (numbered.none 0) (wrote_nothing before at)

  pub one_line : (all : List ℕ) (i : ℕ) {before middle after : List ℕ} {at next last : ℕ} → i < length all → Wrote (lines 0 (take i all)) before at middle next
      → Wrote (lines i (get_or all i 0 ∷ [])) middle next after last → Wrote (lines 0 (take (i + 1) all)) before at after last
  one_line all i inside f g =
      rw (add-one, take-suc all i 0, lines_append 0 (take i all), length-take-le i all (omega arith), zero-add) (wrote_then f g)

  -- how long they are, where no line is longer than so much
  pub lines_length : (longest most : ℕ) → ((number element : ℕ) → number < most → length (lines number (element ∷ [])) ≤ longest) → (number : ℕ) (all : List ℕ)
      → number + length all ≤ most → length (lines number all) ≤ longest * length all
  lines_length longest most short number [] few = rw (numbered.none number) (omega arith)
  lines_length longest most short number (element ∷ rest) few =
      rw (numbered.more number element rest, length-append)
      (omega (arith, short number element (omega arith), lines_length longest most short (suc number) rest (omega arith)))
