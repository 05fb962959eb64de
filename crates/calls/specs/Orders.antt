-- The order in which 6 and 7 are looked at, a field for each row of document 01's forms, and other places where a definition is easily got wrong.
use Rattle.std.specs.Prelude.{ℕ, ◌≡◌, Bool, true, false, List, [], ◌∷◌, ◌++◌, get_or, replicate}
use Rattle.std.specs.Prelude.{Option, None, Some}
use Rattle.word.specs.Lowest.{one_of}
use Rattle.answers.specs.declared.Compiled.{Compiled}
use Rattle.answers.specs.declared.Compiled.TheVariants.{Done, BadPattern, WrittenWhileSet, ReadWhileUnset}
use Rattle.answers.specs.declared.Ran.TheVariants as Ran
use Rattle.terms.specs.Shape.{atom, hashed, tupled}
use Rattle.terms.specs.Row.{row_of}
use Rattle.stores.specs.Cells.{unset}
use Rattle.patterns.specs.Pattern.{plain_key, op_key, certified_key, Pattern, object, raw, constant, opposite, key_of, encryption, signature, hash, tuple, let_in, Parts, end, part}
use Rattle.theory.specs.Emission.{Emitted, ok, refuse}
use Rattle.calls.specs.Compile.{tables, leaves, compile}
use Rattle.calls.specs.Run.{unchanged, run}
use Rattle.calls.specs.Cases.{row, object_row, raw_row, tuple_row, word, kinds, cells, slice, slice_with, lent}

-- object variables by their kinds: 1 byte, 2 nonce, 3 agent, 4 public key, 5 private key, 7 encryption, 8 signature, 9 hash, 10 tuple; 11 is a second byte
abbrev pub kind_of : ℕ → ℕ
kind_of v = get_or (0 ∷ 1 ∷ 2 ∷ 3 ∷ 4 ∷ 5 ∷ 6 ∷ 7 ∷ 8 ∷ 9 ∷ 10 ∷ 1 ∷ []) v 0

-- what a pattern is refused with where these object and raw variables are set
abbrev pub refusal_of : Emitted → Option Compiled
refusal_of (ok lines e) = None
refusal_of (refuse answer) = Some answer

abbrev pub refused : Bool → Pattern → List ℕ → List ℕ → Option Compiled
refused create p objects raws =
    refusal_of (tables create kind_of p (record { objects = λ v. one_of objects v; raws = λ r. one_of raws r; next = 0 }))

-- row 0, a part that is refused with 6 while the byte 11 is set
abbrev pub bad : Pattern
bad = constant 0 11 5

abbrev pub only : Pattern → Parts
only p = part p end

pub record Orders : Type 0 where
  -- v: 7 unless set or creatable
  pub object_created : (refused true (object 1 3) [] [] ≡ Some (ReadWhileUnset 1)) × (refused true (object 1 2) [] [] ≡ None)
  -- r: 7r
  pub raw_created : refused true (raw 1 0) [] [] ≡ Some (ReadWhileUnset 1)
  -- c : C: 6c
  pub constant_matched : refused false (constant 1 1 5) (1 ∷ []) [] ≡ Some (WrittenWhileSet 1)
  -- k : op(K): 7K 6k; created (CREATE K) 6k
  pub op_matched : (refused false (opposite 1 4 5) (4 ∷ []) [] ≡ Some (ReadWhileUnset 1)) × (refused true (opposite 1 4 5) (4 ∷ []) [] ≡ Some (WrittenWhileSet 1))
  -- k : keyOf(a): 6k 7a; created 7a 6k
  pub key_of_both : (refused false (key_of 1 4 3) (4 ∷ []) [] ≡ Some (WrittenWhileSet 1)) × (refused true (key_of 1 4 3) (4 ∷ []) [] ≡ Some (ReadWhileUnset 1))
  -- E(x, p): 6e 7x <1>; created 7x <1> 6e
  pub encryption_matched : (refused false (encryption 1 7 (plain_key 5) bad) (7 ∷ 11 ∷ []) [] ≡ Some (WrittenWhileSet 1))
      × (refused false (encryption 1 7 (plain_key 5) bad) (11 ∷ []) [] ≡ Some (ReadWhileUnset 1))
  pub encryption_created : (refused true (encryption 1 7 (plain_key 4) bad) (7 ∷ 11 ∷ []) [] ≡ Some (ReadWhileUnset 1))
      × (refused true (encryption 1 7 (plain_key 4) bad) (4 ∷ 7 ∷ 11 ∷ []) [] ≡ Some (WrittenWhileSet 0))
  -- E(k : op(K), p), created: (CREATE K) 6k <1> 6e
  pub encryption_op : refused true (encryption 1 7 (op_key 4 5) bad) (4 ∷ 11 ∷ []) [] ≡ Some (WrittenWhileSet 1)
  -- E(k : keyOf(a), p), created: 7a 6k <1> 6e
  pub encryption_key_of : refused true (encryption 1 7 (certified_key 4 3) bad) (4 ∷ 11 ∷ []) [] ≡ Some (ReadWhileUnset 1)
  -- S(x, r): 6s 7x 7r; created (CREATE x) 7r 6s
  pub signature_both : (refused false (signature 1 8 (plain_key 4) 0) (8 ∷ []) [] ≡ Some (WrittenWhileSet 1)) × (refused true (signature 1 8 (plain_key 5) 0) (8 ∷ []) [] ≡ Some (ReadWhileUnset 1))
  -- S(k : op(K), r): 6s 7K 6k 7r
  pub signature_op : (refused false (signature 1 8 (op_key 4 5) 0) (4 ∷ []) [] ≡ Some (ReadWhileUnset 1)) × (refused false (signature 1 8 (op_key 4 5) 0) (4 ∷ 5 ∷ []) [] ≡ Some (WrittenWhileSet 1))
  -- S(k : keyOf(a), r): 6s 7a 6k 7r
  pub signature_key_of : (refused false (signature 1 8 (certified_key 4 3) 0) (4 ∷ []) [] ≡ Some (ReadWhileUnset 1))
      × (refused false (signature 1 8 (certified_key 4 3) 0) (3 ∷ 4 ∷ []) [] ≡ Some (WrittenWhileSet 1))
  -- H(r): 6h 7r; created 7r 6h
  pub hash_both : (refused false (hash 1 9 0) (9 ∷ []) [] ≡ Some (WrittenWhileSet 1)) × (refused true (hash 1 9 0) (9 ∷ []) [] ≡ Some (ReadWhileUnset 1))
  -- t : [..]: 6t <1>..<n>; created <1>..<n> 6t
  pub tuple_both : (refused false (tuple 1 10 (only bad)) (10 ∷ 11 ∷ []) [] ≡ Some (WrittenWhileSet 1)) × (refused true (tuple 1 10 (only bad)) (10 ∷ 11 ∷ []) [] ≡ Some (WrittenWhileSet 0))
  -- let r = p1 in p2: 6r <2> 7r <1>; created <1> 6r <2>
  pub let_both : (refused false (let_in 2 0 bad (raw 1 1)) (11 ∷ []) [] ≡ Some (ReadWhileUnset 2)) × (refused true (let_in 2 0 bad (raw 1 1)) (11 ∷ []) (0 ∷ []) ≡ Some (WrittenWhileSet 0))

pub record Corners : Type 0 where
  -- a tuple of no parts takes no scratch: its B is the next number, which a later form takes
  pub empty_tuple : compile false (tuple_row 1 [] ∷ row (2 ∷ 2 ∷ 0 ∷ 5 ∷ []) ∷ tuple_row 0 (0 ∷ 1 ∷ []) ∷ []) (kinds (10 ∷ 10 ∷ 1 ∷ [])) (cells []) (cells []) slice
      ≡ leaves (Done 10)
      (slice_with
      (word 5 0 0 0 ∷ word 8 0 64 2 ∷ word 2 64 0 0 ∷ word 5 1 0 0 ∷ word 8 1 66 0 ∷ word 2 65 0 0 ∷ word 3 66 0 0 ∷ word 4 2 5 0
      ∷ word 6 2 0 0 ∷ word 12 66 0 0 ∷ []))
  -- a created tuple takes its scratch on entry, before its parts
  pub created_tuple : compile true (raw_row 0 ∷ tuple_row 1 (0 ∷ []) ∷ raw_row 1 ∷ tuple_row 0 (1 ∷ 2 ∷ []) ∷ []) (kinds (10 ∷ 10 ∷ [])) (cells []) (cells (0 ∷ 0 ∷ [])) slice
      ≡ leaves (Done 9)
      (slice_with
      (word 2 0 0 0 ∷ word 3 66 0 0 ∷ word 9 1 66 1 ∷ word 6 1 0 0 ∷ word 3 64 0 0 ∷ word 2 1 0 0 ∷ word 3 65 0 0 ∷ word 9 0 64 2
      ∷ word 6 0 0 0 ∷ []))
  -- a matched hash ends in its MATCH
  pub hash_matched : compile false (row (7 ∷ 1 ∷ 0 ∷ 0 ∷ 0 ∷ 0 ∷ []) ∷ []) (kinds (0 ∷ 9 ∷ [])) (cells []) (cells (0 ∷ [])) slice
      ≡ leaves (Done 5) (slice_with (word 5 1 0 0 ∷ word 3 64 0 0 ∷ word 2 0 0 0 ∷ word 17 1 0 0 ∷ word 12 64 0 0 ∷ []))
  -- a child named twice by one row, and by two rows; a row that nobody names
  pub child_twice : compile false (object_row 0 ∷ tuple_row 1 (0 ∷ 0 ∷ []) ∷ []) (kinds (2 ∷ 10 ∷ [])) (cells []) (cells []) slice ≡ leaves (BadPattern 1) slice
  pub child_taken : compile false (object_row 0 ∷ tuple_row 1 (0 ∷ []) ∷ tuple_row 1 (1 ∷ 0 ∷ []) ∷ []) (kinds (2 ∷ 10 ∷ [])) (cells []) (cells []) slice ≡ leaves (BadPattern 2) slice
  pub child_missing : compile false (object_row 0 ∷ object_row 0 ∷ tuple_row 1 (1 ∷ []) ∷ []) (kinds (2 ∷ 10 ∷ [])) (cells []) (cells []) slice ≡ leaves (BadPattern 0) slice
  -- the used rows end before the first zero row, and a row behind it is bad
  pub hole : run (lent [] [] unset (row_of (atom 3 1) ∷ 0 ∷ row_of (atom 3 2) ∷ []) 0) [] ≡ unchanged (Ran.BadTerm 2) (lent [] [] unset (row_of (atom 3 1) ∷ 0 ∷ row_of (atom 3 2) ∷ []) 0)
  -- of equal rows the later is bad
  pub equal_rows : run (lent [] [] unset (replicate 3 (row_of (atom 3 1))) 0) [] ≡ unchanged (Ran.BadTerm 1) (lent [] [] unset (replicate 3 (row_of (atom 3 1))) 0)
  -- a full table has room for a term that is already there: HASH, which does not read its h
  pub full_table : run (lent (0 ∷ 9 ∷ []) [] 0 (row_of (atom 3 1) ∷ row_of (hashed 0) ∷ []) 0) (word 17 1 0 0 ∷ [])
      ≡ record {
        answer = Ran.Done 1;
        objects = cells [];
        messages = replicate 256 unset;
        accumulator = 1;
        terms = row_of (atom 3 1) ∷ row_of (hashed 0) ∷ [];
        counter = 0;
      }
  -- ANALYZE TUPLE may be told to write over the border of named cells and scratch
  pub border : run (lent (10 ∷ []) (1 ∷ []) unset (row_of (atom 3 1) ∷ row_of (tupled (0 ∷ 0 ∷ [])) ∷ []) 0) (word 8 0 63 2 ∷ [])
      ≡ record {
        answer = Ran.Done 1;
        objects = cells (1 ∷ []);
        messages = replicate 63 unset ++ (0 ∷ 0 ∷ replicate 191 unset);
        accumulator = unset;
        terms = row_of (atom 3 1) ∷ row_of (tupled (0 ∷ 0 ∷ [])) ∷ [];
        counter = 0;
      }
