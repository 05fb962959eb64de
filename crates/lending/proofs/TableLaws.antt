-- A table in bytes: its used rows are unpacked, and its new rows are packed back.
use Prim.Native.Nat.{ℕ, zero, suc, ◌+◌, ◌-◌, ◌*◌, ◌/◌, ◌%◌, ◌<◌, ◌≤◌, min}
use mathlib.Core.Path.{◌≡◌, refl, sym, ◌∙◌}
use mathlib.Core.Logic.{◌≢◌, inl, inr}
use mathlib.Core.Bool.{true}
use mathlib.Core.List.{List, [], ◌∷◌, ◌++◌}
use native.Mathlib.Decide.{dec_lt}
use native.Mathlib.Nat.{add_comm, mul-zero, mul-suc}
use native.Mathlib.Omega.{arith}
use lib.Dec.{T, eqb}
use lib.ListN.{length, get_or, set, take, drop, length-append, length-take, length-drop, take-append-drop, replicate, length-replicate, get_or-replicate, get_or-append, get_or-eq_default}
use lib.Seq.{take_all, drop-drop, ext_get_or, get_or-append-add, get_or-drop, get_or-take, length-take-le}
use Rattle.word.specs.Bytes.{number, words, whole, elements, spelled}
use Rattle.word.specs.Lowest.{each}
use Rattle.word.proofs.All.{all_get_d}
use Rattle.word.proofs.ByteLaws.{Below, Unpacked, Packed, length_words, spelled_append, unpacked_none, unpacked_more}
use Rattle.word.proofs.LowestLaws.{each_all}
use Rattle.word.proofs.TestLaws.{equals}
use Rattle.numbers.specs.Limits.{most_term_rows}
use Rattle.terms.specs.Rules.{used_rows}
use Rattle.terms.proofs.TableLaws.{used_rows_lem, used_once}
use Rattle.looking.specs.Front.{ZeroFrom, Front, SameBut}
use Rattle.looking.proofs.FrontLaws.{whole_front}
use Rattle.lending.proofs.SplitLaws.{spelled_front, spelled_rest}

-- an array of zeros
module _ (count : ℕ) where
  abbrev zeros : List ℕ
  zeros = replicate count 0

  pub zero_rows : (count ≡ length zeros) × ZeroFrom 0 zeros
  zero_rows = (sym (length-replicate count 0), λ row l. go row (dec_lt row count))
    where
      go : (row : ℕ) → Dec (row < count) → get_or zeros row 0 ≡ 0
      go row (yes inside) = get_or-replicate count row 0 0 inside
      go row (no outside) = get_or-eq_default zeros 0 (omega (arith, length-replicate {A = ℕ} count 0))

-- a word of a slice is the number of its bytes
pub word_at : (size count place : ℕ) (bytes : List ℕ) → place < count
    → get_or (words size count bytes) place 0 ≡ number (take size (drop (size * place) bytes))
unfolding words
word_at size zero place bytes less = absurd (omega arith)
word_at size (suc count) zero bytes less = rw mul-zero
word_at size (suc count) (suc place) bytes less = word_at size count place (drop size bytes) (omega arith) ∙ rw (drop-drop, mul-suc, add_comm size)

zero_number : (bytes : List ℕ) → ((i : ℕ) → i < length bytes → get_or bytes i 0 ≡ 0) → number bytes ≡ 0
unfolding number
zero_number [] zeros = refl
zero_number (byte ∷ bytes) zeros = rw (zeros 0 (omega arith), zero_number bytes λ i l. zeros (suc i) (omega arith)) (omega arith)

module _ (bytes : List ℕ) {count : ℕ} (long : length bytes ≡ 8 * count) where
  row_count : length (elements 8 bytes) ≡ count
  row_count = length_words 8 (length bytes / 8) bytes ∙ omega arith

  pub used_few : {used : ℕ} → used ≡ used_rows (elements 8 bytes) → used ≤ count
  used_few is = omega (arith, is, row_count, (used_rows_lem (elements 8 bytes)).inside)

  pub all_rows : Front (elements 8 bytes) count
  all_rows = rw row_count at (whole_front (elements 8 bytes))

-- what is left of bytes from a place on
pub bytes_behind : (place : ℕ) (bytes : List ℕ) → take (length bytes - place) (drop place bytes) ≡ drop place bytes
bytes_behind place bytes = take_all (length bytes - place) (drop place bytes) (omega (arith, length-drop place bytes))

-- so many rows have been read, and none of them is zero
pub record Reading (bytes before out : List ℕ) (count : ℕ) : Type 0 where
  pub unpacked : Unpacked 8 bytes before out count
  pub nonzero : (row : ℕ) → row < count → get_or (elements 8 bytes) row 0 ≢ 0

pub reading_none : (bytes before : List ℕ) → Reading bytes before before 0
reading_none bytes before = record { unpacked = unpacked_none 8 bytes before; nonzero = λ row l. absurd (omega arith) }

module _ {bytes before out : List ℕ} {place : ℕ} (long : length bytes ≡ 8 * length before) (so_far : Reading bytes before out place) where
  abbrev Ends : Type 0
  Ends = (place ≡ used_rows (elements 8 bytes)) × (out ≡ words 8 place bytes ++ drop place before)

  count : length (elements 8 bytes) ≡ length before
  count = row_count bytes long

  ends : place ≤ length before → get_or (elements 8 bytes) place 0 ≡ 0 → Ends
  ends inside zero_row =
      (sym (used_once (record { inside = omega (arith, count); nonzero = so_far.nonzero; ends = zero_row })), so_far.unpacked.read)

  pub reading_all : length before ≤ place → Ends
  reading_all past =
      let within = so_far.unpacked.within in
      ends (omega (arith, count)) (get_or-eq_default (elements 8 bytes) 0 (omega (arith, count)))

  module _ {word : ℕ} (inside : place < length before) (is : word ≡ number (take 8 (drop (8 * place) bytes))) where
    here : get_or (elements 8 bytes) place 0 ≡ word
    here = word_at 8 (length bytes / 8) place bytes (omega arith) ∙ sym is

    pub reading_zero : word ≡ 0 → Ends
    reading_zero zero_row = ends (omega arith) (here ∙ zero_row)

    pub reading_more : (word ≡ 0 → ⊥) → Reading bytes before (set out place word) (place + 1)
    reading_more other =
        record {
          unpacked = unpacked_more 8 bytes before out place word so_far.unpacked (omega arith) (omega arith) is;
          nonzero = λ row l. go row l (dec_lt row place);
        }
      where
        go : (row : ℕ) → row < place + 1 → Dec (row < place) → get_or (elements 8 bytes) row 0 ≢ 0
        go row l (yes earlier) = so_far.nonzero row earlier
        go row l (no later) = let last : row ≡ place = omega arith in rw (last, here) other

-- the bytes behind the used rows are zero, and the rows were
module _ (bytes before : List ℕ) (used : ℕ) (long : length bytes ≡ 8 * length before) (is : used ≡ used_rows (elements 8 bytes))
    (zeros : each (λ byte. eqb byte 0) (drop (8 * used) bytes) ≡ true) where
  abbrev all : List ℕ
  all = elements 8 bytes

  rows : length all ≡ length before
  rows = row_count bytes long

  used_inside : used ≤ length before
  used_inside = used_few bytes long is

  byte_zero : (i : ℕ) → 8 * used ≤ i → get_or bytes i 0 ≡ 0
  byte_zero i behind =
      let held = (each_all (λ byte. eqb byte 0) (λ byte. byte ≡ 0) (λ byte. equals byte 0) (drop (8 * used) bytes)).0 (rw zeros tt) in
      let there : 8 * used + (i - 8 * used) ≡ i = omega arith in
      rw (get_or-drop, there) at (all_get_d (λ byte. byte ≡ 0) (drop (8 * used) bytes) 0 held refl (i - 8 * used))

  row_zero : ZeroFrom used all
  row_zero row behind = go (dec_lt row (length bytes / 8))
    where
      go : Dec (row < length bytes / 8) → get_or all row 0 ≡ 0
      go (no outside) = get_or-eq_default all 0 (omega (arith, length_words 8 (length bytes / 8) bytes))
      go (yes inside) =
          word_at 8 (length bytes / 8) row bytes inside
          ∙ zero_number (take 8 (drop (8 * row) bytes)) λ i l.
          let near : i < 8 = omega (arith, length-take 8 (drop (8 * row) bytes)) in
          get_or-take 8 (drop (8 * row) bytes) i 0 near ∙ get_or-drop (8 * row) bytes i 0 ∙ byte_zero (8 * row + i) (omega arith)

  pub front_zero : length before ≤ most_term_rows → Front all used
  front_zero few = record { inside = omega (arith, used_inside, rows); zeros = row_zero; few = λ l. omega (arith, rows) }

  pub rest_zero : {out : List ℕ} → ZeroFrom 0 before → out ≡ words 8 used bytes ++ drop used before → out ≡ all
  rest_zero {out} clear e = e ∙ ext_get_or 0 (read ++ drop used before) all lengths λ i l. go i (dec_lt i used)
    where
      read : List ℕ
      read = words 8 used bytes

      lengths : length (read ++ drop used before) ≡ length all
      lengths = length-append read (drop used before) ∙ omega (arith, length_words 8 used bytes, length-drop used before, used_inside, rows)

      go : (i : ℕ) → Dec (i < used) → get_or (read ++ drop used before) i 0 ≡ get_or all i 0
      go i (yes earlier) =
          get_or-append read (drop used before) 0 i (omega (arith, length_words 8 used bytes))
          ∙ word_at 8 used i bytes earlier ∙ sym (word_at 8 (length bytes / 8) i bytes (omega (arith, used_inside)))
      go i (no behind) =
          let there : length read + (i - used) ≡ i = omega (arith, length_words 8 used bytes) in
          let from : used + (i - used) ≡ i = omega arith in
          (rw there at (get_or-append-add read (drop used before) (i - used) 0)) ∙ get_or-drop used before (i - used) 0 ∙ rw from (clear i (omega arith))
          ∙ sym (row_zero i (omega arith))

-- what stays on either side of the new rows
module _ {before after : List ℕ} {from to : ℕ} (same : SameBut before after from to) where
  same_front : from ≤ length after → take from before ≡ take from after
  same_front inside =
      let short = length-take-le from before (omega (arith, same.long)) in
      ext_get_or 0 (take from before) (take from after) (short ∙ sym (length-take-le from after inside)) λ i l.
      let near : i < from = omega (arith, short) in
      get_or-take from before i 0 near ∙ sym (same.others i (inl near)) ∙ sym (get_or-take from after i 0 near)

  same_rest : (place : ℕ) → min to (length after) ≤ place → drop place before ≡ drop place after
  same_rest place past =
      ext_get_or 0 (drop place before) (drop place after) (length-drop place before ∙ omega (arith, same.long, length-drop place after)) λ i l.
      let behind : to ≤ place + i = omega (arith, length-drop place before, same.long) in
      get_or-drop place before i 0 ∙ sym (same.others (place + i) (inr behind)) ∙ sym (get_or-drop place after i 0)

module _ (rows bytes : List ℕ) {from to : ℕ} (long : length bytes ≡ 8 * length rows) (below : Below 256 bytes) (same : SameBut (elements 8 bytes) rows from to) where
  exact : T (whole 8 bytes)
  exact = (equals (length bytes % 8) 0).1 (omega arith)

  -- up to the new rows the bytes are packed already
  pub packed_before : from ≤ length rows → Packed 8 rows bytes bytes from
  packed_before inside =
      record {
        within = inside;
        long = refl;
        written = rw (← (same_front same inside)) (spelled_front 8 bytes exact below from (omega (arith, same.long)));
      }

  -- and behind them
  pub packed_behind : {after : List ℕ} {place : ℕ} → Packed 8 rows bytes after place → min to (length rows) ≤ place → after ≡ spelled 8 rows
  packed_behind {place = place} so_far past =
      let rest = spelled_rest 8 bytes exact below place (omega (arith, same.long, so_far.within)) in
      so_far.written
      ∙ rw (← rest, same_rest same place past, ← (spelled_append 8 (take place rows) (drop place rows)), take-append-drop place rows)

-- the front of zero rows
pub zero_part : (count : ℕ) (rows : List ℕ) → ZeroFrom 0 rows → ZeroFrom 0 (take count rows)
zero_part count rows clear row l = go (dec_lt row count)
  where
    go : Dec (row < count) → get_or (take count rows) row 0 ≡ 0
    go (yes inside) = get_or-take count rows row 0 inside ∙ clear row l
    go (no outside) = get_or-eq_default (take count rows) 0 (omega (arith, length-take count rows))

-- rows that were unpacked, and then differ in new rows alone
pub new_rows : (bytes : List ℕ) {rows after : List ℕ} {from to end : ℕ} → rows ≡ elements 8 bytes → from ≡ used_rows (elements 8 bytes) → to ≡ end
    → SameBut rows after (used_rows rows) end → SameBut (elements 8 bytes) after from to
new_rows bytes r f t same = rw (f, t, ← r) same
