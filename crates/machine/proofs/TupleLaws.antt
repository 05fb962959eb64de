-- ANALYZE TUPLE and CREATE TUPLE, a way out at a time.
use Rattle.std.specs.Prelude.{Some, None, Ok, Err}
use Prim.Native.Nat.{ℕ, zero, suc, ◌+◌, ◌<◌, ◌≤◌}
use mathlib.Core.Path.{◌≡◌, refl, sym, ◌∙◌, ap}
use mathlib.Core.List.{List, [], ◌∷◌}
use native.Mathlib.Nat.{add-zero}
use native.Mathlib.Numerals.{add-one}
use native.Mathlib.Omega.{arith}
use lib.ListN.{length, get_or, take, drop, set}
use lib.Seq.{get_or-drop}
use Rattle.answers.specs.Numbers.{reason_number}
use Rattle.answers.specs.declared.Reason.{Reason}
use Rattle.answers.specs.declared.Reason.TheVariants.{Unset}
use Rattle.numbers.specs.declared.Object.{Object}
use Rattle.numbers.specs.declared.Raw.{Raw}
use Rattle.numbers.specs.declared.TermRow.{TermRow}
use Rattle.code.specs.declared.Instruction.TheVariants.{AnalyzeTuple, CreateTuple}
use Rattle.word.specs.Fields.{split, at}
use Rattle.terms.specs.Shape.{parts_of}
use Rattle.terms.specs.Row.{term_widths, shape_of}
use Rattle.terms.specs.Finder.{Found}
use Rattle.terms.proofs.FieldLaws.{slot_below}
use Rattle.terms.proofs.ShapeLaws.{parts_at}
use Rattle.stores.specs.Cells.{unset}
use Rattle.theory.specs.Outcome.{Outcome, done}
use Rattle.theory.specs.World.{tuple}
use Rattle.world.specs.Operations.{MakesWord, PartsOver}
use Rattle.theory.specs.RowModel.{Table, row_world}
use Rattle.theory.specs.Machine.{messages as reading}
use Rattle.calls.specs.Run.{state_over}
use Rattle.machine.specs.Machine.{Slices, with_objects, with_messages, with_term_rows, state_at, using_rows, spread, next, stuck, DoesStep, Answered}
use Rattle.machine.specs.declared.Registers.{Registers}
use Rattle.machine.specs.declared.Halt.TheVariants.{Stuck, NoRoom}
use Rattle.machine.proofs.SetLaws.{SetIn, UnsetIn, object_given, row-ways}
use Rattle.machine.proofs.FoundLaws.{Finds, finds}
use Rattle.machine.proofs.StateLaws.{inside, spread_length, spread_same, object_unset, message_unset, message_row, messages_set}
use Rattle.machine.proofs.AskLaws.{makes, parted_tuple, parted_not}
use Rattle.machine.proofs.AgreeLaws.{reads, gets, answers_as, unset_stops, stops, finds_no_room, makes_object}

-- one part more is written
pub spread_none : (cells : List ℕ) (b : ℕ) (row : ℕ → ℕ) → cells ≡ spread cells b 0 row
unfolding spread
spread_none cells b row = refl

pub spread_more : (cells after : List ℕ) (b i part : ℕ) (row : ℕ → ℕ) → after ≡ spread cells b i row → part ≡ row i → set after (b + i) part ≡ spread cells b (i + 1) row
unfolding spread
spread_more cells after b i part row e p = rw (add-one, e, p)

-- a part of a row is a field of its word, and a row's number
part_field : (word row i : ℕ) → i < length (parts_of (shape_of word)) → get_or (parts_of (shape_of word)) i row ≡ at (3 + i) (split term_widths word)
part_field word row i l = inside (parts_of (shape_of word)) i row 0 l ∙ parts_at word i l

part_row : (word row i : ℕ) → i < length (parts_of (shape_of word)) → get_or (parts_of (shape_of word)) i row ≡ unset → ⊥
part_row word row i l e =
    let same : get_or (drop 3 (split term_widths word)) i 0 ≡ unset = get_or-drop 3 (split term_widths word) i 0 ∙ sym (part_field word row i l) ∙ e in
    omega (arith, slot_below word i)

module _ (g : Registers) (rows objects messages : List ℕ) (t : Object) (b : Raw) (n : ℕ) (kind : ℕ → ℕ) (cell : TermRow) (read : cell.0 ≡ get_or objects t.0 unset) where
  abbrev Analyzes : Answered → List ℕ → Type 0
  Analyzes answer messages' =
      DoesStep kind (AnalyzeTuple t b n) g (λ x. with_term_rows (with_messages (with_objects x objects) messages) rows) answer
      (λ x. with_term_rows (with_messages (with_objects x objects) messages') rows)

  pub analyze_unset : (answer : Answered) → UnsetIn cell answer → Analyzes answer messages
  analyze_unset answer out x = rw out.stops (unset_stops _ _ (object_unset _ _ _ _ t.0 read out.is_unset))

  module _ (row : TermRow) (set_row : SetIn cell row) where
    pub analyze_not : (answer : Answered) (reason : Reason) → PartsOver rows row.0 n (Err reason) → answer ≡ Err (Stuck reason) → Analyzes answer messages
    analyze_not answer reason parts e x = rw e (reads _ _ (object_given _ _ _ _ set_row t.0 read) (stops _ _ (parted_not _ _ _ _ parts refl)))

    pub analyze_next : (word : ℕ) (messages' : List ℕ) → PartsOver rows row.0 n (Ok word) → b.0 + n ≤ length messages
        → messages' ≡ spread messages b.0 n (λ i. at (3 + i) (split term_widths word)) → Analyzes (Ok g) messages'
    analyze_next word messages' parts fits e x =
        let exact : length (parts_of (shape_of word)) ≡ n = parts.exactly word refl in
        let short : (i : ℕ) → i < n → i < length (parts_of (shape_of word)) = λ i l. omega arith in
        let written : messages' ≡ spread messages b.0 n (λ i. get_or (parts_of (shape_of word)) i row.0) =
        e ∙ spread_same messages b.0 n _ _ (λ i l. sym (part_field word row.0 i (short i l))) in
        rw written (reads _ _ (object_given _ _ _ _ set_row t.0 read)
        (gets _ _ (parted_tuple _ _ _ _ parts refl)
        (next (messages_set _ _ _ _ b.0 n _ fits (λ i l. part_row word row.0 i (short i l)))
        (record { objects_length = refl; messages_length = spread_length messages b.0 n _; rows_length = refl }))))

pub ruleset analyze-ways = (row-ways, analyze_unset, analyze_not, analyze_next)

-- the first i of n cells are set, and are gathered among four
pub record Gathered (messages : List ℕ) (b : ℕ) (parts : List ℕ) (i : ℕ) : Type 0 where
  pub four : length parts ≡ 4
  pub each : (k : ℕ) → k < i → get_or parts k 0 ≡ get_or messages (b + k) unset
  pub are_rows : (k : ℕ) → k < i → get_or parts k 0 ≡ unset → ⊥

-- what CREATE TUPLE reads
module _ (accumulator : ℕ) (objects messages : List ℕ) (table : Table) (place : ℕ) where
  abbrev read : ℕ → ℕ → Outcome (List ℕ)
  read b n = reading row_world place (state_over accumulator objects messages table) b n

  -- a cell counted from the next
  shifted : (b k : ℕ) → get_or messages (b + suc k) unset ≡ get_or messages (suc b + k) unset
  shifted b k = let same : b + suc k ≡ suc b + k = omega arith in ap (λ j. get_or messages j unset) same

  pub reads_all : (parts : List ℕ) (b n : ℕ) → n ≤ length parts → ((k : ℕ) → k < n → get_or parts k 0 ≡ get_or messages (b + k) unset)
      → ((k : ℕ) → k < n → get_or parts k 0 ≡ unset → ⊥) → read b n ≡ done (take n parts)
  unfolding reading
  reads_all parts b zero fits each are_rows = refl
  reads_all [] b (suc n) fits each are_rows = absurd (omega arith)
  reads_all (part ∷ parts) b (suc n) fits each are_rows =
      rw (
        message_row accumulator objects messages table b {row = part} (rw add-zero at (each 0 (omega arith))) (are_rows 0 (omega arith)),
        reads_all parts (suc b) n (omega arith) (λ k l. each (suc k) (omega arith) ∙ shifted b k) (λ k l. are_rows (suc k) (omega arith)),
      )

  pub reads_unset : (b i n : ℕ) → i < n → ((k : ℕ) → k < i → get_or messages (b + k) unset ≡ unset → ⊥) → get_or messages (b + i) unset ≡ unset
      → read b n ≡ Outcome.stuck place (reason_number Unset)
  unfolding reading
  reads_unset b i zero l are_rows e = absurd (omega arith)
  reads_unset b zero (suc n) l are_rows e = rw (message_unset accumulator objects messages table b refl (rw add-zero at e))
  reads_unset b (suc i) (suc n) l are_rows e =
      rw (
        message_row accumulator objects messages table b refl (rw add-zero at (are_rows 0 (omega arith))),
        reads_unset (suc b) i n (omega arith) (λ k l q. are_rows (suc k) (omega arith) (shifted b k ∙ q)) (sym (shifted b i) ∙ e),
      )

module _ (g : Registers) (rows objects messages : List ℕ) (t : Object) (b : Raw) (n : ℕ) (kind : ℕ → ℕ) (i : ℕ) (parts : List ℕ) (gathered : Gathered messages b.0 parts i) where
  abbrev over : List ℕ → List ℕ → Slices → Slices
  over objects rows x = with_term_rows (with_messages (with_objects x objects) messages) rows

  abbrev Creates : Answered → List ℕ → List ℕ → Type 0
  Creates answer objects' rows' = DoesStep kind (CreateTuple t b n) g (λ x. over objects rows x) answer (λ x. over objects' rows' x)

  pub create_tuple_unset : (cell : TermRow) (answer : Answered) → i < n → cell.0 ≡ get_or messages (b.0 + i) unset → UnsetIn cell answer → Creates answer objects rows
  create_tuple_unset cell answer l read out x =
      rw (out.stops, reads_unset _ _ _ _ g.place b.0 i n l (λ k h q. gathered.are_rows k h (gathered.each k h ∙ q)) (sym read ∙ out.is_unset)) (stuck refl refl)

  module _ (past : n ≤ i) (small : n ≤ 4) (word : ℕ) (made : MakesWord (tuple (take n parts)) word) (rows' : List ℕ) (found : Found) (answer : Finds rows g.used word found rows') where
    all_read : (x : Slices) → reading row_world g.place (state_at g (over objects rows x)) b.0 n ≡ done (take n parts)
    all_read x =
        reads_all _ _ _ _ g.place parts b.0 n (omega (arith, gathered.four)) (λ k l. gathered.each k (omega arith)) (λ k l. gathered.are_rows k (omega arith))

    pub create_tuple_full : found ≡ None → Creates (Err NoRoom) objects rows'
    create_tuple_full e x = rw (all_read x) (answers_as _ _ (makes _ _ _ _ made) (finds_no_room g _ answer _ _ e))

    pub create_tuple_next : (row : TermRow) (used : ℕ) (objects' : List ℕ) (g₁ : Registers) → t.0 < length objects → found ≡ Some (row, used) → objects' ≡ set objects t.0 row.0
        → g₁ ≡ using_rows g used → Creates (Ok g₁) objects' rows'
    create_tuple_next row used objects' g₁ inside e w p x = rw (w, p, all_read x) (answers_as _ _ (makes _ _ _ _ made) (makes_object g _ answer _ e t.0 inside))

pub ruleset create-tuple-ways = (row-ways, create_tuple_unset, create_tuple_full, create_tuple_next, finds)
