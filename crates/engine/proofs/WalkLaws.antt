-- A walk from the root comes to what the rules give; what does not end leaves the values on entry.
use Prim.Native.Nat.{ℕ, ◌<◌, ◌≤◌}
use mathlib.Core.Path.{◌≡◌, refl, sym, ◌∙◌, ap, subst}
use mathlib.Core.Logic.{⊎_elim}
use mathlib.Core.Bool.{Bool, true, false, not}
use Rattle.std.specs.Prelude.{Option, None, Some, Err, Ok}
use mathlib.Core.List.{List, ◌++◌}
use native.Mathlib.Decide.{dec_lt}
use native.Mathlib.Omega.{arith}
use lib.ListN.{length, get_or}
use lib.Seq.{ext_get_or, get_or-take, take_all}
use Rattle.word.proofs.TestLaws.{both, twice, at_most}
use Rattle.answers.specs.First.{first}
use Rattle.answers.specs.declared.direct.Direct.TheVariants as Direct
use Rattle.numbers.specs.Kinds.{kind_in}
use Rattle.numbers.specs.Sorts.{as_term_row}
use Rattle.numbers.specs.Limits.{variables, named_cells, most_term_rows, most_pattern_rows}
use Rattle.patterns.specs.Pattern.{Pattern}
use Rattle.patterns.specs.Rules.{bad_pattern}
use Rattle.patterns.specs.Tree.{pattern_of}
use Rattle.stores.specs.Cells.{held}
use Rattle.terms.specs.Rules.{used_rows, bad_term}
use Rattle.terms.proofs.TableLaws.{used_rows_lem, valid_table}
use Rattle.theory.specs.Outcome.{Outcome, done, bind}
use Rattle.theory.specs.RowModel.{row_world}
use Rattle.theory.specs.Machine.{Stores}
use Rattle.theory.specs.Rules.{match}
use Rattle.theory.specs.Rules as Rules
use Rattle.calls.specs.Compile.{refusals}
use Rattle.calls.specs.Run.{Lent, state_over, state_of}
use Rattle.calls.specs.Direct.{DirectOutcome, refused_as, direct_ends, pattern_refusals, table_fits, ruled}
use Rattle.calls.specs.CompileThenRun.{handed_back}
use Rattle.calls.proofs.CompileLaws.{first_none, first_before, when_none, map_none, compile_within, checked}
use Rattle.calls.proofs.RunLaws.{stores_fit, stores_valid}
use Rattle.execution.specs.Steps.{Cleared}
use Rattle.execution.proofs.CellLaws.{cells_back}
use Rattle.machine.specs.Machine.{Slices, slices, Within}
use Rattle.leaf_matching.specs.Matched.{meets}
use Rattle.walk_leaves.specs.Creation.{creation, CreatesBy}
use Rattle.walks.specs.Walks.{Walked, stores_at, Kept, Comes, goes, sticks, fills, stores_alone}
use Rattle.walks.specs.declared.Walk.{Walk}
use Rattle.walks.specs.declared.Ended.{Ended}
use Rattle.engine.specs.Walking.{handed, walk_rule, ended_as, Walkable}

-- checks of which the first ones refuse nothing
first_front : {A : Type 0} (checks more : List (Option A)) → first (checks ++ more) ≡ None → first checks ≡ None
first_front {A} checks more e = go (first checks) refl
  where
    go : (o : Option A) → first checks ≡ o → first checks ≡ None
    go None q = q
    go (Some answer) q = let r = first_before checks more answer q in absurd (let z : ◌≡◌ {A = ℕ} 0 1 = cc in omega arith)

-- what the checks leave true
pub record Given (pattern : List ℕ) (x : Lent) : Type 0 where
  pub least : 1 ≤ length pattern
  pub most : length pattern ≤ most_pattern_rows
  pub rows_good : bad_pattern pattern ≡ None
  pub objects_length : length x.objects ≡ variables
  pub named_length : length x.messages ≡ named_cells
  pub few_rows : length x.terms ≤ most_term_rows
  pub zeros : (row : ℕ) → used_rows x.terms ≤ row → get_or x.terms row 0 ≡ 0
  pub small : x.accumulator < 65536

pub walkable_given : {create : Bool} {pattern : List ℕ} {x : Lent} {used : ℕ} → Walkable create pattern x used → Given pattern x
walkable_given {create} {pattern} {x} w =
    let (looks, e) = first_none _ _ w.passes in
    let (limits, e) = first_none _ _ e in
    let (rows, e) = first_none _ _ e in
    let (stores, e) = first_none _ _ e in
    let c = checked create pattern x.kinds x.objects x.messages
    (first_front (refusals create pattern x.kinds x.objects x.messages) _ (map_none refused_as (first (pattern_refusals create pattern x)) looks)) in
    let whole = (compile_within create pattern x.kinds x.objects x.messages).0 c.lengths in
    let fits = simp (both, at_most) at ((twice (table_fits x)).0 (when_none (not (table_fits x)) Direct.Limit limits)) in
    let good = (stores_valid x).0 ((twice (stores_fit x)).0 (when_none (not (stores_fit x)) Direct.BadStore stores)) in
    record {
      least = whole.pattern_rows_lem.0;
      most = whole.pattern_rows_lem.1;
      rows_good = c.rows;
      objects_length = whole.objects_length;
      named_length = whole.named_length;
      few_rows = fits.0.1;
      zeros = ((valid_table x.terms x.counter).0 (map_none Direct.BadTerm (bad_term x.terms x.counter) rows)).zeros;
      small = ⊎_elim (λ e. omega (arith, e)) (λ l. omega (arith, l, (used_rows_lem x.terms).inside, fits.0.1)) good.held;
    }

-- however a walk ends, the rows that were used are kept
comes_kept : {A : Type 0} {seen : ℕ → Stores row_world → A} {used : ℕ} {before after : Slices} {o : Outcome A} {answer : Walked} → Comes seen used before o answer after → Kept used before after
comes_kept (goes e on kept) = kept
comes_kept (sticks e kept) = kept
comes_kept (fills kept) = kept

-- a match hands back what it was given
match_handed : {given used : ℕ} {before after : Slices} {o : Outcome (Stores row_world)} {answer : Walked}
    → Comes stores_alone used before o answer after → Comes (handed false given) used before (bind o λ n. done (given, n)) answer after
match_handed {given} (goes e on kept) = goes (ap (λ n. (given, n)) e) on kept
match_handed (sticks e kept) = sticks e kept
match_handed (fills kept) = fills kept

-- either direction's walk, by its rule
module _ {create : Bool} (kinds : List ℕ) (p : Pattern) (w : Walk) {before after : Slices} {answer : Walked} where
  pub created_walks : create ≡ true → CreatesBy kinds p w before answer after
      → Comes (handed create w.message.0) w.used before (walk_rule create kinds p w (stores_at w before)) answer after
  created_walks e c = rw e c

  pub matched_walks : create ≡ false → Comes stores_alone w.used before (meets (kind_in kinds) p w (stores_at w before)) answer after
      → Comes (handed create w.message.0) w.used before (walk_rule create kinds p w (stores_at w before)) answer after
  matched_walks e c = rw e (match_handed c)

module _ {create : Bool} {pattern : List ℕ} {x : Lent} {used : ℕ} (w : Walkable create pattern x used) where
  abbrev start : Walk
  start = record { message = as_term_row x.accumulator; used = used; counter = x.counter }

  abbrev lent : Slices
  lent = slices x.objects x.messages x.terms x.certificates

  given : Given pattern x
  given = walkable_given w

  -- what a walk that goes on to the end leaves
  abbrev pub done_with : Walk → Slices → DirectOutcome
  done_with next after = record {
    answer = Direct.Done;
    objects = after.objects;
    named = after.messages;
    accumulator = handed_back create x.accumulator next.message.0;
    terms = after.rows;
    counter = next.counter;
  }

  pub within : Within x.terms used
  within = record { used_rows_lem = rw w.counted (used_rows_lem x.terms).inside; few_rows = given.few_rows }

  same_stores : stores_at start lent ≡ (state_of x).stores
  same_stores =
      ap (λ rows. (state_over x.accumulator x.objects x.messages (record { rows = x.terms; used = rows; counter = x.counter; certificates = x.certificates })).stores)
      w.counted

  -- rows that the walk added are cleared again
  undone : {after : Slices} {rows : List ℕ} → Kept used lent after → Cleared after.rows used (length after.rows) rows → rows ≡ x.terms
  undone {after} {rows} kept cleared =
      ext_get_or 0 rows x.terms (cleared.long ∙ kept.lengths.rows_length) (λ row l. go row (omega (arith, cleared.long, l)) (dec_lt row used))
    where
      go : (row : ℕ) → row < length after.rows → Dec (row < used) → get_or rows row 0 ≡ get_or x.terms row 0
      go row l (yes below) =
          cleared.below row below ∙ sym (get_or-take used after.rows row 0 below) ∙ ap (λ front. get_or front row 0) kept.rows ∙ get_or-take used x.terms row 0 below
      go row l (no from) = cleared.zeros row (omega (arith, from)) l ∙ sym (given.zeros row (omega (arith, from, w.counted)))

  module _ {after : Slices} where
    ended_next : {next : Walk} (o : Outcome (ℕ × Stores row_world)) → Comes (handed create x.accumulator) used lent o (Ok next) after
        → done_with next after
        ≡ direct_ends x o
    unfolding state_over
    ended_next {next} o (goes e on kept) =
        let few : length after.objects ≡ 64 = kept.lengths.objects_length ∙ given.objects_length in
        let named : length after.messages ≡ 64 = kept.lengths.messages_length ∙ given.named_length in
        rw (← e, take_all 64 after.messages (omega (arith, named)), cells_back after.objects 64 few, cells_back after.messages 64 named)

    ended_back : {ended : Ended} {rows : List ℕ} (o : Outcome (ℕ × Stores row_world)) → Comes (handed create x.accumulator) used lent o (Err ended) after
        → Cleared after.rows used (length after.rows) rows
        → record { answer = ended_as ended; objects = x.objects; named = x.messages; accumulator = x.accumulator; terms = rows; counter = x.counter } ≡ direct_ends x o
    ended_back o (sticks e kept) cleared = rw (undone kept cleared, ← e)
    ended_back o (fills kept) cleared = rw (undone kept cleared)

  -- each way out of the walk
  module _ {p : Pattern} (same : p ≡ pattern_of pattern) {answer : Walked} {after : Slices}
      (walks : Comes (handed create x.accumulator) used lent (walk_rule create x.kinds p start (stores_at start lent)) answer after) where
    by_rule : (b : Bool) → walk_rule b x.kinds p start (stores_at start lent) ≡ ruled create pattern x b
    unfolding creation
    by_rule true = λ i. Rules.create row_world (kind_in x.kinds) (same i) (same_stores i)
    by_rule false = λ i. bind (match row_world (kind_in x.kinds) (same i) (held x.accumulator) (same_stores i)) λ n. done (x.accumulator, n)

    comes : Comes (handed create x.accumulator) used lent (ruled create pattern x create) answer after
    comes = subst (λ o. Comes (handed create x.accumulator) used lent o answer after) (by_rule create) walks

    pub walk_span : used ≤ length after.rows
    walk_span = rw (comes_kept comes).lengths.rows_length within.used_rows_lem

    pub walk_done : {next : Walk} → answer ≡ Ok next
        → done_with next after
        ≡ direct_ends x (ruled create pattern x create)
    walk_done e = ended_next _ (rw e at comes)

    pub walk_ended : {ended : Ended} {left : List ℕ} → answer ≡ Err ended → Cleared after.rows used (length after.rows) left
        → record { answer = ended_as ended; objects = x.objects; named = x.messages; accumulator = x.accumulator; terms = left; counter = x.counter }
        ≡ direct_ends x (ruled create pattern x create)
    walk_ended e cleared = ended_back _ (rw e at comes) cleared
