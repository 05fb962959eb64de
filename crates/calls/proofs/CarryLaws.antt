-- A finished half leaves set exactly the cells that the next half is compiled for, and as many rows and names free as it did not have words.
use Prim.Native.Nat.{ℕ, ◌+◌}
use mathlib.Core.Path.{◌≡◌, refl, sym, ◌∙◌, ap, subst}
use mathlib.Core.Bool.{Bool, true, false}
use mathlib.Core.List.{List, map}
use native.Mathlib.Omega.{arith}
use lib.ListN.{length, take}
use Rattle.answers.specs.declared.Ran.{Ran}
use Rattle.patterns.specs.Pattern.{Pattern, RawsBelow}
use Rattle.patterns.specs.Tree.{pattern_of}
use Rattle.patterns.proofs.TreeLaws.{raws_below}
use Rattle.theory.specs.Outcome.{done}
use Rattle.theory.specs.World.{World}
use Rattle.theory.specs.RowModel.{row_world}
use Rattle.theory.specs.Machine.{Line, State, exec}
use Rattle.theory.specs.Emission.{Env, ok}
use Rattle.theory.proofs.Compiled.{known_from, known, matching_sets, creating_sets}
use Rattle.theory.proofs.Places.{moved_to, moved_done, same_instructions}
use Rattle.theory.proofs.Room.{Free, left_free}
use Rattle.numbers.specs.Limits.{named_cells}
use Rattle.numbers.specs.Kinds.{kind_in}
use Rattle.calls.specs.Compile.{code_words, tables, entry}
use Rattle.calls.specs.Half.{half}
use Rattle.calls.specs.Role.{again}
use Rattle.calls.specs.Run.{Lent, lent_after, lines_of, state_of, left_by}
use Rattle.calls.proofs.RunLaws.{steps_of, Passed}
use Rattle.calls.proofs.SetCells.{lent_known}
use Rattle.calls.proofs.CompiledWords.{compiled_words_read}
use Rattle.calls.proofs.FrameLaws.{lines_few}
use Rattle.calls.proofs.StateBack.{state_back}
use Rattle.calls.proofs.HalfLaws.{half_done}

-- both directions
tables_set : (create : Bool) (W : World) (kind : ℕ → ℕ) (p : Pattern) → RawsBelow 64 p → (s t : State W) {c : List Line} {e : Env}
    → tables create kind p (known W s.stores) ≡ ok c e → exec W kind c s ≡ done t → e ≡ known_from W e.next t.stores
tables_set true W kind p below s t = creating_sets W kind p below s t
tables_set false W kind p below s t = matching_sets W kind p below s t

module _ {x : Lent} {code : List ℕ} (p : Passed x code) (t : State row_world) (steps : steps_of x code ≡ done t) (answer : Ran) where
  abbrev after : Lent
  after = lent_after x (left_by answer t)

  -- the cells set afterwards are those of the last state
  set_after : entry after.objects (take named_cells after.messages) ≡ known row_world t.stores
  set_after = lent_known after ∙ ap (λ s. known row_world s.stores) (state_back p t steps answer)

  pub carried : (create : Bool) (rows : List ℕ) {lines : List Line} {e : Env}
      → half create rows x.kinds (entry x.objects (take named_cells x.messages)) ≡ ok lines e → code_words lines ≡ code → entry after.objects (take named_cells after.messages) ≡ again e
  carried create rows {lines} {e} compiles words =
      let h = half_done create rows x.kinds (entry x.objects (take named_cells x.messages)) refl lines e compiles in
      let read = ap (λ words. map (λ l. l.instruction) (lines_of words)) (sym words) ∙ compiled_words_read (kind_in x.kinds) lines h.limits.lines in
      let ends = moved_done 0 (exec row_world (kind_in x.kinds) lines (state_of x))
      (sym (same_instructions row_world (kind_in x.kinds) (lines_of code) lines (state_of x) read) ∙ ap (moved_to 0) steps) in
      let emits = ap (tables create (kind_in x.kinds) (pattern_of rows)) (sym (lent_known x)) ∙ h.emits in
      set_after ∙ sym (ap again (tables_set create row_world (kind_in x.kinds) (pattern_of rows) (raws_below rows) (state_of x) t emits ends))

  pub still_free : (n : ℕ) → Free (length code + n) (length code + n) (state_of x).stores.memory → Free n n (state_of after).stores.memory
  still_free n free =
      subst (λ s. Free n n s.stores.memory) (sym (state_back p t steps answer))
      (left_free (kind_in x.kinds) n (lines_of code) (state_of x) t (omega (arith, free, lines_few 0 code)) steps)
