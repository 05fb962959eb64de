-- A pattern refused with 6 or 7 has no match and no creation.
use Prim.Native.Nat.{ℕ}
use mathlib.Core.Path.{◌≡◌, refl, sym, ◌∙◌, ap}
use mathlib.Core.Logic.{◌↔◌, inl, inr}
use mathlib.Core.Bool.{Bool, true, false, not}
use Rattle.std.specs.Prelude.{Option, None, Some}
use mathlib.Core.List.{List}
use native.Mathlib.Omega.{arith}
use lib.Dec.{T, eqb}
use lib.ListN.{get_or}
use Rattle.word.proofs.TestLaws.{equals}
use Rattle.answers.specs.declared.Compiled.{Compiled}
use Rattle.stores.specs.Cells.{unset, is_set}
use Rattle.patterns.specs.Tree.{pattern_of}
use Rattle.patterns.proofs.TreeLaws.{raws_below}
use Rattle.theory.specs.Outcome.{is_some}
use Rattle.theory.specs.TermModel.{Term, term_world}
use Rattle.theory.specs.Emission.{refuse}
use Rattle.theory.specs.Compilers.{compile↓, compile↑}
use Rattle.theory.specs.Figure2.{TermStores, Matches}
use Rattle.theory.specs.Figure3.{Creates}
use Rattle.numbers.specs.Kinds.{kind_in}
use Rattle.calls.specs.Compile.{entry, emitted, compile}
use Rattle.theory.proofs.Compiled.{known}
use Rattle.calls.proofs.SetCells as SetCells
use Rattle.calls.proofs.CompileLaws.{Checked}
use Rattle.calls.proofs.Product.{checked_right}
use Rattle.theory.proofs.Theorems.{figure2_then_match, figure3_then_create, refused_matching, refused_creating}
use Rattle.promises.specs.Demand3.{SetAs, Refused}
use Rattle.promises.proofs.CompileLaws.{compile_answered, kinds_long}

-- emission refused
pub record Emission (create : Bool) (pattern kinds objects named : List ℕ) : Type 0 where
  pub checks : Checked create pattern kinds objects named
  pub answer : Compiled
  pub refused : emitted create pattern kinds objects named ≡ refuse answer

emission_refused : (create : Bool) (pattern kinds objects named slice : List ℕ) → Refused (compile create pattern kinds objects named slice) → Emission create pattern kinds objects named
emission_refused create pattern kinds objects named slice (inl e) =
    let (c, q) = compile_answered create pattern kinds objects named slice (e, refl) in
    record { checks = c; answer = _; refused = q }
emission_refused create pattern kinds objects named slice (inr e) =
    let (c, q) = compile_answered create pattern kinds objects named slice (e, refl) in
    record { checks = c; answer = _; refused = q }

-- compile sees of the cells what the rules see of the terms
set_known : (cell : ℕ) (o : Option Term) → (o ≡ None) ↔ (cell ≡ unset) → is_set cell ≡ is_some o
set_known cell o says = go (eqb cell unset) (equals cell unset) o says
  where
    go : (b : Bool) → T b ↔ (cell ≡ unset) → (o : Option Term) → (o ≡ None) ↔ (cell ≡ unset) → not b ≡ is_some o
    go true same None says = refl
    go true same (Some m) says = absurd (let e : Some m ≡ None = says.1 (same.0 tt) in let z : ◌≡◌ {A = ℕ} 0 1 = cc in omega arith)
    go false same None says = absurd (same.1 (says.0 refl))
    go false same (Some m) says = refl

entry_known : (objects named : List ℕ) (n : TermStores) → SetAs objects named n → entry objects named ≡ known term_world n
entry_known objects named n s =
    SetCells.entry_known term_world objects named n
    (λ v. set_known (get_or objects v unset) (n.σ v) (s.object_cells v)) (λ r. set_known (get_or named r unset) (n.ρ r) (s.named_cells_lem r))

module _ (pattern kinds objects named slice : List ℕ) where
  pub no_match : Refused (compile false pattern kinds objects named slice) → {n n' : TermStores} {m : Term} → SetAs objects named n → Matches (kind_in kinds) n (pattern_of pattern) m n' → ⊥
  no_match r {n} {n'} {m} s h =
      let E = emission_refused false pattern kinds objects named slice r in
      refused_matching term_world (kind_in kinds) (pattern_of pattern) (raws_below pattern) n (ap (compile↓ (pattern_of pattern)) (sym (entry_known objects named n s)) ∙ E.refused) (Some m) n'
      (figure2_then_match (kind_in kinds) (checked_right false pattern kinds objects named (kinds_long false pattern kinds objects named slice E.checks) E.checks) h)

  pub no_creation : Refused (compile true pattern kinds objects named slice) → {n n' : TermStores} {m : Term} → SetAs objects named n → Creates (kind_in kinds) n (pattern_of pattern) m n' → ⊥
  no_creation r {n} {n'} {m} s h =
      let E = emission_refused true pattern kinds objects named slice r in
      refused_creating term_world (kind_in kinds) (pattern_of pattern) (raws_below pattern) n (ap (compile↑ (kind_in kinds) (pattern_of pattern)) (sym (entry_known objects named n s)) ∙ E.refused) (m, n')
      (figure3_then_create (kind_in kinds) (checked_right true pattern kinds objects named (kinds_long true pattern kinds objects named slice E.checks) E.checks) h)
