-- The engine's outcome: a refusal with the values on entry, or what the walk leaves.
use Prim.Native.Nat.{ℕ}
use mathlib.Core.Path.{◌≡◌, refl}
use mathlib.Core.Bool.{Bool, false}
use mathlib.Core.Logic.{◌⊎◌, ⊎_elim}
use Rattle.std.specs.Prelude.{Option, None, Some, Ok, Err}
use mathlib.Core.List.{List}
use native.Mathlib.Omega.{arith}
use lib.ListN.{length}
use Rattle.word.proofs.TestLaws.{is_false}
use Rattle.answers.specs.First.{first}
use Rattle.answers.specs.declared.direct.Direct.{Direct}
use Rattle.answers.specs.declared.direct.Direct.TheVariants.{Limit}
use Rattle.numbers.specs.Limits.{variables, named_cells}
use Rattle.terms.specs.Rules.{used_rows}
use Rattle.calls.specs.Compile.{lengths_fit}
use Rattle.calls.specs.Run.{Lent}
use Rattle.calls.specs.Direct.{DirectOutcome, direct_ends, ruled, direct_by, direct}
use Rattle.calls.proofs.CompileLaws.{compile_within}
use Rattle.running.proofs.EndLaws.{with_cells}
use Rattle.engine.specs.Found.{found_before, direct_refusals}
use Rattle.engine.specs.Walking.{Walkable}

module _ (create : Bool) (pattern : List ℕ) (x : Lent) where
  by_some : (o : Option Direct) {answer : Direct} → Err answer ≡ found_before o x.terms → o ≡ Some answer
  by_some (Some other) e = cc
  by_some None e = absurd (let z : ◌≡◌ {A = ℕ} 0 1 = cc in omega arith)

  by_none : (o : Option Direct) {used : ℕ} → Ok used ≡ found_before o x.terms → (o ≡ None) × (used ≡ used_rows x.terms)
  by_none None e = (refl, cc)
  by_none (Some other) e = absurd (let z : ◌≡◌ {A = ℕ} 0 1 = cc in omega arith)

  pub direct_refused : {answer : Direct} → Err answer ≡ found_before (first (direct_refusals create pattern x)) x.terms → direct_by create pattern x (Some answer) ≡ direct create pattern x
  unfolding direct
  direct_refused e = rw (by_some (first (direct_refusals create pattern x)) e)

  pub direct_walkable : {used : ℕ} → Ok used ≡ found_before (first (direct_refusals create pattern x)) x.terms → Walkable create pattern x used
  direct_walkable e = let (passes, counted) = by_none (first (direct_refusals create pattern x)) e in record { passes = passes; counted = counted }

  pub direct_walked : {used : ℕ} {left : DirectOutcome} → Ok used ≡ found_before (first (direct_refusals create pattern x)) x.terms
      → left ≡ direct_ends x (ruled create pattern x create) → left ≡ direct create pattern x
  unfolding direct
  direct_walked e walked = rw (direct_walkable e).passes walked

  -- 1, by the lengths of the cells
  pub direct_limit : (length x.objects ≡ variables → ⊥) ⊎ ((length x.objects ≡ variables) × (length x.messages ≡ named_cells → ⊥)) → direct_by create pattern x (Some Limit) ≡ direct create pattern x
  unfolding direct first
  direct_limit short =
      let wrong : lengths_fit create pattern x.kinds x.objects x.messages ≡ false =
      is_false (lengths_fit create pattern x.kinds x.objects x.messages) (λ t. let within = (compile_within create pattern x.kinds x.objects x.messages).0 t in
      ⊎_elim (λ n. n within.objects_length) (λ n. n.1 within.named_length) short) in
      rw wrong

  -- on copies of the cells, copied back
  pub direct_back : {answer : Direct} {objects named objects' named' objects'' named'' terms : List ℕ} {accumulator counter : ℕ}
      → objects ≡ x.objects → named ≡ x.messages
      → record { answer = answer; objects = objects'; named = named'; accumulator = accumulator; terms = terms; counter = counter } ≡ direct create pattern (with_cells x objects named)
      → objects'' ≡ objects' → named'' ≡ named'
      → record { answer = answer; objects = objects''; named = named''; accumulator = accumulator; terms = terms; counter = counter } ≡ direct create pattern x
  direct_back o n e o' n' = rw (o', n') (rw (o, n) at e)
