-- What the engine finds before it walks: a refusal, or the number of used rows.
use Rattle.std.specs.Prelude.{ℕ, Bool, List, [], ◌∷◌, ◌++◌}
use Rattle.std.specs.Prelude.{Option, None, Some, Result, Ok, Err}
use Rattle.std.specs.Option.{option_map}
use Rattle.answers.specs.First.{first}
use Rattle.answers.specs.declared.Compiled.{Compiled}
use Rattle.answers.specs.declared.direct.Direct.{Direct}
use Rattle.terms.specs.Rules.{used_rows}
use Rattle.calls.specs.Run.{Lent}
use Rattle.calls.specs.Half.{known_refusals, known_emitted}
use Rattle.calls.specs.Direct.{refused_as, refused_by, pattern_refusals, store_refusals}

abbrev pub found_before : Option Direct → List ℕ → Result ℕ Direct
found_before (Some answer) rows = Err answer
found_before None rows = Ok (used_rows rows)

-- 1, 3, 4, 5 of compile, then 6 and 7, from which cells are set
abbrev pub known_looks : Bool → List ℕ → List ℕ → (ℕ → Bool) → (ℕ → Bool) → List (Option Compiled)
known_looks create rows kinds objects named =
    known_refusals create rows kinds objects ++ (refused_by (known_emitted create rows kinds (record { objects = objects; raws = named; next = 0 })) ∷ [])

-- every refusal in its order
abbrev pub direct_refusals : Bool → List ℕ → Lent → List (Option Direct)
direct_refusals creates pattern x = option_map refused_as (first (pattern_refusals creates pattern x)) ∷ store_refusals x
