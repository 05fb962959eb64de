-- How a creation gives a variable its value.
use Rattle.std.specs.Prelude.{ℕ, List}
use Rattle.std.specs.Prelude.{Some}
use Rattle.numbers.specs.Kinds.{kind_in}
use Rattle.patterns.specs.Pattern.{Key}
use Rattle.theory.specs.Outcome.{Outcome, done, bind, at}
use Rattle.theory.specs.World.{Op, create}
use Rattle.theory.specs.RowModel.{row_world}
use Rattle.theory.specs.Machine.{Stores, set_object, set_memory}
use Rattle.theory.specs.Rules.{made, decodes, create_key}

-- the key of a created E or S, a plain one being a variable that is read or created
unfoldable pub key_rule : List ℕ → ℕ → Key → Stores row_world → Outcome (ℕ × Stores row_world)
key_rule kinds row key n = create_key row_world (kind_in kinds) row key n

-- a new name of a kind becomes the value of v
abbrev pub names : ℕ → ℕ → ℕ → Stores row_world → Outcome (ℕ × Stores row_world)
names row v kind n = bind (at row (row_world.apply (create kind) n.memory)) λ r. done (r.0, set_object row_world (set_memory row_world n r.1) v r.0)

-- E, S and H: what is made is decoded into the variable
unfoldable pub seals : List ℕ → ℕ → ℕ → Op ℕ → Stores row_world → Outcome (ℕ × Stores row_world)
seals kinds row v o n =
    bind (at row (row_world.apply o n.memory)) λ r. decodes row_world (kind_in kinds) row v (Some r.0) (set_memory row_world n r.1) (made row_world (kind_in kinds))
