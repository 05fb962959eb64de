-- Emission: 6 and 7 are decided where an instruction is emitted, its reads before its writes.
use Rattle.std.specs.Prelude.{ℕ, ◌+◌, Bool, true, false, cond, List, [], ◌∷◌, ◌++◌, ltb}
use Rattle.answers.specs.declared.Compiled.{Compiled}
use Rattle.answers.specs.declared.Compiled.TheVariants.{WrittenWhileSet, ReadWhileUnset}
use Rattle.numbers.specs.declared.Raw.{Raw}
use Rattle.code.specs.declared.Instruction.{Instruction}
use Rattle.theory.specs.Store.{put}
use Rattle.theory.specs.Machine.{Line, line_at, named}
use Rattle.theory.specs.Uses.{Used, object_at, message_at, messages_at, Uses, uses_of}
use Rattle.numbers.specs.Limits.{named_cells}

-- which variables are set, and the next scratch number not taken
pub record Env : Type 0 where
  pub objects : ℕ → Bool
  pub raws : ℕ → Bool
  pub next : ℕ

-- the message cell in which a raw variable stands
abbrev pub raw_cell : Env → ℕ → Raw
raw_cell e r = named r

-- code and the environment after it, or a refusal
pub data Emitted : Type 0 where
  ok : List Line → Env → Emitted
  refuse : Compiled → Emitted

unfoldable pub behind : List Line → Emitted → Emitted
behind c (ok d e) = ok (c ++ d) e
behind c (refuse answer) = refuse answer

unfoldable pub and_then : Emitted → (Env → Emitted) → Emitted
and_then (ok c e) f = behind c (f e)
and_then (refuse answer) f = refuse answer

infixr 20 ◌then◌
abbrev pub ◌then◌ : (Env → Emitted) → (Env → Emitted) → Env → Emitted
◌then◌ a b e = and_then (a e) b

abbrev pub add_object : Env → ℕ → Env
add_object e v = record { objects = put e.objects v true; raws = e.raws; next = e.next }

-- scratch is always there to be read and to be written
unfoldable pub readable : Env → ℕ → Bool
readable e cell = cond (ltb cell named_cells) (e.raws cell) true

unfoldable pub occupied : Env → ℕ → Bool
occupied e cell = cond (ltb cell named_cells) (e.raws cell) false

unfoldable pub add_raw : Env → ℕ → Env
add_raw e cell = cond (ltb cell named_cells) (record { objects = e.objects; raws = put e.raws cell true; next = e.next }) e

-- 7 read while unset, 6 written while set
abbrev pub reads : ℕ → Bool → Emitted → Emitted
reads row known c = cond known c (refuse (ReadWhileUnset row))

abbrev pub writes : ℕ → Bool → Emitted → Emitted
writes row known c = cond known (refuse (WrittenWhileSet row)) c

abbrev pub one : ℕ → Instruction → Env → Emitted
one row i e = ok (line_at row i ∷ []) e

-- what is read is looked at, then what is written, which is set from then on; a tuple's slots are scratch
abbrev pub reading : ℕ → List Used → (Env → Emitted) → Env → Emitted
reading row [] f e = f e
reading row (object_at v ∷ us) f e = reads row (e.objects v) (reading row us f e)
reading row (message_at r ∷ us) f e = reads row (readable e r) (reading row us f e)
reading row (messages_at b n ∷ us) f e = reading row us f e

abbrev pub writing : ℕ → List Used → (Env → Emitted) → Env → Emitted
writing row [] f e = f e
writing row (object_at v ∷ us) f e = writes row (e.objects v) (writing row us f (add_object e v))
writing row (message_at r ∷ us) f e = writes row (occupied e r) (writing row us f (add_raw e r))
writing row (messages_at b n ∷ us) f e = writing row us f e

abbrev pub uses : ℕ → Uses → (Env → Emitted) → Env → Emitted
uses row u f = reading row u.reads (writing row u.writes f)

-- one instruction for a pattern row: its uses, and then one word
unfoldable pub emit : ℕ → Instruction → Env → Emitted
emit row i = uses row (uses_of i) (one row i)

-- n scratch numbers are taken together
abbrev pub take : ℕ → (ℕ → Env → Emitted) → Env → Emitted
take n f e = f e.next (record { objects = e.objects; raws = e.raws; next = e.next + n })
