-- The parts of an instruction's emission, each without a word.
use Rattle.std.specs.Prelude.{ℕ, ◌+◌, []}
use Rattle.code.specs.declared.Instruction.{Instruction}
use Rattle.theory.specs.Uses.{uses_of}
use Rattle.theory.specs.Emission.{Env, Emitted, ok, reads, writes, readable, occupied, add_object, add_raw, uses}

abbrev pub read_object : ℕ → ℕ → Env → Emitted
read_object row v e = reads row (e.objects v) (ok [] e)

abbrev pub write_object : ℕ → ℕ → Env → Emitted
write_object row v e = writes row (e.objects v) (ok [] (add_object e v))

abbrev pub read_raw : ℕ → ℕ → Env → Emitted
read_raw row r e = reads row (readable e r) (ok [] e)

abbrev pub write_raw : ℕ → ℕ → Env → Emitted
write_raw row r e = writes row (occupied e r) (ok [] (add_raw e r))

-- r must be unset, and stays so
abbrev pub free_raw : ℕ → ℕ → Env → Emitted
free_raw row r e = writes row (e.raws r) (ok [] e)

-- n scratch numbers more are taken
abbrev pub raise : ℕ → Env → Emitted
raise n e = ok [] (record { objects = e.objects; raws = e.raws; next = e.next + n })

-- what an instruction reads and then writes
abbrev pub looks : ℕ → Instruction → Env → Emitted
looks row i = uses row (uses_of i) (ok [])
