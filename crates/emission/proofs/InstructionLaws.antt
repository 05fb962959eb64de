-- An instruction is what it reads and then writes, and its word.
use Prim.Native.Nat.{ℕ}
use mathlib.Core.Path.{◌≡◌, refl, sym, ap, ◌∙◌}
use mathlib.Core.Bool.{Bool, true, false}
use mathlib.Core.List.{List, [], ◌∷◌}
use native.Mathlib.Omega.{arith}
use Rattle.word.specs.Fields.{join}
use Rattle.code.specs.Instruction.{word_widths, fields_of, word_of}
use Rattle.code.specs.declared.Instruction.{Instruction}
use Rattle.theory.specs.Machine.{Line, line_at}
use Rattle.theory.specs.Uses.{Used, object_at, message_at, messages_at, uses_of}
use Rattle.theory.specs.Emission.{Env, Emitted, ok, and_then, ◌then◌, reads, writes, one, reading, writing, readable, occupied, add_object, add_raw, emit}
use Rattle.knowing.specs.Steps.{read_object, looks}
use Rattle.knowing.specs.Meets.{Does, Quiet}
use Rattle.knowing.proofs.MeetsLaws.{after_nil, does_as, does_seq, does_none}
use Rattle.knowing.specs.declared.Emission.{Emission}

nothing : {e : Emission} → Quiet (ok []) 0 e e
nothing = record { does = λ code. does_none; place = omega arith; free = omega arith }

quiet_seq : {f g : Env → Emitted} {e e₁ e₂ : Emission} → Quiet f 0 e e₁ → Quiet g 0 e₁ e₂ → Quiet (f then g) 0 e e₂
quiet_seq k l =
    record {
      does = λ code. does_seq (k.does code) (l.does code);
      place = omega (arith, k.place, l.place);
      free = omega (arith, k.free, l.free);
    }

-- one look, and then
then_read : (row : ℕ) (known : Bool) (y : Emitted) (f : Env → Emitted) {x : Emitted} → x ≡ and_then y f → reads row known x ≡ and_then (reads row known y) f
unfolding and_then
then_read row true y f h = h
then_read row false y f h = refl

then_write : (row : ℕ) (known : Bool) (y : Emitted) (f : Env → Emitted) {x : Emitted} → x ≡ and_then y f → writes row known x ≡ and_then (writes row known y) f
unfolding and_then
then_write row true y f h = refl
then_write row false y f h = h

module _ (row : ℕ) (f : Env → Emitted) where
  then_writing : (us : List Used) (env : Env) → writing row us f env ≡ and_then (writing row us (ok []) env) f
  unfolding and_then
  then_writing [] env = sym (after_nil (f env))
  then_writing (object_at v ∷ us) env = then_write row (env.objects v) _ f (then_writing us (add_object env v))
  then_writing (message_at r ∷ us) env = then_write row (occupied env r) _ f (then_writing us (add_raw env r))
  then_writing (messages_at b n ∷ us) env = then_writing us env

  then_reading : (us vs : List Used) (env : Env)
      → reading row us (writing row vs f) env ≡ and_then (reading row us (writing row vs (ok [])) env) f
  then_reading [] vs env = then_writing vs env
  then_reading (object_at v ∷ us) vs env = then_read row (env.objects v) _ f (then_reading us vs env)
  then_reading (message_at r ∷ us) vs env = then_read row (readable env r) _ f (then_reading us vs env)
  then_reading (messages_at b n ∷ us) vs env = then_reading us vs env

emit_looks : (row : ℕ) (i : Instruction) (env : Env) → emit row i env ≡ and_then (looks row i env) (one row i)
unfolding emit
emit_looks row i env = then_reading row (one row i) (uses_of i).reads (uses_of i).writes env

module _ (row : ℕ) (i : Instruction) (word : ℕ) {e₁ e₂ : Emission} {code code₂ : List ℕ} (spells : word ≡ join word_widths (fields_of i))
    (writes_it : (l : Line) → word ≡ word_of l.instruction → Does (ok (l ∷ [])) 1 0 e₁ code e₂ code₂) where
  -- so it is emitted by what it does before its word
  emitted_as : {f : Env → Emitted} {e : Emission} → Quiet f 0 e e₁ → ((env : Env) → looks row i env ≡ f env) → Does (emit row i) 1 0 e code e₂ code₂
  unfolding word_of
  emitted_as k same =
      does_as (λ env. emit_looks row i env ∙ ap (λ (x : Emitted). and_then x (one row i)) (same env))
      (does_seq (k.does code) (writes_it (line_at row i) spells))

  pub emitted : {f : Env → Emitted} {e : Emission} → Quiet f 0 e e₁ → looks row i ≡ f → Does (emit row i) 1 0 e code e₂ code₂
  emitted k same = emitted_as k λ env. ap (λ (g : Env → Emitted). g env) same

  -- by an object variable that it reads, and then
  pub emitted_twice : {v : ℕ} {g : Env → Emitted} {e e₀ : Emission} → Quiet (read_object row v) 0 e e₀ → Quiet g 0 e₀ e₁
      → looks row i ≡ (λ env. reads row (env.objects v) (g env)) → Does (emit row i) 1 0 e code e₂ code₂
  unfolding and_then
  emitted_twice {v} {g} k l same =
      emitted_as (quiet_seq k l) λ env.
      ap (λ (h : Env → Emitted). h env) same ∙ then_read row (env.objects v) (ok [] env) g (sym (after_nil (g env)))

  pub emitted_blindly : looks row i ≡ ok [] → Does (emit row i) 1 0 e₁ code e₂ code₂
  emitted_blindly same = emitted nothing same
