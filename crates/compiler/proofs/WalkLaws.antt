-- What the walk leaves is compile's outcome from what is known.
use Prim.Native.Nat.{ℕ, ◌≤◌}
use mathlib.Core.Path.{◌≡◌, refl, sym, ◌∙◌}
use mathlib.Core.Bool.{Bool, true, false}
use Rattle.std.specs.Prelude.{None, Some}
use mathlib.Core.List.{List, [], ◌++◌}
use native.Mathlib.Nat.{zero-add}
use native.Mathlib.Omega.{arith}
use lib.ListN.{length, drop, length-map}
use lib.Seq.{sets-eq}
use Rattle.answers.specs.declared.Compiled.{Compiled}
use Rattle.answers.specs.declared.Compiled.TheVariants.{Done}
use Rattle.answers.specs.First.{first}
use Rattle.numbers.specs.Kinds.{kind_in}
use Rattle.code.specs.Instruction.{word_of}
use Rattle.patterns.specs.Pattern.{Pattern}
use Rattle.patterns.specs.Tree.{pattern_of}
use Rattle.theory.specs.Emission.{Env, Emitted, ok, refuse, and_then}
use Rattle.theory.specs.Compilers.{compile↓}
use Rattle.calls.specs.Compile.{tables, code_words}
use Rattle.calls.specs.Half.{known_refusals, known_emitted, half}
use Rattle.knowing.specs.Known.{known}
use Rattle.knowing.specs.declared.Emission.{Emission}
use Rattle.knowing.specs.Meets.{MeetsBy, Meets, Does}
use Rattle.knowing.proofs.MeetsLaws.{after_nil, does_as}
use Rattle.creating.specs.Creates.{pattern_code}
use Rattle.compiler.specs.CompileKnown.{from_known, known_refused, compile_known}

module _ (create : Bool) (pattern kinds : List ℕ) (objects named : ℕ → Bool) where
  pub refused_known : {answer : Compiled} (blank : List ℕ) → first (known_refusals create pattern kinds objects) ≡ Some answer
      → known_refused objects named answer ≡ compile_known create pattern kinds objects named blank
  unfolding compile_known half
  refused_known blank e = rw e

  module _ (passed : first (known_refusals create pattern kinds objects) ≡ None) {blank : List ℕ} {e' : Emission} {buffer : List ℕ} where
    -- an emission that the buffer meets, done or refused
    met_done : (E : Emitted) → known_emitted create pattern kinds (from_known objects named) ≡ E → Meets E 0 blank e' buffer → e'.refusal ≡ None → e'.written ≤ length blank
        → record { answer = Done e'.written; words = buffer; objects = known e'.objects; named = known e'.raws } ≡ compile_known create pattern kinds objects named blank
    unfolding MeetsBy compile_known half
    met_done (refuse answer) q m none most = let both : Some answer ≡ None = sym m.met ∙ none in cc
    met_done (ok lines env) q m none most =
        let fine = m.met in
        let count : length (code_words lines) ≡ length lines = length-map lines (λ l. word_of l.instruction) in
        let counted : e'.written ≡ length (code_words lines) = fine.written ∙ zero-add (length lines) ∙ sym count in
        let front : buffer ≡ code_words lines ++ drop (length (code_words lines)) blank = fine.words ∙ sets-eq (code_words lines) blank 0 (omega arith) ∙ rw zero-add in
        rw (passed, q)
        (λ i. record { answer = Done (counted i); words = front i; objects = (fine.env i).objects; named = (fine.env i).raws })

    met_refused : (E : Emitted) → known_emitted create pattern kinds (from_known objects named) ≡ E → Meets E 0 blank e' buffer → {answer : Compiled} → e'.refusal ≡ Some answer
        → known_refused objects named answer ≡ compile_known create pattern kinds objects named blank
    unfolding MeetsBy compile_known half
    met_refused (ok lines env) q m {answer} some = let both : Some answer ≡ None = sym some ∙ m.met.fine in cc
    met_refused (refuse other) q m {answer} some = let both : Some answer ≡ Some other = sym some ∙ m.met in let same : answer ≡ other = cc in rw (passed, q, same)

-- the walk from two numbers, over a buffer with room for its words
module _ (create : Bool) (pattern kinds : List ℕ) {seen heard w m : ℕ} {p : Pattern} {blank : List ℕ} {e' : Emission} {buffer : List ℕ}
    (passed : first (known_refusals create pattern kinds (known seen)) ≡ None) (same : p ≡ pattern_of pattern)
    (d : Does (tables create (kind_in kinds) p) w m (record { objects = seen; raws = heard; next = 0; written = 0; refusal = None }) blank e' buffer) where
  meets : Meets (known_emitted create pattern kinds (from_known (known seen) (known heard))) 0 blank e' buffer
  unfolding MeetsBy and_then
  meets =
      let start : Env = from_known (known seen) (known heard) in
      let met : Meets (tables create (kind_in kinds) p start) 0 blank e' buffer =
      rw after_nil at (d.go (ok [] start) 0 blank (record { met = record { fine = refl; env = refl; written = refl; words = refl } })) in
      rw same at met

  pub walked_done : w ≤ length blank → e'.refusal ≡ None
      → record { answer = Done e'.written; words = buffer; objects = known e'.objects; named = known e'.raws } ≡ compile_known create pattern kinds (known seen) (known heard) blank
  walked_done most fine = met_done create pattern kinds (known seen) (known heard) passed _ refl meets fine (omega (arith, d.place))

  pub walked_refused : {answer : Compiled} → e'.refusal ≡ Some answer
      → known_refused (known seen) (known heard) answer ≡ compile_known create pattern kinds (known seen) (known heard) blank
  walked_refused some = met_refused create pattern kinds (known seen) (known heard) passed _ refl meets some

-- either direction's walk is that of the tables
module _ {create : Bool} (kinds : List ℕ) (p : Pattern) {w m : ℕ} {e : Emission} {code : List ℕ} {e' : Emission} {code' : List ℕ} where
  pub creates_emits : create ≡ true → Does (pattern_code kinds p) w m e code e' code' → Does (tables create (kind_in kinds) p) w m e code e' code'
  unfolding pattern_code
  creates_emits way d = does_as (λ env. rw way) d

  pub matches_emits : create ≡ false → Does (compile↓ p) w m e code e' code' → Does (tables create (kind_in kinds) p) w m e code e' code'
  matches_emits way d = does_as (λ env. rw way) d
