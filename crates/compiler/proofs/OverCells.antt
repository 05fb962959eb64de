-- Compile over cells is compile from which of them are set.
use Prim.Native.Nat.{ℕ, ◌≤◌}
use mathlib.Core.Path.{◌≡◌, refl, sym, ◌∙◌, ap}
use mathlib.Core.Bool.{Bool, true, false, not, ◌&&◌, ◌||◌}
use mathlib.Core.List.{List}
use native.Mathlib.Omega.{arith}
use lib.Dec.{T, eqb}
use lib.ListN.{length, get_or, take, length-append, length-drop}
use lib.Seq.{take-append_seam}
use Rattle.word.proofs.TestLaws.{equals}
use Rattle.answers.specs.First.{first}
use Rattle.answers.specs.Numbers.{compiled_number, compiled_place}
use Rattle.answers.specs.declared.Compiled.{Compiled}
use Rattle.answers.specs.declared.Compiled.TheVariants.{Done, Limit, BadStore, BadPattern, WrongKind, WrittenWhileSet, ReadWhileUnset, CodeTooShort}
use Rattle.stores.specs.Cells.{is_set, unset}
use Rattle.theory.specs.Emission.{Emitted, ok, refuse}
use Rattle.calls.specs.Compile.{entry, code_words, leaves, written, finished, compile}
use Rattle.calls.specs.Half.{known_fit, half}
use Rattle.calls.proofs.CompileLaws.{NotDone}
use Rattle.calls.proofs.HalfLaws.{half_refuses, half_words, compile_half}
use Rattle.knowing.specs.Known.{known}
use Rattle.compiler.specs.CompileKnown.{KnownOutcome, from_known, known_finished, compile_known}

-- after answer 0 the words at the buffer's front come to the slice, or 8 where they do not fit
pub record Compiles (create : Bool) (pattern kinds objects named : List ℕ) (answer : Compiled) (buffer : List ℕ) : Type 0 where
  pub refused : (code : List ℕ) → (compiled_number answer ≡ 0 → ⊥) → leaves answer code ≡ compile create pattern kinds objects named code
  pub delivered : (code : List ℕ) → compiled_number answer ≡ 0 → written (take (compiled_place answer) buffer) code ≡ compile create pattern kinds objects named code
  pub few : compiled_number answer ≡ 0 → compiled_place answer ≤ 767
  pub long : compiled_number answer ≡ 0 → length buffer ≡ 768

-- done with so many words
module _ {create : Bool} {pattern kinds objects named : List ℕ} {answer : Compiled} {buffer : List ℕ} (c : Compiles create pattern kinds objects named answer buffer) {count : ℕ} (is : answer ≡ Done count) where
  done_number : compiled_number answer ≡ 0
  done_number = rw is

  pub inside : count ≤ length buffer
  inside =
      let few : compiled_place answer ≤ 767 = c.few done_number in
      let less : count ≤ 767 = rw is at few in
      omega (arith, c.long done_number)

  pub delivers : (code : List ℕ) → written (take count buffer) code ≡ compile create pattern kinds objects named code
  delivers code =
      let all : written (take (compiled_place answer) buffer) code ≡ compile create pattern kinds objects named code = c.delivered code done_number in
      rw is at all

-- an answer that is not done has another number
pub not_done : (answer : Compiled) → NotDone answer → compiled_number answer ≡ 0 → ⊥
not_done (Done words) h = λ e. h words refl
not_done Limit h = λ e. omega arith
not_done BadStore h = λ e. omega arith
not_done (BadPattern row) h = λ e. omega arith
not_done (WrongKind row) h = λ e. omega arith
not_done (WrittenWhileSet row) h = λ e. omega arith
not_done (ReadWhileUnset row) h = λ e. omega arith
not_done (CodeTooShort words) h = λ e. omega arith

-- a slice of cells that is not 64 is 1
wrong_length : (a b c : Bool) → (not b || not c) ≡ true → ((a && b) && c) ≡ false
wrong_length true true true h = sym h
wrong_length false true true h = refl
wrong_length true true false h = refl
wrong_length false true false h = refl
wrong_length true false c h = refl
wrong_length false false c h = refl

pub cells_limit : (create : Bool) (pattern kinds objects named code : List ℕ) → (not (eqb (length objects) 64) || not (eqb (length named) 64)) ≡ true
    → leaves Limit code ≡ compile create pattern kinds objects named code
unfolding compile first
cells_limit create pattern kinds objects named code h =
    rw (wrong_length (known_fit (length pattern) (length kinds)) (eqb (length objects) 64) (eqb (length named) 64) h)

right_lengths : (b c : Bool) → (not b || not c) ≡ false → T b × T c
right_lengths true true h = (tt, tt)
right_lengths true false h = absurd (let z : ◌≡◌ {A = ℕ} 0 1 = cc in omega arith)
right_lengths false c h = absurd (let z : ◌≡◌ {A = ℕ} 0 1 = cc in omega arith)

pub cells_lengths : (objects named : ℕ) → (not (eqb objects 64) || not (eqb named 64)) ≡ false → (objects ≡ 64) × (named ≡ 64)
cells_lengths objects named h =
    let both = right_lengths (eqb objects 64) (eqb named 64) h in
    ((equals objects 64).0 both.0, (equals named 64).0 both.1)

module _ (create : Bool) (pattern kinds objects named : List ℕ) (seen heard : ℕ) (objects_length : length objects ≡ 64) (named_length : length named ≡ 64)
    (objects-known : known seen ≡ (λ v. is_set (get_or objects v unset))) (named-known : known heard ≡ (λ v. is_set (get_or named v unset))) where
  same_half : half create pattern kinds (from_known (known seen) (known heard)) ≡ half create pattern kinds (entry objects named)
  same_half = rw (objects-known, named-known)

  over_cells : (E : Emitted) → half create pattern kinds (entry objects named) ≡ E → (code : List ℕ) → compile create pattern kinds objects named code ≡ finished E code
  over_cells E q code = compile_half create pattern kinds objects named objects_length named_length code ∙ ap (λ (E : Emitted). finished E code) q

  -- each outcome of compile
  module _ {answer : Compiled} {buffer : List ℕ} {o n : ℕ → Bool} (blank : List ℕ) (blank-long : length blank ≡ 768) where
    by_outcome : (E : Emitted) → half create pattern kinds (entry objects named) ≡ E
        → record { answer = answer; words = buffer; objects = o; named = n } ≡ known_finished (known seen) (known heard) E blank
        → Compiles create pattern kinds objects named answer buffer
    by_outcome (refuse refusal) q e =
        let never = not_done refusal (half_refuses create pattern kinds (entry objects named) refl refusal q) in
        rw (ap (λ (x : KnownOutcome). x.answer) e)
        (record { refused = λ code h. sym (over_cells (refuse refusal) q code); delivered = λ code h. absurd (never h); few = λ h. absurd (never h); long = λ h. absurd (never h) })
    by_outcome (ok lines env) q e =
        let few = half_words create pattern kinds (entry objects named) refl lines env q in
        rw (ap (λ (x : KnownOutcome). x.answer) e, ap (λ (x : KnownOutcome). x.words) e)
        (record {
          refused = λ code other. absurd (other refl);
          delivered = λ code zero. rw (take-append_seam (code_words lines) _) (sym (over_cells (ok lines env) q code));
          few = λ zero. few;
          long = λ zero. simp (length-append, length-drop) (omega arith);
        })

    pub known_compiles : record { answer = answer; words = buffer; objects = o; named = n } ≡ compile_known create pattern kinds (known seen) (known heard) blank
        → Compiles create pattern kinds objects named answer buffer
    unfolding compile_known
    known_compiles e =
        by_outcome (half create pattern kinds (entry objects named)) refl
        (e ∙ ap (λ (E : Emitted). known_finished (known seen) (known heard) E blank) same_half)
