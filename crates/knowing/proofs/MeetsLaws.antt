-- How steps of emission are joined.
use Prim.Native.Nat.{ℕ, ◌+◌, ◌≤◌}
use mathlib.Core.Path.{◌≡◌, refl, sym, ap, subst, fun_ext, ◌∙◌}
use mathlib.Core.Bool.{Bool, true, false, cond}
use Rattle.std.specs.Prelude.{None, Some}
use mathlib.Core.List.{List, [], ◌++◌, append_assoc, map-append}
use native.Mathlib.Omega.{arith}
use lib.ListN.{length, length-append, length-map}
use lib.Seq.{sets}
use Rattle.word.proofs.ByteLaws.{sets_append}
use Rattle.answers.specs.declared.Compiled.{Compiled}
use Rattle.theory.specs.Machine.{Line}
use Rattle.theory.specs.Emission.{Env, Emitted, ok, refuse, behind, and_then, ◌then◌, take, writes}
use Rattle.calls.specs.Compile.{code_words}
use Rattle.knowing.specs.Steps.{free_raw, raise}
use Rattle.knowing.specs.Meets.{env_of, MeetsBy, Meets, Does, Quiet}
use Rattle.knowing.specs.declared.Emission.{Emission}

-- what follows an emission may be taken together
after_append : (c d : List Line) (x : Emitted) → behind (c ++ d) x ≡ behind c (behind d x)
unfolding behind
after_append c d (ok lines e) = rw append_assoc
after_append c d (refuse answer) = refl

after_then : (c : List Line) (x : Emitted) (g : Env → Emitted) → and_then (behind c x) g ≡ behind c (and_then x g)
unfolding behind and_then
after_then c (ok d e) g = after_append c d (g e)
after_then c (refuse answer) g = refl

pub then_assoc : (a : Emitted) (f g : Env → Emitted) → and_then (and_then a f) g ≡ and_then a (f then g)
unfolding and_then
then_assoc (ok c e) f g = after_then c (f e) g
then_assoc (refuse answer) f g = refl

pub after_nil : (x : Emitted) → behind [] x ≡ x
unfolding behind
after_nil (ok lines e) = refl
after_nil (refuse answer) = refl

code_words_append : (c d : List Line) → code_words (c ++ d) ≡ code_words c ++ code_words d
code_words_append c d = map-append _ c d

module _ {start : ℕ} {blank code : List ℕ} {e' : Emission} {code' : List ℕ} where
  -- lines are added
  met_more : {place : ℕ} (lines : List Line) (x : Emitted) → place ≡ start + length lines → code ≡ sets blank start (code_words lines)
      → Meets x place code e' code' → Meets (behind lines x) start blank e' code'
  unfolding MeetsBy behind
  met_more lines (refuse answer) p q m = record { met = m.met }
  met_more lines (ok more env) p q m =
      let n = m.met in
      let l : length (code_words lines) ≡ length lines = length-map lines _ in
      let w : code' ≡ sets (sets blank start (code_words lines)) (start + length (code_words lines)) (code_words more) =
      n.words ∙ rw (p, q, l) in
      record {
        met = record {
          fine = n.fine;
          env = n.env;
          written = rw length-append (omega (arith, n.written));
          words = w ∙ sym (sets_append blank start (code_words lines) (code_words more)) ∙ ap (sets blank start) (sym (code_words_append lines more));
        };
      }

  -- a step that is right while there is no refusal, and leaves a refusal
  met_then : {e : Emission} (a : Emitted) (f : Env → Emitted)
      → (e.refusal ≡ None → Meets (f (env_of e)) e.written code e' code')
      → ((answer : Compiled) → e.refusal ≡ Some answer → e'.refusal ≡ Some answer)
      → Meets a start blank e code → Meets (and_then a f) start blank e' code'
  unfolding MeetsBy and_then
  met_then (refuse answer) f h g m = record { met = g answer m.met }
  met_then {e} (ok lines env) f h g m =
      let n = m.met in
      met_more lines (f env) n.written n.words (subst (λ (x : Env). Meets (f x) e.written code e' code') n.env (h n.fine))

module _ {e : Emission} {code : List ℕ} {e' : Emission} {code' : List ℕ} where
  pub does_by : {f : Env → Emitted} {w m : ℕ}
      → (e.refusal ≡ None → Meets (f (env_of e)) e.written code e' code')
      → ((answer : Compiled) → e.refusal ≡ Some answer → e'.refusal ≡ Some answer)
      → e'.written ≤ e.written + w → e'.next ≤ e.next + m → length code' ≡ length code → Does f w m e code e' code'
  does_by {f} h g p q k = record { go = λ a start blank m. met_then a f h g m; place = p; free = q; kept = k }

  -- the same step, said otherwise
  pub does_as : {f g : Env → Emitted} {w m : ℕ} → ((env : Env) → g env ≡ f env) → Does f w m e code e' code' → Does g w m e code e' code'
  does_as {w = w} {m = m} h k = subst (λ (x : Env → Emitted). Does x w m e code e' code') (sym (fun_ext h)) k

  pub does_le : {f : Env → Emitted} {w m x n : ℕ} → w ≤ x → m ≤ n → Does f w m e code e' code' → Does f x n e code e' code'
  does_le h g k = record { go = k.go; place = omega (arith, k.place); free = omega (arith, k.free); kept = k.kept }

  -- a step that depends on what is known, taken at what is known in e
  pub does_env : (f : Env → Env → Emitted) {w m : ℕ} → Does (f (env_of e)) w m e code e' code' → Does (λ env. f env env) w m e code e' code'
  unfolding MeetsBy and_then
  does_env f k = record { go = λ a start blank m. by a m (k.go a start blank m); place = k.place; free = k.free; kept = k.kept }
    where
      by : {start : ℕ} {blank : List ℕ} (a : Emitted) → Meets a start blank e code → Meets (and_then a (f (env_of e))) start blank e' code' → Meets (and_then a (λ env. f env env)) start blank e' code'
      by {start} {blank} (ok lines env) m n = subst (λ (x : Env). Meets (behind lines (f x env)) start blank e' code') m.met.env n
      by (refuse answer) m n = n

-- one step, then another
pub does_seq : {f g : Env → Emitted} {w m x n : ℕ} {e : Emission} {code : List ℕ} {e₁ : Emission} {code₁ : List ℕ} {e₂ : Emission} {code₂ : List ℕ}
    → Does f w m e code e₁ code₁ → Does g x n e₁ code₁ e₂ code₂ → Does (f then g) (w + x) (m + n) e code e₂ code₂
does_seq {f} {g} {e₂ = e₂} {code₂ = code₂} k l =
    record {
      go = λ a start blank m. subst (λ (b : Emitted). Meets b start blank e₂ code₂) (then_assoc a f g) (l.go (and_then a f) start blank (k.go a start blank m));
      place = omega (arith, k.place, l.place);
      free = omega (arith, k.free, l.free);
      kept = l.kept ∙ k.kept;
    }

-- nothing is done
pub does_none : {e : Emission} {code : List ℕ} → Does (ok []) 0 0 e code e code
unfolding MeetsBy
does_none =
    does_by (λ h. record { met = record { fine = h; env = refl; written = omega arith; words = refl } }) (λ answer h. h)
    (omega arith) (omega arith) refl

-- a step that goes by a test of what is known
module _ (t : Env → Bool) (f g : Env → Emitted) {w m : ℕ} {e : Emission} {code : List ℕ} {e' : Emission} {code' : List ℕ} where
  by_test : (b : Bool) → t (env_of e) ≡ b → Does (λ env. cond b (f env) (g env)) w m e code e' code' → Does (λ env. cond (t env) (f env) (g env)) w m e code e' code'
  by_test b h k = does_env (λ env x. cond (t env) (f x) (g x)) (rw h k)

  pub does_yes : t (env_of e) ≡ true → Does f w m e code e' code' → Does (λ env. cond (t env) (f env) (g env)) w m e code e' code'
  does_yes h k = by_test true h k

  pub does_no : t (env_of e) ≡ false → Does g w m e code e' code' → Does (λ env. cond (t env) (f env) (g env)) w m e code e' code'
  does_no h k = by_test false h k

-- scratch numbers are taken, and the first is used
pub does_take : (f : ℕ → Env → Emitted) {n w m : ℕ} {e e₁ : Emission} {code : List ℕ} {e₂ : Emission} {code₂ : List ℕ} → Quiet (raise n) n e e₁ → Does (f e.next) w m e₁ code e₂ code₂
    → Does (take n f) w (n + m) e code e₂ code₂
unfolding and_then
does_take f {n} {code = code} k l =
    does_le (omega arith) (omega arith)
    (does_as (λ env. sym (after_nil (take n f env))) (does_env (λ env. raise n then f env.next) (does_seq (k.does code) l)))

-- a raw variable is unset, and then
pub then_free : (row : ℕ) (known : Bool) (f : Env → Emitted) (env : Env) → writes row known (f env) ≡ and_then (writes row known (ok [] env)) f
unfolding and_then
then_free row true f env = refl
then_free row false f env = sym (after_nil (f env))

pub does_free : {row r : ℕ} {f : Env → Emitted} {w m : ℕ} {e e₁ : Emission} {code : List ℕ} {e₂ : Emission} {code₂ : List ℕ} → Quiet (free_raw row r) 0 e e₁ → Does f w m e₁ code e₂ code₂
    → Does (λ env. writes row (env.raws r) (f env)) w m e code e₂ code₂
does_free {row} {r} {f} {code = code} k l =
    does_le (omega arith) (omega arith) (does_as (λ env. then_free row (env.raws r) f env) (does_seq (k.does code) l))
