-- What one look at a variable, one mark and one word do, a way out at a time.
use Prim.Native.Nat.{ℕ, ◌+◌, ◌≤◌, ◌<◌}
use mathlib.Core.Path.{◌≡◌, refl, sym, ◌∙◌}
use mathlib.Core.Bool.{Bool, true, false}
use mathlib.Core.List.{List, [], ◌∷◌}
use native.Mathlib.Omega.{arith}
use lib.ListN.{set, length-set}
use borrow.Author.Tests.{lt-ltb, le-ltb}
use Rattle.answers.specs.declared.Compiled.{Compiled}
use Rattle.answers.specs.declared.Compiled.TheVariants.{WrongKind, WrittenWhileSet, ReadWhileUnset}
use Rattle.code.specs.Instruction.{word_of}
use Rattle.theory.specs.Store.{put}
use Rattle.theory.specs.Machine.{Line}
use Rattle.theory.specs.Emission.{Env, Emitted, ok, refuse, readable, occupied, add_raw}
use Rattle.knowing.specs.Known.{known}
use Rattle.knowing.specs.Steps.{read_object, write_object, read_raw, write_raw, free_raw, raise}
use Rattle.knowing.specs.Meets.{env_of, refusing, MeetsBy, Does, Quiet}
use Rattle.knowing.specs.declared.Emission.{Emission}
use Rattle.knowing.proofs.MeetsLaws.{does_by}

-- only what is known changes
quiet : {f : Env → Emitted} {m : ℕ} {e e' : Emission} → f (env_of e) ≡ ok [] (env_of e')
    → e'.refusal ≡ e.refusal → e'.written ≡ e.written → e'.next ≤ e.next + m → Quiet f m e e'
unfolding MeetsBy
quiet {f} {e = e} {e' = e'} h r w n =
    record {
      does = λ code. does_by
          (λ fine. rw h (record { met = record { fine = r ∙ fine; env = refl; written = omega arith; words = refl } }))
          (λ answer k. rw r k) (omega arith) n refl;
      place = omega arith;
      free = n;
    }

nothing : {f : Env → Emitted} {e : Emission} → f (env_of e) ≡ ok [] (env_of e) → Quiet f 0 e e
nothing h = quiet h refl refl (omega arith)

-- a refusal, unless there is one already
refused : {f : Env → Emitted} (e : Emission) (answer : Compiled) → f (env_of e) ≡ refuse answer → Quiet f 0 e (refusing answer e)
unfolding MeetsBy refusing
refused e answer g =
    record {
      does = λ code. does_by (λ fine. rw g (record { met = rw fine })) (λ earlier k. rw k) (omega arith) (omega arith) refl;
      place = omega arith;
      free = omega arith;
    }

pub wrong_kind : (e : Emission) (row : ℕ) (e' : Emission) → e' ≡ refusing (WrongKind row) e → Quiet (λ env. refuse (WrongKind row)) 0 e e'
wrong_kind e row e' g = rw g (refused e (WrongKind row) refl)

-- object variables; t is what was seen of v
module _ (e : Emission) (row v : ℕ) (t : Bool) (seen : t ≡ known e.objects v) where
  pub read_set : t ≡ true → Quiet (read_object row v) 0 e e
  read_set h = nothing (rw (sym seen ∙ h))

  module _ (e' : Emission) where
    pub read_unset : t ≡ false → e' ≡ refusing (ReadWhileUnset row) e → Quiet (read_object row v) 0 e e'
    read_unset h g = rw g (refused e (ReadWhileUnset row) (rw (sym seen ∙ h)))

    pub write_set : t ≡ true → e' ≡ refusing (WrittenWhileSet row) e → Quiet (write_object row v) 0 e e'
    write_set h g = rw g (refused e (WrittenWhileSet row) (rw (sym seen ∙ h)))

  pub write_unset : (mask : ℕ) → t ≡ false → known mask ≡ put (known e.objects) v true → Quiet (write_object row v) 0 e (record e { objects = mask })
  write_unset mask h g = quiet (rw (sym seen ∙ h, g)) refl refl (omega arith)

-- message cells: scratch is never looked at
module _ (e : Emission) (row r : ℕ) where
  pub read_scratch : 64 ≤ r → Quiet (read_raw row r) 0 e e
  unfolding readable
  read_scratch h = nothing (rw (le-ltb r 64 h))

  pub write_scratch : 64 ≤ r → Quiet (write_raw row r) 0 e e
  unfolding occupied add_raw
  write_scratch h = nothing (rw (le-ltb r 64 h))

  module _ (t : Bool) (seen : t ≡ known e.raws r) where
    pub read_raw_set : r < 64 → t ≡ true → Quiet (read_raw row r) 0 e e
    unfolding readable
    read_raw_set l h = nothing (rw (lt-ltb r 64 l, sym seen ∙ h))

    pub free_unset : t ≡ false → Quiet (free_raw row r) 0 e e
    free_unset h = nothing (rw (sym seen ∙ h))

    module _ (e' : Emission) where
      pub read_raw_unset : r < 64 → t ≡ false → e' ≡ refusing (ReadWhileUnset row) e → Quiet (read_raw row r) 0 e e'
      unfolding readable
      read_raw_unset l h g = rw g (refused e (ReadWhileUnset row) (rw (lt-ltb r 64 l, sym seen ∙ h)))

      pub write_raw_set : r < 64 → t ≡ true → e' ≡ refusing (WrittenWhileSet row) e → Quiet (write_raw row r) 0 e e'
      unfolding occupied
      write_raw_set l h g = rw g (refused e (WrittenWhileSet row) (rw (lt-ltb r 64 l, sym seen ∙ h)))

      pub free_set : t ≡ true → e' ≡ refusing (WrittenWhileSet row) e → Quiet (free_raw row r) 0 e e'
      free_set h g = rw g (refused e (WrittenWhileSet row) (rw (sym seen ∙ h)))

    pub write_raw_unset : (mask : ℕ) → r < 64 → t ≡ false → known mask ≡ put (known e.raws) r true → Quiet (write_raw row r) 0 e (record e { raws = mask })
    unfolding occupied add_raw
    write_raw_unset mask l h g = quiet (rw (lt-ltb r 64 l, sym seen ∙ h, g)) refl refl (omega arith)

pub ruleset read-ways = (read_set, read_unset)

pub ruleset write-ways = (write_set, write_unset)

pub ruleset read-raw-ways = (read_scratch, read_raw_set, read_raw_unset)

pub ruleset write-raw-ways = (write_scratch, write_raw_set, write_raw_unset)

pub ruleset free-ways = (free_set, free_unset)

-- n scratch numbers are taken
pub raised : (e : Emission) (n : ℕ) → Quiet (raise n) n e (record e { next = e.next + n })
raised e n = quiet refl refl refl (omega arith)

-- one word is written
pub appended : (e : Emission) (code : List ℕ) (l : Line) (word : ℕ) → word ≡ word_of l.instruction
    → Does (ok (l ∷ [])) 1 0 e code (record e { written = e.written + 1 }) (set code e.written word)
unfolding MeetsBy
appended e code l word h =
    does_by
    (λ fine. record { met = record { fine = fine; env = refl; written = refl; words = rw h } })
    (λ answer k. k)
    (omega arith) (omega arith) (length-set code e.written word)
