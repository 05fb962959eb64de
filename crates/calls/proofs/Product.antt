-- Demand 3, from packed words to the figures: what the run of compiled code comes to is what the rules give.
use mathlib.Core.Path.{◌≡◌, refl}
use mathlib.Core.Bool.{Bool, true, false, ◌&&◌}
use Rattle.std.specs.Prelude.{None}
use mathlib.Core.List.{List}
use Prim.Native.Nat.{ℕ, ◌≤◌}
use native.Mathlib.Omega.{arith}
use lib.Dec.{T, eqb, leb}
use lib.ListN.{length, get_or-eq_default}
use Rattle.word.proofs.TestLaws.{both, at_most}
use Rattle.answers.specs.declared.Compiled.{Compiled}
use Rattle.answers.specs.declared.Compiled.TheVariants.{Done}
use Rattle.patterns.specs.Pattern.{Pattern, size, RawsBelow, Packed}
use Rattle.patterns.specs.Tree.{pattern_of}
use Rattle.patterns.specs.Rules.{bad_pattern}
use Rattle.patterns.specs.Kinds.{wrong_kind, RightKinds}
use Rattle.patterns.proofs.TreeLaws.{pattern_size, right_kinds, raws_below, packed}
use Rattle.theory.specs.Machine.{Line}
use Rattle.theory.specs.Emission.{Env, ok, refuse}
use Rattle.numbers.specs.Kinds.{kind_in}
use Rattle.numbers.specs.Limits.{variables}
use Rattle.calls.specs.Compile.{tables, entry, compile}
use Rattle.theory.specs.Bounds.{InLimits}
use Rattle.theory.proofs.InLimits.{Refusal, matching_in_limits, creating_in_limits, matching_refuses, creating_refuses}
use Rattle.calls.proofs.CompileLaws.{Checked, Compiles, done_compiles}

-- the lengths of 1, as far as the pattern's
pattern_lengths : (a b c d e : Bool) → T (a && b && c && d && e) → T a × T b
pattern_lengths a b c d e h = let g = ((both (a && b && c && d) e).0 h).0 in let i = ((both (a && b && c) d).0 g).0 in (both a b).0 ((both (a && b) c).0 i).0

-- both directions of emission
module _ (kind : ℕ → ℕ) (declared : (v : ℕ) → 64 ≤ v → kind v ≡ 0) where
  tables_refuse : (create : Bool) (p : Pattern) (e : Env) (answer : Compiled) → RightKinds create kind p → RawsBelow 64 p → Packed p → size p ≤ 96 → e.next ≡ 0
      → tables create kind p e ≡ refuse answer → Refusal answer
  tables_refuse true = creating_refuses kind declared
  tables_refuse false = matching_refuses kind declared

  tables_limits : (create : Bool) (p : Pattern) (e e' : Env) (c : List Line) → RightKinds create kind p → RawsBelow 64 p → Packed p → size p ≤ 96 → e.next ≡ 0
      → tables create kind p e ≡ ok c e' → InLimits kind c e'
  tables_limits true = creating_in_limits kind declared
  tables_limits false = matching_in_limits kind declared

module _ (create : Bool) (pattern kinds : List ℕ) (kinds_length : length kinds ≡ variables) where
  -- a variable past the kinds is undeclared
  declared_kinds : (v : ℕ) → 64 ≤ v → kind_in kinds v ≡ 0
  declared_kinds v h = get_or-eq_default kinds 0 (omega arith)

  -- what the tables are given once the checks have passed
  pub record Given : Type 0 where
    pub few : size (pattern_of pattern) ≤ 96
    pub right : RightKinds create (kind_in kinds) (pattern_of pattern)
    pub raws : RawsBelow 64 (pattern_of pattern)
    pub fields : Packed (pattern_of pattern)

  pub given : 1 ≤ length pattern → length pattern ≤ 96 → bad_pattern pattern ≡ None → wrong_kind create (kind_in kinds) pattern ≡ None → Given
  given least most rows right = record {
    few = omega (arith, pattern_size pattern rows least);
    right = right_kinds pattern rows create (kind_in kinds) least right;
    raws = raws_below pattern;
    fields = packed pattern;
  }

  module _ (g : Given) (e : Env) (start : e.next ≡ 0) where
    pub given_refuses : (answer : Compiled) → tables create (kind_in kinds) (pattern_of pattern) e ≡ refuse answer → Refusal answer
    given_refuses answer = tables_refuse (kind_in kinds) declared_kinds create (pattern_of pattern) e answer g.right g.raws g.fields g.few start

    pub given_limits : (lines : List Line) (e' : Env) → tables create (kind_in kinds) (pattern_of pattern) e ≡ ok lines e' → InLimits (kind_in kinds) lines e'
    given_limits lines e' = tables_limits (kind_in kinds) declared_kinds create (pattern_of pattern) e e' lines g.right g.raws g.fields g.few start

module _ (create : Bool) (pattern kinds objects named : List ℕ) (kinds_length : length kinds ≡ variables) where
  checked_given : Checked create pattern kinds objects named → Given create pattern kinds kinds_length
  checked_given c =
      let (least, most) = pattern_lengths (leb 1 (length pattern)) (leb (length pattern) 96) (eqb (length kinds) 64) (eqb (length objects) 64) (eqb (length named) 64) c.lengths in
      given create pattern kinds kinds_length ((at_most 1 (length pattern)).0 least) ((at_most (length pattern) 96).0 most) c.rows c.right

  -- once the checks have passed, kinds are right and emission refuses with 6 or 7 alone
  pub checked_right : Checked create pattern kinds objects named → RightKinds create (kind_in kinds) (pattern_of pattern)
  checked_right c = (checked_given c).right

  pub checked_refuses : Checked create pattern kinds objects named → (answer : Compiled) → tables create (kind_in kinds) (pattern_of pattern) (entry objects named) ≡ refuse answer → Refusal answer
  checked_refuses c = given_refuses create pattern kinds kinds_length (checked_given c) (entry objects named) refl

  -- and what it emits is within limits
  pub checked_limits : Checked create pattern kinds objects named → (lines : List Line) (e' : Env) → tables create (kind_in kinds) (pattern_of pattern) (entry objects named) ≡ ok lines e'
      → InLimits (kind_in kinds) lines e'
  checked_limits c = given_limits create pattern kinds kinds_length (checked_given c) (entry objects named) refl

  -- a done compile: the checks have passed, and its words are those of lines within limits
  pub record Written (words : ℕ) (after : List ℕ) : Type 0 where
    pub compiles : Compiles create pattern kinds objects named words after
    pub right : RightKinds create (kind_in kinds) (pattern_of pattern)
    pub limits : InLimits (kind_in kinds) compiles.lines compiles.env

  pub compile_writes : (slice : List ℕ) (words : ℕ) → (compile create pattern kinds objects named slice).answer ≡ Done words → Written words (compile create pattern kinds objects named slice).code
  compile_writes slice words e =
      let c = done_compiles create pattern kinds objects named slice words checked_refuses e in
      record { compiles = c; right = checked_right c.checks; limits = checked_limits c.checks c.lines c.env c.emits }
