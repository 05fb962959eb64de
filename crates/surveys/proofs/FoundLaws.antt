-- What the looks at a whole pattern find is what its emission is refused with.
use Prim.Native.Nat.{ℕ}
use mathlib.Core.Path.{◌≡◌, refl, sym, ap, subst}
use mathlib.Core.Bool.{Bool}
use mathlib.Core.List.{List}
use Rattle.numbers.specs.Kinds.{kind_in}
use Rattle.patterns.specs.Pattern.{Pattern}
use Rattle.patterns.specs.Tree.{pattern_of}
use Rattle.patterns.proofs.TreeLaws.{raws_below}
use Rattle.theory.specs.Emission.{Env, Emitted, ok, refuse}
use Rattle.calls.specs.Compile.{tables}
use Rattle.calls.specs.Direct.{refused_by}
use Rattle.calls.specs.Looks.{passed, looks_of, known_in, verdict_of}
use Rattle.calls.proofs.LookLaws.{looks_emitted}
use Rattle.knowing.specs.Findings.{finding_of}
use Rattle.knowing.specs.Known.{known}
use Rattle.knowing.specs.Meets.{env_of}
use Rattle.std.specs.Prelude.{None}
use Rattle.surveys.specs.Surveys.{KeepsBy, Keeps, Surveys}
use Rattle.knowing.specs.declared.Emission.{Emission}

-- a verdict that is kept, as a refusal
kept_refusal : (E : Emitted) {e : Emission} → Keeps e (verdict_of E) → e.refusal ≡ refused_by E
unfolding KeepsBy
kept_refusal (ok lines env) h = h.kept.0
kept_refusal (refuse answer) h = h.kept

abbrev pub beginning : ℕ → ℕ → Emission
beginning objects named = record { objects = objects; raws = named; next = 0; written = 0; refusal = None }

pub pattern_found : (create : Bool) (pattern kinds : List ℕ) {objects named : ℕ} {p : Pattern} {e' : Emission} → p ≡ pattern_of pattern
    → Surveys (kind_in kinds) (looks_of create p) (beginning objects named) e'
    → finding_of (e'.refusal) ≡ finding_of (refused_by (tables create (kind_in kinds) (pattern_of pattern) (record { objects = known objects; raws = known named; next = 0 })))
unfolding KeepsBy
pattern_found create pattern kinds {objects} {named} {e' = e'} same s =
    let start : Env = env_of (beginning objects named) in
    let t : Surveys (kind_in kinds) (looks_of create (pattern_of pattern)) (beginning objects named) e' = rw same at s in
    let emitted = looks_emitted create (kind_in kinds) (pattern_of pattern) start (raws_below pattern) in
    ap finding_of
    (kept_refusal (tables create (kind_in kinds) (pattern_of pattern) start)
    (subst (Keeps e') (sym emitted) (t.go (passed (known_in start)) (record { kept = (refl, refl) }))))
