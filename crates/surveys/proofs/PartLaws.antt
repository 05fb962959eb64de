-- A tuple, part by part.
use Prim.Native.Nat.{ℕ, ◌+◌, ◌≤◌, ◌<◌}
use mathlib.Core.Path.{◌≡◌, refl, sym, ap, ◌∙◌}
use mathlib.Core.Bool.{Bool, true, false}
use mathlib.Core.List.{List, [], ◌++◌}
use native.Mathlib.Numerals.{add-one}
use native.Mathlib.Omega.{arith}
use lib.ListN.{length, get_or, take, drop, drop_of_length-le}
use lib.Seq.{drop-cons, get_or-take}
use Rattle.std.proofs.lemmas.List.{length-take}
use Rattle.numbers.specs.Kinds.{kind_in}
use Rattle.patterns.specs.Pattern.{Pattern, tuple, Parts, end, part}
use Rattle.patterns.specs.Row.{pattern_fields}
use Rattle.patterns.specs.Standing.{pattern_in, StandsAt}
use Rattle.patterns.specs.Tree.{parts_by}
use Rattle.patterns.proofs.StandingLaws.{good_row, slot_low, tuple_row}
use Rattle.calls.specs.Looks.{matching_looks, creating_looks, looks_of}
use Rattle.knowing.specs.Steps.{write_object}
use Rattle.knowing.specs.Meets.{Quiet}
use Rattle.surveys.specs.Surveys.{Surveys, ChildrenAt, parts_looks_of, SurveysParts}
use Rattle.surveys.proofs.JoinLaws.{looks_seq, looks_none, looks_write}
use Rattle.surveys.proofs.LeafLaws.{as_row}
use Rattle.surveys.proofs.ChildLaws.{as_created, as_matched}
use Rattle.knowing.specs.declared.Emission.{Emission}

parts_none : (create : Bool) → parts_looks_of create end ≡ []
parts_none true = refl
parts_none false = refl

parts_more : (create : Bool) (p : Pattern) (ps : Parts) → parts_looks_of create (part p ps) ≡ looks_of create p ++ parts_looks_of create ps
parts_more true p ps = refl
parts_more false p ps = refl

-- the first k parts are looked at: looks at the rest are looks at all of them
pub record PartsLooked (create : Bool) (rows kinds children : List ℕ) (e₀ : Emission) (k : ℕ) (e : Emission) : Type 0 where
  pub done : (e' : Emission) → Surveys (kind_in kinds) (parts_looks_of create (parts_by (pattern_in rows) (drop k children))) e e' → SurveysParts create rows kinds children e₀ e'

module _ (create : Bool) (rows kinds children : List ℕ) {e₀ : Emission} where
  pub parts_begin : PartsLooked create rows kinds children e₀ 0 e₀
  parts_begin = record { done = λ e' s. s }

  module _ (k : ℕ) {e : Emission} (looked : PartsLooked create rows kinds children e₀ k e) where
    pub parts_end : length children ≤ k → SurveysParts create rows kinds children e₀ e
    parts_end past = looked.done e (rw (drop_of_length-le children {i = k} past, parts_none create) looks_none)

    pub parts_next : k < length children → {e₁ : Emission} → Surveys (kind_in kinds) (looks_of create (pattern_in rows (get_or children k 0))) e e₁
        → PartsLooked create rows kinds children e₀ (k + 1) e₁
    parts_next inside {e₁} s =
        let this = pattern_in rows (get_or children k 0) in
        let rest = parts_by (pattern_in rows) (drop (k + 1) children) in
        let split : parts_by (pattern_in rows) (drop k children) ≡ part this rest =
        ap (parts_by (pattern_in rows)) (drop-cons children k 0 inside) ∙ rw (add-one k) in
        record { done = λ e' t. looked.done e' (rw (split, parts_more create this rest) (looks_seq s t)) }

-- t : [p1 .. pn]
module _ (rows : List ℕ) (row word : ℕ) (asked : StandsAt rows row word) (eight : (pattern_fields word).tag ≡ 8) (slots : List ℕ) (got : slots ≡ (pattern_fields word).slots)
    (n : ℕ) (counted : n ≡ (pattern_fields word).n) where
  pub tuple_few : n ≤ 4
  tuple_few = omega (arith, ((good_row asked).tuple eight).0)

  pub tuple_children : ChildrenAt rows row (take n slots)
  tuple_children = record {
    stands = asked.stands;
    below = λ k inside.
        let less : k < n = omega (arith, length-take n slots) in
        rw (get_or-take n slots k 0 less, got) (slot_low asked n k (sym counted) less tuple_few);
  }

  abbrev parts : Parts
  parts = parts_by (pattern_in rows) (take n slots)

  module _ (v : ℕ) (variable : v ≡ (pattern_fields word).v) where
    formed : pattern_in rows row ≡ tuple row v parts
    formed = tuple_row asked eight ∙ rw (variable, got, counted)

    module _ (create : Bool) (kinds : List ℕ) {e e₁ e₂ : Emission} where
      pub tuple_created : create ≡ true → SurveysParts true rows kinds (take n slots) e e₁ → Quiet (write_object row v) 0 e₁ e₂ → Surveys (kind_in kinds) (looks_of create (pattern_in rows row)) e e₂
      tuple_created way s q = as_created (pattern_in rows row) way (as_row creating_looks rows row (tuple row v parts) formed (looks_seq s (looks_write q)))

      pub tuple_matched : create ≡ false → Quiet (write_object row v) 0 e e₁ → SurveysParts false rows kinds (take n slots) e₁ e₂ → Surveys (kind_in kinds) (looks_of create (pattern_in rows row)) e e₂
      tuple_matched way q s = as_matched (pattern_in rows row) way (as_row matching_looks rows row (tuple row v parts) formed (looks_seq (looks_write q) s))
