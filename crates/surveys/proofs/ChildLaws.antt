-- Rows with children of their own: an encryption and a let.
use Prim.Native.Nat.{ℕ, zero, suc}
use mathlib.Core.Path.{◌≡◌, refl, sym, ◌∙◌}
use mathlib.Core.Bool.{Bool, true, false}
use mathlib.Core.List.{List}
use native.Mathlib.Omega.{arith}
use lib.ListN.{get_or}
use Rattle.answers.specs.declared.Compiled.TheVariants.{WrongKind}
use Rattle.patterns.specs.Pattern.{Pattern, plain_key, op_key, certified_key, encryption, let_in}
use Rattle.patterns.specs.Row.{pattern_fields}
use Rattle.patterns.specs.Standing.{pattern_in, StandsAt}
use Rattle.patterns.specs.Tree.{key_by}
use Rattle.patterns.proofs.StandingLaws.{encryption_key, encryption_row, let_row}
use Rattle.theory.specs.Emission.{refuse}
use Rattle.calls.specs.Looks.{creating_key_looks, matching_looks, creating_looks, looks_of}
use Rattle.knowing.specs.Steps.{read_object, write_object, read_raw, write_raw, free_raw}
use Rattle.knowing.specs.Meets.{Quiet}
use Rattle.surveys.specs.Surveys.{Surveys}
use Rattle.surveys.proofs.JoinLaws.{looks_seq, looks_read, looks_write, looks_free, looks_wrong, looks_read_raw, looks_write_raw}
use Rattle.surveys.proofs.LeafLaws.{raw_low, as_row}
use Rattle.knowing.specs.declared.Emission.{Emission}

-- the looks of a direction
module _ {create : Bool} {kind : ℕ → ℕ} (p : Pattern) {e e' : Emission} where
  pub as_created : create ≡ true → Surveys kind (creating_looks p) e e' → Surveys kind (looks_of create p) e e'
  as_created way s = rw way s

  pub as_matched : create ≡ false → Surveys kind (matching_looks p) e e' → Surveys kind (looks_of create p) e e'
  as_matched way s = rw way s

-- e : E(key, p)
module _ (rows : List ℕ) (row word : ℕ) (asked : StandsAt rows row word) (five : (pattern_fields word).tag ≡ 5)
    (child : ℕ) (first : child ≡ get_or (pattern_fields word).slots 0 0) {create : Bool} {kind : ℕ → ℕ} where
  module _ (v : ℕ) (variable : v ≡ (pattern_fields word).v) {e e₁ e₂ e₃ : Emission} where
    pub encryption_created : create ≡ true → Surveys kind (creating_key_looks row (key_by (pattern_fields word))) e e₁ → Surveys kind (creating_looks (pattern_in rows child)) e₁ e₂
        → Quiet (write_object row v) 0 e₂ e₃ → Surveys kind (looks_of create (pattern_in rows row)) e e₃
    encryption_created way k s q =
        as_created (pattern_in rows row) way
        (as_row creating_looks rows row (encryption row v (key_by (pattern_fields word)) (pattern_in rows child)) (encryption_row asked child first five ∙ rw variable)
        (looks_seq k (looks_seq s (looks_write q))))

    pub encryption_matched : (x form : ℕ) → x ≡ (pattern_fields word).x → form ≡ (pattern_fields word).f → create ≡ false → form ≡ 0
        → Quiet (write_object row v) 0 e e₁ → Quiet (read_object row x) 0 e₁ e₂ → Surveys kind (matching_looks (pattern_in rows child)) e₂ e₃ → Surveys kind (looks_of create (pattern_in rows row)) e e₃
    encryption_matched x form key read way plain q p s =
        as_matched (pattern_in rows row) way
        (as_row matching_looks rows row (encryption row v (plain_key x) (pattern_in rows child)) (encryption_row asked child first five ∙ rw (variable, key, sym read ∙ plain))
        (looks_seq (looks_write q) (looks_seq (looks_read p) s)))

  -- only a plain key opens
  pub encryption_wrong : (form : ℕ) {e e' : Emission} → form ≡ (pattern_fields word).f → create ≡ false → (form ≡ 0 → ⊥) → Quiet (λ env. refuse (WrongKind row)) 0 e e'
      → Surveys kind (looks_of create (pattern_in rows row)) e e'
  encryption_wrong form {e} {e'} read way other q = as_matched (pattern_in rows row) way (by (pattern_fields word).f refl)
    where
      by : (f : ℕ) → (pattern_fields word).f ≡ f → Surveys kind (matching_looks (pattern_in rows row)) e e'
      by zero h = absurd (other (read ∙ h))
      by (suc zero) h = as_row matching_looks rows row (encryption row (pattern_fields word).v (op_key (pattern_fields word).x (pattern_fields word).y) (pattern_in rows child))
          (encryption_row asked child first five ∙ rw h) (looks_wrong q)
      by (suc (suc zero)) h = as_row matching_looks rows row (encryption row (pattern_fields word).v (certified_key (pattern_fields word).x (pattern_fields word).y) (pattern_in rows child))
          (encryption_row asked child first five ∙ rw h) (looks_wrong q)
      by (suc (suc (suc f))) h = absurd (omega (arith, encryption_key asked five))

-- let r = p1 in p2
module _ (rows : List ℕ) (row word : ℕ) (asked : StandsAt rows row word) (nine : (pattern_fields word).tag ≡ 9)
    (child : ℕ) (first : child ≡ get_or (pattern_fields word).slots 0 0) (other : ℕ) (second : other ≡ get_or (pattern_fields word).slots 1 0)
    (r : ℕ) (named : r ≡ (pattern_fields word).r) where
  formed : pattern_in rows row ≡ let_in row r (pattern_in rows child) (pattern_in rows other)
  formed = let_row asked child first other second nine ∙ rw named

  module _ {create : Bool} {kind : ℕ → ℕ} {e e₁ e₂ e₃ : Emission} where
    pub let_created : create ≡ true → Surveys kind (creating_looks (pattern_in rows child)) e e₁ → Quiet (write_raw row r) 0 e₁ e₂
        → Surveys kind (creating_looks (pattern_in rows other)) e₂ e₃ → Surveys kind (looks_of create (pattern_in rows row)) e e₃
    let_created way s q t =
        as_created (pattern_in rows row) way
        (as_row creating_looks rows row (let_in row r (pattern_in rows child) (pattern_in rows other)) formed
        (looks_seq s (looks_seq (looks_write_raw (raw_low word r named) q) t)))

    pub let_matched : {e₄ : Emission} → create ≡ false → Quiet (free_raw row r) 0 e e₁ → Surveys kind (matching_looks (pattern_in rows other)) e₁ e₂ → Quiet (read_raw row r) 0 e₂ e₃
        → Surveys kind (matching_looks (pattern_in rows child)) e₃ e₄ → Surveys kind (looks_of create (pattern_in rows row)) e e₄
    let_matched way f s q t =
        as_matched (pattern_in rows row) way
        (as_row matching_looks rows row (let_in row r (pattern_in rows child) (pattern_in rows other)) formed
        (looks_seq (looks_free f) (looks_seq s (looks_seq (looks_read_raw (raw_low word r named) q) t))))
