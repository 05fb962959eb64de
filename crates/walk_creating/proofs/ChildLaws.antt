-- An encryption and a let, a way out at a time.
use Rattle.std.specs.Prelude.{Err, Ok}
use Rattle.std.specs.Result.{IsErrAnd}
use Prim.Native.Nat.{ℕ, ◌<◌}
use mathlib.Core.Path.{◌≡◌, refl, ap, ◌∙◌}
use mathlib.Core.List.{List}
use native.Mathlib.Nat.{le_refl}
use lib.ListN.{length, get_or, set}
use Rattle.answers.specs.declared.Reason.TheVariants.{Unset}
use Rattle.numbers.specs.declared.Object.{Object}
use Rattle.numbers.specs.declared.Raw.{Raw}
use Rattle.stores.specs.Cells.{unset}
use Rattle.patterns.specs.Pattern.{encryption, let_in}
use Rattle.patterns.specs.Row.{pattern_fields}
use Rattle.patterns.specs.Standing.{pattern_in, StandsAt}
use Rattle.patterns.specs.Tree.{key_by}
use Rattle.patterns.proofs.StandingLaws.{encryption_row, let_row}
use Rattle.theory.specs.World.{Op, encrypt}
use Rattle.world.specs.Operations.{MakesWord}
use Rattle.machine.specs.Machine.{Slices, slices, with_objects, with_term_rows, with_certificates, Within}
use Rattle.machine.proofs.AgreeLaws.{messages_lengths}
use Rattle.walks.specs.Walks.{Walked, goes, message_and_stores, WalksBy}
use Rattle.walks.specs.declared.Walk.{Walk}
use Rattle.walks.specs.declared.Ended.{Ended}
use Rattle.walks.specs.declared.Ended.TheVariants.{Stuck}
use Rattle.walks.proofs.ComesLaws.{frees, set_sticks, then_goes}
use Rattle.walks.proofs.StoreLaws.{named_unset, named_row, stores_named}
use Rattle.walk_values.specs.Values.{key_rule, seals}
use Rattle.walk_values.proofs.ThenLaws.{next_message, next_within, after_ended, after_next}
use Rattle.walk_leaves.specs.Creation.{creation, CreatesBy}
use Rattle.walk_leaves.proofs.FormLaws.{creates_as, raw_low}

module _ (rows kinds certificates : List ℕ) (w : Walk) (row word : ℕ) (asked : StandsAt rows row word) (objects named terms : List ℕ) where
  abbrev whole : List ℕ → List ℕ → List ℕ → Slices
  whole objects named terms = slices objects named terms certificates

  abbrev over : List ℕ → List ℕ → Slices → Slices
  over objects terms x = with_term_rows (with_objects x objects) terms

  abbrev Creates : Walked → List ℕ → List ℕ → List ℕ → Type 0
  Creates answer objects' named' terms' = CreatesBy kinds (pattern_in rows row) w (whole objects named terms) answer (whole objects' named' terms')

  abbrev Inner : ℕ → Walk → List ℕ → List ℕ → List ℕ → Walked → List ℕ → List ℕ → List ℕ → Type 0
  Inner child w objects named terms answer objects' named' terms' = CreatesBy kinds (pattern_in rows child) w (whole objects named terms) answer (whole objects' named' terms')

  -- e : E(key, p)
  module _ (five : (pattern_fields word).tag ≡ 5) (e : Object) (variable : e.0 ≡ (pattern_fields word).v) (child : ℕ) (first : child ≡ get_or (pattern_fields word).slots 0 0)
      (keyed : Walked) (objects₁ terms₁ : List ℕ)
      (key : WalksBy message_and_stores (key_rule kinds row (key_by (pattern_fields word))) w
      (λ x. with_certificates (over objects terms x) certificates) keyed (λ x. with_certificates (over objects₁ terms₁ x) certificates)) where
    encrypts : pattern_in rows row ≡ encryption row e.0 (key_by (pattern_fields word)) (pattern_in rows child)
    encrypts = encryption_row asked child first five ∙ rw variable

    pub key_ended : {ended : Ended} {answer : Walked} → keyed ≡ Err ended → IsErrAnd answer (λ e. e ≡ ended) → Creates answer objects₁ named terms₁
    unfolding creation key_rule
    key_ended q raise = creates_as kinds w encrypts (after_ended (key (whole objects named terms)) _ q raise)

    module _ (next : Walk) (went : keyed ≡ Ok next) where
      module _ (inner : Walked) (objects₂ named₂ terms₂ : List ℕ) (part : Inner child next objects₁ named terms₁ inner objects₂ named₂ terms₂) where
        pub part_ended : {ended : Ended} {answer : Walked} → inner ≡ Err ended → IsErrAnd answer (λ e. e ≡ ended) → Creates answer objects₂ named₂ terms₂
        unfolding creation key_rule
        part_ended q raise = creates_as kinds w encrypts (after_next (key (whole objects named terms)) _ went (after_ended part _ q raise))

        module _ (last : Walk) (came : inner ≡ Ok last) where
          pub part_sealed : (made : ℕ) → MakesWord (encrypt next.message.0 last.message.0) made → {answer : Walked} {objects₃ terms₃ : List ℕ}
              → ((o : Op ℕ) → MakesWord o made → WalksBy message_and_stores (seals kinds row e.0 o) last (λ x. over objects₂ terms₂ x) answer (λ x. over objects₃ terms₃ x))
              → Creates answer objects₃ named₂ terms₃
          unfolding creation key_rule seals
          part_sealed made says sealed =
              creates_as kinds w encrypts (after_next (key (whole objects named terms)) _ went
              (after_next part _ came (sealed (encrypt next.message.0 last.message.0) says (whole objects₂ named₂ terms₂))))

  -- let r = p1 in p2
  module _ (nine : (pattern_fields word).tag ≡ 9) (r : Raw) (variable : r.0 ≡ (pattern_fields word).r) (child : ℕ) (first : child ≡ get_or (pattern_fields word).slots 0 0)
      (other : ℕ) (second : other ≡ get_or (pattern_fields word).slots 1 0) (bound : Walked) (objects₁ named₁ terms₁ : List ℕ)
      (made : Inner child w objects named terms bound objects₁ named₁ terms₁) where
    lets : pattern_in rows row ≡ let_in row r.0 (pattern_in rows child) (pattern_in rows other)
    lets = let_row asked child first other second nine ∙ rw variable

    pub let_ended : {ended : Ended} {answer : Walked} → bound ≡ Err ended → IsErrAnd answer (λ e. e ≡ ended) → Creates answer objects₁ named₁ terms₁
    unfolding creation
    let_ended q raise = creates_as kinds w lets (after_ended made _ q raise)

    module _ (next : Walk) (went : bound ≡ Ok next) where
      module _ (known : ℕ) (read : known ≡ get_or named₁ r.0 unset) where
        low : r.0 < 64
        low = raw_low word r.0 variable

        pub let_set : (known ≡ unset → ⊥) → Creates (Err (Stuck row Unset)) objects₁ named₁ terms₁
        unfolding creation
        let_set is_row = creates_as kinds w lets (after_next made _ went (set_sticks row _ (named_row _ _ _ _ r.0 low read is_row)))

        pub let_second : known ≡ unset → Within terms w.used → length named₁ ≡ 64 → (named₂ : List ℕ) → named₂ ≡ set named₁ r.0 next.message.0
            → {answer : Walked} {objects₃ named₃ terms₃ : List ℕ} → Inner other next objects₁ named₂ terms₁ answer objects₃ named₃ terms₃ → Creates answer objects₃ named₃ terms₃
        unfolding creation
        let_second none within long named₂ put then =
            creates_as kinds w lets (after_next made _ went (frees row _ (named_unset _ _ _ _ r.0 low read none)
            (then_goes {seen = message_and_stores} (λ p. creation kinds (pattern_in rows other) p.1) {w = next}
            (goes (ap (message_and_stores next.message.0) (stores_named _ next.message.0 objects₁ named₁ _ next.message.0 (next_message made went) r.0 low (rw long low)))
            (record { message = next_message made went; more = le_refl next.used; inside = (next_within made went within).used_rows_lem })
            (record { lengths = messages_lengths (whole objects₁ named₁ terms₁) r.0 next.message.0; rows = refl }))
            (rw put at then))))
