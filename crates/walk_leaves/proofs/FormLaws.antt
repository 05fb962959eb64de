-- A raw variable, a hash and a signature, a way out at a time.
use Rattle.std.specs.Prelude.{Err, Ok}
use Rattle.std.specs.Result.{IsErrAnd}
use Prim.Native.Nat.{ℕ, ◌<◌, ◌≤◌}
use mathlib.Core.Path.{◌≡◌, ap, ◌∙◌}
use mathlib.Core.List.{List, []}
use native.Mathlib.Nat.{le_refl}
use native.Mathlib.Omega.{arith}
use lib.ListN.{length, get_or}
use Rattle.answers.specs.declared.Reason.TheVariants.{Unset}
use Rattle.numbers.specs.Limits.{named_cells}
use Rattle.numbers.specs.declared.Object.{Object}
use Rattle.numbers.specs.declared.Raw.{Raw}
use Rattle.numbers.specs.declared.TermRow.{TermRow}
use Rattle.stores.specs.Cells.{unset}
use Rattle.patterns.specs.Pattern.{Pattern, raw, hash, signature}
use Rattle.patterns.specs.Row.{pattern_fields}
use Rattle.patterns.specs.Standing.{pattern_in, StandsAt}
use Rattle.patterns.specs.Tree.{key_by}
use Rattle.patterns.proofs.StandingLaws.{signature_row}
use Rattle.theory.specs.World.{Op}
use Rattle.theory.specs.World as Voc
use Rattle.world.specs.Operations.{MakesWord}
use Rattle.machine.specs.Machine.{Slices, slices, with_objects, with_messages, with_term_rows, with_certificates, Within}
use Rattle.walks.specs.Walks.{Walked, meeting, stores_at, goes, message_and_stores, WalksBy}
use Rattle.walks.specs.declared.Walk.{Walk}
use Rattle.walks.specs.declared.Ended.{Ended}
use Rattle.walks.specs.declared.Ended.TheVariants.{Stuck}
use Rattle.walks.proofs.ComesLaws.{kept_same, reads, unset_sticks, comes_as}
use Rattle.walks.proofs.StoreLaws.{named_unset, named_row, stores_any}
use Rattle.walk_values.specs.Values.{key_rule, seals}
use Rattle.walk_values.proofs.ThenLaws.{next_kept, next_within, after_ended, after_next}
use Rattle.walk_leaves.specs.Creation.{creation, CreatesBy}

-- the pattern of a row, said otherwise
pub creates_as : (kinds : List ℕ) (w : Walk) {p q : Pattern} {before after : Slices} {answer : Walked} → p ≡ q → CreatesBy kinds q w before answer after → CreatesBy kinds p w before answer after
creates_as kinds w {before = before} e h = comes_as (ap (λ (p : Pattern). creation kinds p (stores_at w before)) e) h

-- the slices of a function that sees objects and rows
abbrev pub over : List ℕ → List ℕ → Slices → Slices
over objects terms x = with_term_rows (with_objects x objects) terms

module _ (named : List ℕ) (w : Walk) (row : ℕ) (r : Raw) (below : r.0 < named_cells) (message : TermRow) (read : message.0 ≡ get_or named r.0 unset) where
  -- r
  abbrev Raws : Walked → Type 0
  Raws answer = (kinds : List ℕ) (x : Slices) → w.used ≤ length x.rows → CreatesBy kinds (raw row r.0) w (with_messages x named) answer (with_messages x named)

  pub raw_unset : message.0 ≡ unset → Raws (Err (Stuck row Unset))
  unfolding creation
  raw_unset e kinds x inside = unset_sticks row _ (named_unset _ _ _ _ r.0 below read e)

  pub raw_known : (message.0 ≡ unset → ⊥) → (w' : Walk) → w' ≡ meeting w message → Raws (Ok w')
  unfolding creation
  raw_known is_row w' met kinds x inside =
      rw met (reads row _ (named_row _ _ _ _ r.0 below read is_row)
      (goes (ap (message_and_stores message.0) (stores_any w.message.0 message.0 _ _ _)) (record { message = is_row; more = le_refl w.used; inside = inside }) kept_same))

  -- h : H(r)
  module _ (kinds terms objects : List ℕ) (h : Object) where
    abbrev Hashes : Walked → List ℕ → List ℕ → Type 0
    Hashes answer objects' terms' =
        (x : Slices) → CreatesBy kinds (hash row h.0 r.0) w (with_term_rows (with_messages (with_objects x objects) named) terms) answer
        (with_term_rows (with_messages (with_objects x objects') named) terms')

    pub hash_unset : message.0 ≡ unset → Hashes (Err (Stuck row Unset)) objects terms
    unfolding creation
    hash_unset e x = unset_sticks row _ (named_unset _ _ _ _ r.0 below read e)

    pub hash_sealed : (message.0 ≡ unset → ⊥) → (word : ℕ) → MakesWord (Voc.hash message.0) word → {answer : Walked} {objects' terms' : List ℕ}
        → ((o : Op ℕ) → MakesWord o word → WalksBy message_and_stores (seals kinds row h.0 o) w (λ x. over objects terms x) answer (λ x. over objects' terms' x))
        → Hashes answer objects' terms'
    unfolding creation seals
    hash_sealed is_row word says sealed x = reads row _ (named_row _ _ _ _ r.0 below read is_row) (sealed (Voc.hash message.0) says (with_messages x named))

pub ruleset raw-ways = (raw_unset, raw_known)

pub ruleset hash-ways = (hash_unset, hash_sealed)

-- R is a named cell
pub raw_low : (word r : ℕ) → r ≡ (pattern_fields word).r → r < 64
unfolding pattern_fields
raw_low word r e = rw e (omega arith)

-- after the key of E and S
module _ (kinds certificates : List ℕ) (w : Walk) (row word : ℕ) (objects terms : List ℕ) (keyed : Walked) (objects₁ terms₁ : List ℕ)
    (key : WalksBy message_and_stores (key_rule kinds row (key_by (pattern_fields word))) w
    (λ x. with_certificates (over objects terms x) certificates) keyed (λ x. with_certificates (over objects₁ terms₁ x) certificates)) where
  pub key_asks : (next : Walk) → keyed ≡ Ok next → Within terms w.used → length objects ≡ 64 → Within terms₁ next.used × (length objects₁ ≡ 64)
  key_asks next went within long =
      let h = key (slices [] [] [] []) in
      (next_within h went within, (next_kept h).lengths.objects_length ∙ long)

-- s : S(key, r)
module _ (rows kinds certificates named : List ℕ) (w : Walk) (row word : ℕ) (asked : StandsAt rows row word) (six : (pattern_fields word).tag ≡ 6)
    (s : Object) (variable : s.0 ≡ (pattern_fields word).v) (r : Raw) (second : r.0 ≡ (pattern_fields word).r) (objects terms : List ℕ) (keyed : Walked) (objects₁ terms₁ : List ℕ)
    (key : WalksBy message_and_stores (key_rule kinds row (key_by (pattern_fields word))) w
    (λ x. with_certificates (over objects terms x) certificates) keyed (λ x. with_certificates (over objects₁ terms₁ x) certificates)) where
  abbrev whole : List ℕ → List ℕ → Slices
  whole objects terms = slices objects named terms certificates

  abbrev Signs : Walked → List ℕ → List ℕ → Type 0
  Signs answer objects' terms' = CreatesBy kinds (pattern_in rows row) w (whole objects terms) answer (whole objects' terms')

  pattern : pattern_in rows row ≡ signature row s.0 (key_by (pattern_fields word)) r.0
  pattern = signature_row asked six ∙ rw (variable, second)

  pub sign_ended : {ended : Ended} {answer : Walked} → keyed ≡ Err ended → IsErrAnd answer (λ e. e ≡ ended) → Signs answer objects₁ terms₁
  unfolding creation key_rule
  sign_ended e raise = creates_as kinds w pattern (after_ended (key (whole objects terms)) _ e raise)

  module _ (next : Walk) (went : keyed ≡ Ok next) where
    module _ (body : TermRow) (read : body.0 ≡ get_or named r.0 unset) where
      pub sign_unset : body.0 ≡ unset → Signs (Err (Stuck row Unset)) objects₁ terms₁
      unfolding creation key_rule
      sign_unset e = creates_as kinds w pattern (after_next (key (whole objects terms)) _ went (unset_sticks row _ (named_unset _ _ _ _ r.0 (raw_low word r.0 second) read e)))

      pub sign_sealed : (body.0 ≡ unset → ⊥) → (made : ℕ) → MakesWord (Voc.sign next.message.0 body.0) made → {answer : Walked} {objects₂ terms₂ : List ℕ}
          → ((o : Op ℕ) → MakesWord o made → WalksBy message_and_stores (seals kinds row s.0 o) next (λ x. over objects₁ terms₁ x) answer (λ x. over objects₂ terms₂ x))
          → Signs answer objects₂ terms₂
      unfolding creation key_rule seals
      sign_sealed is_row made says sealed =
          creates_as kinds w pattern (after_next (key (whole objects terms)) _ went
          (reads row _ (named_row _ _ _ _ r.0 (raw_low word r.0 second) read is_row) (sealed (Voc.sign next.message.0 body.0) says (whole objects₁ terms₁))))
