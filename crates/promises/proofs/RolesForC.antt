-- The entry of a role over bytes: what it leaves is what a role leaves of the elements, spelled.
use Prim.Native.Nat.{ℕ, ◌^◌}
use mathlib.Core.Path.{◌≡◌, refl, sym, ◌∙◌, ap}
use mathlib.Core.Logic.{◌↔◌, ◌≢◌, ◌⊎◌, inl, inr}
use mathlib.Core.List.{List, [], ◌++◌, map}
use native.Mathlib.Omega.{arith}
use lib.Dec.{T}
use lib.ListN.{length, get_or, drop}
use Rattle.word.specs.Bytes.{elements, spelled}
use Rattle.word.proofs.TestLaws.{both, equals, stable, is_true, is_false}
use Rattle.word.proofs.ByteLaws.{Below, length_spelled, elements_spelled}
use Rattle.calls.specs.Round.{round}
use Rattle.calls.specs.Role.{RoleLent, in_turn, ends_from}
use Rattle.lending.specs.RoundEntry.{round_elements}
use Rattle.role_lending.specs.RoleEntry.{role_spelled, role_untouched, role_whole, role_elements, role_entry}
use Rattle.promises.specs.ForC.{Bytes}
use Rattle.promises.specs.Roles.{RoleAnswers}
use Rattle.promises.specs.Halves.{round_words}
use Rattle.promises.specs.RolesForC.{part_bytes, SpellsWords, role_means, RoleWhole, RoleComes, RolePlaysForC, RoleForC, RolesForC}
use Rattle.promises.proofs.ForC.{by_test, spells}
use Rattle.promises.proofs.RoleTable.{role_table}
use Rattle.promises.proofs.RoleLaws.{role_rounds}
use Rattle.promises.proofs.PartLaws.{role_below, ends_below, round_bytes}

apart : {number half : ℕ} → (number ≢ 1) ⊎ (half ≢ 0) → number ≡ 1 → half ≡ 0 → ⊥
apart (inl n) p q = n p
apart (inr n) p q = n q

-- words of 32 bits are read as they were spelled
spells_words : (bytes words : List ℕ) → bytes ≡ spelled 4 words → Below (256 ^ 4) words → SpellsWords bytes words
spells_words bytes words is below =
    let same : elements 4 bytes ≡ words = ap (elements 4) is ∙ elements_spelled 4 words (omega arith) below in
    record { whole_bytes = omega (arith, ap length is, length_spelled 4 words); same_words = same; same_round = λ y. ap (round (round_elements y)) same }

module _ (ends code : List ℕ) (x : RoleLent) where
  whole_says : T (role_whole ends code x) ↔ RoleWhole ends code x
  whole_says = (
    λ h.
        let w = simp (both, equals) at h in
        record { row_bytes = w.0.0.0.0; object_bytes = w.0.0.0.1; named_bytes = w.0.0.1; end_bytes = w.0.1; code_bytes = w.1 },
    λ w. simp (both, equals) ((((w.row_bytes, w.object_bytes), w.named_bytes), w.end_bytes), w.code_bytes),
  )

  entry_whole : T (role_whole ends code x) → role_entry ends code x ≡ role_spelled (role_means ends code x)
  unfolding role_entry
  entry_whole t = rw (is_true (role_whole ends code x) t)

  entry_refused : (T (role_whole ends code x) → ⊥) → role_entry ends code x ≡ role_untouched ends code x
  unfolding role_entry
  entry_refused n = rw (is_false (role_whole ends code x) n)

  comes_whole : (number place half : ℕ) → T (role_whole ends code x) → RoleComes ends code x number place half ↔ RoleAnswers (role_means ends code x) number place half
  comes_whole number place half t = rw (entry_whole t) (λ h. h, λ h. h)

  not_whole : (number half : ℕ) → (T (role_whole ends code x) → ⊥) → (role_entry ends code x).answer.number ≡ number → (role_entry ends code x).answer.half ≡ half
      → (number ≡ 1) × (half ≡ 0)
  not_whole number half n e f = (sym e ∙ ap (λ o. o.answer.number) (entry_refused n), sym f ∙ ap (λ o. o.answer.half) (entry_refused n))

  module _ (end_bytes : Bytes ends) (code_bytes : Bytes code) where
    as_lent : (role_entry ends code x).answer.number ≢ 0 → ((role_entry ends code x).ends ≡ ends) × ((role_entry ends code x).code ≡ code)
    as_lent n =
        by_test (role_whole ends code x)
        (λ t.
        let e = entry_whole t in
        let w = whole_says.0 t in
        let same = (role_table (elements 2 ends) (elements 4 code) (role_elements x)).left λ z. n (ap (λ o. o.answer.number) e ∙ z) in (
          ap (λ o. o.ends) e ∙ ap (spelled 2) same.0 ∙ spells 2 ends w.end_bytes end_bytes,
          ap (λ o. o.code) e ∙ ap (spelled 4) same.1 ∙ spells 4 code w.code_bytes code_bytes,
        ))
        (λ r. let e = entry_refused r in (ap (λ o. o.ends) e, ap (λ o. o.code) e))

    done_whole : (role_entry ends code x).answer.number ≡ 0 → T (role_whole ends code x)
    done_whole e = stable (role_whole ends code x) λ n. let z = sym e ∙ ap (λ o. o.answer.number) (entry_refused n) in omega arith

    plays_so : (role_entry ends code x).answer.number ≡ 0 → RolePlaysForC ends code x
    plays_so e =
        let s = entry_whole (done_whole e) in
        let r = role_rounds (role_elements x) (elements 2 ends) (elements 4 code) (sym (ap (λ o. o.answer.number) s) ∙ e) in
        let rounds = map round_words r.rounds in
        let rest = drop (length (in_turn rounds)) (elements 4 code) in
        let same : elements 2 (role_entry ends code x).ends ≡ ends_from 0 rounds =
        ap (λ o. elements 2 o.ends) s ∙ ap (λ l. elements 2 (spelled 2 l)) r.ends
        ∙ elements_spelled 2 (ends_from 0 rounds) (omega arith) (ends_below (256 ^ 2) 0 rounds (omega arith) (omega (arith, r.few_words))) in
        let bytes : (role_entry ends code x).code ≡ spelled 4 (in_turn rounds ++ rest) = ap (λ o. o.code) s ∙ ap (spelled 4) r.words in
        record {
          role_rounds = r;
          same_ends = same ∙ sym r.ends;
          parts = λ i inside.
              spells_words _ (get_or rounds i []) ((λ j. part_bytes (bytes j) (same j) i) ∙ round_bytes r.rounds rest i inside) (role_below refl r.compiled i);
        }

    role_for_c : RoleForC ends code x
    role_for_c = record {
      limit = (
        λ a w. (comes_whole 1 0 0 (whole_says.1 w)).0 a,
        λ h.
            by_test (role_whole ends code x)
            (λ t. (comes_whole 1 0 0 t).1 (h (whole_says.0 t)))
            (λ r. let e = entry_refused r in (ap (λ o. o.answer.number) e, ap (λ o. o.answer.place) e, ap (λ o. o.answer.half) e)),
      );
      numbers = λ number place half other. (
        λ a.
            let t = stable (role_whole ends code x) (λ n. let z = not_whole number half n a.0 a.2 in apart other z.0 z.1) in
            (whole_says.0 t, (comes_whole number place half t).0 a),
        λ h. (comes_whole number place half (whole_says.1 h.0)).1 h.1,
      );
      left = as_lent;
      done = λ e. let s = entry_whole (done_whole e) in (ap (λ o. o.ends) s, ap (λ o. o.code) s);
      plays = plays_so;
    }

pub roles_for_c : RolesForC
roles_for_c = role_for_c
