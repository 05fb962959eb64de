-- The entries of a round over bytes: what they leave is what round and take leave of the elements, spelled.
use Prim.Native.Nat.{ℕ, ◌/◌}
use mathlib.Core.Path.{◌≡◌, sym, ◌∙◌, ap}
use mathlib.Core.Logic.{◌↔◌, ◌≢◌}
use mathlib.Core.List.{List, [], ◌∷◌, ◌++◌}
use native.Mathlib.Omega.{arith}
use lib.Dec.{T}
use lib.ListN.{length, take, drop, length-drop}
use lib.Seq.{take_at, take_all}
use Rattle.word.specs.Bytes.{number, elements, spelled}
use Rattle.word.proofs.TestLaws.{both, equals, stable, is_true, is_false}
use Rattle.word.proofs.ByteLaws.{length_spelled, spelled_append}
use Rattle.stores.specs.Cells.{unset}
use Rattle.lending.specs.RoundEntry.{record_bytes, session_fields, session_of, RoundBytes, round_spelled, round_refused, round_whole, round_elements, round_entry}
use Rattle.lending.proofs.RoundLaws.{record_back, whole_parts, take_limit, take_whole}
use Rattle.lending.proofs.TableLaws.{word_at}
use Rattle.promises.specs.ForC.{Bytes}
use Rattle.promises.specs.Rounds.{RoundAnswers}
use Rattle.promises.specs.RoundsForC.{round_means, RoundWhole, RoundComes, RoundAsLent, RoundForC, TakeForC, RoundsForC}
use Rattle.promises.proofs.ForC.{by_test, below, spells}
use Rattle.promises.proofs.RoundLaws.{round_table}

module _ (x : RoundBytes) (code : List ℕ) where
  whole_says : T (round_whole x code) ↔ RoundWhole x code
  whole_says = (
    λ h.
        let t = (whole_parts x code).0 h in
        let w = simp (both, equals) at t.1 in
        record {
          record_bytes_lem = t.0;
          object_bytes = w.0.0.0.0;
          message_bytes = w.0.0.0.1;
          certificate_bytes = w.0.0.1;
          term_bytes = w.0.1;
          code_bytes = w.1;
        },
    λ w.
        (whole_parts x code).1
        (w.record_bytes_lem, simp (both, equals) ((((w.object_bytes, w.message_bytes), w.certificate_bytes), w.term_bytes), w.code_bytes)),
  )

  entry_whole : T (round_whole x code) → round_entry x code ≡ round_spelled (round_means x code)
  unfolding round_entry
  entry_whole t = rw (is_true (round_whole x code) t)

  entry_refused : (T (round_whole x code) → ⊥) → round_entry x code ≡ round_refused x
  unfolding round_entry
  entry_refused n = rw (is_false (round_whole x code) n)

  comes_whole : (number place reason : ℕ) → T (round_whole x code)
      → RoundComes x code number place reason ↔ RoundAnswers (round_means x code) number place reason
  comes_whole number place reason t = rw (entry_whole t) (λ h. h, λ h. h)

  not_whole : (number : ℕ) → (T (round_whole x code) → ⊥) → (round_entry x code).answer.number ≡ number → number ≡ 1
  not_whole number n e = sym e ∙ ap (λ o. o.answer.number) (entry_refused n)

  module _ (session : Bytes x.session) (objects : Bytes x.objects) (messages : Bytes x.messages) (terms : Bytes x.terms) where
    as_lent : (round_entry x code).answer.number ≢ 0 → RoundAsLent x code (round_entry x code)
    as_lent n =
        by_test (round_whole x code)
        (λ t.
        let e = entry_whole t in
        let w = whole_says.0 t in
        let same = (round_table (round_elements x) (elements 4 code)).left λ z. n (ap (λ o. o.answer.number) e ∙ z) in
        record {
          session =
              ap (λ o. o.session) e ∙ ap (λ o. spelled 4 (session_fields o.session)) same
              ∙ record_back x.session w.record_bytes_lem (below x.session session);
          objects = ap (λ o. o.objects) e ∙ ap (λ o. spelled 2 o.objects) same ∙ spells 2 x.objects w.object_bytes objects;
          messages = ap (λ o. o.messages) e ∙ ap (λ o. spelled 2 o.messages) same ∙ spells 2 x.messages w.message_bytes messages;
          terms = ap (λ o. o.terms) e ∙ ap (λ o. spelled 8 o.terms) same ∙ spells 8 x.terms w.term_bytes terms;
        })
        (λ r.
        let e = entry_refused r in
        record { session = ap (λ o. o.session) e; objects = ap (λ o. o.objects) e; messages = ap (λ o. o.messages) e; terms = ap (λ o. o.terms) e })

    done_whole : (round_entry x code).answer.number ≡ 0 → T (round_whole x code)
    done_whole e = stable (round_whole x code) λ n. let z = not_whole 0 n e in omega arith

    round_for_c : RoundForC x code
    round_for_c =
        let table = round_table (round_elements x) (elements 4 code) in
        record {
          limit = (
            λ a h. let t = whole_says.1 h.0 in table.limit.0 ((comes_whole 1 0 0 t).0 a) h.1,
            λ n.
                by_test (round_whole x code)
                (λ t. (comes_whole 1 0 0 t).1 (table.limit.1 λ w. n (whole_says.0 t, w)))
                (λ r. let e = entry_refused r in (ap (λ o. o.answer.number) e, ap (λ o. o.answer.place) e, ap (λ o. o.answer.reason) e)),
          );
          numbers = λ number place reason other. (
            λ a. let t = stable (round_whole x code) (λ n. other (not_whole number n a.0)) in (whole_says.0 t, (comes_whole number place reason t).0 a),
            λ h. (comes_whole number place reason (whole_says.1 h.0)).1 h.1,
          );
          left = as_lent;
          done = λ e.
              let s = entry_whole (done_whole e) in
              record { session = ap (λ o. o.session) s; objects = ap (λ o. o.objects) s; messages = ap (λ o. o.messages) s; terms = ap (λ o. o.terms) s };
        }

module _ (session : List ℕ) (bytes : Bytes session) where
  module _ (long : length session ≡ record_bytes) where
    abbrev four : List ℕ
    four = let s = session_of (elements 4 session) in s.used ∷ s.counter ∷ s.round ∷ s.message ∷ []

    front : spelled 4 four ≡ take 16 session
    front =
        let last = (session_of (elements 4 session)).answer ∷ [] in
        sym (take_at (spelled 4 four) (spelled 4 last) 16 (length_spelled 4 four))
        ∙ ap (take 16) (sym (spelled_append 4 four last) ∙ record_back session long (below session bytes))

    answer : (session_of (elements 4 session)).answer ≡ number (drop 16 session)
    answer =
        word_at 4 (length session / 4) 4 session (rw long (omega arith))
        ∙ ap number (take_all 4 (drop 16 session) (rw (length-drop 16 session, long) (omega arith)))

  take_for_c : TakeForC session
  take_for_c = record {
    taken = λ long. let e = sym (take_whole session long) in (
      ap (λ o. o.answer.number) e,
      ap (λ o. o.answer.answer) e ∙ answer long,
      ap (λ o. o.session) e ∙ spelled_append 4 (four long) (unset ∷ []) ∙ ap (λ bytes. bytes ++ spelled 4 (unset ∷ [])) (front long),
    );
    refused = λ other. let e = sym (take_limit session other) in (ap (λ o. o.answer.number) e, ap (λ o. o.answer.answer) e, ap (λ o. o.session) e);
  }

pub rounds_for_c : RoundsForC
rounds_for_c = record { rounds = round_for_c; takes = take_for_c }
