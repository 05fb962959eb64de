-- The lines of what a bundle gives, as its answer is told apart.
use Prim.Native.Nat.{ℕ, ◌≤◌}
use mathlib.Core.Path.{◌≡◌, refl, sym, ◌∙◌, ap, subst}
use mathlib.Core.List.{List, ◌++◌}
use native.Mathlib.Omega.{arith}
use lib.ListN.{length, take, drop, length-append}
use lib.Seq.{take_at}
use Rattle.text.specs.Written.{Wrote}
use Rattle.bundles.specs.Given.{Given, refused, ran, given_by}
use Rattle.printing.specs.Listing.{refused_line, code_lines, end_numbers, set_lines, given_lines, listing}
use Rattle.running.specs.declared.Ended.{Ended}
use Rattle.outcomes.specs.declared.Refusal.{Refusal}
use Rattle.std.specs.Prelude.{Result, Ok, Err}
use Rattle.outcomes.specs.Held.{Held, ended_by, held_by}

-- the lines of an answer with its slices
abbrev pub held_lines : Held → List ℕ
held_lines h = go h.gave
  where
    go : Result (ℕ × Ended) Refusal → List ℕ
    go (Err refusal) = refused_line refusal.number refusal.place
    go (Ok done) =
        let ended = done.1 in
        code_lines 0 (take done.0 h.code) ++ end_numbers ended.answer ended.used ended.counter ended.accumulator ++ set_lines ended.answer h.objects h.messages

held_lines_lem : (g : Given) (code objects messages rows : List ℕ) → held_lines (held_by g code objects messages rows) ≡ given_lines g
held_lines_lem (refused number place) code objects messages rows = refl
held_lines_lem (ran words o) code objects messages rows =
    ap (λ front. code_lines 0 front ++ end_numbers o.answer (ended_by o).used o.counter o.accumulator ++ set_lines o.answer o.objects o.messages)
    (take_at words (drop (length words) code) (length words) refl)

-- as many words as the slice has room for
abbrev pub Room : Held → Type 0
Room h = go h.gave
  where
    go : Result (ℕ × Ended) Refusal → Type 0
    go (Err refusal) = Unit {0}
    go (Ok done) = done.0 ≤ length h.code

held_room : (g : Given) (code objects messages rows : List ℕ) → Room (held_by g code objects messages rows)
held_room (refused number place) code objects messages rows = tt
held_room (ran words o) code objects messages rows = omega (arith, length-append words (drop (length words) code))

module _ (bytes : List ℕ) (before-code before-objects before-messages before-rows : List ℕ) {gave : Result (ℕ × Ended) Refusal} {code objects messages rows : List ℕ}
    (is : record { gave = gave; code = code; objects = objects; messages = messages; rows = rows } ≡ held_by (given_by bytes) before-code before-objects before-messages before-rows) where
  pub words_fit : {words : ℕ} {ended : Ended} → gave ≡ Ok (words, ended) → words ≤ length code
  words_fit told =
      subst (λ g. Room (record { gave = g; code = code; objects = objects; messages = messages; rows = rows })) told
      (subst Room (sym is) (held_room (given_by bytes) before-code before-objects before-messages before-rows))

  module _ {before after : List ℕ} {next : ℕ} where
    listed : (g : Result (ℕ × Ended) Refusal) → gave ≡ g → Wrote (held_lines (record { gave = g; code = code; objects = objects; messages = messages; rows = rows })) before 0 after next
        → Wrote (listing bytes) before 0 after next
    unfolding listing
    listed g told wrote =
        let lines : held_lines (record { gave = g; code = code; objects = objects; messages = messages; rows = rows }) ≡ given_lines (given_by bytes) =
        ap (λ (x : Result (ℕ × Ended) Refusal). held_lines (record { gave = x; code = code; objects = objects; messages = messages; rows = rows })) (sym told)
        ∙ ap held_lines is ∙ held_lines_lem (given_by bytes) before-code before-objects before-messages before-rows in
        subst (λ l. Wrote l before 0 after next) lines wrote

    pub refused_listed : {refusal : Refusal} → gave ≡ Err refusal → Wrote (refused_line refusal.number refusal.place) before 0 after next → Wrote (listing bytes) before 0 after next
    refused_listed {refusal} told wrote = listed (Err refusal) told wrote

    pub ran_listed : {words : ℕ} {ended : Ended} → gave ≡ Ok (words, ended)
        → Wrote (code_lines 0 (take words code) ++ end_numbers ended.answer ended.used ended.counter ended.accumulator ++ set_lines ended.answer objects messages) before 0 after next
        → Wrote (listing bytes) before 0 after next
    ran_listed {words} {ended} told wrote = listed (Ok (words, ended)) told wrote
