-- Refusal 2, rule by rule, over the packed fields of a term row: tag 4, n 4, zero 8, C1 to C4 of 12 each.
use Rattle.std.specs.Prelude.{ℕ, ◌%◌, ◌^◌, ◌<◌, ◌≤◌, ◌≡◌, ◌↔◌, List, [], ◌∷◌, drop}
use Rattle.word.specs.All.{All}
use Rattle.word.specs.Fields.{split, at}
use Rattle.terms.specs.Row.{row_of, tag_of, shape_of}

pub record TermFields : Type 0 where
  pub tag : ℕ
  pub n : ℕ
  pub zero : ℕ
  -- C1 to C4
  pub parts : List ℕ

abbrev pub term_fields : ℕ → TermFields
term_fields word =
    let all = split (4 ∷ 4 ∷ 8 ∷ 12 ∷ 12 ∷ 12 ∷ 12 ∷ []) word in
    record { tag = at 0 all; n = at 1 all; zero = at 2 all; parts = at 3 all ∷ at 4 all ∷ at 5 all ∷ at 6 all ∷ [] }

abbrev pub AllZero : List ℕ → Type 0
AllZero parts = All (λ part. part ≡ 0) parts

-- known tag, and every field that the tag does not use is zero
pub record PackedRow (word : ℕ) : Type 0 where
  pub bits : word < 2 ^ 64
  pub known : (1 ≤ (term_fields word).tag) × ((term_fields word).tag ≤ 10)
  -- a byte, a name, an agent: below the tag there is a number in the low 16 bits and nothing else
  pub number : (term_fields word).tag ≤ 6 → word % 2 ^ 60 < 2 ^ 16
  pub encryption : (term_fields word).tag ≡ 7 → ((term_fields word).n ≡ 0) × ((term_fields word).zero ≡ 0) × AllZero (drop 2 (term_fields word).parts)
  pub signature : (term_fields word).tag ≡ 8 → ((term_fields word).n ≡ 0) × ((term_fields word).zero ≡ 0) × AllZero (drop 2 (term_fields word).parts)
  pub hash : (term_fields word).tag ≡ 9 → ((term_fields word).n ≡ 0) × ((term_fields word).zero ≡ 0) × AllZero (drop 1 (term_fields word).parts)
  pub tuple : (term_fields word).tag ≡ 10 → ((term_fields word).n ≤ 4) × ((term_fields word).zero ≡ 0) × AllZero (drop (term_fields word).n (term_fields word).parts)

-- and that is what the known tag and the packing equation of a good row come to
pub record Rows : Type 0 where
  pub packed : (word : ℕ) → ((1 ≤ tag_of word) × (tag_of word ≤ 10) × (row_of (shape_of word) ≡ word)) ↔ PackedRow word
