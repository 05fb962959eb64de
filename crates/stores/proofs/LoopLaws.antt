-- How loops go through variables and certificates: what is left gives the answer.
use Prim.Native.Nat.{ℕ, suc, ◌+◌, ◌-◌, ◌<◌, ◌≤◌}
use mathlib.Core.Path.{◌≡◌, refl, sym, ◌∙◌}
use mathlib.Core.Logic.{◌⊎◌, inl, inr}
use mathlib.Core.Bool.{Bool, true, false, not, ◌&&◌, and_assoc, and-true}
use Rattle.std.specs.Prelude.{None, Some}
use mathlib.Core.List.{List, [], ◌∷◌}
use native.Mathlib.Numerals.{add-one}
use native.Mathlib.Omega.{arith}
use lib.ListN.{length, get_or, take, drop, length-drop, drop_of_length-le}
use lib.Seq.{drop-cons, take_all}
use lib.Dec.{eqb}
use Rattle.word.specs.Lowest.{each}
use Rattle.stores.specs.Certificates.{agent_of, key_of, certified, agents_once}
use Rattle.stores.specs.Valid.{each_variable}

module _ (test : ℕ → ℕ → Bool) where
  variables_more : (kind cell : ℕ) (kinds cells : List ℕ) → each_variable test (kind ∷ kinds) (cell ∷ cells) ≡ (test kind cell && each_variable test kinds cells)
  unfolding each_variable
  variables_more kind cell kinds cells = refl

  no_kinds : (cells : List ℕ) → each_variable test [] cells ≡ true
  unfolding each_variable
  no_kinds cells = refl

  no_cells : (kinds : List ℕ) → each_variable test kinds [] ≡ true
  unfolding each_variable
  no_cells [] = refl
  no_cells (kind ∷ kinds) = refl

  -- what is left where the variables end
  no_variables : (kinds cells : List ℕ) → (kinds ≡ []) ⊎ (cells ≡ []) → each_variable test kinds cells ≡ true
  no_variables kinds cells (inl none) = rw none (no_kinds cells)
  no_variables kinds cells (inr none) = rw none (no_cells kinds)

  module _ {whole : Bool} {kinds cells : List ℕ} (left : whole ≡ each_variable test kinds cells) where
    variable_here : {kind cell : ℕ} {later others : List ℕ} → kinds ≡ kind ∷ later → cells ≡ cell ∷ others
        → whole ≡ (test kind cell && each_variable test later others)
    variable_here {kind} {cell} {later} {others} k c = left ∙ rw (k, c) (variables_more kind cell later others)

    pub variable_stop : {kind cell : ℕ} {later others : List ℕ} → kinds ≡ kind ∷ later → cells ≡ cell ∷ others → test kind cell ≡ false → whole ≡ false
    variable_stop k c h = variable_here k c ∙ rw h

    pub variable_next : {kind cell : ℕ} {later others : List ℕ} → kinds ≡ kind ∷ later → cells ≡ cell ∷ others → test kind cell ≡ true
        → whole ≡ each_variable test later others
    variable_next k c h = variable_here k c ∙ rw h

    pub variables_end : (kinds ≡ []) ⊎ (cells ≡ []) → whole ≡ true
    variables_end none = left ∙ no_variables kinds cells none

  -- a loop that does not stop: what is gathered so far and what is left give the answer
  module _ (gathered : Bool) {whole : Bool} {kinds cells : List ℕ} (left : whole ≡ (gathered && each_variable test kinds cells)) where
    pub variables_gather : {kind cell : ℕ} {later others : List ℕ} → kinds ≡ kind ∷ later → cells ≡ cell ∷ others
        → whole ≡ ((gathered && test kind cell) && each_variable test later others)
    variables_gather {kind} {cell} {later} {others} k c =
        left ∙ rw (k, c, variables_more) (sym (and_assoc gathered (test kind cell) (each_variable test later others)))

    pub variables_gathered : (kinds ≡ []) ⊎ (cells ≡ []) → gathered ≡ whole
    variables_gathered none = sym (left ∙ rw (no_variables kinds cells none) (and-true gathered))

module _ (agent word : ℕ) (rest : List ℕ) where
  certified_same : eqb (agent_of word) agent ≡ true → certified (word ∷ rest) agent ≡ Some (key_of word)
  unfolding certified
  certified_same same = rw (same, certified)

  certified_other : eqb (agent_of word) agent ≡ false → certified (word ∷ rest) agent ≡ certified rest agent
  unfolding certified
  certified_other other = rw (other, certified)

  certified_none : certified [] agent ≡ None
  unfolding certified
  certified_none = refl

module _ (all : List ℕ) (agent i : ℕ) (left : certified all agent ≡ certified (drop i all) agent) where
  module _ (named : ℕ) (inside : i < length all) (own : named ≡ agent_of (get_or all i 0)) where
    pub certified_here : true ≡ eqb named agent → certified all agent ≡ Some (key_of (get_or all i 0))
    certified_here same = left ∙ rw (drop-cons all i 0) (certified_same agent (get_or all i 0) (drop (suc i) all) (sym (rw own at same)))

    pub certified_next : false ≡ eqb named agent → certified all agent ≡ certified (drop (i + 1) all) agent
    certified_next other = left ∙ rw (add-one, drop-cons all i 0) (certified_other agent (get_or all i 0) (drop (suc i) all) (sym (rw own at other)))

  pub certified_end : length all ≤ i → certified all agent ≡ None
  certified_end past = left ∙ rw (drop_of_length-le all {i = i} past) (certified_none agent 0 [])

-- an agent stands nowhere among some certificates
abbrev pub nowhere : ℕ → List ℕ → Bool
nowhere agent certificates = each (λ other. not (eqb (agent_of other) agent)) certificates

once_more : (word : ℕ) (rest : List ℕ) → agents_once (word ∷ rest) ≡ (nowhere (agent_of word) rest && agents_once rest)
unfolding agents_once
once_more word rest = refl

once_none : agents_once [] ≡ true
unfolding agents_once
once_none = refl

module _ (all : List ℕ) (i : ℕ) (left : agents_once all ≡ agents_once (drop i all)) where
  once_here : (agent : ℕ) → i < length all → agent ≡ agent_of (get_or all i 0) → agents_once all ≡ (nowhere agent (drop (i + 1) all) && agents_once (drop (i + 1) all))
  once_here agent inside own = left ∙ rw (own, add-one, drop-cons all i 0) (once_more (get_or all i 0) (drop (suc i) all))

  pub once_end : length all ≤ i → agents_once all ≡ true
  once_end past = left ∙ rw (drop_of_length-le all {i = i} past) once_none

  -- an agent that is looked for in all that stand behind it
  module _ (agent : ℕ) (inside : i < length all) (own : agent ≡ agent_of (get_or all i 0)) where
    behind : take (length all - (i + 1)) (drop (i + 1) all) ≡ drop (i + 1) all
    behind = take_all (length all - (i + 1)) (drop (i + 1) all) (omega (arith, length-drop (i + 1) all))

    pub once_stop : false ≡ nowhere agent (take (length all - (i + 1)) (drop (i + 1) all)) → agents_once all ≡ false
    once_stop h = once_here agent inside own ∙ rw (sym (rw behind at h))

    pub once_next : true ≡ nowhere agent (take (length all - (i + 1)) (drop (i + 1) all)) → agents_once all ≡ agents_once (drop (i + 1) all)
    once_next h = once_here agent inside own ∙ rw (sym (rw behind at h))
