-- Lines that are read: of what `Lines` prints, what was printed, and of anything else nothing.
use Rattle.std.specs.Prelude.{ℕ, ◌+◌, ◌*◌, ◌-◌, Bool, true, false, not, ◌&&◌, List, [], ◌∷◌, eqb, leb}
use Rattle.std.specs.Prelude.{Option, None, Some}
use Rattle.std.specs.Option.{option_map}
use Rattle.text.specs.Lines.{space, line_feed, digit}

-- what stands in front of a text, and the text behind it
pub record TextFront (A : Type 0) : Type 0 where
  pub value : A
  pub rest : List ℕ

abbrev pub front : {A : Type 0} → A → List ℕ → TextFront A
front value rest = record { value = value; rest = rest }

abbrev pub is_digit : ℕ → Bool
is_digit byte = leb (digit 0) byte && leb byte (digit 9)

-- a number goes on, digit after digit, up to the byte that ends it. No digit follows a leading zero, and a number that is too large is none
unfoldable pub digits_on : (most end value : ℕ) → List ℕ → Option (TextFront ℕ)
digits_on most end value [] = None
digits_on most end value (byte ∷ rest) =
    elim (leb value most) [
      | true ↦ elim (eqb byte end) [
        | true ↦ Some (front value rest)
        | false ↦ elim (is_digit byte && not (eqb value 0)) [ true ↦ digits_on most end (value * 10 + (byte - digit 0)) rest | false ↦ None ]
      ]
      | false ↦ None
    ]

-- a number that is at most so large, and the byte that ends it
unfoldable pub read_number : (most end : ℕ) → List ℕ → Option (TextFront ℕ)
read_number most end [] = None
read_number most end (byte ∷ rest) = elim (is_digit byte) [ true ↦ digits_on most end (byte - digit 0) rest | false ↦ None ]

-- a number, and then others
abbrev pub number_then : Option (TextFront ℕ) → (List ℕ → Option (TextFront (List ℕ))) → Option (TextFront (List ℕ))
number_then None others = None
number_then (Some number) others = option_map (λ line. front (number.value ∷ line.value) line.rest) (others number.rest)

-- a line of as many numbers as there are limits: one space between, a line feed behind the last
unfoldable pub read_line : List ℕ → List ℕ → Option (TextFront (List ℕ))
read_line [] text = None
read_line (most ∷ []) text = number_then (read_number most line_feed text) (λ rest. Some (front [] rest))
read_line (most ∷ next ∷ more) text = number_then (read_number most space text) (read_line (next ∷ more))

-- a byte in front of the first line
abbrev pub in_front : ℕ → List (List ℕ) → List (List ℕ)
in_front byte [] = (byte ∷ []) ∷ []
in_front byte (first ∷ others) = (byte ∷ first) ∷ others

-- a text as its lines, each with its line feed; what stands behind the last line feed is a line too
unfoldable pub text_lines : List ℕ → List (List ℕ)
text_lines [] = []
text_lines (byte ∷ rest) =
    elim (eqb byte line_feed) [ true ↦ (byte ∷ []) ∷ text_lines rest | false ↦ in_front byte (text_lines rest) ]
