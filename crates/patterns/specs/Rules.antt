-- Bad pattern rows: refusal 4.
use Rattle.std.specs.Prelude.{ℕ, ◌-◌, Bool, true, false, not, ◌&&◌, ◌||◌, length, get_or, take, drop, eqb, leb, ltb}
use Rattle.std.specs.Prelude.{Option, None, Some}
use mathlib.Core.List.{List, [], ◌∷◌, flat_map}
use Rattle.numbers.specs.Limits.{most_parts}
use Rattle.word.specs.Lowest.{lowest, each, one_of}
use Rattle.patterns.specs.Forms.{op_form, certified_form, form_count}
use Rattle.patterns.specs.Row.{PatternFields, pattern_fields, children, children_of}

-- the fields that a form uses, and how many children it has
pub record Form : Type 0 where
  pub uses_v : Bool
  pub uses_f : Bool
  pub uses_x : Bool
  pub uses_y : Bool
  pub uses_r : Bool
  pub least : ℕ
  pub most : ℕ

abbrev pub form : Bool → Bool → Bool → Bool → Bool → ℕ → ℕ → Form
form v f x y r least most = record { uses_v = v; uses_f = f; uses_x = x; uses_y = y; uses_r = r; least = least; most = most }

-- the table of the forms by tag; Y is used in a key where F is 1 or 2
abbrev pub forms : ℕ → List Form
forms f =
    --  V     F     X     Y            R     n
    form true false false false false 0 0
    ∷ form false false false false true 0 0
    ∷ form true false true false false 0 0
    ∷ form true false false true false 0 0
    ∷ form true false false true false 0 0
    ∷ form true true true (leb op_form f) false 1 1
    ∷ form true true true (leb op_form f) true 0 0
    ∷ form true false false false true 0 0
    ∷ form true false false false false 0 most_parts
    ∷ form false false false false true 2 2
    ∷ []

abbrev zero_unless : Bool → ℕ → Bool
zero_unless used field = used || eqb field 0

-- unused fields are zero
abbrev pub unused_zero : Form → PatternFields → Bool
unused_zero form row =
    zero_unless form.uses_v row.v && zero_unless form.uses_f row.f && zero_unless form.uses_x row.x
    && zero_unless form.uses_y row.y && zero_unless form.uses_r row.r && each (eqb 0) (drop row.n row.slots)
    && eqb row.spare 0

abbrev pub count_fits : Form → PatternFields → Bool
count_fits form row = leb form.least row.n && leb row.n form.most

-- F=3 is bad; X above 63 is bad in a key
abbrev pub key_fits : Form → PatternFields → Bool
key_fits form row = not form.uses_f || (leb row.f certified_form && leb row.x 63)

-- a child has a smaller number than its owner
abbrev pub children_below : ℕ → PatternFields → Bool
children_below place row = each (λ child. ltb child place) (children row)

abbrev pub form_fits : ℕ → PatternFields → Form → Bool
form_fits place row form = unused_zero form row && count_fits form row && key_fits form row && children_below place row

abbrev pub row_fits : ℕ → PatternFields → Bool
row_fits place row = ltb row.tag form_count && form_fits place row (get_or (forms row.f) row.tag (form false false false false false 0 0))

-- a child is named that is already taken, by a row before or by a slot before
unfoldable pub repeats : List ℕ → List ℕ → Bool
repeats taken [] = false
repeats taken (child ∷ rest) = one_of taken child || repeats (child ∷ taken) rest

abbrev pub children_named : List ℕ → List ℕ
children_named rows = flat_map children_of rows

unfoldable pub bad_row : List ℕ → ℕ → ℕ → Bool
bad_row rows place word = not (row_fits place (pattern_fields word)) || repeats (children_named (take place rows)) (children_of word)

-- a row that nobody names; the root, which is the last, is exempt
unfoldable pub unnamed : List ℕ → ℕ → ℕ → Bool
unnamed rows place word = not (one_of (children_named rows) place)

abbrev or_else : Option ℕ → Option ℕ → Option ℕ
or_else (Some row) other = Some row
or_else None other = other

-- 4: the lowest row bad in itself or naming a child already taken, else the lowest row nobody names
unfoldable pub bad_pattern : List ℕ → Option ℕ
bad_pattern rows = or_else (lowest (bad_row rows) rows) (lowest (unnamed rows) (take (length rows - 1) rows))
