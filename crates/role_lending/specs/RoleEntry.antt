-- What the entry of a role for C leaves: plain numbers, and every lent byte afterwards. Fields stand high byte first.
use Rattle.std.specs.Prelude.{ℕ, Bool, cond, ◌&&◌, List}
use Rattle.word.specs.Bytes.{whole, elements, spelled}
use Rattle.answers.specs.Numbers.{compiled_number, compiled_place}
use Rattle.answers.specs.declared.Compiled.{Compiled}
use Rattle.answers.specs.declared.Compiled.TheVariants.{Limit}
use Rattle.calls.specs.Role.{RoleLent, RoleOutcome, role}
use Rattle.role_lending.specs.declared.RoleAnswer.{RoleAnswer}

-- a call: what comes back, and the lent bytes that it may write
pub record RoleLeft : Type 0 where
  pub answer : RoleAnswer
  pub ends : List ℕ
  pub code : List ℕ

abbrev pub role_numbers : Compiled → ℕ → RoleAnswer
role_numbers answer half = record { number = compiled_number answer; place = compiled_place answer; half = half }

-- an outcome in numbers and bytes
abbrev pub role_spelled : RoleOutcome → RoleLeft
role_spelled o = record { answer = role_numbers o.answer o.half; ends = spelled 2 o.ends; code = spelled 4 o.code }

-- the elements of what is lent as bytes: pattern rows are eight, cells two
abbrev pub role_elements : RoleLent → RoleLent
role_elements x = record { rows = elements 8 x.rows; counts = x.counts; kinds = x.kinds; objects = elements 2 x.objects; named = elements 2 x.named }

module _ (ends code : List ℕ) (x : RoleLent) where
  -- 1, with every byte as it was
  abbrev pub role_untouched : RoleLeft
  role_untouched = record { answer = role_numbers Limit 0; ends = ends; code = code }

  -- rows are whole, and so are cells, ends of two bytes, and code words of four
  abbrev pub role_whole : Bool
  role_whole = whole 8 x.rows && whole 2 x.objects && whole 2 x.named && whole 2 ends && whole 4 code

  -- compile a role, lent bytes: a slice that is not whole elements is 1
  unfoldable pub role_entry : RoleLeft
  role_entry = cond role_whole (role_spelled (role (elements 2 ends) (elements 4 code) (role_elements x))) role_untouched
