-- What firmware calls for a role: the entry over bytes, fields high byte first. Pattern rows are eight bytes, cells and ends two, code words four.
use Rattle.std.specs.Prelude.{ℕ, ◌-◌, ◌*◌, ◌<◌, ◌≡◌, ◌↔◌, ◌≢◌, ◌⊎◌, List, [], map, length, get_or, take, drop}
use Rattle.word.specs.Bytes.{elements, spelled}
use Rattle.calls.specs.Round.{round}
use Rattle.calls.specs.Role.{RoleLent, RoleOutcome, role, round_start}
use Rattle.lending.specs.RoundEntry.{RoundBytes, round_elements}
use Rattle.role_lending.specs.RoleEntry.{role_elements, role_entry}
use Rattle.promises.specs.ForC.{Bytes, Whole}
use Rattle.promises.specs.Roles.{RoleAnswers}
use Rattle.promises.specs.Halves.{round_words, RoleRounds}
use Rattle.promises.specs.RoundsForC.{round_means}

-- a round's own bytes, between the ends
abbrev pub part_bytes : List ℕ → List ℕ → ℕ → List ℕ
part_bytes code ends i = take (4 * (get_or ends i 0 - round_start ends i)) (drop (4 * round_start ends i) code)

-- whole words, exactly these: a round over the bytes is the round over the words
pub record SpellsWords (bytes words : List ℕ) : Type 0 where
  pub whole_bytes : Whole 4 bytes
  pub same_words : elements 4 bytes ≡ words
  pub same_round : (y : RoundBytes) → round_means y bytes ≡ round (round_elements y) words

module _ (ends code : List ℕ) (x : RoleLent) where
  -- role of the elements that the bytes spell
  abbrev pub role_means : RoleOutcome
  role_means = role (elements 2 ends) (elements 4 code) (role_elements x)

  -- slices of whole elements
  pub record RoleWhole : Type 0 where
    pub row_bytes : Whole 8 x.rows
    pub object_bytes : Whole 2 x.objects
    pub named_bytes : Whole 2 x.named
    pub end_bytes : Whole 2 ends
    pub code_bytes : Whole 4 code

  abbrev pub RoleComes : ℕ → ℕ → ℕ → Type 0
  RoleComes number place half =
      ((role_entry ends code x).answer.number ≡ number) × ((role_entry ends code x).answer.place ≡ place) × ((role_entry ends code x).answer.half ≡ half)

  -- a role that was compiled with 0: its rounds, which play in turn; the ends that it leaves are theirs, and the bytes between the ends their words
  pub record RolePlaysForC : Type 0 where
    pub role_rounds : RoleRounds (role_elements x) (elements 4 code) role_means
    pub same_ends : elements 2 (role_entry ends code x).ends ≡ role_means.ends
    pub parts : (i : ℕ) → i < length role_rounds.rounds
        → SpellsWords (part_bytes (role_entry ends code x).code (elements 2 (role_entry ends code x).ends) i) (get_or (map round_words role_rounds.rounds) i [])

  pub record RoleForC : Type 0 where
    -- 1 of no half, or of half 0, exactly where a slice is not whole or the elements have it; every other answer exactly where the elements have it
    pub limit : RoleComes 1 0 0 ↔ (RoleWhole → RoleAnswers role_means 1 0 0)
    pub numbers : (number place half : ℕ) → (number ≢ 1) ⊎ (half ≢ 0) → RoleComes number place half ↔ (RoleWhole × RoleAnswers role_means number place half)
    -- the bytes as they were, or those of what a role leaves
    pub left : (role_entry ends code x).answer.number ≢ 0 → ((role_entry ends code x).ends ≡ ends) × ((role_entry ends code x).code ≡ code)
    pub done : (role_entry ends code x).answer.number ≡ 0
        → ((role_entry ends code x).ends ≡ spelled 2 role_means.ends) × ((role_entry ends code x).code ≡ spelled 4 role_means.code)
    -- and the rounds over those bytes are decided by the figures
    pub plays : (role_entry ends code x).answer.number ≡ 0 → RolePlaysForC

abbrev pub RolesForC : Type 0
RolesForC = (ends code : List ℕ) (x : RoleLent) → Bytes ends → Bytes code → RoleForC ends code x
