-- Text written after text is the two as one.
use Prim.Native.Nat.{ℕ, ◌+◌, ◌<◌, ◌≤◌}
use mathlib.Core.Path.{◌≡◌, refl, sym, ◌∙◌, ap}
use mathlib.Core.List.{List, [], ◌∷◌, ◌++◌}
use native.Mathlib.Nat.{add-zero}
use native.Mathlib.Numerals.{add-one}
use native.Mathlib.Omega.{arith}
use lib.ListN.{length, get_or, take, set, length-append}
use lib.Seq.{set_out, length-sets, take-suc}
use Rattle.word.proofs.ByteLaws.{sets_append}
use Rattle.text.specs.Written.{Wrote}

pub wrote_nothing : (before : List ℕ) (at : ℕ) → Wrote [] before at before at
wrote_nothing before at = record { bytes = refl; place = sym (add-zero at) }

pub wrote_then : {text more before middle after : List ℕ} {at next last : ℕ} → Wrote text before at middle next → Wrote more middle next after last → Wrote (text ++ more) before at after last
wrote_then {text} {more} {before} {middle} {after} {at} {next} {last} f g = record {
  bytes = g.bytes ∙ rw (f.bytes, f.place) (sym (sets_append before at text more));
  place = rw (length-append text more) (omega (arith, f.place, g.place));
}

-- a byte past the slice is no byte
pub wrote_byte : (before : List ℕ) (at byte : ℕ) → Wrote (byte ∷ []) before at (set before at byte) (at + 1)
wrote_byte before at byte = record { bytes = refl; place = refl }

pub wrote_past : (before : List ℕ) (at byte : ℕ) → length before ≤ at → Wrote (byte ∷ []) before at before (at + 1)
wrote_past before at byte h = record { bytes = sym (set_out before at byte h); place = refl }

pub wrote_length : {text before after : List ℕ} {at next : ℕ} → Wrote text before at after next → length after ≡ length before
wrote_length {text} {before} {after} {at} w = ap length w.bytes ∙ length-sets before at text

-- one byte more of a text
pub wrote_more : (text : List ℕ) {before middle after : List ℕ} {at next last : ℕ} (i : ℕ) → i < length text → Wrote (take i text) before at middle next
    → Wrote (get_or text i 0 ∷ []) middle next after last → Wrote (take (i + 1) text) before at after last
wrote_more text i l f g = rw (add-one, take-suc text i 0) (wrote_then f g)
