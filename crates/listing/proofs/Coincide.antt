-- What list promises is one text at one place, so outcomes that it allows for one input coincide.
use Prim.Native.Nat.{ℕ}
use mathlib.Core.Path.{◌≡◌, sym, ◌∙◌}
use mathlib.Core.List.{List}
use Rattle.text.specs.Written.{Wrote}
use Rattle.printing.specs.Listing.{listing}

pub listings_coincide : (bytes : List ℕ) {before one other : List ℕ} {end last : ℕ} → Wrote (listing bytes) before 0 one end → Wrote (listing bytes) before 0 other last
    → (one ≡ other) × (end ≡ last)
listings_coincide bytes f g = (f.bytes ∙ sym g.bytes, f.place ∙ sym g.place)
