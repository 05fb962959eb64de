use Prim.Native.Nat.{ℕ, ◌<◌}
use mathlib.Core.Path.{◌≡◌, ◌∙◌}
use native.Mathlib.Omega.{arith}
use borrow.Author.Tests.{leb-true, leb-false}
use Rattle.bundles.proofs.OpeningLaws.{outside, by_counter}
use Rattle.bundles.proofs.header_fits.Goals as goal
use Rattle.bundles.proofs.header_fits.Goals.{then-header-ge1, else-header-ge1}
use Rattle.bundles.proofs.header_fits.Goals.{then-header-le-MOST_PATTERN_ROWS, else-header-le-MOST_PATTERN_ROWS}
use Rattle.bundles.proofs.header_fits.Goals.{then-header-le-MOST_CERTIFICATES, else-header-le-MOST_CERTIFICATES}

pub returns-then-header-le-MOST_TERM_ROWS : goal.returns-then-header-le-MOST_TERM_ROWS
returns-then-header-le-MOST_TERM_ROWS c =
    elim c.if-header-le-MOST_CERTIFICATES.branch [
      | then-header-le-MOST_CERTIFICATES z ↦ elim c.if-header-le-MOST_PATTERN_ROWS.branch [
        | then-header-le-MOST_PATTERN_ROWS y ↦ elim c.if-header-ge1.branch [
          | then-header-ge1 x ↦ by_counter _ c.header_of-header.ensures x.if-header-ge1.true (leb-true _ _ cc, leb-true _ _ cc, leb-true _ _ cc)
          | else-header-ge1 x ↦ let clash : ◌≡◌ {A = ℕ} 0 1 = cc in absurd (omega arith)
        ]
        | else-header-le-MOST_PATTERN_ROWS y ↦ let clash : ◌≡◌ {A = ℕ} 0 1 = cc in absurd (omega arith)
      ]
      | else-header-le-MOST_CERTIFICATES z ↦ let clash : ◌≡◌ {A = ℕ} 0 1 = cc in absurd (omega arith)
    ]

pub returns-else-header-le-MOST_TERM_ROWS : goal.returns-else-header-le-MOST_TERM_ROWS
returns-else-header-le-MOST_TERM_ROWS c =
    c.if-header-le-MOST_TERM_ROWS.false
    ∙ outside _ c.header_of-header.ensures (λ f. elim c.if-header-le-MOST_CERTIFICATES.branch [
      | then-header-le-MOST_CERTIFICATES z ↦ let over : 4096 < c.header_of-header.result.term_rows = leb-false _ _ cc in omega arith
      | else-header-le-MOST_CERTIFICATES z ↦ elim c.if-header-le-MOST_PATTERN_ROWS.branch [
        | then-header-le-MOST_PATTERN_ROWS y ↦ let over : 32 < c.header_of-header.result.certificates = leb-false _ _ cc in omega arith
        | else-header-le-MOST_PATTERN_ROWS y ↦ elim c.if-header-ge1.branch [
          | then-header-ge1 x ↦ let over : 96 < c.header_of-header.result.pattern_rows = leb-false _ _ cc in omega arith
          | else-header-ge1 x ↦ omega arith
        ]
      ]
    ])
