-- Every pattern within the widths is the pattern of its rows.
use Prim.Native.Nat.{ℕ, suc, ◌+◌, ◌-◌, ◌<◌, ◌≤◌}
use mathlib.Core.Path.{◌≡◌, refl, sym, ◌∙◌, ap, ap₂}
use mathlib.Core.List.{List, [], ◌∷◌, ◌++◌, append_assoc, append-nil}
use native.Mathlib.Omega.{arith}
use lib.ListN.{length, get_or, take, length-append}
use lib.Seq.{get_or_at, get_or-append-add}
use Rattle.word.specs.Fields.{at}
use Rattle.word.proofs.All.{All, all_get_d}
use Rattle.word.proofs.FieldLaws.{Fit, split_join}
use Rattle.patterns.specs.Pattern.{Key, plain_key, op_key, certified_key, Pattern, object, raw, constant, opposite, key_of, encryption, signature, hash, tuple, let_in, Parts, end, part}
use Rattle.patterns.specs.Pattern.{count, size, sizes, RawsBelow, PartsBelow, Packed, PackedParts}
use Rattle.patterns.specs.Row.{pattern_widths, fields_by, pattern_fields}
use Rattle.patterns.specs.Tree.{parts_by, form_by, no_pattern, pattern_at, patterns_from, patterns_of, pattern_of}
use Rattle.patterns.specs.Laid.{row_fields, row_by, key_form, key_name, key_other, root_from, roots, laid, laid_parts, numbered, numbered_parts, bare, bare_parts, ObjectsBelow, ObjectsInParts, Fits}

-- a row reads as the fields that it was packed from
row_read : (tag v f x y r : ℕ) (children : List ℕ) → Fit pattern_widths (row_fields tag v f x y r children)
    → pattern_fields (row_by tag v f x y r children) ≡ fields_by (row_fields tag v f x y r children)
unfolding pattern_fields row_by
row_read tag v f x y r children fit = ap fields_by (split_join pattern_widths (row_fields tag v f x y r children) fit refl)

-- the patterns of the rows of a pattern
unfoldable mutual
  nodes : ℕ → Pattern → List Pattern
  nodes first (object row v) = numbered first (object row v) ∷ []
  nodes first (raw row r) = numbered first (raw row r) ∷ []
  nodes first (constant row c b) = numbered first (constant row c b) ∷ []
  nodes first (opposite row k K) = numbered first (opposite row k K) ∷ []
  nodes first (key_of row k a) = numbered first (key_of row k a) ∷ []
  nodes first (encryption row e key p) = nodes first p ++ (numbered first (encryption row e key p) ∷ [])
  nodes first (signature row s key r) = numbered first (signature row s key r) ∷ []
  nodes first (hash row h r) = numbered first (hash row h r) ∷ []
  nodes first (tuple row t ps) = nodes_of first ps ++ (numbered first (tuple row t ps) ∷ [])
  nodes first (let_in row r p₁ p₂) = (nodes first p₁ ++ nodes (first + size p₁) p₂) ++ (numbered first (let_in row r p₁ p₂) ∷ [])

  nodes_of : ℕ → Parts → List Pattern
  nodes_of first end = []
  nodes_of first (part p ps) = nodes first p ++ nodes_of (first + size p) ps

mutual
  unfolding nodes size

  nodes_length : (first : ℕ) (p : Pattern) → length (nodes first p) ≡ size p
  nodes_length first (object row v) = refl
  nodes_length first (raw row r) = refl
  nodes_length first (constant row c b) = refl
  nodes_length first (opposite row k K) = refl
  nodes_length first (key_of row k a) = refl
  nodes_length first (encryption row e key p) = rw (length-append, nodes_length first p) (omega arith)
  nodes_length first (signature row s key r) = refl
  nodes_length first (hash row h r) = refl
  nodes_length first (tuple row t ps) = rw (length-append, parts_length first ps) (omega arith)
  nodes_length first (let_in row r p₁ p₂) =
      rw (length-append, length-append (nodes first p₁) (nodes (first + size p₁) p₂), nodes_length first p₁, nodes_length (first + size p₁) p₂) (omega arith)

  parts_length : (first : ℕ) (ps : Parts) → length (nodes_of first ps) ≡ sizes ps
  parts_length first end = refl
  parts_length first (part p ps) = rw (length-append, nodes_length first p, parts_length (first + size p) ps)

mutual
  unfolding laid size

  pub laid_length : (first : ℕ) (p : Pattern) → length (laid first p) ≡ size p
  laid_length first (object row v) = refl
  laid_length first (raw row r) = refl
  laid_length first (constant row c b) = refl
  laid_length first (opposite row k K) = refl
  laid_length first (key_of row k a) = refl
  laid_length first (encryption row e key p) = rw (length-append, laid_length first p) (omega arith)
  laid_length first (signature row s key r) = refl
  laid_length first (hash row h r) = refl
  laid_length first (tuple row t ps) = rw (length-append, laid_lengths first ps) (omega arith)
  laid_length first (let_in row r p₁ p₂) =
      rw (length-append, length-append (laid first p₁) (laid (first + size p₁) p₂), laid_length first p₁, laid_length (first + size p₁) p₂) (omega arith)

  pub laid_lengths : (first : ℕ) (ps : Parts) → length (laid_parts first ps) ≡ sizes ps
  laid_lengths first end = refl
  laid_lengths first (part p ps) = rw (length-append, laid_length first p, laid_lengths (first + size p) ps)

-- the pattern itself is the last of them
last_at : (front : List Pattern) (p : Pattern) (more : List Pattern) (n : ℕ) → length front ≡ n → pattern_at ((front ++ (p ∷ [])) ++ more) n ≡ p
last_at front p more n long = ap (λ all. pattern_at all n) (append_assoc front (p ∷ []) more) ∙ get_or_at front p more no_pattern n long

root_last : (first : ℕ) (p : Pattern) (more : List Pattern) → pattern_at (nodes first p ++ more) (size p - 1) ≡ numbered first p
unfolding nodes size
root_last first (object row v) more = refl
root_last first (raw row r) more = refl
root_last first (constant row c b) more = refl
root_last first (opposite row k K) more = refl
root_last first (key_of row k a) more = refl
root_last first (encryption row e key p) more = last_at (nodes first p) _ more _ (omega (arith, nodes_length first p))
root_last first (signature row s key r) more = refl
root_last first (hash row h r) more = refl
root_last first (tuple row t ps) more = last_at (nodes_of first ps) _ more _ (omega (arith, parts_length first ps))
root_last first (let_in row r p₁ p₂) more =
    last_at (nodes first p₁ ++ nodes (first + size p₁) p₂) _ more _
    (omega (arith, length-append (nodes first p₁) (nodes (first + size p₁) p₂), nodes_length first p₁, nodes_length (first + size p₁) p₂))

root_at : (built : List Pattern) (place : ℕ) (p : Pattern) (more : List Pattern) → length built ≡ place
    → pattern_at (built ++ (nodes place p ++ more)) (root_from place p) ≡ numbered place p
root_at built place p more long =
    ap (λ (n : ℕ). pattern_at (built ++ (nodes place p ++ more)) (n + (size p - 1))) (sym long)
    ∙ get_or-append-add built (nodes place p ++ more) (size p - 1) no_pattern ∙ root_last place p more

root_end : (built : List Pattern) (place : ℕ) (p : Pattern) → length built ≡ place → pattern_at (built ++ nodes place p) (root_from place p) ≡ numbered place p
root_end built place p long = ap (λ all. pattern_at (built ++ all) (root_from place p)) (sym (append-nil (nodes place p))) ∙ root_at built place p [] long

longer : (built : List Pattern) (place : ℕ) (p : Pattern) → length built ≡ place → length (built ++ nodes place p) ≡ place + size p
longer built place p long = omega (arith, length-append built (nodes place p), nodes_length place p)

-- the parts of a tuple are at their roots
roots_read : (built : List Pattern) (place : ℕ) (ps : Parts) → length built ≡ place → parts_by (pattern_at (built ++ nodes_of place ps)) (roots place ps) ≡ numbered_parts place ps
unfolding roots nodes numbered
roots_read built place end long = refl
roots_read built place (part p ps) long =
    ap₂ part (root_at built place p (nodes_of (place + size p) ps) long)
    (ap (λ all. parts_by (pattern_at all) (roots (place + size p) ps)) (sym (append_assoc built (nodes place p) (nodes_of (place + size p) ps)))
    ∙ roots_read (built ++ nodes place p) (place + size p) ps (longer built place p long))

pub roots_count : (place : ℕ) (ps : Parts) → length (roots place ps) ≡ count ps
unfolding roots count
roots_count place end = refl
roots_count place (part p ps) = ap suc (roots_count (place + size p) ps)

pub root_below : (place : ℕ) (p : Pattern) → place + size p ≤ 96 → root_from place p < 128
root_below place p few = omega arith

pub roots_below : (place : ℕ) (ps : Parts) → place + sizes ps ≤ 96 → All (λ child. child < 128) (roots place ps)
unfolding roots size
roots_below place end few = tt
roots_below place (part p ps) few = (root_below place p (omega arith), roots_below (place + size p) ps (omega arith))

-- children stand in the first slots
pub children_taken : (children : List ℕ) → length children ≤ 4
    → take (length children) (get_or children 0 0 ∷ get_or children 1 0 ∷ get_or children 2 0 ∷ get_or children 3 0 ∷ []) ≡ children
children_taken [] few = refl
children_taken (a ∷ []) few = refl
children_taken (a ∷ b ∷ []) few = refl
children_taken (a ∷ b ∷ c ∷ []) few = refl
children_taken (a ∷ b ∷ c ∷ d ∷ []) few = refl
children_taken (a ∷ b ∷ c ∷ d ∷ e ∷ rest) few = absurd (omega arith)

key_read : (key : Key)
    → get_or (plain_key (key_name key) ∷ op_key (key_name key) (key_other key) ∷ certified_key (key_name key) (key_other key) ∷ []) (key_form key) (plain_key (key_name key)) ≡ key
key_read (plain_key x) = refl
key_read (op_key k K) = refl
key_read (certified_key k a) = refl

pub key_form_lem : (key : Key) → key_form key < 4
key_form_lem (plain_key x) = omega arith
key_form_lem (op_key k K) = omega arith
key_form_lem (certified_key k a) = omega arith

-- what a row's fields have room for
module _ (tag v f x y r : ℕ) (children : List ℕ) where
  pub fields_read : tag < 16 → v < 64 → f < 4 → x < 256 → y < 64 → r < 64 → length children ≤ 4 → All (λ child. child < 128) children
      → pattern_fields (row_by tag v f x y r children) ≡ fields_by (row_fields tag v f x y r children)
  fields_read t a b c d e few below =
      let slot = all_get_d (λ child. child < 128) children 0 below (omega arith) in
      row_read tag v f x y r children (t, (a, (b, (c, (d, (e, (omega arith, (slot 0, (slot 1, (slot 2, (slot 3, (omega arith, tt))))))))))))

-- a row more is a pattern more
module _ (built : List Pattern) (place : ℕ) (word : ℕ) (rest : List ℕ) (p : Pattern) where
  one_more : form_by (pattern_at built) place (pattern_fields word) ≡ p → patterns_from built place (word ∷ rest) ≡ patterns_from (built ++ (p ∷ [])) (suc place) rest
  unfolding patterns_from
  one_more form = ap (λ q. patterns_from (built ++ (q ∷ [])) (suc place) rest) form

  leaf_more : form_by (pattern_at built) place (pattern_fields word) ≡ p → patterns_from built place (word ∷ rest) ≡ patterns_from (built ++ (p ∷ [])) (place + 1) rest
  leaf_more form = one_more form ∙ ap (λ (n : ℕ). patterns_from (built ++ (p ∷ [])) n rest) (omega arith)

-- an owner after the rows under it
owner_more : (built under : List Pattern) (place at n : ℕ) (rows : List ℕ) (word : ℕ) (rest : List ℕ) (p : Pattern)
    → patterns_from built place (rows ++ (word ∷ rest)) ≡ patterns_from (built ++ under) at (word ∷ rest)
    → form_by (pattern_at (built ++ under)) at (pattern_fields word) ≡ p → suc at ≡ n
    → patterns_from built place ((rows ++ (word ∷ [])) ++ rest) ≡ patterns_from (built ++ (under ++ (p ∷ []))) n rest
owner_more built under place at n rows word rest p before form next =
    ap (patterns_from built place) (append_assoc rows (word ∷ []) rest) ∙ before ∙ one_more (built ++ under) at word rest p form
    ∙ ap₂ (λ (all : List Pattern) (k : ℕ). patterns_from all k rest) (append_assoc built under (p ∷ [])) next

-- two runs of rows, one after the other
both_more : (built first second : List Pattern) (place middle at n : ℕ) (front back rest : List ℕ)
    → patterns_from built place (front ++ (back ++ rest)) ≡ patterns_from (built ++ first) middle (back ++ rest)
    → patterns_from (built ++ first) middle (back ++ rest) ≡ patterns_from ((built ++ first) ++ second) at rest → at ≡ n
    → patterns_from built place ((front ++ back) ++ rest) ≡ patterns_from (built ++ (first ++ second)) n rest
both_more built first second place middle at n front back rest one two next =
    ap (patterns_from built place) (append_assoc front back rest) ∙ one ∙ two
    ∙ ap₂ (λ (all : List Pattern) (k : ℕ). patterns_from all k rest) (append_assoc built first second) next

-- the forms that have others under them
module _ (built : List Pattern) (place : ℕ) (long : length built ≡ place) where
  encryption_form : (e : ℕ) (key : Key) (p : Pattern) → place + size p ≤ 96 → e < 64 → key_name key < 64 → key_other key < 64
      → form_by (pattern_at (built ++ nodes place p)) (place + size p) (pattern_fields (row_by 5 e (key_form key) (key_name key) (key_other key) 0 (root_from place p ∷ [])))
      ≡ encryption (place + size p) e key (numbered place p)
  encryption_form e key p few a b c =
      ap (form_by (pattern_at (built ++ nodes place p)) (place + size p))
      (fields_read 5 e (key_form key) (key_name key) (key_other key) 0 (root_from place p ∷ []) (omega arith) a (key_form_lem key) (omega arith) c (omega arith) (omega arith) (root_below place p few, tt))
      ∙ ap₂ (encryption (place + size p) e) (key_read key) (root_end built place p long)

  tuple_form : (t : ℕ) (ps : Parts) → place + sizes ps ≤ 96 → t < 64 → count ps ≤ 4
      → form_by (pattern_at (built ++ nodes_of place ps)) (place + sizes ps) (pattern_fields (row_by 8 t 0 0 0 0 (roots place ps))) ≡ tuple (place + sizes ps) t (numbered_parts place ps)
  tuple_form t ps few a four =
      let most : length (roots place ps) ≤ 4 = omega (arith, roots_count place ps) in
      ap (form_by (pattern_at (built ++ nodes_of place ps)) (place + sizes ps))
      (fields_read 8 t 0 0 0 0 (roots place ps) (omega arith) a (omega arith) (omega arith) (omega arith) (omega arith) most (roots_below place ps few))
      ∙ ap (tuple (place + sizes ps) t) (ap (parts_by (pattern_at (built ++ nodes_of place ps))) (children_taken (roots place ps) most) ∙ roots_read built place ps long)

  let_form : (r : ℕ) (p₁ p₂ : Pattern) → place + (size p₁ + size p₂) ≤ 96 → r < 64
      → form_by (pattern_at (built ++ (nodes place p₁ ++ nodes (place + size p₁) p₂))) (place + (size p₁ + size p₂))
      (pattern_fields (row_by 9 0 0 0 0 r (root_from place p₁ ∷ root_from (place + size p₁) p₂ ∷ [])))
      ≡ let_in (place + (size p₁ + size p₂)) r (numbered place p₁) (numbered (place + size p₁) p₂)
  let_form r p₁ p₂ few a =
      let later : List Pattern = nodes (place + size p₁) p₂ in
      let below : All (λ child. child < 128) (root_from place p₁ ∷ root_from (place + size p₁) p₂ ∷ []) = (root_below place p₁ (omega arith), (root_below (place + size p₁) p₂ (omega arith), tt)) in
      ap (form_by (pattern_at (built ++ (nodes place p₁ ++ later))) (place + (size p₁ + size p₂)))
      (fields_read 9 0 0 0 0 r (root_from place p₁ ∷ root_from (place + size p₁) p₂ ∷ []) (omega arith) (omega arith) (omega arith) (omega arith) (omega arith) a (omega arith) below)
      ∙ ap₂ (let_in (place + (size p₁ + size p₂)) r) (root_at built place p₁ later long)
      (ap (λ all. pattern_at all (root_from (place + size p₁) p₂)) (sym (append_assoc built (nodes place p₁) later))
      ∙ root_end (built ++ nodes place p₁) (place + size p₁) p₂ (longer built place p₁ long))

-- a form that has none under it
leaf_form : (below : ℕ → Pattern) (place tag v f x y r : ℕ) → tag < 16 → v < 64 → f < 4 → x < 256 → y < 64 → r < 64
    → form_by below place (pattern_fields (row_by tag v f x y r [])) ≡ form_by below place (fields_by (row_fields tag v f x y r []))
leaf_form below place tag v f x y r a b c d e g = ap (form_by below place) (fields_read tag v f x y r [] a b c d e g (omega arith) tt)

-- the rows of a pattern add the patterns of its forms, the pattern itself last
mutual
  unfolding laid nodes size numbered ObjectsBelow RawsBelow Packed

  adds : (built : List Pattern) (place : ℕ) (p : Pattern) (rest : List ℕ) → length built ≡ place → place + size p ≤ 96 → ObjectsBelow 64 p → RawsBelow 64 p → Packed p
      → patterns_from built place (laid place p ++ rest) ≡ patterns_from (built ++ nodes place p) (place + size p) rest
  adds built place (object row v) rest long few o r b =
      leaf_more built place _ rest _ (leaf_form (pattern_at built) place 0 v 0 0 0 0 (omega arith) o (omega arith) (omega arith) (omega arith) (omega arith))
  adds built place (raw row n) rest long few o r b =
      leaf_more built place _ rest _ (leaf_form (pattern_at built) place 1 0 0 0 0 n (omega arith) (omega arith) (omega arith) (omega arith) (omega arith) r)
  adds built place (constant row c x) rest long few o r b =
      leaf_more built place _ rest _ (leaf_form (pattern_at built) place 2 c 0 x 0 0 (omega arith) o (omega arith) b (omega arith) (omega arith))
  adds built place (opposite row k K) rest long few o r b =
      leaf_more built place _ rest _ (leaf_form (pattern_at built) place 3 k 0 0 K 0 (omega arith) o.0 (omega arith) (omega arith) o.1 (omega arith))
  adds built place (key_of row k a) rest long few o r b =
      leaf_more built place _ rest _ (leaf_form (pattern_at built) place 4 k 0 0 a 0 (omega arith) o.0 (omega arith) (omega arith) o.1 (omega arith))
  adds built place (encryption row e key p) rest long few o r b =
      owner_more built (nodes place p) place (place + size p) _ (laid place p) _ rest _ (adds built place p _ long (omega arith) o.2 r b)
      (encryption_form built place long e key p (omega arith) o.0 o.1.0 o.1.1) (omega arith)
  adds built place (signature row s key n) rest long few o r b =
      leaf_more built place _ rest _
      (leaf_form (pattern_at built) place 6 s (key_form key) (key_name key) (key_other key) n (omega arith) o.0 (key_form_lem key) (omega (arith, o.1.0)) o.1.1 r
      ∙ ap (λ (k : Key). signature place s k n) (key_read key))
  adds built place (hash row h n) rest long few o r b =
      leaf_more built place _ rest _ (leaf_form (pattern_at built) place 7 h 0 0 0 n (omega arith) o (omega arith) (omega arith) (omega arith) r)
  adds built place (tuple row t ps) rest long few o r b =
      owner_more built (nodes_of place ps) place (place + sizes ps) _ (laid_parts place ps) _ rest _ (adds_parts built place ps _ long (omega arith) o.1 r b.1)
      (tuple_form built place long t ps (omega arith) o.0 b.0) (omega arith)
  adds built place (let_in row n p₁ p₂) rest long few o r b =
      owner_more built (nodes place p₁ ++ nodes (place + size p₁) p₂) place (place + (size p₁ + size p₂)) _ (laid place p₁ ++ laid (place + size p₁) p₂) _ rest _
      (both_more built (nodes place p₁) (nodes (place + size p₁) p₂) place (place + size p₁) _ _ (laid place p₁) (laid (place + size p₁) p₂) _
      (adds built place p₁ _ long (omega arith) o.0 r.1 b.0)
      (adds (built ++ nodes place p₁) (place + size p₁) p₂ _ (longer built place p₁ long) (omega arith) o.1 r.2 b.1) (omega arith))
      (let_form built place long n p₁ p₂ (omega arith) r.0) (omega arith)

  adds_parts : (built : List Pattern) (place : ℕ) (ps : Parts) (rest : List ℕ) → length built ≡ place → place + sizes ps ≤ 96 → ObjectsInParts 64 ps → PartsBelow 64 ps → PackedParts ps
      → patterns_from built place (laid_parts place ps ++ rest) ≡ patterns_from (built ++ nodes_of place ps) (place + sizes ps) rest
  adds_parts built place end rest long few o r b = ap₂ (λ (all : List Pattern) (k : ℕ). patterns_from all k rest) (sym (append-nil built)) (omega arith)
  adds_parts built place (part p ps) rest long few o r b =
      both_more built (nodes place p) (nodes_of (place + size p) ps) place (place + size p) _ _ (laid place p) (laid_parts (place + size p) ps) rest
      (adds built place p _ long (omega arith) o.0 r.0 b.0)
      (adds_parts (built ++ nodes place p) (place + size p) ps rest (longer built place p long) (omega arith) o.1 r.1 b.1) (omega arith)

all_nodes : (p : Pattern) → Fits p → patterns_of (laid 0 p) ≡ nodes 0 p
unfolding patterns_of patterns_from
all_nodes p fits =
    ap (patterns_from [] 0) (sym (append-nil (laid 0 p))) ∙ adds [] 0 p [] refl (omega (arith, fits.rows)) fits.objects fits.raws fits.packed

-- every pattern within the widths is the pattern of its rows, each form at its row
pub every_pattern_laid : (p : Pattern) → Fits p → pattern_of (laid 0 p) ≡ numbered 0 p
unfolding pattern_of
every_pattern_laid p fits =
    ap₂ (λ (all : List Pattern) (n : ℕ). pattern_at all (n - 1)) (all_nodes p fits ∙ sym (append-nil (nodes 0 p))) (laid_length 0 p) ∙ root_last 0 p []

-- numbering changes row numbers alone
mutual
  unfolding numbered bare

  bare_numbered : (first : ℕ) (p : Pattern) → bare (numbered first p) ≡ bare p
  bare_numbered first (object row v) = refl
  bare_numbered first (raw row r) = refl
  bare_numbered first (constant row c b) = refl
  bare_numbered first (opposite row k K) = refl
  bare_numbered first (key_of row k a) = refl
  bare_numbered first (encryption row e key p) = ap (encryption 0 e key) (bare_numbered first p)
  bare_numbered first (signature row s key r) = refl
  bare_numbered first (hash row h r) = refl
  bare_numbered first (tuple row t ps) = ap (tuple 0 t) (bare_parts_lem first ps)
  bare_numbered first (let_in row r p₁ p₂) = ap₂ (let_in 0 r) (bare_numbered first p₁) (bare_numbered (first + size p₁) p₂)

  bare_parts_lem : (first : ℕ) (ps : Parts) → bare_parts (numbered_parts first ps) ≡ bare_parts ps
  bare_parts_lem first end = refl
  bare_parts_lem first (part p ps) = ap₂ part (bare_numbered first p) (bare_parts_lem (first + size p) ps)

-- so, but for row numbers, it is that pattern
pub every_pattern_bare : (p : Pattern) → Fits p → bare (pattern_of (laid 0 p)) ≡ bare p
every_pattern_bare p fits = ap bare (every_pattern_laid p fits) ∙ bare_numbered 0 p
