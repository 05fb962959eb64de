-- A role's words are written round after round.
use mathlib.Core.Path.{◌≡◌, refl, sym, ◌∙◌, ap, subst}
use mathlib.Core.Bool.{Bool, true, false}
use mathlib.Core.List.{List, [], ◌∷◌, ◌++◌, append-nil}
use Prim.Native.Nat.{ℕ, ◌+◌, ◌*◌, ◌/◌, ◌%◌, ◌<◌, ◌≤◌}
use native.Mathlib.Nat.{mul-div_cancel_left, mul-le-mul_left}
use native.Mathlib.Omega.{arith}
use lib.ListN.{length, get_or, take, drop, length-append, drop_of_length-le}
use lib.Seq.{sets, length-sets, take-append_seam}
use Rattle.answers.specs.Numbers.{compiled_place}
use Rattle.answers.specs.declared.Compiled.{Compiled}
use Rattle.answers.specs.declared.Compiled.TheVariants.{Done}
use Rattle.theory.specs.Machine.{Line}
use Rattle.theory.specs.Emission.{Env, Emitted, ok, refuse, behind, and_then}
use Rattle.calls.specs.Compile.{code_words}
use Rattle.calls.proofs.CompileLaws.{NotDone}
use Rattle.calls.proofs.HalfLaws as HalfLaws
use Rattle.calls.specs.Half.{half}
use Rattle.calls.specs.Frame.{input_word, output_word, framed}
use Rattle.calls.specs.Role.{Halves, compiled, refused_in, again, rounds_of, in_turn, ends_from, sum}
use Rattle.compiler.specs.CompileKnown.{KnownOutcome, from_known, known_finished}
use Rattle.role_writing.specs.Units.{Packs}
use Rattle.role_writing.specs.Written.{round_emitted, CodeFits, CodeLeft, code_left, RoundsFit, rounds_in}
use Rattle.calls.proofs.RoleLaws.{turn_append, turn_one, rounds_words, rounds_length, ends_more, ends_length, whole, Reached, reached_none, reached_all}
use Rattle.role_writing.proofs.RoundLaws.{words_append, round_ok, RoundAhead, round_ahead}
use Rattle.role_writing.proofs.UnitLaws.{puts_more, laid, laid_none, laid_more}

-- a half that fits has at most 96 rows
pub half_few : (create : Bool) (rows kinds : List ℕ) (e : Env) → e.next ≡ 0 → (place room : ℕ)
    → CodeFits (λ words. words) place room (half create rows kinds e) → length rows ≤ 96
half_few create rows kinds e fresh place room = by (half create rows kinds e) refl
  where
    by : (E : Emitted) → half create rows kinds e ≡ E → CodeFits (λ words. words) place room E → length rows ≤ 96
    by (ok lines e') q fits = (HalfLaws.half_done create rows kinds e fresh lines e' q).passed.lengths.most
    by (refuse answer) q fits = absurd fits

-- a half's words come from its buffer
module _ {A : Type 0} (size : ℕ) (packed : List ℕ → List A) where
  pub record HalfPut (place : ℕ) (code : List A) (count : ℕ) (buffer : List ℕ) (o n : ℕ → Bool) (E : Emitted) : Type 0 where
    pub fits : place + count ≤ length code / size
    pub within : count ≤ length buffer
    pub left : record { end = place + count; objects = o; named = n; code = sets code (size * place) (packed (take count buffer)) }
        ≡ code_left size packed (λ words. words) place code E

  module _ (place : ℕ) (code : List A) (objects named : ℕ → Bool) (blank : List ℕ) {o n : ℕ → Bool} {answer : Compiled} {buffer : List ℕ} where
    -- a half that fits is done
    pub half_done : (E : Emitted) → record { answer = answer; words = buffer; objects = o; named = n } ≡ known_finished objects named E blank
        → CodeFits (λ words. words) place (length code / size) E → NotDone answer → ⊥
    half_done (refuse refusal) e fits other = fits
    half_done (ok lines env) e fits other = other (length (code_words lines)) (ap (λ (x : KnownOutcome). x.answer) e)

    pub half_put : (E : Emitted) → record { answer = answer; words = buffer; objects = o; named = n } ≡ known_finished objects named E blank
        → CodeFits (λ words. words) place (length code / size) E → {count : ℕ} → answer ≡ Done count → HalfPut place code count buffer o n E
    half_put (refuse refusal) e fits is = absurd fits
    half_put (ok lines env) e fits {count} is =
        let counted : count ≡ length (code_words lines) = ap compiled_place (sym is ∙ ap (λ (x : KnownOutcome). x.answer) e) in
        let words : buffer ≡ code_words lines ++ drop (length (code_words lines)) blank = ap (λ (x : KnownOutcome). x.words) e in
        let same : take count buffer ≡ code_words lines = rw (counted, words) (take-append_seam (code_words lines) (drop (length (code_words lines)) blank)) in
        record {
          fits = omega (arith, counted, fits);
          within = omega (arith, counted, ap length words, length-append (code_words lines) (drop (length (code_words lines)) blank));
          left = λ i. record { end = place + counted i; objects = (e i).objects; named = (e i).named; code = sets code (size * place) (packed (same i)) };
        }

  -- code that is written: where its words end, what is set after them, and the slice
  pub record Left (frame : List ℕ → List ℕ) (place : ℕ) (code : List A) (lines : List Line) (e : Env) (end : ℕ) (o n : ℕ → Bool) (after : List A) : Type 0 where
    pub ends : end ≡ place + length (frame (code_words lines))
    pub env : from_known o n ≡ again e
    pub slice : after ≡ sets code (size * place) (packed (frame (code_words lines)))

  pub left_by : (frame : List ℕ → List ℕ) (place : ℕ) (code : List A) (lines : List Line) (e : Env) {end : ℕ} {o n : ℕ → Bool} {after : List A}
      → record { end = end; objects = o; named = n; code = after } ≡ code_left size packed frame place code (ok lines e) → Left frame place code lines e end o n after
  left_by frame place code lines e h = record {
    ends = ap (λ (x : CodeLeft A). x.end) h;
    env = ap (λ (x : CodeLeft A). from_known x.objects x.named) h;
    slice = ap (λ (x : CodeLeft A). x.code) h;
  }

-- a round's two halves
module _ (kinds matching creating : List ℕ) (e : Env) where
  pub record BothHalves (place room : ℕ) : Type 0 where
    pub first : List Line
    pub between : Env
    pub second : List Line
    pub env : Env
    pub matches : half false matching kinds e ≡ ok first between
    pub creates : half true creating kinds (again between) ≡ ok second env
    pub fits : place + length (framed (code_words (first ++ second))) ≤ room
    pub least : place + 2 ≤ room

  pub both_halves : (place room : ℕ) → CodeFits framed place room (round_emitted kinds matching creating e) → BothHalves place room
  unfolding round_emitted and_then behind
  both_halves place room = by_match (half false matching kinds e) refl
    where
      by_create : (m : List Line) (e₁ : Env) → half false matching kinds e ≡ ok m e₁ → (E : Emitted) → half true creating kinds (again e₁) ≡ E → CodeFits framed place room (behind m E)
          → BothHalves place room
      by_create m e₁ p (refuse answer) q fits = absurd fits
      by_create m e₁ p (ok c e₂) q fits = record {
        first = m;
        between = e₁;
        second = c;
        env = e₂;
        matches = p;
        creates = q;
        fits = fits;
        least = omega
            (arith, fits, length-append (code_words (m ++ c)) (output_word ∷ []));
      }

      by_match : (E : Emitted) → half false matching kinds e ≡ E → CodeFits framed place room (and_then E (λ e'. half true creating kinds (again e'))) → BothHalves place room
      by_match (refuse answer) p fits = absurd fits
      by_match (ok m e₁) p fits = by_create m e₁ p (half true creating kinds (again e₁)) refl fits

  -- INPUT is written, then each half behind it, then OUTPUT
  module _ {A : Type 0} {size : ℕ} {packed : List ℕ → List A} (p : Packs size packed) (place : ℕ) (code : List A) (b : BothHalves place (length code / size)) where
    abbrev m : List ℕ
    m = code_words b.first

    abbrev c : List ℕ
    c = code_words b.second

    abbrev opened : List A
    opened = sets code (size * place) (packed (input_word ∷ []))

    -- all the round's words fit
    all_fit : place + 2 + length m + length c ≤ length code / size
    all_fit =
        omega (
          arith,
          b.fits,
          ap length (words_append b.first b.second),
          length-append m c,
          length-append (code_words (b.first ++ b.second)) (output_word ∷ []),
        )

    pub first_fits : CodeFits (λ words. words) (place + 1) (length opened / size) (half false matching kinds e)
    first_fits = rw (b.matches, length-sets code (size * place) (packed (input_word ∷ []))) (omega (arith, all_fit))

    module _ {end : ℕ} {o n : ℕ → Bool} {after : List A}
        (h : record { end = end; objects = o; named = n; code = after } ≡ code_left size packed (λ words. words) (place + 1) opened (half false matching kinds e)) where
      matched : Left size packed (λ words. words) (place + 1) opened b.first b.between end o n after
      matched = left_by size packed (λ words. words) (place + 1) opened b.first b.between (h ∙ ap (code_left size packed (λ words. words) (place + 1) opened) b.matches)

      matched_long : length after ≡ length code
      matched_long = ap length matched.slice ∙ length-sets opened (size * (place + 1)) (packed m) ∙ length-sets code (size * place) (packed (input_word ∷ []))

      creates : half true creating kinds (from_known o n) ≡ ok b.second b.env
      creates = ap (half true creating kinds) matched.env ∙ b.creates

      pub second_fits : CodeFits (λ words. words) end (length after / size) (half true creating kinds (from_known o n))
      second_fits = rw (creates, matched.ends, matched_long) (omega (arith, all_fit))

      module _ {end' : ℕ} {o' n' : ℕ → Bool} {after' : List A}
          (h' : record { end = end'; objects = o'; named = n'; code = after' } ≡ code_left size packed (λ words. words) end after (half true creating kinds (from_known o n))) where
        created : Left size packed (λ words. words) end after b.second b.env end' o' n' after'
        created = left_by size packed (λ words. words) end after b.second b.env (h' ∙ ap (code_left size packed (λ words. words) end after) creates)

        pub output_inside : end' + 1 ≤ length code / size
        output_inside = omega (arith, created.ends, matched.ends, all_fit)

        pub output_fits : end' + 1 ≤ length after' / size
        output_fits = rw (created.slice, length-sets after (size * end) (packed c), matched_long) output_inside

        written : sets after' (size * end') (packed (output_word ∷ [])) ≡ sets code (size * place) (packed (framed (code_words (b.first ++ b.second))))
        written =
            let opening : List ℕ = input_word ∷ m in
            let first_two : after ≡ sets code (size * place) (packed opening) = matched.slice ∙ puts_more p code place (input_word ∷ []) m refl in
            let first_three : after' ≡ sets code (size * place) (packed (opening ++ c)) =
            created.slice ∙ ap (λ (l : List A). sets l (size * end) (packed c)) first_two ∙ puts_more p code place opening c (omega (arith, matched.ends)) in
            ap (λ (l : List A). sets l (size * end') (packed (output_word ∷ []))) first_three
            ∙ puts_more p code place (opening ++ c) (output_word ∷ []) (omega (arith, matched.ends, created.ends, length-append m c))
            ∙ ap (λ (l : List ℕ). sets code (size * place) (packed (input_word ∷ l ++ output_word ∷ []))) (sym (words_append b.first b.second))

        pub round_left : {last : List A} → last ≡ sets after' (size * end') (packed (output_word ∷ []))
            → record { end = end' + 1; objects = o'; named = n'; code = last } ≡ code_left size packed framed place code (round_emitted kinds matching creating e)
        round_left same =
            let ends : end' + 1 ≡ place + length (framed (code_words (b.first ++ b.second))) =
            omega (
              arith,
              created.ends,
              matched.ends,
              ap length (words_append b.first b.second),
              length-append m c,
              length-append (code_words (b.first ++ b.second)) (output_word ∷ []),
            ) in
            (λ i. record { end = ends i; objects = (created.env i).objects; named = (created.env i).raws; code = (same ∙ written) i })
            ∙ ap (code_left size packed framed place code) (sym (round_ok kinds matching creating e b.matches b.creates))

-- every half compiles
pub record AllCompiled (room : ℕ) (h : Halves) : Type 0 where
  pub halves : List (List ℕ)
  pub all : h ≡ compiled halves
  pub fits : length (in_turn (rounds_of halves)) ≤ room

pub all_compiled : (room : ℕ) (h : Halves) → RoundsFit room h → AllCompiled room h
all_compiled room (compiled halves) fits = record { halves = halves; all = refl; fits = fits }
all_compiled room (refused_in n answer) fits = absurd fits

-- the rounds so far stand in front, and so do their ends
pub record Writing {A B : Type 0} (ends_packed : List ℕ → List A) (code_packed : List ℕ → List B) (kinds counts rows : List ℕ) (start : Env) (ends₀ : List A) (code₀ : List B)
    (round row : ℕ) (e : Env) (words : ℕ) (ends : List A) (code : List B) : Type 0 where
  pub done : List (List ℕ)
  pub reached : Reached kinds counts rows start done (2 * round) row false e
  pub place : words ≡ length (in_turn (rounds_of done))
  pub coded : code ≡ code_packed (in_turn (rounds_of done)) ++ drop (length (code_packed (in_turn (rounds_of done)))) code₀
  pub ended : ends ≡ ends_packed (ends_from 0 (rounds_of done)) ++ drop (length (ends_packed (ends_from 0 (rounds_of done)))) ends₀
  pub ends_long : length ends ≡ length ends₀
  pub code_long : length code ≡ length code₀

module _ {A B : Type 0} {end_size code_size : ℕ} {ends_packed : List ℕ → List A} {code_packed : List ℕ → List B} (in_ends : Packs end_size ends_packed) (in_code : Packs code_size code_packed)
    (kinds counts rows : List ℕ) (start : Env) (ends₀ : List A) (code₀ : List B) where
  pub writing_none : sum counts ≡ length rows → start.next ≡ 0 → Writing ends_packed code_packed kinds counts rows start ends₀ code₀ 0 0 start 0 ends₀ code₀
  unfolding rounds_of in_turn ends_from
  writing_none all fresh = record {
    done = [];
    reached = reached_none kinds counts rows start all fresh;
    place = refl;
    coded = laid_none in_code code₀;
    ended = laid_none in_ends ends₀;
    ends_long = refl;
    code_long = refl;
  }

  module _ {halves : List (List ℕ)} (all : whole kinds counts rows start ≡ compiled halves) (room : length (in_turn (rounds_of halves)) ≤ length code₀ / code_size)
      (even : length counts % 2 ≡ 0) (ends_room : length ends₀ ≡ end_size * (length counts / 2)) {round row : ℕ} {e : Env} {words : ℕ} {ends : List A} {code : List B}
      (w : Writing ends_packed code_packed kinds counts rows start ends₀ code₀ round row e words ends code) where
    rounds_here : length (ends_from 0 (rounds_of w.done)) ≡ round
    rounds_here = ends_length 0 (rounds_of w.done) ∙ rounds_length round w.done (omega (arith, w.reached.count))

    module _ (inside : round < length counts / 2) where
      pub ahead : RoundAhead kinds counts rows start all round w.reached (omega arith)
      ahead = round_ahead kinds counts rows start all round w.reached (omega arith)

      pub round_fits : CodeFits framed words (length code / code_size) (round_emitted kinds (take (get_or counts (2 * round) 0) (drop row rows))
          (take (get_or counts (2 * round + 1) 0) (drop (row + get_or counts (2 * round) 0) rows)) e)
      round_fits = rw (ahead.emits, w.code_long) (omega (arith, w.place, ahead.fits, room))

      -- an end has room
      end_room : round + 1 ≤ length ends₀ / end_size
      end_room = omega (arith, ap (◌/ end_size) ends_room ∙ mul-div_cancel_left (length counts / 2) in_ends.some)

      pub end_fits : round + 1 ≤ length ends / end_size
      end_fits = rw w.ends_long end_room

      module _ {end : ℕ} {o n : ℕ → Bool} {after : List B}
          (h : record { end = end; objects = o; named = n; code = after }
          ≡ code_left code_size code_packed framed words code (round_emitted kinds (take (get_or counts (2 * round) 0) (drop row rows))
          (take (get_or counts (2 * round + 1) 0) (drop (row + get_or counts (2 * round) 0) rows)) e)) where
        abbrev frame : List ℕ
        frame = framed (code_words ahead.lines)

        wrote : Left code_size code_packed framed words code ahead.lines ahead.env end o n after
        wrote = left_by code_size code_packed framed words code ahead.lines ahead.env (h ∙ ap (code_left code_size code_packed framed words code) ahead.emits)

        turns : in_turn (rounds_of ahead.after) ≡ in_turn (rounds_of w.done) ++ frame
        turns = ap in_turn ahead.rounds ∙ turn_append (rounds_of w.done) (frame ∷ []) ∙ ap (in_turn (rounds_of w.done) ++◌) (turn_one frame)

        ends_here : end ≡ length (in_turn (rounds_of ahead.after))
        ends_here = omega (arith, wrote.ends, w.place, ap length turns, length-append (in_turn (rounds_of w.done)) frame)

        -- 768 words for each half
        pub end_small : end ≤ 1536 * (round + 1)
        end_small =
            let next = ahead.next in
            omega (arith, ends_here, rounds_words (round + 1) ahead.after (omega (arith, next.count)), next.few, next.count)

        pub writing_more : {ends' : List A} → ends' ≡ sets ends (end_size * round) (ends_packed (end ∷ []))
            → Writing ends_packed code_packed kinds counts rows start ends₀ code₀ (round + 1)
            (row + get_or counts (2 * round) 0 + get_or counts (2 * round + 1) 0) (from_known o n) end ends' after
        writing_more same = record {
          done = ahead.after;
          reached = subst (λ (x : Env). Reached kinds counts rows start ahead.after (2 * (round + 1))
              (row + get_or counts (2 * round) 0 + get_or counts (2 * round + 1) 0) false x) (sym wrote.env) ahead.next;
          place = ends_here;
          coded =
              wrote.slice
              ∙ laid_more in_code (in_turn (rounds_of w.done)) frame code₀ w.place (omega (arith, ahead.fits, room)) w.coded
              ∙ ap (λ (l : List ℕ). laid in_code l code₀) (sym turns);
          ended =
              same
              ∙ laid_more in_ends (ends_from 0 (rounds_of w.done)) (end ∷ []) ends₀ (sym rounds_here) (omega (arith, end_room, rounds_here)) w.ended
              ∙ ap (λ (l : List ℕ). laid in_ends l ends₀) (sym end_behind);
          ends_long = ap length same ∙ length-sets ends (end_size * round) (ends_packed (end ∷ [])) ∙ w.ends_long;
          code_long = ap length wrote.slice ∙ length-sets code (code_size * words) (code_packed frame) ∙ w.code_long;
        }
          where
            end_behind : ends_from 0 (rounds_of ahead.after) ≡ ends_from 0 (rounds_of w.done) ++ end ∷ []
            end_behind = ap (ends_from 0) ahead.rounds ∙ ends_more 0 (rounds_of w.done) frame ∙ ap (λ (n : ℕ). ends_from 0 (rounds_of w.done) ++ n ∷ []) (omega (arith, ends_here, ap length turns))

    -- all rounds are written
    pub writing_all : length counts / 2 ≤ round
        → (ends ≡ ends_packed (ends_from 0 (rounds_in (whole kinds counts rows start))))
        × (code ≡ code_packed (in_turn (rounds_in (whole kinds counts rows start))) ++ drop (length (code_packed (in_turn (rounds_in (whole kinds counts rows start))))) code₀)
    writing_all past =
        let whole_done = reached_all kinds counts rows start w.reached (omega (arith, even)) in
        let filled : length ends₀ ≤ length (ends_packed (ends_from 0 (rounds_of w.done))) =
        omega (arith, ends_room, in_ends.long (ends_from 0 (rounds_of w.done)), ap (end_size *◌) rounds_here, mul-le-mul_left end_size past) in
        rw whole_done (w.ended ∙ rw (drop_of_length-le ends₀ filled) (append-nil _), w.coded)
