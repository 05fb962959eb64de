-- What an operation makes of a model's memory follows from what making a message and taking a name make of it; and the world
-- of rows says no for document 01's reasons, and never that a cell is unset.
use Prim.Native.Nat.{ℕ, suc}
use mathlib.Core.Bool.{Bool, true, false, cond, ◌&&◌}
use Rattle.std.specs.Prelude.{Option, None, Some}
use mathlib.Core.List.{List}
use lib.ListN.{length}
use lib.Dec.{eqb, ltb}
use Rattle.answers.specs.Numbers.{reason_number}
use Rattle.answers.specs.declared.Reason.TheVariants.{OtherKind, Differs, PartCount, NoCertificate, NotOpened, NotVerified}
use Rattle.terms.specs.Shape.{Shape, atom, encrypted, signed, hashed, tupled, kind_of}
use Rattle.terms.specs.Row.{row_of}
use Rattle.terms.specs.Finder.{locate}
use Rattle.terms.specs.Finder.{Found}
use Rattle.theory.specs.Outcome.{got, full}
use Rattle.theory.specs.World.{Op, Test}
use Rattle.theory.specs.World as Voc
use Rattle.theory.specs.Model.{Model, world, number_of, goes_with, opened, certified, verified, taken, apply_in, test_in}
use Rattle.theory.specs.RowModel.{Table, with_counter, name, placed_by, row_model, row_world}
use Rattle.numbers.specs.Limits.{most_names}
use Rattle.theory.proofs.Ends.{Any, Answers, gets, fails, fills, answers_sure, answers_test, answers_then}
use Rattle.theory.proofs.StepEnds.{Moves}
use Rattle.theory.proofs.Reasons.{AnswerWithin, OwnReason, Calm}

module _ (Why : ℕ → Type 0) (Full : Type 0) (S : Model) where
  -- what has to be shown of a memory: that it is left, that a message is made, that a name is created
  pub record Making (Q : S.Mem → Type 0) (x : S.Mem) : Type 0 where
    pub left : Q x
    pub makes : (shape : Shape S.Msg) → Answers Why Full (λ r. Q r.1) (S.make shape x)
    pub creates : (kind : ℕ) → Answers Why Full (λ r. Q r.1) (apply_in S (Voc.create kind) x)

module _ {Why : ℕ → Type 0} {Full : Type 0} (S : Model) (own : (why : ℕ) → OwnReason why → Why why) {Q : S.Mem → Type 0} {x : S.Mem} (m : Making Why Full S Q x) where
  abbrev After : S.Msg × S.Mem → Type 0
  After r = Q r.1

  opened_moves : (k : S.Msg) (shape : Shape S.Msg) → Answers Why Full After (opened S k shape x)
  opened_moves k (encrypted l b) = answers_sure (reason_number NotOpened) (own (reason_number NotOpened) tt) (goes_with S k l x) (gets {a = (b, x)} m.left)
  opened_moves k (atom tag number) = fails (own (reason_number NotOpened) tt)
  opened_moves k (signed l b) = fails (own (reason_number NotOpened) tt)
  opened_moves k (hashed b) = fails (own (reason_number NotOpened) tt)
  opened_moves k (tupled ms) = fails (own (reason_number NotOpened) tt)

  certified_moves : (key : Option S.Msg) → Answers Why Full After (certified S key x)
  certified_moves (Some k) = gets {a = (k, x)} m.left
  certified_moves None = fails (own (reason_number NoCertificate) tt)

  apply_moves : (o : Op S.Msg) → Answers Why Full After (apply_in S o x)
  apply_moves (Voc.byte b) = m.makes (atom 1 b)
  apply_moves (Voc.create kind) = m.creates kind
  apply_moves (Voc.op a) =
      answers_sure (reason_number OtherKind) (own (reason_number OtherKind) tt) (eqb (kind_of (S.look a x)) 5) (m.makes (atom 4 (number_of (S.look a x))))
  apply_moves (Voc.key_of a) = certified_moves (S.certificate a x)
  apply_moves (Voc.encrypt k b) = m.makes (encrypted k b)
  apply_moves (Voc.decrypt k b) = opened_moves k (S.look b x)
  apply_moves (Voc.sign k b) = m.makes (signed k b)
  apply_moves (Voc.hash b) = m.makes (hashed b)
  apply_moves (Voc.tuple ms) = m.makes (tupled ms)

  verified_looks : (k b : S.Msg) (shape : Shape S.Msg) → Answers Why Full Any (verified S k b shape x)
  verified_looks k b (signed l c) = answers_test (reason_number NotVerified) (own (reason_number NotVerified) tt) (goes_with S l k x && S.equal b c x)
  verified_looks k b (atom tag number) = fails (own (reason_number NotVerified) tt)
  verified_looks k b (encrypted l c) = fails (own (reason_number NotVerified) tt)
  verified_looks k b (hashed c) = fails (own (reason_number NotVerified) tt)
  verified_looks k b (tupled ms) = fails (own (reason_number NotVerified) tt)

  test_looks : (t : Test S.Msg) → Answers Why Full Any (test_in S t x)
  test_looks (Voc.is kind b) = answers_test (reason_number OtherKind) (own (reason_number OtherKind) tt) (eqb kind (kind_of (S.look b x)))
  test_looks (Voc.same a b) = answers_test (reason_number Differs) (own (reason_number Differs) tt) (S.equal a b x)
  test_looks (Voc.verify k b c) = verified_looks k b (S.look c x)

  taken_looks : (b : S.Msg) (n : ℕ) (shape : Shape S.Msg) → Answers Why Full Any (taken S b n shape)
  taken_looks b n (tupled ms) = answers_sure (reason_number PartCount) (own (reason_number PartCount) tt) (eqb (length ms) n) (gets tt)
  taken_looks b n (atom tag number) = fails (own (reason_number PartCount) tt)
  taken_looks b n (encrypted l c) = fails (own (reason_number PartCount) tt)
  taken_looks b n (signed l c) = fails (own (reason_number PartCount) tt)
  taken_looks b n (hashed c) = fails (own (reason_number PartCount) tt)

  -- then every operation leaves it so
  pub making_moves : Moves Why Full (world S) Q x
  making_moves = record { left = m.left; applies = apply_moves; tests = test_looks; parts = λ b n. taken_looks b n (S.look b x) }

-- a model whose ways to make a message and a name give no reason
calm_model : (S : Model) → ((x : S.Mem) → Making OwnReason (Unit {0}) S Any x) → Calm (world S)
calm_model S making =
    let moves : (x : S.Mem) → Moves OwnReason (Unit {0}) (world S) Any x = λ x. making_moves S (λ why own. own) (making x) in
    record { apply = λ o x. (moves x).applies o; test = λ t x. (moves x).tests t; parts = λ b n x. (moves x).parts b n }

calm_name : {X : Type 0} (counter : ℕ) (raised : ℕ → X) → AnswerWithin OwnReason (name counter raised)
calm_name {X} counter raised = go (ltb counter most_names)
  where
    go : (room : Bool) → AnswerWithin OwnReason {A = ℕ × X} (cond room (got (counter, raised (suc counter))) full)
    go true = gets tt
    go false = fills tt

calm_placed : (x : Table) (rows : List ℕ) (found : Found) → AnswerWithin OwnReason (placed_by x rows found)
calm_placed x rows (Some (row, used)) = gets tt
calm_placed x rows None = fills tt

calm_make : (x : Table) (shape : Shape ℕ) → AnswerWithin OwnReason (row_model.make shape x)
calm_make x shape = let l = locate x.rows x.used (row_of shape) in calm_placed x l.rows l.found

pub calm_rows : Calm row_world
calm_rows = calm_model row_model λ x.
    record {
      left = tt;
      makes = calm_make x;
      creates = λ kind. answers_then _ (calm_name x.counter (with_counter x)) λ r _. calm_make r.1 (atom kind r.0);
    }
