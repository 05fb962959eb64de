-- One world read in another: the same code on both gives the same end, cell by cell, unless the left runs out of room.
use mathlib.Core.Path.{◌≡◌, refl, sym, ◌∙◌, ap, subst}
use mathlib.Core.Bool.{Bool, true, false, cond}
use Rattle.std.specs.Prelude.{Option, Some}
use mathlib.Core.List.{List, [], ◌∷◌}
use Prim.Native.Nat.{ℕ, zero, suc, ◌+◌, ◌-◌, ◌<◌, ◌≤◌}
use native.Mathlib.Omega.{arith}
use lib.Dec.{T, eqb, eqb→eq, ltb}
use lib.ListN.{length}
use Rattle.word.proofs.All.{All}
use Rattle.code.specs.declared.Instruction.{Instruction}
use Rattle.code.specs.declared.Instruction.TheVariants.{Load, Store, StoreConst, Decode, Encode, Create, AnalyzeTuple, CreateTuple, Opposite, KeyOf, Match, Encrypt, Decrypt, Sign, Verify, Hash}
use Rattle.terms.specs.Table.{Encrypts, Signs}
use Rattle.theory.specs.Store.{put}
use Rattle.theory.specs.World.{World, Op, Test, creatable}
use Rattle.theory.specs.World as Voc
use Rattle.numbers.specs.Limits.{named_cells}
use Rattle.theory.specs.Machine.{Line, State, message, messages, set_message, set_messages, set_object, set_raw, set_memory, with_accumulator, with_stores, with_scratch, make_accumulator, make_object, step, exec}
use Rattle.theory.proofs.CellLaws.{memory_kept}
use Rattle.theory.proofs.Fitting.{Fits}
use Rattle.theory.proofs.Related.{EachR, nil, cons, CellR, set, AnswerR, OutcomeR, dones, bind_related, need_related, at_related, cell_map}

module _ {A B : Type 0} (R : A → B → Type 0) (kind : B → ℕ) where
  -- the same operation on related messages, where it makes what a row can hold
  pub data OpR : Op A → Op B → Type 0 where
    byte_r : {n : ℕ} → n < 256 → OpR (Voc.byte n) (Voc.byte n)
    create_r : {n : ℕ} → T (creatable n) → OpR (Voc.create n) (Voc.create n)
    op_r : {a : A} {b : B} → R a b → OpR (Voc.op a) (Voc.op b)
    key_of_r : {a : A} {b : B} → R a b → OpR (Voc.key_of a) (Voc.key_of b)
    encrypt_r : {k m : A} {l n : B} → Encrypts (kind l) → R k l → R m n → OpR (Voc.encrypt k m) (Voc.encrypt l n)
    decrypt_r : {k m : A} {l n : B} → R k l → R m n → OpR (Voc.decrypt k m) (Voc.decrypt l n)
    sign_r : {k m : A} {l n : B} → Signs (kind l) → R k l → R m n → OpR (Voc.sign k m) (Voc.sign l n)
    hash_r : {a : A} {b : B} → R a b → OpR (Voc.hash a) (Voc.hash b)
    tuple_r : {ms : List A} {ns : List B} → length ns ≤ 4 → EachR R ms ns → OpR (Voc.tuple ms) (Voc.tuple ns)

module _ {A B : Type 0} (R : A → B → Type 0) where
  pub data TestR : Test A → Test B → Type 0 where
    is_r : {n : ℕ} {a : A} {b : B} → R a b → TestR (Voc.is n a) (Voc.is n b)
    same_r : {a c : A} {b d : B} → R a b → R c d → TestR (Voc.same a c) (Voc.same b d)
    verify_r : {k m s : A} {l n t : B} → R k l → R m n → R s t → TestR (Voc.verify k m s) (Voc.verify l n t)

module _ {M : Type 0} where
  -- the kind of what an operation makes; what is taken out of others may have any
  abbrev pub Makes : Op M → ℕ → Type 0
  Makes (Voc.byte n) k = k ≡ 1
  Makes (Voc.create n) k = k ≡ n
  Makes (Voc.op a) k = k ≡ 4
  Makes (Voc.encrypt a m) k = k ≡ 7
  Makes (Voc.sign a m) k = k ≡ 8
  Makes (Voc.hash m) k = k ≡ 9
  Makes (Voc.tuple ms) k = k ≡ 10
  Makes (Voc.key_of a) k = Unit {0}
  Makes (Voc.decrypt a m) k = Unit {0}

  -- what a passed test says of kinds
  abbrev pub Shows : (M → ℕ) → Test M → Type 0
  Shows kind (Voc.is n m) = kind m ≡ n
  Shows kind (Voc.same a b) = Unit {0}
  Shows kind (Voc.verify k b m) = Unit {0}

-- how memories and messages of one world are read in another, whose messages have kinds
pub record Reading (W T : World) : Type 1 where
  pub Good : W.Mem → T.Mem → Type 0
  pub Means : W.Mem → W.Msg → T.Msg → Type 0
  pub kind : T.Msg → ℕ

module _ {W T : World} (F : Reading W T) where
  -- what was there keeps its meaning
  abbrev pub Kept : W.Mem → W.Mem → Type 0
  Kept x y = (a : W.Msg) (t : T.Msg) → F.Means x a t → F.Means y a t

  -- a message and a memory made, of a kind that is right
  pub record Made (x : W.Mem) (right : ℕ → Type 0) (r : W.Msg × W.Mem) (q : T.Msg × T.Mem) : Type 0 where
    pub means : F.Means r.1 r.0 q.0
    pub good : F.Good r.1 q.1
    pub kept : Kept x r.1
    pub kind : right (F.kind q.0)

  -- what has to be shown of two worlds
  pub record Refines : Type 0 where
    pub applies : {x : W.Mem} {c : T.Mem} {o : Op W.Msg} {o' : Op T.Msg} → F.Good x c → OpR (F.Means x) F.kind o o'
        → AnswerR (Made x (Makes o')) (W.apply o x) (T.apply o' c)
    pub tests : {x : W.Mem} {c : T.Mem} {q : Test W.Msg} {q' : Test T.Msg} → F.Good x c → TestR (F.Means x) q q'
        → AnswerR (λ _ _. Shows F.kind q') (W.test q x) (T.test q' c)
    pub takes : {x : W.Mem} {c : T.Mem} {a : W.Msg} {t : T.Msg} (n : ℕ) → F.Good x c → F.Means x a t
        → AnswerR (λ g h. (i : ℕ) → i < n → F.Means x (g i) (h i)) (W.parts a n x) (T.parts t n c)

module _ {A B : Type 0} (R : ℕ → A → B → Type 0) where
  -- a store of cells, after one of them is written
  put_related : (f : ℕ → Option A) (g : ℕ → Option B) (v : ℕ) {a : A} {b : B} → R v a b → ((i : ℕ) → CellR (R i) (f i) (g i))
      → (i : ℕ) → CellR (R i) (put f v (Some a) i) (put g v (Some b) i)
  unfolding put
  put_related f g v {a} {b} r h i = go (eqb v i) (eqb→eq v i)
    where
      go : (t : Bool) → (T t → v ≡ i) → CellR (R i) (cond t (Some a) (f i)) (cond t (Some b) (g i))
      go true e = rw (← (e tt)) (set r)
      go false e = h i

module _ {W T : World} (F : Reading W T) (kind : ℕ → ℕ) where
  -- what a cell holds; an object cell's message has its variable's kind
  abbrev pub MessageR : State W → W.Msg → T.Msg → Type 0
  MessageR s = F.Means s.stores.memory

  abbrev pub ObjectR : State W → ℕ → W.Msg → T.Msg → Type 0
  ObjectR s v a b = MessageR s a b × (F.kind b ≡ kind v)

  pub record StateR (s : State W) (t : State T) : Type 0 where
    pub good : F.Good s.stores.memory t.stores.memory
    pub accumulators : CellR (MessageR s) s.accumulator t.accumulator
    pub scratch_cells : (i : ℕ) → CellR (MessageR s) (s.scratches i) (t.scratches i)
    pub objects : (v : ℕ) → CellR (ObjectR s v) (s.stores.σ v) (t.stores.σ v)
    pub raws : (r : ℕ) → CellR (MessageR s) (s.stores.ρ r) (t.stores.ρ r)

  -- the memory grows
  grown : {s : State W} {t : State T} {x : W.Mem} {c : T.Mem} → StateR s t → F.Good x c → Kept F s.stores.memory x
      → StateR (with_stores W s (set_memory W s.stores x)) (with_stores T t (set_memory T t.stores c))
  grown st good kept =
      record {
        good = good;
        accumulators = cell_map kept st.accumulators;
        scratch_cells = λ i. cell_map kept (st.scratch_cells i);
        objects = λ v. cell_map (λ a b m. (kept a b m.0, m.1)) (st.objects v);
        raws = λ r. cell_map kept (st.raws r);
      }

  -- one cell is written
  module _ {s : State W} {t : State T} (st : StateR s t) {a : W.Msg} {b : T.Msg} where
    accumulator_set : MessageR s a b → StateR (with_accumulator W s a) (with_accumulator T t b)
    accumulator_set m = record { good = st.good; accumulators = set m; scratch_cells = st.scratch_cells; objects = st.objects; raws = st.raws }

    object_set : (v : ℕ) → ObjectR s v a b → StateR (with_stores W s (set_object W s.stores v a)) (with_stores T t (set_object T t.stores v b))
    object_set v m =
        record {
          good = st.good;
          accumulators = st.accumulators;
          scratch_cells = st.scratch_cells;
          objects = put_related (ObjectR s) _ _ v m st.objects;
          raws = st.raws;
        }

    raw_set : (r : ℕ) → MessageR s a b → StateR (with_stores W s (set_raw W s.stores r a)) (with_stores T t (set_raw T t.stores r b))
    raw_set r m =
        record {
          good = st.good;
          accumulators = st.accumulators;
          scratch_cells = st.scratch_cells;
          objects = st.objects;
          raws = put_related (λ _. MessageR s) _ _ r m st.raws;
        }

    scratch_set : (i : ℕ) → MessageR s a b → StateR (with_scratch W s i a) (with_scratch T t i b)
    scratch_set i m =
        record {
          good = st.good;
          accumulators = st.accumulators;
          scratch_cells = put_related (λ _. MessageR s) _ _ i m st.scratch_cells;
          objects = st.objects;
          raws = st.raws;
        }

    message_set : (cell : ℕ) → MessageR s a b → StateR (set_message W s cell a) (set_message T t cell b)
    unfolding set_message
    message_set cell m = go (ltb cell named_cells)
      where
        go : (named : Bool)
            → StateR (cond named (with_stores W s (set_raw W s.stores cell a)) (with_scratch W s (cell - named_cells) a))
            (cond named (with_stores T t (set_raw T t.stores cell b)) (with_scratch T t (cell - named_cells) b))
        go true = raw_set cell m
        go false = scratch_set (cell - named_cells) m

  messages_set : {s : State W} {t : State T} (first n : ℕ) {g : ℕ → W.Msg} {h : ℕ → T.Msg} → StateR s t
      → ((i : ℕ) → i < n → MessageR s (g i) (h i)) → StateR (set_messages W s first n g) (set_messages T t first n h)
  unfolding set_messages
  messages_set first zero st m = st
  messages_set {s} first (suc n) {g} {h} st m =
      message_set (messages_set first n st λ i l. m i (omega arith)) (first + n)
      (subst (λ x. F.Means x (g n) (h n)) (sym (memory_kept W s first n g)) (m n (omega arith)))

  -- message cells are read by their numbers
  message_related : {s : State W} {t : State T} (cell : ℕ) → StateR s t → CellR (MessageR s) (message W s cell) (message T t cell)
  unfolding message
  message_related {s} {t} cell st = go (ltb cell named_cells)
    where
      go : (named : Bool)
          → CellR (MessageR s) (cond named (s.stores.ρ cell) (s.scratches (cell - named_cells)))
          (cond named (t.stores.ρ cell) (t.scratches (cell - named_cells)))
      go true = st.raws cell
      go false = st.scratch_cells (cell - named_cells)

  messages_related : (place : ℕ) {s : State W} {t : State T} (first n : ℕ) → StateR s t
      → OutcomeR (λ ms ns. EachR (MessageR s) ms ns × (length ns ≡ n)) (messages W place s first n) (messages T place t first n)
  unfolding messages
  messages_related place first zero st = dones (nil, refl)
  messages_related place first (suc n) st =
      bind_related (need_related place (message_related first st)) λ a b m.
      bind_related (messages_related place (suc first) n st) λ ls ns ms. dones (cons m ms.0, ap suc ms.1)

module _ {W T : World} (F : Reading W T) (L : Refines F) (kind : ℕ → ℕ) where
  abbrev States : State W → State T → Type 0
  States = StateR F kind

  -- a made message goes to the accumulator, or to an object cell
  module _ (place : ℕ) {s : State W} {t : State T} (st : States s t) where
    accumulator_made : {o : Op W.Msg} {o' : Op T.Msg} → OpR (F.Means s.stores.memory) F.kind o o'
        → OutcomeR States (make_accumulator W kind place s o) (make_accumulator T kind place t o')
    accumulator_made m =
        bind_related (at_related place (L.applies st.good m)) λ a b made.
        dones (accumulator_set F kind (grown F kind st made.good made.kept) made.means)

    object_made : (v : ℕ) {o : Op W.Msg} {o' : Op T.Msg} → OpR (F.Means s.stores.memory) F.kind o o'
        → ((k : ℕ) → Makes o' k → k ≡ kind v) → OutcomeR States (make_object W kind place s v o) (make_object T kind place t v o')
    object_made v m right =
        bind_related (at_related place (L.applies st.good m)) λ a b made.
        dones (object_set F kind (grown F kind st made.good made.kept) v (made.means, right _ made.kind))

    step_related : (i : Instruction) → Fits kind i → OutcomeR States (step W kind place i s) (step T kind place i t)
    step_related (Load r) fits = bind_related (need_related place (message_related F kind r.0 st)) λ a b m. dones (accumulator_set F kind st m)
    step_related (Store r) fits = bind_related (need_related place st.accumulators) λ a b m. dones (message_set F kind st r.0 m)
    step_related (StoreConst c b) fits = object_made c.0 (byte_r fits.1) λ k e. e ∙ sym fits.0
    step_related (Decode v) fits =
        bind_related (need_related place st.accumulators) λ a b m.
        bind_related (at_related place (L.tests st.good (is_r m))) λ _ _ e. dones (object_set F kind st v.0 (m, e))
    step_related (Encode v) fits = bind_related (need_related place (st.objects v.0)) λ a b m. dones (accumulator_set F kind st m.0)
    step_related (Create v) fits = object_made v.0 (create_r fits) λ k e. e
    step_related (AnalyzeTuple u b n) fits =
        bind_related (need_related place (st.objects u.0)) λ a c m.
        bind_related (at_related place (L.takes n st.good m.0)) λ g h ms. dones (messages_set F kind b.0 n st ms)
    step_related (CreateTuple u b n) fits =
        bind_related (messages_related F kind place b.0 n st) λ ms ns rs.
        object_made u.0 (tuple_r (rw rs.1 fits.1) rs.0) λ k e. e ∙ sym fits.0
    step_related (Opposite K k) fits =
        bind_related (need_related place (st.objects K.0)) λ a b m. object_made k.0 (op_r m.0) λ k e. e ∙ sym fits
    step_related KeyOf fits = bind_related (need_related place st.accumulators) λ a b m. accumulator_made (key_of_r m)
    step_related (Match r) fits =
        bind_related (need_related place st.accumulators) λ a b m. bind_related (need_related place (message_related F kind r.0 st)) λ c d n.
        bind_related (at_related place (L.tests st.good (same_r m n))) λ _ _ _. dones st
    step_related (Encrypt v) fits =
        bind_related (need_related place (st.objects v.0)) λ k l m.
        bind_related (need_related place st.accumulators) λ a b n. accumulator_made (encrypt_r (rw m.1 fits) m.0 n)
    step_related (Decrypt v) fits =
        bind_related (need_related place (st.objects v.0)) λ k l m.
        bind_related (need_related place st.accumulators) λ a b n. accumulator_made (decrypt_r m.0 n)
    step_related (Sign v) fits =
        bind_related (need_related place (st.objects v.0)) λ k l m.
        bind_related (need_related place st.accumulators) λ a b n. accumulator_made (sign_r (rw m.1 fits) m.0 n)
    step_related (Verify v r) fits =
        bind_related (need_related place (st.objects v.0)) λ k l m. bind_related (need_related place (message_related F kind r.0 st)) λ a b n.
        bind_related (need_related place st.accumulators) λ c d o.
        bind_related (at_related place (L.tests st.good (verify_r m.0 n o))) λ _ _ _. dones st
    step_related (Hash h) fits = bind_related (need_related place st.accumulators) λ a b m. accumulator_made (hash_r m)

  -- the same code on both
  pub exec_related : (code : List Line) {s : State W} {t : State T} → All (λ l. Fits kind l.instruction) code → StateR F kind s t
      → OutcomeR (StateR F kind) (exec W kind code s) (exec T kind code t)
  exec_related [] fits st = dones st
  exec_related (l ∷ code) fits st =
      bind_related (step_related l.place st l.instruction fits.0) λ s t next. exec_related code fits.1 next
