-- How looks are joined, and the looks at emission as looks of the table.
use Prim.Native.Nat.{ℕ, ◌<◌}
use mathlib.Core.Path.{◌≡◌, refl, sym, ap, subst, ◌∙◌}
use mathlib.Core.Bool.{Bool, true, false, cond}
use mathlib.Core.List.{List, [], ◌∷◌, ◌++◌}
use native.Mathlib.Omega.{arith}
use Rattle.answers.specs.declared.Compiled.TheVariants.{WrongKind, WrittenWhileSet, ReadWhileUnset}
use Rattle.theory.specs.Emission.{Env, Emitted, ok, refuse, and_then}
use Rattle.theory.proofs.CellLaws.{readable_named, occupied_named, add_raw_named, with_raw}
use Rattle.calls.specs.Looks.{Known, Look, writes, writes_raw, unset_on_entry, reads, reads_raw, sets, sets_raw, wrong_kind, Verdict, passed, stopped, onward, judged, known_in, verdict_of}
use Rattle.calls.proofs.LookLaws.{onward_twice, judged_one, judged_append, judged_none, write_case, read_case, raw_case}
use Rattle.knowing.specs.Known.{known}
use Rattle.knowing.specs.Steps.{read_object, write_object, read_raw, write_raw, free_raw}
use Rattle.knowing.specs.Meets.{env_of, MeetsBy, Meets, Quiet}
use Rattle.knowing.proofs.MeetsLaws.{after_nil, does_none}
use Rattle.surveys.specs.Surveys.{KeepsBy, Keeps, Surveys}
use Rattle.knowing.specs.declared.Emission.{Emission}

-- what an emission came to that emission meets
met_keeps : (a : Emitted) {start : ℕ} {blank : List ℕ} {e : Emission} {code : List ℕ} → Meets a start blank e code → Keeps e (verdict_of a)
unfolding MeetsBy KeepsBy
met_keeps (ok lines env) m = record { kept = (m.met.fine, ap known_in m.met.env) }
met_keeps (refuse answer) m = record { kept = m.met }

module _ {kind : ℕ → ℕ} {e e' : Emission} where
  -- a step without a word, and looks that come to the same where it is taken
  pub looks_by : {looks : List Look} {f : Env → Emitted} → Quiet f 0 e e' → verdict_of (f (env_of e)) ≡ judged kind looks (known_in (env_of e)) → Surveys kind looks e e'
  unfolding KeepsBy MeetsBy and_then
  looks_by {looks} {f} q same = record { go = by }
    where
      by : (v : Verdict) → Keeps e v → Keeps e' (onward v (judged kind looks))
      by (passed k) h =
          let start : Meets (ok [] (env_of e)) e.written [] e [] = record { met = record { fine = h.kept.0; env = refl; written = omega arith; words = refl } } in
          let met : Meets (f (env_of e)) e.written [] e' [] = rw after_nil at ((q.does []).go (ok [] (env_of e)) e.written [] start) in
          subst (λ (x : Known). Keeps e' (judged kind looks x)) h.kept.1 (subst (Keeps e') same (met_keeps (f (env_of e)) met))
      by (stopped answer) h = record { kept = ((q.does []).go (refuse answer) 0 [] (record { met = h.kept })).met }

-- one look after another
pub looks_seq : {kind : ℕ → ℕ} {l m : List Look} {e e₁ e₂ : Emission} → Surveys kind l e e₁ → Surveys kind m e₁ e₂ → Surveys kind (l ++ m) e e₂
looks_seq {kind} {l} {m} {e₂ = e₂} a b = record {
  go = λ v h. subst (Keeps e₂) (sym (onward_twice kind v (judged kind l) (judged kind m) (judged kind (l ++ m)) (judged_append kind l m))) (b.go (onward v (judged kind l)) (a.go v h));
}

-- nothing is looked at, or nothing that stops or sets
pub looks_kept : {kind : ℕ → ℕ} {looks : List Look} {e : Emission} → judged kind looks (known_in (env_of e)) ≡ passed (known_in (env_of e)) → Surveys kind looks e e
looks_kept {e = e} same = looks_by {f = ok []} (record { does = λ code. does_none; place = omega arith; free = omega arith }) (sym same)

pub looks_none : {kind : ℕ → ℕ} {e : Emission} → Surveys kind [] e e
looks_none {kind} {e} = looks_kept (judged_none kind (known_in (env_of e)))

free_case : (row : ℕ) (env : Env) (b : Bool) → verdict_of (cond b (refuse (WrittenWhileSet row)) (ok [] env)) ≡ cond b (stopped (WrittenWhileSet row)) (passed (known_in env))
free_case row env true = refl
free_case row env false = refl

module _ {kind : ℕ → ℕ} {e e' : Emission} {row : ℕ} where
  pub looks_write : {v : ℕ} → Quiet (write_object row v) 0 e e' → Surveys kind (writes row v ∷ []) e e'
  looks_write {v} q = looks_by q (write_case row (env_of e) [] v (known e.objects v) ∙ sym (judged_one kind (writes row v) (known_in (env_of e))))

  pub looks_read : {v : ℕ} → Quiet (read_object row v) 0 e e' → Surveys kind (reads row v ∷ []) e e'
  looks_read {v} q = looks_by q (read_case row (env_of e) [] (known e.objects v) ∙ sym (judged_one kind (reads row v) (known_in (env_of e))))

  pub looks_free : {r : ℕ} → Quiet (free_raw row r) 0 e e' → Surveys kind (unset_on_entry row r ∷ []) e e'
  looks_free {r} q = looks_by q (free_case row (env_of e) (known e.raws r) ∙ sym (judged_one kind (unset_on_entry row r) (known_in (env_of e))))

  pub looks_wrong : Quiet (λ env. refuse (WrongKind row)) 0 e e' → Surveys kind (wrong_kind row ∷ []) e e'
  looks_wrong q = looks_by q (sym (judged_one kind (wrong_kind row) (known_in (env_of e))))

  module _ {r : ℕ} (low : r < 64) where
    pub looks_read_raw : Quiet (read_raw row r) 0 e e' → Surveys kind (reads_raw row r ∷ []) e e'
    looks_read_raw q =
        looks_by q
        (ap (λ (b : Bool). verdict_of (cond b (ok [] (env_of e)) (refuse (ReadWhileUnset row)))) (readable_named (env_of e) r low)
        ∙ read_case row (env_of e) [] (known e.raws r) ∙ sym (judged_one kind (reads_raw row r) (known_in (env_of e))))

    pub looks_write_raw : Quiet (write_raw row r) 0 e e' → Surveys kind (writes_raw row r ∷ []) e e'
    looks_write_raw q =
        let h : write_raw row r (env_of e) ≡ cond (known e.raws r) (refuse (WrittenWhileSet row)) (ok [] (with_raw (env_of e) r)) =
        rw (occupied_named (env_of e) r low, add_raw_named (env_of e) r low) in
        looks_by q (ap verdict_of h ∙ raw_case kind row r (env_of e) [] (known e.raws r) ∙ sym (judged_one kind (writes_raw row r) (known_in (env_of e))))

-- t is what was seen of the variable
module _ {e : Emission} {t : Bool} where
  module _ (v : ℕ) (seen : t ≡ known e.objects v) where
    pub object_set : t ≡ true → (kind : ℕ → ℕ) → Surveys kind (sets v ∷ []) e e
    object_set h kind = looks_kept (judged_one kind (sets v) (known_in (env_of e)) ∙ rw (sym seen ∙ h))

    pub object_unset : (row : ℕ) {e' : Emission} → t ≡ false → Quiet (write_object row v) 0 e e' → (kind : ℕ → ℕ) → Surveys kind (sets v ∷ []) e e'
    object_unset row h q kind = looks_by q (sym (judged_one kind (sets v) (known_in (env_of e)) ∙ rw (sym seen ∙ h)))

  module _ (r : ℕ) (seen : t ≡ known e.raws r) where
    pub raw_set : t ≡ true → (kind : ℕ → ℕ) → Surveys kind (sets_raw r ∷ []) e e
    raw_set h kind = looks_kept (judged_one kind (sets_raw r) (known_in (env_of e)) ∙ rw (sym seen ∙ h))

    pub raw_unset : (row : ℕ) {e' : Emission} → r < 64 → t ≡ false → Quiet (write_raw row r) 0 e e' → (kind : ℕ → ℕ) → Surveys kind (sets_raw r ∷ []) e e'
    raw_unset row low h q kind =
        looks_by q (rw (occupied_named (env_of e) r low, add_raw_named (env_of e) r low) (sym (judged_one kind (sets_raw r) (known_in (env_of e)) ∙ rw (sym seen ∙ h))))

pub ruleset object-ways = (object_set, object_unset)

pub ruleset raw-ways = (raw_set, raw_unset)
