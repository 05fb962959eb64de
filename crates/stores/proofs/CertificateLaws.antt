-- The tests of certificates say what document 01 says; valid ones stay valid while rows are kept.
use mathlib.Core.Path.{◌≡◌}
use mathlib.Core.Logic.Iff
use mathlib.Core.Logic.{◌↔◌, ◌≢◌}
use mathlib.Core.Bool.{not, ◌&&◌}
use mathlib.Core.List.{List, [], ◌∷◌}
use Prim.Native.Nat.{ℕ, ◌<◌, ◌≤◌}
use native.Mathlib.Omega.{arith}
use lib.Dec.{T, eqb}
use lib.ListN.{get_or}
use Rattle.word.specs.Lowest.{each}
use Rattle.word.proofs.All.{all_map}
use Rattle.word.proofs.TestLaws.{both, fails, equals, is_below}
use Rattle.word.proofs.LowestLaws.{each_all}
use Rattle.stores.specs.Certificates.{agent_of, key_of, pair_fits, agents_once}
use Rattle.stores.specs.GoodStores.{GoodPair, AgentsOnce, ValidCertificates}

good_pair : (rows : List ℕ) (used word : ℕ) → T (pair_fits rows used word) ↔ GoodPair rows used word
unfolding pair_fits
good_pair rows used word =
    simp (both, equals, is_below) (
      λ h. record { spare = h.0.0.0.0; agent = (h.0.0.0.1, h.0.0.1); key = (h.0.1, h.1) },
      λ g. ((((g.spare, g.agent.0), g.agent.1), g.key.0), g.key.1),
    )

agents_once_lem : (certificates : List ℕ) → T (agents_once certificates) ↔ AgentsOnce certificates
unfolding agents_once
agents_once_lem [] = (λ h. tt, λ h. tt)
agents_once_lem (word ∷ rest) =
    let others = each_all (λ other. not (eqb (agent_of other) (agent_of word))) (λ other. agent_of other ≢ agent_of word) (λ other. simp (fails, equals) Iff.rfl) rest in
    simp (both, others, agents_once_lem rest) Iff.rfl

pub valid_certificates : (rows : List ℕ) (used : ℕ) (certificates : List ℕ)
    → T (each (pair_fits rows used) certificates && agents_once certificates) ↔ ValidCertificates rows used certificates
valid_certificates rows used certificates =
    let pairs = each_all (pair_fits rows used) (GoodPair rows used) (good_pair rows used) certificates in
    simp (both, pairs, agents_once_lem) (λ h. record { pairs = h.0; once = h.1 }, λ v. (v.pairs, v.once))

-- pairs of rows that are kept stay good
pub certificates_kept : {rows : List ℕ} {used : ℕ} {certificates : List ℕ} (others : List ℕ) (more : ℕ) → used ≤ more
    → ((row : ℕ) → row < used → get_or others row 0 ≡ get_or rows row 0) → ValidCertificates rows used certificates → ValidCertificates others more certificates
certificates_kept {rows} {used} {certificates} others more up kept valid = record { pairs = all_map certificates pair_kept valid.pairs; once = valid.once }
  where
    pair_kept : (word : ℕ) → GoodPair rows used word → GoodPair others more word
    pair_kept word g =
        record {
          spare = g.spare;
          agent = (omega (arith, g.agent.0), rw (kept (agent_of word) g.agent.0) g.agent.1);
          key = (omega (arith, g.key.0), rw (kept (key_of word) g.key.0) g.key.1);
        }
