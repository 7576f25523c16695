-- What the trials of a quorum system tell. Assumes nothing.
use Rattle.std.specs.Prelude.{◌≡◌, ℕ, ◌<◌, Bool, true, false, ◌&&◌}
use Rattle.replica_sets.specs.Sets.{has, outside}
use Rattle.quorums.specs.Systems.{Quorums}

-- c is a fault set, and the replicas outside it are a quorum
abbrev pub survived : Quorums → ℕ → Bool
survived q c = q.fault c && q.quorum (outside q.size c)

-- a and b are quorums, and c is a fault set
abbrev pub on_trial : Quorums → ℕ → ℕ → ℕ → Bool
on_trial q a b c = (q.quorum a && q.quorum b) && q.fault c

-- some replica is in a and in b, and not in c
abbrev pub Share : Quorums → ℕ → ℕ → ℕ → Type 0
Share q a b c = (i : ℕ) × (i < q.size) × (has a i ≡ true) × (has b i ≡ true) × (has c i ≡ false)
