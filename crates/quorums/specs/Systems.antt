-- What a quorum system is, and its laws. Assumes nothing.
use Rattle.std.specs.Prelude.{◌≡◌, ℕ, ◌≤◌, Bool, true, false}
use Rattle.replica_sets.specs.Sets.{Within, Below, common, outside}

-- the replicas 0 to size - 1, and two questions about sets of them
pub record Quorums : Type 0 where
  pub size : ℕ
  -- is the set a quorum?
  pub quorum : ℕ → Bool
  -- may its members be faulty together?
  pub fault : ℕ → Bool

-- what every quorum system keeps
pub record QuorumLaws (q : Quorums) : Type 0 where
  pub at_least_one : 1 ≤ q.size
  pub at_most_32 : q.size ≤ 32
  -- a set with a member at size or beyond is neither
  pub quorum_below : (a : ℕ) → q.quorum a ≡ true → Below q.size a
  pub fault_below : (a : ℕ) → q.fault a ≡ true → Below q.size a
  -- a set of replicas that contains a quorum is a quorum
  pub quorum_upward : (a b : ℕ) → q.quorum a ≡ true → Within a b → Below q.size b → q.quorum b ≡ true
  -- a part of a fault set is a fault set
  pub fault_downward : (a b : ℕ) → q.fault b ≡ true → Within a b → q.fault a ≡ true
  -- the empty set is a fault set
  pub none_faulty : q.fault 0 ≡ true
  -- what two quorums have in common is never a fault set
  pub meet : (a b : ℕ) → q.quorum a ≡ true → q.quorum b ≡ true → q.fault (common a b) ≡ false
  -- the replicas outside a fault set are a quorum
  pub rest : (a : ℕ) → q.fault a ≡ true → q.quorum (outside q.size a) ≡ true
