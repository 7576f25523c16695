-- The system of groups: an outer system over r groups, each an inner system of m replicas. Replica p of group g has the number g * m + p. Assumes nothing.
use Rattle.std.specs.Prelude.{ℕ, ◌*◌, ◌/◌, ◌%◌, ◌^◌, Bool, cond, not, ◌&&◌, Some, None, Option, nat_le}
use Rattle.replica_sets.specs.Sets.{below, those}
use Rattle.quorums.specs.Systems.{Quorums}
use Rattle.quorums.specs.Refusals.{accepts}
use Rattle.quorums.specs.Thresholds.{threshold}

-- the members of a in group g, by their places there
abbrev pub part : ℕ → ℕ → ℕ → ℕ
part m g a = a / 2 ^ (g * m) % 2 ^ m

-- the groups, of r, whose part of a passes the test
abbrev pub groups : ℕ → ℕ → (ℕ → Bool) → ℕ → ℕ
groups r m test a = those r (λ g. test (part m g a))

-- 1 where there would be more than 32 replicas
abbrev pub nested_check : Quorums → Quorums → Option ℕ
nested_check outer inner = cond (nat_le (outer.size * inner.size) 32) None (Some 1)

-- a quorum where the groups with an inner quorum are an outer quorum; a fault set where the groups with no inner fault set are an outer fault set
abbrev pub grouped : Quorums → Quorums → Quorums
grouped outer inner = record {
  size = outer.size * inner.size;
  quorum = λ a. below (outer.size * inner.size) a && outer.quorum (groups outer.size inner.size inner.quorum a);
  fault = λ a. below (outer.size * inner.size) a && outer.fault (groups outer.size inner.size (λ s. not (inner.fault s)) a);
}

-- the system of groups, or one replica that is never faulty where the check refuses it
abbrev pub nested : Quorums → Quorums → Quorums
nested outer inner = cond (accepts (nested_check outer inner)) (grouped outer inner) (threshold 1 0)
