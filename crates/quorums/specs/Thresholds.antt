-- The system in which any f of n replicas may be faulty together. Assumes nothing.
use Rattle.std.specs.Prelude.{ℕ, ◌+◌, ◌*◌, cond, ◌&&◌, ◌||◌, Some, None, Option, nat_le, nat_lt}
use Rattle.replica_sets.specs.Sets.{below, size_of}
use Rattle.quorums.specs.Systems.{Quorums}

-- a quorum has more than half of n + f members, a fault set at most f
abbrev pub threshold : ℕ → ℕ → Quorums
threshold n f = record { size = n; quorum = λ a. below n a && nat_lt (n + f) (2 * size_of a); fault = λ a. below n a && nat_le (size_of a) f }

-- 1 where n is not from 1 to 32, then 3 where n is at most three times f
abbrev pub threshold_check : ℕ → ℕ → Option ℕ
threshold_check n f = cond (nat_lt n 1 || nat_lt 32 n) (Some 1) (cond (nat_le n (3 * f)) (Some 3) None)
