-- The system whose fault sets are listed. Assumes nothing.
use Rattle.std.specs.Prelude.{◌≡◌, ℕ, zero, suc, Bool, true, cond, not, ◌&&◌, ◌||◌, List, length, Some, None, Option, ◌==◌, bit_or, nat_le, nat_lt}
use Rattle.std.specs.List.{list_any, list_all}
use Rattle.replica_sets.specs.Sets.{within, below, all, outside}
use Rattle.replica_sets.specs.declared.replica_set.ReplicaSet.{ReplicaSet}
use Rattle.quorums.specs.Systems.{Quorums, QuorumLaws}

-- some listed set passes the test
abbrev pub some_listed : (ℕ → Bool) → List ReplicaSet → Bool
some_listed p listed = list_any (λ s. p s.members) listed

-- each listed set passes the test
abbrev pub each_listed : (ℕ → Bool) → List ReplicaSet → Bool
each_listed p listed = list_all (λ s. p s.members) listed

-- a fault set is a part of a listed set, or empty; a quorum has all replicas outside some listed set, or all replicas
abbrev pub listed_system : ℕ → List ReplicaSet → Quorums
listed_system n listed = record {
  size = n;
  quorum = λ a. below n a && (within (all n) a || some_listed (λ s. within (outside n s) a) listed);
  fault = λ a. below n a && (a == 0 || some_listed (within a) listed);
}

-- k listed sets, repeats allowed, hold together with base all of whole
unfoldable pub hold : ℕ → ℕ → ℕ → List ReplicaSet → Bool
hold zero whole base listed = within whole base
hold (suc k) whole base listed = some_listed (λ s. hold k whole (bit_or base s) listed) listed

-- three listed sets, repeats allowed, hold all n replicas, which are at most 32
abbrev pub three_hold_all : ℕ → List ReplicaSet → Bool
three_hold_all n listed = nat_le n 32 && hold 3 (all n) 0 listed

-- 1 where n is not from 1 to 32; 2 where more than 16 sets are listed or one has a replica that is not below n; 3 where three listed sets hold all replicas
abbrev pub listed_check : ℕ → List ReplicaSet → Option ℕ
listed_check n listed =
    cond (nat_lt n 1 || nat_lt 32 n) (Some 1)
    (cond (nat_lt 16 (length listed) || not (each_listed (below n) listed)) (Some 2)
    (cond (three_hold_all n listed) (Some 3) None))

-- no quorum system of n replicas in which each listed set is a fault set keeps the laws
abbrev pub NoSystemKeepsTheLaws : ℕ → List ReplicaSet → Type 0
NoSystemKeepsTheLaws n listed = (q : Quorums) → q.size ≡ n → each_listed q.fault listed ≡ true → QuorumLaws q → ⊥
