use Rattle.std.proofs.Common.{◌≡◌, ℕ, Bool}
use Rattle.replica_sets.specs.declared.replica_set.ReplicaSet.{ReplicaSet}
use Rattle.nested.specs.Nesting.{groups}
use Rattle.nested.proofs.nested.Nested.groups_that.Given as goal

abbrev pub invariant-loop-group : goal.invariant-loop-group
invariant-loop-group g l =
    (p : ℕ → Bool) → ((x : ReplicaSet) (r : Bool) → goal.F-post g l.test x r → r ≡ p x.members)
    → l.found.members ≡ groups l.group (g.I.QuorumSystem.quorums l.self.inner).size p l.set.members
