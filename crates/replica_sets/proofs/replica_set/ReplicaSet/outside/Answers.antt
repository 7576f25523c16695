use Rattle.std.proofs.Common.{rules}
use Rattle.replica_sets.proofs.Members.{outside_is}
use Rattle.replica_sets.proofs.replica_set.ReplicaSet.outside.Goals as goal

pub returns-clause-bits : goal.returns-clause-bits
returns-clause-bits c h = outside_is c.args.count c.args.self.members _ h (λ i. search rules)
