use Rattle.std.proofs.Common.{rules}
use Rattle.replica_sets.proofs.Members.{with_one}
use Rattle.replica_sets.proofs.replica_set.ReplicaSet.with.Goals as goal

pub returns-then-replica-lt-PLACES-clause-each : goal.returns-then-replica-lt-PLACES-clause-each
returns-then-replica-lt-PLACES-clause-each c i = with_one c.args.self.members c.args.replica _ i (search rules) c.if-replica-lt-PLACES.true
