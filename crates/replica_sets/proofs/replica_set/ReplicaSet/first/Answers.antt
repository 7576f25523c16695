use Rattle.std.proofs.Common.{rules}
use Rattle.replica_sets.proofs.Members.{first_each}
use Rattle.replica_sets.proofs.replica_set.ReplicaSet.first.Goals as goal

pub returns-then-count-lt-PLACES-clause-each : goal.returns-then-count-lt-PLACES-clause-each
returns-then-count-lt-PLACES-clause-each c i = first_each c.args.count _ i (search rules)

pub returns-else-count-lt-PLACES-clause-each : goal.returns-else-count-lt-PLACES-clause-each
returns-else-count-lt-PLACES-clause-each c i = first_each c.args.count _ i (search rules)
