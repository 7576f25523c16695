use Rattle.atomicity.proofs.theorem.every_run_is_atomic_and_progresses.Goals as goal
use Rattle.atomicity.proofs.Whole.{atomic}

-- src/theorem.rt:8:1
pub returns : goal.returns
returns g c p = atomic g.S.Setting.kind g.met.S.Setting.lawful (g.P.QuorumSystem.quorums p) (g.met.P.QuorumSystem.lawful p)
