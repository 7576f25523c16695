use Rattle.cluster.specs.State.{sizes_of}
use Rattle.atomicity.proofs.Simulating.{simulated}
use Rattle.atomicity.proofs.simulation.simulate.Goals as goal

pub returns-clause-run : goal.returns-clause-run
returns-clause-run g c =
    simulated g.S.Setting.kind g.met.S.Setting.lawful (g.P.QuorumSystem.quorums c.args.parts.system) (g.met.P.QuorumSystem.lawful c.args.parts.system)
    (g.K.Signatures.book c.args.parts.signatures) (g.K.Signatures.free c.args.parts.signatures) c.args.parts.faulty.members c.args.parts.reader_count
    c.args.tables.now.replicas.now c.args.tables.now.readers.now (sizes_of c.args.tables.now) _ _ _ _
    c.new-cluster.ensures.made c.run_calls.ensures.ran
