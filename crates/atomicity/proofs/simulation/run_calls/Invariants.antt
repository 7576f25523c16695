use Rattle.std.proofs.Common.{◌≡◌, map, take, vec_items, vec_len, vec_capacity}
use Rattle.cluster.specs.Refusals.{numbered}
use Rattle.cluster.specs.State.{state, SameTables}
use Rattle.atomicity.specs.Simulations.{Ran}
use Rattle.atomicity.proofs.simulation.run_calls.Given as goal

abbrev pub invariant-loop-call : goal.invariant-loop-call
invariant-loop-call g l =
    let of = state g.P.QuorumSystem.quorums g.K.Signatures.book g.K.Signatures.free in
    Ran g.S.Setting.kind (of l.initial.cluster l.initial.tables) (take l.call-index l.calls) (map numbered (vec_items l.answers)) (of l.cluster l.tables)
    × (vec_len l.answers ≡ l.call-index)
    × (vec_capacity l.answers ≡ vec_capacity l.initial.answers)
    × SameTables l.initial.tables l.tables
