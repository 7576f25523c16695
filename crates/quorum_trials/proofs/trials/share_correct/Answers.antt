use Rattle.std.proofs.Common.{◌≡◌, true, ◌&&◌, sym, ◌∙◌, arith}
use Rattle.std.proofs.lemmas.Bool.{both_ways, and_parts, not_from_false, false_from_ne_true}
use Rattle.replica_sets.specs.Sets.{has}
use Rattle.quorums.proofs.Intersections.{common_correct}
use Rattle.quorum_trials.proofs.trials.share_correct.Goals as goal

pub returns-then-are_on_trial : goal.returns-then-are_on_trial
returns-then-are_on_trial g c =
    let p = c.args.system.now in
    let q = g.P.QuorumSystem.quorums p in
    let a = c.args.first.members in
    let b = c.args.second.members in
    let f = c.args.faulty.members in
    let trial = sym c.if-are_on_trial.ensures in
    let u = and_parts (q.quorum a && q.quorum b) (q.fault f) trial in
    let v = and_parts (q.quorum a) (q.quorum b) u.0 in
    let r = common_correct q (g.met.P.QuorumSystem.lawful p) a b f v.0 v.1 u.1 in
    let i = r.0 in
    let there : has c.difference.result.members i ≡ true = c.difference.ensures i ∙ grind (arith, c.intersection.ensures.each i, r.2, r.3, r.4) in
    let some = not_from_false c.is_empty.result (false_from_ne_true c.is_empty.result (λ e. both_ways (has c.difference.result.members i) (c.is_empty.ensures.each.0 e i) there)) in
    record { answer = some ∙ sym trial; shared = λ e. r }
