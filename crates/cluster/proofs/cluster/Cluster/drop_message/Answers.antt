use Rattle.std.proofs.Common.{refl, le-leb}
use Rattle.std.proofs.lemmas.Bool.{lt-leb}
use Rattle.cluster.proofs.Outcomes.{passed_on, refuses, lets_pass, fixed_stays, listed}
use Rattle.cluster.proofs.Dropping.{drop_shut, drop_refused, drop_so}
use Rattle.cluster.proofs.cluster.Cluster.drop_message.Goals as goal

pub returns-in_err-closed-clause-steps : goal.returns-in_err-closed-clause-steps
returns-in_err-closed-clause-steps g c = passed_on c.from_residual.result _ c.from_residual.ensures.1 (drop_shut _ _ _ c.in_err-closed.ensures.refusal)

pub returns-then-message-self-clause-steps : goal.returns-then-message-self-clause-steps
returns-then-message-self-clause-steps g c =
    let long = listed c.args.self.now.messages c.args.tables.now.messages.now c.in_ok-closed.ensures.sized.messages_are in
    drop_refused _ _ c.args.self.now.messages.used long c.in_ok-closed.ensures.refusal 15 (refuses _ 15 _ (le-leb _ _ c.if-message-self.true))

pub returns-clause-steps : goal.returns-clause-steps
returns-clause-steps g c =
    let long = listed c.args.self.now.messages c.args.tables.now.messages.now c.in_ok-closed.ensures.sized.messages_are in
    drop_so _ _ c.args.self.now.messages.used long c.in_ok-closed.ensures.refusal _ _ (lets_pass _ 15 _ (lt-leb _ _ c.if-message-self.false))
    (fixed_stays g.P.QuorumSystem.quorums c.args.self.now _ refl refl c.remove.auto.rows refl c.remove.ensures.places refl) c.remove.ensures.rows
