use Rattle.std.proofs.Common.{refl, ◌∙◌}
use Rattle.cluster.proofs.Outcomes.{passed_on, refuses, lets_pass, listed, row_is, no_row}
use Rattle.cluster.proofs.Hearing.{reply_shut, reply_refused, reply_so}
use Rattle.cluster.proofs.cluster.Cluster.deliver_reply.Goals as goal

pub returns-in_err-closed-clause-steps : goal.returns-in_err-closed-clause-steps
returns-in_err-closed-clause-steps g c = passed_on c.from_residual.result _ c.from_residual.ensures.1 (reply_shut _ _ _ _ c.in_err-closed.ensures.refusal)

pub returns-in_default-clause-steps : goal.returns-in_default-clause-steps
returns-in_default-clause-steps g c =
    let long = listed c.args.self.now.messages c.args.tables.now.messages.now c.in_ok-closed.ensures.sized.messages_are in
    reply_refused _ _ _ _ _ _ long refl refl c.in_ok-closed.ensures.refusal 15 (refuses _ 15 _ (no_row _ _ _ long c.in_default.ensures))

pub returns-in_err-reply_refusal-clause-steps : goal.returns-in_err-reply_refusal-clause-steps
returns-in_err-reply_refusal-clause-steps g c =
    let long = listed c.args.self.now.messages c.args.tables.now.messages.now c.in_ok-closed.ensures.sized.messages_are in
    let there = row_is _ _ _ _ _ long c.in-Some.ensures in
    passed_on c.from_residual-in_err-reply_refusal.result _ c.from_residual-in_err-reply_refusal.ensures.1
    (reply_refused _ _ _ _ _ _ long c.replicas.ensures there.1 c.in_ok-closed.ensures.refusal _ (lets_pass _ 15 _ there.0 ∙ c.in_err-reply_refusal.ensures))

pub returns-clause-steps : goal.returns-clause-steps
returns-clause-steps g c =
    let long = listed c.args.self.now.messages c.args.tables.now.messages.now c.in_ok-closed.ensures.sized.messages_are in
    let there = row_is _ _ _ _ _ long c.in-Some.ensures in
    reply_so _ _ _ _ _ _ long c.replicas.ensures there.1 c.in_ok-closed.ensures.refusal _ _ (lets_pass _ 15 _ there.0 ∙ c.in_ok-reply_refusal.ensures) c.client.ensures c.decode_message.ensures
    ∙ c.hear.ensures.steps
