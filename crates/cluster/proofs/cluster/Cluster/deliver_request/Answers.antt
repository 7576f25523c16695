use Rattle.std.proofs.Common.{refl, sym, ◌∙◌}
use Rattle.std.proofs.lemmas.List.{length-set}
use Rattle.cluster.proofs.Outcomes.{passed_on, refuses, lets_pass, fixed_stays, listed, row_is, no_row}
use Rattle.cluster.proofs.Requesting.{request_shut, request_refused, request_faulty, request_silent, request_full, request_so}
use Rattle.cluster.proofs.cluster.Cluster.deliver_request.Goals as goal

pub returns-in_err-closed-clause-steps : goal.returns-in_err-closed-clause-steps
returns-in_err-closed-clause-steps g c = passed_on c.from_residual.result _ c.from_residual.ensures.1 (request_shut _ _ _ _ _ c.in_err-closed.ensures.refusal)

pub returns-in_default-clause-steps : goal.returns-in_default-clause-steps
returns-in_default-clause-steps g c =
    let long = listed c.args.self.now.messages c.args.tables.now.messages.now c.in_ok-closed.ensures.sized.messages_are in
    request_refused _ _ _ _ _ _ _ long refl refl c.in_ok-closed.ensures.refusal 15 (refuses _ 15 _ (no_row _ _ _ long c.in_default.ensures))

pub returns-in_err-request_refusal-clause-steps : goal.returns-in_err-request_refusal-clause-steps
returns-in_err-request_refusal-clause-steps g c =
    let long = listed c.args.self.now.messages c.args.tables.now.messages.now c.in_ok-closed.ensures.sized.messages_are in
    let there = row_is _ _ _ _ _ long c.in-Some.ensures in
    passed_on c.from_residual-in_err-request_refusal.result _ c.from_residual-in_err-request_refusal.ensures.1
    (request_refused _ _ _ _ _ _ _ long c.replicas.ensures there.1 c.in_ok-closed.ensures.refusal _ (lets_pass _ 15 _ there.0 ∙ c.in_err-request_refusal.ensures))

pub returns-then-contains-clause-steps : goal.returns-then-contains-clause-steps
returns-then-contains-clause-steps g c =
    let long = listed c.args.self.now.messages c.args.tables.now.messages.now c.in_ok-closed.ensures.sized.messages_are in
    let there = row_is _ _ _ _ _ long c.in-Some.ensures in
    request_faulty _ _ _ _ _ _ _ long c.replicas.ensures there.1 c.in_ok-closed.ensures.refusal (lets_pass _ 15 _ there.0 ∙ c.in_ok-request_refusal.ensures) (sym c.if-contains.ensures)

pub returns-in_default-replica_step-clause-steps : goal.returns-in_default-replica_step-clause-steps
returns-in_default-replica_step-clause-steps g c =
    let long = listed c.args.self.now.messages c.args.tables.now.messages.now c.in_ok-closed.ensures.sized.messages_are in
    let there = row_is _ _ _ _ _ long c.in-Some.ensures in
    request_silent _ _ _ _ _ _ _ long c.replicas.ensures there.1 c.in_ok-closed.ensures.refusal (lets_pass _ 15 _ there.0 ∙ c.in_ok-request_refusal.ensures)
    _ _ c.version_at-kept.ensures c.decode_message.ensures (sym c.if-contains.ensures) c.in_default-replica_step.ensures.answer

pub returns-then-is_full-clause-steps : goal.returns-then-is_full-clause-steps
returns-then-is_full-clause-steps g c =
    let long = listed c.args.self.now.messages c.args.tables.now.messages.now c.in_ok-closed.ensures.sized.messages_are in
    let there = row_is _ _ _ _ _ long c.in-Some.ensures in
    request_full _ _ _ _ _ _ _ long c.replicas.ensures there.1 c.in_ok-closed.ensures.refusal (lets_pass _ 15 _ there.0 ∙ c.in_ok-request_refusal.ensures)
    _ _ c.version_at-kept.ensures c.decode_message.ensures (sym c.if-contains.ensures) _ c.in-Some-replica_step.ensures.answer 12 (refuses _ 12 _ (sym c.if-is_full.ensures))

pub returns-then-is_full-clause-holds : goal.returns-then-is_full-clause-holds
returns-then-is_full-clause-holds g c = record { cluster = refl; tables = refl }

pub returns-clause-steps : goal.returns-clause-steps
returns-clause-steps g c =
    let long = listed c.args.self.now.messages c.args.tables.now.messages.now c.in_ok-closed.ensures.sized.messages_are in
    let there = row_is _ _ _ _ _ long c.in-Some.ensures in
    request_so _ _ _ _ _ _ _ long c.replicas.ensures there.1 c.in_ok-closed.ensures.refusal (lets_pass _ 15 _ there.0 ∙ c.in_ok-request_refusal.ensures)
    _ _ c.version_at-kept.ensures c.decode_message.ensures (sym c.if-contains.ensures) _ c.in-Some-replica_step.ensures.answer
    _ _ _ _ (lets_pass _ 12 _ (sym c.if-is_full.ensures)) c.replica_step.ensures.kept c.encode_message.ensures
    (fixed_stays g.P.QuorumSystem.quorums c.args.self.now _ (simp length-set) refl c.append.auto.rows refl c.append.ensures.places refl) c.append.ensures.rows
