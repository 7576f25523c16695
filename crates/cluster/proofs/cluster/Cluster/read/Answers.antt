use Rattle.std.proofs.Common.{refl}
use Rattle.cluster.proofs.Outcomes.{passed_on, fixed_stays, listed}
use Rattle.cluster.proofs.Beginning.{read_shut, read_refused, read_so}
use Rattle.cluster.proofs.cluster.Cluster.read.Goals as goal

pub returns-in_err-closed-clause-steps : goal.returns-in_err-closed-clause-steps
returns-in_err-closed-clause-steps g c = passed_on c.from_residual.result _ c.from_residual.ensures.1 (read_shut _ _ _ _ c.in_err-closed.ensures.refusal)

pub returns-in_err-read_refusal-clause-steps : goal.returns-in_err-read_refusal-clause-steps
returns-in_err-read_refusal-clause-steps g c =
    let messages = listed c.args.self.now.messages c.args.tables.now.messages.now c.in_ok-closed.ensures.sized.messages_are in
    let lines = listed c.args.self.now.lines c.args.tables.now.lines.now c.in_ok-closed.ensures.sized.lines_are in
    passed_on c.from_residual-in_err-read_refusal.result _ c.from_residual-in_err-read_refusal.ensures.1
    (read_refused _ _ _ _ _ messages lines c.in_ok-closed.ensures.refusal _ c.in_err-read_refusal.ensures.refusal)

pub returns-clause-steps : goal.returns-clause-steps
returns-clause-steps g c =
    let messages = listed c.args.self.now.messages c.args.tables.now.messages.now c.in_ok-closed.ensures.sized.messages_are in
    let lines = listed c.args.self.now.lines c.args.tables.now.lines.now c.in_ok-closed.ensures.sized.lines_are in
    read_so _ _ _ _ _ messages lines c.in_ok-closed.ensures.refusal _ _ _ _ _ _ _ _ _
    c.in_ok-read_refusal.ensures.refusal c.in_ok-read_refusal.ensures.room.1 c.reader_at-op.ensures c.new.ensures c.query_message.ensures c.read_line.ensures
    (fixed_stays g.P.QuorumSystem.quorums c.args.self.now _ refl c.put_client.auto.readers c.append.auto.rows c.append-2.auto.rows c.append.ensures.places c.append-2.ensures.places)
    c.put_client.ensures.writer c.put_client.ensures.readers c.append.ensures.rows c.append-2.ensures.rows
