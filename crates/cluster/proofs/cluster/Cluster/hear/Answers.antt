use Rattle.std.proofs.Common.{refl, sym}
use Rattle.cluster.proofs.Outcomes.{refuses, lets_pass, with_signatures, fixed_stays, listed}
use Rattle.cluster.proofs.Hearing.{ignored, turn_refused, finish_refused, heard_so, turned_so, finished_so}
use Rattle.cluster.proofs.cluster.Cluster.hear.Goals as goal

pub returns-in-Ignored-clause-steps : goal.returns-in-Ignored-clause-steps
returns-in-Ignored-clause-steps g c = ignored _ _ _ _ _ _ c.client_at-before.ensures c.in-Ignored.ensures

pub returns-in-Heard-clause-steps : goal.returns-in-Heard-clause-steps
returns-in-Heard-clause-steps g c =
    heard_so _ _ _ _ _ _ c.client_at-before.ensures _ _ _ (fixed_stays g.P.QuorumSystem.quorums c.args.self.now _ refl c.put_client.auto.readers refl refl refl refl)
    c.put_client.ensures.writer c.in-Heard.ensures c.put_client.ensures.readers

pub returns-then-is_full-clause-steps : goal.returns-then-is_full-clause-steps
returns-then-is_full-clause-steps g c =
    let long = listed c.args.self.now.messages c.args.tables.now.messages.now c.requires.messages in
    turn_refused _ _ _ _ _ _ c.client_at-before.ensures _ _ c.in-Turned.ensures long (refuses _ 12 _ (sym c.if-is_full.ensures))

pub returns-then-is_full-clause-holds : goal.returns-then-is_full-clause-holds
returns-then-is_full-clause-holds g c = record { cluster = with_signatures c.args.self.now _ _ refl; tables = refl }

pub returns-else-is_full-clause-steps : goal.returns-else-is_full-clause-steps
returns-else-is_full-clause-steps g c =
    let long = listed c.args.self.now.messages c.args.tables.now.messages.now c.requires.messages in
    turned_so _ _ _ _ _ _ c.client_at-before.ensures _ _ _ (fixed_stays g.P.QuorumSystem.quorums c.args.self.now _ refl c.put_client-in-Turned.auto.readers c.append.auto.rows refl c.append.ensures.places refl)
    c.put_client-in-Turned.ensures.writer _ _ _ c.in-Turned.ensures long (lets_pass _ 12 _ (sym c.if-is_full.ensures)) c.put_client-in-Turned.ensures.readers c.write_back.ensures c.append.ensures.rows

pub returns-then-is_full-2-clause-steps : goal.returns-then-is_full-2-clause-steps
returns-then-is_full-2-clause-steps g c =
    let long = listed c.args.self.now.lines c.args.tables.now.lines.now c.requires.lines in
    finish_refused _ _ _ _ _ _ c.client_at-before.ensures _ _ c.in-Finished.ensures long (refuses _ 13 _ (sym c.if-is_full-2.ensures))

pub returns-then-is_full-2-clause-holds : goal.returns-then-is_full-2-clause-holds
returns-then-is_full-2-clause-holds g c = record { cluster = with_signatures c.args.self.now _ _ refl; tables = refl }

pub returns-else-is_full-2-clause-steps : goal.returns-else-is_full-2-clause-steps
returns-else-is_full-2-clause-steps g c =
    let long = listed c.args.self.now.lines c.args.tables.now.lines.now c.requires.lines in
    finished_so _ _ _ _ _ _ c.client_at-before.ensures _ _ _ (fixed_stays g.P.QuorumSystem.quorums c.args.self.now _ refl c.finish_client.auto.readers refl c.append-in-Finished.auto.rows refl c.append-in-Finished.ensures.places)
    c.finish_client.ensures.writer _ _ _ c.in-Finished.ensures long (lets_pass _ 13 _ (sym c.if-is_full-2.ensures)) c.finish_client.ensures.readers c.end_line.ensures c.append-in-Finished.ensures.rows
