use Rattle.std.proofs.Common.{refl, lit<, rules}
use Rattle.cluster.proofs.Outcomes.{passed_on, with_signatures, fixed_stays, listed}
use Rattle.cluster.proofs.Beginning.{write_shut, write_refused, write_unsigned, write_so}
use Rattle.cluster.proofs.cluster.Cluster.write.Goals as goal

pub returns-in_err-closed-clause-steps : goal.returns-in_err-closed-clause-steps
returns-in_err-closed-clause-steps g c =
    (0, lit< tt, passed_on c.from_residual.result _ c.from_residual.ensures.1 (write_shut _ _ _ _ _ c.in_err-closed.ensures.refusal))

pub returns-in_err-begin_refusal-clause-steps : goal.returns-in_err-begin_refusal-clause-steps
returns-in_err-begin_refusal-clause-steps g c =
    let messages = listed c.args.self.now.messages c.args.tables.now.messages.now c.in_ok-closed.ensures.sized.messages_are in
    let lines = listed c.args.self.now.lines c.args.tables.now.lines.now c.in_ok-closed.ensures.sized.lines_are in (
      0,
      lit< tt,
      passed_on c.from_residual-in_err-begin_refusal.result _ c.from_residual-in_err-begin_refusal.ensures.1
          (write_refused _ _ _ _ _ _ messages lines _ c.open_operations-opened.ensures.count c.in_ok-closed.ensures.refusal _ c.in_err-begin_refusal.ensures.refusal),
    )

pub returns-in_default-clause-steps : goal.returns-in_default-clause-steps
returns-in_default-clause-steps g c =
    let messages = listed c.args.self.now.messages c.args.tables.now.messages.now c.in_ok-closed.ensures.sized.messages_are in
    let lines = listed c.args.self.now.lines c.args.tables.now.lines.now c.in_ok-closed.ensures.sized.lines_are in (
      0,
      lit< tt,
      write_unsigned _ _ _ _ _ _ messages lines _ c.open_operations-opened.ensures.count c.in_ok-closed.ensures.refusal _ _
          c.in_ok-begin_refusal.ensures.refusal c.in_default.ensures.signs.0 c.in_default.ensures.signs.1 c.in_default.ensures.signs.2,
    )

pub returns-in_default-clause-holds : goal.returns-in_default-clause-holds
returns-in_default-clause-holds g c = record {
  cluster = with_signatures c.args.self.now c.sign.new.self _ (c.in_default.ensures.unchanged refl);
  tables = refl;
}

pub returns-clause-steps : goal.returns-clause-steps
returns-clause-steps g c =
    let messages = listed c.args.self.now.messages c.args.tables.now.messages.now c.in_ok-closed.ensures.sized.messages_are in
    let lines = listed c.args.self.now.lines c.args.tables.now.lines.now c.in_ok-closed.ensures.sized.lines_are in (
      c.in-Some.tag,
      search rules,
      write_so _ _ _ _ _ _ messages lines _ c.open_operations-opened.ensures.count c.in_ok-closed.ensures.refusal _ _ _ _ _ _ _ _ _
          c.in_ok-begin_refusal.ensures.refusal c.in-Some.ensures.signs.0 c.encode-encoding.ensures c.store_message.ensures c.write_line.ensures
          (fixed_stays g.P.QuorumSystem.quorums c.args.self.now _ refl refl c.append.auto.rows c.append-2.auto.rows c.append.ensures.places c.append-2.ensures.places)
          c.in-Some.ensures.signs.1 c.in-Some.ensures.signs.2 c.new-self.ensures c.append.ensures.rows c.append-2.ensures.rows,
    )
