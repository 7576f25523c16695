use Rattle.std.proofs.Common.{◌≡◌, Some, None, refl, arith}
use Rattle.std.proofs.lemmas.List.{length-set}
use Rattle.cluster.specs.declared.refusal.Refusal.TheVariants.{NothingCompleted}
use Rattle.cluster.proofs.Outcomes.{passed_on, passed_on_as, fixed_stays}
use Rattle.cluster.proofs.Handing.{collect_shut, collect_refused, collect_none, collect_so}
use Rattle.cluster.proofs.cluster.Cluster.collect.Goals as goal

pub returns-in_err-closed-clause-steps : goal.returns-in_err-closed-clause-steps
returns-in_err-closed-clause-steps g c = passed_on c.from_residual.result _ c.from_residual.ensures.1 (collect_shut _ _ _ _ c.in_err-closed.ensures.refusal)

pub returns-in_err-reader_refusal-clause-steps : goal.returns-in_err-reader_refusal-clause-steps
returns-in_err-reader_refusal-clause-steps g c =
    passed_on c.from_residual-in_err-reader_refusal.result _ c.from_residual-in_err-reader_refusal.ensures.1
    (collect_refused _ _ _ c.in_ok-closed.ensures.refusal _ c.in_err-reader_refusal.ensures.refusal)

pub returns-in_err-completed-clause-steps : goal.returns-in_err-completed-clause-steps
returns-in_err-completed-clause-steps g c =
    let none : c.reader_at-row.result.completed ≡ None = grind arith in
    let why : c.in_err-completed.field-0.0 ≡ NothingCompleted = grind arith in
    passed_on_as c.from_residual-in_err-completed.result _ _ c.from_residual-in_err-completed.ensures.1 why
    (collect_none _ _ _ c.in_ok-closed.ensures.refusal c.in_ok-reader_refusal.ensures.refusal _ c.reader_at-row.ensures none)

pub returns-clause-steps : goal.returns-clause-steps
returns-clause-steps g c =
    let some : c.reader_at-row.result.completed ≡ Some c.in_ok-completed.completed = grind arith in
    collect_so _ _ _ c.in_ok-closed.ensures.refusal c.in_ok-reader_refusal.ensures.refusal _ c.reader_at-row.ensures _ _ _ _ some c.hand_out.ensures
    (fixed_stays g.P.QuorumSystem.quorums c.args.self.now _ refl (simp length-set) refl refl refl refl) c.emptied.ensures
