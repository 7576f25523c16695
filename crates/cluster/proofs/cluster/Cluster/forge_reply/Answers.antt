use Rattle.std.proofs.Common.{◌∙◌}
use Rattle.cluster.proofs.Outcomes.{passed_on}
use Rattle.cluster.proofs.Hearing.{forge_shut, forge_refused, forge_so}
use Rattle.cluster.proofs.cluster.Cluster.forge_reply.Goals as goal

pub returns-in_err-closed-clause-steps : goal.returns-in_err-closed-clause-steps
returns-in_err-closed-clause-steps g c = passed_on c.from_residual.result _ c.from_residual.ensures.1 (forge_shut _ _ _ _ c.in_err-closed.ensures.refusal)

pub returns-in_err-forge_refusal-clause-steps : goal.returns-in_err-forge_refusal-clause-steps
returns-in_err-forge_refusal-clause-steps g c =
    passed_on c.from_residual-in_err-forge_refusal.result _ c.from_residual-in_err-forge_refusal.ensures.1
    (forge_refused _ _ _ _ c.replicas.ensures c.in_ok-closed.ensures.refusal _ c.in_err-forge_refusal.ensures)

pub returns-clause-steps : goal.returns-clause-steps
returns-clause-steps g c = forge_so _ _ _ _ c.replicas.ensures c.in_ok-closed.ensures.refusal _ c.in_ok-forge_refusal.ensures c.client.ensures ∙ c.hear.ensures.steps
