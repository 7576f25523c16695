use Rattle.std.proofs.Common.{◌+◌, refl, ap, ◌∙◌, rules}
use Rattle.atomicity.proofs.Running.{ran_start, ran_more, ran_all}
use Rattle.atomicity.proofs.simulation.run_calls.Goals as goal

pub loop-call-init : goal.loop-call-init
loop-call-init g c = (ran_start _ _ _ c.requires.empty.0, c.requires.empty.1, refl, search rules)

pub loop-call-preserved : goal.loop-call-preserved
loop-call-preserved g c = (
  ran_more _ _ _ _ _ _ _ _ _ _ c.loop-call-test.true c.call-item.is c.push_reserved.ensures.items c.loop-call.invariant.0 c.make_call.ensures.steps,
  c.push_reserved.ensures.len ∙ ap (λ n. n + 1) c.loop-call.invariant.1,
  c.push_reserved.ensures.capacity ∙ c.loop-call.invariant.2,
  search rules,
)

pub returns-clause-ran : goal.returns-clause-ran
returns-clause-ran g c = ran_all _ _ _ _ _ _ c.loop-call-test.false c.loop-call.invariant.0
