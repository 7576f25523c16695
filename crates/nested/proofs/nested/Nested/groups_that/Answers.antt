use Rattle.std.proofs.Common.{◌^◌, ltb, sym, ap, ◌∙◌, arith}
use lib.Bits.{bit_or}
use Rattle.std.proofs.lemmas.Bool.{cond-true, lt-ltb}
use Rattle.replica_sets.specs.Sets.{those}
use Rattle.nested.specs.Groups.{groups_put, groups_skip}
use Rattle.nested.proofs.nested.Nested.groups_that.Goals as goal
use Rattle.nested.proofs.nested.Nested.groups_that.Goals.{then-test, else-test}

pub loop-group-init : goal.loop-group-init
unfolding those
loop-group-init g c p h = ap (λ s. s.members) c.empty-found.ensures

pub loop-group-preserved : goal.loop-group-preserved
loop-group-preserved g c p h =
    let m = (g.I.QuorumSystem.quorums c.args.self.now.inner).size in
    let k = c.loop-group.group in
    let found = c.loop-group.found.members in
    let few = (g.met.O.QuorumSystem.lawful c.args.self.now.outer).at_most_32 in
    let answer = h c.part.result c.test.result c.test.ensures in
    elim c.if-test.branch [
      | then-test w ↦
          groups_put k m c.replicas-size.result c.args.set.members c.part.result.members found _ p
          (c.loop-group.invariant p h) c.replicas-size.ensures c.part.ensures.bits (sym answer ∙ w.if-test.true)
          (ap (λ s. s.members) w.found-is ∙ w.with-found.ensures.bits ∙ cond-true (ltb k 32) (bit_or found (2 ^ k)) found (lt-ltb k 32 (omega (arith, few))))
      | else-test w ↦
          groups_skip k m c.replicas-size.result c.args.set.members c.part.result.members found _ p
          (c.loop-group.invariant p h) c.replicas-size.ensures c.part.ensures.bits (sym answer ∙ w.if-test.false)
          (ap (λ s. s.members) w.found-is)
    ]
