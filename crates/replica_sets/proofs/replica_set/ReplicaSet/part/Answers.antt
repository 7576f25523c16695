use Rattle.std.proofs.Common.{rules, ap, ◌∙◌}
use Rattle.replica_sets.specs.Sets.{has}
use Rattle.replica_sets.proofs.Members.{part_is, has_part}
use Rattle.replica_sets.proofs.replica_set.ReplicaSet.part.Goals as goal

pub returns : goal.returns
returns c =
    let a = c.args.self.members in
    let s = c.args.start in
    let n = c.args.len in
    let bits = part_is a s n c.intersection.result.members (search rules) (λ i. cc (c.intersection.ensures.each i, c.from.ensures, c.first.ensures.each i)) in
    record { bits = bits; each = λ i. ap (λ x. has x i) bits ∙ has_part a s n i }
