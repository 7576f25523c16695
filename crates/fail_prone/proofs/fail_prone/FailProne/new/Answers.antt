use Rattle.std.proofs.Common.{◌≡◌, false, refl, sym, ◌∙◌, lit≤, rules}
use Rattle.std.proofs.lemmas.Bool.{cond-false}
use Rattle.quorums.specs.Refusals.{accepts}
use Rattle.quorums.specs.Thresholds.{threshold}
use Rattle.fail_prone.specs.Listed.{hold, listed_check, listed_system}
use Rattle.fail_prone.specs.Accepted.{one_replica}
use Rattle.fail_prone.proofs.fail_prone.FailProne.new.Goals as goal

pub invariant_of-result : goal.invariant_of-result
unfolding hold
invariant_of-result c = record { few = lit≤ tt; ok = refl }

pub returns-then-is_err-clause-system : goal.returns-then-is_err-clause-system
returns-then-is_err-clause-system c =
    let n = c.args.replicas in
    let xs = c.args.listed.now in
    let refused : accepts (listed_check n xs) ≡ false = search rules in
    one_replica ∙ sym (cond-false (accepts (listed_check n xs)) (listed_system n xs) (threshold 1 0) refused)
