use Rattle.std.proofs.Common.{◌≡◌, sym, ◌∙◌, rules}
use Rattle.fail_prone.specs.Listed.{three_hold_all}
use Rattle.fail_prone.specs.ListedLemmas.{none_keeps_the_laws}
use Rattle.fail_prone.proofs.fail_prone.three_hold_all.Goals as goal

pub returns-then-replicas-le-MOST_REPLICAS-clause-impossible : goal.returns-then-replicas-le-MOST_REPLICAS-clause-impossible
returns-then-replicas-le-MOST_REPLICAS-clause-impossible c e =
    let answer : c.three_hold.result ≡ three_hold_all c.args.replicas c.args.listed.now = search rules in
    none_keeps_the_laws c.args.replicas c.args.listed.now (sym answer ∙ e)
