use Rattle.std.proofs.Common.{◌≡◌, rules, ◌∙◌}
use Rattle.std.specs.List.{count_by}
use Rattle.cluster.proofs.Opened.{is_open, open_counted}
use Rattle.cluster.proofs.refusals.open_reads.Goals as goal

pub returns-clause-count : goal.returns-clause-count
returns-clause-count c =
    let counted : c.count.result ≡ count_by is_open c.args.readers.now = search rules in
    counted ∙ open_counted c.args.readers.now
