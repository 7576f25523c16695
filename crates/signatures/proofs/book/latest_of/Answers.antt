use Rattle.std.proofs.Common.{rules}
use Rattle.signatures.proofs.Rising.{last_is_newest}
use Rattle.signatures.proofs.book.latest_of.Goals as goal

pub returns : goal.returns
returns c = last_is_newest 0 c.args.book.now c.last.result c.map_or.result c.requires c.last.ensures.value (search rules)
