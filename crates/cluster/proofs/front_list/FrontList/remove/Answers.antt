use Rattle.std.proofs.Common.{arith}
use Rattle.cluster.proofs.Lists.{removed_by}
use Rattle.cluster.proofs.front_list.FrontList.remove.Goals as goal

pub returns-clause-rows : goal.returns-clause-rows
returns-clause-rows g c = removed_by c.args.rows.now _ _ _ _ c.requires.there (omega (arith, c.args.self.now.fits, c.requires.table)) c.rotate_left.ensures.after
