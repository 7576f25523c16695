use Rattle.std.proofs.Common.{sym, arith}
use Rattle.std.proofs.lemmas.List.{get_or_past}
use Rattle.encodings.proofs.rows.row_or.Goals as goal

pub returns-else-place-rows : goal.returns-else-place-rows
returns-else-place-rows g c = sym (get_or_past c.args.rows.now c.args.place c.args.otherwise (omega arith))
