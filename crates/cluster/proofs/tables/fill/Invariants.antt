use Rattle.std.proofs.Common.{◌≡◌, ◌≤◌, length, take, replicate}
use Rattle.cluster.proofs.tables.fill.Given as goal

abbrev pub invariant-loop-place : goal.invariant-loop-place
invariant-loop-place g l = (take l.place-index l.place-items ≡ replicate l.place-index l.row) × (l.place-index ≤ length l.fn.rows)
