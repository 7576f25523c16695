use Rattle.std.proofs.Common.{◌+◌, ◌-◌, ◌/◌, ap, arith}
use Rattle.signatures.specs.declared.entry.Entry.{Entry}
use Rattle.signatures.proofs.Rising.{rises_from}
use Rattle.signatures.proofs.book.place_of.Goals as goal

pub loop-low-preserved-then-entry_at-timestamp : goal.loop-low-preserved-then-entry_at-timestamp
loop-low-preserved-then-entry_at-timestamp c =
    let b = c.args.book.now in
    let middle = c.loop-low.low + (c.loop-low.high - c.loop-low.low) / 2 in
    let here = ap (λ (e : Entry). e.timestamp) c.entry_at.ensures in (
      omega arith,
      omega arith,
      (λ k l. let up = rises_from 0 b k middle c.requires (omega arith) (omega arith) in omega arith),
      c.loop-low.invariant.3,
    )

pub loop-low-preserved : goal.loop-low-preserved
loop-low-preserved c =
    let b = c.args.book.now in
    let middle = c.loop-low.low + (c.loop-low.high - c.loop-low.low) / 2 in
    let here = ap (λ (e : Entry). e.timestamp) c.entry_at.ensures in (
      omega arith,
      omega arith,
      c.loop-low.invariant.2,
      (λ k g l. let up = rises_from 0 b middle k c.requires g l in omega arith),
    )
