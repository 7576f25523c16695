use Rattle.std.proofs.Common.{ℕ, ◌-◌, ◌<◌, ◌≤◌, length, get_or}
use Rattle.signatures.specs.Orders.{no_entry}
use Rattle.signatures.proofs.book.place_of.Given as goal

abbrev pub invariant-loop-low : goal.invariant-loop-low
invariant-loop-low l = (l.high ≤ length l.book)
    × (l.low ≤ l.high)
    × ((k : ℕ) → k < l.low → (get_or l.book k no_entry).timestamp < l.timestamp)
    × ((k : ℕ) → l.high ≤ k → k < length l.book → l.timestamp ≤ (get_or l.book k no_entry).timestamp)

abbrev pub decreases-loop-low : goal.decreases-loop-low
decreases-loop-low l = l.high - l.low
