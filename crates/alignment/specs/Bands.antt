-- The bands of a run as a number: band b is noted where the binary digit b is set. Assumes nothing.
use Rattle.std.specs.Prelude.{ℕ, Bool}
use Rattle.replica_sets.specs.Sets.{has, weigh}

-- whether the band b is noted
abbrev pub noted : ℕ → ℕ → Bool
noted bands b = has bands b

-- how many of the bands 0 to 63 are noted
abbrev pub noted_count : ℕ → ℕ
noted_count bands = weigh (λ _. 1) 64 bands
