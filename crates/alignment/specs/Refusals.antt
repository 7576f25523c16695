-- When a band isn't noted, and the numbers and words of these refusals. Assumes nothing.
use Rattle.std.specs.Prelude.{ℕ, List, [], ◌∷◌, Option, codes, nat_lt}
use Rattle.cluster.specs.Refusals.{first_refusal}
use Rattle.alignment.specs.Bands.{noted}
use Rattle.alignment.specs.declared.alignment_refusal.AlignmentRefusal.{AlignmentRefusal}
use Rattle.alignment.specs.declared.alignment_refusal.AlignmentRefusal.TheVariants.{NoSuchBand, BandTaken}

-- the number of each refusal
abbrev pub alignment_number : AlignmentRefusal → ℕ
alignment_number NoSuchBand = 29
alignment_number BandTaken = 30

-- what a refusal says
abbrev pub alignment_refusal_words : AlignmentRefusal → List ℕ
alignment_refusal_words NoSuchBand = codes "there is no such band"
alignment_refusal_words BandTaken = codes "the band is taken"

-- why a band isn't noted where these are, if it isn't: there is no such band; it is taken
abbrev pub note_refusal : ℕ → ℕ → Option ℕ
note_refusal bands band = first_refusal ((nat_lt 63 band, 29) ∷ (noted bands band, 30) ∷ [])
