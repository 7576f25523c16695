-- The numbers of the refusals, and what a check tells. Assumes nothing.
use Rattle.std.specs.Prelude.{ℕ, Bool, true, false, Some, None, Option, Result, Ok, Err, List, codes}
use Rattle.quorums.specs.declared.refusal.Refusal.{Refusal}
use Rattle.quorums.specs.declared.refusal.Refusal.TheVariants.{ReplicaCount, ListedSets, FaultBound}

-- the number of a refusal
abbrev pub code_of : Refusal → ℕ
code_of ReplicaCount = 1
code_of ListedSets = 2
code_of FaultBound = 3

-- the number of what a check tells: none where it accepts
abbrev pub told : Result (Unit {0}) Refusal → Option ℕ
told (Ok _) = None
told (Err refusal) = Some (code_of refusal)

-- whether what a check tells is no refusal
abbrev pub accepts : Option ℕ → Bool
accepts None = true
accepts (Some code) = false

-- what a refusal says
abbrev pub refusal_words : Refusal → List ℕ
refusal_words ReplicaCount = codes "the number of replicas is not from 1 to 32"
refusal_words ListedSets = codes "there are too many listed sets, or one has a replica that there is not"
refusal_words FaultBound = codes "too many replicas may be faulty together"
