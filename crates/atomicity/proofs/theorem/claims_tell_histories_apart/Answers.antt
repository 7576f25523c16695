use Rattle.atomicity.proofs.theorem.claims_tell_histories_apart.Goals as goal
use Rattle.atomicity.proofs.Histories.{telling}

pub returns : goal.returns
returns c = telling
