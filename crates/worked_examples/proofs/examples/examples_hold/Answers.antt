use Rattle.worked_examples.proofs.examples.examples_hold.Goals as goal
use Rattle.worked_examples.proofs.Computed.{shown}

pub returns : goal.returns
returns c = shown
