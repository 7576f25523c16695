-- What an operation that may begin finds. Assumes nothing.
use Rattle.std.specs.Prelude.{◌-◌, ◌<◌, ◌≤◌}
use Rattle.protocol.specs.declared.client.Client.{Client}
use Rattle.cluster.specs.declared.front_list.FrontList.{FrontList}

-- a number for the operation, a place for its message, and two lines
pub record Room (x : Client) (messages lines : FrontList) : Type 0 where
  pub number_left : x.op < 65535
  pub place_left : messages.used < messages.places
  pub lines_left : 2 ≤ lines.places - lines.used
