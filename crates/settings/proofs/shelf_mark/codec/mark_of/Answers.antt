use Rattle.settings.specs.MarkLaws.{mark_same}
use Rattle.settings.proofs.shelf_mark.codec.mark_of.Goals as goal

pub returns : goal.returns
returns c = mark_same _ _ c.decode_bytes-bytes.ensures
