use Rattle.std.proofs.Common.{◌∙◌, ap}
use Rattle.settings.specs.Marks.{text_of, is_mark}
use Rattle.settings.specs.MarkLaws.{text_pad, pad_mark}
use Rattle.settings.proofs.shelf_mark.codec.mark_with.Goals as goal

pub invariant_of-result : goal.invariant_of-result
invariant_of-result c = record { marked = ap is_mark c.padded-bytes.ensures ∙ pad_mark c.args.text.now c.requires }

pub returns : goal.returns
returns c = ap text_of c.padded-bytes.ensures ∙ text_pad c.args.text.now c.requires
