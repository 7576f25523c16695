use Rattle.std.proofs.Common.{ap, ◌∙◌}
use Rattle.settings.specs.Lens.{in_bounds}
use Rattle.settings.specs.LensLaws.{array_lens}
use Rattle.settings.proofs.lens_correction.codec.is_lens.Goals as goal

pub returns : goal.returns
returns c = array_lens c.args.bytes.now _ c.told-bytes c.fits-bytes (c.fields_fit.ensures ∙ ap in_bounds c.fields_of.ensures)
