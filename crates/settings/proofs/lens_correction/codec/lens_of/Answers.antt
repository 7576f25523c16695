use Rattle.std.proofs.Common.{ap, ◌∙◌}
use Rattle.settings.specs.Lens.{in_bounds}
use Rattle.settings.specs.LensKind.{lens_of}
use Rattle.settings.specs.LensLaws.{lens_same}
use Rattle.settings.proofs.lens_correction.codec.lens_of.Goals as goal

pub invariant_of-result : goal.invariant_of-result
invariant_of-result c = record { bounded = ap in_bounds c.decode_fields.ensures ∙ (lens_of c.args.bytes).bounded }

pub returns : goal.returns
returns c = lens_same _ _ c.decode_fields.ensures
