use Rattle.std.proofs.Common.{rules, ◌≡◌, ◌∙◌, [], length, arith}
use Rattle.settings.specs.WordLaws.{flattened}
use Rattle.settings.proofs.lens_correction.words.bytes_of.Goals as goal

pub returns : goal.returns
returns c =
    let full : length c.args.words ≡ 8 = search rules in
    c.copy_from_slice.ensures.after ∙ c.as_flattened.ensures.value
    ∙ flattened c.args.words c.map.result (omega (arith, c.map.ensures.items.long)) (λ i h. let (p, q, k) = c.map.ensures.items.at i 0 [] (omega arith) in search rules)
