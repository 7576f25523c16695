use Rattle.std.proofs.Common.{rules, tests, ◌≡◌, not, ◌∙◌, ap, refl, ◌==◌, length, nat_lt, Some, None, arith, ltb-false}
use Rattle.std.specs.Prelude.{position}
use Rattle.std.specs.Option.{unwrap_or}
use Rattle.std.proofs.lemmas.Bool.{cond_both}
use Rattle.std.proofs.lemmas.Iterator.{YieldsList-from_slice}
use Rattle.std.proofs.lemmas.Iterator.Search.{position_from_yields_List}
use Rattle.std.proofs.lemmas.List.Sums.{prefix_len-le-length}
use Rattle.settings.specs.Marks.{text_length}
use Rattle.settings.proofs.shelf_mark.text.text_length.Goals as goal

pub returns-clause-value : goal.returns-clause-value
returns-clause-value c =
    let bs = c.args.bytes.now in
    let n = text_length bs in
    let found : c.position.result ≡ position (λ b. b == 0) bs
    = position_from_yields_List (λ b. b == 0) _ _ c.position.result c.position.ensures.ran (YieldsList-from_slice bs (cc)) (λ x b q k. search (rules, tests)) in
    let few = prefix_len-le-length (λ b. not (b == 0)) bs in
    c.unwrap_or.ensures ∙ ap (λ o. unwrap_or o (length bs)) found
    ∙ cond_both (nat_lt n (length bs)) (Some n) None (λ o. unwrap_or o (length bs) ≡ n) (λ e. refl) (λ e. omega (arith, ltb-false n (length bs) e))
