use Rattle.std.proofs.Common.{[], ◌∷◌, ◌++◌, replicate, sym, ap, ◌∙◌, arith, take_all}
use Rattle.std.proofs.lemmas.List.{take_more_set, replicate-append-replicate}
use Rattle.cluster.proofs.tables.fill.Goals as goal

pub loop-place-preserved : goal.loop-place-preserved
loop-place-preserved g c = (
  take_more_set c.loop-place.place-items c.loop-place.place-index _ (omega (arith, c.loop-place-test.true, c.loop-place.auto.place-items))
      ∙ ap (λ xs. xs ++ (c.args.row ∷ [])) c.loop-place.invariant.0 ∙ replicate-append-replicate _ 1 _,
  omega (arith, c.loop-place-test.true),
)

pub returns : goal.returns
returns g c =
    sym (take_all c.loop-place.place-index c.loop-place.place-items (omega (arith, c.loop-place-test.false, c.loop-place.auto.place-items))) ∙ c.loop-place.invariant.0
    ∙ ap (λ n. replicate n c.args.row) (omega (arith, c.loop-place-test.false, c.loop-place.invariant.1))
