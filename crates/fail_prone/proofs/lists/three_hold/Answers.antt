use Rattle.std.proofs.Common.{◌≡◌, ℕ, List, refl, ◌∙◌, rules, tests}
use Rattle.std.proofs.lemmas.Iterator.{YieldsList-from_slice}
use Rattle.std.proofs.lemmas.Iterator.Search.{any_from_yields_List}
use lib.Bits.{bit_or}
use Rattle.replica_sets.specs.declared.replica_set.ReplicaSet.{ReplicaSet}
use Rattle.fail_prone.specs.Listed.{some_listed, hold}
use Rattle.fail_prone.proofs.lists.three_hold.Goals as goal

-- the first of three, and the other two
first_chosen : (whole base : ℕ) (xs : List ReplicaSet) → some_listed (λ s. hold 2 whole (bit_or base s) xs) xs ≡ hold 3 whole base xs
unfolding hold
first_chosen whole base xs = refl

pub returns : goal.returns
returns c =
    let whole = c.args.whole.members in
    let base = c.args.base.members in
    let xs = c.args.listed.now in
    any_from_yields_List (λ s. hold 2 whole (bit_or base s.members) xs) _ _ _ c.any.ensures.ran (YieldsList-from_slice xs cc) (λ x b q k. search (rules, tests))
    ∙ first_chosen whole base xs
