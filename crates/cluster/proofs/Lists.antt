-- Lists that stand at the front of a table. Assumes nothing.
use Rattle.std.proofs.Common.{◌≡◌, ℕ, zero, suc, ◌+◌, ◌-◌, ◌<◌, ◌≤◌, List, [], ◌∷◌, ◌++◌, length, take, drop, ap, ◌∙◌, append_assoc, arith, take-take}
use lib.Seq.{take-append-le}
use Rattle.std.specs.List.{remove}
use Rattle.std.proofs.lemmas.List.{length-take-le}

-- the d rows after the first p turned by one, seen from the front
cut : {X : Type 0} (xs : List X) (n p d : ℕ) (more : List X) → p + d ≡ n → suc n ≤ length xs →
    take n (take p xs ++ ((drop 1 (take (suc d) (drop p xs)) ++ take 1 (take (suc d) (drop p xs))) ++ more)) ≡ take p (take (suc n) xs) ++ drop (suc p) (take (suc n) xs)
cut [] n p d more e l = absurd (omega arith)
cut (x ∷ xs) n zero d more e l =
    let same : d ≡ n = omega arith in
    let short : n ≤ length (take n xs) = rw (length-take-le n xs (omega arith)) (omega arith) in
    ap (λ m. take n ((take m xs ++ (x ∷ [])) ++ more)) same
    ∙ ap (take n) (append_assoc (take n xs) (x ∷ []) more)
    ∙ take-append-le n (take n xs) (x ∷ more) short
    ∙ take-take n n xs (omega arith)
cut (x ∷ xs) zero (suc p) d more e l = absurd (omega arith)
cut (x ∷ xs) (suc n) (suc p) d more e l = ap (λ ys. x ∷ ys) (cut xs n p d more (omega arith) (omega arith))

-- where the rows from p to c are turned by one, the row p is out of the list
pub removed_by : {X : Type 0} (xs turned more : List X) (c p : ℕ) → p < c → c ≤ length xs →
    turned ≡ (drop 1 (take (c - p) (drop p xs)) ++ take 1 (take (c - p) (drop p xs))) → take (c - 1) (take p xs ++ (turned ++ more)) ≡ remove (take c xs) p
removed_by xs turned more zero p h l e = absurd (omega arith)
removed_by xs turned more (suc n) p h l e =
    let less : suc n - 1 ≡ n = omega arith in
    let rest : suc n - p ≡ suc (n - p) = omega arith in
    ap (λ m. take m (take p xs ++ (turned ++ more))) less
    ∙ ap (λ ys. take n (take p xs ++ (ys ++ more))) (e ∙ ap (λ m. drop 1 (take m (drop p xs)) ++ take 1 (take m (drop p xs))) rest)
    ∙ cut xs n p (n - p) more (omega arith) l
