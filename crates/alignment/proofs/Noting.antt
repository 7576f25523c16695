-- No band past the last, and one more band, by members and by count. Assumes nothing.
use Rattle.std.proofs.Common.{◌≡◌, ℕ, zero, suc, ◌+◌, ◌/◌, ◌^◌, ◌<◌, ◌≤◌, true, false, ◌||◌, eqb, sym, ap, ◌∙◌, ap₂, ⊎_elim, arith, pow_mono}
use Rattle.std.proofs.Math.Nat.{div-eq_of_lt}
use mathlib.Core.Bool.{or-false}
use lib.Bits.{bit_or}
use Rattle.std.proofs.lemmas.Bool.{eq-eqb, ne_eqb, cases_lt}
use Rattle.replica_sets.specs.Sets.{has, weigh}
use Rattle.replica_sets.proofs.Members.{has_or, has_one, weigh_same}

-- past the last band
pub past_last : (a b : ℕ) → a < 2 ^ 64 → 64 ≤ b → 0 ≡ a / 2 ^ b
past_last a b h l = let m : 2 ^ 64 ≤ 2 ^ b = pow_mono l in let k : a < 2 ^ b = omega arith in sym (div-eq_of_lt k)

-- the members of a set with one more
pub one_more : (a b k : ℕ) → b ≡ bit_or a (2 ^ k) → (i : ℕ) → has b i ≡ (has a i || eqb i k)
one_more a b k e i = ap (λ x. has x i) e ∙ has_or a (2 ^ k) i ∙ ap (λ p. has a i || p) (has_one k i)

-- a set with one more member has one more
pub one_counted : (n a b k : ℕ) → ((i : ℕ) → has b i ≡ (has a i || eqb i k)) → has a k ≡ false → k < n → weigh (λ _. 1) n b ≡ weigh (λ _. 1) n a + 1
unfolding weigh
one_counted zero a b k each free h = absurd (omega arith)
one_counted (suc n) a b k each free h =
    ⊎_elim (λ (l : k < n).
    let below : weigh (λ _. 1) n b ≡ weigh (λ _. 1) n a + 1 = one_counted n a b k each free l in
    let same : has b n ≡ has a n = each n ∙ ap (λ p. has a n || p) (ne_eqb n k (λ z. omega arith)) ∙ or-false (has a n) in
    simp same (omega arith))
    (λ (l : n ≤ k).
    let e : k ≡ n = omega arith in
    let below : weigh (λ _. 1) n b ≡ weigh (λ _. 1) n a =
    weigh_same (λ _. 1) n b a (λ i l. each i ∙ ap (λ p. has a i || p) (ne_eqb i k (λ z. omega arith)) ∙ or-false (has a i)) in
    let new : has b n ≡ true = each n ∙ ap₂ (λ p q. p || q) (ap (has a) (sym e) ∙ free) (eq-eqb n k (sym e)) in
    let old : has a n ≡ false = ap (has a) (sym e) ∙ free in
    simp (new, old) (omega arith))
    (cases_lt k n)
