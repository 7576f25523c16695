-- A threshold system is the system by weight in which each replica weighs 1. Assumes nothing.
use Rattle.std.specs.Prelude.{◌≡◌, ℕ, zero, suc, ◌+◌, ◌*◌, ◌^◌, ◌<◌, ◌≤◌, Bool, true, false, cond, ◌&&◌, ◌||◌, ltb, leb, Some, None, nat_le, nat_lt, refl}
use Rattle.std.proofs.Common.{sym, ap, ap₂, subst, arith, pow_mono}
use Rattle.std.proofs.Math.Path.{fun_ext}
use Rattle.std.proofs.lemmas.Bool.{ltb-true, ltb-false, leb-false, or_parts, false≢true}
use Rattle.replica_sets.specs.Sets.{below, weigh, size_of}
use Rattle.replica_sets.proofs.Members.{count_all}
use Rattle.quorums.specs.Systems.{Quorums, QuorumLaws}
use Rattle.quorums.specs.Refusals.{accepts}
use Rattle.quorums.specs.Thresholds.{threshold, threshold_check}
use Rattle.quorums.specs.Weights.{total, heavy, heavy_lawful}

-- each replica weighs 1
abbrev one : ℕ → ℕ
one i = 1

total_one : (n : ℕ) → total one n ≡ n
unfolding total
total_one zero = refl
total_one (suc n) = omega (arith, total_one n)

under : (b x y : Bool) → (b ≡ true → x ≡ y) → (b && x) ≡ (b && y)
under b x y h = grind arith

module _ (n f : ℕ) (most : n ≤ 32) where
  size_below : (a : ℕ) → below n a ≡ true → weigh one n a ≡ size_of a
  size_below a e =
      let h : a < 2 ^ n = ltb-true a (2 ^ n) e in
      let m : 2 ^ n ≤ 2 ^ 32 = pow_mono most in
      sym (count_all n a h (omega arith))

  as_weights : heavy one n f ≡ threshold n f
  as_weights =
      ap₂ {A = ℕ → Bool} {B = ℕ → Bool} {C = Quorums} (λ x y. record { size = n; quorum = x; fault = y })
      (fun_ext (λ a. under (below n a) (nat_lt (total one n + f) (2 * weigh one n a)) (nat_lt (n + f) (2 * size_of a)) (λ e. ap₂ (λ x y. ltb (x + f) (2 * y)) (total_one n) (size_below a e))))
      (fun_ext (λ a. under (below n a) (nat_le (weigh one n a) f) (nat_le (size_of a) f) (λ e. ap (λ x. leb x f) (size_below a e))))

-- no refusal where each test fails
accepted : (a b : Bool) (x y : ℕ) → accepts (cond a (Some x) (cond b (Some y) None)) ≡ true → (a ≡ false) × (b ≡ false)
accepted true b x y e = absurd (false≢true e)
accepted false true x y e = absurd (false≢true e)
accepted false false x y e = (refl, refl)

module _ (n f : ℕ) (ok : accepts (threshold_check n f) ≡ true) where
  pub accepted_count : (1 ≤ n) × (n ≤ 32)
  accepted_count =
      let p = or_parts (nat_lt n 1) (nat_lt 32 n) (accepted (nat_lt n 1 || nat_lt 32 n) (nat_le n (3 * f)) 1 3 ok).0 in
      (ltb-false n 1 p.0, ltb-false 32 n p.1)

  pub accepted_bound : 3 * f < n
  accepted_bound = leb-false n (3 * f) (accepted (nat_lt n 1 || nat_lt 32 n) (nat_le n (3 * f)) 1 3 ok).1

  pub threshold_lawful : QuorumLaws (threshold n f)
  threshold_lawful =
      subst QuorumLaws (as_weights n f accepted_count.1) (heavy_lawful one n f accepted_count.0 accepted_count.1 (omega (arith, accepted_bound, total_one n)))
