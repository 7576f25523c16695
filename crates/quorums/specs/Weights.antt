-- A system by weight keeps the laws where all replicas weigh more than three times what may be faulty. Assumes nothing.
use Rattle.std.specs.Prelude.{◌≡◌, ℕ, zero, suc, ◌+◌, ◌*◌, ◌^◌, ◌<◌, ◌≤◌, Bool, true, false, cond, ◌&&◌, nat_le, nat_lt}
use Rattle.std.proofs.Math.Path.{refl}
use native.Mathlib.Omega.{arith}
use Rattle.std.proofs.Common.{pow_pos}
use Rattle.std.proofs.lemmas.Bool.{lt-ltb, le-leb, lt-leb, leb-true, ltb-true, and_parts, and_from, and_right}
use Rattle.std.proofs.lemmas.Bool.Decides.{nat_tests}
use Rattle.replica_sets.specs.Sets.{has, Within, Below, below, common, outside, weigh}
use Rattle.replica_sets.proofs.Members.{below_is, is_below, within_below, has_none, common_in, outside_in, outside_below}
use Rattle.quorums.specs.Systems.{Quorums, QuorumLaws}

-- what all n replicas weigh, where replica i weighs w i
unfoldable pub total : (ℕ → ℕ) → ℕ → ℕ
total w zero = 0
total w (suc k) = total w k + w k

-- a quorum weighs more than half of the total and f, a fault set at most f
abbrev pub heavy : (ℕ → ℕ) → ℕ → ℕ → Quorums
heavy w n f = record { size = n; quorum = λ a. below n a && nat_lt (total w n + f) (2 * weigh w n a); fault = λ a. below n a && nat_le (weigh w n a) f }

module _ (w : ℕ → ℕ) where
  step_le : (k : ℕ) (p q : Bool) → (p ≡ true → q ≡ true) → cond p (w k) 0 ≤ cond q (w k) 0
  step_le k p q h = grind (arith, nat_tests)

  weigh_le : (n a b : ℕ) → Within a b → weigh w n a ≤ weigh w n b
  unfolding weigh
  weigh_le zero a b h = omega arith
  weigh_le (suc k) a b h = omega (arith, weigh_le k a b h, step_le k (has a k) (has b k) (h k))

  weigh_none : (n : ℕ) → weigh w n 0 ≡ 0
  unfolding weigh
  weigh_none zero = refl
  weigh_none (suc k) = rw (has_none k) (omega (arith, weigh_none k))

  -- what two sets have in common weighs at least what they weigh past the total
  step_meet : (k : ℕ) (p q r : Bool) → (p ≡ true → q ≡ true → r ≡ true) → cond p (w k) 0 + cond q (w k) 0 ≤ w k + cond r (w k) 0
  step_meet k p q r h = grind (arith, nat_tests)

  weigh_meet : (n a b : ℕ) → weigh w n a + weigh w n b ≤ total w n + weigh w n (common a b)
  unfolding weigh total
  weigh_meet zero a b = omega arith
  weigh_meet (suc k) a b = omega (arith, weigh_meet k a b, step_meet k (has a k) (has b k) (has (common a b) k) (common_in a b k))

  -- a set and one that has all the others weigh at least the total
  step_rest : (k : ℕ) (p q : Bool) → (p ≡ false → q ≡ true) → w k ≤ cond p (w k) 0 + cond q (w k) 0
  step_rest k p q h = grind (arith, nat_tests)

  weigh_rest : (n a b : ℕ) → ((i : ℕ) → i < n → has a i ≡ false → has b i ≡ true) → total w n ≤ weigh w n a + weigh w n b
  unfolding weigh total
  weigh_rest zero a b h = omega arith
  weigh_rest (suc k) a b h = omega (arith, weigh_rest k a b (λ i l. h i (omega arith)), step_rest k (has a k) (has b k) (h k (omega arith)))

  -- the two tests, taken apart and made
  module _ (n f a : ℕ) where
    quorum_parts : (heavy w n f).quorum a ≡ true → Below n a × (total w n + f < 2 * weigh w n a)
    quorum_parts e =
        let p = and_parts (below n a) (nat_lt (total w n + f) (2 * weigh w n a)) e in
        (is_below n a p.0, ltb-true (total w n + f) (2 * weigh w n a) p.1)

    fault_parts : (heavy w n f).fault a ≡ true → Below n a × (weigh w n a ≤ f)
    fault_parts e =
        let p = and_parts (below n a) (nat_le (weigh w n a) f) e in
        (is_below n a p.0, leb-true (weigh w n a) f p.1)

    quorum_from : Below n a → total w n + f < 2 * weigh w n a → (heavy w n f).quorum a ≡ true
    quorum_from h l = and_from (below n a) (nat_lt (total w n + f) (2 * weigh w n a)) (below_is n a h) (lt-ltb (total w n + f) (2 * weigh w n a) l)

    fault_from : Below n a → weigh w n a ≤ f → (heavy w n f).fault a ≡ true
    fault_from h l = and_from (below n a) (nat_le (weigh w n a) f) (below_is n a h) (le-leb (weigh w n a) f l)

  pub heavy_lawful : (n f : ℕ) → 1 ≤ n → n ≤ 32 → 3 * f < total w n → QuorumLaws (heavy w n f)
  heavy_lawful n f least most over = record {
    at_least_one = least;
    at_most_32 = most;
    quorum_below = λ a x. (quorum_parts n f a x).0;
    fault_below = λ a x. (fault_parts n f a x).0;
    quorum_upward = λ a b x h l. quorum_from n f b l (omega (arith, weigh_le n a b h, (quorum_parts n f a x).1));
    fault_downward = λ a b x h. fault_from n f a (within_below n a b h (fault_parts n f b x).0) (omega (arith, weigh_le n a b h, (fault_parts n f b x).1));
    none_faulty = fault_from n f 0 (is_below n 0 (lt-ltb 0 (2 ^ n) (pow_pos n))) (omega (arith, weigh_none n));
    meet = λ a b x y.
        and_right (below n (common a b)) (nat_le (weigh w n (common a b)) f)
        (lt-leb (weigh w n (common a b)) f (omega (arith, weigh_meet n a b, (quorum_parts n f a x).1, (quorum_parts n f b y).1)));
    rest = λ a x. quorum_from n f (outside n a) (outside_below n a) (omega (arith, weigh_rest n a (outside n a) (outside_in n a), (fault_parts n f a x).1));
  }
