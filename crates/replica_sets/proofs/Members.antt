-- Membership of what `&`, `|`, `!` and the shifts give, and how many members a set has. Assumes nothing.
use Rattle.std.proofs.Common.{◌≡◌, ℕ, zero, suc, ◌+◌, ◌-◌, ◌*◌, ◌/◌, ◌%◌, ◌^◌, ◌<◌, ◌≤◌, min, Bool, true, false, cond, not, ◌&&◌, ◌||◌, eqb, ltb, Decides, ◌↔◌, sym, refl, ap, ◌∙◌, ap₂, ⊎_elim, mod-lt, mod-eq_of_lt, add_comm, pow-suc, arith, lit<, one-add, pow_pos, pow_mono, shr-shr, shr_lt}
use Rattle.std.proofs.Math.Nat.{div-eq_of_lt, div-lt_iff_lt-mul}
use lib.Bits.{bit_and, bit_or, or_shifted, or_comm}
use lib.Count.{ones, ones_in, ones_cat}
use lib.Pow.{split}
use mir.Syntax.{w32}
use Rattle.std.specs.Int.{bit_at}
use Rattle.std.proofs.lemmas.Nat.Bits.{bit_at_and, bit_at_or, bit_at_not, bit_at_ones, bit_at_ones_above, bit_at_above, bit_at_cat_low, bit_at-pow_same, bit_at-pow_other, bit_at-lt, same_from_bits}
use Rattle.std.proofs.lemmas.Bool.{eqb-true, eq-eqb, lt-ltb, le-ltb, ltb-true, cond_both, cases_lt, cases_eq, cases_Bool, both_ways, and_parts, and_from, not-true, not_from_false}
use Rattle.std.proofs.lemmas.Bool.Decides.{nat_tests}
use Rattle.replica_sets.specs.Sets.{those, within, all, has, Within, Below, below, common, outside, weigh, size_of}

-- ---- members, by the bits of a number

pub has_and : (a b i : ℕ) → has (bit_and a b) i ≡ (has a i && has b i)
unfolding has
has_and a b i = grind (arith, nat_tests, bit_at_and a b i, bit_at-lt a i, bit_at-lt b i)

pub has_or : (a b i : ℕ) → has (bit_or a b) i ≡ (has a i || has b i)
unfolding has
has_or a b i = grind (arith, nat_tests, bit_at_or a b i, bit_at-lt a i, bit_at-lt b i)

pub has_past : (k a i : ℕ) → a < 2 ^ k → k ≤ i → has a i ≡ false
unfolding has
has_past k a i h l = ap (λ n. eqb n 1) (bit_at_above a k i h l)

pub has_none : (i : ℕ) → has 0 i ≡ false
has_none i = has_past 0 0 i (lit< tt) (omega arith)

pub has_all : (k i : ℕ) → has (2 ^ k - 1) i ≡ ltb i k
unfolding has
has_all k i = ⊎_elim (λ (l : i < k). grind (arith, nat_tests, bit_at_ones k i l)) (λ (l : k ≤ i). grind (arith, nat_tests, bit_at_ones_above k i l)) (cases_lt i k)

pub has_one : (k i : ℕ) → has (2 ^ k) i ≡ eqb i k
unfolding has
has_one k i =
    ⊎_elim (λ (q : i ≡ k). ap (λ j. eqb (bit_at (2 ^ k) j) 1) q ∙ ap (λ n. eqb n 1) (bit_at-pow_same k) ∙ sym (eq-eqb i k q))
    (λ (q : i ≡ k → ⊥). grind (arith, nat_tests, bit_at-pow_other k i q))
    (cases_eq i k)

has_not : (b i : ℕ) → b < 2 ^ 32 → i < 32 → has (4294967295 - b) i ≡ not (has b i)
unfolding has
has_not b i h l = grind (arith, nat_tests, bit_at_not w32 b i h l, bit_at-lt b i)

pub less : (a b i : ℕ) → a < 2 ^ 32 → b < 2 ^ 32 → has (bit_and a (4294967295 - b)) i ≡ (has a i && not (has b i))
less a b i h l =
    ⊎_elim (λ (m : i < 32). has_and a (4294967295 - b) i ∙ ap (λ x. has a i && x) (has_not b i l m))
    (λ (m : 32 ≤ i). grind (arith, nat_tests, has_and a (4294967295 - b) i, has_past 32 a i h m))
    (cases_lt i 32)

has_shift : (a k i : ℕ) → has (a / 2 ^ k) i ≡ has a (k + i)
unfolding has
has_shift a k i = ap (λ n. eqb (n % 2) 1) (shr-shr a k i)

has_mod : (a k i : ℕ) → i < k → has (a % 2 ^ k) i ≡ has a i
unfolding has
has_mod a k i h = ap (λ n. eqb n 1) (sym (bit_at_cat_low (a / 2 ^ k) k (a % 2 ^ k) i h) ∙ ap (λ n. bit_at n i) (split a k))

pub has_part : (a k m i : ℕ) → has (a / 2 ^ k % 2 ^ m) i ≡ (ltb i m && has a (k + i))
has_part a k m i =
    ⊎_elim (λ (h : i < m). grind (arith, nat_tests, has_mod (a / 2 ^ k) m i h, has_shift a k i))
    (λ (h : m ≤ i). grind (arith, nat_tests, has_past m (a / 2 ^ k % 2 ^ m) i (mod-lt (a / 2 ^ k) (pow_pos m)) h))
    (cases_lt i m)

-- numbers with the same members are equal
bit_eq : (x y : ℕ) → x < 2 → y < 2 → eqb x 1 ≡ eqb y 1 → x ≡ y
bit_eq x y h k e = grind (arith, nat_tests)

has_ext : (a b : ℕ) → ((i : ℕ) → has a i ≡ has b i) → a ≡ b
unfolding has
has_ext a b e = same_from_bits a b (λ i. bit_eq (bit_at a i) (bit_at b i) (bit_at-lt a i) (bit_at-lt b i) (e i))

-- ---- a set is below n where its number is below 2 ^ n

pub below_has : (n a : ℕ) → a < 2 ^ n → Below n a
below_has n a h i e = ⊎_elim (λ (l : i < n). l) (λ (l : n ≤ i). absurd (both_ways (has a i) (has_past n a i h l) e)) (cases_lt i n)

low_has : (n a i : ℕ) → Below n a → has (a % 2 ^ n) i ≡ has a i
low_has n a i b =
    ⊎_elim (has_mod a n i)
    (λ (l : n ≤ i). has_past n (a % 2 ^ n) i (mod-lt a (pow_pos n)) l ∙ sym (elim (has a i) as (λ v. (v ≡ true → i < n) → v ≡ false) [ true ↦ λ w. absurd (let h : i < n = w refl in omega arith) | false ↦ λ w. refl ] (b i)))
    (cases_lt i n)

pub below_is : (n a : ℕ) → Below n a → ltb a (2 ^ n) ≡ true
below_is n a b =
    let m : a % 2 ^ n < 2 ^ n = mod-lt a (pow_pos n) in
    let e : a % 2 ^ n ≡ a = has_ext (a % 2 ^ n) a (λ i. low_has n a i b) in
    lt-ltb a (2 ^ n) (omega arith)

pub is_below : (n a : ℕ) → ltb a (2 ^ n) ≡ true → Below n a
is_below n a e = below_has n a (ltb-true a (2 ^ n) e)

pub within_below : (n a b : ℕ) → Within a b → Below n b → Below n a
within_below n a b w h i e = h i (w i e)

and_within : (x y : Bool) → (x ≡ true → y ≡ true) → (x && y) ≡ x
and_within true y h = h refl
and_within false y h = refl

pub subset : (a b : ℕ) → Decides (within a b) (Within a b)
subset a b = (
  λ e i q. (and_parts (has a i) (has b i) (sym (has_and a b i) ∙ ap (λ x. has x i) (eqb-true (bit_and a b) a e) ∙ q)).1,
  λ w. eq-eqb (bit_and a b) a (has_ext (bit_and a b) a (λ i. has_and a b i ∙ and_within (has a i) (has b i) (w i))),
)

-- ---- the set of those that pass a test

those_lt : (n : ℕ) (p : ℕ → Bool) → those n p < 2 ^ n
unfolding those
those_lt zero p = lit< tt
those_lt (suc k) p = cond_both (p k) (2 ^ k) 0 (λ x. those k p + x < 2 ^ suc k) (λ e. omega (arith, pow-suc 2 k, those_lt k p)) (λ e. omega (arith, pow-suc 2 k, those_lt k p))

-- one more
pub those_push : (k : ℕ) (p : ℕ → Bool) → p k ≡ true → bit_or (those k p) (2 ^ k) ≡ those (suc k) p
unfolding those
those_push k p e =
    or_comm (those k p) (2 ^ k) ∙ ap (λ x. bit_or x (those k p)) (omega arith) ∙ or_shifted 1 k (those k p) (those_lt k p)
    ∙ omega arith ∙ ap (λ b. those k p + cond b (2 ^ k) 0) (sym e)

pub those_skip : (k : ℕ) (p : ℕ → Bool) → p k ≡ false → those k p ≡ those (suc k) p
unfolding those
those_skip k p e = omega arith ∙ ap (λ b. those k p + cond b (2 ^ k) 0) (sym e)

those_more : (p : ℕ → Bool) (k i : ℕ) → p k ≡ true → has (those k p) i ≡ (ltb i k && p i) → has (those (suc k) p) i ≡ (ltb i (suc k) && p i)
those_more p k i e h = ap (λ n. has n i) (sym (those_push k p e)) ∙ grind (arith, nat_tests, has_or (those k p) (2 ^ k) i, has_one k i)

those_less : (p : ℕ → Bool) (k i : ℕ) → p k ≡ false → has (those k p) i ≡ (ltb i k && p i) → has (those (suc k) p) i ≡ (ltb i (suc k) && p i)
those_less p k i e h = ap (λ n. has n i) (sym (those_skip k p e)) ∙ grind (arith, nat_tests)

has_those : (n : ℕ) (p : ℕ → Bool) (i : ℕ) → has (those n p) i ≡ (ltb i n && p i)
unfolding those
has_those zero p i = has_none i ∙ ap (λ q. q && p i) (sym (le-ltb i 0 (omega arith)))
has_those (suc k) p i =
    ⊎_elim (λ (e : p k ≡ true). those_more p k i e (has_those k p i)) (λ (e : p k ≡ false). those_less p k i e (has_those k p i)) (cases_Bool (p k))

module _ (n : ℕ) (p : ℕ → Bool) where
  pub those_below : Below n (those n p)
  those_below = below_has n (those n p) (those_lt n p)

  pub those_put : (i : ℕ) → i < n → p i ≡ true → has (those n p) i ≡ true
  those_put i h e = has_those n p i ∙ and_from (ltb i n) (p i) (lt-ltb i n h) e

  pub those_out : (i : ℕ) → has (those n p) i ≡ true → (i < n) × (p i ≡ true)
  those_out i e = let q = and_parts (ltb i n) (p i) (sym (has_those n p i) ∙ e) in (ltb-true i n q.0, q.1)

-- ---- how much sets weigh

pub weigh_same : (w : ℕ → ℕ) (n a b : ℕ) → ((i : ℕ) → i < n → has a i ≡ has b i) → weigh w n a ≡ weigh w n b
unfolding weigh
weigh_same w zero a b e = refl
weigh_same w (suc k) a b e =
    ap₂ (λ x p. x + cond p (w k) 0) (weigh_same w k a b (λ i h. e i (omega arith))) (e k (omega arith))

ones_bit : (q : ℕ) → q < 2 → ones q ≡ cond (eqb q 1) 1 0
unfolding ones ones_in
ones_bit zero h = refl
ones_bit (suc zero) h = refl
ones_bit (suc (suc q)) h = absurd (omega arith)

pub ones_count : (n a : ℕ) → a < 2 ^ n → ones a ≡ weigh (λ _. 1) n a
unfolding weigh has
ones_count zero a h = let z : a ≡ 0 = omega arith in ap ones z ∙ ones_bit 0 (lit< tt)
ones_count (suc k) a h =
    let q : a / 2 ^ k < 2 = shr_lt 1 k (rw one-add h) in
    let r : a % 2 ^ k < 2 ^ k = mod-lt a (pow_pos k) in
    let s : a / 2 ^ k % 2 ≡ a / 2 ^ k = mod-eq_of_lt q in
    ap ones (sym (split a k)) ∙ ones_cat k (a / 2 ^ k) (a % 2 ^ k) r
    ∙ ap₂ (λ x y. x + y) (ones_bit (a / 2 ^ k) q ∙ ap (λ n. cond (eqb n 1) 1 0) (sym s)) (ones_count k (a % 2 ^ k) r ∙ weigh_same (λ _. 1) k (a % 2 ^ k) a (λ i h. has_mod a k i h))
    ∙ add_comm _ _

-- the members of a set below n, counted up to 32
pub count_all : (n a : ℕ) → a < 2 ^ n → a < 2 ^ 32 → size_of a ≡ weigh (λ _. 1) n a
count_all n a h l = sym (ones_count 32 a l) ∙ ones_count n a h

-- ---- what the methods of `ReplicaSet` give

-- the replicas below n, as `first` makes them
pub first_each : (n x i : ℕ) → x ≡ all (min n 32) → has x i ≡ (ltb i n && ltb i 32)
first_each n x i e = grind (arith, nat_tests, e, has_all (min n 32) i)

-- one more replica
pub with_one : (a k b i : ℕ) → b ≡ 2 ^ k → k < 32 → has (bit_or a b) i ≡ (has a i || (eqb i k && ltb i 32))
with_one a k b i e h = ap (λ x. has (bit_or a x) i) e ∙ grind (arith, nat_tests, has_or a (2 ^ k) i, has_one k i)

-- past the end of the set
pub past_last : (a s : ℕ) → a < 2 ^ 32 → 32 ≤ s → 0 ≡ a / 2 ^ s
past_last a s h l = let m : 2 ^ 32 ≤ 2 ^ s = pow_mono l in let k : a < 2 ^ s = omega arith in sym (div-eq_of_lt k)

-- a part of a set
pub part_is : (a s n x : ℕ) → a < 2 ^ 32 → ((i : ℕ) → has x i ≡ (has (a / 2 ^ s) i && (ltb i n && ltb i 32))) → x ≡ a / 2 ^ s % 2 ^ n
part_is a s n x h e = has_ext x (a / 2 ^ s % 2 ^ n) (λ i. grind (arith, nat_tests, e i, has_part a s n i, has_shift a s i, has_past 32 a (s + i) h))

-- the replicas outside a set
pub outside_is : (n a x : ℕ) → n ≤ 32 → ((i : ℕ) → has x i ≡ ((ltb i n && ltb i 32) && not (has a i))) → x ≡ outside n a
outside_is n a x h each = has_ext x (outside n a) (λ i. grind (arith, nat_tests, each i, has_those n (λ j. not (has a j)) i))

-- nothing is left from n on where the set is below n
pub shift_zero : (a n : ℕ) → eqb (a / 2 ^ n) 0 ≡ ltb a (2 ^ n)
shift_zero a n = let d : (a / 2 ^ n < 1) ↔ (a < 1 * 2 ^ n) = div-lt_iff_lt-mul (pow_pos n) in grind (arith, nat_tests)

-- tests that decide
pub decides_below : (r : Bool) (n a : ℕ) → r ≡ below n a → Decides r (Below n a)
decides_below r n a e = (λ t. is_below n a (sym e ∙ t), λ b. e ∙ below_is n a b)

pub decides_within : (r : Bool) (a b : ℕ) → r ≡ within a b → Decides r (Within a b)
decides_within r a b e = (λ t. (subset a b).0 (sym e ∙ t), λ w. e ∙ (subset a b).1 w)

pub decides_none : (r : Bool) (a : ℕ) → r ≡ eqb a 0 → Decides r ((i : ℕ) → has a i ≡ false)
decides_none r a q = (
  λ e i. ap (λ x. has x i) (eqb-true a 0 (sym q ∙ e)) ∙ has_none i,
  λ h. q ∙ eq-eqb a 0 (has_ext a 0 (λ i. h i ∙ sym (has_none i))),
)

-- ---- the replicas outside a set, and what two sets have in common

module _ (n a i : ℕ) where
  pub outside_in : i < n → has a i ≡ false → has (outside n a) i ≡ true
  outside_in h e = those_put n (λ j. not (has a j)) i h (not_from_false (has a i) e)

  pub in_outside : has (outside n a) i ≡ true → (i < n) × (has a i ≡ false)
  in_outside e = let p = those_out n (λ j. not (has a j)) i e in (p.0, not-true (has a i) p.1)

pub outside_below : (n a : ℕ) → Below n (outside n a)
outside_below n a = those_below n (λ i. not (has a i))

module _ (a b i : ℕ) where
  pub common_in : has a i ≡ true → has b i ≡ true → has (common a b) i ≡ true
  common_in p q = has_and a b i ∙ and_from (has a i) (has b i) p q

  pub in_common : has (common a b) i ≡ true → (has a i ≡ true) × (has b i ≡ true)
  in_common e = and_parts (has a i) (has b i) (sym (has_and a b i) ∙ e)
