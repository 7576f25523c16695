-- A system of groups keeps the laws where the outer and the inner system do. Assumes nothing.
use Rattle.std.specs.Prelude.{◌≡◌, ℕ, ◌+◌, ◌*◌, ◌/◌, ◌%◌, ◌^◌, ◌<◌, ◌≤◌, Bool, true, false, not, leb, bit_or, nat_le, nat_lt, refl}
use Rattle.std.proofs.Common.{sym, ap, ◌∙◌, mod-lt, arith, add-one, pow_pos}
use Rattle.std.proofs.Math.Logic.{⊎_elim}
use Rattle.std.proofs.Math.Nat.{zero-div, zero-mod, mul_comm}
use Rattle.std.proofs.lemmas.Nat.{mul-add-lt, mul-le}
use Rattle.std.proofs.lemmas.Bool.{lt-ltb, leb-true, cases_Bool, true_from_ne_false, false_from_ne_true, both_ways, not-true, not_from_false, and_parts, and_from, and_right}
use Rattle.replica_sets.specs.Sets.{has, Within, Below, below, common, outside}
use Rattle.replica_sets.proofs.Members.{below_is, is_below, within_below, below_has, has_part, those_below, those_put, those_out, those_push, those_skip, common_in, outside_in, outside_below}
use Rattle.quorums.specs.Systems.{Quorums, QuorumLaws}
use Rattle.quorums.proofs.Intersections.{common_not_fault, correct_quorum}
use Rattle.quorums.specs.ThresholdsLemmas.{threshold_lawful}
use Rattle.nested.specs.Nesting.{part, groups, grouped, nested}

module _ (m g a : ℕ) where
  part_below : Below m (part m g a)
  part_below = below_has m (part m g a) (mod-lt (a / 2 ^ (g * m)) (pow_pos m))

  part_in : (p : ℕ) → p < m → has a (g * m + p) ≡ true → has (part m g a) p ≡ true
  part_in p h e = has_part a (g * m) m p ∙ and_from (nat_lt p m) (has a (g * m + p)) (lt-ltb p m h) e

  in_part : (p : ℕ) → has (part m g a) p ≡ true → has a (g * m + p) ≡ true
  in_part p e = (and_parts (nat_lt p m) (has a (g * m + p)) (sym (has_part a (g * m) m p) ∙ e)).1

part_within : (m g a b : ℕ) → Within a b → Within (part m g a) (part m g b)
part_within m g a b w p e = part_in m g b p (part_below m g a p e) (w (g * m + p) (in_part m g a p e))

part_none : (m g : ℕ) → part m g 0 ≡ 0
part_none m g = ap (λ x. x % 2 ^ m) (zero-div (2 ^ (g * m))) ∙ zero-mod (2 ^ m)

-- what two sets have in common lies in a group as what their parts have in common
part_common : (m g a b p : ℕ) → has (part m g a) p ≡ true → has (part m g b) p ≡ true → has (part m g (common a b)) p ≡ true
part_common m g a b p u v = part_in m g (common a b) p (part_below m g a p u) (common_in a b (g * m + p) (in_part m g a p u) (in_part m g b p v))

module _ (o i : Quorums) (outer : QuorumLaws o) (inner : QuorumLaws i) (fits : o.size * i.size ≤ 32) where
  abbrev r : ℕ
  r = o.size

  abbrev m : ℕ
  m = i.size

  -- the groups with an inner quorum, and those with no inner fault set
  abbrev held : ℕ → ℕ
  held a = groups o.size i.size i.quorum a

  abbrev failed : ℕ → ℕ
  failed a = groups o.size i.size (λ s. not (i.fault s)) a

  held_out : (a g : ℕ) → has (held a) g ≡ true → (g < r) × (i.quorum (part m g a) ≡ true)
  held_out a g e = those_out r (λ g. i.quorum (part m g a)) g e

  held_put : (a g : ℕ) → g < r → i.quorum (part m g a) ≡ true → has (held a) g ≡ true
  held_put a g h e = those_put r (λ g. i.quorum (part m g a)) g h e

  failed_out : (a g : ℕ) → has (failed a) g ≡ true → (g < r) × (i.fault (part m g a) ≡ false)
  failed_out a g e = let p = those_out r (λ g. not (i.fault (part m g a))) g e in (p.0, not-true (i.fault (part m g a)) p.1)

  failed_put : (a g : ℕ) → g < r → i.fault (part m g a) ≡ false → has (failed a) g ≡ true
  failed_put a g h e = those_put r (λ g. not (i.fault (part m g a))) g h (not_from_false (i.fault (part m g a)) e)

  held_below : (a : ℕ) → Below r (held a)
  held_below a = those_below r (λ g. i.quorum (part m g a))

  -- the two tests, taken apart and made
  module _ (a : ℕ) where
    quorum_parts : (grouped o i).quorum a ≡ true → Below (r * m) a × (o.quorum (held a) ≡ true)
    quorum_parts e = let p = and_parts (below (r * m) a) (o.quorum (held a)) e in (is_below (r * m) a p.0, p.1)

    fault_parts : (grouped o i).fault a ≡ true → Below (r * m) a × (o.fault (failed a) ≡ true)
    fault_parts e = let p = and_parts (below (r * m) a) (o.fault (failed a)) e in (is_below (r * m) a p.0, p.1)

    quorum_from : Below (r * m) a → o.quorum (held a) ≡ true → (grouped o i).quorum a ≡ true
    quorum_from h e = and_from (below (r * m) a) (o.quorum (held a)) (below_is (r * m) a h) e

    fault_from : Below (r * m) a → o.fault (failed a) ≡ true → (grouped o i).fault a ≡ true
    fault_from h e = and_from (below (r * m) a) (o.fault (failed a)) (below_is (r * m) a h) e

    not_fault : o.fault (failed a) ≡ false → (grouped o i).fault a ≡ false
    not_fault e = and_right (below (r * m) a) (o.fault (failed a)) e

  -- a group that has not failed has its other replicas as a quorum
  rest_held : (a g : ℕ) → g < r → has (failed a) g ≡ false → has (held (outside (r * m) a)) g ≡ true
  rest_held a g h e =
      let b = outside (r * m) a in
      let f = true_from_ne_false (i.fault (part m g a)) (λ x. both_ways (has (failed a) g) e (failed_put a g h x)) in
      held_put b g h
      (correct_quorum i inner (part m g a) (part m g b) f (part_below m g b) (λ p n x.
      part_in m g b p n (outside_in (r * m) a (g * m + p) (omega (arith, mul-add-lt g m p r h n, mul_comm m r))
      (false_from_ne_true (has a (g * m + p)) (λ z. both_ways (has (part m g a) p) x (part_in m g a p n z))))))

  grouped_lawful : QuorumLaws (grouped o i)
  grouped_lawful = record {
    at_least_one = mul-le 1 1 r m outer.at_least_one inner.at_least_one;
    at_most_32 = fits;
    quorum_below = λ a x. (quorum_parts a x).0;
    fault_below = λ a x. (fault_parts a x).0;
    quorum_upward = λ a b x w l.
        quorum_from b l (outer.quorum_upward (held a) (held b) (quorum_parts a x).1
        (λ g e. let p = held_out a g e in held_put b g p.0 (inner.quorum_upward (part m g a) (part m g b) p.1 (part_within m g a b w) (part_below m g b)))
        (held_below b));
    fault_downward = λ a b x w.
        let p = fault_parts b x in
        fault_from a (within_below (r * m) a b w p.0) (outer.fault_downward (failed a) (failed b) p.1
        (λ g e. let f = failed_out a g e in
        failed_put b g f.0
        (false_from_ne_true (i.fault (part m g b)) (λ y. both_ways (i.fault (part m g a)) f.1 (inner.fault_downward (part m g a) (part m g b) y (part_within m g a b w))))));
    none_faulty =
        fault_from 0 (is_below (r * m) 0 (lt-ltb 0 (2 ^ (r * m)) (pow_pos (r * m)))) (outer.fault_downward (failed 0) 0 outer.none_faulty
        (λ g e. absurd (both_ways (i.fault (part m g 0)) (failed_out 0 g e).1 (ap i.fault (part_none m g) ∙ inner.none_faulty))));
    meet = λ a b x y.
        not_fault (common a b) (common_not_fault o outer (held a) (held b) (failed (common a b)) (quorum_parts a x).1 (quorum_parts b y).1
        (λ g d e. let u = held_out a g d in
        failed_put (common a b) g u.0 (common_not_fault i inner (part m g a) (part m g b) (part m g (common a b)) u.1 (held_out b g e).1 (part_common m g a b))));
    rest = λ a x.
        quorum_from (outside (r * m) a) (outside_below (r * m) a) (correct_quorum o outer (failed a) (held (outside (r * m) a)) (fault_parts a x).1 (held_below (outside (r * m) a)) (rest_held a));
  }

pub nested_lawful : (o i : Quorums) → QuorumLaws o → QuorumLaws i → QuorumLaws (nested o i)
nested_lawful o i outer inner =
    ⊎_elim (λ (e : leb (o.size * i.size) 32 ≡ true). rw e (grouped_lawful o i outer inner (leb-true (o.size * i.size) 32 e)))
    (λ (e : leb (o.size * i.size) 32 ≡ false). rw e (threshold_lawful 1 0 refl))
    (cases_Bool (nat_le (o.size * i.size) 32))

-- ---- a loop over the groups: group k comes in where its part passes

module _ (k m n a pt found more : ℕ) (test : ℕ → Bool) (held : found ≡ groups k m test a) (size : n ≡ m) (cut : pt ≡ a / 2 ^ (k * n) % 2 ^ n) where
  tested : test pt ≡ test (part m k a)
  tested = ap test (cut ∙ ap (λ x. a / 2 ^ (k * x) % 2 ^ x) size)

  pub groups_put : test pt ≡ true → more ≡ bit_or found (2 ^ k) → more ≡ groups (k + 1) m test a
  groups_put e i = i ∙ ap (λ x. bit_or x (2 ^ k)) held ∙ those_push k (λ g. test (part m g a)) (sym tested ∙ e) ∙ ap (λ x. groups x m test a) (sym (add-one k))

  pub groups_skip : test pt ≡ false → more ≡ found → more ≡ groups (k + 1) m test a
  groups_skip e i = i ∙ held ∙ those_skip k (λ g. test (part m g a)) (sym tested ∙ e) ∙ ap (λ x. groups x m test a) (sym (add-one k))
