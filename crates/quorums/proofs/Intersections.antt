-- What the laws give their users: replicas outside a fault set. Assumes nothing.
use Rattle.std.proofs.Common.{◌≡◌, ℕ, zero, suc, ◌<◌, Bool, true, false, not, ◌&&◌, ◌⊎◌, ap, ◌∙◌, inl, inr, ⊎_elim, arith}
use Rattle.std.proofs.lemmas.Bool.{cases_Bool, cases_eq, false_from_ne_true, both_ways, and_parts, not-true}
use Rattle.replica_sets.specs.Sets.{has, Below, common, outside}
use Rattle.replica_sets.proofs.Members.{in_common, in_outside}
use Rattle.quorums.specs.Systems.{Quorums, QuorumLaws}

-- some i below n passes, or none does
find : (n : ℕ) (p : ℕ → Bool) → ((i : ℕ) × (i < n) × (p i ≡ true)) ⊎ ((i : ℕ) → i < n → p i ≡ false)
find zero p = inr (λ i h. absurd (omega arith))
find (suc k) p =
    ⊎_elim (λ (e : p k ≡ true). inl (k, omega arith, e))
    (λ (e : p k ≡ false).
    ⊎_elim (λ (r : (i : ℕ) × (i < k) × (p i ≡ true)). inl (r.0, omega (arith, r.1), r.2))
    (λ (r : (i : ℕ) → i < k → p i ≡ false). inr (λ i h. ⊎_elim (λ (q : i ≡ k). ap p q ∙ e) (λ (q : i ≡ k → ⊥). r i (omega arith)) (cases_eq i k)))
    (find k p))
    (cases_Bool (p k))

module _ (q : Quorums) (laws : QuorumLaws q) where
  -- a set that has all that two quorums have in common is no fault set
  pub common_not_fault : (a b c : ℕ) → q.quorum a ≡ true → q.quorum b ≡ true → ((i : ℕ) → has a i ≡ true → has b i ≡ true → has c i ≡ true) → q.fault c ≡ false
  common_not_fault a b c x y h =
      false_from_ne_true (q.fault c) (λ f.
      both_ways (q.fault (common a b)) (laws.meet a b x y) (laws.fault_downward (common a b) c f (λ i e. let p = in_common a b i e in h i p.0 p.1)))

  -- two quorums share a replica outside any fault set
  pub common_correct : (a b c : ℕ) → q.quorum a ≡ true → q.quorum b ≡ true → q.fault c ≡ true → (i : ℕ) × (i < q.size) × (has a i ≡ true) × (has b i ≡ true) × (has c i ≡ false)
  common_correct a b c x y f =
      ⊎_elim (λ (r : (i : ℕ) × (i < q.size) × ((has a i && (has b i && not (has c i))) ≡ true)).
      let u = and_parts (has a r.0) (has b r.0 && not (has c r.0)) r.2 in
      let v = and_parts (has b r.0) (not (has c r.0)) u.1 in
      (r.0, r.1, u.0, v.0, not-true (has c r.0) v.1))
      (λ (r : (i : ℕ) → i < q.size → (has a i && (has b i && not (has c i))) ≡ false).
      absurd (both_ways (q.fault c) (common_not_fault a b c x y (λ i u v. grind (arith, r i (laws.quorum_below a x i u)))) f))
      (find q.size (λ i. has a i && (has b i && not (has c i))))

  -- a set of replicas that has every replica outside a fault set is a quorum
  pub correct_quorum : (c b : ℕ) → q.fault c ≡ true → Below q.size b → ((i : ℕ) → i < q.size → has c i ≡ false → has b i ≡ true) → q.quorum b ≡ true
  correct_quorum c b f l h =
      laws.quorum_upward (outside q.size c) b (laws.rest c f) (λ i e. let p = in_outside q.size c i e in h i p.0 p.1) l

  -- a quorum has a replica outside any fault set
  pub some_correct : (a c : ℕ) → q.quorum a ≡ true → q.fault c ≡ true → (i : ℕ) × (i < q.size) × (has a i ≡ true) × (has c i ≡ false)
  some_correct a c x f = let r = common_correct a a c x x f in (r.0, r.1, r.2, r.4)
