-- A set of replicas that one more is taken into. Assumes nothing.
use Rattle.std.proofs.Common.{◌≡◌, ℕ, ◌^◌, ◌<◌, true, cond, ltb, ◌⊎◌, sym, refl, ap, ◌∙◌, inl, inr, ⊎_elim, arith}
use lib.Bits.{bit_or}
use Rattle.std.proofs.lemmas.Bool.{eqb-true, eq-eqb, lt-ltb, or_cases, or_left, or_right, cond_both}
use Rattle.replica_sets.specs.Sets.{has, with_member, Below}
use Rattle.replica_sets.proofs.Members.{has_or, has_one}

module _ (a i : ℕ) where
  -- a member is the new one or an old one
  pub with_cases : (j : ℕ) → has (with_member a i) j ≡ true → (j ≡ i) ⊎ (has a j ≡ true)
  with_cases j = cond_both (ltb i 32) (bit_or a (2 ^ i)) a (λ z. has z j ≡ true → (j ≡ i) ⊎ (has a j ≡ true))
      (λ _ h. ⊎_elim (λ k. inr k) (λ k. inl (eqb-true j i (sym (has_one i j) ∙ k))) (or_cases (has a j) (has (2 ^ i) j) (sym (has_or a (2 ^ i) j) ∙ h)))
      (λ _ h. inr h)

  pub with_old : (j : ℕ) → has a j ≡ true → has (with_member a i) j ≡ true
  with_old j h = cond_both (ltb i 32) (bit_or a (2 ^ i)) a (λ z. has z j ≡ true)
      (λ _. has_or a (2 ^ i) j ∙ or_left (has a j) (has (2 ^ i) j) h)
      (λ _. h)

  pub with_new : i < 32 → has (with_member a i) i ≡ true
  with_new l = ap (λ b. has (cond b (bit_or a (2 ^ i)) a) i) (lt-ltb i 32 l)
      ∙ has_or a (2 ^ i) i ∙ or_right (has a i) (has (2 ^ i) i) (has_one i i ∙ eq-eqb i i refl)

  pub with_below : (n : ℕ) → Below n a → i < n → Below n (with_member a i)
  with_below n h l j e = ⊎_elim (λ k. omega arith) (λ k. h j k) (with_cases j e)
