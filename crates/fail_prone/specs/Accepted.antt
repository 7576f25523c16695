-- What an accepted list says of its parameters, and how a refused one acts. Assumes nothing.
use Rattle.std.specs.Prelude.{◌≡◌, ℕ, zero, suc, ◌*◌, ◌^◌, ◌≤◌, Bool, true, false, cond, not, ◌&&◌, ◌||◌, List, [], length, Some, None, ◌==◌, nat_le, nat_lt, refl}
use Rattle.std.proofs.Common.{sym, ap, ap₂, ◌∙◌, arith}
use Rattle.std.proofs.Math.Path.{fun_ext}
use Rattle.std.proofs.lemmas.Bool.{false≢true, ltb-false, le-ltb, le-leb, or_parts}
use Rattle.replica_sets.specs.Sets.{has, weigh, size_of, within, below, all}
use Rattle.replica_sets.specs.declared.replica_set.ReplicaSet.{ReplicaSet}
use Rattle.quorums.specs.Systems.{Quorums}
use Rattle.quorums.specs.Refusals.{accepts}
use Rattle.quorums.specs.Thresholds.{threshold}
use Rattle.fail_prone.specs.Listed.{each_listed, hold, three_hold_all, listed_check, listed_system}

accepted : (a b d : Bool) → accepts (cond a (Some 1) (cond b (Some 2) (cond d (Some 3) None))) ≡ true → (a ≡ false) × (d ≡ false)
accepted true b d e = absurd (false≢true e)
accepted false true d e = absurd (false≢true e)
accepted false false true e = absurd (false≢true e)
accepted false false false e = (refl, refl)

module _ (n : ℕ) (xs : List ReplicaSet) (ok : accepts (listed_check n xs) ≡ true) where
  parts : ((nat_lt n 1 || nat_lt 32 n) ≡ false) × (three_hold_all n xs ≡ false)
  parts = accepted (nat_lt n 1 || nat_lt 32 n) (nat_lt 16 (length xs) || not (each_listed (below n) xs)) (three_hold_all n xs) ok

  pub accepted_least : 1 ≤ n
  accepted_least = ltb-false n 1 (or_parts (nat_lt n 1) (nat_lt 32 n) parts.0).0

  pub accepted_most : n ≤ 32
  accepted_most = ltb-false 32 n (or_parts (nat_lt n 1) (nat_lt 32 n) parts.0).1

  pub accepted_apart : hold 3 (all n) 0 xs ≡ false
  accepted_apart = sym (ap (λ b. b && hold 3 (all n) 0 xs) (le-leb n 32 accepted_most)) ∙ parts.1

-- one replica with no listed set acts as one replica that is never faulty
past_one : (k : ℕ) (x y : Bool) → (below 1 (suc (suc k)) && x) ≡ (below 1 (suc (suc k)) && y)
past_one k x y = let e = le-ltb (suc (suc k)) (2 ^ 1) (omega arith) in ap (λ b. b && x) e ∙ sym (ap (λ b. b && y) e)

one_quorum : (a : ℕ) → (listed_system 1 []).quorum a ≡ (threshold 1 0).quorum a
unfolding weigh has
one_quorum zero = refl
one_quorum (suc zero) = refl
one_quorum (suc (suc k)) = past_one k (within (all 1) (suc (suc k)) || false) (nat_lt 1 (2 * size_of (suc (suc k))))

one_fault : (a : ℕ) → (listed_system 1 []).fault a ≡ (threshold 1 0).fault a
unfolding weigh has
one_fault zero = refl
one_fault (suc zero) = refl
one_fault (suc (suc k)) = past_one k (suc (suc k) == 0 || false) (nat_le (size_of (suc (suc k))) 0)

pub one_replica : listed_system 1 [] ≡ threshold 1 0
one_replica =
    ap₂ {A = ℕ → Bool} {B = ℕ → Bool} {C = Quorums} (λ x y. record { size = 1; quorum = x; fault = y }) (fun_ext one_quorum) (fun_ext one_fault)
