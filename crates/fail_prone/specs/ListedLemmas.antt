-- The system whose fault sets are listed keeps the laws where no three of them hold all replicas; where three do, no system does. Assumes nothing.
use Rattle.std.specs.Prelude.{◌≡◌, ℕ, ◌<◌, ◌≤◌, Bool, true, false, ◌||◌, ◌⊎◌, List, [], ◌∷◌, ◌==◌, bit_and, bit_or, nat_eq, nat_le}
use Rattle.std.proofs.Math.Path.{refl, sym, ap}
use Rattle.std.proofs.Common.{◌∙◌, subst, arith}
use Rattle.std.proofs.Math.Logic.{inl, inr, ⊎_elim}
use Rattle.std.specs.Int.Bits.{and_zero_r}
use Rattle.std.proofs.lemmas.Bool.{eqb-true, eq-eqb, lt-ltb, ltb-true, false_from_ne_true, both_ways, and_parts, and_from, or_cases, or_left, or_right}
use Rattle.replica_sets.specs.Sets.{has, Within, Below, within, below, all, common, outside}
use Rattle.replica_sets.specs.declared.replica_set.ReplicaSet.{ReplicaSet}
use Rattle.replica_sets.proofs.Members.{below_is, is_below, within_below, has_none, has_all, has_or, subset, common_in, outside_in, in_outside, outside_below}
use Rattle.quorums.specs.Systems.{QuorumLaws}
use Rattle.quorums.proofs.Intersections.{common_not_fault}
use Rattle.fail_prone.specs.Listed.{some_listed, each_listed, hold, three_hold_all, listed_system, NoSystemKeepsTheLaws}

-- ---- members of a list

-- a is listed
abbrev In : ℕ → List ReplicaSet → Type 0
In a [] = ⊥
In a (s ∷ rest) = (a ≡ s.members) ⊎ In a rest

some_find : (p : ℕ → Bool) (xs : List ReplicaSet) → some_listed p xs ≡ true → (a : ℕ) × In a xs × (p a ≡ true)
some_find p [] e = absurd (both_ways false refl e)
some_find p (s ∷ rest) e =
    ⊎_elim (λ (h : p s.members ≡ true). (s.members, inl refl, h))
    (λ (h : some_listed p rest ≡ true). let r = some_find p rest h in (r.0, inr r.1, r.2))
    (or_cases (p s.members) (some_listed p rest) e)

some_in : (p : ℕ → Bool) (xs : List ReplicaSet) (a : ℕ) → In a xs → p a ≡ true → some_listed p xs ≡ true
some_in p [] a i e = absurd i
some_in p (s ∷ rest) a (inl q) e = or_left (p s.members) (some_listed p rest) (ap p (sym q) ∙ e)
some_in p (s ∷ rest) a (inr i) e = or_right (p s.members) (some_listed p rest) (some_in p rest a i e)

each_in : (p : ℕ → Bool) (xs : List ReplicaSet) (a : ℕ) → each_listed p xs ≡ true → In a xs → p a ≡ true
each_in p [] a e i = absurd i
each_in p (s ∷ rest) a e (inl q) = ap p q ∙ (and_parts (p s.members) (each_listed p rest) e).0
each_in p (s ∷ rest) a e (inr i) = each_in p rest a (and_parts (p s.members) (each_listed p rest) e).1 i

-- ---- what a quorum and a fault set are, by members

in_all : (n i : ℕ) → has (all n) i ≡ true → i < n
in_all n i e = ltb-true i n (sym (has_all n i) ∙ e)

all_in : (n i : ℕ) → i < n → has (all n) i ≡ true
all_in n i h = has_all n i ∙ lt-ltb i n h

within_none : (a : ℕ) → Within a 0 → a ≡ 0
within_none a h = sym (eqb-true (bit_and a 0) a ((subset a 0).1 h)) ∙ and_zero_r a

-- a has all replicas outside s
abbrev Fill : ℕ → ℕ → ℕ → Type 0
Fill n s a = (i : ℕ) → i < n → has s i ≡ false → has a i ≡ true

-- a listed set, or the empty one
abbrev Part : List ReplicaSet → ℕ → Type 0
Part xs s = (s ≡ 0) ⊎ In s xs

module _ (n : ℕ) (xs : List ReplicaSet) (a : ℕ) where
  quorum_parts : (listed_system n xs).quorum a ≡ true → Below n a × ((s : ℕ) × Part xs s × Fill n s a)
  quorum_parts e =
      let p = and_parts (below n a) (within (all n) a || some_listed (λ s. within (outside n s) a) xs) e in (
        is_below n a p.0,
        ⊎_elim (λ (h : within (all n) a ≡ true). (0, inl refl, λ i l q. (subset (all n) a).0 h i (all_in n i l)))
            (λ (h : some_listed (λ s. within (outside n s) a) xs ≡ true).
            let r = some_find (λ s. within (outside n s) a) xs h in
            (r.0, inr r.1, λ i l q. (subset (outside n r.0) a).0 r.2 i (outside_in n r.0 i l q)))
            (or_cases (within (all n) a) (some_listed (λ s. within (outside n s) a) xs) p.1),
      )

  fault_parts : (listed_system n xs).fault a ≡ true → Below n a × ((s : ℕ) × Part xs s × Within a s)
  fault_parts e =
      let p = and_parts (below n a) (a == 0 || some_listed (within a) xs) e in (
        is_below n a p.0,
        ⊎_elim (λ (h : nat_eq a 0 ≡ true). (0, inl refl, λ i q. sym (ap (λ x. has x i) (eqb-true a 0 h)) ∙ q))
            (λ (h : some_listed (within a) xs ≡ true). let r = some_find (within a) xs h in (r.0, inr r.1, (subset a r.0).0 r.2))
            (or_cases (a == 0) (some_listed (within a) xs) p.1),
      )

  quorum_from : (s : ℕ) → Below n a → Part xs s → Fill n s a → (listed_system n xs).quorum a ≡ true
  quorum_from s b p f =
      and_from (below n a) (within (all n) a || some_listed (λ s. within (outside n s) a) xs) (below_is n a b)
      (⊎_elim (λ (e : s ≡ 0). or_left (within (all n) a) (some_listed (λ s. within (outside n s) a) xs) ((subset (all n) a).1 (λ i h. f i (in_all n i h) (ap (λ x. has x i) e ∙ has_none i))))
      (λ (r : In s xs).
      or_right (within (all n) a) (some_listed (λ s. within (outside n s) a) xs)
      (some_in (λ s. within (outside n s) a) xs s r ((subset (outside n s) a).1 (λ i h. let q = in_outside n s i h in f i q.0 q.1))))
      p)

  fault_from : (s : ℕ) → Below n a → Part xs s → Within a s → (listed_system n xs).fault a ≡ true
  fault_from s b p w =
      and_from (below n a) (a == 0 || some_listed (within a) xs) (below_is n a b)
      (⊎_elim (λ (e : s ≡ 0). or_left (a == 0) (some_listed (within a) xs) (eq-eqb a 0 (within_none a (λ i h. ap (λ x. has x i) (sym e) ∙ w i h))))
      (λ (r : In s xs). or_right (a == 0) (some_listed (within a) xs) (some_in (within a) xs s r ((subset a s).1 w)))
      p)

-- ---- three sets that hold all replicas

abbrev Cover : ℕ → ℕ → ℕ → ℕ → Type 0
Cover n s t u = (i : ℕ) → i < n → has s i ≡ false → has t i ≡ false → has u i ≡ true

either_from : (x y z : Bool) → (x ≡ false → y ≡ false → z ≡ true) → ((x || y) || z) ≡ true
either_from x y z h = grind arith

either_to : (x y z : Bool) → ((x || y) || z) ≡ true → x ≡ false → y ≡ false → z ≡ true
either_to x y z e p q = grind arith

-- three sets together, as `hold` joins them
abbrev three : ℕ → ℕ → ℕ → ℕ
three s t u = bit_or (bit_or (bit_or 0 s) t) u

three_has : (s t u i : ℕ) → has (three s t u) i ≡ ((has s i || has t i) || has u i)
three_has s t u i = rw (has_or, has_or, has_or, has_none)

covering : (n : ℕ) (xs : List ReplicaSet) (s t u : ℕ) → In s xs → In t xs → In u xs → Cover n s t u → hold 3 (all n) 0 xs ≡ true
unfolding hold
covering n xs s t u p q r c =
    some_in (λ x. some_listed (λ y. some_listed (λ z. within (all n) (three x y z)) xs) xs) xs s p
    (some_in (λ y. some_listed (λ z. within (all n) (three s y z)) xs) xs t q
    (some_in (λ z. within (all n) (three s t z)) xs u r
    ((subset (all n) (three s t u)).1 (λ i h. three_has s t u i ∙ either_from (has s i) (has t i) (has u i) (c i (in_all n i h))))))

covered : (n : ℕ) (xs : List ReplicaSet) → hold 3 (all n) 0 xs ≡ true → (s t u : ℕ) × In s xs × In t xs × In u xs × Cover n s t u
unfolding hold
covered n xs e =
    let p = some_find (λ x. some_listed (λ y. some_listed (λ z. within (all n) (three x y z)) xs) xs) xs e in
    let s = p.0 in
    let q = some_find (λ y. some_listed (λ z. within (all n) (three s y z)) xs) xs p.2 in
    let t = q.0 in
    let r = some_find (λ z. within (all n) (three s t z)) xs q.2 in
    let u = r.0 in
    (s, t, u, p.1, q.1, r.1, λ i h. either_to (has s i) (has t i) (has u i) (sym (three_has s t u i) ∙ (subset (all n) (three s t u)).0 r.2 i (all_in n i h)))

-- in a list that has a set, each part lies in a listed set
promote : (y : ReplicaSet) (ys : List ReplicaSet) (s : ℕ) → Part (y ∷ ys) s → (x : ℕ) × In x (y ∷ ys) × Within s x
promote y ys s p =
    ⊎_elim (λ (e : s ≡ 0). (y.members, inl refl, λ i h. absurd (both_ways (has s i) (ap (λ x. has x i) e ∙ has_none i) h)))
    (λ (r : In s (y ∷ ys)). (s, r, λ i h. h))
    p

-- what a set has not, no part of it has
not_in : (v x i : ℕ) → Within v x → has x i ≡ false → has v i ≡ false
not_in v x i w f = false_from_ne_true (has v i) (λ m. both_ways (has x i) f (w i m))

no_cover : (n : ℕ) (xs : List ReplicaSet) → 1 ≤ n → hold 3 (all n) 0 xs ≡ false → (s t u : ℕ) → Part xs s → Part xs t → Part xs u → Cover n s t u → ⊥
no_cover n [] h e s t u p q r c =
    let none : (x : ℕ) → Part [] x → has x 0 ≡ false = λ x y. ⊎_elim (λ (z : x ≡ 0). ap (λ v. has v 0) z ∙ has_none 0) (λ (z : In x []). absurd z) y in
    both_ways (has u 0) (none u r) (c 0 h (none s p) (none t q))
no_cover n (y ∷ ys) h e s t u p q r c =
    let a = promote y ys s p in
    let b = promote y ys t q in
    let d = promote y ys u r in
    both_ways (hold 3 (all n) 0 (y ∷ ys)) e
    (covering n (y ∷ ys) a.0 b.0 d.0 a.1 b.1 d.1 (λ i l f g. d.2 i (c i l (not_in s a.0 i a.2 f) (not_in t b.0 i b.2 g))))

-- ---- the laws

pub listed_lawful : (n : ℕ) (xs : List ReplicaSet) → 1 ≤ n → n ≤ 32 → hold 3 (all n) 0 xs ≡ false → QuorumLaws (listed_system n xs)
listed_lawful n xs least most apart = record {
  at_least_one = least;
  at_most_32 = most;
  quorum_below = λ a x. (quorum_parts n xs a x).0;
  fault_below = λ a x. (fault_parts n xs a x).0;
  quorum_upward = λ a b x w l. let p = (quorum_parts n xs a x).1 in quorum_from n xs b p.0 l p.1 (λ i h e. w i (p.2 i h e));
  fault_downward = λ a b x w. let p = fault_parts n xs b x in fault_from n xs a p.1.0 (within_below n a b w p.0) p.1.1 (λ i e. p.1.2 i (w i e));
  none_faulty = fault_from n xs 0 0 (λ i e. absurd (both_ways (has 0 i) (has_none i) e)) (inl refl) (λ i e. e);
  meet = λ a b x y.
      false_from_ne_true ((listed_system n xs).fault (common a b)) (λ f.
      let s = (quorum_parts n xs a x).1 in
      let t = (quorum_parts n xs b y).1 in
      let u = (fault_parts n xs (common a b) f).1 in
      no_cover n xs least apart s.0 t.0 u.0 s.1 t.1 u.1 (λ i l v w. u.2 i (common_in a b i (s.2 i l v) (t.2 i l w))));
  rest = λ a x. let p = (fault_parts n xs a x).1 in
      quorum_from n xs (outside n a) p.0 (outside_below n a) p.1 (λ i l e. outside_in n a i l (not_in a p.0 i p.2 e));
}

-- ---- where three listed sets hold all replicas, no system has them as fault sets

pub none_keeps_the_laws : (n : ℕ) (xs : List ReplicaSet) → three_hold_all n xs ≡ true → NoSystemKeepsTheLaws n xs
none_keeps_the_laws n xs e q same faults laws =
    let k = covered n xs (and_parts (nat_le n 32) (hold 3 (all n) 0 xs) e).1 in
    let s = k.0 in
    let t = k.1 in
    let u = k.2 in
    let m = q.size in
    both_ways (q.fault u)
    (common_not_fault q laws (outside m s) (outside m t) u (laws.rest s (each_in q.fault xs s faults k.3)) (laws.rest t (each_in q.fault xs t faults k.4))
    (λ i x y. let a = in_outside m s i x in k.6 i (subst (λ (v : ℕ). i < v) same a.0) a.1 (in_outside m t i y).1))
    (each_in q.fault xs u faults k.5)
