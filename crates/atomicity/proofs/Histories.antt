-- What the claims refuse and accept, on examples. Assumes nothing.
use Rattle.std.proofs.Common.{◌≡◌, ℕ, zero, suc, ◌+◌, ◌<◌, true, false, List, [], ◌∷◌, Some, None, Option, unwrap_or, sym, refl, ap, ◌∙◌, subst, inl, inr, ⊎_elim, arith, lit<}
use Rattle.std.specs.Option.{option_map}
use Rattle.replica_sets.specs.Sets.{has}
use Rattle.replica_sets.proofs.Members.{has_none}
use Rattle.signatures.specs.Books.{can_sign}
use Rattle.cluster.specs.Steps.{unless, hear, write_step, read_step, request_step, reply_step, collect_step}
use Rattle.atomicity.specs.Marks.{Summary, look, at, finishes, reads, writes, turns, gives}
use Rattle.atomicity.specs.Marks.Mark.{Nothing, Begins, Turns, Finishes, Collects}
use Rattle.atomicity.specs.Marks.Traffic.{Still, Sends, ToReplica, ToClient}
use Rattle.atomicity.specs.Claims.{Ends, WriteBegun, ReadFinished, Legal, Linearizes, In, Before, Served}
use Rattle.atomicity.specs.Summaries.{summed}
use Rattle.atomicity.specs.Examples.{gave, stale, new_then_old, stuck, overlap, Telling}
use Rattle.atomicity.proofs.Facts.{none≢some, some_inj}
use Rattle.atomicity.proofs.Trace.{of, ends_once}

-- ---- the places at which a question has an answer

abbrev if_some : {A : Type 0} → Option A → ℕ → List ℕ → List ℕ
if_some None n ns = ns
if_some (Some a) n ns = n ∷ ns

module _ {E A : Type 0} (f : E → Option A) where
  abbrev places : List E → ℕ → List ℕ
  places [] n = []
  places (e ∷ es) n = if_some (f e) n (places es (suc n))

  found : (es : List E) (n i m : ℕ) {a : A} → m ≡ n + i → look f es i ≡ Some a → In m (places es n)
  found [] n i m e h = absurd (none≢some h)
  found (x ∷ es) n zero m e h = subst (λ o. In m (if_some o n (places es (suc n)))) (sym h) (inl (omega arith))
  found (x ∷ es) n (suc i) m e h = go (f x) (found es (suc n) i m (omega arith) h)
    where
      go : (o : Option A) → In m (places es (suc n)) → In m (if_some o n (places es (suc n)))
      go None r = r
      go (Some a) r = inr r

  -- the question has an answer at the places listed only
  pub only_at : (es : List E) (i : ℕ) {a : A} → look f es i ≡ Some a → In i (places es 0)
  only_at es i h = found es 0 i i (omega arith) h

-- ---- runs whose only write is of 5 at place 0

module _ (run : List (Summary ℕ)) (one : (x v : ℕ) → at writes run x ≡ Some v → (x ≡ 0) × (v ≡ 5)) where
  stays : (x : ℕ) → unwrap_or (at writes run x) 5 ≡ 5
  stays x = go (at writes run x) refl
    where
      go : (o : Option ℕ) → at writes run x ≡ o → unwrap_or o 5 ≡ 5
      go None e = refl
      go (Some v) e = (one x v e).1

  -- behind the write, a read gives 5
  after_write : (xs : List ℕ) (c x j : ℕ) → at reads run x ≡ Some c → Ends run x j → In x xs → Legal run 5 xs → option_map (λ z. z.setting) (at gives run j) ≡ Some 5
  after_write [] c x j r e m l = absurd m
  after_write (y ∷ ys) c x j r e (inl m) l = l.0 c j (ap (at reads run) (sym m) ∙ r) (subst (λ i. Ends run i j) m e)
  after_write (y ∷ ys) c x j r e (inr m) l = after_write ys c x j r e m (subst (λ v. Legal run v ys) (stays y) l.1)

seven≢five : ◌≡◌ {A = Option ℕ} (Some 7) (Some 5) → ⊥
seven≢five e = let z : ◌≡◌ {A = ℕ} 7 5 = some_inj e in omega arith

-- ---- the stale read

stale_write : Ends stale 0 1
stale_write = record { who = 0; begun = refl; later = lit< tt; ended = refl; first = λ l a b. absurd (omega arith) }

stale_read : Ends stale 2 3
stale_read = record { who = 1; begun = refl; later = lit< tt; ended = refl; first = λ l a b. absurd (omega arith) }

stale_one : (x v : ℕ) → at writes stale x ≡ Some v → (x ≡ 0) × (v ≡ 5)
stale_one x v e = ⊎_elim (λ z. (z, some_inj (sym e ∙ ap (at writes stale) z))) (λ m. absurd m) (only_at (of writes) stale x e)

stale_gives : (xs : List ℕ) (v : ℕ) → Before xs 0 2 → Legal stale v xs → option_map (λ z. z.setting) (at gives stale 3) ≡ Some 5
stale_gives [] v b l = absurd b
stale_gives (x ∷ xs) v (inl (e, m)) l = after_write stale stale_one xs 1 2 3 refl stale_read m (subst (λ i. Legal stale (unwrap_or (at writes stale i) v) xs) (sym e) l.1)
stale_gives (x ∷ xs) v (inr b) l = stale_gives xs (unwrap_or (at writes stale x) v) b l.1

-- ---- the new value before the old

first_read : Ends new_then_old 1 2
first_read = record { who = 1; begun = refl; later = lit< tt; ended = refl; first = λ l a b. absurd (omega arith) }

second_read : Ends new_then_old 3 4
second_read = record { who = 2; begun = refl; later = lit< tt; ended = refl; first = λ l a b. absurd (omega arith) }

inverted_one : (x v : ℕ) → at writes new_then_old x ≡ Some v → (x ≡ 0) × (v ≡ 5)
inverted_one x v e = ⊎_elim (λ z. (z, some_inj (sym e ∙ ap (at writes new_then_old) z))) (λ m. absurd m) (only_at (of writes) new_then_old x e)

behind : (xs : List ℕ) (x y : ℕ) → Before xs x y → In y xs
behind [] x y b = absurd b
behind (z ∷ zs) x y (inl b) = inr b.1
behind (z ∷ zs) x y (inr b) = inr (behind zs x y b)

-- as long as 7 stands, the first read has no place; and once 5 stands, the second has none
no_place : (xs : List ℕ) → Before xs 1 3 → Legal new_then_old 7 xs → ⊥
no_place [] b l = b
no_place (x ∷ xs) (inl (e, m)) l = seven≢five (sym (l.0 1 2 (ap (at reads new_then_old) (sym e)) (subst (λ i. Ends new_then_old i 2) e first_read)))
no_place (x ∷ xs) (inr b) l = go (at writes new_then_old x) refl l.1 (no_place xs b)
  where
    go : (o : Option ℕ) → at writes new_then_old x ≡ o → Legal new_then_old (unwrap_or o 7) xs → (Legal new_then_old 7 xs → ⊥) → ⊥
    go None e l rest = rest l
    go (Some v) e l rest = seven≢five (after_write new_then_old inverted_one xs 2 3 4 refl second_read (behind xs 1 3 b) (subst (λ u. Legal new_then_old u xs) (inverted_one x v e).1 l))

-- ---- the phase that was served

served : Served stuck 1 0 0
served zero l g = ((1, 0, refl, refl), (2, 1, refl, refl))
served (suc r) l g = absurd (omega arith)

-- ---- the run that has an order

abbrev computed : List (Summary ℕ)
computed =
    summed (Begins 1 None) Sends ∷ summed (Begins 0 (Some 5)) Sends ∷ summed Nothing (ToReplica 1 0 true) ∷ summed Nothing (ToReplica 0 0 true)
    ∷ summed (Turns 1) (ToClient 3 true) ∷ summed Nothing (ToReplica 4 0 true)
    ∷ summed (Finishes 1 (Some (record { reader = 1; op = 1; timestamp = 1; setting = 5 }))) (ToClient 5 false)
    ∷ summed (Finishes 0 None) (ToClient 2 false)
    ∷ summed (Collects 1 (record { reader = 1; op = 1; timestamp = 1; setting = 5 })) Still ∷ []

computes : overlap ≡ computed
unfolding unless hear write_step read_step request_step reply_step collect_step can_sign has
computes = refl

-- nothing ends before place 6
late : (j c : ℕ) → at finishes computed j ≡ Some c → j < 6 → ⊥
late j c e l = ⊎_elim (λ z. omega arith) (⊎_elim (λ z. omega arith) (λ m. m)) (only_at (of finishes) computed j e)

read_ends : Ends computed 0 6
read_ends = record { who = 1; begun = refl; later = lit< tt; ended = refl; first = λ l a b e. late l 1 e b }

overlap_order : Linearizes 7 computed (1 ∷ 0 ∷ [])
overlap_order = record {
  once = ((λ m. ⊎_elim (λ e. omega arith) (λ x. x) m), ((λ m. m), tt));
  each_write = λ i w. ⊎_elim (λ e. inl e) (λ m. absurd m) (only_at (of writes) computed i w.1);
  each_read = λ i r. ⊎_elim (λ e. inr (inl e)) (λ m. absurd m) (only_at (of reads) computed i r.1);
  no_other = λ i m. ⊎_elim (λ e. inl (subst (WriteBegun computed) (sym e) (5, refl))) (⊎_elim (λ e. inr (subst (ReadFinished computed) (sym e) (1, refl, 6, read_ends))) (λ x. absurd x)) m;
  in_time = λ x y j mx my e l. absurd (late j e.who e.ended (⊎_elim (λ z. omega arith) (⊎_elim (λ z. omega arith) (λ z. absurd z)) my));
  legal = ((λ c j r e. absurd (none≢some r)), ((λ c j r e. ap (λ i. option_map (λ z. z.setting) (at gives computed i)) (ends_once computed 0 j 6 e read_ends)), tt));
}

pub telling : Telling
telling = record {
  no_stale_read = λ order h. seven≢five (stale_gives order 7
      (h.in_time 0 2 1 (h.each_write 0 (5, refl)) (h.each_read 2 (1, refl, 3, stale_read)) stale_write (lit< tt)) h.legal);
  no_new_then_old = λ order h. no_place order
      (h.in_time 1 3 2 (h.each_read 1 (1, refl, 2, first_read)) (h.each_read 3 (2, refl, 4, second_read)) first_read (lit< tt)) h.legal;
  no_stuck_phase = λ h. let r = h.query_ends 0 1 refl served in only_at (of turns) stuck r.0 r.2;
  no_mute_replica = λ h. let e = h.answers 0 1 0 0 refl refl (has_none 0) in let z : ◌≡◌ {A = ℕ} 0 1 = cc in omega arith;
  no_swapped_read = λ h. let e = h 0 1 1 (gave 1 5) refl refl (lit< tt) refl (λ i a b. absurd (omega arith)) (λ i a b. absurd (omega arith)) in
      let z : ◌≡◌ {A = ℕ} 7 5 = ap (λ p. p.1.setting) (some_inj e) in omega arith;
  an_overlap = subst (λ r. Linearizes 7 r (1 ∷ 0 ∷ [])) (sym computes) overlap_order;
}
