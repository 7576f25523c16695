-- The order of operations beside a run that grows. Assumes nothing.
use Rattle.std.proofs.Common.{◌≡◌, ℕ, zero, suc, ◌<◌, ◌≤◌, true, false, cond, ◌⊎◌, List, [], ◌∷◌, length, Some, None, Option, unwrap_or, sym, refl, ap, ◌∙◌, subst, subst₂, inl, inr, ⊎_elim, arith}
use Rattle.std.proofs.lemmas.Bool.{true≢false, false≢true, cases_Bool}
use Rattle.std.specs.Option.{option_map}
use Rattle.cluster.specs.declared.completed_read.CompletedRead.{CompletedRead}
use Rattle.atomicity.specs.Marks.{Mark, Summary, at, reads, writes, gives}
use Rattle.atomicity.specs.Marks.Mark.{Nothing, Begins, Turns, Finishes, Collects}
use Rattle.atomicity.specs.Claims.{Ends, WriteBegun, ReadFinished, Legal, Once, In, Before, Linearizes}
use Rattle.atomicity.proofs.Facts.{Member, none≢some}
use Rattle.atomicity.proofs.Order.{Item, ids, Sorted, Right, carry, place, push, Fits, in_ids, item_of, place_new, place_old, place_cases, place_sorted, place_once, place_before, place_after, place_right, push_new, push_old, push_cases, push_sorted, push_once, push_before, push_after, push_right}
use Rattle.atomicity.proofs.Trace.{Done, of, then_event, at_lt, at_keep, at_new, at_cases, at_back, ends_keep, ends_once, Tracked}

-- G t v: the setting v stands under the timestamp t; Storing: the writer's operation is open, it began at beg, and its timestamp is stamp
pub record Ordered {S : Type 0} (initial : S) (tr : List (Summary S)) (G : ℕ → S → Type 0) (top : ℕ) (Storing : Type 0) (stamp began : ℕ) (ds : List Done) (os : List (Item S)) : Type 0 where
  pub sorted : Sorted os
  pub once : Once (ids os)
  pub right : Right initial os
  pub low : (y : Item S) → Member y os → y.stamp ≤ top
  pub positive : (y : Item S) → Member y os → y.writing ≡ true → 0 < y.stamp
  pub is_write : (y : Item S) → Member y os → y.writing ≡ true → at writes tr y.id ≡ Some y.value
  pub is_read : (y : Item S) → Member y os → y.writing ≡ false
      → (c j : ℕ) × (z : CompletedRead S) × (at reads tr y.id ≡ Some c) × Ends tr y.id j × (at gives tr j ≡ Some z) × (z.setting ≡ y.value)
  pub each : (i : ℕ) (v : S) → at writes tr i ≡ Some v → (y : Item S) × Member y os × (y.id ≡ i)
  pub done : (d : Done) → Member d ds → (y : Item S) × Member y os × (y.id ≡ d.id) × (y.stamp ≡ d.stamp)
  pub book : (t : ℕ) (v : S) → G t v → ((t ≡ 0) × (v ≡ initial)) ⊎ ((y : Item S) × Member y os × (y.writing ≡ true) × (y.stamp ≡ t) × (y.value ≡ v))
  pub opened : Storing → (y : Item S) × Member y os × (y.id ≡ began) × (y.stamp ≡ stamp)
  pub timely : (d : Done) (y : Item S) → Member d ds → Member y os → d.end < y.id → Before (ids os) d.id y.id

module _ {S : Type 0} where
  -- no event is both a read and a write
  mark_one : (m : Mark S) (c : ℕ) (v : S) → reads m ≡ Some c → writes m ≡ Some v → ⊥
  mark_one Nothing c v r w = none≢some r
  mark_one (Begins d None) c v r w = none≢some w
  mark_one (Begins d (Some u)) c v r w = none≢some r
  mark_one (Turns d) c v r w = none≢some r
  mark_one (Finishes d z) c v r w = none≢some r
  mark_one (Collects d z) c v r w = none≢some r

  pub read_or_write : (tr : List (Summary S)) (i c : ℕ) (v : S) → at reads tr i ≡ Some c → at writes tr i ≡ Some v → ⊥
  read_or_write [] i c v r w = none≢some r
  read_or_write (e ∷ tr) zero c v r w = mark_one e.mark c v r w
  read_or_write (e ∷ tr) (suc i) c v r w = read_or_write tr i c v r w

  module _ (initial : S) (tr : List (Summary S)) (G : ℕ → S → Type 0) (top : ℕ) (Storing : Type 0) (stamp began : ℕ) (ds : List Done) (os : List (Item S))
      (h : Ordered initial tr G top Storing stamp began ds os) where
    pub old : (y : Item S) → Member y os → y.id < length tr
    old y m = ⊎_elim (λ w. at_lt (of writes) tr y.id (h.is_write y m w)) (λ r. at_lt (of reads) tr y.id (h.is_read y m r).3) (cases_Bool y.writing)

    module _ (e : Summary S) where
      -- what is known of a read in the order
      abbrev Given : Item S → Type 0
      Given y = (c j : ℕ) × (z : CompletedRead S) × (at reads (then_event tr e) y.id ≡ Some c) × Ends (then_event tr e) y.id j
          × (at gives (then_event tr e) j ≡ Some z) × (z.setting ≡ y.value)

      keep_write : (y : Item S) → Member y os → y.writing ≡ true → at writes (then_event tr e) y.id ≡ Some y.value
      keep_write y m w = at_keep (of writes) tr e y.id (h.is_write y m w)

      keep_read : (y : Item S) → Member y os → y.writing ≡ false → Given y
      keep_read y m r = let k = h.is_read y m r in
          (k.0, k.1, k.2, at_keep (of reads) tr e y.id k.3, ends_keep tr e y.id k.1 k.4, at_keep (of gives) tr e k.1 k.5, k.6)

      pub ordered_plain : writes e.mark ≡ None → (Storing' : Type 0) → (Storing' → Storing) → Ordered initial (then_event tr e) G top Storing' stamp began ds os
      ordered_plain nw Storing' f = record {
        sorted = h.sorted;
        once = h.once;
        right = h.right;
        low = h.low;
        positive = h.positive;
        is_write = keep_write;
        is_read = keep_read;
        each = λ i v m. h.each i v (at_back (of writes) tr e i nw m);
        done = h.done;
        book = h.book;
        opened = λ s. h.opened (f s);
        timely = h.timely;
      }

      -- a write of w under the timestamp s begins
      pub ordered_write : (G' : ℕ → S → Type 0) (s : ℕ) (w : S) → writes e.mark ≡ Some w
          → ((t : ℕ) (u : S) → G' t u → G t u ⊎ ((s ≡ t) × (w ≡ u))) → top < s
          → ((d : Done) → Member d ds → d.end < length tr)
          → (Storing' : Type 0)
          → Ordered initial (then_event tr e) G' s Storing' s (length tr) ds (push os (record { id = length tr; stamp = s; writing = true; value = w }))
      ordered_write G' s w sw g above past Storing' = record {
        sorted = push_sorted t os (λ y m. let k = h.low y m in omega arith) h.sorted;
        once = push_once t os (λ m. let k = item_of (length tr) os m in let l = old k.0 k.1 in let z = k.2 in omega arith) h.once;
        right = push_right t initial os refl h.right;
        low = λ y m. ⊎_elim (λ z. let k = ap (λ u. u.stamp) z in omega arith) (λ k. let l = h.low y k in omega arith) (push_cases t os y m);
        positive = λ y m q. ⊎_elim (λ z. let k = ap (λ u. u.stamp) z in omega arith) (λ k. h.positive y k q) (push_cases t os y m);
        is_write = λ y m q. ⊎_elim (λ z. subst (λ u. at writes (then_event tr e) u.id ≡ Some u.value) (sym z) (at_new (of writes) tr e ∙ sw)) (λ k. keep_write y k q) (push_cases t os y m);
        is_read = λ y m q. ⊎_elim (λ z. absurd (true≢false (sym (ap (λ u. u.writing) z) ∙ q))) (λ k. keep_read y k q) (push_cases t os y m);
        each = λ i v m. ⊎_elim (λ k. let r = h.each i v k in (r.0, push_old t os r.0 r.1, r.2)) (λ k. (t, push_new t os, sym k.0)) (at_cases (of writes) tr e i m);
        done = λ d m. let r = h.done d m in (r.0, push_old t os r.0 r.1, r.2, r.3);
        book = λ n v gv. ⊎_elim
            (λ k. ⊎_elim (λ z. inl z) (λ r. inr (r.0, push_old t os r.0 r.1, r.2, r.3, r.4)) (h.book n v k))
            (λ k. inr (t, push_new t os, refl, k.0, k.1)) (g n v gv);
        opened = λ _. (t, push_new t os, refl, refl);
        timely = λ d y md my lt. ⊎_elim
            (λ z. let r = h.done d md in subst (λ i. Before (ids (push os t)) i y.id) r.2 (subst (λ u. Before (ids (push os t)) r.0.id u.id) (sym z) (push_after t os r.0 r.1)))
            (λ k. push_before t os d.id y.id (h.timely d y md k lt)) (push_cases t os y my);
      }
        where
          t : Item S
          t = record { id = length tr; stamp = s; writing = true; value = w }

      -- a write finishes: it has its place
      pub ordered_finish_write : writes e.mark ≡ None → Storing → (Storing' : Type 0) (stamp' : ℕ) → (Storing' → ⊥)
          → (d : Done) → d.id ≡ began → d.end ≡ length tr → d.stamp ≡ stamp
          → Ordered initial (then_event tr e) G top Storing' stamp' began (d ∷ ds) os
      ordered_finish_write nw s Storing' stamp' ns d di de dt = record {
        sorted = h.sorted;
        once = h.once;
        right = h.right;
        low = h.low;
        positive = h.positive;
        is_write = keep_write;
        is_read = keep_read;
        each = λ i v m. h.each i v (at_back (of writes) tr e i nw m);
        done = λ u. ⊎_elim (λ z. let r = h.opened s in (r.0, r.1, r.2 ∙ sym di ∙ sym (ap (λ k. k.id) z), r.3 ∙ sym dt ∙ sym (ap (λ k. k.stamp) z))) (λ m. h.done u m);
        book = h.book;
        opened = λ p. absurd (ns p);
        timely = λ u y mu my lt. ⊎_elim (λ z. absurd (let k = ap (λ q. q.end) z in let l = old y my in omega arith)) (λ m. h.timely u y m my lt) mu;
      }

      -- a read finishes, and takes its place
      pub ordered_finish_read : writes e.mark ≡ None → (Storing' : Type 0) → (Storing' → Storing)
          → (c b : ℕ) → at reads tr b ≡ Some c → ((j : ℕ) → Ends tr b j → ⊥)
          → (n : ℕ) (v : S) → G n v → n ≤ top → ((d : Done) → Member d ds → d.end < b → d.stamp ≤ n)
          → Ends (then_event tr e) b (length tr) → (a : CompletedRead S) → gives e.mark ≡ Some a → a.setting ≡ v
          → (d : Done) → d.id ≡ b → d.end ≡ length tr → d.stamp ≡ n
          → Ordered initial (then_event tr e) G top Storing' stamp began (d ∷ ds) (place (record { id = b; stamp = n; writing = false; value = v }) os)
      ordered_finish_read nw Storing' f c b rd fresh n v gv vt after fin a gve same d di de dt = record {
        sorted = place_sorted t os refl h.sorted;
        once = place_once t os new h.once;
        right = place_right t initial os refl h.sorted h.right fits;
        low = λ y m. ⊎_elim (λ z. let k = ap (λ u. u.stamp) z in omega arith) (λ k. h.low y k) (place_cases t os y m);
        positive = λ y m q. ⊎_elim (λ z. absurd (false≢true (sym (ap (λ u. u.writing) z) ∙ q))) (λ k. h.positive y k q) (place_cases t os y m);
        is_write = λ y m q. ⊎_elim (λ z. absurd (false≢true (sym (ap (λ u. u.writing) z) ∙ q))) (λ k. keep_write y k q) (place_cases t os y m);
        is_read = λ y m q. ⊎_elim (λ z. subst Given (sym z) own) (λ k. keep_read y k q) (place_cases t os y m);
        each = λ i u m. let r = h.each i u (at_back (of writes) tr e i nw m) in (r.0, place_old t os r.0 r.1, r.2);
        done = λ u. ⊎_elim (λ z. (t, place_new t os, sym di ∙ sym (ap (λ k. k.id) z), sym dt ∙ sym (ap (λ k. k.stamp) z)))
            (λ m. let r = h.done u m in (r.0, place_old t os r.0 r.1, r.2, r.3));
        book = λ i u gu. ⊎_elim (λ z. inl z) (λ r. inr (r.0, place_old t os r.0 r.1, r.2, r.3, r.4)) (h.book i u gu);
        opened = λ s. let r = h.opened (f s) in (r.0, place_old t os r.0 r.1, r.2, r.3);
        timely = λ u y mu my lt. ⊎_elim
            (λ z. absurd (late u y z (place_cases t os y my) lt))
            (λ m. ⊎_elim
            (λ z. let r = h.done u m in
            let l : u.end < b = let k = ap (λ q. q.id) z in omega arith in
            subst (λ i. Before (ids (place t os)) i y.id) r.2
            (subst (λ q. Before (ids (place t os)) r.0.id q.id) (sym z)
            (place_after t os r.0 h.sorted r.1 (let a = after u m l in let s = r.3 in omega arith))))
            (λ k. place_before t os u.id y.id (h.timely u y m k lt)) (place_cases t os y my))
            mu;
      }
        where
          t : Item S
          t = record { id = b; stamp = n; writing = false; value = v }

          own : Given t
          own = (c, length tr, a, at_keep (of reads) tr e b rd, fin, at_new (of gives) tr e ∙ gve, same)

          new : In b (ids os) → ⊥
          new m = let k = item_of b os m in
              ⊎_elim
              (λ w. read_or_write tr b c k.0.value rd (subst (λ i. at writes tr i ≡ Some k.0.value) k.2 (h.is_write k.0 k.1 w)))
              (λ r. let q = h.is_read k.0 k.1 r in fresh q.1 (subst (λ i. Ends tr i q.1) k.2 q.4))
              (cases_Bool k.0.writing)

          fits : Fits t initial os
          fits = ⊎_elim (λ z. inr (z.1, λ w m q. let p = h.positive w m q in let y = z.0 in omega arith)) (λ r. inl r) (h.book n v gv)

          late : (u : Done) (y : Item S) → u ≡ d → (y ≡ t) ⊎ Member y os → u.end < y.id → ⊥
          late u y z (inl q) lt = let k = ap (λ w. w.end) z in let l = ap (λ w. w.id) q in let r = at_lt (of reads) tr b rd in omega arith
          late u y z (inr m) lt = let k = ap (λ w. w.end) z in let l = old y m in omega arith

-- ---- from the order to the claim

module _ {S : Type 0} (tr : List (Summary S)) where
  read_no_write : (i c : ℕ) → at reads tr i ≡ Some c → at writes tr i ≡ None
  read_no_write i c r = go (at writes tr i) refl
    where
      go : (o : Option S) → at writes tr i ≡ o → at writes tr i ≡ None
      go None e = e
      go (Some v) e = absurd (read_or_write tr i c v r e)

  legal : (v : S) (os : List (Item S))
      → ((y : Item S) → Member y os → y.writing ≡ true → at writes tr y.id ≡ Some y.value)
      → ((y : Item S) → Member y os → y.writing ≡ false
      → (c j : ℕ) × (z : CompletedRead S) × (at reads tr y.id ≡ Some c) × Ends tr y.id j × (at gives tr j ≡ Some z) × (z.setting ≡ y.value))
      → Right v os → Legal tr v (ids os)
  legal v [] w r g = tt
  legal v (y ∷ os) w r g = (
    ⊎_elim
        (λ k c j p f. absurd (read_or_write tr y.id c y.value p (w y (inl refl) k)))
        (λ k c j p f. let z = r y (inl refl) k in
        ap (λ i. option_map (λ z. z.setting) (at gives tr i)) (ends_once tr y.id j z.1 f z.4) ∙ ap (option_map (λ z. z.setting)) z.5 ∙ ap (λ u. Some u) (z.6 ∙ g.0 k))
        (cases_Bool y.writing),
    subst (λ u. Legal tr u (ids os)) (sym (next (cases_Bool y.writing))) (legal (carry y v) os (λ u m. w u (inr m)) (λ u m. r u (inr m)) g.1),
  )
    where
      next : (y.writing ≡ true) ⊎ (y.writing ≡ false) → unwrap_or (at writes tr y.id) v ≡ carry y v
      next (inl k) = ap (λ o. unwrap_or o v) (w y (inl refl) k) ∙ sym (ap (λ b. cond b y.value v) k)
      next (inr k) = let z = r y (inl refl) k in ap (λ o. unwrap_or o v) (read_no_write y.id z.0 z.3) ∙ sym (ap (λ b. cond b y.value v) k)

  module _ (initial : S) (Open : ℕ → Type 0) (began : ℕ → ℕ) (G : ℕ → S → Type 0) (top : ℕ) (Storing : Type 0) (stamp first : ℕ) (ds : List Done) (os : List (Item S)) where
    pub linearizes : Tracked tr Open began ds → Ordered initial tr G top Storing stamp first ds os → (order : List ℕ) × Linearizes initial tr order
    linearizes t h = (
      ids os,
      record {
        once = h.once;
        each_write = λ i w. let r = h.each i w.0 w.1 in subst (λ k. In k (ids os)) r.2 (in_ids r.0 os r.1);
        each_read = λ i r. let d = t.fin_done i r.2 r.3 in let y = h.done d.0 d.1 in
            subst (λ k. In k (ids os)) (y.2 ∙ d.2) (in_ids y.0 os y.1);
        no_other = λ i m. let y = item_of i os m in
            ⊎_elim
            (λ k. inl (subst (WriteBegun tr) y.2 (y.0.value, h.is_write y.0 y.1 k)))
            (λ k. let z = h.is_read y.0 y.1 k in inr (subst (ReadFinished tr) y.2 (z.0, z.3, z.1, z.4)))
            (cases_Bool y.0.writing);
        in_time = λ x y j mx my f lt. let d = t.fin_done x j f in let u = item_of y os my in
            subst₂ (λ a b. Before (ids os) a b) d.2 u.2 (h.timely d.0 u.0 d.1 u.1 (let p = d.3 in let q = u.2 in omega arith));
        legal = legal initial os h.is_write h.is_read h.right;
      },
    )
