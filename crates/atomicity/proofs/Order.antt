-- The order of operations, kept as a list of items that grows: a write at its end, a read in the place that its timestamp asks for.
-- Assumes nothing.
use Rattle.std.proofs.Common.{◌≡◌, ℕ, ◌<◌, ◌≤◌, Bool, true, false, cond, leb, ◌⊎◌, List, [], ◌∷◌, ◌++◌, sym, refl, ap, ◌∙◌, subst, inl, inr, ⊎_elim, arith}
use Rattle.std.proofs.lemmas.Bool.{leb-true, leb-false, true≢false}
use Rattle.atomicity.specs.Claims.{In, Once, Before}
use Rattle.atomicity.proofs.Facts.{Member}

pub record Item (V : Type 0) : Type 0 where
  pub id : ℕ
  pub stamp : ℕ
  pub writing : Bool
  pub value : V

module _ {V : Type 0} where
  abbrev pub ids : List (Item V) → List ℕ
  ids [] = []
  ids (x ∷ xs) = x.id ∷ ids xs

  -- later items have timestamps no smaller, and later writes greater ones
  abbrev pub Sorted : List (Item V) → Type 0
  Sorted [] = Unit {0}
  Sorted (x ∷ xs) = ((y : Item V) → Member y xs → (x.stamp ≤ y.stamp) × (y.writing ≡ true → x.stamp < y.stamp)) × Sorted xs

  abbrev pub carry : Item V → V → V
  carry x v = cond x.writing x.value v

  abbrev pub Right : V → List (Item V) → Type 0
  Right v [] = Unit {0}
  Right v (x ∷ xs) = (x.writing ≡ false → x.value ≡ v) × Right (carry x v) xs

  abbrev pub place : Item V → List (Item V) → List (Item V)
  place r [] = r ∷ []
  place r (x ∷ xs) = cond (leb x.stamp r.stamp) (x ∷ place r xs) (r ∷ (x ∷ xs))

  -- the two ways of `place`
  place_way : (P : List (Item V) → Type 0) (r x : Item V) (xs : List (Item V))
      → (x.stamp ≤ r.stamp → P (x ∷ place r xs)) → (r.stamp < x.stamp → P (r ∷ (x ∷ xs))) → P (place r (x ∷ xs))
  place_way P r x xs f g = go (leb x.stamp r.stamp) refl
    where
      go : (b : Bool) → leb x.stamp r.stamp ≡ b → P (cond b (x ∷ place r xs) (r ∷ (x ∷ xs)))
      go true e = f (leb-true x.stamp r.stamp e)
      go false e = g (leb-false x.stamp r.stamp e)

  pub place_new : (r : Item V) (xs : List (Item V)) → Member r (place r xs)
  place_new r [] = inl refl
  place_new r (x ∷ xs) = place_way (λ l. Member r l) r x xs (λ _. inr (place_new r xs)) (λ _. inl refl)

  pub place_old : (r : Item V) (xs : List (Item V)) (y : Item V) → Member y xs → Member y (place r xs)
  place_old r [] y m = absurd m
  place_old r (x ∷ xs) y m =
      place_way (λ l. Member y l) r x xs (λ _. ⊎_elim (λ e. inl e) (λ k. inr (place_old r xs y k)) m) (λ _. inr m)

  pub place_cases : (r : Item V) (xs : List (Item V)) (y : Item V) → Member y (place r xs) → (y ≡ r) ⊎ Member y xs
  place_cases r [] y = ⊎_elim (λ e. inl e) (λ m. absurd m)
  place_cases r (x ∷ xs) y =
      place_way (λ l. Member y l → (y ≡ r) ⊎ Member y (x ∷ xs)) r x xs
      (λ _. ⊎_elim (λ e. inr (inl e)) (λ k. ⊎_elim (λ e. inl e) (λ m. inr (inr m)) (place_cases r xs y k)))
      (λ _ m. m)

  pub place_sorted : (r : Item V) (xs : List (Item V)) → r.writing ≡ false → Sorted xs → Sorted (place r xs)
  place_sorted r [] nw s = ((λ y m. absurd m), tt)
  place_sorted r (x ∷ xs) nw s =
      place_way Sorted r x xs
      (λ le. ((λ y m. ⊎_elim (λ e. at_r le y e) (λ k. s.0 y k) (place_cases r xs y m)), place_sorted r xs nw s.1))
      (λ lt. ((λ y m. ⊎_elim (λ e. at_x lt y e) (λ k. past lt y (s.0 y k).0) m), s))
    where
      at_r : x.stamp ≤ r.stamp → (y : Item V) → y ≡ r → (x.stamp ≤ y.stamp) × (y.writing ≡ true → x.stamp < y.stamp)
      at_r le y e = subst (λ z. (x.stamp ≤ z.stamp) × (z.writing ≡ true → x.stamp < z.stamp)) (sym e) (le, (λ w. absurd (true≢false (sym w ∙ nw))))

      at_x : r.stamp < x.stamp → (y : Item V) → y ≡ x → (r.stamp ≤ y.stamp) × (y.writing ≡ true → r.stamp < y.stamp)
      at_x lt y e = let k = ap (λ z. z.stamp) e in (omega arith, λ _. omega arith)

      past : r.stamp < x.stamp → (y : Item V) → x.stamp ≤ y.stamp → (r.stamp ≤ y.stamp) × (y.writing ≡ true → r.stamp < y.stamp)
      past lt y le = (omega arith, λ _. omega arith)

  -- ---- ids: membership, order

  pub in_ids : (x : Item V) (xs : List (Item V)) → Member x xs → In x.id (ids xs)
  in_ids x [] m = m
  in_ids x (y ∷ ys) m = ⊎_elim (λ e. inl (ap (λ z. z.id) e)) (λ k. inr (in_ids x ys k)) m

  pub item_of : (i : ℕ) (xs : List (Item V)) → In i (ids xs) → (x : Item V) × (Member x xs) × (x.id ≡ i)
  item_of i [] m = absurd m
  item_of i (y ∷ ys) (inl e) = (y, inl refl, sym e)
  item_of i (y ∷ ys) (inr m) = let r = item_of i ys m in (r.0, inr r.1, r.2)

  place_in : (r : Item V) (xs : List (Item V)) (i : ℕ) → In i (ids xs) → In i (ids (place r xs))
  place_in r xs i m = let f = item_of i xs m in subst (λ k. In k (ids (place r xs))) f.2 (in_ids f.0 (place r xs) (place_old r xs f.0 f.1))

  place_in_cases : (r : Item V) (xs : List (Item V)) (i : ℕ) → In i (ids (place r xs)) → (i ≡ r.id) ⊎ In i (ids xs)
  place_in_cases r xs i m =
      let f = item_of i (place r xs) m in
      ⊎_elim (λ e. inl (sym f.2 ∙ ap (λ z. z.id) e)) (λ k. inr (subst (λ j. In j (ids xs)) f.2 (in_ids f.0 xs k))) (place_cases r xs f.0 f.1)

  pub place_once : (r : Item V) (xs : List (Item V)) → (In r.id (ids xs) → ⊥) → Once (ids xs) → Once (ids (place r xs))
  place_once r [] new o = ((λ m. m), tt)
  place_once r (x ∷ xs) new o =
      place_way (λ l. Once (ids l)) r x xs
      (λ _. ((λ m. ⊎_elim (λ e. new (inl (sym e))) (λ k. o.0 k) (place_in_cases r xs x.id m)), place_once r xs (λ m. new (inr m)) o.1))
      (λ _. (new, o))

  pub place_before : (r : Item V) (xs : List (Item V)) (i j : ℕ) → Before (ids xs) i j → Before (ids (place r xs)) i j
  place_before r [] i j b = absurd b
  place_before r (x ∷ xs) i j b =
      place_way (λ l. Before (ids l) i j) r x xs
      (λ _. ⊎_elim (λ h. inl (h.0, place_in r xs j h.1)) (λ h. inr (place_before r xs i j h)) b)
      (λ _. inr b)

  pub place_after : (r : Item V) (xs : List (Item V)) (y : Item V) → Sorted xs → Member y xs → y.stamp ≤ r.stamp → Before (ids (place r xs)) y.id r.id
  place_after r [] y s m le = absurd m
  place_after r (x ∷ xs) y s m le =
      place_way (λ l. Before (ids l) y.id r.id) r x xs
      (λ _. ⊎_elim (λ e. inl (ap (λ z. z.id) e, in_ids r (place r xs) (place_new r xs))) (λ k. inr (place_after r xs y s.1 k le)) m)
      (λ lt. ⊎_elim (λ e. absurd (let k = ap (λ z. z.stamp) e in omega arith)) (λ k. absurd (let h = (s.0 y k).0 in omega arith)) m)

  -- ---- the values

  abbrev pub Fits : Item V → V → List (Item V) → Type 0
  Fits r v xs = ((w : Item V) × Member w xs × (w.writing ≡ true) × (w.stamp ≡ r.stamp) × (w.value ≡ r.value))
      ⊎ ((r.value ≡ v) × ((w : Item V) → Member w xs → w.writing ≡ true → r.stamp < w.stamp))

  pub place_right : (r : Item V) (v : V) (xs : List (Item V)) → r.writing ≡ false → Sorted xs → Right v xs → Fits r v xs → Right v (place r xs)
  place_right r v [] nw s h (inl f) = absurd f.1
  place_right r v [] nw s h (inr f) = ((λ _. f.0), tt)
  place_right r v (x ∷ xs) nw s h f =
      place_way (λ l. Right v l) r x xs
      (λ le. (h.0, place_right r (carry x v) xs nw s.1 h.1 (go le x.writing refl f)))
      (λ lt. ((λ _. here lt f), subst (λ b. Right (cond b r.value v) (x ∷ xs)) (sym nw) h))
    where
      go : x.stamp ≤ r.stamp → (b : Bool) → x.writing ≡ b → Fits r v (x ∷ xs) → Fits r (cond b x.value v) xs
      go le true e (inl (w, inl k, i, t, u)) = inr (sym u ∙ ap (λ z. z.value) k, λ y m q. let g = (s.0 y m).1 q in let k' = ap (λ z. z.stamp) k in omega arith)
      go le true e (inl (w, inr k, i, t, u)) = inl (w, k, i, t, u)
      go le false e (inl (w, inl k, i, t, u)) = absurd (true≢false (sym i ∙ ap (λ z. z.writing) k ∙ e))
      go le false e (inl (w, inr k, i, t, u)) = inl (w, k, i, t, u)
      go le true e (inr g) = absurd (let l = g.1 x (inl refl) e in omega arith)
      go le false e (inr g) = inr (g.0, λ w m. g.1 w (inr m))

      here : r.stamp < x.stamp → Fits r v (x ∷ xs) → r.value ≡ v
      here lt (inl (w, inl k, i, t, u)) = absurd (let k' = ap (λ z. z.stamp) k in omega arith)
      here lt (inl (w, inr k, i, t, u)) = absurd (let k' = (s.0 w k).0 in omega arith)
      here lt (inr g) = g.0

  -- ---- a write at the end

  abbrev pub push : List (Item V) → Item V → List (Item V)
  push xs w = xs ++ (w ∷ [])

  pub push_new : (w : Item V) (xs : List (Item V)) → Member w (push xs w)
  push_new w [] = inl refl
  push_new w (x ∷ xs) = inr (push_new w xs)

  pub push_old : (w : Item V) (xs : List (Item V)) (y : Item V) → Member y xs → Member y (push xs w)
  push_old w [] y m = absurd m
  push_old w (x ∷ xs) y m = ⊎_elim (λ e. inl e) (λ k. inr (push_old w xs y k)) m

  pub push_cases : (w : Item V) (xs : List (Item V)) (y : Item V) → Member y (push xs w) → (y ≡ w) ⊎ Member y xs
  push_cases w [] y = ⊎_elim (λ e. inl e) (λ m. absurd m)
  push_cases w (x ∷ xs) y = ⊎_elim (λ e. inr (inl e)) (λ k. ⊎_elim (λ e. inl e) (λ m. inr (inr m)) (push_cases w xs y k))

  push_in_cases : (w : Item V) (xs : List (Item V)) (i : ℕ) → In i (ids (push xs w)) → (i ≡ w.id) ⊎ In i (ids xs)
  push_in_cases w xs i m =
      let f = item_of i (push xs w) m in
      ⊎_elim (λ e. inl (sym f.2 ∙ ap (λ z. z.id) e)) (λ k. inr (subst (λ j. In j (ids xs)) f.2 (in_ids f.0 xs k))) (push_cases w xs f.0 f.1)

  push_in : (w : Item V) (xs : List (Item V)) (i : ℕ) → In i (ids xs) → In i (ids (push xs w))
  push_in w xs i m = let f = item_of i xs m in subst (λ k. In k (ids (push xs w))) f.2 (in_ids f.0 (push xs w) (push_old w xs f.0 f.1))

  pub push_sorted : (w : Item V) (xs : List (Item V)) → ((y : Item V) → Member y xs → y.stamp < w.stamp) → Sorted xs → Sorted (push xs w)
  push_sorted w [] h s = ((λ y m. absurd m), tt)
  push_sorted w (x ∷ xs) h s = (
    (λ y m. ⊎_elim (λ e. let k = ap (λ z. z.stamp) e in let l = h x (inl refl) in (omega arith, λ _. omega arith)) (λ k. s.0 y k) (push_cases w xs y m)),
    push_sorted w xs (λ y m. h y (inr m)) s.1,
  )

  pub push_once : (w : Item V) (xs : List (Item V)) → (In w.id (ids xs) → ⊥) → Once (ids xs) → Once (ids (push xs w))
  push_once w [] new o = ((λ m. m), tt)
  push_once w (x ∷ xs) new o =
      ((λ m. ⊎_elim (λ e. new (inl (sym e))) (λ k. o.0 k) (push_in_cases w xs x.id m)), push_once w xs (λ m. new (inr m)) o.1)

  pub push_before : (w : Item V) (xs : List (Item V)) (i j : ℕ) → Before (ids xs) i j → Before (ids (push xs w)) i j
  push_before w [] i j b = absurd b
  push_before w (x ∷ xs) i j b = ⊎_elim (λ h. inl (h.0, push_in w xs j h.1)) (λ h. inr (push_before w xs i j h)) b

  pub push_after : (w : Item V) (xs : List (Item V)) (y : Item V) → Member y xs → Before (ids (push xs w)) y.id w.id
  push_after w [] y m = absurd m
  push_after w (x ∷ xs) y m =
      ⊎_elim (λ e. inl (ap (λ z. z.id) e, in_ids w (push xs w) (push_new w xs))) (λ k. inr (push_after w xs y k)) m

  pub push_right : (w : Item V) (v : V) (xs : List (Item V)) → w.writing ≡ true → Right v xs → Right v (push xs w)
  push_right w v [] q h = ((λ e. absurd (true≢false (sym q ∙ e))), tt)
  push_right w v (x ∷ xs) q h = (h.0, push_right w (carry x v) xs q h.1)
