-- Small facts about lists, tables as functions, options and phases. Assumes nothing.
use Rattle.std.proofs.Common.{◌≡◌, ℕ, zero, suc, ◌<◌, Bool, true, false, cond, eqb, ◌⊎◌, List, [], ◌∷◌, ◌++◌, length, get_or, set, Some, None, Option, sym, refl, ap, ◌∙◌, inl, inr, ⊎_elim, le_of_suc-le-suc, arith, get_or-set_other, get_or-set_same}
use Rattle.std.proofs.lemmas.Bool.{eqb-true, eqb-false}
use Rattle.std.specs.List.{remove}
use Rattle.protocol.specs.declared.client.Phase.TheVariants.{Idle, Querying, Storing}
use Rattle.atomicity.specs.Marks.{look}

pub storing≢querying : Storing ≡ Querying → ⊥
storing≢querying e = let z : ◌≡◌ {A = ℕ} 0 1 = cc in omega arith

pub querying≢storing : Querying ≡ Storing → ⊥
querying≢storing e = storing≢querying (sym e)

pub idle≢querying : Idle ≡ Querying → ⊥
idle≢querying e = let z : ◌≡◌ {A = ℕ} 0 1 = cc in omega arith

pub idle≢storing : Idle ≡ Storing → ⊥
idle≢storing e = let z : ◌≡◌ {A = ℕ} 0 1 = cc in omega arith

module _ {A : Type 0} where
  pub some_inj : {a b : A} → Some a ≡ Some b → a ≡ b
  some_inj e = cc

  pub none≢some : {a : A} → None ≡ Some a → ⊥
  none≢some e = let z : ◌≡◌ {A = ℕ} 0 1 = cc in omega arith

  -- ---- a function that is changed at one place

  abbrev pub changed : (ℕ → A) → ℕ → A → ℕ → A
  changed f c x d = cond (eqb d c) x (f d)

  pub changed_way : (P : A → Type 0) (f : ℕ → A) (c : ℕ) (x : A) (d : ℕ) → (d ≡ c → P x) → ((d ≡ c → ⊥) → P (f d)) → P (changed f c x d)
  changed_way P f c x d h k = go (eqb d c) refl
    where
      go : (b : Bool) → eqb d c ≡ b → P (cond b x (f d))
      go true e = h (eqb-true d c e)
      go false e = k (eqb-false d c e)

  pub changed_same : (f : ℕ → A) (c : ℕ) (x : A) → changed f c x c ≡ x
  changed_same f c x = changed_way (λ z. z ≡ x) f c x c (λ _. refl) (λ n. absurd (n refl))

  pub changed_other : (f : ℕ → A) (c : ℕ) (x : A) (d : ℕ) → (d ≡ c → ⊥) → changed f c x d ≡ f d
  changed_other f c x d n = changed_way (λ z. z ≡ f d) f c x d (λ e. absurd (n e)) (λ _. refl)

  pub get_or_changed : (xs : List A) (k : ℕ) (a d : A) → k < length xs → (j : ℕ) → get_or (set xs k a) j d ≡ changed (λ i. get_or xs i d) k a j
  get_or_changed xs k a d h j = changed_way (λ z. get_or (set xs k a) j d ≡ z) (λ i. get_or xs i d) k a j
      (λ e. ap (λ i. get_or (set xs k a) i d) e ∙ get_or-set_same xs k a d h) (λ n. get_or-set_other xs k j a d n)

  -- ---- lists

  abbrev pub Member : A → List A → Type 0
  Member x [] = ⊥
  Member x (y ∷ ys) = (x ≡ y) ⊎ Member x ys

  -- the element at a place
  abbrev pub nth : List A → ℕ → Option A
  nth xs i = look (λ x. Some x) xs i

  pub member_snoc : (y : A) (xs : List A) (x : A) → Member x (xs ++ (y ∷ [])) → Member x xs ⊎ (x ≡ y)
  member_snoc y [] x = ⊎_elim (λ e. inr e) (λ m. absurd m)
  member_snoc y (z ∷ xs) x = ⊎_elim (λ e. inl (inl e)) (λ m. ⊎_elim (λ k. inl (inr k)) (λ e. inr e) (member_snoc y xs x m))

  pub nth_member : (xs : List A) (k : ℕ) {x : A} → nth xs k ≡ Some x → Member x xs
  nth_member [] k e = absurd (none≢some e)
  nth_member (y ∷ xs) zero e = inl (sym (some_inj e))
  nth_member (y ∷ xs) (suc k) e = inr (nth_member xs k e)

  pub nth_get_or : (xs : List A) (k : ℕ) (d : A) → k < length xs → nth xs k ≡ Some (get_or xs k d)
  nth_get_or [] k d h = absurd (omega arith)
  nth_get_or (x ∷ xs) zero d h = refl
  nth_get_or (x ∷ xs) (suc k) d h = nth_get_or xs k d (le_of_suc-le-suc h)

  pub member_removed : (xs : List A) (k : ℕ) (x : A) → Member x (remove xs k) → Member x xs
  member_removed [] zero x m = m
  member_removed [] (suc k) x m = m
  member_removed (y ∷ xs) zero x m = inr m
  member_removed (y ∷ xs) (suc k) x m = ⊎_elim (λ e. inl e) (λ r. inr (member_removed xs k x r)) m

  pub nth_is : (xs : List A) (k : ℕ) (d : A) {x : A} → nth xs k ≡ Some x → get_or xs k d ≡ x
  nth_is [] k d e = absurd (none≢some e)
  nth_is (y ∷ xs) zero d e = some_inj e
  nth_is (y ∷ xs) (suc k) d e = nth_is xs k d e
