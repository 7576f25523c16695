-- Runs that grow at their end: which operations are open, and which have ended. Assumes nothing.
use Rattle.std.proofs.Common.{◌≡◌, ℕ, zero, suc, ◌<◌, ◌⊎◌, List, [], ◌∷◌, ◌++◌, length, Some, None, Option, sym, refl, ap, ◌∙◌, subst, inl, inr, ⊎_elim, suc-le-suc, arith, length-append}
use Rattle.std.proofs.lemmas.Bool.{cases_order, cases_eq}
use Rattle.atomicity.specs.Marks.{Mark, Summary, look, at, begins, finishes}
use Rattle.atomicity.specs.Claims.{Ends}
use Rattle.atomicity.proofs.Facts.{Member, changed, changed_same, changed_other, some_inj, none≢some}

-- a finished operation: where it began and ended, its timestamp, and the quorum that acknowledged it
pub record Done : Type 0 where
  pub id : ℕ
  pub end : ℕ
  pub stamp : ℕ
  pub set : ℕ

-- ---- questions of a list that grows at its end

module _ {E : Type 0} where
  abbrev pub then_event : List E → E → List E
  then_event tr e = tr ++ (e ∷ [])

  pub length_then : (tr : List E) (e : E) → length (then_event tr e) ≡ suc (length tr)
  length_then tr e = let k = length-append tr (e ∷ []) in omega arith

  module _ {A : Type 0} (f : E → Option A) where
    pub at_lt : (tr : List E) (i : ℕ) {x : A} → look f tr i ≡ Some x → i < length tr
    at_lt [] i h = absurd (none≢some h)
    at_lt (e ∷ tr) zero h = omega arith
    at_lt (e ∷ tr) (suc i) h = suc-le-suc (at_lt tr i h)

    pub at_keep : (tr : List E) (e : E) (i : ℕ) {x : A} → look f tr i ≡ Some x → look f (then_event tr e) i ≡ Some x
    at_keep [] e i h = absurd (none≢some h)
    at_keep (y ∷ tr) e zero h = h
    at_keep (y ∷ tr) e (suc i) h = at_keep tr e i h

    pub at_new : (tr : List E) (e : E) → look f (then_event tr e) (length tr) ≡ f e
    at_new [] e = refl
    at_new (y ∷ tr) e = at_new tr e

    pub at_cases : (tr : List E) (e : E) (i : ℕ) {x : A} → look f (then_event tr e) i ≡ Some x → (look f tr i ≡ Some x) ⊎ ((i ≡ length tr) × (f e ≡ Some x))
    at_cases [] e zero h = inr (refl, h)
    at_cases [] e (suc i) h = absurd (none≢some h)
    at_cases (y ∷ tr) e zero h = inl h
    at_cases (y ∷ tr) e (suc i) h = ⊎_elim (λ k. inl k) (λ k. inr (ap suc k.0, k.1)) (at_cases tr e i h)

    -- at an event of which nothing is asked
    pub at_back : (tr : List E) (e : E) (i : ℕ) {x : A} → f e ≡ None → look f (then_event tr e) i ≡ Some x → look f tr i ≡ Some x
    at_back tr e i n h = ⊎_elim (λ k. k) (λ k. absurd (none≢some (sym n ∙ k.1))) (at_cases tr e i h)

    pub at_early : (tr : List E) (e : E) (i : ℕ) {x : A} → i < length tr → look f (then_event tr e) i ≡ Some x → look f tr i ≡ Some x
    at_early tr e i lt h = ⊎_elim (λ k. k) (λ k. absurd (let z = k.0 in omega arith)) (at_cases tr e i h)

-- ---- operations

module _ {S : Type 0} where
  -- a question about marks, of a summary
  abbrev pub of : {A : Type 0} → (Mark S → Option A) → Summary S → Option A
  of f e = f e.mark

  pub ends_keep : (tr : List (Summary S)) (e : Summary S) (i j : ℕ) → Ends tr i j → Ends (then_event tr e) i j
  ends_keep tr e i j h = record {
    who = h.who;
    begun = at_keep (of begins) tr e i h.begun;
    later = h.later;
    ended = at_keep (of finishes) tr e j h.ended;
    first = λ k l m q. h.first k l m (at_early (of finishes) tr e k (let z = at_lt (of finishes) tr j h.ended in omega arith) q);
  }

  -- a finish that is not the last event's
  pub ends_back : (tr : List (Summary S)) (e : Summary S) (i j : ℕ) → (h : Ends (then_event tr e) i j) → at finishes tr j ≡ Some h.who → Ends tr i j
  ends_back tr e i j h ends = record {
    who = h.who;
    begun = at_early (of begins) tr e i (let z = at_lt (of finishes) tr j ends in let y = h.later in omega arith) h.begun;
    later = h.later;
    ended = ends;
    first = λ k l m q. h.first k l m (at_keep (of finishes) tr e k q);
  }

  -- an operation finishes but once
  pub ends_once : (tr : List (Summary S)) (i j k : ℕ) → Ends tr i j → Ends tr i k → j ≡ k
  ends_once tr i j k f g = ⊎_elim (λ e. e) (⊎_elim (λ lt. absurd (g.first j f.later lt (f.ended ∙ sym same))) (λ lt. absurd (f.first k g.later lt (g.ended ∙ same)))) (cases_order j k)
    where
      same : Some g.who ≡ Some f.who
      same = sym g.begun ∙ f.begun

  pub record Tracked (tr : List (Summary S)) (Open : ℕ → Type 0) (began : ℕ → ℕ) (ds : List Done) : Type 0 where
    pub open_now : (c i : ℕ) → at begins tr i ≡ Some c → ((k : ℕ) → i < k → at finishes tr k ≡ Some c → ⊥) → Open c × (i ≡ began c)
    pub open_begun : (c : ℕ) → Open c → (at begins tr (began c) ≡ Some c) × ((k : ℕ) → began c < k → at finishes tr k ≡ Some c → ⊥)
    pub done_fin : (d : Done) → Member d ds → Ends tr d.id d.end
    pub fin_done : (i j : ℕ) → Ends tr i j → (d : Done) × Member d ds × (d.id ≡ i) × (d.end ≡ j)

  module _ (tr : List (Summary S)) (Open Open' : ℕ → Type 0) (began : ℕ → ℕ) (ds : List Done) (h : Tracked tr Open began ds) (e : Summary S) where
    pub tracked_plain : begins e.mark ≡ None → finishes e.mark ≡ None → ((c : ℕ) → Open c → Open' c) → ((c : ℕ) → Open' c → Open c) → Tracked (then_event tr e) Open' began ds
    tracked_plain nb nf f g = record {
      open_now = λ c i b q. let r = h.open_now c i (at_back (of begins) tr e i nb b) (λ k l m. q k l (at_keep (of finishes) tr e k m)) in (f c r.0, r.1);
      open_begun = λ c o. let r = h.open_begun c (g c o) in (at_keep (of begins) tr e (began c) r.0, λ k l m. r.1 k l (at_back (of finishes) tr e k nf m));
      done_fin = λ d m. ends_keep tr e d.id d.end (h.done_fin d m);
      fin_done = λ i j p. h.fin_done i j (ends_back tr e i j p (at_back (of finishes) tr e j nf p.ended));
    }

    pub tracked_begin : (c : ℕ) → begins e.mark ≡ Some c → finishes e.mark ≡ None → (Open c → ⊥) → Open' c → ((d : ℕ) → (d ≡ c → ⊥) → Open d → Open' d) → ((d : ℕ) → (d ≡ c → ⊥) → Open' d → Open d)
        → Tracked (then_event tr e) Open' (changed began c (length tr)) ds
    tracked_begin c sb nf shut o f g = record {
      open_now = now;
      open_begun = λ d o'. begun d (⊎_elim (λ k. inl k) (λ n. inr n) (cases_eq d c)) o';
      done_fin = λ d m. ends_keep tr e d.id d.end (h.done_fin d m);
      fin_done = λ i j p. h.fin_done i j (ends_back tr e i j p (at_back (of finishes) tr e j nf p.ended));
    }
      where
        now : (d i : ℕ) → at begins (then_event tr e) i ≡ Some d → ((k : ℕ) → i < k → at finishes (then_event tr e) k ≡ Some d → ⊥) → Open' d × (i ≡ changed began c (length tr) d)
        now d i b q =
            ⊎_elim
            (λ old. let r = h.open_now d i old (λ k l m. q k l (at_keep (of finishes) tr e k m)) in
            let n : d ≡ c → ⊥ = λ z. shut (subst Open z r.0) in
            (f d n r.0, r.1 ∙ sym (changed_other began c (length tr) d n)))
            (λ new. let z : c ≡ d = some_inj (sym sb ∙ new.1) in
            (subst Open' z o, new.0 ∙ sym (changed_same began c (length tr)) ∙ ap (changed began c (length tr)) z))
            (at_cases (of begins) tr e i b)

        begun : (d : ℕ) → (d ≡ c) ⊎ (d ≡ c → ⊥) → Open' d
            → (at begins (then_event tr e) (changed began c (length tr) d) ≡ Some d) × ((k : ℕ) → changed began c (length tr) d < k → at finishes (then_event tr e) k ≡ Some d → ⊥)
        begun d (inl z) o' =
            let u : changed began c (length tr) d ≡ length tr = ap (changed began c (length tr)) z ∙ changed_same began c (length tr) in (
              ap (at begins (then_event tr e)) u ∙ at_new (of begins) tr e ∙ sb ∙ ap Some (sym z),
              λ k l m. let w = at_lt (of finishes) (then_event tr e) k m in let v = length_then tr e in omega arith,
            )
        begun d (inr n) o' =
            let u = changed_other began c (length tr) d n in
            let r = h.open_begun d (g d n o') in (
              ap (at begins (then_event tr e)) u ∙ at_keep (of begins) tr e (began d) r.0,
              λ k l m. r.1 k (let w = u in omega arith) (at_back (of finishes) tr e k nf m),
            )

    pub tracked_finish : (c : ℕ) → begins e.mark ≡ None → finishes e.mark ≡ Some c → Open c → (Open' c → ⊥) → ((d : ℕ) → (d ≡ c → ⊥) → Open d → Open' d) → ((d : ℕ) → Open' d → Open d)
        → (x : Done) → x.id ≡ began c → x.end ≡ length tr → Tracked (then_event tr e) Open' began (x ∷ ds)
    tracked_finish c nb sf o shut f g x xi xe = record {
      open_now = λ d i b q.
          let old = at_back (of begins) tr e i nb b in
          let r = h.open_now d i old (λ k l m. q k l (at_keep (of finishes) tr e k m)) in
          let n : d ≡ c → ⊥ = λ z. q (length tr) (at_lt (of begins) tr i old) (at_new (of finishes) tr e ∙ sf ∙ ap Some (sym z)) in
          (f d n r.0, r.1);
      open_begun = λ d o'.
          let r = h.open_begun d (g d o') in
          let n : d ≡ c → ⊥ = λ z. shut (subst Open' z o') in (
            at_keep (of begins) tr e (began d) r.0,
            λ k l m. ⊎_elim (λ old. r.1 k l old) (λ new. n (some_inj (sym new.1 ∙ sf))) (at_cases (of finishes) tr e k m),
          );
      done_fin = λ d. ⊎_elim (λ z. subst (λ w. Ends (then_event tr e) w.id w.end) (sym z) own) (λ m. ends_keep tr e d.id d.end (h.done_fin d m));
      fin_done = λ i j p. ⊎_elim
          (λ old. let r = h.fin_done i j (ends_back tr e i j p old) in (r.0, inr r.1, r.2, r.3))
          (λ new. (x, inl refl, xi ∙ sym (last i j p new.0 (some_inj (sym new.1 ∙ sf))), xe ∙ sym new.0))
          (at_cases (of finishes) tr e j p.ended);
    }
      where
        own : Ends (then_event tr e) x.id x.end
        own = let r = h.open_begun c o in record {
          who = c;
          begun = ap (at begins (then_event tr e)) xi ∙ at_keep (of begins) tr e (began c) r.0;
          later = let w = at_lt (of begins) tr (began c) r.0 in omega arith;
          ended = ap (at finishes (then_event tr e)) xe ∙ at_new (of finishes) tr e ∙ sf;
          first = λ k l m q. r.1 k (omega arith) (at_early (of finishes) tr e k (omega arith) q);
        }

        last : (i j : ℕ) (p : Ends (then_event tr e) i j) → j ≡ length tr → p.who ≡ c → i ≡ began c
        last i j p z w =
            (h.open_now c i (at_early (of begins) tr e i (let y = p.later in omega arith) p.begun ∙ ap Some w)
            (λ k l m. p.first k l (let y = at_lt (of finishes) tr k m in omega arith) (at_keep (of finishes) tr e k m ∙ ap Some (sym w)))).1
