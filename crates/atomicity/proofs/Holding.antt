-- What a reader is handed is what its last read gave: beside a run that grows. Assumes nothing.
use Rattle.std.proofs.Common.{◌≡◌, ℕ, ◌<◌, List, length, Some, None, Option, sym, ap, ◌∙◌, ⊎_elim, arith}
use Rattle.std.specs.Option.{option_map}
use Rattle.cluster.specs.declared.completed_read.CompletedRead.{CompletedRead}
use Rattle.atomicity.specs.Marks.{Summary, at, finishes, gives, collects, collector}
use Rattle.atomicity.specs.Claims.{HandsOut}
use Rattle.atomicity.proofs.Facts.{some_inj}
use Rattle.atomicity.proofs.Trace.{of, then_event, at_lt, at_keep, at_new, at_cases, at_back, at_early}

-- H c is what waits for the reader c
pub record Holding {S : Type 0} (tr : List (Summary S)) (H : ℕ → Option (CompletedRead S)) : Type 0 where
  pub kept : (j c : ℕ) (z : CompletedRead S) → at finishes tr j ≡ Some c → at gives tr j ≡ Some z
      → ((i : ℕ) → j < i → at finishes tr i ≡ Some c → ⊥) → ((i : ℕ) → j < i → at collector tr i ≡ Some c → ⊥) → H c ≡ Some z
  pub out : HandsOut tr

module _ {S : Type 0} (tr : List (Summary S)) (H H' : ℕ → Option (CompletedRead S)) (h : Holding tr H) (e : Summary S) where
  -- what was handed out before the last event
  out_old : (j l c : ℕ) (z : CompletedRead S) → at finishes (then_event tr e) j ≡ Some c → at gives (then_event tr e) j ≡ Some z → j < l → at collector tr l ≡ Some c
      → ((i : ℕ) → j < i → i < l → at finishes (then_event tr e) i ≡ Some c → ⊥) → ((i : ℕ) → j < i → i < l → at collector (then_event tr e) i ≡ Some c → ⊥)
      → at collects (then_event tr e) l ≡ Some (c, z)
  out_old j l c z f g lt q nf nc = let b = at_lt (of collector) tr l q in
      at_keep (of collects) tr e l (h.out j l c z (at_early (of finishes) tr e j (omega arith) f) (at_early (of gives) tr e j (omega arith) g) lt q
      (λ i a b m. nf i a b (at_keep (of finishes) tr e i m)) (λ i a b m. nc i a b (at_keep (of collector) tr e i m)))

  -- a read that ended before the last event, and after which nothing ended or was handed out
  kept_old : (j c : ℕ) (z : CompletedRead S) → at finishes (then_event tr e) j ≡ Some c → at gives tr j ≡ Some z
      → ((i : ℕ) → j < i → i < length tr → at finishes (then_event tr e) i ≡ Some c → ⊥) → ((i : ℕ) → j < i → i < length tr → at collector (then_event tr e) i ≡ Some c → ⊥) → H c ≡ Some z
  kept_old j c z f g a b = h.kept j c z (at_early (of finishes) tr e j (at_lt (of gives) tr j g) f) g
      (λ i l m. a i l (at_lt (of finishes) tr i m) (at_keep (of finishes) tr e i m)) (λ i l m. b i l (at_lt (of collector) tr i m) (at_keep (of collector) tr e i m))

  -- nothing is handed out, and no read ends
  pub holding_plain : ((d : ℕ) → H' d ≡ H d) → collects e.mark ≡ None → gives e.mark ≡ None → Holding (then_event tr e) H'
  holding_plain same nc ng = record {
    kept = λ j c z f g a b. same c ∙ kept_old j c z f (at_back (of gives) tr e j ng g) (λ i l _. a i l) (λ i l _. b i l);
    out = λ j l c z f g lt q a b. out_old j l c z f g lt (at_back (of collector) tr e l (ap (option_map (λ p. p.0)) nc) q) a b;
  }

  -- a read ends
  pub holding_put : (c : ℕ) (z : CompletedRead S) → ((d : ℕ) → (d ≡ c → ⊥) → H' d ≡ H d) → H' c ≡ Some z → collects e.mark ≡ None → finishes e.mark ≡ Some c → gives e.mark ≡ Some z
      → Holding (then_event tr e) H'
  holding_put c z other own nc fc gz = record {
    kept = λ j d y f g a b. ⊎_elim
        (λ old. let n : d ≡ c → ⊥ = λ x. a (length tr) (at_lt (of gives) tr j old) (at_new (of finishes) tr e ∙ fc ∙ ap (λ i. Some i) (sym x)) in
        other d n ∙ kept_old j d y f old (λ i l _. a i l) (λ i l _. b i l))
        (λ new. let x : c ≡ d = some_inj (sym fc ∙ sym (at_new (of finishes) tr e) ∙ ap (at finishes (then_event tr e)) (sym new.0) ∙ f) in
        ap H' (sym x) ∙ own ∙ sym gz ∙ new.1)
        (at_cases (of gives) tr e j g);
    out = λ j l d y f g lt q a b. out_old j l d y f g lt (at_back (of collector) tr e l (ap (option_map (λ p. p.0)) nc) q) a b;
  }

  -- a completed read is handed out
  pub holding_take : (c : ℕ) (z : CompletedRead S) → ((d : ℕ) → (d ≡ c → ⊥) → H' d ≡ H d) → H c ≡ Some z → gives e.mark ≡ None → collects e.mark ≡ Some (c, z)
      → Holding (then_event tr e) H'
  holding_take c z other has ng cz = record {
    kept = λ j d y f g a b. let g' = at_back (of gives) tr e j ng g in
        let n : d ≡ c → ⊥ = λ x. b (length tr) (at_lt (of gives) tr j g') (at_new (of collector) tr e ∙ taker ∙ ap (λ i. Some i) (sym x)) in
        other d n ∙ kept_old j d y f g' (λ i l _. a i l) (λ i l _. b i l);
    out = λ j l d y f g lt q a b. ⊎_elim
        (λ old. out_old j l d y f g lt old a b)
        (λ new. let x : c ≡ d = some_inj (sym taker ∙ new.1) in
        let r = kept_old j d y f (at_back (of gives) tr e j ng g) (λ i m o. a i m (let t = new.0 in omega arith)) (λ i m o. b i m (let t = new.0 in omega arith)) in
        ap (at collects (then_event tr e)) new.0 ∙ at_new (of collects) tr e ∙ cz ∙ pair x (some_inj (sym has ∙ ap H x ∙ r)))
        (at_cases (of collector) tr e l q);
  }
    where
      taker : collector e.mark ≡ Some c
      taker = ap (option_map (λ p. p.0)) cz

      pair : {c d : ℕ} {y z : CompletedRead S} → c ≡ d → z ≡ y → ◌≡◌ {A = Option (ℕ × CompletedRead S)} (Some (c, z)) (Some (d, y))
      pair p q = λ i. Some (p i, q i)
