-- A run that grows by a call. Assumes nothing.
use Rattle.std.proofs.Common.{◌≡◌, ℕ, ◌+◌, ◌^◌, ◌<◌, ◌≤◌, List, [], ◌∷◌, ◌++◌, map, length, get_or, take, Result, sym, refl, ap, ◌∙◌, subst, ap₂, take_all}
use Rattle.std.specs.List.{AllByRecursion}
use Rattle.std.proofs.lemmas.List.{take_more, map-append}
use Rattle.settings.specs.Kinds.{Kind}
use Rattle.cluster.specs.State.{State}
use Rattle.cluster.specs.Refusals.{numbered}
use Rattle.cluster.specs.declared.refusal.Refusal.{Refusal}
use Rattle.atomicity.specs.declared.call.Call.{Call}
use Rattle.atomicity.specs.declared.answer.Answer.{Answer}
use Rattle.atomicity.specs.Runs.{Event, step, event, trace}
use Rattle.atomicity.specs.Simulations.{Steps, Ran, final}

all_push : {A : Type 0} (P : A → Type 0) (xs : List A) (x : A) → AllByRecursion P xs → P x → AllByRecursion P (xs ++ (x ∷ []))
all_push P [] x h p = (p, tt)
all_push P (y ∷ ys) x h p = (h.0, all_push P ys x h.1 p)

module _ {S : Type 0} (k : Kind S) where
  trace_push : (s : State) (cs : List (Call S × ℕ)) (c : Call S × ℕ) → trace k s (cs ++ (c ∷ [])) ≡ trace k s cs ++ (event k (final k s cs) c.0 c.1 ∷ [])
  trace_push s [] c = refl
  trace_push s (d ∷ cs) c = ap (λ es. event k s d.0 d.1 ∷ es) (trace_push (step k s d.0 d.1).1 cs c)

  final_push : (s : State) (cs : List (Call S × ℕ)) (c : Call S × ℕ) → final k s (cs ++ (c ∷ [])) ≡ (step k (final k s cs) c.0 c.1).1
  final_push s [] c = refl
  final_push s (d ∷ cs) c = final_push (step k s d.0 d.1).1 cs c

  -- no call yet
  pub ran_start : (s : State) (bs : List (Result (Answer S) Refusal)) → bs ≡ [] → Ran k s [] (map numbered bs) s
  ran_start s bs e = record { tagged = []; called = refl; narrow = tt; answered = ap (map numbered) (sym e); ended = refl }

  -- one call more
  ran_push : (s t u : State) (cs : List (Call S)) (xs : List (Result (Answer S) ℕ)) (c : Call S) (a : Result (Answer S) ℕ) →
      Ran k s cs xs t → Steps k t c a u → Ran k s (cs ++ (c ∷ [])) (xs ++ (a ∷ [])) u
  ran_push s t u cs xs c a r h =
      let here : step k (final k s r.tagged) c h.tag ≡ (a, u) = ap (λ x. step k x c h.tag) r.ended ∙ h.goes in
      record {
        tagged = r.tagged ++ ((c, h.tag) ∷ []);
        called = map-append (λ x. x.0) r.tagged ((c, h.tag) ∷ []) ∙ ap (λ xs. xs ++ (c ∷ [])) r.called;
        narrow = all_push (λ (x : Call S × ℕ). x.1 < 2 ^ 32) r.tagged (c, h.tag) r.narrow h.narrow;
        answered =
            ap (map (λ (e : Event S). e.answer)) (trace_push s r.tagged (c, h.tag))
            ∙ map-append (λ (e : Event S). e.answer) (trace k s r.tagged) (event k (final k s r.tagged) c h.tag ∷ [])
            ∙ ap₂ (λ xs x. xs ++ (x ∷ [])) r.answered (ap (λ o. o.0) here);
        ended = final_push s r.tagged (c, h.tag) ∙ ap (λ o. o.1) here;
      }

  -- one turn of the loop over the calls
  pub ran_more : (s t u : State) (cs : List (Call S)) (bs bs' : List (Result (Answer S) Refusal)) (i : ℕ) (c : Call S) (a : Result (Answer S) Refusal) →
      i < length cs → c ≡ get_or cs i c → bs' ≡ bs ++ (a ∷ []) → Ran k s (take i cs) (map numbered bs) t → Steps k t c (numbered a) u → Ran k s (take (i + 1) cs) (map numbered bs') u
  ran_more s t u cs bs bs' i c a l e eb r h =
      let calls : take (i + 1) cs ≡ take i cs ++ (c ∷ []) = take_more cs i c l ∙ ap (λ x. take i cs ++ (x ∷ [])) (sym e) in
      let answers : map numbered bs' ≡ map numbered bs ++ (numbered a ∷ []) = ap (map numbered) eb ∙ map-append numbered bs (a ∷ []) in
      subst (λ x. Ran k s x (map numbered bs') u) (sym calls) (subst (λ x. Ran k s (take i cs ++ (c ∷ [])) x u) (sym answers) (ran_push s t u (take i cs) (map numbered bs) c (numbered a) r h))

  -- all calls are made
  pub ran_all : (s t : State) (cs : List (Call S)) (xs : List (Result (Answer S) ℕ)) (i : ℕ) → length cs ≤ i → Ran k s (take i cs) xs t → Ran k s cs xs t
  ran_all s t cs xs i l r = subst (λ x. Ran k s x xs t) (take_all i cs l) r
