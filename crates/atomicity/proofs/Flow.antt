-- Progress beside a run that grows: where the messages in flight come from, and whom an open phase has heard.
-- Assumes nothing.
use Rattle.std.proofs.Common.{◌≡◌, ℕ, zero, suc, ◌+◌, ◌<◌, ◌≤◌, true, false, ◌⊎◌, List, [], ◌∷◌, ◌++◌, length, take, Some, None, Option, sym, refl, ap, ◌∙◌, subst, inl, inr, ⊎_elim, arith}
use lib.Seq.{take-append_seam, take-append-le}
use Rattle.std.proofs.lemmas.Bool.{cases_lt, cases_Bool, both_ways, cases_eq, false≢true}
use Rattle.std.specs.List.{remove}
use Rattle.std.specs.Option.{option_or}
use Rattle.replica_sets.specs.Sets.{has, Below}
use Rattle.replica_sets.proofs.Members.{has_none}
use Rattle.quorums.specs.Systems.{Quorums, QuorumLaws}
use Rattle.quorums.proofs.Intersections.{correct_quorum, some_correct}
use Rattle.protocol.specs.declared.client.Phase.{Phase}
use Rattle.protocol.specs.declared.client.Phase.TheVariants.{Idle, Querying, Storing}
use Rattle.atomicity.specs.Marks.{Mark, Traffic, Summary, look, at, at_traffic, begins, finishes, reads, writes, turns, requests, replies}
use Rattle.atomicity.specs.Marks.Traffic.{ToReplica}
use Rattle.atomicity.specs.Claims.{Origin, walk, moved, Returned, Served, Progresses}
use Rattle.atomicity.specs.Claims.Origin.{SentAt, AnswerBy}
use Rattle.atomicity.proofs.Facts.{nth, some_inj, none≢some, idle≢querying, idle≢storing, querying≢storing}
use Rattle.atomicity.proofs.Trace.{of, then_event, length_then, at_lt, at_keep, at_new, at_cases, at_back}

-- a client's phase, its operation, whom it has heard in this phase, and the place at which the phase started
pub record Stage : Type 0 where
  pub phase : Phase
  pub op : ℕ
  pub heard : ℕ
  pub since : ℕ

-- ---- two lists side by side

module _ {A B : Type 0} where
  abbrev pub Beside : (A → B → Type 0) → List A → List B → Type 0
  Beside R [] [] = Unit {0}
  Beside R [] (m ∷ ms) = ⊥
  Beside R (o ∷ os) [] = ⊥
  Beside R (o ∷ os) (m ∷ ms) = R o m × Beside R os ms

  module _ (R : A → B → Type 0) where
    pub beside_message : (os : List A) (ms : List B) → Beside R os ms → (k : ℕ) {m : B} → nth ms k ≡ Some m → (o : A) × (nth os k ≡ Some o) × R o m
    beside_message [] [] p k e = absurd (none≢some e)
    beside_message [] (x ∷ ms) p k e = absurd p
    beside_message (o ∷ os) [] p k e = absurd p
    beside_message (o ∷ os) (x ∷ ms) p zero e = (o, refl, subst (R o) (some_inj e) p.0)
    beside_message (o ∷ os) (x ∷ ms) p (suc k) e = beside_message os ms p.1 k e

    pub beside_origin : (os : List A) (ms : List B) → Beside R os ms → (k : ℕ) {o : A} → nth os k ≡ Some o → (m : B) × (nth ms k ≡ Some m) × R o m
    beside_origin [] [] p k e = absurd (none≢some e)
    beside_origin [] (x ∷ ms) p k e = absurd p
    beside_origin (o ∷ os) [] p k e = absurd p
    beside_origin (o ∷ os) (x ∷ ms) p zero e = (x, refl, subst (λ z. R z x) (some_inj e) p.0)
    beside_origin (o ∷ os) (x ∷ ms) p (suc k) e = beside_origin os ms p.1 k e

    pub beside_snoc : (os : List A) (ms : List B) → Beside R os ms → (o : A) (m : B) → R o m → Beside R (os ++ (o ∷ [])) (ms ++ (m ∷ []))
    beside_snoc [] [] p o m r = (r, tt)
    beside_snoc [] (x ∷ ms) p o m r = absurd p
    beside_snoc (y ∷ os) [] p o m r = absurd p
    beside_snoc (y ∷ os) (x ∷ ms) p o m r = (p.0, beside_snoc os ms p.1 o m r)

    pub beside_removed : (os : List A) (ms : List B) → Beside R os ms → (k : ℕ) → Beside R (remove os k) (remove ms k)
    beside_removed [] [] p zero = tt
    beside_removed [] [] p (suc k) = tt
    beside_removed [] (x ∷ ms) p k = absurd p
    beside_removed (y ∷ os) [] p k = absurd p
    beside_removed (y ∷ os) (x ∷ ms) p zero = p.1
    beside_removed (y ∷ os) (x ∷ ms) p (suc k) = (p.0, beside_removed os ms p.1 k)

    pub beside_map : (R' : A → B → Type 0) → ((o : A) (m : B) → R o m → R' o m) → (os : List A) (ms : List B) → Beside R os ms → Beside R' os ms
    beside_map R' f [] [] p = tt
    beside_map R' f [] (x ∷ ms) p = absurd p
    beside_map R' f (y ∷ os) [] p = absurd p
    beside_map R' f (y ∷ os) (x ∷ ms) p = (f y x p.0, beside_map R' f os ms p.1)

-- ---- origins along a run

module _ {S : Type 0} where
  -- a question about traffic, of a summary
  abbrev pub of_traffic : {A : Type 0} → (Traffic → Option A) → Summary S → Option A
  of_traffic f e = f e.traffic

  walk_from : (i : ℕ) (os : List Origin) (tr : List (Summary S)) (e : Summary S) → walk i os (then_event tr e) ≡ moved (i + length tr) e.traffic (walk i os tr)
  walk_from i os [] e = ap (λ n. moved n e.traffic os) (let z : i ≡ i + 0 = omega arith in z)
  walk_from i os (x ∷ tr) e = walk_from (suc i) (moved i x.traffic os) tr e
      ∙ ap (λ n. moved n e.traffic (walk (suc i) (moved i x.traffic os) tr)) (let z : suc i + length tr ≡ i + suc (length tr) = omega arith in z)

  abbrev pub in_flight : List (Summary S) → ℕ → List Origin
  in_flight run j = walk 0 [] (take j run)

  abbrev pub flow : List (Summary S) → List Origin
  flow tr = walk 0 [] tr

  pub flow_then : (tr : List (Summary S)) (e : Summary S) → flow (then_event tr e) ≡ moved (length tr) e.traffic (flow tr)
  flow_then tr e = walk_from 0 [] tr e ∙ ap (λ n. moved n e.traffic (flow tr)) (let z : 0 + length tr ≡ length tr = omega arith in z)

  in_flight_old : (tr : List (Summary S)) (e : Summary S) (j : ℕ) → j < length tr → in_flight (then_event tr e) j ≡ in_flight tr j
  in_flight_old tr e j lt = ap (walk 0 []) (take-append-le j tr (e ∷ []) (omega arith))

  in_flight_now : (tr : List (Summary S)) (e : Summary S) → in_flight (then_event tr e) (length tr) ≡ flow tr
  in_flight_now tr e = ap (walk 0 []) (take-append_seam tr (e ∷ []))

  pub returned_cases : (tr : List (Summary S)) (e : Summary S) (i b : ℕ) → Returned (then_event tr e) i b
      → Returned tr i b ⊎ ((k : ℕ) × (replies e.traffic ≡ Some k) × (nth (flow tr) k ≡ Some (AnswerBy b (SentAt i))))
  returned_cases tr e i b (j, k, r, o) = ⊎_elim
      (λ old. inl (j, k, old, ap (λ l. nth l k) (sym (in_flight_old tr e j (at_lt (of_traffic replies) tr j old))) ∙ o))
      (λ new. inr (k, new.1, ap (λ l. nth l k) (sym (ap (in_flight (then_event tr e)) new.0 ∙ in_flight_now tr e)) ∙ o))
      (at_cases (of_traffic replies) tr e j r)

  abbrev pub Never : (Mark S → Option ℕ) → List (Summary S) → ℕ → ℕ → Type 0
  Never f tr i c = (j : ℕ) → i < j → at f tr j ≡ Some c → ⊥

  never_back : (f : Mark S → Option ℕ) (tr : List (Summary S)) (e : Summary S) (i c : ℕ) → Never f (then_event tr e) i c → Never f tr i c
  never_back f tr e i c n j lt m = n j lt (at_keep (of f) tr e j m)

  -- such an event comes later, or never
  later : (f : Mark S → Option ℕ) (tr : List (Summary S)) (i c : ℕ) → ((j : ℕ) × (i < j) × (at f tr j ≡ Some c)) ⊎ Never f tr i c
  later f tr i c = ⊎_elim (λ r. inl (r.0, r.2.0, r.2.1)) (λ g. inr (λ j lt m. g j (at_lt (of f) tr j m) (lt, m))) (find (length tr))
    where
      dec : (j : ℕ) → ((i < j) × (at f tr j ≡ Some c)) ⊎ ((i < j) × (at f tr j ≡ Some c) → ⊥)
      dec j = go (at f tr j) refl (cases_lt i j)
        where
          go : (o : Option ℕ) → at f tr j ≡ o → (i < j) ⊎ (j ≤ i) → ((i < j) × (at f tr j ≡ Some c)) ⊎ ((i < j) × (at f tr j ≡ Some c) → ⊥)
          go None e l = inr (λ p. none≢some (sym e ∙ p.1))
          go (Some d) e (inl l) = ⊎_elim (λ z. inl (l, e ∙ ap (λ i. Some i) z)) (λ n. inr (λ p. n (some_inj (sym e ∙ p.1)))) (cases_eq d c)
          go (Some d) e (inr l) = inr (λ p. let z = p.0 in omega arith)

      find : (n : ℕ) → ((j : ℕ) × (j < n) × ((i < j) × (at f tr j ≡ Some c))) ⊎ ((j : ℕ) → j < n → (i < j) × (at f tr j ≡ Some c) → ⊥)
      find zero = inr (λ j l. absurd (omega arith))
      find (suc n) = ⊎_elim (λ t. inl (n, omega arith, t))
          (λ g. ⊎_elim (λ r. inl (r.0, let z = r.1 in omega arith, r.2)) (λ k. inr (λ j l p. ⊎_elim (λ z. g (subst (λ w. (i < w) × (at f tr w ≡ Some c)) z p)) (λ z. k j (omega arith) p) (cases_eq j n))) (find n))
          (dec n)

  -- the client whose phase starts here
  abbrev pub starts : Mark S → Option ℕ
  starts m = option_or (begins m) (turns m)

-- ---- phases

-- what counts of a message: the replica that a reply comes from, the client that it comes from or goes to, the operation, and the phase that it belongs to
pub record Note : Type 0 where
  pub from : Option ℕ
  pub to : ℕ
  pub number : ℕ
  pub phase : Phase

-- the empty set is no quorum
empty : (q : Quorums) → QuorumLaws q → q.quorum 0 ≡ false
empty q laws = ⊎_elim (λ t. let r = some_correct q laws 0 0 t laws.none_faulty in absurd (false≢true (sym (has_none r.0) ∙ r.2))) (λ f. f) (cases_Bool (q.quorum 0))

abbrev pub Busy : Stage → Type 0
Busy x = x.phase ≡ Idle → ⊥

module _ {S M : Type 0} (about : M → Note) (q : Quorums) (faulty : ℕ) where
  -- the message belongs to the phase that started at i, and where that is open it counts there
  abbrev pub Mine : List (Summary S) → (ℕ → Stage) → ℕ → M → Type 0
  Mine tr A i m = (at starts tr i ≡ Some (about m).to)
      × ((A (about m).to).since ≡ i → Busy (A (about m).to) → ((about m).number ≡ (A (about m).to).op) × ((about m).phase ≡ (A (about m).to).phase))

  abbrev pub Link : List (Summary S) → (ℕ → Stage) → Origin → M → Type 0
  Link tr A (SentAt i) m = ((about m).from ≡ None) × Mine tr A i m
  Link tr A (AnswerBy b (SentAt i)) m = ((about m).from ≡ Some b) × Mine tr A i m
  Link tr A (AnswerBy b (AnswerBy d o)) m = ⊥

  pub record Flow (tr : List (Summary S)) (A : ℕ → Stage) (ms : List M) : Type 0 where
    pub links : Beside (Link tr A) (flow tr) ms
    pub query_open : (i c : ℕ) → at reads tr i ≡ Some c → Never turns tr i c → ((A c).phase ≡ Querying) × ((A c).since ≡ i)
    pub store_open : (i c : ℕ) → at turns tr i ≡ Some c → Never finishes tr i c → ((A c).phase ≡ Storing) × ((A c).since ≡ i)
    pub write_open : (i : ℕ) (v : S) → at writes tr i ≡ Some v → Never finishes tr i 0 → ((A 0).phase ≡ Storing) × ((A 0).since ≡ i)
    pub started : (c : ℕ) → Busy (A c) → at starts tr (A c).since ≡ Some c
    pub told : (c : ℕ) → Busy (A c) → (b : ℕ) → Returned tr (A c).since b → has (A c).heard b ≡ true
    pub known : (i b : ℕ) → Returned tr i b → i < length tr
    pub short : (c : ℕ) → Busy (A c) → (q.quorum (A c).heard ≡ false) × Below q.size (A c).heard
    pub prompt : (j k b : ℕ) → at_traffic requests tr j ≡ Some (k, b) → has faulty b ≡ false → look (λ e. Some e.traffic) tr j ≡ Some (ToReplica k b true)

  module _ (laws : QuorumLaws q) where
    module _ (tr : List (Summary S)) (A A' : ℕ → Stage) (ms : List M) (h : Flow tr A ms) (e : Summary S) where
      pub known_more : (i b : ℕ) → Returned (then_event tr e) i b → i < length (then_event tr e)
      known_more i b p = let l = length_then tr e in ⊎_elim (λ old. let z = h.known i b old in omega arith) (λ new. at_link new) (returned_cases tr e i b p)
        where
          at_link : (k : ℕ) × (replies e.traffic ≡ Some k) × (nth (flow tr) k ≡ Some (AnswerBy b (SentAt i))) → i < length (then_event tr e)
          at_link (k, r, o) = let q = beside_origin (Link tr A) (flow tr) ms h.links k o in
              let z = at_lt (of starts) tr i q.2.1.0 in let l = length_then tr e in omega arith

      -- a party whose phase and number stay: what was linked is linked
      mine_same : ((d : ℕ) → ((A' d).phase ≡ (A d).phase) × ((A' d).op ≡ (A d).op) × ((A' d).since ≡ (A d).since))
          → (i : ℕ) (m : M) → Mine tr A i m → Mine (then_event tr e) A' i m
      mine_same s i m p = (
        at_keep (of starts) tr e i p.0,
        λ b o. let k = s (about m).to in
            let r = p.1 (sym k.2 ∙ b) (λ z. o (k.0 ∙ z)) in (r.0 ∙ sym k.1, r.1 ∙ sym k.0),
      )

      mine_new : (c : ℕ) → ((d : ℕ) → (d ≡ c → ⊥) → A' d ≡ A d) → ((A' c).phase ≡ Idle) ⊎ ((A' c).since ≡ length tr)
          → (i : ℕ) (m : M) → Mine tr A i m → Mine (then_event tr e) A' i m
      mine_new c other own i m p = (
        at_keep (of starts) tr e i p.0,
        λ b o. ⊎_elim
            (λ z. absurd (⊎_elim
            (λ idle. o (ap (λ d. (A' d).phase) z ∙ idle))
            (λ now. let l = at_lt (of starts) tr i p.0 in let y = ap (λ d. (A' d).since) z in omega arith) own))
            (λ n. let q = other (about m).to n in
            let r = p.1 (sym (ap (λ x. x.since) q) ∙ b) (λ z. o (ap (λ x. x.phase) q ∙ z)) in
            (r.0 ∙ sym (ap (λ x. x.op) q), r.1 ∙ sym (ap (λ x. x.phase) q)))
            (cases_eq (about m).to c),
      )

      link_by : ((i : ℕ) (m : M) → Mine tr A i m → Mine (then_event tr e) A' i m) → (o : Origin) (m : M) → Link tr A o m → Link (then_event tr e) A' o m
      link_by f (SentAt i) m p = (p.0, f i m p.1)
      link_by f (AnswerBy b (SentAt i)) m p = (p.0, f i m p.1)
      link_by f (AnswerBy b (AnswerBy d o)) m p = p

      prompt_more : ((k b : ℕ) → requests e.traffic ≡ Some (k, b) → has faulty b ≡ false → e.traffic ≡ ToReplica k b true)
          → (j k b : ℕ) → at_traffic requests (then_event tr e) j ≡ Some (k, b) → has faulty b ≡ false → look (λ x. Some x.traffic) (then_event tr e) j ≡ Some (ToReplica k b true)
      prompt_more f j k b r g = ⊎_elim
          (λ old. at_keep (λ x. Some x.traffic) tr e j (h.prompt j k b old g))
          (λ new. ap (look (λ x. Some x.traffic) (then_event tr e)) new.0 ∙ at_new (λ x. Some x.traffic) tr e ∙ ap (λ i. Some i) (f k b new.1 g))
          (at_cases (of_traffic requests) tr e j r)

      -- an event at which no phase starts or ends
      pub flow_plain : (ms' : List M) → reads e.mark ≡ None → writes e.mark ≡ None → turns e.mark ≡ None
          → ((d : ℕ) → ((A' d).phase ≡ (A d).phase) × ((A' d).op ≡ (A d).op) × ((A' d).since ≡ (A d).since))
          → (Beside (Link (then_event tr e) A') (flow tr) ms → Beside (Link (then_event tr e) A') (moved (length tr) e.traffic (flow tr)) ms')
          → ((c : ℕ) → Busy (A c) → (b : ℕ) → has (A c).heard b ≡ true → has (A' c).heard b ≡ true)
          → ((c b k : ℕ) → Busy (A c) → replies e.traffic ≡ Some k → nth (flow tr) k ≡ Some (AnswerBy b (SentAt (A c).since)) → has (A' c).heard b ≡ true)
          → ((c : ℕ) → Busy (A c) → (q.quorum (A' c).heard ≡ false) × Below q.size (A' c).heard)
          → ((k b : ℕ) → requests e.traffic ≡ Some (k, b) → has faulty b ≡ false → e.traffic ≡ ToReplica k b true)
          → Flow (then_event tr e) A' ms'
      flow_plain ms' nr nw nt s l grow new sh pr = record {
        links = subst (λ f. Beside (Link (then_event tr e) A') f ms') (sym (flow_then tr e)) (l (beside_map (Link tr A) (Link (then_event tr e) A') (link_by (mine_same s)) (flow tr) ms h.links));
        query_open = λ i c r n. let q = h.query_open i c (at_back (of reads) tr e i nr r) (never_back turns tr e i c n) in ((s c).0 ∙ q.0, (s c).2 ∙ q.1);
        store_open = λ i c r n. let q = h.store_open i c (at_back (of turns) tr e i nt r) (never_back finishes tr e i c n) in ((s c).0 ∙ q.0, (s c).2 ∙ q.1);
        write_open = λ i v r n. let q = h.write_open i v (at_back (of writes) tr e i nw r) (never_back finishes tr e i 0 n) in ((s 0).0 ∙ q.0, (s 0).2 ∙ q.1);
        started = λ c o. ap (at starts (then_event tr e)) (s c).2 ∙ at_keep (of starts) tr e (A c).since (h.started c (was c o));
        told = λ c o b p. ⊎_elim (λ old. grow c (was c o) b (h.told c (was c o) b old)) (λ z. new c b z.0 (was c o) z.1 z.2)
            (returned_cases tr e (A c).since b (subst (λ i. Returned (then_event tr e) i b) (s c).2 p));
        known = known_more;
        short = λ c o. sh c (was c o);
        prompt = prompt_more pr;
      }
        where
          was : (c : ℕ) → Busy (A' c) → Busy (A c)
          was c o z = o ((s c).0 ∙ z)

      -- nobody has answered what was not yet sent
      unheard : (b : ℕ) → Returned (then_event tr e) (length tr) b → ⊥
      unheard b p = ⊎_elim (λ old. let z = h.known (length tr) b old in omega arith) (λ new. at_link new) (returned_cases tr e (length tr) b p)
        where
          at_link : (k : ℕ) × (replies e.traffic ≡ Some k) × (nth (flow tr) k ≡ Some (AnswerBy b (SentAt (length tr)))) → ⊥
          at_link (k, r, o) = let q = beside_origin (Link tr A) (flow tr) ms h.links k o in let z = at_lt (of starts) tr (length tr) q.2.1.0 in omega arith

      -- an answer to another client's phase
      pub stranger : (c : ℕ) (b k : ℕ) → Busy (A c) → nth (flow tr) k ≡ Some (AnswerBy b (SentAt (A c).since))
          → (m : M) × (nth ms k ≡ Some m) × ((about m).from ≡ Some b) × ((about m).to ≡ c) × ((about m).number ≡ (A c).op) × ((about m).phase ≡ (A c).phase)
      stranger c b k o p =
          let q = beside_origin (Link tr A) (flow tr) ms h.links k p in
          let z : (about q.0).to ≡ c = some_inj (sym q.2.1.0 ∙ h.started c o) in
          let r = q.2.1.1 (ap (λ d. (A d).since) z) (subst (λ d. Busy (A d)) (sym z) o) in
          (q.0, q.1, q.2.0, z, r.0 ∙ ap (λ d. (A d).op) z, r.1 ∙ ap (λ d. (A d).phase) z)

      -- the client c starts a phase, and sends its message m
      pub flow_start : (c : ℕ) (m : M) → starts e.mark ≡ Some c → ((d : ℕ) → (d ≡ c → ⊥) → A' d ≡ A d) → (A' c).since ≡ length tr → (A' c).heard ≡ 0
          → ((about m).from ≡ None) → ((about m).to ≡ c) → ((about m).number ≡ (A' c).op) → ((about m).phase ≡ (A' c).phase)
          → moved (length tr) e.traffic (flow tr) ≡ flow tr ++ (SentAt (length tr) ∷ [])
          → ((i : ℕ) → i < length tr → Never turns (then_event tr e) i c → (A c).phase ≡ Querying → ⊥)
          → ((A c).phase ≡ Storing → ⊥)
          → ((d : ℕ) → reads e.mark ≡ Some d → (d ≡ c) × ((A' c).phase ≡ Querying))
          → ((d : ℕ) → turns e.mark ≡ Some d → (d ≡ c) × ((A' c).phase ≡ Storing))
          → ((v : S) → writes e.mark ≡ Some v → (0 ≡ c) × ((A' c).phase ≡ Storing))
          → ((d b k : ℕ) → (d ≡ c → ⊥) → Busy (A d) → replies e.traffic ≡ Some k → nth (flow tr) k ≡ Some (AnswerBy b (SentAt (A d).since)) → ⊥)
          → ((k b : ℕ) → requests e.traffic ≡ Some (k, b) → has faulty b ≡ false → e.traffic ≡ ToReplica k b true)
          → Flow (then_event tr e) A' (ms ++ (m ∷ []))
      flow_start c m sc other now zero_heard ms_None ms_c ms_o ms_k mv nq ns newq newt neww strange pr = record {
        links = subst (λ f. Beside (Link (then_event tr e) A') f (ms ++ (m ∷ []))) (sym (flow_then tr e ∙ mv))
            (beside_snoc (Link (then_event tr e) A') (flow tr) ms
            (beside_map (Link tr A) (Link (then_event tr e) A') (link_by (mine_new c other (inr now))) (flow tr) ms h.links)
            (SentAt (length tr)) m own);
        query_open = λ i d r n. ⊎_elim
            (λ old. let q = h.query_open i d old (never_back turns tr e i d n) in
            let ne : d ≡ c → ⊥ = λ z. nq i (at_lt (of reads) tr i old) (subst (λ w. Never turns (then_event tr e) i w) z n) (sym (ap (λ w. (A w).phase) z) ∙ q.0) in
            (ap (λ x. x.phase) (other d ne) ∙ q.0, ap (λ x. x.since) (other d ne) ∙ q.1))
            (λ new. let k = newq d new.1 in (ap (λ w. (A' w).phase) k.0 ∙ k.1, ap (λ w. (A' w).since) k.0 ∙ now ∙ sym new.0))
            (at_cases (of reads) tr e i r);
        store_open = λ i d r n. ⊎_elim
            (λ old. let q = h.store_open i d old (never_back finishes tr e i d n) in
            let ne : d ≡ c → ⊥ = λ z. ns (sym (ap (λ w. (A w).phase) z) ∙ q.0) in
            (ap (λ x. x.phase) (other d ne) ∙ q.0, ap (λ x. x.since) (other d ne) ∙ q.1))
            (λ new. let k = newt d new.1 in (ap (λ w. (A' w).phase) k.0 ∙ k.1, ap (λ w. (A' w).since) k.0 ∙ now ∙ sym new.0))
            (at_cases (of turns) tr e i r);
        write_open = λ i v r n. ⊎_elim
            (λ old. let q = h.write_open i v old (never_back finishes tr e i 0 n) in
            let ne : 0 ≡ c → ⊥ = λ z. ns (sym (ap (λ w. (A w).phase) z) ∙ q.0) in
            (ap (λ x. x.phase) (other 0 ne) ∙ q.0, ap (λ x. x.since) (other 0 ne) ∙ q.1))
            (λ new. let k = neww v new.1 in (ap (λ w. (A' w).phase) k.0 ∙ k.1, ap (λ w. (A' w).since) k.0 ∙ now ∙ sym new.0))
            (at_cases (of writes) tr e i r);
        started = λ d o. ⊎_elim
            (λ z. ap (at starts (then_event tr e)) (ap (λ w. (A' w).since) z ∙ now) ∙ at_new (of starts) tr e ∙ sc ∙ ap (λ i. Some i) (sym z))
            (λ n. ap (at starts (then_event tr e)) (ap (λ x. x.since) (other d n)) ∙ at_keep (of starts) tr e (A d).since (h.started d (was d n o)))
            (cases_eq d c);
        told = λ d o b p. ⊎_elim
            (λ z. absurd (unheard b (subst (λ i. Returned (then_event tr e) i b) (ap (λ w. (A' w).since) z ∙ now) p)))
            (λ n. ap (λ x. has x.heard b) (other d n) ∙ ⊎_elim
            (λ old. h.told d (was d n o) b old)
            (λ new. absurd (strange d b new.0 n (was d n o) new.1 new.2))
            (returned_cases tr e (A d).since b (subst (λ i. Returned (then_event tr e) i b) (ap (λ x. x.since) (other d n)) p)))
            (cases_eq d c);
        known = known_more;
        short = λ d o. ⊎_elim
            (λ z. let k = ap (λ w. (A' w).heard) z ∙ zero_heard in (ap q.quorum k ∙ empty q laws, subst (Below q.size) (sym k) (λ i m. absurd (false≢true (sym (has_none i) ∙ m)))))
            (λ n. subst (λ x. (q.quorum x.heard ≡ false) × Below q.size x.heard) (sym (other d n)) (h.short d (was d n o)))
            (cases_eq d c);
        prompt = prompt_more pr;
      }
        where
          own : Link (then_event tr e) A' (SentAt (length tr)) m
          own = (ms_None, (at_new (of starts) tr e ∙ sc ∙ ap (λ i. Some i) (sym ms_c), λ _ _. (ms_o ∙ ap (λ w. (A' w).op) (sym ms_c), ms_k ∙ ap (λ w. (A' w).phase) (sym ms_c))))

          was : (d : ℕ) → (d ≡ c → ⊥) → Busy (A' d) → Busy (A d)
          was d n o z = o (ap (λ x. x.phase) (other d n) ∙ z)

      -- the client c finishes
      pub flow_end : (c : ℕ) → finishes e.mark ≡ Some c → reads e.mark ≡ None → writes e.mark ≡ None → turns e.mark ≡ None
          → ((d : ℕ) → (d ≡ c → ⊥) → A' d ≡ A d) → (A' c).phase ≡ Idle → (A c).phase ≡ Storing
          → moved (length tr) e.traffic (flow tr) ≡ flow tr
          → ((d b k : ℕ) → (d ≡ c → ⊥) → Busy (A d) → replies e.traffic ≡ Some k → nth (flow tr) k ≡ Some (AnswerBy b (SentAt (A d).since)) → ⊥)
          → ((k b : ℕ) → requests e.traffic ≡ Some (k, b) → has faulty b ≡ false → e.traffic ≡ ToReplica k b true)
          → Flow (then_event tr e) A' ms
      flow_end c fc nr nw nt other idle st mv strange pr = record {
        links = subst (λ f. Beside (Link (then_event tr e) A') f ms) (sym (flow_then tr e ∙ mv))
            (beside_map (Link tr A) (Link (then_event tr e) A') (link_by (mine_new c other (inl idle))) (flow tr) ms h.links);
        query_open = λ i d r n. let q = h.query_open i d (at_back (of reads) tr e i nr r) (never_back turns tr e i d n) in
            let ne : d ≡ c → ⊥ = λ z. querying≢storing (sym q.0 ∙ ap (λ w. (A w).phase) z ∙ st) in
            (ap (λ x. x.phase) (other d ne) ∙ q.0, ap (λ x. x.since) (other d ne) ∙ q.1);
        store_open = λ i d r n. let old = at_back (of turns) tr e i nt r in let q = h.store_open i d old (never_back finishes tr e i d n) in
            let ne : d ≡ c → ⊥ = λ z. over i d (at_lt (of turns) tr i old) n z in
            (ap (λ x. x.phase) (other d ne) ∙ q.0, ap (λ x. x.since) (other d ne) ∙ q.1);
        write_open = λ i v r n. let old = at_back (of writes) tr e i nw r in let q = h.write_open i v old (never_back finishes tr e i 0 n) in
            let ne : 0 ≡ c → ⊥ = λ z. over i 0 (at_lt (of writes) tr i old) n z in
            (ap (λ x. x.phase) (other 0 ne) ∙ q.0, ap (λ x. x.since) (other 0 ne) ∙ q.1);
        started = λ d o. let n = differs d o in
            ap (at starts (then_event tr e)) (ap (λ x. x.since) (other d n)) ∙ at_keep (of starts) tr e (A d).since (h.started d (was d n o));
        told = λ d o b p. let n = differs d o in
            ap (λ x. has x.heard b) (other d n) ∙ ⊎_elim
            (λ old. h.told d (was d n o) b old)
            (λ new. absurd (strange d b new.0 n (was d n o) new.1 new.2))
            (returned_cases tr e (A d).since b (subst (λ i. Returned (then_event tr e) i b) (ap (λ x. x.since) (other d n)) p));
        known = known_more;
        short = λ d o. let n = differs d o in
            subst (λ x. (q.quorum x.heard ≡ false) × Below q.size x.heard) (sym (other d n)) (h.short d (was d n o));
        prompt = prompt_more pr;
      }
        where
          over : (i d : ℕ) → i < length tr → Never finishes (then_event tr e) i d → d ≡ c → ⊥
          over i d lt n z = n (length tr) lt (at_new (of finishes) tr e ∙ fc ∙ ap (λ i. Some i) (sym z))

          differs : (d : ℕ) → Busy (A' d) → d ≡ c → ⊥
          differs d o z = o (ap (λ w. (A' w).phase) z ∙ idle)

          was : (d : ℕ) → (d ≡ c → ⊥) → Busy (A' d) → Busy (A d)
          was d n o z = o (ap (λ x. x.phase) (other d n) ∙ z)

    -- from the invariant to the claim
    pub progresses : q.fault faulty ≡ true → (tr : List (Summary S)) (A : ℕ → Stage) (ms : List M) → Flow tr A ms → Progresses tr q.size faulty
    progresses fault tr A ms h = record {
      query_ends = λ i c r s. ⊎_elim (λ j. j) (λ n. let q = h.query_open i c r n in absurd (stuck i c (λ z. idle≢querying (sym z ∙ q.0)) q.1 s)) (later turns tr i c);
      store_ends = λ i c r s. ⊎_elim (λ j. j) (λ n. let q = h.store_open i c r n in absurd (stuck i c (λ z. idle≢storing (sym z ∙ q.0)) q.1 s)) (later finishes tr i c);
      write_ends = λ i w s. ⊎_elim (λ j. j) (λ n. let q = h.write_open i w.0 w.1 n in absurd (stuck i 0 (λ z. idle≢storing (sym z ∙ q.0)) q.1 s)) (later finishes tr i 0);
      answers = λ i j k b r o g. h.prompt j k b r g;
    }
      where
        stuck : (i c : ℕ) → Busy (A c) → (A c).since ≡ i → Served tr q.size faulty i → ⊥
        stuck i c o z s = let k = h.short c o in
            both_ways _ k.0 (correct_quorum q laws faulty (A c).heard fault k.1
            (λ b lt f. h.told c o b (subst (λ w. Returned tr w b) (sym z) (s b lt f).1)))
