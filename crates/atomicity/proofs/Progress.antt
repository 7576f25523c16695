-- The steps of a cluster keep what progress rests on. Assumes nothing.
use Rattle.std.proofs.Common.{◌≡◌, ℕ, ◌+◌, ◌<◌, ◌≤◌, Bool, true, false, cond, eqb, List, [], ◌∷◌, ◌++◌, length, Some, None, Ok, Err, Result, sym, refl, ap, ◌∙◌, subst, inl, inr, ⊎_elim, arith}
use Rattle.std.proofs.lemmas.Bool.{both_ways, and_cases, not-false, eq-eqb, cond-false}
use Rattle.std.specs.Option.{option_map}
use Rattle.encodings.specs.Encodings.{Bytes}
use Rattle.settings.specs.Kinds.{Kind}
use Rattle.replica_sets.specs.Sets.{has, Below}
use Rattle.quorums.specs.Systems.{Quorums, QuorumLaws}
use Rattle.signatures.specs.Books.{newest}
use Rattle.protocol.specs.Versions.{version}
use Rattle.protocol.specs.Replicas.{newer}
use Rattle.protocol.specs.Clients.{client, is_querying, is_storing, awaits, fresh_client, begin_query, begin_store}
use Rattle.protocol.specs.declared.version.Version.{Version}
use Rattle.protocol.specs.declared.message.Message.{Message}
use Rattle.protocol.specs.declared.message.Message.TheVariants.{Query, Store, Value, Ack}
use Rattle.protocol.specs.declared.client.Client.{Client}
use Rattle.protocol.specs.declared.client.Phase.TheVariants.{Idle, Querying, Storing}
use Rattle.protocol.specs.declared.client.Reply.{Reply}
use Rattle.protocol.specs.declared.client.Reply.TheVariants.{Heard, Ignored, Turned, Finished}
use Rattle.cluster.specs.State.{State}
use Rattle.cluster.specs.Steps.{reader_at, client_at, write_begun, read_begun, collected, handed_out}
use Rattle.cluster.specs.declared.reader.Completed.{Completed}
use Rattle.cluster.specs.declared.delivery.Delivery.TheVariants.{Answered, Unanswered}
use Rattle.atomicity.specs.declared.call.Call.{Call}
use Rattle.atomicity.specs.declared.call.Call.TheVariants.{Write, Read, DeliverRequest, DropMessage, Collect}
use Rattle.atomicity.specs.declared.answer.Answer.{Answer}
use Rattle.atomicity.specs.declared.answer.Answer.TheVariants.{Written, ReadBegun, Delivered, Replied, Dropped, Collected}
use Rattle.atomicity.specs.Runs.{step}
use Rattle.atomicity.specs.Marks.{Mark, Traffic, Summary, finishes, reads, writes, turns, requests, replies}
use Rattle.atomicity.specs.Marks.Traffic.{ToReplica}
use Rattle.atomicity.specs.Claims.{Origin, moved, and_also}
use Rattle.atomicity.specs.Claims.Origin.{SentAt, AnswerBy}
use Rattle.atomicity.specs.Summaries.{came_to, sends, held}
use Rattle.atomicity.proofs.Facts.{Member, changed, changed_way, changed_same, changed_other, some_inj, none≢some, nth, nth_member, querying≢storing, idle≢querying, idle≢storing}
use Rattle.atomicity.proofs.Growing.{with_old, with_new, with_below}
use Rattle.atomicity.proofs.Trace.{Done, of, then_event, at_new}
use Rattle.atomicity.proofs.Order.{Item}
use Rattle.atomicity.proofs.Moves.{seen, row, hears, better, put, put_send, after_answer, without, finished, genuine_row, counts, Handed, Mute, Cases, move}
use Rattle.atomicity.proofs.Tables.{seen_put, seen_sent, seen_finished, seen_querying, seen_writing, seen_collected, seen_reader}
use Rattle.atomicity.proofs.Handing.{handed_mark, handed_traffic}
use Rattle.atomicity.proofs.Operations.{Linear, flights, coded_rows}
use Rattle.atomicity.proofs.Flow.{Flow, Stage, Note, Busy, Beside, Link, Mine, flow, starts, beside_message, beside_snoc, beside_removed, flow_plain, flow_start, flow_end, stranger}

abbrev pub about : {V : Type 0} → Message V → Note
about (Query c o) = record { from = None; to = c; number = o; phase = Querying }
about (Store c o v) = record { from = None; to = c; number = o; phase = Storing }
about (Value r c o v) = record { from = Some r; to = c; number = o; phase = Querying }
about (Ack r c o) = record { from = Some r; to = c; number = o; phase = Storing }

-- the client x in the phase that started at a place
abbrev pub stage_of : Client → ℕ → Stage
stage_of x i = record { phase = x.phase; op = x.op; heard = x.heard.members; since = i }

abbrev pub stage : State → (ℕ → ℕ) → ℕ → Stage
stage s st c = stage_of (seen s c) (st c)

module _ {S : Type 0} (k : Kind S) where
  abbrev pub Flows : Quorums → ℕ → List (Summary S) → State → Type 0
  Flows q faulty tr s = (st : ℕ → ℕ) × Flow about q faulty tr (stage s st) s.messages

  module _ (s : State) (ql : QuorumLaws s.fixed.quorums) (fl : s.fixed.quorums.fault s.fixed.faulty ≡ true)
      (tr : List (Summary S)) (w : Version Bytes) (began : ℕ → ℕ) (ds : List Done) (os : List (Item S)) (g : Linear k s.fixed ql fl tr s w began ds os)
      (st : ℕ → ℕ) (h : Flow about s.fixed.quorums s.fixed.faulty tr (stage s st) s.messages) where
    abbrev system : Quorums
    system = s.fixed.quorums

    abbrev faulty : ℕ
    faulty = s.fixed.faulty

    abbrev P : Call S → Result (Answer S) ℕ → State → Type 0
    P c a s' = Flows system faulty (then_event tr (came_to k s s' c a)) s'

    same_stages : (d : ℕ) → ((seen s d).phase ≡ (seen s d).phase) × ((seen s d).op ≡ (seen s d).op) × (st d ≡ st d)
    same_stages d = (refl, refl, refl)

    -- an event that leaves every client as it was
    calm : (e : Summary S) (s' : State) → s'.writer ≡ s.writer → s'.readers ≡ s.readers
        → reads e.mark ≡ None → writes e.mark ≡ None → turns e.mark ≡ None
        → (Beside (Link about system faulty (then_event tr e) (stage s st)) (flow tr) s.messages → Beside (Link about system faulty (then_event tr e) (stage s st)) (moved (length tr) e.traffic (flow tr)) s'.messages)
        → replies e.traffic ≡ None
        → ((n r : ℕ) → requests e.traffic ≡ Some (n, r) → has faulty r ≡ false → e.traffic ≡ ToReplica n r true)
        → Flows system faulty (then_event tr e) s'
    calm e s' ew er nr nw nt l nrep pr = (
      st,
      subst (λ A. Flow about system faulty (then_event tr e) A s'.messages) (λ i c. stage_of (client_at (sym ew i) (sym er i) c) (st c))
          (flow_plain about system faulty ql tr (stage s st) (stage s st) s.messages h e s'.messages nr nw nt same_stages l
          (λ c o b m. m) (λ c b j o r. absurd (none≢some (sym nrep ∙ r))) (λ c o. h.short c o) pr),
    )

    refusal : (call : Call S) (n : ℕ) → P call (Err n) s
    refusal call n = calm _ s refl refl refl refl refl (λ p. p) refl (λ j b r. absurd (none≢some r))

    silent : (i r : ℕ) (m : Message Bytes) → nth s.messages i ≡ Some m → Mute k s r m → P (DeliverRequest i r) (Ok (Delivered Unanswered)) s
    silent i r m e x = calm _ s refl refl refl refl refl (λ p. p) refl
        (λ j d y t. absurd (no (ap (has faulty) (ap (λ z. z.1) (some_inj y)) ∙ t) x))
      where
        no : has faulty r ≡ false → Mute k s r m → ⊥
        no t (inl z) = both_ways _ t z
        no t (inr (c, o, v, y, z)) = both_ways _ z (g.invariant.message_ok (Store c o v) (nth_member s.messages i (e ∙ ap (λ n. Some n) y))).0

    -- the answer to a message in flight comes to stand beside its origin
    add_answer : (t : List (Summary S)) (A : ℕ → Stage) (i r : ℕ) (m m' : Message Bytes) → (about m).from ≡ None → (about m').from ≡ Some r
        → ((j : ℕ) → Mine about system faulty t A j m → Mine about system faulty t A j m')
        → nth s.messages i ≡ Some m → Beside (Link about system faulty t A) (flow tr) s.messages
        → Beside (Link about system faulty t A) (moved (length tr) (ToReplica i r true) (flow tr)) (s.messages ++ (m' ∷ []))
    add_answer t A i r m m' sm sm' f e p = let q = beside_message (Link about system faulty t A) (flow tr) s.messages p i e in
        subst (λ z. Beside (Link about system faulty t A) (and_also (flow tr) (option_map (AnswerBy r) z)) (s.messages ++ (m' ∷ []))) (sym q.1) (go q.0 q.2)
      where
        go : (o : Origin) → Link about system faulty t A o m → Beside (Link about system faulty t A) (flow tr ++ (AnswerBy r o ∷ [])) (s.messages ++ (m' ∷ []))
        go (SentAt j) l = beside_snoc (Link about system faulty t A) (flow tr) s.messages p (AnswerBy r (SentAt j)) m' (sm', f j l.1)
        go (AnswerBy d (SentAt j)) l = absurd (none≢some (sym sm ∙ l.0))
        go (AnswerBy d (AnswerBy d' o)) l = absurd l

    tells : (i r c o : ℕ) → nth s.messages i ≡ Some (Query c o) → r < system.size → has faulty r ≡ false
        → P (DeliverRequest i r) (Ok (Delivered Answered)) (after_answer s r (row s r) (Value r c o (row s r)))
    tells i r c o e lt t = calm _ (after_answer s r (row s r) (Value r c o (row s r))) refl refl refl refl refl
        (add_answer _ (stage s st) i r (Query c o) (Value r c o (row s r)) refl refl (λ j z. z) e) refl
        (λ j d y u. let z = some_inj y in ap (λ a. ToReplica a.0 a.1 true) z)

    keeps : (i r c o : ℕ) (v : Version Bytes) → nth s.messages i ≡ Some (Store c o v) → r < system.size → has faulty r ≡ false → genuine_row k s.book v ≡ true
        → P (DeliverRequest i r) (Ok (Delivered Answered)) (after_answer s r (newer (row s r) v) (Ack r c o))
    keeps i r c o v e lt t x = calm _ (after_answer s r (newer (row s r) v) (Ack r c o)) refl refl refl refl refl
        (add_answer _ (stage s st) i r (Store c o v) (Ack r c o) refl refl (λ j z. z) e) refl
        (λ j d y u. let z = some_inj y in ap (λ a. ToReplica a.0 a.1 true) z)

    drops : (i : ℕ) → i < length s.messages → P (DropMessage i) (Ok Dropped) (without s i)
    drops i lt = calm _ (without s i) refl refl refl refl refl (λ p. beside_removed _ (flow tr) s.messages p i) refl (λ j b r. absurd (none≢some r))

    -- every client stays, though the tables differ
    collects : (c : ℕ) (z : Completed) → (c ≡ 0 → ⊥) → c ≤ length s.readers → (reader_at s.readers c).completed ≡ Some z
        → P (Collect c) (Ok (Collected (handed_out k c z))) (collected s c)
    collects c z n l e = (
      st,
      flow_plain about system faulty ql tr (stage s st) (stage (collected s c) st) s.messages h _ s.messages refl refl refl
          (λ d. (ap (λ y. y.phase) (same d), ap (λ y. y.op) (same d), refl))
          (λ p. p) (λ d o b m. ap (λ y. has y.heard.members b) (same d) ∙ m) (λ d b j o r. absurd (none≢some r))
          (λ d o. subst (λ y. (system.quorum y.heard.members ≡ false) × Below system.size y.heard.members) (sym (same d)) (h.short d o)) (λ j b r. absurd (none≢some r)),
    )
      where
        same : (d : ℕ) → seen (collected s c) d ≡ seen s d
        same = seen_collected s c n l

    -- ---- a call that hands a message to a client

    module _ (s' : State) (call : Call S) (m : Message Bytes) (f : Handed k s call m) (r : Reply) where
      abbrev e₀ : Summary S
      e₀ = came_to k s s' call (Ok (Replied r))

      handed_still : sends r ≡ false → moved (length tr) e₀.traffic (flow tr) ≡ flow tr
      handed_still n = ⊎_elim
          (λ x. ap (λ t. moved (length tr) t (flow tr)) x.2 ∙ cond-false (sends r) _ _ n)
          (λ x. ap (λ t. moved (length tr) t (flow tr)) (x ∙ cond-false (sends r) _ _ n))
          (handed_traffic k s s' call m f r)

      handed_asks : requests e₀.traffic ≡ None
      handed_asks = ⊎_elim (λ x. ap requests x.2) (λ x. ap requests x ∙ go (sends r)) (handed_traffic k s s' call m f r)
        where
          go : (b : Bool) → requests (cond b Traffic.Sends Traffic.Still) ≡ None
          go true = refl
          go false = refl

      handed_place : (n : ℕ) → replies e₀.traffic ≡ Some n → nth s.messages n ≡ Some m
      handed_place n y = ⊎_elim (λ x. ap (nth s.messages) (some_inj (sym y ∙ ap replies x.2)) ∙ x.1) (λ x. absurd (none≢some (sym (ap replies x ∙ go (sends r)) ∙ y))) (handed_traffic k s s' call m f r)
        where
          go : (b : Bool) → replies (cond b Traffic.Sends Traffic.Still) ≡ None
          go true = refl
          go false = refl

      -- the answer that is delivered to an open phase is the message handed over
      the_one : (c d n : ℕ) → replies e₀.traffic ≡ Some n → Busy (stage s st c) → nth (flow tr) n ≡ Some (AnswerBy d (SentAt (st c)))
          → ((about m).from ≡ Some d) × ((about m).to ≡ c) × ((about m).number ≡ (seen s c).op) × ((about m).phase ≡ (seen s c).phase)
      the_one c d n y o x =
          let q = stranger about system faulty ql tr (stage s st) (stage s st) s.messages h e₀ c d n o x in
          subst (λ z. ((about z).from ≡ Some d) × ((about z).to ≡ c) × ((about z).number ≡ (seen s c).op) × ((about z).phase ≡ (seen s c).phase))
          (some_inj (sym q.1 ∙ handed_place n y)) (q.2, q.3, q.4, q.5)

      -- it is no answer to another client
      not_another : (c d n b : ℕ) → (about m).to ≡ c → (d ≡ c → ⊥) → Busy (stage s st d) → replies e₀.traffic ≡ Some n → nth (flow tr) n ≡ Some (AnswerBy b (SentAt (st d))) → ⊥
      not_another c d n b t ne o y x = ne (sym (the_one d b n y o x).1 ∙ t)

    handed_turned : (s' : State) (call : Call S) (m : Message Bytes) → Handed k s call m
        → moved (length tr) (came_to k s s' call (Ok (Replied Turned))).traffic (flow tr) ≡ flow tr ++ (SentAt (length tr) ∷ [])
    handed_turned s' call m f = ⊎_elim (λ x. ap (λ t. moved (length tr) t (flow tr)) x.2) (λ x. ap (λ t. moved (length tr) t (flow tr)) x) (handed_traffic k s s' call m f Turned)

    -- what is not counted though it belongs to the open phase comes from a replica that was heard
    not_counted : (m : Message Bytes) → Member m s.messages → (c d : ℕ) → counts k s m ≡ false
        → ((about m).from ≡ Some d) × ((about m).to ≡ c) × ((about m).number ≡ (seen s c).op) × ((about m).phase ≡ (seen s c).phase) → has (seen s c).heard.members d ≡ true
    not_counted (Query c o) m c' d n q = absurd (none≢some q.0)
    not_counted (Store c o v) m c' d n q = absurd (none≢some q.0)
    not_counted (Value b c o v) m c' d n (sd, rc, num, kd) =
        subst (λ z. has (seen s z).heard.members d ≡ true) rc (subst (λ z. has (seen s c).heard.members z ≡ true) (some_inj sd) (⊎_elim
        (λ z. absurd (both_ways _ z (ap is_querying (ap (λ i. (seen s i).phase) rc ∙ sym kd))))
        (λ z. ⊎_elim
        (λ y. ⊎_elim (λ x. absurd (both_ways _ x (eq-eqb _ _ (num ∙ ap (λ i. (seen s i).op) (sym rc))))) (λ x. not-false _ x) (and_cases (eqb o (seen s c).op) _ y))
        (λ y. absurd (both_ways _ y (g.invariant.message_ok (Value b c o v) m).0))
        (and_cases (awaits (seen s c) b o) _ z))
        (and_cases (is_querying (seen s c).phase) _ n)))
    not_counted (Ack b c o) m c' d n (sd, rc, num, kd) =
        subst (λ z. has (seen s z).heard.members d ≡ true) rc (subst (λ z. has (seen s c).heard.members z ≡ true) (some_inj sd) (⊎_elim
        (λ z. absurd (both_ways _ z (ap is_storing (ap (λ i. (seen s i).phase) rc ∙ sym kd))))
        (λ z. ⊎_elim (λ x. absurd (both_ways _ x (eq-eqb _ _ (num ∙ ap (λ i. (seen s i).op) (sym rc))))) (λ x. not-false _ x) (and_cases (eqb o (seen s c).op) _ z))
        (and_cases (is_storing (seen s c).phase) _ n)))

    ignores : (call : Call S) (m : Message Bytes) → Handed k s call m → counts k s m ≡ false → P call (Ok (Replied Ignored)) s
    ignores call m f n = (
      st,
      flow_plain about system faulty ql tr (stage s st) (stage s st) s.messages h e s.messages (ap reads mk) (ap writes mk) (ap turns mk) same_stages
          (λ p. subst (λ z. Beside (Link about system faulty (then_event tr e) (stage s st)) z s.messages) (sym (handed_still s call m f Ignored refl)) p)
          (λ c o b q. q)
          (λ c b i o ret x. not_counted m (nth_member s.messages i (handed_place s call m f Ignored i ret)) c b n (the_one s call m f Ignored c b i ret o x))
          (λ c o. h.short c o)
          (λ j b q. absurd (none≢some (sym (handed_asks s call m f Ignored) ∙ q))),
    )
      where
        e : Summary S
        e = came_to k s s call (Ok (Replied Ignored))

        mk : e.mark ≡ Mark.Nothing
        mk = handed_mark k s s call m f Ignored

    -- a client's row is replaced by one with the same phase and number that has heard one replica more
    more : (call : Call S) (m : Message Bytes) (r c : ℕ) (v : Version Bytes) → Handed k s call m → (about m).from ≡ Some r → (about m).to ≡ c → r < system.size → c ≤ length s.readers
        → Busy (stage s st c) → system.quorum (hears s c r) ≡ false
        → P call (Ok (Replied Heard)) (put s c (client (seen s c).phase (seen s c).op (hears s c r) v))
    more call m r c v f sb rc lt cl o u = (
      st,
      flow_plain about system faulty ql tr (stage s st) (stage s' st) s.messages h e s.messages (ap reads mk) (ap writes mk) (ap turns mk)
          (λ d. (own (λ y. y.phase) refl d, own (λ y. y.op) refl d, refl))
          (λ p. subst (λ z. Beside (Link about system faulty (then_event tr e) (stage s' st)) z s.messages) (sym (handed_still s' call m f Heard refl)) p)
          (λ d o' b q. way d (λ y. has y.heard.members b ≡ true) (λ z. with_old (seen s c).heard.members r b (subst (λ i. has (seen s i).heard.members b ≡ true) z q)) (λ _. q))
          (λ d b i o' ret x. let q = the_one s' call m f Heard d b i ret o' x in
          let z : d ≡ c = sym q.1 ∙ rc in
          let a : r ≡ b = some_inj (sym sb ∙ q.0) in
          way d (λ y. has y.heard.members b ≡ true)
          (λ _. subst (λ i. has (hears s c r) i ≡ true) a (with_new (seen s c).heard.members r (let t = ql.at_most_32 in omega arith))) (λ n. absurd (n z)))
          (λ d o'. way d (λ y. (system.quorum y.heard.members ≡ false) × Below system.size y.heard.members)
          (λ _. (u, with_below (seen s c).heard.members r system.size (h.short c o).1 lt)) (λ _. h.short d o'))
          (λ j b q. absurd (none≢some (sym (handed_asks s' call m f Heard) ∙ q))),
    )
      where
        x : Client
        x = client (seen s c).phase (seen s c).op (hears s c r) v

        s' : State
        s' = put s c x

        e : Summary S
        e = came_to k s s' call (Ok (Replied Heard))

        mk : e.mark ≡ Mark.Nothing
        mk = handed_mark k s s' call m f Heard

        way : (d : ℕ) (Q : Client → Type 0) → (d ≡ c → Q x) → ((d ≡ c → ⊥) → Q (seen s d)) → Q (seen s' d)
        way d Q p q = subst Q (sym (seen_put s c x cl d)) (changed_way Q (seen s) c x d p q)

        own : {B : Type 0} (f : Client → B) → f x ≡ f (seen s c) → (d : ℕ) → f (seen s' d) ≡ f (seen s d)
        own f e d = way d (λ y. f y ≡ f (seen s d)) (λ z. e ∙ ap (λ i. f (seen s i)) (sym z)) (λ _. refl)

    learns : (call : Call S) (r c : ℕ) (v : Version Bytes) → Handed k s call (Value r c (seen s c).op v) → r < system.size → c ≤ length s.readers
        → (seen s c).phase ≡ Querying → genuine_row k s.book v ≡ true → system.quorum (hears s c r) ≡ false
        → P call (Ok (Replied Heard)) (put s c (client (seen s c).phase (seen s c).op (hears s c r) (better s c v)))
    learns call r c v f lt cl q t u = more call _ r c (better s c v) f refl refl lt cl (λ z. idle≢querying (sym z ∙ q)) u

    counted : (call : Call S) (r c : ℕ) → Handed k s call (Ack r c (seen s c).op) → r < system.size → c ≤ length s.readers
        → (seen s c).phase ≡ Storing → system.quorum (hears s c r) ≡ false
        → P call (Ok (Replied Heard)) (put s c (client (seen s c).phase (seen s c).op (hears s c r) (seen s c).best))
    counted call r c f lt cl q u = more call _ r c (seen s c).best f refl refl lt cl (λ z. idle≢storing (sym z ∙ q)) u

    -- another client's stage stays, also where the starts of phases change for this one
    others : (s' : State) (st' : ℕ → ℕ) (c : ℕ) (y : Client) → ((d : ℕ) → seen s' d ≡ changed (seen s) c y d) → ((d : ℕ) → (d ≡ c → ⊥) → st' d ≡ st d)
        → (d : ℕ) → (d ≡ c → ⊥) → stage s' st' d ≡ stage s st d
    others s' st' c y puts t d n = let p = puts d ∙ changed_other (seen s) c y d n in let q = t d n in λ i. stage_of (p i) (q i)

    turned : (call : Call S) (r c : ℕ) (v : Version Bytes) → Handed k s call (Value r c (seen s c).op v) → r < system.size → c ≤ length s.readers
        → (seen s c).phase ≡ Querying → genuine_row k s.book v ≡ true → system.quorum (hears s c r) ≡ true
        → P call (Ok (Replied Turned)) (put_send s c (client Storing (seen s c).op 0 (better s c v)) (Store c (seen s c).op (better s c v)))
    turned call r c v f lt cl q t u = (
      st',
      flow_start about system faulty ql tr (stage s st) (stage s' st') s.messages h e c (Store c (seen s c).op (better s c v))
          (ap starts mk) (others s' st' c x puts (changed_other st c (length tr))) (changed_same st c (length tr)) (ap (λ y. y.heard.members) own)
          refl refl (sym (ap (λ y. y.op) own)) (sym (ap (λ y. y.phase) own)) (handed_turned s' call _ f)
          (λ i l n z. n (length tr) l (at_new (of turns) tr e ∙ ap turns mk))
          (λ z. querying≢storing (sym q ∙ z))
          (λ d y. absurd (none≢some (sym (ap reads mk) ∙ y)))
          (λ d y. (some_inj (sym y ∙ ap turns mk), ap (λ y. y.phase) own))
          (λ d y. absurd (none≢some (sym (ap writes mk) ∙ y)))
          (λ d b i n o ret y. not_another s' call _ f Turned c d i b refl n o ret y)
          (λ j b y. absurd (none≢some (sym (handed_asks s' call _ f Turned) ∙ y))),
    )
      where
        x : Client
        x = client Storing (seen s c).op 0 (better s c v)

        st' : ℕ → ℕ
        st' = changed st c (length tr)

        s' : State
        s' = put_send s c x (Store c (seen s c).op (better s c v))

        e : Summary S
        e = came_to k s s' call (Ok (Replied Turned))

        puts : (d : ℕ) → seen s' d ≡ changed (seen s) c x d
        puts = seen_sent s c x (Store c (seen s c).op (better s c v)) cl

        own : seen s' c ≡ x
        own = puts c ∙ changed_same (seen s) c x

        mk : e.mark ≡ Mark.Turns c
        mk = handed_mark k s s' call _ f Turned

    asks : (c : ℕ) → (c ≡ 0 → ⊥) → c ≤ length s.readers → (reader_at s.readers c).client.phase ≡ Idle
        → P (Read c) (Ok (ReadBegun ((reader_at s.readers c).client.op + 1))) (read_begun k s c)
    asks c nz cl idle = (
      st',
      flow_start about system faulty ql tr (stage s st) (stage s' st') s.messages h e c (Query c ((reader_at s.readers c).client.op + 1))
          refl (others s' st' c x puts (changed_other st c (length tr))) (changed_same st c (length tr)) (ap (λ y. y.heard.members) own)
          refl refl (sym (ap (λ y. y.op) own)) (sym (ap (λ y. y.phase) own)) refl
          (λ i l n z. idle≢querying (sym q ∙ z))
          (λ z. idle≢storing (sym q ∙ z))
          (λ d y. (sym (some_inj y), ap (λ y. y.phase) own))
          (λ d y. absurd (none≢some y))
          (λ d y. absurd (none≢some y))
          (λ d b i n o ret y. none≢some ret)
          (λ j b y. absurd (none≢some y)),
    )
      where
        q : (seen s c).phase ≡ Idle
        q = ap (λ y. y.phase) (seen_reader s c nz) ∙ idle

        x : Client
        x = begin_query k ((reader_at s.readers c).client.op + 1)

        st' : ℕ → ℕ
        st' = changed st c (length tr)

        s' : State
        s' = read_begun k s c

        e : Summary S
        e = came_to k s s' (Read c) (Ok (ReadBegun ((reader_at s.readers c).client.op + 1)))

        puts : (d : ℕ) → seen s' d ≡ changed (seen s) c x d
        puts = seen_querying k s c nz cl

        own : seen s' c ≡ x
        own = puts c ∙ changed_same (seen s) c x

    wrote : (v : S) (t : ℕ) → s.writer.phase ≡ Idle → newest s.book < s.writer.op + 1
        → P (Write v) (Ok (Written (s.writer.op + 1))) (write_begun k s (k.encode v) t)
    wrote v t q above = (
      st',
      flow_start about system faulty ql tr (stage s st) (stage s' st') s.messages h e 0 (Store 0 (s.writer.op + 1) (version (s.writer.op + 1) (k.encode v) t))
          refl (others s' st' 0 x puts (changed_other st 0 (length tr))) (changed_same st 0 (length tr)) refl
          refl refl refl refl refl
          (λ i l n z. idle≢querying (sym q ∙ z))
          (λ z. idle≢storing (sym q ∙ z))
          (λ d y. absurd (none≢some y))
          (λ d y. absurd (none≢some y))
          (λ d y. (refl, refl))
          (λ d b i n o ret y. none≢some ret)
          (λ j b y. absurd (none≢some y)),
    )
      where
        x : Client
        x = begin_store k (s.writer.op + 1)

        st' : ℕ → ℕ
        st' = changed st 0 (length tr)

        s' : State
        s' = write_begun k s (k.encode v) t

        e : Summary S
        e = came_to k s s' (Write v) (Ok (Written (s.writer.op + 1)))

        puts : (d : ℕ) → seen s' d ≡ changed (seen s) 0 x d
        puts = seen_writing k s (k.encode v) t

    ends : (call : Call S) (r c : ℕ) → Handed k s call (Ack r c (seen s c).op) → r < system.size → c ≤ length s.readers
        → (seen s c).phase ≡ Storing → system.quorum (hears s c r) ≡ true → P call (Ok (Replied Finished)) (finished k s c)
    ends call r c f lt cl q u = (
      st,
      flow_end about system faulty ql tr (stage s st) (stage s' st) s.messages h e c (ap finishes mk) (ap reads mk) (ap writes mk) (ap turns mk)
          (others s' st c x puts (λ d n. refl)) (ap (λ y. y.phase) (puts c ∙ changed_same (seen s) c x)) q
          (handed_still s' call _ f Finished refl)
          (λ d b i n o ret y. not_another s' call _ f Finished c d i b refl n o ret y)
          (λ j b y. absurd (none≢some (sym (handed_asks s' call _ f Finished) ∙ y))),
    )
      where
        x : Client
        x = fresh_client k (seen s c).op

        s' : State
        s' = finished k s c

        e : Summary S
        e = came_to k s s' call (Ok (Replied Finished))

        puts : (d : ℕ) → seen s' d ≡ changed (seen s) c x d
        puts = seen_finished k s c cl

        mk : e.mark ≡ Mark.Finishes c (held k s' c)
        mk = handed_mark k s s' call _ f Finished

    pub flows : (call : Call S) (t : ℕ) → Flows system faulty (then_event tr (came_to k s (step k s call t).1 call (step k s call t).0)) (step k s call t).1
    flows call t = move k s (coded_rows k s ql fl tr w began ds os g) (flights k s ql fl tr w began ds os g) P cases call t
      where
        cases : Cases k s P
        cases = record {
          refusal = refusal;
          wrote = wrote;
          asks = asks;
          tells = tells;
          keeps = keeps;
          silent = silent;
          ignores = ignores;
          learns = learns;
          turns = turned;
          counted = counted;
          ends = ends;
          drops = drops;
          collects = collects;
        }
