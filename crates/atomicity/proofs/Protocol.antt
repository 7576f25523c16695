-- The protocol's invariant, over what its parties hold, with the steps that keep it. Tables and refusals do not come in here.
-- Assumes nothing.
use Rattle.std.proofs.Common.{◌≡◌, ℕ, suc, ◌+◌, ◌<◌, ◌≤◌, Bool, true, false, cond, ltb, ◌⊎◌, sym, refl, ap, ◌∙◌, subst, inl, inr, ⊎_elim, arith}
use Rattle.std.proofs.lemmas.Bool.{ltb-true, ltb-false, false≢true}
use Rattle.replica_sets.specs.Sets.{has, with_member}
use Rattle.replica_sets.proofs.Members.{has_none}
use Rattle.quorums.specs.Systems.{Quorums, QuorumLaws}
use Rattle.quorums.proofs.Intersections.{common_correct}
use Rattle.protocol.specs.Messages.{client_of}
use Rattle.protocol.specs.Replicas.{newer}
use Rattle.protocol.specs.declared.version.Version.{Version}
use Rattle.protocol.specs.declared.message.Message.{Message}
use Rattle.protocol.specs.declared.message.Message.TheVariants.{Query, Store, Value, Ack}
use Rattle.protocol.specs.declared.client.Phase.{Phase}
use Rattle.protocol.specs.declared.client.Phase.TheVariants.{Idle, Querying, Storing}
use Rattle.atomicity.proofs.Growing.{with_cases}
use Rattle.atomicity.proofs.Trace.{Done}
use Rattle.atomicity.proofs.Facts.{storing≢querying, querying≢storing, idle≢querying, idle≢storing, changed, changed_way}

-- a client, with the version that it has stored, and the place at which it began the operation that is open
pub record Party (V : Type 0) : Type 0 where
  pub phase : Phase
  pub op : ℕ
  pub heard : ℕ
  pub best : Version V
  pub began : ℕ

module _ {V : Type 0} where
  -- a party as it begins a write of v, hears more, turns to storing v
  abbrev pub begun_write : Party V → Version V → ℕ → Party V
  begun_write x v now = record { phase = Storing; op = x.op + 1; heard = 0; best = v; began = now }

  abbrev pub hearing : Party V → ℕ → Version V → Party V
  hearing x h v = record { phase = x.phase; op = x.op; heard = h; best = v; began = x.began }

  abbrev pub turning : Party V → Version V → Party V
  turning x v = record { phase = Storing; op = x.op; heard = 0; best = v; began = x.began }

  -- the two ways of `newer`
  pub newer_way : (P : Version V → Type 0) (u v : Version V) → (u.timestamp < v.timestamp → P v) → (v.timestamp ≤ u.timestamp → P u) → P (newer u v)
  newer_way P u v f k = way (ltb u.timestamp v.timestamp) refl
    where
      way : (t : Bool) → ltb u.timestamp v.timestamp ≡ t → P (cond t v u)
      way true e = f (ltb-true u.timestamp v.timestamp e)
      way false e = k (ltb-false u.timestamp v.timestamp e)

module _ (q : Quorums) (laws : QuorumLaws q) (faulty : ℕ) (fault : q.fault faulty ≡ true) {V : Type 0} (bottom : Version V) where
  -- a party as it begins a read, and as its operation ends
  abbrev pub begun_read : Party V → ℕ → Party V
  begun_read x now = record { phase = Querying; op = x.op + 1; heard = 0; best = bottom; began = now }

  abbrev pub ending : Party V → Party V
  ending x = record { phase = Idle; op = x.op; heard = 0; best = bottom; began = x.began }

  -- the replica is correct
  abbrev pub Good : ℕ → Type 0
  Good b = has faulty b ≡ false

  -- Throughout, G are the genuine versions, top is their greatest timestamp, now the place of the next event, C the parties, R the
  -- replicas' versions, M the messages in flight, and D the operations that have ended.

  -- what is known of a message in flight to or from the party x. A value of x's query has the timestamp at least of what its replica
  -- acknowledged to an operation that ended before the read began; and who acknowledged x's store keeps a version as new.
  abbrev pub Local : (Version V → Type 0) → (ℕ → Version V) → (Done → Type 0) → Party V → Message V → Type 0
  Local G R D x (Query c o) = o ≤ x.op
  Local G R D x (Store c o v) =
      G v × (o ≤ x.op)
      × (o ≡ x.op → x.phase ≡ Querying → ⊥)
      × (o ≡ x.op → x.phase ≡ Storing → v ≡ x.best)
  Local G R D x (Value b c o v) =
      G v × (o ≤ x.op)
      × (o ≡ x.op → x.phase ≡ Querying → (d : Done) → D d → d.end < x.began → has d.set b ≡ true → d.stamp ≤ v.timestamp)
  Local G R D x (Ack b c o) =
      Good b × (o ≤ x.op)
      × (o ≡ x.op → x.phase ≡ Querying → ⊥)
      × (o ≡ x.op → x.phase ≡ Storing → x.best.timestamp ≤ (R b).timestamp)

  -- an open operation has a genuine version, and began in the past; what its query heard is as new as what ended before it began, at each
  -- replica that acknowledged that; once it stores, all of its version is; and those that acknowledged keep a version as new
  pub record PartyOk (G : Version V → Type 0) (D : Done → Type 0) (R : ℕ → Version V) (now : ℕ) (x : Party V) : Type 0 where
    pub best_ok : (x.phase ≡ Idle → ⊥) → G x.best
    pub past : (x.phase ≡ Idle → ⊥) → x.began < now
    pub querying : x.phase ≡ Querying → (d : Done) → D d → d.end < x.began → (b : ℕ) → Good b
        → has x.heard b ≡ true → has d.set b ≡ true → d.stamp ≤ x.best.timestamp
    pub storing : x.phase ≡ Storing → (d : Done) → D d → d.end < x.began → d.stamp ≤ x.best.timestamp
    pub stored : x.phase ≡ Storing → (b : ℕ) → Good b → has x.heard b ≡ true → x.best.timestamp ≤ (R b).timestamp

  -- the correct replicas of the quorum that acknowledged an ended operation keep a version as new
  pub record DoneOk (R : ℕ → Version V) (top now : ℕ) (d : Done) : Type 0 where
    pub over : d.end < now
    pub below : d.stamp ≤ top
    pub enough : q.quorum d.set ≡ true
    pub kept : (b : ℕ) → Good b → has d.set b ≡ true → d.stamp ≤ (R b).timestamp

  pub record Invariant (G : Version V → Type 0) (top now : ℕ) (C : ℕ → Party V) (R : ℕ → Version V) (M : Message V → Type 0) (D : Done → Type 0) : Type 0 where
    pub genuine_top : (v : Version V) → G v → v.timestamp ≤ top
    pub genuine_bottom : G bottom
    pub replica_ok : (b : ℕ) → b < q.size → G (R b)
    pub message_ok : (m : Message V) → M m → Local G R D (C (client_of m)) m
    pub party_ok : (c : ℕ) → PartyOk G D R now (C c)
    pub done_ok : (d : Done) → D d → DoneOk R top now d

  -- one message more
  abbrev pub Also : (Message V → Type 0) → Message V → Message V → Type 0
  Also M m x = M x ⊎ (x ≡ m)

  -- a client with a new operation number: nothing in flight is for it
  local_new : (G : Version V → Type 0) (R : ℕ → Version V) (D : Done → Type 0) (x y : Party V) → x.op < y.op
      → (m : Message V) → Local G R D x m → Local G R D y m
  local_new G R D x y lt (Query c o) l = omega arith
  local_new G R D x y lt (Store c o v) l = (l.0, omega arith, (λ e. absurd (omega arith)), (λ e. absurd (omega arith)))
  local_new G R D x y lt (Value b c o v) l = (l.0, omega arith, (λ e. absurd (omega arith)))
  local_new G R D x y lt (Ack b c o) l = (l.0, omega arith, (λ e. absurd (omega arith)), (λ e. absurd (omega arith)))

  -- more is genuine, replicas have come further, and no finished operation is new to an open read
  local_more : (G G' : Version V → Type 0) (R R' : ℕ → Version V) (D D' : Done → Type 0) (x : Party V)
      → ((v : Version V) → G v → G' v) → ((b : ℕ) → (R b).timestamp ≤ (R' b).timestamp)
      → (x.phase ≡ Querying → (d : Done) → D' d → d.end < x.began → D d)
      → (m : Message V) → Local G R D x m → Local G' R' D' x m
  local_more G G' R R' D D' x f g k (Query c o) l = l
  local_more G G' R R' D D' x f g k (Store c o v) l = (f v l.0, l.1, l.2, l.3)
  local_more G G' R R' D D' x f g k (Value b c o v) l = (f v l.0, l.1, λ e q d m t. l.2 e q d (k q d m t) t)
  local_more G G' R R' D D' x f g k (Ack b c o) l = (l.0, l.1, l.2, λ e q. let p = l.3 e q in let r = g b in omega arith)

  module _ (G : Version V → Type 0) (top now : ℕ) (C : ℕ → Party V) (R : ℕ → Version V) (M : Message V → Type 0) (D : Done → Type 0)
      (h : Invariant G top now C R M D) where
    party_later : (c : ℕ) → PartyOk G D R (suc now) (C c)
    party_later c = let k = h.party_ok c in
        record { best_ok = k.best_ok; past = λ n. let p = k.past n in omega arith; querying = k.querying; storing = k.storing; stored = k.stored }

    done_later : (d : Done) → D d → DoneOk R top (suc now) d
    done_later d m = let k = h.done_ok d m in
        record { over = let p = k.over in omega arith; below = k.below; enough = k.enough; kept = k.kept }

    -- nothing but the time passes, and messages are lost
    pub lose : (M' : Message V → Type 0) → ((m : Message V) → M' m → M m) → Invariant G top (suc now) C R M' D
    lose M' f = record {
      genuine_top = h.genuine_top;
      genuine_bottom = h.genuine_bottom;
      replica_ok = h.replica_ok;
      message_ok = λ m p. h.message_ok m (f m p);
      party_ok = party_later;
      done_ok = done_later;
    }

    -- a replica answers a query
    pub answer_query : (b c o : ℕ) → b < q.size → M (Query c o) → Good b → Invariant G top (suc now) C R (Also M (Value b c o (R b))) D
    answer_query b c o lt q g = record {
      genuine_top = h.genuine_top;
      genuine_bottom = h.genuine_bottom;
      replica_ok = h.replica_ok;
      message_ok = λ m. ⊎_elim (λ p. h.message_ok m p) (λ e. subst (λ z. Local G R D (C (client_of z)) z) (sym e) new);
      party_ok = party_later;
      done_ok = done_later;
    }
      where
        new : Local G R D (C c) (Value b c o (R b))
        new = (h.replica_ok b lt, h.message_ok (Query c o) q, λ e p d m t i. (h.done_ok d m).kept b g i)

    -- a replica acknowledges a version
    pub answer_store : (b c o : ℕ) (v : Version V) → b < q.size → M (Store c o v) → Good b
        → Invariant G top (suc now) C (changed R b (newer (R b) v)) (Also M (Ack b c o)) D
    answer_store b c o v lt q g = record {
      genuine_top = h.genuine_top;
      genuine_bottom = h.genuine_bottom;
      replica_ok = λ r l. changed_way G R b (newer (R b) v) r (λ _. keeps) (λ _. h.replica_ok r l);
      message_ok = λ m. ⊎_elim (λ p. local_more G G R R' D D (C (client_of m)) (λ _ z. z) grows (λ _ _ z _. z) m (h.message_ok m p))
          (λ e. subst (λ z. Local G R' D (C (client_of z)) z) (sym e) new);
      party_ok = λ c'. let k = party_later c' in
          record { best_ok = k.best_ok; past = k.past; querying = k.querying; storing = k.storing; stored = λ p r i m. let u = k.stored p r i m in let w = grows r in omega arith };
      done_ok = λ d m. let k = done_later d m in
          record { over = k.over; below = k.below; enough = k.enough; kept = λ r i m'. let u = k.kept r i m' in let w = grows r in omega arith };
    }
      where
        R' : ℕ → Version V
        R' = changed R b (newer (R b) v)

        l : Local G R D (C c) (Store c o v)
        l = h.message_ok (Store c o v) q

        keeps : G (newer (R b) v)
        keeps = newer_way G (R b) v (λ _. l.0) (λ _. h.replica_ok b lt)

        grows : (r : ℕ) → (R r).timestamp ≤ (R' r).timestamp
        grows r = changed_way (λ z. (R r).timestamp ≤ z.timestamp) R b (newer (R b) v) r
            (λ e. subst (λ i. (R i).timestamp ≤ (newer (R b) v).timestamp) (sym e) (newer_way (λ z. (R b).timestamp ≤ z.timestamp) (R b) v (λ lt. omega arith) (λ _. omega arith)))
            (λ _. omega arith)

        reaches : v.timestamp ≤ (R' b).timestamp
        reaches = changed_way (λ z. v.timestamp ≤ z.timestamp) R b (newer (R b) v) b
            (λ _. newer_way (λ z. v.timestamp ≤ z.timestamp) (R b) v (λ _. omega arith) (λ le. le)) (λ n. absurd (n refl))

        new : Local G R' D (C c) (Ack b c o)
        new = (g, l.1, l.2, λ e p. subst (λ z. z.timestamp ≤ (R' b).timestamp) (l.3 e p) reaches)

    -- a read begins
    pub begin_read : (c : ℕ) → Invariant G top (suc now) (changed C c (begun_read (C c) now)) R
        (Also M (Query c ((C c).op + 1))) D
    begin_read c = record {
      genuine_top = h.genuine_top;
      genuine_bottom = h.genuine_bottom;
      replica_ok = h.replica_ok;
      message_ok = λ m. ⊎_elim
          (λ p. changed_way (λ z. Local G R D z m) C c x (client_of m)
          (λ e. local_new G R D (C c) x (omega arith) m (subst (λ i. Local G R D (C i) m) e (h.message_ok m p))) (λ _. h.message_ok m p))
          (λ e. subst (λ z. Local G R D (changed C c x (client_of z)) z) (sym e) new);
      party_ok = λ c'. changed_way (λ z. PartyOk G D R (suc now) z) C c x c' (λ _. own) (λ _. party_later c');
      done_ok = done_later;
    }
      where
        x : Party V
        x = begun_read (C c) now

        new : (C c).op + 1 ≤ (changed C c x c).op
        new = changed_way (λ z. (C c).op + 1 ≤ z.op) C c x c (λ _. omega arith) (λ n. absurd (n refl))

        own : PartyOk G D R (suc now) x
        own = record {
          best_ok = λ _. h.genuine_bottom;
          past = λ _. omega arith;
          querying = λ _ d m t b g i. absurd (false≢true (sym (has_none b) ∙ i));
          storing = λ e. absurd (querying≢storing e);
          stored = λ e. absurd (querying≢storing e);
        }

    -- a write begins: what it signs is newer than all that is genuine
    pub begin_write : (G' : Version V → Type 0) (v : Version V) → ((u : Version V) → G u → G' u) → G' v → ((u : Version V) → G' u → u.timestamp ≤ v.timestamp)
        → top < v.timestamp
        → Invariant G' v.timestamp (suc now) (changed C 0 (begun_write (C 0) v now)) R
        (Also M (Store 0 ((C 0).op + 1) v)) D
    begin_write G' v f gv most above = record {
      genuine_top = most;
      genuine_bottom = f _ h.genuine_bottom;
      replica_ok = λ b l. f (R b) (h.replica_ok b l);
      message_ok = λ m. ⊎_elim
          (λ p. changed_way (λ z. Local G' R D z m) C 0 x (client_of m)
          (λ e. local_new G' R D (C 0) x (omega arith) m (subst (λ i. Local G' R D (C i) m) e (old m p))) (λ _. old m p))
          (λ e. subst (λ z. Local G' R D (changed C 0 x (client_of z)) z) (sym e) new);
      party_ok = λ c'. changed_way (λ z. PartyOk G' D R (suc now) z) C 0 x c' (λ _. own) (λ _. let k = party_later c' in
          record { best_ok = λ n. f _ (k.best_ok n); past = k.past; querying = k.querying; storing = k.storing; stored = k.stored });
      done_ok = λ d m. let k = done_later d m in
          record { over = k.over; below = let p = k.below in omega arith; enough = k.enough; kept = k.kept };
    }
      where
        x : Party V
        x = begun_write (C 0) v now

        old : (m : Message V) → M m → Local G' R D (C (client_of m)) m
        old m p = local_more G G' R R D D (C (client_of m)) f (λ _. omega arith) (λ _ _ z _. z) m (h.message_ok m p)

        new : Local G' R D (changed C 0 x 0) (Store 0 ((C 0).op + 1) v)
        new = (gv, omega arith, (λ _ e. storing≢querying e), (λ _ _. refl))

        own : PartyOk G' D R (suc now) x
        own = record {
          best_ok = λ _. gv;
          past = λ _. omega arith;
          querying = λ e. absurd (storing≢querying e);
          storing = λ _ d m _. let k = (h.done_ok d m).below in omega arith;
          stored = λ _ b g i. absurd (false≢true (sym (has_none b) ∙ i));
        }

    -- a reply's way: it was in flight, or a faulty replica is its sender
    abbrev pub From : Message V → ℕ → Type 0
    From m b = M m ⊎ (has faulty b ≡ true)

    module _ (c b : ℕ) (v : Version V) (asks : (C c).phase ≡ Querying) (from : From (Value b c (C c).op v) b) (gv : G v) where
      abbrev pub best' : Version V
      best' = newer (C c).best v

      abbrev pub heard' : ℕ
      heard' = with_member (C c).heard b

      best'_gen : G best'
      best'_gen = newer_way G (C c).best v (λ _. gv) (λ _. (h.party_ok c).best_ok (λ e. idle≢querying (sym e ∙ asks)))

      best'_old : (C c).best.timestamp ≤ best'.timestamp
      best'_old = newer_way (λ z. (C c).best.timestamp ≤ z.timestamp) (C c).best v (λ lt. omega arith) (λ _. omega arith)

      best'_new : v.timestamp ≤ best'.timestamp
      best'_new = newer_way (λ z. v.timestamp ≤ z.timestamp) (C c).best v (λ lt. omega arith) (λ le. le)

      -- the replicas heard have told what the finished operations left with them
      asked' : (d : Done) → D d → d.end < (C c).began → (r : ℕ) → Good r → has heard' r ≡ true → has d.set r ≡ true → d.stamp ≤ best'.timestamp
      asked' d m t r g i j =
          ⊎_elim
          (λ e. ⊎_elim
          (λ p. let k = (h.message_ok (Value b c (C c).op v) p).2 refl asks d m t (subst (λ z. has d.set z ≡ true) e j) in let u = best'_new in omega arith)
          (λ bad. absurd (false≢true (sym g ∙ ap (λ z. has faulty z) e ∙ bad)))
          from)
          (λ old. let k = (h.party_ok c).querying asks d m t r g old j in let u = best'_old in omega arith)
          (with_cases (C c).heard b r i)

      hear_x : Party V
      hear_x = hearing (C c) heard' best'

      pub hear_value : Invariant G top (suc now) (changed C c (hearing (C c) heard' best')) R M D
      unfolding hear_x
      hear_value = record {
        genuine_top = h.genuine_top;
        genuine_bottom = h.genuine_bottom;
        replica_ok = h.replica_ok;
        message_ok = λ m p. changed_way (λ z. Local G R D z m) C c hear_x (client_of m)
            (λ e. keep m (subst (λ i. Local G R D (C i) m) e (h.message_ok m p))) (λ _. h.message_ok m p);
        party_ok = λ c'. changed_way (λ z. PartyOk G D R (suc now) z) C c hear_x c' (λ _. own) (λ _. party_later c');
        done_ok = done_later;
      }
        where
          keep : (m : Message V) → Local G R D (C c) m → Local G R D hear_x m
          keep (Query c o) l = l
          keep (Store c o v) l = (l.0, l.1, l.2, λ _ e. absurd (querying≢storing (sym asks ∙ e)))
          keep (Value b c o v) l = l
          keep (Ack b c o) l = (l.0, l.1, l.2, λ _ e. absurd (querying≢storing (sym asks ∙ e)))

          own : PartyOk G D R (suc now) hear_x
          own = let k = party_later c in record {
            best_ok = λ _. best'_gen;
            past = k.past;
            querying = λ _. asked';
            storing = λ e. absurd (querying≢storing (sym asks ∙ e));
            stored = λ e. absurd (querying≢storing (sym asks ∙ e));
          }

      pub turn : q.quorum heard' ≡ true
          → Invariant G top (suc now) (changed C c (turning (C c) best')) R (Also M (Store c (C c).op best')) D
      turn enough = record {
        genuine_top = h.genuine_top;
        genuine_bottom = h.genuine_bottom;
        replica_ok = h.replica_ok;
        message_ok = λ m. ⊎_elim
            (λ p. changed_way (λ z. Local G R D z m) C c x (client_of m)
            (λ e. keep m (subst (λ i. Local G R D (C i) m) e (h.message_ok m p))) (λ _. h.message_ok m p))
            (λ e. subst (λ z. Local G R D (changed C c x (client_of z)) z) (sym e) new);
        party_ok = λ c'. changed_way (λ z. PartyOk G D R (suc now) z) C c x c' (λ _. own) (λ _. party_later c');
        done_ok = done_later;
      }
        where
          x : Party V
          x = turning (C c) best'

          keep : (m : Message V) → Local G R D (C c) m → Local G R D x m
          keep (Query c o) l = l
          keep (Store c o v) l = (l.0, l.1, (λ _ e. storing≢querying e), λ e _. absurd (l.2 e asks))
          keep (Value b c o v) l = (l.0, l.1, λ _ e. absurd (storing≢querying e))
          keep (Ack b c o) l = (l.0, l.1, (λ _ e. storing≢querying e), λ e _. absurd (l.2 e asks))

          new : Local G R D (changed C c x c) (Store c (C c).op best')
          new = changed_way (λ z. Local G R D z (Store c (C c).op best')) C c x c
              (λ _. (best'_gen, omega arith, (λ _ e. storing≢querying e), λ _ _. refl)) (λ n. absurd (n refl))

          own : PartyOk G D R (suc now) x
          own = let k = party_later c in record {
            best_ok = λ _. best'_gen;
            past = λ _. k.past (λ e. idle≢querying (sym e ∙ asks));
            querying = λ e. absurd (storing≢querying e);
            storing = λ _ d m t.
                let w = common_correct q laws heard' d.set faulty enough (h.done_ok d m).enough fault in
                asked' d m t w.0 w.4 w.2 w.3;
            stored = λ _ r g i. absurd (false≢true (sym (has_none r) ∙ i));
          }

    module _ (c b : ℕ) (stores : (C c).phase ≡ Storing) (from : From (Ack b c (C c).op) b) where
      -- the replicas heard keep what was stored
      acked : (r : ℕ) → Good r → has (with_member (C c).heard b) r ≡ true → (C c).best.timestamp ≤ (R r).timestamp
      acked r g i =
          ⊎_elim
          (λ e. ⊎_elim
          (λ p. subst (λ z. (C c).best.timestamp ≤ (R z).timestamp) (sym e) ((h.message_ok (Ack b c (C c).op) p).3 refl stores))
          (λ bad. absurd (false≢true (sym g ∙ ap (λ z. has faulty z) e ∙ bad)))
          from)
          (λ old. (h.party_ok c).stored stores r g old)
          (with_cases (C c).heard b r i)

      pub hear_ack : Invariant G top (suc now)
          (changed C c (hearing (C c) (with_member (C c).heard b) (C c).best)) R M D
      hear_ack = record {
        genuine_top = h.genuine_top;
        genuine_bottom = h.genuine_bottom;
        replica_ok = h.replica_ok;
        message_ok = λ m p. changed_way (λ z. Local G R D z m) C c x (client_of m)
            (λ e. keep m (subst (λ i. Local G R D (C i) m) e (h.message_ok m p))) (λ _. h.message_ok m p);
        party_ok = λ c'. changed_way (λ z. PartyOk G D R (suc now) z) C c x c' (λ _. own) (λ _. party_later c');
        done_ok = done_later;
      }
        where
          x : Party V
          x = hearing (C c) (with_member (C c).heard b) (C c).best

          keep : (m : Message V) → Local G R D (C c) m → Local G R D x m
          keep (Query c o) l = l
          keep (Store c o v) l = l
          keep (Value b c o v) l = l
          keep (Ack b c o) l = l

          own : PartyOk G D R (suc now) x
          own = let k = party_later c in record {
            best_ok = k.best_ok;
            past = k.past;
            querying = λ e. absurd (storing≢querying (sym stores ∙ e));
            storing = k.storing;
            stored = λ _. acked;
          }

      abbrev pub deed : Done
      deed = record { id = (C c).began; end = now; stamp = (C c).best.timestamp; set = with_member (C c).heard b }

      pub finish : q.quorum (with_member (C c).heard b) ≡ true
          → Invariant G top (suc now) (changed C c (ending (C c))) R M (λ d. (d ≡ deed) ⊎ D d)
      finish enough = record {
        genuine_top = h.genuine_top;
        genuine_bottom = h.genuine_bottom;
        replica_ok = h.replica_ok;
        message_ok = λ m p. changed_way (λ z. Local G R D' z m) C c x (client_of m)
            (λ e. keep m (subst (λ i. Local G R D (C i) m) e (h.message_ok m p))) (λ _. other (client_of m) m (h.message_ok m p));
        party_ok = λ c'. changed_way (λ z. PartyOk G D' R (suc now) z) C c x c' (λ _. own) (λ _. still c');
        done_ok = λ d. ⊎_elim (λ e. subst (λ z. DoneOk R top (suc now) z) (sym e) new) (λ m. done_later d m);
      }
        where
          D' : Done → Type 0
          D' d = (d ≡ deed) ⊎ D d

          x : Party V
          x = ending (C c)

          -- what finishes now did not finish before an open operation began
          early : (c' : ℕ) → ((C c').phase ≡ Idle → ⊥) → (d : Done) → D' d → d.end < (C c').began → D d
          early c' n d (inr m) t = m
          early c' n d (inl e) t = absurd (let p = (h.party_ok c').past n in let q = ap (λ z. z.end) e in omega arith)

          other : (c' : ℕ) (m : Message V) → Local G R D (C c') m → Local G R D' (C c') m
          other c' = local_more G G R R D D' (C c') (λ _ z. z) (λ _. omega arith) (λ q. early c' (λ e. idle≢querying (sym e ∙ q)))

          keep : (m : Message V) → Local G R D (C c) m → Local G R D' x m
          keep (Query c o) l = l
          keep (Store c o v) l = (l.0, l.1, (λ _ e. idle≢querying e), λ _ e. absurd (idle≢storing e))
          keep (Value b c o v) l = (l.0, l.1, λ _ e. absurd (idle≢querying e))
          keep (Ack b c o) l = (l.0, l.1, (λ _ e. idle≢querying e), λ _ e. absurd (idle≢storing e))

          own : PartyOk G D' R (suc now) x
          own = record {
            best_ok = λ _. h.genuine_bottom;
            past = λ n. absurd (n refl);
            querying = λ e. absurd (idle≢querying e);
            storing = λ e. absurd (idle≢storing e);
            stored = λ e. absurd (idle≢storing e);
          }

          still : (c' : ℕ) → PartyOk G D' R (suc now) (C c')
          still c' = let k = party_later c' in record {
            best_ok = k.best_ok;
            past = k.past;
            querying = λ q d m t. k.querying q d (early c' (λ e. idle≢querying (sym e ∙ q)) d m t) t;
            storing = λ q d m t. k.storing q d (early c' (λ e. idle≢storing (sym e ∙ q)) d m t) t;
            stored = k.stored;
          }

          new : DoneOk R top (suc now) deed
          new = record {
            over = omega arith;
            below = h.genuine_top _ ((h.party_ok c).best_ok (λ e. idle≢storing (sym e ∙ stores)));
            enough = enough;
            kept = acked;
          }

    -- fewer messages
    pub fewer : (M' : Message V → Type 0) → ((m : Message V) → M' m → M m) → Invariant G top now C R M' D
    fewer M' f = record {
      genuine_top = h.genuine_top;
      genuine_bottom = h.genuine_bottom;
      replica_ok = h.replica_ok;
      message_ok = λ m p. h.message_ok m (f m p);
      party_ok = h.party_ok;
      done_ok = h.done_ok;
    }
