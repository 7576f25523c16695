-- What a call can do: the steps of a cluster as cases, with what is known in each. Assumes nothing.
use Rattle.std.proofs.Common.{◌≡◌, ℕ, zero, suc, ◌+◌, ◌<◌, ◌≤◌, Bool, true, false, cond, not, ◌&&◌, ◌||◌, eqb, leb, ◌⊎◌, List, [], ◌∷◌, ◌++◌, length, get_or, set, Some, None, Ok, Err, Option, Result, sym, refl, ap, ◌∙◌, subst, inl, inr, arith}
use Rattle.std.proofs.lemmas.Bool.{cond_both, and_parts, or_parts, leb-false, ltb-true, ltb-false, eqb-true, eqb-false, not-false, true≢false, false≢true}
use Rattle.std.specs.List.{remove}
use Rattle.encodings.specs.Encodings.{Bytes, same_bytes}
use Rattle.settings.specs.Kinds.{Kind}
use Rattle.replica_sets.specs.Sets.{has, with_member}
use Rattle.signatures.specs.Books.{signed, newest, can_sign}
use Rattle.signatures.specs.declared.entry.Entry.{Entry}
use Rattle.protocol.specs.Versions.{version, with_value, genuine}
use Rattle.protocol.specs.Messages.{is_reply, replica_of, client_of, each_value}
use Rattle.protocol.specs.Replicas.{newer, answer, keep}
use Rattle.protocol.specs.Clients.{client, is_idle, is_querying, is_storing, awaits, fresh_client}
use Rattle.protocol.specs.declared.version.Version.{Version}
use Rattle.protocol.specs.declared.message.Message.{Message}
use Rattle.protocol.specs.declared.message.Message.TheVariants.{Query, Store, Value, Ack}
use Rattle.protocol.specs.declared.client.Client.{Client}
use Rattle.protocol.specs.declared.client.Phase.{Phase}
use Rattle.protocol.specs.declared.client.Phase.TheVariants.{Idle, Querying, Storing}
use Rattle.protocol.specs.declared.client.Reply.{Reply}
use Rattle.protocol.specs.declared.client.Reply.TheVariants.{Heard, Ignored, Turned, Finished}
use Rattle.cluster.specs.Refusals.{Check, first_refusal}
use Rattle.cluster.specs.State.{State}
use Rattle.cluster.specs.Steps.{Outcome, unless, closed, begins, in_flight_full, no_reader_at, no_message_at, no_replica_at, addressed, no_version, no_message, message_at, reader_at, client_at, readers_with, readers_done, with_client, end_line, settled, hear, write_begun, write_step, read_begun, read_step, answering, answered, request_step, reply_step, forge_step, drop_step, collected, collecting, collect_step, handed_out}
use Rattle.cluster.specs.declared.reader.Completed.{Completed}
use Rattle.cluster.specs.declared.delivery.Delivery.{Delivery}
use Rattle.cluster.specs.declared.delivery.Delivery.TheVariants.{Answered, Unanswered}
use Rattle.atomicity.specs.declared.call.Call.{Call}
use Rattle.atomicity.specs.declared.call.Call.TheVariants.{Write, Read, DeliverRequest, DeliverReply, ForgeReply, DropMessage, Collect}
use Rattle.atomicity.specs.declared.answer.Answer.{Answer}
use Rattle.atomicity.specs.declared.answer.Answer.TheVariants.{Written, ReadBegun, Delivered, Replied, Dropped, Collected}
use Rattle.atomicity.specs.Runs.{renamed, step}
use Rattle.atomicity.proofs.Facts.{Member, nth, nth_member, nth_get_or}

-- ---- refusals

-- whether the check at a place refuses
abbrev pub refuses : List Check → ℕ → Bool
refuses [] i = false
refuses (c ∷ cs) zero = c.0
refuses (c ∷ cs) (suc i) = refuses cs i

pub first_none : (cs : List Check) → first_refusal cs ≡ None → (i : ℕ) → refuses cs i ≡ false
first_none [] e i = refl
first_none (c ∷ cs) e i = go c.0 e i (λ f. first_none cs f)
  where
    go : (b : Bool) → cond b (Some c.1) (first_refusal cs) ≡ None → (i : ℕ) → (first_refusal cs ≡ None → (j : ℕ) → refuses cs j ≡ false) → refuses ((b, c.1) ∷ cs) i ≡ false
    go true f i g = absurd (let z : ◌≡◌ {A = ℕ} 0 1 = cc in omega arith)
    go false f zero g = refl
    go false f (suc i) g = g f i

-- the two ways of a call: refused, or every check passed
pub checks_way : {A : Type 0} (P : Outcome A → Type 0) (cs : List Check) (s : State) (o : Outcome A) → ((n : ℕ) → P (Err n, s)) → (((i : ℕ) → refuses cs i ≡ false) → P o) → P (unless (first_refusal cs) s o)
unfolding unless
checks_way {A} P cs s o f g = go (first_refusal cs) refl
  where
    go : (r : Option ℕ) → first_refusal cs ≡ r → P (unless r s o)
    go None e = g (first_none cs e)
    go (Some n) e = f n

-- ---- phases

idle_is : (p : Phase) → is_idle p ≡ true → p ≡ Idle
idle_is Idle e = refl
idle_is Querying e = absurd (false≢true e)
idle_is Storing e = absurd (false≢true e)

querying_is : (p : Phase) → is_querying p ≡ true → p ≡ Querying
querying_is Querying e = refl
querying_is Idle e = absurd (false≢true e)
querying_is Storing e = absurd (false≢true e)

storing_is : (p : Phase) → is_storing p ≡ true → p ≡ Storing
storing_is Storing e = refl
storing_is Idle e = absurd (false≢true e)
storing_is Querying e = absurd (false≢true e)

-- the client c
abbrev pub seen : State → ℕ → Client
seen s c = client_at s.writer s.readers c

-- the row of the replica r
abbrev pub row : State → ℕ → Version Bytes
row s r = get_or s.replicas r no_version

-- the replicas that the client c has heard, and the replica r
abbrev pub hears : State → ℕ → ℕ → ℕ
hears s c r = with_member (seen s c).heard.members r

-- the better of the client's best version and v
abbrev pub better : State → ℕ → Version Bytes → Version Bytes
better s c v = newer (seen s c).best v

-- ---- states after

abbrev pub put : State → ℕ → Client → State
put s c y = with_client s c y (readers_with s.readers c y) s.messages s.lines

abbrev pub put_send : State → ℕ → Client → Message Bytes → State
put_send s c y m = with_client s c y (readers_with s.readers c y) (s.messages ++ (m ∷ [])) s.lines

abbrev pub after_answer : State → ℕ → Version Bytes → Message Bytes → State
after_answer s r v m = record {
  fixed = s.fixed;
  book = s.book;
  free = s.free;
  writer = s.writer;
  replicas = set s.replicas r v;
  readers = s.readers;
  messages = s.messages ++ (m ∷ []);
  lines = s.lines;
}

abbrev pub without : State → ℕ → State
without s i = record {
  fixed = s.fixed;
  book = s.book;
  free = s.free;
  writer = s.writer;
  replicas = s.replicas;
  readers = s.readers;
  messages = remove s.messages i;
  lines = s.lines;
}

module _ {S : Type 0} (k : Kind S) where
  abbrev pub finished : State → ℕ → State
  finished s c = let y = fresh_client k (seen s c).op in
      with_client s c y (readers_done s.readers c (seen s c) y) s.messages (s.lines ++ (end_line c (seen s c) ∷ []))

  -- the version is the initial one, or the book has it
  abbrev pub genuine_row : List Entry → Version Bytes → Bool
  genuine_row book v = (eqb v.timestamp 0 && (eqb v.tag 0 && same_bytes v.value (k.encode k.initial))) || signed book v.timestamp v.value v.tag

  -- decoding and encoding again gives the same
  abbrev pub Coded : Version Bytes → Type 0
  Coded v = k.encode (k.decode v.value) ≡ v.value

  abbrev pub again : Message Bytes → Message Bytes
  again m = each_value k.encode (each_value k.decode m)

  module _ (s : State) where
    -- does the reply count?
    abbrev pub counts : Message Bytes → Bool
    counts (Query c o) = false
    counts (Store c o v) = false
    counts (Value r c o v) = is_querying (seen s c).phase && (awaits (seen s c) r o && genuine_row s.book v)
    counts (Ack r c o) = is_storing (seen s c).phase && awaits (seen s c) r o

    -- the call hands the message to its client: it delivers the message from those in flight, or forges it as from a faulty replica
    abbrev pub Handed : Call S → Message Bytes → Type 0
    Handed call m = ((i : ℕ) × (call ≡ DeliverReply i) × (nth s.messages i ≡ Some m))
        ⊎ ((m' : Message S) × (call ≡ ForgeReply m') × (each_value k.encode m' ≡ m) × (has s.fixed.faulty (replica_of m) ≡ true))

    -- why a replica is silent
    abbrev pub Mute : ℕ → Message Bytes → Type 0
    Mute r m = (has s.fixed.faulty r ≡ true) ⊎ ((c o : ℕ) × (v : Version Bytes) × (m ≡ Store c o v) × (genuine_row s.book v ≡ false))

    pub record Cases (P : Call S → Result (Answer S) ℕ → State → Type 0) : Type 0 where
      pub refusal : (call : Call S) (n : ℕ) → P call (Err n) s
      pub wrote : (v : S) (g : ℕ) → s.writer.phase ≡ Idle → newest s.book < s.writer.op + 1
          → P (Write v) (Ok (Written (s.writer.op + 1))) (write_begun k s (k.encode v) g)
      pub asks : (c : ℕ) → (c ≡ 0 → ⊥) → c ≤ length s.readers → (reader_at s.readers c).client.phase ≡ Idle
          → P (Read c) (Ok (ReadBegun ((reader_at s.readers c).client.op + 1))) (read_begun k s c)
      pub tells : (i r c o : ℕ) → nth s.messages i ≡ Some (Query c o) → r < s.fixed.quorums.size → has s.fixed.faulty r ≡ false
          → P (DeliverRequest i r) (Ok (Delivered Answered)) (after_answer s r (row s r) (Value r c o (row s r)))
      pub keeps : (i r c o : ℕ) (v : Version Bytes) → nth s.messages i ≡ Some (Store c o v) → r < s.fixed.quorums.size → has s.fixed.faulty r ≡ false
          → genuine_row s.book v ≡ true → P (DeliverRequest i r) (Ok (Delivered Answered)) (after_answer s r (newer (row s r) v) (Ack r c o))
      pub silent : (i r : ℕ) (m : Message Bytes) → nth s.messages i ≡ Some m → Mute r m → P (DeliverRequest i r) (Ok (Delivered Unanswered)) s
      pub ignores : (call : Call S) (m : Message Bytes) → Handed call m → counts m ≡ false → P call (Ok (Replied Ignored)) s
      pub learns : (call : Call S) (r c : ℕ) (v : Version Bytes) → Handed call (Value r c (seen s c).op v) → r < s.fixed.quorums.size → c ≤ length s.readers
          → (seen s c).phase ≡ Querying → genuine_row s.book v ≡ true → s.fixed.quorums.quorum (hears s c r) ≡ false
          → P call (Ok (Replied Heard)) (put s c (client (seen s c).phase (seen s c).op (hears s c r) (better s c v)))
      pub turns : (call : Call S) (r c : ℕ) (v : Version Bytes) → Handed call (Value r c (seen s c).op v) → r < s.fixed.quorums.size → c ≤ length s.readers
          → (seen s c).phase ≡ Querying → genuine_row s.book v ≡ true → s.fixed.quorums.quorum (hears s c r) ≡ true
          → P call (Ok (Replied Turned)) (put_send s c (client Storing (seen s c).op 0 (better s c v)) (Store c (seen s c).op (better s c v)))
      pub counted : (call : Call S) (r c : ℕ) → Handed call (Ack r c (seen s c).op) → r < s.fixed.quorums.size → c ≤ length s.readers
          → (seen s c).phase ≡ Storing → s.fixed.quorums.quorum (hears s c r) ≡ false
          → P call (Ok (Replied Heard)) (put s c (client (seen s c).phase (seen s c).op (hears s c r) (seen s c).best))
      pub ends : (call : Call S) (r c : ℕ) → Handed call (Ack r c (seen s c).op) → r < s.fixed.quorums.size → c ≤ length s.readers
          → (seen s c).phase ≡ Storing → s.fixed.quorums.quorum (hears s c r) ≡ true
          → P call (Ok (Replied Finished)) (finished s c)
      pub drops : (i : ℕ) → i < length s.messages → P (DropMessage i) (Ok Dropped) (without s i)
      pub collects : (c : ℕ) (z : Completed) → (c ≡ 0 → ⊥) → c ≤ length s.readers → (reader_at s.readers c).completed ≡ Some z
          → P (Collect c) (Ok (Collected (handed_out k c z))) (collected s c)

    module _ (rows : (r : ℕ) → r < s.fixed.quorums.size → Coded (row s r)) (flights : (m : Message Bytes) → Member m s.messages → again m ≡ m)
        (P : Call S → Result (Answer S) ℕ → State → Type 0) (h : Cases P) where
      abbrev After : {A : Type 0} → Call S → (A → Answer S) → Outcome A → Type 0
      After call f o = P call (renamed f o.0) o.1

      do_write : (v : S) (g : ℕ) → After (Write v) Written (write_step k s v g)
      unfolding write_step can_sign
      do_write v g = checks_way (After (Write v) Written) (closed s ++ (begins s s.writer ++ ((not (can_sign s.book s.free (s.writer.op + 1)), 14) ∷ []))) s _ (λ n. h.refusal _ n)
          λ p. h.wrote v g (idle_is _ (not-false _ (p 2))) (ltb-true _ _ (and_parts _ _ (not-false _ (p 6))).0)

      do_read : (c : ℕ) → After (Read c) ReadBegun (read_step k s c)
      unfolding read_step
      do_read c = checks_way (After (Read c) ReadBegun) (closed s ++ ((no_reader_at s.readers c, 9) ∷ begins s (reader_at s.readers c).client)) s _ (λ n. h.refusal _ n)
          λ p. let z = or_parts _ _ (p 2) in h.asks c (eqb-false _ _ z.0) (ltb-false _ _ z.1) (idle_is _ (not-false _ (p 3)))

      -- the answer of a correct replica
      do_answer : (i r : ℕ) (m : Message Bytes) → nth s.messages i ≡ Some m → is_reply m ≡ false → r < s.fixed.quorums.size → has s.fixed.faulty r ≡ false
          → After (DeliverRequest i r) Delivered (answering k s r (keep k s.book (row s r) (each_value k.decode m)) (answer k s.book r (row s r) (each_value k.decode m)))
      do_answer i r (Query c o) e n lt g = checks_way Q ((in_flight_full s, 12) ∷ []) s _ (λ n. h.refusal _ n)
          λ _. subst (λ b. P (DeliverRequest i r) (Ok (Delivered Answered)) (after_answer s r (row s r) (Value r c o (version (row s r).timestamp b (row s r).tag))))
          (sym (rows r lt)) (h.tells i r c o e lt g)
        where
          Q : Outcome Delivery → Type 0
          Q = After (DeliverRequest i r) Delivered
      do_answer i r (Store c o v) e n lt g = go (genuine_row s.book w) refl
        where
          Q : Outcome Delivery → Type 0
          Q = After (DeliverRequest i r) Delivered

          w : Version Bytes
          w = with_value k.encode (with_value k.decode v)

          same : again (Store c o v) ≡ Store c o v
          same = flights (Store c o v) (nth_member s.messages i e)

          e' : nth s.messages i ≡ Some (Store c o w)
          e' = e ∙ ap (λ y. Some y) (sym same)

          go : (b : Bool) → genuine_row s.book w ≡ b → Q (answering k s r (cond b (newer (row s r) w) (row s r)) (cond b (Some (Ack r c o)) None))
          go true t = checks_way Q ((in_flight_full s, 12) ∷ []) s (Ok Answered, answered k s r (newer (row s r) w) (Ack r c o)) (λ n. h.refusal _ n) λ _. h.keeps i r c o w e' lt g t
          go false t = h.silent i r (Store c o w) e' (inr (c, o, w, refl, t))
      do_answer i r (Value d c o v) e n lt g = absurd (true≢false n)
      do_answer i r (Ack d c o) e n lt g = absurd (true≢false n)

      do_request : (i r : ℕ) → After (DeliverRequest i r) Delivered (request_step k s i r)
      unfolding request_step
      do_request i r = checks_way (After (DeliverRequest i r) Delivered) (closed s ++ ((no_message_at s i, 15) ∷ (is_reply (message_at s i), 16) ∷ (no_replica_at s r, 17) ∷ [])) s _ (λ n. h.refusal _ n)
          λ p. let e = nth_get_or s.messages i no_message (leb-false _ _ (p 2)) in
          cond_both (has s.fixed.faulty r) _ _ (After (DeliverRequest i r) Delivered)
          (λ bad. h.silent i r (message_at s i) e (inl bad))
          (λ g. do_answer i r (message_at s i) e (p 3) (leb-false _ _ (p 4)) g)

      -- a client hears a message
      do_hear : (call : Call S) (m : Message S) → Handed call (each_value k.encode m) → is_reply m ≡ true → replica_of m < s.fixed.quorums.size
          → client_of m ≤ length s.readers → After call Replied (hear k s (client_of m) m)
      unfolding hear
      do_hear call (Query c o) f n lt cl = absurd (false≢true n)
      do_hear call (Store c o v) f n lt cl = absurd (false≢true n)
      do_hear call (Value r c o v) f n lt cl = cond_both (is_querying (seen s c).phase && (awaits (seen s c) r o && genuine k s.book v)) _ _ Q
          (λ t.
          let a = and_parts _ _ t in
          let b = and_parts _ _ a.1 in
          let d = and_parts _ _ b.0 in
          let f' = subst (λ z. Handed call (Value r c z w)) (eqb-true _ _ d.0) f in
          let q = querying_is _ a.0 in
          cond_both (s.fixed.quorums.quorum (hears s c r)) _ _ Q
          (λ u. checks_way (After call Replied) ((in_flight_full s, 12) ∷ []) s _ (λ n. h.refusal _ n) λ _. h.turns call r c w f' lt cl q b.1 u)
          (λ u. h.learns call r c w f' lt cl q b.1 u))
          (λ t. h.ignores call (Value r c o w) f t)
        where
          w : Version Bytes
          w = with_value k.encode v

          Q : Reply × Client → Type 0
          Q z = After call Replied (settled s c z.0 z.1)
      do_hear call (Ack r c o) f n lt cl = cond_both (is_storing (seen s c).phase && awaits (seen s c) r o) _ _ Q
          (λ t.
          let a = and_parts _ _ t in
          let d = and_parts _ _ a.1 in
          let f' = subst (λ z. Handed call (Ack r c z)) (eqb-true _ _ d.0) f in
          let q = storing_is _ a.0 in
          cond_both (s.fixed.quorums.quorum (hears s c r)) _ _ Q
          (λ u. checks_way (After call Replied) ((leb s.fixed.line_places (length s.lines), 13) ∷ []) s _ (λ n. h.refusal _ n) λ _. h.ends call r c f' lt cl q u)
          (λ u. h.counted call r c f' lt cl q u))
          (λ t. h.ignores call (Ack r c o) f t)
        where
          Q : Reply × Client → Type 0
          Q z = After call Replied (settled s c z.0 z.1)

      -- a message in flight, which is what it is decoded and encoded to
      hear_row : (i : ℕ) (m : Message Bytes) → nth s.messages i ≡ Some m → is_reply m ≡ true → replica_of m < s.fixed.quorums.size → client_of m ≤ length s.readers
          → After (DeliverReply i) Replied (hear k s (client_of m) (each_value k.decode m))
      hear_row i m e n lt cl = go m n lt cl (inl (i, refl, e ∙ ap (λ y. Some y) (sym (flights m (nth_member s.messages i e)))))
        where
          go : (m : Message Bytes) → is_reply m ≡ true → replica_of m < s.fixed.quorums.size → client_of m ≤ length s.readers → Handed (DeliverReply i) (again m)
              → After (DeliverReply i) Replied (hear k s (client_of m) (each_value k.decode m))
          go (Query c o) n lt cl f = absurd (false≢true n)
          go (Store c o v) n lt cl f = absurd (false≢true n)
          go (Value r c o v) n lt cl f = do_hear (DeliverReply i) (Value r c o (with_value k.decode v)) f n lt cl
          go (Ack r c o) n lt cl f = do_hear (DeliverReply i) (Ack r c o) f n lt cl

      do_reply : (i : ℕ) → After (DeliverReply i) Replied (reply_step k s i)
      unfolding reply_step
      do_reply i = checks_way (After (DeliverReply i) Replied) (closed s ++ ((no_message_at s i, 15) ∷ addressed k s (message_at s i) [])) s _ (λ n. h.refusal _ n)
          λ p. hear_row i (message_at s i) (nth_get_or s.messages i no_message (leb-false _ _ (p 2))) (not-false _ (p 3)) (leb-false _ _ (p 4)) (ltb-false _ _ (p 5))

      do_forge : (m : Message S) → After (ForgeReply m) Replied (forge_step k s m)
      unfolding forge_step
      do_forge m = checks_way (After (ForgeReply m) Replied) (closed s ++ addressed k s m ((not (has s.fixed.faulty (replica_of m)), 18) ∷ [])) s _ (λ n. h.refusal _ n)
          λ p. do_hear (ForgeReply m) m (inr (m, refl, refl, sender m ∙ not-false _ (p 4))) (not-false _ (p 2)) (leb-false _ _ (p 3)) (ltb-false _ _ (p 5))
        where
          sender : (m : Message S) → has s.fixed.faulty (replica_of (each_value k.encode m)) ≡ has s.fixed.faulty (replica_of m)
          sender (Query c o) = refl
          sender (Store c o v) = refl
          sender (Value r c o v) = refl
          sender (Ack r c o) = refl

      do_drop : (i : ℕ) → After (DropMessage i) (λ _. Dropped) (drop_step s i)
      unfolding drop_step
      do_drop i = checks_way (After (DropMessage i) (λ _. Dropped)) (closed s ++ ((no_message_at s i, 15) ∷ [])) s _ (λ n. h.refusal _ n) λ p. h.drops i (leb-false _ _ (p 2))

      do_collect : (c : ℕ) → After (Collect c) Collected (collect_step k s c)
      unfolding collect_step
      do_collect c = checks_way (After (Collect c) Collected) (closed s ++ ((no_reader_at s.readers c, 9) ∷ [])) s _ (λ n. h.refusal _ n)
          λ p. let z = or_parts _ _ (p 2) in go (reader_at s.readers c).completed refl (eqb-false _ _ z.0) (ltb-false _ _ z.1)
        where
          go : (o : Option Completed) → (reader_at s.readers c).completed ≡ o → (c ≡ 0 → ⊥) → c ≤ length s.readers → After (Collect c) Collected (collecting k s c o)
          go None e n l = h.refusal _ 19
          go (Some z) e n l = h.collects c z n l e

      pub move : (call : Call S) (g : ℕ) → P call (step k s call g).0 (step k s call g).1
      move (Write v) g = do_write v g
      move (Read c) g = do_read c
      move (DeliverRequest i r) g = do_request i r
      move (DeliverReply i) g = do_reply i
      move (ForgeReply m) g = do_forge m
      move (DropMessage i) g = do_drop i
      move (Collect c) g = do_collect c
