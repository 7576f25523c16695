-- The steps of a cluster keep the protocol's invariant, with the order of operations beside the run. Assumes nothing.
use Rattle.std.proofs.Common.{◌≡◌, ℕ, suc, ◌+◌, ◌<◌, ◌≤◌, true, false, cond, eqb, ◌⊎◌, List, [], ◌∷◌, ◌++◌, length, get_or, Some, None, Ok, Result, sym, refl, ap, ◌∙◌, subst, subst₂, inl, inr, ⊎_elim, arith, length-set}
use mathlib.Core.Path.{fun_ext}
use lib.Seq.{set-get_or}
use Rattle.std.proofs.lemmas.Bool.{cases_eq, cond-true, cond-false, eq-eqb, ne_eqb}
use Rattle.std.specs.Option.{option_map}
use Rattle.encodings.specs.Encodings.{Bytes}
use Rattle.settings.specs.Kinds.{Kind, KindLaws}
use Rattle.replica_sets.specs.Sets.{has}
use Rattle.quorums.specs.Systems.{Quorums, QuorumLaws}
use Rattle.signatures.specs.Books.{entry, newest}
use Rattle.protocol.specs.Versions.{version}
use Rattle.protocol.specs.Messages.{replica_of}
use Rattle.protocol.specs.Replicas.{newer}
use Rattle.protocol.specs.Clients.{client, initial_row, fresh_client, begin_query, begin_store}
use Rattle.protocol.specs.declared.version.Version.{Version}
use Rattle.protocol.specs.declared.message.Message.{Message}
use Rattle.protocol.specs.declared.message.Message.TheVariants.{Query, Store, Value, Ack}
use Rattle.protocol.specs.declared.client.Client.{Client}
use Rattle.protocol.specs.declared.client.Phase.TheVariants.{Idle, Querying, Storing}
use Rattle.protocol.specs.declared.client.Reply.TheVariants.{Heard, Ignored, Turned, Finished}
use Rattle.cluster.specs.State.{State, Fixed}
use Rattle.cluster.specs.Steps.{no_version, reader_at, completed_of, write_begun, read_begun, collected, handed_out, writer_with}
use Rattle.cluster.specs.declared.reader.Completed.{Completed}
use Rattle.cluster.specs.declared.delivery.Delivery.TheVariants.{Answered}
use Rattle.atomicity.specs.declared.call.Call.{Call}
use Rattle.atomicity.specs.declared.call.Call.TheVariants.{Write, Read, DeliverRequest, DropMessage, Collect}
use Rattle.atomicity.specs.declared.answer.Answer.{Answer}
use Rattle.atomicity.specs.declared.answer.Answer.TheVariants.{Written, ReadBegun, Delivered, Replied, Dropped, Collected}
use Rattle.atomicity.specs.Runs.{step}
use Rattle.atomicity.specs.Marks.{Mark, Summary, at, begins, finishes, reads, writes, gives}
use Rattle.atomicity.specs.Claims.{Ends}
use Rattle.atomicity.specs.Summaries.{came_to, held}
use Rattle.atomicity.proofs.Facts.{Member, changed, changed_way, changed_same, changed_other, nth, member_snoc, nth_member, member_removed, storing≢querying, idle≢querying, idle≢storing}
use Rattle.atomicity.proofs.Order.{Item, push, place}
use Rattle.atomicity.proofs.Trace.{Done, of, then_event, length_then, at_keep, at_new, Tracked, tracked_plain, tracked_begin, tracked_finish}
use Rattle.atomicity.proofs.Linearization.{Ordered, ordered_plain, ordered_write, ordered_finish_write, ordered_finish_read}
use Rattle.atomicity.proofs.Protocol as protocol
use Rattle.atomicity.proofs.Protocol.{Party, Invariant, Also}
use Rattle.atomicity.proofs.Moves.{seen, row, hears, better, put, put_send, after_answer, without, finished, genuine_row, Coded, again, Handed, Cases, move}
use Rattle.atomicity.proofs.Book.{genuine_grow, genuine_new, genuine_cases, newest_new}
use Rattle.atomicity.proofs.Tables.{seen_put, seen_sent, seen_finished, seen_querying, seen_writing, seen_collected, seen_reader, writer_kept, done_with, row_put, party, stored, parties, stored_writer, stored_reader, parties_put}
use Rattle.atomicity.proofs.Handing.{handed_mark}

-- the client's operation is open
abbrev pub Open : State → ℕ → Type 0
Open s c = (seen s c).phase ≡ Idle → ⊥

module _ {S : Type 0} (k : Kind S) where
  abbrev pub Genuine : State → Version Bytes → Type 0
  Genuine s v = genuine_row k s.book v ≡ true

  -- the setting u stands under the timestamp t
  abbrev pub Known : State → ℕ → S → Type 0
  Known s t u = (v : Version Bytes) × Genuine s v × (v.timestamp ≡ t) × (k.decode v.value ≡ u)

  module _ (f : Fixed) (ql : QuorumLaws f.quorums) (fl : f.quorums.fault f.faulty ≡ true) where
    abbrev pub Kept : (Version Bytes → Type 0) → ℕ → ℕ → (ℕ → Party Bytes) → (ℕ → Version Bytes) → (Message Bytes → Type 0) → (Done → Type 0) → Type 0
    Kept G top now C R M D = Invariant f.quorums ql f.faulty fl (initial_row k) G top now C R M D

    abbrev pub Holds : State → Version Bytes → ℕ → (ℕ → ℕ) → List Done → Type 0
    Holds s w now began ds = Kept (Genuine s) (newest s.book) now (parties s w began) (row s) (λ m. Member m s.messages) (λ d. Member d ds)

    -- w is what the writer has stored, beg where each open operation began, ds those that have ended, os their order
    pub record Linear (tr : List (Summary S)) (s : State) (w : Version Bytes) (began : ℕ → ℕ) (ds : List Done) (os : List (Item S)) : Type 0 where
      pub invariant : Holds s w (length tr) began ds
      pub coded : (v : Version Bytes) → Genuine s v → Coded k v
      pub replicas_sized : length s.replicas ≡ f.quorums.size
      pub quiet : s.writer.phase ≡ Querying → ⊥
      pub trace : Tracked tr (Open s) began ds
      pub readers : (c : ℕ) → (c ≡ 0 → ⊥) → Open s c → at reads tr (began c) ≡ Some c
      pub ordering : Ordered k.initial tr (Known s) (newest s.book) (s.writer.phase ≡ Storing) w.timestamp (began 0) ds os

    abbrev pub Next : List (Summary S) → State → Type 0
    Next tr s = (w : Version Bytes) × (began : ℕ → ℕ) × (ds : List Done) × (os : List (Item S)) × Linear tr s w began ds os

  module _ (s : State) (ql : QuorumLaws s.fixed.quorums) (fl : s.fixed.quorums.fault s.fixed.faulty ≡ true)
      (tr : List (Summary S)) (w : Version Bytes) (began : ℕ → ℕ) (ds : List Done) (os : List (Item S)) (h : Linear s.fixed ql fl tr s w began ds os) where
    abbrev KeptHere : (Version Bytes → Type 0) → ℕ → ℕ → (ℕ → Party Bytes) → (ℕ → Version Bytes) → (Message Bytes → Type 0) → (Done → Type 0) → Type 0
    KeptHere = Kept s.fixed ql fl

    abbrev NextHere : List (Summary S) → State → Type 0
    NextHere = Next s.fixed ql fl

    abbrev InFlight : Message Bytes → Type 0
    InFlight m = Member m s.messages

    abbrev Ended : Done → Type 0
    Ended d = Member d ds

    abbrev now : ℕ
    now = suc (length tr)

    abbrev system : Quorums
    system = s.fixed.quorums

    abbrev bottom : Version Bytes
    bottom = initial_row k

    abbrev WithM : Message Bytes → Message Bytes → Type 0
    WithM m = Also system ql s.fixed.faulty fl bottom InFlight m

    -- what is in flight is decoded and encoded to itself
    pub flights : (m : Message Bytes) → Member m s.messages → again k m ≡ m
    flights (Query c o) p = refl
    flights (Store c o v) p = ap (λ b. Store c o (version v.timestamp b v.tag)) (h.coded v (h.invariant.message_ok (Store c o v) p).0)
    flights (Value r c o v) p = ap (λ b. Value r c o (version v.timestamp b v.tag)) (h.coded v (h.invariant.message_ok (Value r c o v) p).0)
    flights (Ack r c o) p = refl

    pub coded_rows : (r : ℕ) → r < s.fixed.quorums.size → Coded k (row s r)
    coded_rows r lt = h.coded (row s r) (h.invariant.replica_ok r lt)

    -- an event that neither begins nor ends anything
    plain : (e : Summary S) (s' : State) → begins e.mark ≡ None → finishes e.mark ≡ None → writes e.mark ≡ None
        → s.book ≡ s'.book → length s'.replicas ≡ length s.replicas
        → ((d : ℕ) → (Open s d → Open s' d) × (Open s' d → Open s d))
        → s'.writer.phase ≡ s.writer.phase
        → Holds s.fixed ql fl s' w now began ds
        → NextHere (then_event tr e) s'
    plain e s' nb nf nw bk lr o same i = (
      w,
      began,
      ds,
      os,
      record {
        invariant = subst (λ n. Holds s.fixed ql fl s' w n began ds) (sym (length_then tr e)) i;
        coded = subst (λ b. (v : Version Bytes) → genuine_row k b v ≡ true → Coded k v) bk h.coded;
        replicas_sized = lr ∙ h.replicas_sized;
        quiet = λ z. h.quiet (sym same ∙ z);
        trace = tracked_plain tr (Open s) (Open s') began ds h.trace e nb nf (λ c. (o c).0) (λ c. (o c).1);
        readers = λ c n p. at_keep (of reads) tr e (began c) (h.readers c n ((o c).1 p));
        ordering = subst (λ b. Ordered k.initial (then_event tr e) (λ t u. (v : Version Bytes) × (genuine_row k b v ≡ true) × (v.timestamp ≡ t) × (k.decode v.value ≡ u)) (newest b) (s'.writer.phase ≡ Storing) w.timestamp (began 0) ds os) bk
            (ordered_plain k.initial tr (Known s) (newest s.book) (s.writer.phase ≡ Storing) w.timestamp (began 0) ds os h.ordering e nw (s'.writer.phase ≡ Storing) (λ z. sym same ∙ z));
      },
    )

    abbrev P : Call S → Result (Answer S) ℕ → State → Type 0
    P c a s' = NextHere (then_event tr (came_to k s s' c a)) s'

    all_open : (d : ℕ) → (Open s d → Open s d) × (Open s d → Open s d)
    all_open d = ((λ z. z), (λ z. z))

    -- nothing changes
    still : (e : Summary S) → begins e.mark ≡ None → finishes e.mark ≡ None → writes e.mark ≡ None → NextHere (then_event tr e) s
    still e nb nf nw = plain e s nb nf nw refl refl all_open refl (protocol.lose system ql s.fixed.faulty fl bottom _ _ _ _ _ _ _ h.invariant _ (λ _ m. m))

    sent : (m : Message Bytes) (x : Message Bytes) → Member x (s.messages ++ (m ∷ [])) → WithM m x
    sent m x p = member_snoc m s.messages x p

    tells : (i r c o : ℕ) → nth s.messages i ≡ Some (Query c o) → r < system.size → has s.fixed.faulty r ≡ false
        → P (DeliverRequest i r) (Ok (Delivered Answered)) (after_answer s r (row s r) (Value r c o (row s r)))
    tells i r c o e lt g = plain _ (after_answer s r (row s r) (Value r c o (row s r))) refl refl refl refl (length-set s.replicas r _) all_open refl
        (protocol.fewer system ql s.fixed.faulty fl bottom _ _ _ _ _ _ _
        (subst (λ vs. KeptHere (Genuine s) (newest s.book) now (parties s w began) (λ i. get_or vs i no_version) (WithM (Value r c o (row s r))) Ended) (sym (set-get_or s.replicas r no_version))
        (protocol.answer_query system ql s.fixed.faulty fl bottom _ _ _ _ _ _ _ h.invariant r c o lt (nth_member s.messages i e) g))
        _ (sent _))

    keeps : (i r c o : ℕ) (v : Version Bytes) → nth s.messages i ≡ Some (Store c o v) → r < system.size → has s.fixed.faulty r ≡ false → Genuine s v
        → P (DeliverRequest i r) (Ok (Delivered Answered)) (after_answer s r (newer (row s r) v) (Ack r c o))
    keeps i r c o v e lt g t = plain _ (after_answer s r (newer (row s r) v) (Ack r c o)) refl refl refl refl (length-set s.replicas r _) all_open refl
        (protocol.fewer system ql s.fixed.faulty fl bottom _ _ _ _ _ _ _
        (subst (λ R. KeptHere (Genuine s) (newest s.book) now (parties s w began) R (WithM (Ack r c o)) Ended) (row_put s.replicas r _ (let z = h.replicas_sized in omega arith))
        (protocol.answer_store system ql s.fixed.faulty fl bottom _ _ _ _ _ _ _ h.invariant r c o v lt (nth_member s.messages i e) g))
        _ (sent _))

    drops : (i : ℕ) → i < length s.messages → P (DropMessage i) (Ok Dropped) (without s i)
    drops i lt = plain _ (without s i) refl refl refl refl refl all_open refl
        (protocol.lose system ql s.fixed.faulty fl bottom _ _ _ _ _ _ _ h.invariant _ (λ m p. member_removed s.messages i m p))

    collects : (c : ℕ) (z : Completed) → (c ≡ 0 → ⊥) → c ≤ length s.readers → (reader_at s.readers c).completed ≡ Some z
        → P (Collect c) (Ok (Collected (handed_out k c z))) (collected s c)
    collects c z n l e = plain _ (collected s c) refl refl refl refl refl
        (λ d. let p = ap (λ y. y.phase) (same d) in ((λ o y. o (sym p ∙ y)), (λ o y. o (p ∙ y)))) refl
        (subst (λ C. KeptHere (Genuine s) (newest s.book) now C (row s) InFlight Ended)
        (fun_ext λ d. let p = sym (same d) in λ i. party (p i) (cond (eqb d 0) w (p i).best) (began d))
        (protocol.lose system ql s.fixed.faulty fl bottom _ _ _ _ _ _ _ h.invariant _ (λ _ m. m)))
      where
        same : (d : ℕ) → seen (collected s c) d ≡ seen s d
        same = seen_collected s c n l

    pub from : (call : Call S) (m : Message Bytes) → Handed k s call m → InFlight m ⊎ (has s.fixed.faulty (replica_of m) ≡ true)
    from call m = ⊎_elim (λ x. inl (nth_member s.messages x.0 x.2)) (λ x. inr x.3)

    -- the writer asks nothing
    pub not_writer : (c : ℕ) → (seen s c).phase ≡ Querying → c ≡ 0 → ⊥
    not_writer c q e = h.quiet (ap (λ i. (seen s i).phase) (sym e) ∙ q)

    -- a row whose operation is open before and after
    put_open : (s' : State) (c : ℕ) (y : Client) → ((d : ℕ) → seen s' d ≡ changed (seen s) c y d) → Open s c → (y.phase ≡ Idle → ⊥)
        → (d : ℕ) → (Open s d → Open s' d) × (Open s' d → Open s d)
    put_open s' c y put o n d =
        subst (λ z. (Open s d → z.phase ≡ Idle → ⊥) × ((z.phase ≡ Idle → ⊥) → Open s d)) (sym (put d))
        (changed_way (λ z. (Open s d → z.phase ≡ Idle → ⊥) × ((z.phase ≡ Idle → ⊥) → Open s d)) (seen s) c y d
        (λ e. ((λ _. n), (λ _. subst (Open s) (sym e) o))) (λ _. ((λ z. z), (λ z. z))))

    learns : (call : Call S) (r c : ℕ) (v : Version Bytes) → Handed k s call (Value r c (seen s c).op v) → r < system.size → c ≤ length s.readers
        → (seen s c).phase ≡ Querying → Genuine s v → system.quorum (hears s c r) ≡ false
        → P call (Ok (Replied Heard)) (put s c (client (seen s c).phase (seen s c).op (hears s c r) (better s c v)))
    learns call r c v f lt cl q g u = plain _ s' (ap begins mk) (ap finishes mk) (ap writes mk) refl refl
        (put_open s' c y puts busy busy) (ap (λ x. x.phase) (writer_kept s c y nz))
        (subst (λ C. KeptHere (Genuine s) (newest s.book) now C (row s) InFlight Ended)
        (parties_put s s' w w began began c y (better s c v) (began c) puts (λ e. absurd (nz e)) (λ _. (refl, refl)) refl (λ d _. refl))
        (subst (λ b. KeptHere (Genuine s) (newest s.book) now (changed (parties s w began) c (party y (newer b v) (began c))) (row s) InFlight Ended) (stored_reader s w c nz)
        (protocol.hear_value system ql s.fixed.faulty fl bottom _ _ _ _ _ _ _ h.invariant c r v q (from call _ f) g)))
      where
        nz : c ≡ 0 → ⊥
        nz = not_writer c q

        y : Client
        y = client (seen s c).phase (seen s c).op (hears s c r) (better s c v)

        s' : State
        s' = put s c y

        puts : (d : ℕ) → seen s' d ≡ changed (seen s) c y d
        puts = seen_put s c y cl

        busy : (seen s c).phase ≡ Idle → ⊥
        busy e = idle≢querying (sym e ∙ q)

        mk : (came_to k s s' call (Ok (Replied Heard))).mark ≡ Mark.Nothing
        mk = handed_mark k s s' call _ f Heard

    turns : (call : Call S) (r c : ℕ) (v : Version Bytes) → Handed k s call (Value r c (seen s c).op v) → r < system.size → c ≤ length s.readers
        → (seen s c).phase ≡ Querying → Genuine s v → system.quorum (hears s c r) ≡ true
        → P call (Ok (Replied Turned)) (put_send s c (client Storing (seen s c).op 0 (better s c v)) (Store c (seen s c).op (better s c v)))
    turns call r c v f lt cl q g u = plain _ s' (ap begins mk) (ap finishes mk) (ap writes mk) refl refl
        (put_open s' c y puts (λ e. idle≢querying (sym e ∙ q)) (λ e. idle≢storing (sym e))) (ap (λ x. x.phase) (writer_kept s c y nz))
        (protocol.fewer system ql s.fixed.faulty fl bottom _ _ _ _ _ _ _
        (subst (λ C. KeptHere (Genuine s) (newest s.book) now C (row s) (WithM (Store c (seen s c).op (better s c v))) Ended)
        (parties_put s s' w w began began c y (better s c v) (began c) puts (λ e. absurd (nz e)) (λ _. (refl, refl)) refl (λ d _. refl))
        (subst (λ b. KeptHere (Genuine s) (newest s.book) now (changed (parties s w began) c (party y (newer b v) (began c))) (row s) (WithM (Store c (seen s c).op (newer b v))) Ended) (stored_reader s w c nz)
        (protocol.turn system ql s.fixed.faulty fl bottom _ _ _ _ _ _ _ h.invariant c r v q (from call _ f) g u)))
        _ (sent _))
      where
        nz : c ≡ 0 → ⊥
        nz = not_writer c q

        y : Client
        y = client Storing (seen s c).op 0 (better s c v)

        s' : State
        s' = put_send s c y (Store c (seen s c).op (better s c v))

        puts : (d : ℕ) → seen s' d ≡ changed (seen s) c y d
        puts = seen_sent s c y (Store c (seen s c).op (better s c v)) cl

        mk : (came_to k s s' call (Ok (Replied Turned))).mark ≡ Mark.Turns c
        mk = handed_mark k s s' call _ f Turned

    counted : (call : Call S) (r c : ℕ) → Handed k s call (Ack r c (seen s c).op) → r < system.size → c ≤ length s.readers
        → (seen s c).phase ≡ Storing → system.quorum (hears s c r) ≡ false
        → P call (Ok (Replied Heard)) (put s c (client (seen s c).phase (seen s c).op (hears s c r) (seen s c).best))
    counted call r c f lt cl q u = plain _ s' (ap begins mk) (ap finishes mk) (ap writes mk) refl refl
        (put_open s' c y puts busy busy) same
        (subst (λ C. KeptHere (Genuine s) (newest s.book) now C (row s) InFlight Ended)
        (parties_put s s' w w began began c y (stored s w c) (began c) puts (λ e. sym (stored_writer s w c e)) (λ n. (refl, sym (stored_reader s w c n))) refl (λ d _. refl))
        (protocol.hear_ack system ql s.fixed.faulty fl bottom _ _ _ _ _ _ _ h.invariant c r q (from call _ f)))
      where
        y : Client
        y = client (seen s c).phase (seen s c).op (hears s c r) (seen s c).best

        s' : State
        s' = put s c y

        puts : (d : ℕ) → seen s' d ≡ changed (seen s) c y d
        puts = seen_put s c y cl

        busy : (seen s c).phase ≡ Idle → ⊥
        busy e = idle≢storing (sym e ∙ q)

        same : (writer_with s.writer c y).phase ≡ s.writer.phase
        same = ⊎_elim (λ e. ap (λ x. x.phase) (cond-true (eqb c 0) y s.writer (eq-eqb c 0 e)) ∙ ap (λ i. (seen s i).phase) e) (λ n. ap (λ x. x.phase) (writer_kept s c y n)) (cases_eq c 0)

        mk : (came_to k s s' call (Ok (Replied Heard))).mark ≡ Mark.Nothing
        mk = handed_mark k s s' call _ f Heard

    asks : (c : ℕ) → (c ≡ 0 → ⊥) → c ≤ length s.readers → (reader_at s.readers c).client.phase ≡ Idle
        → P (Read c) (Ok (ReadBegun ((reader_at s.readers c).client.op + 1))) (read_begun k s c)
    asks c nz cl idle = (
      w,
      began',
      ds,
      os,
      record {
        invariant = subst (λ n. Holds s.fixed ql fl s' w n began' ds) (sym (length_then tr e))
            (protocol.fewer system ql s.fixed.faulty fl bottom _ _ _ _ _ _ _
            (subst₂ (λ C o. KeptHere (Genuine s) (newest s.book) now C (row s) (WithM (Query c o)) Ended)
            (parties_put s s' w w began began' c y bottom (length tr) puts (λ z. absurd (nz z)) (λ _. (refl, refl)) (changed_same began c (length tr)) (changed_other began c (length tr))) refl
            (subst (λ x. KeptHere (Genuine s) (newest s.book) now (changed (parties s w began) c (party (begin_query k (x.op + 1)) bottom (length tr))) (row s) (WithM (Query c (x.op + 1))) Ended) me
            (protocol.begin_read system ql s.fixed.faulty fl bottom _ _ _ _ _ _ _ h.invariant c)))
            _ (sent _));
        coded = h.coded;
        replicas_sized = h.replicas_sized;
        quiet = h.quiet;
        trace = tracked_begin tr (Open s) (Open s') began ds h.trace e c refl refl (λ o. o (ap (λ x. x.phase) me ∙ idle)) (λ z. idle≢querying (sym z ∙ ap (λ x. x.phase) own))
            (λ d n o z. o (sym (ap (λ x. x.phase) (other d n)) ∙ z))
            (λ d n o z. o (ap (λ x. x.phase) (other d n) ∙ z));
        readers = λ d n o. reader d n o (cases_eq d c);
        ordering = subst (λ b. Ordered k.initial (then_event tr e) (Known s) (newest s.book) (s.writer.phase ≡ Storing) w.timestamp b ds os) (sym (changed_other began c (length tr) 0 (λ z. nz (sym z))))
            (ordered_plain k.initial tr (Known s) (newest s.book) (s.writer.phase ≡ Storing) w.timestamp (began 0) ds os h.ordering e refl (s.writer.phase ≡ Storing) (λ z. z));
      },
    )
      where
        me : seen s c ≡ (reader_at s.readers c).client
        me = seen_reader s c nz

        y : Client
        y = begin_query k ((reader_at s.readers c).client.op + 1)

        began' : ℕ → ℕ
        began' = changed began c (length tr)

        s' : State
        s' = read_begun k s c

        e : Summary S
        e = came_to k s s' (Read c) (Ok (ReadBegun ((reader_at s.readers c).client.op + 1)))

        puts : (d : ℕ) → seen s' d ≡ changed (seen s) c y d
        puts = seen_querying k s c nz cl

        other : (d : ℕ) → (d ≡ c → ⊥) → seen s' d ≡ seen s d
        other d n = puts d ∙ changed_other (seen s) c y d n

        own : seen s' c ≡ y
        own = puts c ∙ changed_same (seen s) c y

        reader : (d : ℕ) → (d ≡ 0 → ⊥) → Open s' d → (d ≡ c) ⊎ (d ≡ c → ⊥) → at reads (then_event tr e) (began' d) ≡ Some d
        reader d n o (inl z) = ap (at reads (then_event tr e)) (ap began' z ∙ changed_same began c (length tr)) ∙ at_new (of reads) tr e ∙ ap (λ i. Some i) (sym z)
        reader d n o (inr z) = ap (at reads (then_event tr e)) (changed_other began c (length tr) d z)
            ∙ at_keep (of reads) tr e (began d) (h.readers d n (λ x. o (ap (λ x. x.phase) (other d z) ∙ x)))

    module _ (laws : KindLaws k) where
      wrote : (v : S) (g : ℕ) → s.writer.phase ≡ Idle → newest s.book < s.writer.op + 1
          → P (Write v) (Ok (Written (s.writer.op + 1))) (write_begun k s (k.encode v) g)
      wrote v g idle above = (
        x,
        began',
        ds,
        os',
        record {
          invariant = subst (λ n. Holds s.fixed ql fl s' x n began' ds) (sym (length_then tr e))
              (protocol.fewer system ql s.fixed.faulty fl bottom _ _ _ _ _ _ _
              (subst₂ (λ C t. KeptHere (Genuine s') t now C (row s) (WithM (Store 0 o x)) Ended)
              (parties_put s s' w x began began' 0 (begin_store k o) x (length tr) puts (λ _. refl) (λ n. absurd (n refl)) (changed_same began 0 (length tr)) (changed_other began 0 (length tr))) (sym top)
              (protocol.begin_write system ql s.fixed.faulty fl bottom _ _ _ _ _ _ _ h.invariant (Genuine s') x (λ u y. genuine_grow k s.book _ u y) (genuine_new k s.book o (k.encode v) g)
              (λ u y. ⊎_elim (λ z. let a = h.invariant.genuine_top u z in omega arith) (λ z. let a = z.0 in omega arith) (genuine_cases k s.book o (k.encode v) g u y)) above))
              _ (sent _));
          coded = λ u y. ⊎_elim (λ z. h.coded u z) (λ z. subst (λ b. k.encode (k.decode b) ≡ b) z.1 (ap k.encode (laws.back v))) (genuine_cases k s.book o (k.encode v) g u y);
          replicas_sized = h.replicas_sized;
          quiet = λ z. storing≢querying z;
          trace = tracked_begin tr (Open s) (Open s') began ds h.trace e 0 refl refl (λ z. z idle) (λ z. idle≢storing (sym z))
              (λ d n z a. z (sym (ap (λ y. y.phase) (other d n)) ∙ a))
              (λ d n z a. z (ap (λ y. y.phase) (other d n) ∙ a));
          readers = λ d n z. ap (at reads (then_event tr e)) (changed_other began 0 (length tr) d n)
              ∙ at_keep (of reads) tr e (began d) (h.readers d n (λ a. z (ap (λ y. y.phase) (other d n) ∙ a)));
          ordering = subst₂ (λ t b. Ordered k.initial (then_event tr e) (Known s') t (s'.writer.phase ≡ Storing) x.timestamp b ds os') (sym top) (sym (changed_same began 0 (length tr)))
              (ordered_write k.initial tr (Known s) (newest s.book) (s.writer.phase ≡ Storing) w.timestamp (began 0) ds os h.ordering e (Known s') o v refl
              (λ t u y. ⊎_elim (λ z. inl (y.0, z, y.2, y.3)) (λ z. inr (z.0 ∙ y.2, sym (laws.back v) ∙ ap k.decode z.1 ∙ y.3)) (genuine_cases k s.book o (k.encode v) g y.0 y.1))
              above (λ d m. (h.invariant.done_ok d m).over) (s'.writer.phase ≡ Storing));
        },
      )
        where
          o : ℕ
          o = s.writer.op + 1

          x : Version Bytes
          x = version o (k.encode v) g

          s' : State
          s' = write_begun k s (k.encode v) g

          began' : ℕ → ℕ
          began' = changed began 0 (length tr)

          e : Summary S
          e = came_to k s s' (Write v) (Ok (Written o))

          os' : List (Item S)
          os' = push os (record { id = length tr; stamp = o; writing = true; value = v })

          top : newest (s.book ++ (entry o (k.encode v) g ∷ [])) ≡ o
          top = newest_new s.book o (k.encode v) g above

          puts : (d : ℕ) → seen s' d ≡ changed (seen s) 0 (begin_store k o) d
          puts = seen_writing k s (k.encode v) g

          other : (d : ℕ) → (d ≡ 0 → ⊥) → seen s' d ≡ seen s d
          other d n = puts d ∙ changed_other (seen s) 0 (begin_store k o) d n

    -- what a reader holds as its read has ended
    pub left : (c : ℕ) → (c ≡ 0 → ⊥) → c ≤ length s.readers → held k (finished k s c) c ≡ Some (handed_out k c (completed_of (seen s c)))
    left c nz cl = cond-false (eqb c 0) None _ (ne_eqb c 0 nz)
        ∙ ap (option_map (handed_out k c)) (done_with s.readers c (record { client = fresh_client k (seen s c).op; completed = Some (completed_of (seen s c)) }) cl c nz
        ∙ changed_same (λ i. (reader_at s.readers i).completed) c (Some (completed_of (seen s c))))

    ends : (call : Call S) (r c : ℕ) → Handed k s call (Ack r c (seen s c).op) → r < system.size → c ≤ length s.readers
        → (seen s c).phase ≡ Storing → system.quorum (hears s c r) ≡ true
        → P call (Ok (Replied Finished)) (finished k s c)
    ends call r c f lt cl q u = (
      w',
      began,
      deed ∷ ds,
      order (cases_eq c 0),
      record {
        invariant = subst (λ n. Holds s.fixed ql fl s' w' n began (deed ∷ ds)) (sym (length_then tr e))
            (subst (λ C. KeptHere (Genuine s) (newest s.book) now C (row s) InFlight (λ d. Member d (deed ∷ ds)))
            (parties_put s s' w w' began began c y bottom (began c) puts (λ z. cond-true (eqb c 0) bottom w (eq-eqb c 0 z)) (λ n. (cond-false (eqb c 0) bottom w (ne_eqb c 0 n), refl)) refl (λ d _. refl))
            (protocol.finish system ql s.fixed.faulty fl bottom _ _ _ _ _ _ _ h.invariant c r q (from call _ f) u));
        coded = h.coded;
        replicas_sized = h.replicas_sized;
        quiet = λ z. ⊎_elim (λ a. idle≢querying (sym (ap (λ x. x.phase) (cond-true (eqb c 0) y s.writer (eq-eqb c 0 a))) ∙ z))
            (λ n. h.quiet (sym (ap (λ x. x.phase) (writer_kept s c y n)) ∙ z)) (cases_eq c 0);
        trace = trace';
        readers = λ d n z. at_keep (of reads) tr e (began d) (h.readers d n (back d z));
        ordering = ordered (cases_eq c 0);
      },
    )
      where
        w' : Version Bytes
        w' = cond (eqb c 0) bottom w

        x : Client
        x = seen s c

        y : Client
        y = fresh_client k x.op

        s' : State
        s' = finished k s c

        e : Summary S
        e = came_to k s s' call (Ok (Replied Finished))

        deed : Done
        deed = record { id = began c; end = length tr; stamp = (stored s w c).timestamp; set = hears s c r }

        order : (c ≡ 0) ⊎ (c ≡ 0 → ⊥) → List (Item S)
        order (inl z) = os
        order (inr z) = place (record { id = began c; stamp = x.best.timestamp; writing = false; value = k.decode x.best.value }) os

        puts : (d : ℕ) → seen s' d ≡ changed (seen s) c y d
        puts = seen_finished k s c cl

        other : (d : ℕ) → (d ≡ c → ⊥) → seen s' d ≡ seen s d
        other d n = puts d ∙ changed_other (seen s) c y d n

        own : seen s' c ≡ y
        own = puts c ∙ changed_same (seen s) c y

        back : (d : ℕ) → Open s' d → Open s d
        back d o z = ⊎_elim (λ a. o (ap (λ i. (seen s' i).phase) a ∙ ap (λ x. x.phase) own)) (λ n. o (ap (λ x. x.phase) (other d n) ∙ z)) (cases_eq d c)

        busy : Open s c
        busy z = idle≢storing (sym z ∙ q)

        mk : e.mark ≡ Mark.Finishes c (held k s' c)
        mk = handed_mark k s s' call _ f Finished

        trace' : Tracked (then_event tr e) (Open s') began (deed ∷ ds)
        trace' = tracked_finish tr (Open s) (Open s') began ds h.trace e c (ap begins mk) (ap finishes mk) busy (λ o. o (ap (λ x. x.phase) own))
            (λ d n o z. o (sym (ap (λ x. x.phase) (other d n)) ∙ z)) back deed refl refl

        unfinished : (j : ℕ) → Ends tr (began c) j → ⊥
        unfinished j z = let a = h.trace.open_begun c busy in a.1 j z.later (z.ended ∙ (sym z.begun ∙ a.0))

        ordered : (t : (c ≡ 0) ⊎ (c ≡ 0 → ⊥)) → Ordered k.initial (then_event tr e) (Known s) (newest s.book) (s'.writer.phase ≡ Storing) w'.timestamp (began 0) (deed ∷ ds) (order t)
        ordered (inl z) = ordered_finish_write k.initial tr (Known s) (newest s.book) (s.writer.phase ≡ Storing) w.timestamp (began 0) ds os h.ordering e (ap writes mk)
            (sym (ap (λ i. (seen s i).phase) z) ∙ q) (s'.writer.phase ≡ Storing) w'.timestamp
            (λ a. idle≢storing (sym (ap (λ x. x.phase) (cond-true (eqb c 0) y s.writer (eq-eqb c 0 z))) ∙ a)) deed (ap began z) refl (ap (λ v. v.timestamp) (stored_writer s w c z))
        ordered (inr nz) =
            subst (λ v. Ordered k.initial (then_event tr e) (Known s) (newest s.book) (s'.writer.phase ≡ Storing) v.timestamp (began 0) (deed ∷ ds) (order (inr nz))) (sym (cond-false (eqb c 0) bottom w (ne_eqb c 0 nz)))
            (ordered_finish_read k.initial tr (Known s) (newest s.book) (s.writer.phase ≡ Storing) w.timestamp (began 0) ds os h.ordering e (ap writes mk)
            (s'.writer.phase ≡ Storing) (λ a. sym (ap (λ x. x.phase) (writer_kept s c y nz)) ∙ a)
            c (began c) (h.readers c nz busy) unfinished
            x.best.timestamp (k.decode x.best.value) (x.best, genuine_best, refl, refl) (h.invariant.genuine_top x.best genuine_best)
            (λ d m t. subst (λ v. d.stamp ≤ v.timestamp) best ((h.invariant.party_ok c).storing q d m t))
            (trace'.done_fin deed (inl refl)) (handed_out k c (completed_of x)) (ap gives mk ∙ left c nz cl) refl deed refl refl (ap (λ v. v.timestamp) best))
          where
            best : stored s w c ≡ x.best
            best = stored_reader s w c nz

            genuine_best : Genuine s x.best
            genuine_best = subst (Genuine s) best ((h.invariant.party_ok c).best_ok busy)

    pub keep : KindLaws k → (call : Call S) (g : ℕ) → NextHere (then_event tr (came_to k s (step k s call g).1 call (step k s call g).0)) (step k s call g).1
    keep laws call g = move k s coded_rows flights P cases call g
      where
        cases : Cases k s P
        cases = record {
          refusal = λ c n. still _ refl refl refl;
          wrote = wrote laws;
          asks = asks;
          tells = tells;
          keeps = keeps;
          silent = λ i r m e x. still _ refl refl refl;
          ignores = λ c m f n. let mk = handed_mark k s s c m f Ignored in still _ (ap begins mk) (ap finishes mk) (ap writes mk);
          learns = learns;
          turns = turns;
          counted = counted;
          ends = ends;
          drops = drops;
          collects = collects;
        }
