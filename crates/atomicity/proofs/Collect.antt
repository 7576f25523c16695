-- The steps of a cluster keep what is held for its readers. Assumes nothing.
use Rattle.std.proofs.Common.{◌≡◌, ℕ, ◌+◌, ◌≤◌, true, cond, eqb, List, length, Some, None, Ok, Result, sym, refl, ap, ◌∙◌, ⊎_elim}
use Rattle.std.proofs.lemmas.Bool.{cases_eq, cond-true, cond-false, eq-eqb, ne_eqb}
use Rattle.std.specs.Option.{option_map}
use Rattle.encodings.specs.Encodings.{Bytes}
use Rattle.settings.specs.Kinds.{Kind}
use Rattle.quorums.specs.Systems.{QuorumLaws}
use Rattle.protocol.specs.Replicas.{newer}
use Rattle.protocol.specs.Clients.{client, fresh_client, begin_query}
use Rattle.protocol.specs.declared.version.Version.{Version}
use Rattle.protocol.specs.declared.message.Message.{Message}
use Rattle.protocol.specs.declared.message.Message.TheVariants.{Store, Value, Ack}
use Rattle.protocol.specs.declared.client.Client.{Client}
use Rattle.protocol.specs.declared.client.Phase.TheVariants.{Storing}
use Rattle.protocol.specs.declared.client.Reply.TheVariants.{Heard, Ignored, Turned, Finished}
use Rattle.cluster.specs.State.{State}
use Rattle.cluster.specs.Steps.{reader_at, readers_with, completed_of, write_begun, read_begun, collected, handed_out}
use Rattle.cluster.specs.declared.reader.Completed.{Completed}
use Rattle.cluster.specs.declared.reader.Reader.{Reader}
use Rattle.atomicity.specs.declared.call.Call.{Call}
use Rattle.atomicity.specs.declared.call.Call.TheVariants.{Collect}
use Rattle.atomicity.specs.declared.answer.Answer.{Answer}
use Rattle.atomicity.specs.declared.answer.Answer.TheVariants.{Replied, Collected}
use Rattle.atomicity.specs.Runs.{step}
use Rattle.atomicity.specs.Marks.{Mark, Summary, finishes, gives, collects}
use Rattle.atomicity.specs.Summaries.{came_to, held}
use Rattle.atomicity.proofs.Facts.{changed_way, changed_other}
use Rattle.atomicity.proofs.Trace.{Done, then_event}
use Rattle.atomicity.proofs.Holding.{Holding, holding_plain, holding_put, holding_take}
use Rattle.atomicity.proofs.Order.{Item}
use Rattle.atomicity.proofs.Moves.{seen, row, hears, better, put, put_send, after_answer, without, finished, Handed, Cases, move}
use Rattle.atomicity.proofs.Tables.{rows_with, rows_set, done_with}
use Rattle.atomicity.proofs.Handing.{handed_mark}
use Rattle.atomicity.proofs.Operations.{Linear, flights, coded_rows, left}

module _ {S : Type 0} (k : Kind S) where
  -- the same is completed, so the same is held
  held_same : (s s' : State) → ((d : ℕ) → (d ≡ 0 → ⊥) → (reader_at s'.readers d).completed ≡ (reader_at s.readers d).completed) → (d : ℕ) → held k s' d ≡ held k s d
  held_same s s' f d = ⊎_elim
      (λ z. cond-true (eqb d 0) None _ (eq-eqb d 0 z) ∙ sym (cond-true (eqb d 0) None _ (eq-eqb d 0 z)))
      (λ n. ap (λ o. cond (eqb d 0) None (option_map (handed_out k d) o)) (f d n))
      (cases_eq d 0)

  module _ (s : State) (ql : QuorumLaws s.fixed.quorums) (fl : s.fixed.quorums.fault s.fixed.faulty ≡ true)
      (tr : List (Summary S)) (w : Version Bytes) (began : ℕ → ℕ) (ds : List Done) (os : List (Item S)) (g : Linear k s.fixed ql fl tr s w began ds os) (h : Holding tr (held k s)) where
    abbrev P : Call S → Result (Answer S) ℕ → State → Type 0
    P c a s' = Holding (then_event tr (came_to k s s' c a)) (held k s')

    plain : (e : Summary S) (s' : State) → ((d : ℕ) → held k s' d ≡ held k s d) → collects e.mark ≡ None → gives e.mark ≡ None → Holding (then_event tr e) (held k s')
    plain e s' = holding_plain tr (held k s) (held k s') h e

    -- a client's row is replaced: what waits for a reader stays
    held_put : (s' : State) (c : ℕ) (y : Client) → c ≤ length s.readers → s'.readers ≡ readers_with s.readers c y → (d : ℕ) → held k s' d ≡ held k s d
    held_put s' c y cl e = held_same s s' (λ d n. ap (λ ds. (reader_at ds d).completed) e
        ∙ done_with s.readers c (record { client = y; completed = (reader_at s.readers c).completed }) cl d n
        ∙ changed_way (λ z. z ≡ (reader_at s.readers d).completed) (λ i. (reader_at s.readers i).completed) c (reader_at s.readers c).completed d
        (λ z. ap (λ i. (reader_at s.readers i).completed) (sym z)) (λ _. refl))

    -- only what the reader c holds is another
    held_other : (s' : State) (c : ℕ) (x : Reader) → c ≤ length s.readers → s'.readers ≡ rows_with s.readers c x → (d : ℕ) → (d ≡ c → ⊥) → held k s' d ≡ held k s d
    held_other s' c x cl e d n = ⊎_elim
        (λ z. cond-true (eqb d 0) None _ (eq-eqb d 0 z) ∙ sym (cond-true (eqb d 0) None _ (eq-eqb d 0 z)))
        (λ nz. ap (λ o. cond (eqb d 0) None (option_map (handed_out k d) o)) (ap (λ ds. (reader_at ds d).completed) e ∙ done_with s.readers c x cl d nz
        ∙ changed_other (λ i. (reader_at s.readers i).completed) c x.completed d n))
        (cases_eq d 0)

    ends : (call : Call S) (r c : ℕ) → Handed k s call (Ack r c (seen s c).op) → c ≤ length s.readers → P call (Ok (Replied Finished)) (finished k s c)
    ends call r c f cl = ⊎_elim
        (λ z. plain e s' (λ d. ⊎_elim
        (λ a. let b = a ∙ z in cond-true (eqb d 0) None _ (eq-eqb d 0 b) ∙ sym (cond-true (eqb d 0) None _ (eq-eqb d 0 b)))
        (λ n. held_other s' c x cl refl d n) (cases_eq d c))
        (ap collects mk) (ap gives mk ∙ cond-true (eqb c 0) None _ (eq-eqb c 0 z)))
        (λ nz. let own = left k s ql fl tr w began ds os g c nz cl in
        holding_put tr (held k s) (held k s') h e c _ (held_other s' c x cl refl) own (ap collects mk) (ap finishes mk) (ap gives mk ∙ own))
        (cases_eq c 0)
      where
        x : Reader
        x = record { client = fresh_client k (seen s c).op; completed = Some (completed_of (seen s c)) }

        s' : State
        s' = finished k s c

        e : Summary S
        e = came_to k s s' call (Ok (Replied Finished))

        mk : e.mark ≡ Mark.Finishes c (held k s' c)
        mk = handed_mark k s s' call _ f Finished

    -- a client hears a reply, and its phase goes on
    hears_on : (call : Call S) (m : Message Bytes) → Handed k s call m → (c : ℕ) (y : Client) → c ≤ length s.readers → P call (Ok (Replied Heard)) (put s c y)
    hears_on call m f c y cl = let mk = handed_mark k s (put s c y) call m f Heard in plain _ (put s c y) (held_put (put s c y) c y cl refl) (ap collects mk) (ap gives mk)

    collecting : (c : ℕ) (z : Completed) → (c ≡ 0 → ⊥) → c ≤ length s.readers → (reader_at s.readers c).completed ≡ Some z
        → P (Collect c) (Ok (Collected (handed_out k c z))) (collected s c)
    collecting c z nz cl e = holding_take tr (held k s) (held k (collected s c)) h _ c (handed_out k c z)
        (held_other (collected s c) c (record { client = (reader_at s.readers c).client; completed = None }) cl (sym (rows_set s.readers c _ nz)))
        (cond-false (eqb c 0) None _ (ne_eqb c 0 nz) ∙ ap (option_map (handed_out k c)) e) refl refl

    pub holds : (call : Call S) (t : ℕ) → Holding (then_event tr (came_to k s (step k s call t).1 call (step k s call t).0)) (held k (step k s call t).1)
    holds call t = move k s (coded_rows k s ql fl tr w began ds os g) (flights k s ql fl tr w began ds os g) P cases call t
      where
        cases : Cases k s P
        cases = record {
          refusal = λ c n. plain _ s (λ _. refl) refl refl;
          wrote = λ v t q a. plain _ (write_begun k s (k.encode v) t) (λ _. refl) refl refl;
          asks = λ c n l q. plain _ (read_begun k s c) (held_put (read_begun k s c) c (begin_query k ((reader_at s.readers c).client.op + 1)) l refl) refl refl;
          tells = λ i r c o e l t. plain _ (after_answer s r (row s r) (Value r c o (row s r))) (λ _. refl) refl refl;
          keeps = λ i r c o v e l t u. plain _ (after_answer s r (newer (row s r) v) (Ack r c o)) (λ _. refl) refl refl;
          silent = λ i r m e x. plain _ s (λ _. refl) refl refl;
          ignores = λ c m f n. let mk = handed_mark k s s c m f Ignored in plain _ s (λ _. refl) (ap collects mk) (ap gives mk);
          learns = λ c r d v f l m q t u. hears_on c _ f d (client (seen s d).phase (seen s d).op (hears s d r) (better s d v)) m;
          turns = λ c r d v f l m q t u.
              let y = client Storing (seen s d).op 0 (better s d v) in
              let s' = put_send s d y (Store d (seen s d).op (better s d v)) in
              let mk = handed_mark k s s' c _ f Turned in plain _ s' (held_put s' d y m refl) (ap collects mk) (ap gives mk);
          counted = λ c r d f l m q u. hears_on c _ f d (client (seen s d).phase (seen s d).op (hears s d r) (seen s d).best) m;
          ends = λ c r d f l m q u. ends c r d f m;
          drops = λ i l. plain _ (without s i) (λ _. refl) refl refl;
          collects = collecting;
        }
