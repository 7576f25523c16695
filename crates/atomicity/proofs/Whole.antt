-- The theorem, along every list of calls. Assumes nothing.
use Rattle.std.proofs.Common.{◌≡◌, ℕ, zero, suc, ◌-◌, true, not, ◌&&◌, eqb, leb, List, [], ◌∷◌, ◌++◌, map, length, get_or, replicate, Some, None, Option, sym, refl, ap, ◌∙◌, subst, inl, ⊎_elim, append-nil, arith}
use lib.ListN.{length-replicate, get_or-replicate}
use lib.Seq.{append_snoc}
use Rattle.std.proofs.lemmas.Bool.{cases_eq, cond-true, cond-false, eqb-true, eq-eqb, ne_eqb, not-false}
use Rattle.encodings.specs.Encodings.{Bytes}
use Rattle.settings.specs.Kinds.{Kind, KindLaws}
use Rattle.quorums.specs.Systems.{Quorums, QuorumLaws}
use Rattle.signatures.specs.Books.{newest}
use Rattle.signatures.specs.declared.entry.Entry.{Entry}
use Rattle.protocol.specs.Clients.{initial_row, fresh_client}
use Rattle.protocol.specs.declared.version.Version.{Version}
use Rattle.protocol.specs.declared.client.Phase.TheVariants.{Idle, Storing}
use Rattle.cluster.specs.State.{State, Fixed}
use Rattle.cluster.specs.Making.{sizes_fit, making_refusal, fresh_reader, open_state, shut_state, made_by}
use Rattle.cluster.specs.Steps.{no_reader, no_version, unless, write_step, read_step, request_step, reply_step, forge_step, drop_step, collect_step}
use Rattle.cluster.specs.declared.tables.TableSizes.{TableSizes}
use Rattle.cluster.specs.declared.reader.Reader.{Reader}
use Rattle.atomicity.specs.declared.call.Call.{Call}
use Rattle.atomicity.specs.declared.call.Call.TheVariants.{Write, Read, DeliverRequest, DeliverReply, ForgeReply, DropMessage, Collect}
use Rattle.atomicity.specs.Runs.{step, event, trace}
use Rattle.atomicity.specs.Marks.{Mark, Traffic, Summary, at, at_traffic, writes, reads, turns, finishes, requests}
use Rattle.atomicity.specs.Claims.{Sound}
use Rattle.atomicity.specs.Summaries.{summed, summary, held, Atomic}
use Rattle.atomicity.proofs.Facts.{none≢some, idle≢querying, idle≢storing}
use Rattle.atomicity.proofs.Trace.{then_event}
use Rattle.atomicity.proofs.Linearization.{linearizes}
use Rattle.atomicity.proofs.Moves.{first_none, seen, Cases, move}
use Rattle.atomicity.proofs.Book.{genuine_bottom, genuine_none}
use Rattle.atomicity.proofs.Operations.{Open, Genuine, Known, Next, keep, coded_rows, flights}
use Rattle.atomicity.proofs.Flow.{progresses}
use Rattle.atomicity.proofs.Progress.{about, stage, Flows, flows}
use Rattle.atomicity.proofs.Holding.{Holding}
use Rattle.atomicity.proofs.Collect.{holds}

-- ---- a cluster that is shut

module _ {S : Type 0} where
  -- a run of refusals
  abbrev idle_run : List (Call S × ℕ) → List (Summary S)
  idle_run calls = map (λ _. summed Mark.Nothing Traffic.Still) calls

  nothing_at : {A : Type 0} (f : Mark S → Option A) → f Mark.Nothing ≡ None → (calls : List (Call S × ℕ)) (i : ℕ) {x : A} → at f (idle_run calls) i ≡ Some x → ⊥
  nothing_at f n [] i e = none≢some e
  nothing_at f n (c ∷ cs) zero e = none≢some (sym n ∙ e)
  nothing_at f n (c ∷ cs) (suc i) e = nothing_at f n cs i e

  still_at : (calls : List (Call S × ℕ)) (i : ℕ) {x : ℕ × ℕ} → at_traffic requests (idle_run calls) i ≡ Some x → ⊥
  still_at [] i e = none≢some e
  still_at (c ∷ cs) zero e = none≢some e
  still_at (c ∷ cs) (suc i) e = still_at cs i e

  idle_sound : (initial : S) (size faulty : ℕ) (calls : List (Call S × ℕ)) → Sound initial size faulty (idle_run calls)
  idle_sound initial size faulty calls = record {
    linearizable = (
      [],
      record {
        once = tt;
        each_write = λ i w. nothing_at writes refl calls i w.1;
        each_read = λ i r. nothing_at reads refl calls i r.1;
        no_other = λ i m. absurd m;
        in_time = λ x y j m. absurd m;
        legal = tt;
      },
    );
    progress = record {
      query_ends = λ i c r. absurd (nothing_at reads refl calls i r);
      store_ends = λ i c r. absurd (nothing_at turns refl calls i r);
      write_ends = λ i w. absurd (nothing_at writes refl calls i w.1);
      answers = λ i j n r e. absurd (still_at calls j e);
    };
    hands_out = λ j l c z f. absurd (nothing_at finishes refl calls j f);
  }

  module _ (k : Kind S) (q : Quorums) (book : List Entry) (free faulty : ℕ) (replicas : List (Version Bytes)) (readers : List Reader) (t : TableSizes) where
    shut_run : (calls : List (Call S × ℕ)) → map (summary k) (trace k (shut_state k q book free faulty replicas readers t) calls) ≡ idle_run calls
    unfolding unless write_step read_step request_step reply_step forge_step drop_step collect_step
    shut_run [] = refl
    shut_run ((Write v, g) ∷ cs) = ap (λ r. summed Mark.Nothing Traffic.Still ∷ r) (shut_run cs)
    shut_run ((Read c, g) ∷ cs) = ap (λ r. summed Mark.Nothing Traffic.Still ∷ r) (shut_run cs)
    shut_run ((DeliverRequest i r, g) ∷ cs) = ap (λ r. summed Mark.Nothing Traffic.Still ∷ r) (shut_run cs)
    shut_run ((DeliverReply i, g) ∷ cs) = ap (λ r. summed Mark.Nothing Traffic.Still ∷ r) (shut_run cs)
    shut_run ((ForgeReply m, g) ∷ cs) = ap (λ r. summed Mark.Nothing Traffic.Still ∷ r) (shut_run cs)
    shut_run ((DropMessage i, g) ∷ cs) = ap (λ r. summed Mark.Nothing Traffic.Still ∷ r) (shut_run cs)
    shut_run ((Collect c, g) ∷ cs) = ap (λ r. summed Mark.Nothing Traffic.Still ∷ r) (shut_run cs)

-- ---- a cluster that is open

module _ {S : Type 0} (k : Kind S) (laws : KindLaws k) where
  module _ (f : Fixed) (ql : QuorumLaws f.quorums) (fl : f.quorums.fault f.faulty ≡ true) where
    -- everything that is kept along a run
    abbrev Told : List (Summary S) → State → Type 0
    Told tr s = Next k f ql fl tr s × Flows k f.quorums f.faulty tr s × Holding tr (held k s)

  -- a call
  advance : (s : State) (ql : QuorumLaws s.fixed.quorums) (fl : s.fixed.quorums.fault s.fixed.faulty ≡ true) (tr : List (Summary S)) (c : Call S) (g : ℕ)
      → Told s.fixed ql fl tr s → ((step k s c g).1.fixed ≡ s.fixed) × Told s.fixed ql fl (then_event tr (summary k (event k s c g))) (step k s c g).1
  advance s ql fl tr c g (n, f, h) = (
    move k s (coded_rows k s ql fl tr n.0 n.1 n.2 n.3 n.4) (flights k s ql fl tr n.0 n.1 n.2 n.3 n.4) (λ _ _ s'. s'.fixed ≡ s.fixed) same c g,
    (
      keep k s ql fl tr n.0 n.1 n.2 n.3 n.4 laws c g,
      flows k s ql fl tr n.0 n.1 n.2 n.3 n.4 f.0 f.1 c g,
      holds k s ql fl tr n.0 n.1 n.2 n.3 n.4 h c g,
    ),
  )
    where
      same : Cases k s (λ _ _ s'. s'.fixed ≡ s.fixed)
      same = record {
        refusal = λ c n. refl;
        wrote = λ v g q a. refl;
        asks = λ c n l q. refl;
        tells = λ i r c o e l t. refl;
        keeps = λ i r c o v e l t u. refl;
        silent = λ i r m e x. refl;
        ignores = λ c m f n. refl;
        learns = λ c r d v f l m q t u. refl;
        turns = λ c r d v f l m q t u. refl;
        counted = λ c r d f l m q u. refl;
        ends = λ c r d f l m q u. refl;
        drops = λ i l. refl;
        collects = λ c z n l e. refl;
      }

  module _ (f : Fixed) (ql : QuorumLaws f.quorums) (fl : f.quorums.fault f.faulty ≡ true) where
    advances : (s : State) → s.fixed ≡ f → (tr : List (Summary S)) (c : Call S) (g : ℕ)
        → Told f ql fl tr s → ((step k s c g).1.fixed ≡ f) × Told f ql fl (then_event tr (summary k (event k s c g))) (step k s c g).1
    advances s e tr c g = subst (λ f. (ql : QuorumLaws f.quorums) (fl : f.quorums.fault f.faulty ≡ true) → Told f ql fl tr s
        → ((step k s c g).1.fixed ≡ f) × Told f ql fl (then_event tr (summary k (event k s c g))) (step k s c g).1) e (λ ql fl. advance s ql fl tr c g) ql fl

    along : (calls : List (Call S × ℕ)) (tr : List (Summary S)) (s : State) → s.fixed ≡ f → Told f ql fl tr s → (s' : State) × Told f ql fl (tr ++ map (summary k) (trace k s calls)) s'
    along [] tr s e h = (s, subst (λ t. Told f ql fl t s) (sym (append-nil tr)) h)
    along (c ∷ cs) tr s e h =
        let a = advances s e tr c.0 c.1 h in
        let s' = (step k s c.0 c.1).1 in
        let r = along cs (then_event tr (summary k (event k s c.0 c.1))) s' a.0 a.1 in
        (r.0, subst (λ t. Told f ql fl t r.0) (append_snoc tr (summary k (event k s c.0 c.1)) (map (summary k) (trace k s' cs))) r.1)

    sound : (tr : List (Summary S)) (s : State) → Told f ql fl tr s → Sound k.initial f.quorums.size f.faulty tr
    sound tr s (n, fs, h) = record {
      linearizable = linearizes tr k.initial (Open s) n.1 (Known k s) (newest s.book) (s.writer.phase ≡ Storing) n.0.timestamp (n.1 0) n.2 n.3 n.4.trace n.4.ordering;
      progress = progresses about f.quorums f.faulty ql fl tr (stage s fs.0) s.messages fs.1;
      hands_out = h.out;
    }

  -- ---- the cluster as it is made

  made_way : {A : Type 0} (P : A → Type 0) (n i : ℕ) (a d : A) → P a → P d → P (get_or (replicate n a) i d)
  made_way P zero i a d x y = y
  made_way P (suc n) zero a d x y = x
  made_way P (suc n) (suc i) a d x y = made_way P n i a d x y

  module _ (q : Quorums) (ql : QuorumLaws q) (free faulty readers : ℕ) (t : TableSizes) (fl : q.fault faulty ≡ true) where
    abbrev start : State
    start = open_state k q [] free faulty readers t

    idle : (c : ℕ) → (seen start c).phase ≡ Idle
    idle c = ⊎_elim
        (λ z. ap (λ x. x.phase) (cond-true (eqb c 0) (fresh_client k 0) _ (eq-eqb c 0 z)))
        (λ n. ap (λ x. x.phase) (cond-false (eqb c 0) (fresh_client k 0) _ (ne_eqb c 0 n)) ∙ made_way (λ r. r.client.phase ≡ Idle) readers (c - 1) (fresh_reader k) no_reader refl refl)
        (cases_eq c 0)

    told : Told start.fixed ql fl [] start
    told = (
      (
        initial_row k,
        (λ _. 0),
        [],
        [],
        record {
          invariant = record {
            genuine_top = λ v g. let z = (genuine_none k v g).0 in omega arith;
            genuine_bottom = genuine_bottom k [];
            replica_ok = λ b l. subst (λ v. Genuine k start v) (sym (get_or-replicate q.size b (initial_row k) no_version l)) (genuine_bottom k []);
            message_ok = λ m p. absurd p;
            party_ok = λ c. record {
              best_ok = λ n. absurd (n (idle c));
              past = λ n. absurd (n (idle c));
              querying = λ z. absurd (idle≢querying (sym (idle c) ∙ z));
              storing = λ z. absurd (idle≢storing (sym (idle c) ∙ z));
              stored = λ z. absurd (idle≢storing (sym (idle c) ∙ z));
            };
            done_ok = λ d m. absurd m;
          };
          coded = λ v g. subst (λ b. k.encode (k.decode b) ≡ b) (sym (genuine_none k v g).1) (ap k.encode (laws.back k.initial));
          replicas_sized = length-replicate q.size (initial_row k);
          quiet = idle≢querying;
          trace = record {
            open_now = λ c i b. absurd (none≢some b);
            open_begun = λ c o. absurd (o (idle c));
            done_fin = λ d m. absurd m;
            fin_done = λ i j e. absurd (none≢some e.begun);
          };
          readers = λ c n o. absurd (o (idle c));
          ordering = record {
            sorted = tt;
            once = tt;
            right = tt;
            low = λ y m. absurd m;
            positive = λ y m. absurd m;
            is_write = λ y m. absurd m;
            is_read = λ y m. absurd m;
            each = λ i v m. absurd (none≢some m);
            done = λ d m. absurd m;
            book = λ n u g. let z = genuine_none k g.0 g.1 in inl (sym g.2 ∙ z.0, sym g.3 ∙ ap k.decode z.1 ∙ laws.back k.initial);
            opened = λ z. absurd (idle≢storing z);
            timely = λ d y m. absurd m;
          };
        },
      ),
      (
        (λ _. 0),
        record {
          links = tt;
          query_open = λ i c r. absurd (none≢some r);
          store_open = λ i c r. absurd (none≢some r);
          write_open = λ i v r. absurd (none≢some r);
          started = λ c o. absurd (o (idle c));
          told = λ c o. absurd (o (idle c));
          known = λ i b p. absurd (none≢some p.2);
          short = λ c o. absurd (o (idle c));
          prompt = λ j n b r. absurd (none≢some r);
        },
      ),
      record { kept = λ j c z f. absurd (none≢some f); out = λ j l c z f. absurd (none≢some f) },
    )

    open_sound : (calls : List (Call S × ℕ)) → Sound k.initial q.size faulty (map (summary k) (trace k start calls))
    open_sound calls = let r = along start.fixed ql fl calls [] start refl told in sound start.fixed ql fl (map (summary k) (trace k start calls)) r.0 r.1

  -- ---- the theorem

  empty_book : (book : List Entry) → length book ≡ 0 → [] ≡ book
  empty_book [] e = refl
  empty_book (x ∷ xs) e = absurd (omega arith)

  pub atomic : (q : Quorums) → QuorumLaws q → Atomic k q
  atomic q ql book free faulty s replicas readers t calls = go (making_refusal q book faulty s t) refl
    where
      go : (r : Option ℕ) → making_refusal q book faulty s t ≡ r → Sound k.initial q.size faulty (map (summary k) (trace k (made_by k r q book free faulty s replicas readers t) calls))
      go (Some n) e = subst (Sound k.initial q.size faulty) (sym (shut_run k q book free faulty replicas readers t calls)) (idle_sound k.initial q.size faulty calls)
      go None e =
          let p = first_none ((not (leb 1 s && leb s 8), 4) ∷ (not (sizes_fit q.size s t), 5) ∷ (not (q.fault faulty), 6) ∷ (not (eqb (length book) 0), 7) ∷ []) e in
          subst (λ b. Sound k.initial q.size faulty (map (summary k) (trace k (open_state k q b free faulty s t) calls))) (empty_book book (eqb-true (length book) 0 (not-false _ (p 3))))
          (open_sound q ql free faulty s t (not-false _ (p 2)) calls)
