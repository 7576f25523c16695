-- What a state's tables hold after a row is replaced, and the parties that they stand for. Assumes nothing.
use Rattle.std.proofs.Common.{◌≡◌, ℕ, ◌+◌, ◌-◌, ◌<◌, ◌≤◌, cond, eqb, List, [], ◌∷◌, ◌++◌, length, get_or, set, Some, None, Option, sym, refl, ap, ◌∙◌, ⊎_elim, arith, get_or-set_other, get_or-set_same}
use mathlib.Core.Path.{fun_ext}
use Rattle.std.proofs.lemmas.Bool.{cond-true, cond-false, eq-eqb, ne_eqb, cases_eq}
use Rattle.encodings.specs.Encodings.{Bytes}
use Rattle.settings.specs.Kinds.{Kind}
use Rattle.protocol.specs.Clients.{fresh_client, begin_query, begin_store}
use Rattle.protocol.specs.declared.version.Version.{Version}
use Rattle.protocol.specs.declared.message.Message.{Message}
use Rattle.protocol.specs.declared.client.Client.{Client}
use Rattle.cluster.specs.State.{State}
use Rattle.cluster.specs.Steps.{no_reader, no_version, reader_at, client_at, writer_with, with_client, completed_of, end_line, write_begun, read_begun, collected}
use Rattle.cluster.specs.declared.journal.Line.{Line}
use Rattle.cluster.specs.declared.reader.Reader.{Reader}
use Rattle.cluster.specs.declared.reader.Completed.{Completed}
use Rattle.atomicity.proofs.Facts.{changed, changed_way, get_or_changed}
use Rattle.atomicity.proofs.Moves.{seen, put, put_send, finished}
use Rattle.atomicity.proofs.Protocol.{Party}

-- the readers' rows with x in the place of the client c, if it is a reader
abbrev pub rows_with : List Reader → ℕ → Reader → List Reader
rows_with ds c x = cond (eqb c 0) ds (set ds (c - 1) x)

pub rows_zero : (ds : List Reader) (c : ℕ) (x : Reader) → c ≡ 0 → rows_with ds c x ≡ ds
rows_zero ds c x e = cond-true (eqb c 0) ds (set ds (c - 1) x) (eq-eqb c 0 e)

pub rows_set : (ds : List Reader) (c : ℕ) (x : Reader) → (c ≡ 0 → ⊥) → rows_with ds c x ≡ set ds (c - 1) x
rows_set ds c x n = cond-false (eqb c 0) ds (set ds (c - 1) x) (ne_eqb c 0 n)

pub reader_with : (ds : List Reader) (c : ℕ) (x : Reader) → c ≤ length ds → (d : ℕ) → (d ≡ 0 → ⊥) → reader_at (rows_with ds c x) d ≡ changed (reader_at ds) c x d
reader_with ds c x l d nd = changed_way (λ z. reader_at (rows_with ds c x) d ≡ z) (reader_at ds) c x d
    (λ e. let nc : c ≡ 0 → ⊥ = λ z. nd (e ∙ z) in
    ap (λ r. reader_at r d) (rows_set ds c x nc) ∙ ap (λ i. get_or (set ds (c - 1) x) (i - 1) no_reader) e
    ∙ get_or-set_same ds (c - 1) x no_reader (let z : 1 ≤ c = positive c nc in omega arith))
    (λ n. ⊎_elim
    (λ z. ap (λ r. reader_at r d) (rows_zero ds c x z))
    (λ nc. ap (λ r. reader_at r d) (rows_set ds c x nc)
    ∙ get_or-set_other ds (c - 1) (d - 1) x no_reader (λ z. n (let p : 1 ≤ c = positive c nc in let q : 1 ≤ d = positive d nd in omega arith)))
    (cases_eq c 0))
  where
    positive : (i : ℕ) → (i ≡ 0 → ⊥) → 1 ≤ i
    positive i n = omega arith

-- a reader is the client of its row
pub seen_reader : (s : State) (c : ℕ) → (c ≡ 0 → ⊥) → seen s c ≡ (reader_at s.readers c).client
seen_reader s c n = cond-false (eqb c 0) s.writer _ (ne_eqb c 0 n)

-- another client is no writer
pub writer_kept : (s : State) (c : ℕ) (y : Client) → (c ≡ 0 → ⊥) → writer_with s.writer c y ≡ s.writer
writer_kept s c y n = cond-false (eqb c 0) y s.writer (ne_eqb c 0 n)

-- the clients, where the writer or a reader is another: y in the row x
seen_with : (w w' : Client) (ds : List Reader) (c : ℕ) (x : Reader) (y : Client) → c ≤ length ds → x.client ≡ y → (c ≡ 0 → w' ≡ y) → ((c ≡ 0 → ⊥) → w' ≡ w)
    → (d : ℕ) → client_at w' (rows_with ds c x) d ≡ changed (client_at w ds) c y d
seen_with w w' ds c x y l xy wy ww d = ⊎_elim
    (λ z. cond-true (eqb d 0) w' _ (eq-eqb d 0 z) ∙ changed_way (λ u. w' ≡ u) (client_at w ds) c y d (λ e. wy (sym e ∙ z)) (λ n. ww (λ e. n (z ∙ sym e)) ∙ sym (cond-true (eqb d 0) w _ (eq-eqb d 0 z))))
    (λ nd. cond-false (eqb d 0) w' _ (ne_eqb d 0 nd) ∙ ap (λ r. r.client) (reader_with ds c x l d nd)
    ∙ changed_way (λ u. (changed (reader_at ds) c x d).client ≡ u) (client_at w ds) c y d
    (λ e. changed_way (λ u. u.client ≡ y) (reader_at ds) c x d (λ _. xy) (λ n. absurd (n e)))
    (λ n. changed_way (λ u. u.client ≡ client_at w ds d) (reader_at ds) c x d (λ e. absurd (n e)) (λ _. sym (cond-false (eqb d 0) w _ (ne_eqb d 0 nd)))))
    (cases_eq d 0)

-- a client's row is replaced
seen_client : (s : State) (c : ℕ) (y : Client) (z : Option Completed) (ms : List (Message Bytes)) (ls : List Line) → c ≤ length s.readers
    → (d : ℕ) → seen (with_client s c y (rows_with s.readers c (record { client = y; completed = z })) ms ls) d ≡ changed (seen s) c y d
seen_client s c y z ms ls l = seen_with s.writer (writer_with s.writer c y) s.readers c (record { client = y; completed = z }) y l refl
    (λ e. cond-true (eqb c 0) y s.writer (eq-eqb c 0 e)) (writer_kept s c y)

pub seen_put : (s : State) (c : ℕ) (y : Client) → c ≤ length s.readers → (d : ℕ) → seen (put s c y) d ≡ changed (seen s) c y d
seen_put s c y = seen_client s c y (reader_at s.readers c).completed s.messages s.lines

pub seen_sent : (s : State) (c : ℕ) (y : Client) (m : Message Bytes) → c ≤ length s.readers → (d : ℕ) → seen (put_send s c y m) d ≡ changed (seen s) c y d
seen_sent s c y m = seen_client s c y (reader_at s.readers c).completed (s.messages ++ (m ∷ [])) s.lines

module _ {S : Type 0} (k : Kind S) where
  pub seen_finished : (s : State) (c : ℕ) → c ≤ length s.readers → (d : ℕ) → seen (finished k s c) d ≡ changed (seen s) c (fresh_client k (seen s c).op) d
  seen_finished s c = seen_client s c (fresh_client k (seen s c).op) (Some (completed_of (seen s c))) s.messages (s.lines ++ (end_line c (seen s c) ∷ []))

  pub seen_querying : (s : State) (c : ℕ) → (c ≡ 0 → ⊥) → c ≤ length s.readers
      → (d : ℕ) → seen (read_begun k s c) d ≡ changed (seen s) c (begin_query k ((reader_at s.readers c).client.op + 1)) d
  seen_querying s c n l = let y = begin_query k ((reader_at s.readers c).client.op + 1) in
      seen_with s.writer s.writer s.readers c (record { client = y; completed = (reader_at s.readers c).completed }) y l refl (λ z. absurd (n z)) (λ _. refl)

  pub seen_writing : (s : State) (b : Bytes) (g d : ℕ) → seen (write_begun k s b g) d ≡ changed (seen s) 0 (begin_store k (s.writer.op + 1)) d
  seen_writing s b g = let y = begin_store k (s.writer.op + 1) in
      seen_with s.writer y s.readers 0 (record { client = y; completed = None }) y (omega arith) refl (λ _. refl) (λ n. absurd (n refl))

-- a completed read is taken away: the clients are the same
pub seen_collected : (s : State) (c : ℕ) → (c ≡ 0 → ⊥) → c ≤ length s.readers → (d : ℕ) → seen (collected s c) d ≡ seen s d
seen_collected s c n l d =
    ap (λ ds. client_at s.writer ds d) (sym (rows_set s.readers c x n))
    ∙ seen_with s.writer s.writer s.readers c x (seen s c) l (sym (seen_reader s c n)) (λ e. absurd (n e)) (λ _. refl) d
    ∙ changed_way (λ z. z ≡ seen s d) (seen s) c (seen s c) d (λ e. ap (seen s) (sym e)) (λ _. refl)
  where
    x : Reader
    x = record { client = (reader_at s.readers c).client; completed = None }

-- what is completed
pub done_with : (ds : List Reader) (c : ℕ) (x : Reader) → c ≤ length ds → (d : ℕ) → (d ≡ 0 → ⊥)
    → (reader_at (rows_with ds c x) d).completed ≡ changed (λ i. (reader_at ds i).completed) c x.completed d
done_with ds c x l d nd = ap (λ r. r.completed) (reader_with ds c x l d nd)
    ∙ changed_way (λ u. (changed (reader_at ds) c x d).completed ≡ u) (λ i. (reader_at ds i).completed) c x.completed d
    (λ e. changed_way (λ u. u.completed ≡ x.completed) (reader_at ds) c x d (λ _. refl) (λ n. absurd (n e)))
    (λ n. changed_way (λ u. u.completed ≡ (reader_at ds d).completed) (reader_at ds) c x d (λ e. absurd (n e)) (λ _. refl))

pub row_put : (vs : List (Version Bytes)) (r : ℕ) (v : Version Bytes) → r < length vs → ◌≡◌ {A = ℕ → Version Bytes} (changed (λ i. get_or vs i no_version) r v) (λ i. get_or (set vs r v) i no_version)
row_put vs r v h = fun_ext λ i. sym (get_or_changed vs r v no_version h i)

-- ---- parties

-- a client that has stored v, and whose operation began at b
abbrev pub party : Client → Version Bytes → ℕ → Party Bytes
party x v b = record { phase = x.phase; op = x.op; heard = x.heard.members; best = v; began = b }

-- what the client c has stored: the writer w, and a reader its best version
abbrev pub stored : State → Version Bytes → ℕ → Version Bytes
stored s w c = cond (eqb c 0) w (seen s c).best

abbrev pub parties : State → Version Bytes → (ℕ → ℕ) → ℕ → Party Bytes
parties s w began c = party (seen s c) (stored s w c) (began c)

pub stored_writer : (s : State) (w : Version Bytes) (c : ℕ) → c ≡ 0 → stored s w c ≡ w
stored_writer s w c e = cond-true (eqb c 0) w (seen s c).best (eq-eqb c 0 e)

pub stored_reader : (s : State) (w : Version Bytes) (c : ℕ) → (c ≡ 0 → ⊥) → stored s w c ≡ (seen s c).best
stored_reader s w c n = cond-false (eqb c 0) w (seen s c).best (ne_eqb c 0 n)

pub parties_put : (s s' : State) (w w' : Version Bytes) (began began' : ℕ → ℕ) (c : ℕ) (y : Client) (v : Version Bytes) (t : ℕ)
    → ((d : ℕ) → seen s' d ≡ changed (seen s) c y d) → (c ≡ 0 → w' ≡ v) → ((c ≡ 0 → ⊥) → (w' ≡ w) × (y.best ≡ v))
    → began' c ≡ t → ((d : ℕ) → (d ≡ c → ⊥) → began' d ≡ began d)
    → changed (parties s w began) c (party y v t) ≡ parties s' w' began'
parties_put s s' w w' began began' c y v t put own other new old = fun_ext λ d. changed_way (λ z. z ≡ parties s' w' began' d) (parties s w began) c (party y v t) d (here d) (there d)
  where
    here : (d : ℕ) → d ≡ c → party y v t ≡ parties s' w' began' d
    here d e =
        let p : y ≡ seen s' d = sym (put d ∙ changed_way (λ z. z ≡ y) (seen s) c y d (λ _. refl) (λ n. absurd (n e))) in
        let q : v ≡ stored s' w' d = ⊎_elim
        (λ z. sym (own (sym e ∙ z)) ∙ sym (stored_writer s' w' d z))
        (λ n. sym (other (λ z. n (e ∙ z))).1 ∙ ap (λ x. x.best) p ∙ sym (stored_reader s' w' d n)) (cases_eq d 0) in
        let r : t ≡ began' d = sym (ap began' e ∙ new) in
        λ i. party (p i) (q i) (r i)

    there : (d : ℕ) → (d ≡ c → ⊥) → parties s w began d ≡ parties s' w' began' d
    there d n =
        let p : seen s d ≡ seen s' d = sym (put d ∙ changed_way (λ z. z ≡ seen s d) (seen s) c y d (λ e. absurd (n e)) (λ _. refl)) in
        let q : stored s w d ≡ stored s' w' d = ⊎_elim
        (λ z. stored_writer s w d z ∙ sym (other (λ e. n (z ∙ sym e))).0 ∙ sym (stored_writer s' w' d z))
        (λ m. stored_reader s w d m ∙ ap (λ x. x.best) p ∙ sym (stored_reader s' w' d m)) (cases_eq d 0) in
        let r : began d ≡ began' d = sym (old d n) in
        λ i. party (p i) (q i) (r i)
