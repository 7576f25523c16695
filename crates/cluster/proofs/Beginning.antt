-- How operations begin. Assumes nothing.
use Rattle.std.proofs.Common.{◌≡◌, ℕ, ◌+◌, ◌-◌, ◌<◌, true, false, cond, not, eqb, List, [], ◌∷◌, ◌++◌, length, Some, None, Ok, Err, sym, refl, ap, ◌∙◌, ap₂, arith}
use Rattle.std.proofs.lemmas.Bool.{ne_eqb}
use Rattle.encodings.specs.Encodings.{Bytes}
use Rattle.settings.specs.Kinds.{Kind}
use Rattle.signatures.specs.Books.{entry, can_sign}
use Rattle.signatures.specs.declared.entry.Entry.{Entry}
use Rattle.protocol.specs.Versions.{version}
use Rattle.protocol.specs.Clients.{begin_query, begin_store}
use Rattle.protocol.specs.declared.client.Client.{Client}
use Rattle.protocol.specs.declared.message.Message.{Message}
use Rattle.protocol.specs.declared.message.Message.TheVariants.{Query, Store}
use Rattle.cluster.specs.Refusals.{Check, first_refusal}
use Rattle.cluster.specs.State.{State, Fixed}
use Rattle.cluster.specs.Journal.{line}
use Rattle.cluster.specs.declared.reader.Reader.{Reader}
use Rattle.cluster.specs.declared.journal.Line.{Line}
use Rattle.cluster.specs.declared.journal.LineKind.TheVariants.{WriteBegun, ReadBegun}
use Rattle.cluster.specs.Steps.{Outcome, write_begun, write_step, writer_with, readers_with, closed, begins, begin_checks, open_operations, no_reader_at, reader_at, read_begun, read_step}
use Rattle.cluster.proofs.Outcomes.{first_before, first_after, shut_out, turned_away, let_in, outcome}

-- the checks, where the lists' lengths are known
begins_by : (s : State) (x : Client) (m l : ℕ) → length s.messages ≡ m → length s.lines ≡ l →
    begins s x ≡ begin_checks x (open_operations s.writer s.readers) m s.fixed.message_places (s.fixed.line_places - l)
begins_by s x m l em el =
    ap₂ (λ a b. begin_checks x (open_operations s.writer s.readers) a s.fixed.message_places (s.fixed.line_places - b)) em el

-- a reader isn't the writer
reader_is : (c : ℕ) → 0 < c → (y w : Client) → writer_with w c y ≡ w
reader_is c h y w = let other : eqb c 0 ≡ false = ne_eqb c 0 (λ e. omega arith) in ap (λ b. cond b y w) other

module _ {S : Type 0} (k : Kind S) (s : State) (c : ℕ) where
  abbrev reader : Client
  reader = (reader_at s.readers c).client

  abbrev begun : Outcome ℕ
  begun = (Ok (reader.op + 1), read_begun k s c)

  abbrev read_checks : List Check → List Check
  read_checks more = (no_reader_at s.readers c, 9) ∷ more

  pub read_shut : (n : ℕ) → first_refusal (closed s) ≡ Some n → read_step k s c ≡ (Err n, s)
  unfolding read_step
  read_shut n e = shut_out s begun (read_checks (begins s reader)) n e

  module _ (m l : ℕ) (em : length s.messages ≡ m) (el : length s.lines ≡ l) (p : first_refusal (closed s) ≡ None) where
    abbrev counted : List Check
    counted = read_checks (begin_checks reader (open_operations s.writer s.readers) m s.fixed.message_places (s.fixed.line_places - l))

    same_checks : first_refusal (read_checks (begins s reader)) ≡ first_refusal counted
    same_checks = ap (λ cs. first_refusal (read_checks cs)) (begins_by s reader m l em el)

    pub read_refused : (n : ℕ) → first_refusal counted ≡ Some n → read_step k s c ≡ (Err n, s)
    unfolding read_step
    read_refused n e = turned_away s begun (read_checks (begins s reader)) n p (same_checks ∙ e)

    pub read_accepted : first_refusal counted ≡ None → read_step k s c ≡ begun
    unfolding read_step
    read_accepted e = let_in s begun (read_checks (begins s reader)) p (same_checks ∙ e)

    -- the same, with what the tables then hold
    pub read_so : (d : Reader) (y : Client) (q : Message Bytes) (t : Line) (F : Fixed) (w : Client) (ds : List Reader) (ms : List (Message Bytes)) (ls : List Line) →
        first_refusal counted ≡ None → 0 < c → d ≡ reader_at s.readers c → y ≡ begin_query k (d.client.op + 1) → q ≡ Query c (d.client.op + 1) → t ≡ line ReadBegun c (d.client.op + 1) 0 →
        s.fixed ≡ F → w ≡ writer_with s.writer c y → ds ≡ readers_with s.readers c y → ms ≡ s.messages ++ (q ∷ []) → ls ≡ s.lines ++ (t ∷ []) →
        read_step k s c ≡ (Ok (d.client.op + 1), record { fixed = F; book = s.book; free = s.free; writer = w; replicas = s.replicas; readers = ds; messages = ms; lines = ls })
    read_so d y q t F w ds ms ls e h ed ey eq et eF ew eds ems els =
        let o : reader.op + 1 ≡ d.client.op + 1 = ap (λ (x : Reader). x.client.op + 1) (sym ed) in
        read_accepted e ∙ outcome o eF refl refl (sym (ew ∙ reader_is c h y s.writer)) refl
        (ap (λ n. readers_with s.readers c (begin_query k n)) o ∙ ap (readers_with s.readers c) (sym ey) ∙ sym eds)
        (ap (λ n. s.messages ++ (Query c n ∷ [])) o ∙ ap (λ x. s.messages ++ (x ∷ [])) (sym eq) ∙ sym ems)
        (ap (λ n. s.lines ++ (line ReadBegun c n 0 ∷ [])) o ∙ ap (λ x. s.lines ++ (x ∷ [])) (sym et) ∙ sym els)

module _ {S : Type 0} (k : Kind S) (s : State) (v : S) (g : ℕ) where
  abbrev next : ℕ
  next = s.writer.op + 1

  abbrev signing : List Check
  signing = (not (can_sign s.book s.free next), 14) ∷ []

  abbrev write_checks : List Check
  write_checks = begins s s.writer ++ signing

  abbrev written : Outcome ℕ
  written = (Ok next, write_begun k s (k.encode v) g)

  pub write_shut : (n : ℕ) → first_refusal (closed s) ≡ Some n → write_step k s v g ≡ (Err n, s)
  unfolding write_step
  write_shut n e = shut_out s written write_checks n e

  module _ (m l : ℕ) (em : length s.messages ≡ m) (el : length s.lines ≡ l) (q : ℕ) (eq : q ≡ open_operations s.writer s.readers) (p : first_refusal (closed s) ≡ None) where
    abbrev counted_write : List Check
    counted_write = begin_checks s.writer q m s.fixed.message_places (s.fixed.line_places - l)

    same_begins : first_refusal (begins s s.writer) ≡ first_refusal counted_write
    same_begins =
        ap first_refusal (begins_by s s.writer m l em el)
        ∙ ap (λ n. first_refusal (begin_checks s.writer n m s.fixed.message_places (s.fixed.line_places - l))) (sym eq)

    pub write_refused : (n : ℕ) → first_refusal counted_write ≡ Some n → write_step k s v g ≡ (Err n, s)
    unfolding write_step
    write_refused n e = turned_away s written write_checks n p (first_before (begins s s.writer) signing n (same_begins ∙ e))

    pub write_unsigned : (b : List Entry) (f : ℕ) → first_refusal counted_write ≡ None → can_sign s.book s.free next ≡ false → b ≡ s.book → f ≡ s.free →
        write_step k s v g ≡ (Err 14, record { fixed = s.fixed; book = b; free = f; writer = s.writer; replicas = s.replicas; readers = s.readers; messages = s.messages; lines = s.lines })
    unfolding write_step
    write_unsigned b f e signs eb ef =
        turned_away s written write_checks 14 p (first_after (begins s s.writer) signing (same_begins ∙ e) ∙ ap (λ t. first_refusal ((not t, 14) ∷ [])) signs)
        ∙ (λ i. (Err 14, record { fixed = s.fixed; book = sym eb i; free = sym ef i; writer = s.writer; replicas = s.replicas; readers = s.readers; messages = s.messages; lines = s.lines }))

    write_accepted : first_refusal counted_write ≡ None → can_sign s.book s.free next ≡ true → write_step k s v g ≡ written
    unfolding write_step
    write_accepted e signs =
        let_in s written write_checks p (first_after (begins s s.writer) signing (same_begins ∙ e) ∙ ap (λ t. first_refusal ((not t, 14) ∷ [])) signs)

    -- the same, with what the scheme and the tables then hold
    pub write_so : (b : Bytes) (a : Message Bytes) (t : Line) (F : Fixed) (es : List Entry) (f : ℕ) (w : Client) (ms : List (Message Bytes)) (ls : List Line) →
        first_refusal counted_write ≡ None → can_sign s.book s.free next ≡ true → b ≡ k.encode v → a ≡ Store 0 next (version next b g) → t ≡ line WriteBegun 0 next next → s.fixed ≡ F →
        es ≡ s.book ++ (entry next b g ∷ []) → f + 1 ≡ s.free → w ≡ begin_store k next → ms ≡ s.messages ++ (a ∷ []) → ls ≡ s.lines ++ (t ∷ []) →
        write_step k s v g ≡ (Ok next, record { fixed = F; book = es; free = f; writer = w; replicas = s.replicas; readers = s.readers; messages = ms; lines = ls })
    write_so b a t F es f w ms ls e signs eb ea et eF ees ef ew ems els =
        let less : s.free - 1 ≡ f = omega arith in
        write_accepted e signs ∙ outcome refl eF (ap (λ x. s.book ++ (entry next x g ∷ [])) (sym eb) ∙ sym ees) less (sym ew) refl refl
        (ap (λ x. s.messages ++ (Store 0 next (version next x g) ∷ [])) (sym eb) ∙ ap (λ x. s.messages ++ (x ∷ [])) (sym ea) ∙ sym ems)
        (ap (λ x. s.lines ++ (x ∷ [])) (sym et) ∙ sym els)
