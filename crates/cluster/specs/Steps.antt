-- What each call does: its answer, and the state after. Assumes nothing.
use Rattle.std.specs.Prelude.{ℕ, ◌+◌, ◌-◌, Bool, cond, not, ◌||◌, List, [], ◌∷◌, ◌++◌, length, get_or, Some, None, Ok, Err, Option, Result, ◌==◌, nat_le, nat_lt, slice_index_or, slice_set}
use Rattle.std.specs.List.{remove}
use Rattle.encodings.specs.Encodings.{Bytes, no_bytes}
use Rattle.settings.specs.Kinds.{Kind}
use Rattle.replica_sets.specs.Sets.{has}
use Rattle.signatures.specs.Books.{entry, can_sign}
use Rattle.protocol.specs.Versions.{version}
use Rattle.protocol.specs.Messages.{is_reply, replica_of, client_of, each_value}
use Rattle.protocol.specs.Replicas.{answer, keep}
use Rattle.protocol.specs.Clients.{client, is_idle, react, begin_query, begin_store}
use Rattle.protocol.specs.declared.version.Version.{Version}
use Rattle.protocol.specs.declared.message.Message.{Message}
use Rattle.protocol.specs.declared.message.Message.TheVariants.{Query, Store}
use Rattle.protocol.specs.declared.client.Client.{Client}
use Rattle.protocol.specs.declared.client.Phase.TheVariants.{Idle}
use Rattle.protocol.specs.declared.client.Reply.{Reply}
use Rattle.protocol.specs.declared.client.Reply.TheVariants.{Heard, Ignored, Turned, Finished}
use Rattle.cluster.specs.Refusals.{Check, first_refusal}
use Rattle.cluster.specs.Journal.{line}
use Rattle.cluster.specs.State.{State}
use Rattle.cluster.specs.declared.completed_read.CompletedRead.{CompletedRead}
use Rattle.cluster.specs.declared.reader.Reader.{Reader}
use Rattle.cluster.specs.declared.reader.Completed.{Completed}
use Rattle.cluster.specs.declared.delivery.Delivery.{Delivery}
use Rattle.cluster.specs.declared.delivery.Delivery.TheVariants.{Answered, Unanswered}
use Rattle.cluster.specs.declared.journal.Line.{Line}
use Rattle.cluster.specs.declared.journal.LineKind.TheVariants.{WriteBegun, WriteFinished, ReadBegun, ReadFinished}

-- an answer, or a refusal by its number, and the state after
abbrev pub Outcome : Type 0 → Type 0
Outcome A = Result A ℕ × State

-- refused with the number, and nothing changed, or else as given
unfoldable pub unless : {A : Type 0} → Option ℕ → State → Outcome A → Outcome A
unless None s o = o
unless (Some n) s o = (Err n, s)

-- ---- what stands where a table has no row

abbrev pub no_version : Version Bytes
no_version = version 0 no_bytes 0

abbrev pub no_message : Message Bytes
no_message = Query 0 0

abbrev pub no_reader : Reader
no_reader = record { client = client Idle 0 0 no_version; completed = None }

-- ---- the clients: 0 is the writer, the readers are 1, 2, ..

-- the row of the reader c
abbrev pub reader_at : List Reader → ℕ → Reader
reader_at ds c = slice_index_or ds (c - 1) no_reader

-- whether there is no reader c
abbrev pub no_reader_at : List Reader → ℕ → Bool
no_reader_at ds c = c == 0 || nat_lt (length ds) c

-- the client c
abbrev pub client_at : Client → List Reader → ℕ → Client
client_at w ds c = cond (c == 0) w (reader_at ds c).client

-- the writer, and the readers, with x in the place of the client c
abbrev pub writer_with : Client → ℕ → Client → Client
writer_with w c x = cond (c == 0) x w

abbrev pub readers_with : List Reader → ℕ → Client → List Reader
readers_with ds c x = cond (c == 0) ds (slice_set ds (c - 1) (record { client = x; completed = (reader_at ds c).completed }))

-- how many operations of readers are open
abbrev pub open_reads : List Reader → ℕ
open_reads [] = 0
open_reads (d ∷ ds) = cond (is_idle d.client.phase) 0 1 + open_reads ds

-- how many operations are open
abbrev pub open_operations : Client → List Reader → ℕ
open_operations w ds = cond (is_idle w.phase) 0 1 + open_reads ds

-- ---- checks that several calls share, each with its number

-- every call: the cluster is shut; a table's size changed
abbrev pub closed : State → List Check
closed s = (s.fixed.shut, 8) ∷ (not s.fixed.sized, 5) ∷ []

-- whether as many messages are in flight as there are places
abbrev pub in_flight_full : State → Bool
in_flight_full s = nat_le s.fixed.message_places (length s.messages)

-- an operation of the client x begins, where so many operations are open: its own is open; its numbers are used up; no place for
-- a message; no lines for the beginning and the end of this operation and the ends of those that are open
abbrev pub begin_checks : Client → ℕ → ℕ → ℕ → ℕ → List Check
begin_checks x opened in_flight places free_lines =
    (not (is_idle x.phase), 10) ∷ (nat_le 65535 x.op, 11) ∷ (nat_le places in_flight, 12) ∷ (nat_lt free_lines (opened + 2), 13) ∷ []

-- the same of a state
abbrev pub begins : State → Client → List Check
begins s x =
    begin_checks x (open_operations s.writer s.readers) (length s.messages) s.fixed.message_places (s.fixed.line_places - length s.lines)

-- the message i in flight
abbrev pub message_at : State → ℕ → Message Bytes
message_at s i = slice_index_or s.messages i no_message

-- there is no message i in flight
abbrev pub no_message_at : State → ℕ → Bool
no_message_at s i = nat_le (length s.messages) i

-- there is no replica r
abbrev pub no_replica_at : State → ℕ → Bool
no_replica_at s r = nat_le s.fixed.quorums.size r

-- ---- a client hears a reply

-- what a finished read leaves to be collected
abbrev pub completed_of : Client → Completed
completed_of x = record { op = x.op; timestamp = x.best.timestamp; encoding = x.best.value }

-- the readers as the operation of the client c ends, which was x and is y then
abbrev pub readers_done : List Reader → ℕ → Client → Client → List Reader
readers_done ds c x y = cond (c == 0) ds (slice_set ds (c - 1) (record { client = y; completed = Some (completed_of x) }))

-- the line that tells of the end of the operation of the client c; a write's timestamp is its operation number
abbrev pub end_line : ℕ → Client → Line
end_line c x = cond (c == 0) (line WriteFinished c x.op x.op) (line ReadFinished c x.op x.best.timestamp)

-- the state with another client c, messages and lines
abbrev pub with_client : State → ℕ → Client → List Reader → List (Message Bytes) → List Line → State
with_client s c y ds ms ls = record {
  fixed = s.fixed;
  book = s.book;
  free = s.free;
  writer = writer_with s.writer c y;
  replicas = s.replicas;
  readers = ds;
  messages = ms;
  lines = ls;
}

-- what comes of a reply to the client c, which then is y
abbrev pub settled : State → ℕ → Reply → Client → Outcome Reply
settled s c Ignored y = (Ok Ignored, s)
settled s c Heard y = (Ok Heard, with_client s c y (readers_with s.readers c y) s.messages s.lines)
settled s c Turned y = unless (first_refusal ((in_flight_full s, 12) ∷ [])) s
    (Ok Turned, with_client s c y (readers_with s.readers c y) (s.messages ++ (Store c y.op y.best ∷ [])) s.lines)
settled s c Finished y =
    let x = client_at s.writer s.readers c in
    unless (first_refusal ((nat_le s.fixed.line_places (length s.lines), 13) ∷ [])) s
    (Ok Finished, with_client s c y (readers_done s.readers c x y) s.messages (s.lines ++ (end_line c x ∷ [])))

-- ---- the calls

module _ {S : Type 0} (k : Kind S) where
  -- the client c hears a message
  unfoldable pub hear : State → ℕ → Message S → Outcome Reply
  hear s c m =
      let o = react k s.fixed.quorums.quorum s.book (client_at s.writer s.readers c) m in
      settled s c o.0 o.1

  -- the state after a write of the bytes b began, to which the scheme gave the tag g
  abbrev pub write_begun : State → Bytes → ℕ → State
  write_begun s b g =
      let o = s.writer.op + 1 in
      record {
        fixed = s.fixed;
        book = s.book ++ (entry o b g ∷ []);
        free = s.free - 1;
        writer = begin_store k o;
        replicas = s.replicas;
        readers = s.readers;
        messages = s.messages ++ (Store 0 o (version o b g) ∷ []);
        lines = s.lines ++ (line WriteBegun 0 o o ∷ []);
      }

  -- write(v), where g is the tag that the scheme chooses if it signs
  unfoldable pub write_step : State → S → ℕ → Outcome ℕ
  write_step s v g =
      let o = s.writer.op + 1 in
      unless (first_refusal (closed s ++ (begins s s.writer ++ ((not (can_sign s.book s.free o), 14) ∷ [])))) s
      (Ok o, write_begun s (k.encode v) g)

  -- the state after a read of the reader c began
  abbrev pub read_begun : State → ℕ → State
  read_begun s c =
      let o = (reader_at s.readers c).client.op + 1 in
      record {
        fixed = s.fixed;
        book = s.book;
        free = s.free;
        writer = s.writer;
        replicas = s.replicas;
        readers = readers_with s.readers c (begin_query k o);
        messages = s.messages ++ (Query c o ∷ []);
        lines = s.lines ++ (line ReadBegun c o 0 ∷ []);
      }

  -- read(c)
  unfoldable pub read_step : State → ℕ → Outcome ℕ
  read_step s c =
      let x = (reader_at s.readers c).client in
      unless (first_refusal (closed s ++ ((no_reader_at s.readers c, 9) ∷ begins s x))) s
      (Ok (x.op + 1), read_begun s c)

  -- the state after the correct replica r answered with m, and keeps the row v from then on
  abbrev pub answered : State → ℕ → Version Bytes → Message S → State
  answered s r v m = record {
    fixed = s.fixed;
    book = s.book;
    free = s.free;
    writer = s.writer;
    replicas = slice_set s.replicas r v;
    readers = s.readers;
    messages = s.messages ++ (each_value k.encode m ∷ []);
    lines = s.lines;
  }

  -- what comes of the answer of the correct replica r, which keeps the row v then; silence changes nothing
  abbrev pub answering : State → ℕ → Version Bytes → Option (Message S) → Outcome Delivery
  answering s r v None = (Ok Unanswered, s)
  answering s r v (Some m) = unless (first_refusal ((in_flight_full s, 12) ∷ [])) s (Ok Answered, answered s r v m)

  -- deliver_request(i, r): a faulty replica's silence changes nothing either
  unfoldable pub request_step : State → ℕ → ℕ → Outcome Delivery
  request_step s i r =
      let row = message_at s i in
      let m = each_value k.decode row in
      let kept = get_or s.replicas r no_version in
      unless (first_refusal (closed s ++ ((no_message_at s i, 15) ∷ (is_reply row, 16) ∷ (no_replica_at s r, 17) ∷ []))) s
      (cond (has s.fixed.faulty r) (Ok Unanswered, s) (answering s r (keep k s.book kept m) (answer k s.book r kept m)))

  -- whom a reply goes to and comes from: no reply; no such replica; no such client
  abbrev pub addressed : {V : Type 0} → State → Message V → List Check → List Check
  addressed s m more = (not (is_reply m), 16) ∷ (no_replica_at s (replica_of m), 17) ∷ (more ++ ((nat_lt (length s.readers) (client_of m), 9) ∷ []))

  -- deliver_reply(i)
  unfoldable pub reply_step : State → ℕ → Outcome Reply
  reply_step s i =
      let row = message_at s i in
      unless (first_refusal (closed s ++ ((no_message_at s i, 15) ∷ addressed s row []))) s
      (hear s (client_of row) (each_value k.decode row))

  -- forge_reply(m): a correct replica's replies can't be forged
  unfoldable pub forge_step : State → Message S → Outcome Reply
  forge_step s m =
      unless (first_refusal (closed s ++ addressed s m ((not (has s.fixed.faulty (replica_of m)), 18) ∷ []))) s
      (hear s (client_of m) m)

-- drop_message(i): later messages move up by one
unfoldable pub drop_step : State → ℕ → Outcome (Unit {0})
drop_step s i =
    unless (first_refusal (closed s ++ ((no_message_at s i, 15) ∷ []))) s (
      Ok tt,
      record {
        fixed = s.fixed;
        book = s.book;
        free = s.free;
        writer = s.writer;
        replicas = s.replicas;
        readers = s.readers;
        messages = remove s.messages i;
        lines = s.lines;
      },
    )

-- a reader's row without its completed read
abbrev pub without_completed : Reader → Reader
without_completed d = record { client = d.client; completed = None }

-- the state without the completed read of the reader c
abbrev pub collected : State → ℕ → State
collected s c = record {
  fixed = s.fixed;
  book = s.book;
  free = s.free;
  writer = s.writer;
  replicas = s.replicas;
  readers = slice_set s.readers (c - 1) (without_completed (reader_at s.readers c));
  messages = s.messages;
  lines = s.lines;
}

module _ {S : Type 0} (k : Kind S) where
  -- a completed read as it is handed out
  abbrev pub handed_out : ℕ → Completed → CompletedRead S
  handed_out c z = record { reader = c; op = z.op; timestamp = z.timestamp; setting = k.decode z.encoding }

  -- what comes of collecting from the reader c
  abbrev pub collecting : State → ℕ → Option Completed → Outcome (CompletedRead S)
  collecting s c None = (Err 19, s)
  collecting s c (Some z) = (Ok (handed_out c z), collected s c)

  -- collect(c)
  unfoldable pub collect_step : State → ℕ → Outcome (CompletedRead S)
  collect_step s c =
      unless (first_refusal (closed s ++ ((no_reader_at s.readers c, 9) ∷ []))) s
      (collecting s c (reader_at s.readers c).completed)
