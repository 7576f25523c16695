-- What the claims see of a cluster's events, and the theorem. Assumes nothing.
use Rattle.std.specs.Prelude.{ℕ, Bool, true, false, cond, List, map, Some, None, Ok, Err, Option, Result, ◌==◌}
use Rattle.std.specs.Option.{option_map}
use Rattle.encodings.specs.Encodings.{Bytes}
use Rattle.settings.specs.Kinds.{Kind}
use Rattle.quorums.specs.Systems.{Quorums}
use Rattle.signatures.specs.declared.entry.Entry.{Entry}
use Rattle.protocol.specs.Messages.{client_of}
use Rattle.protocol.specs.declared.version.Version.{Version}
use Rattle.protocol.specs.declared.client.Reply.{Reply}
use Rattle.protocol.specs.declared.client.Reply.TheVariants.{Heard, Ignored, Turned, Finished}
use Rattle.cluster.specs.State.{State}
use Rattle.cluster.specs.Making.{made_state}
use Rattle.cluster.specs.Steps.{message_at, reader_at, handed_out}
use Rattle.cluster.specs.declared.completed_read.CompletedRead.{CompletedRead}
use Rattle.cluster.specs.declared.delivery.Delivery.TheVariants.{Answered, Unanswered}
use Rattle.cluster.specs.declared.tables.TableSizes.{TableSizes}
use Rattle.cluster.specs.declared.reader.Reader.{Reader}
use Rattle.atomicity.specs.declared.call.Call.{Call}
use Rattle.atomicity.specs.declared.call.Call.TheVariants.{Write, Read, DeliverRequest, DeliverReply, ForgeReply, DropMessage, Collect}
use Rattle.atomicity.specs.declared.answer.Answer.{Answer}
use Rattle.atomicity.specs.declared.answer.Answer.TheVariants.{Written, ReadBegun, Delivered, Replied, Dropped, Collected}
use Rattle.atomicity.specs.Runs.{Event, trace}
use Rattle.atomicity.specs.Marks.{Mark, Traffic, Summary}
use Rattle.atomicity.specs.Marks.Mark.{Nothing, Begins, Turns, Finishes, Collects}
use Rattle.atomicity.specs.Marks.Traffic.{Still, Sends, ToReplica, ToClient, Drops}
use Rattle.atomicity.specs.Claims.{Sound}

-- whether the client sends a message on a reply
abbrev pub sends : Reply → Bool
sends Heard = false
sends Ignored = false
sends Turned = true
sends Finished = false

module _ {S : Type 0} where
  -- whether a replica answered
  abbrev pub is_answered : Answer S → Bool
  is_answered (Written t) = false
  is_answered (ReadBegun o) = false
  is_answered (Delivered Answered) = true
  is_answered (Delivered Unanswered) = false
  is_answered (Replied r) = false
  is_answered Dropped = false
  is_answered (Collected z) = false

  -- what a reply came to
  abbrev pub reply_of : Answer S → Reply
  reply_of (Written t) = Ignored
  reply_of (ReadBegun o) = Ignored
  reply_of (Delivered d) = Ignored
  reply_of (Replied r) = r
  reply_of Dropped = Ignored
  reply_of (Collected z) = Ignored

  -- what was handed out to the reader c
  abbrev pub collected_mark : ℕ → Answer S → Mark S
  collected_mark c (Written t) = Nothing
  collected_mark c (ReadBegun o) = Nothing
  collected_mark c (Delivered d) = Nothing
  collected_mark c (Replied r) = Nothing
  collected_mark c Dropped = Nothing
  collected_mark c (Collected z) = Collects c z

  -- a reply to the client c, who holds a completed read then
  abbrev pub reply_mark : ℕ → Option (CompletedRead S) → Reply → Mark S
  reply_mark c z Heard = Nothing
  reply_mark c z Ignored = Nothing
  reply_mark c z Turned = Turns c
  reply_mark c z Finished = Finishes c z

  -- a summary of both parts
  abbrev pub summed : Mark S → Traffic → Summary S
  summed m t = record { mark = m; traffic = t }

  module _ (k : Kind S) where
    -- the completed read that the client c holds, as it would be handed out; the writer has none
    abbrev pub held : State → ℕ → Option (CompletedRead S)
    held s c = cond (c == 0) None (option_map (handed_out k c) (reader_at s.readers c).completed)

    -- what an accepted call came to
    abbrev pub accepted : State → State → Call S → Answer S → Summary S
    accepted s s' (Write v) a = summed (Begins 0 (Some v)) Sends
    accepted s s' (Read c) a = summed (Begins c None) Sends
    accepted s s' (DeliverRequest i r) a = summed Nothing (ToReplica i r (is_answered a))
    accepted s s' (DeliverReply i) a =
        let c = client_of (message_at s i) in summed (reply_mark c (held s' c) (reply_of a)) (ToClient i (sends (reply_of a)))
    accepted s s' (ForgeReply m) a = summed (reply_mark (client_of m) (held s' (client_of m)) (reply_of a)) (cond (sends (reply_of a)) Sends Still)
    accepted s s' (DropMessage i) a = summed Nothing (Drops i)
    accepted s s' (Collect c) a = summed (collected_mark c a) Still

    -- what a call came to
    abbrev pub came_to : State → State → Call S → Result (Answer S) ℕ → Summary S
    came_to s s' c (Ok a) = accepted s s' c a
    came_to s s' c (Err n) = summed Nothing Still

    -- an event's summary
    abbrev pub summary : Event S → Summary S
    summary e = came_to e.before e.after e.call e.answer

-- the theorem: the claims hold of every list of calls, with every choice of tags, on a cluster that was made with any arguments
abbrev pub Atomic : {S : Type 0} → Kind S → Quorums → Type 0
Atomic k q = (book : List Entry) (free faulty s : ℕ) (replicas : List (Version Bytes)) (readers : List Reader) (t : TableSizes) (calls : List (Call _ × ℕ))
    → Sound k.initial q.size faulty (map (summary k) (trace k (made_state k q book free faulty s replicas readers t) calls))
