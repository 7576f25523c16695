-- What a client does with a message. Assumes nothing.
use Rattle.std.specs.Prelude.{ℕ, Bool, true, false, cond, not, ◌&&◌, List, ◌==◌, codes}
use Rattle.encodings.specs.Encodings.{Bytes}
use Rattle.settings.specs.Kinds.{Kind}
use Rattle.replica_sets.specs.Sets.{has, with_member}
use Rattle.signatures.specs.declared.entry.Entry.{Entry}
use Rattle.protocol.specs.Versions.{initial_version, genuine, with_value}
use Rattle.protocol.specs.Replicas.{newer}
use Rattle.protocol.specs.declared.version.Version.{Version}
use Rattle.protocol.specs.declared.message.Message.{Message}
use Rattle.protocol.specs.declared.message.Message.TheVariants.{Query, Store, Value, Ack}
use Rattle.protocol.specs.declared.client.Client.{Client}
use Rattle.protocol.specs.declared.client.Phase.{Phase}
use Rattle.protocol.specs.declared.client.Phase.TheVariants.{Idle, Querying, Storing}
use Rattle.protocol.specs.declared.client.Reply.{Reply}
use Rattle.protocol.specs.declared.client.Reply.TheVariants.{Heard, Ignored, Turned, Finished}

-- whether no operation is open
abbrev pub is_idle : Phase → Bool
is_idle Idle = true
is_idle Querying = false
is_idle Storing = false

-- whether values are collected
abbrev pub is_querying : Phase → Bool
is_querying Idle = false
is_querying Querying = true
is_querying Storing = false

-- whether acknowledgements are collected
abbrev pub is_storing : Phase → Bool
is_storing Idle = false
is_storing Querying = false
is_storing Storing = true

-- a client in a phase of the operation o that has heard the replicas h, with its best version
abbrev pub client : Phase → ℕ → ℕ → Version Bytes → Client
client p o h v = record { phase = p; op = o; heard = record { members = h }; best = v }

-- the word that is printed for what a reply came to
abbrev pub reply_word : Reply → List ℕ
reply_word Heard = codes "heard"
reply_word Ignored = codes "ignored"
reply_word Turned = codes "turned"
reply_word Finished = codes "finished"

-- what a reply came to, and the client afterwards
abbrev pub Reaction : Type 0
Reaction = Reply × Client

-- a reply of the replica r to the operation o is still waited for
abbrev pub awaits : Client → ℕ → ℕ → Bool
awaits c r o = o == c.op && not (has c.heard.members r)

-- a value counts: the newer version is the best; once a quorum is heard, the client turns to storing it, and hears anew
abbrev pub value_heard : (ℕ → Bool) → Client → ℕ → Version Bytes → Reaction
value_heard quorum c r v =
    let h = with_member c.heard.members r in
    cond (quorum h) (Turned, client Storing c.op 0 (newer c.best v)) (Heard, client c.phase c.op h (newer c.best v))

module _ {S : Type 0} (k : Kind S) where
  -- the initial version as tables hold it
  abbrev pub initial_row : Version Bytes
  initial_row = with_value k.encode (initial_version k)

  -- idle after o operations, as when fresh
  abbrev pub fresh_client : ℕ → Client
  fresh_client o = client Idle o 0 initial_row

  -- a reader as it begins the read o
  abbrev pub begin_query : ℕ → Client
  begin_query o = client Querying o 0 initial_row

  -- the writer as it begins the write o: only a read has a best version
  abbrev pub begin_store : ℕ → Client
  begin_store o = client Storing o 0 initial_row

  -- an acknowledgement counts: once a quorum is heard, the operation is finished
  abbrev pub ack_heard : (ℕ → Bool) → Client → ℕ → Reaction
  ack_heard quorum c r =
      let h = with_member c.heard.members r in
      cond (quorum h) (Finished, fresh_client c.op) (Heard, client c.phase c.op h c.best)

  -- what a message comes to
  abbrev pub react : (ℕ → Bool) → List Entry → Client → Message S → Reaction
  react quorum book c (Query d o) = (Ignored, c)
  react quorum book c (Store d o v) = (Ignored, c)
  react quorum book c (Value r d o v) =
      cond (is_querying c.phase && (awaits c r o && genuine k book v)) (value_heard quorum c r (with_value k.encode v)) (Ignored, c)
  react quorum book c (Ack r d o) = cond (is_storing c.phase && awaits c r o) (ack_heard quorum c r) (Ignored, c)
