-- What a cluster and its tables hold. Assumes nothing.
use Rattle.std.specs.Prelude.{◌≡◌, ℕ, Bool, ◌&&◌, List, length, take, Result, MatchResult, ◌==◌}
use Rattle.encodings.specs.Encodings.{Bytes}
use Rattle.quorums.specs.Systems.{Quorums}
use Rattle.signatures.specs.declared.entry.Entry.{Entry}
use Rattle.protocol.specs.declared.version.Version.{Version}
use Rattle.protocol.specs.declared.message.Message.{Message}
use Rattle.protocol.specs.declared.client.Client.{Client}
use Rattle.cluster.specs.declared.cluster.Cluster.{Cluster}
use Rattle.cluster.specs.declared.refusal.Refusal.{Refusal}
use Rattle.cluster.specs.declared.tables.Tables.{Tables}
use Rattle.cluster.specs.declared.tables.TableSizes.{TableSizes}
use Rattle.cluster.specs.declared.reader.Reader.{Reader}
use Rattle.cluster.specs.declared.journal.Line.{Line}

-- what no call changes
pub record Fixed : Type 0 where
  pub quorums : Quorums
  -- the faulty replicas
  pub faulty : ℕ
  pub shut : Bool
  -- whether the tables have the sizes that the cluster was made with
  pub sized : Bool
  pub message_places : ℕ
  pub line_places : ℕ

-- the whole state: of the messages in flight and of the journal only the rows in use
pub record State : Type 0 where
  pub fixed : Fixed
  -- the book of the signature scheme, and its free slots
  pub book : List Entry
  pub free : ℕ
  pub writer : Client
  -- the version that each replica keeps
  pub replicas : List (Version Bytes)
  pub readers : List Reader
  pub messages : List (Message Bytes)
  pub lines : List Line

-- how many rows the four tables have
abbrev pub sizes_of : Tables → TableSizes
sizes_of t = record { replicas = length t.replicas.now; readers = length t.readers.now; messages = length t.messages.now; lines = length t.lines.now }

module _ {S P K : Type 0} (quorums : P → Quorums) where
  -- whether the tables have the sizes that the cluster was made with
  abbrev pub sizes_kept : Cluster S P K → TableSizes → Bool
  sizes_kept c t =
      (t.replicas == (quorums c.system).size) && (t.readers == c.reader_places && (t.messages == c.messages.places && t.lines == c.lines.places))

  -- the tables have the sizes that the cluster was made with
  pub record Sized (c : Cluster S P K) (t : TableSizes) : Type 0 where
    pub replicas_are : t.replicas ≡ (quorums c.system).size
    pub readers_are : t.readers ≡ c.reader_places
    pub messages_are : t.messages ≡ c.messages.places
    pub lines_are : t.lines ≡ c.lines.places

  -- what no call changes, of a cluster and tables of these sizes
  abbrev pub fixed_part : Cluster S P K → TableSizes → Fixed
  fixed_part c t = record {
    quorums = quorums c.system;
    faulty = c.faulty.members;
    shut = c.shut;
    sized = sizes_kept c t;
    message_places = c.messages.places;
    line_places = c.lines.places;
  }

module _ {S P K : Type 0} (quorums : P → Quorums) (book : K → List Entry) (free : K → ℕ) where
  -- the state that a cluster and four tables are in
  abbrev pub state : Cluster S P K → Tables → State
  state c t = record {
    fixed = fixed_part quorums c (sizes_of t);
    book = book c.signatures;
    free = free c.signatures;
    writer = c.writer;
    replicas = t.replicas.now;
    readers = t.readers.now;
    messages = take c.messages.used t.messages.now;
    lines = take c.lines.used t.lines.now;
  }

-- what an accepted call leaves of the cluster itself as it was
pub record Kept {S P K : Type 0} (c d : Cluster S P K) : Type 0 where
  pub system : d.system ≡ c.system
  pub faulty : d.faulty ≡ c.faulty
  pub shut : d.shut ≡ c.shut
  pub reader_places : d.reader_places ≡ c.reader_places
  pub message_places : d.messages.places ≡ c.messages.places
  pub line_places : d.lines.places ≡ c.lines.places

-- a refused call leaves the cluster and the four whole tables as they were
pub record Unchanged {C : Type 0} (c c' : C) (t t' : Tables) : Type 0 where
  pub cluster : c' ≡ c
  pub tables : t' ≡ t

-- what a call leaves as it was: if it is accepted, what no call changes, and the scheme, which only a write uses; if it is refused, all
abbrev pub Stays : {A S P K : Type 0} → Result A Refusal → Cluster S P K → Cluster S P K → Tables → Tables → Type 0
Stays r c c' t t' = MatchResult r (λ _. Kept c c' × (c'.signatures ≡ c.signatures)) (λ _. Unchanged c c' t t')

-- the four tables are those that were handed in, each as long as it was, whatever they hold; a clause of its own in each contract, since it holds of
-- refused calls too
pub record SameTables (t t' : Tables) : Type 0 where
  pub replicas : t'.replicas.ghost_name ≡ t.replicas.ghost_name
  pub readers : t'.readers.ghost_name ≡ t.readers.ghost_name
  pub messages : t'.messages.ghost_name ≡ t.messages.ghost_name
  pub lines : t'.lines.ghost_name ≡ t.lines.ghost_name
  pub replica_rows : length t'.replicas.now ≡ length t.replicas.now
  pub reader_rows : length t'.readers.now ≡ length t.readers.now
  pub message_rows : length t'.messages.now ≡ length t.messages.now
  pub line_rows : length t'.lines.now ≡ length t.lines.now
