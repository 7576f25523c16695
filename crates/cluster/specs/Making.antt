-- A cluster as it is made. Assumes nothing.
use Rattle.std.specs.Prelude.{ℕ, Bool, true, false, not, ◌&&◌, List, [], ◌∷◌, length, replicate, Some, None, Option, ◌==◌, nat_le}
use Rattle.encodings.specs.Encodings.{Bytes}
use Rattle.settings.specs.Kinds.{Kind}
use Rattle.quorums.specs.Systems.{Quorums}
use Rattle.signatures.specs.declared.entry.Entry.{Entry}
use Rattle.protocol.specs.Clients.{fresh_client, initial_row}
use Rattle.protocol.specs.declared.version.Version.{Version}
use Rattle.cluster.specs.Refusals.{first_refusal}
use Rattle.cluster.specs.State.{State}
use Rattle.cluster.specs.declared.reader.Reader.{Reader}
use Rattle.cluster.specs.declared.tables.TableSizes.{TableSizes}

-- whether tables of these sizes fit a system of n replicas and s readers
abbrev pub sizes_fit : ℕ → ℕ → TableSizes → Bool
sizes_fit n s t =
    (t.replicas == n) && (t.readers == s && ((nat_le 1 t.messages && nat_le t.messages 4096) && (nat_le 2 t.lines && nat_le t.lines 8192)))

-- why a cluster of s readers isn't made, if it isn't
abbrev pub making_refusal : Quorums → List Entry → ℕ → ℕ → TableSizes → Option ℕ
making_refusal q book faulty s t = first_refusal
    ((not (nat_le 1 s && nat_le s 8), 4)
    ∷ (not (sizes_fit q.size s t), 5)
    ∷ (not (q.fault faulty), 6)
    ∷ (not (length book == 0), 7)
    ∷ [])

module _ {S : Type 0} (k : Kind S) where
  -- a reader before its first read
  abbrev pub fresh_reader : Reader
  fresh_reader = record { client = fresh_client k 0; completed = None }

  -- the state of a cluster that was made: all parties fresh, and the lists empty
  abbrev pub open_state : Quorums → List Entry → ℕ → ℕ → ℕ → TableSizes → State
  open_state q book free faulty s t = record {
    fixed = record { quorums = q; faulty = faulty; shut = false; sized = true; message_places = t.messages; line_places = t.lines };
    book = book;
    free = free;
    writer = fresh_client k 0;
    replicas = replicate q.size (initial_row k);
    readers = replicate s fresh_reader;
    messages = [];
    lines = [];
  }

  -- the state of a cluster that was made in spite of a refusal: it is shut, keeps no size, and its tables hold what they held
  abbrev pub shut_state : Quorums → List Entry → ℕ → ℕ → List (Version Bytes) → List Reader → TableSizes → State
  shut_state q book free faulty replicas readers t = record {
    fixed = record {
      quorums = q;
      faulty = faulty;
      shut = true;
      sized = t.replicas == q.size && (t.readers == 0 && (t.messages == 0 && t.lines == 0));
      message_places = 0;
      line_places = 0;
    };
    book = book;
    free = free;
    writer = fresh_client k 0;
    replicas = replicas;
    readers = readers;
    messages = [];
    lines = [];
  }

  -- the state of a cluster as it is made, refused or not, with tables that held these rows
  abbrev pub made_by : Option ℕ → Quorums → List Entry → ℕ → ℕ → ℕ → List (Version Bytes) → List Reader → TableSizes → State
  made_by None q book free faulty s replicas readers t = open_state q book free faulty s t
  made_by (Some n) q book free faulty s replicas readers t = shut_state q book free faulty replicas readers t

  abbrev pub made_state : Quorums → List Entry → ℕ → ℕ → ℕ → List (Version Bytes) → List Reader → TableSizes → State
  made_state q book free faulty s replicas readers t = made_by (making_refusal q book faulty s t) q book free faulty s replicas readers t
