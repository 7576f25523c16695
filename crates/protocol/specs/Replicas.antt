-- What a replica does with a message. Assumes nothing.
use Rattle.std.specs.Prelude.{ℕ, cond, List, Some, None, Option, nat_lt}
use Rattle.encodings.specs.Encodings.{Bytes}
use Rattle.settings.specs.Kinds.{Kind}
use Rattle.signatures.specs.declared.entry.Entry.{Entry}
use Rattle.protocol.specs.Versions.{genuine, with_value}
use Rattle.protocol.specs.declared.version.Version.{Version}
use Rattle.protocol.specs.declared.message.Message.{Message}
use Rattle.protocol.specs.declared.message.Message.TheVariants.{Query, Store, Value, Ack}

-- the version of the greater timestamp; of equals the first
abbrev pub newer : {V : Type 0} → Version V → Version V → Version V
newer kept other = cond (nat_lt kept.timestamp other.timestamp) other kept

module _ {S : Type 0} (k : Kind S) (book : List Entry) where
  -- what the replica r answers that keeps a row
  abbrev pub answer : ℕ → Version Bytes → Message S → Option (Message S)
  answer r kept (Query c o) = Some (Value r c o (with_value k.decode kept))
  answer r kept (Store c o v) = cond (genuine k book v) (Some (Ack r c o)) None
  answer r kept (Value s c o v) = None
  answer r kept (Ack s c o) = None

  -- the row that it keeps then
  abbrev pub keep : Version Bytes → Message S → Version Bytes
  keep kept (Query c o) = kept
  keep kept (Store c o v) = cond (genuine k book v) (newer kept (with_value k.encode v)) kept
  keep kept (Value r c o v) = kept
  keep kept (Ack r c o) = kept
