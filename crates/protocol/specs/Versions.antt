-- Versions: settings with their timestamps and tags. Assumes nothing.
use Rattle.std.specs.Prelude.{◌≡◌, ℕ, Bool, ◌&&◌, ◌||◌, List, ◌==◌}
use Rattle.encodings.specs.Encodings.{same_bytes}
use Rattle.settings.specs.Kinds.{Kind}
use Rattle.signatures.specs.Books.{signed}
use Rattle.signatures.specs.declared.entry.Entry.{Entry}
use Rattle.protocol.specs.declared.version.Version.{Version}

-- the version of a timestamp, a value and a tag
abbrev pub version : {V : Type 0} → ℕ → V → ℕ → Version V
version t v g = record { timestamp = t; value = v; tag = g }

-- the version with another value in the place of its own
abbrev pub with_value : {A B : Type 0} → (A → B) → Version A → Version B
with_value f v = version v.timestamp (f v.value) v.tag

-- whether each result that a call may give, as `returns` tells, is what g gives
abbrev pub Computes : {A B : Type 0} → (A → B → Type 0) → (A → B) → Type 0
Computes {A} {B} returns g = (x : A) (y : B) → returns x y → y ≡ g x

module _ {S : Type 0} (k : Kind S) where
  -- what holds before any write
  abbrev pub initial_version : Version S
  initial_version = version 0 k.initial 0

  -- the version is the initial one, or the book has it
  abbrev pub genuine : List Entry → Version S → Bool
  genuine book v =
      (v.timestamp == 0 && (v.tag == 0 && same_bytes (k.encode v.value) (k.encode k.initial)))
      || signed book v.timestamp (k.encode v.value) v.tag
