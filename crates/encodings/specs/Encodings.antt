-- The bytes that stand for a setting. Everything else speaks of them by these words alone, so that another
-- representation moves this file only. Assumes nothing.
use Rattle.std.specs.Prelude.{ℕ, Bool, List, [], replicate}
use Rattle.std.specs.Str.{bytes_eq}

-- an encoding as a table or a message holds it
abbrev pub Bytes : Type 0
Bytes = List ℕ

-- its bytes, first to last
abbrev pub octets : Bytes → List ℕ
octets e = e

-- the encoding with these bytes
abbrev pub pack : List ℕ → Bytes
pack bs = bs

-- whether two encodings agree in every byte
abbrev pub same_bytes : Bytes → Bytes → Bool
same_bytes a b = bytes_eq a b

-- what fills a place that holds no setting yet
abbrev pub no_bytes : Bytes
no_bytes = replicate 32 0

-- stands where a table has no row
abbrev pub absent : Bytes
absent = pack []
