-- Two encodings are the same exactly where they agree in every byte. Assumes nothing.
use Rattle.std.proofs.Common.{◌≡◌, Decides}
use Rattle.std.proofs.lemmas.Slice.Eq.{bytes_eq-Decides}
use Rattle.encodings.specs.Encodings.{Bytes, same_bytes}

pub same_decides : (a b : Bytes) → Decides (same_bytes a b) (a ≡ b)
same_decides a b = bytes_eq-Decides a b
