-- What a kind of setting is, and its laws. Assumes nothing.
use Rattle.std.specs.Prelude.{◌≡◌, Bool, true, false, length}
use Rattle.encodings.specs.Encodings.{Bytes, octets}

-- a kind of setting whose values are of type S
pub record Kind (S : Type 0) : Type 0 where
  -- the setting that holds before any was written
  pub initial : S
  -- the bytes of a setting
  pub encode : S → Bytes
  -- whether bytes are the encoding of a setting
  pub is_encoding : Bytes → Bool
  -- the setting with these bytes
  pub decode : Bytes → S

-- what every kind keeps
pub record KindLaws {S : Type 0} (k : Kind S) : Type 0 where
  -- an encoding has 32 bytes
  pub wide : (s : S) → length (octets (k.encode s)) ≡ 32
  -- it passes the test
  pub passes : (s : S) → k.is_encoding (k.encode s) ≡ true
  -- and is decoded to its setting
  pub back : (s : S) → k.decode (k.encode s) ≡ s
  -- bytes that pass are the encoding of what they are decoded to
  pub forth : (b : Bytes) → k.is_encoding b ≡ true → k.encode (k.decode b) ≡ b
  -- bytes that don't pass are decoded to the initial setting
  pub other : (b : Bytes) → k.is_encoding b ≡ false → k.decode b ≡ k.initial
