-- The bytes of a shelf mark. Assumes nothing.
use Rattle.std.specs.Prelude.{ℕ, Bool, ◌&&◌, List, ◌++◌, length, take, drop, replicate, ◌==◌, nat_le}
use Rattle.std.specs.List.{list_all, position_or_len}
use Rattle.encodings.specs.Encodings.{same_bytes}

-- a visible character of ASCII
abbrev pub visible : ℕ → Bool
visible b = nat_le 0x21 b && nat_le b 0x7E

-- visible characters only
abbrev pub all_visible : List ℕ → Bool
all_visible bs = list_all visible bs

-- 1 to 32 visible characters
abbrev pub is_text : List ℕ → Bool
is_text t = nat_le 1 (length t) && (nat_le (length t) 32 && all_visible t)

-- how many bytes stand before the first zero
abbrev pub text_length : List ℕ → ℕ
text_length bs = position_or_len (λ b. b == 0) bs

-- the bytes before the first zero
abbrev pub text_of : List ℕ → List ℕ
text_of bs = take (text_length bs) bs

-- a text, and then zeros: what is left of 32
abbrev pub pad : List ℕ → List ℕ
pad t = t ++ drop (length t) (replicate 32 0)

-- whether the bytes before the first zero are 1 to 32 visible characters, and the others zeros up to 32 bytes
abbrev pub is_mark : List ℕ → Bool
is_mark bs = is_text (text_of bs) && same_bytes bs (pad (text_of bs))
