-- Rows of bytes as big-endian words of four bytes. Assumes nothing.
use Rattle.std.specs.Prelude.{ℕ, ◌+◌, ◌*◌, ◌/◌, ◌%◌, Bool, true, ◌&&◌, List, [], ◌∷◌, ◌++◌, ℤ, nat_lt, slice_index}
use Rattle.std.specs.Int.{w32}
use Rattle.std.proofs.Common.{to_z}

-- the word of four bytes, the first weighing most
abbrev pub word : ℕ → ℕ → ℕ → ℕ → ℕ
word a b c d = a * 16777216 + b * 65536 + c * 256 + d

-- the words that a row of bytes stands for
abbrev pub words : List ℕ → List ℕ
words [] = []
words (a ∷ []) = []
words (a ∷ b ∷ []) = []
words (a ∷ b ∷ c ∷ []) = []
words (a ∷ b ∷ c ∷ d ∷ bs) = word a b c d ∷ words bs

-- the word at a place
abbrev pub unsigned_at : List ℕ → ℕ → ℕ
unsigned_at bs place = slice_index (words bs) place

-- the word at a place, as two's complement
abbrev pub signed_at : List ℕ → ℕ → ℤ
signed_at bs place = to_z w32 (unsigned_at bs place)

-- the four bytes of a word
abbrev pub encode_word : ℕ → List ℕ
encode_word n = (n / 16777216 % 256) ∷ (n / 65536 % 256) ∷ (n / 256 % 256) ∷ (n % 256) ∷ []

-- the bytes of words, one after another
abbrev pub encode_words : List ℕ → List ℕ
encode_words [] = []
encode_words (w ∷ ws) = encode_word w ++ encode_words ws

-- whether each is a byte
abbrev pub all_bytes : List ℕ → Bool
all_bytes [] = true
all_bytes (b ∷ bs) = nat_lt b 256 && all_bytes bs
