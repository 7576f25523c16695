-- The book of a signature scheme, and what signing and verifying mean. Assumes nothing.
use Rattle.std.specs.Prelude.{◌≡◌, ℕ, ◌+◌, max, Bool, true, false, ◌&&◌, ◌||◌, List, [], ◌∷◌, ◌++◌, Some, None, Option, ◌==◌, nat_lt}
use Rattle.encodings.specs.Encodings.{Bytes, same_bytes}
use Rattle.signatures.specs.declared.entry.Entry.{Entry}

-- an entry, from its parts
abbrev pub entry : ℕ → Bytes → ℕ → Entry
entry timestamp encoding tag = record { timestamp = timestamp; encoding = encoding; tag = tag }

-- whether the book has the entry
abbrev pub signed : List Entry → ℕ → Bytes → ℕ → Bool
signed [] t b g = false
signed (e ∷ es) t b g = (e.timestamp == t && (same_bytes e.encoding b && e.tag == g)) || signed es t b g

-- the greatest timestamp of the book, or 0
abbrev pub newest : List Entry → ℕ
newest [] = 0
newest (e ∷ es) = max e.timestamp (newest es)

-- whether a timestamp can be signed: it is above 0 and above every one in the book, and a slot is free
unfoldable pub can_sign : List Entry → ℕ → ℕ → Bool
can_sign book free timestamp = nat_lt (newest book) timestamp && nat_lt 0 free

-- what becomes of the book and of the free slots; the scheme chooses the tag
abbrev pub Signs : List Entry → ℕ → ℕ → Bytes → Option ℕ → List Entry → ℕ → Type 0
Signs book free timestamp encoding None book' free' = (can_sign book free timestamp ≡ false) × (book' ≡ book) × (free' ≡ free)
Signs book free timestamp encoding (Some tag) book' free' =
    (can_sign book free timestamp ≡ true) × (book' ≡ book ++ (entry timestamp encoding tag ∷ [])) × (free' + 1 ≡ free)
