-- What the schemes keep of their books besides the entries. Assumes nothing.
use Rattle.std.specs.Prelude.{ℕ, ◌+◌, Bool, true, ◌&&◌, List, [], ◌∷◌, ◌==◌, nat_lt}
use Rattle.encodings.specs.Encodings.{no_bytes}
use Rattle.signatures.specs.Books.{entry}
use Rattle.signatures.specs.declared.entry.Entry.{Entry}

-- stands in a slot that holds no entry yet, and where a book has no such place
abbrev pub no_entry : Entry
no_entry = entry 0 no_bytes 0

-- whether each timestamp is above the one before it, and the first above `floor`
abbrev pub rises : ℕ → List Entry → Bool
rises floor [] = true
rises floor (e ∷ es) = nat_lt floor e.timestamp && rises e.timestamp es

-- whether each tag is the entry's place, where the first place is `start`
abbrev pub counts : ℕ → List Entry → Bool
counts start [] = true
counts start (e ∷ es) = e.tag == start && counts (start + 1) es
