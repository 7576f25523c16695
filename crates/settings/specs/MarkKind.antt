-- Shelf marks as a kind of setting. Assumes nothing.
use Rattle.std.specs.Prelude.{◌≡◌, ℕ, Bool, true, false, cond, List, [], ◌∷◌, Result, Ok, Err, refl}
use Rattle.encodings.specs.Encodings.{octets, pack}
use Rattle.settings.specs.Kinds.{Kind}
use Rattle.settings.specs.Marks.{is_text, text_of, pad, is_mark}
use Rattle.settings.specs.declared.shelf_mark.ShelfMark.{ShelfMark}
use Rattle.settings.specs.declared.shelf_mark.error.NoShelfMark.{NoShelfMark}

-- the bytes of the mark "-"
abbrev pub dash_bytes : List ℕ
dash_bytes = pad (0x2D ∷ [])

-- the mark "-"
abbrev pub dash : ShelfMark
dash = record { bytes = dash_bytes; marked = refl }

-- these bytes, or those of "-" where they are no encoding
abbrev pub decoded_bytes : List ℕ → List ℕ
decoded_bytes bs = cond (is_mark bs) bs dash_bytes

-- those are the bytes of a mark
abbrev pub decoded_marked : (bs : List ℕ) (b : Bool) → is_mark bs ≡ b → is_mark (cond b bs dash_bytes) ≡ true
decoded_marked bs true e = e
decoded_marked bs false e = refl

-- the mark with these bytes, or "-" where they are no encoding
abbrev pub mark_of : List ℕ → ShelfMark
mark_of bs = record { bytes = decoded_bytes bs; marked = decoded_marked bs (is_mark bs) refl }

-- the mark with this text, or an error where the text is not 1 to 32 visible characters
abbrev pub GivesMark : List ℕ → Result ShelfMark NoShelfMark → Type 0
GivesMark t (Ok m) = (is_text t ≡ true) × (text_of m.bytes ≡ t)
GivesMark t (Err _) = is_text t ≡ false

-- shelf marks as a kind of setting
abbrev pub mark_kind : Kind ShelfMark
mark_kind = record {
  initial = dash;
  encode = λ m. pack m.bytes;
  is_encoding = λ b. is_mark (octets b);
  decode = λ b. mark_of (octets b);
}
