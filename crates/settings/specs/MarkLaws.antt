-- Shelf marks and their bytes. Assumes nothing.
use Rattle.std.specs.Prelude.{◌≡◌, ℕ, zero, suc, ◌≤◌, true, false, List, [], ◌∷◌, ◌++◌, length, take, drop, replicate, ◌≢◌, nat_le, refl}
use Rattle.std.proofs.Common.{sym, ◌∙◌, ap, arith, length-append, length-drop, leb-true, ne_eqb}
use mathlib.Core.HLevel.{is_prop→PathP}
use Rattle.std.proofs.Math.Bool.{Bool-set}
use Rattle.std.proofs.Math.Seq.{take-append_seam}
use Rattle.std.proofs.lemmas.Bool.{and_parts, and_from, cond-true, cond-false}
use Rattle.encodings.specs.Encodings.{same_bytes}
use Rattle.encodings.proofs.Packs.{same_decides}
use Rattle.settings.specs.Kinds.{KindLaws}
use Rattle.settings.specs.Marks.{visible, all_visible, is_text, text_length, text_of, pad, is_mark}
use Rattle.settings.specs.MarkKind.{dash_bytes, dash, decoded_bytes, mark_of, mark_kind}
use Rattle.settings.specs.declared.shelf_mark.ShelfMark.{ShelfMark}

-- marks with equal bytes are equal
pub mark_same : (a b : ShelfMark) → a.bytes ≡ b.bytes → a ≡ b
mark_same a b e = λ i. record { bytes = e i; marked = is_prop→PathP (λ j. is_mark (e j) ≡ true) (λ j. Bool-set (is_mark (e j)) true) a.marked b.marked i }

-- bytes that pass are decoded to a mark with those bytes
mark_forth : (bs : List ℕ) → is_mark bs ≡ true → decoded_bytes bs ≡ bs
mark_forth bs h = cond-true (is_mark bs) bs dash_bytes h

mark_other : (bs : List ℕ) → is_mark bs ≡ false → mark_of bs ≡ dash
mark_other bs h = mark_same _ _ (cond-false (is_mark bs) bs dash_bytes h)

mark_back : (m : ShelfMark) → mark_of m.bytes ≡ m
mark_back m = mark_same (mark_of m.bytes) m (mark_forth m.bytes m.marked)

-- zeros have no text
zeros_length : (k n : ℕ) → text_length (drop k (replicate n 0)) ≡ 0
zeros_length zero zero = refl
zeros_length zero (suc n) = refl
zeros_length (suc k) zero = refl
zeros_length (suc k) (suc n) = zeros_length k n

visible_not_zero : (b : ℕ) → visible b ≡ true → b ≢ 0
visible_not_zero b h e = omega (arith, leb-true 0x21 b (and_parts (nat_le 0x21 b) (nat_le b 0x7E) h).0)

-- the text of visible characters and zeros
padded_length : (t z : List ℕ) → all_visible t ≡ true → text_length z ≡ 0 → text_length (t ++ z) ≡ length t
padded_length [] z h e = e
padded_length (b ∷ t) z h e =
    let (v, vs) = and_parts (visible b) (all_visible t) h in
    let seen = ne_eqb b 0 (visible_not_zero b v) in
    let rest = padded_length t z vs e in
    simp seen (omega (arith, rest))

-- what a text's test says of it
text_parts : (t : List ℕ) → is_text t ≡ true → (length t ≤ 32) × (all_visible t ≡ true)
text_parts t h =
    let (some, rest) = and_parts (nat_le 1 (length t)) _ h in
    let (few, seen) = and_parts (nat_le (length t) 32) (all_visible t) rest in
    (leb-true (length t) 32 few, seen)

-- the text of a padded text
pub text_pad : (t : List ℕ) → is_text t ≡ true → text_of (pad t) ≡ t
text_pad t h =
    let z = drop (length t) (replicate 32 0) in
    ap (λ n. take n (pad t)) (padded_length t z (text_parts t h).1 (zeros_length (length t) 32)) ∙ take-append_seam t z

-- a padded text is a mark
pub pad_mark : (t : List ℕ) → is_text t ≡ true → is_mark (pad t) ≡ true
pad_mark t h =
    let e = text_pad t h in
    and_from (is_text (text_of (pad t))) _ (ap is_text e ∙ h) ((same_decides (pad t) (pad (text_of (pad t)))).1 (ap pad (sym e)))

pad_length : (t : List ℕ) → length t ≤ 32 → length (pad t) ≡ 32
pad_length t h = simp (length-append, length-drop) (omega arith)

mark_wide : (m : ShelfMark) → length m.bytes ≡ 32
mark_wide m =
    let (text, zeros) = and_parts (is_text (text_of m.bytes)) (same_bytes m.bytes (pad (text_of m.bytes))) m.marked in
    ap length ((same_decides m.bytes (pad (text_of m.bytes))).0 zeros) ∙ pad_length (text_of m.bytes) (text_parts (text_of m.bytes) text).0

pub mark_laws : KindLaws mark_kind
mark_laws = record { wide = mark_wide; passes = λ m. m.marked; back = mark_back; forth = mark_forth; other = mark_other }

-- a padded text is decoded to a mark with that text
pub text_back : (t : List ℕ) → is_text t ≡ true → text_of (mark_of (pad t)).bytes ≡ t
text_back t h = ap text_of (mark_forth (pad t) (pad_mark t h)) ∙ text_pad t h
