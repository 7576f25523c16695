-- Lens corrections and their bytes. Assumes nothing.
use Rattle.std.specs.Prelude.{◌≡◌, ℕ, ◌<◌, Bool, true, false, ◌&&◌, List, [], ◌∷◌, length, ℤ, pos, negsuc, FitsSigned, ◌==◌, nat_le, slice_index, unsigned_abs, refl}
use Rattle.std.proofs.Common.{sym, ◌∙◌, ap, arith, leb-true, eqb-true, eq-eqb, to_z, of_z}
use mathlib.Core.HLevel.{is_prop→PathP}
use Rattle.std.proofs.Math.Bool.{Bool-set}
use Rattle.std.specs.Int.{w32}
use Rattle.std.proofs.lemmas.Int.{to_z-of_z, of_z-to_z}
use Rattle.std.proofs.lemmas.Bool.{and_parts, and_from, cond-true, cond-false}
use Rattle.settings.specs.Kinds.{KindLaws}
use Rattle.settings.specs.Words.{words, unsigned_at, signed_at, encode_words, all_bytes}
use Rattle.settings.specs.Lens.{is_coefficient, is_offset, radial_fits, tangential_fits, centre_fits, in_bounds, fields_at, field_words, fields_bytes, is_bytes, is_lens}
use Rattle.settings.specs.LensKind.{no_fields, identity, decoded_fields, lens_of, lens_kind}
use Rattle.settings.specs.declared.lens_correction.fields.LensFields.{LensFields}
use Rattle.settings.specs.declared.lens_correction.LensCorrection.{LensCorrection}
use Rattle.settings.specs.WordLaws.{all_bytes_encoded, all_bytes_fit, words_encoded, encoded_words, words_length, words_fit, eight}

-- corrections with equal fields are equal
pub lens_same : (a b : LensCorrection) → a.fields ≡ b.fields → a ≡ b
lens_same a b e = λ i. record { fields = e i; bounded = is_prop→PathP (λ j. in_bounds (e j) ≡ true) (λ j. Bool-set (in_bounds (e j)) true) a.bounded b.bounded i }

-- every field fits its word
pub record Fitting (f : LensFields) : Type 0 where
  pub band : f.band < 4294967296
  pub k1 : FitsSigned w32 f.k1
  pub k2 : FitsSigned w32 f.k2
  pub k3 : FitsSigned w32 f.k3
  pub p1 : FitsSigned w32 f.p1
  pub p2 : FitsSigned w32 f.p2
  pub across : FitsSigned w32 f.centre_x
  pub down : FitsSigned w32 f.centre_y

limit_fits : (limit : ℕ) (z : ℤ) → limit < 2147483648 → nat_le (unsigned_abs z) limit ≡ true → FitsSigned w32 z
limit_fits limit (pos n) h k = record { sfits = omega (arith, leb-true n limit k) }
limit_fits limit (negsuc n) h k = record { sfits = omega (arith, leb-true _ limit k) }

-- fields within their bounds fit
bounded_fits : (f : LensFields) → in_bounds f ≡ true → Fitting f
bounded_fits f h =
    let (band, h1) = and_parts (nat_le f.band 63) _ h in
    let (radial, h2) = and_parts (radial_fits f) _ h1 in
    let (tangential, centre) = and_parts (tangential_fits f) (centre_fits f) h2 in
    let (k1, h3) = and_parts (is_coefficient f.k1) _ radial in
    let (k2, k3) = and_parts (is_coefficient f.k2) (is_coefficient f.k3) h3 in
    let (p1, p2) = and_parts (is_coefficient f.p1) (is_coefficient f.p2) tangential in
    let (across, down) = and_parts (is_offset f.centre_x) (is_offset f.centre_y) centre in
    record {
      band = omega (arith, leb-true f.band 63 band);
      k1 = limit_fits 1000000000 f.k1 (omega arith) k1;
      k2 = limit_fits 1000000000 f.k2 (omega arith) k2;
      k3 = limit_fits 1000000000 f.k3 (omega arith) k3;
      p1 = limit_fits 1000000000 f.p1 (omega arith) p1;
      p2 = limit_fits 1000000000 f.p2 (omega arith) p2;
      across = limit_fits 100000000 f.centre_x (omega arith) across;
      down = limit_fits 100000000 f.centre_y (omega arith) down;
    }

of_z_fits : (z : ℤ) → FitsSigned w32 z → of_z w32 z < 4294967296
of_z_fits (pos n) f = omega (arith, f.sfits)
of_z_fits (negsuc n) f = omega (arith, f.sfits)

-- the words of the fields' bytes
words_back : (f : LensFields) → Fitting f → words (fields_bytes f) ≡ field_words f
words_back f b =
    words_encoded (field_words f) (b.band, (of_z_fits _ b.k1, (of_z_fits _ b.k2, (of_z_fits _ b.k3, (of_z_fits _ b.p1, (of_z_fits _ b.p2, (of_z_fits _ b.across, (of_z_fits _ b.down, tt))))))))

-- the signed field at a place of the fields' bytes
field_back : (f : LensFields) → Fitting f → (i : ℕ) (z : ℤ) → slice_index (field_words f) i ≡ of_z w32 z → FitsSigned w32 z → signed_at (fields_bytes f) i ≡ z
field_back f b i z e s = ap (λ (ws : List ℕ). to_z w32 (slice_index ws i)) (words_back f b) ∙ ap (to_z w32) e ∙ to_z-of_z w32 z s

-- fields are read back from their bytes
fields_back : (f : LensFields) → Fitting f → fields_at (fields_bytes f) ≡ f
fields_back f b = λ i. record {
  band = slice_index (words_back f b i) 0;
  k1 = field_back f b 1 f.k1 refl b.k1 i;
  k2 = field_back f b 2 f.k2 refl b.k2 i;
  k3 = field_back f b 3 f.k3 refl b.k3 i;
  p1 = field_back f b 4 f.p1 refl b.p1 i;
  p2 = field_back f b 5 f.p2 refl b.p2 i;
  centre_x = field_back f b 6 f.centre_x refl b.across i;
  centre_y = field_back f b 7 f.centre_y refl b.down i;
}

-- an array's test is that of its fields
pub array_lens : (bs : List ℕ) (t : Bool) → length bs ≡ 32 → ((i : ℕ) → slice_index bs i < 256) → t ≡ in_bounds (fields_at bs) → t ≡ is_lens bs
array_lens bs t e h k = k ∙ sym (ap (λ (b : Bool). b && in_bounds (fields_at bs)) (and_from (length bs == 32) _ (eq-eqb (length bs) 32 e) (all_bytes_fit bs h)))

-- the fields' bytes pass the test exactly where the fields lie within their bounds
pub bytes_pass : (f : LensFields) → Fitting f → is_lens (fields_bytes f) ≡ in_bounds f
bytes_pass f b = ap (λ (t : Bool). t && in_bounds (fields_at (fields_bytes f))) (all_bytes_encoded (field_words f)) ∙ ap in_bounds (fields_back f b)

-- bytes that pass are decoded to their fields
lens_fields : (bs : List ℕ) → is_lens bs ≡ true → decoded_fields bs ≡ fields_at bs
lens_fields bs h = cond-true (is_lens bs) (fields_at bs) no_fields h

-- bytes of fields that pass are decoded to those fields
pub bytes_back : (f : LensFields) → Fitting f → is_lens (fields_bytes f) ≡ true → (lens_of (fields_bytes f)).fields ≡ f
bytes_back f b h = lens_fields (fields_bytes f) h ∙ fields_back f b

lens_passes : (l : LensCorrection) → is_lens (fields_bytes l.fields) ≡ true
lens_passes l = bytes_pass l.fields (bounded_fits l.fields l.bounded) ∙ l.bounded

lens_back : (l : LensCorrection) → lens_of (fields_bytes l.fields) ≡ l
lens_back l = lens_same _ l (bytes_back l.fields (bounded_fits l.fields l.bounded) (lens_passes l))

lens_forth : (bs : List ℕ) → is_lens bs ≡ true → fields_bytes (lens_of bs).fields ≡ bs
lens_forth bs h =
    let (bytes, bounds) = and_parts (is_bytes bs) (in_bounds (fields_at bs)) h in
    let (long, small) = and_parts (length bs == 32) (all_bytes bs) bytes in
    let full : length bs ≡ 32 = eqb-true (length bs) 32 long in
    let back : (i : ℕ) → of_z w32 (signed_at bs i) ≡ unsigned_at bs i = λ i. of_z-to_z w32 (unsigned_at bs i) (words_fit bs i small) in
    let rows : field_words (fields_at bs)
    ≡ unsigned_at bs 0 ∷ unsigned_at bs 1 ∷ unsigned_at bs 2 ∷ unsigned_at bs 3 ∷ unsigned_at bs 4 ∷ unsigned_at bs 5 ∷ unsigned_at bs 6 ∷ unsigned_at bs 7 ∷ []
    = λ i. unsigned_at bs 0 ∷ back 1 i ∷ back 2 i ∷ back 3 i ∷ back 4 i ∷ back 5 i ∷ back 6 i ∷ back 7 i ∷ [] in
    ap fields_bytes (lens_fields bs h) ∙ ap encode_words (rows ∙ eight (words bs) (words_length 8 bs full)) ∙ encoded_words 8 bs full small

lens_other : (bs : List ℕ) → is_lens bs ≡ false → lens_of bs ≡ identity
lens_other bs h = lens_same _ _ (cond-false (is_lens bs) (fields_at bs) no_fields h)

pub lens_laws : KindLaws lens_kind
lens_laws = record { wide = λ l. refl; passes = lens_passes; back = lens_back; forth = lens_forth; other = lens_other }
