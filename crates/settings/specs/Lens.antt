-- The fields of a lens correction, their bounds and their bytes. Assumes nothing.
use Rattle.std.specs.Prelude.{ℕ, Bool, ◌&&◌, List, [], ◌∷◌, length, ℤ, ◌==◌, nat_le, unsigned_abs}
use Rattle.std.specs.Int.{w32}
use Rattle.std.proofs.Common.{of_z}
use Rattle.settings.specs.Words.{unsigned_at, signed_at, encode_words, all_bytes}
use Rattle.settings.specs.declared.lens_correction.fields.LensFields.{LensFields}

-- from minus one to one, in billionths
abbrev pub is_coefficient : ℤ → Bool
is_coefficient x = nat_le (unsigned_abs x) 1000000000

-- from minus 100,000 pixels to 100,000 pixels, in thousandths
abbrev pub is_offset : ℤ → Bool
is_offset x = nat_le (unsigned_abs x) 100000000

-- whether the radial coefficients lie within their bounds
abbrev pub radial_fits : LensFields → Bool
radial_fits f = is_coefficient f.k1 && (is_coefficient f.k2 && is_coefficient f.k3)

-- whether the tangential coefficients lie within their bounds
abbrev pub tangential_fits : LensFields → Bool
tangential_fits f = is_coefficient f.p1 && is_coefficient f.p2

-- whether the centre's offsets lie within their bounds
abbrev pub centre_fits : LensFields → Bool
centre_fits f = is_offset f.centre_x && is_offset f.centre_y

-- whether every field lies within its bounds
abbrev pub in_bounds : LensFields → Bool
in_bounds f = nat_le f.band 63 && (radial_fits f && (tangential_fits f && centre_fits f))

-- the fields that 32 bytes stand for
abbrev pub fields_at : List ℕ → LensFields
fields_at bs = record {
  band = unsigned_at bs 0;
  k1 = signed_at bs 1;
  k2 = signed_at bs 2;
  k3 = signed_at bs 3;
  p1 = signed_at bs 4;
  p2 = signed_at bs 5;
  centre_x = signed_at bs 6;
  centre_y = signed_at bs 7;
}

-- the words of the fields, in their order
abbrev pub field_words : LensFields → List ℕ
field_words f = f.band ∷ of_z w32 f.k1 ∷ of_z w32 f.k2 ∷ of_z w32 f.k3 ∷ of_z w32 f.p1 ∷ of_z w32 f.p2 ∷ of_z w32 f.centre_x ∷ of_z w32 f.centre_y ∷ []

-- the bytes of the fields
abbrev pub fields_bytes : LensFields → List ℕ
fields_bytes f = encode_words (field_words f)

-- whether these are 32 bytes
abbrev pub is_bytes : List ℕ → Bool
is_bytes bs = length bs == 32 && all_bytes bs

-- whether these are 32 bytes that stand for fields within their bounds
abbrev pub is_lens : List ℕ → Bool
is_lens bs = is_bytes bs && in_bounds (fields_at bs)
