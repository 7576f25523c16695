-- Lens corrections as a kind of setting. Assumes nothing.
use Rattle.std.specs.Prelude.{◌≡◌, ℕ, Bool, true, false, cond, List, Result, Ok, Err, pos, refl}
use Rattle.std.proofs.lemmas.Bool.{and_parts}
use Rattle.encodings.specs.Encodings.{octets, pack}
use Rattle.settings.specs.Kinds.{Kind}
use Rattle.settings.specs.Lens.{in_bounds, fields_at, fields_bytes, is_bytes, is_lens}
use Rattle.settings.specs.declared.lens_correction.fields.LensFields.{LensFields}
use Rattle.settings.specs.declared.lens_correction.LensCorrection.{LensCorrection}
use Rattle.settings.specs.declared.lens_correction.error.OutOfBounds.{OutOfBounds}

-- all zero
abbrev pub no_fields : LensFields
no_fields = record { band = 0; k1 = pos 0; k2 = pos 0; k3 = pos 0; p1 = pos 0; p2 = pos 0; centre_x = pos 0; centre_y = pos 0 }

-- the correction that changes nothing
abbrev pub identity : LensCorrection
identity = record { fields = no_fields; bounded = refl }

-- the fields with these bytes, or all zero where they are no encoding
abbrev pub decoded_fields : List ℕ → LensFields
decoded_fields bs = cond (is_lens bs) (fields_at bs) no_fields

-- those fields lie within their bounds
abbrev pub decoded_bounded : (bs : List ℕ) (b : Bool) → is_lens bs ≡ b → in_bounds (cond b (fields_at bs) no_fields) ≡ true
decoded_bounded bs true e = (and_parts (is_bytes bs) (in_bounds (fields_at bs)) e).1
decoded_bounded bs false e = refl

-- the correction with these bytes, or the identity where they are no encoding
abbrev pub lens_of : List ℕ → LensCorrection
lens_of bs = record { fields = decoded_fields bs; bounded = decoded_bounded bs (is_lens bs) refl }

-- the correction with these fields, or an error where one lies outside its bounds
abbrev pub GivesCorrection : LensFields → Result LensCorrection OutOfBounds → Type 0
GivesCorrection f (Ok l) = (in_bounds f ≡ true) × (l.fields ≡ f)
GivesCorrection f (Err _) = in_bounds f ≡ false

-- lens corrections as a kind of setting
abbrev pub lens_kind : Kind LensCorrection
lens_kind = record {
  initial = identity;
  encode = λ l. pack (fields_bytes l.fields);
  is_encoding = λ b. is_lens (octets b);
  decode = λ b. lens_of (octets b);
}
