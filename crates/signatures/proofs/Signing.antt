-- What the shared decision tells of a book. Assumes nothing.
use Rattle.std.proofs.Common.{◌≡◌, ℕ, ◌<◌, Bool, true, ◌&&◌, ltb, List}
use Rattle.std.proofs.lemmas.Bool.{ltb-true, and_parts}
use Rattle.signatures.specs.Books.{newest, can_sign}
use Rattle.signatures.specs.declared.entry.Entry.{Entry}

pub decided : (b : List Entry) (free t latest room : ℕ) (r : Bool) → latest ≡ newest b → room ≡ free → r ≡ (ltb latest t && ltb 0 room) → can_sign b free t ≡ r
unfolding can_sign
decided b free t latest room r p q e = cc

-- where it can be signed, the timestamp is newer and a slot is free
pub signable : (b : List Entry) (free t : ℕ) → can_sign b free t ≡ true → (newest b < t) × (0 < free)
unfolding can_sign
signable b free t h = let p = and_parts (ltb (newest b) t) (ltb 0 free) h in (ltb-true (newest b) t p.0, ltb-true 0 free p.1)
