-- What is genuine beside a book that grows. Assumes nothing.
use Rattle.std.proofs.Common.{◌≡◌, ℕ, ◌<◌, Bool, true, ◌&&◌, eqb, ◌⊎◌, List, [], ◌∷◌, ◌++◌, refl, inl, inr, ⊎_elim, arith}
use Rattle.std.proofs.lemmas.Bool.{and_parts, and_from, or_cases, or_left, or_right, eqb-true, eq-eqb, false≢true}
use Rattle.encodings.specs.Encodings.{Bytes, same_bytes}
use Rattle.encodings.proofs.Packs.{same_decides}
use Rattle.settings.specs.Kinds.{Kind}
use Rattle.signatures.specs.Books.{entry, signed, newest}
use Rattle.signatures.specs.declared.entry.Entry.{Entry}
use Rattle.protocol.specs.Versions.{version}
use Rattle.protocol.specs.Clients.{initial_row}
use Rattle.protocol.specs.declared.version.Version.{Version}
use Rattle.atomicity.proofs.Moves.{genuine_row}

-- whether an entry says just this
abbrev says : Entry → ℕ → Bytes → ℕ → Bool
says e t b g = eqb e.timestamp t && (same_bytes e.encoding b && eqb e.tag g)

module _ (t : ℕ) (b : Bytes) (g : ℕ) where
  signed_grow : (book : List Entry) (e : Entry) → signed book t b g ≡ true → signed (book ++ (e ∷ [])) t b g ≡ true
  signed_grow [] e h = absurd (false≢true h)
  signed_grow (x ∷ book) e h = ⊎_elim (λ l. or_left _ _ l) (λ l. or_right (says x t b g) _ (signed_grow book e l)) (or_cases (says x t b g) _ h)

  signed_new : (book : List Entry) → signed (book ++ (entry t b g ∷ [])) t b g ≡ true
  signed_new [] = or_left _ _ (and_from _ _ (eq-eqb t t refl) (and_from _ _ ((same_decides b b).1 refl) (eq-eqb g g refl)))
  signed_new (x ∷ book) = or_right (says x t b g) _ (signed_new book)

  signed_cases : (book : List Entry) (e : Entry) → signed (book ++ (e ∷ [])) t b g ≡ true → (signed book t b g ≡ true) ⊎ (says e t b g ≡ true)
  signed_cases [] e h = ⊎_elim (λ l. inr l) (λ l. absurd (false≢true l)) (or_cases (says e t b g) _ h)
  signed_cases (x ∷ book) e h = ⊎_elim (λ l. inl (or_left _ _ l)) (λ l. ⊎_elim (λ m. inl (or_right (says x t b g) _ m)) (λ m. inr m) (signed_cases book e l)) (or_cases (says x t b g) _ h)

module _ {S : Type 0} (k : Kind S) where
  abbrev first : Version Bytes → Bool
  first v = eqb v.timestamp 0 && (eqb v.tag 0 && same_bytes v.value (k.encode k.initial))

  pub genuine_bottom : (book : List Entry) → genuine_row k book (initial_row k) ≡ true
  genuine_bottom book = or_left _ _ ((same_decides (k.encode k.initial) (k.encode k.initial)).1 refl)

  pub genuine_grow : (book : List Entry) (e : Entry) (v : Version Bytes) → genuine_row k book v ≡ true → genuine_row k (book ++ (e ∷ [])) v ≡ true
  genuine_grow book e v h = ⊎_elim (λ l. or_left _ _ l) (λ l. or_right (first v) _ (signed_grow v.timestamp v.value v.tag book e l)) (or_cases (first v) _ h)

  pub genuine_new : (book : List Entry) (t : ℕ) (b : Bytes) (g : ℕ) → genuine_row k (book ++ (entry t b g ∷ [])) (version t b g) ≡ true
  genuine_new book t b g = or_right (first (version t b g)) _ (signed_new t b g book)

  pub genuine_cases : (book : List Entry) (t : ℕ) (b : Bytes) (g : ℕ) (v : Version Bytes) → genuine_row k (book ++ (entry t b g ∷ [])) v ≡ true
      → (genuine_row k book v ≡ true) ⊎ ((t ≡ v.timestamp) × (b ≡ v.value))
  genuine_cases book t b g v h = ⊎_elim (λ l. inl (or_left _ _ l))
      (λ l. ⊎_elim (λ m. inl (or_right (first v) _ m))
      (λ m. let p = and_parts (eqb t v.timestamp) _ m in inr (eqb-true _ _ p.0, (same_decides b v.value).0 (and_parts (same_bytes b v.value) _ p.1).0))
      (signed_cases v.timestamp v.value v.tag book (entry t b g) l))
      (or_cases (first v) _ h)

  pub genuine_none : (v : Version Bytes) → genuine_row k [] v ≡ true → (v.timestamp ≡ 0) × (v.value ≡ k.encode k.initial)
  genuine_none v h = ⊎_elim
      (λ l. let p = and_parts (eqb v.timestamp 0) _ l in (eqb-true _ _ p.0, (same_decides v.value (k.encode k.initial)).0 (and_parts (eqb v.tag 0) _ p.1).1))
      (λ l. absurd (false≢true l)) (or_cases (first v) _ h)

pub newest_new : (book : List Entry) (t : ℕ) (b : Bytes) (g : ℕ) → newest book < t → newest (book ++ (entry t b g ∷ [])) ≡ t
newest_new [] t b g h = omega arith
newest_new (x ∷ book) t b g h = let k = newest_new book t b g (omega arith) in omega arith
