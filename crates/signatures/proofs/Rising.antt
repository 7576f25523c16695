-- Books whose timestamps rise: the last entry is the newest, and one entry at most has a timestamp. Assumes nothing.
use Rattle.std.proofs.Common.{◌≡◌, ℕ, zero, suc, ◌+◌, ◌-◌, ◌<◌, ◌≤◌, true, false, ◌&&◌, ◌||◌, eqb, ltb, ◌≢◌, List, [], ◌∷◌, ◌++◌, length, get_or, take, drop, Option, Some, None, MatchOption, Bor, sym, refl, ap, ◌∙◌, ⊎_elim, le_of_suc-le-suc, not-suc-le-zero, arith}
use Rattle.std.specs.List.{slice_get}
use Rattle.std.specs.Option.{option_copied}
use Rattle.std.proofs.lemmas.Option.{slice_get-get_or}
use Rattle.std.proofs.lemmas.Bool.{ltb-true, lt-ltb, eqb-true, eq-eqb, ne_eqb, and_parts, and_from, and_right, or_parts, or_from, cases_lt}
use Rattle.encodings.specs.Encodings.{Bytes, same_bytes}
use Rattle.signatures.specs.Books.{signed, newest}
use Rattle.signatures.specs.Orders.{no_entry, rises, counts}
use Rattle.signatures.specs.declared.entry.Entry.{Entry}

-- the first entry of a rising book is above the floor, and the others rise from it
parts : (floor : ℕ) (e : Entry) (es : List Entry) → rises floor (e ∷ es) ≡ true → (floor < e.timestamp) × (rises e.timestamp es ≡ true)
parts floor e es h = let p = and_parts (ltb floor e.timestamp) (rises e.timestamp es) h in (ltb-true floor e.timestamp p.0, p.1)

above_floor : (floor : ℕ) (b : List Entry) (k : ℕ) → rises floor b ≡ true → k < length b → floor < (get_or b k no_entry).timestamp
above_floor floor [] k h l = absurd (not-suc-le-zero l)
above_floor floor (e ∷ es) zero h l = (parts floor e es h).0
above_floor floor (e ∷ es) (suc k) h l =
    let p = parts floor e es h in
    let more = above_floor e.timestamp es k p.1 (le_of_suc-le-suc l) in
    omega (arith, p.0)

-- a later place has a greater timestamp
pub rises_between : (floor : ℕ) (b : List Entry) (i j : ℕ) → rises floor b ≡ true → i < j → j < length b → (get_or b i no_entry).timestamp < (get_or b j no_entry).timestamp
rises_between floor [] i j h lt l = absurd (not-suc-le-zero l)
rises_between floor (e ∷ es) i zero h lt l = absurd (not-suc-le-zero lt)
rises_between floor (e ∷ es) zero (suc j) h lt l = above_floor e.timestamp es j (parts floor e es h).1 (le_of_suc-le-suc l)
rises_between floor (e ∷ es) (suc i) (suc j) h lt l = rises_between e.timestamp es i j (parts floor e es h).1 (le_of_suc-le-suc lt) (le_of_suc-le-suc l)

-- a place that is not earlier has no smaller timestamp
pub rises_from : (floor : ℕ) (b : List Entry) (i j : ℕ) → rises floor b ≡ true → i ≤ j → j < length b → (get_or b i no_entry).timestamp ≤ (get_or b j no_entry).timestamp
rises_from floor b i j h le l =
    ⊎_elim
    (λ (lt : i < j). let p = rises_between floor b i j h lt l in omega arith)
    (λ (ge : j ≤ i). let is : i ≡ j = omega arith in rw is (omega arith))
    (cases_lt i j)

last_place : (floor : ℕ) (e : Entry) (es : List Entry) → rises floor (e ∷ es) ≡ true → newest (e ∷ es) ≡ (get_or (e ∷ es) (length es) no_entry).timestamp
last_place floor e [] h = omega arith
last_place floor e (f ∷ es) h =
    let p = (parts floor e (f ∷ es) h).1 in
    let q = (parts e.timestamp f es p).0 in
    let last = last_place e.timestamp f es p in
    (omega (arith, q)) ∙ last

-- the last entry is the newest
pub newest_last : (floor : ℕ) (b : List Entry) → rises floor b ≡ true → newest b ≡ (get_or b (length b - 1) no_entry).timestamp
newest_last floor [] h = refl
newest_last floor (e ∷ es) h = last_place floor e es h ∙ ap (λ n. (get_or (e ∷ es) n no_entry).timestamp) (omega arith)

-- what the library gives as the last entry is the newest
pub last_is_newest : (floor : ℕ) (b : List Entry) (last : Option (Bor Entry)) (n : ℕ) → rises floor b ≡ true → option_copied last ≡ slice_get b (length b - 1) → MatchOption last (n ≡ 0) (λ e. n ≡ e.now.timestamp) → n ≡ newest b
last_is_newest floor [] None n h is m = m
last_is_newest floor [] (Some e) n h is m = absurd (let z : ◌≡◌ {A = Option Entry} (Some e.now) None = is in cc)
last_is_newest floor (e ∷ es) None n h is m = absurd (let z : ◌≡◌ {A = Option Entry} None _ = is ∙ slice_get-get_or (e ∷ es) _ no_entry (omega arith) in cc)
last_is_newest floor (e ∷ es) (Some f) n h is m =
    let z : ◌≡◌ {A = Option Entry} (Some f.now) _ = is ∙ slice_get-get_or (e ∷ es) _ no_entry (omega arith) in
    let same : f.now ≡ get_or (e ∷ es) (length (e ∷ es) - 1) no_entry = cc in
    m ∙ ap (λ (x : Entry). x.timestamp) same ∙ sym (newest_last floor (e ∷ es) h)

-- a newer entry at the end keeps it rising
pub rises_push : (floor : ℕ) (b : List Entry) (e : Entry) → rises floor b ≡ true → floor < e.timestamp → newest b < e.timestamp → rises floor (b ++ (e ∷ [])) ≡ true
rises_push floor [] e h l n = and_from _ _ (lt-ltb floor e.timestamp l) refl
rises_push floor (f ∷ b) e h l n =
    let p = and_parts (ltb floor f.timestamp) (rises f.timestamp b) h in
    and_from _ _ p.0 (rises_push f.timestamp b e p.1 (omega arith) (omega arith))

counts_at : (start : ℕ) (b : List Entry) (k : ℕ) → counts start b ≡ true → k < length b → (get_or b k no_entry).tag ≡ start + k
counts_at start [] k h l = absurd (not-suc-le-zero l)
counts_at start (e ∷ es) zero h l = let p : e.tag ≡ start = eqb-true e.tag start (and_parts (eqb e.tag start) _ h).0 in omega arith
counts_at start (e ∷ es) (suc k) h l = let p = counts_at (start + 1) es k (and_parts (eqb e.tag start) _ h).1 (le_of_suc-le-suc l) in omega arith

-- an entry at the end whose tag is its place keeps them counting
pub counts_push : (start : ℕ) (b : List Entry) (e : Entry) → counts start b ≡ true → e.tag ≡ start + length b → counts start (b ++ (e ∷ [])) ≡ true
counts_push start [] e h is = and_from _ _ (eq-eqb e.tag start (omega arith)) refl
counts_push start (f ∷ b) e h is = let p = and_parts (eqb f.tag start) (counts (start + 1) b) h in and_from _ _ p.0 (counts_push (start + 1) b e p.1 (omega arith))

module _ (t : ℕ) (bs : Bytes) (g : ℕ) where
  nowhere : (b : List Entry) → ((j : ℕ) → j < length b → signed (get_or b j no_entry ∷ []) t bs g ≡ false) → signed b t bs g ≡ false
  nowhere [] h = refl
  nowhere (e ∷ es) h =
      let first = (or_parts _ false (h 0 (omega arith))).0 in
      let rest = nowhere es (λ j l. h (suc j) (omega arith)) in
      rw first rest

  -- where no other place has it, one place decides
  only_at : (b : List Entry) (k : ℕ) → ((j : ℕ) → j < length b → j ≢ k → signed (get_or b j no_entry ∷ []) t bs g ≡ false)
      → signed b t bs g ≡ signed (take 1 (drop k b)) t bs g
  only_at [] zero h = refl
  only_at [] (suc k) h = refl
  only_at (e ∷ es) zero h = ap (λ r. (eqb e.timestamp t && (same_bytes e.encoding bs && eqb e.tag g)) || r) (nowhere es (λ j l. h (suc j) (omega arith) (omega arith)))
  only_at (e ∷ es) (suc k) h =
      let first = (or_parts _ false (h 0 (omega arith) (omega arith))).0 in
      let rest = only_at es k (λ j l ne. h (suc j) (omega arith) (omega arith)) in
      rw first rest

  other_timestamp : (e : Entry) → e.timestamp ≢ t → signed (e ∷ []) t bs g ≡ false
  other_timestamp e ne = rw (ne_eqb e.timestamp t ne) refl

  other_tag : (e : Entry) → e.tag ≢ g → signed (e ∷ []) t bs g ≡ false
  other_tag e ne = or_from _ false (and_right (eqb e.timestamp t) _ (and_right (same_bytes e.encoding bs) _ (ne_eqb e.tag g ne))) refl

  -- in a rising book the place of the timestamp decides
  pub by_timestamp : (b : List Entry) (k : ℕ) → rises 0 b ≡ true → ((j : ℕ) → j < k → (get_or b j no_entry).timestamp < t)
      → ((j : ℕ) → k ≤ j → j < length b → t ≤ (get_or b j no_entry).timestamp) → signed b t bs g ≡ signed (take 1 (drop k b)) t bs g
  by_timestamp b k h before after =
      only_at b k
      (λ j l ne. other_timestamp (get_or b j no_entry)
      (λ is. ⊎_elim
      (λ (lt : j < k). let p = before j lt in omega arith)
      (λ (ge : k ≤ j). let p = after k (omega arith) (omega arith) in let q = rises_between 0 b k j h (omega arith) l in omega arith)
      (cases_lt j k)))

  -- where tags count the places, the place that the tag names decides
  pub by_tag : (b : List Entry) → counts 0 b ≡ true → signed b t bs g ≡ signed (take 1 (drop g b)) t bs g
  by_tag b h = only_at b g (λ j l ne. other_tag (get_or b j no_entry) (λ is. let p = counts_at 0 b j h l in absurd (ne (omega arith))))
