-- Words and their bytes. Assumes nothing.
use Rattle.std.specs.Prelude.{◌≡◌, ℕ, zero, suc, ◌+◌, ◌*◌, ◌/◌, ◌%◌, ◌<◌, ◌≤◌, true, List, [], ◌∷◌, ◌++◌, length, nat_lt, slice_index, slice_index_or, flat_map, refl}
use Rattle.std.proofs.Common.{sym, ◌∙◌, ap, ap₂, arith, ltb-true, lt-ltb}
use Rattle.std.specs.Int.{w32, from_be_bytes}
use Rattle.std.specs.List.{AllByRecursion}
use Rattle.std.specs.Simd.{first_chunks}
use Rattle.std.proofs.lemmas.Bool.{and_parts, and_from}
use Rattle.std.proofs.lemmas.Nat.{be_bytes_4, from_be_bytes-to_be_bytes_4}
use Rattle.settings.specs.Words.{word, words, encode_word, encode_words, all_bytes}

past_four : (a b c d : ℕ) (bs : List ℕ) (n m : ℕ) → n ≡ suc (suc (suc (suc m))) → slice_index bs m ≡ slice_index (a ∷ b ∷ c ∷ d ∷ bs) n
past_four a b c d bs n m e = sym (ap (λ k. slice_index (a ∷ b ∷ c ∷ d ∷ bs) k) e)

-- the word at a place, by its bytes
pub word_at : (bs : List ℕ) (i : ℕ) → 4 * i + 4 ≤ length bs → slice_index (words bs) i ≡ word (slice_index bs (4 * i)) (slice_index bs (4 * i + 1)) (slice_index bs (4 * i + 2)) (slice_index bs (4 * i + 3))
word_at [] i h = absurd (omega arith)
word_at (a ∷ []) i h = absurd (omega arith)
word_at (a ∷ b ∷ []) i h = absurd (omega arith)
word_at (a ∷ b ∷ c ∷ []) i h = absurd (omega arith)
word_at (a ∷ b ∷ c ∷ d ∷ bs) zero h = refl
word_at (a ∷ b ∷ c ∷ d ∷ bs) (suc i) h =
    word_at bs i (omega arith)
    ∙ (λ k. word (past_four a b c d bs (4 * suc i) (4 * i) (omega arith) k) (past_four a b c d bs (4 * suc i + 1) (4 * i + 1) (omega arith) k)
    (past_four a b c d bs (4 * suc i + 2) (4 * i + 2) (omega arith) k) (past_four a b c d bs (4 * suc i + 3) (4 * i + 3) (omega arith) k))

-- the word at a place, by its chunk of four bytes
pub chunk_word : (bs : List ℕ) (n i : ℕ) → n * 4 ≤ length bs → i < n → from_be_bytes w32 (slice_index_or (first_chunks 4 n bs) i []) ≡ slice_index (words bs) i
chunk_word bs zero i h k = absurd (omega arith)
chunk_word [] (suc n) i h k = absurd (omega arith)
chunk_word (a ∷ []) (suc n) i h k = absurd (omega arith)
chunk_word (a ∷ b ∷ []) (suc n) i h k = absurd (omega arith)
chunk_word (a ∷ b ∷ c ∷ []) (suc n) i h k = absurd (omega arith)
chunk_word (a ∷ b ∷ c ∷ d ∷ bs) (suc n) zero h k = refl
chunk_word (a ∷ b ∷ c ∷ d ∷ bs) (suc n) (suc i) h k = chunk_word bs n i (omega arith) (omega arith)

small : (n : ℕ) → nat_lt (n % 256) 256 ≡ true
small n = lt-ltb (n % 256) 256 (omega arith)

all_encoded : (n : ℕ) (bs : List ℕ) → all_bytes bs ≡ true → all_bytes (encode_word n ++ bs) ≡ true
all_encoded n bs h = and_from _ _ (small (n / 16777216)) (and_from _ _ (small (n / 65536)) (and_from _ _ (small (n / 256)) (and_from _ _ (small n) h)))

pub all_bytes_encoded : (ws : List ℕ) → all_bytes (encode_words ws) ≡ true
all_bytes_encoded [] = refl
all_bytes_encoded (w ∷ ws) = all_encoded w (encode_words ws) (all_bytes_encoded ws)

pub words_encoded : (ws : List ℕ) → AllByRecursion (λ w. w < 4294967296) ws → words (encode_words ws) ≡ ws
words_encoded [] h = refl
words_encoded (w ∷ ws) h = ap (λ n. n ∷ words (encode_words ws)) (from_be_bytes-to_be_bytes_4 w (omega (arith, h.0))) ∙ ap (λ (r : List ℕ). w ∷ r) (words_encoded ws h.1)

-- four bytes, by their places
four_fit : (a b c d : ℕ) → nat_lt a 256 ≡ true → nat_lt b 256 ≡ true → nat_lt c 256 ≡ true → nat_lt d 256 ≡ true → (i : ℕ) → slice_index (a ∷ b ∷ c ∷ d ∷ []) i < 256
four_fit a b c d p q r s zero = ltb-true a 256 p
four_fit a b c d p q r s (suc zero) = ltb-true b 256 q
four_fit a b c d p q r s (suc (suc zero)) = ltb-true c 256 r
four_fit a b c d p q r s (suc (suc (suc zero))) = ltb-true d 256 s
four_fit a b c d p q r s (suc (suc (suc (suc i)))) = omega arith

pub encoded_words : (k : ℕ) (bs : List ℕ) → length bs ≡ 4 * k → all_bytes bs ≡ true → encode_words (words bs) ≡ bs
encoded_words k [] e h = refl
encoded_words k (a ∷ []) e h = absurd (omega arith)
encoded_words k (a ∷ b ∷ []) e h = absurd (omega arith)
encoded_words k (a ∷ b ∷ c ∷ []) e h = absurd (omega arith)
encoded_words zero (a ∷ b ∷ c ∷ d ∷ bs) e h = absurd (omega arith)
encoded_words (suc k) (a ∷ b ∷ c ∷ d ∷ bs) e h =
    let (p, h1) = and_parts (nat_lt a 256) _ h in
    let (q, h2) = and_parts (nat_lt b 256) _ h1 in
    let (r, h3) = and_parts (nat_lt c 256) _ h2 in
    let (s, h4) = and_parts (nat_lt d 256) _ h3 in
    ap₂ (λ (xs ys : List ℕ). xs ++ ys) (be_bytes_4 (a ∷ b ∷ c ∷ d ∷ []) (word a b c d) refl (four_fit a b c d p q r s) refl) (encoded_words k bs (omega arith) h4)

pub words_length : (k : ℕ) (bs : List ℕ) → length bs ≡ 4 * k → length (words bs) ≡ k
words_length k [] e = omega arith
words_length k (a ∷ []) e = absurd (omega arith)
words_length k (a ∷ b ∷ []) e = absurd (omega arith)
words_length k (a ∷ b ∷ c ∷ []) e = absurd (omega arith)
words_length zero (a ∷ b ∷ c ∷ d ∷ bs) e = absurd (omega arith)
words_length (suc k) (a ∷ b ∷ c ∷ d ∷ bs) e = ap suc (words_length k bs (omega arith))

pub words_fit : (bs : List ℕ) (i : ℕ) → all_bytes bs ≡ true → slice_index (words bs) i < 4294967296
words_fit [] i h = omega arith
words_fit (a ∷ []) i h = omega arith
words_fit (a ∷ b ∷ []) i h = omega arith
words_fit (a ∷ b ∷ c ∷ []) i h = omega arith
words_fit (a ∷ b ∷ c ∷ d ∷ bs) zero h =
    let (p, h1) = and_parts (nat_lt a 256) _ h in
    let (q, h2) = and_parts (nat_lt b 256) _ h1 in
    let (r, h3) = and_parts (nat_lt c 256) _ h2 in
    let (s, h4) = and_parts (nat_lt d 256) _ h3 in
    omega (arith, ltb-true a 256 p, ltb-true b 256 q, ltb-true c 256 r, ltb-true d 256 s)
words_fit (a ∷ b ∷ c ∷ d ∷ bs) (suc i) h =
    words_fit bs i (and_parts (nat_lt d 256) _ (and_parts (nat_lt c 256) _ (and_parts (nat_lt b 256) _ (and_parts (nat_lt a 256) _ h).1).1).1).1

-- what an array of bytes is known to hold
pub all_bytes_fit : (bs : List ℕ) → ((i : ℕ) → slice_index bs i < 256) → all_bytes bs ≡ true
all_bytes_fit [] h = refl
all_bytes_fit (b ∷ bs) h = and_from _ _ (lt-ltb b 256 (h 0)) (all_bytes_fit bs (λ i. h (suc i)))

-- a row of eight, by its places
pub eight : (ws : List ℕ) → length ws ≡ 8 → slice_index ws 0 ∷ slice_index ws 1 ∷ slice_index ws 2 ∷ slice_index ws 3 ∷ slice_index ws 4 ∷ slice_index ws 5 ∷ slice_index ws 6 ∷ slice_index ws 7 ∷ [] ≡ ws
eight [] e = absurd (omega arith)
eight (a ∷ []) e = absurd (omega arith)
eight (a ∷ b ∷ []) e = absurd (omega arith)
eight (a ∷ b ∷ c ∷ []) e = absurd (omega arith)
eight (a ∷ b ∷ c ∷ d ∷ []) e = absurd (omega arith)
eight (a ∷ b ∷ c ∷ d ∷ f ∷ []) e = absurd (omega arith)
eight (a ∷ b ∷ c ∷ d ∷ f ∷ g ∷ []) e = absurd (omega arith)
eight (a ∷ b ∷ c ∷ d ∷ f ∷ g ∷ h ∷ []) e = absurd (omega arith)
eight (a ∷ b ∷ c ∷ d ∷ f ∷ g ∷ h ∷ i ∷ []) e = refl
eight (a ∷ b ∷ c ∷ d ∷ f ∷ g ∷ h ∷ i ∷ j ∷ ws) e = absurd (omega arith)

-- the bytes of each word, end to end
pub flattened : (ws : List ℕ) (cs : List (List ℕ)) → length cs ≡ length ws → ((i : ℕ) → i < length ws → slice_index_or cs i [] ≡ encode_word (slice_index ws i)) → flat_map (λ c. c) cs ≡ encode_words ws
flattened [] [] e h = refl
flattened [] (c ∷ cs) e h = absurd (omega arith)
flattened (w ∷ ws) [] e h = absurd (omega arith)
flattened (w ∷ ws) (c ∷ cs) e h = ap₂ (λ (xs ys : List ℕ). xs ++ ys) (h 0 (omega arith)) (flattened ws cs (omega arith) (λ i k. h (suc i) (omega arith)))
