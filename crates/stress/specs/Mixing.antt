-- The generator's steps and the digest's, as arithmetic on numbers of 64 bits.
use Rattle.std.specs.Prelude.{ℕ, ◌+◌, ◌*◌, ◌/◌, ◌%◌, ◌^◌, bit_xor}

-- The state of the generator after a draw.
abbrev pub advanced : ℕ → ℕ
advanced state = (state + 0x9E37_79B9_7F4A_7C15) % 2 ^ 64

-- A number, its upper part mixed into its lower one, times a factor.
abbrev pub stirred : ℕ → ℕ → ℕ → ℕ
stirred number shift factor = bit_xor number (number / 2 ^ shift) * factor % 2 ^ 64

-- What is drawn at a state.
abbrev pub scrambled : ℕ → ℕ
scrambled state =
    let z = stirred (stirred state 30 0xBF58_476D_1CE4_E5B9) 27 0x94D0_49BB_1331_11EB in
    bit_xor z (z / 2 ^ 31)

-- The word that a draw gives: the upper 32 bits.
abbrev pub drawn : ℕ → ℕ
drawn state = scrambled (advanced state) / 2 ^ 32

-- The digest once a number is mixed in.
abbrev pub mixed : ℕ → ℕ → ℕ
mixed digest number = bit_xor digest number * 1099511628211 % 2 ^ 64
