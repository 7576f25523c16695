-- A set of replicas as a number: replica i is a member where the binary digit i is set. Assumes nothing.
use Rattle.std.specs.Prelude.{◌≡◌, ℕ, zero, suc, ◌+◌, ◌-◌, ◌/◌, ◌%◌, ◌^◌, ◌<◌, Bool, true, cond, not, ◌==◌, bit_and, bit_or, nat_lt}

-- whether i is a member of a
unfoldable pub has : ℕ → ℕ → Bool
has a i = a / 2 ^ i % 2 == 1

-- each member of a is one of b
abbrev pub Within : ℕ → ℕ → Type 0
Within a b = (i : ℕ) → has a i ≡ true → has b i ≡ true

-- the same, as a test
abbrev pub within : ℕ → ℕ → Bool
within a b = bit_and a b == a

-- each member of a is below n
abbrev pub Below : ℕ → ℕ → Type 0
Below n a = (i : ℕ) → has a i ≡ true → i < n

-- the same, as a test
abbrev pub below : ℕ → ℕ → Bool
below n a = nat_lt a (2 ^ n)

-- all replicas below n
abbrev pub all : ℕ → ℕ
all n = 2 ^ n - 1

-- the members that a and b have in common
abbrev pub common : ℕ → ℕ → ℕ
common a b = bit_and a b

-- a with the replica i, which no set takes in past 31
abbrev pub with_member : ℕ → ℕ → ℕ
with_member a i = cond (nat_lt i 32) (bit_or a (2 ^ i)) a

-- the set of the i below n that pass the test p
unfoldable pub those : ℕ → (ℕ → Bool) → ℕ
those zero p = 0
those (suc k) p = those k p + cond (p k) (2 ^ k) 0

-- the replicas below n that are no members of a
abbrev pub outside : ℕ → ℕ → ℕ
outside n a = those n (λ i. not (has a i))

-- what the members of a that are below n weigh together, where replica i weighs w i
unfoldable pub weigh : (ℕ → ℕ) → ℕ → ℕ → ℕ
weigh w zero a = 0
weigh w (suc k) a = weigh w k a + cond (has a k) (w k) 0

-- how many members a set has: those below 32, which are all that one can have
abbrev pub size_of : ℕ → ℕ
size_of a = weigh (λ _. 1) 32 a
