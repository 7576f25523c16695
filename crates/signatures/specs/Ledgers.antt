-- The book of a ledger, and its slots. Assumes nothing.
use Rattle.std.specs.Prelude.{ℕ, ◌-◌, ◌^◌, min, List, length, vec_items, vec_capacity}
use Rattle.signatures.specs.declared.entry.Entry.{Entry}
use Rattle.signatures.specs.declared.ledger.Ledger.{Ledger}

-- the entries in the memory, all of them
abbrev pub ledger_book : Ledger → List Entry
ledger_book l = vec_items l.memory

-- how many entries the memory has room for, written or not
abbrev pub ledger_capacity : Ledger → ℕ
ledger_capacity l = vec_capacity l.memory

-- how many of so many places can be used: a tag has 32 bits
abbrev pub slots_of : ℕ → ℕ
slots_of capacity = min capacity (2 ^ 32)

-- the slots that hold no entry yet
abbrev pub ledger_free : Ledger → ℕ
ledger_free l = slots_of (ledger_capacity l) - length (ledger_book l)
