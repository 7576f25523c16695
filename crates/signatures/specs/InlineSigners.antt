-- The book of an inline signer, its slots and its start. Assumes nothing.
use Rattle.std.specs.Prelude.{ℕ, ◌+◌, ◌-◌, ◌%◌, ◌^◌, List, take}
use Rattle.signatures.specs.declared.entry.Entry.{Entry}
use Rattle.signatures.specs.declared.inline_signer.InlineSigner.{InlineSigner}

-- the slots that are used, from the first on
abbrev pub inline_book : InlineSigner → List Entry
inline_book s = take s.used s.slots

-- the slots that are not
abbrev pub inline_free : InlineSigner → ℕ
inline_free s = 64 - s.used

-- the number that tags count from
abbrev pub inline_start : InlineSigner → ℕ
inline_start s = s.start

-- the tag of a timestamp
abbrev pub inline_tag : ℕ → ℕ → ℕ
inline_tag start timestamp = (timestamp + start) % 2 ^ 32
