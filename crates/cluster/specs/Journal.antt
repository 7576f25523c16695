-- The lines of the journal. Assumes nothing.
use Rattle.std.specs.Prelude.{ℕ}
use Rattle.cluster.specs.declared.journal.Line.{Line}
use Rattle.cluster.specs.declared.journal.LineKind.{LineKind}
use Rattle.cluster.specs.declared.journal.LineKind.TheVariants.{WriteBegun, WriteFinished, ReadBegun, ReadFinished}

-- the number of each kind of line
abbrev pub kind_number : LineKind → ℕ
kind_number WriteBegun = 1
kind_number WriteFinished = 2
kind_number ReadBegun = 3
kind_number ReadFinished = 4

-- a line of a kind, about a client's operation and its timestamp
abbrev pub line : LineKind → ℕ → ℕ → ℕ → Line
line k c o t = record { kind = kind_number k; client = c; op = o; timestamp = t }

-- a row that holds no line yet
abbrev pub no_line : Line
no_line = record { kind = 0; client = 0; op = 0; timestamp = 0 }
