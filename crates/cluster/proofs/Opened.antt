-- Counting the operations of readers that are open. Assumes nothing.
use Rattle.std.proofs.Common.{◌≡◌, ℕ, ◌+◌, Bool, true, false, cond, not, List, refl, sym, arith}
use Rattle.std.specs.List.{count_by}
use Rattle.std.proofs.lemmas.List.Recursion.{is_count_by}
use Rattle.protocol.specs.Clients.{is_idle}
use Rattle.cluster.specs.Steps.{open_reads}
use Rattle.cluster.specs.declared.reader.Reader.{Reader}

one_more : (b : Bool) (n : ℕ) → cond b 0 1 + n ≡ cond (not b) (1 + n) n
one_more true n = omega arith
one_more false n = refl

abbrev pub is_open : Reader → Bool
is_open d = not (is_idle d.client.phase)

pub open_counted : (ds : List Reader) → count_by is_open ds ≡ open_reads ds
open_counted ds = sym (is_count_by open_reads is_open refl (λ d rest. one_more (is_idle d.client.phase) (open_reads rest)) ds)
