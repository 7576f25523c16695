use Rattle.std.proofs.lemmas.List.{drop_more, drop_all}
use Rattle.std.proofs.lemmas.Bool.{le-ltb}
use Rattle.signatures.specs.Orders.{no_entry}
use Rattle.signatures.proofs.book.stands_at.Goals as goal

pub returns-then-place-book : goal.returns-then-place-book
returns-then-place-book c =
    let b = c.args.book.now in
    let there = drop_more b c.args.place no_entry c.if-place-book.true in
    rw (there, ← c.entry_at.ensures) c.is_entry.ensures

pub returns-else-place-book : goal.returns-else-place-book
returns-else-place-book c =
    let past = drop_all c.args.place c.args.book.now c.if-place-book.false in
    rw past (le-ltb _ _ c.if-place-book.false)
