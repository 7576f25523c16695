use Rattle.std.proofs.Common.{ap, ◌∙◌}
use Rattle.signatures.specs.Orders.{rises}
use Rattle.signatures.proofs.Rising.{by_timestamp}
use Rattle.signatures.proofs.inline_signer.scheme.InlineSignerSignatures.verify.Goals as goal

pub returns : goal.returns
returns c =
    let b = c.book-book.result.now in
    let rising = ap (rises 0) c.book-book.ensures ∙ c.args.self.now.rising in
    let place = by_timestamp c.args.timestamp c.args.encoding c.args.tag b c.place_of.result rising c.place_of.ensures.before c.place_of.ensures.after in
    rw (← c.book-book.ensures, place) c.stands_at.ensures
