use Rattle.signatures.specs.Ledgers.{ledger_book}
use Rattle.signatures.proofs.Rising.{by_tag}
use Rattle.signatures.proofs.ledger.scheme.LedgerSignatures.verify.Goals as goal

pub returns : goal.returns
returns c =
    let l = c.args.self.now in
    let place = by_tag c.args.timestamp c.args.encoding c.args.tag (ledger_book l) l.counted in
    rw (place, ← c.as_slice.ensures.value) c.stands_at.ensures
