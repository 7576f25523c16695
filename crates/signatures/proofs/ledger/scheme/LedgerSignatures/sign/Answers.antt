use Rattle.std.proofs.Common.{sym, refl, ◌∙◌, zero-add, arith}
use Rattle.signatures.specs.Ledgers.{ledger_book, ledger_free}
use Rattle.signatures.proofs.Rising.{rises_push, counts_push}
use Rattle.signatures.proofs.Signing.{decided, signable}
use Rattle.signatures.proofs.ledger.scheme.LedgerSignatures.sign.Goals as goal

pub returns-then-not-may_sign-clause-signs : goal.returns-then-not-may_sign-clause-signs
returns-then-not-may_sign-clause-signs c =
    let l = c.args.self.now in
    let answer = decided (ledger_book l) (ledger_free l) c.args.timestamp _ _ _ c.latest.ensures c.free.ensures c.may_sign.ensures in
    (answer ∙ c.if-not-may_sign.true, refl, refl)

pub append-requires-clause-newer : goal.append-requires-clause-newer
append-requires-clause-newer c =
    let l = c.args.self.now in
    let answer = decided (ledger_book l) (ledger_free l) c.args.timestamp _ _ _ c.latest.ensures c.free.ensures c.may_sign.ensures in
    let can = signable (ledger_book l) (ledger_free l) c.args.timestamp (answer ∙ c.if-not-may_sign.false) in
    rises_push 0 (ledger_book l) _ l.rising (omega (arith, can.0)) can.0

pub append-requires-clause-counted : goal.append-requires-clause-counted
append-requires-clause-counted c = counts_push 0 (ledger_book c.args.self.now) _ c.args.self.now.counted (c.next_tag-tag.ensures ∙ sym (zero-add _))

pub returns-clause-signs : goal.returns-clause-signs
returns-clause-signs c =
    let l = c.args.self.now in
    let answer = decided (ledger_book l) (ledger_free l) c.args.timestamp _ _ _ c.latest.ensures c.free.ensures c.may_sign.ensures in
    (answer ∙ c.if-not-may_sign.false, c.append.ensures.book, c.append.ensures.free)
