use Rattle.std.proofs.Common.{refl, ◌∙◌, arith}
use Rattle.signatures.specs.InlineSigners.{inline_book, inline_free}
use Rattle.signatures.proofs.Rising.{rises_push}
use Rattle.signatures.proofs.Signing.{decided, signable}
use Rattle.signatures.proofs.inline_signer.scheme.InlineSignerSignatures.sign.Goals as goal

pub returns-then-not-may_sign-clause-signs : goal.returns-then-not-may_sign-clause-signs
returns-then-not-may_sign-clause-signs c =
    let s = c.args.self.now in
    let answer = decided (inline_book s) (inline_free s) c.args.timestamp _ _ _ c.latest.ensures c.free.ensures c.may_sign.ensures in
    (answer ∙ c.if-not-may_sign.true, refl, refl)

pub append-requires-clause-newer : goal.append-requires-clause-newer
append-requires-clause-newer c =
    let s = c.args.self.now in
    let answer = decided (inline_book s) (inline_free s) c.args.timestamp _ _ _ c.latest.ensures c.free.ensures c.may_sign.ensures in
    let can = signable (inline_book s) (inline_free s) c.args.timestamp (answer ∙ c.if-not-may_sign.false) in
    rises_push 0 (inline_book s) _ s.rising (omega (arith, can.0)) can.0

pub returns-clause-signs : goal.returns-clause-signs
returns-clause-signs c =
    let s = c.args.self.now in
    let answer = decided (inline_book s) (inline_free s) c.args.timestamp _ _ _ c.latest.ensures c.free.ensures c.may_sign.ensures in
    let can = signable (inline_book s) (inline_free s) c.args.timestamp (answer ∙ c.if-not-may_sign.false) in
    (answer ∙ c.if-not-may_sign.false, c.append.ensures.book, c.append.ensures.free)
