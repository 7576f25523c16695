use Rattle.std.proofs.Common.{◌≡◌, ℕ, [], List, ◌∙◌, ap, arith, rules, length, slice_index_or}
use Rattle.std.specs.Int.{w32, from_be_bytes}
use Rattle.settings.specs.WordLaws.{chunk_word}
use Rattle.settings.proofs.lens_correction.words.unsigned_at.Goals as goal

pub returns : goal.returns
returns c =
    let full : length c.args.bytes ≡ 32 = search rules in
    c.from_be_bytes.ensures
    ∙ ap (λ (cs : List (List ℕ)). from_be_bytes w32 (slice_index_or cs c.args.place [])) c.as_chunks.ensures.front
    ∙ chunk_word c.args.bytes _ c.args.place (omega arith) (omega arith)
