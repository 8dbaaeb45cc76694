use Rattle.std.proofs.Common.{ap, ◌∙◌, set, ◌++◌, drop, length, ◌%◌, List, ℕ, [], ◌∷◌}
use Rattle.digests.proofs.Words.{last_at}
use Rattle.digests.proofs.siphash.last_bytes.Goals as goal

pub returns : goal.returns
returns c =
    ap (λ (xs : List ℕ). set (xs ++ drop (length c.args.tail.now) (0 ∷ 0 ∷ 0 ∷ 0 ∷ 0 ∷ 0 ∷ 0 ∷ 0 ∷ [])) 7 (c.args.len % 256)) c.copy_from_slice.ensures.after
    ∙ last_at c.args.tail.now (c.args.len % 256) c.requires
