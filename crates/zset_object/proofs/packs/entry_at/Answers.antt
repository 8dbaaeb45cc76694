use Rattle.std.proofs.Common.{w64}
use Rattle.std.proofs.lemmas.Int.{to_z-of_z}
use Rattle.pack_pairs.specs.Pairs.{pairs}
use Rattle.pack_pairs.proofs.Packs.{pair_inside}
use Rattle.zset_object.proofs.Keys.{entry_there}
use Rattle.zset_object.proofs.packs.entry_at.Goals as goal

pub returns : goal.returns
returns c = λ i at.
    let bytes = c.args.bytes.now in
    entry_there (pairs bytes) i _ c.score_at.result _ (pair_inside bytes i c.args.at c.requires.pack.pack at) (c.first.ensures i at)
    (to_z-of_z w64 c.score_at.result (record { sfits = c.score_at.type_inv })) (c.score_at.ensures i at)
