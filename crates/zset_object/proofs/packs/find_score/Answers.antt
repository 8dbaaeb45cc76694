use Rattle.std.proofs.Common.{ap, ◌∙◌, Some, ℤ, w64}
use Rattle.std.proofs.lemmas.Int.{to_z-of_z}
use Rattle.pack_pairs.specs.Pairs.{pairs}
use Rattle.zset_object.proofs.Keys.{score_found, no_score}
use Rattle.zset_object.proofs.packs.find_score.Goals as goal

pub returns-in-Some : goal.returns-in-Some
returns-in-Some c =
    let i = c.in-Some.place.index in
    let found = score_found (pairs c.args.bytes.now) i c.args.member.now c.score_at.result c.in-Some.ensures.found (c.score_at.ensures i c.in-Some.ensures.place) in
    ap (λ (n : ℤ). Some n) (to_z-of_z w64 c.score_at.result (record { sfits = c.score_at.type_inv })) ∙ found

pub returns-in-None : goal.returns-in-None
returns-in-None c = no_score (pairs c.args.bytes.now) c.args.member.now c.in-None.ensures.none
