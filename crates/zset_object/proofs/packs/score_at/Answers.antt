use Rattle.std.proofs.Common.{sym, ◌∙◌, subst}
use Rattle.int_text.specs.Decimal.{IsI64Text}
use Rattle.pack_pairs.specs.Pairs.{pairs}
use Rattle.pack_pairs.proofs.Packs.{pair_inside}
use Rattle.zset_object.proofs.Keys.{number_there, score_text_there}
use Rattle.zset_object.proofs.packs.score_at.Goals as goal

pub score_of-requires : goal.score_of-requires
score_of-requires c =
    let i = c.requires.place.0 in
    let at = c.requires.place.1 in
    let bytes = c.args.bytes.now in
    subst IsI64Text (sym (c.second.ensures i at)) (score_text_there (pairs bytes) i (pair_inside bytes i c.args.at c.requires.pack.pack at) c.requires.pack.scores)

pub returns : goal.returns
returns c = λ i at key there.
    let bytes = c.args.bytes.now in
    number_there (pairs bytes) i key c.score_of.result (record { sfits = c.score_of.type_inv }) (pair_inside bytes i c.args.at c.requires.pack.pack at) there
    (c.score_of.ensures ∙ c.second.ensures i at)
