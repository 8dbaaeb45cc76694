use Rattle.std.proofs.Common.{w64, sym, ◌∙◌, subst}
use Rattle.std.specs.Prelude.{FitsSigned}
use Rattle.std.proofs.lemmas.Int.{to_z-of_z}
use Rattle.int_text.specs.Decimal.{IsI64Text}
use Rattle.pack_pairs.specs.Pairs.{pairs}
use Rattle.pack_pairs.proofs.Packs.{pair_inside}
use Rattle.zset_object.proofs.Keys.{number_there, entry_there, score_text_there}
use Rattle.zset_object.proofs.packs.step_at.Goals as goal

pub score_of-requires : goal.score_of-requires
score_of-requires c =
    let i = c.requires.place.0 in
    let at = c.requires.place.1 in
    let bytes = c.args.bytes.now in
    subst IsI64Text (sym (c.step-pair.ensures.second i at)) (score_text_there (pairs bytes) i (pair_inside bytes i c.args.at c.requires.pack.pack at) c.requires.pack.scores)

pub returns-clause-key : goal.returns-clause-key
returns-clause-key c = λ i at.
    let bytes = c.args.bytes.now in
    let fits : FitsSigned w64 c.score_of.result = record { sfits = c.score_of.type_inv } in
    let inside = pair_inside bytes i c.args.at c.requires.pack.pack at in
    entry_there (pairs bytes) i _ _ _ inside (c.step-pair.ensures.first i at) (to_z-of_z w64 c.score_of.result fits)
    (λ key there. sym (to_z-of_z w64 c.score_of.result fits) ∙ number_there (pairs bytes) i key c.score_of.result fits inside there (c.score_of.ensures ∙ c.step-pair.ensures.second i at))
