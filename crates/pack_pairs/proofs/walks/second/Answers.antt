use Rattle.std.proofs.Common.{◌≡◌, ℕ, ◌+◌, ◌*◌, List, [], get_or, sym, ap, ◌∙◌, subst}
use Rattle.listpack.specs.Pack.{texts}
use Rattle.pack_pairs.specs.Pairs.{IsSecondAt}
use Rattle.pack_pairs.proofs.Packs.{second_text}
use Rattle.pack_pairs.proofs.walks.second.Goals as goal

pub returns : goal.returns
returns c = λ i at.
    c.get.ensures.text (2 * i + 1) (subst (λ (bs : List ℕ). IsSecondAt bs i c.offset_of_second.result) (sym c.known.ensures) (c.offset_of_second.ensures i at))
    ∙ ap (λ (bs : List ℕ). get_or (texts bs) (2 * i + 1) []) c.known.ensures
    ∙ second_text c.args.bytes.now i c.requires.pack
