use Rattle.std.proofs.Common.{◌≡◌, ℕ, ◌*◌, List, [], get_or, sym, ap, ◌∙◌, subst}
use Rattle.listpack.specs.Pack.{texts}
use Rattle.pack_pairs.specs.Pairs.{IsPairAt}
use Rattle.pack_pairs.proofs.Packs.{first_text}
use Rattle.pack_pairs.proofs.walks.first.Goals as goal

pub returns : goal.returns
returns c = λ i at.
    c.get.ensures.text (2 * i) (subst (λ (bs : List ℕ). IsPairAt bs i c.args.at) (sym c.known.ensures) at)
    ∙ ap (λ (bs : List ℕ). get_or (texts bs) (2 * i) []) c.known.ensures
    ∙ first_text c.args.bytes.now i c.requires.pack
