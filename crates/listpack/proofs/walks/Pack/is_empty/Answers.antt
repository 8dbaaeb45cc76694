use Rattle.std.proofs.lemmas.Bool.{eqb-true, eq-eqb}
use Rattle.listpack.proofs.Offsets.{empty}
use Rattle.listpack.proofs.walks.Pack.is_empty.Goals as goal

pub returns : goal.returns
returns c =
    let both = empty c.args.self.now.bytes.now c.args.self.now.packed in
    (λ seven. both.0 (eqb-true _ _ seven), λ none. eq-eqb _ _ (both.1 none))
