use Rattle.std.proofs.Common.{◌∙◌, sym, ap, subst, IsSome}
use Rattle.rehash_dict.specs.Table.{item}
use Rattle.rehash_dict.proofs.Edited.{key_answer}
use Rattle.rehash_dict.proofs.dict.Dict.has_key.Goals as goal

pub bytes-requires : goal.bytes-requires
bytes-requires g c =
    subst (λ ref. IsSome (g.B.BlockStore.blocks c.args.store.now ref)) (sym c.key.ensures) (c.requires.live c.args.at _ (ap (λ t. item t c.args.at) (sym c.self.view_is) ∙ sym c.in-Some.ensures))

pub returns-then-entry-hash : goal.returns-then-entry-hash
returns-then-entry-hash g c =
    key_answer (g.B.BlockStore.blocks c.args.store.now) c.args.self.now c.args.at c.args.hash c.args.key.now c.bytes.result.now _ c.same_bytes.result
    (ap (λ t. item t c.args.at) (sym c.self.view_is) ∙ sym c.in-Some.ensures) (ap (g.B.BlockStore.blocks c.args.store.now) (sym c.key.ensures) ∙ c.bytes.ensures) c.same_bytes.ensures.0
    c.same_bytes.ensures.1
