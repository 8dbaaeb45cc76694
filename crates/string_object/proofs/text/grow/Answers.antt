use Rattle.std.proofs.Common.{◌≡◌, ◌≤◌, [], ◌∷◌, length, sym, subst}
use Rattle.std.specs.Prelude.{IsSome, IfOk, OnErr, Some}
use Rattle.blocks.specs.Blocks.{bytes_at, widened, Changes}
use Rattle.blocks.proofs.Serve.{served_once, served_then}
use Rattle.string_object.proofs.Growth.{stretched_bytes, stretched_changes, lengthened_bytes, lengthened_changes}
use Rattle.string_object.proofs.text.grow.Goals as goal

pub returns-then-stretch-clause-bytes : goal.returns-then-stretch-clause-bytes
returns-then-stretch-clause-bytes g c = stretched_bytes (g.B.BlockStore.blocks c.args.store.now) (g.B.BlockStore.blocks c.stretch.new.self) c.args.at c.args.len
    (c.stretch.ensures.stretched c.if-stretch.true) c.requires.longer

pub returns-then-stretch-clause-changes : goal.returns-then-stretch-clause-changes
returns-then-stretch-clause-changes g c = stretched_changes (g.B.BlockStore.blocks c.args.store.now) (g.B.BlockStore.blocks c.stretch.new.self) c.args.at _ c.requires.live
    (c.stretch.ensures.stretched c.if-stretch.true)

pub returns-then-stretch-clause-served : goal.returns-then-stretch-clause-served
returns-then-stretch-clause-served g c = served_once _ _ c.stretch.ensures.step

pub lengthen-requires-clause-live : goal.lengthen-requires-clause-live
lengthen-requires-clause-live g c = subst (λ s. IsSome (g.B.BlockStore.blocks s c.args.at)) (sym (c.stretch.ensures.stays c.if-stretch.false)) c.requires.live

pub lengthen-requires-clause-longer : goal.lengthen-requires-clause-longer
lengthen-requires-clause-longer g c = subst (λ s. length (bytes_at (g.B.BlockStore.blocks s) c.args.at) ≤ c.args.len) (sym (c.stretch.ensures.stays c.if-stretch.false)) c.requires.longer

pub returns-clause-bytes : goal.returns-clause-bytes
returns-clause-bytes g c =
    let same = c.stretch.ensures.stays c.if-stretch.false in let mid = g.B.BlockStore.blocks c.stretch.new.self in let n = g.B.BlockStore.blocks c.lengthen.new.self in
    subst (λ s. IfOk c.lengthen.result (λ new. n new ≡ Some (widened (bytes_at (g.B.BlockStore.blocks s) c.args.at) c.args.len))) same
    (lengthened_bytes c.lengthen.result mid n c.args.at (widened (bytes_at mid c.args.at) c.args.len) c.lengthen.ensures.lengthened)

pub returns-clause-changes : goal.returns-clause-changes
returns-clause-changes g c =
    let same = c.stretch.ensures.stays c.if-stretch.false in let mid = g.B.BlockStore.blocks c.stretch.new.self in let n = g.B.BlockStore.blocks c.lengthen.new.self in
    subst (λ s. IfOk c.lengthen.result (λ new. Changes (g.B.BlockStore.blocks s) n (c.args.at ∷ []) (new ∷ []))) same
    (lengthened_changes c.lengthen.result mid n c.args.at (widened (bytes_at mid c.args.at) c.args.len)
    (subst (λ s. IsSome (g.B.BlockStore.blocks s c.args.at)) (sym same) c.requires.live) c.lengthen.ensures.fresh c.lengthen.ensures.lengthened)

pub returns-clause-served : goal.returns-clause-served
returns-clause-served g c = served_then _ _ _ (served_once _ _ c.stretch.ensures.step) c.lengthen.ensures.served

pub returns-clause-err_blocks : goal.returns-clause-err_blocks
returns-clause-err_blocks g c =
    subst (λ s. OnErr c.lengthen.result (g.B.BlockStore.blocks c.lengthen.new.self ≡ g.B.BlockStore.blocks s)) (c.stretch.ensures.stays c.if-stretch.false) c.lengthen.ensures.err_blocks

pub returns-clause-err_slabs : goal.returns-clause-err_slabs
returns-clause-err_slabs g c =
    subst (λ s. OnErr c.lengthen.result (g.B.BlockStore.heap c.lengthen.new.self ≡ g.B.BlockStore.heap s)) (c.stretch.ensures.stays c.if-stretch.false) c.lengthen.ensures.err_slabs
