use Rattle.std.proofs.Common.{◌≡◌, ◌∙◌, ap, arith, length, unwrap_or, []}
use Rattle.blocks.specs.Blocks.{bytes_at}
use Rattle.blocks.proofs.Serve.{served_once}
use Rattle.rax_packed.proofs.Cuts.{narrow_room}
use Rattle.rax_packed.proofs.cut.unlink.Goals as goal

pub returns-then-node-eq1-clause-served : goal.returns-then-node-eq1-clause-served
returns-then-node-eq1-clause-served g c = served_once _ _ c.give_back.ensures.step

pub write-requires-clause-room : goal.write-requires-clause-room
write-requires-clause-room g c =
    let read : bytes_at (g.B.BlockStore.blocks c.args.store.now) c.args.at ≡ c.bytes-2.result.now = ap (λ o. unwrap_or o []) c.bytes-2.ensures in
    let room = narrow_room (bytes_at (g.B.BlockStore.blocks c.args.store.now) c.args.at) c.args.place c.requires.inner c.requires.place in
    let is = c.as_slice.ensures.value ∙ c.narrowed-narrower.ensures in
    omega (arith, ap length (rw (← read) at is))

pub returns-clause-served : goal.returns-clause-served
returns-clause-served g c = served_once _ _ c.write.ensures.step
