use Rattle.std.proofs.Common.{◌≡◌, ◌+◌, ◌∷◌, drop, get_or, refl, sym, ap, ◌∙◌, arith}
use Rattle.blocks.specs.Blocks.{Served}
use Rattle.blocks.proofs.Change.{changes_then}
use Rattle.blocks.proofs.Serve.{served_then}
use Rattle.stream_object.specs.Streams.{stream_of}
use Rattle.plain_model.specs.StreamSteps.{without, without_all}
use Rattle.cmd_streams.proofs.Rests.{same_changes, rest_at}
use Rattle.cmd_streams.proofs.removing.delete_each.Goals as goal

pub loop-id-init : goal.loop-id-init
loop-id-init g c = record {
  sound = c.requires;
  is = refl;
  changes = same_changes (g.B.BlockStore.blocks c.args.store.now) c.args.stream.now c.requires;
  served = Served.no_step;
}

pub returns-in_err-delete_one-clause-served : goal.returns-in_err-delete_one-clause-served
returns-in_err-delete_one-clause-served g c = served_then _ _ _ c.loop-id.invariant.served c.delete_one.ensures.served

pub loop-id-preserved : goal.loop-id-preserved
loop-id-preserved g c =
    let now = stream_of (g.B.BlockStore.blocks c.loop-id.store) c.loop-id.stream in
    let then = stream_of (g.B.BlockStore.blocks c.delete_one.new.store) c.delete_one.new.stream in
    let id = get_or c.args.ids.now c.loop-id.id-index (0, 0) in
    let others = drop (c.loop-id.id-index + 1) c.args.ids.now in
    let rest : drop c.loop-id.id-index c.args.ids.now ≡ id ∷ others = rest_at c.args.ids.now c.loop-id.id-index (0, 0) (omega (arith, c.loop-id-test.true)) in
    let is : then ≡ without now id = c.in_ok-delete_one.ensures.is in
    record {
      sound = c.delete_one.ensures.sound;
      is = ap (λ s. without_all s others) is ∙ ap (without_all now) (sym rest) ∙ c.loop-id.invariant.is;
      changes = changes_then _ _ _ _ _ _ c.loop-id.invariant.changes c.delete_one.ensures.changes;
      served = served_then _ _ _ c.loop-id.invariant.served c.delete_one.ensures.served;
    }
