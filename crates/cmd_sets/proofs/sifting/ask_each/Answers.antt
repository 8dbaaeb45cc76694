use Rattle.std.proofs.Common.{sym, ap, ◌∙◌}
use Rattle.set_object.specs.Members.{members}
use Rattle.cmd_sets.specs.Joined.{has_or_lacks}
use Rattle.cmd_sets.proofs.Gathered.{kept_one, left_one}
use Rattle.cmd_sets.proofs.sifting.ask_each.Goals as goal

pub loop-name-preserved-then-not-is_kept : goal.loop-name-preserved-then-not-is_kept
loop-name-preserved-then-not-is_kept g c =
    let test = has_or_lacks c.args.there (members (g.B.BlockStore.blocks c.args.store.now) c.args.set.now) in
    left_one test c.in-Some.name c.loop-name.yielded c.loop-name.kept.items c.loop-name.invariant (ap test (sym c.as_slice.ensures) ∙ sym c.if-not-is_kept.ensures)

pub loop-name-preserved : goal.loop-name-preserved
loop-name-preserved g c =
    let test = has_or_lacks c.args.there (members (g.B.BlockStore.blocks c.args.store.now) c.args.set.now) in
    kept_one test c.in-Some.name c.loop-name.yielded c.loop-name.kept.items c.push.new.self.items c.loop-name.invariant c.in_ok-push.ensures.items
    (ap test (sym c.as_slice.ensures) ∙ sym c.if-not-is_kept.ensures)
