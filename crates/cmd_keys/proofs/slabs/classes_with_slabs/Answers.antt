use Rattle.std.proofs.Common.{◌≡◌, ℕ, map, subst, arith}
use Rattle.std.specs.List.{filter, range_with_len}
use Rattle.keyspace.specs.Shown.{class_slabs, has_slab}
use Rattle.cmd_keys.specs.Slabs.{class_used}
use Rattle.cmd_keys.proofs.Told.{looked_at}
use Rattle.cmd_keys.proofs.slabs.classes_with_slabs.Goals as goal

pub loop-class-preserved : goal.loop-class-preserved
loop-class-preserved g c =
    let u = c.use_of.ensures in
    looked_at (g.B.BlockStore.heap c.args.keyspace.now.store) c.loop-class.class c.loop-class.uses.items c.push_used.new.uses.items c.use_of.result u.size u.slabs u.used
    c.in_ok-push_used.ensures c.loop-class.invariant

pub returns : goal.returns
returns g c =
    let P : ℕ → Type 0 = λ n. map class_used c.loop-class.uses.items ≡ filter has_slab (map (class_slabs (g.B.BlockStore.heap c.args.keyspace.now.store)) (range_with_len 0 n)) in
    let all : c.loop-class.class ≡ 36 = omega arith in
    subst P all c.loop-class.invariant
