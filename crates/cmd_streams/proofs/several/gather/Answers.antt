use Rattle.std.proofs.Common.{◌≡◌, ◌+◌, ◌∷◌, ◌++◌, false, drop, map, rules, subst}
use Rattle.stream_object.specs.Ranges.{taken}
use Rattle.plain_world.specs.Worlds.{look}
use Rattle.plain_model.specs.StreamSteps.{some_listed, stream_there}
use Rattle.keyspace.specs.Commands.{visible}
use Rattle.cmd_streams.specs.Several.{read_parts, entries_above, is_other_at}
use Rattle.cmd_streams.proofs.Rests.{rest_from}
use Rattle.cmd_streams.proofs.Gathered.{none_more, one_gathered}
use Rattle.cmd_streams.proofs.several.gather.Goals as goal

pub loop-one-preserved : goal.loop-one-preserved
loop-one-preserved g c =
    let world = visible g.B.BlockStore.blocks c.args.keyspace.now c.args.at.now in
    let asked = c.args.asked.now in
    let limit = c.args.limit in
    let i = c.loop-one.one-index in
    let one = c.one-item.result in
    let own = map taken c.in-Some.entries.items in
    let rest : drop i asked ≡ one ∷ drop (i + 1) asked = rest_from asked i one (search rules) c.one-item.is in
    let p = rw c.in-Some.is at c.in_ok-read_at.ensures in
    let key : c.as_slice-key.result.now ≡ one.0 = c.as_slice-key.ensures in
    let same : is_other_at world one ≡ false = subst (λ k. is_other_at world (k, one.1) ≡ false) key p.0 in
    let all : own ≡ entries_above limit one.1 (stream_there (look world one.0)) = subst (λ k. own ≡ entries_above limit one.1 (stream_there (look world k))) key p.1 in
    let put : map read_parts c.put_read.new.found.items ≡ map read_parts c.loop-one.found.items ++ some_listed one.0 own =
    subst (λ k. map read_parts c.put_read.new.found.items ≡ map read_parts c.loop-one.found.items ++ some_listed k own) key c.in_ok-put_read-in-Some.ensures in
    record {
      none = none_more world limit asked i one rest same c.loop-one.invariant.none;
      so_far = one_gathered world limit asked i one rest (map read_parts c.args.found.now.items) (map read_parts c.loop-one.found.items) (map read_parts c.put_read.new.found.items) own all
          put c.loop-one.invariant.so_far;
    }
