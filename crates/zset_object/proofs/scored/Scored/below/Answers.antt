use Rattle.std.proofs.Common.{ℤ, List, [], w64, int_lt, count_by, sym, ap, ◌∙◌}
use Rattle.std.proofs.lemmas.Int.{to_z-of_z}
use Rattle.score_list.specs.Sorted.{Key}
use Rattle.zset_object.specs.Orders.{place_in}
use Rattle.zset_object.specs.Packed.{keys_in}
use Rattle.zset_object.proofs.Orders.{below_is}
use Rattle.zset_object.proofs.Placing.{keys_read}
use Rattle.zset_object.proofs.scored.Scored.below.Goals as goal

pub returns-in-Pack : goal.returns-in-Pack
returns-in-Pack g c =
    let least = c.args.least in
    let m = g.B.BlockStore.blocks c.args.store.now in
    let self = c.args.self.now in
    c.place_of.ensures
    ∙ ap (λ (n : ℤ). place_in (n, []) (keys_in c.bytes.result.now)) (to_z-of_z w64 least c.ranges.least)
    ∙ below_is least (keys_in c.bytes.result.now)
    ∙ ap (λ (keys : List Key). count_by (λ (key : Key). int_lt key.0 least) keys) (sym (keys_read m self.limits self.body c.in-Pack.packed c.bytes.result.now c.in-Pack.is c.bytes.ensures))
