use Rattle.std.proofs.Common.{◌<◌, ◌≤◌, length, arith, rules}
use Rattle.plain_world.specs.Words.{IsRequest}
use Rattle.command_words.proofs.joins.gather_words.Goals as goal

pub overflow_add-from : goal.overflow_add-from
overflow_add-from c =
    let request : IsRequest c.args.request.now = search rules in
    let few : length c.args.request.now ≤ 1048576 = request.few in
    let l : c.loop-index.index < c.args.count = search rules in
    omega (arith, l, few, c.requires)
