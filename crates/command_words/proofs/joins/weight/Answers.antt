use Rattle.std.proofs.Common.{◌+◌, ◌<◌, ◌≤◌, length, arith, rules}
use Rattle.plain_world.specs.Words.{IsRequest}
use Rattle.command_words.proofs.joins.weight.Goals as goal

pub overflow_add-place : goal.overflow_add-place
overflow_add-place c =
    let request : IsRequest c.args.request.now = search rules in
    let few : length c.args.request.now ≤ 1048576 = request.few in
    let within : c.in-Some.place + c.args.index < length c.args.request.now = search rules in
    omega (arith, within, few)
