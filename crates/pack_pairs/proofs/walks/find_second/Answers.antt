use Rattle.std.proofs.Common.{◌≡◌, Some, sym, ap, ◌∙◌}
use Rattle.pack_pairs.proofs.Maps.{first_second}
use Rattle.pack_pairs.proofs.walks.find_second.Goals as goal

pub returns-in-Some : goal.returns-in-Some
returns-in-Some c =
    first_second c.args.first.now _ c.in-Some.place.index c.in-Some.ensures.found ∙ ap Some (sym (c.second.ensures c.in-Some.place.index c.in-Some.ensures.place))
