use Rattle.std.proofs.Common.{rules}
use Rattle.rehash_dict.specs.Keyed.{Keyed}
use Rattle.rehash_dict.specs.Steps.{Swaps}
use Rattle.rehash_dict.proofs.Edited.{table_of}
use Rattle.rehash_dict.proofs.MapOf.{map_of_swaps, map_of_was}
use Rattle.rehash_dict.proofs.dict.Dict.swap_value.Goals as goal

pub returns-clause-map : goal.returns-clause-map
returns-clause-map g c blocks k =
    let now = table_of c.swap_value.new.self c.self.inside.position c.self.inside.seed c.self.inside.top in
    let swaps : Swaps c.args.self.now now c.args.at c.swap_value.result c.args.value = search rules in
    let keyed : Keyed blocks now = search rules in
    map_of_swaps blocks (λ v. v) c.args.self.now now k c.args.at c.swap_value.result c.args.value keyed swaps

pub returns-clause-had : goal.returns-clause-had
returns-clause-had g c blocks k =
    let now = table_of c.swap_value.new.self c.self.inside.position c.self.inside.seed c.self.inside.top in
    let swaps : Swaps c.args.self.now now c.args.at c.swap_value.result c.args.value = search rules in
    map_of_was blocks (λ v. v) c.args.self.now now k c.args.at c.swap_value.result c.args.value swaps
