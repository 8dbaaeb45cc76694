use Rattle.rehash_dict.proofs.MapOf.{map_of_empty}
use Rattle.rehash_dict.proofs.dict.Dict.new.Goals as goal

pub returns-clause-map : goal.returns-clause-map
returns-clause-map g c blocks = map_of_empty blocks (λ v. v) _ c.new.ensures.items
