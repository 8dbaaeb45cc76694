use Rattle.rehash_dict.proofs.Edited.{lacks_both}
use Rattle.rehash_dict.proofs.MapOf.{map_of_lacks, content_found}
use Rattle.rehash_dict.proofs.dict.Dict.find_hashed.Goals as goal

pub returns-in-None-search-clause-none : goal.returns-in-None-search-clause-none
returns-in-None-search-clause-none g c = lacks_both (g.B.BlockStore.blocks c.args.store.now) c.args.self.now c.args.hash c.args.key.now c.requires.keyed c.requires.hashed
    c.in-None.ensures.none c.in-None-search.ensures.none

pub returns-in-Some-clause-map : goal.returns-in-Some-clause-map
returns-in-Some-clause-map g c = content_found (g.B.BlockStore.blocks c.args.store.now) c.args.self.now c.in-Some.spot.at c.args.key.now c.requires.keyed c.in-Some.ensures.found.stands

pub returns-in-Some-search-clause-map : goal.returns-in-Some-search-clause-map
returns-in-Some-search-clause-map g c = content_found (g.B.BlockStore.blocks c.args.store.now) c.args.self.now c.in-Some-search.spot.at c.args.key.now c.requires.keyed
    c.in-Some-search.ensures.found.stands

pub returns-in-None-search-clause-map : goal.returns-in-None-search-clause-map
returns-in-None-search-clause-map g c =
    map_of_lacks (g.B.BlockStore.blocks c.args.store.now) (λ v. v) c.args.self.now c.args.key.now c.requires.keyed
    (lacks_both (g.B.BlockStore.blocks c.args.store.now) c.args.self.now c.args.hash c.args.key.now c.requires.keyed c.requires.hashed c.in-None.ensures.none c.in-None-search.ensures.none)
