use Rattle.std.proofs.Common.{refl}
use Rattle.rehash_dict.proofs.Edited.{lacks_both, removed_tables}
use Rattle.rehash_dict.specs.Keyed.{hash_of}
use Rattle.rehash_dict.proofs.Growing.{grown_remove, grown_same}
use Rattle.rehash_dict.proofs.MapOf.{map_of_kept, map_of_lacks, content_takes, content_took}
use Rattle.rehash_dict.proofs.dict.Dict.remove_hashed.Goals as goal

pub returns-in-Some-clause-tables : goal.returns-in-Some-clause-tables
returns-in-Some-clause-tables g c = removed_tables (g.B.BlockStore.blocks c.args.store.now) c.args.self.now c.take.new.self c.in-Some.spot.at c.args.key.now _ _ c.requires.keyed
    c.in-Some.ensures.found.stands c.take.ensures

pub returns-in-Some-search-clause-tables : goal.returns-in-Some-search-clause-tables
returns-in-Some-search-clause-tables g c = removed_tables (g.B.BlockStore.blocks c.args.store.now) c.args.self.now c.take-in-Some-search.new.self c.in-Some-search.spot.at c.args.key.now _
    _ c.requires.keyed c.in-Some-search.ensures.found.stands c.take-in-Some-search.ensures

pub returns-in-None-clause-none : goal.returns-in-None-clause-none
returns-in-None-clause-none g c = (
  refl,
  lacks_both (g.B.BlockStore.blocks c.args.store.now) c.args.self.now c.args.hash c.args.key.now c.requires.keyed c.requires.hashed c.in_default.ensures.none
      c.in-None.ensures.none,
)

pub returns-in-Some-clause-map : goal.returns-in-Some-clause-map
returns-in-Some-clause-map g c = content_takes (g.B.BlockStore.blocks c.args.store.now) c.args.self.now c.take.new.self c.in-Some.spot.at c.args.key.now _ _ c.requires.keyed
    c.in-Some.ensures.found.stands c.take.ensures

pub returns-in-Some-clause-had : goal.returns-in-Some-clause-had
returns-in-Some-clause-had g c = content_took (g.B.BlockStore.blocks c.args.store.now) c.args.self.now c.take.new.self c.in-Some.spot.at c.args.key.now _ _ c.requires.keyed
    c.in-Some.ensures.found.stands c.take.ensures

pub returns-in-Some-clause-grown : goal.returns-in-Some-clause-grown
returns-in-Some-clause-grown g c = grown_remove (hash_of c.args.self.now.seed) _ _ c.args.key.now (returns-in-Some-clause-tables g c)

pub returns-in-Some-search-clause-map : goal.returns-in-Some-search-clause-map
returns-in-Some-search-clause-map g c = content_takes (g.B.BlockStore.blocks c.args.store.now) c.args.self.now c.take-in-Some-search.new.self c.in-Some-search.spot.at c.args.key.now _ _
    c.requires.keyed c.in-Some-search.ensures.found.stands c.take-in-Some-search.ensures

pub returns-in-Some-search-clause-had : goal.returns-in-Some-search-clause-had
returns-in-Some-search-clause-had g c = content_took (g.B.BlockStore.blocks c.args.store.now) c.args.self.now c.take-in-Some-search.new.self c.in-Some-search.spot.at c.args.key.now _ _
    c.requires.keyed c.in-Some-search.ensures.found.stands c.take-in-Some-search.ensures

pub returns-in-Some-search-clause-grown : goal.returns-in-Some-search-clause-grown
returns-in-Some-search-clause-grown g c = grown_remove (hash_of c.args.self.now.seed) _ _ c.args.key.now (returns-in-Some-search-clause-tables g c)

pub returns-in-None-clause-map : goal.returns-in-None-clause-map
returns-in-None-clause-map g c = map_of_kept (g.B.BlockStore.blocks c.args.store.now) (λ v. v) c.args.self.now c.args.self.now c.requires.keyed c.args.key.now refl (returns-in-None-clause-none g c).1

pub returns-in-None-clause-had : goal.returns-in-None-clause-had
returns-in-None-clause-had g c = map_of_lacks (g.B.BlockStore.blocks c.args.store.now) (λ v. v) c.args.self.now c.args.key.now c.requires.keyed (returns-in-None-clause-none g c).1

pub returns-in-None-clause-grown : goal.returns-in-None-clause-grown
returns-in-None-clause-grown g c = grown_same (hash_of c.args.self.now.seed) _ _ refl
