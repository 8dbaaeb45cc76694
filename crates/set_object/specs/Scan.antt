-- One move of a scan over a set.
use Rattle.std.specs.Prelude.{ℕ, List, [], Option}
use Rattle.rehash_dict.specs.Scan.{scanned}
use Rattle.rehash_dict.specs.ScanPlaces.{CanStand as CanStandInTable}
use Rattle.collection_walk.specs.Places.{upto, HavePlaces}
use Rattle.set_object.specs.declared.members.Body.{Body}
use Rattle.set_object.specs.declared.members.Body.TheVariants.{Empty, Numbers, Pack, Table}

-- The items of a move at a cursor, and the next cursor: those of a move over the tables, and in a packed form all and
-- 0.
abbrev pub moved : Body → ℕ → List ℕ × ℕ
moved Empty cursor = ([], 0)
moved (Numbers packed) cursor = (upto packed.len, 0)
moved (Pack packed) cursor = (upto packed.len, 0)
moved (Table t) cursor = scanned t.older t.newer cursor

-- these can be the places of the members: those of the elements of a dictionary, and any of those of a packed form
abbrev pub CanStand : Body → (ℕ → Option ℕ) → Type 0
CanStand Empty place_of = HavePlaces 0 place_of
CanStand (Numbers packed) place_of = HavePlaces packed.len place_of
CanStand (Pack packed) place_of = HavePlaces packed.len place_of
CanStand (Table t) place_of = CanStandInTable t place_of
