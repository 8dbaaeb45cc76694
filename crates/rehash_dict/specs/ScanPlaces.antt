-- Which places the elements of a dictionary have.
use Rattle.std.specs.Prelude.{◌≡◌, ℕ, Option, Some, None}
use Rattle.rev_cursor.specs.Place.{place}
use Rattle.rehash_dict.specs.Table.{Element, Table, item}
use Rattle.rehash_dict.specs.Placed.{IsPlaced}

module _ {V : Type 0} where
  -- the place of an element: its hash with the bits reversed
  abbrev pub place_in : Option (Element V) → Option ℕ
  place_in None = None
  place_in (Some e) = Some (place e.hash)

  -- the elements of a dictionary that stand in their buckets have these places
  pub record CanStand (t : Table V) (place_of : ℕ → Option ℕ) : Type 0 where
    pub placed : IsPlaced t
    pub places : (at : ℕ) → place_of at ≡ place_in (item t at)
