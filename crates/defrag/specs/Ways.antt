-- How a walk goes on, and how many units it takes. A unit is a block of a key passed, a vacant item number passed, or
-- the end of a database.
use Rattle.std.specs.Prelude.{◌≡◌, ◌⊎◌, ℕ, ◌+◌, ◌<◌, ◌≤◌, Option, None, Some, IfSome, IsSome, unwrap_or}
use Rattle.held.specs.Table.{Element, item}
use Rattle.held.specs.Databases.{Bases, table_at}
use Rattle.held.specs.Relocation.{names_from}
use Rattle.stored.specs.Passing.{Marks, passed_of}
use Rattle.defrag.specs.declared.walk.Walk.{Walk}
use Rattle.defrag.specs.declared.walk.Visit.{Visit}
use Rattle.defrag.specs.declared.walk.Visit.TheVariants.{More}

-- by the number of a database and an item number, the marks of the key's value, or that the number is vacant; and by the
-- number of a database the one above all its item numbers
pub record Shapes : Type 0 where
  pub at : ℕ → ℕ → Option Marks
  pub top : ℕ → ℕ

module _ {V : Type 0} where
  abbrev pub shape_of : {A : Type 0} → (V → A) → Option (Element V) → Option A
  shape_of told None = None
  shape_of told (Some e) = Some (told e.value)

  -- what is told of the value at an item number of a database, or that the number is vacant
  abbrev pub shape : {A : Type 0} → (V → A) → Bases V → ℕ → ℕ → Option A
  shape told bases number at = shape_of told (item (table_at bases number) at)

  -- Which item numbers are vacant stays, and what is told of all values, before and after.
  abbrev pub SameShapes : {A : Type 0} → (V → A) → (V → A) → Bases V → Bases V → Type 0
  SameShapes was now old new = (number at : ℕ) → shape now new number at ≡ shape was old number at

  abbrev pub shapes : (V → Marks) → Bases V → Shapes
  shapes marks bases = record { at = shape marks bases; top = λ number. (table_at bases number).top }

-- the place behind a part of an item: inside it where a mark is left, else the next item
abbrev pub behind : Walk → Option ℕ → Walk
behind walk None = record { database = walk.database; item = walk.item + 1; mark = None }
behind walk (Some next) = record { database = walk.database; item = walk.item; mark = Some next }

-- the start of the next database
abbrev pub next_database : Walk → Walk
next_database walk = record { database = walk.database + 1; item = 0; mark = None }

-- The walk passes one thing: a vacant item number below the top, the end of a database from the top on, or a part of a
-- key's blocks, with each vacant item number inside it.
pub data Leg (shapes : Shapes) (from : Walk) (units : ℕ) (to : Walk) : Type 0 where
  vacant : shapes.at from.database from.item ≡ None → from.item < shapes.top from.database → units ≡ 1
      → to ≡ behind from None → Leg shapes from units to
  ended : shapes.top from.database ≤ from.item → units ≡ 1 → to ≡ next_database from → Leg shapes from units to
  inside : (all : Marks) (next : Option ℕ) → shapes.at from.database from.item ≡ Some all
      → IfSome next (λ mark. unwrap_or from.mark 0 < mark)
      → units ≡ names_from from.mark + passed_of all (unwrap_or from.mark 0) next → to ≡ behind from next
      → Leg shapes from units to

-- one after another, with so many units in all
pub data Way (shapes : Shapes) (first : Walk) : ℕ → Walk → Type 0 where
  here : Way shapes first 0 first
  further : (sum units : ℕ) (mid last : Walk) → Way shapes first sum mid → Leg shapes mid units last
      → Way shapes first (sum + units) last

-- inside an item, no mark comes before all marks
abbrev pub IsOn : Option ℕ → Option ℕ → Type 0
IsOn None to = Unit {0}
IsOn (Some from) None = ⊥
IsOn (Some from) (Some to) = from ≤ to

-- the second place in a database isn't before the first
abbrev pub IsFurther : Walk → Walk → Type 0
IsFurther from to = (from.item < to.item) ⊎ ((from.item ≡ to.item) × IsOn from.mark to.mark)

-- the second place isn't before the first
abbrev pub IsForward : Walk → Walk → Type 0
IsForward from to = (from.database < to.database) ⊎ ((from.database ≡ to.database) × IsFurther from to)

-- A step takes 64 units at most. Where it isn't the last it stops with all of them used, or with fewer than 33 left where a
-- key is to be begun or continued.
pub record Goes (shapes : Shapes) (from to : Walk) (visit : Visit) : Type 0 where
  pub units : ℕ
  pub way : Way shapes from units to
  pub few : units ≤ 64
  pub stops : visit ≡ More → (units ≡ 64) ⊎ ((31 < units) × IsSome (shapes.at to.database to.item))

-- what stands at the walk's place can be passed with so many units left
pub record MayGo {V : Type 0} (bases : Bases V) (walk : Walk) (left : ℕ) : Type 0 where
  pub database : walk.database < 16
  pub some : 0 < left
  pub vacant : left < 33 → item (table_at bases walk.database) walk.item ≡ None

-- nothing is left to be passed, no unit is left, or too few for the key that is to be begun or continued
abbrev pub MustStop : {V : Type 0} → Bases V → Walk → ℕ → Type 0
MustStop bases walk left =
    (16 ≤ walk.database) ⊎ ((left ≡ 0) ⊎ ((left < 33) × IsSome (item (table_at bases walk.database) walk.item)))
