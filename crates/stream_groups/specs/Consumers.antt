-- How the consumers of a group are kept: their names by rising bytes.
use Rattle.std.specs.Prelude.{◌≡◌, ◌<◌, ◌≤◌, ℕ, T, List, length, map}
use Rattle.std.specs.List.{HoldsAt, AllWithin}
use Rattle.std.specs.declared.cmp.Ordering.TheVariants.{Less, Greater}
use Rattle.std.specs.declared.vec.Vec.{Vec}
use Rattle.std.specs.declared.rc.Rc.{Rc}
use Rattle.std.specs.declared.alloc.Global.{Global}
use Rattle.std.specs.FinMap.{from_sorted, is_sorted}
use Rattle.stream_groups.specs.Groups.{Names, name_cmp}

abbrev pub Name : Type 0
Name = Rc (Vec ℕ Global) Global

abbrev pub bytes_of : Name → List ℕ
bytes_of name = name.value.items

-- each name, with nothing
abbrev pub listed : List Name → List (List ℕ × Unit {0})
listed names = map (λ name. (bytes_of name, tt)) names

-- the set of the names
unfoldable pub names_of : List Name → Names
names_of names = from_sorted (listed names)

-- the names strictly rise
abbrev pub Rise : List Name → Type 0
Rise names = T (is_sorted name_cmp (listed names))

-- the name stands at this place
pub record IsAt (names : List Name) (name : List ℕ) (at : ℕ) : Type 0 where
  pub in_range : at < length names
  pub here : HoldsAt (λ known. bytes_of known ≡ name) names at

-- the name would stand at this place: lower names before it, and higher ones from it on
pub record IsGap (names : List Name) (name : List ℕ) (at : ℕ) : Type 0 where
  pub in_range : at ≤ length names
  pub lower : AllWithin (λ known. name_cmp (bytes_of known) name ≡ Less) names 0 at
  pub higher : AllWithin (λ known. name_cmp (bytes_of known) name ≡ Greater) names at (length names)
