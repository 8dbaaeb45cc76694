-- What the towers hold, and what holds of them.
use Rattle.std.specs.Prelude.{◌≡◌, ◌≢◌, ℕ, zero, suc, ◌+◌, ◌^◌, ◌<◌, ◌≤◌, get_or, ℤ, pos, Bool, true, false, nat_lt, List, [], ◌∷◌, ◌++◌, Option, Some, None, map, length, take, drop}
use Rattle.std.specs.Prelude.{slice_index_or, slice_set}
use Rattle.blocks.specs.declared.BlockRef.{BlockRef}
use Rattle.slab.specs.Slab.{get}
use Rattle.score_list.specs.declared.towers.Link.{Link}
use Rattle.score_list.specs.declared.towers.Tower.{Tower}
use Rattle.score_list.specs.declared.towers.Towers.{Towers}
use Rattle.score_list.specs.declared.towers.Place.{Place}
use Rattle.score_list.specs.Rows.{IsRow, Holds, Reaches, Stands, Lacks, IsDistinct, AllTall, Hung, Unhung, HungScore, UnhungScore}

-- an element: its score, and the block of its member
abbrev pub Element : Type 0
Element = ℤ × BlockRef

abbrev pub no_link : Link
no_link = record { next = 0; span = 0; score = pos 0 }

abbrev pub no_element : Element
no_element = (pos 0, record { slab = 0; slot = 0 })

abbrev pub links_of : Option Tower → List Link
links_of None = []
links_of (Some t) = t.links.items

abbrev pub element_of : Option Tower → Element
element_of None = no_element
element_of (Some t) = (t.score, t.member)

-- the links of an owner, from the lowest level up
abbrev pub links_at : Towers → ℕ → List Link
links_at t zero = t.head
links_at t (suc k) = links_of (get t.slab k)

abbrev pub link_at : Towers → ℕ → ℕ → Link
link_at t level owner = slice_index_or (links_at t owner) level no_link

abbrev pub next_at : Towers → ℕ → ℕ → ℕ
next_at t level owner = (link_at t level owner).next

abbrev pub span_at : Towers → ℕ → ℕ → ℕ
span_at t level owner = (link_at t level owner).span

abbrev pub score_at : Towers → ℕ → ℕ → ℤ
score_at t level owner = (link_at t level owner).score

abbrev pub height_at : Towers → ℕ → ℕ
height_at t k = length (links_of (get t.slab k))

abbrev pub element_at : Towers → ℕ → Element
element_at t k = element_of (get t.slab k)

-- a tower's own score
abbrev pub score_of : Towers → ℕ → ℤ
score_of t k = (element_at t k).0

-- the tower reaches the level
abbrev pub tall : Towers → ℕ → ℕ → Bool
tall t level k = nat_lt level (height_at t k)

-- the keys along the links, of which so many are followed at most
abbrev pub chain : (ℕ → ℕ) → ℕ → ℕ → List ℕ
chain next zero link = []
chain next (suc more) zero = []
chain next (suc more) (suc k) = k ∷ chain next more (next (suc k))

-- the keys of the towers in order
abbrev pub order : Towers → List ℕ
order t = chain (next_at t 0) t.len (next_at t 0 0)

-- the elements in order
abbrev pub items : Towers → List Element
items t = map (element_at t) (order t)

-- a level's links lead over these towers
abbrev pub IsLevel : Towers → ℕ → List ℕ → Type 0
IsLevel t level ks = IsRow (tall t level) (next_at t level) (span_at t level) 0 0 ks

-- a level's links over these towers hold their scores
abbrev pub IsScored : Towers → ℕ → List ℕ → Type 0
IsScored t level ks = Holds (tall t level) (score_at t level) (score_of t) 0 ks

-- Each level is the part of the level below that reaches it, and each span is the number of elements that it passes,
-- and each link holds the score of the tower that it leads to.
pub record LinkedAs (t : Towers) (ks : List ℕ) : Type 0 where
  pub rows : (level : ℕ) → level < 16 → IsLevel t level ks
  pub scored : (level : ℕ) → level < 16 → IsScored t level ks
  pub based : AllTall (tall t 0) ks
  pub distinct : IsDistinct ks
  pub counted : t.len ≡ length ks
  pub full_head : length t.head ≡ 16
  pub short : t.len ≤ 2 ^ 62

abbrev pub IsLinked : Towers → Type 0
IsLinked t = LinkedAs t (order t)

-- an owner of the level stands in front of the rank, after so many elements
abbrev pub StandsAt : Towers → ℕ → ℕ → ℕ → ℕ → Type 0
StandsAt t level rank owner after =
    (rest : List ℕ) × Stands (tall t level) (take rank (order t)) owner rest × (after + length rest ≡ rank)

-- it is the last one in front of the rank
abbrev pub Arrives : Towers → ℕ → ℕ → ℕ → ℕ → Type 0
Arrives t level rank owner after =
    (left : ℕ) × Reaches (tall t level) (take rank (order t)) 0 0 owner left × (after + left ≡ rank)

abbrev pub no_place : Place
no_place = record { owner = 0; rank = 0 }

-- for each level its last owner in front of the rank
abbrev pub IsPath : Towers → ℕ → List Place → Type 0
IsPath t rank path =
    (level : ℕ) → level < 16
    → Arrives t level rank (slice_index_or path level no_place).owner (slice_index_or path level no_place).rank

-- a path's owner at a level
abbrev pub owner_on : List Place → ℕ → ℕ
owner_on path level = (slice_index_or path level no_place).owner

-- what an edit of links leaves
pub record Keeps (old new : Towers) : Type 0 where
  pub heights : height_at new ≡ height_at old
  pub elements : element_at new ≡ element_at old
  pub len : new.len ≡ old.len
  pub head : length new.head ≡ length old.head

pub record SetsLink (old new : Towers) (level owner : ℕ) (link : Link) : Type 0 where
  pub set_here : link_at new level owner ≡ link
  pub other_levels : (l o : ℕ) → l ≢ level → link_at new l o ≡ link_at old l o
  pub other_owners : (l o : ℕ) → o ≢ owner → link_at new l o ≡ link_at old l o
  pub keeps : Keeps old new

pub record Hangs (old new : Towers) (level x owner left : ℕ) : Type 0 where
  pub other_levels : (l o : ℕ) → l ≢ level → link_at new l o ≡ link_at old l o
  pub hung : Hung (tall old level) x owner left (next_at old level) (span_at old level) (next_at new level)
      (span_at new level)
  pub keeps : Keeps old new

pub record Unhangs (old new : Towers) (level x owner left : ℕ) : Type 0 where
  pub other_levels : (l o : ℕ) → l ≢ level → link_at new l o ≡ link_at old l o
  pub unhung : Unhung (tall old level) x owner left (next_at old level) (span_at old level) (next_at new level)
      (span_at new level)
  pub keeps : Keeps old new

-- what a tower that joins a level, or leaves it, makes of the scores in the level's links
abbrev pub HangsScore : Towers → Towers → ℕ → ℕ → ℕ → Type 0
HangsScore old new level x owner =
    HungScore (tall old level) x owner (score_of old x) (score_at old level) (score_at new level)

abbrev pub UnhangsScore : Towers → Towers → ℕ → ℕ → ℕ → Type 0
UnhangsScore old new level x owner = UnhungScore (tall old level) x owner (score_at old level) (score_at new level)

-- At each level that a tower reaches, the link of the owner on a path holds another score. Links lead where they led.
pub record RescoresLinks (old new : Towers) (key : ℕ) (path : List Place) (score : ℤ) : Type 0 where
  pub nexts : (l o : ℕ) → next_at new l o ≡ next_at old l o
  pub spans : (l o : ℕ) → span_at new l o ≡ span_at old l o
  pub rescored : (l : ℕ) → l < 16 → tall old l key ≡ true → score_at new l (owner_on path l) ≡ score
  pub other_levels : (l o : ℕ) → tall old l key ≡ false → score_at new l o ≡ score_at old l o
  pub other_owners : (l o : ℕ) → o ≢ owner_on path l → score_at new l o ≡ score_at old l o
  pub keeps : Keeps old new

-- the list with one more at a rank, and without the one there
abbrev pub with_at : {A : Type 0} → List A → ℕ → A → List A
with_at xs rank x = take rank xs ++ x ∷ drop rank xs

abbrev pub without_at : {A : Type 0} → List A → ℕ → List A
without_at xs rank = take rank xs ++ drop (suc rank) xs

-- a tower's links join every level at a rank
pub record Threads (old new : Towers) (key rank : ℕ) : Type 0 where
  pub rows : (level : ℕ) → level < 16 → IsLevel new level (with_at (order old) rank key)
  pub scored : (level : ℕ) → level < 16 → IsScored new level (with_at (order old) rank key)
  pub keeps : Keeps old new

-- they leave every level
pub record Unthreads (old new : Towers) (key rank : ℕ) : Type 0 where
  pub rows : (level : ℕ) → level < 16 → IsLevel new level (without_at (order old) rank)
  pub scored : (level : ℕ) → level < 16 → IsScored new level (without_at (order old) rank)
  pub keeps : Keeps old new

-- a tower stands beside the towers in order, and in no level yet
pub record Adds (old new : Towers) (key : ℕ) (element : Element) : Type 0 where
  pub linked : LinkedAs new (order old)
  pub len : new.len ≡ old.len
  pub fresh : Lacks (suc key) (order old)
  pub based : tall new 0 key ≡ true
  pub is : element_at new key ≡ element
  pub others : (k : ℕ) → k ≢ key → element_at new k ≡ element_at old k
  pub fits : key + 1 < 2 ^ 64

-- which tower stands at a rank
abbrev pub IsAt : Towers → ℕ → Option ℕ → Type 0
IsAt t rank None = rank ≡ length (order t)
IsAt t rank (Some key) = (rank < length (order t)) × (get_or (order t) rank 0 ≡ key)

-- the owner stands right before a rank
abbrev pub IsBefore : Towers → ℕ → ℕ → Type 0
IsBefore t rank owner = Reaches (tall t 0) (take rank (order t)) 0 0 owner 0

-- the list whose element at a rank has this member
abbrev pub renamed_at : List Element → ℕ → BlockRef → List Element
renamed_at xs rank new = slice_set xs rank ((slice_index_or xs rank no_element).0, new)
