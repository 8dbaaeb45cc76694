-- What contracts see of a list over a store.
use Rattle.std.specs.Prelude.{◌≡◌, ℕ, ◌<◌, ◌⊎◌, ◌∷◌, ◌++◌, [], List, length, map, take, drop, get_or, ◌+◌, ◌≤◌, Option, Some, None, IfSome, false, ◌-◌}
use Rattle.blocks.specs.declared.BlockRef.{BlockRef}
use Rattle.blocks.specs.declared.Moved.{Moved}
use Rattle.blocks.specs.Slabs.{Heap, wants}
use Rattle.blocks.specs.Blocks.{Blocks, Changes}
use Rattle.object_codec.specs.Forms.{IsLeastFrom, FitsList}
use Rattle.object_codec.specs.declared.form.Form.{Form}
use Rattle.object_codec.specs.declared.form.Form.TheVariants.{Intset, Listpack, Hashtable, Skiplist, Quicklist, Stream}
use Rattle.quicklist.specs.declared.node.Container.{Container}
use Rattle.quicklist.specs.declared.node.Container.TheVariants.{Packed}
use Rattle.quicklist.specs.declared.node.Node.{Node}
use Rattle.quicklist.specs.Nodes.{IsChain, refs_of, elements_of, container_of, node_at, pack_len}

-- its nodes in order, the number of its elements, and its form
pub record Chain : Type 0 where
  pub nodes : List Node
  pub len : ℕ
  pub form : Form

-- the elements of the list, by the blocks of its nodes (Redis command reference, data type Lists: a sequence of
-- strings)
abbrev pub elements : Blocks → Chain → List (List ℕ)
elements blocks q = elements_of blocks q.nodes

-- the references that it owns, one a node
abbrev pub refs : Chain → List BlockRef
refs q = refs_of q.nodes

-- a list of form listpack has no node or one packed node
abbrev pub IsFormed : Form → List Container → Type 0
IsFormed Intset containers = ⊥
IsFormed Listpack containers = (containers ≡ []) ⊎ (containers ≡ Packed ∷ [])
IsFormed Hashtable containers = ⊥
IsFormed Skiplist containers = ⊥
IsFormed Quicklist containers = Unit {0}
IsFormed Stream containers = ⊥

-- The list owns its blocks, which hold its elements, and has so many elements as it counts.
pub record IsQuick (blocks : Blocks) (q : Chain) : Type 0 where
  pub chain : IsChain blocks q.nodes
  pub counted : q.len ≡ length (elements blocks q)
  pub formed : IsFormed q.form (map container_of q.nodes)

-- The list has these elements now, over the blocks that it owns.
pub record IsChanged (before after : Blocks) (old new : Chain) (list : List (List ℕ)) : Type 0 where
  pub quick : IsQuick after new
  pub list_is : elements after new ≡ list
  pub changes : Changes before after (refs old) (refs new)

-- The form of a list of these elements after one was written: the least one that fits and isn't below the old one.
abbrev pub IsRisen : Form → List (List ℕ) → Form → Type 0
IsRisen old list new = IsLeastFrom old (FitsList (pack_len list)) new

-- The list has these elements now, after one was written, over the blocks that it owns.
pub record IsWritten (before after : Blocks) (old new : Chain) (list : List (List ℕ)) : Type 0 where
  pub quick : IsQuick after new
  pub list_is : elements after new ≡ list
  pub form : IsRisen old.form list new.form
  pub changes : Changes before after (refs old) (refs new)

-- so many elements are these, and one listpack of them is too long
pub record IsOverfull (old : Chain) (list : List (List ℕ)) (len : ℕ) : Type 0 where
  pub counted : len ≡ length list
  pub long : old.form ≡ Listpack → 8192 < pack_len list

-- the elements with others in the place of those of the nodes from k to below e
abbrev pub respelled : Blocks → Chain → ℕ → List (List ℕ) → ℕ → List (List ℕ)
respelled blocks q k list e = elements_of blocks (take k q.nodes) ++ (list ++ elements_of blocks (drop e q.nodes))

-- the list with an element in the place of those from the index `from` to below `to`
abbrev pub around : ℕ → ℕ → List ℕ → List (List ℕ) → List (List ℕ)
around from to element list = take from list ++ (element ∷ drop to list)

-- Nodes of the same elements, in containers as those of the first ones, over blocks that weren't live.
pub record IsCopied (before after : Blocks) (nodes copy : List Node) : Type 0 where
  pub chain : IsChain after copy
  pub list_is : elements_of after copy ≡ elements_of before nodes
  pub changes : Changes before after [] (refs_of copy)
  pub containers : map container_of copy ≡ map container_of nodes

-- The nodes name their bytes by the references that they have now, and these nodes and all other blocks stay.
pub record IsSettled (before after : Blocks) (old new : List Node) (stays : ℕ → Type 0) : Type 0 where
  pub chain : IsChain after new
  pub list_is : elements_of after new ≡ elements_of before old
  pub changes : Changes before after (refs_of old) (refs_of new)
  pub containers : map container_of new ≡ map container_of old
  pub others : (i : ℕ) → stays i → node_at new i ≡ node_at old i

-- the reference at an index
abbrev pub ref_at : List BlockRef → ℕ → BlockRef
ref_at list i = get_or list i (record { slab = 0; slot = 0 })

-- the greatest mark below which all blocks are passed, which is the number of the blocks where all are
abbrev pub passed_to : ℕ → Option ℕ → ℕ
passed_to count None = count
passed_to count (Some next) = next

-- the index is not from `start` to below `end`
abbrev pub IsOutside : ℕ → ℕ → ℕ → Type 0
IsOutside start end i = (i < start) ⊎ (end ≤ i)

-- The blocks from the mark `from` to below the answer's are passed and want no move, and so many of them were; the others
-- have the references that they had.
pub record IsPassed (heap : Heap) (old new : List BlockRef) (from room : ℕ) (answer : Moved) : Type 0 where
  pub within : answer.used ≤ room
  pub counted : answer.used ≡ passed_to (length old) answer.next - from
  pub on : IfSome answer.next (λ next. (from < next) × (room ≤ answer.used + 17) × (next < length new))
  pub same_count : length new ≡ length old
  pub calm : (i : ℕ) → from ≤ i → i < passed_to (length new) answer.next → wants heap (ref_at new i) ≡ false
  pub stays : (i : ℕ) → IsOutside from (passed_to (length old) answer.next) i → ref_at new i ≡ ref_at old i
