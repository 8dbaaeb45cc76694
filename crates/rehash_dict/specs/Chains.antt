-- How the buckets are kept: each is a chain through the entries. A link is 0, or an item number plus one.
use Rattle.std.specs.Prelude.{◌≡◌, if◌then◌else◌, nat_lt, ℕ, zero, suc, ◌+◌, ◌%◌, ◌<◌, List, [], ◌∷◌, Option, Some, None, is_some, count_by, map, length, slice_index, slice_index_or, slice_set}
use Rattle.blocks.specs.declared.BlockRef.{BlockRef}
use Rattle.slab.specs.Slab.{Slab, get}
use Rattle.rehash_dict.specs.declared.chains.Entry.{Entry}
use Rattle.rehash_dict.specs.declared.chains.Chain.{Chain}
use Rattle.rehash_dict.specs.Table.{Element}
use Rattle.rehash_dict.specs.Tables.{bucket, count}
use Rattle.rehash_dict.specs.Placed.{Stand}

-- the heads when the entry behind this one, or the first, has left a chain
abbrev pub head_after : List ℕ → ℕ → Option ℕ → ℕ → List ℕ
head_after heads k None next = slice_set heads k next
head_after heads k (Some p) next = heads

module _ {V : Type 0} where
  abbrev pub key_of_entry : Entry V → BlockRef
  key_of_entry e = record { slab = e.slab; slot = e.slot }

  -- so many entries fit without memory: none where the next item number is too great for a link
  abbrev pub room : Slab (Entry V) → ℕ
  room s = if nat_lt s.vacant_key 4294967295 then s.capacity else 0

  abbrev pub element_of : Option (Entry V) → Option (Element V)
  element_of None = None
  element_of (Some e) = Some (record { key = key_of_entry e; hash = e.hash; value = e.value })

  abbrev pub entry_at : List (Option (Entry V)) → ℕ → Option (Entry V)
  entry_at slots i = slice_index_or slots i None

  abbrev pub chain_on : (ℕ → List ℕ) → ℕ → Option (Entry V) → List ℕ
  chain_on rest i None = []
  chain_on rest i (Some e) = i ∷ rest e.next

  -- the item numbers of a chain, of which so many are walked at most
  abbrev pub chain : List (Option (Entry V)) → ℕ → ℕ → List ℕ
  chain slots zero link = []
  chain slots (suc more) zero = []
  chain slots (suc more) (suc i) = chain_on (λ next. chain slots more next) i (entry_at slots i)

  -- the buckets of a table with these heads
  abbrev pub rows : List (Option (Entry V)) → List ℕ → List (List ℕ)
  rows slots heads = map (λ link. chain slots (count_by is_some slots) link) heads

  -- from this link these entries are linked in order, and the last links to none
  abbrev pub IsChain : List (Option (Entry V)) → ℕ → List ℕ → Type 0
  IsChain slots link [] = link ≡ 0
  IsChain slots link (i ∷ rest) =
      (link ≡ suc i) × (e : Entry V) × (entry_at slots i ≡ Some e) × IsChain slots e.next rest

  -- each chain comes to its end
  abbrev pub Ends : List (Option (Entry V)) → List ℕ → Type 0
  Ends slots heads = (k : ℕ) → k < length heads → IsChain slots (slice_index heads k) (bucket (rows slots heads) k)

  pub record IsLinked (slots : List (Option (Entry V))) (older newer : List ℕ) (waiting : ℕ) : Type 0 where
    pub ends_older : Ends slots older
    pub ends_newer : Ends slots newer
    pub stand : Stand (map element_of slots) (rows slots older) (rows slots newer)
    pub waits : waiting ≡ count (rows slots older)

  -- the item numbers that a walk has left
  abbrev pub chain_left : Chain V → List ℕ
  chain_left c = chain c.entries.now.slots c.left c.link

  -- an entry is put before the head of its bucket's chain
  pub record Links (old : Slab (Entry V)) (heads : List ℕ) (at : ℕ) (new : Slab (Entry V)) (after : List ℕ)
      : Type 0 where
    pub entry : Entry V
    pub found : get old at ≡ Some entry
    pub slots : new.slots
        ≡ slice_set old.slots at (Some (record entry { next = slice_index heads (entry.hash % length heads) }))
    pub heads_after : after ≡ slice_set heads (entry.hash % length heads) (suc at)
    pub vacant : new.vacant_key ≡ old.vacant_key
    pub capacity : new.capacity ≡ old.capacity

  -- the entry at the head of a chain leaves it
  abbrev pub Pops : Slab (Entry V) → List ℕ → ℕ → Option ℕ → List ℕ → Type 0
  Pops entries heads k None after = (after ≡ heads) × ((at : ℕ) → slice_index heads k ≡ suc at → get entries at ≡ None)
  Pops entries heads k (Some at) after =
      (e : Entry V) × (get entries at ≡ Some e) × (slice_index heads k ≡ suc at) × (after ≡ slice_set heads k e.next)

  -- the entry links to another
  abbrev pub relinked : ℕ → Option (Entry V) → Option (Entry V)
  relinked next None = None
  relinked next (Some e) = Some (record e { next = next })

  -- the slots when an entry has gone, and the one before it links to what it linked to
  abbrev pub bridged : List (Option (Entry V)) → Option ℕ → ℕ → List (Option (Entry V))
  bridged slots None next = slots
  bridged slots (Some p) next = slice_set slots p (relinked next (entry_at slots p))

  -- an entry, with this key and value, leaves its bucket's chain and the slots
  pub record Unlinks (old : Slab (Entry V)) (heads : List ℕ) (k : ℕ) (before : Option ℕ) (at : ℕ) (key : BlockRef)
      (value : V) (new : Slab (Entry V)) (after : List ℕ) : Type 0 where
    pub hash : ℕ
    pub next : ℕ
    pub found : get old at ≡ Some (record { slab = key.slab; slot = key.slot; next = next; hash = hash; value = value })
    pub slots : new.slots ≡ bridged (slice_set old.slots at None) before next
    pub heads_after : after ≡ head_after heads k before next
    pub len : count_by is_some new.slots + 1 ≡ count_by is_some old.slots
    pub capacity : new.capacity ≡ old.capacity
