-- What HSCAN, SSCAN and ZSCAN show of the value that they go through, as it stands (Redis command reference, "SCAN").
use Rattle.std.specs.Prelude.{◌≡◌, ◌<◌, ◌^◌, ℕ, ℤ, List, [], Option, None, Some, Bool}
use Rattle.std.specs.List.{flat_map}
use Rattle.blocks.specs.Blocks.{Blocks}
use Rattle.set_object.specs.Items as set
use Rattle.set_object.specs.Scan as set_scan
use Rattle.hash_object.specs.Items as hash
use Rattle.hash_object.specs.Scan as hash_scan
use Rattle.zset_object.specs.Items as zset
use Rattle.zset_object.specs.Scan as zset_scan
use Rattle.rev_cursor.specs.Span.{Span}
use Rattle.scan_cursor.specs.Page.{scan_list}
use Rattle.plain_world.specs.Worlds.{live, look}
use Rattle.plain_world.specs.declared.reply.Part.{Part}
use Rattle.plain_model.specs.Outcomes.{IsRefusal}
use Rattle.plain_model.specs.Scans as scans
use Rattle.plain_model.specs.Coverage.{TellsPage}
use Rattle.plain_model.specs.declared.keys.ScanOptions.{ScanOptions}
use Rattle.plain_model.specs.declared.ctx.Ctx.{Ctx}
use Rattle.held.specs.Calls as held
use Rattle.keyspace.specs.Databases.{Bases, means}
use Rattle.keyspace.specs.Values.{value_of, value_refs}
use Rattle.keyspace.specs.declared.value.Value.{Value}
use Rattle.keyspace.specs.declared.value.Value.TheVariants as kinds
use Rattle.keyspace.specs.Sifted.{Sifted, PassesOf}

-- the item numbers of a move over a value at a cursor, and the next cursor: those of a move over its tables, and of a packed
-- value all and 0
abbrev pub moved : Value → ℕ → List ℕ × ℕ
moved (kinds.Set b) cursor = set_scan.moved b.value.body cursor
moved (kinds.Hash b) cursor = hash_scan.moved b.value.body cursor
moved (kinds.Zset b) cursor = zset_scan.moved b.value.body cursor
moved other cursor = ([], 0)

abbrev pub field_of : Option (List ℕ × List ℕ) → Option (List ℕ)
field_of None = None
field_of (Some pair) = Some pair.0

abbrev pub member_of : Option (ℤ × List ℕ) → Option (List ℕ)
member_of None = None
member_of (Some pair) = Some pair.1

-- the member or the field of an item number
abbrev pub element_at : Blocks → Value → ℕ → Option (List ℕ)
element_at m (kinds.Set b) item = set.member_at m b.value item
element_at m (kinds.Hash b) item = field_of (hash.pair_at m b.value item)
element_at m (kinds.Zset b) item = member_of (zset.pair_at m b.value item)
element_at m other item = None

-- a member or field has the item number, and MATCH lets it pass
abbrev pub PassesIn : Blocks → Value → Option (List ℕ) → ℕ → List ℕ → Type 0
PassesIn m value pattern item element = PassesOf (element_at m value) pattern item element

-- A page of what has item numbers: its moves until enough elements were met, without those that MATCH drops, and what is
-- told of the others.
pub record IsPageOf (can_stand : (ℕ → Option ℕ) → Type 0) (move : ℕ → List ℕ) (after : ℕ → ℕ)
    (element_of : ℕ → Option (List ℕ)) (words_of : List ℕ → List (List ℕ)) (cursor : ℕ) (options : ScanOptions)
    (reply : List Part) : Type 0 where
  pub items : List ℕ
  pub next : ℕ
  pub elements : List (List ℕ)
  pub fits : next < 2 ^ 64
  pub moves : scan_list move after cursor options.count ≡ (items, next)
  pub span : (place_of : ℕ → Option ℕ) → can_stand place_of → Span place_of cursor next items
  pub sifted : Sifted (PassesOf element_of options.pattern) items elements
  pub is : reply ≡ scans.paged next (flat_map words_of elements)

-- A page of what stands at a key: its moves until enough elements were met, without those that MATCH drops. A missing key
-- has an empty page, and the scan ends there; a value of another type is refused.
pub data IsValuePage (bases : Bases) (m : Blocks) (at : Ctx) (key : List ℕ) (cursor : ℕ) (options : ScanOptions) (pairs : Bool)
    (reply : List Part) : Type 0 where
  nothing : look (live (means at.db bases m) at.moment) key ≡ None → TellsPage pairs 0 [] reply
      → IsValuePage bases m at key cursor options pairs reply
  refused : IsRefusal reply → IsValuePage bases m at key cursor options pairs reply
  paged : (value : Value) (items : List ℕ) (next : ℕ) (elements : List (List ℕ))
      → held.Found value_refs value_of bases m at.db key at.moment value
      → scan_list (λ c. (moved value c).0) (λ c. (moved value c).1) cursor options.count ≡ (items, next)
      → Sifted (PassesIn m value options.pattern) items elements → TellsPage pairs next elements reply
      → IsValuePage bases m at key cursor options pairs reply
