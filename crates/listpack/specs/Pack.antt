-- The whole listpack. (Listpack specification, "General structure".)
use Rattle.std.specs.Prelude.{◌≡◌, ◌≢◌, ◌⊎◌, ℕ, zero, suc, ◌+◌, ◌-◌, ◌<◌, ◌≤◌, List, [], ◌∷◌, ◌++◌, length, take, drop, map, slice_index, slice_range}
use Rattle.std.specs.List.{All, flat_map}
use Rattle.byteorder.specs.Endian.{little_number}
use Rattle.listpack.specs.declared.fault.PackFault.{PackFault}
use Rattle.listpack.specs.declared.fault.PackFault.TheVariants as faults
use Rattle.listpack.specs.Entry.{needed, IsSpelling, text_of, back_length, entry_of}

-- the entries of these spellings, one after the other
abbrev pub entries : List (List ℕ) → List ℕ
entries spellings = flat_map entry_of spellings

-- The header's two fields: the number of bytes, and the number of elements as far as it is told.
abbrev pub total : List ℕ → ℕ
total bytes = little_number 4 bytes

abbrev pub told : List ℕ → ℕ
told bytes = little_number 2 (drop 4 bytes)

-- what stands between the header and the last byte
abbrev pub region : List ℕ → List ℕ
region bytes = slice_range bytes 6 (length bytes - 1)

abbrev pub last_byte : List ℕ → ℕ
last_byte bytes = slice_index bytes (length bytes - 1)

-- The bytes are a listpack whose entries have these spellings. A count of 65,535 means not told.
pub record HasSpellings (bytes : List ℕ) (spellings : List (List ℕ)) : Type 0 where
  pub header : 7 ≤ length bytes
  pub size : total bytes ≡ length bytes
  pub all_entries : region bytes ≡ entries spellings
  pub each : All IsSpelling spellings
  pub ended : last_byte bytes ≡ 0xFF
  pub count : told bytes ≢ 65535 → told bytes ≡ length spellings

-- The format relation: the bytes are a listpack of these elements, each by its text.
abbrev pub Packs : List ℕ → List (List ℕ) → Type 0
Packs bytes list = (spellings : List (List ℕ)) × HasSpellings bytes spellings × (list ≡ map text_of spellings)

-- The bytes begin with these entries, and the rest follows.
abbrev pub Begins : List ℕ → List (List ℕ) → List ℕ → Type 0
Begins bytes spellings rest = (bytes ≡ entries spellings ++ rest) × All IsSpelling spellings

abbrev pub IsSized : List ℕ → Type 0
IsSized bytes = (7 ≤ length bytes) × (total bytes ≡ length bytes)

-- The rest begins with an entry whose first byte is no encoding, or whose content passes the last byte of the listpack.
abbrev pub IsCutShort : List ℕ → Type 0
IsCutShort rest = (0 < length rest) × (length rest < needed rest)

-- The rest begins with an entry whose content is there, and behind it something else than its back length.
abbrev pub LacksBackLength : List ℕ → Type 0
LacksBackLength rest = (s : List ℕ) × (more : List ℕ) × (rest ≡ s ++ more) × IsSpelling s
    × ((after : List ℕ) → more ≢ back_length (length s) ++ after)

-- the fault of the entry that the rest begins with
abbrev pub IsEntryFault : List ℕ → PackFault → Type 0
IsEntryFault rest faults.Short = ⊥
IsEntryFault rest faults.Total = ⊥
IsEntryFault rest faults.Entry = IsCutShort rest
IsEntryFault rest faults.BackLength = LacksBackLength rest
IsEntryFault rest faults.Count = ⊥
IsEntryFault rest faults.End = ⊥

-- the fault of the first entry that has one, from left to right
abbrev pub IsRegionFault : List ℕ → PackFault → Type 0
IsRegionFault bytes fault =
    (spellings : List (List ℕ)) × (rest : List ℕ) × Begins bytes spellings rest × IsEntryFault rest fault

-- The first fault of bytes that are no listpack: too short; another total; an entry's first byte or content, then its
-- back length, from left to right; the last byte; the count.
abbrev pub IsFault : List ℕ → PackFault → Type 0
IsFault bytes faults.Short = length bytes < 7
IsFault bytes faults.Total = (7 ≤ length bytes) × (total bytes ≢ length bytes)
IsFault bytes faults.Entry = IsSized bytes × IsRegionFault (region bytes) faults.Entry
IsFault bytes faults.BackLength = IsSized bytes × IsRegionFault (region bytes) faults.BackLength
IsFault bytes faults.End =
    IsSized bytes × ((spellings : List (List ℕ)) × Begins (region bytes) spellings [] × (last_byte bytes ≢ 0xFF))
IsFault bytes faults.Count = IsSized bytes
    × ((spellings : List (List ℕ)) × Begins (region bytes) spellings [] × (last_byte bytes ≡ 0xFF)
    × (told bytes ≢ 65535) × (told bytes ≢ length spellings))

-- The spellings of the entries, read from left to right; n bounds their number.
unfoldable pub cut : ℕ → List ℕ → List (List ℕ)
cut zero bytes = []
cut (suc n) [] = []
cut (suc n) (b ∷ more) =
    let size = needed (b ∷ more) in
    take size (b ∷ more) ∷ cut n (drop (size + length (back_length size)) (b ∷ more))

unfoldable pub spellings_of : List ℕ → List (List ℕ)
spellings_of bytes = cut (length bytes) (region bytes)

-- The bytes are a listpack.
abbrev pub IsPack : List ℕ → Type 0
IsPack bytes = HasSpellings bytes (spellings_of bytes)

-- the elements of a listpack, each by its text
abbrev pub texts : List ℕ → List (List ℕ)
texts bytes = map text_of (spellings_of bytes)

-- Bytes are a listpack of one list, or have one first fault, and never both; and the list is the one that reading
-- gives.
pub record ExactlyOne (bytes : List ℕ) : Type 0 where
  pub either : ((list : List (List ℕ)) × Packs bytes list) ⊎ ((fault : PackFault) × IsFault bytes fault)
  pub not_both : (list : List (List ℕ)) (fault : PackFault) → Packs bytes list → IsFault bytes fault → ⊥
  pub one_fault : (f g : PackFault) → IsFault bytes f → IsFault bytes g → f ≡ g
  pub whole : IsPack bytes → Packs bytes (texts bytes)
  pub read : (list : List (List ℕ)) → Packs bytes list → IsPack bytes × (list ≡ texts bytes)

-- the offset of the entry i, or at the end of all entries that of the last byte
abbrev pub offset_of : List ℕ → ℕ → ℕ
offset_of bytes i = 6 + length (entries (take i (spellings_of bytes)))

-- the entry i stands at this offset
abbrev pub IsAt : List ℕ → ℕ → ℕ → Type 0
IsAt bytes i at = (i < length (texts bytes)) × (at ≡ offset_of bytes i)

-- the offset of an entry
abbrev pub IsOffset : List ℕ → ℕ → Type 0
IsOffset bytes at = (i : ℕ) × IsAt bytes i at
