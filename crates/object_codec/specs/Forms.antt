-- Which form a collection has. (Redis command reference, OBJECT ENCODING, and the configuration of listpack and intset
-- limits.)
use Rattle.std.specs.Prelude.{◌≡◌, ℕ, ◌≤◌, Bool, true, ⊤, List, codes}
use Rattle.object_codec.specs.declared.limits.Limits.{Limits}
use Rattle.object_codec.specs.declared.form.Form.{Form}
use Rattle.object_codec.specs.declared.form.Form.TheVariants.{Intset, Listpack, Hashtable, Skiplist, Quicklist, Stream}

-- The order of the forms of each type: those of a set rise from intset to listpack to hashtable.
abbrev pub rank : Form → ℕ
rank Intset = 0
rank Listpack = 1
rank Hashtable = 2
rank Skiplist = 2
rank Quicklist = 2
rank Stream = 2

-- all members are numbers, and few, or few members that are short, or anything
abbrev pub FitsSet : Limits → Bool → ℕ → ℕ → Form → Type 0
FitsSet limits numbers count longest Intset = (numbers ≡ true) × (count ≤ limits.set_intset)
FitsSet limits numbers count longest Listpack = (count ≤ limits.set_entries) × (longest ≤ limits.set_value)
FitsSet limits numbers count longest Hashtable = ⊤
FitsSet limits numbers count longest Skiplist = ⊥
FitsSet limits numbers count longest Quicklist = ⊥
FitsSet limits numbers count longest Stream = ⊥

abbrev pub FitsHash : Limits → ℕ → ℕ → Form → Type 0
FitsHash limits count longest Intset = ⊥
FitsHash limits count longest Listpack = (count ≤ limits.hash_entries) × (longest ≤ limits.hash_value)
FitsHash limits count longest Hashtable = ⊤
FitsHash limits count longest Skiplist = ⊥
FitsHash limits count longest Quicklist = ⊥
FitsHash limits count longest Stream = ⊥

abbrev pub FitsZset : Limits → ℕ → ℕ → Form → Type 0
FitsZset limits count longest Intset = ⊥
FitsZset limits count longest Listpack = (count ≤ limits.zset_entries) × (longest ≤ limits.zset_value)
FitsZset limits count longest Hashtable = ⊥
FitsZset limits count longest Skiplist = ⊤
FitsZset limits count longest Quicklist = ⊥
FitsZset limits count longest Stream = ⊥

-- one listpack of all elements has this many bytes
abbrev pub FitsList : ℕ → Form → Type 0
FitsList pack_len Intset = ⊥
FitsList pack_len Listpack = pack_len ≤ 8192
FitsList pack_len Hashtable = ⊥
FitsList pack_len Skiplist = ⊥
FitsList pack_len Quicklist = ⊤
FitsList pack_len Stream = ⊥

-- the least form that fits: that of a value written anew
pub record IsLeast (fits : Form → Type 0) (form : Form) : Type 0 where
  pub fitting : fits form
  pub least : (other : Form) → fits other → rank form ≤ rank other

-- the least form not below an old one that fits: that of a value after an element was written
pub record IsLeastFrom (old : Form) (fits : Form → Type 0) (form : Form) : Type 0 where
  pub fitting : fits form
  pub from_old : rank old ≤ rank form
  pub least : (other : Form) → fits other → rank old ≤ rank other → rank form ≤ rank other

-- what OBJECT ENCODING answers
abbrev pub form_text : Form → List ℕ
form_text Intset = codes "intset"
form_text Listpack = codes "listpack"
form_text Hashtable = codes "hashtable"
form_text Skiplist = codes "skiplist"
form_text Quicklist = codes "quicklist"
form_text Stream = codes "stream"
