-- How forms rise.
use Rattle.std.specs.Prelude.{◌≡◌, ℕ, Bool, false}
use Rattle.object_codec.specs.declared.limits.Limits.{Limits}
use Rattle.object_codec.specs.declared.form.Form.{Form}
use Rattle.object_codec.specs.declared.form.Form.TheVariants.{Intset, Listpack, Hashtable, Skiplist, Quicklist}
use Rattle.object_codec.specs.Forms.{FitsSet, FitsHash, FitsZset, FitsList, IsLeast, IsLeastFrom}

-- A value has one least form.
pub record FormsAreOne : Type 0 where
  pub set : (limits : Limits) (numbers : Bool) (count longest : ℕ) (f g : Form)
      → IsLeast (FitsSet limits numbers count longest) f → IsLeast (FitsSet limits numbers count longest) g → f ≡ g
  pub hash : (limits : Limits) (count longest : ℕ) (f g : Form) → IsLeast (FitsHash limits count longest) f
      → IsLeast (FitsHash limits count longest) g → f ≡ g
  pub zset : (limits : Limits) (count longest : ℕ) (f g : Form) → IsLeast (FitsZset limits count longest) f
      → IsLeast (FitsZset limits count longest) g → f ≡ g
  pub list : (pack_len : ℕ) (f g : Form) → IsLeast (FitsList pack_len) f → IsLeast (FitsList pack_len) g → f ≡ g

-- After an element was written, a value in the lowest form of its type has its least form, one in the highest form
-- keeps it, and a set in a listpack has the least form of a set that is not all numbers.
pub record FormsRise : Type 0 where
  pub intset : (limits : Limits) (numbers : Bool) (count longest : ℕ) (f : Form)
      → IsLeast (FitsSet limits numbers count longest) f → IsLeastFrom Intset (FitsSet limits numbers count longest) f
  pub set_listpack : (limits : Limits) (numbers : Bool) (count longest : ℕ) (f : Form)
      → IsLeast (FitsSet limits false count longest) f → IsLeastFrom Listpack (FitsSet limits numbers count longest) f
  pub set_hashtable : (limits : Limits) (numbers : Bool) (count longest : ℕ)
      → IsLeastFrom Hashtable (FitsSet limits numbers count longest) Hashtable
  pub hash_listpack : (limits : Limits) (count longest : ℕ) (f : Form) → IsLeast (FitsHash limits count longest) f
      → IsLeastFrom Listpack (FitsHash limits count longest) f
  pub hash_hashtable : (limits : Limits) (count longest : ℕ)
      → IsLeastFrom Hashtable (FitsHash limits count longest) Hashtable
  pub zset_listpack : (limits : Limits) (count longest : ℕ) (f : Form) → IsLeast (FitsZset limits count longest) f
      → IsLeastFrom Listpack (FitsZset limits count longest) f
  pub zset_skiplist : (limits : Limits) (count longest : ℕ)
      → IsLeastFrom Skiplist (FitsZset limits count longest) Skiplist
  pub list_listpack : (pack_len : ℕ) (f : Form) → IsLeast (FitsList pack_len) f
      → IsLeastFrom Listpack (FitsList pack_len) f
  pub list_quicklist : (pack_len : ℕ) → IsLeastFrom Quicklist (FitsList pack_len) Quicklist
