-- The edits of a dictionary make its tables grow, each as an edit of the tables by key bytes.
use Rattle.std.proofs.Common.{◌≡◌, ℕ, ◌<◌, false, ◌||◌, List, [], ◌∷◌, map, Some, IsSome, Result, Ok, Err, IfOk, OnErr, refl, ap, ◌∙◌, arith}
use Rattle.blocks.specs.Blocks.{Blocks, bytes_at}
use Rattle.blocks.proofs.Serve.{served_once, served_then, served_same}
use Rattle.rev_cursor.specs.Span.{times}
use Rattle.rehash_dict.specs.Tables.{Tables, bucket, inserted, removed, shrunk}
use Rattle.rehash_dict.specs.Table.{Element, Table, item}
use Rattle.rehash_dict.specs.Steps.{Adds}
use Rattle.rehash_dict.specs.Keyed.{hash_of, same_key, key_of, Lacks, Keyed, key_tables}
use Rattle.rehash_dict.specs.Grown.{has_key, Absent, joins, leaves, shrinks, Grown}
use Rattle.rehash_dict.proofs.Counts.{times_here}
use Rattle.rehash_dict.proofs.Named.{bucket_named}
use Rattle.rehash_dict.proofs.Keys.{same_key_false, live_bytes, stands_older, stands_newer}

-- a key that none of the names is
has_key_none : (f : ℕ → List ℕ) (key : List ℕ) (row : List ℕ) → ((i : ℕ) → 0 < times i row → same_key (f i) key ≡ false) → has_key key (map f row) ≡ false
has_key_none f key [] h = refl
has_key_none f key (x ∷ xs) h =
    let first : same_key (f x) key ≡ false = h x (omega (arith, times_here x xs)) in
    let rest : has_key key (map f xs) ≡ false = has_key_none f key xs (λ i t. h i (omega (arith, t))) in
    λ i. first i || rest i

module _ {V : Type 0} where
  other_key : (blocks : Blocks) (t : Table V) (key : List ℕ) → Keyed blocks t → Lacks blocks t key → (at : ℕ) (e : Element V) → item t at ≡ Some e → same_key (key_of blocks (item t at)) key ≡ false
  other_key blocks t key k l at e h =
      ap (λ o. same_key (key_of blocks o) key) h
      ∙ same_key_false (bytes_at blocks e.key) key (λ same. l.each at e h (live_bytes blocks e.key (k.live at e h) ∙ ap Some same))

  -- A key that no element has stands in no bucket.
  pub lacks_absent : (blocks : Blocks) (t : Table V) (key : List ℕ) → Keyed blocks t → Lacks blocks t key → Absent key (key_tables blocks t)
  lacks_absent blocks t key k l = record {
    older = λ b. ap (has_key key) (bucket_named (λ i. key_of blocks (item t i)) t.older b) ∙ has_key_none (λ i. key_of blocks (item t i)) key (bucket t.older b)
        (λ i h. (let q = stands_older t k.placed b i h in other_key blocks t key k l i q.0 q.1));
    newer = λ b. ap (has_key key) (bucket_named (λ i. key_of blocks (item t i)) t.newer b) ∙ has_key_none (λ i. key_of blocks (item t i)) key (bucket t.newer b)
        (λ i h. (let q = stands_newer t k.placed b i h in other_key blocks t key k l i q.0 q.1));
  }

  -- the tables after `insert`, by its clause `tables`
  pub grown_insert : (blocks : Blocks) (old new : Table V) (key : List ℕ) → Keyed blocks old → Lacks blocks old key
      → key_tables blocks new ≡ inserted (hash_of old.seed) (key_tables blocks old) key → Grown (hash_of old.seed) (key_tables blocks old) (key_tables blocks new)
  grown_insert blocks old new key k l is = served_once (key_tables blocks old) (key_tables blocks new) (joins key (lacks_absent blocks old key k l) is)

-- the tables after `remove`, by its clause `tables`
pub grown_remove : (hash : List ℕ → ℕ) (old new : Tables (List ℕ)) (key : List ℕ) → new ≡ removed same_key old key → Grown hash old new
grown_remove hash old new key is = served_once old new (leaves key is)

-- the tables after `shrink`, by its clause `tables`
pub grown_shrink : (hash : List ℕ → ℕ) (old new : Tables (List ℕ)) → new ≡ shrunk old → Grown hash old new
grown_shrink hash old new is = served_once old new (shrinks is)

-- the tables that stay, as after `swap_ref` and `swap_value`
pub grown_same : (hash : List ℕ → ℕ) (old new : Tables (List ℕ)) → new ≡ old → Grown hash old new
grown_same hash old new is = served_same old new is

-- one list of edits after another
pub grown_then : (hash : List ℕ → ℕ) (a b c : Tables (List ℕ)) → Grown hash a b → Grown hash b c → Grown hash a c
grown_then hash a b c g h = served_then a b c g h
