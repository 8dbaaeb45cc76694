-- A dictionary beside a block that is new in the store.
use Rattle.std.proofs.Common.{◌≡◌, ℕ, List, Option, Some, None, [], unwrap_or, if◌then◌else◌, sym, subst, ◌∙◌, ap}
use Rattle.blocks.specs.declared.BlockRef.{BlockRef}
use Rattle.blocks.specs.Blocks.{Blocks, with_block, bytes_at}
use Rattle.blocks.proofs.Refs.{ref_eq_refl, with_block_other, apart_live}
use Rattle.rehash_dict.specs.Table.{Element, Table, item}
use Rattle.rehash_dict.specs.Keyed.{Keyed, Lacks, Stands, key_tables}
use Rattle.rehash_dict.proofs.Keys.{keyed_frame}

module _ {V : Type 0} (before after : Blocks) (at : BlockRef) (content : Option (List ℕ)) (t : Table V) (k : Keyed before t) (fresh : before at ≡ None)
    (placed : after ≡ with_block before at content) where
  key_kept : (i : ℕ) (e : Element V) → item t i ≡ Some e → after e.key ≡ before e.key
  key_kept i e h = (λ j. placed j e.key) ∙ with_block_other before at e.key content (apart_live before e.key at (k.live i e h) fresh)

  -- The dictionary means the same in the store with the new block.
  pub keyed_fresh : Keyed after t × (key_tables after t ≡ key_tables before t)
  keyed_fresh = keyed_frame before after t k key_kept

  -- A key that wasn't there isn't there in the store with the new block.
  pub lacks_fresh : (key : List ℕ) → Lacks before t key → Lacks after t key
  lacks_fresh key l = record { each = λ i e h same. l.each i e h (sym (key_kept i e h) ∙ same) }

-- the bytes of a block that was placed
pub placed_bytes : (before after : Blocks) (at : BlockRef) (key : List ℕ) → after ≡ with_block before at (Some key) → after at ≡ Some key
placed_bytes before after at key placed = (λ j. placed j at) ∙ ap (λ b. if b then Some key else before at) (ref_eq_refl at)

module _ {V : Type 0} where
  -- A key that wasn't there isn't there in the store with its new block.
  pub lacks_placed : (before after : Blocks) (at : BlockRef) (key : List ℕ) (t : Table V) → Keyed before t → before at ≡ None → after ≡ with_block before at (Some key) → Lacks before t key
      → Lacks after t (bytes_at after at)
  lacks_placed before after at key t k fresh placed l =
      subst (Lacks after t) (sym (ap (λ o. unwrap_or o []) (placed_bytes before after at key placed))) (lacks_fresh before after at (Some key) t k fresh placed key l)

  -- the key bytes of an element that stands
  pub stands_bytes : (blocks : Blocks) (t : Table V) (at : ℕ) (key : List ℕ) (e : Element V) → Stands blocks t at key → item t at ≡ Some e → blocks e.key ≡ Some key
  stands_bytes blocks t at key e s h =
      let same : s.element ≡ e = (let q : Some s.element ≡ Some e = sym s.found ∙ h in cc) in
      ap (λ (x : Element V). blocks x.key) (sym same) ∙ s.bytes
