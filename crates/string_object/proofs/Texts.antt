-- Strings over blocks that change.
use Rattle.std.proofs.Common.{◌≡◌, ℕ, List, [], ◌++◌, Option, Some, None, unwrap_or, refl, ap, ◌∙◌, arith}
use Rattle.std.proofs.lemmas.Bool.{cond-true}
use Rattle.blocks.specs.declared.BlockRef.{BlockRef}
use Rattle.blocks.specs.Blocks.{Blocks, with_block, overwritten, bytes_at, IsIn, Changes, Owned}
use Rattle.blocks.proofs.Refs.{ref_eq_refl, with_block_other, apart_live}
use Rattle.blocks.proofs.Change.{one, live_is_in_change, live_once, counts_changed, owned_others}
use Rattle.blocks.proofs.Times.{times-append}
use Rattle.blocks.proofs.Written.{bytes_at_placed}
use Rattle.string_object.specs.declared.text.Text.{Text}
use Rattle.string_object.specs.declared.text.Text.TheVariants.{Number, Whole, Raw}
use Rattle.string_object.specs.Laws.{TextLaws}
use Rattle.string_object.specs.Text.{block, text_bytes, text_refs}

one_self : (at : BlockRef) → one at at ≡ 1
one_self at = cond-true _ _ _ (ref_eq_refl at)

-- a string depends on its own blocks
pub text_own : (a b : Blocks) (text : Text) → ((r : BlockRef) → IsIn r (text_refs text) → b r ≡ a r) → text_bytes b text ≡ text_bytes a text
text_own a b (Number n) same = refl
text_own a b (Whole slot slab) same = ap (λ o. unwrap_or o []) (same (block slot slab) (omega (arith, one_self (block slot slab))))
text_own a b (Raw slot slab) same = ap (λ o. unwrap_or o []) (same (block slot slab) (omega (arith, one_self (block slot slab))))

pub text_beside : (m n : Blocks) (at : BlockRef) (content : Option (List ℕ)) (text : Text) → Owned (text_refs text) m → m at ≡ None → n ≡ with_block m at content
    → text_bytes n text ≡ text_bytes m text
text_beside m n at content text own fresh is = text_own m n text
    (λ r isin. ap (λ k. k r) is ∙ with_block_other m at r content (apart_live m r at (live_is_in_change m r (omega (arith, own r, isin))) fresh))

text_others : (a b : Blocks) (text : Text) (old new : List BlockRef) → Owned (text_refs text ++ old) a → Changes a b old new → text_bytes b text ≡ text_bytes a text
text_others a b text old new own p = text_own a b text
    (λ r isin. owned_others a b old new (text_refs text ++ old) own p r (omega (arith, isin, times-append r (text_refs text) old))
    (omega (arith, isin, own r, times-append r (text_refs text) old, live_once a r)))

text_stays : (a b : Blocks) (text : Text) (old new : List BlockRef) → Owned (text_refs text ++ old) a → Changes a b old new → Owned (text_refs text ++ new) b
text_stays a b text old new own p r = omega (
  arith,
  own r,
  times-append r (text_refs text) old,
  times-append r (text_refs text) new,
  (counts_changed a b old new (λ q. omega (arith, own q, times-append q (text_refs text) old)) p).balance r,
)

pub text_laws_hold : TextLaws
text_laws_hold = record { own = text_own; others = text_others; stays = text_stays }

-- the string that stands in a written block
pub text_written : (m n : Blocks) (at : BlockRef) (start : ℕ) (piece whole : List ℕ) (text : Text) → text ≡ Raw at.slot at.slab → m at ≡ Some whole
    → n ≡ with_block m at (Some (overwritten (bytes_at m at) start piece)) → text_bytes n text ≡ overwritten whole start piece
text_written m n at start piece whole text here was is =
    ap (text_bytes n) here
    ∙ ap (λ k. bytes_at k at) is
    ∙ bytes_at_placed m at (overwritten (bytes_at m at) start piece)
    ∙ ap (λ o. overwritten (unwrap_or o []) start piece) was
