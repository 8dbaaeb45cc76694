-- What blocks hold after edits of one of them.
use Rattle.std.proofs.Common.{◌≡◌, ℕ, ◌+◌, ◌-◌, ◌≤◌, List, [], ◌∷◌, ◌++◌, Some, None, IsSome, IsTrue, Bool, false, unwrap_or, length, take, drop, replicate, refl, sym, ap, ◌∙◌, subst, inl, inr, arith}
use Rattle.std.proofs.lemmas.Bool.{cond-true, cond-false, cases_Bool}
use Rattle.std.proofs.lemmas.List.{length-replicate, length-append}
use Rattle.blocks.specs.declared.BlockRef.{BlockRef}
use Rattle.blocks.specs.Blocks.{Blocks, with_block, bytes_at, overwritten, resized, shifted, live, times, Changes, Owned}
use Rattle.blocks.proofs.Refs.{ref_eq_refl, ref_eq_sym, cases_ref, with_block_same, with_block_other, apart_live}
use Rattle.blocks.proofs.Change.{one, live_some, counts_placed, counts_written, counts_ended, counts_then, changes_counted, with_block_twice}
use Rattle.blocks.proofs.Copies.{bytes_beside, with_block_apart, with_block_kept, live_bytes}
use Rattle.blocks.proofs.Written.{bytes_at_placed}
use Rattle.pack_block.specs.Gap.{HasGap}
use Rattle.pack_block.proofs.Shapes.{gap_in, gap_wide, resized_same, spliced_same, shifted_wider, shifted_narrower, copied_around, length_around}

pub owned_one : (m : Blocks) (at : BlockRef) → IsSome (m at) → Owned (at ∷ []) m
owned_one m at was r = elim (cases_ref r at) [
  | inl same ↦ subst (λ q. times q (at ∷ []) ≤ live m q) (sym same) (let o : one at at ≡ 1 = cond-true _ _ _ (ref_eq_refl at) in omega (arith, o, live_some m at was))
  | inr other ↦ (let o : one r at ≡ 0 = cond-false _ _ _ (ref_eq_sym at r ∙ other) in omega (arith, o))
]

-- one block has other bytes
pub written_changes : (m n : Blocks) (at : BlockRef) (bytes : List ℕ) → IsSome (m at) → n ≡ with_block m at (Some bytes) → Changes m n (at ∷ []) (at ∷ [])
written_changes m n at bytes was is =
    let o : one at at ≡ 1 = cond-true _ _ _ (ref_eq_refl at) in
    changes_counted m n (at ∷ []) (at ∷ []) (owned_one m at was) (counts_written m n at bytes (at ∷ []) (at ∷ []) was is (omega (arith, o)) (λ r. refl))

-- one block ended, and another stands
pub moved_changes : (m n : Blocks) (at new : BlockRef) (bytes : List ℕ) → IsSome (m at) → m new ≡ None → n ≡ with_block (with_block m at None) new (Some bytes)
    → Changes m n (at ∷ []) (new ∷ [])
moved_changes m n at new bytes was fresh is =
    let free : with_block m at None new ≡ None = elim (cases_ref new at)
    [ inl same ↦ ap (with_block m at None) same ∙ with_block_same m at None | inr other ↦ with_block_other m at new None other ∙ fresh ] in
    changes_counted m n (at ∷ []) (new ∷ []) (owned_one m at was)
    (counts_then m (with_block m at None) n (at ∷ []) [] (new ∷ []) (counts_ended m (with_block m at None) at (at ∷ []) [] was refl (λ r. omega arith))
    (counts_placed (with_block m at None) n new bytes [] (new ∷ []) free is (λ r. omega arith)))

-- a block got bytes, and then others made of those
pub written_twice : (m mid after : Blocks) (at : BlockRef) (bytes : List ℕ) (f : List ℕ → List ℕ) → mid ≡ with_block m at (Some bytes)
    → after ≡ with_block mid at (Some (f (bytes_at mid at))) → after ≡ with_block m at (Some (f bytes))
written_twice m mid after at bytes f first then' =
    then'
    ∙ ap (λ (k : Blocks). with_block k at (Some (f (bytes_at k at)))) first
    ∙ with_block_twice m at (Some bytes) (Some (f (bytes_at (with_block m at (Some bytes)) at)))
    ∙ ap (λ (xs : List ℕ). with_block m at (Some (f xs))) (bytes_at_placed m at bytes)

-- the bytes of a block that was written
pub holds_written : (m n : Blocks) (at : BlockRef) (bytes : List ℕ) → n ≡ with_block m at (Some bytes) → n at ≡ Some bytes
holds_written m n at bytes is = ap (λ (k : Blocks). k at) is ∙ with_block_same m at (Some bytes)

-- a wider gap in the block's place
pub widened_gap : (m mid after : Blocks) (at : BlockRef) (len from size room : ℕ) → length (bytes_at m at) ≡ len → from + size ≤ length (bytes_at m at) → size ≤ room
    → mid ≡ with_block m at (Some (resized (bytes_at m at) (len - size + room)))
    → after ≡ with_block mid at (Some (shifted (bytes_at mid at) (from + size) (from + room) (len - from - size)))
    → HasGap after at (bytes_at m at) from size room
widened_gap m mid after at len from size room same inside wider first then' =
    let bs = bytes_at m at in
    let n : ℕ = length bs - size + room in
    let zs : List ℕ = replicate (n - length bs) 0 in
    let long : from + room ≤ length (bs ++ zs) = omega (arith, inside, wider, length-append bs zs, length-replicate {A = ℕ} (n - length bs) 0) in
    let both : after ≡ with_block m at (Some (shifted (resized bs (len - size + room)) (from + size) (from + room) (len - from - size))) =
    written_twice m mid after at _ (λ (xs : List ℕ). shifted xs (from + size) (from + room) (len - from - size)) first then' in
    record {
      gap = gap_in (bs ++ zs) from room;
      wide = gap_wide (bs ++ zs) from room long;
      holds = holds_written m after at _ both
          ∙ ap (λ (k : ℕ). Some (shifted (resized bs (k - size + room)) (from + size) (from + room) (k - from - size))) (sym same)
          ∙ ap Some (shifted_wider bs from size room inside wider);
    }

-- a narrower one
pub narrowed_gap : (m mid after : Blocks) (at : BlockRef) (len from size room : ℕ) → length (bytes_at m at) ≡ len → from + size ≤ length (bytes_at m at) → room ≤ size
    → mid ≡ with_block m at (Some (shifted (bytes_at m at) (from + size) (from + room) (len - from - size)))
    → after ≡ with_block mid at (Some (resized (bytes_at mid at) (len - size + room)))
    → HasGap after at (bytes_at m at) from size room
narrowed_gap m mid after at len from size room same inside narrower first then' =
    let bs = bytes_at m at in
    let both : after ≡ with_block m at (Some (resized (shifted bs (from + size) (from + room) (len - from - size)) (len - size + room))) =
    written_twice m mid after at _ (λ (xs : List ℕ). resized xs (len - size + room)) first then' in
    record {
      gap = gap_in bs from room;
      wide = gap_wide bs from room (omega (arith, inside, narrower));
      holds = holds_written m after at _ both
          ∙ ap (λ (k : ℕ). Some (resized (shifted bs (from + size) (from + room) (k - from - size)) (k - size + room))) (sym same)
          ∙ ap Some (shifted_narrower bs from size room inside narrower);
    }

-- the bytes around the gap copied into a block that was placed
pub copied_blocks : (m mid front both : Blocks) (at new : BlockRef) (len from size room : ℕ) → IsSome (m at) → m new ≡ None
    → mid ≡ with_block m new (Some (replicate (len - size + room) 0))
    → front ≡ with_block mid new (Some (overwritten (bytes_at mid new) 0 (take from (drop 0 (bytes_at mid at)))))
    → both ≡ with_block front new (Some (overwritten (bytes_at front new) (from + room) (take (len - from - size) (drop (from + size) (bytes_at front at)))))
    → both ≡ with_block m new (Some (overwritten (overwritten (replicate (len - size + room) 0) 0 (take from (bytes_at m at))) (from + room) (take (len - from - size) (drop (from + size) (bytes_at m at)))))
copied_blocks m mid front both at new len from size room live fresh placed first then' =
    let zs : List ℕ = replicate (len - size + room) 0 in
    let one_in : front ≡ with_block m new (Some (overwritten zs 0 (take from (bytes_at mid at)))) =
    written_twice m mid front new zs (λ (xs : List ℕ). overwritten xs 0 (take from (bytes_at mid at))) placed first in
    let same_mid : bytes_at mid at ≡ bytes_at m at = bytes_beside m mid at new _ live fresh placed in
    let front_in : front ≡ with_block m new (Some (overwritten zs 0 (take from (bytes_at m at)))) =
    one_in ∙ ap (λ (xs : List ℕ). with_block m new (Some (overwritten zs 0 (take from xs)))) same_mid in
    let same_front : bytes_at front at ≡ bytes_at m at = bytes_beside m front at new _ live fresh front_in in
    written_twice m front both new _ (λ (xs : List ℕ). overwritten xs (from + room) (take (len - from - size) (drop (from + size) (bytes_at front at)))) front_in then'
    ∙ ap (λ (xs : List ℕ). with_block m new (Some (overwritten (overwritten zs 0 (take from (bytes_at m at))) (from + room) (take (len - from - size) (drop (from + size) xs))))) same_front

-- and the old one given back
pub placed_blocks : (m both after : Blocks) (at new : BlockRef) (bytes : List ℕ) → IsSome (m at) → m new ≡ None → both ≡ with_block m new (Some bytes) → after ≡ with_block both at None
    → after ≡ with_block (with_block m at None) new (Some bytes)
placed_blocks m both after at new bytes live fresh put ended =
    ended ∙ ap (λ (k : Blocks). with_block k at None) put ∙ with_block_apart m at new None (Some bytes) (apart_live m at new live fresh)

pub moved_gap : (m after : Blocks) (at new : BlockRef) (len from size room : ℕ) → length (bytes_at m at) ≡ len → from + size ≤ length (bytes_at m at)
    → after ≡ with_block (with_block m at None) new
    (Some (overwritten (overwritten (replicate (len - size + room) 0) 0 (take from (bytes_at m at))) (from + room) (take (len - from - size) (drop (from + size) (bytes_at m at)))))
    → HasGap after new (bytes_at m at) from size room
moved_gap m after at new len from size room same inside is =
    let bs = bytes_at m at in
    let n : ℕ = length bs - size + room in
    let zs : List ℕ = replicate n 0 in
    let many : length zs ≡ n = length-replicate {A = ℕ} n 0 in
    let long : from + room ≤ length (overwritten zs 0 (take from bs)) =
    omega (arith, inside, many, length_around zs bs from (omega (arith, inside)) (omega (arith, inside, many))) in
    record {
      gap = gap_in (overwritten zs 0 (take from bs)) from room;
      wide = gap_wide (overwritten zs 0 (take from bs)) from room long;
      holds = holds_written (with_block m at None) after new _ is
          ∙ ap (λ (k : ℕ). Some (overwritten (overwritten (replicate (k - size + room) 0) 0 (take from bs)) (from + room) (take (k - from - size) (drop (from + size) bs)))) (sym same)
          ∙ ap Some (copied_around zs bs from size room inside many);
    }

-- all of it at once
pub gap_anew : (m mid front both after : Blocks) (at new : BlockRef) (len from size room : ℕ) → IsSome (m at) → m new ≡ None → length (bytes_at m at) ≡ len
    → from + size ≤ length (bytes_at m at) → mid ≡ with_block m new (Some (replicate (len - size + room) 0))
    → front ≡ with_block mid new (Some (overwritten (bytes_at mid new) 0 (take from (drop 0 (bytes_at mid at)))))
    → both ≡ with_block front new (Some (overwritten (bytes_at front new) (from + room) (take (len - from - size) (drop (from + size) (bytes_at front at)))))
    → after ≡ with_block both at None → HasGap after new (bytes_at m at) from size room × Changes m after (at ∷ []) (new ∷ [])
gap_anew m mid front both after at new len from size room live fresh same inside placed first then' ended =
    let put = copied_blocks m mid front both at new len from size room live fresh placed first then' in
    let is = placed_blocks m both after at new _ live fresh put ended in
    (moved_gap m after at new len from size room same inside is, moved_changes m after at new _ live fresh is)

-- a block at the length that it has
pub stretched_same : (m n : Blocks) (at : BlockRef) (bytes : List ℕ) → m at ≡ Some bytes → n ≡ with_block m at (Some (resized (bytes_at m at) (length bytes))) → n ≡ m
stretched_same m n at bytes was is =
    let seen : bytes_at m at ≡ bytes = ap (λ o. unwrap_or o []) was in
    is ∙ ap (λ (xs : List ℕ). with_block m at (Some (resized xs (length bytes)))) seen ∙ ap (λ (xs : List ℕ). with_block m at (Some xs)) (resized_same bytes) ∙ with_block_kept m at bytes was

pub stretched_or_not : (m n : Blocks) (at : BlockRef) (bytes : List ℕ) (done : Bool) → m at ≡ Some bytes
    → (IsTrue done → n ≡ with_block m at (Some (resized (bytes_at m at) (length bytes)))) → (done ≡ false → n ≡ m) → n ≡ m
stretched_or_not m n at bytes done was longer stays = elim (cases_Bool done) [ inl is_true ↦ stretched_same m n at bytes was (longer is_true) | inr is_false ↦ stays is_false ]

-- a gap as wide as what stands there is there
pub gap_there : (m : Blocks) (at : BlockRef) (from size room : ℕ) → IsSome (m at) → from + size ≤ length (bytes_at m at) → size ≡ room → HasGap m at (bytes_at m at) from size room
gap_there m at from size room live inside same = record {
  gap = gap_in (bytes_at m at) from size;
  wide = gap_wide (bytes_at m at) from size inside ∙ same;
  holds = live_bytes m at live ∙ ap Some (spliced_same (bytes_at m at) from size);
}
