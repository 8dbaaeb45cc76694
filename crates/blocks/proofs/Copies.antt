-- What a block holds into which another was copied, and what is left where a block is lengthened.
use Rattle.std.proofs.Common.{◌≡◌, ◌⊎◌, min, ℕ, zero, suc, ◌+◌, ◌-◌, ◌≤◌, false, List, [], ◌∷◌, ◌++◌, Option, Some, None, IsSome, unwrap_or, length, take, drop, replicate, refl, sym, ap}
use Rattle.std.proofs.Common.{◌∙◌, subst, inl, inr, arith, zero-add, take-add, take_at, drop_at, drop-drop, length-append}
use Rattle.std.proofs.lemmas.Grind.{common_steps}
use Rattle.std.proofs.lemmas.List.{drop-replicate, length-take, length-drop}
use Rattle.blocks.specs.declared.BlockRef.{BlockRef}
use Rattle.blocks.specs.Blocks.{Blocks, ref_eq, with_block, overwritten, widened, bytes_at}
use Rattle.blocks.proofs.Refs.{cases_ref, with_block_same, with_block_other, apart_live}
use Rattle.blocks.proofs.Change.{with_block_twice}
use Rattle.blocks.proofs.Written.{bytes_at_placed}

-- the same blocks where a block is written as it is
pub with_block_kept : (m : Blocks) (at : BlockRef) (bytes : List ℕ) → m at ≡ Some bytes → with_block m at (Some bytes) ≡ m
with_block_kept m at bytes was = λ i r. each r i
  where
    each : (r : BlockRef) → with_block m at (Some bytes) r ≡ m r
    each r = elim (cases_ref r at) [
      | inl same ↦ subst (λ q. with_block m at (Some bytes) q ≡ m q) (sym same) (with_block_same m at (Some bytes) ∙ sym was)
      | inr other ↦ with_block_other m at r (Some bytes) other
    ]

-- changes under two references may change places
pub with_block_apart : (m : Blocks) (at other : BlockRef) (a b : Option (List ℕ)) → ref_eq at other ≡ false → with_block (with_block m other b) at a ≡ with_block (with_block m at a) other b
with_block_apart m at other a b apart = λ i r. each r i
  where
    each : (r : BlockRef) → with_block (with_block m other b) at a r ≡ with_block (with_block m at a) other b r
    each r = elim (cases_ref r at) [
      | inl same ↦ subst (λ q. with_block (with_block m other b) at a q ≡ with_block (with_block m at a) other b q) (sym same)
          (with_block_same (with_block m other b) at a ∙ sym (with_block_other (with_block m at a) other at b apart ∙ with_block_same m at a))
      | inr beside ↦ with_block_other (with_block m other b) at r a beside ∙ by_other (cases_ref r other) beside
    ]
      where
        by_other : (r ≡ other) ⊎ (ref_eq r other ≡ false) → ref_eq r at ≡ false → with_block m other b r ≡ with_block (with_block m at a) other b r
        by_other (inl same) beside = subst (λ q. with_block m other b q ≡ with_block (with_block m at a) other b q) (sym same)
            (with_block_same m other b ∙ sym (with_block_same (with_block m at a) other b))
        by_other (inr ne) beside = with_block_other m other r b ne ∙ sym (with_block_other (with_block m at a) other r b ne ∙ with_block_other m at r a beside)

some_bytes : (o : Option (List ℕ)) → IsSome o → o ≡ Some (unwrap_or o [])
some_bytes None h = cc
some_bytes (Some bytes) h = refl

-- a live block has its bytes
pub live_bytes : (m : Blocks) (at : BlockRef) → IsSome (m at) → m at ≡ Some (bytes_at m at)
live_bytes m at h = some_bytes (m at) h

-- ---- bytes with a piece put over them

overwritten_first : (over p : List ℕ) → overwritten over 0 p ≡ p ++ drop (length p) over
overwritten_first over p = ap (λ k. p ++ drop k over) (zero-add (length p))

-- a piece goes on where the one before it ended
overwritten_more : (over p q : List ℕ) → overwritten (overwritten over 0 p) (length p) q ≡ overwritten over 0 (p ++ q)
overwritten_more over p q =
    ap (λ xs. overwritten xs (length p) q) (overwritten_first over p)
    ∙ ap (λ xs. xs ++ q ++ drop (length p + length q) (p ++ drop (length p) over)) (take_at p (drop (length p) over) (length p) refl)
    ∙ ap (λ xs. p ++ q ++ xs)
    (sym (drop-drop (length q) (length p) (p ++ drop (length p) over)) ∙ ap (drop (length q)) (drop_at p (drop (length p) over) (length p) refl) ∙ drop-drop (length q) (length p) over)
    ∙ ap (λ k. (p ++ q) ++ drop k over) (sym (length-append p q))
    ∙ sym (overwritten_first over (p ++ q))

overwritten_step : (over from : List ℕ) (start count : ℕ) → start + count ≤ length from
    → overwritten (overwritten over 0 (take start from)) start (take count (drop start from)) ≡ overwritten over 0 (take (start + count) from)
overwritten_step over from start count inside =
    ap (λ n. overwritten (overwritten over 0 (take start from)) n (take count (drop start from))) (let e : start ≡ length (take start from) = grind (arith, common_steps) in e)
    ∙ overwritten_more over (take start from) (take count (drop start from))
    ∙ ap (overwritten over 0) (sym (take-add start count from))

-- the first bytes of a block of zeros
overwritten_zeros : (xs : List ℕ) (len : ℕ) → length xs ≤ len → overwritten (replicate len 0) 0 xs ≡ widened xs len
overwritten_zeros xs len room = grind (arith, common_steps, drop-replicate {X = ℕ})

-- as many of the first bytes as there are
take_seen : (n : ℕ) (xs : List ℕ) → take (length (take n xs)) xs ≡ take n xs
take_seen zero xs = refl
take_seen (suc n) [] = refl
take_seen (suc n) (x ∷ xs) = ap (λ ys. x ∷ ys) (take_seen n xs)

-- what stands at the head of the room where a piece of the bytes was put there
pub piece_put : (bytes put behind : List ℕ) (start count most : ℕ) → count ≡ min (length bytes - start) most → put ≡ take ((start + count) - start) (drop start bytes)
    → take count (put ++ behind) ≡ take most (drop start bytes)
piece_put bytes put behind start count most least is =
    let long : length (take most (drop start bytes)) ≡ count = omega (arith, length-take most (drop start bytes), length-drop start bytes, least) in
    let whole : put ≡ take most (drop start bytes) = is ∙
    (ap (λ n. take n (drop start bytes)) (let e : (start + count) - start ≡ count = omega arith in e)
    ∙ (ap (λ n. take n (drop start bytes)) (sym long) ∙ take_seen most (drop start bytes))) in
    take_at put behind count (ap length whole ∙ long) ∙ whole

-- ---- a block is copied

-- the first bytes of one block stand over those of another
abbrev pub HasFirst : Blocks → Blocks → BlockRef → BlockRef → ℕ → Type 0
HasFirst m mid from to done = mid ≡ with_block m to (Some (overwritten (bytes_at m to) 0 (take done (bytes_at m from))))

-- the block that they come from stays
from_stays : (m mid : Blocks) (from to : BlockRef) (done : ℕ) → ref_eq from to ≡ false → HasFirst m mid from to done → bytes_at mid from ≡ bytes_at m from
from_stays m mid from to done apart is = ap (λ k. bytes_at k from) is ∙ ap (λ o. unwrap_or o []) (with_block_other m to from (Some (overwritten (bytes_at m to) 0 (take done (bytes_at m from)))) apart)

-- the next piece is of the bytes that it had from the first, and ends within them
pub next_piece : (m mid : Blocks) (from to : BlockRef) (done most : ℕ) (piece whole seen : List ℕ) → ref_eq from to ≡ false → HasFirst m mid from to done → m from ≡ Some whole
    → mid from ≡ Some seen → piece ≡ take most (drop done seen) → done ≤ length whole
    → (piece ≡ take most (drop done (bytes_at m from))) × (done + length piece ≤ length (bytes_at m from))
next_piece m mid from to done most piece whole seen apart is all read taken inside =
    let first : piece ≡ take most (drop done (bytes_at m from)) = taken
    ∙ (ap (λ o. take most (drop done (unwrap_or o []))) (sym read) ∙ ap (λ xs. take most (drop done xs)) (from_stays m mid from to done apart is)) in
    (first, omega (arith, ap length first, length-take most (drop done (bytes_at m from)), length-drop done (bytes_at m from), ap (λ o. length (unwrap_or o [])) all, inside))

-- and the other block has room for it
pub room_left : (m mid : Blocks) (from to : BlockRef) (done n : ℕ) → HasFirst m mid from to done → length (bytes_at m from) ≤ length (bytes_at m to) → done + n ≤ length (bytes_at m from)
    → done + n ≤ length (bytes_at mid to)
room_left m mid from to done n is room inside = omega (
  arith,
  room,
  inside,
  ap (λ k. length (bytes_at k to)) is,
  ap length (bytes_at_placed m to (overwritten (bytes_at m to) 0 (take done (bytes_at m from)))),
  long (bytes_at m to)
      (bytes_at m from) room,
)
  where
    long : (over bytes : List ℕ) → length bytes ≤ length over → length (overwritten over 0 (take done bytes)) ≡ length over
    long over bytes h = grind (arith, common_steps, h)

-- with this piece behind them, so many more stand there
pub copy_step : (m mid after : Blocks) (from to : BlockRef) (done most : ℕ) (piece : List ℕ) → HasFirst m mid from to done → (piece ≡ take most (drop done (bytes_at m from)))
    × (done + length piece ≤ length (bytes_at m from)) → after ≡ with_block mid to (Some (overwritten (bytes_at mid to) done piece)) → HasFirst m after from to (done + length piece)
copy_step m mid after from to done most piece is next written =
    written
    ∙ ap (λ k. with_block k to (Some (overwritten (bytes_at k to) done piece))) is
    ∙ with_block_twice m to (Some so_far) (Some (overwritten (bytes_at (with_block m to (Some so_far)) to) done piece))
    ∙ ap (λ over. with_block m to (Some (overwritten over done piece))) (bytes_at_placed m to so_far)
    ∙ ap (λ xs. with_block m to (Some (overwritten so_far done xs))) whole
    ∙ ap (λ xs. with_block m to (Some xs)) (overwritten_step (bytes_at m to) (bytes_at m from) done (length piece) next.1)
  where
    so_far : List ℕ
    so_far = overwritten (bytes_at m to) 0 (take done (bytes_at m from))

    whole : piece ≡ take (length piece) (drop done (bytes_at m from))
    whole = next.0 ∙ (sym (take_seen most (drop done (bytes_at m from))) ∙ ap (λ xs. take (length xs) (drop done (bytes_at m from))) (sym next.0))

-- all of its pieces have been
pub copied_whole : (m after : Blocks) (from to : BlockRef) (done : ℕ) → HasFirst m after from to done → length (bytes_at m from) ≤ done
    → after ≡ with_block m to (Some (overwritten (bytes_at m to) 0 (bytes_at m from)))
copied_whole m after from to done is all = is ∙ ap (λ xs. with_block m to (Some (overwritten (bytes_at m to) 0 xs)))
    (let e : take done (bytes_at m from) ≡ bytes_at m from = grind (arith, common_steps, all) in e)

-- ---- a block is lengthened

-- placed with zeros, and then written over
pub placed_over : (m mid after : Blocks) (at : BlockRef) (len : ℕ) (piece bytes : List ℕ) → mid ≡ with_block m at (Some (replicate len 0))
    → after ≡ with_block mid at (Some (overwritten (bytes_at mid at) 0 piece)) → piece ≡ bytes → length bytes ≤ len → after ≡ with_block m at (Some (widened bytes len))
placed_over m mid after at len piece bytes placed written same room =
    written
    ∙ ap (λ k. with_block k at (Some (overwritten (bytes_at k at) 0 piece))) placed
    ∙ with_block_twice m at (Some (replicate len 0)) (Some (overwritten (bytes_at (with_block m at (Some (replicate len 0))) at) 0 piece))
    ∙ ap (λ over. with_block m at (Some (overwritten over 0 piece))) (bytes_at_placed m at (replicate len 0))
    ∙ ap (λ xs. with_block m at (Some (overwritten (replicate len 0) 0 xs))) same
    ∙ ap (λ xs. with_block m at (Some xs)) (overwritten_zeros bytes len room)

-- a block placed beside another leaves its bytes
pub bytes_beside : (m mid : Blocks) (at new : BlockRef) (content : Option (List ℕ)) → IsSome (m at) → m new ≡ None → mid ≡ with_block m new content → bytes_at mid at ≡ bytes_at m at
bytes_beside m mid at new content live fresh placed = ap (λ k. bytes_at k at) placed ∙ ap (λ o. unwrap_or o []) (with_block_other m new at content (apart_live m at new live fresh))

-- a longer block was placed, the bytes were copied into it, and the old block was given back
pub lengthened_by : (m mid copied after : Blocks) (at new : BlockRef) (len : ℕ) → IsSome (m at) → m new ≡ None → length (bytes_at m at) ≤ len
    → mid ≡ with_block m new (Some (replicate len 0)) → copied ≡ with_block mid new (Some (overwritten (bytes_at mid new) 0 (bytes_at mid at))) → after ≡ with_block copied at None
    → after ≡ with_block (with_block m at None) new (Some (widened (bytes_at m at) len))
lengthened_by m mid copied after at new len live fresh room placed written ended =
    ended
    ∙ ap (λ k. with_block k at None) (placed_over m mid copied new len (bytes_at mid at) (bytes_at m at) placed written (bytes_beside m mid at new _ live fresh placed) room)
    ∙ with_block_apart m at new None (Some (widened (bytes_at m at) len)) (apart_live m at new live fresh)
