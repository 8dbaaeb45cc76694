-- Blocks that have the bytes of a node, and what is written over them.
use Rattle.std.proofs.Common.{◌≡◌, ◌∙◌, ℕ, zero, suc, ◌+◌, ◌-◌, ◌<◌, ◌≤◌, List, [], ◌∷◌, ◌++◌, length, take, drop, Option, Some, unwrap_or, sym, ap, arith}
use Rattle.std.proofs.Common.{zero-add, refl}
use Rattle.std.specs.Prelude.{slice_set}
use Rattle.std.proofs.lemmas.Grind.{common_steps}
use Rattle.std.proofs.lemmas.List.{append-nil, drop-append-le, drop_all, length-set, length-take-le, take-take}
use Rattle.blocks.specs.declared.BlockRef.{BlockRef}
use Rattle.blocks.specs.Blocks.{Blocks, with_block, overwritten, resized, bytes_at}
use Rattle.blocks.proofs.Change.{with_block_twice}
use Rattle.blocks.proofs.Written.{bytes_at_placed, overwritten_all}
use Rattle.stream_node.specs.Appended.{written_over}
use Rattle.stream_node.specs.Marked.{marked_over}
use Rattle.stream_node.specs.declared.marking.MarkOver.{MarkOver}
use Rattle.stream_object.specs.Block.{Holds, IsPut}

-- a block holds one node
pub holds_one : (m : Blocks) (at : BlockRef) (a b : List ℕ) → Holds m at a → Holds m at b → a ≡ b
holds_one m at a b x y = let e : Some a ≡ Some b = sym x ∙ y in cc

pub holds_bytes : (m : Blocks) (at : BlockRef) (bytes : List ℕ) → Holds m at bytes → bytes_at m at ≡ bytes
holds_bytes m at bytes h = ap (λ (o : Option (List ℕ)). unwrap_or o []) h

-- a block got bytes, and then others made of those
put_then : (m mid after : Blocks) (at : BlockRef) (bytes : List ℕ) (f : List ℕ → List ℕ) → IsPut m mid at bytes → after ≡ with_block mid at (Some (f (bytes_at mid at)))
    → IsPut m after at (f bytes)
put_then m mid after at bytes f first then' =
    then'
    ∙ ap (λ (k : Blocks). with_block k at (Some (f (bytes_at k at)))) first
    ∙ with_block_twice m at (Some bytes) (Some (f (bytes_at (with_block m at (Some bytes)) at)))
    ∙ ap (λ (xs : List ℕ). with_block m at (Some (f xs))) (bytes_at_placed m at bytes)

-- ---- another length in its place

length_resized : (bytes : List ℕ) (len : ℕ) → length (resized bytes len) ≡ len
length_resized bytes len = grind (arith, common_steps)

-- a block at the length of other bytes, which are then written over it whole
pub put_whole : (m mid after : Blocks) (at : BlockRef) (bytes : List ℕ) → IsPut m mid at (resized (bytes_at m at) (length bytes))
    → after ≡ with_block mid at (Some (overwritten (bytes_at mid at) 0 bytes)) → IsPut m after at bytes
put_whole m mid after at bytes first then' =
    let old = resized (bytes_at m at) (length bytes) in
    put_then m mid after at old (λ (xs : List ℕ). overwritten xs 0 bytes) first then'
    ∙ ap (λ (xs : List ℕ). with_block m at (Some xs)) (overwritten_all old bytes (length_resized (bytes_at m at) (length bytes)))

-- ---- an entry more

-- a head, and a tail from the last byte of a node on, written over a block that begins with the node and ends with the tail
over_front : (block head tail : List ℕ) (len : ℕ) → 8 ≤ len → length head ≡ 7 → len ≤ length block → length block ≡ (len - 1) + length tail
    → overwritten (overwritten block (len - 1) tail) 0 head ≡ written_over (take len block) head tail
over_front block head tail len some seven within ends =
    let n : ℕ = len - 1 in
    let bytes = take len block in
    let rest = drop (n + length tail) block in
    let front = take n block in
    let size : length bytes ≡ len = length-take-le len block within in
    let same : take (length bytes - 1) bytes ≡ front = ap (λ (k : ℕ). take (k - 1) bytes) size ∙ take-take n len block (omega arith) in
    let long : length front ≡ n = length-take-le n block (omega (arith, within)) in
    let none : rest ≡ [] = drop_all (n + length tail) block (omega (arith, ends)) in
    let kept : drop (length head) (front ++ tail) ≡ drop (length head) front ++ tail =
    drop-append-le (length head) front tail (omega (arith, seven, long, some)) in
    ap (λ (k : ℕ). head ++ drop k ((front ++ tail) ++ rest)) (zero-add (length head))
    ∙ ap (λ (y : List ℕ). head ++ drop (length head) ((front ++ tail) ++ y)) none
    ∙ ap (λ (y : List ℕ). head ++ drop (length head) y) (append-nil (front ++ tail))
    ∙ ap (λ (y : List ℕ). head ++ y) kept
    ∙ ap (λ (y : List ℕ). head ++ (drop (length head) y ++ tail)) (sym same)

-- so it is in a block
pub over_put : (m mid after : Blocks) (at : BlockRef) (len : ℕ) (head tail : List ℕ) → 8 ≤ len → length head ≡ 7 → len ≤ length (bytes_at m at)
    → length (bytes_at m at) ≡ (len - 1) + length tail
    → mid ≡ with_block m at (Some (overwritten (bytes_at m at) (len - 1) tail)) → after ≡ with_block mid at (Some (overwritten (bytes_at mid at) 0 head))
    → IsPut m after at (written_over (take len (bytes_at m at)) head tail)
over_put m mid after at len head tail some seven within ends first second =
    put_then m mid after at (overwritten (bytes_at m at) (len - 1) tail) (λ (xs : List ℕ). overwritten xs 0 head) first second
    ∙ ap (λ (xs : List ℕ). with_block m at (Some xs)) (over_front (bytes_at m at) head tail len some seven within ends)

-- ---- one byte

-- one byte written over others
byte_over : (bytes : List ℕ) (k x : ℕ) → k < length bytes → overwritten bytes k (x ∷ []) ≡ slice_set bytes k x
byte_over [] k x h = absurd (omega (arith, h))
byte_over (b ∷ bytes) zero x h = refl
byte_over (b ∷ bytes) (suc k) x h =
    let next : suc k + 1 ≡ suc (k + 1) = omega arith in
    ap (λ (j : ℕ). (take (suc k) (b ∷ bytes) ++ x ∷ []) ++ drop j (b ∷ bytes)) next
    ∙ ap (λ (l : List ℕ). b ∷ l) (byte_over bytes k x (omega (arith, h)))

byte_put : (m mid : Blocks) (at : BlockRef) (k x : ℕ) → k < length (bytes_at m at) → mid ≡ with_block m at (Some (overwritten (bytes_at m at) k (x ∷ [])))
    → IsPut m mid at (slice_set (bytes_at m at) k x)
byte_put m mid at k x h written = written ∙ ap (λ (b : List ℕ). with_block m at (Some b)) (byte_over (bytes_at m at) k x h)

-- and one more
byte_then : (m mid after : Blocks) (at : BlockRef) (bytes : List ℕ) (k x : ℕ) → IsPut m mid at bytes → k < length bytes
    → after ≡ with_block mid at (Some (overwritten (bytes_at mid at) k (x ∷ []))) → IsPut m after at (slice_set bytes k x)
byte_then m mid after at bytes k x first h written =
    put_then m mid after at bytes (λ (xs : List ℕ). overwritten xs k (x ∷ [])) first written ∙ ap (λ (b : List ℕ). with_block m at (Some b)) (byte_over bytes k x h)

-- three bytes of a node, one after another
module _ (m mid later after : Blocks) (at : BlockRef) (mark : MarkOver) (some : 8 < length (bytes_at m at)) (inside : mark.at < length (bytes_at m at))
    (first : mid ≡ with_block m at (Some (overwritten (bytes_at m at) 6 (mark.live ∷ [])))) where
  one : IsPut m mid at (slice_set (bytes_at m at) 6 mark.live)
  one = byte_put m mid at 6 mark.live (omega (arith, some)) first

  long : length (slice_set (bytes_at m at) 6 mark.live) ≡ length (bytes_at m at)
  long = length-set (bytes_at m at) 6 mark.live

  module _ (second : later ≡ with_block mid at (Some (overwritten (bytes_at mid at) 8 (mark.deleted ∷ [])))) where
    two : IsPut m later at (slice_set (slice_set (bytes_at m at) 6 mark.live) 8 mark.deleted)
    two = byte_then m mid later at (slice_set (bytes_at m at) 6 mark.live) 8 mark.deleted one (omega (arith, some, long)) second

    longer : length (slice_set (slice_set (bytes_at m at) 6 mark.live) 8 mark.deleted) ≡ length (bytes_at m at)
    longer = length-set (slice_set (bytes_at m at) 6 mark.live) 8 mark.deleted ∙ long

    pub mark_put : after ≡ with_block later at (Some (overwritten (bytes_at later at) mark.at (mark.flags ∷ []))) → IsPut m after at (marked_over (bytes_at m at) mark)
    mark_put third = byte_then m later after at (slice_set (slice_set (bytes_at m at) 6 mark.live) 8 mark.deleted) mark.at mark.flags two (omega (arith, inside, longer)) third
