-- What a block holds after it was placed and written whole.
use Rattle.std.proofs.Common.{◌≡◌, ◌∙◌, ap, ℕ, ◌+◌, ◌≤◌, List, [], length, take, drop, Some, unwrap_or, sym, replicate, ◌-◌, arith, true, nat_eq}
use Rattle.std.proofs.lemmas.Grind.{common_steps}
use Rattle.std.proofs.lemmas.Cmp.{nat_list_eq_equiv}
use lib.Pointwise.{pointwise}
use Rattle.blocks.specs.declared.BlockRef.{BlockRef}
use Rattle.blocks.specs.Blocks.{Blocks, with_block, bytes_at, overwritten}
use Rattle.blocks.proofs.Refs.{with_block_same}
use Rattle.blocks.proofs.Change.{with_block_twice}

pub bytes_at_placed : (m : Blocks) (at : BlockRef) (bytes : List ℕ) → bytes_at (with_block m at (Some bytes)) at ≡ bytes
bytes_at_placed m at bytes = ap (λ o. unwrap_or o []) (with_block_same m at (Some bytes))

-- a piece as long as the block takes its whole place
pub overwritten_all : (bytes piece : List ℕ) → length bytes ≡ length piece → overwritten bytes 0 piece ≡ piece
overwritten_all bytes piece h = grind (arith, common_steps, h)

length_zeros : (n : ℕ) → length (replicate {A = ℕ} n 0) ≡ n
length_zeros n = grind (arith, common_steps)

-- placed with zeros and then written whole
pub placed_written : (m mid after : Blocks) (at : BlockRef) (piece : List ℕ) → mid ≡ with_block m at (Some (replicate (length piece) 0))
    → after ≡ with_block mid at (Some (overwritten (bytes_at mid at) 0 piece)) → after ≡ with_block m at (Some piece)
placed_written m mid after at piece placed written =
    written
    ∙ ap (λ n. with_block n at (Some (overwritten (bytes_at n at) 0 piece))) placed
    ∙ with_block_twice m at (Some zeros) (Some (overwritten (bytes_at (with_block m at (Some zeros)) at) 0 piece))
    ∙ ap (λ bytes. with_block m at (Some bytes)) (ap (λ old. overwritten old 0 piece) (bytes_at_placed m at zeros) ∙ overwritten_all zeros piece (length_zeros (length piece)))
  where
    zeros : List ℕ
    zeros = replicate (length piece) 0

-- the place of a piece holds it
pub piece_overwritten : (bytes piece : List ℕ) (from : ℕ) → from ≤ length bytes → take ((from + length piece) - from) (drop from (overwritten bytes from piece)) ≡ piece
piece_overwritten bytes piece from h = grind (arith, common_steps, h)

pub read_written : (m after : Blocks) (at : BlockRef) (from : ℕ) (piece seen : List ℕ) → after ≡ with_block m at (Some (overwritten (bytes_at m at) from piece)) → after at ≡ Some seen
    → from ≤ length (bytes_at m at) → pointwise nat_eq (take ((from + length piece) - from) (drop from seen)) piece ≡ true
read_written m after at from piece seen written read h =
    let is : overwritten (bytes_at m at) from piece ≡ seen = ap (λ o. unwrap_or o [])
    (sym (with_block_same m at (Some (overwritten (bytes_at m at) from piece))) ∙ (ap (λ n. n at) (sym written) ∙ read)) in
    ap (λ xs. pointwise nat_eq xs piece) (ap (λ xs. take ((from + length piece) - from) (drop from xs)) (sym is) ∙ piece_overwritten (bytes_at m at) piece from h) ∙ nat_list_eq_equiv.refl piece

-- a placed block is as long as was asked
pub length-placed : (m mid : Blocks) (at : BlockRef) (len : ℕ) → mid ≡ with_block m at (Some (replicate len 0)) → length (bytes_at mid at) ≡ len
length-placed m mid at len placed = ap (λ n. length (bytes_at n at)) placed ∙ (ap length (bytes_at_placed m at (replicate len 0)) ∙ length_zeros len)
