-- Parts of a block copied into another.
use Rattle.std.proofs.Common.{◌≡◌, ℕ, ◌+◌, ◌≤◌, false, List, ◌++◌, Some, length, take, drop, sym, ap, ◌∙◌, arith, take-add}
use Rattle.std.proofs.lemmas.List.{drop-drop, length-take-le, length-drop, length-append}
use Rattle.blocks.specs.declared.BlockRef.{BlockRef}
use Rattle.blocks.specs.Blocks.{Blocks, ref_eq, with_block, bytes_at, overwritten}
use Rattle.blocks.proofs.Refs.{with_block_other}
use Rattle.blocks.proofs.Written.{bytes_at_placed}
use Rattle.pack_block.proofs.Blocks.{written_twice}
use Rattle.pack_block.proofs.Shapes.{overwritten_next}

-- so many bytes of one block, from a place on, stand over those of another
abbrev pub HasPart : Blocks → Blocks → BlockRef → ℕ → BlockRef → ℕ → ℕ → Type 0
HasPart m mid source start target to done = mid ≡ with_block m target (Some (overwritten (bytes_at m target) to (take done (drop start (bytes_at m source)))))

pub source_stays : (m mid : Blocks) (source : BlockRef) (start : ℕ) (target : BlockRef) (to done : ℕ) → ref_eq source target ≡ false → HasPart m mid source start target to done → mid source ≡ m source
source_stays m mid source start target to done apart is = ap (λ (k : Blocks). k source) is ∙ with_block_other m target source _ apart

pub length_over : (over p : List ℕ) (to : ℕ) → to + length p ≤ length over → length (overwritten over to p) ≡ length over
length_over over p to h =
    omega (arith, h, length-append (take to over ++ p) (drop (to + length p) over), length-append (take to over) p, length-take-le to over (omega (arith, h)), length-drop (to + length p) over)

pub target_long : (m mid : Blocks) (source : BlockRef) (start : ℕ) (target : BlockRef) (to done : ℕ) → HasPart m mid source start target to done → start + done ≤ length (bytes_at m source)
    → to + done ≤ length (bytes_at m target) → length (bytes_at mid target) ≡ length (bytes_at m target)
target_long m mid source start target to done is inside room =
    let p : List ℕ = take done (drop start (bytes_at m source)) in
    let long : length p ≡ done = length-take-le done (drop start (bytes_at m source)) (omega (arith, inside, length-drop start (bytes_at m source))) in
    ap (λ (k : Blocks). length (bytes_at k target)) is ∙ ap length (bytes_at_placed m target _) ∙ length_over (bytes_at m target) p to (omega (arith, long, room))

pub part_step : (m mid after : Blocks) (source : BlockRef) (start : ℕ) (target : BlockRef) (to done count : ℕ) (seen piece : List ℕ) → HasPart m mid source start target to done
    → start + done ≤ length (bytes_at m source) → to ≤ length (bytes_at m target) → bytes_at m source ≡ seen → piece ≡ take count (drop (start + done) seen)
    → after ≡ with_block mid target (Some (overwritten (bytes_at mid target) (to + done) piece)) → HasPart m after source start target to (done + count)
part_step m mid after source start target to done count seen piece is inside room read taken written =
    let bs = bytes_at m source in
    let over = bytes_at m target in
    let p : List ℕ = take done (drop start bs) in
    let long : length p ≡ done = length-take-le done (drop start bs) (omega (arith, inside, length-drop start bs)) in
    let next : piece ≡ take count (drop done (drop start bs)) =
    taken ∙ ap (λ (xs : List ℕ). take count (drop (start + done) xs)) (sym read) ∙ ap (take count) (sym (drop-drop done start bs)) in
    written_twice m mid after target _ (λ (xs : List ℕ). overwritten xs (to + done) piece) is written
    ∙ ap (λ (k : ℕ). with_block m target (Some (overwritten (overwritten over to p) (to + k) piece))) (sym long)
    ∙ ap (λ (xs : List ℕ). with_block m target (Some xs)) (overwritten_next over p piece to room)
    ∙ ap (λ (xs : List ℕ). with_block m target (Some (overwritten over to (p ++ xs)))) next
    ∙ ap (λ (xs : List ℕ). with_block m target (Some (overwritten over to xs))) (sym (take-add done count (drop start bs)))
