use Rattle.std.proofs.Common.{◌≡◌, ℕ, List, ◌+◌, ◌-◌, ◌*◌, ◌++◌, drop, take, refl, sym, ap, ◌∙◌, arith}
use Rattle.std.proofs.Math.Seq.{take-add}
use Rattle.digests.specs.Crc.{crc_of}
use Rattle.digests.proofs.Linear.{crc_append}
use Rattle.digests.proofs.crc64.rows.Goals as goal

pub loop-i-init : goal.loop-i-init
unfolding crc_of
loop-i-init c = refl

pub loop-i-preserved : goal.loop-i-preserved
loop-i-preserved c =
    let at : ℕ = 8 * c.loop-i.i in
    let bytes : List ℕ = c.args.bytes.now in
    let eight : at + 8 - at ≡ 8 = omega arith in
    let next : at + 8 ≡ 8 * (c.loop-i.i + 1) = omega arith in
    let row : List ℕ = take (at + 8 - at) (drop at bytes) in
    let more : take at bytes ++ row ≡ take (8 * (c.loop-i.i + 1)) bytes = ap (λ (k : ℕ). take at bytes ++ take k (drop at bytes)) eight ∙ sym (take-add at 8 bytes)
    ∙ ap (λ (k : ℕ). take k bytes) next in
    c.eight-state.ensures ∙ ap (λ (s : ℕ). crc_of s row) c.loop-i.invariant ∙ crc_append c.args.start (take at bytes) row ∙ ap (crc_of c.args.start) more
