use Rattle.std.proofs.Common.{◌≡◌, ◌++◌, ◌+◌, ◌%◌, ◌<◌, ℕ, [], ◌∷◌, take, get_or, bit_xor, refl, sym, ap, ◌∙◌, arith}
use Rattle.std.proofs.lemmas.Grind.{common_steps}
use Rattle.digests.specs.Crc.{crc_of, bit_steps}
use Rattle.digests.specs.Entries.{eights}
use Rattle.digests.proofs.Linear.{crc_append, by_table}
use Rattle.digests.proofs.Lookup.{lookup}
use Rattle.digests.proofs.crc64.bytes_behind.Goals as goal

pub loop-byte-init : goal.loop-byte-init
unfolding crc_of
loop-byte-init c = refl

pub loop-byte-preserved : goal.loop-byte-preserved
unfolding eights
loop-byte-preserved c =
    let i : ℕ = c.loop-byte.byte-index in
    let byte : ℕ = get_or c.args.bytes.now i 0 in
    let state : ℕ = c.loop-byte.state in
    let more : take (i + 1) c.args.bytes.now ≡ take i c.args.bytes.now ++ (byte ∷ []) = grind (arith, common_steps, c.loop-byte-test.true) in
    let fits : byte < 256 = omega (arith, c.type_inv.bytes i) in
    let low : bit_xor state byte % 256 < 256 = omega arith in
    let found : c.entry.result ≡ bit_steps 8 (bit_xor state byte % 256) = c.entry.ensures
    ∙ lookup 1 c.args.table.now (bit_xor state byte % 256) c.requires.entries (omega (arith, c.requires.all, low)) in
    by_table state byte c.entry.result fits found ∙ ap (λ (s : ℕ). crc_of s (byte ∷ [])) c.loop-byte.invariant ∙ crc_append c.args.start (take i c.args.bytes.now) (byte ∷ [])
    ∙ ap (crc_of c.args.start) (sym more)
