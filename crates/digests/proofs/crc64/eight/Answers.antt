use Rattle.std.proofs.Common.{◌≡◌, ℕ, List, suc, [], ◌∷◌, ◌+◌, ◌-◌, ◌<◌, ◌%◌, ◌/◌, length, drop, get_or, bit_xor, drop-cons, add-one, length-drop, refl, sym, ap, ◌∙◌, arith}
use lib.Bits.{xor_assoc}
use Rattle.std.proofs.lemmas.List.{drop_all}
use Rattle.digests.specs.Crc.{crc_of}
use Rattle.digests.specs.Entries.{eights}
use Rattle.digests.proofs.Linear.{by_first}
use Rattle.digests.proofs.Lookup.{lookup, table_at}
use Rattle.digests.proofs.crc64.eight.Goals as goal

pub loop-i-preserved : goal.loop-i-preserved
loop-i-preserved c =
    let i : ℕ = c.loop-i.i in
    let bytes : List ℕ = c.args.bytes.now in
    let rest : ℕ = c.loop-i.rest in
    let sum : ℕ = c.loop-i.sum in
    let byte : ℕ = get_or bytes i 0 in
    let table : List ℕ = get_or c.args.tables.now i [] in
    let behind : List ℕ = drop (i + 1) bytes in
    let row : i < length bytes = omega (arith, c.requires.row, c.loop-i-test.true) in
    let at : i < length c.args.tables.now = omega (arith, c.requires.count, c.loop-i-test.true) in
    let front : drop i bytes ≡ byte ∷ behind = rw (add-one, drop-cons bytes i 0) refl in
    let fits : byte < 256 = omega (arith, c.type_inv.bytes i) in
    let low : bit_xor rest byte % 256 < 256 = omega arith in
    let all : length table ≡ 256 = c.told-tables i at in
    let count : suc (length behind) ≡ 8 - i = omega (arith, length-drop (i + 1) bytes, c.requires.row, c.loop-i-test.true) in
    let found : c.entry-sum.result ≡ eights (8 - i) (bit_xor rest byte % 256) = c.entry-sum.ensures
    ∙ lookup (8 - i) table (bit_xor rest byte % 256) (table_at 8 c.args.tables.now i [] c.requires.tables at) (omega (arith, all, low)) in
    let step : crc_of rest (drop i bytes) ≡ bit_xor c.entry-sum.result (crc_of (rest / 256) behind) =
    ap (crc_of rest) front ∙ by_first rest byte behind fits ∙ ap (λ (m : ℕ). bit_xor (eights m (bit_xor rest byte % 256)) (crc_of (rest / 256) behind)) count
    ∙ ap (λ (x : ℕ). bit_xor x (crc_of (rest / 256) behind)) (sym found) in
    c.loop-i.invariant ∙ ap (bit_xor sum) step ∙ sym (xor_assoc sum c.entry-sum.result (crc_of (rest / 256) behind))

pub returns : goal.returns
unfolding crc_of
returns c =
    let last : drop c.loop-i.i c.args.bytes.now ≡ [] = drop_all c.loop-i.i c.args.bytes.now (omega (arith, c.requires.row, c.loop-i-test.false)) in
    sym (c.loop-i.invariant ∙ ap (λ (z : List ℕ). bit_xor c.loop-i.sum (crc_of c.loop-i.rest z)) last)
