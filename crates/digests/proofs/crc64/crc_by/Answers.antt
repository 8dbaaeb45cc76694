use Rattle.std.proofs.Common.{◌≡◌, ℕ, List, [], ◌*◌, ◌/◌, ◌++◌, take, drop, length, ap, ◌∙◌, arith}
use Rattle.std.proofs.lemmas.List.{take-append-drop}
use Rattle.digests.specs.Crc.{crc_of}
use Rattle.digests.proofs.Linear.{crc_append}
use Rattle.digests.proofs.Lookup.{table_at}
use Rattle.digests.proofs.crc64.crc_by.Goals as goal

pub bytes_behind-requires-clause-entries : goal.bytes_behind-requires-clause-entries
bytes_behind-requires-clause-entries c = table_at 8 c.args.tables.now 7 [] c.requires.tables (omega (arith, c.requires.count))

pub returns : goal.returns
returns c =
    let n : ℕ = length c.args.bytes.now / 8 * 8 in
    let front : c.split_at.result.0.now ≡ take n c.args.bytes.now = c.split_at.ensures.front in
    let back : c.split_at.result.1.now ≡ drop n c.args.bytes.now = c.split_at.ensures.back in
    c.bytes_behind.ensures ∙ ap (λ (s : ℕ). crc_of s c.split_at.result.1.now) c.rows.ensures ∙ crc_append c.args.start c.split_at.result.0.now c.split_at.result.1.now
    ∙ ap (λ (z : List ℕ). crc_of c.args.start (z ++ c.split_at.result.1.now)) front ∙ ap (λ (z : List ℕ). crc_of c.args.start (take n c.args.bytes.now ++ z)) back
    ∙ ap (crc_of c.args.start) (take-append-drop n c.args.bytes.now)
