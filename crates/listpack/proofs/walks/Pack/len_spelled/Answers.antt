use Rattle.std.proofs.Common.{◌≡◌, ◌+◌, ◌<◌, ℕ, List, [], length, get_or, ap, arith}
use Rattle.listpack.specs.Entry.{back_length}
use Rattle.listpack.specs.Pack.{IsPack, IsAt, IsOffset, spellings_of}
use Rattle.listpack.proofs.Offsets.{step_at}
use Rattle.listpack.proofs.walks.Pack.len_spelled.Goals as goal

inside : (bytes s : List ℕ) (at : ℕ) → IsPack bytes → IsOffset bytes at → ((i : ℕ) → IsAt bytes i at → s ≡ get_or (spellings_of bytes) i [])
    → at + length s + length (back_length (length s)) < length bytes
inside bytes s at pack o value = let t = step_at bytes s o.0 at pack o.1.0 o.1.1 (value o.0 o.1) in omega (arith, t.0, t.1)

pub overflow_add-result : goal.overflow_add-result
overflow_add-result c =
    let end = inside c.args.self.now.bytes.now c.args.spelling.now c.args.at c.args.self.now.packed c.requires.offset c.requires.spelling in
    record { fits = omega (arith, end, c.args.self.now.small, c.back_len.ensures.count) }

pub returns-clause-inside : goal.returns-clause-inside
returns-clause-inside c =
    let end = inside c.args.self.now.bytes.now c.args.spelling.now c.args.at c.args.self.now.packed c.requires.offset c.requires.spelling in
    omega (arith, end, c.back_len.ensures.count)

pub returns-clause-next : goal.returns-clause-next
returns-clause-next c = λ i here.
    let t = step_at c.args.self.now.bytes.now c.args.spelling.now i c.args.at c.args.self.now.packed here.0 here.1 (c.requires.spelling i here) in
    omega (arith, t.0, c.back_len.ensures.count)
