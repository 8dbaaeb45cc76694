use Rattle.std.proofs.Common.{◌+◌, ◌<◌, ℕ, List, length, arith, rules}
use Rattle.listpack.specs.Pack.{IsPack, IsOffset}
use Rattle.listpack.proofs.Offsets.{length_texts, offset_inside, found_at, not_missing}
use Rattle.listpack.proofs.walks.Pack.spelling_at.Goals as goal

inside : (bytes : List ℕ) (at : ℕ) → IsPack bytes → IsOffset bytes at → at + 1 < length bytes
inside bytes at p o = let h = offset_inside bytes o.0 p (omega (arith, o.1.0, length_texts bytes)) in omega (arith, o.1.1, h)

pub slice_bounds-split_spelling-count : goal.slice_bounds-split_spelling-count
slice_bounds-split_spelling-count c = let h = inside c.args.self.now.bytes.now c.args.at c.args.self.now.packed c.requires in omega arith

pub slice_bounds-split_spelling-start : goal.slice_bounds-split_spelling-start
slice_bounds-split_spelling-start c = let h = inside c.args.self.now.bytes.now c.args.at c.args.self.now.packed c.requires in search rules

pub unreachable-requires : goal.unreachable-requires
unreachable-requires c = not_missing c.args.self.now.bytes.now c.requires.0 c.args.at c.args.self.now.packed c.requires.1.0 c.requires.1.1 c.in-None.ensures.none

pub returns-clause-value : goal.returns-clause-value
returns-clause-value c = λ i t0.
    found_at c.args.self.now.bytes.now c.in-Some.spelling.now c.in-Some.field-0-1.now i c.args.at c.args.self.now.packed t0.0 t0.1 c.in-Some.ensures.some.0 c.in-Some.ensures.some.1
