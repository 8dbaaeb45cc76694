use Rattle.std.proofs.Common.{◌≡◌, List, ℕ, ap, sym, subst, arith, set}
use Rattle.listpack.specs.Pack.{texts}
use Rattle.quicklist.specs.Nodes.{IsPacked, pack_len}
use Rattle.quicklist.proofs.Written.{is_short, pack_len_set, replaced_len, edited_written, not_long}
use Rattle.quicklist.proofs.packs.replaced_pack.Goals as goal

pub returns-then-is_long-clause-none : goal.returns-then-is_long-clause-none
returns-then-is_long-clause-none c =
    omega (arith, pack_len_set (texts c.args.bytes.now) c.args.index c.args.element.now c.requires.inside, c.is_long.ensures.0 c.if-is_long.true)

pub entry_size-requires : goal.entry_size-requires
entry_size-requires c = is_short c.args.element.now (not_long c.args.element.now c.is_long.result c.is_long.ensures c.if-is_long.false)

pub returns-then-len-gt-PACKED_BYTES-clause-none : goal.returns-then-len-gt-PACKED_BYTES-clause-none
returns-then-len-gt-PACKED_BYTES-clause-none c =
    let old = c.in_ok-pack.pack.items in
    let copy = c.in_ok-pack.ensures in
    let p : IsPacked old = subst IsPacked (sym copy) c.requires.packed in
    let t = replaced_len old c.replace.new.pack.items c.args.element.now c.args.index _ p c.in_ok-replace.ensures.entries c.in_ok-replace.ensures.list in
    let same = ap (λ (xs : List ℕ). pack_len (set (texts xs) c.args.index c.args.element.now)) copy in
    omega (arith, t.1, same, c.if-len-gt-PACKED_BYTES.true, c.len.ensures)

pub returns-clause-some : goal.returns-clause-some
returns-clause-some c =
    let old = c.in_ok-pack.pack.items in
    let copy = c.in_ok-pack.ensures in
    let p : IsPacked old = subst IsPacked (sym copy) c.requires.packed in
    let t = replaced_len old c.replace.new.pack.items c.args.element.now c.args.index _ p c.in_ok-replace.ensures.entries c.in_ok-replace.ensures.list in (
      edited_written c.replace.new.pack.items (set (texts old) c.args.index c.args.element.now) _ t.0 c.in_ok-replace.ensures.list (omega (arith, c.if-len-gt-PACKED_BYTES.false, c.len.ensures)),
      subst (λ (xs : List ℕ). texts c.replace.new.pack.items ≡ set (texts xs) c.args.index c.args.element.now) copy c.in_ok-replace.ensures.list,
    )
