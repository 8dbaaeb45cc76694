use Rattle.std.proofs.Common.{List, ℕ, length, None, sym, ap, ◌∙◌, subst, arith}
use Rattle.listpack.specs.Pack.{texts}
use Rattle.stream_node.specs.Entries.{IsNode, entries_of}
use Rattle.stream_node.specs.Entry.{Stored}
use Rattle.stream_node.specs.Node.{last_id}
use Rattle.stream_object.proofs.Wholes.{whole_last}
use Rattle.stream_object.proofs.whole.end_of.Goals as goal

pub last_id-requires : goal.last_id-requires
last_id-requires c = subst (λ (bs : List ℕ). IsNode c.args.key (texts bs)) (sym c.known.ensures) c.requires.node

pub returns : goal.returns
returns c =
    let count = ap (λ (es : List Stored). length es) c.listed.ensures in
    whole_last c.args.key c.args.pack.now c.last_id.result c.requires (omega (arith, count, c.len-count.ensures, c.if-count-eq0.false))
    (omega (arith, count, c.len-count.ensures, c.if-count-gt-MOST_ENTRIES.false)) (c.all_stand.ensures c.if-not-all_stand.false)
    (c.last_id.ensures ∙ ap (λ (bs : List ℕ). last_id None (entries_of c.args.key (texts bs))) c.known.ensures)
