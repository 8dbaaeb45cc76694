use Rattle.std.proofs.Common.{List, length, sym, ap, ◌∙◌, arith}
use Rattle.std.specs.Prelude.{Some}
use Rattle.listpack.specs.View.{list_of}
use Rattle.stream_node.specs.Entry.{Stored}
use Rattle.stream_node.specs.Entries.{entries_of}
use Rattle.stream_node.proofs.Endings.{node_ends, no_end}
use Rattle.stream_node.proofs.ending.last_id.Goals as goal

pub returns-then-count-eq0 : goal.returns-then-count-eq0
returns-then-count-eq0 c =
    let all = c.entries.ensures ∙ c.opened.ensures in
    sym (no_end (entries_of c.args.key (list_of c.args.pack.now)) (omega (arith, c.if-count-eq0.true, c.len-count.ensures, ap (λ (es : List Stored). length es) all)))

pub id_at_end-requires : goal.id_at_end-requires
id_at_end-requires c =
    let all = c.entries.ensures ∙ c.opened.ensures in
    let ends = node_ends c.args.key (list_of c.args.pack.now) c.requires (omega (arith, c.if-count-eq0.false, c.len-count.ensures, ap (λ (es : List Stored). length es) all)) in
    (ends.0, ends.2)

pub returns : goal.returns
returns c =
    let all = c.entries.ensures ∙ c.opened.ensures in
    let ends = node_ends c.args.key (list_of c.args.pack.now) c.requires (omega (arith, c.if-count-eq0.false, c.len-count.ensures, ap (λ (es : List Stored). length es) all)) in
    ap Some (c.id_at_end.ensures ends.0 ends.2) ∙ sym ends.1
