use Rattle.std.proofs.Common.{ℕ, List, sym, subst}
use Rattle.listpack.specs.Pack.{IsPack, texts}
use Rattle.stream_node.specs.Marked.{CanMark, IsMarked, marked_spellings}
use Rattle.stream_node.specs.Appended.{pack_len}
use Rattle.stream_object.proofs.Marking.{can_mark, mark_room, is_marked}
use Rattle.std.proofs.Common.{◌<◌, ◌^◌}
use Rattle.stream_object.proofs.node.marked.Goals as goal

pub mark_deleted-requires-clause-packed : goal.mark_deleted-requires-clause-packed
mark_deleted-requires-clause-packed c = subst IsPack (sym c.in_ok-pack.ensures.items) c.requires.1.pack

pub mark_deleted-requires-clause-entry : goal.mark_deleted-requires-clause-entry
mark_deleted-requires-clause-entry c =
    let can = can_mark c.requires.0 c.args.bytes.now c.args.index c.requires.2.0 c.requires.1 c.requires.2.1 in
    (c.requires.0, subst (λ (b : List ℕ). CanMark c.requires.0 (texts b) c.args.index) (sym c.in_ok-pack.ensures.items) can)

pub mark_deleted-requires-clause-room : goal.mark_deleted-requires-clause-room
mark_deleted-requires-clause-room c =
    subst (λ (b : List ℕ). pack_len (marked_spellings b c.args.index) < 2 ^ 32) (sym c.in_ok-pack.ensures.items)
    (mark_room c.requires.0 c.args.bytes.now c.args.index c.requires.2.0 c.requires.1 c.requires.2.1)

pub returns : goal.returns
returns c =
    is_marked c.args.bytes.now c.mark_deleted.new.pack.items c.args.index
    (subst (λ (b : List ℕ). IsMarked b c.mark_deleted.new.pack.items c.args.index) c.in_ok-pack.ensures.items c.in_ok-mark_deleted.ensures.marked)
