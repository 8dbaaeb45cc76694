use Rattle.std.proofs.Common.{sym, subst}
use Rattle.stream_node.specs.Node.{IsHead, LacksHead}
use Rattle.stream_node.specs.Rest.{rest_of}
use Rattle.stream_node.specs.Reading.{master_of}
use Rattle.listpack.specs.View.{list_of}
use Rattle.stream_node.proofs.Lists.{Texts}
use Rattle.stream_node.proofs.ReadBack.{reads_head}
use Rattle.stream_node.proofs.Walks.{node_walk}
use Rattle.stream_node.specs.Entries.{entries_of}
use Rattle.stream_node.proofs.node.opened.Goals as goal

pub invariant_of-result : goal.invariant_of-result
invariant_of-result c =
    let head = c.in-Some.head in
    let list = list_of c.args.pack.now in
    let h = subst (λ (x : Texts). IsHead x head.live head.deleted (master_of head) (rest_of c.in-Some.first)) c.all.ensures c.in-Some.ensures.some in
    record { whole = ∣ node_walk c.args.key list head c.in-Some.first (entries_of c.args.key list) c.requires h ∣₁ }

pub returns : goal.returns
returns c =
    let head = c.in-Some.head in
    sym (reads_head c.args.key (list_of c.args.pack.now) head.live head.deleted (master_of head) (rest_of c.in-Some.first)
    (subst (λ (x : Texts). IsHead x head.live head.deleted (master_of head) (rest_of c.in-Some.first)) c.all.ensures c.in-Some.ensures.some))

pub unreachable-requires : goal.unreachable-requires
unreachable-requires c =
    let n = c.requires in
    let lacks = subst (λ (x : Texts). LacksHead x) c.all.ensures c.in-None.ensures.none in
    lacks n.live n.deleted n.master n.behind n.head
