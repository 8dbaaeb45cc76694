use Rattle.std.proofs.Common.{◌≡◌, ◌+◌, ℕ, List, length, sym, subst}
use Rattle.listpack.specs.Pack.{texts}
use Rattle.stream_node.specs.Node.{marked}
use Rattle.stream_node.specs.Entries.{IsNode, entries_of}
use Rattle.stream_object.proofs.Marking.{live_left}
use Rattle.stream_object.proofs.node.live_count.Goals as goal

pub live_len-requires : goal.live_len-requires
live_len-requires c = (c.requires.0, subst (λ (b : List ℕ). IsNode c.requires.0 (texts b)) (sym c.known.ensures) c.requires.1.node)

pub returns : goal.returns
returns c =
    λ key n. (let node = subst (λ (b : List ℕ). IsNode key (texts b)) (sym c.known.ensures) n.node in
    let told = subst (λ (b : List ℕ). c.live_len.result + marked (entries_of key (texts b)) ≡ length (entries_of key (texts b))) c.known.ensures (c.live_len.ensures key node) in
    live_left (entries_of key (texts c.args.bytes.now)) c.live_len.result told)
