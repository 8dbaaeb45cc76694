use Rattle.std.proofs.Common.{◌∙◌, ◌+◌, ◌*◌, ◌++◌, ◌∷◌, [], ap, length, take, drop}
use Rattle.byteorder.specs.Endian.{little_bytes}
use Rattle.rax_packed.specs.Nodes.{node_of}
use Rattle.rax_packed.specs.Ways.{links_in, prefix_in}
use Rattle.rax_packed.proofs.Layouts.{wide}
use Rattle.rax_packed.proofs.build.widened.Goals as goal

pub returns-clause-bytes : goal.returns-clause-bytes
returns-clause-bytes c =
    let node = node_of c.args.bytes.now in
    let at = c.read_sections-node.ensures in
    let count = length c.read_sections-node.result.edges.now + 1 in
    let low = c.split_at.result.0.now in
    let high = c.split_at.result.1.now in
    let low_refs = c.split_at-2.result.0.now in
    let high_refs = c.split_at-2.result.1.now in
    let counted = at.count in
    let head = c.begin_inner.ensures.head ∙ ap (λ p. 1 ∷ length p ∷ (p ++ little_bytes 2 count)) at.prefix in
    c.append-6.ensures.joined
    ∙ ap (λ xs. xs ++ high_refs) (c.append-5.ensures.joined
    ∙ ap (λ xs. xs ++ c.pack.result) (c.append-4.ensures.joined
    ∙ ap (λ xs. xs ++ low_refs) (c.append-3.ensures.joined
    ∙ ap (λ xs. xs ++ high) (c.append-2.ensures.joined
    ∙ ap (λ xs. xs ++ c.args.edge ∷ []) (c.append.ensures.joined
    ∙ ap (λ xs. xs ++ low) head)))))
    ∙ ap (λ r. ((((((1 ∷ length (prefix_in node) ∷ (prefix_in node ++ little_bytes 2 count)) ++ low) ++ c.args.edge ∷ []) ++ high) ++ low_refs) ++ r) ++ high_refs) c.pack.ensures.bytes
    ∙ wide (prefix_in node) (links_in node) c.args.place (record { edge = c.args.edge; to = c.args.to }) low high low_refs high_refs count c.requires.place (ap (λ n. n + 1) counted)
    (c.split_at.ensures.front ∙ ap (take c.args.place) at.edges) (c.split_at.ensures.back ∙ ap (drop c.args.place) at.edges)
    (c.split_at-2.ensures.front ∙ ap (take (12 * c.args.place)) at.refs) (c.split_at-2.ensures.back ∙ ap (drop (12 * c.args.place)) at.refs)
