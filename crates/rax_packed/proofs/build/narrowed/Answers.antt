use Rattle.std.proofs.Common.{◌≡◌, ◌∙◌, ◌+◌, ◌*◌, ◌-◌, ◌++◌, ◌∷◌, ℕ, suc, ap, arith, length, take, drop, replicate}
use Rattle.std.proofs.lemmas.List.{drop-drop, take_rest}
use Rattle.byteorder.specs.Endian.{little_bytes}
use Rattle.rax_packed.specs.Nodes.{edges_of, refs_bytes, node_of}
use Rattle.rax_packed.specs.Ways.{links_in, prefix_in}
use Rattle.rax_packed.proofs.Layouts.{narrow}
use Rattle.rax_packed.proofs.build.narrowed.Goals as goal

pub returns : goal.returns
returns c =
    let node = node_of c.args.bytes.now in
    let at = c.read_sections-node.ensures in
    let count = length c.read_sections-node.result.edges.now - 1 in
    let low = c.split_at.result.0.now in
    let high = drop 1 c.split_at.result.1.now in
    let low_refs = c.split_at-2.result.0.now in
    let high_refs = drop 12 c.split_at-2.result.1.now in
    let zeros = replicate {A = ℕ} 13 0 in
    let head = c.begin_inner.ensures.head ∙ ap (λ p. 1 ∷ length p ∷ (p ++ little_bytes 2 count)) at.prefix in
    let next : c.args.place + 1 ≡ suc c.args.place = omega arith in
    let step : 12 * c.args.place + 12 ≡ 12 * suc c.args.place = omega arith in
    let one : c.append-2.new.bytes.items ≡ c.append.new.bytes.items ++ high = c.append-2.ensures.joined ∙ ap (λ xs. c.append.new.bytes.items ++ xs) (take_rest c.split_at.result.1.now 1) in
    let twelve : c.append-4.new.bytes.items ≡ c.append-3.new.bytes.items ++ high_refs = c.append-4.ensures.joined
    ∙ ap (λ xs. c.append-3.new.bytes.items ++ xs) (take_rest c.split_at-2.result.1.now 12) in
    c.append-5.ensures.joined
    ∙ ap (λ xs. xs ++ zeros) (twelve
    ∙ ap (λ xs. xs ++ high_refs) (c.append-3.ensures.joined
    ∙ ap (λ xs. xs ++ low_refs) (one
    ∙ ap (λ xs. xs ++ high) (c.append.ensures.joined
    ∙ ap (λ xs. xs ++ low) head))))
    ∙ narrow (prefix_in node) (links_in node) c.args.place low high low_refs high_refs zeros count c.requires.place (ap (λ n. n - 1) at.count)
    (c.split_at.ensures.front ∙ ap (take c.args.place) at.edges)
    (ap (drop 1) (c.split_at.ensures.back ∙ ap (drop c.args.place) at.edges) ∙ drop-drop 1 c.args.place (edges_of (links_in node)) ∙ ap (λ n. drop n (edges_of (links_in node))) next)
    (c.split_at-2.ensures.front ∙ ap (take (12 * c.args.place)) at.refs)
    (ap (drop 12) (c.split_at-2.ensures.back ∙ ap (drop (12 * c.args.place)) at.refs) ∙ drop-drop 12 (12 * c.args.place) (refs_bytes (links_in node))
    ∙ ap (λ n. drop n (refs_bytes (links_in node))) step)
