use Rattle.std.proofs.Common.{◌≡◌, ◌∙◌, ◌*◌, ap, sym, arith, length, take, drop, length-append}
use Rattle.std.proofs.lemmas.List.{take_at, length-map}
use Rattle.byteorder.specs.Endian.{little_number}
use Rattle.rax_packed.specs.Nodes.{edges_of, refs_bytes, node_of, prefix_from}
use Rattle.rax_packed.specs.Ways.{links_in}
use Rattle.rax_packed.proofs.Spellings.{length_refs_bytes}
use Rattle.rax_packed.proofs.Choices.{parts_within, links_within, inner_told, read_of, prefix_told}
use Rattle.rax_packed.proofs.node.read_sections.Goals as goal

pub parts-requires : goal.parts-requires
parts-requires c = parts_within _ _ c.requires.node

pub links-requires : goal.links-requires
links-requires c = links_within _ c.args.bytes.now c.parts.result.1.now (inner_told c.args.bytes.now c.requires) c.parts.ensures.body

pub first_refs-requires : goal.first_refs-requires
first_refs-requires c =
    let inner = inner_told c.args.bytes.now c.requires in
    let read = read_of _ c.args.bytes.now c.links.result.0.now c.links.result.1.now inner
    (c.links.ensures.edges ∙ ap (λ body. take (little_number 2 body) (drop 2 body)) c.parts.ensures.body)
    (c.links.ensures.refs ∙ ap (λ body. drop (little_number 2 body) (drop 2 body)) c.parts.ensures.body) in
    omega (arith, ap length read.refs_are, length-append (refs_bytes inner.links) read.more, length_refs_bytes inner.links, ap length read.edges_are, length-map inner.links (λ l. l.edge))

pub returns : goal.returns
returns c =
    let inner = inner_told c.args.bytes.now c.requires in
    let links = inner.links in
    let few = inner.few in
    let short = inner.inner.short in
    let rest = c.requires.few in
    let read = read_of _ c.args.bytes.now c.links.result.0.now c.links.result.1.now inner
    (c.links.ensures.edges ∙ ap (λ body. take (little_number 2 body) (drop 2 body)) c.parts.ensures.body)
    (c.links.ensures.refs ∙ ap (λ body. drop (little_number 2 body) (drop 2 body)) c.parts.ensures.body) in
    let is : links_in (node_of c.args.bytes.now) ≡ links = ap links_in inner.node_is in
    let many : length c.links.result.0.now ≡ length links = ap length read.edges_are ∙ length-map links (λ l. l.edge) in
    let all : length (refs_bytes links) ≡ 12 * length c.links.result.0.now = length_refs_bytes links ∙ ap (λ n. 12 * n) (sym many) in
    let prefix : c.parts.result.0.now ≡ prefix_from c.args.bytes.now = c.parts.ensures.prefix in
    record {
      prefix = prefix ∙ sym (prefix_told _ _ c.requires.node);
      edges = read.edges_are ∙ ap edges_of (sym is);
      refs = c.first_refs.ensures.refs ∙ ap (take (12 * length c.links.result.0.now)) read.refs_are ∙ take_at (refs_bytes links) read.more (12 * length c.links.result.0.now) all
          ∙ ap refs_bytes (sym is);
      short = omega (arith, ap length prefix);
      count = many ∙ ap length (sym is);
      few = omega arith;
      refs_len = c.first_refs.ensures.len;
    }
