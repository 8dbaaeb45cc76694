use Rattle.std.proofs.Common.{◌∙◌, ap, sym, refl, arith, length, take, drop}
use Rattle.byteorder.specs.Endian.{little_number}
use Rattle.rax_packed.proofs.Keys.{equal_cmp}
use Rattle.rax_packed.specs.Nodes.{Leaf, ref_from}
use Rattle.rax_packed.proofs.Spellings.{as_leaf, as_inner}
use Rattle.rax_packed.proofs.Choices.{parts_within, prefix_told, prefix_within, parts_at, leaf_way, links_within, link_within, read_of, link_way, missing_way, edges_rise}
use Rattle.rax_packed.proofs.node.way_of.Goals as goal

pub parts-requires : goal.parts-requires
parts-requires c = parts_within _ _ c.requires

pub returns-then-shared-prefix : goal.returns-then-shared-prefix
returns-then-shared-prefix c =
    let prefix = c.parts.ensures.prefix in
    parts_at _ c.parts.result.0.now c.args.rest.now c.common-shared.result (prefix_told _ _ c.requires ∙ sym prefix) c.if-shared-prefix.true
    (let short = prefix_within _ _ c.requires in rw prefix short) c.common-shared.ensures.alike
    (c.common-shared.ensures.apart c.if-shared-prefix.true (let short = prefix_within _ _ c.requires in let same = ap length prefix in let less = c.if-shared-prefix.true in omega arith))

pub read_ref-requires : goal.read_ref-requires
read_ref-requires c =
    let leaf = as_leaf _ _ c.requires c.if-bytes-eq0.true in
    let body = leaf.body in
    omega (arith, ap length c.parts.ensures.body)

pub returns-then-bytes-eq0 : goal.returns-then-bytes-eq0
returns-then-bytes-eq0 c =
    let leaf = as_leaf _ _ c.requires c.if-bytes-eq0.true in
    let same = ap length c.parts.ensures.prefix in
    leaf_way _ c.args.bytes.now c.args.rest.now c.common-shared.result leaf refl (omega arith) (rw c.parts.ensures.prefix at c.common-shared.ensures.alike)
    ∙ ap (λ v. Leaf c.args.rest.now v) (ap ref_from (sym c.parts.ensures.body) ∙ sym c.read_ref.ensures)

pub links-requires : goal.links-requires
links-requires c = links_within _ c.args.bytes.now c.parts.result.1.now (as_inner _ _ c.requires c.if-bytes-eq0.false) c.parts.ensures.body

pub link-requires : goal.link-requires
link-requires c =
    let inner = as_inner _ _ c.requires c.if-bytes-eq0.false in
    let read = read_of _ c.args.bytes.now c.links.result.0.now c.links.result.1.now inner
    (c.links.ensures.edges ∙ ap (λ body. take (little_number 2 body) (drop 2 body)) c.parts.ensures.body)
    (c.links.ensures.refs ∙ ap (λ body. drop (little_number 2 body) (drop 2 body)) c.parts.ensures.body) in
    link_within inner.links c.links.result.0.now c.links.result.1.now c.in-Ok.place read c.in-Ok.ensures.bound

pub returns-in-Ok : goal.returns-in-Ok
returns-in-Ok c =
    let inner = as_inner _ _ c.requires c.if-bytes-eq0.false in
    let read = read_of _ c.args.bytes.now c.links.result.0.now c.links.result.1.now inner
    (c.links.ensures.edges ∙ ap (λ body. take (little_number 2 body) (drop 2 body)) c.parts.ensures.body)
    (c.links.ensures.refs ∙ ap (λ body. drop (little_number 2 body) (drop 2 body)) c.parts.ensures.body) in
    let same = ap length c.parts.ensures.prefix in
    rw c.link.ensures
    (link_way _ c.args.bytes.now c.args.rest.now c.links.result.0.now c.links.result.1.now c.common-shared.result c.in-Ok.place inner read refl (omega arith)
    (rw c.parts.ensures.prefix at c.common-shared.ensures.alike)
    c.in-Ok.ensures.bound (equal_cmp _ _ (c.in-Ok.ensures.ok 0)))

pub returns-in-Err : goal.returns-in-Err
returns-in-Err c =
    let inner = as_inner _ _ c.requires c.if-bytes-eq0.false in
    let read = read_of _ c.args.bytes.now c.links.result.0.now c.links.result.1.now inner
    (c.links.ensures.edges ∙ ap (λ body. take (little_number 2 body) (drop 2 body)) c.parts.ensures.body)
    (c.links.ensures.refs ∙ ap (λ body. drop (little_number 2 body) (drop 2 body)) c.parts.ensures.body) in
    let same = ap length c.parts.ensures.prefix in
    missing_way _ c.args.bytes.now c.args.rest.now c.links.result.0.now c.links.result.1.now c.common-shared.result c.in-Err.place inner read refl (omega arith)
    (rw c.parts.ensures.prefix at c.common-shared.ensures.alike)
    c.in-Err.ensures.bound (c.in-Err.ensures.position (rw read.edges_are (edges_rise inner.links _ inner.inner.rising)))
