use Rattle.std.proofs.Common.{◌≡◌, ◌∙◌, Some, None, IsSome, is_some, sym, ap, subst, arith}
use Rattle.stream_node.specs.Ids.{IsId}
use Rattle.stream_object.specs.Found.{IsNear}
use Rattle.stream_object.specs.Parts.{part, parts_of}
use Rattle.stream_object.proofs.Nears.{near_none, near_found, found_value, found_block, found_near}
use Rattle.stream_object.proofs.nodes.near.Goals as goal

pub seek-requires : goal.seek-requires
seek-requires g c = c.requires.parts.stands

pub find-requires : goal.find-requires
find-requires g c = c.requires.parts.stands

pub returns-in_default-clause-none : goal.returns-in_default-clause-none
returns-in_default-clause-none g c =
    let m = g.B.BlockStore.blocks c.args.store.now in
    let id : IsId c.args.id = record { ms = omega arith; seq = omega arith } in
    near_none m c.args.id id c.args.up c.args.tree.now (parts_of m c.args.tree.now) c.requires.parts (sym c.in_default.is ∙ c.seek.ensures)

pub bytes-requires : goal.bytes-requires
bytes-requires g c =
    let m = g.B.BlockStore.blocks c.args.store.now in
    let id : IsId c.args.id = record { ms = omega arith; seq = omega arith } in
    let ps = parts_of m c.args.tree.now in
    let found = near_found m c.args.id id c.args.up c.in-Some.key c.args.tree.now ps c.requires.parts (sym c.in-Some.is ∙ c.seek.ensures) in
    let same : Some c.in-Some-find.at ≡ Some found.0.at = sym c.in-Some-find.is ∙ c.find.ensures ∙ found_value m c.args.tree.now ps c.requires.parts c.args.up c.args.id c.in-Some.key found in
    let at : found.0.at ≡ c.in-Some-find.at = cc in
    subst (λ r. IsSome (m r)) at (ap is_some (found_block m c.args.tree.now ps c.requires.parts c.args.up c.args.id c.in-Some.key found))

pub unreachable-requires : goal.unreachable-requires
unreachable-requires g c =
    let m = g.B.BlockStore.blocks c.args.store.now in
    let id : IsId c.args.id = record { ms = omega arith; seq = omega arith } in
    let ps = parts_of m c.args.tree.now in
    let found = near_found m c.args.id id c.args.up c.in-Some.key c.args.tree.now ps c.requires.parts (sym c.in-Some.is ∙ c.seek.ensures) in
    let bad : None ≡ Some found.0.at = sym c.in-None.is ∙ c.find.ensures ∙ found_value m c.args.tree.now ps c.requires.parts c.args.up c.args.id c.in-Some.key found in
    cc

pub returns-clause-some : goal.returns-clause-some
returns-clause-some g c =
    let m = g.B.BlockStore.blocks c.args.store.now in
    let id : IsId c.args.id = record { ms = omega arith; seq = omega arith } in
    let ps = parts_of m c.args.tree.now in
    let found = near_found m c.args.id id c.args.up c.in-Some.key c.args.tree.now ps c.requires.parts (sym c.in-Some.is ∙ c.seek.ensures) in
    let near = found_near m c.args.tree.now ps c.requires.parts c.args.up c.args.id c.in-Some.key found c.in-Some-find.at c.bytes.result.now (sym c.in-Some-find.is ∙ c.find.ensures)
    c.bytes.ensures in
    subst (λ k. IsNear c.args.up ps c.args.id (part k c.in-Some-find.at c.bytes.result.now)) (sym c.of_key.ensures) near
