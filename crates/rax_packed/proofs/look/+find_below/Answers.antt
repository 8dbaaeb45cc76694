use Rattle.std.proofs.Common.{◌∙◌, sym, ap, length}
use Rattle.std.proofs.lemmas.List.{take_rest}
use Rattle.rax_packed.specs.Trees.{entries_at}
use Rattle.rax_packed.specs.Packed.{value_at}
use Rattle.rax_packed.proofs.Looks.{tree_live, tree_node, found_leaf, found_parts, found_missing, found_link, link_below, shorter}
use Rattle.rax_packed.proofs.look.+find_below.Goals as goal

pub bytes-requires : goal.bytes-requires
bytes-requires g t c = tree_live _ _ _ _ c.requires

pub way_of-requires : goal.way_of-requires
way_of-requires g t c = tree_node _ _ _ _ c.bytes.result.now c.requires c.bytes.ensures

pub find_below-requires : goal.find_below-requires
find_below-requires g t c κs within = (
  rw (take_rest c.args.rest.now c.in-Link.from) (shorter _ _ c.args.rest.now _ _ t c.decreases c.in-Link.ensures),
  (
    within,
    rw (take_rest c.args.rest.now c.in-Link.from)
        ((link_below _ _ c.bytes.result.now c.args.rest.now c.requires c.bytes.ensures c.in-Link.field-0 c.in-Link.from c.in-Link.to c.in-Link.ensures).tree),
  ),
)

pub returns-in-Leaf : goal.returns-in-Leaf
returns-in-Leaf g t c = sym (found_leaf _ _ c.bytes.result.now c.args.rest.now c.requires c.bytes.ensures c.in-Leaf.value c.in-Leaf.ensures)

pub returns-in-Parts : goal.returns-in-Parts
returns-in-Parts g t c = sym (found_parts _ _ c.bytes.result.now c.args.rest.now c.requires c.bytes.ensures c.in-Parts.field-0 c.in-Parts.ensures)

pub returns-in-Missing : goal.returns-in-Missing
returns-in-Missing g t c = sym (found_missing _ _ c.bytes.result.now c.args.rest.now c.requires c.bytes.ensures c.in-Missing.field-0 c.in-Missing.field-1 c.in-Missing.ensures)

pub returns-in-Link : goal.returns-in-Link
returns-in-Link g t c =
    c.find_below.ensures
    ∙ ap (λ rest. value_at (entries_at (length rest) (g.B.BlockStore.blocks c.args.store.now) c.in-Link.to) rest) (take_rest c.args.rest.now c.in-Link.from)
    ∙ sym (found_link _ _ c.bytes.result.now c.args.rest.now c.requires c.bytes.ensures c.in-Link.field-0 c.in-Link.from c.in-Link.to c.in-Link.ensures)
