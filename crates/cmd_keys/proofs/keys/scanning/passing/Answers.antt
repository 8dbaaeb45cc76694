use Rattle.std.proofs.Common.{ap, sym, ◌∙◌, rules, true, false}
use Rattle.std.specs.Prelude.{◌≡◌}
use Rattle.rehash_dict.specs.Table.{item}
use Rattle.held.specs.Table.{value_at}
use Rattle.cmd_keys.proofs.Paging.{passes_at, type_passes}
use Rattle.cmd_keys.proofs.keys.scanning.passing.Goals as goal

pub returns-then-not-has_type-clause-none : goal.returns-then-not-has_type-clause-none
returns-then-not-has_type-clause-none g c key p =
    let m = g.B.BlockStore.blocks c.args.keyspace.now.store in
    let held = ap (λ t. value_at (item t c.args.item)) (sym c.table.ensures) ∙ ap value_at c.entry.ensures.found in
    let is = c.has_type.ensures m ∙ type_passes c.args.keyspace.now.bases m c.args.at.now c.requires.ready.db c.requires.ready.sound c.args.options.now c.args.item key _ p held in
    let bad : false ≡ true = sym (search rules) ∙ is in
    absurd (cc bad)

pub returns-else-not-has_type-clause-some : goal.returns-else-not-has_type-clause-some
returns-else-not-has_type-clause-some g c =
    let m = g.B.BlockStore.blocks c.args.keyspace.now.store in
    let held = ap (λ t. value_at (item t c.args.item)) (sym c.table.ensures) ∙ ap value_at c.entry.ensures.found in
    passes_at c.args.keyspace.now.bases m c.args.at.now c.requires.ready.db c.requires.ready.sound c.args.options.now c.args.item c.in-Some.key.now _ c.in-Some.ensures.found (search rules)
    held (sym (c.has_type.ensures m) ∙ (search rules))
