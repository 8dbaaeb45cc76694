use Rattle.std.proofs.Common.{◌≡◌, sym, subst}
use Rattle.std.specs.Prelude.{IfOk}
use Rattle.rehash_dict.specs.Table.{item, tables}
use Rattle.rehash_dict.specs.Keyed.{key_of}
use Rattle.rehash_dict.proofs.Named.{wants_named}
use Rattle.score_table.proofs.Edits.{items_changed}
use Rattle.score_table.proofs.table.ScoreTable.shrink.Goals as goal

pub returns-clause-value : goal.returns-clause-value
returns-clause-value c = λ m.
    let t = c.args.self.now.table in
    subst (λ b. IfOk c.shrink.result (λ began. began ≡ b)) (sym (wants_named (λ at. key_of m (item t at)) (tables t))) c.shrink.ensures.value

pub returns-clause-changed : goal.returns-clause-changed
returns-clause-changed c = λ m is.
    let e = c.shrink.ensures in
    items_changed m c.args.self.now c.shrink.new.self is e.items (e.keyed m is.keyed) e.seed (e.map m) (e.grown m)
