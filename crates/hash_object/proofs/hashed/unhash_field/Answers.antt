use Rattle.std.proofs.Common.{is_some, sym, ap, subst}
use Rattle.blocks.specs.Blocks.{no_step}
use Rattle.rehash_dict.specs.Tables.{IsSettled}
use Rattle.rehash_dict.specs.Keyed.{key_tables}
use Rattle.rehash_dict.proofs.Settled.{shrunk_settled}
use Rattle.hash_object.proofs.Tables.{taken_owned, taken_had, taken_keyed, taken_hashed, fields_lacks}
use Rattle.hash_object.proofs.hashed.unhash_field.Goals as goal

pub end_entry-requires : goal.end_entry-requires
end_entry-requires g c =
    let e = c.in-Some.ensures in
    taken_owned (g.B.BlockStore.blocks c.args.store.now) c.args.table.now c.remove.new.self c.args.field.now c.in-Some.key c.in-Some.value c.requires.keyed c.requires.owned e.removed

pub returns-in_err-shrink-in-Some-clause-hashed : goal.returns-in_err-shrink-in-Some-clause-hashed
returns-in_err-shrink-in-Some-clause-hashed g c = λ _.
    let m = g.B.BlockStore.blocks c.args.store.now in
    let n = g.B.BlockStore.blocks c.end_entry.new.store in
    let e = c.in-Some.ensures in
    let k = taken_keyed m c.args.table.now c.remove.new.self c.args.field.now c.in-Some.key c.in-Some.value c.requires.keyed c.requires.owned e.removed n c.shrink.new.self e.keyed
    c.end_entry.ensures.changes in
    taken_hashed m c.args.table.now c.remove.new.self c.args.field.now c.in-Some.key c.in-Some.value c.requires.keyed c.requires.owned e.removed n c.shrink.new.self e.keyed c.end_entry.ensures.changes
    c.remove.ensures.grown (c.shrink.ensures.keyed n k) c.shrink.ensures.items c.shrink.ensures.seed (c.shrink.ensures.grown n)

pub returns-in_ok-shrink-in-Some-clause-there : goal.returns-in_ok-shrink-in-Some-clause-there
returns-in_ok-shrink-in-Some-clause-there g c =
    let e = c.in-Some.ensures in
    sym (ap is_some (taken_had (g.B.BlockStore.blocks c.args.store.now) c.args.table.now c.remove.new.self c.args.field.now c.in-Some.key c.in-Some.value c.requires.keyed c.requires.owned e.removed))

pub returns-in_ok-shrink-in-Some-clause-hashed : goal.returns-in_ok-shrink-in-Some-clause-hashed
returns-in_ok-shrink-in-Some-clause-hashed g c = λ _.
    let m = g.B.BlockStore.blocks c.args.store.now in
    let n = g.B.BlockStore.blocks c.end_entry.new.store in
    let e = c.in-Some.ensures in
    let k = taken_keyed m c.args.table.now c.remove.new.self c.args.field.now c.in-Some.key c.in-Some.value c.requires.keyed c.requires.owned e.removed n c.shrink.new.self e.keyed
    c.end_entry.ensures.changes in
    taken_hashed m c.args.table.now c.remove.new.self c.args.field.now c.in-Some.key c.in-Some.value c.requires.keyed c.requires.owned e.removed n c.shrink.new.self e.keyed c.end_entry.ensures.changes
    c.remove.ensures.grown (c.shrink.ensures.keyed n k) c.shrink.ensures.items c.shrink.ensures.seed (c.shrink.ensures.grown n)

pub returns-in_ok-shrink-in-Some-clause-settled : goal.returns-in_ok-shrink-in-Some-clause-settled
returns-in_ok-shrink-in-Some-clause-settled g c = λ _.
    let n = g.B.BlockStore.blocks c.end_entry.new.store in
    subst IsSettled (sym (c.in_ok-shrink-in-Some.ensures.tables n)) (shrunk_settled (key_tables n c.remove.new.self))

pub returns-in-None-clause-there : goal.returns-in-None-clause-there
returns-in-None-clause-there g c = sym (ap is_some (fields_lacks (g.B.BlockStore.blocks c.args.store.now) c.args.table.now c.requires.keyed c.args.field.now c.in-None.ensures.none.1))

pub returns-in-None-clause-served : goal.returns-in-None-clause-served
returns-in-None-clause-served g c = no_step
