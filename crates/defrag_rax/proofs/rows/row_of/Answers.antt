use Rattle.std.proofs.Common.{◌∙◌, ◌+◌, ◌-◌, ◌<◌, ◌/◌, ap, sym, subst, arith}
use Rattle.std.specs.Int.{div_ceil}
use Rattle.blocks.specs.Slabs.{per_slab}
use Rattle.class_heap.specs.Classes.{size_bounds, slots_bounds}
use Rattle.defrag_rax.proofs.Told.{rounded_up}
use Rattle.defrag_rax.proofs.rows.row_of.Goals as goal

pub nonzero_div-from : goal.nonzero_div-from
nonzero_div-from c = (let b = size_bounds c.args.class c.requires.class in let s = c.use_of-in_use.ensures.size in let f = c.from.ensures in omega (arith, b.0, s, f))

pub div_ceil-requires : goal.div_ceil-requires
div_ceil-requires c =
    (let b = slots_bounds c.args.class c.requires.class in
    subst (λ n. 0 < 65536 / n) (sym (c.from.ensures ∙ c.use_of-in_use.ensures.size)) b.0)

pub returns-clause-needed : goal.returns-clause-needed
returns-clause-needed c =
    let u = c.use_of-in_use.ensures in
    let b = slots_bounds c.args.class c.requires.class in
    let room = per_slab c.args.class in
    c.div_ceil.ensures
    ∙ ap (λ n. div_ceil c.use_of-in_use.result.used (65536 / n)) (c.from.ensures ∙ u.size)
    ∙ rounded_up c.use_of-in_use.result.used room b.0
    ∙ ap (λ n. (n + (room - 1)) / room) u.used
