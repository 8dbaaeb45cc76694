use Rattle.std.proofs.Common.{sym, refl}
use Rattle.rehash_dict.specs.Chains.{room}
use Rattle.rehash_dict.proofs.Tweaks.{swapped, swaps_in, item_swapped}
use Rattle.rehash_dict.proofs.chains.Chains.swap_key.Goals as goal

pub invariant_of-self : goal.invariant_of-self
invariant_of-self g c =
    (swapped c.self.inside.entries.slots c.self.inside.older.items c.self.inside.newer.items c.self.inside.waiting c.args.at c.in-Some.entry.now
    (record c.in-Some.entry.now { slab = c.args.new.slab; slot = c.args.new.slot }) c.self.invariant (sym c.in-Some.ensures.value) refl refl).linked

pub returns : goal.returns
returns g c =
    swaps_in c.self.inside.entries.slots c.self.inside.older.items c.self.inside.newer.items c.self.inside.waiting c.args.at c.in-Some.entry.now
    (record c.in-Some.entry.now { slab = c.args.new.slab; slot = c.args.new.slot }) c.self.invariant (sym c.in-Some.ensures.value) refl refl (room c.self.inside.entries)
    c.args.self.now _ c.self.view_is
    (item_swapped c.self.inside.entries.slots c.self.inside.older.items c.self.inside.newer.items c.self.inside.waiting c.args.at c.in-Some.entry.now
    (record c.in-Some.entry.now { slab = c.args.new.slab; slot = c.args.new.slot }) c.self.invariant (sym c.in-Some.ensures.value) refl refl)
