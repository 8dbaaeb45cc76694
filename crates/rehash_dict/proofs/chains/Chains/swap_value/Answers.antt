use Rattle.std.proofs.Common.{◌∙◌, ap, Some, sym, refl}
use Rattle.rehash_dict.specs.Chains.{key_of_entry, room}
use Rattle.rehash_dict.proofs.Tweaks.{swapped, swaps_in, item_swapped}
use Rattle.rehash_dict.proofs.chains.Chains.swap_value.Goals as goal

pub invariant_of-self : goal.invariant_of-self
invariant_of-self g c =
    (swapped c.self.inside.entries.slots c.self.inside.older.items c.self.inside.newer.items c.self.inside.waiting c.args.at c.in-Some.entry.now
    (record c.in-Some.entry.now { value = c.replace.new.dest }) c.self.invariant (sym c.in-Some.ensures.value) refl refl).linked

pub returns : goal.returns
returns g c =
    swaps_in c.self.inside.entries.slots c.self.inside.older.items c.self.inside.newer.items c.self.inside.waiting c.args.at c.in-Some.entry.now
    (record c.in-Some.entry.now { value = c.replace.new.dest }) c.self.invariant (sym c.in-Some.ensures.value) refl refl (room c.self.inside.entries) c.args.self.now _ c.self.view_is (
      sym c.replace.ensures.value,
      item_swapped c.self.inside.entries.slots c.self.inside.older.items c.self.inside.newer.items c.self.inside.waiting c.args.at c.in-Some.entry.now
          (record c.in-Some.entry.now { value = c.replace.new.dest }) c.self.invariant (sym c.in-Some.ensures.value) refl refl
          ∙ ap (λ v. Some (record { key = key_of_entry c.in-Some.entry.now; hash = c.in-Some.entry.now.hash; value = v })) c.replace.ensures.after,
    )
