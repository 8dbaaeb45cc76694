use Rattle.std.proofs.Common.{sym, ap}
use Rattle.rehash_dict.proofs.Edits.{unlinked_none, unlinked_some}
use Rattle.rehash_dict.proofs.chains.unlink.Goals as goal
use Rattle.rehash_dict.proofs.chains.unlink.Goals.{in-None, in-Some+in-Some-get_mut}

pub returns : goal.returns
returns g c =
    let e = c.remove-slab.ensures in
    elim c.match-before.branch [
      | in-None w ↦ unlinked_none c.args.entries.now c.remove-slab.new.self c.match-before.entries c.args.heads.now.items c.match-before.heads.items c.args.number c.args.at c.args.before
          c.remove-slab.result w.in-None.is e.value e.slots e.len e.capacity w.entries-is (ap (λ h. h.items) w.heads-is)
      | in-Some+in-Some-get_mut w ↦ unlinked_some c.args.entries.now c.remove-slab.new.self c.match-before.entries c.args.heads.now.items c.match-before.heads.items c.args.number c.args.at
          w.in-Some.before c.args.before c.remove-slab.result w.in-Some-get_mut.last.now w.in-Some.is e.value e.slots e.len e.capacity (sym w.in-Some-get_mut.ensures.value) w.entries-is
          (ap (λ h. h.items) w.heads-is)
    ]
