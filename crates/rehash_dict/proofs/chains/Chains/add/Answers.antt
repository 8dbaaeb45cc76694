use Rattle.std.proofs.Common.{◌≡◌, ◌<◌, ◌+◌, ◌%◌, subst, sym, ◌∙◌, refl, suc, length, set, arith, rules, is_some, count_by, vec_len}
use Rattle.rehash_dict.specs.declared.chains.Side.TheVariants.{Older, Newer}
use Rattle.rehash_dict.specs.Placed.{IsSize}
use Rattle.rehash_dict.specs.Sides.{AddsTo, HasRoom}
use Rattle.rehash_dict.specs.Chains.{room, IsLinked, rows}
use Rattle.rehash_dict.specs.Tables.{count}
use Rattle.rehash_dict.proofs.Rows.{length-rows, count_map_element}
use Rattle.rehash_dict.proofs.Ops.{has_room, view_of, linked_after, linked_count, added_older, added_newer, adds_older, adds_newer, older_some, newer_some}
use Rattle.rehash_dict.proofs.chains.Chains.add.Goals as goal

pub link-requires-clause-few : goal.link-requires-clause-few
link-requires-clause-few g c = omega (arith, c.insert_reserved-at.ensures.key, has_room c.self.inside.entries _ (subst HasRoom (sym c.self.view_is) c.requires.room))

pub link-requires-in-Newer-clause-few : goal.link-requires-in-Newer-clause-few
link-requires-in-Newer-clause-few g c = omega (arith, c.insert_reserved-at.ensures.key, has_room c.self.inside.entries _ (subst HasRoom (sym c.self.view_is) c.requires.room))

pub link-requires-clause-size : goal.link-requires-clause-size
link-requires-clause-size g c =
    let len : length c.self.inside.older.items ≡ vec_len c.self.inside.older = search rules in
    subst IsSize (length-rows c.self.inside.entries.slots c.self.inside.older.items ∙ len) c.self.invariant.stand.older_size

pub link-requires-in-Newer-clause-size : goal.link-requires-in-Newer-clause-size
link-requires-in-Newer-clause-size g c =
    let len : length c.self.inside.newer.items ≡ vec_len c.self.inside.newer = search rules in
    subst IsSize (length-rows c.self.inside.entries.slots c.self.inside.newer.items ∙ len) c.self.invariant.stand.newer_size

pub overflow_add-self : goal.overflow_add-self
overflow_add-self g c =
    let held : count (rows c.self.inside.entries.slots c.self.inside.older.items) + count (rows c.self.inside.entries.slots c.self.inside.newer.items) ≡ count_by is_some
    c.self.inside.entries.slots = c.self.invariant.stand.counted ∙ count_map_element c.self.inside.entries.slots in
    let fits = has_room c.self.inside.entries _ (subst HasRoom (sym c.self.view_is) c.requires.room) in
    omega (
      arith,
      fits,
      count_map_element c.self.inside.entries.slots,
      c.self.invariant.waits,
      c.insert_reserved-at.ensures.key_in_range,
      c.insert_reserved-at.ensures.capacity,
      c.capacity-room.type_inv,
      c.capacity-room.ensures.value,
      c.capacity-room.ensures.holds_all,
    )

pub invariant_of-self : goal.invariant_of-self
invariant_of-self g c =
    let l = linked_after c.self.inside.entries c.insert_reserved-at.new.self c.link.new.entries c.self.inside.older.items c.link.new.heads.items c.insert_reserved-at.result _
    c.insert_reserved-at.ensures.updates c.link.ensures in
    let some : 0 < length c.self.inside.older.items = omega
    (arith, older_some c.args.side _ c.args.self.now c.self.view_is c.in-Older.is c.requires.table, length-rows c.self.inside.entries.slots c.self.inside.older.items) in
    let more : count_by is_some c.link.new.entries.slots ≡ count_by is_some c.self.inside.entries.slots + 1 = linked_count _ _ _ _ _ c.link.ensures ∙ c.insert_reserved-at.ensures.len in
    subst (λ heads. IsLinked c.link.new.entries.slots heads c.self.inside.newer.items (c.self.inside.waiting + 1)) (sym l.heads_are)
    (added_older c.self.inside.entries.slots c.link.new.entries.slots c.self.inside.older.items c.self.inside.newer.items c.self.inside.waiting c.insert_reserved-at.result _
    c.self.invariant c.insert_reserved-at.ensures.was_vacant l.one more some refl).linked

pub returns-in-Older-clause-fits : goal.returns-in-Older-clause-fits
returns-in-Older-clause-fits g c = omega (arith, c.insert_reserved-at.ensures.key_in_range, c.insert_reserved-at.ensures.capacity, c.capacity-room.type_inv, c.capacity-room.ensures.value)

pub returns-in-Older-clause-adds : goal.returns-in-Older-clause-adds
returns-in-Older-clause-adds g c =
    let l = linked_after c.self.inside.entries c.insert_reserved-at.new.self c.link.new.entries c.self.inside.older.items c.link.new.heads.items c.insert_reserved-at.result _
    c.insert_reserved-at.ensures.updates c.link.ensures in
    let some : 0 < length c.self.inside.older.items = omega
    (arith, older_some c.args.side _ c.args.self.now c.self.view_is c.in-Older.is c.requires.table, length-rows c.self.inside.entries.slots c.self.inside.older.items) in
    let more : count_by is_some c.link.new.entries.slots ≡ count_by is_some c.self.inside.entries.slots + 1 = linked_count _ _ _ _ _ c.link.ensures ∙ c.insert_reserved-at.ensures.len in
    subst
    (λ heads. AddsTo c.args.side c.args.self.now (view_of c.link.new.entries.slots heads c.self.inside.newer.items (room c.link.new.entries)) c.insert_reserved-at.result
    (record { key = c.args.key; hash = c.args.hash; value = c.args.value })) (sym l.heads_are)
    (subst
    (λ side. AddsTo side c.args.self.now
    (view_of c.link.new.entries.slots (set c.self.inside.older.items (c.args.hash % length c.self.inside.older.items) (suc c.insert_reserved-at.result)) c.self.inside.newer.items
    (room c.link.new.entries)) c.insert_reserved-at.result (record { key = c.args.key; hash = c.args.hash; value = c.args.value })) (sym c.in-Older.is)
    (subst
    (λ now. AddsTo Older now
    (view_of c.link.new.entries.slots (set c.self.inside.older.items (c.args.hash % length c.self.inside.older.items) (suc c.insert_reserved-at.result)) c.self.inside.newer.items
    (room c.link.new.entries)) c.insert_reserved-at.result (record { key = c.args.key; hash = c.args.hash; value = c.args.value })) c.self.view_is
    (adds_older c.self.inside.entries.slots c.link.new.entries.slots c.self.inside.older.items c.self.inside.newer.items c.self.inside.waiting c.insert_reserved-at.result _
    c.self.invariant c.insert_reserved-at.ensures.was_vacant l.one more (room c.self.inside.entries) (room c.link.new.entries) some refl)))

pub invariant_of-self-in-Newer : goal.invariant_of-self-in-Newer
invariant_of-self-in-Newer g c =
    let l = linked_after c.self.inside.entries c.insert_reserved-at.new.self c.link-in-Newer.new.entries c.self.inside.newer.items c.link-in-Newer.new.heads.items
    c.insert_reserved-at.result _ c.insert_reserved-at.ensures.updates c.link-in-Newer.ensures in
    let some : 0 < length c.self.inside.newer.items = omega
    (arith, newer_some c.args.side _ c.args.self.now c.self.view_is c.in-Newer.is c.requires.table, length-rows c.self.inside.entries.slots c.self.inside.newer.items) in
    let more : count_by is_some c.link-in-Newer.new.entries.slots ≡ count_by is_some c.self.inside.entries.slots + 1 = linked_count _ _ _ _ _ c.link-in-Newer.ensures
    ∙ c.insert_reserved-at.ensures.len in
    subst (λ heads. IsLinked c.link-in-Newer.new.entries.slots c.self.inside.older.items heads c.self.inside.waiting) (sym l.heads_are)
    (added_newer c.self.inside.entries.slots c.link-in-Newer.new.entries.slots c.self.inside.older.items c.self.inside.newer.items c.self.inside.waiting c.insert_reserved-at.result _
    c.self.invariant c.insert_reserved-at.ensures.was_vacant l.one more some refl).linked

pub returns-in-Newer-clause-fits : goal.returns-in-Newer-clause-fits
returns-in-Newer-clause-fits g c = omega (arith, c.insert_reserved-at.ensures.key_in_range, c.insert_reserved-at.ensures.capacity, c.capacity-room.type_inv, c.capacity-room.ensures.value)

pub returns-in-Newer-clause-adds : goal.returns-in-Newer-clause-adds
returns-in-Newer-clause-adds g c =
    let l = linked_after c.self.inside.entries c.insert_reserved-at.new.self c.link-in-Newer.new.entries c.self.inside.newer.items c.link-in-Newer.new.heads.items
    c.insert_reserved-at.result _ c.insert_reserved-at.ensures.updates c.link-in-Newer.ensures in
    let some : 0 < length c.self.inside.newer.items = omega
    (arith, newer_some c.args.side _ c.args.self.now c.self.view_is c.in-Newer.is c.requires.table, length-rows c.self.inside.entries.slots c.self.inside.newer.items) in
    let more : count_by is_some c.link-in-Newer.new.entries.slots ≡ count_by is_some c.self.inside.entries.slots + 1 = linked_count _ _ _ _ _ c.link-in-Newer.ensures
    ∙ c.insert_reserved-at.ensures.len in
    subst
    (λ heads. AddsTo c.args.side c.args.self.now (view_of c.link-in-Newer.new.entries.slots c.self.inside.older.items heads (room c.link-in-Newer.new.entries))
    c.insert_reserved-at.result (record { key = c.args.key; hash = c.args.hash; value = c.args.value })) (sym l.heads_are)
    (subst
    (λ side. AddsTo side c.args.self.now
    (view_of c.link-in-Newer.new.entries.slots c.self.inside.older.items
    (set c.self.inside.newer.items (c.args.hash % length c.self.inside.newer.items) (suc c.insert_reserved-at.result)) (room c.link-in-Newer.new.entries)) c.insert_reserved-at.result
    (record { key = c.args.key; hash = c.args.hash; value = c.args.value })) (sym c.in-Newer.is)
    (subst
    (λ now. AddsTo Newer now
    (view_of c.link-in-Newer.new.entries.slots c.self.inside.older.items
    (set c.self.inside.newer.items (c.args.hash % length c.self.inside.newer.items) (suc c.insert_reserved-at.result)) (room c.link-in-Newer.new.entries)) c.insert_reserved-at.result
    (record { key = c.args.key; hash = c.args.hash; value = c.args.value })) c.self.view_is
    (adds_newer c.self.inside.entries.slots c.link-in-Newer.new.entries.slots c.self.inside.older.items c.self.inside.newer.items c.self.inside.waiting c.insert_reserved-at.result _
    c.self.invariant c.insert_reserved-at.ensures.was_vacant l.one more (room c.self.inside.entries) (room c.link-in-Newer.new.entries) some refl)))
