use Rattle.std.proofs.Common.{◌≡◌, ◌≢◌, ◌<◌, ◌+◌, ◌^◌, suc, ℕ, nat_lt, None, Some, length, map, refl, sym, ap, ◌∙◌, subst, lt-ltb, arith, w64}
use Rattle.std.proofs.lemmas.Int.{to_z-of_z}
use Rattle.slab.specs.Slab.{get, Slab}
use Rattle.score_list.specs.declared.towers.Tower.{Tower}
use Rattle.score_list.specs.declared.towers.Towers.{Towers}
use Rattle.score_list.specs.Rows.{Lacks}
use Rattle.score_list.specs.Linked.{IsLinked, LinkedAs, Adds, items, order, element_of, element_at, links_of}
use Rattle.score_list.proofs.Joins.{lacks_vacant, linked_elsewhere, ordered_as, linked_is, elements_elsewhere}
use Rattle.score_list.proofs.towers.Towers.add.Goals as goal

with_capacity : (t : Towers) (capacity : ℕ) → IsLinked t → IsLinked (record t { slab = record t.slab { capacity = capacity } })
with_capacity t capacity l = record { rows = l.rows; scored = l.scored; based = l.based; distinct = l.distinct; counted = l.counted; full_head = l.full_head; short = l.short }

-- a slab with a new entry where there was none
module _ (t : Towers) (linked : IsLinked t) (mid new : Slab Tower) (key : ℕ) (tower : Tower) (slots : mid.slots ≡ t.slab.slots) (vacant : get mid key ≡ None)
    (now : get new key ≡ Some tower) (others : (k : ℕ) → k ≢ key → get new k ≡ get mid k) where
  abbrev after : Towers
  after = record t { slab = new }

  as_before : (k : ℕ) → get mid k ≡ get t.slab k
  as_before k = ap (λ s. get (record { slots = s; vacant_key = 0; capacity = 0 }) k) slots

  same : (k : ℕ) → k ≢ key → get new k ≡ get t.slab k
  same k ne = others k ne ∙ as_before k

  lacks : Lacks (suc key) (order t)
  lacks = lacks_vacant t key (order t) (sym (as_before key) ∙ vacant) linked.based

  linked_on : LinkedAs after (order t)
  linked_on = linked_elsewhere t after key refl same (order t) refl lacks linked

  kept_on : items after ≡ items t
  kept_on = ap (map (element_at after)) (ordered_as after (order t) linked_on) ∙ elements_elsewhere t after key refl same (order t) lacks

  adds_on : key + 1 < 2 ^ 64 → 0 < length tower.links.items → Adds t after key (tower.score, tower.member)
  adds_on fits high = record {
    linked = linked_on;
    len = refl;
    fresh = lacks;
    based = ap (λ s. nat_lt 0 (length (links_of s))) now ∙ lt-ltb 0 (length tower.links.items) high;
    is = ap element_of now;
    others = λ k ne. ap element_of (same k ne);
    fits = fits;
  }

pub returns-in_err-reserve-clause-linked : goal.returns-in_err-reserve-clause-linked
returns-in_err-reserve-clause-linked c = subst (λ s. IsLinked (record c.args.self.now { slab = s })) (sym c.reserve.ensures.rest_kept)
    (with_capacity c.args.self.now c.reserve.new.self.capacity c.requires.linked)

pub returns-clause-adds : goal.returns-clause-adds
returns-clause-adds c =
    let i = c.insert_reserved-key in
    let high : 0 < length c.in_ok-links.links.items = omega (arith, c.requires.height, c.in_ok-links.ensures.len) in
    subst (λ n. Adds c.args.self.now (record c.args.self.now { slab = i.new.self }) i.result (n, c.args.member)) (to_z-of_z w64 c.args.score c.ranges.score)
    (adds_on c.args.self.now c.requires.linked c.reserve.new.self i.new.self i.result _ (ap (λ s. s.slots) c.reserve.ensures.rest_kept) i.ensures.was_vacant i.ensures.updates.changed
    i.ensures.updates.others (omega (arith, i.ensures.key_in_range, i.ensures.capacity, c.capacity-room.type_inv, c.capacity-room.ensures.value)) high)

pub returns-clause-linked : goal.returns-clause-linked
returns-clause-linked c =
    let i = c.insert_reserved-key in
    linked_is _ (order c.args.self.now)
    (linked_on c.args.self.now c.requires.linked c.reserve.new.self i.new.self i.result _ (ap (λ s. s.slots) c.reserve.ensures.rest_kept) i.ensures.was_vacant i.ensures.updates.changed
    i.ensures.updates.others)

pub returns-clause-kept : goal.returns-clause-kept
returns-clause-kept c =
    let i = c.insert_reserved-key in
    kept_on c.args.self.now c.requires.linked c.reserve.new.self i.new.self i.result _ (ap (λ s. s.slots) c.reserve.ensures.rest_kept) i.ensures.was_vacant i.ensures.updates.changed
    i.ensures.updates.others
