-- Blocks of members that move: their marks, and what a call passes.
use Rattle.std.proofs.Common.{◌≡◌, ℕ, zero, suc, ◌+◌, ◌-◌, ◌<◌, ◌≤◌, Bool, true, false, [], ◌∷◌, Some, None, IsSome, is_some, slice_get, count_by, refl, sym, ap, ◌∙◌, subst, arith}
use Rattle.std.specs.Prelude.{nat_lt, ◌&&◌, min, if◌then◌else◌, IfSome, MatchBool}
use Rattle.std.proofs.lemmas.Bool.{and_parts}
use Rattle.blocks.specs.declared.BlockRef.{BlockRef}
use Rattle.blocks.specs.declared.Moved.{Moved}
use Rattle.blocks.specs.Slabs.{Heap, wants}
use Rattle.blocks.proofs.Sums.{count_cons}
use Rattle.rehash_dict.specs.Table.{item}
use Rattle.rehash_dict.specs.MapOf.{key_refs}
use Rattle.blocks.specs.Blocks.{Blocks}
use Rattle.object_codec.specs.declared.limits.Limits.{Limits}
use Rattle.set_object.specs.declared.members.Body.{Body}
use Rattle.set_object.specs.declared.members.Body.TheVariants.{Empty, Numbers, Pack, Table}
use Rattle.set_object.specs.declared.members.Members.{Members}
use Rattle.set_object.specs.Members.{IsMembers, IsBody, refs, refs_of}
use Rattle.set_object.specs.Relocation.{vacant_marks, marks, marks_in, marks_end, vacant_in, end_in, ItemWaits, WantsMove, PassesPart}
use Rattle.collection_walk.specs.Marks.{items_from, is_passed, is_within, IsCalm, ArePassed}
use Rattle.collection_walk.proofs.Numbered.{within_parts, mark_item, item_mark, items_passed}
use Rattle.collection_walk.proofs.Counted.{passed_below, each_number, within_count}
use Rattle.collection_walk.proofs.Passing.{passed_within, goes_on, part_passed}
use Rattle.set_object.proofs.Hashing.{Dict}

pub item_waits_mark : (heap : Heap) (t : Dict) (start end : ℕ) → (w : ItemWaits heap t start end)
    → (index : ℕ) × (slice_get (items_from 0 t.items) index ≡ Some w.at) × (slice_get (key_refs t) index ≡ Some w.element.key)
item_waits_mark heap t start end w = (let p = item_mark 0 t.items w.at w.element w.found in (p.0, p.1 ∙ ap Some (omega arith), p.2))

-- ---- what a call answers

-- each mark and each vacant item number is one of the numbers below the end
marks_counted : (passed : ℕ → Bool) (m : Blocks) (limits : Limits) (seed : ℕ) (body : Body) → IsBody m limits seed body
    → count_by passed (marks_in body) + count_by passed (vacant_in body) ≡ passed_below passed (end_in body)
marks_counted passed m limits seed Empty is = refl
marks_counted passed m limits seed (Numbers p) is = omega (arith, count_cons passed 0 [])
marks_counted passed m limits seed (Pack p) is = omega (arith, count_cons passed 0 [])
marks_counted passed m limits seed (Table t) is = each_number passed t is.keyed.placed.below

-- a mark is below the number that all marks are below
mark_below : (after : Blocks) (limits : Limits) (seed : ℕ) (body : Body) (index mark : ℕ) → IsBody after limits seed body → slice_get (marks_in body) index ≡ Some mark → mark < end_in body
mark_below after limits seed Empty index mark is h = cc
mark_below after limits seed (Numbers p) zero mark is h = (let same : 0 ≡ mark = cc in omega (arith, same))
mark_below after limits seed (Numbers p) (suc index) mark is h = cc
mark_below after limits seed (Pack p) zero mark is h = (let same : 0 ≡ mark = cc in omega (arith, same))
mark_below after limits seed (Pack p) (suc index) mark is h = cc
mark_below after limits seed (Table t) index mark is h =
    let p = mark_item 0 t.items index mark h in
    let some : IsSome (item t p.0) = ap is_some p.3 in
    omega (arith, p.2, is.keyed.placed.below p.0 some)

-- a part of the marks was passed
pub passes_part : (before : Blocks) (heap : Heap) (old new : Members) (from room count start end : ℕ) (answer : Moved) → IsMembers before old → count ≡ marks_end old
    → start ≡ min from count → end ≡ min count (start + room) → 32 ≤ room
    → answer.next ≡ (if nat_lt end count then Some end else None) → answer.used ≡ end - start → marks new ≡ marks old → vacant_marks new ≡ vacant_marks old
    → ArePassed heap (is_within start end) (marks new) (refs old) (refs new) → PassesPart heap old new from room answer
passes_part before heap old new from room count start end answer sound count_is start_is end_is wide next_is used_is same vacant p = record {
  same_marks = same;
  same_vacant = vacant;
  passed = part_passed from count start end answer.next start_is next_is heap (marks new) (refs old) (refs new) below p;
  counted = record {
    used = omega (
      arith,
      used_is,
      marks_counted (is_passed from answer.next) before old.limits old.seed old.body sound.body,
      ap (passed_below (is_passed from answer.next)) count_is,
      within_count (is_passed from answer.next) start end count (omega (arith, start_is, end_is)) within,
      end_is,
    );
    within = omega (arith, used_is, start_is, end_is);
    on = subst (λ n. IfSome answer.next (λ to. (from < to) × (to < n) × (answer.used ≡ room))) count_is
        (goes_on from count start end answer.next start_is next_is room answer.used (omega (arith, start_is, end_is)) wide (λ less. omega (arith, less, end_is, used_is))
        (λ here. omega (arith, here, used_is)));
  };
}
  where
    below : (index mark : ℕ) → slice_get (marks new) index ≡ Some mark → mark < count
    below index mark h = omega (arith, count_is, mark_below before old.limits old.seed old.body index mark sound.body (ap (λ ms. slice_get ms index) (sym same) ∙ h))

    within : (mark : ℕ) → mark < count → is_passed from answer.next mark ≡ is_within start end mark
    within mark low = passed_within from count start end answer.next start_is next_is mark low

-- ---- whether one wants to move

pub waits_one : (heap : Heap) (s : Members) (at : BlockRef) (start end : ℕ) (b : Bool) → marks s ≡ 0 ∷ [] → refs s ≡ at ∷ [] → b ≡ (is_within start end 0 && wants heap at)
    → MatchBool b (WantsMove heap s start end) (ArePassed heap (is_within start end) (marks s) (refs s) (refs s))
waits_one heap s at start end true marks_are refs_are is =
    let both = and_parts (is_within start end 0) (wants heap at) (sym is) in
    let parts = within_parts start end 0 both.0 in
    record { index = 0; mark = 0; ref = at; marked = ap (λ l. slice_get l 0) marks_are; named = ap (λ l. slice_get l 0) refs_are; from = parts.0; below = parts.1; waits = both.1 }
waits_one heap s at start end false marks_are refs_are is =
    subst (λ ms. ArePassed heap (is_within start end) ms (refs s) (refs s)) (sym marks_are)
    (subst (λ rs. ArePassed heap (is_within start end) (0 ∷ []) rs rs) (sym refs_are) (record { calm = calm; stays = λ index mark marked out. refl }))
  where
    calm : (index mark : ℕ) (r : BlockRef) → slice_get (0 ∷ []) index ≡ Some mark → slice_get (at ∷ []) index ≡ Some r → is_within start end mark ≡ true → wants heap r ≡ false
    calm zero mark r marked named within =
        let first : 0 ≡ mark = cc in
        let same : at ≡ r = cc in
        subst (λ q. wants heap q ≡ false) same (second (is_within start end 0) (wants heap at) (ap (is_within start end) first ∙ within) (sym is))
      where
        second : (a b : Bool) → a ≡ true → (a && b) ≡ false → b ≡ false
        second true b h k = k
        second false b h k = cc
    calm (suc index) mark r marked named within = cc

pub waits_table : (heap : Heap) (s : Members) (t : Dict) (start end : ℕ) (b : Bool) → s.body ≡ Table t → MatchBool b (ItemWaits heap t start end) (IsCalm heap t start end)
    → MatchBool b (WantsMove heap s start end) (ArePassed heap (is_within start end) (marks s) (refs s) (refs s))
waits_table heap s t start end true is w =
    let p = item_waits_mark heap t start end w in
    record {
      index = p.0;
      mark = w.at;
      ref = w.element.key;
      marked = ap (λ b. slice_get (marks_in b) p.0) is ∙ p.1;
      named = ap (λ b. slice_get (refs_of b) p.0) is ∙ p.2;
      from = w.from;
      below = w.below;
      waits = w.waits;
    }
waits_table heap s t start end false is calm =
    subst (λ b. ArePassed heap (is_within start end) (marks_in b) (refs_of b) (refs_of b)) (sym is) (items_passed heap t t start end (λ at. refl) (λ at h. refl) calm)

-- what waits in a part waits from the part's start on
pub part_waits : (heap : Heap) (s : Members) (from room count start end : ℕ) → start ≡ min from count → end ≡ min count (start + room) → WantsMove heap s start end
    → WantsMove heap s from (from + room)
part_waits heap s from room count start end start_is end_is w = record {
  index = w.index;
  mark = w.mark;
  ref = w.ref;
  marked = w.marked;
  named = w.named;
  from = omega (arith, w.from, w.below, start_is, end_is);
  below = omega (arith, w.from, w.below, start_is, end_is);
  waits = w.waits;
}
