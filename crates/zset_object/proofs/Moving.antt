-- What a call passes that goes through a part of a sorted set's blocks.
use Rattle.std.proofs.Common.{◌≡◌, ℕ, ◌+◌, ◌-◌, ◌<◌, ◌≤◌, Some, None, slice_get, sym, ap, ◌∙◌, subst, arith}
use Rattle.std.specs.Prelude.{nat_lt, min, if◌then◌else◌, IfSome}
use Rattle.blocks.specs.declared.Moved.{Moved}
use Rattle.blocks.specs.Blocks.{Blocks}
use Rattle.blocks.specs.Slabs.{Heap}
use Rattle.collection_walk.proofs.Counted.{passed_below, within_count}
use Rattle.collection_walk.proofs.Passing.{passed_within, goes_on, part_passed}
use Rattle.zset_object.specs.declared.scored.Scored.{Scored}
use Rattle.zset_object.specs.Scored.{IsScored, refs}
use Rattle.zset_object.specs.Relocation.{vacant_marks, marks, marks_end, PassesPart}
use Rattle.collection_walk.specs.Marks.{is_passed, is_within, ArePassed}
use Rattle.zset_object.proofs.Marks.{mark_below, marks_counted}

-- a part of the marks was passed
pub passes_part : (before : Blocks) (heap : Heap) (old new : Scored) (from room count start end : ℕ) (answer : Moved) → IsScored before old → count ≡ marks_end old → start ≡ min from count
    → end ≡ min count (start + room) → 32 ≤ room
    → answer.next ≡ (if nat_lt end count then Some end else None) → answer.used ≡ end - start → marks new ≡ marks old → vacant_marks new ≡ vacant_marks old
    → ArePassed heap (is_within start end) (marks new) (refs old) (refs new) → PassesPart heap old new from room answer
passes_part before heap old new from room count start end answer sound count_is start_is end_is wide next_is used_is same vacant p = record {
  same_marks = same;
  same_vacant = vacant;
  passed = part_passed from count start end answer.next start_is next_is heap (marks new) (refs old) (refs new) below p;
  counted = record {
    used = omega (
      arith,
      used_is,
      marks_counted (is_passed from answer.next) before old.limits old.seed old.body sound.body,
      ap (passed_below (is_passed from answer.next)) count_is,
      within_count (is_passed from answer.next) start end count (omega (arith, start_is, end_is)) within,
      end_is,
    );
    within = omega (arith, used_is, start_is, end_is);
    on = subst (λ n. IfSome answer.next (λ to. (from < to) × (to < n) × (answer.used ≡ room))) count_is
        (goes_on from count start end answer.next start_is next_is room answer.used (omega (arith, start_is, end_is)) wide (λ less. omega (arith, less, end_is, used_is))
        (λ here. omega (arith, here, used_is)));
  };
}
  where
    below : (index mark : ℕ) → slice_get (marks new) index ≡ Some mark → mark < count
    below index mark h = omega (arith, count_is, mark_below before old.limits old.seed old.body index mark sound.body (ap (λ ms. slice_get ms index) (sym same) ∙ h))

    within : (mark : ℕ) → mark < count → is_passed from answer.next mark ≡ is_within start end mark
    within mark low = passed_within from count start end answer.next start_is next_is mark low
