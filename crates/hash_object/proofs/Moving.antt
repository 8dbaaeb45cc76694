-- What a call passes that goes through a part of a hash's blocks.
use Rattle.std.proofs.Common.{◌++◌, Option, refl, ◌≡◌, ◌⊎◌, ℕ, zero, suc, ◌<◌, ◌≤◌, Some, None, is_some, slice_get, sym, ap, ◌∙◌, subst, arith}
use Rattle.std.specs.Prelude.{nat_lt, min, if◌then◌else◌, IfSome}
use Rattle.blocks.specs.declared.Moved.{Moved}
use Rattle.blocks.specs.Blocks.{Blocks}
use Rattle.blocks.specs.Slabs.{Heap}
use Rattle.object_codec.specs.declared.limits.Limits.{Limits}
use Rattle.rehash_dict.specs.Table.{Element, item}
use Rattle.blocks.specs.declared.BlockRef.{BlockRef}
use Rattle.collection_walk.proofs.Numbered.{within_parts, outside_parts}
use Rattle.collection_walk.proofs.Passing.{passed_within, goes_on, part_passed}
use Rattle.hash_object.specs.declared.fields.Body.{Body}
use Rattle.hash_object.specs.declared.fields.Body.TheVariants.{Empty, Pack, Table}
use Rattle.hash_object.specs.declared.fields.Fields.{Fields}
use Rattle.hash_object.specs.Hashed.{FieldTable, blocks_of}
use Rattle.hash_object.specs.Fields.{IsFields, IsBody, refs}
use Rattle.hash_object.specs.Relocation.{vacant_mark, vacant_below, marks_from, marks, marks_in, marks_end, end_in, vacant_marks, vacant_in, units, units_in, block_in, IsCalm, PassesPart}
use Rattle.collection_walk.specs.Marks.{is_passed, is_within, ArePassed}
use Rattle.hash_object.proofs.Marks.{marks_alike, mark_block, block_below, vacant_low, count_agree, count_none}

module _ (heap : Heap) (t u : FieldTable) (start end : ℕ) (same : (at : ℕ) → is_some (item u at) ≡ is_some (item t at)) where
  pub same_marks : marks_from 0 u.items ≡ marks_from 0 t.items
  same_marks = marks_alike 0 t.items u.items same

  pub marks_passed : ((mark : ℕ) → (mark < start) ⊎ (end ≤ mark) → block_in u.items mark ≡ block_in t.items mark) → IsCalm heap u start end
      → ArePassed heap (is_within start end) (marks_from 0 u.items) (blocks_of t) (blocks_of u)
  marks_passed others calm = record {
    calm = λ index mark r marked named within. (let parts = within_parts start end mark within in calm mark r parts.0 parts.1 (sym (mark_block u.items index mark marked).0 ∙ named));
    stays = λ index mark marked out.
        (mark_block u.items index mark marked).0 ∙ others mark (outside_parts start end mark out) ∙ sym (mark_block t.items index mark (ap (λ ms. slice_get ms index) (sym same_marks) ∙ marked)).0;
  }

-- where an element stands at each item number at which one stood, the same item numbers are vacant
vacant_alike : (n : ℕ) (x y : Option (Element BlockRef)) → is_some x ≡ is_some y → vacant_mark n x ≡ vacant_mark n y
vacant_alike n None None same = refl
vacant_alike n None (Some e) same = cc
vacant_alike n (Some e) None same = cc
vacant_alike n (Some e) (Some f) same = refl

pub vacant_same : (t u : FieldTable) → ((at : ℕ) → is_some (item u at) ≡ is_some (item t at)) → (n : ℕ) → vacant_below u n ≡ vacant_below t n
vacant_same t u same zero = refl
vacant_same t u same (suc n) = λ i. vacant_alike n (item u n) (item t n) (same n) i ++ vacant_same t u same n i

-- ---- what a call answers

-- a mark is below the number that all marks are below
mark_below : (m : Blocks) (limits : Limits) (seed : ℕ) (body : Body) (index mark : ℕ) → IsBody m limits seed body → slice_get (marks_in body) index ≡ Some mark → mark < end_in body
mark_below m limits seed Empty index mark is h = cc
mark_below m limits seed (Pack p) zero mark is h = (let same : 0 ≡ mark = cc in omega (arith, same))
mark_below m limits seed (Pack p) (suc index) mark is h = cc
mark_below m limits seed (Table t) index mark is h = block_below t is.keyed.placed.below mark (mark_block t.items index mark h).1

vacant_end : (body : Body) (index mark : ℕ) → slice_get (vacant_in body) index ≡ Some mark → mark < end_in body
vacant_end Empty index mark h = cc
vacant_end (Pack p) index mark h = cc
vacant_end (Table t) index mark h = vacant_low t t.top index mark h

none_within : (body : Body) (start : ℕ) → units_in body start start ≡ 0
none_within body start = omega (arith, count_none start (marks_in body), count_none start (vacant_in body))

-- a part of the marks was passed
pub passes_part : (before : Blocks) (heap : Heap) (old new : Fields) (from room count start end : ℕ) (answer : Moved) → IsFields before old → count ≡ marks_end old → start ≡ min from count
    → start ≤ end → 32 ≤ room
    → answer.next ≡ (if nat_lt end count then Some end else None) → answer.used ≡ units old start end → answer.used ≤ room → (end < count → answer.used ≡ room)
    → marks new ≡ marks old → vacant_marks new ≡ vacant_marks old → ArePassed heap (is_within start end) (marks new) (refs old) (refs new) → PassesPart heap old new from room answer
passes_part before heap old new from room count start end answer sound count_is start_is order wide next_is used_is fits full same vacant p = record {
  same_marks = same;
  same_vacant = vacant;
  passed = part_passed from count start end answer.next start_is next_is heap (marks new) (refs old) (refs new)
      (λ index mark marked. below index mark (ap (λ ms. slice_get ms index) (sym same) ∙ marked)) p;
  counted = record {
    used = omega (
      arith,
      used_is,
      count_agree (is_passed from answer.next) (is_within start end) (marks old) (λ i x is. within x (below i x is)),
      count_agree (is_passed from answer.next) (is_within start end) (vacant_marks old) (λ i x is. within x (omega (arith, count_is, vacant_end old.body i x is))),
    );
    within = fits;
    on = subst (λ n. IfSome answer.next (λ to. (from < to) × (to < n) × (answer.used ≡ room))) count_is
        (goes_on from count start end answer.next start_is next_is room answer.used order wide full (λ here. used_is ∙ ap (units_in old.body start) (sym here) ∙ none_within old.body start));
  };
}
  where
    below : (index mark : ℕ) → slice_get (marks old) index ≡ Some mark → mark < count
    below index mark h = omega (arith, count_is, mark_below before old.limits old.seed old.body index mark sound.body h)

    within : (mark : ℕ) → mark < count → is_passed from answer.next mark ≡ is_within start end mark
    within mark low = passed_within from count start end answer.next start_is next_is mark low
