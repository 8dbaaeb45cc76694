-- Values whose blocks move: what a bounded call passes, a lemma for each type of value.
use Rattle.std.proofs.Common.{◌≡◌, ℕ, zero, suc, ◌+◌, ◌-◌, ◌<◌, ◌≤◌, inl, inr, Bool, true, false, cond, eqb, ◌&&◌, List, [], ◌∷◌, length, map, count_by, Option, Some, None, refl, sym, ap}
use Rattle.std.proofs.Common.{◌∙◌, subst, arith}
use Rattle.std.specs.Prelude.{IfSome, nat_le}
use Rattle.std.specs.List.{All, slice_get, range_with_len}
use Rattle.std.proofs.lemmas.List.FromFn.{length-range_with_len, get_or-range_with_len}
use Rattle.std.proofs.lemmas.Option.{slice_get-map, slice_get_within, get_or_from_slice_get, slice_get-get_or}
use Rattle.std.proofs.lemmas.Bool.{cond-false}
use Rattle.std.proofs.lemmas.Bool.Decides.{nat_tests}
use Rattle.std.specs.Global.{Box}
use Rattle.std.specs.Box.{with_value}
use Rattle.std.proofs.lemmas.Grind.{common_steps}
use Rattle.std.proofs.lemmas.List.{length-map}
use Rattle.blocks.specs.declared.BlockRef.{BlockRef}
use Rattle.blocks.specs.declared.Moved.{Moved}
use Rattle.blocks.specs.Blocks.{Blocks, Changes}
use Rattle.blocks.specs.Slabs.{Heap, wants, Calmer}
use Rattle.blocks.proofs.Sums.{count_cons}
use Rattle.collection_walk.specs.Marks.{is_before, is_passed, ArePassed, IsCounted}
use Rattle.plain_world.specs.Worlds.{Str, ListOf, SetOf, HashOf, SortedOf, StreamOf}
use Rattle.string_object.specs.declared.text.Text as string
use Rattle.string_object.specs.declared.text.Text.TheVariants.{Number, Whole, Raw}
use Rattle.string_object.specs.Text.{text_bytes, text_refs, is_raw}
use Rattle.quicklist.specs.Chain.{Chain, IsQuick, IsPassed, IsOutside, elements, refs, passed_to}
use Rattle.set_object.specs.declared.members.Members.{Members}
use Rattle.set_object.specs.Relocation as set_marks
use Rattle.hash_object.specs.declared.fields.Fields.{Fields}
use Rattle.hash_object.specs.Relocation as hash_marks
use Rattle.zset_object.specs.declared.scored.Scored.{Scored}
use Rattle.zset_object.specs.Relocation as zset_marks
use Rattle.stream_object.specs.declared.stream.Stream.{Stream as Log}
use Rattle.stream_object.specs.Streams as stream
use Rattle.stream_object.specs.Relocation as stream_marks
use Rattle.stored.specs.Passing.{Marks, IsBounded, passed_of, PassesPart}
use Rattle.keyspace.specs.declared.value.Value.TheVariants.{Text, Set, Hash, Zset}
use Rattle.keyspace.specs.declared.value.Value.TheVariants as kinds
use Rattle.keyspace.specs.Values.{value_of, value_refs, value_marks, value_tables, IsSound, OfText, OfForm, encoding_of}

-- ---- strings: the mark of the block is 0

abbrev first_marks : List BlockRef → List ℕ
first_marks refs = map (λ at. 0) refs

as_many : (xs ys : List BlockRef) → length xs ≡ length ys → first_marks xs ≡ first_marks ys
as_many [] [] same = refl
as_many [] (y ∷ ys) same = absurd (omega (arith, same))
as_many (x ∷ xs) [] same = absurd (omega (arith, same))
as_many (x ∷ xs) (y ∷ ys) same = ap (λ rest. 0 ∷ rest) (as_many xs ys (omega (arith, same)))

-- the mark of a block of a string is 0
only_first : (refs : List BlockRef) (index mark : ℕ) (r : BlockRef) → slice_get (first_marks refs) index ≡ Some mark → slice_get refs index ≡ Some r → 0 ≡ mark
only_first refs index mark r marked at = (let both : Some 0 ≡ Some mark = sym (slice_get-map (λ at. 0) refs index ∙ ap zeroed at) ∙ marked in cc)
  where
    zeroed : Option BlockRef → Option ℕ
    zeroed None = None
    zeroed (Some x) = Some 0

-- a call that begins above it passes none
above_first : (n : ℕ) (next : Option ℕ) → is_passed (suc n) next 0 ≡ false
above_first n next = ap (λ b. b && is_before next 0) below
  where
    below : nat_le (suc n) 0 ≡ false
    below = grind (arith, common_steps)

begins_first : (from : ℕ) (next : Option ℕ) → is_passed from next 0 ≡ true → from ≡ 0
begins_first zero next passed = refl
begins_first (suc n) next passed = (let both : false ≡ true = sym (above_first n next) ∙ passed in cc)

not_first : (n : ℕ) → eqb (suc n) 0 ≡ false
not_first n = grind (arith, common_steps)

-- where a call passes to the end, it passes all marks 0 from 0 on, and else none
all_first : (from : ℕ) (refs : List BlockRef) → count_by (is_passed from None) (first_marks refs) ≡ cond (eqb from 0) (length refs) 0
all_first zero [] = refl
all_first zero (x ∷ refs) = (let rest = all_first zero refs in omega (arith, count_cons (is_passed 0 None) 0 (first_marks refs), rest))
all_first (suc n) [] = sym (cond-false _ _ _ (not_first n))
all_first (suc n) (x ∷ refs) =
    let here : cond {A = ℕ} (is_passed (suc n) None 0) 1 0 ≡ 0 = cond-false _ _ _ (above_first n None) in
    let none : cond (eqb (suc n) 0) (length (x ∷ refs)) 0 ≡ 0 = cond-false _ _ _ (not_first n) in
    let none_left : cond (eqb (suc n) 0) (length refs) 0 ≡ 0 = cond-false _ _ _ (not_first n) in
    let rest = all_first (suc n) refs in
    omega (arith, count_cons (is_passed (suc n) None) 0 (first_marks refs), here, none, none_left, rest)

-- as many marks as blocks
pub text_marks : (refs : List BlockRef) → length (first_marks refs) ≡ length refs
text_marks refs = length-map refs (λ at. 0)

-- a string has one block at most
pub refs_few : (text : string.Text) → length (text_refs text) ≤ 1
refs_few (Number n) = omega arith
refs_few (Whole slot slab) = omega arith
refs_few (Raw slot slab) = omega arith

within_room : (from used room count : ℕ) → used ≡ cond (eqb from 0) count 0 → count ≤ 1 → 32 ≤ room → used ≤ room
within_room from used room count is few wide = by_test (eqb from 0) is
  where
    by_test : (t : Bool) → used ≡ cond t count 0 → used ≤ room
    by_test true same = omega (arith, same, few, wide)
    by_test false same = omega (arith, same)

-- its block stays where its mark isn't passed
stays_there : (from mark : ℕ) → 0 ≡ mark → is_passed from None mark ≡ false → 0 < from
stays_there zero mark is passed = (let both : true ≡ false = subst (λ k. is_passed 0 None k ≡ false) (sym is) passed in cc)
stays_there (suc n) mark is passed = omega arith

-- what `relocate_part` of a string says, as a part that was passed
pub text_passes : (m after : Blocks) (heap later : Heap) (old new : string.Text) (from room : ℕ) (answer : Moved) → text_bytes after new ≡ text_bytes m old → is_raw new ≡ is_raw old
    → Changes m after (text_refs old) (text_refs new) → Calmer heap later → length (text_refs new) ≡ length (text_refs old)
    → (from ≡ 0 → All (λ r. wants later r ≡ false) (text_refs new)) → (0 < from → new ≡ old) → answer.next ≡ None → answer.used ≡ cond (eqb from 0) (length (text_refs old)) 0 → 32 ≤ room
    → PassesPart value_refs value_of IsSound value_marks value_tables encoding_of m after heap later (Text old) (Text new) from room answer
text_passes m after heap later old new from room answer bytes raw changes calmer many passed stays next used wide = record {
  means = ap Str bytes;
  sound = λ limits seed sound. tt;
  same_encoding = ap OfText raw;
  same_tables = refl;
  same_marks = ap (λ named. record { named = named; vacant = [] }) (as_many (text_refs new) (text_refs old) many);
  changes = changes;
  calmer = calmer;
  passed = record {
    calm = λ index mark r named at is.
        (let first : is_passed from answer.next 0 ≡ true = ap (is_passed from answer.next) (only_first (text_refs new) index mark r named at) ∙ is in
        ap (wants later) (sym (get_or_from_slice_get (text_refs new) index r r at)) ∙ passed (begins_first from answer.next first) index r (slice_get_within (text_refs new) index r at));
    stays = λ index mark named apart.
        (let at = named_at (text_refs new) index mark named in
        ap (λ t. slice_get (text_refs t) index)
        (stays (stays_there from mark (only_first (text_refs new) index mark at.0 named at.1) (subst (λ o. is_passed from o mark ≡ false) next apart))));
  };
  bounded = record {
    used = used ∙ sym (ap (λ o. count_by (is_passed from o) (first_marks (text_refs new)) + 0) next ∙ plain (all_first from (text_refs new)) ∙ ap (λ n. cond (eqb from 0) n 0) many);
    within = within_room from answer.used room (length (text_refs old)) used (refs_few old) wide;
    on = subst (λ o. IfSome o (λ to. (from < to) × (room ≤ answer.used + 17))) (sym next) tt;
  };
}
  where
    plain : {a b : ℕ} → a ≡ b → a + 0 ≡ b
    plain {a} {b} is = omega (arith, is)

    named_at : (list : List BlockRef) (index mark : ℕ) → slice_get (first_marks list) index ≡ Some mark → (r : BlockRef) × (slice_get list index ≡ Some r)
    named_at list index mark named = at_option (slice_get list index) refl
      where
        zeroed : Option BlockRef → Option ℕ
        zeroed None = None
        zeroed (Some x) = Some 0

        at_option : (o : Option BlockRef) → slice_get list index ≡ o → (r : BlockRef) × (slice_get list index ≡ Some r)
        at_option None is = (let both : None ≡ Some mark = sym (slice_get-map (λ at. 0) list index ∙ ap zeroed is) ∙ named in cc)
        at_option (Some r) is = (r, is)

-- ---- lists: the mark of a node's block is its index

module _ (from : ℕ) (next : Option ℕ) (all : ℕ) where
  -- a mark that is passed lies from `from` to below where the call goes on
  below : (mark : ℕ) → mark < all → is_passed from next mark ≡ true → (from ≤ mark) × (mark < passed_to all next)
  below mark inside passed = by_next next passed
    where
      by_next : (o : Option ℕ) → is_passed from o mark ≡ true → (from ≤ mark) × (mark < passed_to all o)
      by_next None is = (grind (arith, common_steps, is), inside)
      by_next (Some to) is = (grind (arith, common_steps, is), grind (arith, common_steps, is))

  -- one that isn't lies before, or from there on
  outside : (mark : ℕ) → is_passed from next mark ≡ false → IsOutside from (passed_to all next) mark
  outside mark apart = by_next next apart
    where
      by_next : (o : Option ℕ) → is_passed from o mark ≡ false → IsOutside from (passed_to all o) mark
      by_next None is = inl (grind (arith, common_steps, is))
      by_next (Some to) is = grind (arith, nat_tests)

  -- how many of the marks from a number on are passed
  count_marks : passed_to all next ≤ all → (start n : ℕ) → start + n ≡ all → count_by (is_passed from next) (range_with_len start n) ≡ (passed_to all next - from) - (start - from)
  count_marks inside start zero whole = omega (arith, whole, inside)
  count_marks inside start (suc n) whole = by_test (is_passed from next start) refl (count_marks inside (start + 1) n (omega (arith, whole)))
    where
      by_test : (b : Bool) → is_passed from next start ≡ b → count_by (is_passed from next) (range_with_len (start + 1) n) ≡ (passed_to all next - from) - ((start + 1) - from)
          → count_by (is_passed from next) (range_with_len start (suc n)) ≡ (passed_to all next - from) - (start - from)
      by_test true is more =
          let one : cond {A = ℕ} (is_passed from next start) 1 0 ≡ 1 = ap (λ b. cond b 1 0) is in
          let inside' = below start (omega (arith, whole)) is in
          omega (arith, count_cons (is_passed from next) start (range_with_len (start + 1) n), one, more, inside'.0, inside'.1)
      by_test false is more =
          let one : cond {A = ℕ} (is_passed from next start) 1 0 ≡ 0 = ap (λ b. cond b 1 0) is in
          elim (outside start is) [
            | inl before ↦ omega (arith, count_cons (is_passed from next) start (range_with_len (start + 1) n), one, more, before)
            | inr behind ↦ omega (arith, count_cons (is_passed from next) start (range_with_len (start + 1) n), one, more, behind)
          ]

-- the mark at an index of marks is the index
index_is : (n index mark : ℕ) → slice_get (range_with_len 0 n) index ≡ Some mark → (mark ≡ index) × (index < n)
index_is n index mark found =
    let inside : index < length (range_with_len 0 n) = slice_get_within (range_with_len 0 n) index mark found in
    let many = length-range_with_len 0 n in
    let within : index < n = omega (arith, inside, many) in
    (omega (arith, get_or_from_slice_get (range_with_len 0 n) index mark 0 found, get_or-range_with_len 0 n index 0 within), within)

abbrev no_ref : BlockRef
no_ref = record { slab = 0; slot = 0 }

-- what `relocate_part` of a list says, as a part that was passed
pub list_passes : (m after : Blocks) (heap later : Heap) (box : Box Chain) (new : Chain) (from room : ℕ) (answer : Moved) → IsQuick after new → elements after new ≡ elements m box.value
    → new.form ≡ box.value.form → Changes m after (refs box.value) (refs new) → Calmer heap later → IsPassed later (refs box.value) (refs new) from room answer
    → PassesPart value_refs value_of IsSound value_marks value_tables encoding_of m after heap later (kinds.List box) (kinds.List (with_value box new)) from room answer
list_passes m after heap later box new from room answer quick list form changes calmer p = record {
  means = ap ListOf list;
  sound = λ limits seed was. quick;
  same_encoding = ap OfForm form;
  same_tables = refl;
  same_marks = ap (λ n. record { named = range_with_len 0 n; vacant = [] }) p.same_count;
  changes = changes;
  calmer = calmer;
  passed = record {
    calm = λ index mark r marked at is.
        (let i = index_is (length (refs new)) index mark marked in
        let b = below from answer.next (length (refs new)) index i.1 (subst (λ k. is_passed from answer.next k ≡ true) i.0 is) in
        ap (wants later) (sym (get_or_from_slice_get (refs new) index r no_ref at)) ∙ p.calm index b.0 b.1);
    stays = λ index mark marked apart.
        (let i = index_is (length (refs new)) index mark marked in
        let out = outside from answer.next (length (refs new)) index (subst (λ k. is_passed from answer.next k ≡ false) i.0 apart) in
        slice_get-get_or (refs new) index no_ref i.1 ∙ ap Some (p.stays index (subst (λ n. IsOutside from (passed_to n answer.next) index) p.same_count out))
        ∙ sym (slice_get-get_or (refs box.value) index no_ref (omega (arith, i.1, p.same_count))));
  };
  bounded = record {
    used = (let counted = count_marks from answer.next (length (refs new)) (inside answer.next p.on) 0 (length (refs new)) (omega arith) in
        let to = ap (λ n. passed_to n answer.next) p.same_count in
        omega (arith, p.counted, counted, to));
    within = p.within;
    on = on answer.next p.on;
  };
}
  where
    inside : (o : Option ℕ) → IfSome o (λ next. (from < next) × (room ≤ answer.used + 17) × (next < (length (refs new)))) → passed_to (length (refs new)) o ≤ (length (refs new))
    inside None h = omega arith
    inside (Some next) h = omega (arith, h.2)

    on : (o : Option ℕ) → IfSome o (λ next. (from < next) × (room ≤ answer.used + 17) × (next < (length (refs new)))) → IfSome o (λ next. (from < next) × (room ≤ answer.used + 17))
    on None h = tt
    on (Some next) h = (h.0, h.1)

-- ---- sets, hashes and sorted sets: marks by item numbers

-- what was counted of the old marks is counted of the same new ones
counted_bounded : (named vacant named' vacant' : List ℕ) (end from room : ℕ) (answer : Moved) → named' ≡ named → vacant' ≡ vacant → IsCounted named vacant end from room answer
    → IsBounded (passed_of (record { named = named'; vacant = vacant' }) from answer.next) from room answer
counted_bounded named vacant named' vacant' end from room answer same gaps c = record {
  used = c.used ∙ sym (λ i. count_by (is_passed from answer.next) (same i) + count_by (is_passed from answer.next) (gaps i));
  within = c.within;
  on = on answer.next c.on;
}
  where
    on : (o : Option ℕ) → IfSome o (λ next. (from < next) × (next < end) × (answer.used ≡ room)) → IfSome o (λ next. (from < next) × (room ≤ answer.used + 17))
    on None h = tt
    on (Some next) h = (h.0, omega (arith, h.2))

both_marks : (named vacant named' vacant' : List ℕ) → named' ≡ named → vacant' ≡ vacant → ◌≡◌ {A = Marks} (record { named = named'; vacant = vacant' }) (record { named = named; vacant = vacant })
both_marks named vacant named' vacant' same gaps = λ i. record { named = same i; vacant = gaps i }

pub set_passes : (m after : Blocks) (heap later : Heap) (box : Box Members) (new : Members) (from room : ℕ) (answer : Moved) → set_marks.IsRelocated m after box.value new
    → set_marks.PassesPart later box.value new from room answer → Calmer heap later
    → PassesPart value_refs value_of IsSound value_marks value_tables encoding_of m after heap later (Set box) (Set (with_value box new)) from room answer
set_passes m after heap later box new from room answer r p calmer = record {
  means = ap SetOf r.members_are;
  sound = λ limits seed was. (r.sound, r.settings.limits ∙ was.1, r.settings.seed ∙ was.2);
  same_encoding = ap OfForm r.form;
  same_tables = r.tables_are;
  same_marks = both_marks _ _ _ _ p.same_marks p.same_vacant;
  changes = r.changes;
  calmer = calmer;
  passed = p.passed;
  bounded = counted_bounded (set_marks.marks box.value) (set_marks.vacant_marks box.value) (set_marks.marks new) (set_marks.vacant_marks new) (set_marks.marks_end box.value) from room
      answer p.same_marks p.same_vacant p.counted;
}

pub hash_passes : (m after : Blocks) (heap later : Heap) (box : Box Fields) (new : Fields) (from room : ℕ) (answer : Moved) → hash_marks.IsRelocated m after box.value new
    → hash_marks.PassesPart later box.value new from room answer → Calmer heap later
    → PassesPart value_refs value_of IsSound value_marks value_tables encoding_of m after heap later (Hash box) (Hash (with_value box new)) from room answer
hash_passes m after heap later box new from room answer r p calmer = record {
  means = ap HashOf r.fields_are;
  sound = λ limits seed was. (r.sound, r.settings.limits ∙ was.1, r.settings.seed ∙ was.2);
  same_encoding = ap OfForm r.form;
  same_tables = r.tables_are;
  same_marks = both_marks _ _ _ _ p.same_marks p.same_vacant;
  changes = r.changes;
  calmer = calmer;
  passed = p.passed;
  bounded = counted_bounded (hash_marks.marks box.value) (hash_marks.vacant_marks box.value) (hash_marks.marks new) (hash_marks.vacant_marks new) (hash_marks.marks_end box.value) from room
      answer p.same_marks p.same_vacant p.counted;
}

pub zset_passes : (m after : Blocks) (heap later : Heap) (box : Box Scored) (new : Scored) (from room : ℕ) (answer : Moved) → zset_marks.IsRelocated m after box.value new
    → zset_marks.PassesPart later box.value new from room answer → Calmer heap later
    → PassesPart value_refs value_of IsSound value_marks value_tables encoding_of m after heap later (Zset box) (Zset (with_value box new)) from room answer
zset_passes m after heap later box new from room answer r p calmer = record {
  means = ap SortedOf r.scores_are;
  sound = λ limits seed was. (r.sound, r.settings.limits ∙ was.1, r.settings.seed ∙ was.2);
  same_encoding = ap OfForm r.form;
  same_tables = r.tables_are;
  same_marks = both_marks _ _ _ _ p.same_marks p.same_vacant;
  changes = r.changes;
  calmer = calmer;
  passed = p.passed;
  bounded = counted_bounded (zset_marks.marks box.value) (zset_marks.vacant_marks box.value) (zset_marks.marks new) (zset_marks.vacant_marks new) (zset_marks.marks_end box.value) from room
      answer p.same_marks p.same_vacant p.counted;
}

-- ---- streams: the mark of a node's block is its key as a number

-- what `relocate_part` of a stream says, as a part that was passed
pub stream_passes : (m after : Blocks) (heap later : Heap) (box : Box Log) (new : Log) (from room : ℕ) (answer : Moved) → stream_marks.IsRelocated m after box.value new
    → ArePassed later (is_passed from answer.next) (stream.marks m box.value) (stream.refs m box.value) (stream.refs after new)
    → stream_marks.IsBounded (stream.marks m box.value) from room answer → Calmer heap later
    → PassesPart value_refs value_of IsSound value_marks value_tables encoding_of m after heap later (kinds.Stream box) (kinds.Stream (with_value box new)) from room answer
stream_passes m after heap later box new from room answer r passed bounded calmer = record {
  means = ap StreamOf r.value_is;
  sound = λ limits seed was. r.is_stream;
  same_encoding = refl;
  same_tables = refl;
  same_marks = ap (λ named. record { named = named; vacant = [] }) r.marks_are;
  changes = r.changes;
  calmer = calmer;
  passed = subst (λ named. ArePassed later (is_passed from answer.next) named (stream.refs m box.value) (stream.refs after new)) (sym r.marks_are) passed;
  bounded = record {
    used = bounded.used ∙ ap (count_by (is_passed from answer.next)) (sym r.marks_are) ∙ alone (count_by (is_passed from answer.next) (stream.marks after new));
    within = bounded.within;
    on = bounded.on;
  };
}
  where
    alone : (n : ℕ) → n ≡ n + 0
    alone n = omega arith
