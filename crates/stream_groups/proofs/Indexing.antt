-- What an index holds after each of its calls.
use Rattle.std.proofs.Common.{◌≡◌, ℕ, zero, suc, arith, ◌+◌, ◌<◌, Bool, true, false, cond, not, List, [], ◌∷◌, ◌++◌, drop, length, get_or, Option, Some, None, is_some, refl, sym, ap, subst, ◌∙◌}
use Rattle.std.specs.Prelude.{◌==◌, ◌&&◌, ◌||◌, slice_get}
use Rattle.std.proofs.Math.Bool.{or-false}
use Rattle.std.proofs.lemmas.Bool.{cond-true, cond-false, true≢false}
use Rattle.std.proofs.lemmas.Iterator.Adapters.{option_map_id}
use Rattle.std.proofs.lemmas.List.{drop_more}
use Rattle.std.specs.Cmp.{tied_itself, eq_by_cmp_equiv}
use Rattle.std.specs.Map.{lookup, set_value}
use Rattle.std.specs.Option.{option_map}
use Rattle.std.specs.Ordering.{eq_by_cmp, is_eq}
use Rattle.std.specs.FinMap as map
use Rattle.stream_groups.specs.declared.entries.Handed.{Handed}
use Rattle.stream_groups.specs.Groups.{Id, Pending, id_cmp, name_cmp}
use Rattle.stream_groups.specs.Index.{NoneIsEmpty, IdSet, Index, ids_above, is_in, holds, is_one, marked, Marks, HoldSame, is_for, has_left, stays, Leaves}
use Rattle.stream_groups.specs.Kept.{Name, named, NamesRise, pending_of, logged}
use Rattle.stream_groups.proofs.Changing.{put_same_in_changing}
use Rattle.stream_groups.proofs.Maps.{equal}
use Rattle.stream_groups.proofs.Orders.{name_total, name_same, id_total, id_same}
use Rattle.stream_groups.proofs.Uses.{is_named, named_get, named_set}

-- whether two names, or two ids, are the same
abbrev pub same_name : List ℕ → List ℕ → Bool
same_name n name = eq_by_cmp name_cmp n name

abbrev pub same_id : Id → Id → Bool
same_id q id = eq_by_cmp id_cmp q id

pub one_name : (n name : List ℕ) → same_name n name ≡ true → n ≡ name
one_name n name h = name_same n name (equal _ h)

pub one_id : (q id : Id) → same_id q id ≡ true → q ≡ id
one_id q id h = id_same q id (equal _ h)

pub name_itself : (n : List ℕ) → same_name n n ≡ true
name_itself n = ap is_eq (tied_itself name_total n)

pub turned_name : (n name : List ℕ) → same_name n name ≡ same_name name n
turned_name n name = (eq_by_cmp_equiv name_total).symm n name

-- ---- words of logic

pub unmarked : (a b h : Bool) → cond (a && false) b h ≡ h
unmarked true b h = refl
unmarked false b h = refl

-- one of several, and then the others
one_and_others : (a e m b h : Bool) → cond (a && m) b (cond (a && (e || false)) b h) ≡ cond (a && (e || m)) b h
one_and_others false e m b h = refl
one_and_others true true true b h = refl
one_and_others true true false b h = refl
one_and_others true false m b h = refl

left_and_others : (l m h : Bool) → cond m false (cond (l || false) false h) ≡ cond (l || m) false h
left_and_others true true h = refl
left_and_others true false h = refl
left_and_others false m h = refl

-- ---- the set of one consumer

module _ (es : List (Name × IdSet)) (index : Index) (q : List ℕ) (rising : NamesRise es) (view : named (λ i. i) es ≡ index) where
  -- What is found of a name is its set.
  pub set_found : lookup (is_named q) es ≡ map.get index q
  set_found = sym (option_map_id _) ∙ sym (named_get (λ (i : IdSet). i) es rising q) ∙ ap (λ m. map.get m q) view

  module _ (new : List (Name × IdSet)) (was now : IdSet) (after : NamesRise new) (found : Some was ≡ lookup (is_named q) es) (written : new ≡ set_value (is_named q) es now) where
    -- A set that is written in its place is the consumer's.
    pub set_written : named (λ i. i) new ≡ map.insert index q now
    set_written = named_set (λ (i : IdSet). i) es rising new after q now (sym (ap is_some found)) written ∙ ap (λ m. map.insert m q now) view

    -- A set that is what it was changes nothing.
    pub set_kept : now ≡ was → named (λ i. i) new ≡ index
    set_kept same = set_written ∙ ap (map.insert index q) same ∙ put_same_in_changing index q was (sym (found ∙ set_found))

module _ (mark : Bool) (old new : Index) (name : List ℕ) (id : Id) where
  -- A consumer's new set marks an id, where it differs from what the consumer had only there.
  pub set_marks : (now : IdSet) → new ≡ map.insert old name now → ((q : Id) → map.contains_key now q ≡ cond (same_id q id) mark (holds old name q)) → Marks mark name (id ∷ []) old new
  set_marks now is at n q = ap (λ i. holds i n q) is ∙ ap (λ o. is_in o q) (map.get-insert name_total old name now n) ∙ by (same_name n name) refl
    where
      by : (b : Bool) → same_name n name ≡ b → is_in (cond b (Some now) (map.get old n)) q ≡ cond (b && (same_id q id || false)) mark (holds old n q)
      by true same = at q ∙ ap (λ e. cond e mark (holds old name q)) (sym (or-false (same_id q id))) ∙ ap (λ x. cond (same_id q id || false) mark (holds old x q)) (sym (one_name n name same))
      by false other = refl

-- what is found in a set, where an id was put or taken
pub put_in : (ids : IdSet) (id q : Id) → map.contains_key (map.insert ids id tt) q ≡ cond (same_id q id) true (map.contains_key ids q)
put_in ids id q = ap is_some (map.get-insert id_total ids id tt q) ∙ by (same_id q id)
  where
    by : (b : Bool) → is_some (cond b (Some tt) (map.get ids q)) ≡ cond b true (map.contains_key ids q)
    by true = refl
    by false = refl

pub taken_from : (ids : IdSet) (id q : Id) → map.contains_key (map.remove ids id) q ≡ cond (same_id q id) false (map.contains_key ids q)
taken_from ids id q = ap is_some (map.get-remove id_total ids id q) ∙ by (same_id q id)
  where
    by : (b : Bool) → is_some (cond b None (map.get ids q)) ≡ cond b false (map.contains_key ids q)
    by true = refl
    by false = refl

module _ (old new : Index) (name : List ℕ) (id : Id) where
  -- A consumer that had no id is given one.
  pub start_marks : map.get old name ≡ None → new ≡ map.insert old name (map.insert map.empty id tt) → Marks true name (id ∷ []) old new
  start_marks none is = set_marks true old new name id (map.insert map.empty id tt) is
      (λ q. put_in map.empty id q ∙ ap (λ o. cond (same_id q id) true (is_some o)) (map.get-empty id_cmp q) ∙ ap (λ o. cond (same_id q id) true (is_in o q)) (sym none))

  -- A consumer that had some is given one more.
  pub more_marks : (was now : IdSet) → map.get old name ≡ Some was → now ≡ map.insert was id tt → new ≡ map.insert old name now → Marks true name (id ∷ []) old new
  more_marks was now had put is = set_marks true old new name id now is
      (λ q. ap (λ s. map.contains_key s q) put ∙ put_in was id q ∙ ap (λ o. cond (same_id q id) true (is_in o q)) (sym had))

  -- An id is taken from a consumer.
  pub less_marks : (was now : IdSet) → map.get old name ≡ Some was → now ≡ map.remove was id → new ≡ map.insert old name now → Marks false name (id ∷ []) old new
  less_marks was now had taken is = set_marks false old new name id now is
      (λ q. ap (λ s. map.contains_key s q) taken ∙ taken_from was id q ∙ ap (λ o. cond (same_id q id) false (is_in o q)) (sym had))

  -- An id is taken from a consumer that had none.
  pub none_marks : map.get old name ≡ None → new ≡ old → Marks false name (id ∷ []) old new
  none_marks none is n q = ap (λ i. holds i n q) is ∙ by (same_name n name) refl
    where
      nothing : (b h : Bool) → h ≡ false → h ≡ cond b false h
      nothing true h f = f
      nothing false h f = refl

      by : (b : Bool) → same_name n name ≡ b → holds old n q ≡ cond (b && (same_id q id || false)) false (holds old n q)
      by true same = nothing (same_id q id || false) (holds old n q) (ap (λ x. holds old x q) (one_name n name same) ∙ ap (λ o. is_in o q) none)
      by false other = refl

-- A consumer with no id is dropped.
pub dropped_marks : (old new after : Index) (name : List ℕ) (ids : List Id) → Marks false name ids old new → ((q : Id) → holds new name q ≡ false) → after ≡ map.remove new name → Marks false name ids old after
dropped_marks old new after name ids marks none is n q = ap (λ i. holds i n q) is ∙ ap (λ o. is_in o q) (map.get-remove name_total new name n) ∙ by (same_name n name) refl ∙ marks n q
  where
    by : (b : Bool) → same_name n name ≡ b → is_in (cond b None (map.get new n)) q ≡ holds new n q
    by true same = sym (none q) ∙ ap (λ x. holds new x q) (sym (one_name n name same))
    by false other = refl

-- A consumer whose set is empty has no id.
pub none_held : (index : Index) (name : List ℕ) (ids : IdSet) (q : Id) → map.get index name ≡ Some ids → map.len ids ≡ 0 → holds index name q ≡ false
none_held index name ids q is none = ap (λ o. is_in o q) is ∙ ap (λ s. map.contains_key s q) (map.empty_of_len ids none) ∙ ap is_some (map.get-empty id_cmp q)

-- A consumer's new set is there.
pub set_there : (old new : Index) (name : List ℕ) (now : IdSet) → new ≡ map.insert old name now → map.get new name ≡ Some now
set_there old new name now is = ap (λ m. map.get m name) is ∙ map.get-insert name_total old name now name ∙ cond-true _ _ _ (name_itself name)

-- ---- no set is empty

two_sets : (o : Option IdSet) (ids : IdSet) → o ≡ Some ids → o ≡ None → ⊥
two_sets o ids is none = cc

-- A set with an id isn't empty.
pub some_in : (ids : IdSet) (id : Id) → map.contains_key ids id ≡ true → 0 < map.len ids
some_in ids id there = by (map.len ids) refl
  where
    by : (n : ℕ) → map.len ids ≡ n → 0 < n
    by zero none = absurd (true≢false (sym there ∙ ap (λ s. map.contains_key s id) (map.empty_of_len ids none) ∙ ap is_some (map.get-empty id_cmp id)))
    by (suc n) is = omega arith

-- A set that an id was put into isn't empty.
pub some_put_in : (ids now : IdSet) (id : Id) → now ≡ map.insert ids id tt → 0 < map.len now
some_put_in ids now id is = some_in now id (ap (λ s. map.contains_key s id) is ∙ put_in ids id id ∙ cond-true _ _ _ (ap is_eq (tied_itself id_total id)))

-- A number that isn't 0 is above it.
pub above_none : (n : ℕ) → (n == 0) ≡ false → 0 < n
above_none zero h = absurd (true≢false h)
above_none (suc n) h = omega arith

pub some_at_first : (index : Index) → index ≡ map.empty → NoneIsEmpty index
some_at_first index nobody n ids is = absurd (two_sets (map.get index n) ids is (ap (λ m. map.get m n) nobody ∙ map.get-empty name_cmp n))

module _ (old new : Index) (name : List ℕ) (now : IdSet) (some : NoneIsEmpty old) (is : new ≡ map.insert old name now) where
  others : (n : List ℕ) (ids : IdSet) (b : Bool) → (b ≡ true → 0 < map.len now) → cond b (Some now) (map.get old n) ≡ Some ids → 0 < map.len ids
  others n ids true full h = let one : now ≡ ids = cc in subst (λ s. 0 < map.len s) one (full refl)
  others n ids false full h = some n ids h

  pub some_put : 0 < map.len now → NoneIsEmpty new
  some_put full n ids h = others n ids (same_name n name) (λ _. full) (sym (map.get-insert name_total old name now n) ∙ sym (ap (λ m. map.get m n) is) ∙ h)

  pub some_dropped : (after : Index) → after ≡ map.remove new name → NoneIsEmpty after
  some_dropped after gone n ids h = by (same_name n name) refl (sym (map.get-remove name_total new name n) ∙ sym (ap (λ m. map.get m n) gone) ∙ h)
    where
      by : (b : Bool) → same_name n name ≡ b → cond b None (map.get new n) ≡ Some ids → 0 < map.len ids
      by true same g = absurd (two_sets (Some ids) ids refl (sym g))
      by false other g = some n ids (sym (cond-false _ _ _ other) ∙ sym (map.get-insert name_total old name now n) ∙ sym (ap (λ m. map.get m n) is) ∙ g)

-- There is no first one among no ids.
pub none_above_any : (above : Option Id) → ◌≡◌ {A = Option Id} None (slice_get (ids_above above []) 0)
none_above_any None = refl
none_above_any (Some above) = refl

-- ---- several ids, one after another

module _ (name : List ℕ) (ids : List Id) (k : ℕ) (d : Id) (within : k < length ids) (cur new : Index) where
  -- One more is marked.
  pub marked_more : (mark : Bool) → Marks mark name (get_or ids k d ∷ []) cur new → (n : List ℕ) (q : Id) → marked mark name (drop (k + 1) ids) new n q ≡ marked mark name (drop k ids) cur n q
  marked_more mark marks n q =
      ap (λ h. cond (same_name n name && is_one (drop (k + 1) ids) q) mark h) (marks n q)
      ∙ one_and_others (same_name n name) (same_id q (get_or ids k d)) (is_one (drop (k + 1) ids) q) mark (holds cur n q)
      ∙ ap (λ xs. marked mark name xs cur n q) (sym (drop_more ids k d within))

  -- One more has left.
  pub left_more : (log : List (Option Handed)) (w : Option Handed) → k < length log → Leaves name (get_or ids k d ∷ []) (option_map pending_of (get_or log k w) ∷ []) cur new
      → (n : List ℕ) (q : Id) → stays name (drop (k + 1) ids) (logged (drop (k + 1) log)) new n q ≡ stays name (drop k ids) (logged (drop k log)) cur n q
  left_more log w there leaves n q =
      ap (λ h. cond (has_left name (drop (k + 1) ids) (logged (drop (k + 1) log)) n q) false h) (leaves n q)
      ∙ left_and_others (same_id q (get_or ids k d) && (is_for n (option_map pending_of (get_or log k w)) && not (same_name n name))) (has_left name (drop (k + 1) ids) (logged (drop (k + 1) log)) n q) (holds cur n q)
      ∙ ap (λ xs. stays name (get_or ids k d ∷ drop (k + 1) ids) (logged xs) cur n q) (sym (drop_more log k w there))
      ∙ ap (λ xs. stays name xs (logged (drop k log)) cur n q) (sym (drop_more ids k d within))

-- ---- an id that leaves

left_one : (a e x h : Bool) → (a ≡ true → x ≡ false) → cond (a && (e || false)) false h ≡ cond ((e && (a && not x)) || false) false h
left_one false true x h only = refl
left_one false false x h only = refl
left_one true e true h only = absurd (true≢false (only refl))
left_one true true false h only = refl
left_one true false false h only = refl

kept_one : (e x h : Bool) → h ≡ cond ((e && (x && not x)) || false) false h
kept_one true true h = refl
kept_one true false h = refl
kept_one false x h = refl

module _ (name : List ℕ) (id : Id) (former : Pending) where
  -- It leaves the consumer that had it.
  pub former_left : (old new : Index) → same_name former.consumer name ≡ false → Marks false former.consumer (id ∷ []) old new → Leaves name (id ∷ []) (Some former ∷ []) old new
  former_left old new other marks n q = marks n q
      ∙ left_one (same_name n former.consumer) (same_id q id) (same_name n name) (holds old n q) (λ h. ap (λ x. same_name x name) (one_name n former.consumer h) ∙ other)
      ∙ ap (λ a. cond ((same_id q id && (a && not (same_name n name))) || false) false (holds old n q)) (turned_name n former.consumer)

  -- It stays with the consumer that had it and has it now.
  pub former_kept : (index : Index) → same_name former.consumer name ≡ true → Leaves name (id ∷ []) (Some former ∷ []) index index
  former_kept index same n q = kept_one (same_id q id) (same_name n name) (holds index n q)
      ∙ ap (λ a. cond ((same_id q id && (a && not (same_name n name))) || false) false (holds index n q))
      (turned_name n name ∙ ap (λ x. same_name x n) (sym (one_name former.consumer name same)))

-- ---- ids that are added, and those of them that are new

one_behind : (ids : List Id) (id q : Id) → is_one (ids ++ id ∷ []) q ≡ (is_one ids q || same_id q id)
one_behind [] id q = or-false (same_id q id)
one_behind (x ∷ ids) id q = by (same_id q x) (one_behind ids id q)
  where
    by : (b : Bool) → is_one (ids ++ id ∷ []) q ≡ (is_one ids q || same_id q id) → (b || is_one (ids ++ id ∷ []) q) ≡ ((b || is_one ids q) || same_id q id)
    by true further = refl
    by false further = further

one_more : (a e m h : Bool) → cond (a && (e || false)) true (cond (a && m) true h) ≡ cond (a && (m || e)) true h
one_more false e m h = refl
one_more true true true h = refl
one_more true true false h = refl
one_more true false true h = refl
one_more true false false h = refl

known_one : (a e h : Bool) → (a ≡ true → e ≡ true → h ≡ true) → cond (a && (e || false)) true h ≡ h
known_one true true h only = sym (only refl refl)
known_one true false h only = refl
known_one false e h only = refl

taken_back : (a m h : Bool) → (a ≡ true → m ≡ true → h ≡ false) → cond (a && m) false (cond (a && m) true h) ≡ h
taken_back true true h only = sym (only refl refl)
taken_back true false h only = refl
taken_back false m h only = refl

was_false : (b h : Bool) → cond b true h ≡ false → h ≡ false
was_false true h f = absurd (true≢false f)
was_false false h f = f

said_not : (h b : Bool) → b ≡ not h → h ≡ not b
said_not true b is = sym (ap not is)
said_not false b is = sym (ap not is)

-- none of these ids was the consumer's
abbrev pub AreNew : Index → List ℕ → List Id → Type 0
AreNew index name ids = (q : Id) → is_one ids q ≡ true → holds index name q ≡ false

module _ (old cur new : Index) (name : List ℕ) (fresh : List Id) (so_far : Marks true name fresh old cur) where
  -- New ids are taken back.
  pub fresh_back : AreNew old name fresh → Marks false name fresh cur new → HoldSame old new
  fresh_back news marks n q = marks n q ∙ ap (cond (same_name n name && is_one fresh q) false) (so_far n q)
      ∙ taken_back (same_name n name) (is_one fresh q) (holds old n q) (λ a m. ap (λ x. holds old x q) (one_name n name a) ∙ news q m)

  module _ (id : Id) (b : Bool) (is : b ≡ not (holds cur name id)) (marks : Marks true name (id ∷ []) cur new) where
    -- An id that was there changes nothing.
    pub known_more : b ≡ false → Marks true name fresh old new
    known_more known n q = marks n q ∙ known_one (same_name n name) (same_id q id) (holds cur n q)
        (λ a e. ap (λ x. holds cur x q) (one_name n name a) ∙ ap (holds cur name) (one_id q id e) ∙ said_not (holds cur name id) b is ∙ ap not known) ∙ so_far n q

    module _ (after : List Id) (items : after ≡ fresh ++ id ∷ []) where
      -- One more is new.
      pub fresh_more : Marks true name after old new
      fresh_more n q = marks n q ∙ ap (cond (same_name n name && (same_id q id || false)) true) (so_far n q)
          ∙ one_more (same_name n name) (same_id q id) (is_one fresh q) (holds old n q)
          ∙ ap (λ m. cond (same_name n name && m) true (holds old n q)) (sym (ap (λ xs. is_one xs q) items ∙ one_behind fresh id q))

      pub news_more : b ≡ true → AreNew old name fresh → AreNew old name after
      news_more new_one news q h = by (is_one fresh q) refl (sym (ap (λ xs. is_one xs q) items ∙ one_behind fresh id q) ∙ h)
        where
          by : (m : Bool) → is_one fresh q ≡ m → (m || same_id q id) ≡ true → holds old name q ≡ false
          by true there e = news q there
          by false other e = ap (holds old name) (one_id q id e)
              ∙ was_false (same_name name name && is_one fresh id) (holds old name id) (sym (so_far name id) ∙ said_not (holds cur name id) b is ∙ ap not new_one)
