-- Entries of a node, one more of them, and one of them marked.
use Rattle.std.proofs.Common.{◌≡◌, ◌≢◌, ◌∙◌, ℕ, suc, ◌+◌, ◌-◌, ◌<◌, ◌≤◌, ◌^◌, true, false, List, [], ◌∷◌, ◌++◌, length, map, take, drop, Option, Some, None, refl, sym, ap, subst}
use Rattle.std.proofs.Common.{arith, length-append, append_assoc}
use Rattle.std.specs.Prelude.{Bool, not, slice_get, if◌then◌else◌}
use Rattle.std.specs.List.{AllByRecursion, filter}
use Rattle.std.proofs.lemmas.List.{length-drop, length-take-le, map-append}
use Rattle.std.proofs.lemmas.List.Elements.{filter-append}
use Rattle.std.proofs.lemmas.Bool.{cond-true, cond-false}
use Rattle.listpack.specs.Entry.{text_of}
use Rattle.listpack.specs.Pack.{IsPack, spellings_of, texts}
use Rattle.stream_node.specs.declared.id.Id.{Id}
use Rattle.stream_node.specs.declared.entry.Entry.{Entry}
use Rattle.stream_node.specs.Entry.{Pair, Stored}
use Rattle.stream_node.specs.Node.{Begins, IsAfter, last_id, marked}
use Rattle.stream_node.specs.Entries.{IsNode, entries_of}
use Rattle.stream_node.specs.Ids.{IsId, id_number}
use Rattle.stream_node.specs.declared.behind.Behind.{Behind}
use Rattle.stream_node.specs.Appended.{IsAppended, IsOver, held, appended, pack_len, written_over}
use Rattle.stream_node.specs.Marked.{CanMark, IsMarked, mark_at, marked_spellings}
use Rattle.stream_node.specs.Room.{alone_len}
use Rattle.stream_node.specs.View.{stored}
use Rattle.stream_node.proofs.Ids.{id_laws}
use Rattle.stream_node.proofs.Rooms.{room_enough}
use Rattle.stream_node.proofs.Written.{length_pack}
use Rattle.rax_packed.proofs.Entries.{all-append, all_front, all_back}
use Rattle.stream_object.specs.Parts.{IsNodeOf, is_live, plain, live_of}
use Rattle.stream_object.specs.Node.{put, IsGrown, IsOverGrown, IsAt, IsFirst, Lacks, Marks}
use Rattle.stream_object.proofs.Lighter.{mark_lighter}
use Rattle.stream_object.proofs.Parts.{between}

-- the ids that are read are ids
ids_fit : (key : Id) (master list : List (List ℕ)) (before : Option Id) (es : List Stored) (rest : List (List ℕ)) → Begins key master before list es rest → AllByRecursion (λ e. IsId e.id) es
unfolding Begins
ids_fit key master list before [] rest b = tt
ids_fit key master list before (e ∷ es) rest b =
    let s = b.1.start in
    (record { ms = omega (arith, s.ms_is); seq = omega (arith, s.seq_is) }, ids_fit key master b.0 (Some e.id) es rest b.3)

pub node_ids : (key : Id) (list : List (List ℕ)) → IsNode key list → AllByRecursion (λ e. IsId e.id) (entries_of key list)
node_ids key list n = ids_fit key n.master n.behind None (entries_of key list) [] n.all_entries

-- an id above all others is above the last of them
after_all : (id : Id) → IsId id → (es : List Stored) (before : Option Id) → AllByRecursion (λ e. IsId e.id) es → AllByRecursion (λ e. id_number e.id < id_number id) es → IsAfter before id
    → IsAfter (last_id before es) id
unfolding last_id
after_all id fits [] before ids less h = h
after_all id fits (e ∷ es) before ids less h = after_all id fits es (Some e.id) ids.1 less.1 ((id_laws.below e.id id ids.0 fits).1 less.0)

held_is : (key : Id) (list : List (List ℕ)) → IsNode key list → held key list ≡ entries_of key list
held_is key [] n = absurd (omega (arith, ap length n.head.elements))
held_is key (x ∷ list) n = refl

pub above_held : (key id : Id) (bytes : List ℕ) → IsId id → IsNodeOf key bytes → AllByRecursion (λ e. id_number e.id < id_number id) (entries_of key (texts bytes))
    → IsAfter (last_id None (held key (texts bytes))) id
above_held key id bytes fits n less =
    subst (λ es. IsAfter (last_id None es) id) (sym (held_is key (texts bytes) n.node)) (after_all id fits (entries_of key (texts bytes)) None (node_ids key (texts bytes) n.node) less tt)

pub live_append : (xs ys : List Stored) → live_of (xs ++ ys) ≡ live_of xs ++ live_of ys
live_append xs ys = ap (map plain) (filter-append is_live xs ys) ∙ map-append plain (filter is_live xs) (filter is_live ys)

-- one live entry, or one that is deleted
pub live_one_in_marking : (e : Stored) → e.deleted ≡ false → live_of (e ∷ []) ≡ plain e ∷ []
live_one_in_marking e h = ap (map plain) (cond-true _ (e ∷ []) [] (ap not h))

pub live_none_in_marking : (e : Stored) → e.deleted ≡ true → live_of (e ∷ []) ≡ []
live_none_in_marking e h = ap (map plain) (cond-false _ (e ∷ []) [] (ap not h))

-- those that aren't marked deleted are the others
live_beside : (es : List Stored) → length (live_of es) + marked es ≡ length es
unfolding marked
live_beside [] = refl
live_beside (e ∷ es) = by_mark e es e.deleted refl (live_beside es)
  where
    by_mark : (e : Stored) (es : List Stored) (b : Bool) → e.deleted ≡ b → length (live_of es) + marked es ≡ length es
        → length (live_of (e ∷ es)) + ((if b then 1 else 0) + marked es) ≡ suc (length es)
    by_mark e es true is h = omega (arith, h, ap length (live_append (e ∷ []) es), ap length (live_none_in_marking e is), length-append (live_of (e ∷ [])) (live_of es))
    by_mark e es false is h = omega (arith, h, ap length (live_append (e ∷ []) es), ap length (live_one_in_marking e is), length-append (live_of (e ∷ [])) (live_of es))

pub live_left : (es : List Stored) (n : ℕ) → n + marked es ≡ length es → n ≡ length (live_of es)
live_left es n told = omega (arith, told, live_beside es)

-- an entry put in
module _ (key id : Id) (old new : List ℕ) (pairs : List Pair) (es : List Stored) (app : IsAppended key old new id pairs) (was : held key (texts old) ≡ es)
    (from : AllByRecursion (λ e. id_number key ≤ id_number e.id) es) (low : id_number key ≤ id_number id) (few : length es < 100) (short : length new ≤ 536870000) where
  entries_now : entries_of key (texts new) ≡ es ++ put id pairs ∷ []
  entries_now = app.entries ∙ ap (λ xs. xs ++ put id pairs ∷ []) was

  pub grown : IsGrown key es new id pairs
  grown = record {
    is_node = record {
      pack = app.pack;
      node = app.node;
      some = subst (λ xs. 0 < length (live_of xs)) (sym entries_now) (omega (arith, ap length (live_append es (put id pairs ∷ [])), length-append (live_of es) (plain (put id pairs) ∷ [])));
      few = omega (arith, few, ap length entries_now, length-append es (put id pairs ∷ []));
      short = short;
      from = subst (AllByRecursion (λ e. id_number key ≤ id_number e.id)) (sym entries_now) (all-append (λ e. id_number key ≤ id_number e.id) es (put id pairs ∷ []) from (low, tt));
    };
    entries_are = entries_now;
  }

pub joined_grown : (key id : Id) (old new : List ℕ) (pairs : List Pair) → IsNodeOf key old → AllByRecursion (λ e. id_number e.id < id_number id) (entries_of key (texts old))
    → IsAppended key old new id pairs
    → length (entries_of key (texts old)) < 100 → length new ≤ 536870000 → IsGrown key (entries_of key (texts old)) new id pairs
joined_grown key id old new pairs n less app few short =
    let above : id_number key < id_number id = between (entries_of key (texts old)) (id_number key) (id_number id) n.some n.from less in
    grown key id old new pairs (entries_of key (texts old)) app (held_is key (texts old) n.node) n.from (omega (arith, above)) few short

-- how long a node is over which something is written
length_over : (old head entry : List ℕ) → length head ≡ 7 → 8 ≤ length old → 7 ≤ length entry → length (written_over old head (drop 6 entry)) + 7 ≡ length old + length entry
length_over old head entry seven some header =
    let front = take (length old - 1) old in
    omega (
      arith,
      seven,
      some,
      header,
      length-append head (drop (length head) front ++ drop 6 entry),
      length-append (drop (length head) front) (drop 6 entry),
      length-drop (length head) front,
      length-take-le (length old - 1) old (omega arith),
      length-drop 6 entry,
    )

-- what is written over a node gives it one entry more
pub over_grown : (key id : Id) (old : List ℕ) (behind : Behind) (pairs : List Pair) → IsNodeOf key old
    → AllByRecursion (λ e. id_number e.id < id_number id) (entries_of key (texts old)) → IsOver key old behind.head behind.entry.items id pairs
    → length (entries_of key (texts old)) < 100 → length old + length behind.entry.items ≤ 4103 → IsOverGrown key old behind id pairs
over_grown key id old behind pairs n less over few short =
    let q = over.entry_pack in
    let header : 7 ≤ length behind.entry.items = q.header in
    let long = length_over old behind.head behind.entry.items over.seven over.some header in
    record {
      grown = joined_grown key id old (written_over old behind.head (drop 6 behind.entry.items)) pairs n less over.appended few (omega (arith, long, short));
      seven = over.seven;
      some = over.some;
      header = header;
      within = short;
    }

-- an empty listpack
none_held : (bytes : List ℕ) → spellings_of bytes ≡ [] → texts bytes ≡ []
none_held bytes none = ap (map text_of) none

pub begun_grown : (id : Id) (old new : List ℕ) (pairs : List Pair) → spellings_of old ≡ [] → IsAppended id old new id pairs → alone_len id pairs ≤ 536870000 → IsGrown id [] new id pairs
begun_grown id old new pairs none app short =
    let empty : texts old ≡ [] = none_held old none in
    let size : length new ≡ alone_len id pairs = length_pack new app.pack ∙ ap pack_len app.spelled ∙ room_enough.first id old pairs empty in
    grown id id old new pairs [] app (ap (held id) empty) tt (omega arith) (omega arith) (omega (arith, size, short))

pub begun_room : (id : Id) (old : List ℕ) (pairs : List Pair) → spellings_of old ≡ [] → alone_len id pairs ≤ 536870000 → pack_len (appended id old id pairs) < 2 ^ 32
begun_room id old pairs none short = omega (arith, short, room_enough.first id old pairs (none_held old none))

pub joined_room : (key id : Id) (old : List ℕ) (pairs : List Pair) → IsPack old → length old ≤ 4096 → alone_len id pairs ≤ 536870000 → pack_len (appended key old id pairs) < 2 ^ 32
joined_room key id old pairs p few short = omega (arith, room_enough.behind key id old pairs p (omega (arith, short)), few, short)

-- an entry marked
get_at : (xs ys : List Stored) (e : Stored) → slice_get (xs ++ e ∷ ys) (length xs) ≡ Some e
get_at [] ys e = refl
get_at (x ∷ xs) ys e = get_at xs ys e

mark_there : (xs ys : List Stored) (e : Stored) → mark_at (xs ++ e ∷ ys) (length xs) ≡ xs ++ record { id = e.id; deleted = true; pairs = e.pairs } ∷ ys
unfolding mark_at
mark_there [] ys e = refl
mark_there (x ∷ xs) ys e = ap (λ es. x ∷ es) (mark_there xs ys e)

pub can_mark : (key : Id) (bytes : List ℕ) (index : ℕ) (e : Stored) → IsNodeOf key bytes → IsAt (entries_of key (texts bytes)) index e → CanMark key (texts bytes) index
can_mark key bytes index e n at =
    record {
      node = n.node;
      entry = e;
      there = ap (λ k. slice_get (entries_of key (texts bytes)) k) (sym at.count) ∙ ap (λ es. slice_get es (length at.before)) at.place
          ∙ get_at at.before at.after e;
      live = at.live;
    }

pub mark_room : (key : Id) (bytes : List ℕ) (index : ℕ) (e : Stored) → IsNodeOf key bytes → IsAt (entries_of key (texts bytes)) index e → pack_len (marked_spellings bytes index) < 2 ^ 32
mark_room key bytes index e n at = omega (arith, n.short, mark_lighter key bytes index n.pack (can_mark key bytes index e n at) n.few (omega (arith, n.short)))

-- the entries around one that is marked
pub live_around : (xs ys : List Stored) (e : Stored) → e.deleted ≡ false → length (live_of (xs ++ e ∷ ys)) ≡ suc (length (live_of (xs ++ ys)))
live_around xs ys e h =
    omega (
      arith,
      ap length (live_append xs (e ∷ ys)),
      ap length (live_append (e ∷ []) ys),
      ap length (live_append xs ys),
      ap length (live_one_in_marking e h),
      length-append (live_of xs) (live_of (e ∷ ys)),
      length-append (live_of (e ∷ [])) (live_of ys),
      length-append (live_of xs) (live_of ys),
    )

pub live_marked : (xs ys : List Stored) (e : Stored) → live_of (xs ++ record { id = e.id; deleted = true; pairs = e.pairs } ∷ ys) ≡ live_of (xs ++ ys)
live_marked xs ys e =
    let gone : Stored = record { id = e.id; deleted = true; pairs = e.pairs } in
    live_append xs (gone ∷ ys) ∙ ap (λ zs. live_of xs ++ zs) (live_append (gone ∷ []) ys ∙ ap (λ zs. zs ++ live_of ys) (live_none_in_marking gone refl)) ∙ sym (live_append xs ys)

pub is_marked : (old new : List ℕ) (index : ℕ) → IsMarked old new index → (key : Id) → Marks key old new index
is_marked old new index m key e at n many =
    let es = entries_of key (texts old) in
    let gone : Stored = record { id = e.id; deleted = true; pairs = e.pairs } in
    let can = can_mark key old index e n at in
    let now : entries_of key (texts new) ≡ at.before ++ gone ∷ at.after = m.entries key n.node ∙ ap (mark_at es) (sym at.count) ∙ ap (λ xs. mark_at xs (length at.before)) at.place
    ∙ mark_there at.before at.after e in
    let size : length new ≤ length old = omega (arith, length_pack new m.pack, ap pack_len m.spelled, mark_lighter key old index n.pack can n.few (omega (arith, n.short))) in
    let left : length (live_of es) ≡ suc (length (live_of (at.before ++ at.after))) = ap (λ xs. length (live_of xs)) at.place ∙ live_around at.before at.after e at.live in
    let split = subst (AllByRecursion (λ x. id_number key ≤ id_number x.id)) at.place n.from in
    let front = all_front (λ x. id_number key ≤ id_number x.id) at.before (e ∷ at.after) split in
    let back = all_back (λ x. id_number key ≤ id_number x.id) at.before (e ∷ at.after) split in (
      record {
        pack = m.pack;
        node = m.node key n.node;
        some = omega (arith, many, left, ap (λ xs. length (live_of xs)) now, ap length (live_marked at.before at.after e));
        few = omega (arith, n.few, ap length now, ap length at.place, length-append at.before (gone ∷ at.after), length-append at.before (e ∷ at.after));
        short = omega (arith, size, n.short);
        from = subst (AllByRecursion (λ x. id_number key ≤ id_number x.id)) (sym now) (all-append (λ x. id_number key ≤ id_number x.id) at.before (gone ∷ at.after) front (back.0, back.1));
      },
      now,
    )

-- a walk over the entries
pub walked : (xs : List Entry) (x : Entry) (left rest all : List Stored) → map stored xs ++ left ≡ all → left ≡ stored x ∷ rest → map stored (xs ++ x ∷ []) ++ rest ≡ all
walked xs x left rest all is next =
    ap (λ ys. ys ++ rest) (map-append stored xs (x ∷ [])) ∙ append_assoc (map stored xs) (stored x ∷ []) rest ∙ ap (λ ys. map stored xs ++ ys) (sym next) ∙ is

pub length_stored : (xs : List Entry) → length (map stored xs) ≡ length xs
length_stored [] = refl
length_stored (x ∷ xs) = ap suc (length_stored xs)

pub walked_inside : (xs : List Entry) (x : Entry) (left rest all : List Stored) → map stored xs ++ left ≡ all → left ≡ stored x ∷ rest → length xs < length all
walked_inside xs x left rest all is next = omega (arith, ap length is, ap length next, length-append (map stored xs) left, length_stored xs)

pub walked_at : (xs : List Entry) (x : Entry) (left rest all : List Stored) (index : ℕ) → map stored xs ++ left ≡ all → left ≡ stored x ∷ rest → length xs ≡ index
    → (stored x).deleted ≡ false → IsAt all index (stored x)
walked_at xs x left rest all index is next count live =
    record { before = map stored xs; after = rest; place = sym is ∙ ap (λ ys. map stored xs ++ ys) next; count = length_stored xs ∙ count; live = live }

pub lacks_more : (id : Id) (xs : List Entry) (x : Entry) → Lacks id (map stored xs) → ((stored x).deleted ≡ false → (stored x).id ≢ id) → Lacks id (map stored (xs ++ x ∷ []))
lacks_more id xs x none other =
    subst (Lacks id) (sym (map-append stored xs (x ∷ []))) (all-append (λ e. e.deleted ≡ false → e.id ≢ id) (map stored xs) (stored x ∷ []) none (other, tt))

-- a walk that met no live entry, and then the first one
pub walked_first : (xs : List Entry) (x : Entry) (left rest all : List Stored) (index : ℕ) → map stored xs ++ left ≡ all → left ≡ stored x ∷ rest → length xs ≡ index
    → (stored x).deleted ≡ false → live_of (map stored xs) ≡ [] → IsFirst all index
walked_first xs x left rest all index is next count live none = (
  stored x,
  record { before = map stored xs; after = rest; place = sym is ∙ ap (λ ys. map stored xs ++ ys) next; count = length_stored xs ∙ count; live = live },
  none,
)

pub none_live : (xs : List Entry) (x : Entry) → live_of (map stored xs) ≡ [] → (stored x).deleted ≡ true → live_of (map stored (xs ++ x ∷ [])) ≡ []
none_live xs x none gone =
    ap live_of (map-append stored xs (x ∷ [])) ∙ live_append (map stored xs) (stored x ∷ []) ∙ ap (λ ys. ys ++ live_of (stored x ∷ [])) none ∙ live_none_in_marking (stored x) gone
