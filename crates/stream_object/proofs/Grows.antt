-- Nodes with one entry more behind all others.
use Rattle.std.proofs.Common.{◌≡◌, ◌∙◌, ℕ, ◌+◌, ◌-◌, ◌*◌, ◌%◌, ◌<◌, ◌≤◌, ◌^◌, List, [], ◌∷◌, ◌++◌, length, Some, refl, sym, ap, subst, arith, length-append}
use Rattle.std.specs.Prelude.{false, sum_by}
use Rattle.std.specs.List.{AllByRecursion}
use Rattle.std.proofs.lemmas.List.{append-nil, append_assoc}
use Rattle.std.proofs.lemmas.List.Concat.{flat_map-append}
use Rattle.std.proofs.lemmas.List.Sums.{sum_by-cons}
use Rattle.blocks.specs.declared.BlockRef.{BlockRef}
use Rattle.blocks.specs.Blocks.{Blocks, Changes}
use Rattle.listpack.specs.Pack.{texts}
use Rattle.stream_node.specs.declared.id.Id.{Id}
use Rattle.stream_node.specs.Entry.{Pair, Stored}
use Rattle.stream_node.specs.Entries.{entries_of}
use Rattle.stream_node.specs.Ids.{IsId, id_number}
use Rattle.stream_node.specs.Room.{pair_bytes, alone_len}
use Rattle.stream_node.proofs.Rooms.{room_enough}
use Rattle.rax_packed.specs.declared.tree.PackedTree.{PackedTree}
use Rattle.rax_packed.proofs.Entries.{all-append, all_front, all_back, all_weaker}
use Rattle.stream_object.specs.declared.stream.Stream.{Stream as Log}
use Rattle.stream_object.specs.declared.tail.Tail.{Tail}
use Rattle.stream_object.specs.Parts.{Part, part, stored_in, plain, live_of, live_in, entries_in, IsPart, EndsBefore, Rising, parts_of, all_refs, HasParts}
use Rattle.stream_object.specs.Found.{IsNear, Misses, Stands, Comes, Becomes}
use Rattle.stream_object.specs.Node.{put, IsGrown}
use Rattle.stream_object.specs.Streams.{nodes, entries, refs, AreUpto, AreBelow, IsStream, IsChanged, IsAddable, Grows, stream_of, appended, added}
use Rattle.stream_object.specs.Tail.{IsTail, IsKept}
use Rattle.stream_object.proofs.Parts.{parts_are, its_own}
use Rattle.stream_object.proofs.Marking.{live_append, live_one_in_marking}

-- a node behind all others
pub rising_push : (ps : List Part) (q : Part) → Rising ps → AllByRecursion (λ p. EndsBefore p q) ps → Rising (ps ++ q ∷ [])
rising_push [] q r ends = (tt, tt)
rising_push (p ∷ ps) q r ends = (all-append (EndsBefore p) ps (q ∷ []) r.0 (ends.0, tt), rising_push ps q r.1 ends.1)

-- a node with other entries under the same key
pub rising_again : (before after : List Part) (p q : Part) → q.key ≡ p.key → AllByRecursion (EndsBefore q) after → Rising (before ++ p ∷ after) → Rising (before ++ q ∷ after)
rising_again [] after p q same ends r = (ends, r.1)
rising_again (x ∷ before) after p q same ends r =
    let all = r.0 in
    let back = all_back (EndsBefore x) before (p ∷ after) all in
    let here = subst (λ (k : Id). AllByRecursion (λ (e : Stored). id_number e.id < id_number k) (stored_in x)) (sym same) back.0 in
    (all-append (EndsBefore x) before (q ∷ after) (all_front (EndsBefore x) before (p ∷ after) all) (here, back.1), rising_again before after p q same ends r.1)

pub entries_append : (xs ys : List Part) → entries_in (xs ++ ys) ≡ entries_in xs ++ entries_in ys
entries_append xs ys = flat_map-append live_in xs ys

-- below is up to
below_upto : (id : Id) (ps : List Part) → AreBelow id ps → AreUpto id ps
below_upto id [] h = tt
below_upto id (p ∷ ps) h = (all_weaker (λ (e : Stored). id_number e.id < id_number id) (λ e. id_number e.id ≤ id_number id) (stored_in p) (λ e less. omega arith) h.0, below_upto id ps h.1)

module _ (m after : Blocks) (old new : PackedTree) (id : Id) (pairs : List Pair) (bytes : List ℕ) where
  pub comes_grows : (at : BlockRef) → HasParts m old (parts_of m old) → AreBelow id (parts_of m old) → IsGrown id [] bytes id pairs → Comes m after old new id bytes at
      → Grows m after old new id pairs (record { key = id; at = at })
  comes_grows at h below g comes =
      let ps = parts_of m old in
      let q = part id at bytes in
      let now = comes g.is_node (rising_push ps q h.rising below) in
      let one : live_in q ≡ plain (put id pairs) ∷ [] = ap live_of g.entries_are ∙ live_one_in_marking (put id pairs) refl in
      record {
        parts = ps ++ q ∷ [];
        exchanges = now;
        entries_are = entries_append ps (q ∷ []) ∙ ap (λ xs. entries_in ps ++ xs) (append-nil (live_in q) ∙ one);
        upto = all-append (λ (p : Part). AllByRecursion (λ e. id_number e.id ≤ id_number id) (stored_in p)) ps (q ∷ []) (below_upto id ps below)
            (subst (AllByRecursion (λ e. id_number e.id ≤ id_number id)) (sym g.entries_are) (omega arith, tt), tt);
        ends = (bytes, record { before = ps; place = refl });
      }

  pub becomes_grows : (key : Id) (at new_at : BlockRef) (was : List ℕ) (before : List Part) → HasParts m old (parts_of m old) → AreBelow id (parts_of m old) → parts_of m old ≡ before
      ++ part key at was ∷ []
      → IsGrown key (entries_of key (texts was)) bytes id pairs → Becomes m after old new key at bytes new_at → Grows m after old new id pairs (record { key = key; at = new_at })
  becomes_grows key at new_at was before h below place g becomes =
      let s : Stands (parts_of m old) key at = record { before = before; after = []; bytes = was; place = place } in
      let p = part key at was in
      let rising = subst Rising place h.rising in
      let under = subst (AreBelow id) place below in
      let q = part key new_at bytes in
      let now = becomes s g.is_node (rising_again before [] p q refl tt rising) in
      let more : live_in q ≡ live_in p ++ plain (put id pairs) ∷ [] = ap live_of g.entries_are ∙ live_append (stored_in p) (put id pairs ∷ [])
      ∙ ap (λ xs. live_in p ++ xs) (live_one_in_marking (put id pairs) refl) in
      let front = all_front (λ (x : Part). AllByRecursion (λ e. id_number e.id < id_number id) (stored_in x)) before (p ∷ []) under in
      let back = all_back (λ (x : Part). AllByRecursion (λ e. id_number e.id < id_number id) (stored_in x)) before (p ∷ []) under in
      record {
        parts = before ++ q ∷ [];
        exchanges = now;
        entries_are =
            entries_append before (q ∷ []) ∙ ap (λ xs. entries_in before ++ xs) (append-nil (live_in q) ∙ more) ∙ sym (append_assoc (entries_in before) (live_in p) (plain (put id pairs) ∷ []))
            ∙ ap (λ xs. xs ++ plain (put id pairs) ∷ []) (sym (ap entries_in place ∙ entries_append before (p ∷ []) ∙ ap (λ xs. entries_in before ++ xs) (append-nil (live_in p))));
        upto = all-append (λ (x : Part). AllByRecursion (λ e. id_number e.id ≤ id_number id) (stored_in x)) before (q ∷ []) (below_upto id before front) (
          subst (AllByRecursion (λ e. id_number e.id ≤ id_number id)) (sym g.entries_are)
              (all-append (λ e. id_number e.id ≤ id_number id) (stored_in p) (put id pairs ∷ [])
              (all_weaker (λ (e : Stored). id_number e.id < id_number id) (λ e. id_number e.id ≤ id_number id) (stored_in p) (λ e less. omega arith) back.0) (omega arith, tt)),
          tt,
        );
        ends = (bytes, record { before = before; place = refl });
      }

-- no node is beyond the greatest id
none_beyond : (m : Blocks) (top : Id) → top.ms ≡ 2 ^ 64 - 1 → top.seq ≡ 2 ^ 64 - 1 → (ps : List Part) → AllByRecursion (IsPart m) ps → AllByRecursion (Misses false top) ps → ps ≡ []
none_beyond m top a b [] each miss = refl
none_beyond m top a b (p ∷ ps) each miss = absurd (omega (arith, a, b, miss.0, each.0.id.ms, each.0.id.seq))

pub last_place : (m : Blocks) (tree : PackedTree) (top : Id) (p : Part) → top.ms ≡ 2 ^ 64 - 1 → top.seq ≡ 2 ^ 64 - 1 → HasParts m tree (parts_of m tree)
    → (n : IsNear false (parts_of m tree) top p) → parts_of m tree ≡ n.before ++ p ∷ []
last_place m tree top p a b h n =
    let each = subst (AllByRecursion (IsPart m)) n.place h.each in
    let after = none_beyond m top a b n.after (all_back (IsPart m) n.before (p ∷ n.after) each).1 n.passes in
    n.place ∙ ap (λ xs. n.before ++ p ∷ xs) after

-- what holds of the node that was found
pub near_part : (m : Blocks) (tree : PackedTree) (ps before after : List Part) (p : Part) → HasParts m tree ps → ps ≡ before ++ p ∷ after → IsPart m p
near_part m tree ps before after p h place = (all_back (IsPart m) before (p ∷ after) (subst (AllByRecursion (IsPart m)) place h.each)).0

pub near_below : (id : Id) (ps before after : List Part) (p : Part) → AreBelow id ps → ps ≡ before ++ p ∷ after → AllByRecursion (λ e. id_number e.id < id_number id) (stored_in p)
near_below id ps before after p below place =
    (all_back (λ (x : Part). AllByRecursion (λ e. id_number e.id < id_number id) (stored_in x)) before (p ∷ after) (subst (AreBelow id) place below)).0

-- the stream of such nodes
module _ (m after : Blocks) (old new : Log) (id : Id) (pairs : List Pair) (tail : Tail) (is : IsStream m old) (fits : IsId id) (g : Grows m after old.tree new.tree id pairs tail)
    (len : new.len ≡ old.len + 1) (last : new.last ≡ id) (ends : new.tail ≡ Some tail) where
  now : nodes after new ≡ g.parts
  now = parts_are after new.tree g.parts g.exchanges.parts

  grown_entries : entries after new ≡ entries m old ++ plain (put id pairs) ∷ []
  grown_entries = ap entries_in now ∙ g.entries_are

  grown_stream : IsStream after new
  grown_stream = record {
    parts = its_own after new.tree g.parts g.exchanges.parts;
    counted = omega (arith, len, is.counted, ap length grown_entries, length-append (entries m old) (plain (put id pairs) ∷ []));
    fits = subst IsId (sym last) fits;
    upto = subst (λ ps. AreUpto new.last ps) (sym now) (subst (λ i. AreUpto i g.parts) (sym last) g.upto);
    kept = subst (IsKept (nodes after new)) (sym ends) (subst (λ ps. IsTail ps tail) (sym now) g.ends);
  }

  pub grown_changed : new.deleted ≡ old.deleted → new.added ≡ old.added → new.groups ≡ old.groups → IsChanged m after old new (appended (stream_of m old) id pairs)
  grown_changed deleted count groups = record {
    is_stream = grown_stream;
    value_is = λ i. record { entries = grown_entries i; last = ((last i).ms, (last i).seq); deleted = ((deleted i).ms, (deleted i).seq); added = count i; groups = groups i };
    changes = g.exchanges.changes;
  }

-- the same stream, counted as one more that was added
pub counted_added : (m after : Blocks) (old mid new : Log) (id : Id) (pairs : List Pair) → IsChanged m after old mid (appended (stream_of m old) id pairs) → mid.added ≡ old.added
    → new.tree ≡ mid.tree → new.len ≡ mid.len → new.last ≡ mid.last → new.deleted ≡ mid.deleted → new.groups ≡ mid.groups → new.tail ≡ mid.tail
    → new.added ≡ (old.added + 1) % 2 ^ 64 → IsChanged m after old new (added (stream_of m old) id pairs)
counted_added m after old mid new id pairs c same tree len last deleted groups tail more =
    let v = c.value_is in
    record {
      is_stream = record {
        parts = subst (λ t. HasParts after t (parts_of after t)) (sym tree) c.is_stream.parts;
        counted = len ∙ c.is_stream.counted ∙ ap (λ t. length (entries_in (parts_of after t))) (sym tree);
        fits = subst IsId (sym last) c.is_stream.fits;
        upto = subst (λ t. AreUpto new.last (parts_of after t)) (sym tree) (subst (λ i. AreUpto i (nodes after mid)) (sym last) c.is_stream.upto);
        kept = subst (λ t. IsKept (parts_of after t) new.tail) (sym tree) (subst (IsKept (nodes after mid)) (sym tail) c.is_stream.kept);
      };
      value_is = λ i. record {
        entries = (ap (λ t. entries_in (parts_of after t)) tree ∙ ap (λ s. s.entries) v) i;
        last = (ap (λ (x : Id). (x.ms, x.seq)) last ∙ ap (λ s. s.last) v) i;
        deleted = (ap (λ (x : Id). (x.ms, x.seq)) deleted ∙ ap (λ s. s.deleted) v) i;
        added = more i;
        groups = (groups ∙ ap (λ s. s.groups) v) i;
      };
      changes = subst (λ t. Changes m after (refs m old) (all_refs after t)) (sym tree) c.changes;
    }

-- the last id is not below those of the entries, so an id above it is above them all
pub all_below : (last id : Id) → id_number last < id_number id → (ps : List Part) → AreUpto last ps → AreBelow id ps
all_below last id less [] h = tt
all_below last id less (p ∷ ps) h =
    (all_weaker (λ (e : Stored). id_number e.id ≤ id_number last) (λ e. id_number e.id < id_number id) (stored_in p) (λ e upto. omega (arith, less)) h.0, all_below last id less ps h.1)

-- an entry that may be added is short enough alone
told : (pairs : List Pair) → sum_by pair_bytes pairs ≡ sum_by (λ (p : Pair). length p.0 + length p.1) pairs + 20 * length pairs
told [] = refl
told (p ∷ pairs) = omega (arith, told pairs, sum_by-cons pair_bytes p pairs, sum_by-cons (λ (x : Pair). length x.0 + length x.1) p pairs)

pub addable_short : (id : Id) (pairs : List Pair) → IsAddable pairs → alone_len id pairs ≤ 536870000
addable_short id pairs a = omega (arith, told pairs, a.few, a.short, room_enough.alone id pairs (omega (arith, told pairs, a.few, a.short)))
