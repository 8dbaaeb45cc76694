-- Nodes of a file that stand as they are.
use Rattle.std.proofs.Common.{◌≡◌, ◌∙◌, ℕ, suc, ◌+◌, ◌*◌, ◌^◌, ◌<◌, ◌≤◌, false, true, List, [], ◌∷◌, ◌++◌, length, map, refl, sym, ap, subst, arith, length-append}
use Rattle.std.specs.Prelude.{if◌then◌else◌, not, Option, Some, None, IfSome, Result, Ok, Err, OnErr}
use Rattle.std.specs.List.{AllByRecursion, filter}
use Rattle.std.proofs.lemmas.Bool.{cond-true}
use Rattle.std.proofs.lemmas.List.{append-nil}
use Rattle.blocks.specs.declared.BlockRef.{BlockRef}
use Rattle.blocks.specs.Blocks.{Blocks}
use Rattle.listpack.specs.Pack.{texts}
use Rattle.stream_node.specs.declared.id.Id.{Id}
use Rattle.stream_node.specs.Entries.{IsNode, entries_of}
use Rattle.stream_node.specs.Entry.{Stored}
use Rattle.stream_node.specs.Ids.{IsId, id_number}
use Rattle.stream_node.specs.Node.{marked, last_id}
use Rattle.rax_packed.proofs.Entries.{all-append, all_weaker}
use Rattle.stream_object.specs.declared.stream.Stream.{Stream as Log}
use Rattle.stream_object.specs.Found.{Comes, Exchanges}
use Rattle.stream_object.specs.Loading.{AreLiveUpto, IsFileNode, last_of, loaded}
use Rattle.stream_object.specs.Parts.{Part, part, stored_in, is_live, plain, live_of, entries_in}
use Rattle.stream_object.specs.Streams.{AreBelow, AreUpto, IsChanged, IsStream, entries, nodes, pair_of, stream_of}
use Rattle.stream_object.specs.Whole.{MayStandWhole, MayStand}
use Rattle.stream_object.specs.Tail.{IsTail, IsKept}
use Rattle.stream_object.proofs.Grows.{entries_append, rising_push}
use Rattle.stream_object.proofs.Losing.{Sorted, node_sorted}
use Rattle.stream_object.proofs.Parts.{its_own, parts_are}

-- entries none of which is marked: the first one isn't, nor is another one
pub none_marked : (e : Stored) (es : List Stored) → marked (e ∷ es) ≡ 0 → (e.deleted ≡ false) × (marked es ≡ 0)
unfolding marked
none_marked e es none = elim e.deleted as (λ b. (if b then 1 else 0) + marked es ≡ 0 → (b ≡ false) × (marked es ≡ 0)) [
  | false ↦ λ (h : 0 + marked es ≡ 0). (refl, omega (arith, h))
  | true ↦ λ (h : 1 + marked es ≡ 0). absurd (omega (arith, h))
] none

later_stand : (key : Id) (low : ℕ) (es : List Stored) → id_number key ≤ low → AllByRecursion (λ f. low < id_number f.id) es → marked es ≡ 0 → AllByRecursion (MayStand key) es
later_stand key low [] le above none = tt
later_stand key low (f ∷ es) le above none =
    let parts = none_marked f es none in
    ((parts.0, omega (arith, le, above.0)), later_stand key low es le above.1 parts.1)

-- where none is marked and the first one may stand, all may, as their ids rise
pub all_stand_from : (key : Id) (list : List (List ℕ)) (e : Stored) (es : List Stored) → IsNode key list → entries_of key list ≡ e ∷ es → marked (entries_of key list) ≡ 0 → MayStand key e
    → AllByRecursion (MayStand key) (entries_of key list)
all_stand_from key list e es node is none one =
    let sorted = subst Sorted is (node_sorted key list node) in
    let parts = none_marked e es (subst (λ (xs : List Stored). marked xs ≡ 0) is none) in
    subst (AllByRecursion (MayStand key)) (sym is) (one, later_stand key (id_number e.id) es one.1 sorted.0 parts.1)

-- as many are live as there are
live_count : (es : List Stored) → AllByRecursion (λ e. e.deleted ≡ false) es → length (live_of es) ≡ length es
live_count [] h = refl
live_count (e ∷ es) h = ap (λ (xs : List Stored). length (map plain xs)) (cond-true _ (e ∷ filter is_live es) (filter is_live es) (ap not h.0)) ∙ ap suc (live_count es h.1)

-- the last of entries that rise is the highest
last_highest : (es : List Stored) (first : ℕ × ℕ) (last : Id) → Sorted es → pair_of last ≡ last_of first es → AllByRecursion (λ e. id_number e.id ≤ id_number last) es
last_highest [] first last s is = tt
last_highest (e ∷ []) first last s is =
    let same : id_number last ≡ id_number e.id = ap (λ (p : ℕ × ℕ). p.0 * 2 ^ 64 + p.1) is in
    (omega (arith, same), tt)
last_highest (e ∷ f ∷ es) first last s is = let more = last_highest (f ∷ es) (pair_of e.id) last s.1 is in (omega (arith, s.0.0, more.0), more)

-- the key isn't above the last of some entries that aren't below it
from_last : (es : List Stored) (key last : Id) → 0 < length es → AllByRecursion (λ e. id_number key ≤ id_number e.id) es → AllByRecursion (λ e. id_number e.id ≤ id_number last) es
    → id_number key ≤ id_number last
from_last [] key last some low high = absurd (omega arith)
from_last (e ∷ es) key last some low high = omega (arith, low.0, high.0)

below_upto : (key last : Id) (ps : List Part) → id_number key ≤ id_number last → AreBelow key ps → AreUpto last ps
below_upto key last [] le h = tt
below_upto key last (p ∷ ps) le h =
    (all_weaker (λ (e : Stored). id_number e.id < id_number key) (λ (e : Stored). id_number e.id ≤ id_number last) (stored_in p) (λ e less. omega (arith, less, le)) h.0, below_upto key last ps le h.1)

live_upto : (id : Id) (es : List Stored) → AllByRecursion (λ e. e.deleted ≡ false) es → AreLiveUpto id es → AllByRecursion (λ e. id_number e.id ≤ id_number id) es
live_upto id [] live upto = tt
live_upto id (e ∷ es) live upto = (upto.0 live.0, live_upto id es live.1 upto.1)

-- what the last of some entries is, whatever was before them
last_whatever : (a b : ℕ × ℕ) (es : List Stored) → 0 < length es → last_of a es ≡ last_of b es
last_whatever a b [] some = absurd (omega arith)
last_whatever a b (e ∷ es) some = refl

-- what the tests tell of a node
pub whole_node : (key : Id) (bytes : List ℕ) (last : Id) → IsFileNode key bytes → 0 < length (entries_of key (texts bytes)) → length (entries_of key (texts bytes)) ≤ 100
    → AllByRecursion (MayStand key) (entries_of key (texts bytes))
    → pair_of last ≡ last_of (pair_of key) (entries_of key (texts bytes)) → MayStandWhole key bytes last
whole_node key bytes last f some few stand end =
    let es = entries_of key (texts bytes) in
    let live = all_weaker (MayStand key) (λ (e : Stored). e.deleted ≡ false) es (λ e h. h.0) stand in
    record {
      is_node = record {
        pack = f.pack;
        node = f.node;
        some = omega (arith, some, live_count es live);
        few = few;
        short = f.short;
        from = all_weaker (MayStand key) (λ (e : Stored). id_number key ≤ id_number e.id) es (λ e h. h.1) stand;
      };
      live = live;
      last_is = end;
    }

last_pair : (before : Option Id) (first : ℕ × ℕ) (e : Stored) (es : List Stored) → IfSome (last_id before (e ∷ es)) (λ last. pair_of last ≡ last_of first (e ∷ es))
unfolding last_id
last_pair before first e [] = refl
last_pair before first e (f ∷ es) = last_pair (Some e.id) (pair_of e.id) f es

last_some : (first : ℕ × ℕ) (es : List Stored) → 0 < length es → IfSome (last_id None es) (λ last. pair_of last ≡ last_of first es)
last_some first [] some = absurd (omega (arith, some))
last_some first (e ∷ es) some = last_pair None first e es

some_as : {X : Type 0} {P R : X → Type 0} (o : Option X) → ((x : X) → P x → R x) → IfSome o P → IfSome o R
some_as (Some x) f p = f x p
some_as None f p = tt

-- the last id of a node whose entries may stand
pub whole_last : (key : Id) (bytes : List ℕ) (o : Option Id) → IsFileNode key bytes → 0 < length (entries_of key (texts bytes)) → length (entries_of key (texts bytes)) ≤ 100
    → AllByRecursion (MayStand key) (entries_of key (texts bytes)) → o ≡ last_id None (entries_of key (texts bytes)) → IfSome o (λ last. MayStandWhole key bytes last)
whole_last key bytes o f some few stand is =
    let es = entries_of key (texts bytes) in
    subst (λ (x : Option Id). IfSome x (λ last. MayStandWhole key bytes last)) (sym is)
    (some_as (last_id None es) (λ last end. whole_node key bytes last f some few stand end) (last_some (pair_of key) es some))

-- a node placed behind all others as it is
module _ (m after : Blocks) (old new : Log) (key : Id) (bytes : List ℕ) (last : Id) (is : IsStream m old) (below : AreBelow key (nodes m old)) (w : MayStandWhole key bytes last) (at : BlockRef)
    (comes : Comes m after old.tree new.tree key bytes at) where
  placed : Exchanges m after old.tree new.tree (nodes m old ++ part key at bytes ∷ [])
  placed = comes w.is_node (rising_push (nodes m old) (part key at bytes) is.parts.rising below)

  now : nodes after new ≡ nodes m old ++ part key at bytes ∷ []
  now = parts_are after new.tree (nodes m old ++ part key at bytes ∷ []) placed.parts

  seen : entries after new ≡ entries m old ++ live_of (entries_of key (texts bytes))
  seen = ap entries_in now ∙ entries_append (nodes m old) (part key at bytes ∷ []) ∙ ap (λ xs. entries m old ++ xs) (append-nil (live_of (entries_of key (texts bytes))))

  some : 0 < length (entries_of key (texts bytes))
  some = omega (arith, w.is_node.some, live_count (entries_of key (texts bytes)) w.live)

  high : AllByRecursion (λ e. id_number e.id ≤ id_number last) (entries_of key (texts bytes))
  high = last_highest (entries_of key (texts bytes)) (pair_of key) last (node_sorted key (texts bytes) w.is_node.node) w.last_is

  upto : AreUpto last (nodes m old ++ part key at bytes ∷ [])
  upto =
      all-append (λ (p : Part). AllByRecursion (λ e. id_number e.id ≤ id_number last) (stored_in p)) (nodes m old) (part key at bytes ∷ [])
      (below_upto key last (nodes m old) (from_last (entries_of key (texts bytes)) key last some w.is_node.from high) below) (high, tt)

  pub whole_loaded : IsId last → new.len ≡ old.len + length (entries_of key (texts bytes)) → new.last ≡ last → new.deleted ≡ old.deleted → new.added ≡ old.added → new.groups ≡ old.groups
      → new.tail ≡ Some (record { key = key; at = at }) → IsChanged m after old new (loaded (stream_of m old) (entries_of key (texts bytes)))
  whole_loaded fits len end deleted count groups tail =
      let es = entries_of key (texts bytes) in
      let last_now : pair_of new.last ≡ last_of (pair_of old.last) es = ap pair_of end ∙ w.last_is ∙ last_whatever (pair_of key) (pair_of old.last) es some in
      record {
        is_stream = record {
          parts = its_own after new.tree (nodes m old ++ part key at bytes ∷ []) placed.parts;
          counted = omega (arith, len, is.counted, ap length seen, length-append (entries m old) (live_of es), live_count es w.live);
          fits = subst IsId (sym end) fits;
          upto = subst (λ ps. AreUpto new.last ps) (sym now) (subst (λ i. AreUpto i (nodes m old ++ part key at bytes ∷ [])) (sym end) upto);
          kept = subst (IsKept (nodes after new)) (sym tail) (subst (λ ps. IsTail ps (record { key = key; at = at })) (sym now) (bytes, record { before = nodes m old; place = refl }));
        };
        value_is = λ i. record { entries = seen i; last = last_now i; deleted = ((deleted i).ms, (deleted i).seq); added = count i; groups = groups i };
        changes = placed.changes;
      }

  pub whole_upto : (id : Id) → AreUpto id (nodes m old) → AreLiveUpto id (entries_of key (texts bytes)) → AreUpto id (nodes after new)
  whole_upto id before live =
      subst (AreUpto id) (sym now)
      (all-append (λ (p : Part). AllByRecursion (λ e. id_number e.id ≤ id_number id) (stored_in p)) (nodes m old) (part key at bytes ∷ []) before
      (live_upto id (entries_of key (texts bytes)) w.live live, tt))

-- what two things that a refusal tells make together
pub on_err : {A E P Q R : Type 0} (r : Result A E) → (P → Q → R) → OnErr r P → OnErr r Q → OnErr r R
on_err (Ok x) f p q = tt
on_err (Err e) f p q = f p q
