-- Nodes copied one after the other.
use Rattle.std.proofs.Common.{◌≡◌, ◌∙◌, ℕ, ◌+◌, ◌<◌, ◌≤◌, ◌^◌, Bool, true, false, List, [], ◌∷◌, ◌++◌, length, None, refl, sym, ap, subst, arith}
use Rattle.std.specs.List.{AllByRecursion, filter}
use Rattle.std.specs.Ordering.{nat_cmp, is_lt}
use Rattle.std.proofs.lemmas.Bool.{cond-true}
use Rattle.std.proofs.lemmas.List.{append-nil}
use Rattle.std.proofs.lemmas.List.Elements.{filter-append}
use Rattle.blocks.specs.declared.BlockRef.{BlockRef}
use Rattle.blocks.specs.Blocks.{Blocks, IsIn, Changes, Owned}
use Rattle.listpack.specs.Pack.{texts}
use Rattle.stream_node.specs.declared.id.Id.{Id}
use Rattle.stream_node.specs.Entry.{Stored}
use Rattle.stream_node.specs.Entries.{entries_of}
use Rattle.stream_node.specs.Ids.{IsId, id_number}
use Rattle.stream_node.proofs.Ids.{cmp_less}
use Rattle.rax_packed.specs.declared.tree.PackedTree.{PackedTree}
use Rattle.rax_packed.proofs.Entries.{all_back, all_weaker}
use Rattle.stream_object.specs.declared.stream.Stream.{Stream as Log}
use Rattle.stream_object.specs.Copied.{AreSame}
use Rattle.stream_object.specs.Found.{IsNear, Misses, Comes, Exchanges}
use Rattle.stream_object.specs.Parts.{Part, part, stored_in, live_of, entries_in, IsNodeOf, IsPart, EndsBefore, Rising, parts_of, all_refs}
use Rattle.stream_object.specs.Ranges.{is_ahead}
use Rattle.stream_object.specs.Streams.{nodes, refs, AreUpto, IsStream, stream_of}
use Rattle.stream_object.proofs.Clears.{parts_same, stays, stream_laws_hold, exchanges_then}
use Rattle.stream_object.proofs.Exchanging.{outside}
use Rattle.stream_object.proofs.Grows.{rising_push}
use Rattle.stream_object.proofs.Later.{not_less}
use Rattle.stream_object.proofs.Parts.{parts_are}
use Rattle.stream_object.proofs.Tails.{kept_none}
use Rattle.stream_object.proofs.Walks.{filter_none, filter_all, keys_before, keys_after, up_from, up_behind}

-- the same nodes, and one more
same_push : (ps qs : List Part) (p q : Part) → AreSame ps qs → q.key ≡ p.key → q.bytes ≡ p.bytes → AreSame (ps ++ p ∷ []) (qs ++ q ∷ [])
same_push [] [] p q same key bytes = (key, bytes, tt)
same_push [] (y ∷ qs) p q same key bytes = absurd same
same_push (x ∷ ps) [] p q same key bytes = absurd same
same_push (x ∷ ps) (y ∷ qs) p q same key bytes = (same.0, same.1, same_push ps qs p q same.2 key bytes)

stored_same : (p q : Part) → q.key ≡ p.key → q.bytes ≡ p.bytes → stored_in q ≡ stored_in p
stored_same p q key bytes = λ i. entries_of (key i) (texts (bytes i))

pub same_entries : (ps qs : List Part) → AreSame ps qs → entries_in qs ≡ entries_in ps
same_entries [] [] same = refl
same_entries [] (y ∷ qs) same = absurd same
same_entries (x ∷ ps) [] same = absurd same
same_entries (x ∷ ps) (y ∷ qs) same = λ i. live_of (stored_same x y same.0 same.1 i) ++ same_entries ps qs same.2 i

pub same_upto : (id : Id) (ps qs : List Part) → AreSame ps qs → AreUpto id ps → AreUpto id qs
same_upto id [] [] same upto = tt
same_upto id [] (y ∷ qs) same upto = absurd same
same_upto id (x ∷ ps) [] same upto = absurd same
same_upto id (x ∷ ps) (y ∷ qs) same upto =
    (subst (λ es. AllByRecursion (λ (e : Stored). id_number e.id ≤ id_number id) es) (sym (stored_same x y same.0 same.1)) upto.0, same_upto id ps qs same.2 upto.1)

ends_before : (before after : List Part) (p : Part) → Rising (before ++ p ∷ after) → AllByRecursion (λ q. EndsBefore q p) before
ends_before [] after p r = tt
ends_before (q ∷ before) after p r = ((all_back (EndsBefore q) before (p ∷ after) r.0).0, ends_before before after p r.1)

same_ends : (ps qs : List Part) (p q : Part) → AreSame ps qs → q.key ≡ p.key → AllByRecursion (λ x. EndsBefore x p) ps → AllByRecursion (λ x. EndsBefore x q) qs
same_ends [] [] p q same key ends = tt
same_ends [] (y ∷ qs) p q same key ends = absurd same
same_ends (x ∷ ps) [] p q same key ends = absurd same
same_ends (x ∷ ps) (y ∷ qs) p q same key ends = (
  subst (λ es. AllByRecursion (λ (e : Stored). id_number e.id < id_number q.key) es) (sym (stored_same x y same.0 same.1))
      (subst (λ (k : Id). AllByRecursion (λ (e : Stored). id_number e.id < id_number k) (stored_in x)) (sym key) ends.0),
  same_ends ps qs p q same.2 key ends.1,
)

-- which nodes are behind a walk
abbrev pub is_behind : Id → Part → Bool
is_behind at p = is_lt (nat_cmp (id_number p.key) (id_number at))

behind_yes : (at : Id) (p : Part) → id_number p.key < id_number at → is_behind at p ≡ true
behind_yes at p less = ap is_lt (cmp_less (id_number p.key) (id_number at) less)

behind_no : (at : Id) (p : Part) → id_number at ≤ id_number p.key → is_behind at p ≡ false
behind_no at p upto = not_less (id_number p.key) (id_number at) upto

pub behind_all : (at : Id) (ps : List Part) → AllByRecursion (Misses true at) ps → filter (is_behind at) ps ≡ ps
behind_all at ps miss = filter_all (is_behind at) ps (all_weaker (Misses true at) (λ p. is_behind at p ≡ true) ps (λ p less. behind_yes at p less) miss)

pub behind_none : (at : Id) → at.ms ≡ 0 → at.seq ≡ 0 → (ps : List Part) → filter (is_behind at) ps ≡ []
behind_none at a b ps = filter_none (is_behind at) ps (each ps)
  where
    each : (xs : List Part) → AllByRecursion (λ p. is_behind at p ≡ false) xs
    each [] = tt
    each (p ∷ xs) = (behind_no at p (omega (arith, a, b)), each xs)

module _ (m : Blocks) (s : Log) (is : IsStream m s) (at : Id) (p : Part) (n : IsNear true (nodes m s) at p) where
  all_parts : AllByRecursion (IsPart m) (n.before ++ p ∷ n.after)
  all_parts = subst (AllByRecursion (IsPart m)) n.place is.parts.each

  rising : Rising (n.before ++ p ∷ n.after)
  rising = subst Rising n.place is.parts.rising

  pub behind_here : filter (is_behind at) (nodes m s) ≡ n.before
  behind_here =
      ap (filter (is_behind at)) n.place ∙ filter-append (is_behind at) n.before (p ∷ n.after)
      ∙
      (λ i. behind_all at n.before n.passes i ++ filter_none (is_behind at) (p ∷ n.after) (
        behind_no at p n.reaches,
        all_weaker (λ (q : Part). id_number p.key < id_number q.key) (λ q. is_behind at q ≡ false) n.after
            (λ q more. behind_no at q (omega (arith, more, n.reaches))) (keys_after m n.before n.after p all_parts rising),
      ) i)
      ∙ append-nil n.before

  pub behind_next : (next : Id) → id_number next ≡ id_number p.key + 1 → filter (is_behind next) (nodes m s) ≡ n.before ++ p ∷ []
  behind_next next follows =
      ap (filter (is_behind next)) n.place ∙ filter-append (is_behind next) n.before (p ∷ n.after)
      ∙
      (λ i. filter_all (is_behind next) n.before
      (all_weaker (λ (q : Part). id_number q.key < id_number p.key) (λ q. is_behind next q ≡ true) n.before (λ q less. behind_yes next q (omega (arith, less, follows)))
      (keys_before m n.before n.after p all_parts rising)) i ++ filter (is_behind next) (p ∷ n.after))
      ∙ ap (λ qs. n.before ++ qs) (cond-true (is_behind next p) (p ∷ filter (is_behind next) n.after) (filter (is_behind next) n.after) (behind_yes next p (omega (arith, follows)))
      ∙ ap (λ qs. p ∷ qs)
      (filter_none (is_behind next) n.after
      (all_weaker (λ (q : Part). id_number p.key < id_number q.key) (λ q. is_behind next q ≡ false) n.after (λ q more. behind_no next q (omega (arith, more, follows)))
      (keys_after m n.before n.after p all_parts rising))))

  -- the greatest key is that of the last node
  pub last_place : id_number p.key + 1 ≡ 2 ^ 128 → nodes m s ≡ n.before ++ p ∷ []
  last_place end = n.place ∙ ap (λ qs. n.before ++ p ∷ qs) (empty n.after (all_back (IsPart m) n.before (p ∷ n.after) all_parts).1 (keys_after m n.before n.after p all_parts rising))
    where
      empty : (qs : List Part) → AllByRecursion (IsPart m) qs → AllByRecursion (λ q. id_number p.key < id_number q.key) qs → qs ≡ []
      empty [] each more = refl
      empty (q ∷ qs) each more = absurd (omega (arith, end, more.0, each.0.id.ms, each.0.id.seq))

  pub fewer_ahead : (next : Id) → id_number next ≡ id_number p.key + 1 → length (filter (is_ahead false next) (nodes m s)) < length (filter (is_ahead false at) (nodes m s))
  fewer_ahead next follows =
      omega (
        arith,
        ap length (ap (filter (is_ahead false at)) n.place ∙ up_from m n.before n.after p all_parts rising at n.passes n.reaches),
        ap length (ap (filter (is_ahead false next)) n.place ∙ up_behind m n.before n.after p all_parts rising next follows),
      )

-- a stream stays while nodes are placed beside it
module _ (m mid : Blocks) (s : Log) (is : IsStream m s) (old new : PackedTree) (none : all_refs m old ≡ []) (qs : List Part) (x : Exchanges m mid old new qs) where
  kept : (r : BlockRef) → IsIn r (refs m s) → mid r ≡ m r
  kept = outside m mid (all_refs m old) (all_refs mid new) (refs m s) (subst (λ rs. Owned (rs ++ refs m s) m) (sym none) (stream_laws_hold.owned m s is)) x.changes

  pub still : IsStream mid s
  still = (stays m mid s kept).sound is

  pub nodes_still : nodes mid s ≡ nodes m s
  nodes_still = parts_same m mid s kept

  -- one more is copied
  module _ (at : Id) (p : Part) (n : IsNear true (nodes m s) at p) (same : AreSame (filter (is_behind at) (nodes m s)) qs) (after : Blocks) (now : PackedTree) (key : Id) (bytes : List ℕ)
      (is_key : key ≡ p.key) (is_bytes : bytes ≡ p.bytes) (here : parts_of mid new ≡ qs) (block : BlockRef) (comes : Comes mid after new now key bytes block) where
    before_same : AreSame n.before qs
    before_same = subst (λ ps. AreSame ps qs) (behind_here m s is at p n) same

    mine : IsPart m p
    mine = (all_back (IsPart m) n.before (p ∷ n.after) (all_parts m s is at p n)).0

    is_node : IsNodeOf key bytes
    is_node = subst (λ b. IsNodeOf key b) (sym is_bytes) (subst (λ (k : Id). IsNodeOf k p.bytes) (sym is_key) mine.is_node)

    rises : Rising (qs ++ part key block bytes ∷ [])
    rises = rising_push qs (part key block bytes) x.parts.rising (same_ends n.before qs p (part key block bytes) before_same is_key (ends_before n.before n.after p (rising m s is at p n)))

    placed : Exchanges mid after new now (qs ++ part key block bytes ∷ [])
    placed = subst (λ ps. Exchanges mid after new now (ps ++ part key block bytes ∷ [])) here (comes is_node (subst (λ ps. Rising (ps ++ part key block bytes ∷ [])) (sym here) rises))

    pub made_more : Exchanges m after old now (parts_of after now)
    made_more =
        subst (Exchanges m after old now) (sym (parts_are after now (qs ++ part key block bytes ∷ []) placed.parts))
        (exchanges_then m mid after old new now qs (qs ++ part key block bytes ∷ []) x placed)

    pub same_more : AreSame (n.before ++ p ∷ []) (parts_of after now)
    same_more =
        subst (AreSame (n.before ++ p ∷ [])) (sym (parts_are after now (qs ++ part key block bytes ∷ []) placed.parts))
        (same_push n.before qs p (part key block bytes) before_same is_key is_bytes)

-- the copy as a whole
module _ (m after : Blocks) (s copy : Log) (is : IsStream m s) (old : PackedTree) (none : all_refs m old ≡ []) (x : Exchanges m after old copy.tree (parts_of after copy.tree))
    (same : AreSame (nodes m s) (parts_of after copy.tree)) (len : copy.len ≡ s.len) (last : copy.last ≡ s.last) (tail : copy.tail ≡ None) where
  pub copy_stream : IsStream after copy
  copy_stream = record {
    parts = x.parts;
    counted = len ∙ is.counted ∙ ap length (sym (same_entries (nodes m s) (parts_of after copy.tree) same));
    fits = subst (λ i. IsId i) (sym last) is.fits;
    upto = subst (λ i. AreUpto i (nodes after copy)) (sym last) (same_upto s.last (nodes m s) (nodes after copy) same is.upto);
    kept = kept_none (nodes after copy) copy.tail tail;
  }

  pub copy_value : copy.deleted ≡ s.deleted → copy.added ≡ s.added → copy.groups ≡ s.groups → stream_of after copy ≡ stream_of m s
  copy_value deleted added groups =
      λ i. record { entries = same_entries (nodes m s) (nodes after copy) same i; last = ((last i).ms, (last i).seq); deleted = ((deleted i).ms, (deleted i).seq); added = added i; groups = groups i }

  pub copy_changes : Changes m after [] (refs after copy)
  copy_changes = subst (λ rs. Changes m after rs (refs after copy)) none x.changes

pub nothing_changed : (m after : Blocks) → Changes m after [] [] → after ≡ m
nothing_changed m after c = λ i r. c.kept r refl refl i
