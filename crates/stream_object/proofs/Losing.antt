-- An entry among the nodes that goes.
use Rattle.std.proofs.Common.{◌≡◌, ◌≢◌, ◌∙◌, ◌⊎◌, ℕ, suc, ◌+◌, ◌<◌, ◌≤◌, ◌^◌, Bool, true, false, List, [], ◌∷◌, ◌++◌, length, map, Option, Some, None, refl, sym, ap, subst, inl, inr}
use Rattle.std.proofs.Common.{arith, length-append}
use Rattle.std.specs.Prelude.{not, ◌||◌}
use Rattle.std.specs.List.{AllByRecursion, filter, list_any}
use Rattle.std.specs.Ordering.{nat_cmp, ordering_then, is_lt, is_eq}
use Rattle.std.proofs.lemmas.Bool.{cases_lt, cond-true, cond-false}
use Rattle.std.proofs.lemmas.List.{append_assoc}
use Rattle.std.proofs.lemmas.List.Elements.{filter-append}
use Rattle.blocks.specs.declared.BlockRef.{BlockRef}
use Rattle.blocks.specs.Blocks.{Blocks, Changes}
use Rattle.blocks.proofs.Change.{changes_same}
use Rattle.listpack.specs.Pack.{texts}
use Rattle.stream_groups.specs.Groups.{id_cmp}
use Rattle.stream_node.specs.declared.id.Id.{Id}
use Rattle.stream_node.specs.Entry.{Stored, IsBelow}
use Rattle.stream_node.specs.Node.{Begins, IsAfter}
use Rattle.stream_node.specs.Entries.{IsNode, entries_of}
use Rattle.stream_node.specs.Ids.{IsId, id_number}
use Rattle.stream_node.proofs.Ids.{id_laws, parts_cmp, cmp_less, cmp_equal, cmp_greater}
use Rattle.rax_packed.specs.declared.tree.PackedTree.{PackedTree}
use Rattle.rax_packed.proofs.Entries.{all-append, all_front, all_back, all_weaker}
use Rattle.plain_world.specs.Streams.{StreamEntry}
use Rattle.stream_object.specs.declared.stream.Stream.{Stream as Log}
use Rattle.stream_object.specs.Parts.{Part, part, stored_in, plain, is_live, live_of, live_in, entries_in, IsNodeOf, IsPart, EndsBefore, Rising, parts_of, HasParts}
use Rattle.stream_object.specs.Found.{IsNear, Misses, Stands, Becomes, Exchanges}
use Rattle.stream_object.specs.Node.{IsAt, Lacks}
use Rattle.stream_object.specs.Tail.{IsKept}
use Rattle.stream_object.specs.Block.{Holds}
use Rattle.stream_object.specs.Streams.{nodes, entries, AreUpto, IsStream, IsChanged, stream_of, has_id, greater, without, TakesOut}
use Rattle.stream_object.proofs.Parts.{parts_are, its_own, refs_are, rising_back}
use Rattle.stream_object.proofs.Marking.{live_append, live_one_in_marking, live_around, live_marked, node_ids}
use Rattle.stream_object.proofs.Exchanging.{stands_block}
use Rattle.stream_object.proofs.Holdings.{holds_one}
use Rattle.stream_object.proofs.Grows.{rising_again, entries_append}
use Rattle.stream_object.proofs.Tails.{IsLeft, kept_beside}

-- the order of ids as pairs is that of their numbers
pub pair_cmp : (a b : Id) → IsId a → IsId b → id_cmp (a.ms, a.seq) (b.ms, b.seq) ≡ nat_cmp (id_number a) (id_number b)
pair_cmp a b x y = sym (parts_cmp a.ms b.ms a.seq b.seq (2 ^ 64) x.seq y.seq)

-- which of two ids is the greater
pub greater_second : (a b : Id) → IsBelow a b → greater (a.ms, a.seq) (b.ms, b.seq) ≡ (b.ms, b.seq)
greater_second a b (inl less) = cond-true _ _ _ (ap (λ o. is_lt (ordering_then o (nat_cmp a.seq b.seq))) (cmp_less a.ms b.ms less))
greater_second a b (inr same) = cond-true _ _ _ (ap (λ o. is_lt (ordering_then o (nat_cmp a.seq b.seq))) (cmp_equal a.ms b.ms same.0) ∙ ap is_lt (cmp_less a.seq b.seq same.1))

pub greater_first : (a b : Id) → (IsBelow a b → ⊥) → greater (a.ms, a.seq) (b.ms, b.seq) ≡ (a.ms, a.seq)
greater_first a b none = elim (cases_lt a.ms b.ms) [
  | inl less ↦ absurd (none (inl less))
  | inr upto ↦ elim (cases_lt b.ms a.ms) [
    | inl more ↦ cond-false _ _ _ (ap (λ o. is_lt (ordering_then o (nat_cmp a.seq b.seq))) (cmp_greater a.ms b.ms more))
    | inr also ↦ (let same : a.ms ≡ b.ms = omega arith in elim (cases_lt a.seq b.seq) [
      | inl less ↦ absurd (none (inr (same, less)))
      | inr rest ↦ cond-false _ _ _ (ap (λ o. is_lt (ordering_then o (nat_cmp a.seq b.seq))) (cmp_equal a.ms b.ms same) ∙ upto_lt a.seq b.seq rest)
    ])
  ]
]
  where
    upto_lt : (x y : ℕ) → y ≤ x → is_lt (nat_cmp x y) ≡ false
    upto_lt x y h = elim (cases_lt y x) [ inl more ↦ ap is_lt (cmp_greater x y more) | inr also ↦ ap is_lt (cmp_equal x y (omega arith)) ]

-- entries of a node by rising ids
abbrev pub Sorted : List Stored → Type 0
Sorted [] = Unit {0}
Sorted (e ∷ es) = AllByRecursion (λ f. id_number e.id < id_number f.id) es × Sorted es

abbrev Fits : Option Id → Type 0
Fits None = Unit {0}
Fits (Some id) = IsId id

abbrev Above : Option Id → List Stored → Type 0
Above None es = Unit {0}
Above (Some id) es = AllByRecursion (λ f. id_number id < id_number f.id) es

above_more : (before : Option Id) (e : Stored) (es : List Stored) → Fits before → IsId e.id → IsAfter before e.id → AllByRecursion (λ f. id_number e.id < id_number f.id) es → Above before (e ∷ es)
above_more None e es fits id after all = tt
above_more (Some b) e es fits id after all =
    let less : id_number b < id_number e.id = (id_laws.below b e.id fits id).0 after in
    (less, all_weaker (λ (f : Stored). id_number e.id < id_number f.id) (λ f. id_number b < id_number f.id) es (λ f more. omega (arith, less)) all)

begins_sorted : (key : Id) (master list : List (List ℕ)) (before : Option Id) (es : List Stored) (rest : List (List ℕ)) → Begins key master before list es rest → Fits before
    → AllByRecursion (λ e. IsId e.id) es → Sorted es × Above before es
unfolding Begins
begins_sorted key master list None [] rest b fits ids = (tt, tt)
begins_sorted key master list (Some x) [] rest b fits ids = (tt, tt)
begins_sorted key master list before (e ∷ es) rest b fits ids =
    let more = begins_sorted key master b.0 (Some e.id) es rest b.3 ids.0 ids.1 in
    ((more.1, more.0), above_more before e es fits ids.0 b.2 more.1)

pub node_sorted : (key : Id) (list : List (List ℕ)) → IsNode key list → Sorted (entries_of key list)
node_sorted key list n = (begins_sorted key n.master n.behind None (entries_of key list) [] n.all_entries tt (node_ids key list n)).0

pub sorted_split : (xs ys : List Stored) (e : Stored) → Sorted (xs ++ e ∷ ys) → AllByRecursion (λ x. id_number x.id < id_number e.id) xs × AllByRecursion (λ y. id_number e.id < id_number y.id) ys
sorted_split [] ys e s = (tt, s.0)
sorted_split (x ∷ xs) ys e s =
    let more = sorted_split xs ys e s.1 in
    (((all_back (λ f. id_number x.id < id_number f.id) xs (e ∷ ys) s.0).0, more.0), more.1)

-- other ids
module _ (id : Id) (fits : IsId id) where
  abbrev test : StreamEntry → Bool
  test e = has_id (id.ms, id.seq) e

  other_below : (e : Stored) → IsId e.id → id_number e.id < id_number id → test (plain e) ≡ false
  other_below e x less = ap is_eq (pair_cmp e.id id x fits ∙ cmp_less (id_number e.id) (id_number id) less)

  other_above : (e : Stored) → IsId e.id → id_number id < id_number e.id → test (plain e) ≡ false
  other_above e x more = ap is_eq (pair_cmp e.id id x fits ∙ cmp_greater (id_number e.id) (id_number id) more)

  same_id : (e : Stored) → IsId e.id → e.id ≡ id → test (plain e) ≡ true
  same_id e x same = ap is_eq (pair_cmp e.id id x fits ∙ cmp_equal (id_number e.id) (id_number id) (ap id_number same))

  other_id : (e : Stored) → IsId e.id → e.id ≢ id → test (plain e) ≡ false
  other_id e x other = elim (cases_apart (id_number e.id) (id_number id)) [
    | inl less ↦ other_below e x less
    | inr more ↦ elim more [ inl above ↦ other_above e x above | inr same ↦ absurd (other (id_laws.one e.id id x fits same)) ]
  ]
    where
      cases_apart : (a b : ℕ) → (a < b) ⊎ ((b < a) ⊎ (a ≡ b))
      cases_apart a b = elim (cases_lt a b) [ inl less ↦ inl less | inr upto ↦ elim (cases_lt b a) [ inl more ↦ inr (inl more) | inr also ↦ inr (inr (omega arith)) ] ]

  -- entries none of which has the id
  abbrev pub AreOther : List StreamEntry → Type 0
  AreOther es = AllByRecursion (λ e. test e ≡ false) es

  live_other : (es : List Stored) → AllByRecursion (λ e. e.deleted ≡ false → test (plain e) ≡ false) es → AreOther (live_of es)
  live_other [] h = tt
  live_other (e ∷ es) h = by_mark (live_other es h.1) e.deleted refl
    where
      by_mark : AreOther (live_of es) → (b : Bool) → e.deleted ≡ b → AreOther (live_of (e ∷ es))
      by_mark rest true is = subst AreOther (sym (ap (map plain) (cond-false _ (e ∷ filter is_live es) (filter is_live es) (ap not is)))) rest
      by_mark rest false is = subst AreOther (sym (ap (map plain) (cond-true _ (e ∷ filter is_live es) (filter is_live es) (ap not is)))) (h.0 is, rest)

  pub kept_all : (es : List StreamEntry) → AreOther es → filter (λ e. not (test e)) es ≡ es
  kept_all [] h = refl
  kept_all (e ∷ es) h = cond-true _ _ _ (ap not h.0) ∙ ap (λ xs. e ∷ xs) (kept_all es h.1)

  pub any_none : (es : List StreamEntry) → AreOther es → list_any test es ≡ false
  any_none [] h = refl
  any_none (e ∷ es) h = ap (λ b. b || list_any test es) h.0 ∙ any_none es h.1

  any_there : (xs ys : List StreamEntry) (e : StreamEntry) → AreOther xs → test e ≡ true → list_any test (xs ++ e ∷ ys) ≡ true
  any_there [] ys e h is = ap (λ b. b || list_any test ys) is
  any_there (x ∷ xs) ys e h is = ap (λ b. b || list_any test (xs ++ e ∷ ys)) h.0 ∙ any_there xs ys e h.1 is

  lower_other : (es : List Stored) → AllByRecursion (λ e. IsId e.id) es → AllByRecursion (λ e. id_number e.id < id_number id) es → AreOther (live_of es)
  lower_other es ids less = live_other es (both es ids less)
    where
      both : (xs : List Stored) → AllByRecursion (λ e. IsId e.id) xs → AllByRecursion (λ e. id_number e.id < id_number id) xs → AllByRecursion (λ e. e.deleted ≡ false → test (plain e) ≡ false) xs
      both [] a b = tt
      both (x ∷ xs) a b = (λ _. other_below x a.0 b.0, both xs a.1 b.1)

  higher_other : (es : List Stored) → AllByRecursion (λ e. IsId e.id) es → AllByRecursion (λ e. id_number id < id_number e.id) es → AreOther (live_of es)
  higher_other es ids more = live_other es (both es ids more)
    where
      both : (xs : List Stored) → AllByRecursion (λ e. IsId e.id) xs → AllByRecursion (λ e. id_number id < id_number e.id) xs → AllByRecursion (λ e. e.deleted ≡ false → test (plain e) ≡ false) xs
      both [] a b = tt
      both (x ∷ xs) a b = (λ _. other_above x a.0 b.0, both xs a.1 b.1)

  lacking_other : (es : List Stored) → AllByRecursion (λ e. IsId e.id) es → Lacks id es → AreOther (live_of es)
  lacking_other es ids none = live_other es (both es ids none)
    where
      both : (xs : List Stored) → AllByRecursion (λ e. IsId e.id) xs → Lacks id xs → AllByRecursion (λ e. e.deleted ≡ false → test (plain e) ≡ false) xs
      both [] a b = tt
      both (x ∷ xs) a b = (λ live. other_id x a.0 (b.0 live), both xs a.1 b.1)

  part_ids : (m : Blocks) (p : Part) → IsPart m p → AllByRecursion (λ e. IsId e.id) (stored_in p)
  part_ids m p is = node_ids p.key (texts p.bytes) is.is_node.node

  -- nodes before and behind
  parts_lower : (m : Blocks) (ps after : List Part) (p : Part) → AllByRecursion (IsPart m) ps → Rising (ps ++ p ∷ after) → id_number p.key ≤ id_number id → AreOther (entries_in ps)
  parts_lower m [] after p each r upto = tt
  parts_lower m (q ∷ ps) after p each r upto =
      let ends = (all_back (EndsBefore q) ps (p ∷ after) r.0).0 in
      all-append (λ e. test e ≡ false) (live_in q) (entries_in ps)
      (lower_other (stored_in q) (part_ids m q each.0)
      (all_weaker (λ (e : Stored). id_number e.id < id_number p.key) (λ e. id_number e.id < id_number id) (stored_in q) (λ e less. omega (arith, upto)) ends))
      (parts_lower m ps after p each.1 r.1 upto)

  parts_higher : (m : Blocks) (ps : List Part) → AllByRecursion (IsPart m) ps → AllByRecursion (Misses false id) ps → AreOther (entries_in ps)
  parts_higher m [] each more = tt
  parts_higher m (q ∷ ps) each more =
      all-append (λ e. test e ≡ false) (live_in q) (entries_in ps)
      (higher_other (stored_in q) (part_ids m q each.0)
      (all_weaker (λ (e : Stored). id_number q.key ≤ id_number e.id) (λ e. id_number id < id_number e.id) (stored_in q) (λ e upto. omega (arith, more.0)) each.0.is_node.from))
      (parts_higher m ps each.1 more.1)

  -- the nodes around the one in which the id may stand
  module _ (m : Blocks) (ps : List Part) (p : Part) (each : AllByRecursion (IsPart m) ps) (rising : Rising ps) (n : IsNear false ps id p) where
    around : AllByRecursion (IsPart m) (n.before ++ p ∷ n.after)
    around = subst (AllByRecursion (IsPart m)) n.place each

    front_other : AreOther (entries_in n.before)
    front_other = parts_lower m n.before n.after p (all_front (IsPart m) n.before (p ∷ n.after) around) (subst Rising n.place rising) n.reaches

    back_parts : IsPart m p × AllByRecursion (IsPart m) n.after
    back_parts = all_back (IsPart m) n.before (p ∷ n.after) around

    back_other : AreOther (entries_in n.after)
    back_other = parts_higher m n.after back_parts.1 n.passes

    split : entries_in ps ≡ entries_in n.before ++ (live_in p ++ entries_in n.after)
    split = ap entries_in n.place ∙ entries_append n.before (p ∷ n.after)

    pub missing_here : Lacks id (stored_in p) → list_any test (entries_in ps) ≡ false
    missing_here none =
        ap (list_any test) split
        ∙ any_none (entries_in n.before ++ (live_in p ++ entries_in n.after)) (all-append (λ e. test e ≡ false) (entries_in n.before) (live_in p ++ entries_in n.after) front_other
        (all-append (λ e. test e ≡ false) (live_in p) (entries_in n.after) (lacking_other (stored_in p) (part_ids m p back_parts.0) none) back_other))

    module _ (index : ℕ) (e : Stored) (a : IsAt (stored_in p) index e) (same : e.id ≡ id) where
      sides : AllByRecursion (λ x. id_number x.id < id_number e.id) a.before × AllByRecursion (λ x. id_number e.id < id_number x.id) a.after
      sides = sorted_split a.before a.after e (subst Sorted a.place (node_sorted p.key (texts p.bytes) back_parts.0.is_node.node))

      ids : AllByRecursion (λ x. IsId x.id) (a.before ++ e ∷ a.after)
      ids = subst (AllByRecursion (λ x. IsId x.id)) a.place (part_ids m p back_parts.0)

      lower : AreOther (live_of a.before)
      lower = lower_other a.before (all_front (λ x. IsId x.id) a.before (e ∷ a.after) ids) (subst (λ (i : Id). AllByRecursion (λ x. id_number x.id < id_number i) a.before) same sides.0)

      mine : IsId e.id × AllByRecursion (λ x. IsId x.id) a.after
      mine = all_back (λ x. IsId x.id) a.before (e ∷ a.after) ids

      higher : AreOther (live_of a.after)
      higher = higher_other a.after mine.1 (subst (λ (i : Id). AllByRecursion (λ x. id_number i < id_number x.id) a.after) same sides.1)

      here : live_in p ≡ live_of a.before ++ (plain e ∷ live_of a.after)
      here = ap live_of a.place ∙ live_append a.before (e ∷ a.after)
          ∙ ap (λ xs. live_of a.before ++ xs) (live_append (e ∷ []) a.after ∙ ap (λ xs. xs ++ live_of a.after) (live_one_in_marking e a.live))

      pub found_here : list_any test (entries_in ps) ≡ true
      found_here =
          ap (list_any test) (split ∙ ap (λ xs. entries_in n.before ++ (xs ++ entries_in n.after)) here
          ∙ ap (λ xs. entries_in n.before ++ xs) (append_assoc (live_of a.before) (plain e ∷ live_of a.after) (entries_in n.after))
          ∙ sym (append_assoc (entries_in n.before) (live_of a.before) (plain e ∷ (live_of a.after ++ entries_in n.after))))
          ∙ any_there (entries_in n.before ++ live_of a.before) (live_of a.after ++ entries_in n.after) (plain e)
          (all-append (λ x. test x ≡ false) (entries_in n.before) (live_of a.before) front_other lower) (same_id e mine.0 same)

      abbrev keep : List StreamEntry → List StreamEntry
      keep es = filter (λ x. not (test x)) es

      pub left_here : keep (entries_in ps) ≡ entries_in n.before ++ (live_of (a.before ++ a.after) ++ entries_in n.after)
      left_here =
          ap keep split ∙ filter-append (λ x. not (test x)) (entries_in n.before) (live_in p ++ entries_in n.after)
          ∙ (λ i. kept_all (entries_in n.before) front_other i ++ filter-append (λ x. not (test x)) (live_in p) (entries_in n.after) i)
          ∙ (λ i. entries_in n.before ++ (one i ++ kept_all (entries_in n.after) back_other i))
        where
          one : keep (live_in p) ≡ live_of (a.before ++ a.after)
          one =
              ap keep here ∙ filter-append (λ x. not (test x)) (live_of a.before) (plain e ∷ live_of a.after)
              ∙ (λ i. kept_all (live_of a.before) lower i ++ cond-false _ (plain e ∷ keep (live_of a.after)) (keep (live_of a.after)) (ap not (same_id e mine.0 same)) i)
              ∙ ap (λ xs. live_of a.before ++ xs) (kept_all (live_of a.after) higher) ∙ sym (live_append a.before a.after)

-- what is left of the nodes when one entry has gone
no_length : {X : Type 0} (xs : List X) → length xs ≡ 0 → xs ≡ []
no_length [] h = refl
no_length (x ∷ xs) h = absurd (omega arith)

module _ (m after : Blocks) (old new : PackedTree) (key : Id) (at : BlockRef) (s : Stands (parts_of m old) key at) (index : ℕ) (e : Stored) (a : IsAt (entries_of key (texts s.bytes)) index e) where
  p : Part
  p = part key at s.bytes

  -- the last entry of its node goes with the node
  pub goes_whole : length (live_of (entries_of key (texts s.bytes))) ≡ 1 → Exchanges m after old new (s.before ++ s.after) → TakesOut m after old new s.before s.after (live_of (a.before ++ a.after))
  goes_whole one ex =
      let more : length (live_of (entries_of key (texts s.bytes))) ≡ suc (length (live_of (a.before ++ a.after))) = ap (λ es. length (live_of es)) a.place ∙ live_around a.before a.after e a.live in
      let none : live_of (a.before ++ a.after) ≡ [] = no_length (live_of (a.before ++ a.after)) (omega (arith, more, one)) in
      record {
        parts = s.before ++ s.after;
        exchanges = ex;
        entries_are = entries_append s.before s.after ∙ ap (λ xs. entries_in s.before ++ (xs ++ entries_in s.after)) (sym none);
        upto = λ id all. (let split = subst (AreUpto id) s.place all in
            let U : Part → Type 0 = λ x. AllByRecursion (λ f. id_number f.id ≤ id_number id) (stored_in x) in
            all-append U s.before s.after (all_front U s.before (part key at s.bytes ∷ s.after) split) (all_back U s.before (part key at s.bytes ∷ s.after) split).1);
        front = s.before;
        stays = refl;
      }

  -- the node stays with an entry marked
  pub stays_marked : (bytes : List ℕ) (new_at : BlockRef) → HasParts m old (parts_of m old) → IsNodeOf key bytes → entries_of key (texts bytes) ≡ a.before
      ++ record { id = e.id; deleted = true; pairs = e.pairs } ∷ a.after → Becomes m after old new key at bytes new_at
      → TakesOut m after old new s.before s.after (live_of (a.before ++ a.after))
  stays_marked bytes new_at h is_node now becomes =
      let gone : Stored = record { id = e.id; deleted = true; pairs = e.pairs } in
      let was = part key at s.bytes in
      let rising = subst Rising s.place h.rising in
      let rest = (rising_back s.before (was ∷ s.after) rising).0 in
      let q = part key new_at bytes in
      let next = becomes s is_node (rising_again s.before s.after was q refl (ends_too s.after q now rest) rising) in
      record {
        parts = s.before ++ q ∷ s.after;
        exchanges = next;
        entries_are = entries_append s.before (q ∷ s.after) ∙ ap (λ xs. entries_in s.before ++ (xs ++ entries_in s.after)) (ap live_of now ∙ live_marked a.before a.after e);
        upto = λ id all. (let split = subst (AreUpto id) s.place all in
            let U : Part → Type 0 = λ x. AllByRecursion (λ f. id_number f.id ≤ id_number id) (stored_in x) in
            let back = all_back U s.before (was ∷ s.after) split in
            all-append U s.before (q ∷ s.after) (all_front U s.before (was ∷ s.after) split) (same_ids (λ i. id_number i ≤ id_number id) (entries_of key (texts bytes)) now back.0, back.1));
        front = s.before ++ q ∷ [];
        stays = sym (append_assoc s.before (q ∷ []) s.after);
      }
    where
      same_ids : (P : Id → Type 0) (es : List Stored) → es ≡ a.before ++ record { id = e.id; deleted = true; pairs = e.pairs } ∷ a.after
          → AllByRecursion (λ f. P f.id) (entries_of key (texts s.bytes)) → AllByRecursion (λ f. P f.id) es
      same_ids P es is all =
          let split = subst (AllByRecursion (λ (f : Stored). P f.id)) a.place all in
          let front = all_front (λ (f : Stored). P f.id) a.before (e ∷ a.after) split in
          let back = all_back (λ (f : Stored). P f.id) a.before (e ∷ a.after) split in
          subst (AllByRecursion (λ (f : Stored). P f.id)) (sym is)
          (all-append (λ (f : Stored). P f.id) a.before (record { id = e.id; deleted = true; pairs = e.pairs } ∷ a.after) front (back.0, back.1))

      ends_too : (qs : List Part) (q : Part) → stored_in q ≡ a.before ++ record { id = e.id; deleted = true; pairs = e.pairs } ∷ a.after
          → AllByRecursion (EndsBefore (part key at s.bytes)) qs → AllByRecursion (EndsBefore q) qs
      ends_too [] q is all = tt
      ends_too (x ∷ qs) q is all = (same_ids (λ i. id_number i < id_number x.key) (stored_in q) is all.0, ends_too qs q is all.1)

-- the bytes of a node that stands
pub stands_bytes : (m : Blocks) (tree : PackedTree) (key : Id) (at : BlockRef) (s : Stands (parts_of m tree) key at) → HasParts m tree (parts_of m tree) → (bytes : List ℕ)
    → Holds m at bytes → bytes ≡ s.bytes
stands_bytes m tree key at s h bytes is = holds_one m at bytes s.bytes is (stands_block m tree (parts_of m tree) key at h s)

-- there is an entry
pub some_there : (m : Blocks) (s : Log) (id : Id) (fits : IsId id) (is : IsStream m s) (p : Part) (n : IsNear false (nodes m s) id p) (index : ℕ) (e : Stored) → IsAt (stored_in p) index e
    → 0 < length (entries m s)
some_there m s id fits is p n index e a =
    omega (
      arith,
      ap (λ es. length (live_of es)) a.place ∙ live_around a.before a.after e a.live,
      ap length (ap entries_in n.place ∙ entries_append n.before (p ∷ n.after)),
      length-append (entries_in n.before) (live_in p ++ entries_in n.after),
      length-append (live_in p) (entries_in n.after),
    )

-- the stream without an entry
module _ (m after : Blocks) (old new : Log) (id : Id) (fits : IsId id) (is : IsStream m old) (p : Part) (n : IsNear false (nodes m old) id p) (index : ℕ) (e : Stored)
    (a : IsAt (stored_in p) index e) (same : e.id ≡ id) (t : TakesOut m after old.tree new.tree n.before n.after (live_of (a.before ++ a.after))) where
  now : nodes after new ≡ t.parts
  now = parts_are after new.tree t.parts t.exchanges.parts

  left : entries after new ≡ filter (λ x. not (has_id (id.ms, id.seq) x)) (entries m old)
  left = ap entries_in now ∙ t.entries_are ∙ sym (left_here id fits m (nodes m old) p is.parts.each is.parts.rising n index e a same)

  pub one_fewer : length (entries m old) ≡ suc (length (entries after new))
  one_fewer =
      let more = ap (λ es. length (live_of es)) a.place ∙ live_around a.before a.after e a.live in
      omega (
        arith,
        more,
        ap length (ap entries_in now ∙ t.entries_are),
        ap length (ap entries_in n.place ∙ entries_append n.before (p ∷ n.after)),
        length-append (entries_in n.before) (live_of (a.before ++ a.after) ++ entries_in n.after),
        length-append (live_of (a.before ++ a.after)) (entries_in n.after),
        length-append (entries_in n.before) (live_in p ++ entries_in n.after),
        length-append (live_in p) (entries_in n.after),
      )

  pub lost : new.len + 1 ≡ old.len → new.last ≡ old.last → (new.deleted.ms, new.deleted.seq) ≡ greater (old.deleted.ms, old.deleted.seq) (id.ms, id.seq) → new.added ≡ old.added
      → new.groups ≡ old.groups → IsLeft old.tail new.tail p.key → IsChanged m after old new (without (stream_of m old) id)
  lost len last deleted added groups tail = record {
    is_stream = record {
      parts = its_own after new.tree t.parts t.exchanges.parts;
      counted = omega (arith, len, is.counted, one_fewer);
      fits = subst IsId (sym last) is.fits;
      upto = subst (λ ps. AreUpto new.last ps) (sym now) (subst (λ i. AreUpto i t.parts) (sym last) (t.upto old.last is.upto));
      kept = subst (λ ps. IsKept ps new.tail) (sym now) (kept_beside (nodes m old) t.parts n.before t.front n.after p p.key old.tail new.tail refl n.place t.stays is.kept tail);
    };
    value_is = (λ i. record { entries = left i; last = ((last i).ms, (last i).seq); deleted = deleted i; added = added i; groups = groups i })
        ∙ sym (cond-true _ _ _ (found_here id fits m (nodes m old) p is.parts.each is.parts.rising n index e a same));
    changes = t.exchanges.changes;
  }

-- nothing has gone
pub unchanged : (m : Blocks) (s : Log) (id : Id) → IsStream m s → list_any (has_id (id.ms, id.seq)) (entries m s) ≡ false → IsChanged m m s s (without (stream_of m s) id)
unchanged m s id is none = record {
  is_stream = is;
  value_is = sym (cond-false _ _ _ none);
  changes = subst (λ rs. Changes m m rs rs) (sym (refs_are m s.tree (nodes m s) is.parts)) (changes_same m _ is.parts.owned);
}

pub nowhere : (m : Blocks) (id : Id) (fits : IsId id) (ps : List Part) → AllByRecursion (IsPart m) ps → AllByRecursion (Misses false id) ps → list_any (has_id (id.ms, id.seq)) (entries_in ps) ≡ false
nowhere m id fits ps each miss = any_none id fits (entries_in ps) (parts_higher id fits m ps each miss)
