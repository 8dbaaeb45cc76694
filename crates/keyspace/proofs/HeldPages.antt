-- A page of a value lists what it has to of the value's members or fields.
use Rattle.std.proofs.Common.{◌≡◌, ℕ, zero, suc, ◌<◌, ◌≤◌, ◌*◌, ◌-◌, ◌^◌, true, false, Bool, List, [], ◌∷◌, length, map, Option, Some, None, IsSome, Result, Ok, Err, IfOk, is_some}
use Rattle.std.proofs.Common.{slice_get, refl, sym, ap, ◌∙◌, subst, arith}
use Rattle.std.specs.Prelude.{ℤ}
use Rattle.std.specs.List.{flat_map}
use Rattle.std.proofs.lemmas.List.{length-map}
use Rattle.std.specs.FinMap.{get}
use Rattle.blocks.specs.Blocks.{Blocks, bytes_at}
use Rattle.digests.specs.Siphash.{sip}
use Rattle.int_text.specs.Decimal.{canonical}
use Rattle.intset.specs.Intset.{numbers_of}
use Rattle.listpack.specs.Pack.{texts}
use Rattle.object_codec.specs.declared.limits.Limits.{Limits}
use Rattle.rev_cursor.specs.Place.{place}
use Rattle.rev_cursor.specs.Span.{Span}
use Rattle.rev_cursor.proofs.Reversal.{reversed_below}
use Rattle.rev_cursor.proofs.Walks.{end_of_zero}
use Rattle.rehash_dict.specs.Table.{Element, Table, item}
use Rattle.rehash_dict.specs.Keyed.{Keyed, hash_of}
use Rattle.rehash_dict.specs.ScanPlaces.{place_in}
use Rattle.rehash_dict.specs.ScanPlaces as dict
use Rattle.collection_walk.specs.Places.{HavePlaces}
use Rattle.collection_walk.proofs.Lists.{get_below}
use Rattle.pack_pairs.specs.Pairs.{Pair, pairs}
use Rattle.score_list.specs.Sorted.{Key}
use Rattle.score_table.specs.Scored as score_table
use Rattle.set_object.specs.Items as set_items
use Rattle.set_object.specs.Members as set
use Rattle.set_object.specs.Scan as set_scan
use Rattle.set_object.specs.declared.members.Body as set_body
use Rattle.set_object.specs.declared.members.Body.TheVariants as set_bodies
use Rattle.set_object.proofs.Depends.{members_laws_hold}
use Rattle.hash_object.specs.Items as hash_items
use Rattle.hash_object.specs.Fields as hash
use Rattle.hash_object.specs.Scan as hash_scan
use Rattle.hash_object.specs.declared.fields.Body as hash_body
use Rattle.hash_object.specs.declared.fields.Body.TheVariants as hash_bodies
use Rattle.hash_object.proofs.Depends.{fields_laws_hold}
use Rattle.zset_object.specs.Items as zset_items
use Rattle.zset_object.specs.Packed.{keys_in, key_of_pair}
use Rattle.zset_object.specs.Scored as zset
use Rattle.zset_object.specs.Scan as zset_scan
use Rattle.zset_object.specs.declared.scored.Body as zset_body
use Rattle.zset_object.specs.declared.scored.Body.TheVariants as zset_bodies
use Rattle.zset_object.proofs.Depends.{scored_laws_hold}
use Rattle.plain_world.specs.Worlds.{World, Entry, live, look, look_in}
use Rattle.plain_world.specs.Worlds as model
use Rattle.plain_world.specs.declared.refusal.Refusal.TheVariants.{WrongType}
use Rattle.plain_world.specs.declared.reply.Part.{Part}
use Rattle.plain_world.specs.declared.reply.Part.TheVariants.{Bulk, Array, Refused}
use Rattle.plain_model.specs.OfType.{may_tell, may_tell_of}
use Rattle.plain_model.specs.Outcomes.{IsRefusal}
use Rattle.plain_model.specs.Scans.{holds, holds_at, Passes, Page, IsDue, IsHeldPage, place_of, held_sought, listed, listed_with, paged, paged_as}
use Rattle.plain_model.specs.Coverage.{TellsPage}
use Rattle.plain_model.specs.declared.ctx.Ctx.{Ctx}
use Rattle.plain_model.specs.declared.keys.ScanOptions.{ScanOptions}
use Rattle.held.proofs.Timing.{some_same}
use Rattle.keyspace.specs.declared.value.Value.{Value}
use Rattle.keyspace.specs.declared.value.Value.TheVariants as kinds
use Rattle.keyspace.specs.Databases.{Bases}
use Rattle.keyspace.specs.Sound.{Sound}
use Rattle.keyspace.specs.Calls.{Found}
use Rattle.keyspace.specs.Commands.{seen}
use Rattle.keyspace.specs.Values.{value_of, IsSound}
use Rattle.keyspace.specs.Sifted.{Sifted, end, keeps, drops}
use Rattle.keyspace.specs.Pages.{element_at, field_of, member_of, moved, PassesIn, IsPageOf, IsValuePage, nothing, refused, paged as paged_value}
use Rattle.keyspace.proofs.Sifting.{sifted_lists}
use Rattle.keyspace.proofs.Uses.{has_sound}

-- ---- where the elements of a value stand

-- the place of an element that is there
abbrev pub placed : ℕ → Option (List ℕ) → Option ℕ
placed seed None = None
placed seed (Some element) = Some (place_of seed element)

-- these can be the places of a value's elements
abbrev pub can_stand : Value → (ℕ → Option ℕ) → Type 0
can_stand (kinds.Set b) places = set_scan.CanStand b.value.body places
can_stand (kinds.Hash b) places = hash_scan.CanStand b.value.body places
can_stand (kinds.Zset b) places = zset_scan.CanStand b.value.body places
can_stand other places = Unit {0}

hash_is : (seed : ℕ) (key : List ℕ) → hash_of seed key ≡ sip 1 2 seed (2 ^ 64 - 1 - seed) key
unfolding hash_of
hash_is seed key = refl

-- the places of so many elements that are there
have_places : (seed count : ℕ) (element_of : ℕ → Option (List ℕ)) → ((i : ℕ) → IsSome (element_of i) → i < count) → ((i : ℕ) → element_of i ≡ None → count ≤ i)
    → HavePlaces count (λ i. placed seed (element_of i))
have_places seed count element_of below all = record {
  real = λ i at is. real_of i at (element_of i) refl is;
  all = λ i is. all i (gone i (element_of i) refl is);
}
  where
    real_of : (i at : ℕ) (o : Option (List ℕ)) → element_of i ≡ o → placed seed o ≡ Some at → (i < count) × (at < 2 ^ 64)
    real_of i at None same is = cc
    real_of i at (Some element) same is = (
      below i (ap is_some same),
      subst (λ n. n < 2 ^ 64) (some_same (Some (place_of seed element)) _ at refl is) (reversed_below 64 (sip 1 2 seed (2 ^ 64 - 1 - seed) element)),
    )

    gone : (i : ℕ) (o : Option (List ℕ)) → element_of i ≡ o → placed seed o ≡ None → element_of i ≡ None
    gone i None same is = same
    gone i (Some element) same is = cc

-- the place of a dictionary's element is that of its key
module _ {V : Type 0} (m : Blocks) (seed : ℕ) (t : Table V) (keyed : Keyed m t) (seeded : t.seed ≡ seed) (element_of : ℕ → Option (List ℕ))
    (none : (i : ℕ) → item t i ≡ None → element_of i ≡ None) (some : (i : ℕ) (e : Element V) → item t i ≡ Some e → element_of i ≡ Some (bytes_at m e.key)) where
  table_places : dict.CanStand t (λ i. placed seed (element_of i))
  table_places = record { placed = keyed.placed; places = λ i. at_item i (item t i) refl }
    where
      at_item : (i : ℕ) (o : Option (Element V)) → item t i ≡ o → placed seed (element_of i) ≡ place_in o
      at_item i None is = ap (placed seed) (none i is)
      at_item i (Some e) is =
          ap (placed seed) (some i e is)
          ∙ ap (λ h. Some (place h)) (sym (hash_is seed (bytes_at m e.key)) ∙ ap (λ s. hash_of s (bytes_at m e.key)) (sym seeded) ∙ sym (keyed.hashed i e is))

none_past : {X : Type 0} (xs : List X) (i : ℕ) → slice_get xs i ≡ None → length xs ≤ i
none_past [] i is = omega arith
none_past (x ∷ xs) zero is = cc
none_past (x ∷ xs) (suc i) is = omega (arith, none_past xs i is)

-- the elements of a packed form have the numbers below their count
packed_places : (seed count : ℕ) (list : List (List ℕ)) → count ≡ length list → HavePlaces count (λ i. placed seed (slice_get list i))
packed_places seed count list counted = have_places seed count (slice_get list) (λ i some. omega (arith, counted, get_below list i some)) (λ i none. omega (arith, counted, none_past list i none))

-- the same where they stand with more
pair_places : {X : Type 0} (seed count : ℕ) (list : List X) (name_of : Option X → Option (List ℕ)) (name : X → List ℕ) → name_of None ≡ None → ((x : X) → name_of (Some x) ≡ Some (name x))
    → count ≡ length list → HavePlaces count (λ i. placed seed (name_of (slice_get list i)))
pair_places {X = X} seed count list name_of name none_has one_has counted =
    have_places seed count (λ i. name_of (slice_get list i)) (λ i some. omega (arith, counted, get_below list i (there (slice_get list i) some)))
    (λ i none. omega (arith, counted, none_past list i (gone (slice_get list i) none)))
  where
    there : (o : Option X) → IsSome (name_of o) → IsSome o
    there None some = rw none_has at some
    there (Some x) some = refl

    gone : (o : Option X) → name_of o ≡ None → o ≡ None
    gone None none = refl
    gone (Some x) none = (let bad : Some (name x) ≡ None = sym (one_has x) ∙ none in cc)

module _ (m : Blocks) (limits : Limits) (seed : ℕ) where
  set_places : (body : set_body.Body) → set.IsBody m limits seed body → set_scan.CanStand body (λ i. placed seed (set_items.member_in m body i))
  set_places set_bodies.Empty is = have_places seed 0 (λ i. None) (λ i some. cc) (λ i none. omega arith)
  set_places (set_bodies.Numbers p) is = packed_places seed p.len (set.number_texts (bytes_at m p.at)) (is.counted ∙ sym (length-map (numbers_of (bytes_at m p.at)) canonical))
  set_places (set_bodies.Pack p) is = packed_places seed p.len (texts (bytes_at m p.at)) is.counted
  set_places (set_bodies.Table t) is = table_places m seed t is.keyed is.seed_is (λ i. set_items.key_at m (item t i)) (λ i none. ap (set_items.key_at m) none)
      (λ i e some. ap (set_items.key_at m) some)

  hash_places : (body : hash_body.Body) → hash.IsBody m limits seed body → hash_scan.CanStand body (λ i. placed seed (field_of (hash_items.pair_in m body i)))
  hash_places hash_bodies.Empty is = have_places seed 0 (λ i. None) (λ i some. cc) (λ i none. omega arith)
  hash_places (hash_bodies.Pack p) is = pair_places seed p.len (pairs (bytes_at m p.at)) field_of (λ pair. pair.0) refl (λ pair. refl) is.counted
  hash_places (hash_bodies.Table t) is = table_places m seed t is.keyed is.seed_is (λ i. field_of (hash_items.entry_at m (item t i)))
      (λ i none. ap (λ o. field_of (hash_items.entry_at m o)) none) (λ i e some. ap (λ o. field_of (hash_items.entry_at m o)) some)

  zset_places : (body : zset_body.Body) → zset.IsBody m limits seed body → zset_scan.CanStand body (λ i. placed seed (member_of (zset_items.pair_in m body i)))
  zset_places zset_bodies.Empty is = have_places seed 0 (λ i. None) (λ i some. cc) (λ i none. omega arith)
  zset_places (zset_bodies.Pack p) is = pair_places seed p.len (keys_in (bytes_at m p.at)) member_of (λ key. key.1) refl (λ key. refl)
      (is.counted ∙ sym (length-map (pairs (bytes_at m p.at)) key_of_pair))
  zset_places (zset_bodies.Table t) is = table_places m seed t.table is.sound.keyed is.seed_is (λ i. member_of (score_table.pair_of m (item t.table i)))
      (λ i none. ap (λ o. member_of (score_table.pair_of m o)) none) (λ i e some. ap (λ o. member_of (score_table.pair_of m o)) some)

-- ---- the elements of a value

-- Each element has one item number, and a place by which it can stand.
record Standing (m : Blocks) (seed : ℕ) (value : Value) : Type 0 where
  apart : (i j : ℕ) (element : List ℕ) → element_at m value i ≡ Some element → element_at m value j ≡ Some element → i ≡ j
  there : (i : ℕ) (element : List ℕ) → element_at m value i ≡ Some element → holds (value_of m value) element ≡ true
  found : (element : List ℕ) → holds (value_of m value) element ≡ true → (i : ℕ) × (element_at m value i ≡ Some element)
  stand : can_stand value (λ i. placed seed (element_at m value i))

-- the value of a field that is there
pub field_pair : (o : Option Pair) (field : List ℕ) → field_of o ≡ Some field → (v : List ℕ) × (o ≡ Some (field, v))
field_pair None field is = cc
field_pair (Some pair) field is = (pair.1, ap (λ k. Some (k, pair.1)) (some_same (Some pair.0) pair.0 field refl is))

pub member_pair : (o : Option Key) (member : List ℕ) → member_of o ≡ Some member → (score : ℤ) × (o ≡ Some (score, member))
member_pair None member is = cc
member_pair (Some pair) member is = (pair.0, ap (λ k. Some (pair.0, k)) (some_same (Some pair.1) pair.1 member refl is))

some_there : {X : Type 0} (o : Option X) → is_some o ≡ true → (x : X) × (o ≡ Some x)
some_there None is = cc
some_there (Some x) is = (x, refl)

standing : (m : Blocks) (limits : Limits) (seed : ℕ) (value : Value) → IsSound limits seed m value → Standing m seed value
standing m limits seed (kinds.Text text) sound = record { apart = λ i j element h k. cc; there = λ i element h. cc; found = λ element h. cc; stand = tt }
standing m limits seed (kinds.List b) sound = record { apart = λ i j element h k. cc; there = λ i element h. cc; found = λ element h. cc; stand = tt }
standing m limits seed (kinds.Stream b) sound = record { apart = λ i j element h k. cc; there = λ i element h. cc; found = λ element h. cc; stand = tt }
standing m limits seed (kinds.Set b) sound =
    let a = members_laws_hold.arranged m b.value sound.0 in
    record {
      apart = λ i j element h k. a.apart i j element h k;
      there = λ i element h. a.member i element h;
      found = λ element h. a.found element h;
      stand = subst (λ s. set_scan.CanStand b.value.body (λ i. placed s (set_items.member_at m b.value i))) sound.2 (set_places m b.value.limits b.value.seed b.value.body sound.0.body);
    }
standing m limits seed (kinds.Hash b) sound =
    let a = fields_laws_hold.arranged m b.value sound.0 in
    record {
      apart = λ i j element h k.
          (let p = field_pair (hash_items.pair_at m b.value i) element h in let q = field_pair (hash_items.pair_at m b.value j) element k in a.apart i j element p.0 q.0 p.1 q.1);
      there = λ i element h. (let p = field_pair (hash_items.pair_at m b.value i) element h in ap is_some (a.pair i element p.0 p.1));
      found = λ element h. (let v = some_there (get (hash.fields m b.value) element) h in let f = a.found element v.0 v.1 in (f.0, ap field_of f.1));
      stand = subst (λ s. hash_scan.CanStand b.value.body (λ i. placed s (field_of (hash_items.pair_at m b.value i)))) sound.2 (hash_places m b.value.limits b.value.seed b.value.body sound.0.body);
    }
standing m limits seed (kinds.Zset b) sound =
    let a = scored_laws_hold.arranged m b.value sound.0 in
    record {
      apart = λ i j element h k.
          (let p = member_pair (zset_items.pair_at m b.value i) element h in let q = member_pair (zset_items.pair_at m b.value j) element k in a.apart i j p.0 q.0 element p.1 q.1);
      there = λ i element h. (let p = member_pair (zset_items.pair_at m b.value i) element h in ap is_some (a.pair i p.0 element p.1));
      found = λ element h. (let v = some_there (get (zset.scores m b.value) element) h in let f = a.found v.0 element v.1 in (f.0, ap member_of f.1));
      stand = subst (λ s. zset_scan.CanStand b.value.body (λ i. placed s (member_of (zset_items.pair_at m b.value i)))) sound.2 (zset_places m b.value.limits b.value.seed b.value.body sound.0.body);
    }

-- ---- what is told of them

-- words that are elements alone
alone : (elements : List (List ℕ)) → flat_map (λ (element : List ℕ). element ∷ []) elements ≡ elements
alone [] = refl
alone (element ∷ elements) = ap (λ (l : List (List ℕ)). element ∷ l) (alone elements)

pub listed_alone : (next : ℕ) (elements : List (List ℕ)) → paged next (flat_map (λ (element : List ℕ). element ∷ []) elements) ≡ paged_as next (listed elements)
listed_alone next elements = ap (paged next) (alone elements)

-- words that are elements, each followed by one more
module _ (told : List ℕ → Part) (word : List ℕ → List ℕ) (P : ℕ → List ℕ → Type 0) (same : (i : ℕ) (element : List ℕ) → P i element → Bulk (word element) ≡ told element) where
  abbrev both : List ℕ → List (List ℕ)
  both element = element ∷ word element ∷ []

  twice : (elements : List (List ℕ)) → length (flat_map both elements) ≡ 2 * length elements
  twice [] = refl
  twice (element ∷ elements) = omega (arith, twice elements)

  told_both : (items : List ℕ) (elements : List (List ℕ)) → Sifted P items elements → map Bulk (flat_map both elements) ≡ flat_map (λ (element : List ℕ). Bulk element ∷ told element ∷ []) elements
  told_both _ _ end = refl
  told_both _ _ (keeps i element items elements passes rest) =
      ap (λ (t : Part). Bulk element ∷ t ∷ map Bulk (flat_map both elements)) (same i element passes)
      ∙ ap (λ (l : List Part). Bulk element ∷ told element ∷ l) (told_both items elements rest)
  told_both _ _ (drops i items elements none rest) = told_both items elements rest

  pub listed_both : (next : ℕ) (items : List ℕ) (elements : List (List ℕ)) → Sifted P items elements → paged next (flat_map both elements) ≡ paged_as next (listed_with told elements)
  listed_both next items elements s =
      ap (λ n. paged_as next (Array n ∷ map Bulk (flat_map both elements))) (twice elements)
      ∙ ap (λ l. paged_as next (Array (2 * length elements) ∷ l)) (told_both items elements s)

-- ---- the page of a key

-- What a command may answer by a page of the values of its type, and what its reply shows.
module _ {A : Type 0} (in_value : model.Value → Option A) (tells : Option A → List (List ℕ) → List Part) (pairs_told : Bool)
    (telling : (before : Option A) (next : ℕ) (elements : List (List ℕ)) (reply : List Part) → reply ≡ paged_as next (tells before elements) → TellsPage pairs_told next elements reply)
    (bases : Bases) (m : Blocks) (at : Ctx) (key : List ℕ) (cursor : ℕ) (options : ScanOptions) where
  abbrev world : World
  world = seen at bases m

  abbrev pub MayTell : List Part → Type 0
  MayTell reply = may_tell in_value world (look world key) (λ before. IsHeldPage bases.seed world key cursor options (tells before)) reply world

  abbrev pub Tells : List Part → Type 0
  Tells reply = MayTell reply × IsValuePage bases m at key cursor options pairs_told reply

  pub tells_nothing : {E : Type 0} (result : Result (List Part) E) → look world key ≡ None → tells None [] ≡ Array 0 ∷ [] → IfOk result (λ reply. reply ≡ paged 0 []) → IfOk result Tells
  tells_nothing (Err x) none no_word is = tt
  tells_nothing (Ok reply) none no_word is =
      let told : reply ≡ paged_as 0 (tells None []) = is ∙ ap (paged_as 0) (sym no_word) in
      let empty : Page bases.seed world (held_sought at.db key options) cursor 0 [] = record {
        on = subst (λ e. place cursor < e) (sym end_of_zero) (reversed_below 64 cursor);
        fits = omega arith;
        lists = record {
          once = λ element. omega arith;
          real = λ element c. (let below : c.0 < 0 = c.1 in absurd (omega arith));
          whole = λ element due. (let bad : false ≡ true = sym (ap (λ o. holds_at o element) none) ∙ due.passes.there in cc);
        };
      } in (
        subst (λ o. may_tell in_value world o (λ before. IsHeldPage bases.seed world key cursor options (tells before)) reply world) (sym none) ((0, [], empty, told), refl),
        nothing none (telling None 0 [] reply told),
      )

  pub tells_other : {E : Type 0} (result : Result (List Part) E) (entry : Entry) → look world key ≡ Some entry → in_value entry.value ≡ None
      → IfOk result (λ reply. reply ≡ Refused WrongType ∷ []) → IfOk result Tells
  tells_other (Err x) entry stands other is = tt
  tells_other (Ok reply) entry stands other is =
      let R : List Part → Type 0 = IsRefusal in (
        subst (λ o. may_tell in_value world o (λ before. IsHeldPage bases.seed world key cursor options (tells before)) reply world) (sym stands)
            (subst (λ (o : Option A). may_tell_of world o (λ before. IsHeldPage bases.seed world key cursor options (tells before)) reply world) (sym other) (is, refl)),
        refused (subst R (sym is) tt),
      )

  -- those of a value that was found
  module _ (value : Value) (own : A) (is_own : in_value (value_of m value) ≡ Some own) (found : Found bases m at.db key at.moment value) (sound : Sound bases m) (words_of : List ℕ → List (List ℕ))
      (told_all : (next : ℕ) (items : List ℕ) (elements : List (List ℕ)) → Sifted (PassesIn m value options.pattern) items elements
      → paged next (flat_map words_of elements) ≡ paged_as next (tells (Some own) elements)) where
    facts : Standing m bases.seed value
    facts = standing m bases.limits bases.seed value (has_sound bases m at.db key value sound.arranged found.has)

    abbrev P : ℕ → List ℕ → Type 0
    P i element = PassesIn m value options.pattern i element

    holds_is : (element : List ℕ) → holds_at (look world key) element ≡ holds (value_of m value) element
    holds_is element = ap (λ o. holds_at o element) found.stands

    page_listed : (next : ℕ) (items : List ℕ) (elements : List (List ℕ)) → next < 2 ^ 64 → Span (λ i. placed bases.seed (element_at m value i)) cursor next items → Sifted P items elements
        → Page bases.seed world (held_sought at.db key options) cursor next elements
    page_listed next items elements fits span s = record {
      on = span.on;
      fits = fits;
      lists = sifted_lists P (λ i k other p q. some_same (element_at m value i) k other p.stands q.stands) (λ i j k p q. facts.apart i j k p.stands q.stands)
          (Passes world (held_sought at.db key options)) (IsDue bases.seed world (held_sought at.db key options) cursor next) items elements s span.once
          (λ i element p. record { there = holds_is element ∙ facts.there i element p.stands; like = p.like; typed = refl })
          (λ element due.
          (let w = facts.found element (sym (holds_is element) ∙ due.passes.there) in
          let met = span.whole w.0 (place_of bases.seed element) (ap (placed bases.seed) w.1) due.from due.below in
          (w.0, record { stands = w.1; like = due.passes.like }, omega (arith, met))));
    }

    pub tells_page : {E : Type 0} (result : Result (List Part) E) → IfOk result
        (λ reply. IsPageOf (can_stand value) (λ c. (moved value c).0) (λ c. (moved value c).1) (element_at m value) words_of cursor options reply) → IfOk result Tells
    tells_page (Err x) p = tt
    tells_page (Ok reply) p =
        let told : reply ≡ paged_as p.next (tells (Some own) p.elements) = p.is ∙ told_all p.next p.items p.elements p.sifted in
        let page = page_listed p.next p.items p.elements p.fits (p.span (λ i. placed bases.seed (element_at m value i)) facts.stand) p.sifted in (
          subst (λ o. may_tell in_value world o (λ before. IsHeldPage bases.seed world key cursor options (tells before)) reply world) (sym found.stands)
              (subst (λ (o : Option A). may_tell_of world o (λ before. IsHeldPage bases.seed world key cursor options (tells before)) reply world) (sym is_own)
              ((p.next, p.elements, page, told), refl)),
          paged_value value p.items p.next p.elements found p.moves p.sifted (telling (Some own) p.next p.elements reply told),
        )

-- each part of what holds of a reply
pub first_of : {X E : Type 0} (A B : X → Type 0) (result : Result X E) → IfOk result (λ x. A x × B x) → IfOk result A
first_of A B (Ok x) both = both.0
first_of A B (Err e) both = tt

pub second_of : {X E : Type 0} (A B : X → Type 0) (result : Result X E) → IfOk result (λ x. A x × B x) → IfOk result B
second_of A B (Ok x) both = both.1
second_of A B (Err e) both = tt
