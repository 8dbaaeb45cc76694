-- A hash whose blocks move means what it meant.
use Rattle.std.proofs.Common.{◌≡◌, ◌≢◌, ◌⊎◌, ℕ, zero, suc, ◌+◌, ◌*◌, ◌<◌, ◌≤◌, false, [], ◌∷◌, Option, Some, None, is_some, unwrap_or, flat_map, refl, sym, ap, ◌∙◌, subst, arith, inl, inr}
use Rattle.std.proofs.lemmas.Bool.{cases_eq}
use Rattle.blocks.specs.declared.BlockRef.{BlockRef}
use Rattle.blocks.specs.Blocks.{Blocks, times, IsOut, IsIn, bytes_at, Changes, Owned}
use Rattle.blocks.specs.Slabs.{Heap, wants, Calmer}
use Rattle.blocks.proofs.Refs.{cases_ref}
use Rattle.blocks.proofs.Times.{times-append}
use Rattle.blocks.proofs.Change.{one_if, Counts, live_once, changes_same, changes_then, changes_counted, counts_changed, owned_others}
use Rattle.object_codec.specs.declared.limits.Limits.{Limits}
use Rattle.rehash_dict.specs.Table.{Element, at_item, item, Updates}
use Rattle.rehash_dict.specs.Keyed.{Keyed, key_tables}
use Rattle.rehash_dict.specs.Steps.{Holds, Renames, Swaps}
use Rattle.rehash_dict.proofs.Keys.{keyed_frame}
use Rattle.rehash_dict.proofs.MapOf.{map_of_same, refs_changed}
use Rattle.hash_object.specs.declared.fields.Packed.{Packed}
use Rattle.hash_object.specs.declared.fields.Body.TheVariants.{Pack}
use Rattle.hash_object.specs.Hashed.{FieldTable, fields_in, blocks_of}
use Rattle.hash_object.specs.Fields.{IsBody, IsFieldPack, fields_of}
use Rattle.hash_object.specs.Relocation.{IsRelocatedTable, IsCalm, block_in}
use Rattle.hash_object.proofs.Tables.{value_block, has_key, has_value, names}
use Rattle.collection_walk.proofs.Named.{self, entry_within}
use Rattle.hash_object.proofs.Listed.{Slots}
use Rattle.hash_object.proofs.Marks.{key_slot, value_slot, even_is, odd_is, halves}

-- where no block moves, a dictionary means what it meant, and the blocks of all marks stay
pub settled_same : (m : Blocks) (t : FieldTable) (stays : ℕ → Type 0) → Keyed m t → Owned (blocks_of t) m → IsRelocatedTable m m t t stays
settled_same m t stays k owned = record {
  keyed = k;
  fields_are = refl;
  tables_are = refl;
  changes = changes_same m (blocks_of t) owned;
  seed = refl;
  top = refl;
  same_items = λ at. refl;
  others = λ at h. refl;
}

-- the blocks of two elements are apart
two_within : (items : Slots) (i j : ℕ) (e f : Element BlockRef) (r : BlockRef) → i ≢ j → at_item items i ≡ Some e → at_item items j ≡ Some f
    → times r (e.key ∷ e.value ∷ []) + times r (f.key ∷ f.value ∷ []) ≤ times r (flat_map names items)
two_within [] i j e f r apart he hf = cc
two_within (x ∷ items) zero zero e f r apart he hf = absurd (apart refl)
two_within (x ∷ items) zero (suc j) e f r apart he hf =
    let here : times r (names x) ≡ times r (e.key ∷ e.value ∷ []) = ap (λ o. times r (names o)) he in
    omega (arith, here, one_within items j f r hf, times-append r (names x) (flat_map names items))
  where
    one_within : (items : Slots) (j : ℕ) (f : Element BlockRef) (r : BlockRef) → at_item items j ≡ Some f → times r (f.key ∷ f.value ∷ []) ≤ times r (flat_map names items)
    one_within [] j f r h = cc
    one_within (y ∷ items) zero f r h =
        (let here : times r (names y) ≡ times r (f.key ∷ f.value ∷ []) = ap (λ o. times r (names o)) h in omega (arith, here, times-append r (names y) (flat_map names items)))
    one_within (y ∷ items) (suc j) f r h = omega (arith, one_within items j f r h, times-append r (names y) (flat_map names items))
two_within (x ∷ items) (suc i) zero e f r apart he hf =
    let here : times r (names x) ≡ times r (f.key ∷ f.value ∷ []) = ap (λ o. times r (names o)) hf in
    omega (arith, here, one_within items i e r he, times-append r (names x) (flat_map names items))
  where
    one_within : (items : Slots) (j : ℕ) (f : Element BlockRef) (r : BlockRef) → at_item items j ≡ Some f → times r (f.key ∷ f.value ∷ []) ≤ times r (flat_map names items)
    one_within [] j f r h = cc
    one_within (y ∷ items) zero f r h =
        (let here : times r (names y) ≡ times r (f.key ∷ f.value ∷ []) = ap (λ o. times r (names o)) h in omega (arith, here, times-append r (names y) (flat_map names items)))
    one_within (y ∷ items) (suc j) f r h = omega (arith, one_within items j f r h, times-append r (names y) (flat_map names items))
two_within (x ∷ items) (suc i) (suc j) e f r apart he hf = omega (arith, two_within items i j e f r (λ same. apart (ap suc same)) he hf, times-append r (names x) (flat_map names items))

-- ---- the block of a field or of its value was named anew

-- two references of which neither is the other's are apart
apart_from : (r was : BlockRef) → times was (r ∷ []) ≡ 0 → IsOut r (was ∷ [])
apart_from r was none = elim (cases_ref was r) [
  | inl same ↦ absurd (omega (arith, none, ap (λ q. times q (r ∷ [])) same, self r))
  | inr other ↦ omega (arith, ap one_if other)
]

module _ (m n : Blocks) (old new : FieldTable) (at : ℕ) (e g : Element BlockRef) (was ref : BlockRef) (k : Keyed m old) (owned : Owned (blocks_of old) m) (found : item old at ≡ Some e)
    (mine : 0 < times was (e.key ∷ e.value ∷ [])) (p : Changes m n (was ∷ []) (ref ∷ [])) where
  -- the block that moved stands at most once among the dictionary's blocks
  was_once : times was (blocks_of old) ≤ 1
  was_once = omega (arith, owned was, live_once m was)

  -- the block that moved is one of the dictionary's
  was_within : (q : BlockRef) → times q (was ∷ []) ≤ times q (blocks_of old)
  was_within q = elim (cases_ref was q) [
    | inl same ↦ omega (
      arith,
      ap (λ r. times r (was ∷ [])) same,
      ap (λ r. times r (e.key ∷ e.value ∷ [])) same,
      ap (λ r. times r (blocks_of old)) same,
      self was,
      mine,
      entry_within value_block old at e
          found was,
    )
    | inr other ↦ omega (arith, ap one_if other)
  ]

  -- the dictionary's blocks other than the one that moved keep their bytes
  kept : (r : BlockRef) → IsIn r (blocks_of old) → times was (r ∷ []) ≡ 0 → n r ≡ m r
  kept r isin none = owned_others m n (was ∷ []) (ref ∷ []) (blocks_of old) owned p r isin (apart_from r was none)

  -- the blocks of the elements at other item numbers keep their bytes
  pub others_kept : (i : ℕ) (f : Element BlockRef) → i ≢ at → item old i ≡ Some f → (n f.key ≡ m f.key) × (n f.value ≡ m f.value)
  others_kept i f apart there =
      let both = two_within old.items i at f e was apart there found in
      (kept f.key (has_key old i f there) (omega (arith, both, mine, was_once)), kept f.value (has_value old i f there) (omega (arith, both, mine, was_once)))

  module _ (u : Updates old.items new.items at (Some g)) (l : Keyed n new) (tables : key_tables n new ≡ key_tables m old) (seed : new.seed ≡ old.seed) (top : new.top ≡ old.top)
      (key_is : n g.key ≡ m e.key) (value_is : n g.value ≡ m e.value)
      (balance : (q : BlockRef) → times q (g.key ∷ g.value ∷ []) + times q (was ∷ []) ≡ times q (e.key ∷ e.value ∷ []) + times q (ref ∷ [])) where
    -- two answers of one option are the same
    is_one : (o : Option (Element BlockRef)) (a b : Element BlockRef) → o ≡ Some a → o ≡ Some b → a ≡ b
    is_one o a b h q = cc

    -- the dictionary's blocks are the old ones with the new block in place of the one that moved
    refs_moved : (q : BlockRef) → times q (blocks_of new) + times q (was ∷ []) ≡ times q (blocks_of old) + times q (ref ∷ [])
    refs_moved q =
        let both = refs_changed value_block old new at (Some g) u q in
        let here : times q (names (item old at)) ≡ times q (e.key ∷ e.value ∷ []) = ap (λ o. times q (names o)) found in
        omega (arith, both, here, balance q)

    -- the block that moved is live before the move
    was_owned : Owned (was ∷ []) m
    was_owned q = omega (arith, was_within q, owned q)

    -- between the two stores the old dictionary's blocks give way to the new one's, and nothing else changes
    moved_changes : Changes m n (blocks_of old) (blocks_of new)
    moved_changes = changes_counted m n (blocks_of old) (blocks_of new) owned (record {
      balance = λ q. omega (arith, counts.balance q, refs_moved q);
      kept = λ q out_old out_new. counts.kept q (omega (arith, was_within q, out_old)) (omega (arith, refs_moved q, was_within q, out_old, out_new));
    })
      where
        counts : Counts m n (was ∷ []) (ref ∷ [])
        counts = counts_changed m n (was ∷ []) (ref ∷ []) was_owned p

    -- where the new block has the bytes of the one that moved, the dictionary has the same fields and values
    fields_kept : fields_in n new ≡ fields_in m old
    fields_kept = map_of_same m n (λ at. bytes_at m at) (λ at. bytes_at n at) old new k l
        (λ i f there. elim (cases_eq i at) [
          | inl here ↦ (let one' : e ≡ f = is_one (item old at) e f found (ap (item old) (sym here) ∙ there) in
              (at, g, u.changed, key_is ∙ ap (λ (x : Element BlockRef). m x.key) one', ap (λ o. unwrap_or o []) (value_is ∙ ap (λ (x : Element BlockRef). m x.value) one')))
          | inr other ↦ (let same = others_kept i f other there in (i, f, u.others i other ∙ there, same.0, ap (λ o. unwrap_or o []) same.1))
        ])
        (λ i f there. elim (cases_eq i at) [
          | inl here ↦ (let one' : g ≡ f = is_one (item new at) g f u.changed (ap (item new) (sym here) ∙ there) in (at, e, found, ap (λ (x : Element BlockRef). n x.key) (sym one') ∙ key_is))
          | inr other ↦ (let was' = sym (u.others i other) ∙ there in (i, f, was', (others_kept i f other was').0))
        ])

    -- where a block of one element moved, the dictionary means what it meant, and the marks given keep their blocks
    pub entry_settled : (stays : ℕ → Type 0) → ((mark : ℕ) → stays mark → block_in new.items mark ≡ block_in old.items mark) → IsRelocatedTable m n old new stays
    entry_settled stays others = record {
      keyed = l;
      fields_are = fields_kept;
      tables_are = tables;
      changes = moved_changes;
      seed = seed;
      top = top;
      same_items = λ i. elim (cases_eq i at) [
        | inl here ↦ ap (λ j. is_some (item new j)) here ∙ ap is_some u.changed ∙ sym (ap (λ j. is_some (item old j)) here ∙ ap is_some found)
        | inr other ↦ ap is_some (u.others i other)
      ];
      others = others;
    }

-- at the marks but one the blocks stay
module _ (old new : FieldTable) (at : ℕ) (e g : Element BlockRef) (found : item old at ≡ Some e) (u : Updates old.items new.items at (Some g)) where
  -- where one element changes and keeps its value's block, only the mark of its field can have another block
  pub stays_field : g.value ≡ e.value → (mark : ℕ) → mark ≢ 2 * at → block_in new.items mark ≡ block_in old.items mark
  stays_field same mark other = (let p = halves mark in elim p.1 [
    | inl even ↦ ap (block_in new.items) even ∙ even_is new.items p.0 ∙ ap key_slot (u.others p.0 (λ here. other (omega (arith, even, here))))
        ∙ sym (ap (block_in old.items) even ∙ even_is old.items p.0)
    | inr odd ↦ ap (block_in new.items) odd ∙ odd_is new.items p.0 ∙ slots p.0 ∙ sym (ap (block_in old.items) odd ∙ odd_is old.items p.0)
  ])
    where
      slots : (k : ℕ) → value_slot (item new k) ≡ value_slot (item old k)
      slots k = elim (cases_eq k at) [
        | inl here ↦ ap (λ j. value_slot (item new j)) here ∙ ap value_slot u.changed ∙ ap Some same ∙ sym (ap (λ j. value_slot (item old j)) here ∙ ap value_slot found)
        | inr apart ↦ ap value_slot (u.others k apart)
      ]

  -- where one element changes and keeps its field's block, only the mark of its value can have another block
  pub stays_value : g.key ≡ e.key → (mark : ℕ) → mark ≢ 2 * at + 1 → block_in new.items mark ≡ block_in old.items mark
  stays_value same mark other = (let p = halves mark in elim p.1 [
    | inl even ↦ ap (block_in new.items) even ∙ even_is new.items p.0 ∙ slots p.0 ∙ sym (ap (block_in old.items) even ∙ even_is old.items p.0)
    | inr odd ↦ ap (block_in new.items) odd ∙ odd_is new.items p.0 ∙ ap value_slot (u.others p.0 (λ here. other (omega (arith, odd, here)))) ∙ sym (ap (block_in old.items) odd ∙ odd_is old.items p.0)
  ])
    where
      slots : (k : ℕ) → key_slot (item new k) ≡ key_slot (item old k)
      slots k = elim (cases_eq k at) [
        | inl here ↦ ap (λ j. key_slot (item new j)) here ∙ ap key_slot u.changed ∙ ap Some same ∙ sym (ap (λ j. key_slot (item old j)) here ∙ ap key_slot found)
        | inr apart ↦ ap key_slot (u.others k apart)
      ]

-- the two blocks of an element are apart
twins_apart : (m : Blocks) (t : FieldTable) (at : ℕ) (e : Element BlockRef) → Owned (blocks_of t) m → item t at ≡ Some e → (times e.key (e.value ∷ []) ≡ 0) × (times e.value (e.key ∷ []) ≡ 0)
twins_apart m t at e owned found = (
  omega (arith, entry_within value_block t at e found e.key, owned e.key, live_once m e.key, self e.key),
  omega (arith, entry_within value_block t at e found e.value, owned e.value, live_once m e.value, self e.value),
)

-- the block of a field moved
pub field_settled : (m n : Blocks) (old new : FieldTable) (at : ℕ) (key ref value : BlockRef) → Keyed m old → Owned (blocks_of old) m → Holds old at key value → n ref ≡ m key
    → Changes m n (key ∷ []) (ref ∷ []) → Renames old new at ref
    → IsRelocatedTable m n old new (λ mark. mark ≢ 2 * at)
field_settled m n old new at key ref value k owned h same p r =
    let e : Element BlockRef = record { key = key; hash = h.hash; value = value } in
    let g : Element BlockRef = record { key = ref; hash = h.hash; value = value } in
    let one' : r.element ≡ e = is_one (item old at) r.element e r.found h.found in
    let u : Updates old.items new.items at (Some g) = record { changed = r.updates.changed ∙ ap (λ (x : Element BlockRef). Some (record x { key = ref })) one'; others = r.updates.others } in
    let mine : 0 < times key (key ∷ value ∷ []) = omega (arith, self key) in
    let kept = r.keyed m n k (same ∙ ap (λ (x : Element BlockRef). m x.key) (sym one')) (λ i f apart there. (others_kept m n old new at e g key ref k owned h.found mine p i f apart there).0) in
    entry_settled m n old new at e g key ref k owned h.found mine p u kept.0 kept.1 r.seed r.top same
    (owned_others m n (key ∷ []) (ref ∷ []) (blocks_of old) owned p value (has_value old at e h.found) (twins_apart m old at e owned h.found).1)
    (λ q. omega arith) (λ mark. mark ≢ 2 * at) (stays_field old new at e g h.found u refl)
  where
    is_one : (o : Option (Element BlockRef)) (a b : Element BlockRef) → o ≡ Some a → o ≡ Some b → a ≡ b
    is_one o a b h q = cc

-- an element has one value
pub same_value : (o : Option (Element BlockRef)) (key other : BlockRef) (hash code : ℕ) (v w : BlockRef) → o ≡ Some (record { key = key; hash = hash; value = v })
    → o ≡ Some (record { key = other; hash = code; value = w }) → v ≡ w
same_value o key other hash code v w h q = value_of (record { key = key; hash = hash; value = v }) (record { key = other; hash = code; value = w }) h q
  where
    value_of : (a b : Element BlockRef) → o ≡ Some a → o ≡ Some b → a.value ≡ b.value
    value_of a b h q = (let same : a ≡ b = cc in ap (λ (x : Element BlockRef). x.value) same)

-- the block of a value moved
pub value_settled : (m n : Blocks) (old new : FieldTable) (at : ℕ) (was ref : BlockRef) → Keyed m old → Owned (blocks_of old) m → n ref ≡ m was → Changes m n (was ∷ []) (ref ∷ [])
    → (s : Swaps old new at was ref)
    → ((blocks : Blocks) → Keyed blocks old → Keyed blocks new) → ((blocks : Blocks) → key_tables blocks new ≡ key_tables blocks old) → IsRelocatedTable m n old new (λ mark. mark ≢ 2 * at + 1)
value_settled m n old new at was ref k owned same p s keyed tables =
    let e : Element BlockRef = record { key = s.key; hash = s.hash; value = was } in
    let g : Element BlockRef = record { key = s.key; hash = s.hash; value = ref } in
    let mine : 0 < times was (s.key ∷ was ∷ []) = omega (arith, self was) in
    let key_same : n s.key ≡ m s.key = owned_others m n (was ∷ []) (ref ∷ []) (blocks_of old) owned p s.key (has_key old at e s.found) (twins_apart m old at e owned s.found).0 in
    let frame = keyed_frame m n old k (λ i f there. elim (cases_eq i at) [
      | inl here ↦
          (let one' : e ≡ f = is_one (item old at) e f s.found (ap (item old) (sym here) ∙ there) in ap (λ (x : Element BlockRef). n x.key) (sym one') ∙ key_same
          ∙ ap (λ (x : Element BlockRef). m x.key) one')
      | inr other ↦ (others_kept m n old new at e g was ref k owned s.found mine p i f other there).0
    ]) in
    entry_settled m n old new at e g was ref k owned s.found mine p s.updates (keyed n frame.0) (tables n ∙ frame.1) s.seed s.top key_same same
    (λ q. omega arith) (λ mark. mark ≢ 2 * at + 1) (stays_value old new at e g s.found s.updates refl)
  where
    is_one : (o : Option (Element BlockRef)) (a b : Element BlockRef) → o ≡ Some a → o ≡ Some b → a ≡ b
    is_one o a b h q = cc

-- what stands at an item number wants no move
is_block : (heap : Heap) (o : Option BlockRef) (a r : BlockRef) → o ≡ Some a → o ≡ Some r → wants heap a ≡ false → wants heap r ≡ false
is_block heap o a r h q calm = (let same : a ≡ r = cc in subst (λ x. wants heap x ≡ false) same calm)

-- where the block of an element's field wants no move, the mark of that field wants none
pub calm_field : (heap : Heap) (t : FieldTable) (at : ℕ) (g : Element BlockRef) → item t at ≡ Some g → wants heap g.key ≡ false → IsCalm heap t (2 * at) (2 * at + 1)
calm_field heap t at g found calm mark r low high there =
    let same : 2 * at ≡ mark = omega (arith, low, high) in
    is_block heap (block_in t.items mark) g.key r (ap (block_in t.items) (sym same) ∙ even_is t.items at ∙ ap key_slot found) there calm

-- where the block of an element's value wants no move, the mark of that value wants none
pub calm_value : (heap : Heap) (t : FieldTable) (at : ℕ) (g : Element BlockRef) → item t at ≡ Some g → wants heap g.value ≡ false → IsCalm heap t (2 * at + 1) (2 * at + 2)
calm_value heap t at g found calm mark r low high there =
    let same : 2 * at + 1 ≡ mark = omega (arith, low, high) in
    is_block heap (block_in t.items mark) g.value r (ap (block_in t.items) (sym same) ∙ odd_is t.items at ∙ ap value_slot found) there calm

-- a mark without a block wants none either
pub calm_none : (heap : Heap) (t : FieldTable) (mark : ℕ) → block_in t.items mark ≡ None → IsCalm heap t mark (mark + 1)
calm_none heap t mark none other r low high there = (let same : mark ≡ other = omega (arith, low, high) in never (block_in t.items other) (ap (block_in t.items) (sym same) ∙ none) there)
  where
    never : {X : Type 0} (o : Option BlockRef) → o ≡ None → o ≡ Some r → X
    never o h q = cc

-- ---- one after the other

-- moves at marks from a start to below k and then at k are moves at marks from the start to below k + 1
pub settled_more : (a b c : Blocks) (t u v : FieldTable) (start k : ℕ) → start ≤ k → IsRelocatedTable a b t u (λ i. (i < start) ⊎ (k ≤ i)) → IsRelocatedTable b c u v (λ i. i ≢ k)
    → IsRelocatedTable a c t v (λ i. (i < start) ⊎ (k + 1 ≤ i))
settled_more a b c t u v start k low p q = record {
  keyed = q.keyed;
  fields_are = q.fields_are ∙ p.fields_are;
  tables_are = q.tables_are ∙ p.tables_are;
  changes = changes_then a b c (blocks_of t) (blocks_of u) (blocks_of v) p.changes q.changes;
  seed = q.seed ∙ p.seed;
  top = q.top ∙ p.top;
  same_items = λ i. q.same_items i ∙ p.same_items i;
  others = λ i h. elim h [
    | inl before' ↦ q.others i (λ same. omega (arith, before', low, same)) ∙ p.others i (inl before')
    | inr behind ↦ q.others i (λ same. omega (arith, behind, same)) ∙ p.others i (inr (omega (arith, behind)))
  ];
}

-- marks from a start to k want no move where those below k wanted none and k wants none after a move at k alone
pub calm_more : (before after : Heap) (u v : FieldTable) (start k : ℕ) → Calmer before after → ((i : ℕ) → i ≢ k → block_in v.items i ≡ block_in u.items i) → IsCalm before u start k
    → IsCalm after v k (k + 1) → IsCalm after v start (k + 1)
calm_more before after u v start k calmer others calm here i r low high there = elim (cases_eq i k) [
  | inl same ↦ here i r (omega (arith, same)) high there
  | inr other ↦ calmer.calm r (calm i r low (omega (arith, high, other)) (sym (others i other) ∙ there))
]

-- a settled dictionary of which the blocks of some marks stay is a settled one of which those of fewer stay
pub settled_weaker : (a b : Blocks) (t u : FieldTable) (stays fewer : ℕ → Type 0) → ((i : ℕ) → fewer i → stays i) → IsRelocatedTable a b t u stays → IsRelocatedTable a b t u fewer
settled_weaker a b t u stays fewer weaker p = record {
  keyed = p.keyed;
  fields_are = p.fields_are;
  tables_are = p.tables_are;
  changes = p.changes;
  seed = p.seed;
  top = p.top;
  same_items = p.same_items;
  others = λ i h. p.others i (weaker i h);
}

-- ---- listpacks

-- the block of a listpack was named anew
module _ (m n : Blocks) (limits : Limits) (seed : ℕ) (old new : Packed) (same : n new.at ≡ m old.at) (len : new.len ≡ old.len) where
  -- the new block of a listpack has the bytes of the old one
  bytes_same : bytes_at n new.at ≡ bytes_at m old.at
  bytes_same = ap (λ o. unwrap_or o []) same

  -- a packed body stays sound where its listpack has a new block of the same bytes
  pub pack_moved : IsBody m limits seed (Pack old) → IsBody n limits seed (Pack new)
  pack_moved is = subst (λ k. IsFieldPack limits k (bytes_at n new.at)) (sym len) (subst (IsFieldPack limits old.len) (sym bytes_same) is)

  -- a packed body keeps its fields where its listpack has a new block of the same bytes
  pub pack_mean : fields_of n (Pack new) ≡ fields_of m (Pack old)
  pack_mean = ap (λ o. fields_of (λ _. o) (Pack old)) same
