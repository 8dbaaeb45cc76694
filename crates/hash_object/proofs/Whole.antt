-- Listpacks whose elements a packed hash takes as its fields and values.
use Rattle.std.proofs.Common.{◌≡◌, ℕ, zero, suc, ◌+◌, ◌*◌, ◌<◌, ◌≤◌, max, List, [], ◌∷◌, ◌++◌, length, map, take, get_or, Option, Some, None, unwrap_or, refl, sym, ap, ◌∙◌, subst, arith}
use Rattle.std.proofs.Common.{length-append}
use Rattle.std.proofs.lemmas.Bool.{eqb-true, eq-eqb}
use Rattle.std.proofs.lemmas.List.{take_all, take_more}
use Rattle.std.specs.List.{insert as inserted}
use Rattle.std.specs.Prelude.{IsTrue, ◌↔◌, nat_eq}
use Rattle.std.specs.Ordering.{nat_cmp}
use Rattle.std.specs.Cmp.Lexicographic.{slice_cmp}
use Rattle.std.specs.FinMap.{len, empty, len-empty, empty_of_len}
use Rattle.blocks.specs.declared.BlockRef.{BlockRef}
use Rattle.blocks.specs.Blocks.{Blocks, IsIn, with_block, Changes}
use Rattle.collection_walk.proofs.Lists.{some_none}
use Rattle.collection_walk.proofs.Named.{self}
use Rattle.collection_walk.proofs.Replaced.{new_kept}
use Rattle.listpack.specs.Pack.{IsPack, texts, spellings_of}
use Rattle.listpack.specs.Writing.{spelling}
use Rattle.object_codec.specs.declared.limits.Limits.{Limits}
use Rattle.object_codec.specs.declared.form.Form.{Form}
use Rattle.object_codec.specs.declared.form.Form.TheVariants.{Listpack}
use Rattle.object_codec.specs.Forms.{IsLeast}
use Rattle.pack_pairs.specs.Pairs.{Pair, IsPairPack, IsOnce, IsFirst, paired, pairs, second_of, map_of_pairs, longest}
use Rattle.pack_pairs.proofs.Lists.{no_pair, even_whole, length_flat, first_is, second_is, inserted_last}
use Rattle.pack_pairs.proofs.Maps.{first_second, once_last, once_before, map_len, longest_last}
use Rattle.rehash_dict.specs.Keyed.{hash_of}
use Rattle.rehash_dict.specs.Grown.{Grown}
use Rattle.rehash_dict.proofs.Fresh.{placed_bytes}
use Rattle.hash_object.specs.declared.fields.Body.{Body}
use Rattle.hash_object.specs.declared.fields.Body.TheVariants.{Empty, Pack, Table}
use Rattle.hash_object.specs.declared.fields.Fields.{Fields}
use Rattle.hash_object.specs.Maps.{FieldMap, FitsFields}
use Rattle.hash_object.specs.Hashed.{FieldTable}
use Rattle.hash_object.specs.Fields.{IsFields, IsFieldPack, IsChanged, ArePackable, IsPlacedWhole, fields_of, listed_of, refs, refs_of_body, form_of, form_of_body, tables_of}
use Rattle.hash_object.proofs.Bodies.{body_changed, packed_tables}
use Rattle.hash_object.proofs.Forms.{map_short, packed_least}
use Rattle.hash_object.proofs.Placing.{pack_is_placed}

-- ---- texts two by two

-- half as many pairs
pub even_len : (n : ℕ) (xs : List (List ℕ)) → length xs ≡ 2 * n → length (paired xs) ≡ n
even_len n xs e = omega (arith, e, ap length (even_whole n xs e), length_flat (paired xs))

-- a pair has no text longer than the longest
longest_at : (list : List Pair) (i : ℕ) → i < length list → max (length (get_or list i no_pair).0) (length (get_or list i no_pair).1) ≤ longest list
longest_at [] i h = absurd (omega (arith, h))
longest_at (p ∷ rest) zero h = omega arith
longest_at (p ∷ rest) (suc i) h = omega (arith, longest_at rest i (omega (arith, h)))

-- the first pair with a text is there
pub is_there : (k : List ℕ) (list : List Pair) (i : ℕ) → IsFirst k list i → second_of k list ≡ None → ⊥
is_there k list i first none = some_none (second_of k list) (get_or list i no_pair).1 (first_second k list i first) none

-- ---- one pair after the other

-- a listpack without a pair is that of no field
pub none_yet : (limits : Limits) (bytes : List ℕ) → IsPairPack bytes → pairs bytes ≡ [] → IsFieldPack limits 0 bytes
none_yet limits bytes pack none = record {
  pack = pack;
  counted = sym (ap length none);
  once = subst IsOnce (sym none) tt;
  few = omega arith;
  short = omega (arith, ap longest none);
}

-- a listpack that is spelled as the writer spells it, of an even number of elements, is one of pairs
pub pair_pack : (bytes : List ℕ) (n : ℕ) → IsPack bytes → spellings_of bytes ≡ map spelling (texts bytes) → length (texts bytes) ≡ 2 * n → IsPairPack bytes
pair_pack bytes n pack written even = record { pack = pack; written = written; whole = even_whole n (texts bytes) even }

-- and of a packed hash, where its texts are short and no field stands twice
pub field_pack : (limits : Limits) (n : ℕ) (bytes : List ℕ) → n ≤ limits.hash_entries → length (texts bytes) ≡ 2 * n → IsPairPack bytes → longest (pairs bytes) ≤ limits.hash_value
    → IsOnce (pairs bytes) → IsFieldPack limits n bytes
field_pack limits n bytes few even pack short once = record {
  pack = pack;
  counted = sym (even_len n (texts bytes) even);
  once = once;
  few = few;
  short = short;
}

-- with a pair more that may follow
pub put_more : (limits : Limits) (count : ℕ) (old new k v : List ℕ) → IsFieldPack limits count old → count < limits.hash_entries → max (length k) (length v) ≤ limits.hash_value
    → second_of k (pairs old) ≡ None
    → IsPairPack new → pairs new ≡ inserted (pairs old) count (k, v) → IsFieldPack limits (count + 1) new × (pairs new ≡ pairs old ++ (k, v) ∷ [])
put_more limits count old new k v p few short out pack is =
    let list : pairs new ≡ pairs old ++ (k, v) ∷ [] = is ∙ inserted_last (pairs old) count (k, v) p.counted in (
      record {
        pack = pack;
        counted = omega (arith, p.counted, ap length list, length-append (pairs old) ((k, v) ∷ []));
        once = subst IsOnce (sym list) (once_last (pairs old) k v p.once out);
        few = omega (arith, few);
        short = omega (arith, ap longest list, longest_last (pairs old) k v, p.short, short);
      },
      list,
    )

module _ (limits : Limits) (n i : ℕ) (xs : List (List ℕ)) (even : length xs ≡ 2 * n) where
  module _ (inside : i < n) (k v : List ℕ) (first : k ≡ get_or xs (2 * i) []) (second : v ≡ get_or xs (2 * i + 1) []) where
    within : i < length (paired xs)
    within = omega (arith, inside, even_len n xs even)

    key : k ≡ (get_or (paired xs) i no_pair).0
    key = first ∙ ap (λ (ys : List (List ℕ)). get_or ys (2 * i) []) (even_whole n xs even) ∙ first_is (paired xs) i

    value : v ≡ (get_or (paired xs) i no_pair).1
    value = second ∙ ap (λ (ys : List (List ℕ)). get_or ys (2 * i + 1) []) (even_whole n xs even) ∙ second_is (paired xs) i

    module _ (old : List Pair) (before : old ≡ take i (paired xs)) where
      -- where the next pair may not follow, the texts are not those of a packed hash
      pub refuses : (second_of k old ≡ None → max (length k) (length v) ≤ limits.hash_value → ⊥) → ArePackable limits xs → ⊥
      refuses none a =
          none (ap (second_of k) before ∙ ap (λ (q : List ℕ). second_of q (take i (paired xs))) key ∙ once_before (paired xs) i a.once within)
          (omega (arith, ap length key, ap length value, longest_at (paired xs) i within, a.short))

      -- the next pair
      pub goes_on : (new : List Pair) → new ≡ old ++ (k, v) ∷ [] → new ≡ take (i + 1) (paired xs)
      goes_on new is =
          let same : (k, v) ≡ get_or (paired xs) i no_pair = λ j. (key j, value j) in
          is ∙ ap (λ (ps : List Pair). ps ++ (k, v) ∷ []) before ∙ ap (λ (p : Pair). take i (paired xs) ++ p ∷ []) same ∙ sym (take_more (paired xs) i no_pair within)

  -- all of them
  pub all_taken : (bytes : List ℕ) → n ≤ i → IsFieldPack limits i bytes → pairs bytes ≡ take i (paired xs) → IsFieldPack limits n bytes × (pairs bytes ≡ paired xs)
  all_taken bytes last p is =
      let all : pairs bytes ≡ paired xs = is ∙ take_all i (paired xs) (omega (arith, last, even_len n xs even)) in
      (subst (λ (m : ℕ). IsFieldPack limits m bytes) (p.counted ∙ ap length all ∙ even_len n xs even) p, all)

-- the texts of a packed hash's listpack may be its fields and values
pub packable : (limits : Limits) (n : ℕ) (xs : List (List ℕ)) (bytes : List ℕ) → length xs ≡ 2 * n → IsFieldPack limits n bytes → pairs bytes ≡ paired xs → ArePackable limits xs
packable limits n xs bytes even p is = record {
  even = omega (arith, even, even_len n xs even);
  few = omega (arith, p.few, even_len n xs even);
  short = omega (arith, p.short, ap longest is);
  once = subst IsOnce is p.once;
}

-- a number of fields is 0 exactly where there is no field
pub counted_none : (n : ℕ) (map : FieldMap) → n ≡ len map → IsTrue (nat_eq n 0) ↔ (map ≡ empty)
counted_none n map is = (λ h. empty_of_len map (sym is ∙ eqb-true n 0 h), λ h. eq-eqb n 0 (is ∙ ap len h ∙ len-empty (slice_cmp nat_cmp) (List ℕ)))

-- ---- the block of the listpack was placed

pub whole_placed : (m n : Blocks) (f : Fields) (at : BlockRef) (count : ℕ) (xs : List (List ℕ)) (bytes : List ℕ) → n ≡ with_block m at (Some bytes) → Changes m n [] (at ∷ []) → length xs ≡ 2 * count
    → IsFieldPack f.limits count bytes → pairs bytes ≡ paired xs → IsPlacedWhole m n f xs (Pack (record { at = at; len = count }))
whole_placed m n f at count xs bytes placed changes even p is = record {
  packable = packable f.limits count xs bytes even p is;
  form = refl;
  listed_are = ap (λ (o : Option (List ℕ)). pairs (unwrap_or o [])) (placed_bytes m n at bytes placed) ∙ is;
  placed = pack_is_placed m n f at count bytes placed changes (map_of_pairs (paired xs)) p (ap map_of_pairs is);
}

no_table : (body : Body) → form_of_body body ≡ Listpack → (t : FieldTable) → body ≡ Table t → ⊥
no_table Empty packed t is = cc
no_table (Pack p) packed t is = cc
no_table (Table u) packed t is = absurd cc

-- a packed body's list is the same where its blocks keep their bytes
listed_kept : (a b : Blocks) (body : Body) → form_of_body body ≡ Listpack → ((r : BlockRef) → IsIn r (refs_of_body body) → b r ≡ a r) → listed_of b body ≡ listed_of a body
listed_kept a b Empty packed same = refl
listed_kept a b (Pack p) packed same = ap (λ (o : Option (List ℕ)). pairs (unwrap_or o [])) (same p.at (omega (arith, self p.at)))
listed_kept a b (Table t) packed same = absurd cc

module _ (a b c : Blocks) (f : Fields) (xs : List (List ℕ)) (body : Body) (sound : IsFields a f) (packed : form_of f ≡ Listpack) (placed : IsPlacedWhole a b f xs body)
    (released : Changes b c (refs f) []) where
  -- a packed hash took the texts, and its old block was given back
  pub whole_changed : IsChanged a c f (record f { body = body }) (map_of_pairs (paired xs))
  whole_changed =
      let p = placed.placed in
      body_changed a b c f body (map_of_pairs (paired xs)) sound p.sound p.changes released p.fields_are
      (subst (λ t. Grown (hash_of f.seed) t (tables_of b body)) (sym (packed_tables a f.body (no_table f.body packed))) p.grown)

  -- in their order
  pub whole_order : listed_of c body ≡ paired xs
  whole_order = listed_kept b c body placed.form (new_kept a b c (refs f) (refs_of_body body) sound.owned placed.placed.changes released) ∙ placed.listed_are

  -- and has the least form
  pub whole_form : IsLeast (FitsFields f.limits (fields_of c body)) (form_of_body body)
  whole_form =
      let q = placed.packable in
      let is : fields_of c body ≡ map_of_pairs (paired xs) = whole_changed.fields_are in
      subst (λ (form : Form). IsLeast (FitsFields f.limits (fields_of c body)) form) (sym placed.form)
      (subst (λ (map : FieldMap). IsLeast (FitsFields f.limits map) Listpack) (sym is)
      (packed_least f.limits (map_of_pairs (paired xs)) (omega (arith, map_len (paired xs) q.once, q.few)) (map_short f.limits.hash_value (paired xs) q.short)))
