-- Bodies that are placed for a set with one more member.
use Rattle.std.proofs.Common.{◌≡◌, ◌≢◌, ℕ, ◌+◌, ◌<◌, ◌≤◌, ◌^◌, Bool, true, false, List, [], ◌∷◌, ◌++◌, map, take, drop, length, cond, Result, Ok, Err, Some, unwrap_or, max, is_some, refl}
use Rattle.std.proofs.Common.{sym, ap, ◌∙◌, subst, arith, inl, inr, length-append}
use Rattle.std.specs.Prelude.{ℤ}
use Rattle.std.specs.Prelude.{int_lt, IfOk}
use Rattle.std.specs.List.{Contains}
use Rattle.int_text.specs.Decimal.{IsI64Text}
use Rattle.int_text.proofs.NumberOf.{number_cases}
use Rattle.std.specs.List.{All, insert as inserted, count_by}
use Rattle.std.proofs.lemmas.Bool.{cond-true, cond-false, cases_Bool}
use Rattle.std.specs.FinMap.{insert, len, keys, empty}
use Rattle.std.proofs.lemmas.List.{map-append, take-map, drop-map, length-map, take-append-drop}
use Rattle.std.proofs.lemmas.List.Elements.{All-append, All-cons, All-nil, All-take, All-drop, All-head, All-tail}
use lib.Signed.{mag}
use Rattle.blocks.specs.declared.BlockRef.{BlockRef}
use Rattle.blocks.specs.Blocks.{Blocks, bytes_at, with_block, Changes}
use Rattle.int_text.specs.Decimal.{canonical, number_of}
use Rattle.intset.specs.Intset.{IsIntset, numbers_of, with_number}
use Rattle.listpack.specs.Pack.{texts}
use Rattle.listpack.specs.Writing.{Fits}
use Rattle.object_codec.specs.declared.limits.Limits.{Limits}
use Rattle.object_codec.specs.declared.form.Form.{Form}
use Rattle.object_codec.specs.declared.form.Form.TheVariants.{Intset, Listpack, Hashtable, Skiplist, Quicklist, Stream}
use Rattle.rehash_dict.proofs.Fresh.{placed_bytes}
use Rattle.rehash_dict.proofs.Growing.{grown_same}
use Rattle.rehash_dict.specs.Keyed.{hash_of}
use Rattle.set_object.specs.declared.members.Body.{Body}
use Rattle.set_object.specs.declared.members.Body.TheVariants.{Empty, Numbers, Pack, Table}
use Rattle.set_object.specs.declared.members.Members.{Members}
use Rattle.set_object.specs.Strings.{Strings, set_of, has, IsOnce, longest, IsRisen}
use Rattle.set_object.specs.Members.{IsMembers, IsBody, IsPackOf, IsNumberList, IsMemberPack, IsNumbers, IsPlacedBody, members, members_of, listed_of, number_texts, form_of, form_of_body, no_tables}
use Rattle.set_object.proofs.Sets.{tied, among, has_among, has_put, tied_same, set_nil, set_push, set_inserted, once_push, once_nil, len_put, has_empty}
use Rattle.set_object.proofs.Texts.{numbers_once, texts_numbers, stands_text}
use Rattle.set_object.proofs.Packing.{pack_fits}
use Rattle.set_object.proofs.Forms.{keys_among, longest_each, numbers_each, least_zero, risen_numbers, risen_pack}
use Rattle.set_object.specs.Hashed.{IsHashed, no_members}
use Rattle.set_object.proofs.Hashing.{Dict}
use Rattle.set_object.proofs.Listed.{listed_is}
use Rattle.set_object.specs.declared.members.Packed.{Packed}
use Rattle.object_codec.specs.Forms.{rank, FitsSet, IsLeast}

-- where each string that stands in a list has at most this length, all of the list have
pub all_short : (xs : List (List ℕ)) (v : ℕ) → ((q : List ℕ) → among q xs ≡ true → length q ≤ v) → All (λ (x : List ℕ). length x ≤ v) xs
all_short [] v each = All-nil (λ (x : List ℕ). length x ≤ v)
all_short (x ∷ xs) v each =
    All-cons (λ (x : List ℕ). length x ≤ v) x xs (each x (cond-true _ _ _ (tied_same x x refl))) (all_short xs v (λ q h. each q (later q h)))
  where
    later : (q : List ℕ) → among q xs ≡ true → among q (x ∷ xs) ≡ true
    later q h = elim (cases_Bool (tied q x)) [ inl t ↦ cond-true _ _ _ t | inr f ↦ cond-false _ _ _ f ∙ h ]

-- the block of a packed form was placed
module _ (m n : Blocks) (at : BlockRef) (bytes : List ℕ) (placed : n ≡ with_block m at (Some bytes)) where
  -- the placed block holds the bytes that it was placed with
  pub block_is : bytes_at n at ≡ bytes
  block_is = ap (λ o. unwrap_or o []) (placed_bytes m n at bytes placed)

module _ (m n : Blocks) (self : Members) (x : List ℕ) (sound : IsMembers m self) (packed : form_of self ≢ Hashtable) (lacks : has (members m self) x ≡ false) where
  -- the members of the packed set in the set's own order
  abbrev list : List (List ℕ)
  list = listed_of m self.body

  -- the members of the packed set are the set of its list
  members_list : members m self ≡ set_of list
  members_list = (listed_is m self.limits self.seed self.body sound.body).0

  -- no member stands twice in the list of the packed set
  list_once : IsOnce list
  list_once = (listed_is m self.limits self.seed self.body sound.body).1

  -- the packed set has as many members as its list is long
  list_len : len (members m self) ≡ length list
  list_len = ap len members_list ∙ list_once

  -- with a new member, the packed set has one member more than its list is long
  more_len : len (insert (members m self) x tt) ≡ length list + 1
  more_len = len_put (members m self) x lacks ∙ ap (λ k. k + 1) list_len

  -- the list with a new member at its end makes the set with that member
  more_set : set_of (list ++ x ∷ []) ≡ insert (members m self) x tt
  more_set = set_push list x ∙ ap (λ s. insert s x tt) (sym members_list)

  -- each member is no longer than the longest
  each_short : (q : List ℕ) → among q (list ++ x ∷ []) ≡ true → length q ≤ longest (keys (insert (members m self) x tt))
  each_short q h = longest_each (keys (insert (members m self) x tt)) q (sym (keys_among (insert (members m self) x tt) q) ∙ ap (λ s. has s q) (sym more_set) ∙ has_among (list ++ x ∷ []) q ∙ h)

  module _ (risen : IsRisen self.limits (form_of self) (insert (members m self) x tt) Listpack) where
    -- where the set with the new member is to be a listpack, no member is longer than the limit for listpacks
    more_short : All (λ (q : List ℕ). length q ≤ self.limits.set_value) (list ++ x ∷ [])
    more_short = all_short (list ++ x ∷ []) self.limits.set_value (λ q h. omega (arith, each_short q h, risen.fitting.1))

    -- where the set with the new member is to be a listpack, one of the old members has room for the new one
    pub pack_room : (bytes : List ℕ) → IsPackOf list bytes → Fits bytes x
    pack_room bytes p = pack_fits list bytes x p
        (all_short list 4096 (λ q h. omega (arith, each_short q (left q h), risen.fitting.1, sound.limits.set_value)))
        (omega (arith, more_len, risen.fitting.0, sound.limits.set_entries))
        (omega (arith, each_short x last, risen.fitting.1, sound.limits.set_value))
      where
        last : among x (list ++ x ∷ []) ≡ true
        last = sym (has_among (list ++ x ∷ []) x) ∙ ap (λ s. has s x) more_set ∙ has_put (members m self) x x ∙ cond-true _ _ _ (tied_same x x refl)

        left : (q : List ℕ) → among q list ≡ true → among q (list ++ x ∷ []) ≡ true
        left q h = sym (has_among (list ++ x ∷ []) q) ∙ ap (λ s. has s q) more_set ∙ has_put (members m self) x q ∙ either (tied q x) (ap (λ s. has s q) members_list ∙ has_among list q ∙ h)
          where
            either : (t : Bool) → has (members m self) q ≡ true → cond t true (has (members m self) q) ≡ true
            either true k = refl
            either false k = k

    -- a listpack of the old members and the new one, placed in a block, is a body of the set with the new member
    pub pack_placed : (at : BlockRef) (size : ℕ) (bytes : List ℕ) → n ≡ with_block m at (Some bytes) → Changes m n [] (at ∷ []) → size ≡ len (members m self) + 1 → IsPackOf (list ++ x ∷ []) bytes
        → IsPlacedBody m n self (Pack (record { at = at; len = size })) (insert (members m self) x tt)
    pack_placed at size bytes placed p counted is =
        let same : bytes_at n at ≡ bytes = block_is m n at bytes placed in
        let whole : IsMemberPack self.limits size bytes = record {
          pack = subst (λ xs. IsPackOf xs bytes) (sym is.texts_are) is;
          counted = counted ∙ omega (arith, list_len, length-append list (x ∷ []), ap length is.texts_are);
          once = subst IsOnce (sym is.texts_are) (once_push list x list_once (ap (λ s. has s x) (sym members_list) ∙ lacks));
          few = omega (arith, counted, list_len, more_len, risen.fitting.0);
          short = subst (λ xs. All (λ (q : List ℕ). length q ≤ self.limits.set_value) xs) (sym is.texts_are) more_short;
        } in
        record {
          sound = subst (IsMemberPack self.limits size) (sym same) whole;
          members_are = ap (λ bs. set_of (texts bs)) same ∙ ap set_of is.texts_are ∙ more_set;
          changes = p;
          grown = grown_same (hash_of self.seed) no_tables no_tables refl;
        }

  module _ (risen : IsRisen self.limits (form_of self) (insert (members m self) x tt) Intset) where
    -- where the set with the new member is to be an intset, that member is the canonical text of a number
    pub is_number : is_some (number_of x) ≡ true
    is_number = numbers_each (keys (insert (members m self) x tt)) x risen.fitting.0
        (sym (keys_among (insert (members m self) x tt) x) ∙ has_put (members m self) x x ∙ cond-true _ _ _ (tied_same x x refl))

    -- an intset of the old members and the new one, placed in a block, is a body of the set with the new member
    pub number_placed : (at : BlockRef) (size : ℕ) (k : ℤ) (old bytes : List ℕ) → n ≡ with_block m at (Some bytes) → Changes m n [] (at ∷ []) → size ≡ len (members m self) + 1
        → IsNumberList list old → x ≡ canonical k → mag k < 2 ^ 63 → IsIntset bytes (numbers_of bytes) → numbers_of bytes ≡ with_number (numbers_of old) k
        → IsPlacedBody m n self (Numbers (record { at = at; len = size })) (insert (members m self) x tt)
    number_placed at size k old bytes placed p counted is text small intset added =
        let same : bytes_at n at ≡ bytes = block_is m n at bytes placed in
        let i = count_by (λ y. int_lt y k) (numbers_of old) in
        let whole : IsNumbers self.limits size bytes = record {
          intset = intset;
          counted = counted ∙ omega (arith, list_len, ap length is.texts_are, length-map (numbers_of old) canonical, ap length added, inserted_len (numbers_of old) i k);
          few = omega (arith, counted, list_len, more_len, risen.fitting.1);
          fit = subst (All (λ n. mag n < 2 ^ 63)) (sym added) (all_inserted (numbers_of old) i k is.fit small);
        } in
        record {
          sound = subst (IsNumbers self.limits size) (sym same) whole;
          members_are = ap (λ bs. set_of (number_texts bs)) same ∙ ap (λ ns. set_of (map canonical ns)) added ∙ ap set_of (map_inserted (numbers_of old) i k)
              ∙ ap (λ xs. set_of (inserted xs i (canonical k))) is.texts_are ∙ set_inserted list i (canonical k) ∙ ap (λ q. insert (set_of list) q tt) (sym text)
              ∙ ap (λ s. insert s x tt) (sym members_list);
          changes = p;
          grown = grown_same (hash_of self.seed) no_tables no_tables refl;
        }
      where
        inserted_len : (ns : List ℤ) (i : ℕ) (k : ℤ) → length (inserted ns i k) ≡ length ns + 1
        inserted_len ns i k = omega (arith, length-append (take i ns) (k ∷ drop i ns), length-append (take i ns) (drop i ns), ap length (take-append-drop i ns))

        all_inserted : (ns : List ℤ) (i : ℕ) (k : ℤ) → All (λ n. mag n < 2 ^ 63) ns → mag k < 2 ^ 63 → All (λ n. mag n < 2 ^ 63) (inserted ns i k)
        all_inserted ns i k all small = All-append (λ n. mag n < 2 ^ 63) (take i ns) (k ∷ drop i ns) (All-take (λ n. mag n < 2 ^ 63) i ns all)
            (All-cons (λ n. mag n < 2 ^ 63) k (drop i ns) small (All-drop (λ n. mag n < 2 ^ 63) i ns all))

        map_inserted : (ns : List ℤ) (i : ℕ) (k : ℤ) → map canonical (inserted ns i k) ≡ inserted (map canonical ns) i (canonical k)
        map_inserted ns i k =
            map-append canonical (take i ns) (k ∷ drop i ns)
            ∙ ap (λ xs. xs ++ canonical k ∷ map canonical (drop i ns)) (sym (take-map canonical i ns))
            ∙ ap (λ xs. take i (map canonical ns) ++ canonical k ∷ xs) (sym (drop-map canonical i ns))

-- the set has room for one more where it is packed
pub listpack_packed : (limits : Limits) (old : Form) (set : Strings) → IsRisen limits old set Listpack → old ≢ Hashtable
listpack_packed limits old set risen same = let r : rank old ≡ 2 = ap rank same in omega (arith, r, risen.from_old)

-- a set whose form after a write is an intset was no hash table before
pub intset_packed : (limits : Limits) (old : Form) (set : Strings) → IsRisen limits old set Intset → old ≢ Hashtable
intset_packed limits old set risen same = let r : rank old ≡ 2 = ap rank same in omega (arith, r, risen.from_old)

-- ---- the form that is told

-- where all strings have at most this length, so has the longest
pub longest_within : (xs : List (List ℕ)) (v : ℕ) → All (λ (x : List ℕ). length x ≤ v) xs → longest xs ≤ v
longest_within [] v all = omega arith
longest_within (x ∷ xs) v all = omega (arith, All-head (λ (x : List ℕ). length x ≤ v) x xs all, longest_within xs v (All-tail (λ (x : List ℕ). length x ≤ v) x xs all))

module _ (m : Blocks) (limits : Limits) (seed : ℕ) (body : Body) (x : List ℕ) (lacks : has (members_of m body) x ≡ false) (f : Form) where
  -- an empty body rises to the least form that fits the new member alone
  pub empty_risen : (number : Bool) → body ≡ Empty → number ≡ is_some (number_of x) → IsLeast (FitsSet limits number 1 (length x)) f
      → IsRisen limits (form_of_body body) (insert (members_of m body) x tt) f
  empty_risen number is by_text h =
      subst (λ (b : Body). IsRisen limits (form_of_body b) (insert (members_of m b) x tt) f) (sym is)
      (risen_numbers limits empty [] x (sym set_nil) once_nil (has_empty x) number 1 (length x) f by_text refl refl (omega arith) h)

  -- a body with an intset rises, by a new member, to the form to which the set of that intset's numbers does
  pub numbers_risen : (p : Packed) → body ≡ Numbers p → IsRisen limits Intset (insert (set_of (number_texts (bytes_at m p.at))) x tt) f
      → IsRisen limits (form_of_body body) (insert (members_of m body) x tt) f
  numbers_risen p is risen = subst (λ (b : Body). IsRisen limits (form_of_body b) (insert (members_of m b) x tt) f) (sym is) risen

  -- a body with a listpack rises to the least form but an intset that fits one member more and the new one's length
  pub pack_risen : (p : Packed) → body ≡ Pack p → IsBody m limits seed body → IsLeast (FitsSet limits false (p.len + 1) (length x)) f
      → IsRisen limits (form_of_body body) (insert (members_of m body) x tt) f
  pack_risen p is sound h =
      let s : IsMemberPack limits p.len (bytes_at m p.at) = subst (IsBody m limits seed) is sound in
      let xs = texts (bytes_at m p.at) in
      subst (λ (b : Body). IsRisen limits (form_of_body b) (insert (members_of m b) x tt) f) (sym is)
      (risen_pack limits (set_of xs) xs x refl s.once (ap (λ (b : Body). has (members_of m b) x) (sym is) ∙ lacks) (p.len + 1) f (omega (arith, s.counted))
      (longest_within xs limits.set_value s.short) h)

-- the numbers of an intset, and one more
module _ (limits : Limits) (len : ℕ) (bytes x : List ℕ) (s : IsNumbers limits len bytes) (lacks : has (set_of (number_texts bytes)) x ≡ false) (number : Bool)
    (by_text : number ≡ is_some (number_of x)) where
  -- an intset with a new text rises to the least form that fits the count, the longest, and whether that is a number
  pub numbers_more : (most : ℕ) (f : Form) → most ≡ max (longest (number_texts bytes)) (length x) → IsLeast (FitsSet limits number (len + 1) most) f
      → IsRisen limits Intset (insert (set_of (number_texts bytes)) x tt) f
  numbers_more most f most_is h =
      let xs = number_texts bytes in
      risen_numbers limits (set_of xs) xs x refl (numbers_once (numbers_of bytes) s.intset.rising s.fit) lacks number (len + 1) most f by_text
      (texts_numbers (numbers_of bytes) s.fit) (omega (arith, s.counted, length-map (numbers_of bytes) canonical)) (omega (arith, most_is)) h

  -- an intset that has room stays one where a number is put in
  pub numbers_stay : number ≡ true → len < limits.set_intset → IsRisen limits Intset (insert (set_of (number_texts bytes)) x tt) Intset
  numbers_stay is few =
      let most : ℕ = max (longest (number_texts bytes)) (length x) in
      numbers_more most Intset refl (least_zero (FitsSet limits number (len + 1) most) (is, omega (arith, few)))

-- a dictionary of the members
pub table_placed : (m n : Blocks) (self : Members) (t : Dict) (set : Strings) → IsHashed m n (no_members self.seed) t set → IsPlacedBody m n self (Table t) set
table_placed m n self t set h = record {
  sound = record { keyed = h.keyed; seed_is = h.seed };
  members_are = h.members_are;
  changes = h.changes;
  grown = h.grown;
}

-- a number that the set lacks is put into its intset
pub add_new : {E : Type 0} (m : Blocks) (self : Members) (k : ℤ) (old : List ℕ) (r : Result Bool E) (b : Bool) → IsMembers m self → form_of self ≢ Hashtable
    → has (members m self) (canonical k) ≡ false → IsNumberList (listed_of m self.body) old
    → r ≡ Ok b → (r ≡ Ok false → Contains (numbers_of old) k) → r ≡ Ok true
add_new m self k old r true sound packed lacks list is there = is
add_new m self k old r false sound packed lacks list is there =
    let found : has (members m self) (canonical k) ≡ true =
    ap (λ s. has s (canonical k)) ((listed_is m self.limits self.seed self.body sound.body).0 ∙ ap set_of (sym list.texts_are)) ∙ has_among (number_texts old) (canonical k)
    ∙ stands_text (numbers_of old) k (there is) in
    absurd (both (has (members m self) (canonical k)) found lacks)
  where
    both : (b : Bool) → b ≡ true → b ≡ false → ⊥
    both b h k = cc

-- a text that reads as a number is the canonical one of a signed number of 64 bits
pub is_text_of : (x : List ℕ) → is_some (number_of x) ≡ true → IsI64Text x
is_text_of x h = elim (number_cases x) [
  | inl none ↦ absurd (both (is_some (number_of x)) h (ap is_some none))
  | inr some ↦ (some.0, some.2, some.3)
]
  where
    both : (b : Bool) → b ≡ true → b ≡ false → ⊥
    both b h k = cc
