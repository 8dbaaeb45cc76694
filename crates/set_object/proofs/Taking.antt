-- A member that is taken out of a packed set.
use Rattle.std.proofs.Common.{◌≡◌, ◌≢◌, ℕ, zero, suc, ◌+◌, ◌<◌, ◌^◌, Bool, true, false, cond, List, [], ◌∷◌, map, length, Some, Result, Ok, Err, refl, sym, ap, ◌∙◌, subst, arith, inl, inr, slice_get}
use Rattle.std.specs.Prelude.{ℤ, IfOk}
use Rattle.std.specs.Ordering.{int_eq}
use Rattle.std.specs.List.{remove as removed}
use Rattle.std.specs.FinMap.{remove, len, empty_of_len}
use Rattle.std.proofs.lemmas.Int.{ints}
use Rattle.std.proofs.lemmas.Bool.{cases_Bool}
use Rattle.std.proofs.lemmas.Fmt.{signed_decimal_injective}
use Rattle.std.proofs.lemmas.List.{length-map}
use Rattle.std.proofs.lemmas.List.Elements.{All-head, All-tail}
use lib.Signed.{mag}
use Rattle.blocks.specs.declared.BlockRef.{BlockRef}
use Rattle.blocks.specs.Blocks.{Blocks, bytes_at, with_block, Changes}
use Rattle.blocks.proofs.Change.{changes_same}
use Rattle.int_text.specs.Decimal.{canonical}
use Rattle.intset.specs.Intset.{numbers_of, without_number}
use Rattle.listpack.specs.Pack.{texts}
use Rattle.object_codec.specs.declared.form.Form.{Form}
use Rattle.object_codec.specs.declared.form.Form.TheVariants.{Intset, Listpack, Hashtable, Skiplist, Quicklist, Stream}
use Rattle.rehash_dict.specs.Keyed.{hash_of}
use Rattle.rehash_dict.specs.Tables.{IsSettled}
use Rattle.rehash_dict.proofs.Growing.{grown_same}
use Rattle.set_object.specs.declared.members.Packed.{Packed}
use Rattle.set_object.specs.declared.members.Body.{Body}
use Rattle.set_object.specs.declared.members.Body.TheVariants.{Empty, Numbers, Pack, Table}
use Rattle.set_object.specs.declared.members.Members.{Members}
use Rattle.set_object.specs.Strings.{Strings, set_of, has, IsOnce}
use Rattle.set_object.specs.Members.{IsMembers, IsBody, IsMemberPack, IsNumbers, AreNumbersOf, ArePackedOf, AreBytesOf, IsPacked, repacked, IsPlacedBody, form_of_body, members, members_of}
use Rattle.set_object.specs.Members.{number_texts, form_left, tables_of, no_tables}
use Rattle.set_object.proofs.Sets.{two_ways, tied, has_empty, tied_true, among, has_among, has_taken, stands_get, taken_is, set_removed, len_taken}
use Rattle.set_object.proofs.Hashing.{Dict}
use Rattle.set_object.proofs.Texts.{AreFit, numbers_once}
use Rattle.set_object.proofs.Placing.{all_short, block_is, longest_within}
use Rattle.set_object.proofs.Forms.{longest_each}
use Rattle.set_object.proofs.Bodies.{body_len, len_of}

-- ---- the numbers without one

-- numbers that test as equal are the same
int_same : (x n : ℤ) → int_eq x n ≡ true → x ≡ n
int_same x n h = grind (arith, ints)

-- a number tests as equal to itself
int_self : (n : ℤ) → int_eq n n ≡ true
int_self n = grind (arith, ints)

-- putting in by a test makes no difference where the same test takes out
gone : (t u a : Bool) → t ≡ u → cond t false a ≡ cond t false (cond u true a)
gone true u a same = refl
gone false true a same = cc
gone false false a same = refl

-- putting in by one test and taking out by another may change places where the tests never both hold
stays : (t u a : Bool) → (t ≡ true → u ≡ true → ⊥) → cond u true (cond t false a) ≡ cond t false (cond u true a)
stays true true a apart = absurd (apart refl refl)
stays true false a apart = refl
stays false true a apart = refl
stays false false a apart = refl

module _ (n : ℤ) (small : mag n < 2 ^ 63) (q : List ℕ) where
  -- among the texts of the numbers without n stand those of all but the text of n
  among_without : (ns : List ℤ) → AreFit ns → among q (map canonical (without_number ns n)) ≡ cond (tied q (canonical n)) false (among q (map canonical ns))
  among_without [] fit = none (tied q (canonical n))
    where
      none : (t : Bool) → false ≡ cond t false false
      none true = refl
      none false = refl
  among_without (x ∷ ns) fit =
      let rest = among_without ns (All-tail (λ n. mag n < 2 ^ 63) x ns fit) in
      elim (cases_Bool (int_eq x n)) [
        | inl yes' ↦ rw yes' (rest ∙ gone (tied q (canonical n)) (tied q (canonical x)) (among q (map canonical ns)) (ap (λ y. tied q (canonical y)) (sym (int_same x n yes'))))
        | inr other ↦ rw other (ap (cond (tied q (canonical x)) true) rest ∙ stays (tied q (canonical n)) (tied q (canonical x)) (among q (map canonical ns)) (apart other))
      ]
    where
      apart : int_eq x n ≡ false → tied q (canonical n) ≡ true → tied q (canonical x) ≡ true → ⊥
      apart other t u =
          let same : x ≡ n = signed_decimal_injective x n (All-head (λ n. mag n < 2 ^ 63) x ns fit) small (sym (tied_true q (canonical x) u) ∙ tied_true q (canonical n) t) in
          two_ways (int_eq x n) (ap (λ y. int_eq y n) same ∙ int_self n) other

-- the texts of the numbers without n make the set of all texts without that of n
pub numbers_left : (ns : List ℤ) (n : ℤ) → AreFit ns → mag n < 2 ^ 63 → set_of (map canonical (without_number ns n)) ≡ remove (set_of (map canonical ns)) (canonical n)
numbers_left ns n fit small = taken_is (map canonical ns) (map canonical (without_number ns n)) (canonical n) (λ q. among_without n small q ns fit)

-- ---- the elements without one

-- a list in which no string stands twice stays so without the string at an index
pub texts_once : (xs : List (List ℕ)) (i : ℕ) (x : List ℕ) → IsOnce xs → slice_get xs i ≡ Some x → IsOnce (removed xs i)
texts_once xs i x once is =
    let less = len_taken (set_of xs) x (has_among xs x ∙ stands_get xs i x is) in
    let same : len (set_of (removed xs i)) ≡ len (remove (set_of xs) x) = ap len (set_removed xs i x once is) in
    omega (arith, same, less, once, shorter xs i x is)
  where
    shorter : (xs : List (List ℕ)) (i : ℕ) (x : List ℕ) → slice_get xs i ≡ Some x → length (removed xs i) + 1 ≡ length xs
    shorter [] i x h = cc
    shorter (y ∷ xs) zero x h = omega arith
    shorter (y ∷ xs) (suc i) x h = omega (arith, shorter xs i x h)

-- ---- the block of a packed set without a member was placed

module _ (m n : Blocks) (self : Members) (x : List ℕ) (sound : IsMembers m self) (there : has (members m self) x ≡ true) (at : BlockRef) (size : ℕ) (bytes : List ℕ)
    (placed : n ≡ with_block m at (Some bytes)) (changes : Changes m n [] (at ∷ [])) (less : size + 1 ≡ body_len self.body) where
  -- the members without the one that is taken out
  abbrev left : Strings
  left = remove (members m self) x

  -- as many members are left as are told for the new block
  left_len : len left ≡ size
  left_len = omega (arith, less, len_of m self.limits self.seed self.body sound.body, len_taken (members m self) x there)

  -- the new block holds the bytes that it was placed with
  same_bytes : bytes_at n at ≡ bytes
  same_bytes = block_is m n at bytes placed

  -- where the bytes are an intset of what is left, the new block can take the place of the set's intset
  numbers_fewer : (p : Packed) → self.body ≡ Numbers p → AreNumbersOf left bytes → IsPlacedBody m n self (Numbers (record { at = at; len = size })) left
  numbers_fewer p is now =
      let old : IsNumbers self.limits p.len (bytes_at m p.at) = subst (IsBody m self.limits self.seed) is sound.body in
      let whole : IsNumbers self.limits size bytes = record {
        intset = now.intset;
        counted = omega (arith, left_len, ap len now.members_are, numbers_once (numbers_of bytes) now.intset.rising now.fit, length-map (numbers_of bytes) canonical);
        few = omega (arith, less, ap body_len is, old.few);
        fit = now.fit;
      } in
      record {
        sound = subst (IsNumbers self.limits size) (sym same_bytes) whole;
        members_are = ap (λ bs. set_of (number_texts bs)) same_bytes ∙ now.members_are;
        changes = changes;
        grown = grown_same (hash_of self.seed) no_tables no_tables refl;
      }

  -- where the bytes are a listpack of what is left, the new block can take the place of the set's listpack
  texts_fewer : (p : Packed) → self.body ≡ Pack p → ArePackedOf left bytes → IsPlacedBody m n self (Pack (record { at = at; len = size })) left
  texts_fewer p is now =
      let old : IsMemberPack self.limits p.len (bytes_at m p.at) = subst (IsBody m self.limits self.seed) is sound.body in
      let list = texts (bytes_at m p.at) in
      let old_list : members m self ≡ set_of list = ap (members_of m) is in
      let whole : IsMemberPack self.limits size bytes = record {
        pack = now.pack;
        counted = omega (arith, left_len, ap len now.members_are, now.once);
        once = now.once;
        few = omega (arith, less, ap body_len is, old.few);
        short = all_short (texts bytes) self.limits.set_value
            (λ q h. omega (
              arith,
              longest_each list q
                  (was q list (ap (λ s. has s q) old_list ∙ has_among list q)
                  (sym (has_taken (members m self) x q) ∙ ap (λ s. has s q) (sym now.members_are) ∙ has_among (texts bytes) q ∙ h)),
              longest_within list self.limits.set_value old.short,
            ));
      } in
      record {
        sound = subst (IsMemberPack self.limits size) (sym same_bytes) whole;
        members_are = ap (λ bs. set_of (texts bs)) same_bytes ∙ now.members_are;
        changes = changes;
        grown = grown_same (hash_of self.seed) no_tables no_tables refl;
      }
    where
      was : (q : List ℕ) (list : List (List ℕ)) → has (members m self) q ≡ among q list → cond (tied q x) false (has (members m self) q) ≡ true → among q list ≡ true
      was q list same h = sym same ∙ second (tied q x) (has (members m self) q) h
        where
          second : (t b : Bool) → cond t false b ≡ true → b ≡ true
          second true b h = cc
          second false b h = h

  -- where the bytes are what is left in the set's packed form, the new block can take the place of the old one
  pub left_placed : AreBytesOf self.body left bytes → IsPlacedBody m n self (repacked self.body (record { at = at; len = size })) left
  left_placed now = by_body self.body refl now
    where
      by_body : (b : Body) → self.body ≡ b → AreBytesOf b left bytes → IsPlacedBody m n self (repacked b (record { at = at; len = size })) left
      by_body Empty is now = absurd now
      by_body (Numbers p) is now = numbers_fewer p is now
      by_body (Pack p) is now = texts_fewer p is now
      by_body (Table t) is now = absurd now

-- the last member was taken out
pub none_left : (m : Blocks) (self : Members) (set : Strings) → len set ≡ 0 → IsPlacedBody m m self Empty set
none_left m self set none = record {
  sound = tt;
  members_are = sym (empty_of_len set none);
  changes = changes_same m [] (λ r. omega arith);
  grown = grown_same (hash_of self.seed) no_tables no_tables refl;
}

-- a set without a dictionary, of which no member is left, has the form of an intset
pub form_empty : (f : Form) (n : ℕ) → f ≢ Hashtable → n ≡ 0 → Intset ≡ form_left f n
form_empty Hashtable n packed none = absurd (packed refl)
form_empty Intset n packed none = ap (form_left Intset) (sym none)
form_empty Listpack n packed none = ap (form_left Listpack) (sym none)
form_empty Skiplist n packed none = ap (form_left Skiplist) (sym none)
form_empty Quicklist n packed none = ap (form_left Quicklist) (sym none)
form_empty Stream n packed none = ap (form_left Stream) (sym none)

-- a set of which a member is left keeps its form
pub form_stays : (f : Form) (n : ℕ) → 0 < n → f ≡ form_left f n
form_stays f zero some = absurd (omega (arith, some))
form_stays Hashtable (suc n) some = refl
form_stays Intset (suc n) some = refl
form_stays Listpack (suc n) some = refl
form_stays Skiplist (suc n) some = refl
form_stays Quicklist (suc n) some = refl
form_stays Stream (suc n) some = refl

-- a packed set that has a member has a block
pub has_block : (m : Blocks) (body : Body) (x : List ℕ) → has (members_of m body) x ≡ true → form_of_body body ≢ Hashtable → ((p : Packed) → body ≡ Numbers p → ⊥)
    → ((p : Packed) → body ≡ Pack p → ⊥) → ⊥
has_block m Empty x there packed numbers pack = two_ways _ there (has_empty x)
has_block m (Numbers p) x there packed numbers pack = numbers p refl
has_block m (Pack p) x there packed numbers pack = pack p refl
has_block m (Table t) x there packed numbers pack = packed refl

-- a body that is no dictionary doesn't have the form of one
pub packed_form : (body : Body) → ((t : Dict) → body ≡ Table t → ⊥) → form_of_body body ≢ Hashtable
packed_form Empty packed is = cc
packed_form (Numbers p) packed is = cc
packed_form (Pack p) packed is = cc
packed_form (Table t) packed is = packed t refl

-- what is left of a packed set is packed, and so has no table to shrink
pub placed_settled : (m : Blocks) (f : Form) (n : ℕ) (body : Body) → f ≢ Hashtable → form_of_body body ≡ form_left f n → IsSettled (tables_of m body)
placed_settled m f n Empty packed is = refl
placed_settled m f n (Numbers p) packed is = refl
placed_settled m f n (Pack p) packed is = refl
placed_settled m f n (Table t) packed is = absurd (packed (hashed f n is))
  where
    hashed : (f : Form) (n : ℕ) → Hashtable ≡ form_left f n → f ≡ Hashtable
    hashed Hashtable n is = refl
    hashed Intset zero is = cc
    hashed Intset (suc n) is = cc
    hashed Listpack zero is = cc
    hashed Listpack (suc n) is = cc
    hashed Skiplist zero is = cc
    hashed Skiplist (suc n) is = cc
    hashed Quicklist zero is = cc
    hashed Quicklist (suc n) is = cc
    hashed Stream zero is = cc
    hashed Stream (suc n) is = cc
