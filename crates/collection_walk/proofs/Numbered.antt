-- The marks of a dictionary's key blocks are the item numbers of its elements.
use Rattle.std.proofs.Common.{◌++◌, ◌≡◌, ◌≢◌, ◌⊎◌, ℕ, zero, suc, ◌+◌, ◌<◌, ◌≤◌, true, false, List, [], ◌∷◌, Option, Some, None, is_some, flat_map, length, slice_get, refl, sym, ap, ◌∙◌}
use Rattle.std.proofs.Common.{subst, arith, inl, inr}
use Rattle.std.proofs.lemmas.Bool.{cases_eq}
use Rattle.std.proofs.lemmas.Bool.Decides.{nat_tests}
use Rattle.blocks.specs.declared.BlockRef.{BlockRef}
use Rattle.blocks.specs.Slabs.{Heap, Calmer, wants}
use Rattle.collection_walk.proofs.Lists.{same_some}
use Rattle.rehash_dict.specs.Table.{Element, Table, at_item, item}
use Rattle.rehash_dict.specs.MapOf.{own_of, key_refs}
use Rattle.collection_walk.proofs.Ranks.{Slots}
use Rattle.collection_walk.specs.Marks.{vacant_mark, vacant_below, items_from, is_within, IsCalm, ArePassed}

pub within_parts : (start end mark : ℕ) → is_within start end mark ≡ true → (start ≤ mark) × (mark < end)
within_parts start end mark h = grind (arith, nat_tests)

pub outside_parts : (start end mark : ℕ) → is_within start end mark ≡ false → (mark < start) ⊎ (end ≤ mark)
outside_parts start end mark h = grind (arith, nat_tests)

module _ {V : Type 0} where
  abbrev pub names : Option (Element V) → List BlockRef
  names = own_of (λ (_ : V). [])

  -- a mark is the item number of the element whose key has the same index
  pub mark_item : (n : ℕ) (items : Slots V) (index mark : ℕ) → slice_get (items_from n items) index ≡ Some mark
      → (k : ℕ) × (e : Element V) × (mark ≡ n + k) × (at_item items k ≡ Some e) × (slice_get (flat_map names items) index ≡ Some e.key)
  mark_item n [] index mark h = cc
  mark_item n (None ∷ items) index mark h = (let p = mark_item (suc n) items index mark h in (suc p.0, p.1, omega (arith, p.2), p.3, p.4))
  mark_item n (Some e ∷ items) zero mark h = (let same : n ≡ mark = cc in (0, e, omega (arith, same), refl, refl))
  mark_item n (Some e ∷ items) (suc index) mark h = (let p = mark_item (suc n) items index mark h in (suc p.0, p.1, omega (arith, p.2), p.3, p.4))

  -- an element's item number is a mark
  pub item_mark : (n : ℕ) (items : Slots V) (k : ℕ) (e : Element V) → at_item items k ≡ Some e
      → (index : ℕ) × (slice_get (items_from n items) index ≡ Some (n + k)) × (slice_get (flat_map names items) index ≡ Some e.key)
  item_mark n [] k e h = cc
  item_mark n (None ∷ items) zero e h = cc
  item_mark n (None ∷ items) (suc k) e h = (let p = item_mark (suc n) items k e h in (p.0, p.1 ∙ ap Some (omega arith), p.2))
  item_mark n (Some d ∷ items) zero e h = (let same : d ≡ e = cc in (0, ap Some (omega arith), ap (λ (q : Element V). Some q.key) same))
  item_mark n (Some d ∷ items) (suc k) e h = (let p = item_mark (suc n) items k e h in (suc p.0, p.1 ∙ ap Some (omega arith), p.2))

  -- elements at the same item numbers have the same marks
  pub items_alike : (n : ℕ) (xs ys : Slots V) → ((k : ℕ) → is_some (at_item ys k) ≡ is_some (at_item xs k)) → items_from n ys ≡ items_from n xs
  items_alike n [] [] h = refl
  items_alike n [] (None ∷ ys) h = items_alike (suc n) [] ys (λ k. h (suc k))
  items_alike n [] (Some e ∷ ys) h = (let bad : true ≡ false = h 0 in cc)
  items_alike n (None ∷ xs) [] h = items_alike (suc n) xs [] (λ k. h (suc k))
  items_alike n (Some d ∷ xs) [] h = (let bad : false ≡ true = h 0 in cc)
  items_alike n (None ∷ xs) (None ∷ ys) h = items_alike (suc n) xs ys (λ k. h (suc k))
  items_alike n (None ∷ xs) (Some e ∷ ys) h = (let bad : true ≡ false = h 0 in cc)
  items_alike n (Some d ∷ xs) (None ∷ ys) h = (let bad : false ≡ true = h 0 in cc)
  items_alike n (Some d ∷ xs) (Some e ∷ ys) h = ap (λ zs. n ∷ zs) (items_alike (suc n) xs ys (λ k. h (suc k)))

  -- each key block has a mark
  pub items_marked : (n : ℕ) (items : Slots V) → length (items_from n items) ≡ length (flat_map names items)
  items_marked n [] = refl
  items_marked n (None ∷ items) = items_marked (suc n) items
  items_marked n (Some e ∷ items) = ap suc (items_marked (suc n) items)

module _ {V : Type 0} where
  -- item numbers at which elements stand alike are vacant alike
  vacant_alike : (n : ℕ) (x y : Option (Element V)) → is_some x ≡ is_some y → vacant_mark n x ≡ vacant_mark n y
  vacant_alike n None None same = refl
  vacant_alike n None (Some e) same = cc
  vacant_alike n (Some e) None same = cc
  vacant_alike n (Some e) (Some f) same = refl

  -- where an element stands at each item number at which one stood, the same item numbers are vacant
  pub vacant_same : (t u : Table V) → ((at : ℕ) → is_some (item u at) ≡ is_some (item t at)) → (n : ℕ) → vacant_below u n ≡ vacant_below t n
  vacant_same t u same zero = refl
  vacant_same t u same (suc n) = λ i. vacant_alike n (item u n) (item t n) (same n) i ++ vacant_same t u same n i

module _ {V : Type 0} (heap : Heap) (t u : Table V) (start end : ℕ) (same : (at : ℕ) → is_some (item u at) ≡ is_some (item t at)) where
  pub same_marks : items_from 0 u.items ≡ items_from 0 t.items
  same_marks = items_alike 0 t.items u.items same

  pub items_passed : ((at : ℕ) → (at < start) ⊎ (end ≤ at) → item u at ≡ item t at) → IsCalm heap u start end → ArePassed heap (is_within start end) (items_from 0 u.items) (key_refs t) (key_refs u)
  items_passed others calm = record {
    calm = λ index mark r marked named within. (let p = mark_item 0 u.items index mark marked in
        let at : mark ≡ p.0 = omega (arith, p.2) in
        let parts = within_parts start end mark within in
        let key : p.1.key ≡ r = same_some (slice_get (key_refs u) index) p.1.key r p.4 named in
        subst (λ q. wants heap q ≡ false) key (calm p.0 p.1 (omega (arith, at, parts.0)) (omega (arith, at, parts.1)) p.3));
    stays = λ index mark marked out. (let p = mark_item 0 u.items index mark marked in
        let q = mark_item 0 t.items index mark (ap (λ ms. slice_get ms index) (sym same_marks) ∙ marked) in
        let at : p.0 ≡ q.0 = omega (arith, p.2, q.2) in
        let stands : item u p.0 ≡ item t p.0 = others p.0 (elim (outside_parts start end mark out) [ inl low ↦ inl (omega (arith, low, p.2)) | inr high ↦ inr (omega (arith, high, p.2)) ]) in
        let one : p.1 ≡ q.1 = same_some (item u p.0) p.1 q.1 p.3 (stands ∙ ap (item t) at ∙ q.3) in
        p.4 ∙ ap (λ (e : Element V). Some e.key) one ∙ sym q.4);
  }

-- one more item number is calm
pub calm_more : {V : Type 0} (before after : Heap) (u v : Table V) (start k : ℕ) → Calmer before after → ((i : ℕ) → i ≢ k → item v i ≡ item u i) → IsCalm before u start k
    → IsCalm after v k (k + 1) → IsCalm after v start (k + 1)
calm_more before after u v start k calmer others calm here i e low high there = elim (cases_eq i k) [
  | inl same ↦ here i e (omega (arith, same)) high there
  | inr other ↦ calmer.calm e.key (calm i e low (omega (arith, high, other)) (sym (others i other) ∙ there))
]
