-- A tower's member is named by another block.
use Rattle.std.proofs.Common.{◌≡◌, ◌≢◌, ℕ, zero, suc, ◌<◌, ℤ, List, [], ◌∷◌, length, get_or, map, Option, Some, None, IsSome, unwrap_or, refl, sym, ap, ◌∙◌, subst, arith, inl, inr}
use Rattle.std.proofs.Math.Path.{fun_ext}
use Rattle.std.specs.Prelude.{slice_set}
use Rattle.std.proofs.lemmas.List.{get_or-map, get_or-set_other, get_or-set_same}
use Rattle.slab.specs.Slab.{get, with_value}
use Rattle.blocks.specs.declared.BlockRef.{BlockRef}
use Rattle.blocks.specs.Blocks.{Blocks, bytes_at}
use Rattle.score_list.specs.declared.towers.Link.{Link}
use Rattle.score_list.specs.declared.towers.Tower.{Tower}
use Rattle.score_list.specs.declared.towers.Towers.{Towers}
use Rattle.score_list.specs.Rows.{Lacks, IsDistinct}
use Rattle.score_list.specs.Linked.{Element, no_link, no_element, links_of, link_at, score_of, height_at, element_of, element_at, order, items, LinkedAs, IsLinked, IsAt, renamed_at}
use Rattle.score_list.specs.Sorted.{Key, key_of, key_cmp, AllBehind, IsSorted, Carries, AllFrom, IsRising}
use Rattle.score_list.proofs.Places.{apart, there}
use Rattle.score_list.proofs.Threading.{level_kept, scored_kept, all_kept}
use Rattle.score_list.proofs.Joins.{ordered_as, linked_is}

-- a key further back is another one
further : (k : ℕ) (ks : List ℕ) (rank key : ℕ) → Lacks (suc k) ks → rank < length ks → get_or ks rank 0 ≡ key → k ≢ key
further k [] rank key l lt is = absurd (omega arith)
further k (j ∷ js) zero key l lt is = λ e. l.0 (ap suc (e ∙ sym is))
further k (j ∷ js) (suc rank) key l lt is = further k js rank key l.1 (omega arith) is

module _ (f g : ℕ → Element) (key : ℕ) (same : (k : ℕ) → k ≢ key → g k ≡ f k) where
  others_same : (ks : List ℕ) → Lacks (suc key) ks → map g ks ≡ map f ks
  others_same [] l = refl
  others_same (k ∷ ks) l = (let e = same k (λ q. l.0 (ap suc (sym q))) in let r = others_same ks l.1 in cc)

  pub one_set : (ks : List ℕ) (rank : ℕ) (x : Element) → IsDistinct ks → rank < length ks → get_or ks rank 0 ≡ key → g key ≡ x → map g ks ≡ slice_set (map f ks) rank x
  one_set [] rank x d lt is e = absurd (omega arith)
  one_set (k ∷ ks) zero x d lt is e =
      let r = others_same ks (subst (λ n. Lacks (suc n) ks) is d.0) in
      let h : g k ≡ x = ap g is ∙ e in
      cc
  one_set (k ∷ ks) (suc rank) x d lt is e =
      let h = same k (further k ks rank key d.0 (omega arith) is) in
      let r = one_set ks rank x d.1 (omega arith) is e in
      ap (λ y. y ∷ map g ks) h ∙ ap (λ xs. f k ∷ xs) r

-- a tower of the same links in a tower's place
module _ (t : Towers) (key : ℕ) (tower after : Tower) (found : get t.slab key ≡ Some tower) (links : after.links.items ≡ tower.links.items) where
  abbrev pub changed : Towers
  changed = record t { slab = with_value t.slab key after }

  pub now : get changed.slab key ≡ Some after
  now = get_or-set_same t.slab.slots key (Some after) None (there t.slab.slots key tower found)

  pub elsewhere : (k : ℕ) → k ≢ key → get changed.slab k ≡ get t.slab k
  elsewhere k ne = get_or-set_other t.slab.slots key k (Some after) None ne

  kept : {A : Type 0} (f : Option Tower → A) → f (Some after) ≡ f (Some tower) → (k : ℕ) → f (get changed.slab k) ≡ f (get t.slab k)
  kept f same k =
      elim (apart k key) [
        | inl e ↦ ap (λ n. f (get changed.slab n)) e ∙ ap f now ∙ same ∙ ap f (sym found) ∙ ap (λ n. f (get t.slab n)) (sym e)
        | inr ne ↦ ap f (elsewhere k ne)
      ]

  pub heights : height_at changed ≡ height_at t
  heights = fun_ext (kept (λ s. length (links_of s)) (ap length links))

  pub same_links : (l o : ℕ) → link_at changed l o ≡ link_at t l o
  same_links l zero = refl
  same_links l (suc k) = kept (λ s. get_or {A = Link} (links_of s) l no_link) (ap (λ ls. get_or {A = Link} ls l no_link) links) k

  -- and of the same score
  module _ (score : after.score ≡ tower.score) (linked : IsLinked t) where
    same_scores : score_of changed ≡ score_of t
    same_scores = fun_ext (kept (λ s. (element_of s).0) score)

    changed_as : LinkedAs changed (order t)
    changed_as = record {
      rows = λ level lt. level_kept t changed level (order t) heights (same_links level) (linked.rows level lt);
      scored = λ level lt. scored_kept t changed level (order t) heights same_scores (same_links level) (linked.scored level lt);
      based = all_kept t changed (order t) heights linked.based;
      distinct = linked.distinct;
      counted = linked.counted;
      full_head = linked.full_head;
      short = linked.short;
    }

    pub changed_linked : IsLinked changed
    changed_linked = linked_is changed (order t) changed_as

    pub changed_items : (rank : ℕ) → IsAt t rank (Some key) → items changed ≡ slice_set (items t) rank (after.score, after.member)
    changed_items rank at =
        ap (map (element_at changed)) (ordered_as changed (order t) changed_as)
        ∙ one_set (element_at t) (element_at changed) key (λ k ne. ap element_of (elsewhere k ne)) (order t) rank (after.score, after.member) linked.distinct at.0 at.1 (ap element_of now)

-- the element of the tower at a rank
pub element_found : (t : Towers) (key rank : ℕ) (tower : Tower) → get t.slab key ≡ Some tower → IsAt t rank (Some key) → get_or (items t) rank no_element ≡ (tower.score, tower.member)
element_found t key rank tower found at = get_or-map (element_at t) (order t) rank 0 no_element at.0 ∙ ap (element_at t) at.1 ∙ ap element_of found

from_renamed : (s : ℤ) (xs : List Element) (rank : ℕ) (new : BlockRef) → AllFrom s xs → AllFrom s (renamed_at xs rank new)
from_renamed s [] rank new a = a
from_renamed s (x ∷ xs) zero new a = a
from_renamed s (x ∷ xs) (suc rank) new a = (a.0, from_renamed s xs rank new a.1)

pub rising_renamed : (xs : List Element) (rank : ℕ) (new : BlockRef) → IsRising xs → IsRising (renamed_at xs rank new)
rising_renamed [] rank new r = r
rising_renamed (x ∷ xs) zero new r = r
rising_renamed (x ∷ xs) (suc rank) new r = (from_renamed x.0 xs rank new r.0, rising_renamed xs rank new r.1)

-- ---- over the store that has the bytes under the new reference

module _ (before after : Blocks) where
  -- the second list's elements have the scores and members of the first one's
  abbrev pub Alike : List Element → List Element → Type 0
  Alike [] [] = Unit {0}
  Alike [] (y ∷ ys) = ⊥
  Alike (x ∷ xs) [] = ⊥
  Alike (x ∷ xs) (y ∷ ys) = (y.0 ≡ x.0) × (after y.1 ≡ before x.1) × Alike xs ys

  keys_alike : (x y : Element) → y.0 ≡ x.0 → after y.1 ≡ before x.1 → key_of after y ≡ key_of before x
  keys_alike x y s b = (let e : bytes_at after y.1 ≡ bytes_at before x.1 = ap (λ o. unwrap_or o []) b in cc)

  behind_alike : (key : Key) (xs ys : List Element) → Alike xs ys → AllBehind before key xs → AllBehind after key ys
  behind_alike key [] [] a b = tt
  behind_alike key [] (y ∷ ys) a b = absurd a
  behind_alike key (x ∷ xs) [] a b = absurd a
  behind_alike key (x ∷ xs) (y ∷ ys) a b = (ap (key_cmp key) (keys_alike x y a.0 a.1) ∙ b.0, behind_alike key xs ys a.2 b.1)

  pub sorted_alike : (xs ys : List Element) → Alike xs ys → IsSorted before xs → IsSorted after ys
  sorted_alike [] [] a s = tt
  sorted_alike [] (y ∷ ys) a s = absurd a
  sorted_alike (x ∷ xs) [] a s = absurd a
  sorted_alike (x ∷ xs) (y ∷ ys) a s = (
    subst IsSome (sym a.1) s.0,
    subst (λ k. AllBehind after k ys) (sym (keys_alike x y a.0 a.1)) (behind_alike (key_of before x) xs ys a.2 s.1),
    sorted_alike xs ys a.2 s.2,
  )

  others_alike : (xs : List Element) → ((n : ℕ) → n < length xs → after (get_or xs n no_element).1 ≡ before (get_or xs n no_element).1) → Alike xs xs
  others_alike [] same = tt
  others_alike (x ∷ xs) same = (refl, same 0 (omega arith), others_alike xs (λ n lt. same (suc n) (omega (arith, lt))))

  renamed_alike : (xs : List Element) (rank : ℕ) (new : BlockRef) → rank < length xs → Carries before after xs rank new → Alike xs (renamed_at xs rank new)
  renamed_alike [] rank new lt c = absurd (omega (arith, lt))
  renamed_alike (x ∷ xs) zero new lt c = (refl, c.moved, others_alike xs (λ n less. c.others (suc n) (omega (arith, less)) (λ e. absurd (omega (arith, e)))))
  renamed_alike (x ∷ xs) (suc rank) new lt c = (
    refl,
    c.others 0 (omega arith) (λ e. absurd (omega (arith, e))),
    renamed_alike xs rank new (omega (arith, lt)) (record { moved = c.moved; others = λ n less ne. c.others (suc n) (omega (arith, less)) (λ e. ne (omega (arith, e))) }),
  )

  pub sorted_renamed : (xs : List Element) (rank : ℕ) (new : BlockRef) → rank < length xs → Carries before after xs rank new → IsSorted before xs → IsSorted after (renamed_at xs rank new)
  sorted_renamed xs rank new lt c s = sorted_alike xs (renamed_at xs rank new) (renamed_alike xs rank new lt c) s
