-- A tower leaves its rank, and stands beside the others with another score.
use Rattle.std.proofs.Common.{◌≡◌, ◌≢◌, ℕ, zero, suc, ◌+◌, ◌-◌, ◌<◌, ◌^◌, ℤ, true, nat_lt, length, get_or, List, [], ◌∷◌, Some, None, refl, sym, ap, ◌∙◌, subst, arith}
use Rattle.std.proofs.lemmas.List.{get_or-map, get_or-set_other, get_or-set_same}
use Rattle.slab.specs.Slab.{get, with_value}
use Rattle.score_list.specs.declared.towers.Tower.{Tower}
use Rattle.score_list.specs.declared.towers.Towers.{Towers}
use Rattle.score_list.specs.Rows.{Lacks, AllTall}
use Rattle.score_list.specs.Linked.{Element, no_element, links_of, element_of, element_at, tall, order, items, LinkedAs, IsLinked, Unthreads, Adds, without_at}
use Rattle.score_list.proofs.Places.{there}
use Rattle.score_list.proofs.Threading.{all_kept}
use Rattle.score_list.proofs.Joins.{ordered_as, linked_is, left_as, left_items, left_fresh}

-- what all keys in order reach, the one at a rank does
tall_at : (t : Towers) (ks : List ℕ) (rank key : ℕ) → AllTall (tall t 0) ks → rank < length ks → get_or ks rank 0 ≡ key → tall t 0 key ≡ true
tall_at t [] rank key a lt is = absurd (omega arith)
tall_at t (k ∷ ks) zero key a lt is = ap (tall t 0) (sym is) ∙ a.0
tall_at t (k ∷ ks) (suc rank) key a lt is = tall_at t ks rank key a.1 (omega arith) is

module _ (t0 t1 : Towers) (key rank : ℕ) (tower : Tower) (score : ℤ) (linked : IsLinked t0) (h : Unthreads t0 t1 key rank) (lt : rank < length (order t0))
    (at : get_or (order t0) rank 0 ≡ key) (found : get t1.slab key ≡ Some tower) where
  abbrev pub off : Towers
  off = record t1 { slab = with_value t1.slab key (record tower { score = score }); len = t1.len - 1 }

  now : get off.slab key ≡ Some (record tower { score = score })
  now = get_or-set_same t1.slab.slots key (Some (record tower { score = score })) None (there t1.slab.slots key tower found)

  elsewhere : (k : ℕ) → k ≢ key → get off.slab k ≡ get t1.slab k
  elsewhere k ne = get_or-set_other t1.slab.slots key k (Some (record tower { score = score })) None ne

  some : 0 < t0.len
  some = omega (arith, linked.counted, lt)

  shorter : suc off.len ≡ t1.len
  shorter = omega (arith, some, h.keeps.len)

  pub off_as : LinkedAs off (without_at (order t0) rank)
  off_as = left_as t0 t1 off key rank linked h lt at refl elsewhere shorter

  pub off_linked : IsLinked off
  off_linked = linked_is off (without_at (order t0) rank) off_as

  pub off_items : items off ≡ without_at (items t0) rank
  off_items = left_items t0 t1 off key rank linked h lt at refl elsewhere shorter

  pub off_short : off.len < 2 ^ 62
  off_short = omega (arith, shorter, h.keeps.len, linked.short)

  was : element_at t1 key ≡ get_or (items t0) rank no_element
  was = ap (λ (f : ℕ → Element). f key) h.keeps.elements ∙ ap (element_at t0) (sym at) ∙ sym (get_or-map (element_at t0) (order t0) rank 0 no_element lt)

  pub off_beside : key + 1 < 2 ^ 64 → Adds off off key (score, (get_or (items t0) rank no_element).1)
  off_beside fits = record {
    linked = off_linked;
    len = refl;
    fresh = subst (Lacks (suc key)) (sym (ordered_as off (without_at (order t0) rank) off_as)) (left_fresh t0 t1 off key rank linked h lt at refl elsewhere shorter);
    based = ap (λ s. nat_lt 0 (length (links_of s))) now ∙ ap (λ s. nat_lt 0 (length (links_of s))) (sym found)
        ∙ tall_at t1 (order t0) rank key (all_kept t0 t1 (order t0) h.keeps.heights linked.based) lt at;
    is = ap element_of now ∙ ap (λ (e : Element). let p : Element = (score, e.1) in p) (ap element_of (sym found) ∙ was);
    others = λ k ne. refl;
    fits = fits;
  }
