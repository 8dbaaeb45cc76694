-- A link of one owner is set.
use Rattle.std.proofs.Common.{◌≡◌, ◌≢◌, ℕ, zero, suc, ◌<◌, length, get_or, Option, Some, None, refl, sym, ap, ◌∙◌, subst, length-set, inl, inr}
use Rattle.std.proofs.Math.Path.{fun_ext}
use Rattle.std.proofs.lemmas.List.{get_or-set_other, get_or-set_same}
use Rattle.std.specs.Vec.{with_item}
use Rattle.slab.specs.Slab.{get, with_value}
use Rattle.score_list.specs.declared.towers.Link.{Link}
use Rattle.score_list.specs.declared.towers.Tower.{Tower}
use Rattle.score_list.specs.declared.towers.Towers.{Towers}
use Rattle.score_list.specs.Linked.{no_link, links_of, link_at, element_of, SetsLink}
use Rattle.score_list.proofs.Places.{apart, there}

module _ (t : Towers) (key level : ℕ) (tower : Tower) (link : Link) (found : get t.slab key ≡ Some tower) where
  abbrev pub changed : Tower
  changed = record tower { links = with_item tower.links level link }

  abbrev pub after : Towers
  after = record t { slab = with_value t.slab key changed }

  now : get after.slab key ≡ Some changed
  now = get_or-set_same t.slab.slots key (Some changed) None (there t.slab.slots key tower found)

  elsewhere : (k : ℕ) → k ≢ key → get after.slab k ≡ get t.slab k
  elsewhere k ne = get_or-set_other t.slab.slots key k (Some changed) None ne

  -- what is the same of the tower is the same of all
  kept : {A : Type 0} (f : Option Tower → A) → f (Some changed) ≡ f (Some tower) → (k : ℕ) → f (get after.slab k) ≡ f (get t.slab k)
  kept f same k =
      elim (apart k key) [
        | inl e ↦ ap (λ n. f (get after.slab n)) e ∙ ap f now ∙ same ∙ ap f (sym found) ∙ ap (λ n. f (get t.slab n)) (sym e)
        | inr ne ↦ ap f (elsewhere k ne)
      ]

  other_level : (l o : ℕ) → l ≢ level → link_at after l o ≡ link_at t l o
  other_level l zero ne = refl
  other_level l (suc k) ne = kept (λ s. get_or (links_of s) l no_link) (get_or-set_other tower.links.items level l link no_link ne) k

  other_owner : (l o : ℕ) → o ≢ suc key → link_at after l o ≡ link_at t l o
  other_owner l zero ne = refl
  other_owner l (suc k) ne = ap (λ s. get_or (links_of s) l no_link) (elsewhere k (λ e. ne (ap suc e)))

  pub sets_tower : (owner : ℕ) → owner ≡ suc key → level < length tower.links.items → SetsLink t after level owner link
  sets_tower owner is lt = subst (λ o. SetsLink t after level o link) (sym is) (record {
    set_here = ap (λ s. get_or (links_of s) level no_link) now ∙ get_or-set_same tower.links.items level link no_link lt;
    other_levels = λ l o ne. other_level l o ne;
    other_owners = λ l o ne. other_owner l o ne;
    keeps = record { heights = fun_ext (kept (λ s. length (links_of s)) (length-set tower.links.items level link)); elements = fun_ext (kept element_of refl); len = refl; head = refl };
  })
