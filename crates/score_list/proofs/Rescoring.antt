-- A score changes in its place: the links to its tower hold the new one, and then the tower does.
use Rattle.std.proofs.Common.{◌≡◌, ◌≢◌, ℕ, zero, suc, ◌<◌, ◌≤◌, ℤ, List, ◌∷◌, ◌++◌, length, take, drop, get_or, map, Some, refl, sym, ap, ◌∙◌, subst, ltb-true, ltb-false, arith, ◌⊎◌, inl, inr}
use Rattle.std.specs.Prelude.{slice_set}
use Rattle.std.proofs.lemmas.List.{get_or-map}
use Rattle.slab.specs.Slab.{get, with_value}
use Rattle.score_list.specs.declared.towers.Link.{Link}
use Rattle.score_list.specs.declared.towers.Place.{Place}
use Rattle.score_list.specs.declared.towers.Tower.{Tower}
use Rattle.score_list.specs.declared.towers.Towers.{Towers}
use Rattle.score_list.specs.Rows.{Holds, IsDistinct}
use Rattle.score_list.specs.Linked.{Element, no_element, links_at, link_at, next_at, span_at, score_at, score_of, height_at, element_of, element_at, tall, order, items, IsScored}
use Rattle.score_list.specs.Linked.{LinkedAs, IsLinked, IsAt}
use Rattle.score_list.specs.Linked.{IsPath, owner_on, Keeps, SetsLink, RescoresLinks}
use Rattle.score_list.proofs.Moved.{reach_stands}
use Rattle.score_list.proofs.Places.{apart}
use Rattle.score_list.proofs.Holding.{rescored_held}
use Rattle.score_list.proofs.Threading.{lacks_head, tall_kept, row_kept, all_kept, reaches_of, at_rank}
use Rattle.score_list.proofs.Joins.{ordered_as, linked_is}
use Rattle.score_list.proofs.Renaming.{one_set, now, elsewhere, heights, same_links}

-- each owner on a path has a link at its level
pub way_reaches : (t : Towers) (rank : ℕ) (path : List Place) → IsLinked t → IsPath t rank path → (level : ℕ) → level < 16 → level < length (links_at t (owner_on path level))
way_reaches t rank path linked way level lt =
    let a = way level lt in
    let s = reach_stands (tall t level) (take rank (order t)) (owner_on path level) a.0 a.1 in
    reaches_of t level (take rank (order t)) (owner_on path level) s.0 s.1 (omega (arith, linked.full_head))

-- and has as many links as it had
pub links_kept : (t t' : Towers) → Keeps t t' → (owner : ℕ) → length (links_at t' owner) ≡ length (links_at t owner)
links_kept t t' k zero = k.head
links_kept t t' k (suc n) = ap (λ (f : ℕ → ℕ). f n) k.heights

-- ---- one level after the other, from the lowest up

-- the links below a level hold the score
pub record Rescoring (t0 : Towers) (path : List Place) (score : ℤ) (t : Towers) (level : ℕ) : Type 0 where
  pub nexts : (l o : ℕ) → next_at t l o ≡ next_at t0 l o
  pub spans : (l o : ℕ) → span_at t l o ≡ span_at t0 l o
  pub rescored : (l : ℕ) → l < level → score_at t l (owner_on path l) ≡ score
  pub other_levels : (l o : ℕ) → level ≤ l → score_at t l o ≡ score_at t0 l o
  pub other_owners : (l o : ℕ) → o ≢ owner_on path l → score_at t l o ≡ score_at t0 l o
  pub keeps : Keeps t0 t

pub rescoring_begins : (t : Towers) (path : List Place) (score : ℤ) → Rescoring t path score t 0
rescoring_begins t path score = record {
  nexts = λ l o. refl;
  spans = λ l o. refl;
  rescored = λ l lt. absurd (omega arith);
  other_levels = λ l o le. refl;
  other_owners = λ l o ne. refl;
  keeps = record { heights = refl; elements = refl; len = refl; head = refl };
}

module _ (t0 t t' : Towers) (path : List Place) (score : ℤ) (level : ℕ) (link : Link) (s : SetsLink t t' level (owner_on path level) link) (i : Rescoring t0 path score t level) where
  -- what the link has of the old one is the same of all
  still : {A : Type 0} (f : Link → A) → f link ≡ f (link_at t level (owner_on path level)) → (l o : ℕ) → f (link_at t' l o) ≡ f (link_at t l o)
  still f same l o =
      elim (apart l level) [
        | inl e ↦ at_level (apart o (owner_on path level)) e
        | inr ne ↦ ap f (s.other_levels l o ne)
      ]
    where
      at_level : (o ≡ owner_on path level) ⊎ (o ≢ owner_on path level) → l ≡ level → f (link_at t' l o) ≡ f (link_at t l o)
      at_level (inl q) e = subst (λ n. f (link_at t' n o) ≡ f (link_at t n o)) (sym e) (subst (λ n. f (link_at t' level n) ≡ f (link_at t level n)) (sym q) (ap f s.set_here ∙ same))
      at_level (inr ne) e = ap f (s.other_owners l o ne)

  rescored_more : link.score ≡ score → (l : ℕ) → l < suc level → score_at t' l (owner_on path l) ≡ score
  rescored_more is l lt =
      elim (apart l level) [
        | inl e ↦ subst (λ n. score_at t' n (owner_on path n) ≡ score) (sym e) (ap (λ x. x.score) s.set_here ∙ is)
        | inr ne ↦ ap (λ x. x.score) (s.other_levels l (owner_on path l) ne) ∙ i.rescored l (omega arith)
      ]

  others_kept : (l o : ℕ) → o ≢ owner_on path l → score_at t' l o ≡ score_at t0 l o
  others_kept l o ne =
      elim (apart l level) [
        | inl e ↦ ap (λ x. x.score) (s.other_owners l o (subst (λ n. o ≢ owner_on path n) e ne)) ∙ i.other_owners l o ne
        | inr q ↦ ap (λ x. x.score) (s.other_levels l o q) ∙ i.other_owners l o ne
      ]

  -- with that of one level more
  pub rescoring_on : (above : ℕ) → above ≡ suc level → link.next ≡ next_at t level (owner_on path level) → link.span ≡ span_at t level (owner_on path level) → link.score ≡ score
      → Rescoring t0 path score t' above
  rescoring_on above is_above next_is span_is score_is = record {
    nexts = λ l o. still (λ x. x.next) next_is l o ∙ i.nexts l o;
    spans = λ l o. still (λ x. x.span) span_is l o ∙ i.spans l o;
    rescored = λ l lt. rescored_more score_is l (omega arith);
    other_levels = λ l o le. ap (λ x. x.score) (s.other_levels l o (λ q. absurd (omega arith))) ∙ i.other_levels l o (omega arith);
    other_owners = λ l o ne. others_kept l o ne;
    keeps = record {
      heights = s.keeps.heights ∙ i.keeps.heights;
      elements = s.keeps.elements ∙ i.keeps.elements;
      len = s.keeps.len ∙ i.keeps.len;
      head = s.keeps.head ∙ i.keeps.head;
    };
  }

-- the links at all levels of the tower hold it
pub all_rescored : (t0 t : Towers) (key : ℕ) (path : List Place) (score : ℤ) (level : ℕ) → Rescoring t0 path score t level → level ≤ height_at t0 key
    → ((l : ℕ) → l < height_at t0 key → l < 16 → l < level) → RescoresLinks t0 t key path score
all_rescored t0 t key path score level i low high = record {
  nexts = i.nexts;
  spans = i.spans;
  rescored = λ l lt e. i.rescored l (high l (ltb-true l (height_at t0 key) e) lt);
  other_levels = λ l o e. (let past : height_at t0 key ≤ l = ltb-false l (height_at t0 key) e in i.other_levels l o (omega arith));
  other_owners = i.other_owners;
  keeps = i.keeps;
}

-- ---- the tower with the score in its place

module _ (t0 t1 : Towers) (key rank : ℕ) (path : List Place) (tower : Tower) (score : ℤ) (linked : IsLinked t0) (way : IsPath t0 rank path) (at : IsAt t0 rank (Some key))
    (m : RescoresLinks t0 t1 key path score) (found : get t1.slab key ≡ Some tower) where
  abbrev pub rated : Tower
  rated = record tower { score = score }

  abbrev pub after : Towers
  after = record t1 { slab = with_value t1.slab key (record tower { score = score }) }

  same_heights : height_at after ≡ height_at t0
  same_heights = heights t1 key tower rated found refl ∙ m.keeps.heights

  still_there : (l o : ℕ) → link_at after l o ≡ link_at t1 l o
  still_there l o = same_links t1 key tower rated found refl l o

  own_now : score_of after key ≡ score
  own_now = ap (λ s. (element_of s).0) (now t1 key tower rated found refl)

  elements_but : (k : ℕ) → k ≢ key → element_at after k ≡ element_at t0 k
  elements_but k ne = ap element_of (elsewhere t1 key tower rated found refl k ne) ∙ ap (λ (f : ℕ → Element). f k) m.keeps.elements

  is : order t0 ≡ take rank (order t0) ++ key ∷ drop (suc rank) (order t0)
  is = at_rank (order t0) rank key at.0 at.1

  scored : (level : ℕ) → level < 16 → IsScored after level (order t0)
  scored level lt =
      let a = way level lt in
      subst (λ f. Holds f (score_at after level) (score_of after) 0 (order t0)) (sym (tall_kept t0 after same_heights level))
      (subst (λ ks. Holds (tall t0 level) (score_at after level) (score_of after) 0 ks) (sym is)
      (rescored_held (tall t0 level) (score_at t0 level) (score_of t0) (score_at after level) (score_of after) key (owner_on path level)
      (λ k ne. ap (λ (e : Element). e.0) (elements_but k ne))
      (λ o ne. ap (λ x. x.score) (still_there level o) ∙ m.other_owners level o ne)
      (λ e. ap (λ x. x.score) (still_there level (owner_on path level)) ∙ m.rescored level lt e ∙ sym own_now)
      (λ e. ap (λ x. x.score) (still_there level (owner_on path level)) ∙ m.other_levels level (owner_on path level) e)
      (take rank (order t0)) (drop (suc rank) (order t0)) 0 0 a.0 (subst (IsScored t0 level) is (linked.scored level lt)) a.1
      (lacks_head (take rank (order t0) ++ key ∷ drop (suc rank) (order t0))) (subst IsDistinct is linked.distinct)))

  rescored_as : LinkedAs after (order t0)
  rescored_as = record {
    rows = λ level lt. row_kept t0 after level (order t0) same_heights (λ o. ap (λ x. x.next) (still_there level o) ∙ m.nexts level o)
        (λ o. ap (λ x. x.span) (still_there level o) ∙ m.spans level o) (linked.rows level lt);
    scored = λ level lt. scored level lt;
    based = all_kept t0 after (order t0) same_heights linked.based;
    distinct = linked.distinct;
    counted = m.keeps.len ∙ linked.counted;
    full_head = m.keeps.head ∙ linked.full_head;
    short = omega (arith, m.keeps.len, linked.short);
  }

  pub rescored_linked : IsLinked after
  rescored_linked = linked_is after (order t0) rescored_as

  pub rescored_items : items after ≡ slice_set (items t0) rank (score, tower.member)
  rescored_items =
      ap (map (element_at after)) (ordered_as after (order t0) rescored_as)
      ∙ one_set (element_at t0) (element_at after) key elements_but (order t0) rank (score, tower.member) linked.distinct at.0 at.1 (ap element_of (now t1 key tower rated found refl))

  -- the element that was there
  pub was_there : get_or (items t0) rank no_element ≡ (tower.score, tower.member)
  was_there =
      get_or-map (element_at t0) (order t0) rank 0 no_element at.0 ∙ ap (element_at t0) at.1 ∙ sym (ap (λ (f : ℕ → Element). f key) m.keeps.elements) ∙ ap element_of found
