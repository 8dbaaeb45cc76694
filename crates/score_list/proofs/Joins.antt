-- What the edits of links and towers make of the order.
use Rattle.std.proofs.Common.{◌≡◌, ◌≢◌, ℕ, zero, suc, ◌+◌, ◌<◌, ◌^◌, Bool, true, nat_lt, List, [], ◌∷◌, ◌++◌, IsSome, length, take, drop, get_or, map, Option, Some, None, refl, sym, ap}
use Rattle.std.proofs.Common.{◌∙◌, subst, length-append, ltb-true, arith}
use Rattle.std.proofs.lemmas.List.{take-append-drop, map-append, take-map, drop-map}
use Rattle.slab.specs.Slab.{get}
use Rattle.score_list.specs.declared.towers.Link.{Link}
use Rattle.score_list.specs.declared.towers.Tower.{Tower}
use Rattle.score_list.specs.declared.towers.Towers.{Towers}
use Rattle.score_list.specs.Rows.{Lacks, IsDistinct, AllTall}
use Rattle.score_list.specs.Linked.{Element, no_link, links_of, next_at, span_at, score_at, score_of, element_of, element_at, tall, order, items, IsLevel, IsScored, LinkedAs, IsLinked}
use Rattle.score_list.specs.Linked.{Threads, Unthreads, Adds, with_at, without_at}
use Rattle.score_list.proofs.Moved.{never, Same, moved}
use Rattle.score_list.proofs.Holding.{SameScores, still_held}
use Rattle.score_list.proofs.Threading.{order_is, all_kept, at_rank}

pub ordered_as : (t : Towers) (ks : List ℕ) → LinkedAs t ks → order t ≡ ks
ordered_as t ks l = order_is t ks l.based (l.rows 0 (omega arith)) l.counted

pub linked_is : (t : Towers) (ks : List ℕ) → LinkedAs t ks → IsLinked t
linked_is t ks l = subst (LinkedAs t) (sym (ordered_as t ks l)) l

-- ---- one key more

lacks_with : (p x : ℕ) (front back : List ℕ) → Lacks p (front ++ back) → p ≢ suc x → Lacks p (front ++ x ∷ back)
lacks_with p x [] back l ne = (ne, l)
lacks_with p x (k ∷ ks) back l ne = (l.0, lacks_with p x ks back l.1 ne)

distinct_with : (x : ℕ) (front back : List ℕ) → IsDistinct (front ++ back) → Lacks (suc x) (front ++ back) → IsDistinct (front ++ x ∷ back)
distinct_with x [] back d l = (l, d)
distinct_with x (k ∷ ks) back d l = (lacks_with (suc k) x ks back d.0 (λ e. l.0 (sym e)), distinct_with x ks back d.1 l.1)

tall_with : (tall : ℕ → Bool) (x : ℕ) (front back : List ℕ) → AllTall tall (front ++ back) → tall x ≡ true → AllTall tall (front ++ x ∷ back)
tall_with tall x [] back a t = (t, a)
tall_with tall x (k ∷ ks) back a t = (a.0, tall_with tall x ks back a.1 t)

length_with : {A : Type 0} (xs : List A) (rank : ℕ) (x : A) → length (with_at xs rank x) ≡ suc (length xs)
length_with xs rank x =
    let w : length xs ≡ length (take rank xs) + length (drop rank xs) = ap length (sym (take-append-drop rank xs)) ∙ length-append (take rank xs) (drop rank xs) in
    length-append (take rank xs) (x ∷ drop rank xs) ∙ omega (arith, w)

pub map_with : (f : ℕ → Element) (ks : List ℕ) (rank key : ℕ) → map f (with_at ks rank key) ≡ with_at (map f ks) rank (f key)
map_with f ks rank key = map-append f (take rank ks) (key ∷ drop rank ks) ∙ ap (λ xs. xs ++ f key ∷ map f (drop rank ks)) (sym (take-map f rank ks))
    ∙ ap (λ xs. take rank (map f ks) ++ f key ∷ xs) (sym (drop-map f rank ks))

-- ---- one key fewer

lacks_without : (p x : ℕ) (front back : List ℕ) → Lacks p (front ++ x ∷ back) → (p ≢ suc x) × Lacks p (front ++ back)
lacks_without p x [] back l = l
lacks_without p x (k ∷ ks) back l = (let r = lacks_without p x ks back l.1 in (r.0, (l.0, r.1)))

distinct_without : (x : ℕ) (front back : List ℕ) → IsDistinct (front ++ x ∷ back) → Lacks (suc x) (front ++ back) × IsDistinct (front ++ back)
distinct_without x [] back d = d
distinct_without x (k ∷ ks) back d =
    let r = distinct_without x ks back d.1 in
    let l = lacks_without (suc k) x ks back d.0 in
    (((λ e. l.0 (sym e)), r.0), (l.1, r.1))

tall_without : (tall : ℕ → Bool) (x : ℕ) (front back : List ℕ) → AllTall tall (front ++ x ∷ back) → AllTall tall (front ++ back)
tall_without tall x [] back a = a.1
tall_without tall x (k ∷ ks) back a = (a.0, tall_without tall x ks back a.1)

pub map_without : {A B : Type 0} (f : A → B) (ks : List A) (rank : ℕ) → map f (without_at ks rank) ≡ without_at (map f ks) rank
map_without f ks rank = map-append f (take rank ks) (drop (suc rank) ks) ∙ ap (λ xs. xs ++ map f (drop (suc rank) ks)) (sym (take-map f rank ks))
    ∙ ap (λ xs. take rank (map f ks) ++ xs) (sym (drop-map f (suc rank) ks))

-- ---- another tower's entry changes

module _ (t t' : Towers) (key : ℕ) (head : t'.head ≡ t.head) (same : (k : ℕ) → k ≢ key → get t'.slab k ≡ get t.slab k) where
  kept_links : (l : ℕ) (ks : List ℕ) → Lacks (suc key) ks → Same (tall t l) (next_at t l) (span_at t l) (tall t' l) (next_at t' l) (span_at t' l) ks
  kept_links l [] lacks = tt
  kept_links l (k ∷ ks) lacks =
      let e = same k (λ q. lacks.0 (ap suc (sym q))) in (
        ap (λ s. nat_lt l (length (links_of s))) e,
        ap (λ s. (get_or {A = Link} (links_of s) l no_link).next) e,
        ap (λ s. (get_or {A = Link} (links_of s) l no_link).span) e,
        kept_links l ks lacks.1,
      )

  pub level_elsewhere : (l : ℕ) (ks : List ℕ) → Lacks (suc key) ks → IsLevel t l ks → IsLevel t' l ks
  level_elsewhere l ks lacks row =
      let n : next_at t' l 0 ≡ next_at t l 0 = ap (λ h. (get_or {A = Link} h l no_link).next) head in
      let s : span_at t' l 0 ≡ span_at t l 0 = ap (λ h. (get_or {A = Link} h l no_link).span) head in
      moved (tall t l) (next_at t l) (span_at t l) (tall t' l) (next_at t' l) (span_at t' l) 0 0 0 0 ks row n (omega arith) (kept_links l ks lacks)

  kept_scores : (l : ℕ) (ks : List ℕ) → Lacks (suc key) ks → SameScores (tall t l) (score_at t l) (score_of t) (tall t' l) (score_at t' l) (score_of t') ks
  kept_scores l [] lacks = tt
  kept_scores l (k ∷ ks) lacks =
      let e = same k (λ q. lacks.0 (ap suc (sym q))) in (
        ap (λ s. nat_lt l (length (links_of s))) e,
        ap (λ s. (get_or {A = Link} (links_of s) l no_link).score) e,
        ap (λ s. (element_of s).0) e,
        kept_scores l ks lacks.1,
      )

  pub scored_elsewhere : (l : ℕ) (ks : List ℕ) → Lacks (suc key) ks → IsScored t l ks → IsScored t' l ks
  scored_elsewhere l ks lacks scored =
      let s : score_at t' l 0 ≡ score_at t l 0 = ap (λ h. (get_or {A = Link} h l no_link).score) head in
      still_held (tall t l) (score_at t l) (score_of t) (tall t' l) (score_at t' l) (score_of t') 0 0 ks scored s (kept_scores l ks lacks)

  pub tall_elsewhere : (ks : List ℕ) → Lacks (suc key) ks → AllTall (tall t 0) ks → AllTall (tall t' 0) ks
  tall_elsewhere [] lacks a = tt
  tall_elsewhere (k ∷ ks) lacks a = (ap (λ s. nat_lt 0 (length (links_of s))) (same k (λ q. lacks.0 (ap suc (sym q)))) ∙ a.0, tall_elsewhere ks lacks.1 a.1)

  pub elements_elsewhere : (ks : List ℕ) → Lacks (suc key) ks → map (element_at t') ks ≡ map (element_at t) ks
  elements_elsewhere [] lacks = refl
  elements_elsewhere (k ∷ ks) lacks = (let e = ap element_of (same k (λ q. lacks.0 (ap suc (sym q)))) in let r = elements_elsewhere ks lacks.1 in cc)

  pub linked_elsewhere : (ks : List ℕ) → t'.len ≡ t.len → Lacks (suc key) ks → LinkedAs t ks → LinkedAs t' ks
  linked_elsewhere ks len lacks l = record {
    rows = λ level lt. level_elsewhere level ks lacks (l.rows level lt);
    scored = λ level lt. scored_elsewhere level ks lacks (l.scored level lt);
    based = tall_elsewhere ks lacks l.based;
    distinct = l.distinct;
    counted = len ∙ l.counted;
    full_head = ap length head ∙ l.full_head;
    short = omega (arith, len, l.short);
  }

-- a tower without an entry is none of those in order
pub lacks_vacant : (t : Towers) (key : ℕ) (ks : List ℕ) → get t.slab key ≡ None → AllTall (tall t 0) ks → Lacks (suc key) ks
lacks_vacant t key [] none a = tt
lacks_vacant t key (k ∷ ks) none a = (
  (λ e. never (tall t 0 key) (let same : key ≡ k = omega arith in ap (λ n. tall t 0 n) same ∙ a.0) (ap (λ s. nat_lt 0 (length (links_of s))) none)),
  lacks_vacant t key ks none a.1,
)

elements_but : (t t' : Towers) (key : ℕ) (ks : List ℕ) → ((k : ℕ) → k ≢ key → element_at t' k ≡ element_at t k) → Lacks (suc key) ks → map (element_at t') ks ≡ map (element_at t) ks
elements_but t t' key [] same lacks = refl
elements_but t t' key (k ∷ ks) same lacks = (let e = same k (λ q. lacks.0 (ap suc (sym q))) in let r = elements_but t t' key ks same lacks.1 in cc)

-- a tower that was put beside the others has joined them
module _ (t0 t1 t2 : Towers) (key rank : ℕ) (element : Element) (linked : IsLinked t0) (a : Adds t0 t1 key element) (h : Threads t1 t2 key rank) (room : t0.len < 2 ^ 62) where
  abbrev pub longer : Towers
  longer = record t2 { len = t2.len + 1 }

  is_order : order t1 ≡ order t0
  is_order = ordered_as t1 (order t0) a.linked

  pub joined_as : LinkedAs longer (with_at (order t0) rank key)
  joined_as = record {
    rows = λ level lt. subst (λ ks. IsLevel t2 level (with_at ks rank key)) is_order (h.rows level lt);
    scored = λ level lt. subst (λ ks. IsScored t2 level (with_at ks rank key)) is_order (h.scored level lt);
    based = all_kept t1 t2 (with_at (order t0) rank key) h.keeps.heights
        (tall_with (tall t1 0) key (take rank (order t0)) (drop rank (order t0)) (subst (AllTall (tall t1 0)) (sym (take-append-drop rank (order t0))) a.linked.based) a.based);
    distinct = distinct_with key (take rank (order t0)) (drop rank (order t0)) (subst IsDistinct (sym (take-append-drop rank (order t0))) linked.distinct)
        (subst (Lacks (suc key)) (sym (take-append-drop rank (order t0))) a.fresh);
    counted = omega (arith, h.keeps.len, a.len, linked.counted, length_with (order t0) rank key);
    full_head = h.keeps.head ∙ a.linked.full_head;
    short = omega (arith, h.keeps.len, a.len, room);
  }

  pub joined_items : items longer ≡ with_at (items t0) rank element
  joined_items =
      ap (map (element_at longer)) (ordered_as longer (with_at (order t0) rank key) joined_as)
      ∙ ap (λ f. map f (with_at (order t0) rank key)) h.keeps.elements
      ∙ map_with (element_at t1) (order t0) rank key
      ∙ ap (λ xs. with_at xs rank (element_at t1 key)) (elements_but t0 t1 key (order t0) a.others a.fresh)
      ∙ ap (λ e. with_at (items t0) rank e) a.is

-- a tower that left every level is taken out
module _ (t0 t1 t2 : Towers) (key rank : ℕ) (linked : IsLinked t0) (h : Unthreads t0 t1 key rank) (lt : rank < length (order t0)) (at : get_or (order t0) rank 0 ≡ key)
    (head : t2.head ≡ t1.head) (same : (k : ℕ) → k ≢ key → get t2.slab k ≡ get t1.slab k) (len : suc t2.len ≡ t1.len) where
  is : order t0 ≡ take rank (order t0) ++ key ∷ drop (suc rank) (order t0)
  is = at_rank (order t0) rank key lt at

  apart_from : Lacks (suc key) (without_at (order t0) rank) × IsDistinct (without_at (order t0) rank)
  apart_from = distinct_without key (take rank (order t0)) (drop (suc rank) (order t0)) (subst IsDistinct is linked.distinct)

  pub left_fresh : Lacks (suc key) (without_at (order t0) rank)
  left_fresh = apart_from.0

  fewer : length (order t0) ≡ suc (length (without_at (order t0) rank))
  fewer =
      let a : length (order t0) ≡ length (take rank (order t0)) + suc (length (drop (suc rank) (order t0))) = ap length is ∙ length-append (take rank (order t0)) (key ∷ drop (suc rank) (order t0)) in
      omega (arith, a, length-append (take rank (order t0)) (drop (suc rank) (order t0)))

  pub left_as : LinkedAs t2 (without_at (order t0) rank)
  left_as = record {
    rows = λ level less. level_elsewhere t1 t2 key head same level (without_at (order t0) rank) apart_from.0 (h.rows level less);
    scored = λ level less. scored_elsewhere t1 t2 key head same level (without_at (order t0) rank) apart_from.0 (h.scored level less);
    based = tall_elsewhere t1 t2 key head same (without_at (order t0) rank) apart_from.0
        (all_kept t0 t1 (without_at (order t0) rank) h.keeps.heights
        (tall_without (tall t0 0) key (take rank (order t0)) (drop (suc rank) (order t0)) (subst (AllTall (tall t0 0)) is linked.based)));
    distinct = apart_from.1;
    counted = omega (arith, len, h.keeps.len, linked.counted, fewer);
    full_head = ap length head ∙ h.keeps.head ∙ linked.full_head;
    short = omega (arith, len, h.keeps.len, linked.short);
  }

  pub left_items : items t2 ≡ without_at (items t0) rank
  left_items =
      ap (map (element_at t2)) (ordered_as t2 (without_at (order t0) rank) left_as)
      ∙ elements_elsewhere t1 t2 key head same (without_at (order t0) rank) apart_from.0
      ∙ ap (λ f. map f (without_at (order t0) rank)) h.keeps.elements
      ∙ map_without (element_at t0) (order t0) rank

occupied : (o : Option Tower) → nat_lt 0 (length (links_of o)) ≡ true → IsSome o
occupied None e = absurd (omega (arith, ltb-true 0 0 e))
occupied (Some t) e = refl

-- a tower in order has an entry
pub has_entry : (t : Towers) (ks : List ℕ) (rank key : ℕ) → AllTall (tall t 0) ks → rank < length ks → get_or ks rank 0 ≡ key → IsSome (get t.slab key)
has_entry t [] rank key a lt is = absurd (omega arith)
has_entry t (k ∷ ks) zero key a lt is = occupied (get t.slab key) (ap (λ n. tall t 0 n) (sym is) ∙ a.0)
has_entry t (k ∷ ks) (suc rank) key a lt is = has_entry t ks rank key a.1 (omega arith) is
