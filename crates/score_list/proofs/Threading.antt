-- A tower joins or leaves one level after the other, from the highest down.
use Rattle.std.proofs.Common.{◌≡◌, ◌≢◌, ℕ, suc, ◌+◌, ◌-◌, ◌<◌, ◌≤◌, ℤ, Bool, true, false, nat_lt, List, [], ◌∷◌, ◌++◌, length, take, drop, get_or, refl, sym, ap, ◌∙◌, subst, length-append}
use Rattle.std.proofs.Common.{length-take-le, drop-cons, ltb-true, ltb-false, lt-ltb, arith, ◌⊎◌, inl, inr}
use Rattle.std.proofs.Math.Path.{fun_ext}
use Rattle.std.proofs.lemmas.List.{take-append-drop}
use Rattle.score_list.specs.declared.towers.Towers.{Towers}
use Rattle.score_list.specs.Rows.{IsRow, Holds, Reaches, Stands, Lacks, IsDistinct, AllTall}
use Rattle.score_list.specs.Rows.Stands.{at_head, at_tower}
use Rattle.score_list.specs.Linked.{Element, links_at, link_at, next_at, span_at, score_at, score_of, height_at, element_at, tall, chain, order, IsLevel, IsScored, LinkedAs}
use Rattle.score_list.specs.Linked.{Arrives, Keeps, Hangs, Unhangs}
use Rattle.score_list.specs.Linked.{HangsScore, UnhangsScore, with_at, without_at}
use Rattle.score_list.proofs.Moved.{never, beyond, within, row_on, reach_stands, reached_other, decide}
use Rattle.score_list.proofs.Edited.{joined, left}
use Rattle.score_list.proofs.Places.{chain_is}
use Rattle.score_list.proofs.Holding.{joined_held, left_held}

pub lower : (h level j : ℕ) → j < level → nat_lt level h ≡ true → nat_lt j h ≡ true
lower h level j lt e = (let a : level < h = ltb-true level h e in lt-ltb j h (omega arith))

pub lacks_head : (ks : List ℕ) → Lacks 0 ks
lacks_head [] = tt
lacks_head (k ∷ ks) = ((λ e. absurd (omega arith)), lacks_head ks)

module _ (tall : ℕ → Bool) (next span : ℕ → ℕ) where
  -- the row behind the last owner in front
  pub row_reached : (front back : List ℕ) (o d last left : ℕ) → Reaches tall front o d last left → IsRow tall next span o d (front ++ back) → IsRow tall next span last left back
  row_reached [] back o d last left r row = subst (λ n. IsRow tall next span n left back) (sym r.0) (subst (λ n. IsRow tall next span o n back) (sym r.1) row)
  row_reached (k ∷ ks) back o d last left (inl r) (inl w) = row_reached ks back (suc k) 0 last left r.1 w.3
  row_reached (k ∷ ks) back o d last left (inl r) (inr w) = never (tall k) r.0 w.0
  row_reached (k ∷ ks) back o d last left (inr r) (inl w) = never (tall k) w.0 r.0
  row_reached (k ∷ ks) back o d last left (inr r) (inr w) = row_reached ks back o (suc d) last left r.1 w.1

-- the same towers reach a level
pub tall_kept : (t t' : Towers) → height_at t' ≡ height_at t → (l : ℕ) → tall t' l ≡ tall t l
tall_kept t t' h l = (let F : (ℕ → ℕ) → ℕ → Bool = λ f k. nat_lt l (f k) in ap F h)

-- the towers have the same scores
pub scores_kept : (t t' : Towers) → element_at t' ≡ element_at t → score_of t' ≡ score_of t
scores_kept t t' m = (let F : (ℕ → Element) → ℕ → ℤ = λ f k. (f k).0 in ap F m)

-- a level whose links lead where they led
pub row_kept : (t t' : Towers) (l : ℕ) (ks : List ℕ) → height_at t' ≡ height_at t → ((o : ℕ) → next_at t' l o ≡ next_at t l o) → ((o : ℕ) → span_at t' l o ≡ span_at t l o) → IsLevel t l ks
    → IsLevel t' l ks
row_kept t t' l ks h nexts spans r =
    let n : next_at t' l ≡ next_at t l = fun_ext nexts in
    let s : span_at t' l ≡ span_at t l = fun_ext spans in
    let w : tall t' l ≡ tall t l = tall_kept t t' h l in
    subst (λ f. IsRow f (next_at t' l) (span_at t' l) 0 0 ks) (sym w) (subst (λ f. IsRow (tall t l) f (span_at t' l) 0 0 ks) (sym n) (subst (λ f. IsRow (tall t l) (next_at t l) f 0 0 ks) (sym s) r))

-- a level of which no link changes
pub level_kept : (t t' : Towers) (l : ℕ) (ks : List ℕ) → height_at t' ≡ height_at t → ((o : ℕ) → link_at t' l o ≡ link_at t l o) → IsLevel t l ks → IsLevel t' l ks
level_kept t t' l ks h e r = row_kept t t' l ks h (λ o. ap (λ x. x.next) (e o)) (λ o. ap (λ x. x.span) (e o)) r

pub scored_kept : (t t' : Towers) (l : ℕ) (ks : List ℕ) → height_at t' ≡ height_at t → score_of t' ≡ score_of t → ((o : ℕ) → link_at t' l o ≡ link_at t l o) → IsScored t l ks → IsScored t' l ks
scored_kept t t' l ks h a e r =
    let s : score_at t' l ≡ score_at t l = fun_ext (λ o. ap (λ x. x.score) (e o)) in
    let w : tall t' l ≡ tall t l = tall_kept t t' h l in
    subst (λ f. Holds f (score_at t' l) (score_of t') 0 ks) (sym w) (subst (λ f. Holds (tall t l) f (score_of t') 0 ks) (sym s) (subst (λ f. Holds (tall t l) (score_at t l) f 0 ks) (sym a) r))

-- the towers stand in this order
pub order_is : (t : Towers) (ks : List ℕ) → AllTall (tall t 0) ks → IsLevel t 0 ks → t.len ≡ length ks → order t ≡ ks
order_is t ks all row len = ap (λ n. chain (next_at t 0) n (next_at t 0 0)) len ∙ chain_is (tall t 0) (next_at t 0) (span_at t 0) 0 0 ks all row

pub all_kept : (t t' : Towers) (ks : List ℕ) → height_at t' ≡ height_at t → AllTall (tall t 0) ks → AllTall (tall t' 0) ks
all_kept t t' ks h all = subst (λ f. AllTall f ks) (sym (tall_kept t t' h 0)) all

-- an owner that stands on a level reaches it
pub reaches_of : (t : Towers) (l : ℕ) (front : List ℕ) (o : ℕ) (rest : List ℕ) → Stands (tall t l) front o rest → l < length t.head → l < length (links_at t o)
reaches_of t l front o rest (at_head is_o is_rest) lt = subst (λ n. l < length (links_at t n)) (sym is_o) lt
reaches_of t l front o rest (at_tower before k e is_o is) lt = subst (λ n. l < length (links_at t n)) (sym is_o) (ltb-true l (height_at t k) e)

module _ (t0 : Towers) (ks ks' : List ℕ) (rank : ℕ) where
  -- the levels from one on are edited, and those below it are as they were
  pub record Editing (t : Towers) (level : ℕ) : Type 0 where
    pub keeps : Keeps t0 t
    pub bound : level ≤ 16
    pub low : (j : ℕ) → j < level → IsLevel t j ks
    pub high : (j : ℕ) → level ≤ j → j < 16 → IsLevel t j ks'
    pub low_scored : (j : ℕ) → j < level → IsScored t j ks
    pub high_scored : (j : ℕ) → level ≤ j → j < 16 → IsScored t j ks'

  pub begun : LinkedAs t0 ks → Editing t0 16
  begun linked = record {
    keeps = record { heights = refl; elements = refl; len = refl; head = refl };
    bound = omega arith;
    low = λ j lt. linked.rows j lt;
    high = λ j le lt. absurd (omega arith);
    low_scored = λ j lt. linked.scored j lt;
    high_scored = λ j le lt. absurd (omega arith);
  }

  pub some_level : (t : Towers) (level : ℕ) → 0 < level → Editing t level → Editing t (suc (level - 1))
  some_level t level lt e = (let is : level ≡ suc (level - 1) = omega arith in subst (λ n. Editing t n) is e)

  module _ (t : Towers) (j : ℕ) (linked : LinkedAs t0 ks) (e : Editing t (suc j)) where
    tall_is : tall t j ≡ tall t0 j
    tall_is = tall_kept t0 t e.keeps.heights j

    pub head_is : length t.head ≡ 16
    head_is = e.keeps.head ∙ linked.full_head

    module _ (last past : ℕ) (a : Arrives t0 j rank last past) where
      pub arrives : Reaches (tall t j) (take rank ks) 0 0 last a.0
      arrives =
          subst (λ f. Reaches f (take rank ks) 0 0 last a.0) (sym tall_is)
          (subst (λ xs. Reaches (tall t0 j) (take rank xs) 0 0 last a.0) (order_is t0 ks linked.based (linked.rows 0 (omega arith)) linked.counted) a.1)

      pub left_is : a.0 ≡ rank - past
      left_is = omega (arith, a.2)

      pub row_behind : IsRow (tall t j) (next_at t j) (span_at t j) last a.0 (drop rank ks)
      row_behind = row_reached (tall t j) (next_at t j) (span_at t j) (take rank ks) (drop rank ks) 0 0 last a.0 arrives (subst (IsLevel t j) (sym (take-append-drop rank ks)) (e.low j (omega arith)))

      pub last_reaches : j < length (links_at t last)
      last_reaches =
          let s = reach_stands (tall t j) (take rank ks) last a.0 arrives in
          reaches_of t j (take rank ks) last s.0 s.1 (omega (arith, head_is, e.bound))

      pub goes_past : rank - past < span_at t j last
      goes_past = omega (arith, a.2, beyond (tall t j) (next_at t j) (span_at t j) last a.0 (drop rank ks) row_behind)

      pub reached_apart : (key : ℕ) → Lacks (suc key) ks → suc key ≢ last
      reached_apart key lacks = reached_other (tall t j) (suc key) (take rank ks) (drop rank ks) 0 0 last a.0 arrives (λ e. absurd (omega arith))
          (subst (Lacks (suc key)) (sym (take-append-drop rank ks)) lacks)

      whole : length (take rank ks) + length (drop rank ks) ≡ length ks
      whole = sym (length-append (take rank ks) (drop rank ks)) ∙ ap length (take-append-drop rank ks)

      pub span_fits : rank ≤ length ks → span_at t j last ≤ suc (length ks)
      span_fits le = omega (arith, a.2, whole, length-take-le rank ks le, within (tall t j) (next_at t j) (span_at t j) last a.0 (drop rank ks) row_behind)

      at_level : (t' : Towers) → Keeps t t' → ((l o : ℕ) → l ≢ j → link_at t' l o ≡ link_at t l o) → IsLevel t' j ks' → (l : ℕ) → j ≤ l → l < 16 → IsLevel t' l ks'
      at_level t' k others row l le lt = here (decide (nat_lt j l))
        where
          here : (nat_lt j l ≡ true) ⊎ (nat_lt j l ≡ false) → IsLevel t' l ks'
          here (inl h) = (let more : j < l = ltb-true j l h in level_kept t t' l ks' k.heights (λ o. others l o (λ q. absurd (omega arith))) (e.high l (omega arith) lt))
          here (inr h) = (let same : j ≡ l = omega (arith, ltb-false j l h) in subst (λ n. IsLevel t' n ks') same row)

      scored_at : (t' : Towers) → Keeps t t' → ((l o : ℕ) → l ≢ j → link_at t' l o ≡ link_at t l o) → IsScored t' j ks' → (l : ℕ) → j ≤ l → l < 16 → IsScored t' l ks'
      scored_at t' k others scored l le lt = here (decide (nat_lt j l))
        where
          here : (nat_lt j l ≡ true) ⊎ (nat_lt j l ≡ false) → IsScored t' l ks'
          here (inl h) =
              (let more : j < l = ltb-true j l h in scored_kept t t' l ks' k.heights (scores_kept t t' k.elements) (λ o. others l o (λ q. absurd (omega arith))) (e.high_scored l (omega arith) lt))
          here (inr h) = (let same : j ≡ l = omega (arith, ltb-false j l h) in subst (λ n. IsScored t' n ks') same scored)

      -- one level more is edited
      pub edited : (t' : Towers) → Keeps t t' → ((l o : ℕ) → l ≢ j → link_at t' l o ≡ link_at t l o) → IsLevel t' j ks' → IsScored t' j ks' → Editing t' j
      edited t' k others row scored =
          record {
            keeps = record { heights = k.heights ∙ e.keeps.heights; elements = k.elements ∙ e.keeps.elements; len = k.len ∙ e.keeps.len; head = k.head ∙ e.keeps.head };
            bound = omega (arith, e.bound);
            low = λ l lt. level_kept t t' l ks k.heights (λ o. others l o (λ q. absurd (omega arith))) (e.low l (omega arith));
            high = λ l le lt. at_level t' k others row l le lt;
            low_scored = λ l lt. scored_kept t t' l ks k.heights (scores_kept t t' k.elements) (λ o. others l o (λ q. absurd (omega arith))) (e.low_scored l (omega arith));
            high_scored = λ l le lt. scored_at t' k others scored l le lt;
          }

-- the row that a tower joined
pub hung_row : (t t' : Towers) (ks : List ℕ) (rank j key last past : ℕ) → Hangs t t' j key last past → Reaches (tall t j) (take rank ks) 0 0 last past → IsLevel t j ks → Lacks (suc key) ks
    → IsDistinct ks → IsLevel t' j (with_at ks rank key)
hung_row t t' ks rank j key last past h r row lacks dist =
    let is = sym (take-append-drop rank ks) in
    let w : tall t' j ≡ tall t j = tall_kept t t' h.keeps.heights j in
    subst (λ f. IsRow f (next_at t' j) (span_at t' j) 0 0 (with_at ks rank key)) (sym w)
    (joined (tall t j) (next_at t j) (span_at t j) (next_at t' j) (span_at t' j) key (take rank ks) (drop rank ks) 0 0 last past h.hung (subst (IsLevel t j) is row) r
    (λ e. absurd (omega arith)) (subst (Lacks (suc key)) is lacks) (lacks_head (take rank ks ++ drop rank ks)) (subst IsDistinct is dist))

-- the scores in its links
pub hung_scored : (t t' : Towers) (ks : List ℕ) (rank j key last past : ℕ) → HangsScore t t' j key last → Keeps t t' → Reaches (tall t j) (take rank ks) 0 0 last past → IsScored t j ks
    → Lacks (suc key) ks → IsDistinct ks → IsScored t' j (with_at ks rank key)
hung_scored t t' ks rank j key last past h keeps r scored lacks dist =
    let is = sym (take-append-drop rank ks) in
    let w : tall t' j ≡ tall t j = tall_kept t t' keeps.heights j in
    let a : score_of t' ≡ score_of t = scores_kept t t' keeps.elements in
    subst (λ f. Holds f (score_at t' j) (score_of t') 0 (with_at ks rank key)) (sym w)
    (subst (λ f. Holds (tall t j) (score_at t' j) f 0 (with_at ks rank key)) (sym a)
    (joined_held (tall t j) (score_at t j) (score_of t) (score_at t' j) key (take rank ks) (drop rank ks) 0 0 last past h (subst (IsScored t j) is scored) r (λ e. absurd (omega arith))
    (subst (Lacks (suc key)) is lacks) (lacks_head (take rank ks ++ drop rank ks)) (subst IsDistinct is dist)))

pub at_rank : (ks : List ℕ) (rank key : ℕ) → rank < length ks → get_or ks rank 0 ≡ key → ks ≡ take rank ks ++ key ∷ drop (suc rank) ks
at_rank ks rank key lt is = sym (take-append-drop rank ks) ∙ ap (λ xs. take rank ks ++ xs) (drop-cons ks rank 0 lt ∙ ap (λ k. k ∷ drop (suc rank) ks) is)

-- the row that a tower left
pub unhung_row : (t t' : Towers) (ks : List ℕ) (rank j key last passed : ℕ) → Unhangs t t' j key last passed → Reaches (tall t j) (take rank ks) 0 0 last passed → IsLevel t j ks
    → rank < length ks → get_or ks rank 0 ≡ key → IsDistinct ks → IsLevel t' j (without_at ks rank)
unhung_row t t' ks rank j key last passed h r row lt at dist =
    let is = at_rank ks rank key lt at in
    let w : tall t' j ≡ tall t j = tall_kept t t' h.keeps.heights j in
    subst (λ f. IsRow f (next_at t' j) (span_at t' j) 0 0 (without_at ks rank)) (sym w)
    (left (tall t j) (next_at t j) (span_at t j) (next_at t' j) (span_at t' j) key (take rank ks) (drop (suc rank) ks) 0 0 last passed h.unhung (subst (IsLevel t j) is row) r
    (lacks_head (take rank ks ++ key ∷ drop (suc rank) ks)) (subst IsDistinct is dist))

-- the scores in its links
pub unhung_scored : (t t' : Towers) (ks : List ℕ) (rank j key last passed : ℕ) → UnhangsScore t t' j key last → Keeps t t' → Reaches (tall t j) (take rank ks) 0 0 last passed → IsScored t j ks
    → rank < length ks → get_or ks rank 0 ≡ key → IsDistinct ks → IsScored t' j (without_at ks rank)
unhung_scored t t' ks rank j key last passed h keeps r scored lt at dist =
    let is = at_rank ks rank key lt at in
    let w : tall t' j ≡ tall t j = tall_kept t t' keeps.heights j in
    let a : score_of t' ≡ score_of t = scores_kept t t' keeps.elements in
    subst (λ f. Holds f (score_at t' j) (score_of t') 0 (without_at ks rank)) (sym w)
    (subst (λ f. Holds (tall t j) (score_at t' j) f 0 (without_at ks rank)) (sym a)
    (left_held (tall t j) (score_at t j) (score_of t) (score_at t' j) key (take rank ks) (drop (suc rank) ks) 0 0 last passed h (subst (IsScored t j) is scored) r
    (lacks_head (take rank ks ++ key ∷ drop (suc rank) ks)) (subst IsDistinct is dist)))

-- the span of a tower at a rank
pub span_there : (t : Towers) (ks : List ℕ) (rank j key : ℕ) → IsLevel t j ks → rank < length ks → get_or ks rank 0 ≡ key → tall t j key ≡ true → span_at t j (suc key) + rank ≤ length ks
span_there t ks rank j key row lt at e =
    let is = at_rank ks rank key lt at in
    let r = row_on (tall t j) (next_at t j) (span_at t j) (take rank ks) key (drop (suc rank) ks) 0 0 e (subst (IsLevel t j) is row) in
    let all : length ks ≡ length (take rank ks) + suc (length (drop (suc rank) ks)) = ap length is ∙ length-append (take rank ks) (key ∷ drop (suc rank) ks) in
    omega (arith, all, length-take-le rank ks (omega arith), within (tall t j) (next_at t j) (span_at t j) (suc key) 0 (drop (suc rank) ks) r)
