-- What is seen at watched keys, by a desk and in a plain room.
use Rattle.std.proofs.Common.{◌≡◌, inl, inr, ℕ, zero, suc, ◌<◌, ◌≤◌, true, false, List, [], ◌∷◌, ◌++◌, length, map, Option, None, Some, refl, sym, ap, ◌∙◌, subst, arith}
use Rattle.std.specs.Prelude.{◌≢◌, ◌⊎◌, slice_index_or}
use Rattle.std.specs.List.{AllByRecursion, Contains, All}
use Rattle.std.proofs.lemmas.Bool.{cond-true, cond-false, cases_Bool, le-leb, leb-true}
use Rattle.plain_world.proofs.Containing.{contains_first, contains_later, contains_cases}
use Rattle.plain_world.proofs.Lives.{shown, live_later, look_live}
use Rattle.plain_world.specs.Worlds.{World, Entry, in_time, live, look, look_in, selecting}
use Rattle.plain_sessions.specs.Transactions.{Watched, noting, HasChanged}
use Rattle.plain_sessions.specs.Transactions as plain
use Rattle.session_desk.specs.Kept.{Look, no_look}
use Rattle.session_desk.specs.Watching.{watch, IsChange, HasMoved, IsStill}
use Rattle.session_desk.specs.Desks.{Glances, left_out, looked}
use Rattle.session_desk.specs.Rooms.{IsGone, WasOther, AreFirst, StillStands, SameWatch, SameWatches}

-- ---- as time passes

-- what is seen later is what is seen now, or that is gone
later_look : (world : World) (first second db : ℕ) (key : List ℕ) → first ≤ second → look_in (live world second) db key ≡ shown second (look_in (live world first) db key)
later_look world first second db key before =
    ap (λ w. look_in w db key) (sym (live_later world first second before)) ∙ look_live (selecting (live world first) db) second key

-- what is in time later is so before
in_time_before : (first second : ℕ) → first ≤ second → (deadline : Option ℕ) → in_time second deadline ≡ true → in_time first deadline ≡ true
in_time_before first second before None late = refl
in_time_before first second before (Some deadline) late = le-leb first deadline (omega (arith, before, leb-true second deadline late))

-- what is gone stays so
gone_later : (first second : ℕ) (seen : Option Entry) → first ≤ second → IsGone first seen → IsGone second seen
gone_later first second seen before g = record { entry = g.entry; is = g.is; late = late }
  where
    late : in_time second g.entry.deadline ≡ false
    late = elim (cases_Bool (in_time second g.entry.deadline)) [
      | inl is_so ↦ absurd (let was : in_time first g.entry.deadline ≡ true = in_time_before first second before g.entry.deadline is_so in let not : in_time first g.entry.deadline ≡ false = g.late in cc)
      | inr isnt ↦ isnt
    ]

-- what stood somewhere is seen at the moment, or gone
shown_or_gone : (moment : ℕ) (seen : Option Entry) → (shown moment seen ≡ seen) ⊎ IsGone moment seen
shown_or_gone moment None = inl refl
shown_or_gone moment (Some entry) = elim (cases_Bool (in_time moment entry.deadline)) [
  | inl is_so ↦ inl (cond-true _ _ _ is_so)
  | inr isnt ↦ inr (record { entry = entry; is = refl; late = isnt })
]

-- what is shown at a moment is in time
shown_late : (moment : ℕ) (o : Option Entry) (entry : Entry) → shown moment o ≡ Some entry → in_time moment entry.deadline ≡ false → ⊥
shown_late moment None entry e late = absurd cc
shown_late moment (Some other) entry e late = elim (cases_Bool (in_time moment other.deadline)) [
  | inl is_so ↦ (let it : Some other ≡ Some entry = sym (cond-true _ _ _ is_so) ∙ e in
      let same : other ≡ entry = cc in
      let isnt : in_time moment other.deadline ≡ false = ap (λ (x : Entry). in_time moment x.deadline) same ∙ late in cc)
  | inr isnt ↦ (let it : None ≡ Some entry = sym (cond-false _ _ _ isnt) ∙ e in cc)
]

-- what is gone is not seen
not_seen : (world : World) (moment db : ℕ) (key : List ℕ) (first : Option Entry) → IsGone moment first → look_in (live world moment) db key ≢ first
not_seen world moment db key first gone same =
    shown_late moment (look (selecting world db) key) gone.entry (sym (look_live (selecting world db) moment key) ∙ same ∙ gone.is) gone.late

-- what still stands at a watched key does so later
stands_later : (world : World) (first second : ℕ) (one : Look) → first ≤ second → StillStands (look_in (live world first)) first one → StillStands (look_in (live world second)) second one
stands_later world first second one before (inr gone) = inr (gone_later first second one.first before gone)
stands_later world first second one before (inl same) = elim (shown_or_gone second one.first) [
  | inl stays ↦ inl (later_look world first second one.db one.key before ∙ ap (shown second) same ∙ stays)
  | inr gone ↦ inr gone
]

-- ---- lists

module _ {A : Type 0} where
  -- an element doesn't depend on what stands for those that aren't there
  any_default : (xs : List A) (i : ℕ) (d e : A) → i < length xs → slice_index_or xs i d ≡ slice_index_or xs i e
  any_default [] i d e below = absurd (omega (arith, below))
  any_default (x ∷ xs) zero d e below = refl
  any_default (x ∷ xs) (suc i) d e below = any_default xs i d e (omega (arith, below))

  -- the element at a place is one
  contains_at : (xs : List A) (i : ℕ) (d : A) → i < length xs → Contains xs (slice_index_or xs i d)
  contains_at xs i d below = (i, below, any_default xs i (slice_index_or xs i d) d below)

  contains_none : (x : A) → Contains [] x → ⊥
  contains_none x c = let below : c.0 < 0 = c.1 in absurd (omega (arith, below))

  contains_behind : (xs ys : List A) (y : A) → Contains ys y → Contains (xs ++ ys) y
  contains_behind [] ys y c = c
  contains_behind (x ∷ xs) ys y c = contains_later x y (xs ++ ys) (contains_behind xs ys y c)

  contains_before : (xs ys : List A) (x : A) → Contains xs x → Contains (xs ++ ys) x
  contains_before [] ys x c = absurd (contains_none x c)
  contains_before (y ∷ xs) ys x c = elim (contains_cases y x xs c) [
    | inl same ↦ subst (λ (z : A). Contains (y ∷ xs ++ ys) z) same (contains_first y (xs ++ ys))
    | inr more ↦ contains_later y x (xs ++ ys) (contains_before xs ys x more)
  ]

  contains_either : (xs ys : List A) (x : A) → Contains (xs ++ ys) x → Contains xs x ⊎ Contains ys x
  contains_either [] ys x c = inr c
  contains_either (y ∷ xs) ys x c = elim (contains_cases y x (xs ++ ys) c) [
    | inl same ↦ inl (subst (λ (z : A). Contains (y ∷ xs) z) same (contains_first y xs))
    | inr more ↦ elim (contains_either xs ys x more) [
      | inl front ↦ inl (contains_later y x xs front)
      | inr back ↦ inr back
    ]
  ]

module _ {A B : Type 0} (f : A → B) where
  pub contains_map : (xs : List A) (x : A) → Contains xs x → Contains (map f xs) (f x)
  contains_map [] x c = absurd (contains_none x c)
  contains_map (y ∷ xs) x c = elim (contains_cases y x xs c) [
    | inl same ↦ subst (λ (z : A). Contains (f y ∷ map f xs) (f z)) same (contains_first (f y) (map f xs))
    | inr more ↦ contains_later (f y) (f x) (map f xs) (contains_map xs x more)
  ]

  -- what stands in the image is the image of something
  contains_mapped : (xs : List A) (y : B) → Contains (map f xs) y → (x : A) × Contains xs x × (f x ≡ y)
  contains_mapped [] y c = absurd (contains_none y c)
  contains_mapped (x ∷ xs) y c = elim (contains_cases (f x) y (map f xs) c) [
    | inl same ↦ (x, contains_first x xs, same)
    | inr more ↦ (let m = contains_mapped xs y more in (m.0, contains_later x m.0 xs m.1, m.2))
  ]

all_contain : {A : Type 0} (P : A → Type 0) (xs : List A) (x : A) → AllByRecursion P xs → Contains xs x → P x
all_contain P [] x all c = absurd (contains_none x c)
all_contain P (y ∷ xs) x all c = elim (contains_cases y x xs c) [
  | inl same ↦ subst P same all.0
  | inr more ↦ all_contain P xs x all.1 more
]

-- ---- one watched key

-- what was other stays so where more is noted
seen_more : (found : World) (w : Watched) → WasOther w → WasOther (noting found w)
seen_more found w o = record { entry = o.entry; seen = contains_later _ _ _ o.seen; other = o.other }

-- where something else is seen now, it is noted
seen_now : (found : World) (w : Watched) → look_in found w.db w.key ≢ w.first → WasOther (noting found w)
seen_now found w differs = record { entry = look_in found w.db w.key; seen = contains_first _ _; other = differs }

-- a look at a key of a desk is one at the key that it is
module _ (sees : ℕ → List ℕ → Option Entry) (before : ℕ → List ℕ → Option Entry) (moment : ℕ) (one : Look) (w : Watched) (s : SameWatch before moment one w) where
  same_look : sees w.db w.key ≡ sees one.db one.key
  same_look = ap (λ db. sees db w.key) (sym s.db) ∙ ap (λ key. sees one.db key) (sym s.key)

-- before a request only time has passed
aged : (world found : World) (first moment : ℕ) → first ≤ moment → ((db : ℕ) (key : List ℕ) → look_in found db key ≡ look_in (live world moment) db key)
    → (one : Look) (w : Watched) → SameWatch (look_in (live world first)) first one w → SameWatch (look_in (live world moment)) moment one (noting found w)
aged world found first moment later alike one w s = record {
  db = s.db;
  key = s.key;
  first = s.first;
  changed = λ is_so. seen_more found w (s.changed is_so);
  same = λ isnt. still (s.same isnt) (now isnt);
  stands = now;
}
  where
    now : one.changed ≡ false → StillStands (look_in (live world moment)) moment one
    now isnt = stands_later world first moment one later (s.stands isnt)

    here : look_in found w.db w.key ≡ look_in (live world moment) one.db one.key
    here = alike w.db w.key ∙ same_look (look_in (live world moment)) (look_in (live world first)) first one w s

    still : AreFirst w ⊎ IsGone first w.first → StillStands (look_in (live world moment)) moment one → AreFirst (noting found w) ⊎ IsGone moment w.first
    still (inr gone) it = inr (gone_later first moment w.first later gone)
    still (inl all) (inr gone) = inr (subst (IsGone moment) s.first gone)
    still (inl all) (inl same) = inl (here ∙ same ∙ s.first, all)

-- behind it a key is looked at, or left out as the same stands there
module _ (before after : ℕ → List ℕ → Option Entry) (moment : ℕ) (found : World) (alike : (db : ℕ) (key : List ℕ) → look_in found db key ≡ after db key) where
  glanced : (one new : Look) (w : Watched) → SameWatch before moment one w → Glances before after one new → SameWatch after moment new (noting found w)
  glanced one new w s (left_out stays is) = subst (λ (x : Look). SameWatch after moment x (noting found w)) (sym is) (record {
    db = s.db;
    key = s.key;
    first = s.first;
    changed = λ is_so. seen_more found w (s.changed is_so);
    same = λ isnt. still (s.same isnt) (now (s.stands isnt));
    stands = λ isnt. now (s.stands isnt);
  })
    where
      now : StillStands before moment one → StillStands after moment one
      now (inl same) = inl (stays ∙ same)
      now (inr gone) = inr gone

      here : look_in found w.db w.key ≡ after one.db one.key
      here = alike w.db w.key ∙ same_look after before moment one w s

      still : AreFirst w ⊎ IsGone moment w.first → StillStands after moment one → AreFirst (noting found w) ⊎ IsGone moment w.first
      still (inr gone) it = inr gone
      still (inl all) (inr gone) = inr (subst (IsGone moment) s.first gone)
      still (inl all) (inl same) = inl (here ∙ same ∙ s.first, all)
  glanced one new w s (looked l) = record {
    db = db ∙ s.db;
    key = key ∙ s.key;
    first = first ∙ s.first;
    changed = λ is_so. elim (subst (IsChange after one) is_so l.told) [
      | inl was ↦ seen_more found w (s.changed was)
      | inr differs ↦ seen_now found w (λ e. differs (sym here ∙ e ∙ sym s.first))
    ];
    same = λ isnt. still (subst (IsChange after one) isnt l.told);
    stands = λ isnt. inl (ap (λ d. after d new.key) db ∙ ap (λ k. after one.db k) key ∙ (subst (IsChange after one) isnt l.told).1 ∙ sym first);
  }
    where
      db : new.db ≡ one.db
      db = ap (λ (x : Look). x.db) l.is

      key : new.key ≡ one.key
      key = ap (λ (x : Look). x.key) l.is

      first : new.first ≡ one.first
      first = ap (λ (x : Look). x.first) l.is

      here : look_in found w.db w.key ≡ after one.db one.key
      here = alike w.db w.key ∙ same_look after before moment one w s

      still : (one.changed ≡ false) × (after one.db one.key ≡ one.first) → AreFirst (noting found w) ⊎ IsGone moment w.first
      still c = elim (s.same c.0) [
        | inl all ↦ inl (here ∙ c.1 ∙ s.first, all)
        | inr gone ↦ inr gone
      ]

-- ---- all of a session

-- where the one and the other are related to keys that agree, all agree again
all_noted : (sees sees' : ℕ → List ℕ → Option Entry) (moment moment' : ℕ) (found : World) (R : Look → Look → Type 0)
    → ((one new : Look) (w : Watched) → SameWatch sees moment one w → R one new → SameWatch sees' moment' new (noting found w))
    → (olds news : List Look) (ws : List Watched) → length news ≡ length olds
    → ((k : ℕ) → k < length olds → R (slice_index_or olds k no_look) (slice_index_or news k no_look))
    → SameWatches sees moment olds ws → SameWatches sees' moment' news (map (noting found) ws)
all_noted sees sees' moment moment' found R step olds news ws many each s = record {
  kept_are = λ one c.
      let below : c.0 < length olds = omega (arith, c.1, many) in
      let old = slice_index_or olds c.0 no_look in
      let partner = s.kept_are old (contains_at olds c.0 no_look below) in
      let is : slice_index_or news c.0 no_look ≡ one = any_default news c.0 no_look one c.1 ∙ c.2 in
      (noting found partner.0, contains_map (noting found) ws partner.0 partner.1, step old one partner.0 partner.2 (subst (λ (x : Look). R old x) is (each c.0 below)));
  are_kept = λ w c.
      let m = contains_mapped (noting found) ws w c in
      let partner = s.are_kept m.0 m.1 in
      let at = partner.1 in
      let below : at.0 < length news = omega (arith, at.1, many) in
      let new = slice_index_or news at.0 no_look in
      let is : slice_index_or olds at.0 no_look ≡ partner.0 = any_default olds at.0 no_look partner.0 at.1 ∙ at.2 in
      (new, contains_at news at.0 no_look below, subst (λ (x : Watched). SameWatch sees' moment' new x) m.2 (step partner.0 new m.0 partner.2 (subst (λ (x : Look). R x new) is (each at.0 at.1))));
}

-- before a request only time has passed at all of them
pub all_aged : (world found : World) (first moment : ℕ) → first ≤ moment → ((db : ℕ) (key : List ℕ) → look_in found db key ≡ look_in (live world moment) db key)
    → (ones : List Look) (ws : List Watched) → SameWatches (look_in (live world first)) first ones ws → SameWatches (look_in (live world moment)) moment ones (map (noting found) ws)
all_aged world found first moment later alike ones ws s =
    all_noted (look_in (live world first)) (look_in (live world moment)) first moment found (λ one new. new ≡ one)
    (λ one new w same is. subst (λ (x : Look). SameWatch (look_in (live world moment)) moment x (noting found w)) (sym is) (aged world found first moment later alike one w same))
    ones ones ws refl (λ k below. refl) s

-- and behind it all are looked at, or left out
pub all_glanced : (before after : ℕ → List ℕ → Option Entry) (moment : ℕ) (found : World) → ((db : ℕ) (key : List ℕ) → look_in found db key ≡ after db key)
    → (olds news : List Look) (ws : List Watched) → length news ≡ length olds
    → ((k : ℕ) → k < length olds → Glances before after (slice_index_or olds k no_look) (slice_index_or news k no_look))
    → SameWatches before moment olds ws → SameWatches after moment news (map (noting found) ws)
all_glanced before after moment found alike olds news ws many each s =
    all_noted before after moment moment found (Glances before after) (glanced before after moment found alike) olds news ws many each s

-- keys that are watched anew stand behind the others at a desk, and before them in a room
pub all_anew : (sees : ℕ → List ℕ → Option Entry) (moment : ℕ) (found : World) → ((db : ℕ) (key : List ℕ) → look_in found db key ≡ sees db key)
    → (db : ℕ) (keys : List (List ℕ)) (ones : List Look) (ws : List Watched) → SameWatches sees moment ones ws
    → SameWatches sees moment (ones ++ map (watch sees db) keys) (map (plain.watch found db) keys ++ ws)
all_anew sees moment found alike db keys ones ws s = record {
  kept_are = λ one c. elim (contains_either ones (map (watch sees db) keys) one c) [
    | inl old ↦ (let p = s.kept_are one old in (p.0, contains_behind (map (plain.watch found db) keys) ws p.0 p.1, p.2))
    | inr new ↦ (let m = contains_mapped (watch sees db) keys one new in (
      plain.watch found db m.0,
      contains_before (map (plain.watch found db) keys) ws (plain.watch found db m.0) (contains_map (plain.watch found db) keys m.0 m.1),
      subst (λ (x : Look). SameWatch sees moment x (plain.watch found db m.0)) m.2 (anew m.0),
    ))
  ];
  are_kept = λ w c. elim (contains_either (map (plain.watch found db) keys) ws w c) [
    | inl new ↦ (let m = contains_mapped (plain.watch found db) keys w new in (
      watch sees db m.0,
      contains_behind ones (map (watch sees db) keys) (watch sees db m.0) (contains_map (watch sees db) keys m.0 m.1),
      subst (λ (x : Watched). SameWatch sees moment (watch sees db m.0) x) m.2 (anew m.0),
    ))
    | inr old ↦ (let p = s.are_kept w old in (p.0, contains_before ones (map (watch sees db) keys) p.0 p.1, p.2))
  ];
}
  where
    anew : (key : List ℕ) → SameWatch sees moment (watch sees db key) (plain.watch found db key)
    anew key = record {
      db = refl;
      key = refl;
      first = sym (alike db key);
      changed = λ is_so. absurd cc;
      same = λ isnt. inl tt;
      stands = λ isnt. inl refl;
    }

-- where the same stands everywhere all agree still
pub elsewhere : (sees sees' : ℕ → List ℕ → Option Entry) (moment : ℕ) → ((db : ℕ) (key : List ℕ) → sees db key ≡ sees' db key) → (ones : List Look) (ws : List Watched)
    → SameWatches sees moment ones ws → SameWatches sees' moment ones ws
elsewhere sees sees' moment same ones ws s = record {
  kept_are = λ one c. let p = s.kept_are one c in (p.0, p.1, moved one p.0 p.2);
  are_kept = λ w c. let p = s.are_kept w c in (p.0, p.1, moved p.0 w p.2);
}
  where
    moved : (one : Look) (w : Watched) → SameWatch sees moment one w → SameWatch sees' moment one w
    moved one w x = record {
      db = x.db;
      key = x.key;
      first = x.first;
      changed = x.changed;
      same = x.same;
      stands = λ isnt. elim (x.stands isnt) [
        | inl stays ↦ inl (sym (same one.db one.key) ∙ stays)
        | inr gone ↦ inr gone
      ];
    }

-- ---- whether a watched key has changed

module _ (world found : World) (first moment : ℕ) (later : first ≤ moment) (alike : (db : ℕ) (key : List ℕ) → look_in found db key ≡ look_in (live world moment) db key)
    (ones : List Look) (ws : List Watched) (s : SameWatches (look_in (live world first)) first ones ws) where
  -- one that a desk finds changed has changed
  pub moved_changed : HasMoved (look_in (live world moment)) ones → HasChanged (map (noting found) ws)
  moved_changed h = of_other (other h.moved)
    where
      p : (w : Watched) × Contains ws w × SameWatch (look_in (live world first)) first h.one w
      p = s.kept_are h.one h.is

      of_other : WasOther (noting found p.0) → HasChanged (map (noting found) ws)
      of_other o = record { one = noting found p.0; is = contains_map (noting found) ws p.0 p.1; entry = o.entry; seen = o.seen; other = o.other }

      other : IsChange (look_in (live world moment)) h.one true → WasOther (noting found p.0)
      other (inl is_so) = seen_more found p.0 (p.2.changed is_so)
      other (inr differs) =
          seen_now found p.0 (λ e. differs (sym (alike p.0.db p.0.key ∙ same_look (look_in (live world moment)) (look_in (live world first)) first h.one p.0 p.2) ∙ e ∙ sym p.2.first))

  -- where a desk finds none changed, none has
  pub still_unchanged : IsStill (look_in (live world moment)) ones → HasChanged (map (noting found) ws) → ⊥
  still_unchanged still c = met (contains_cases (look_in found w.db w.key) c.entry w.since (subst (λ (x : Watched). Contains x.since c.entry) (sym m.2) c.seen))
    where
      m : (w : Watched) × Contains ws w × (noting found w ≡ c.one)
      m = contains_mapped (noting found) ws c.one c.is

      w : Watched
      w = m.0

      p : (one : Look) × Contains ones one × SameWatch (look_in (live world first)) first one w
      p = s.are_kept w m.1

      none : IsChange (look_in (live world moment)) p.0 false
      none = all_is ones still p.0 p.1
        where
          all_is : (xs : List Look) → All (λ one. IsChange (look_in (live world moment)) one false) xs → (x : Look) → Contains xs x → IsChange (look_in (live world moment)) x false
          all_is xs all x c = subst (λ (y : Look). IsChange (look_in (live world moment)) y false) c.2 (all c.0 x c.1)

      differs : c.entry ≢ w.first
      differs e = c.other (e ∙ ap (λ (x : Watched). x.first) m.2)

      seen_is : look_in found w.db w.key ≡ w.first
      seen_is = alike w.db w.key ∙ same_look (look_in (live world moment)) (look_in (live world first)) first p.0 w p.2 ∙ none.1 ∙ p.2.first

      met : (look_in found w.db w.key ≡ c.entry) ⊎ Contains w.since c.entry → ⊥
      met (inl now) = differs (sym now ∙ seen_is)
      met (inr before) = elim (p.2.same none.0) [
        | inl all ↦ differs (all_contain (λ entry. entry ≡ w.first) w.since c.entry all before)
        | inr gone ↦ not_seen world moment p.0.db p.0.key p.0.first (subst (IsGone moment) (sym p.2.first) (gone_later first moment w.first later gone)) none.1
      ]
