-- The names that are sifted out of item numbers.
use Rattle.std.proofs.Common.{◌≡◌, inl, inr, ℕ, suc, ◌+◌, ◌<◌, ◌≤◌, true, false, Bool, List, [], ◌∷◌, ◌++◌, length, refl, sym, ap, ◌∙◌, subst, arith, cond, append_assoc, drop, drop-cons}
use Rattle.std.proofs.Common.{get_or, length-drop}
use Rattle.std.proofs.lemmas.List.{append-nil, nil_from_length}
use Rattle.std.proofs.lemmas.List.Sums.{sum_by-cons}
use Rattle.std.specs.Prelude.{bytes_eq}
use Rattle.std.specs.List.{Contains, count_by, flat_map}
use Rattle.std.proofs.lemmas.Bool.{cases_Bool, cases_eq}
use Rattle.std.proofs.lemmas.Slice.Eq.{bytes_eq-Decides}
use Rattle.rev_cursor.specs.Span.{times}
use Rattle.rehash_dict.proofs.Counts.{times_here, times_past}
use Rattle.plain_model.specs.Scans.{Lists}
use Rattle.plain_world.proofs.Containing.{contains_first, contains_later, contains_cases}
use Rattle.keyspace.specs.Sifted.{Sifted, end, keeps, drops, AddsWords, Adds, SiftsWords}

counted : (key name : List ℕ) (names : List (List ℕ)) → bytes_eq key name ≡ true → count_by (bytes_eq key) (name ∷ names) ≡ suc (count_by (bytes_eq key) names)
counted key name names e =
    let all = sum_by-cons (λ x. cond (bytes_eq key x) 1 0) name names in
    let one : cond {A = ℕ} (bytes_eq key name) 1 0 ≡ 1 = ap (λ (b : Bool). cond b 1 0) e in
    omega (arith, all, one)

passed_over : (key name : List ℕ) (names : List (List ℕ)) → bytes_eq key name ≡ false → count_by (bytes_eq key) (name ∷ names) ≡ count_by (bytes_eq key) names
passed_over key name names e =
    let all = sum_by-cons (λ x. cond (bytes_eq key x) 1 0) name names in
    let none : cond {A = ℕ} (bytes_eq key name) 1 0 ≡ 0 = ap (λ (b : Bool). cond b 1 0) e in
    omega (arith, all, none)

-- a number that is met behind another is met
met_more : (item other : ℕ) (items : List ℕ) → times item items ≤ times item (other ∷ items)
met_more item other items = elim (cases_eq other item) [
  | inl same ↦ subst (λ (o : ℕ). times item items ≤ times item (o ∷ items)) (sym same) (omega (arith, times_here item items))
  | inr apart ↦ omega (arith, times_past item other items apart)
]

module _ (P : ℕ → List ℕ → Type 0) where
  -- a name is the key of an item number
  record From (key : List ℕ) : Type 0 where
    item : ℕ
    passes : P item key

  from_one : (items : List ℕ) (names : List (List ℕ)) → Sifted P items names → (key : List ℕ) → Contains names key → From key
  from_one _ _ end key c = (let below : c.0 < 0 = c.1 in absurd (omega arith))
  from_one _ _ (keeps item name items names passes rest) key c = elim (contains_cases name key names c) [
    | inl same ↦ record { item = item; passes = subst (P item) same passes }
    | inr more ↦ from_one items names rest key more
  ]
  from_one _ _ (drops item items names none rest) key c = from_one items names rest key c

  module _ (one : (item : ℕ) (k other : List ℕ) → P item k → P item other → k ≡ other) (apart : (item other : ℕ) (k : List ℕ) → P item k → P other k → item ≡ other) where
    -- the key of an item number that is met is named
    named : (items : List ℕ) (names : List (List ℕ)) → Sifted P items names → (item : ℕ) (key : List ℕ) → 0 < times item items → P item key → Contains names key
    named _ _ end item key met p = absurd (omega (arith, met))
    named _ _ (keeps other name items names passes rest) item key met p = elim (cases_eq other item) [
      | inl same ↦ subst (λ (k : List ℕ). Contains (name ∷ names) k) (one item name key (subst (λ (i : ℕ). P i name) same passes) p) (contains_first name names)
      | inr differ ↦ contains_later name key names (named items names rest item key (omega (arith, met, times_past item other items differ)) p)
    ]
    named _ _ (drops other items names none rest) item key met p = elim (cases_eq other item) [
      | inl same ↦ absurd (none key (subst (λ (i : ℕ). P i key) (sym same) p))
      | inr differ ↦ named items names rest item key (omega (arith, met, times_past item other items differ)) p
    ]

    -- a name stands as often as its item number is met, at most
    count_few : (items : List ℕ) (names : List (List ℕ)) → Sifted P items names → (item : ℕ) (key : List ℕ) → P item key → count_by (bytes_eq key) names ≤ times item items
    count_few _ _ end item key p = omega arith
    count_few _ _ (keeps other name items names passes rest) item key p = elim (cases_Bool (bytes_eq key name)) [
      | inl same ↦
          (let named_so : key ≡ name = (bytes_eq-Decides key name).0 same in
          let here : other ≡ item = apart other item key (subst (P other) (sym named_so) passes) p in
          let met : times item (other ∷ items) ≡ suc (times item items) = ap (λ (o : ℕ). times item (o ∷ items)) here ∙ times_here item items in
          omega (arith, met, counted key name names same, count_few items names rest item key p))
      | inr differ ↦ omega (arith, passed_over key name names differ, count_few items names rest item key p, met_more item other items)
    ]
    count_few _ _ (drops other items names none rest) item key p = omega (arith, count_few items names rest item key p, met_more item other items)

    named_once : (items : List ℕ) (names : List (List ℕ)) → Sifted P items names → ((item : ℕ) → times item items ≤ 1) → (key : List ℕ) → count_by (bytes_eq key) names ≤ 1
    named_once _ _ end few key = omega arith
    named_once _ _ (keeps other name items names passes rest) few key = elim (cases_Bool (bytes_eq key name)) [
      | inl same ↦
          (let named_so : key ≡ name = (bytes_eq-Decides key name).0 same in
          let below = count_few items names rest other key (subst (P other) (sym named_so) passes) in
          omega (arith, counted key name names same, below, times_here other items, few other))
      | inr differ ↦ (let below = named_once items names rest (λ item. omega (arith, few item, met_more item other items)) key in omega (arith, passed_over key name names differ, below))
    ]
    named_once _ _ (drops other items names none rest) few key = named_once items names rest (λ item. omega (arith, few item, met_more item other items)) key

    -- The names list what has to be, where the item number of each such key is met, and none twice.
    pub sifted_lists : (May Must : List ℕ → Type 0) (items : List ℕ) (names : List (List ℕ)) → Sifted P items names → ((item : ℕ) → times item items ≤ 1)
        → ((item : ℕ) (key : List ℕ) → P item key → May key)
        → ((key : List ℕ) → Must key → (item : ℕ) × P item key × (0 < times item items)) → Lists May Must names
    sifted_lists May Must items names s few may must = record {
      once = named_once items names s few;
      real = λ key c. (let f = from_one items names s key c in may f.item key f.passes);
      whole = λ key due. (let m = must key due in named items names s m.0 key m.2 m.1);
    }

-- ---- one item number after the other

-- what is sifted out of the rest completes the names
abbrev pub Completes : (ℕ → List ℕ → Type 0) → List ℕ → List ℕ → List (List ℕ) → Type 0
Completes P all rest names = (more : List (List ℕ)) → Sifted P rest more → Sifted P all (names ++ more)

pub completes_next : (P : ℕ → List ℕ → Type 0) (all rest : List ℕ) (item : ℕ) (old new : List (List ℕ)) → Completes P all (item ∷ rest) old → Adds P item old new → Completes P all rest new
completes_next P all rest item old new c (inl added) more s =
    subst (Sifted P all) (sym (ap (λ (l : List (List ℕ)). l ++ more) added.2 ∙ append_assoc old (added.0 ∷ []) more)) (c (added.0 ∷ more) (keeps item added.0 rest more added.1 s))
completes_next P all rest item old new c (inr stays) more s = subst (λ (l : List (List ℕ)). Sifted P all (l ++ more)) (sym stays.1) (c more (drops item rest more stays.0 s))

pub completes_last : (P : ℕ → List ℕ → Type 0) (all rest : List ℕ) (names : List (List ℕ)) → rest ≡ [] → Completes P all rest names → Sifted P all names
completes_last P all rest names e c = subst (Sifted P all) (append-nil names) (c [] (subst (λ (l : List ℕ). Sifted P l []) (sym e) end))

pub drop_next : (items : List ℕ) (index : ℕ) → index < length items → drop index items ≡ get_or items index 0 ∷ drop (index + 1) items
drop_next items index below = (let next : suc index ≡ index + 1 = omega arith in drop-cons items index 0 below ∙ ap (λ (n : ℕ). get_or items index 0 ∷ drop n items) next)

pub drop_none : (items : List ℕ) (index : ℕ) → length items ≤ index → drop index items ≡ []
drop_none items index over = nil_from_length (drop index items) (omega (arith, over, length-drop index items))

-- ---- what is told of each name

-- what is sifted out of the rest completes the names that the words tell of
pub record SoFar (P : ℕ → List ℕ → Type 0) (words_of : List ℕ → List (List ℕ)) (all rest : List ℕ) (words : List (List ℕ)) : Type 0 where
  pub names : List (List ℕ)
  pub completes : Completes P all rest names
  pub are : words ≡ flat_map words_of names

told_more : (words_of : List ℕ → List (List ℕ)) (names : List (List ℕ)) (name : List ℕ) → flat_map words_of (names ++ name ∷ []) ≡ flat_map words_of names ++ words_of name
told_more words_of [] name = append-nil (words_of name)
told_more words_of (first ∷ names) name = ap (λ (l : List (List ℕ)). words_of first ++ l) (told_more words_of names name)
    ∙ sym (append_assoc (words_of first) (flat_map words_of names) (words_of name))

module _ (P : ℕ → List ℕ → Type 0) (words_of : List ℕ → List (List ℕ)) (all : List ℕ) where
  pub words_first : (words : List (List ℕ)) → words ≡ [] → SoFar P words_of all all words
  words_first words none = record { names = []; completes = λ more s. s; are = none }

  pub words_next : (rest : List ℕ) (item : ℕ) (old new : List (List ℕ)) → SoFar P words_of all (item ∷ rest) old → AddsWords P words_of item old new → SoFar P words_of all rest new
  words_next rest item old new s (inl added) = record {
    names = s.names ++ added.0 ∷ [];
    completes = completes_next P all rest item s.names (s.names ++ added.0 ∷ []) s.completes (inl (added.0, added.1, refl));
    are = added.2 ∙ ap (λ (l : List (List ℕ)). l ++ words_of added.0) s.are ∙ sym (told_more words_of s.names added.0);
  }
  words_next rest item old new s (inr stays) = record {
    names = s.names;
    completes = completes_next P all rest item s.names s.names s.completes (inr (stays.0, refl));
    are = stays.1 ∙ s.are;
  }

  pub words_last : (rest : List ℕ) (words : List (List ℕ)) → rest ≡ [] → SoFar P words_of all rest words → SiftsWords P words_of all words
  words_last rest words none s = record { names = s.names; sifted = completes_last P all rest s.names none s.completes; are = s.are }

-- a name was added, and one more word behind it
pub both_added : (old mid new : List (List ℕ)) (name word other : List ℕ) → mid ≡ old ++ name ∷ [] → new ≡ mid ++ word ∷ [] → word ≡ other → new ≡ old ++ name ∷ other ∷ []
both_added old mid new name word other first second same =
    second ∙ ap (λ (l : List (List ℕ)). l ++ word ∷ []) first ∙ append_assoc old (name ∷ []) (word ∷ []) ∙ ap (λ (w : List ℕ). old ++ name ∷ w ∷ []) same
