-- What the edits of a list of entries come to where the list is joined of parts.
use Rattle.std.proofs.Common.{◌≡◌, ◌∙◌, ℕ, ◌<◌, Bool, true, false, cond, List, [], ◌∷◌, ◌++◌, map, Option, Some, None, refl, sym, ap, append_assoc}
use Rattle.std.proofs.lemmas.List.{append-nil, map-append}
use Rattle.std.specs.List.{filter, find, flat_map, AllByRecursion}
use Rattle.std.specs.Option.{option_map}
use Rattle.std.specs.Ordering.{is_eq, is_ne, is_lt, is_gt}
use Rattle.std.specs.declared.cmp.Ordering.{Ordering}
use Rattle.std.specs.declared.cmp.Ordering.TheVariants.{Less, Greater}
use Rattle.std.proofs.lemmas.Bool.{cond-true, cond-false}
use Rattle.std.proofs.lemmas.List.Elements.{filter-append}
use Rattle.std.proofs.lemmas.List.Concat.{flat_map-append}
use Rattle.blocks.specs.declared.BlockRef.{BlockRef}
use Rattle.rax_packed.specs.Nodes.{Link}
use Rattle.rax_packed.specs.Trees.{Entry, under}
use Rattle.rax_packed.specs.Packed.{order, value_at, with_entry, without}
use Rattle.rax_packed.proofs.Keys.{order_append, order_less_in_keys, order_greater_in_keys}

-- all entries stand so to the key
abbrev pub All : Ordering → List ℕ → List Entry → Type 0
All o key es = AllByRecursion (λ e. order e.key key ≡ o) es

pub all-append : {X : Type 0} (P : X → Type 0) (xs ys : List X) → AllByRecursion P xs → AllByRecursion P ys → AllByRecursion P (xs ++ ys)
all-append P [] ys a b = b
all-append P (x ∷ xs) ys a b = (a.0, all-append P xs ys a.1 b)

pub all_front : {X : Type 0} (P : X → Type 0) (xs ys : List X) → AllByRecursion P (xs ++ ys) → AllByRecursion P xs
all_front P [] ys a = tt
all_front P (x ∷ xs) ys a = (a.0, all_front P xs ys a.1)

pub all_back : {X : Type 0} (P : X → Type 0) (xs ys : List X) → AllByRecursion P (xs ++ ys) → AllByRecursion P ys
all_back P [] ys a = a
all_back P (x ∷ xs) ys a = all_back P xs ys a.1

pub all_weaker : {X : Type 0} (P Q : X → Type 0) (xs : List X) → ((x : X) → P x → Q x) → AllByRecursion P xs → AllByRecursion Q xs
all_weaker P Q [] f a = tt
all_weaker P Q (x ∷ xs) f a = (f x a.0, all_weaker P Q xs f a.1)

-- a test of the order keeps all or none of what stands alike to a key, by the names of its elements
pub keeps_by : {X : Type 0} (name : X → List ℕ) (test : Ordering → Bool) (o : Ordering) (key : List ℕ) (xs : List X) → test o ≡ true → AllByRecursion (λ x. order (name x) key ≡ o) xs
    → filter (λ x. test (order (name x) key)) xs ≡ xs
keeps_by name test o key [] t a = refl
keeps_by name test o key (x ∷ xs) t a = cond-true _ _ _ (ap test a.0 ∙ t) ∙ ap (λ ys. x ∷ ys) (keeps_by name test o key xs t a.1)

pub drops_by : {X : Type 0} (name : X → List ℕ) (test : Ordering → Bool) (o : Ordering) (key : List ℕ) (xs : List X) → test o ≡ false → AllByRecursion (λ x. order (name x) key ≡ o) xs
    → filter (λ x. test (order (name x) key)) xs ≡ []
drops_by name test o key [] t a = refl
drops_by name test o key (x ∷ xs) t a = cond-false _ _ _ (ap test a.0 ∙ t) ∙ drops_by name test o key xs t a.1

-- the same for entries
pub keeps : (test : Ordering → Bool) (o : Ordering) (key : List ℕ) (es : List Entry) → test o ≡ true → All o key es → filter (λ e. test (order e.key key)) es ≡ es
keeps test o key es t a = keeps_by (λ (e : Entry). e.key) test o key es t a

pub drops : (test : Ordering → Bool) (o : Ordering) (key : List ℕ) (es : List Entry) → test o ≡ false → All o key es → filter (λ e. test (order e.key key)) es ≡ []
drops test o key es t a = drops_by (λ (e : Entry). e.key) test o key es t a

misses : (o : Ordering) (key : List ℕ) (es more : List Entry) → is_eq o ≡ false → All o key es → find (λ e. is_eq (order e.key key)) (es ++ more) ≡ find (λ e. is_eq (order e.key key)) more
misses o key [] more t a = refl
misses o key (e ∷ es) more t a = cond-false _ _ _ (ap is_eq a.0 ∙ t) ∙ misses o key es more t a.1

stops : (o : Ordering) (key : List ℕ) (es more : List Entry) → is_eq o ≡ false → All o key more → find (λ e. is_eq (order e.key key)) (es ++ more) ≡ find (λ e. is_eq (order e.key key)) es
stops o key [] more t a = ap (find (λ e. is_eq (order e.key key))) (sym (append-nil more)) ∙ misses o key more [] t a
stops o key (e ∷ es) more t a = ap (λ r. cond (is_eq (order e.key key)) (Some e) r) (stops o key es more t a)

module _ (key : List ℕ) (before middle after : List Entry) (less : All Less key before) (greater : All Greater key after) where
  three : (test : Ordering → Bool) → filter (λ e. test (order e.key key)) (before ++ (middle ++ after)) ≡ filter (λ e. test (order e.key key)) before
      ++ (filter (λ e. test (order e.key key)) middle ++ filter (λ e. test (order e.key key)) after)
  three test = filter-append (λ e. test (order e.key key)) before (middle ++ after)
      ∙ ap (λ xs. filter (λ e. test (order e.key key)) before ++ xs) (filter-append (λ e. test (order e.key key)) middle after)

  pub value_at_parts : value_at (before ++ (middle ++ after)) key ≡ value_at middle key
  unfolding value_at
  value_at_parts = ap (option_map (λ e. e.value)) (misses Less key before (middle ++ after) refl less ∙ stops Greater key middle after refl greater)

  pub with_entry_parts : (value : BlockRef) → with_entry (before ++ (middle ++ after)) key value ≡ before ++ (with_entry middle key value ++ after)
  unfolding with_entry
  with_entry_parts value =
      let new : Entry = record { key = key; value = value } in
      let front : filter (λ e. is_lt (order e.key key)) (before ++ (middle ++ after)) ≡ before ++ filter (λ e. is_lt (order e.key key)) middle =
      three is_lt ∙ ap (λ xs. xs ++ (filter (λ e. is_lt (order e.key key)) middle ++ filter (λ e. is_lt (order e.key key)) after)) (keeps is_lt Less key before refl less)
      ∙ ap (λ xs. before ++ (filter (λ e. is_lt (order e.key key)) middle ++ xs)) (drops is_lt Greater key after refl greater)
      ∙ ap (λ xs. before ++ xs) (append-nil (filter (λ e. is_lt (order e.key key)) middle)) in
      let back : filter (λ e. is_gt (order e.key key)) (before ++ (middle ++ after)) ≡ filter (λ e. is_gt (order e.key key)) middle ++ after =
      three is_gt ∙ ap (λ xs. xs ++ (filter (λ e. is_gt (order e.key key)) middle ++ filter (λ e. is_gt (order e.key key)) after)) (drops is_gt Less key before refl less)
      ∙ ap (λ xs. filter (λ e. is_gt (order e.key key)) middle ++ xs) (keeps is_gt Greater key after refl greater) in
      ap (λ xs. xs ++ new ∷ filter (λ e. is_gt (order e.key key)) (before ++ (middle ++ after))) front
      ∙ ap (λ xs. (before ++ filter (λ e. is_lt (order e.key key)) middle) ++ new ∷ xs) back
      ∙ append_assoc before (filter (λ e. is_lt (order e.key key)) middle) (new ∷ (filter (λ e. is_gt (order e.key key)) middle ++ after))
      ∙ ap (λ xs. before ++ xs) (sym (append_assoc (filter (λ e. is_lt (order e.key key)) middle) (new ∷ filter (λ e. is_gt (order e.key key)) middle) after))

  pub without_parts : without (before ++ (middle ++ after)) key ≡ before ++ (without middle key ++ after)
  unfolding without
  without_parts =
      three is_ne ∙ ap (λ xs. xs ++ (filter (λ e. is_ne (order e.key key)) middle ++ filter (λ e. is_ne (order e.key key)) after)) (keeps is_ne Less key before refl less)
      ∙ ap (λ xs. before ++ (filter (λ e. is_ne (order e.key key)) middle ++ xs)) (keeps is_ne Greater key after refl greater)

-- the same behind more bytes
pub filter_under_by : {X : Type 0} (name : X → List ℕ) (more : X → X) (test : Ordering → Bool) (begin key : List ℕ) (xs : List X) → ((x : X) → name (more x) ≡ begin ++ name x)
    → filter (λ x. test (order (name x) (begin ++ key))) (map more xs) ≡ map more (filter (λ x. test (order (name x) key)) xs)
filter_under_by name more test begin key [] same = refl
filter_under_by name more test begin key (x ∷ xs) same =
    by_test (test (order (name (more x)) (begin ++ key))) (test (order (name x) key)) (ap test (ap (λ k. order k (begin ++ key)) (same x) ∙ order_append begin (name x) key))
    (filter_under_by name more test begin key xs same)
  where
    by_test : (s t : Bool) → s ≡ t → filter (λ x. test (order (name x) (begin ++ key))) (map more xs) ≡ map more (filter (λ x. test (order (name x) key)) xs)
        → cond s (more x ∷ filter (λ x. test (order (name x) (begin ++ key))) (map more xs)) (filter (λ x. test (order (name x) (begin ++ key))) (map more xs)) ≡ map more
        (cond t (x ∷ filter (λ x. test (order (name x) key)) xs) (filter (λ x. test (order (name x) key)) xs))
    by_test true true same rest = ap (λ ys. more x ∷ ys) rest
    by_test false false same rest = rest
    by_test true false same rest = cc
    by_test false true same rest = cc

pub filter_under : (test : Ordering → Bool) (begin key : List ℕ) (es : List Entry)
    → filter (λ e. test (order e.key (begin ++ key))) (map (under begin) es) ≡ map (under begin) (filter (λ e. test (order e.key key)) es)
filter_under test begin key es = filter_under_by (λ (e : Entry). e.key) (under begin) test begin key es (λ e. refl)

find_under : (begin key : List ℕ) (es : List Entry) → find (λ e. is_eq (order e.key (begin ++ key))) (map (under begin) es) ≡ option_map (under begin) (find (λ e. is_eq (order e.key key)) es)
find_under begin key [] = refl
find_under begin key (e ∷ es) = by_test (is_eq (order (begin ++ e.key) (begin ++ key))) (is_eq (order e.key key)) (ap is_eq (order_append begin e.key key)) (find_under begin key es)
  where
    by_test : (s t : Bool) → s ≡ t → find (λ e. is_eq (order e.key (begin ++ key))) (map (under begin) es) ≡ option_map (under begin) (find (λ e. is_eq (order e.key key)) es)
        → cond s (Some (under begin e)) (find (λ e. is_eq (order e.key (begin ++ key))) (map (under begin) es)) ≡ option_map (under begin) (cond t (Some e) (find (λ e. is_eq (order e.key key)) es))
    by_test true true same rest = refl
    by_test false false same rest = rest
    by_test true false same rest = cc
    by_test false true same rest = cc

value_under : (begin : List ℕ) (o : Option Entry) → option_map (λ e. e.value) (option_map (under begin) o) ≡ option_map (λ e. e.value) o
value_under begin None = refl
value_under begin (Some e) = refl

pub value_at_under : (begin key : List ℕ) (es : List Entry) → value_at (map (under begin) es) (begin ++ key) ≡ value_at es key
unfolding value_at
value_at_under begin key es = ap (option_map (λ e. e.value)) (find_under begin key es) ∙ value_under begin (find (λ e. is_eq (order e.key key)) es)

pub with_entry_under : (begin key : List ℕ) (es : List Entry) (value : BlockRef) → with_entry (map (under begin) es) (begin ++ key) value ≡ map (under begin) (with_entry es key value)
unfolding with_entry
with_entry_under begin key es value =
    let new : Entry = record { key = key; value = value } in
    ap (λ xs. xs ++ under begin new ∷ filter (λ e. is_gt (order e.key (begin ++ key))) (map (under begin) es)) (filter_under is_lt begin key es)
    ∙ ap (λ xs. map (under begin) (filter (λ e. is_lt (order e.key key)) es) ++ under begin new ∷ xs) (filter_under is_gt begin key es)
    ∙ sym (map-append (under begin) (filter (λ e. is_lt (order e.key key)) es) (new ∷ filter (λ e. is_gt (order e.key key)) es))

pub without_under : (begin key : List ℕ) (es : List Entry) → without (map (under begin) es) (begin ++ key) ≡ map (under begin) (without es key)
unfolding without
without_under begin key es = filter_under is_ne begin key es

-- the entries below links with other bytes stand on one side of a key
abbrev pub below_links : List ℕ → (BlockRef → List Entry) → List Link → List Entry
below_links prefix entries links = flat_map (λ l. map (under (prefix ++ l.edge ∷ [])) (entries l.to)) links

side : (o : Ordering) (prefix key : List ℕ) (edge : ℕ) (es : List Entry) → ((rest : List ℕ) → order (prefix ++ edge ∷ rest) key ≡ o) → All o key (map (under (prefix ++ edge ∷ [])) es)
side o prefix key edge [] h = tt
side o prefix key edge (e ∷ es) h = (ap (λ xs. order xs key) (append_assoc prefix (edge ∷ []) e.key) ∙ h e.key, side o prefix key edge es h)

pub links_less : (prefix below : List ℕ) (edge : ℕ) (entries : BlockRef → List Entry) (links : List Link) → AllByRecursion (λ l. l.edge < edge) links
    → All Less (prefix ++ edge ∷ below) (below_links prefix entries links)
links_less prefix below edge entries [] h = tt
links_less prefix below edge entries (l ∷ links) h =
    all-append (λ e. order e.key (prefix ++ edge ∷ below) ≡ Less) (map (under (prefix ++ l.edge ∷ [])) (entries l.to)) (below_links prefix entries links)
    (side Less prefix (prefix ++ edge ∷ below) l.edge (entries l.to) (λ rest. order_less_in_keys prefix rest below l.edge edge h.0)) (links_less prefix below edge entries links h.1)

pub links_greater : (prefix below : List ℕ) (edge : ℕ) (entries : BlockRef → List Entry) (links : List Link) → AllByRecursion (λ l. edge < l.edge) links
    → All Greater (prefix ++ edge ∷ below) (below_links prefix entries links)
links_greater prefix below edge entries [] h = tt
links_greater prefix below edge entries (l ∷ links) h =
    all-append (λ e. order e.key (prefix ++ edge ∷ below) ≡ Greater) (map (under (prefix ++ l.edge ∷ [])) (entries l.to)) (below_links prefix entries links)
    (side Greater prefix (prefix ++ edge ∷ below) l.edge (entries l.to) (λ rest. order_greater_in_keys prefix rest below l.edge edge h.0)) (links_greater prefix below edge entries links h.1)

-- the key of an edge and of what follows it
pub key_under : (prefix below : List ℕ) (edge : ℕ) → prefix ++ edge ∷ below ≡ (prefix ++ edge ∷ []) ++ below
key_under prefix below edge = sym (append_assoc prefix (edge ∷ []) below)

module _ (prefix below : List ℕ) (entries : BlockRef → List Entry) (before after : List Link) (link : Link) (less : AllByRecursion (λ l. l.edge < link.edge) before)
    (more : AllByRecursion (λ l. link.edge < l.edge) after) where
  key : List ℕ
  key = prefix ++ link.edge ∷ below

  joined : below_links prefix entries (before ++ link ∷ after) ≡ below_links prefix entries before ++ (map (under (prefix ++ link.edge ∷ [])) (entries link.to) ++ below_links prefix entries after)
  joined = flat_map-append (λ l. map (under (prefix ++ l.edge ∷ [])) (entries l.to)) before (link ∷ after)

  pub value_at_link : value_at (below_links prefix entries (before ++ link ∷ after)) (prefix ++ link.edge ∷ below) ≡ value_at (entries link.to) below
  value_at_link =
      ap (λ es. value_at es (prefix ++ link.edge ∷ below)) joined
      ∙ value_at_parts (prefix ++ link.edge ∷ below) (below_links prefix entries before) (map (under (prefix ++ link.edge ∷ [])) (entries link.to)) (below_links prefix entries after)
      (links_less prefix below link.edge entries before less) (links_greater prefix below link.edge entries after more)
      ∙ ap (value_at (map (under (prefix ++ link.edge ∷ [])) (entries link.to))) (key_under prefix below link.edge)
      ∙ value_at_under (prefix ++ link.edge ∷ []) below (entries link.to)

  pub with_entry_link : (value : BlockRef) → with_entry (below_links prefix entries (before ++ link ∷ after)) (prefix ++ link.edge ∷ below) value ≡ below_links prefix entries before
      ++ (map (under (prefix ++ link.edge ∷ [])) (with_entry (entries link.to) below value) ++ below_links prefix entries after)
  with_entry_link value =
      ap (λ es. with_entry es (prefix ++ link.edge ∷ below) value) joined
      ∙ with_entry_parts (prefix ++ link.edge ∷ below) (below_links prefix entries before) (map (under (prefix ++ link.edge ∷ [])) (entries link.to)) (below_links prefix entries after)
      (links_less prefix below link.edge entries before less) (links_greater prefix below link.edge entries after more) value
      ∙ ap (λ k. below_links prefix entries before ++ (with_entry (map (under (prefix ++ link.edge ∷ [])) (entries link.to)) k value ++ below_links prefix entries after))
      (key_under prefix below link.edge)
      ∙ ap (λ es. below_links prefix entries before ++ (es ++ below_links prefix entries after)) (with_entry_under (prefix ++ link.edge ∷ []) below (entries link.to) value)

  pub without_link : without (below_links prefix entries (before ++ link ∷ after)) (prefix ++ link.edge ∷ below) ≡ below_links prefix entries before
      ++ (map (under (prefix ++ link.edge ∷ [])) (without (entries link.to) below) ++ below_links prefix entries after)
  without_link =
      ap (λ es. without es (prefix ++ link.edge ∷ below)) joined
      ∙ without_parts (prefix ++ link.edge ∷ below) (below_links prefix entries before) (map (under (prefix ++ link.edge ∷ [])) (entries link.to)) (below_links prefix entries after)
      (links_less prefix below link.edge entries before less) (links_greater prefix below link.edge entries after more)
      ∙ ap (λ k. below_links prefix entries before ++ (without (map (under (prefix ++ link.edge ∷ [])) (entries link.to)) k ++ below_links prefix entries after)) (key_under prefix below link.edge)
      ∙ ap (λ es. below_links prefix entries before ++ (es ++ below_links prefix entries after)) (without_under (prefix ++ link.edge ∷ []) below (entries link.to))
