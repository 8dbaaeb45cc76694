-- Lists and maps that are compared element by element.
use Rattle.std.proofs.Common.{◌≡◌, ℕ, ◌+◌, ◌<◌, ℤ, take, get_or, Bool, true, false, List, [], ◌∷◌, map, length, refl, sym, ap, ◌∙◌}
use Rattle.std.specs.Prelude.{◌&&◌, nat_eq}
use Rattle.std.specs.Bool.{Decides}
use Rattle.std.specs.List.{AllByRecursion}
use Rattle.std.specs.Cmp.Lexicographic.{pointwise, bytes_decides}
use Rattle.std.specs.Ordering.{int_eq}
use Rattle.std.specs.FinMap.{entries, same_entries_map}
use Rattle.std.proofs.lemmas.List.{length-map, get_or-map, take_more_same}
use Rattle.std.specs.Prelude.{slice_index_or}
use Rattle.std.proofs.lemmas.Bool.Decides.{Decides-and, Decides-like, Decides-int_eq}
use Rattle.stream_groups.specs.Seen.{seen_entries}
use Rattle.stream_groups.specs.Kept.{Name, bytes_of, named, NamesRise}
use Rattle.stream_groups.proofs.Uses.{named_entries}
use Rattle.told_values.specs.Told.{texts_told, set_told, hash_told, scores_told}

heads : {B : Type 0} (x y : B) (xs ys : List B) → x ∷ xs ≡ y ∷ ys → (x ≡ y) × (xs ≡ ys)
heads x y xs ys e = (cc, cc)

-- A test that tells whether what is seen of two elements is the same tells it of lists of such elements.
module _ {A B : Type 0} (test : A → A → Bool) (seen : A → B) (Fits : A → Type 0)
    (tells : (x y : A) → Fits x → Fits y → Decides (test x y) (seen x ≡ seen y)) where
  pub lists_tell : (xs ys : List A) → AllByRecursion Fits xs → AllByRecursion Fits ys → Decides (pointwise test xs ys) (map seen xs ≡ map seen ys)
  lists_tell [] [] p q = (λ h. refl, λ h. refl)
  lists_tell [] (y ∷ ys) p q = (λ h. cc, λ h. cc)
  lists_tell (x ∷ xs) [] p q = (λ h. cc, λ h. cc)
  lists_tell (x ∷ xs) (y ∷ ys) p q =
      Decides-like (test x y && pointwise test xs ys) (λ e i. e.0 i ∷ e.1 i) (heads (seen x) (seen y) (map seen xs) (map seen ys))
      (Decides-and (test x y) (pointwise test xs ys) (tells x y p.0 q.0) (lists_tell xs ys p.1 q.1))

pub nothing_asked : {A : Type 0} (xs : List A) → AllByRecursion (λ (x : A). Unit {0}) xs
nothing_asked [] = tt
nothing_asked (x ∷ xs) = (tt, nothing_asked xs)

-- the same where nothing is asked of the elements
pub all_tell : {A B : Type 0} (test : A → A → Bool) (seen : A → B) → ((x y : A) → Decides (test x y) (seen x ≡ seen y)) → (xs ys : List A) → Decides (pointwise test xs ys) (map seen xs ≡ map seen ys)
all_tell test seen tells xs ys = lists_tell test seen (λ x. Unit {0}) (λ x y p q. tells x y) xs ys (nothing_asked xs) (nothing_asked ys)

-- Maps of std are the same finite map where their entries are seen to be the same.
module _ {X Y : Type 0} (value : X → Y) (es fs : List (Name × X)) (rising : NamesRise es) (other : NamesRise fs) where
  pub maps_tell : (t : Bool) → Decides t (seen_entries bytes_of value es ≡ seen_entries bytes_of value fs) → Decides t (named value es ≡ named value fs)
  maps_tell t tells = Decides-like t
      (λ e. same_entries_map _ _ (named_entries value es rising ∙ e ∙ sym (named_entries value fs other)))
      (λ e. sym (named_entries value es rising) ∙ ap entries e ∙ named_entries value fs other) tells

  -- and then they have as many
  pub maps_long : named value es ≡ named value fs → length es ≡ length fs
  maps_long e = sym (length-map es _) ∙ ap length (sym (named_entries value es rising) ∙ ap entries e ∙ named_entries value fs other) ∙ length-map fs _

-- ---- what std's tests tell of names, and of what stands at them

pub bytes_tell : (x y : Name) → Decides (pointwise nat_eq x.items y.items) (x.items ≡ y.items)
bytes_tell x y = bytes_decides x.items y.items

both : {A B : Type 0} (a c : A) (b d : B) → (a ≡ c) × (b ≡ d) → ◌≡◌ {A = A × B} (a, b) (c, d)
both a c b d e = λ i. (e.0 i, e.1 i)

parts : {A B : Type 0} (a c : A) (b d : B) → ◌≡◌ {A = A × B} (a, b) (c, d) → (a ≡ c) × (b ≡ d)
parts a c b d e = (λ i. (e i).0, λ i. (e i).1)

-- two tests, one of each part, tell of the pair
pub pair_tells : {A B : Type 0} (s t : Bool) (a c : A) (b d : B) → Decides s (a ≡ c) → Decides t (b ≡ d) → Decides (s && t) (◌≡◌ {A = A × B} (a, b) (c, d))
pair_tells s t a c b d p q = Decides-like (s && t) (both a c b d) (parts a c b d) (Decides-and s t p q)

module _ (es fs : List (Name × Unit {0})) (rising : NamesRise es) (other : NamesRise fs) where
  pub members_tell : Decides (pointwise (λ (p q : Name × Unit {0}). pointwise nat_eq p.0.items q.0.items && true) es fs) (set_told es ≡ set_told fs)
  members_tell = maps_tell (λ nothing. nothing) es fs rising other _ (all_tell _ (λ (e : Name × Unit {0}). (e.0.items, e.1))
      (λ p q. pair_tells _ true p.0.items q.0.items p.1 q.1 (bytes_tell p.0 q.0) (λ h. refl, λ h. refl)) es fs)

module _ (es fs : List (Name × Name)) (rising : NamesRise es) (other : NamesRise fs) where
  pub fields_tell : Decides (pointwise (λ (p q : Name × Name). pointwise nat_eq p.0.items q.0.items && pointwise nat_eq p.1.items q.1.items) es fs) (hash_told es ≡ hash_told fs)
  fields_tell = maps_tell bytes_of es fs rising other _ (all_tell _ (λ (e : Name × Name). (e.0.items, e.1.items))
      (λ p q. pair_tells _ _ p.0.items q.0.items p.1.items q.1.items (bytes_tell p.0 q.0) (bytes_tell p.1 q.1)) es fs)

module _ (es fs : List (Name × ℤ)) (rising : NamesRise es) (other : NamesRise fs) where
  pub scores_tell : Decides (pointwise (λ (p q : Name × ℤ). pointwise nat_eq p.0.items q.0.items && int_eq p.1 q.1) es fs) (scores_told es ≡ scores_told fs)
  scores_tell = maps_tell (λ score. score) es fs rising other _ (all_tell _ (λ (e : Name × ℤ). (e.0.items, e.1))
      (λ p q. pair_tells _ _ p.0.items q.0.items p.1 q.1 (bytes_tell p.0 q.0) (Decides-int_eq p.1 q.1)) es fs)

-- maps of different lengths differ
pub maps_differ : {X Y : Type 0} (value : X → Y) (es fs : List (Name × X)) → NamesRise es → NamesRise fs → (length es ≡ length fs → ⊥) → Decides false (named value es ≡ named value fs)
maps_differ value es fs rising other differ = (λ h. absurd cc, λ e. absurd (differ (maps_long value es fs rising other e)))

pub texts_tell : (xs ys : List Name) → Decides (pointwise (λ (x y : Name). pointwise nat_eq x.items y.items) xs ys) (texts_told xs ≡ texts_told ys)
texts_tell = all_tell _ bytes_of bytes_tell

-- where lists are seen to be the same, so are their elements at a place
pub map_at : {A B : Type 0} (f : A → B) (xs ys : List A) (i : ℕ) (x y : A) → i < length xs → i < length ys → x ≡ get_or xs i x → y ≡ get_or ys i y → map f xs ≡ map f ys → f x ≡ f y
map_at f xs ys i x y inside within at there e =
    ap f at ∙ sym (get_or-map f xs i x (f x) inside) ∙ ap (λ l. get_or l i (f x)) e ∙ get_or-map f ys i y (f x) within ∙ sym (ap f there)

-- one pair more that is the same
pub pairs_more : (xs ys : List (List ℕ × List ℕ)) (i : ℕ) → i < length xs → i < length ys → take i xs ≡ take i ys
    → (slice_index_or xs i ([], [])).0 ≡ (slice_index_or ys i ([], [])).0 → (slice_index_or xs i ([], [])).1 ≡ (slice_index_or ys i ([], [])).1 → take (i + 1) xs ≡ take (i + 1) ys
pairs_more xs ys i inside within so_far first second = take_more_same xs ys i ([], []) inside within so_far (λ j. (first j, second j))
