-- What a map of std, seen as a finite map, is after each of its calls.
use Rattle.std.proofs.Common.{◌≡◌, length, Bool, true, false, cond, List, [], ◌∷◌, Option, Some, None, IsSome, inl, inr, refl, sym, ap, subst, ◌∙◌}
use Rattle.std.specs.Prelude.{T, ◌&&◌}
use Rattle.std.proofs.lemmas.Bool.{cond-true, cond-false, cases_Bool, true≢false}
use Rattle.std.specs.List.{AllByRecursion}
use Rattle.std.specs.List.Sorted.{IsStrictlySortedBy}
use Rattle.std.specs.Option.{option_map}
use Rattle.std.specs.declared.cmp.Ordering.{Ordering}
use Rattle.std.specs.declared.cmp.Ordering.TheVariants.{Less, Equal, Greater}
use Rattle.std.specs.Ordering.{is_eq, is_lt, eq_by_cmp, match_ordering}
use Rattle.std.specs.Cmp.{IsTotalOrder, Equal-is, alike_right}
use Rattle.std.specs.Map.{keys_of, lookup, set_value, remove_entry}
use Rattle.std.specs.BTreeMap.{insert_entry}
use Rattle.std.specs.FinMap.{IsAntisymmetric, empty, entries, find, get, insert, remove, from_sorted, is_sorted, entries-from_sorted, entries-insert, get-from_sorted, get-insert}
use Rattle.std.specs.FinMap.{get-remove, same_map, same_entries_map, empty_of_len, len-entries}
use Rattle.std.specs.FinMap.Entries.{put, below_all, by_order}
use Rattle.stream_groups.specs.Seen.{seen_entries, seen}

pub both : (a b : Bool) → T a → T b → T (a && b)
both true b p q = q
both false b p q = p

pub first : (a b : Bool) → T (a && b) → T a
first true b p = tt
first false b p = p

pub second : (a b : Bool) → T (a && b) → T b
second true b p = p
second false b p = absurd p

pub less : (o : Ordering) → T (is_lt o) → o ≡ Less
less Less p = refl
less Equal p = absurd p
less Greater p = absurd p

is_less : (o : Ordering) → o ≡ Less → T (is_lt o)
is_less o e = subst (λ r. T (is_lt r)) (sym e) tt

pub equal : (o : Ordering) → is_eq o ≡ true → o ≡ Equal
equal o h = (Equal-is o).0 h

not_equal : (o : Ordering) → o ≡ Less → is_eq o ≡ false
not_equal o e = ap is_eq e

no_both : (b : Bool) → b ≡ true → b ≡ false → ⊥
no_both b t f = true≢false (sym t ∙ f)

-- a test that is repeated
shadowed : {A : Type 0} (b : Bool) (x y z : A) → cond b x z ≡ cond b x (cond b y z)
shadowed true x y z = refl
shadowed false x y z = refl

pub swapped : {A : Type 0} (a b : Bool) (x y z : A) → (a ≡ true → b ≡ false) → cond a x (cond b y z) ≡ cond b y (cond a x z)
swapped true true x y z only = absurd (no_both true refl (only refl))
swapped true false x y z only = refl
swapped false b x y z only = refl

-- A key that ties with one below all others isn't found.
pub find_below : {L Y : Type 0} {R : L → L → Ordering} (o : IsTotalOrder R) (q x : L) (es : List (L × Y)) → R q x ≡ Equal → T (below_all R x es) → find R q es ≡ None
find_below o q x [] t h = refl
find_below {R = R} o q x (e ∷ es) t h = ap (λ b. cond b (Some e.1) (find R q es)) (not_equal _ (o.congr q x e.0 t ∙ less _ (first _ _ h))) ∙ find_below o q x es t (second _ _ h)

module _ {K X L Y : Type 0} {R : L → L → Ordering} (o : IsTotalOrder R) (key : K → L) (value : X → Y) where
  -- the order of the keys as they stand
  abbrev by_key : K → K → Ordering
  by_key x y = R (key x) (key y)

  below_seen : (x : K) (es : List (K × X)) → AllByRecursion (λ y. by_key x y ≡ Less) (keys_of es) → T (below_all R (key x) (seen_entries key value es))
  below_seen x [] h = tt
  below_seen x (e ∷ es) h = both _ _ (is_less _ h.0) (below_seen x es h.1)

  -- Keys that rise are seen to rise.
  pub seen_sorted : (es : List (K × X)) → IsStrictlySortedBy by_key (keys_of es) → T (is_sorted R (seen_entries key value es))
  unfolding IsStrictlySortedBy
  seen_sorted [] h = tt
  seen_sorted (e ∷ es) h = both _ _ (below_seen e.0 es h.0) (seen_sorted es h.1)

  -- The entries of the map that is seen.
  pub entries_seen : (es : List (K × X)) → IsStrictlySortedBy by_key (keys_of es) → entries (seen R key value es) ≡ seen_entries key value es
  unfolding seen
  entries_seen es h = entries-from_sorted R (seen_entries key value es) (seen_sorted es h)

  -- No entry is seen as no entry.
  pub seen_empty : (es : List (K × X)) → es ≡ [] → seen R key value es ≡ empty
  unfolding seen
  seen_empty es none = ap (λ xs. from_sorted {R = R} (seen_entries key value xs)) none ∙ empty_of_len _ (len-entries (from_sorted {R = R} []) ∙ ap length (entries-from_sorted R [] tt))

  find_seen : (q : L) (es : List (K × X)) → find R q (seen_entries key value es) ≡ option_map value (lookup (λ k. eq_by_cmp R q (key k)) es)
  find_seen q [] = refl
  find_seen q (e ∷ es) = elim (eq_by_cmp R q (key e.0)) as
      (λ b. cond b (Some (value e.1)) (find R q (seen_entries key value es)) ≡ option_map value (cond b (Some e.1) (lookup (λ k. eq_by_cmp R q (key k)) es)))
      [ true ↦ refl | false ↦ find_seen q es ]

  -- What the map that is seen has at a key.
  pub get_seen : (q : L) (es : List (K × X)) → IsStrictlySortedBy by_key (keys_of es) → get (seen R key value es) q ≡ option_map value (lookup (λ k. eq_by_cmp R q (key k)) es)
  unfolding seen
  get_seen q es h = get-from_sorted R (seen_entries key value es) q (seen_sorted es h) ∙ find_seen q es

  put_seen : (k : K) (v : X) (es : List (K × X)) → seen_entries key value (insert_entry by_key es k v) ≡ put R (key k) (value v) (seen_entries key value es)
  put_seen k v [] = refl
  put_seen k v (e ∷ es) = elim (R (key k) (key e.0)) as
      (λ r. seen_entries key value (match_ordering r ((k, v) ∷ e ∷ es) ((e.0, v) ∷ es) (e ∷ insert_entry by_key es k v)) ≡ by_order r ((key k, value v) ∷ seen_entries key value (e ∷ es))
      ((key e.0, value v) ∷ seen_entries key value es) ((key e.0, value e.1) ∷ put R (key k) (value v) (seen_entries key value es))) [
        | Less ↦ refl
        | Equal ↦ refl
        | Greater ↦ ap (λ xs. (key e.0, value e.1) ∷ xs) (put_seen k v es)
      ]

  -- To insert is to insert into the map that is seen.
  pub seen_insert : (k : K) (v : X) (es new : List (K × X)) → IsStrictlySortedBy by_key (keys_of es) → IsStrictlySortedBy by_key (keys_of new) → new ≡ insert_entry by_key es k v
      → seen R key value new ≡ insert (seen R key value es) (key k) (value v)
  seen_insert k v es new h after is = same_entries_map _ _
      (entries_seen new after ∙ ap (seen_entries key value) is ∙ put_seen k v es ∙ ap (put R (key k) (value v)) (sym (entries_seen es h))
      ∙ sym (entries-insert o (seen R key value es) (key k) (value v)))

  -- whether the key of an entry is the one asked for
  abbrev at : L → K → Bool
  at q k = eq_by_cmp R q (key k)

  -- which of two tests of a key holds, where the entry's key isn't the one asked for
  apart : (p q x : L) → eq_by_cmp R q x ≡ false → eq_by_cmp R p x ≡ true → eq_by_cmp R p q ≡ false
  apart p q x f t = elim (cases_Bool (eq_by_cmp R p q)) [
    | inl same ↦ absurd (no_both _ (ap is_eq (sym (o.congr p q x (equal _ same))) ∙ t) f)
    | inr other ↦ other
  ]

  find-set : (q p : L) (w : X) (es : List (K × X)) → IsSome (lookup (at q) es)
      → find R p (seen_entries key value (set_value (at q) es w)) ≡ cond (eq_by_cmp R p q) (Some (value w)) (find R p (seen_entries key value es))
  find-set q p w [] there = absurd (true≢false (sym there))
  find-set q p w (e ∷ es) there = elim (cases_Bool (at q e.0)) [
    | inl t ↦ ap (λ b. find R p (seen_entries key value (cond b ((e.0, w) ∷ es) (e ∷ set_value (at q) es w)))) t
        ∙ ap (λ b. cond b (Some (value w)) (find R p (seen_entries key value es))) (ap is_eq (sym (alike_right o q (key e.0) p (equal _ t))))
        ∙ shadowed (eq_by_cmp R p q) _ (Some (value e.1)) _
        ∙ ap (λ b. cond (eq_by_cmp R p q) (Some (value w)) (cond b (Some (value e.1)) (find R p (seen_entries key value es)))) (ap is_eq (alike_right o q (key e.0) p (equal _ t)))
    | inr f ↦ ap (λ b. find R p (seen_entries key value (cond b ((e.0, w) ∷ es) (e ∷ set_value (at q) es w)))) f
        ∙ ap (λ x. cond (eq_by_cmp R p (key e.0)) (Some (value e.1)) x) (find-set q p w es (subst (λ b. IsSome (cond b (Some e.1) (lookup (at q) es))) f there))
        ∙ swapped (eq_by_cmp R p (key e.0)) (eq_by_cmp R p q) _ _ _ (apart p q (key e.0) f)
  ]

  -- To write a value in its place is to insert into the map that is seen.
  pub seen_set : (q : L) (w : X) (es new : List (K × X)) → IsAntisymmetric R → IsStrictlySortedBy by_key (keys_of es) → IsStrictlySortedBy by_key (keys_of new) → IsSome (lookup (at q) es)
      → new ≡ set_value (at q) es w → seen R key value new ≡ insert (seen R key value es) q (value w)
  unfolding seen
  seen_set q w es new same h after there is = same_map o same _ _
      (λ p. get-from_sorted R (seen_entries key value new) p (seen_sorted new after) ∙ ap (λ xs. find R p (seen_entries key value xs)) is ∙ find-set q p w es there
      ∙ ap (cond (eq_by_cmp R p q) (Some (value w))) (sym (get-from_sorted R (seen_entries key value es) p (seen_sorted es h))) ∙ sym (get-insert o (seen R key value es) q (value w) p))

  find_removed_in_maps : (q p : L) (es : List (K × X)) → T (is_sorted R (seen_entries key value es))
      → find R p (seen_entries key value (remove_entry (at q) es)) ≡ cond (eq_by_cmp R p q) None (find R p (seen_entries key value es))
  find_removed_in_maps q p [] h = elim (eq_by_cmp R p q) as (λ b. ◌≡◌ {A = Option Y} None (cond b None None)) [ true ↦ refl | false ↦ refl ]
  find_removed_in_maps q p (e ∷ es) h = elim (cases_Bool (at q e.0)) [
    | inl t ↦ ap (λ b. find R p (seen_entries key value (cond b es (e ∷ remove_entry (at q) es)))) t
        ∙ ap (λ b. find R p (seen_entries key value es)) t
        ∙ elim (cases_Bool (eq_by_cmp R p q)) [
          | inl s ↦ find_below o p (key e.0) (seen_entries key value es) (sym (alike_right o q (key e.0) p (equal _ t)) ∙ equal _ s) (first _ _ h) ∙ sym (cond-true _ _ _ s)
          | inr f ↦ sym (cond-false _ _ _ (ap is_eq (sym (alike_right o q (key e.0) p (equal _ t))) ∙ f)) ∙ sym (cond-false _ _ _ f)
        ]
    | inr f ↦ ap (λ b. find R p (seen_entries key value (cond b es (e ∷ remove_entry (at q) es)))) f
        ∙ ap (λ x. cond (eq_by_cmp R p (key e.0)) (Some (value e.1)) x) (find_removed_in_maps q p es (second _ _ h))
        ∙ swapped (eq_by_cmp R p (key e.0)) (eq_by_cmp R p q) _ _ _ (apart p q (key e.0) f)
  ]

  -- To remove is to remove from the map that is seen.
  pub seen_remove : (q : L) (es new : List (K × X)) → IsAntisymmetric R → IsStrictlySortedBy by_key (keys_of es) → IsStrictlySortedBy by_key (keys_of new) → new ≡ remove_entry (at q) es
      → seen R key value new ≡ remove (seen R key value es) q
  unfolding seen
  seen_remove q es new same h after is = same_map o same _ _
      (λ p. get-from_sorted R (seen_entries key value new) p (seen_sorted new after) ∙ ap (λ xs. find R p (seen_entries key value xs)) is ∙ find_removed_in_maps q p es (seen_sorted es h)
      ∙ ap (cond (eq_by_cmp R p q) None) (sym (get-from_sorted R (seen_entries key value es) p (seen_sorted es h))) ∙ sym (get-remove o (seen R key value es) q p))
