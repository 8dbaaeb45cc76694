-- Entries of a map by their places.
use Rattle.std.proofs.Common.{◌≡◌, ℕ, zero, suc, ◌+◌, ◌≤◌, List, [], ◌∷◌, ◌++◌, length, take, Option, Some, None, Result, Ok, Err, refl, sym, subst, ◌∙◌, arith}
use Rattle.std.specs.Prelude.{slice_get, flat_map, OnOk}
use Rattle.std.specs.List.{AllByRecursion}
use Rattle.std.specs.Option.{option_map}
use Rattle.std.specs.declared.cmp.Ordering.{Ordering}
use Rattle.std.specs.FinMap.{FinMap, entries, keys, values, len, len-entries}
use Rattle.std.proofs.lemmas.List.{length-map, take_all}
use Rattle.std.proofs.lemmas.Option.{slice_get-map, same_Some}
use Rattle.outside.specs.Files.{ShelfSeen}
use Rattle.rdb_parts.specs.declared.pen.Pen.{Pen}
use Rattle.rdb_parts.specs.Pens.{Adds}
use Rattle.rdb_parts.specs.Words.{length_word}
use Rattle.rdb_stream_writer.specs.Ids.{counted_by}
use Rattle.rdb_stream_writer.proofs.Written.{adds_one, adds_head, take_one}

none_mapped : {A B : Type 0} (f : A → B) (found : Option A) → None ≡ option_map f found → None ≡ found
none_mapped f None is = refl
none_mapped f (Some x) is = absurd cc

both_mapped : {A B : Type 0} (found : Option (A × B)) (a : A) (b : B) → Some a ≡ option_map (λ (e : A × B). e.0) found → Some b ≡ option_map (λ (e : A × B). e.1) found → Some (a, b) ≡ found
both_mapped None a b p q = absurd cc
both_mapped (Some e) a b p q = λ i. Some (same_Some a (e.0) p i, same_Some b (e.1) q i)

module _ {K X : Type 0} {R : K → K → Ordering} (m : FinMap R X) (n : ℕ) where
  pub no_key : None ≡ slice_get (keys m) n → None ≡ slice_get (entries m) n
  no_key is = none_mapped (λ (e : K × X). e.0) (slice_get (entries m) n) (is ∙ slice_get-map (λ (e : K × X). e.0) (entries m) n)

  pub no_value : None ≡ slice_get (values m) n → None ≡ slice_get (entries m) n
  no_value is = none_mapped (λ (e : K × X). e.1) (slice_get (entries m) n) (is ∙ slice_get-map (λ (e : K × X). e.1) (entries m) n)

  pub key_with_value : (k : K) (x : X) → Some k ≡ slice_get (keys m) n → Some x ≡ slice_get (values m) n → Some (k, x) ≡ slice_get (entries m) n
  key_with_value k x p q = both_mapped (slice_get (entries m) n) k x (p ∙ slice_get-map (λ (e : K × X). e.0) (entries m) n) (q ∙ slice_get-map (λ (e : K × X). e.1) (entries m) n)

pub keys_len : {K X : Type 0} {R : K → K → Ordering} (m : FinMap R X) → length (keys m) ≡ len m
keys_len {K = K} {X = X} m = length-map (entries m) (λ (e : K × X). e.0) ∙ sym (len-entries m)

-- a place past the last
pub past : {A : Type 0} (xs : List A) (n : ℕ) → None ≡ slice_get xs n → length xs ≤ n
past [] n is = omega arith
past (x ∷ xs) zero is = absurd cc
past (x ∷ xs) (suc n) is = omega (arith, past xs n is)

pub each_more : {A : Type 0} (P : A → Type 0) (xs : List A) (x : A) → AllByRecursion P xs → P x → AllByRecursion P (xs ++ x ∷ [])
each_more P [] x h one = (one, tt)
each_more P (y ∷ xs) x h one = (h.0, each_more P xs x h.1 one)

pub ok_held : {A E P : Type 0} (result : Result A E) → P → OnOk result P
ok_held (Ok x) p = p
ok_held (Err e) p = tt

-- Parts are written behind their number, up to a place.
module _ {A : Type 0} (word_of : A → List ℕ) (xs : List A) where
  abbrev pub AddsTo : ShelfSeen → ShelfSeen → Pen → Pen → ℕ → Type 0
  AddsTo o n b c index = Adds o n b c (length_word (length xs) ++ flat_map word_of (take index xs))

  pub adds_none : (o n : ShelfSeen) (b c : Pen) (count : ℕ) → Adds o n b c (length_word count) → count ≡ length xs → AddsTo o n b c 0
  adds_none o n b c count p is = adds_head o n b c word_of (length_word (length xs)) (subst (λ k. Adds o n b c (length_word k)) is p)

  pub adds_next : (o m n : ShelfSeen) (b c d : Pen) (index : ℕ) (x : A) → AddsTo o m b c index → Some x ≡ slice_get xs index → Adds m n c d (word_of x) → AddsTo o n b d (index + 1)
  adds_next o m n b c d index x p is q =
      subst (λ ys. Adds o n b d (length_word (length xs) ++ flat_map word_of ys)) (sym (take_one xs index x (sym is))) (adds_one o m n b c d word_of (length_word (length xs)) (take index xs) x p q)

  pub adds_all : (o n : ShelfSeen) (b c : Pen) (index : ℕ) → AddsTo o n b c index → None ≡ slice_get xs index → Adds o n b c (counted_by word_of xs)
  adds_all o n b c index p none = subst (λ ys. Adds o n b c (length_word (length xs) ++ flat_map word_of ys)) (take_all index xs (past xs index none)) p

  pub each_next : (P : A → Type 0) (index : ℕ) (x : A) → AllByRecursion P (take index xs) → Some x ≡ slice_get xs index → P x → AllByRecursion P (take (index + 1) xs)
  each_next P index x h is one = subst (AllByRecursion P) (sym (take_one xs index x (sym is))) (each_more P (take index xs) x h one)

  pub each_all : (P : A → Type 0) (index : ℕ) → AllByRecursion P (take index xs) → None ≡ slice_get xs index → AllByRecursion P xs
  each_all P index h none = subst (AllByRecursion P) (take_all index xs (past xs index none)) h
