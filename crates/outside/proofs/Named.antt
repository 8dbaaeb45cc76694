-- The place of a name is that of its file.
use Rattle.std.proofs.Common.{◌≡◌, ℕ, zero, suc, ◌<◌, ◌≤◌, Bool, true, false, List, [], ◌∷◌, Some, None, length, get_or, map, refl, arith, bytes_eq, string_bytes}
use Rattle.std.specs.List.{zip, position, position_or_len}
use Rattle.std.proofs.lemmas.Grind.{common_steps}
use Rattle.std.proofs.lemmas.List.Sums.{fails_before_first}
use Rattle.std.specs.Map.{lookup}
use Rattle.std.specs.Prelude.{String}
use Rattle.std.specs.Global.{Vec, Global}
use Rattle.std.proofs.lemmas.List.Quantifiers.{position-Some}
use Rattle.outside.specs.Files.{file_of, begun_bytes}

-- the first key that passes, at place i, has the file at place i
lookup_first : {K A : Type 0} (p : A → Bool) (f : K → A) (d : K) (ks : List K) (files : List (Vec ℕ)) (i : ℕ) → i < length ks → i < length files → p (f (get_or ks i d)) ≡ true
    → ((k : ℕ) → k < i → p (f (get_or ks k d)) ≡ false) → lookup p (zip (map f ks) (map (λ v. v.items) files)) ≡ Some (begun_bytes files (Some i))
lookup_first p f d [] files i h l passes before = absurd (omega arith)
lookup_first p f d (k ∷ ks) [] i h l passes before = absurd (omega arith)
lookup_first p f d (k ∷ ks) (v ∷ vs) zero h l passes before = rw passes refl
lookup_first p f d (k ∷ ks) (v ∷ vs) (suc i) h l passes before =
    let first : p (f k) ≡ false = before 0 (omega arith) in
    rw first (lookup_first p f d ks vs i (omega arith) (omega arith) passes (λ j below. before (suc j) (omega arith)))

-- no key passes
lookup_none : {K A : Type 0} (p : A → Bool) (f : K → A) (d : K) (ks : List K) (files : List (Vec ℕ)) → ((k : ℕ) → k < length ks → p (f (get_or ks k d)) ≡ false)
    → lookup p (zip (map f ks) (map (λ v. v.items) files)) ≡ None
lookup_none p f d [] files none = refl
lookup_none p f d (k ∷ ks) [] none = refl
lookup_none p f d (k ∷ ks) (v ∷ vs) none =
    let first : p (f k) ≡ false = none 0 (omega arith) in
    rw first (lookup_none p f d ks vs (λ j below. none (suc j) (omega arith)))

pub unnamed : (name : List ℕ) (names : List (String Global)) (files : List (Vec ℕ)) → position (λ n. bytes_eq (string_bytes n) name) names ≡ None
    → file_of (map string_bytes names) (map (λ v. v.items) files) name ≡ None
unnamed name [] files none = refl
unnamed name (n ∷ ns) files none =
    let past : length (n ∷ ns) ≤ position_or_len (λ x. bytes_eq (string_bytes x) name) (n ∷ ns) = grind (arith, common_steps) in
    lookup_none (λ x. bytes_eq x name) string_bytes n (n ∷ ns) files (λ k below. fails_before_first (λ x. bytes_eq (string_bytes x) name) (n ∷ ns) k n (omega arith))

pub named : (name : List ℕ) (names : List (String Global)) (files : List (Vec ℕ)) (place : ℕ) → position (λ n. bytes_eq (string_bytes n) name) names ≡ Some place → place < length files
    → file_of (map string_bytes names) (map (λ v. v.items) files) name ≡ Some (begun_bytes files (Some place))
named name [] files place at within = absurd (cc at)
named name (n ∷ ns) files place at within =
    let found = position-Some (λ x. bytes_eq (string_bytes x) name) (n ∷ ns) place n at in
    lookup_first (λ x. bytes_eq x name) string_bytes n (n ∷ ns) files place found.0 within found.1 found.2

-- the first key that passes stands behind all files
lookup_behind : {K A : Type 0} (p : A → Bool) (f : K → A) (d : K) (ks : List K) (files : List (Vec ℕ)) (i : ℕ) → length files ≤ i → ((k : ℕ) → k < i → p (f (get_or ks k d)) ≡ false)
    → lookup p (zip (map f ks) (map (λ v. v.items) files)) ≡ None
lookup_behind p f d [] files i l before = refl
lookup_behind p f d (k ∷ ks) [] i l before = refl
lookup_behind p f d (k ∷ ks) (v ∷ vs) zero l before = absurd (omega arith)
lookup_behind p f d (k ∷ ks) (v ∷ vs) (suc i) l before =
    let first : p (f k) ≡ false = before 0 (omega arith) in
    rw first (lookup_behind p f d ks vs i (omega arith) (λ j below. before (suc j) (omega arith)))

pub behind : (name : List ℕ) (names : List (String Global)) (files : List (Vec ℕ)) (place : ℕ) → position (λ n. bytes_eq (string_bytes n) name) names ≡ Some place → length files ≤ place
    → file_of (map string_bytes names) (map (λ v. v.items) files) name ≡ None
behind name [] files place at within = absurd (cc at)
behind name (n ∷ ns) files place at within =
    let found = position-Some (λ x. bytes_eq (string_bytes x) name) (n ∷ ns) place n at in
    lookup_behind (λ x. bytes_eq x name) string_bytes n (n ∷ ns) files place within found.2
