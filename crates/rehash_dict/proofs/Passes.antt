-- A step of a rehash keeps what holds of the tables.
use Rattle.std.proofs.Common.{◌≡◌, inl, inr, ℕ, suc, ◌+◌, ◌^◌, ◌≤◌, ◌<◌, ◌%◌, List, [], ◌∷◌, set, length, Option, Some, None, refl, sym, ap, ◌∙◌, arith}
use Rattle.std.proofs.lemmas.Bool.{cases_eq, cases_lt}
use Rattle.std.proofs.lemmas.List.{length-set}
use Rattle.std.proofs.lemmas.Nat.{pow_below}
use Rattle.rehash_dict.specs.Tables.{Tables, bucket, put, put_all, full_within, ended, stepped, stepped_to}
use Rattle.rehash_dict.specs.Table.{Element, Chaining, at_item, Agrees}
use Rattle.rehash_dict.specs.Placed.{IsSize, IsKept}
use Rattle.rehash_dict.specs.Placed.IsSize.{no_table, power}
use Rattle.rehash_dict.specs.Sides.{held_tables, MovesRow}
use Rattle.rehash_dict.proofs.Counts.{bucket_past, count_none_in_counts, bucket_set_same, bucket_set_other}
use Rattle.rehash_dict.proofs.Fulls.{IsNextFull, next_full, none_full}

pub size_small : (n : ℕ) → IsSize n → n ≤ 2 ^ 63
size_small n (no_table e) = omega arith
size_small n (power bits e low high) = elim (cases_eq bits 63) [
  | inl last ↦ omega (arith, e ∙ ap (λ b. 2 ^ b) last)
  | inr other ↦ omega (arith, e, pow_below bits 63 (omega arith))
]

module _ {X : Type 0} (hash : X → ℕ) where
  pub length_put_all : (rows : List (List X)) (xs : List X) → length (put_all hash rows xs) ≡ length rows
  length_put_all rows [] = refl
  length_put_all rows (x ∷ xs) = length_put_all (put hash rows x) xs ∙ length-set rows (hash x % length rows) (x ∷ bucket rows (hash x % length rows))

module _ {V : Type 0} where
  -- the hashes that the elements have
  hash_in : Option (Element V) → ℕ
  hash_in None = 0
  hash_in (Some e) = e.hash

  pub own_names : List (Option (Element V)) → ℕ → ℕ
  own_names items at = hash_in (at_item items at)

  pub own_agrees : (items : List (Option (Element V))) → Agrees (own_names items) items
  unfolding own_names hash_in
  own_agrees items at e found = ap hash_in found

  module _ (items : List (Option (Element V))) (older newer : List (List ℕ)) (position : ℕ) (kept : IsKept items older newer position) (going : 0 < length newer) where
    pub position_below : position < length older
    position_below = elim (cases_lt position (length older)) [
      | inl lt ↦ lt
      | inr over ↦ absurd (omega (arith, kept.waits going, count_none_in_counts older (λ k lt. kept.passed k (omega arith))))
    ]

    pub position_fits : position + 10 < 2 ^ 64
    position_fits = omega (arith, position_below, size_small (length older) kept.stand.older_size)

    pub passed_more : full_within older 10 position ≡ None → IsKept items older newer (position + 10)
    passed_more none = record {
      stand = kept.stand;
      waits = kept.waits;
      passed = λ k lt. elim (cases_lt k position) [
        | inl before ↦ kept.passed k before
        | inr from ↦ none_full older 10 position none k from lt
      ];
      begins = λ h. absurd (omega arith);
    }

    module _ (at : ℕ) (found : full_within older 10 position ≡ Some at) where
      next : IsNextFull older position at 10
      next = next_full older 10 position at found

      pub at_below : at < length older
      at_below = elim (cases_lt at (length older)) [
        | inl lt ↦ lt
        | inr over ↦ absurd (next.full (bucket_past older at over))
      ]

      pub at_fits : at + 1 < 2 ^ 64
      at_fits = omega (arith, at_below, size_small (length older) kept.stand.older_size)

      pub passed_at : (later : List (List ℕ)) → later ≡ set older at [] → (k : ℕ) → k < at + 1 → bucket later k ≡ []
      passed_at later is k lt = ap (λ t. bucket t k) is ∙ elim (cases_eq k at) [
        | inl here ↦ ap (bucket (set older at [])) here ∙ bucket_set_same older at [] at_below
        | inr other ↦ bucket_set_other older at k [] other ∙ elim (cases_lt k position) [
          | inl before ↦ kept.passed k before
          | inr from ↦ next.before k from (omega arith)
        ]
      ]

  pub step_none : (names : ℕ → ℕ) (h : Chaining V) (position : ℕ) → full_within h.older 10 position ≡ None → held_tables h (position + 10) ≡ stepped names (held_tables h position)
  unfolding stepped
  step_none names h position none = ap (stepped_to names (held_tables h position)) (sym none)

  pub step_some : (names : ℕ → ℕ) (h mid : Chaining V) (position at : ℕ) (last : Tables ℕ) → full_within h.older 10 position ≡ Some at → MovesRow h mid at → Agrees names h.items
      → last ≡ ended (held_tables mid (at + 1)) → last ≡ stepped names (held_tables h position)
  unfolding stepped
  step_some names h mid position at last found m agrees is =
      let older : mid.older ≡ set h.older at [] = m.older in
      let newer : mid.newer ≡ put_all names h.newer (bucket h.older at) = m.newer names agrees in
      let one : at + 1 ≡ suc at = omega arith in
      let same : ◌≡◌ {A = Tables ℕ} (held_tables mid (at + 1)) (record { older = set h.older at []; newer = put_all names h.newer (bucket h.older at); position = suc at })
      = λ i. record { older = older i; newer = newer i; position = one i } in
      is ∙ ap ended same ∙ ap (stepped_to names (held_tables h position)) (sym found)

  pub moved_some : (h mid : Chaining V) (at : ℕ) → MovesRow h mid at → length mid.newer ≡ length h.newer
  moved_some h mid at m = ap length (m.newer (own_names h.items) (own_agrees h.items)) ∙ length_put_all (own_names h.items) h.newer (bucket h.older at)
