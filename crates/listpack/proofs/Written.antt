-- Entries that are spelled as the writer spells their elements.
use Rattle.std.proofs.Common.{◌≡◌, ℕ, ◌+◌, ◌<◌, ◌≤◌, ◌↔◌, List, [], ◌∷◌, ◌++◌, length, take, drop, map, get_or, slice_index, true, false, refl, sym, ap, ◌∙◌, inl, inr, arith}
use Rattle.std.specs.Str.{bytes_eq}
use Rattle.std.proofs.lemmas.Bool.{cases_lt}
use Rattle.std.proofs.lemmas.List.{get_or-map, length-map, length-drop, take_all, take_more_same, take_at, drop_at, take-append-drop}
use Rattle.std.proofs.lemmas.Slice.Eq.{bytes_eq-Decides}
use Rattle.listpack.specs.Entry.{text_of}
use Rattle.listpack.specs.Element.{IsNumberByte}
use Rattle.listpack.specs.Pack.{texts, spellings_of}
use Rattle.listpack.specs.Writing.{spelling}
use Rattle.listpack.proofs.Encodings.{text_short_text, text_medium_text, text_long_text}
use Rattle.listpack.proofs.Offsets.{length_texts}

-- ---- one spelling

none_short : length (text_of []) ≤ 0
unfolding text_of
none_short = omega arith

-- a string is no longer than its spelling
pub string_short : (s : List ℕ) → (IsNumberByte (slice_index s 0) → ⊥) → length (text_of s) ≤ length s
string_short [] none = none_short
string_short (b ∷ more) none = elim (cases_lt b 128) [
  | inl small ↦ absurd (none (inl small))
  | inr a ↦ elim (cases_lt b 192) [
    | inl short ↦ omega (arith, ap length (text_short_text b more a short))
    | inr d ↦ elim (cases_lt b 224) [
      | inl bits ↦ absurd (none (inr (inl (d, bits))))
      | inr e ↦ elim (cases_lt b 240) [
        | inl medium ↦ omega (arith, ap length (text_medium_text b more e medium), length-drop 1 more)
        | inr f ↦ elim (cases_lt b 241) [
          | inl long ↦ omega (arith, ap length (text_long_text b more (omega (arith, f, long))), length-drop 4 more)
          | inr g ↦ absurd (none (inr (inr g)))
        ]
      ]
    ]
  ]
]

-- bytes that begin with a head are that head and a content exactly where the content is behind it
pub begun : (bytes head content rest : List ℕ) → bytes_eq (take (length head) bytes) head ≡ true → rest ≡ drop (length head) bytes → (rest ≡ content) ↔ (bytes ≡ head ++ content)
begun bytes head content rest front back =
    let same : take (length head) bytes ≡ head = (bytes_eq-Decides (take (length head) bytes) head).0 front in (
      (λ is. sym (take-append-drop (length head) bytes) ∙ ap (λ (x : List ℕ). x ++ drop (length head) bytes) same ∙ ap (λ (x : List ℕ). head ++ x) (sym back ∙ is)),
      (λ is. back ∙ ap (drop (length head)) is ∙ drop_at head content (length head) refl),
    )

-- and otherwise never
pub not_begun : (bytes head content : List ℕ) → bytes_eq (take (length head) bytes) head ≡ false → bytes ≡ head ++ content → ⊥
not_begun bytes head content front is =
    let same : take (length head) bytes ≡ head = ap (take (length head)) is ∙ take_at head content (length head) refl in
    let equal : bytes_eq (take (length head) bytes) head ≡ true = (bytes_eq-Decides (take (length head) bytes) head).1 same in
    cc

-- ---- all spellings of a listpack

module _ (bytes s : List ℕ) (i : ℕ) (inside : i < length (texts bytes)) (there : s ≡ get_or (spellings_of bytes) i []) where
  -- what the writer gives the element at the index
  rewritten : get_or (map spelling (texts bytes)) i [] ≡ spelling (text_of s)
  rewritten =
      get_or-map spelling (texts bytes) i [] [] inside
      ∙ ap spelling (get_or-map text_of (spellings_of bytes) i [] [] (omega (arith, inside, length_texts bytes)) ∙ ap text_of (sym there))

  pub written_more : take i (spellings_of bytes) ≡ take i (map spelling (texts bytes)) → s ≡ spelling (text_of s) → take (i + 1) (spellings_of bytes) ≡ take (i + 1) (map spelling (texts bytes))
  written_more before is =
      take_more_same (spellings_of bytes) (map spelling (texts bytes)) i [] (omega (arith, inside, length_texts bytes)) (omega (arith, inside, length-map (texts bytes) spelling))
      before (sym there ∙ is ∙ sym rewritten)

  pub not_written : (s ≡ spelling (text_of s) → ⊥) → spellings_of bytes ≡ map spelling (texts bytes) → ⊥
  not_written other is = other (there ∙ ap (λ (ss : List (List ℕ)). get_or ss i []) is ∙ rewritten)

pub all_written : (bytes : List ℕ) (n : ℕ) → length (texts bytes) ≤ n → take n (spellings_of bytes) ≡ take n (map spelling (texts bytes)) → spellings_of bytes ≡ map spelling (texts bytes)
all_written bytes n all same =
    sym (take_all n (spellings_of bytes) (omega (arith, all, length_texts bytes)))
    ∙ same
    ∙ take_all n (map spelling (texts bytes)) (omega (arith, all, length-map (texts bytes) spelling))
