-- What is written of a key with its value spells what the grammar reads of it.
use Rattle.std.proofs.Common.{◌≡◌, ℕ, ◌<◌, ◌≤◌, ◌^◌, List, [], ◌∷◌, ◌++◌, length, take, get_or, flat_map, refl, sym, ap, ◌∙◌, append_assoc, arith}
use Rattle.std.proofs.lemmas.List.{append-nil, length-append, take_at, get_or-append-add}
use Rattle.plain_world.specs.Words.{longest}
use Rattle.plain_world.specs.Worlds.{Value, Str}
use Rattle.rdb_grammar.specs.declared.values.Collection.{Collection}
use Rattle.rdb_grammar.specs.declared.values.Layout.TheVariants as layouts
use Rattle.rdb_grammar.specs.Codes as code
use Rattle.rdb_grammar.specs.Format.{BranchSpells, in_turn}
use Rattle.rdb_grammar.specs.Elements.{with_one, without_any}
use Rattle.rdb_grammar.specs.Items.{Key, Whole, Opens, opens, part_behind, part, item}
use Rattle.rdb_parts.specs.Words.{length_word, string_word, key_word}
use Rattle.rdb_parts.proofs.Spelled.{length_spelled, string_spelled}

-- ---- an element between others

module _ {A : Type 0} (front : List A) (x : A) (back : List A) (none : A) where
  pub middle_inside : length front < length (front ++ (x ∷ back))
  middle_inside = omega (arith, length-append front (x ∷ back))

  pub middle_is : get_or (front ++ (x ∷ back)) (length front) none ≡ x
  middle_is = ap (λ n. get_or (front ++ (x ∷ back)) n none) (omega arith) ∙ get_or-append-add front (x ∷ back) 0 none

  pub middle_front : take (length front) (front ++ (x ∷ back)) ≡ front
  middle_front = take_at front (x ∷ back) (length front) refl

-- ---- elements one behind the other

-- Each element makes one more of a value; then they all make the whole of it.
module _ {A : Type 0} (word_of : A → List ℕ) (value_of : List A → Value) (all : List A)
    (one : (front : List A) (x : A) (back : List A) → front ++ (x ∷ back) ≡ all → (with_one (value_of front)).Spells (value_of (front ++ x ∷ [])) (word_of x)) where
  turns_from : (front back : List A) → front ++ back ≡ all → (in_turn with_one (length back) (value_of front)).Spells (value_of all) (flat_map word_of back)
  unfolding in_turn
  turns_from front [] is = (ap value_of (sym is ∙ append-nil front), refl)
  turns_from front (x ∷ xs) is =
      let more = front ++ x ∷ [] in
      let whole : more ++ xs ≡ all = append_assoc front (x ∷ []) xs ∙ is in
      (value_of more, word_of x, flat_map word_of xs, refl, one front x xs is, turns_from more xs whole)

  pub turns_spelled : (in_turn with_one (length all) (value_of [])).Spells (value_of all) (flat_map word_of all)
  turns_spelled = turns_from [] all refl

-- ---- keys

-- a key with a collection of so many elements
pub collection_spelled : (type : ℕ) (of : Collection) (name : List ℕ) (n : ℕ) (value : Value) (word : List ℕ) → length name ≤ longest → n < 2 ^ 64
    → ((rest : List ℕ) → BranchSpells (opens of) (Opens name (layouts.Elements of n)) rest → BranchSpells (part_behind type) (Opens name (layouts.Elements of n)) rest)
    → (in_turn with_one n (without_any of)).Spells value word → item.Spells (Key name value) (key_word type name (length_word n ++ word))
collection_spelled type of name n value word short fits goes spelled =
    let a = string_word name in
    let c = length_word n in
    let opened = Opens name (layouts.Elements of n) in
    let head : BranchSpells (opens of) opened (a ++ c) = (name, a, c, refl, string_spelled name short, (n, c, [], sym (append-nil c), length_spelled n fits, (refl, refl))) in
    let front : part.Spells opened (type ∷ (a ++ c)) = (type, a ++ c, refl, goes (a ++ c) head) in
    (opened, type ∷ (a ++ c), word, ap (λ l. type ∷ l) (sym (append_assoc a c word)), front, (value, word, [], sym (append-nil word), spelled, (refl, refl)))

-- a key with a string
pub text_spelled : (name text : List ℕ) → length name ≤ longest → length text ≤ longest → item.Spells (Key name (Str text)) (key_word code.string name (string_word text))
text_spelled name text short few =
    let a = string_word name in
    let b = string_word text in
    let key = Key name (Str text) in (
      Whole key,
      0 ∷ (a ++ b),
      [],
      sym (append-nil (0 ∷ (a ++ b))),
      (
        0,
        a ++ b,
        refl,
        (
          key,
          a ++ b,
          [],
          sym (append-nil (a ++ b)),
          (
            name,
            a,
            b,
            refl,
            string_spelled name short,
            (Str text, b, [], sym (append-nil b), (text, b, [], sym (append-nil b), string_spelled text few, (refl, refl)), (refl, refl)),
          ),
          (refl, refl),
        ),
      ),
      (refl, refl),
    )
