-- Collections that stand packed in a string of a file (RDB file format, "Value encodings"; the listpack specification; the
-- intset of `intset.h` of Redis 7.2).
use Rattle.std.specs.Prelude.{◌≡◌, ◌⊎◌, ℕ, ◌+◌, ◌*◌, Bool, true, List, [], ◌∷◌, ◌++◌, length, map, Result, Ok, Err, ℤ, int_lt, is_none, nat_le, ◌==◌, ◌&&◌, ◌||◌, if◌then◌else◌}
use Rattle.std.proofs.Common.{inl, inr}
use Rattle.std.specs.FinMap.{get, insert}
use Rattle.int_text.specs.Decimal.{canonical}
use Rattle.int_text.specs.declared.score.ScoreFault.{ScoreFault}
use Rattle.int_text.specs.declared.score.ScoreFault.TheVariants as faults
use Rattle.intset.specs.Intset.{IsIntset, width_of, count_of, numbers_of}
use Rattle.listpack.specs.declared.fault.PackFault.{PackFault}
use Rattle.listpack.specs.Pack.{Packs, IsFault}
use Rattle.listpack.proofs.Laws.{exactly_one}
use Rattle.plain_world.specs.ScoreTexts.{score_of}
use Rattle.plain_world.specs.Worlds.{Value, ListOf, SetOf, HashOf, SortedOf}
use Rattle.rdb_grammar.specs.declared.fault.LoadKind.{LoadKind}
use Rattle.rdb_grammar.specs.declared.fault.LoadKind.TheVariants as kinds
use Rattle.rdb_grammar.specs.Elements.{Map}
use Rattle.rdb_grammar.specs.Format.{next_found, Payload, told, refined}

-- ---- texts

-- what the law of listpacks says of bytes: that they are one of a list, or which fault they have
abbrev pub texts_or : (bytes : List ℕ)
    → ((list : List (List ℕ)) × Packs bytes list) ⊎ ((fault : PackFault) × IsFault bytes fault)
    → Result (List (List ℕ)) LoadKind
texts_or bytes (inl p) = Ok p.0
texts_or bytes (inr f) = Err kinds.Listpack

-- the elements of a listpack, each by its text
abbrev pub texts_in : Payload (List ℕ) (List (List ℕ))
texts_in = record {
  found = λ bytes. texts_or bytes (exactly_one bytes).either;
  Means = λ bytes list. Packs bytes list;
  Breaks = λ bytes kind. ((fault : PackFault) × IsFault bytes fault) × (kind ≡ kinds.Listpack);
}

-- each number is less than the next one
abbrev pub rises : List ℤ → Bool
rises [] = true
rises (x ∷ []) = true
rises (x ∷ y ∷ xs) = int_lt x y && rises (y ∷ xs)

-- the bytes begin with a width, are as long as the count says, and their numbers rise
abbrev pub is_intset : List ℕ → Bool
is_intset bytes =
    nat_le 4 (length bytes)
    && ((width_of bytes == 2 || (width_of bytes == 4 || width_of bytes == 8))
    && ((length bytes == 8 + width_of bytes * count_of bytes) && rises (numbers_of bytes)))

-- the numbers of an intset, each by its decimal text
abbrev pub numbers_in : Payload (List ℕ) (List (List ℕ))
numbers_in = record {
  found = λ bytes. if is_intset bytes then Ok (map canonical (numbers_of bytes)) else Err kinds.Intset;
  Means = λ bytes list. IsIntset bytes (numbers_of bytes) × (list ≡ map canonical (numbers_of bytes));
  Breaks = λ bytes kind. ¬ (IsIntset bytes (numbers_of bytes)) × (kind ≡ kinds.Intset);
}

-- ---- pairs, and scores

-- a field and its value, or a member and the text of its score
abbrev pub Pair : Type 0
Pair = List ℕ × List ℕ

-- texts two by two, of which there is an even number
abbrev pub paired : List (List ℕ) → Result (List Pair) LoadKind
paired [] = Ok []
paired (x ∷ []) = Err kinds.Listpack
paired (x ∷ y ∷ rest) = next_found (paired rest) λ more. Ok ((x, y) ∷ more)

-- a member and its score
abbrev pub Scored : Type 0
Scored = List ℕ × ℤ

-- of the texts that say no score one is malformed, and the others are out of range
abbrev pub kind_of : ScoreFault → LoadKind
kind_of faults.Malformed = kinds.ScoreForm
kind_of faults.NotWhole = kinds.ScoreRange
kind_of faults.TooLarge = kinds.ScoreRange

-- the score of a text, or why it has none
abbrev pub score_or : Result ℤ ScoreFault → Result ℤ LoadKind
score_or (Ok n) = Ok n
score_or (Err fault) = Err (kind_of fault)

abbrev pub score_in : List ℕ → Result ℤ LoadKind
score_in text = score_or (score_of text)

-- each member with the score that the text behind it says, from left to right
abbrev pub scored : List Pair → Result (List Scored) LoadKind
scored [] = Ok []
scored (p ∷ ps) = next_found (score_in (p.1)) λ n. next_found (scored ps) λ more. Ok ((p.0, n) ∷ more)

abbrev pub pairs_in : Payload (List ℕ) (List Pair)
pairs_in = refined texts_in (told paired)

abbrev pub scores_in : Payload (List ℕ) (List Scored)
scores_in = refined pairs_in (told scored)

-- ---- what is put in, one behind the other

-- all of a list, up to the first fault
abbrev pub all_in : {S E : Type 0} → (S → E → Result S LoadKind) → S → List E → Result S LoadKind
all_in one made [] = Ok made
all_in one made (x ∷ xs) = next_found (one made x) λ more. all_in one more xs

-- what is made with a member or field, which may not be there before
abbrev pub unless_there : {A : Type 0} → Map A → List ℕ → Value → Result Value LoadKind
unless_there before text made = if is_none (get before text) then Ok made else Err kinds.DuplicateElement

-- a text more, behind those of a list or among the members of a set
abbrev pub with_text : Value → List ℕ → Result Value LoadKind
with_text (ListOf elements) text = Ok (ListOf (elements ++ text ∷ []))
with_text (SetOf members) text = unless_there members text (SetOf (insert members text tt))
with_text other text = Ok other

-- a field more with its value
abbrev pub with_pair : Value → Pair → Result Value LoadKind
with_pair (HashOf fields) p = unless_there fields (p.0) (HashOf (insert fields (p.0) (p.1)))
with_pair other p = Ok other

-- a member more with its score
abbrev pub with_scored : Value → Scored → Result Value LoadKind
with_scored (SortedOf scores) p = unless_there scores (p.0) (SortedOf (insert scores (p.0) (p.1)))
with_scored other p = Ok other

-- ---- what a string holds more of a value

-- the numbers of an intset, each as a text more
abbrev pub numbers_on : Value → Payload (List ℕ) Value
numbers_on made = refined numbers_in (told (all_in with_text made))

-- the elements of a listpack, each as a text more
abbrev pub texts_on : Value → Payload (List ℕ) Value
texts_on made = refined texts_in (told (all_in with_text made))

-- the elements of a listpack, as fields with their values
abbrev pub pairs_on : Value → Payload (List ℕ) Value
pairs_on made = refined pairs_in (told (all_in with_pair made))

-- the elements of a listpack, as members with the texts of their scores
abbrev pub scores_on : Value → Payload (List ℕ) Value
scores_on made = refined scores_in (told (all_in with_scored made))
