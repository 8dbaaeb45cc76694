-- Elements written one behind the other.
use Rattle.std.proofs.Common.{ℕ, ◌+◌, ◌<◌, ◌≤◌, List, ◌∷◌, ◌++◌, length, take, get_or, flat_map, Result, Ok, Err, subst}
use Rattle.std.proofs.lemmas.List.{take_all}
use Rattle.outside.specs.Files.{ShelfSeen}
use Rattle.rdb_parts.specs.declared.pen.Pen.{Pen}
use Rattle.rdb_parts.specs.Pens.{Adds, Writes, WritesSome}
use Rattle.rdb_parts.specs.Words.{length_word, string_word, key_word}
use Rattle.rdb_parts.proofs.Penned.{adds_then, writes_then}
use Rattle.rdb_parts.proofs.Spelled.{pieces_more}

module _ {A : Type 0} (word_of : A → List ℕ) (xs : List A) (o m : ShelfSeen) (b c : Pen) where
  -- the word of one more
  pub one_more : (none : A) (i : ℕ) (n : ShelfSeen) (d : Pen) → i < length xs → Adds o m b c (flat_map word_of (take i xs)) → Adds m n c d (word_of (get_or xs i none))
      → Adds o n b d (flat_map word_of (take (i + 1) xs))
  one_more none i n d inside so_far one = subst (λ w. Adds o n b d w) (pieces_more word_of xs none i inside) (adds_then o m n b c d _ _ so_far one)

  -- the words of all
  pub all_written : (i : ℕ) → length xs ≤ i → Adds o m b c (flat_map word_of (take i xs)) → Adds o m b c (flat_map word_of xs)
  all_written i past so_far = subst (λ l. Adds o m b c (flat_map word_of l)) (take_all i xs past) so_far

-- bytes are written of which something holds
pub written_some : {T E : Type 0} (o n : ShelfSeen) (b a : Pen) (word : List ℕ) (Holds : List ℕ → Type 0) (r : Result T E) → Writes o n b a word r → Holds word → WritesSome o n b a (λ x w. Holds w) r
written_some o n b a word Holds (Ok x) p h = (word, p, h)
written_some o n b a word Holds (Err e) p h = p

-- A key's type and name, the number of its elements and they are written, which something holds of.
pub key_written : {T E : Type 0} (o m n q : ShelfSeen) (b c d e : Pen) (type : ℕ) (name : List ℕ) (count : ℕ) (words : List ℕ) (Holds : List ℕ → Type 0) (r : Result T E)
    → Adds o m b c (type ∷ string_word name) → Adds m n c d (length_word count) → Writes n q d e words r → Holds (key_word type name (length_word count ++ words))
    → WritesSome o q b e (λ x w. Holds w) r
key_written o m n q b c d e type name count words Holds r first second rest h =
    written_some o q b e (key_word type name (length_word count ++ words)) Holds r
    (writes_then o m q b c e (type ∷ string_word name) (length_word count ++ words) r first (writes_then m n q c d e (length_word count) words r second rest)) h
