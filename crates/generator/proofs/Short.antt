-- The commands are requests, and short ones.
use Rattle.std.proofs.Common.{◌<◌, ◌≤◌, ◌*◌, ◌^◌, ◌%◌, ℕ, List, [], ◌∷◌, ◌++◌, length, flat_map, arith, length-append}
use Rattle.std.specs.Prelude.{codes, slice_index_or}
use Rattle.std.specs.List.{AllByRecursion}
use Rattle.std.specs.Fmt.{decimal}
use Rattle.std.proofs.lemmas.Fmt.{length-decimal-le}
use Rattle.plain_world.specs.Words.{Words, IsWord, IsRequest}
use Rattle.plain_world.specs.Spelling.{line_end}
use Rattle.resp_frames.specs.Frames.{header, bulk, request_bytes}
use Rattle.generator.specs.Commands.{words_of}
use Rattle.generator.specs.declared.commands.Kind.{Kind}
use Rattle.generator.specs.declared.commands.Kind.TheVariants as kinds

-- a number has few digits
few_digits : (n : ℕ) → n < 2 ^ 64 → length (decimal n) ≤ 20
few_digits n small = length-decimal-le 20 n (omega arith) (omega (arith, small)) small

-- a word of few bytes
abbrev Few : List ℕ → Type 0
Few word = length word ≤ 32

-- few words of few bytes
record AreFew (words : Words) : Type 0 where
  each : AllByRecursion Few words
  some : 0 < length words
  few : length words ≤ 5

module _ (k x : ℕ) (key : k < 2 ^ 64) (word : x < 2 ^ 64) where
  named : (text : List ℕ) → length text ≤ 2 → length (text ++ decimal k) ≤ 32
  named text short = omega (arith, length-append text (decimal k), few_digits k key, short)

  number : (n : ℕ) → n ≤ x → length (decimal n) ≤ 32
  number n small = omega (arith, few_digits n (omega (arith, small, word)))

  behind : (text : List ℕ) (n : ℕ) → length text ≤ 2 → n ≤ x → length (text ++ decimal n) ≤ 32
  behind text n short small = omega (arith, length-append text (decimal n), few_digits n (omega (arith, small, word)), short)

  digit : (n : ℕ) → n < 10 → length (decimal n) ≤ 32
  digit n small = omega (arith, few_digits n (omega (arith, small)))

  few_words : (kind : Kind) → AreFew (words_of kind k x)
  few_words kinds.Set = record { each = (omega arith, (named (codes "s:") (omega arith), (number x (omega arith), tt))); some = omega arith; few = omega arith }
  few_words kinds.Get = record { each = (omega arith, (named (codes "s:") (omega arith), tt)); some = omega arith; few = omega arith }
  few_words kinds.IncrBy = record { each = (omega arith, (named (codes "n:") (omega arith), (number (x % 1000) (omega arith), tt))); some = omega arith; few = omega arith }
  few_words kinds.RPush = record { each = (omega arith, (named (codes "l:") (omega arith), (number x (omega arith), tt))); some = omega arith; few = omega arith }
  few_words kinds.LRange = record { each = (omega arith, (named (codes "l:") (omega arith), (digit 0 (omega arith), (digit 9 (omega arith), tt)))); some = omega arith; few = omega arith }
  few_words kinds.SAdd = record { each = (omega arith, (named (codes "t:") (omega arith), (number (x % 64) (omega arith), tt))); some = omega arith; few = omega arith }
  few_words kinds.SIsMember = record { each = (omega arith, (named (codes "t:") (omega arith), (number (x % 64) (omega arith), tt))); some = omega arith; few = omega arith }
  few_words kinds.HSet = record {
    each = (omega arith, (named (codes "h:") (omega arith), (behind (codes "f") (x % 32) (omega arith) (omega arith), (number x (omega arith), tt))));
    some = omega arith;
    few =
        omega arith;
  }
  few_words kinds.HGet = record { each = (omega arith, (named (codes "h:") (omega arith), (behind (codes "f") (x % 32) (omega arith) (omega arith), tt))); some = omega arith; few = omega arith }
  few_words kinds.ZAdd = record {
    each = (omega arith, (named (codes "z:") (omega arith), (number (x % 1000) (omega arith), (behind (codes "m") (x % 64) (omega arith) (omega arith), tt))));
    some =
        omega arith;
    few = omega arith;
  }
  few_words kinds.ZRange = record { each = (omega arith, (named (codes "z:") (omega arith), (digit 0 (omega arith), (digit 9 (omega arith), tt)))); some = omega arith; few = omega arith }
  few_words kinds.XAdd = record { each = (omega arith, (named (codes "x:") (omega arith), (omega arith, (omega arith, (number x (omega arith), tt))))); some = omega arith; few = omega arith }
  few_words kinds.Del = record { each = (omega arith, (named (slice_index_or (codes "snlthz") (x % 6) 0 ∷ 58 ∷ []) (omega arith), tt)); some = omega arith; few = omega arith }

-- words of few bytes are words of a request
are_words : (words : Words) → AllByRecursion Few words → AllByRecursion IsWord words
are_words [] h = tt
are_words (word ∷ words) h = (omega (arith, h.0), are_words words h.1)

-- how many bytes a header has
header_short : (mark n : ℕ) → n < 2 ^ 64 → length (header mark (decimal n)) ≤ 23
header_short mark n small = omega (arith, length-append (decimal n) line_end, few_digits n small)

bulk_short : (word : List ℕ) → Few word → length (bulk word) ≤ 57
bulk_short word few =
    omega (arith, length-append (header 36 (decimal (length word))) (word ++ line_end), length-append word line_end, header_short 36 (length word) (omega (arith, few)), few)

bulks_short : (words : Words) → AllByRecursion Few words → length (flat_map bulk words) ≤ length words * 57
bulks_short [] h = omega arith
bulks_short (word ∷ words) h =
    omega (arith, length-append (bulk word) (flat_map bulk words), bulk_short word h.0, bulks_short words h.1)

-- a command is a request of few bytes
pub is_request : (kind : Kind) (k x : ℕ) → k < 2 ^ 64 → x < 2 ^ 64 → IsRequest (words_of kind k x)
is_request kind k x key word =
    let f = few_words k x key word kind in
    record { some = f.some; few = omega (arith, f.few); each = are_words (words_of kind k x) f.each }

pub is_short : (kind : Kind) (k x : ℕ) → k < 2 ^ 64 → x < 2 ^ 64 → length (request_bytes (words_of kind k x)) ≤ 2 ^ 62
is_short kind k x key word =
    let words = words_of kind k x in
    let f = few_words k x key word kind in
    omega (arith, length-append (header 42 (decimal (length words))) (flat_map bulk words), header_short 42 (length words) (omega (arith, f.few)), bulks_short words f.each, f.few)
