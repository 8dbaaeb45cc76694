-- The bytes that are written spell what the grammar reads of them.
use Rattle.std.proofs.Common.{◌≡◌, ℕ, zero, suc, ◌+◌, ◌-◌, ◌*◌, ◌/◌, ◌%◌, ◌^◌, ◌<◌, ◌≤◌, Bool, true, false, List, [], ◌∷◌, ◌++◌, length, take, get_or, Option, Some, None, refl, sym, ap, subst, ◌∙◌, append_assoc, arith}
use Rattle.std.proofs.lemmas.Bool.{lt-ltb, le-ltb, ltb-true, ltb-false, le-leb, ne_eqb}
use Rattle.std.proofs.lemmas.List.{append-nil, take_more}
use Rattle.std.proofs.lemmas.List.Concat.{flat_map-append}
use Rattle.std.proofs.lemmas.Nat.{from_be_bytes-to_be_bytes_4, from_be_bytes-to_be_bytes_8, from_le_bytes-to_le_bytes_8}
use Rattle.std.specs.Prelude.{nat_lt, nat_le, ◌==◌, flat_map}
use Rattle.std.specs.List.{AllByRecursion}
use Rattle.std.specs.Int.{Width, w8, w32, w64, byte_len, to_be_bytes, to_le_bytes, from_be_bytes, from_le_bytes}
use Rattle.plain_world.specs.Words.{longest}
use Rattle.plain_world.specs.Worlds.{Value, Str, ListOf}
use Rattle.rdb_grammar.specs.declared.fault.LoadKind.{LoadKind}
use Rattle.rdb_grammar.specs.declared.fault.LoadKind.TheVariants as kinds
use Rattle.rdb_grammar.specs.declared.values.Collection.TheVariants as of
use Rattle.rdb_grammar.specs.declared.values.Layout.TheVariants as layouts
use Rattle.rdb_grammar.specs.Codes as code
use Rattle.rdb_grammar.specs.Format.{Branch, Goes, Refuses, BranchSpells, turned, in_turn}
use Rattle.rdb_grammar.specs.Lengths.{number, number_le, length_behind, a_length}
use Rattle.rdb_grammar.specs.Strings.{Head, Len, Num, head_behind, head, short_head, string}
use Rattle.rdb_grammar.specs.Elements.{with_one}
use Rattle.rdb_grammar.specs.Items.{Item, Deadline, Database, End, Key, Part, Whole, Opens, part, item}
use Rattle.rdb_parts.specs.Words.{length_word, string_word, strings_word, counted_word, deadline_word, key_word, database_word}

-- ---- numbers and lengths

number_spelled : (w : Width) (n : ℕ) (bytes : List ℕ) → length bytes ≡ byte_len w → n ≡ from_be_bytes w bytes → (number w).Spells n bytes
number_spelled w n bytes long is = (bytes, bytes, [], sym (append-nil bytes), (refl, long), (is, refl))

pub number_le_spelled : (w : Width) (n : ℕ) (bytes : List ℕ) → length bytes ≡ byte_len w → n ≡ from_le_bytes w bytes → (number_le w).Spells n bytes
number_le_spelled w n bytes long is = (bytes, bytes, [], sym (append-nil bytes), (refl, long), (is, refl))

-- a length by its first byte, which begins no string of another form
record Begun (refused : LoadKind) (n : ℕ) : Type 0 where
  first : ℕ
  rest : List ℕ
  are : length_word n ≡ first ∷ rest
  low : first < 192
  spelled : BranchSpells (length_behind refused first) n rest

-- which of its forms a length has
data Size (n : ℕ) : Type 0 where
  Small : n < 64 → Size n
  Middle : 64 ≤ n → n < 16384 → Size n
  Wide : 16384 ≤ n → n < 2 ^ 32 → Size n
  Huge : 2 ^ 32 ≤ n → Size n

size_by : (n : ℕ) (a b c : Bool) → nat_lt n 64 ≡ a → nat_lt n 16384 ≡ b → nat_lt n (2 ^ 32) ≡ c → Size n
size_by n true b c e f g = Small (ltb-true n 64 e)
size_by n false true c e f g = Middle (ltb-false n 64 e) (ltb-true n 16384 f)
size_by n false false true e f g = Wide (ltb-false n 16384 f) (ltb-true n (2 ^ 32) g)
size_by n false false false e f g = Huge (ltb-false n (2 ^ 32) g)

size_of : (n : ℕ) → Size n
size_of n = size_by n _ _ _ refl refl refl

begun_by : (refused : LoadKind) (n : ℕ) → n < 2 ^ 64 → Size n → Begun refused n
begun_by refused n fits (Small s) =
    let e : nat_lt n 64 ≡ true = lt-ltb n 64 s in
    record { first = n; rest = []; are = rw e refl; low = omega (arith, s); spelled = rw e (refl, refl) }
begun_by refused n fits (Middle l s) =
    let d : nat_lt n 64 ≡ false = le-ltb n 64 l in
    let e : nat_lt n 16384 ≡ true = lt-ltb n 16384 s in
    let high : nat_lt (64 + n / 256) 64 ≡ false = le-ltb _ _ (omega arith) in
    let low : nat_lt (64 + n / 256) 128 ≡ true = lt-ltb _ _ (omega (arith, s)) in
    let whole : n ≡ (64 + n / 256 - 64) * 256 + n % 256 = omega arith in
    let back : n % 256 ≡ from_be_bytes w8 (n % 256 ∷ []) = refl in
    record {
      first = 64 + n / 256;
      rest = n % 256 ∷ [];
      are = rw (d, e) refl;
      low = omega (arith, s);
      spelled = rw (high, low) (n % 256, n % 256 ∷ [], [], refl, number_spelled w8 (n % 256) (n % 256 ∷ []) refl back, (whole, refl));
    }
begun_by refused n fits (Wide l s) =
    let d : nat_lt n 64 ≡ false = le-ltb n 64 (omega (arith, l)) in
    let e : nat_lt n 16384 ≡ false = le-ltb n 16384 l in
    let f : nat_lt n (2 ^ 32) ≡ true = lt-ltb n (2 ^ 32) s in
    record { first = 128; rest = to_be_bytes w32 n; are = rw (d, e, f) refl; low = omega arith; spelled = number_spelled w32 n (to_be_bytes w32 n) refl (sym (from_be_bytes-to_be_bytes_4 n s)) }
begun_by refused n fits (Huge l) =
    let d : nat_lt n 64 ≡ false = le-ltb n 64 (omega (arith, l)) in
    let e : nat_lt n 16384 ≡ false = le-ltb n 16384 (omega (arith, l)) in
    let f : nat_lt n (2 ^ 32) ≡ false = le-ltb n (2 ^ 32) l in
    record { first = 129; rest = to_be_bytes w64 n; are = rw (d, e, f) refl; low = omega arith; spelled = number_spelled w64 n (to_be_bytes w64 n) refl (sym (from_be_bytes-to_be_bytes_8 n fits)) }

pub length_spelled : (n : ℕ) → n < 2 ^ 64 → a_length.Spells n (length_word n)
length_spelled n fits = let b = begun_by kinds.Length n fits (size_of n) in (b.first, b.rest, b.are, b.spelled)

-- ---- strings

turned_spelled : (branch : Branch ℕ) (n : ℕ) (rest : List ℕ) → BranchSpells branch n rest → BranchSpells (turned Len branch) (Len n) rest
turned_spelled (Goes one) n rest s = (n, rest, [], sym (append-nil rest), s, (refl, refl))
turned_spelled (Refuses is) n rest s = absurd s

-- a byte that isn't another
other_than : (b k : ℕ) → b < 192 → 192 ≤ k → (b == k) ≡ false
other_than b k low high = ne_eqb b k (λ e. omega (arith, low, high, e))

head_spelled : (n : ℕ) → n < 2 ^ 64 → head.Spells (Len n) (length_word n)
head_spelled n fits =
    let b = begun_by kinds.SpecialString n fits (size_of n) in
    let low : b.first < 192 = b.low in
    let one : (b.first == 192) ≡ false = other_than b.first 192 low (omega arith) in
    let two : (b.first == 193) ≡ false = other_than b.first 193 low (omega arith) in
    let four : (b.first == 194) ≡ false = other_than b.first 194 low (omega arith) in
    let lzf : (b.first == 195) ≡ false = other_than b.first 195 low (omega arith) in
    let s : BranchSpells (head_behind b.first) (Len n) b.rest = rw (one, two, four, lzf) (turned_spelled (length_behind kinds.SpecialString b.first) n b.rest b.spelled) in
    (b.first, b.rest, b.are, s)

pub string_spelled : (text : List ℕ) → length text ≤ longest → string.Spells text (string_word text)
string_spelled text short =
    let fits : length text < 2 ^ 64 = omega (arith, short) in
    (Len (length text), length_word (length text), text, refl, (head_spelled (length text) fits, le-leb (length text) longest short), (refl, refl))

-- ---- items

pub deadline_spelled : (moment : ℕ) → moment < 2 ^ 63 → item.Spells (Deadline moment) (deadline_word (Some moment))
deadline_spelled moment low =
    let bytes = to_le_bytes w64 moment in
    let back : moment ≡ from_le_bytes w64 bytes = sym (from_le_bytes-to_le_bytes_8 moment (omega (arith, low))) in
    let one : moment ≡ moment * 1 = omega arith in (
      Whole (Deadline moment),
      deadline_word (Some moment),
      [],
      sym (append-nil (deadline_word (Some moment))),
      (
        code.deadline_ms,
        bytes,
        refl,
        (
          Deadline moment,
          bytes,
          [],
          sym (append-nil bytes),
          (moment, bytes, [], sym (append-nil bytes), (number_le_spelled w64 moment bytes refl back, lt-ltb moment (2 ^ 63) low), (ap Deadline one, refl)),
          (refl, refl),
        ),
      ),
      (refl, refl),
    )

pub database_spelled : (number : ℕ) → number < 16 → item.Spells (Database number) (database_word number)
database_spelled number low =
    let word = length_word number in (
      Whole (Database number),
      database_word number,
      [],
      sym (append-nil (database_word number)),
      (
        code.select_db,
        word,
        refl,
        (
          Database number,
          word,
          [],
          sym (append-nil word),
          (number, word, [], sym (append-nil word), (length_spelled number (omega (arith, low)), lt-ltb number 16 low), (refl, refl)),
          (refl, refl),
        ),
      ),
      (refl, refl),
    )

pub end_spelled : item.Spells End (code.eof ∷ [])
end_spelled = (Whole End, code.eof ∷ [], [], refl, (code.eof, [], refl, (End, [], [], refl, (refl, refl), (refl, refl))), (refl, refl))

-- ---- pieces one behind the other

-- the word of one more
pub pieces_more : {A : Type 0} (word_of : A → List ℕ) (xs : List A) (none : A) (i : ℕ) → i < length xs
    → flat_map word_of (take i xs) ++ word_of (get_or xs i none) ≡ flat_map word_of (take (i + 1) xs)
pieces_more word_of xs none i below =
    sym (ap (flat_map word_of) (take_more xs i none below) ∙ flat_map-append word_of (take i xs) (get_or xs i none ∷ []) ∙ ap (λ l. flat_map word_of (take i xs) ++ l) (append-nil (word_of (get_or xs i none))))
