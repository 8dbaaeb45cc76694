-- The texts of a file are short.
use Rattle.std.proofs.Common.{◌≡◌, ℕ, zero, suc, ◌+◌, ◌-◌, ◌*◌, ◌/◌, ◌%◌, ◌≤◌, ◌==◌, Bool, true, false, List, [], ◌∷◌, ◌++◌, length, map, drop, refl, sym, ap, subst, arith}
use Rattle.std.specs.Prelude.{ℤ, pos, negsuc, nat_le, slice_index, if◌then◌else◌}
use Rattle.std.specs.List.{AllByRecursion}
use Rattle.std.specs.Fmt.{digit_glyph, digits_onto, digits, decimal, signed_decimal}
use Rattle.std.specs.Int.{from_le_bytes, cast_signed}
use Rattle.std.proofs.lemmas.Bool.{leb-true}
use Rattle.std.proofs.lemmas.List.{length-append, length-take, length-drop}
use Rattle.byteorder.specs.Endian.{little_number, twos_complement}
use Rattle.listpack.specs.Entry.{Encoding, SmallNumber, ShortText, ThirteenBits, MediumText, LongText, Signed, NoEncoding, encoding_of, text_by, text_of, thirteen_bits, entry_of, back_length}
use Rattle.listpack.specs.Pack.{entries, region}
use Rattle.plain_world.specs.Words.{longest}
use Rattle.rdb_grammar.specs.Strings.{Head, Len, Num, is_short, body, string}
use Rattle.rdb_grammar.specs.Payloads.{texts_in}
use Rattle.rdb_grammar.specs.StreamParts.{is_node_short, node_string, longest_node}
use Rattle.plain_world.specs.Worlds.{Value, Str, ListOf, SetOf, HashOf, SortedOf, StreamOf}
use Rattle.fit_worlds.specs.Fit.{IsShort, AreShort, IsScore, EachIs, IsFitStream}
use Rattle.fit_files.proofs.Spelled.{Says, MeansOnly}

-- ---- numbers

-- at most so many digits are put in front
onto_short : (k base : ℕ) (upper : Bool) (n : ℕ) (acc : List ℕ) → length (digits_onto k base upper n acc) ≤ k + length acc
onto_short zero base upper n acc = omega arith
onto_short (suc k) base upper n acc =
    let more = onto_short k base upper (n / base) (digit_glyph upper (n % base) ∷ acc) in
    elim (n / base == 0) as
    (λ b. length (if b then digit_glyph upper (n % base) ∷ acc else digits_onto k base upper (n / base) (digit_glyph upper (n % base) ∷ acc)) ≤ suc k + length acc) [
      | true ↦ omega arith
      | false ↦ omega (arith, more)
    ]

decimal_few : (n : ℕ) → length (decimal n) ≤ 64
unfolding digits
decimal_few n = omega (arith, onto_short 64 10 false n [])

-- the text of a number, whatever the number is
pub number_short : (n : ℤ) → IsShort (signed_decimal n)
number_short (pos n) = omega (arith, decimal_few n)
number_short (negsuc n) = omega (arith, decimal_few (suc n))

-- ---- strings

-- a head tells so many bytes at most, or a number
abbrev is_upto : ℕ → Head → Bool
is_upto most (Len n) = nat_le n most
is_upto most (Num w) = true

is_short_upto : (h : Head) → is_short h ≡ true → is_upto longest h ≡ true
is_short_upto (Len n) e = e
is_short_upto (Num w) e = e

is_node_upto : (h : Head) → is_node_short h ≡ true → is_upto longest_node h ≡ true
is_node_upto (Len n) e = e
is_node_upto (Num w) e = e

-- what stands behind a head that tells at most so many bytes
body_short : (h : Head) (text word : List ℕ) → ((n : ℕ) → h ≡ Len n → n ≤ longest) → (body h).Spells text word → IsShort text
body_short (Len n) text word few s = let most : n ≤ longest = few n refl in omega (arith, most, s.1)
body_short (Num w) text word few s = subst IsShort (sym s.5.0) (number_short (cast_signed w (from_le_bytes w s.0)))

-- a head that a test takes, by the most bytes that the test lets it tell
tested : (h : Head) (most : ℕ) → most ≤ longest → is_upto most h ≡ true → (n : ℕ) → h ≡ Len n → n ≤ longest
tested (Len m) most below is n e = let same : m ≡ n = cc in let within : m ≤ most = leb-true m most is in subst (λ k. k ≤ longest) same (omega (arith, within, below))
tested (Num w) most below is n e = cc

pub string_short : Says string IsShort
string_short text word s = body_short s.0 text s.2 (tested s.0 longest (omega arith) (is_short_upto s.0 s.4.1)) s.5

pub node_short : Says node_string IsShort
node_short text word s = body_short s.0 text s.2 (tested s.0 longest_node (omega arith) (is_node_upto s.0 s.4.1)) s.5

-- ---- elements of listpacks

text_by_short : (e : Encoding) (b : ℕ) (more : List ℕ) → IsShort more → IsShort (text_by e b more)
text_by_short SmallNumber b more short = number_short (pos b)
text_by_short ShortText b more short = short
text_by_short ThirteenBits b more short = number_short (thirteen_bits ((b - 0xC0) * 256 + slice_index more 0))
text_by_short MediumText b more short = omega (arith, length-drop 1 more, short)
text_by_short LongText b more short = omega (arith, length-drop 4 more, short)
text_by_short (Signed n) b more short = number_short (twos_complement n (little_number n more))
text_by_short NoEncoding b more short = omega arith

text_short : (s : List ℕ) → IsShort s → IsShort (text_of s)
unfolding text_of
text_short [] short = omega arith
text_short (b ∷ more) short = text_by_short (encoding_of b) b more (omega (arith, short))

-- entries that are short together are short each
texts_short : (spellings : List (List ℕ)) → IsShort (entries spellings) → AreShort (map text_of spellings)
texts_short [] short = tt
texts_short (s ∷ spellings) short =
    let whole : length (entry_of s ++ entries spellings) ≡ length (entry_of s) + length (entries spellings) = length-append (entry_of s) (entries spellings) in
    let own : length (entry_of s) ≡ length s + length (back_length (length s)) = length-append s (back_length (length s)) in
    (text_short s (omega (arith, whole, own, short)), texts_short spellings (omega (arith, whole, short)))

-- the elements of a short listpack
pub pack_short : MeansOnly IsShort texts_in AreShort
pack_short bytes short list m =
    let inside : length (region bytes) ≤ length bytes = omega (arith, length-take (length bytes - 1 - 6) (drop 6 bytes), length-drop 6 bytes) in
    let same : length (region bytes) ≡ length (entries m.0) = ap length m.1.all_entries in
    subst AreShort (sym m.2) (texts_short m.0 (omega (arith, inside, same, short)))

-- what is left of two lists, one behind the other
pub each_split : {X : Type 0} (P : X → Type 0) (xs ys : List X) → AllByRecursion P (xs ++ ys) → AllByRecursion P xs × AllByRecursion P ys
each_split P [] ys h = (tt, h)
each_split P (x ∷ xs) ys h = let rest = each_split P xs ys h.1 in ((h.0, rest.0), rest.1)

-- ---- values

-- a value that is fit but for that it may be empty
abbrev pub ShortValue : Value → Type 0
ShortValue (Str text) = IsShort text
ShortValue (ListOf elements) = AreShort elements
ShortValue (SetOf members) = EachIs (λ member nothing. IsShort member) members
ShortValue (HashOf fields) = EachIs (λ field value. IsShort field × IsShort value) fields
ShortValue (SortedOf scores) = EachIs (λ member score. IsShort member × IsScore score) scores
ShortValue (StreamOf stream) = IsFitStream stream
