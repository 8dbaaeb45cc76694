-- An entry alone in a node is no longer than the node that it was read from.
use Rattle.std.proofs.Common.{◌≡◌, ◌∙◌, ℕ, ◌+◌, ◌-◌, ◌*◌, ◌%◌, ◌^◌, ◌<◌, ◌≤◌, Bool, true, false, List, [], ◌∷◌, ◌++◌, length, map, take, drop, sym, ap, subst, inl, inr, arith, length-append, pos}
use Rattle.std.specs.Prelude.{Option, Some, None}
use Rattle.std.specs.Int.{w64, cast_signed}
use Rattle.std.specs.List.{AllByRecursion}
use Rattle.std.proofs.lemmas.Bool.{cases_lt}
use Rattle.std.proofs.lemmas.List.{length-map, take-append-drop}
use Rattle.int_text.specs.Decimal.{canonical}
use Rattle.int_text.proofs.NumberOf.{number_back}
use Rattle.listpack.specs.Entry.{back_length}
use Rattle.listpack.specs.Pack.{IsPack, entries, region, spellings_of, texts}
use Rattle.listpack.specs.Writing.{number_spelling, text_head, spelling, entry}
use Rattle.listpack.proofs.Backs.{back_one}
use Rattle.listpack.proofs.ReadBack.{number_spelled}
use Rattle.listpack.proofs.Spellings.{spelling_pos}
use Rattle.listpack.proofs.Writings.{head_short, head_medium, head_long, number_cases, spelling_as}
use Rattle.stream_node.specs.declared.id.Id.{Id}
use Rattle.stream_node.specs.Entry.{Pair, Stored, number, flags, fields_of, body, size, IsBody, IsEntry}
use Rattle.stream_node.specs.Node.{Begins}
use Rattle.stream_node.specs.Entries.{IsNode, entries_of}
use Rattle.stream_node.specs.Ids.{IsId}
use Rattle.stream_node.specs.Room.{alone_len}
use Rattle.stream_node.specs.Written.{difference, start_texts, body_texts, entry_texts, head_texts}
use Rattle.stream_node.proofs.Lists.{Texts}
use Rattle.stream_node.proofs.Same.{flat, fits_count}
use Rattle.stream_node.proofs.Written.{written, written_append, length_pack, length-values}
use Rattle.rax_packed.proofs.Entries.{all_front, all_back, all_weaker}
use Rattle.stream_object.proofs.Lighter.{entry_two, some_back}
use Rattle.stream_object.proofs.Marking.{node_ids}
use Rattle.stream_object.proofs.Shortest.{Bytes, five_bytes, written_shortest}

-- an element takes two bytes at least
some_head : (n : ℕ) → 1 ≤ length (text_head n)
some_head n = elim (cases_lt n 64) [
  | inl a ↦ omega (arith, ap length (head_short n a))
  | inr a ↦ elim (cases_lt n 4096) [
    | inl b ↦ omega (arith, ap length (head_medium n a b))
    | inr b ↦ omega (arith, ap length (head_long n b))
  ]
]

some_spelling : (text : List ℕ) → 1 ≤ length (spelling text)
some_spelling text = elim (number_cases text) [
  | inl none ↦ omega (arith, some_head (length text), ap length (spelling_as text None none), length-append (text_head (length text)) text)
  | inr is ↦ omega (arith, ap length (spelling_as text (Some is.0) is.1), spelling_pos (number_spelling is.0) (number_spelled is.0 is.2).0)
]

entry_least : (text : List ℕ) → 2 ≤ length (entry text)
entry_least text = omega (arith, some_spelling text, some_back (length (spelling text)), length-append (spelling text) (back_length (length (spelling text))))

written_cons : (x : List ℕ) (xs : Texts) → written (x ∷ xs) ≡ length (entry x) + written xs
written_cons x xs = length-append (entry x) (entries (map spelling xs))

written_least : (xs : Texts) → 2 * length xs ≤ written xs
written_least [] = omega arith
written_least (x ∷ xs) = omega (arith, written_least xs, entry_least x, written_cons x xs)

-- a number takes few bytes
number_as : (n : ℕ) → n < 2 ^ 63 → spelling (number n) ≡ number_spelling (pos n)
number_as n h = spelling_as (number n) (Some (pos n)) (number_back (pos n) (fits_count n h))

entry_six : (n : ℕ) → n < 2 ^ 31 → length (entry (number n)) ≤ 6
entry_six n small =
    let few = five_bytes (pos n) (omega (arith, small)) in
    let s = spelling (number n) in
    let size : length s ≤ 5 = omega (arith, few, ap length (number_as n (omega (arith, small)))) in
    omega (arith, size, length-append s (back_length (length s)), ap length (back_one (length s) (omega (arith, size))))

-- fields and values, alternating, take as many bytes as apart
flat_parts : (pairs : List Pair) → written (flat pairs) ≡ written (fields_of pairs) + written (body true pairs)
flat_parts [] = omega arith
flat_parts (p ∷ pairs) =
    omega (
      arith,
      flat_parts pairs,
      written_cons p.0 (p.1 ∷ flat pairs),
      written_cons p.1 (flat pairs),
      written_cons p.0 (fields_of pairs),
      written_cons p.1 (body true pairs),
    )

-- the bytes of a number as an element
abbrev bytes_of : ℕ → ℕ
bytes_of n = length (entry (number n))

-- what an entry alone takes beside twelve bytes: the number of its fields, these, the values, and its last element
abbrev cost : List Pair → ℕ
cost pairs = bytes_of (length pairs) + (written (fields_of pairs) + (written (body true pairs) + bytes_of (size (body true pairs))))

no_difference : (part : ℕ) → part < 2 ^ 64 → canonical (difference part part) ≡ number 0
no_difference part small =
    let none : (part + (2 ^ 64 - part)) % 2 ^ 64 ≡ 0 = omega (arith, small) in
    ap (λ (n : ℕ). canonical (cast_signed w64 n)) none

-- the flags of a live entry with the node's fields, and a difference that is none
flags_two : length (entry (number (flags false true))) ≡ 2
flags_two = entry_two 2 (omega arith)

none_two : (part : ℕ) → part < 2 ^ 64 → length (entry (canonical (difference part part))) ≡ 2
none_two part small = ap (λ (x : List ℕ). length (entry x)) (no_difference part small) ∙ entry_two 0 (omega arith)

-- what an entry alone begins with, and the head before it
start_six : (id : Id) → IsId id → written (start_texts id id true) ≡ 6
start_six id fits =
    let ms = canonical (difference id.ms id.ms) in
    let seq = canonical (difference id.seq id.seq) in
    omega (
      arith,
      written_cons (number (flags false true)) (ms ∷ seq ∷ []),
      written_cons ms (seq ∷ []),
      written_cons seq [],
      flags_two,
      none_two id.ms fits.ms,
      none_two id.seq fits.seq,
    )

head_is : (pairs : List Pair) → written (head_texts pairs) ≡ 6 + bytes_of (length pairs) + written (fields_of pairs)
head_is pairs =
    let many = number (length pairs) in
    let rest : Texts = fields_of pairs ++ number 0 ∷ [] in
    omega (
      arith,
      written_cons (number 1) (number 0 ∷ many ∷ rest),
      written_cons (number 0) (many ∷ rest),
      written_cons many rest,
      written_append (fields_of pairs) (number 0 ∷ []),
      written_cons (number 0) [],
      entry_two 0 (omega arith),
      entry_two 1 (omega arith),
    )

alone_is : (id : Id) (pairs : List Pair) → IsId id → alone_len id pairs ≡ 19 + cost pairs
alone_is id pairs fits =
    let end = number (size (body true pairs)) in
    omega (
      arith,
      written_append (head_texts pairs) (entry_texts id id true pairs),
      head_is pairs,
      written_append (start_texts id id true) (body_texts true pairs),
      start_six id fits,
      written_append (body true pairs) (end ∷ []),
      written_cons end [],
    )

-- the bytes of a node's fields, and of how many they are
abbrev fields_cost : Texts → ℕ
fields_cost master = bytes_of (length master) + written master

body_weighs : (same : Bool) (master list : Texts) (pairs : List Pair) (rest : Texts) → IsBody same master list pairs rest → 0 < length master → written list ≤ 536870000
    → (cost pairs + written rest ≤ fields_cost master + written list) × (written rest ≤ written list)
body_weighs true master list pairs rest is some short =
    let end = number (size (body true pairs)) in
    let whole = ap written is.elements ∙ written_append (body true pairs) (end ∷ rest) in
    let last = written_cons end rest in
    let many : length master ≡ length pairs = ap length (sym is.fields) ∙ length-map pairs (λ (p : Pair). p.0) in
    (omega (arith, whole, last, ap bytes_of many, ap written is.fields), omega (arith, whole, last))
body_weighs false master list pairs rest is some short =
    let end = number (size (body false pairs)) in
    let whole = ap written is.elements ∙ written_append (body false pairs) (end ∷ rest) in
    let last = written_cons end rest in
    let first = written_cons (number (length pairs)) (flat pairs) in
    let apart = flat_parts pairs in
    let few : length pairs ≤ 268435000 = omega (arith, short, whole, last, first, apart, written_least (body true pairs), length-map pairs (λ (p : Pair). p.1)) in
    let six = entry_six (size (body true pairs)) (omega (arith, few, length-values pairs)) in
    (omega (arith, whole, last, first, apart, six, entry_least (number (length master)), written_least master, some, entry_least end), omega (arith, whole, last))

entry_weighs : (key : Id) (master list : Texts) (e : Stored) (rest : Texts) → IsEntry key master list e rest → 0 < length master → written list ≤ 536870000
    → (6 + cost e.pairs + written rest ≤ fields_cost master + written list) × (written rest ≤ written list)
entry_weighs key master list e rest is some short =
    let s = is.start in
    let flag = number (flags e.deleted is.same) in
    let ms = canonical s.ms in
    let seq = canonical s.seq in
    let whole = ap written s.elements ∙ written_cons flag (ms ∷ seq ∷ is.behind) in
    let two = written_cons ms (seq ∷ is.behind) in
    let three = written_cons seq is.behind in
    let more = body_weighs is.same master is.behind e.pairs rest is.pairs some (omega (arith, short, whole, two, three)) in
    (omega (arith, whole, two, three, more.0, entry_least flag, entry_least ms, entry_least seq), omega (arith, whole, two, three, more.1))

all_weigh : (key : Id) (master list : Texts) (before : Option Id) (es : List Stored) (rest : Texts) → Begins key master before list es rest → 0 < length master → written list ≤ 536870000
    → AllByRecursion (λ e. 6 + cost e.pairs ≤ fields_cost master + written list) es
unfolding Begins
all_weigh key master list before [] rest b some short = tt
all_weigh key master list before (e ∷ es) rest b some short =
    let here = entry_weighs key master list e b.0 b.1 some short in
    let more = all_weigh key master b.0 (Some e.id) es rest b.3 some (omega (arith, short, here.1)) in (
      omega (arith, here.0),
      all_weaker (λ (f : Stored). 6 + cost f.pairs ≤ fields_cost master + written b.0) (λ (f : Stored). 6 + cost f.pairs ≤ fields_cost master + written list) es (λ f h. omega (arith, h, here.1)) more,
    )

-- an entry has a pair at least
some_pairs : (same : Bool) (master list : Texts) (pairs : List Pair) (rest : Texts) → IsBody same master list pairs rest → 0 < length master → 0 < length pairs
some_pairs true master list pairs rest is some = omega (arith, some, ap length is.fields, length-map pairs (λ (p : Pair). p.0))
some_pairs false master list pairs rest is some = is.fields.0

all_some : (key : Id) (master list : Texts) (before : Option Id) (es : List Stored) (rest : Texts) → Begins key master before list es rest → 0 < length master
    → AllByRecursion (λ e. 0 < length e.pairs) es
unfolding Begins
all_some key master list before [] rest b some = tt
all_some key master list before (e ∷ es) rest b some =
    (some_pairs b.1.same master b.1.behind e.pairs b.0 b.1.pairs some, all_some key master b.0 (Some e.id) es rest b.3 some)

pub node_some : (key : Id) (list : Texts) → IsNode key list → AllByRecursion (λ e. 0 < length e.pairs) (entries_of key list)
node_some key list n = all_some key n.master n.behind None (entries_of key list) [] n.all_entries n.head.some

-- bytes of a part
region_bytes : (pack : List ℕ) → Bytes pack → Bytes (region pack)
region_bytes pack all =
    let B : ℕ → Type 0 = λ b. b < 256 in
    let end : ℕ = length pack - 1 - 6 in
    let tail = all_back B (take 6 pack) (drop 6 pack) (subst Bytes (sym (take-append-drop 6 pack)) all) in
    all_front B (take end (drop 6 pack)) (drop end (drop 6 pack)) (subst Bytes (sym (take-append-drop end (drop 6 pack))) tail)

pack_shortest : (pack : List ℕ) → IsPack pack → Bytes pack → 7 + written (texts pack) ≤ length pack
pack_shortest pack p all =
    omega (arith, length_pack pack p, written_shortest (spellings_of pack) p.each (subst Bytes p.all_entries (region_bytes pack all)))

lifted : (limit size : ℕ) (es : List Stored) → AllByRecursion (λ e. IsId e.id) es → AllByRecursion (λ e. 6 + cost e.pairs ≤ limit) es → 13 + limit ≤ size
    → AllByRecursion (λ e. alone_len e.id e.pairs ≤ size) es
lifted limit size [] ids few fits = tt
lifted limit size (e ∷ es) ids few fits = (omega (arith, few.0, fits, alone_is e.id e.pairs ids.0), lifted limit size es ids.1 few.1 fits)

pub alone_short : (key : Id) (pack : List ℕ) → IsPack pack → Bytes pack → IsNode key (texts pack) → length pack ≤ 536870000
    → AllByRecursion (λ e. alone_len e.id e.pairs ≤ length pack) (entries_of key (texts pack))
alone_short key pack p all n short =
    let list = texts pack in
    let live = number n.live in
    let deleted = number n.deleted in
    let many = number (length n.master) in
    let rest : Texts = n.master ++ number 0 ∷ n.behind in
    let shortest = pack_shortest pack p all in
    let whole = ap written n.head.elements ∙ written_cons live (deleted ∷ many ∷ rest) in
    let two = written_cons deleted (many ∷ rest) in
    let three = written_cons many rest in
    let four = written_append n.master (number 0 ∷ n.behind) in
    let five = written_cons (number 0) n.behind in
    lifted (fields_cost n.master + written n.behind) (length pack) (entries_of key list) (node_ids key list n)
    (all_weigh key n.master n.behind None (entries_of key list) [] n.all_entries n.head.some (omega (arith, short, shortest, whole, two, three, four, five)))
    (omega (arith, shortest, whole, two, three, four, five, entry_least live, entry_least deleted, entry_least (number 0)))
