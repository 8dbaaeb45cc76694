-- Items are read.
use Rattle.std.proofs.Common.{◌≡◌, ℕ, zero, suc, ◌+◌, ◌<◌, ◌≤◌, List, [], ◌∷◌, ◌++◌, Option, Some, None, length, drop, ◌⊎◌, inl, inr, ap, sym, subst, ◌∙◌, refl, arith, length-append}
use Rattle.std.specs.Prelude.{flat_map}
use Rattle.std.specs.Fmt.{decimal}
use Rattle.std.proofs.lemmas.List.{append_assoc}
use Rattle.plain_world.specs.Words.{Words}
use Rattle.plain_world.specs.Spelling.{line_end}
use Rattle.resp_frames.specs.Frames.{header, bulk, IsText, Item, Asked, Passed, Line, item_bytes, IsItem, most_words}
use Rattle.resp_frames.specs.Faults.{LineFault, too_long, no_line_feed, NumberFault, bad_number, BulkFault, other_mark, length_line, length_number, no_return, no_feed, Begun, RequestFault}
use Rattle.resp_frames.specs.Faults.{count_line, count_number, in_word, in_line}
use Rattle.resp_frames.specs.Ends.{IsCut}
use Rattle.resp_frames.specs.Reading.{Read, Took, Open, Wrong, read_on, read_header, read_count, read_bulk, read_bulks, read_words, read_array, read_line, read_item}
use Rattle.resp_frames.proofs.Choices.{on_equal, by_equal}
use Rattle.resp_frames.proofs.Headers.{HeaderIs, header_again, header_is, line_first, line_begins}
use Rattle.resp_frames.proofs.Inlines.{InlineIs, line_again, inline_first, inline_is, inline_within, inline_stays}
use Rattle.resp_frames.proofs.Numbers.{CountIs, count_is, count_again, passed_again, count_bad, not_count}
use Rattle.resp_frames.proofs.Bulks.{decimal_text, bulk_first, BulksIs, bulks_again, bulks_open, bulks_wrong, bulks_is}
use Rattle.resp_frames.specs.declared.rule.Rule.{Rule}
use Rattle.resp_frames.specs.declared.rule.Rule.TheVariants as rules

-- the decimal text of a number of words that isn't too great is a text of a header
count_text : (n : ℕ) → n ≤ most_words → IsText (decimal n)
count_text n h = decimal_text n (omega arith)

-- behind the mark
marked : (bytes more : List ℕ) → bytes ≡ 42 ∷ more → read_item bytes ≡ read_array bytes
unfolding read_item
marked bytes more e = ap read_item e ∙ on_equal 42 42 (read_array (42 ∷ more)) (read_line (42 ∷ more)) refl ∙ ap read_array (sym e)

-- where there is no byte, the reading of an item is open
pub item_none : read_item [] ≡ Open
unfolding read_item
item_none = refl

-- behind a whole header an item is read by the count that its text tells
after_count : (text rest : List ℕ) (o : Option ℕ) → IsText text → read_count text ≡ o → read_item (header 42 text ++ rest) ≡ read_words (header 42 text ++ rest) text o rest
after_count text rest o h e =
    let all = header 42 text ++ rest in
    marked all ((text ++ line_end) ++ rest) refl ∙ ap (λ x. read_on x (λ t more. read_words all t (read_count t) more)) (header_again 42 text rest h) ∙ ap (λ c. read_words all text c rest) e

-- the reading of a request from that of its words
abbrev to_item : Read Words → Read Item
to_item x = read_on x (λ words end. Took (Asked words) end)

-- by a count above 0 an item is read from so many bulk strings
after_words : (all text : List ℕ) (n : ℕ) (rest : List ℕ) → 0 < n → read_words all text (Some n) rest ≡ to_item (read_bulks n rest)
after_words all text zero rest h = absurd (omega arith)
after_words all text (suc n) rest h = refl

-- a request of n words, from its first word on
after_number : (n : ℕ) (rest : List ℕ) → 0 < n → n ≤ most_words → read_item (header 42 (decimal n) ++ rest) ≡ to_item (read_bulks n rest)
after_number n rest some few =
    after_count (decimal n) rest (Some n) (count_text n few) (count_again n few) ∙ after_words (header 42 (decimal n) ++ rest) (decimal n) n rest some

-- a whole item is read as it is, and what follows it is left
pub item_again : (x : Item) (rest : List ℕ) → IsItem x → read_item (item_bytes x ++ rest) ≡ Took x rest
item_again (Asked words) rest h =
    ap read_item (append_assoc (header 42 (decimal (length words))) (flat_map bulk words) rest)
    ∙ after_number (length words) (flat_map bulk words ++ rest) h.some h.few ∙ ap to_item (bulks_again words rest h.each)
item_again (Passed text) rest h = after_count text rest (Some 0) h.1 (passed_again text h.0)
item_again (Line text) rest h = line_again text rest h.0 h.1

-- a request that has begun has a count above 0
begun_some : (bytes : List ℕ) (n : ℕ) (words : Words) (rest : List ℕ) → Begun bytes n words rest → 0 < n
begun_some bytes n words rest b = let due : length words < n = b.due in omega arith

-- a request that has begun is read from all its bulk strings
after_begun : (bytes : List ℕ) (n : ℕ) (words : Words) (rest : List ℕ) → Begun bytes n words rest → read_item bytes ≡ to_item (read_bulks n (flat_map bulk words ++ rest))
after_begun bytes n words rest b = ap read_item b.whole ∙ after_number n (flat_map bulk words ++ rest) (begun_some bytes n words rest b) b.few

-- a request that has begun is open where its rest is
pub item_begun : (bytes : List ℕ) (n : ℕ) (words : Words) (rest : List ℕ) → Begun bytes n words rest → read_bulk rest ≡ Open → read_item bytes ≡ Open
item_begun bytes n words rest b e = after_begun bytes n words rest b ∙ ap to_item (bulks_open n words rest b.due b.each e)

-- the reading of an item is open where there is no byte, or the header of a request isn't whole
pub item_counting : (bytes : List ℕ) → (bytes ≡ []) ⊎ (bytes ≡ 42 ∷ drop 1 bytes) → read_header bytes ≡ Open → read_item bytes ≡ Open
item_counting bytes begun e = elim begun [
  | inl none ↦ ap read_item none ∙ item_none
  | inr some ↦ marked bytes (drop 1 bytes) some ∙ ap (λ x. read_on x (λ text rest. read_words bytes text (read_count text) rest)) e
]

-- faults of one rule and one place are the same reading
fault_is : (rule rule' : Rule) (from from' : List ℕ) → rule ≡ rule' → from ≡ from' → (let w : Read Item = Wrong rule' from' in w) ≡ Wrong rule from
fault_is rule rule' from from' e f = sym (ap (λ r. Wrong r from) e ∙ ap (Wrong rule') f)

-- a fault of the request at the front is what the reading of an item tells
pub item_first : (bytes : List ℕ) (rule : Rule) (from : List ℕ) → RequestFault bytes rule from → read_item bytes ≡ Wrong rule from
item_first bytes rule from (count_line h) =
    let begins = line_begins 42 rule bytes from h in
    marked bytes begins.0 begins.1 ∙ ap (λ x. read_on x (λ text rest. read_words bytes text (read_count text) rest)) (line_first 42 rule bytes from h)
item_first bytes rule from (count_number (bad_number text more r f e h bad)) =
    ap read_item e ∙ after_count text more None h (count_bad text bad) ∙ fault_is rule rules.InvalidMultibulkLength from (header 42 text ++ more) r (f ∙ e)
item_first bytes rule from (in_word n words rest b h) =
    after_begun bytes n words rest b ∙ ap to_item (bulks_wrong n words rest rule from b.due b.each (bulk_first rest rule from h))
item_first bytes rule from (in_line h) = inline_first bytes rule from h

-- what the reading of an item tells
abbrev pub ItemIs : List ℕ → Read Item → Type 0
ItemIs bytes (Took x rest) = IsItem x × (bytes ≡ item_bytes x ++ rest)
ItemIs bytes Open = Unit {0}
ItemIs bytes (Wrong rule from) = RequestFault bytes rule from

-- what the reading of bulk strings behind a count above 0 tells holds of the item
request_is : (bytes : List ℕ) (n : ℕ) (rest : List ℕ) → 0 < n → n ≤ most_words → bytes ≡ header 42 (decimal n) ++ rest → (x : Read Words) → BulksIs n rest x → ItemIs bytes (to_item x)
request_is bytes n rest some few e (Took words end) h =
    let len : length words ≡ n = h.0 in
    let P : ℕ → Type 0 = λ m. (0 < m) × (m ≤ most_words) in
    let bounds : P (length words) = subst P (sym len) (some, few) in (
      record { some = bounds.0; few = bounds.1; each = h.1 },
      e ∙ ap (λ m. header 42 (decimal m) ++ rest) (sym len) ∙ ap (λ l. header 42 (decimal (length words)) ++ l) h.2 ∙ sym (append_assoc (header 42 (decimal (length words))) (flat_map bulk words) end),
    )
request_is bytes n rest some few e Open h = tt
request_is bytes n rest some few e (Wrong rule from) h =
    in_word n h.words h.rest (record { whole = e ∙ ap (λ l. header 42 (decimal n) ++ l) h.whole; few = few; due = h.due; each = h.each }) h.fault

-- what the reading tells behind a whole header holds of the item, whether its number is a count or not
words_is : (bytes text rest : List ℕ) (o : Option ℕ) → read_count text ≡ o → CountIs text o → IsText text → bytes ≡ header 42 text ++ rest → ItemIs bytes (read_words bytes text o rest)
words_is bytes text rest None is k h e = count_number (bad_number text rest refl refl e h (not_count text is))
words_is bytes text rest (Some zero) is k h e = ((k, h), e)
words_is bytes text rest (Some (suc n)) is k h e = request_is bytes (suc n) rest (omega arith) k.0 (e ∙ ap (λ t. header 42 t ++ rest) k.1) (read_bulks (suc n) rest) (bulks_is (suc n) rest)

-- what the reading tells from the header on holds of the item
then_item : (bytes : List ℕ) (x : Read (List ℕ)) → HeaderIs 42 bytes x → ItemIs bytes (read_on x (λ text rest. read_words bytes text (read_count text) rest))
then_item bytes (Took text rest) h = words_is bytes text rest (read_count text) refl (count_is text) h.0 h.1
then_item bytes Open h = tt
then_item bytes (Wrong rule from) h = count_line h

-- what holds of the reading of an inline request holds of that of an item
line_item : (bytes : List ℕ) (x : Read Item) → InlineIs bytes x → ItemIs bytes x
line_item bytes (Took x rest) h = h
line_item bytes Open h = tt
line_item bytes (Wrong rule from) h = in_line h

-- what the reading of an item tells holds of the bytes
pub item_is : (bytes : List ℕ) → ItemIs bytes (read_item bytes)
unfolding read_item
item_is [] = tt
item_is (b ∷ bytes) =
    let Q : ℕ → Type 0 = λ c. ItemIs (c ∷ bytes) (read_array (c ∷ bytes)) in
    by_equal (ItemIs (b ∷ bytes)) b 42 (read_array (b ∷ bytes)) (read_line (b ∷ bytes))
    (λ e. subst Q (sym e) (then_item (42 ∷ bytes) (read_header (42 ∷ bytes)) (header_is 42 bytes)))
    (λ ne. line_item (b ∷ bytes) (read_line (b ∷ bytes)) (inline_is (b ∷ bytes) ne))

-- what can't be read yet is cut, unless it is nothing
pub cut_from_open : (bytes : List ℕ) → read_item bytes ≡ Open → (bytes ≡ [] → ⊥) → IsCut bytes
cut_from_open bytes e some = record {
  some = some;
  open_yet = λ x more good is. let a : read_item bytes ≡ Took x more = ap read_item is ∙ item_again x more good in cc;
  sound = λ rule from h. let a = item_first bytes rule from h in cc;
}

-- the place of a fault stands in the bytes
line_within : (mark : ℕ) (bytes : List ℕ) (rule : Rule) (from : List ℕ) → LineFault mark bytes rule from → length from ≤ length bytes
line_within mark bytes rule from (too_long t more r f e p n) = omega (arith, ap length f)
line_within mark bytes rule from (no_line_feed t more b r f e h ne) =
    let n : length bytes ≡ length (mark ∷ t ++ 13 ∷ from) = ap length e in
    let m : length (t ++ 13 ∷ from) ≡ length t + length (13 ∷ from) = length-append t (13 ∷ from) in
    omega arith

-- the place of a fault of a header's number stands in the bytes
number_within : (mark : ℕ) (wrong : Rule) (IsGood : List ℕ → Type 0) (bytes : List ℕ) (rule : Rule) (from : List ℕ) → NumberFault mark wrong IsGood bytes rule from → length from ≤ length bytes
number_within mark wrong IsGood bytes rule from (bad_number t more r f e h bad) = omega (arith, ap length f)

-- the place of a fault of a bulk string stands in the bytes
bulk_within : (bytes : List ℕ) (rule : Rule) (from : List ℕ) → BulkFault bytes rule from → length from ≤ length bytes
bulk_within bytes rule from (other_mark b more r f e ne) = omega (arith, ap length f)
bulk_within bytes rule from (length_line h) = line_within 36 bytes rule from h
bulk_within bytes rule from (length_number h) = number_within 36 rules.InvalidBulkLength _ bytes rule from h
bulk_within bytes rule from (no_return w more b r f e h ne) =
    let n : length bytes ≡ length (header 36 (decimal (length w)) ++ (w ++ from)) = ap length e in
    omega (arith, length-append (header 36 (decimal (length w))) (w ++ from), length-append w from)
bulk_within bytes rule from (no_feed w more b r f e h ne) =
    let n : length bytes ≡ length (header 36 (decimal (length w)) ++ (w ++ 13 ∷ from)) = ap length e in
    omega (arith, length-append (header 36 (decimal (length w))) (w ++ 13 ∷ from), length-append w (13 ∷ from))

-- the place of a fault of a request stands in the bytes
pub fault_within : (bytes : List ℕ) (rule : Rule) (from : List ℕ) → RequestFault bytes rule from → length from ≤ length bytes
fault_within bytes rule from (count_line h) = line_within 42 bytes rule from h
fault_within bytes rule from (in_line h) = inline_within bytes rule from h
fault_within bytes rule from (count_number h) = number_within 42 rules.InvalidMultibulkLength _ bytes rule from h
fault_within bytes rule from (in_word n words rest b h) =
    let k : length from ≤ length rest = bulk_within rest rule from h in
    let m : length bytes ≡ length (header 42 (decimal n) ++ (flat_map bulk words ++ rest)) = ap length b.whole in
    omega (arith, length-append (header 42 (decimal n)) (flat_map bulk words ++ rest), length-append (flat_map bulk words) rest)

-- a fault stays, whatever comes behind it

-- a fault of a header's line stays, whatever comes behind it
line_stays : (mark : ℕ) (bytes : List ℕ) (rule : Rule) (from back : List ℕ) → LineFault mark bytes rule from → LineFault mark (bytes ++ back) rule (from ++ back)
line_stays mark bytes rule from back (too_long t more r f e p n) =
    too_long t (more ++ back) r (ap (λ l. l ++ back) f) (ap (λ l. l ++ back) e ∙ ap (λ l. mark ∷ l) (append_assoc t more back)) p n
line_stays mark bytes rule from back (no_line_feed t more b r f e h ne) =
    no_line_feed t (more ++ back) b r (ap (λ l. l ++ back) f) (ap (λ l. l ++ back) e ∙ ap (λ l. mark ∷ l) (append_assoc t (13 ∷ from) back)) h ne

-- a fault of a header's number stays, whatever comes behind it
number_stays : (mark : ℕ) (wrong : Rule) (IsGood : List ℕ → Type 0) (bytes : List ℕ) (rule : Rule) (from back : List ℕ) → NumberFault mark wrong IsGood bytes rule from
    → NumberFault mark wrong IsGood (bytes ++ back) rule (from ++ back)
number_stays mark wrong IsGood bytes rule from back (bad_number t more r f e h bad) =
    bad_number t (more ++ back) r (ap (λ l. l ++ back) f) (ap (λ l. l ++ back) e ∙ append_assoc (header mark t) more back) h bad

-- a fault of a bulk string stays, whatever comes behind it
bulk_stays : (bytes : List ℕ) (rule : Rule) (from back : List ℕ) → BulkFault bytes rule from → BulkFault (bytes ++ back) rule (from ++ back)
bulk_stays bytes rule from back (other_mark b more r f e ne) = other_mark b (more ++ back) r (ap (λ l. l ++ back) f) (ap (λ l. l ++ back) e) ne
bulk_stays bytes rule from back (length_line h) = length_line (line_stays 36 bytes rule from back h)
bulk_stays bytes rule from back (length_number h) = length_number (number_stays 36 rules.InvalidBulkLength _ bytes rule from back h)
bulk_stays bytes rule from back (no_return w more b r f e h ne) =
    let head = header 36 (decimal (length w)) in
    no_return w (more ++ back) b r (ap (λ l. l ++ back) f) (ap (λ l. l ++ back) e ∙ append_assoc head (w ++ from) back ∙ ap (λ l. head ++ l) (append_assoc w from back)) h ne
bulk_stays bytes rule from back (no_feed w more b r f e h ne) =
    let head = header 36 (decimal (length w)) in
    no_feed w (more ++ back) b r (ap (λ l. l ++ back) f) (ap (λ l. l ++ back) e ∙ append_assoc head (w ++ 13 ∷ from) back ∙ ap (λ l. head ++ l) (append_assoc w (13 ∷ from) back)) h ne

-- a request that has begun has begun with the same whole words, whatever comes behind it
pub begun_stays : (bytes : List ℕ) (n : ℕ) (words : Words) (rest back : List ℕ) → Begun bytes n words rest → Begun (bytes ++ back) n words (rest ++ back)
begun_stays bytes n words rest back b =
    let head = header 42 (decimal n) in
    record {
      whole = ap (λ l. l ++ back) b.whole ∙ append_assoc head (flat_map bulk words ++ rest) back ∙ ap (λ l. head ++ l) (append_assoc (flat_map bulk words) rest back);
      few = b.few;
      due = b.due;
      each = b.each;
    }

-- a fault of a request stays, whatever comes behind it
pub fault_stays : (bytes : List ℕ) (rule : Rule) (from back : List ℕ) → RequestFault bytes rule from → RequestFault (bytes ++ back) rule (from ++ back)
fault_stays bytes rule from back (count_line h) = count_line (line_stays 42 bytes rule from back h)
fault_stays bytes rule from back (in_line h) = in_line (inline_stays bytes rule from back h)
fault_stays bytes rule from back (count_number h) = count_number (number_stays 42 rules.InvalidMultibulkLength _ bytes rule from back h)
fault_stays bytes rule from back (in_word n words rest b h) = in_word n words (rest ++ back) (begun_stays bytes n words rest back b) (bulk_stays rest rule from back h)
