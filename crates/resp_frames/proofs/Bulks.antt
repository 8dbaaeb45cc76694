-- Bulk strings are read.
use Rattle.std.proofs.Common.{◌≡◌, ℕ, zero, suc, ◌<◌, ◌≤◌, ◌^◌, List, [], ◌∷◌, ◌++◌, Option, Some, None, length, take, drop, get_or, ◌+◌, ◌⊎◌, inl, inr, ap, sym, subst, ◌∙◌, refl, arith, lit<}
use Rattle.std.specs.Prelude.{flat_map}
use Rattle.std.specs.List.{AllByRecursion}
use Rattle.std.specs.Fmt.{decimal}
use Rattle.std.proofs.lemmas.List.{append_assoc, take-append-drop, drop_all, drop_more}
use Rattle.plain_world.specs.Words.{Words, longest}
use Rattle.plain_world.specs.Spelling.{line_end}
use Rattle.plain_world.proofs.Lines.{decimal_plain}
use Rattle.std.proofs.lemmas.Fmt.{length-decimal-le}
use Rattle.resp_frames.specs.Frames.{header, bulk, IsWord, IsText}
use Rattle.resp_frames.specs.Faults.{bad_number, BulkFault, other_mark, length_line, length_number, no_return, no_feed}
use Rattle.resp_frames.specs.Reading.{Read, Took, Open, Wrong, read_on, read_header, read_number, after_return, after_word, read_body, read_word, read_marked, read_bulk, read_bulks}
use Rattle.resp_frames.proofs.Choices.{on_equal, on_other, by_equal}
use Rattle.resp_frames.proofs.Headers.{HeaderIs, header_again, header_is, line_first, line_begins}
use Rattle.resp_frames.proofs.Numbers.{NumberIs, number_is, length_again, length_bad, not_length}
use Rattle.resp_frames.specs.declared.rule.Rule.{Rule}
use Rattle.resp_frames.specs.declared.rule.Rule.TheVariants as rules

-- the decimal text of a number below 2^64 is a text of a header
pub decimal_text : (n : ℕ) → n < 2 ^ 64 → IsText (decimal n)
decimal_text n h = let k : length (decimal n) ≤ 20 = length-decimal-le 20 n (lit< tt) (omega arith) h in record { plain = decimal_plain n h; short = omega arith }

-- the decimal text of a number up to the greatest length of a word is a text of a header
length_text : (n : ℕ) → n ≤ longest → IsText (decimal n)
length_text n h = decimal_text n (omega arith)

-- a bulk string, as its header and what follows
pub as_bulk : (w A : List ℕ) → bulk w ++ A ≡ header 36 (decimal (length w)) ++ (w ++ 13 ∷ 10 ∷ A)
as_bulk w A = append_assoc (header 36 (decimal (length w))) (w ++ line_end) A ∙ ap (λ l. header 36 (decimal (length w)) ++ l) (append_assoc w line_end A)

-- the first bytes of a word and a rest, as many as the word has, are the word
take_whole : (w A : List ℕ) → take (length w) (w ++ A) ≡ w
take_whole [] A = refl
take_whole (b ∷ w) A = ap (λ l. b ∷ l) (take_whole w A)

-- behind the first bytes of a word and a rest, as many as the word has, stands the rest
drop_whole : (w A : List ℕ) → drop (length w) (w ++ A) ≡ A
drop_whole [] A = refl
drop_whole (b ∷ w) A = drop_whole w A

-- behind the mark
marked : (bytes more : List ℕ) → bytes ≡ 36 ∷ more → read_bulk bytes ≡ read_marked bytes
unfolding read_bulk
marked bytes more e = ap read_bulk e ∙ on_equal 36 36 (read_marked (36 ∷ more)) (Wrong rules.ExpectedDollar (36 ∷ more)) refl ∙ ap read_marked (sym e)

-- where there is no byte, the reading of a bulk string is open
bulk_none : read_bulk [] ≡ Open
unfolding read_bulk
bulk_none = refl

-- the bytes after a whole header
pub after_length : (n : ℕ) (rest : List ℕ) → n ≤ longest → read_bulk (header 36 (decimal n) ++ rest) ≡ read_body n rest
after_length n rest le =
    let all = header 36 (decimal n) ++ rest in
    marked all ((decimal n ++ line_end) ++ rest) refl
    ∙ ap (λ x. read_on x (λ text more. read_word all (read_number longest text) more)) (header_again 36 (decimal n) rest (length_text n le))
    ∙ ap (λ o. read_word all o rest) (length_again n le)

-- a bulk string whose header isn't whole
pub bulk_counting : (bytes : List ℕ) → (bytes ≡ []) ⊎ (bytes ≡ 36 ∷ drop 1 bytes) → read_header bytes ≡ Open → read_bulk bytes ≡ Open
bulk_counting bytes begun e = elim begun [
  | inl none ↦ ap read_bulk none ∙ bulk_none
  | inr some ↦ marked bytes (drop 1 bytes) some ∙ ap (λ x. read_on x (λ text rest. read_word bytes (read_number longest text) rest)) e
]

-- a body that isn't whole
pub body_short : (len : ℕ) (bytes : List ℕ) → length bytes ≤ len → read_body len bytes ≡ Open
unfolding read_body
body_short len bytes le = ap (after_word (take len bytes)) (drop_all len bytes le)

-- a body that ends at the CR behind its word isn't whole
pub body_returned : (len : ℕ) (bytes : List ℕ) → length bytes ≡ len + 1 → get_or bytes len 0 ≡ 13 → read_body len bytes ≡ Open
unfolding read_body
body_returned len bytes n e =
    let lt : len < length bytes = omega arith in
    let last : drop len bytes ≡ 13 ∷ [] = drop_more bytes len 0 lt ∙ ap (λ b. b ∷ drop (len + 1) bytes) e ∙ ap (λ l. 13 ∷ l) (drop_all (len + 1) bytes (omega arith)) in
    ap (after_word (take len bytes)) last

-- a body that begins with its whole word is read by what stands behind that word
body_split : (w A : List ℕ) → read_body (length w) (w ++ A) ≡ after_word w A
unfolding read_body
body_split w A = ap (λ l. after_word l (drop (length w) (w ++ A))) (take_whole w A) ∙ ap (after_word w) (drop_whole w A)

-- a whole bulk string is read as its word, and what follows it is left
pub bulk_again : (w rest : List ℕ) → IsWord w → read_bulk (bulk w ++ rest) ≡ Took w rest
bulk_again w rest h = ap read_bulk (as_bulk w rest) ∙ after_length (length w) (w ++ 13 ∷ 10 ∷ rest) h ∙ body_split w (13 ∷ 10 ∷ rest)

-- faults of one rule and one place are the same reading
fault_is : {A : Type 0} (rule rule' : Rule) (from from' : List ℕ) → rule ≡ rule' → from ≡ from' → (let w : Read A = Wrong rule' from' in w) ≡ Wrong rule from
fault_is rule rule' from from' e f = sym (ap (λ r. Wrong r from) e ∙ ap (Wrong rule') f)

-- a fault of the bulk string at the front is what its reading tells
pub bulk_first : (bytes : List ℕ) (rule : Rule) (from : List ℕ) → BulkFault bytes rule from → read_bulk bytes ≡ Wrong rule from
unfolding read_bulk
bulk_first bytes rule from (other_mark b more r f e ne) = ap read_bulk e ∙ on_other b 36 (read_marked (b ∷ more)) (Wrong rules.ExpectedDollar (b ∷ more)) ne
    ∙ fault_is rule rules.ExpectedDollar from (b ∷ more) r (f ∙ e)
bulk_first bytes rule from (length_line h) =
    let begins = line_begins 36 rule bytes from h in
    marked bytes begins.0 begins.1 ∙ ap (λ x. read_on x (λ text more. read_word bytes (read_number longest text) more)) (line_first 36 rule bytes from h)
bulk_first bytes rule from (length_number (bad_number text more r f e h bad)) =
    marked bytes ((text ++ line_end) ++ more) e ∙ ap (λ x. read_on x (λ t m. read_word bytes (read_number longest t) m)) (ap read_header e ∙ header_again 36 text more h)
    ∙ ap (λ o. read_word bytes o more) (length_bad text bad) ∙ fault_is rule rules.InvalidBulkLength from bytes r f
bulk_first bytes rule from (no_return word more b r f e h ne) =
    ap read_bulk e ∙ after_length (length word) (word ++ from) h ∙ body_split word from ∙ ap (after_word word) f ∙ on_other b 13 (after_return word more) (Wrong rules.ExpectedCrLf (b ∷ more)) ne
    ∙ fault_is rule rules.ExpectedCrLf from (b ∷ more) r f
bulk_first bytes rule from (no_feed word more b r f e h ne) =
    ap read_bulk e ∙ after_length (length word) (word ++ 13 ∷ from) h ∙ body_split word (13 ∷ from) ∙ ap (after_return word) f ∙ on_other b 10 (Took word more) (Wrong rules.ExpectedCrLf (b ∷ more)) ne
    ∙ fault_is rule rules.ExpectedCrLf from (b ∷ more) r f

-- what the reading of a bulk string tells
abbrev pub BulkIs : List ℕ → Read (List ℕ) → Type 0
BulkIs bytes (Took w rest) = IsWord w × (bytes ≡ bulk w ++ rest)
BulkIs bytes Open = Unit {0}
BulkIs bytes (Wrong rule from) = BulkFault bytes rule from

-- a word of its length, and what follows it
record Worded (bytes w rest : List ℕ) : Type 0 where
  whole : bytes ≡ header 36 (decimal (length w)) ++ (w ++ rest)
  small : IsWord w

-- what the reading tells behind a word and its CR holds of the bulk string
feed_is : (bytes w rest : List ℕ) → Worded bytes w (13 ∷ rest) → BulkIs bytes (after_return w rest)
feed_is bytes w [] h = tt
feed_is bytes w (b ∷ rest) h =
    by_equal (BulkIs bytes) b 10 (Took w rest) (Wrong rules.ExpectedCrLf (b ∷ rest))
    (λ e. (h.small, h.whole ∙ ap (λ c. header 36 (decimal (length w)) ++ (w ++ 13 ∷ c ∷ rest)) e ∙ sym (as_bulk w rest)))
    (λ ne. no_feed w rest b refl refl h.whole h.small ne)

-- what the reading tells behind a word holds of the bulk string
return_is : (bytes w rest : List ℕ) → Worded bytes w rest → BulkIs bytes (after_word w rest)
return_is bytes w [] h = tt
return_is bytes w (b ∷ rest) h =
    by_equal (BulkIs bytes) b 13 (after_return w rest) (Wrong rules.ExpectedCrLf (b ∷ rest))
    (λ e. feed_is bytes w rest (record { whole = h.whole ∙ ap (λ c. header 36 (decimal (length w)) ++ (w ++ c ∷ rest)) e; small = h.small }))
    (λ ne. no_return w rest b refl refl h.whole h.small ne)

-- a body that is long enough, or open
length_taken : (len : ℕ) (bytes : List ℕ) → (b : ℕ) (more : List ℕ) → drop len bytes ≡ b ∷ more → length (take len bytes) ≡ len
length_taken zero bytes b more e = refl
length_taken (suc n) [] b more e = cc
length_taken (suc n) (x ∷ bytes) b more e = let r : length (take n bytes) ≡ n = length_taken n bytes b more e in omega (arith, r)

-- what the reading tells behind the header of a length holds of the bulk string
body_is : (bytes : List ℕ) (len : ℕ) (rest : List ℕ) → len ≤ longest → bytes ≡ header 36 (decimal len) ++ rest → BulkIs bytes (read_body len rest)
unfolding read_body
body_is bytes len rest le e =
    elim (drop len rest) as (λ d. drop len rest ≡ d → BulkIs bytes (after_word (take len rest) d)) [
      | [] ↦ λ f. tt
      | b ∷ more ↦ λ f.
          let n : length (take len rest) ≡ len = length_taken len rest b more f in
          let whole : rest ≡ take len rest ++ b ∷ more = sym (take-append-drop len rest) ∙ ap (λ l. take len rest ++ l) f in
          let m : bytes ≡ header 36 (decimal (length (take len rest))) ++ (take len rest ++ b ∷ more) = e ∙ ap (λ k. header 36 (decimal k) ++ rest) (sym n)
          ∙ ap (λ l. header 36 (decimal (length (take len rest))) ++ l) whole in
          return_is bytes (take len rest) (b ∷ more) (record { whole = m; small = omega arith })
    ] refl

-- what the reading tells behind a whole header holds of the bulk string, whether its number is a length or not
word_is : (bytes text rest : List ℕ) (o : Option ℕ) → read_number longest text ≡ o → NumberIs longest text o → IsText text → bytes ≡ header 36 text ++ rest → BulkIs bytes (read_word bytes o rest)
word_is bytes text rest None is k h e = length_number (bad_number text rest refl refl e h (not_length text is))
word_is bytes text rest (Some len) is k h e = body_is bytes len rest k.0 (e ∙ ap (λ t. header 36 t ++ rest) k.1)

-- what the reading tells from the header on holds of the bulk string
then_word : (bytes : List ℕ) (x : Read (List ℕ)) → HeaderIs 36 bytes x → BulkIs bytes (read_on x (λ text rest. read_word bytes (read_number longest text) rest))
then_word bytes (Took text rest) h = word_is bytes text rest _ refl (number_is longest text) h.0 h.1
then_word bytes Open h = tt
then_word bytes (Wrong rule from) h = length_line h

-- what the reading of a bulk string tells holds of the bytes
pub bulk_is : (bytes : List ℕ) → BulkIs bytes (read_bulk bytes)
unfolding read_bulk
bulk_is [] = tt
bulk_is (b ∷ bytes) =
    let Q : ℕ → Type 0 = λ c. BulkIs (c ∷ bytes) (read_marked (c ∷ bytes)) in
    by_equal (BulkIs (b ∷ bytes)) b 36 (read_marked (b ∷ bytes)) (Wrong rules.ExpectedDollar (b ∷ bytes))
    (λ e. subst Q (sym e) (then_word (36 ∷ bytes) (read_header (36 ∷ bytes)) (header_is 36 bytes)))
    (λ ne. other_mark b bytes refl refl refl ne)

-- many bulk strings

-- whole bulk strings are read as their words, and what follows them is left
pub bulks_again : (words : Words) (rest : List ℕ) → AllByRecursion IsWord words → read_bulks (length words) (flat_map bulk words ++ rest) ≡ Took words rest
unfolding read_bulks
bulks_again [] rest h = refl
bulks_again (w ∷ words) rest h =
    let next : List ℕ → List ℕ → Read Words = λ word more. read_on (read_bulks (length words) more) (λ ws end. Took (word ∷ ws) end) in
    ap (λ l. read_on (read_bulk l) next) (append_assoc (bulk w) (flat_map bulk words) rest)
    ∙ ap (λ x. read_on x next) (bulk_again w (flat_map bulk words ++ rest) h.0)
    ∙ ap (λ x. read_on x (λ ws end. Took (w ∷ ws) end)) (bulks_again words rest h.1)

-- where fewer words are whole than are due, the rest tells
pub bulks_open : (n : ℕ) (words : Words) (rest : List ℕ) → length words < n → AllByRecursion IsWord words → read_bulk rest ≡ Open → read_bulks n (flat_map bulk words ++ rest) ≡ Open
unfolding read_bulks
bulks_open zero words rest less h e = absurd (omega arith)
bulks_open (suc n) [] rest less h e = ap (λ x. read_on x (λ word more. read_on (read_bulks n more) (λ ws end. Took (word ∷ ws) end))) e
bulks_open (suc n) (w ∷ words) rest less h e =
    let next : List ℕ → List ℕ → Read Words = λ word more. read_on (read_bulks n more) (λ ws end. Took (word ∷ ws) end) in
    ap (λ l. read_on (read_bulk l) next) (append_assoc (bulk w) (flat_map bulk words) rest)
    ∙ ap (λ x. read_on x next) (bulk_again w (flat_map bulk words ++ rest) h.0)
    ∙ ap (λ x. read_on x (λ ws end. Took (w ∷ ws) end)) (bulks_open n words rest (omega arith) h.1 e)

-- where fewer words are whole than are due and the rest is wrong, the reading tells that fault
pub bulks_wrong : (n : ℕ) (words : Words) (rest : List ℕ) (rule : Rule) (from : List ℕ) → length words < n → AllByRecursion IsWord words → read_bulk rest ≡ Wrong rule from
    → read_bulks n (flat_map bulk words ++ rest) ≡ Wrong rule from
unfolding read_bulks
bulks_wrong zero words rest rule from less h e = absurd (omega arith)
bulks_wrong (suc n) [] rest rule from less h e = ap (λ x. read_on x (λ word more. read_on (read_bulks n more) (λ ws end. Took (word ∷ ws) end))) e
bulks_wrong (suc n) (w ∷ words) rest rule from less h e =
    let next : List ℕ → List ℕ → Read Words = λ word more. read_on (read_bulks n more) (λ ws end. Took (word ∷ ws) end) in
    ap (λ l. read_on (read_bulk l) next) (append_assoc (bulk w) (flat_map bulk words) rest)
    ∙ ap (λ x. read_on x next) (bulk_again w (flat_map bulk words ++ rest) h.0)
    ∙ ap (λ x. read_on x (λ ws end. Took (w ∷ ws) end)) (bulks_wrong n words rest rule from (omega arith) h.1 e)

-- some words are whole, and the next is wrong
pub record Fewer (n : ℕ) (bytes : List ℕ) (rule : Rule) (from : List ℕ) : Type 0 where
  pub words : Words
  pub rest : List ℕ
  pub whole : bytes ≡ flat_map bulk words ++ rest
  pub each : AllByRecursion IsWord words
  pub due : length words < n
  pub fault : BulkFault rest rule from

-- what the reading of many bulk strings tells
abbrev pub BulksIs : ℕ → List ℕ → Read Words → Type 0
BulksIs n bytes (Took words rest) = (length words ≡ n) × AllByRecursion IsWord words × (bytes ≡ flat_map bulk words ++ rest)
BulksIs n bytes Open = Unit {0}
BulksIs n bytes (Wrong rule from) = Fewer n bytes rule from

-- what holds of the reading of so many bulk strings holds of one more with a whole one in front
more_are : (n : ℕ) (bytes w rest : List ℕ) → IsWord w → bytes ≡ bulk w ++ rest → (x : Read Words) → BulksIs n rest x → BulksIs (suc n) bytes (read_on x (λ words end. Took (w ∷ words) end))
more_are n bytes w rest small e (Took words end) h =
    let len : length words ≡ n = h.0 in
    (omega (arith, len), (small, h.1), e ∙ ap (λ l. bulk w ++ l) h.2 ∙ sym (append_assoc (bulk w) (flat_map bulk words) end))
more_are n bytes w rest small e Open h = tt
more_are n bytes w rest small e (Wrong rule from) h =
    let less : length h.words < n = h.due in
    record {
      words = w ∷ h.words;
      rest = h.rest;
      whole = e ∙ ap (λ l. bulk w ++ l) h.whole ∙ sym (append_assoc (bulk w) (flat_map bulk h.words) h.rest);
      each = (small, h.each);
      due = omega arith;
      fault = h.fault;
    }

-- what holds of the reading of a bulk string and of that of so many others behind it holds of one more
then_more : (n : ℕ) (bytes : List ℕ) → ((rest : List ℕ) → BulksIs n rest (read_bulks n rest)) → (x : Read (List ℕ)) → BulkIs bytes x
    → BulksIs (suc n) bytes (read_on x (λ word rest. read_on (read_bulks n rest) (λ words end. Took (word ∷ words) end)))
then_more n bytes again (Took w rest) h = more_are n bytes w rest h.0 h.1 (read_bulks n rest) (again rest)
then_more n bytes again Open h = tt
then_more n bytes again (Wrong rule from) h = record { words = []; rest = bytes; whole = refl; each = tt; due = omega arith; fault = h }

-- what the reading of so many bulk strings tells holds of the bytes
pub bulks_is : (n : ℕ) (bytes : List ℕ) → BulksIs n bytes (read_bulks n bytes)
unfolding read_bulks
bulks_is zero bytes = (refl, tt, refl)
bulks_is (suc n) bytes = then_more n bytes (bulks_is n) (read_bulk bytes) (bulk_is bytes)
