-- No reply's spelling is a prefix of another's.
use Rattle.std.proofs.Common.{◌≡◌, ℕ, suc, zero, ◌+◌, ◌<◌, ◌^◌, List, [], ◌∷◌, ◌++◌, true, length, drop, refl, sym, ap, subst, ◌∙◌, arith, lit<}
use Rattle.std.specs.Prelude.{codes, bytes_eq, if◌then◌else◌}
use Rattle.std.specs.Fmt.{decimal, signed_decimal}
use Rattle.std.specs.List.{AllByRecursion}
use Rattle.std.proofs.lemmas.Fmt.{decimal_injective, signed_decimal_injective, digits_decimal}
use Rattle.std.proofs.lemmas.List.{append_assoc, append_cancel_left}
use Rattle.plain_world.specs.Laws.{IsPart, IsHeld}
use Rattle.plain_world.specs.Parts.{following, AreReplies}
use Rattle.plain_world.specs.Refusals.{refusal_text}
use Rattle.plain_world.specs.Spelling.{line_end, part_bytes, spelling}
use Rattle.plain_world.specs.Lines.{IsLine}
use Rattle.plain_world.specs.declared.reply.Part.{Part}
use Rattle.plain_world.specs.declared.reply.Part.TheVariants.{Simple, Refused, Number, Bulk, Null, NullArray, Array}
use Rattle.plain_world.specs.declared.refusal.Refusal.{Refusal}
use Rattle.plain_world.specs.declared.refusal.Refusal.TheVariants as refusals
use Rattle.plain_world.proofs.Lines.{Plain, cut_unique, same_length, decimal_plain, signed_plain, is_plain, plain_from_test}
use Rattle.plain_world.proofs.Numerals.{AreDigits, own}

-- a part as one line, and what stands after the line

abbrev mark : Part → ℕ
mark (Simple line) = 43
mark (Refused refusal) = 45
mark (Number n) = 58
mark (Bulk bytes) = 36
mark Null = 36
mark NullArray = 42
mark (Array n) = 42

abbrev text : Part → List ℕ
text (Simple line) = line
text (Refused refusal) = drop 1 (refusal_text refusal)
text (Number n) = signed_decimal n
text (Bulk bytes) = decimal (length bytes)
text Null = codes "-1"
text NullArray = codes "-1"
text (Array n) = decimal n

abbrev body : Part → List ℕ
body (Simple line) = []
body (Refused refusal) = []
body (Number n) = []
body (Bulk bytes) = bytes ++ line_end
body Null = []
body NullArray = []
body (Array n) = []

line_plain : (l : List ℕ) → IsLine l → Plain l
line_plain [] h = tt
line_plain (b ∷ l) h = (h.0.0, line_plain l h.1)

abbrev all_refusals : List Refusal
all_refusals = refusals.UnknownCommand ∷ refusals.WrongNumberOfArguments ∷ refusals.Syntax ∷ refusals.WrongType ∷ refusals.NotAnInteger ∷ refusals.Overflow ∷ refusals.NotAScore
    ∷ refusals.NotAWholeScore ∷ refusals.NoSuchKey ∷ refusals.IndexOutOfRange ∷ refusals.InvalidExpireTime ∷ refusals.InvalidCursor ∷ refusals.InvalidStreamId ∷ refusals.StreamIdNotGreater
    ∷ refusals.NoGreaterStreamId ∷ refusals.DatabaseOutOfRange ∷ refusals.ValueOutOfRange ∷ refusals.SameSourceAndDestination ∷ refusals.GroupExists ∷ refusals.NoSuchGroup
    ∷ refusals.NestedMulti ∷ refusals.ExecAbort ∷ refusals.ExecWithoutMulti ∷ refusals.DiscardWithoutMulti ∷ refusals.WatchInsideMulti ∷ []

-- the first refusal with this text behind its mark
abbrev first_with : List ℕ → List Refusal → Refusal
first_with t [] = refusals.UnknownCommand
first_with t (r ∷ rs) = if bytes_eq t (drop 1 (refusal_text r)) then r else first_with t rs

-- what computing tells of a refusal's text
record Computed (r : Refusal) : Type 0 where
  marked : refusal_text r ≡ 45 ∷ drop 1 (refusal_text r)
  plain : is_plain (drop 1 (refusal_text r)) ≡ true
  tells : first_with (drop 1 (refusal_text r)) all_refusals ≡ r

computed : (r : Refusal) → Computed r
computed refusals.UnknownCommand = record { marked = refl; plain = refl; tells = refl }
computed refusals.WrongNumberOfArguments = record { marked = refl; plain = refl; tells = refl }
computed refusals.Syntax = record { marked = refl; plain = refl; tells = refl }
computed refusals.WrongType = record { marked = refl; plain = refl; tells = refl }
computed refusals.NotAnInteger = record { marked = refl; plain = refl; tells = refl }
computed refusals.Overflow = record { marked = refl; plain = refl; tells = refl }
computed refusals.NotAScore = record { marked = refl; plain = refl; tells = refl }
computed refusals.NotAWholeScore = record { marked = refl; plain = refl; tells = refl }
computed refusals.NoSuchKey = record { marked = refl; plain = refl; tells = refl }
computed refusals.IndexOutOfRange = record { marked = refl; plain = refl; tells = refl }
computed refusals.InvalidExpireTime = record { marked = refl; plain = refl; tells = refl }
computed refusals.InvalidCursor = record { marked = refl; plain = refl; tells = refl }
computed refusals.InvalidStreamId = record { marked = refl; plain = refl; tells = refl }
computed refusals.StreamIdNotGreater = record { marked = refl; plain = refl; tells = refl }
computed refusals.NoGreaterStreamId = record { marked = refl; plain = refl; tells = refl }
computed refusals.DatabaseOutOfRange = record { marked = refl; plain = refl; tells = refl }
computed refusals.ValueOutOfRange = record { marked = refl; plain = refl; tells = refl }
computed refusals.SameSourceAndDestination = record { marked = refl; plain = refl; tells = refl }
computed refusals.GroupExists = record { marked = refl; plain = refl; tells = refl }
computed refusals.NoSuchGroup = record { marked = refl; plain = refl; tells = refl }
computed refusals.NestedMulti = record { marked = refl; plain = refl; tells = refl }
computed refusals.ExecAbort = record { marked = refl; plain = refl; tells = refl }
computed refusals.ExecWithoutMulti = record { marked = refl; plain = refl; tells = refl }
computed refusals.DiscardWithoutMulti = record { marked = refl; plain = refl; tells = refl }
computed refusals.WatchInsideMulti = record { marked = refl; plain = refl; tells = refl }

part_plain : (p : Part) → IsPart p → Plain (text p)
part_plain (Simple line) h = line_plain line h
part_plain (Refused refusal) h = plain_from_test (drop 1 (refusal_text refusal)) (computed refusal).plain
part_plain (Number n) h = signed_plain n h
part_plain (Bulk bytes) h = decimal_plain (length bytes) h
part_plain Null h = plain_from_test (codes "-1") refl
part_plain NullArray h = plain_from_test (codes "-1") refl
part_plain (Array n) h = decimal_plain n h

one_line : (mark : ℕ) (text A : List ℕ) → (mark ∷ text ++ line_end) ++ A ≡ mark ∷ (text ++ 13 ∷ 10 ∷ A)
one_line mark text A = ap (λ l. mark ∷ l) (append_assoc text line_end A)

as_line : (p : Part) (A : List ℕ) → part_bytes p ++ A ≡ mark p ∷ (text p ++ 13 ∷ 10 ∷ (body p ++ A))
as_line (Simple line) A = one_line 43 line A
as_line (Refused refusal) A = ap (λ l. (l ++ line_end) ++ A) (computed refusal).marked ∙ one_line 45 (drop 1 (refusal_text refusal)) A
as_line (Number n) A = one_line 58 (signed_decimal n) A
as_line (Bulk bytes) A =
    let head = 36 ∷ decimal (length bytes) ++ line_end in
    let e : ((head ++ bytes) ++ line_end) ++ A ≡ head ++ ((bytes ++ line_end) ++ A) = ap (λ l. l ++ A) (append_assoc head bytes line_end) ∙ append_assoc head (bytes ++ line_end) A in
    e ∙ one_line 36 (decimal (length bytes)) ((bytes ++ line_end) ++ A)
as_line Null A = refl
as_line NullArray A = refl
as_line (Array n) A = one_line 42 (decimal n) A

refusal_injective : (r s : Refusal) → drop 1 (refusal_text r) ≡ drop 1 (refusal_text s) → r ≡ s
refusal_injective r s e = sym (computed r).tells ∙ ap (λ t. first_with t all_refusals) e ∙ (computed s).tells

-- digits don't begin with a minus sign
no_minus : (n : ℕ) → n < 2 ^ 64 → decimal n ≡ codes "-1" → ⊥
no_minus n h e =
    let P : List ℕ → Type 0 = AreDigits in
    let d : AreDigits (codes "-1") = subst P e (digits_decimal own n h) in
    let first = d 0 (lit< tt) in
    omega (arith, first)

-- a part is told by its mark, its text and what follows the line
same_part : (p q : Part) (A B : List ℕ) → IsPart p → IsPart q → mark p ≡ mark q → text p ≡ text q → body p ++ A ≡ body q ++ B → (p ≡ q) × (A ≡ B)
same_part (Simple l) (Simple k) A B i j m t b = (ap Simple t, b)
same_part (Refused r) (Refused s) A B i j m t b = (ap Refused (refusal_injective r s t), b)
same_part (Number x) (Number y) A B i j m t b = (ap Number (signed_decimal_injective x y i j t), b)
same_part (Bulk x) (Bulk y) A B i j m t b =
    let n : length x ≡ length y = decimal_injective (length x) (length y) i j t in
    let e : x ++ (line_end ++ A) ≡ y ++ (line_end ++ B) = sym (append_assoc x line_end A) ∙ b ∙ append_assoc y line_end B in
    let r = same_length x y (line_end ++ A) (line_end ++ B) n e in
    let f : line_end ++ A ≡ line_end ++ B = r.1 in
    (ap Bulk r.0, append_cancel_left line_end A B f)
same_part Null Null A B i j m t b = (refl, b)
same_part NullArray NullArray A B i j m t b = (refl, b)
same_part (Array x) (Array y) A B i j m t b = (ap Array (decimal_injective x y i j t), b)
same_part (Bulk x) Null A B i j m t b = absurd (no_minus (length x) i t)
same_part Null (Bulk y) A B i j m t b = absurd (no_minus (length y) j (sym t))
same_part (Array x) NullArray A B i j m t b = absurd (no_minus x i t)
same_part NullArray (Array y) A B i j m t b = absurd (no_minus y j (sym t))
same_part p q A B i j m t b = absurd (omega arith)

part_apart : (p q : Part) (A B : List ℕ) → IsPart p → IsPart q → part_bytes p ++ A ≡ part_bytes q ++ B → (p ≡ q) × (A ≡ B)
part_apart p q A B i j e =
    let f : mark p ∷ (text p ++ 13 ∷ 10 ∷ (body p ++ A)) ≡ mark q ∷ (text q ++ 13 ∷ 10 ∷ (body q ++ B)) = sym (as_line p A) ∙ e ∙ as_line q B in
    let m : mark p ≡ mark q = cc in
    let g : text p ++ 13 ∷ 10 ∷ (body p ++ A) ≡ text q ++ 13 ∷ 10 ∷ (body q ++ B) = cc in
    let r = cut_unique (text p) (text q) (10 ∷ (body p ++ A)) (10 ∷ (body q ++ B)) (part_plain p i) (part_plain q j) g in
    let h : 10 ∷ (body p ++ A) ≡ 10 ∷ (body q ++ B) = r.1 in
    same_part p q A B i j m r.0 cc

-- so many replies are told by their bytes
parts_apart : (n : ℕ) (p q : List Part) (A B : List ℕ) → AreReplies n p → AreReplies n q → AllByRecursion IsPart p → AllByRecursion IsPart q → spelling p ++ A ≡ spelling q ++ B → (p ≡ q) × (A ≡ B)
parts_apart zero [] [] A B i j k l e = (refl, e)
parts_apart zero [] (y ∷ q) A B i j k l e = absurd j
parts_apart zero (x ∷ p) q A B i j k l e = absurd i
parts_apart (suc n) [] q A B i j k l e = absurd i
parts_apart (suc n) (x ∷ p) [] A B i j k l e = absurd j
parts_apart (suc n) (x ∷ p) (y ∷ q) A B i j k l e =
    let r = part_apart x y (spelling p ++ A) (spelling q ++ B) k.0 l.0 (sym (append_assoc (part_bytes x) (spelling p) A) ∙ e ∙ append_assoc (part_bytes y) (spelling q) B) in
    let P : Part → Type 0 = λ z. AreReplies (n + following z) q in
    let s = parts_apart (n + following x) p q A B i (subst P (sym r.0) j) k.1 l.1 r.1 in
    (ap (λ z. z ∷ p) r.0 ∙ ap (λ z. y ∷ z) s.0, s.1)

pub spellings_apart : (r s : List Part) (A B : List ℕ) → IsHeld r → IsHeld s → spelling r ++ A ≡ spelling s ++ B → (r ≡ s) × (A ≡ B)
spellings_apart r s A B h k e = parts_apart 1 r s A B h.whole k.whole h.each k.each e
