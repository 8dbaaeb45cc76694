-- Elements that equal a text, taken out of a list from an end on.
use Rattle.std.proofs.Common.{◌≡◌, ℕ, zero, suc, ◌+◌, ◌-◌, ◌≤◌, List, [], ◌∷◌, ◌++◌, length, min, Bool, true, false, cond, Option, Some, Result, Ok, Err, IfOk, inl, inr, refl, sym, ap}
use Rattle.std.proofs.Common.{◌∙◌, arith, length-append, append-nil}
use Rattle.std.specs.Prelude.{ℤ, pos, negsuc, bytes_eq, not, reverse, if◌then◌else◌}
use Rattle.std.proofs.lemmas.Bool.{cases_lt}
use Rattle.std.proofs.lemmas.List.{reverse-append, reverse-reverse, length-reverse}
use Rattle.std.proofs.lemmas.List.Elements.{filter-append}
use Rattle.std.proofs.lemmas.List.Filters.{length-filter_both}
use Rattle.std.proofs.lemmas.List.Sums.{length-filter, sum_by-append, sum_by-cons}
use Rattle.quicklist.specs.Equal.{equals, others, IsFromHead, IsFromTail, Removes}
use Rattle.plain_world.specs.Worlds.{World}
use Rattle.plain_world.specs.declared.reply.Part.{Part}
use Rattle.plain_world.specs.declared.reply.Part.TheVariants.{Number}
use Rattle.plain_model.specs.Outcomes.{leaves}
use Rattle.plain_model.specs.ListSteps.{Elements, on_list, or_none, keep_list, tells_number, without_first, without_equal, remove_equal}
use Rattle.cmd_lists.specs.Changed.{HasList, IsBefore}
use Rattle.cmd_lists.specs.Removed.{end_from, most_of}
use Rattle.cmd_lists.proofs.Telling.{on_before, before_is}

-- ---- how many are the text

equals_append : (text : List ℕ) (xs ys : Elements) → equals text (xs ++ ys) ≡ equals text xs + equals text ys
equals_append text xs ys = sum_by-append (λ element. cond (bytes_eq element text) 1 0) xs ys

equals_cons : (text x : List ℕ) (xs : Elements) → equals text (x ∷ xs) ≡ cond (bytes_eq x text) 1 0 + equals text xs
equals_cons text x xs = sum_by-cons (λ element. cond (bytes_eq element text) 1 0) x xs

equals_others : (text : List ℕ) (xs : Elements) → equals text xs + length (others text xs) ≡ length xs
equals_others text xs =
    let both = length-filter_both (λ x. bytes_eq x text) (λ x. not (bytes_eq x text)) (λ x. refl) xs in omega (arith, both, length-filter (λ x. bytes_eq x text) xs)

-- where none is the text, all are others
other_step : (b : Bool) (x : List ℕ) (k : ℕ) (out xs : Elements) → cond b 1 0 + k ≡ 0 → (k ≡ 0 → out ≡ xs) → cond (not b) (x ∷ out) out ≡ x ∷ xs
other_step true x k out xs none same = absurd (omega (arith, none))
other_step false x k out xs none same = ap (λ l. x ∷ l) (same (omega (arith, none)))

all_others : (text : List ℕ) (xs : Elements) → equals text xs ≡ 0 → others text xs ≡ xs
all_others text [] none = refl
all_others text (x ∷ xs) none = other_step (bytes_eq x text) x (equals text xs) (others text xs) xs (sym (equals_cons text x xs) ∙ none) (λ h. all_others text xs h)

-- ---- the first ones

none_gone : (text : List ℕ) (xs : Elements) → without_first 0 text xs ≡ xs
none_gone text [] = refl
none_gone text (x ∷ xs) = refl

front_step : (b : Bool) (x : List ℕ) (n k : ℕ) (less same out rest : Elements) → suc n ≡ cond b 1 0 + k → (n ≡ k → less ≡ out ++ rest) → (suc n ≡ k → same ≡ out ++ rest)
    → (if b then less else x ∷ same) ≡ cond (not b) (x ∷ out) out ++ rest
front_step true x n k less same out rest many one other = one (omega (arith, many))
front_step false x n k less same out rest many one other = ap (λ l. x ∷ l) (other (omega (arith, many)))

-- where so many are the text up to a place, those go
front_gone : (text : List ℕ) (n : ℕ) (front rest : Elements) → n ≡ equals text front → without_first n text (front ++ rest) ≡ others text front ++ rest
front_gone text n [] rest many = let none : n ≡ 0 = many in ap (λ (k : ℕ). without_first k text rest) none ∙ none_gone text rest
front_gone text zero (x ∷ front) rest many = ap (λ l. l ++ rest) (sym (all_others text (x ∷ front) (sym many)))
front_gone text (suc n) (x ∷ front) rest many =
    front_step (bytes_eq x text) x n (equals text front) (without_first n text (front ++ rest)) (without_first (suc n) text (front ++ rest)) (others text front) rest (many ∙ equals_cons text x front)
    (λ h. front_gone text n front rest h) (λ h. front_gone text (suc n) front rest h)

all_step : (b : Bool) (x : List ℕ) (n k : ℕ) (less same out : Elements) → cond b 1 0 + k ≤ suc n → (k ≤ n → less ≡ out) → (k ≤ suc n → same ≡ out)
    → (if b then less else x ∷ same) ≡ cond (not b) (x ∷ out) out
all_step true x n k less same out many one other = one (omega (arith, many))
all_step false x n k less same out many one other = ap (λ l. x ∷ l) (other (omega (arith, many)))

-- where no more are the text, all of them go
all_gone : (text : List ℕ) (n : ℕ) (xs : Elements) → equals text xs ≤ n → without_first n text xs ≡ others text xs
all_gone text n [] many = refl
all_gone text zero (x ∷ xs) many = sym (all_others text (x ∷ xs) (omega (arith, many)))
all_gone text (suc n) (x ∷ xs) many =
    all_step (bytes_eq x text) x n (equals text xs) (without_first n text xs) (without_first (suc n) text xs) (others text xs) (omega (arith, many, equals_cons text x xs))
    (λ h. all_gone text n xs h) (λ h. all_gone text (suc n) xs h)

-- ---- from the head

whole_head : (text : List ℕ) (many : ℕ) (old new : Elements) → many ≡ equals text old → IsFromHead text many old new → new ≡ others text old
whole_head text many old new all p =
    let none : equals text p.rest ≡ 0 = omega (arith, all, ap (equals text) p.was, equals_append text p.front p.rest, p.counted) in
    p.is ∙ ap (λ l. others text p.front ++ l) (sym (all_others text p.rest none)) ∙ sym (filter-append (λ element. not (bytes_eq element text)) p.front p.rest) ∙ ap (others text) (sym p.was)

some_head : (text : List ℕ) (n many : ℕ) (old new : Elements) → many ≡ n → IsFromHead text many old new → new ≡ without_first n text old
some_head text n many old new same p =
    p.is ∙ sym (front_gone text n p.front p.rest (omega (arith, same, p.counted))) ∙ ap (without_first n text) (sym p.was)

from_head : (text : List ℕ) (n many : ℕ) (old new : Elements) → many ≡ min n (equals text old) → IsFromHead text many old new → new ≡ without_first n text old
from_head text n many old new is p = elim (cases_lt (equals text old) n) [
  | inl fewer ↦ whole_head text many old new (omega (arith, is, fewer)) p ∙ sym (all_gone text n old (omega (arith, fewer)))
  | inr enough ↦ some_head text n many old new (omega (arith, is, enough)) p
]

head_counted : (text : List ℕ) (many : ℕ) (old new : Elements) → IsFromHead text many old new → many ≡ length old - length new
head_counted text many old new p =
    omega (arith, p.counted, ap length p.was, ap length p.is, length-append p.front p.rest, length-append (others text p.front) p.rest, equals_others text p.front)

-- ---- from the tail

turned_step : (b : Bool) (x : List ℕ) (out : Elements) → reverse out ++ cond b (x ∷ []) [] ≡ reverse (cond b (x ∷ out) out)
turned_step true x out = sym (reverse-append (x ∷ []) out)
turned_step false x out = append-nil (reverse out)

others_turned : (text : List ℕ) (xs : Elements) → others text (reverse xs) ≡ reverse (others text xs)
others_turned text [] = refl
others_turned text (x ∷ xs) =
    ap (others text) (reverse-append (x ∷ []) xs) ∙ filter-append (λ element. not (bytes_eq element text)) (reverse xs) (x ∷ [])
    ∙ ap (λ l. l ++ others text (x ∷ [])) (others_turned text xs) ∙ turned_step (not (bytes_eq x text)) x (others text xs)

equals_turned : (text : List ℕ) (xs : Elements) → equals text (reverse xs) ≡ equals text xs
equals_turned text [] = refl
equals_turned text (x ∷ xs) =
    let one : equals text (x ∷ xs) ≡ equals text (x ∷ []) + equals text xs = equals_append text (x ∷ []) xs in
    omega (arith, one, ap (equals text) (reverse-append (x ∷ []) xs), equals_append text (reverse xs) (x ∷ []), equals_turned text xs)

head_turned : (text : List ℕ) (many : ℕ) (old new : Elements) → IsFromTail text many old new → IsFromHead text many (reverse old) (reverse new)
head_turned text many old new p = record {
  front = reverse p.back;
  rest = reverse p.rest;
  was = ap reverse p.was ∙ reverse-append p.rest p.back;
  is = ap reverse p.is ∙ reverse-append p.rest (others text p.back) ∙ ap (λ l. l ++ reverse p.rest) (sym (others_turned text p.back));
  counted = equals_turned text p.back ∙ p.counted;
}

from_tail : (text : List ℕ) (n many : ℕ) (old new : Elements) → many ≡ min n (equals text old) → IsFromTail text many old new → new ≡ reverse (without_first n text (reverse old))
from_tail text n many old new is p =
    sym (reverse-reverse new) ∙ ap reverse (from_head text n many (reverse old) (reverse new) (omega (arith, is, equals_turned text old)) (head_turned text many old new p))

tail_counted : (text : List ℕ) (many : ℕ) (old new : Elements) → IsFromTail text many old new → many ≡ length old - length new
tail_counted text many old new p =
    omega (arith, head_counted text many (reverse old) (reverse new) (head_turned text many old new p), length-reverse old, length-reverse new)

-- what was removed by a count is what goes by it, and so many elements are
pub removed_is : (n : ℤ) (text : List ℕ) (many : ℕ) (old new : Elements) → Removes text (end_from n) (most_of n) many old new → new ≡ without_equal n text old
removed_is (pos zero) text many old new p = whole_head text many old new p.many_is p.taken
removed_is (pos (suc n)) text many old new p = from_head text (suc n) many old new p.many_is p.taken
removed_is (negsuc n) text many old new p = from_tail text (suc n) many old new p.many_is p.taken

pub removed_counted : (n : ℤ) (text : List ℕ) (many : ℕ) (old new : Elements) → Removes text (end_from n) (most_of n) many old new → many ≡ length old - length new
removed_counted (pos n) text many old new p = head_counted text many old new p.taken
removed_counted (negsuc n) text many old new p = tail_counted text many old new p.taken

-- what LREM tells and leaves, from how the list was changed
pub removed_gives : {X : Type 0} (old new : World) (key : List ℕ) (n : ℤ) (element : List ℕ) (many : ℕ) (before : Option Elements) (list now : Elements)
    → IsBefore old key before → HasList old key list → Removes element (end_from n) (most_of n) many (or_none before) now → new ≡ keep_list old key now
    → (result : Result (List Part) X) → IfOk result (λ reply. reply ≡ Number (pos many) ∷ []) → IfOk result (λ reply. on_list old key (remove_equal old key n element) ≡ leaves reply new)
removed_gives old new key n element many before list now stands has p world (Err x) told = tt
removed_gives old new key n element many before list now stands has p world (Ok reply) told =
    let was : before ≡ Some list = before_is old key before list stands has in
    let same : or_none before ≡ list = ap or_none was in
    let left : without_equal n element list ≡ now = ap (without_equal n element) (sym same) ∙ sym (removed_is n element many (or_none before) now p) in
    let gone : length list - length now ≡ many = ap (λ (l : Elements). length l - length now) (sym same) ∙ sym (removed_counted n element many (or_none before) now p) in
    on_before old key before (remove_equal old key n element) stands
    ∙ ap (remove_equal old key n element) was
    ∙ ap (λ (l : Elements). tells_number (pos (length list - length l)) (keep_list old key l)) left
    ∙ ap (λ (k : ℕ). leaves (Number (pos k) ∷ []) (keep_list old key now)) gone
    ∙ ap (λ r. leaves r (keep_list old key now)) (sym told)
    ∙ ap (leaves reply) (sym world)
