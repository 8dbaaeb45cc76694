-- The elements of a list as they are met from an end.
use Rattle.std.proofs.Common.{◌≡◌, ℕ, suc, ◌-◌, ◌<◌, ◌≤◌, List, [], ◌∷◌, ◌++◌, length, take, drop, get_or, min, Result, Ok, Err, OnOk, refl, sym, ap, ◌∙◌, inl, inr, arith}
use Rattle.std.specs.Prelude.{reverse}
use Rattle.std.specs.List.{remove_range}
use Rattle.std.proofs.lemmas.Bool.{cases_lt}
use Rattle.std.proofs.lemmas.List.{get_or-reverse, reverse-append, reverse-reverse, length-reverse, length-drop, take-append-drop, take_min, drop_all}
use Rattle.blocks.specs.Blocks.{Blocks}
use Rattle.quicklist.specs.Chain.{Chain, IsChanged, elements}
use Rattle.plain_world.specs.declared.reply.Part.{Part}
use Rattle.plain_world.specs.declared.reply.Part.TheVariants.{Bulk}
use Rattle.plain_model.specs.ListSteps.{Elements, from_end, index_from, first_or_null, without, listed}
use Rattle.plain_model.specs.declared.list_command.ListEnd.{ListEnd}
use Rattle.plain_model.specs.declared.list_command.ListEnd.TheVariants.{Head, Tail}
use Rattle.object_codec.specs.declared.form.Form.{Form}
use Rattle.cmd_lists.specs.Popped.{PopsMany}
use Rattle.cmd_lists.proofs.Ends.{nothing}

pub met_length : (end : ListEnd) (xs : Elements) → length (from_end end xs) ≡ length xs
met_length Head xs = refl
met_length Tail xs = length-reverse xs

pub met_at : (end : ListEnd) (xs : Elements) (i : ℕ) → i < length xs → get_or (from_end end xs) i [] ≡ get_or xs (index_from end (length xs) i) []
met_at Head xs i h = refl
met_at Tail xs i h =
    let same : length xs - 1 - i ≡ length xs - suc i = omega arith in
    get_or-reverse xs i [] h ∙ ap (λ k. get_or xs k []) same

first_is : (xs : Elements) → 0 < length xs → first_or_null xs ≡ Bulk (get_or xs 0 [])
first_is [] h = absurd (omega (arith, h))
first_is (x ∷ xs) h = refl

-- the first one that is met
pub first_met : (end : ListEnd) (xs : Elements) → 0 < length xs → first_or_null (from_end end xs) ≡ Bulk (get_or xs (index_from end (length xs) 0) [])
first_met end xs h = first_is (from_end end xs) (omega (arith, h, met_length end xs)) ∙ ap Bulk (met_at end xs 0 h)

-- what is behind
drop_behind : (xs ys : Elements) → drop (length xs) (xs ++ ys) ≡ ys
drop_behind [] ys = refl
drop_behind (x ∷ xs) ys = drop_behind xs ys

-- the last elements go
without_last : (xs : Elements) (n : ℕ) → n ≤ length xs → without Tail n xs ≡ take (length xs - n) xs
without_last xs n h =
    let front = take (length xs - n) xs in
    let back = drop (length xs - n) xs in
    let size : n ≡ length (reverse back) = omega (arith, h, length-reverse back, length-drop (length xs - n) xs) in
    let turned : reverse xs ≡ reverse back ++ reverse front = ap reverse (sym (take-append-drop (length xs - n) xs)) ∙ reverse-append front back in
    ap (λ l. reverse (drop n l)) turned ∙ ap (λ k. reverse (drop k (reverse back ++ reverse front))) size ∙ ap reverse (drop_behind (reverse back) (reverse front)) ∙ reverse-reverse front

-- so many elements at an end go
pub off_head : (xs : Elements) (n : ℕ) → remove_range xs 0 n ≡ without Head n xs
off_head xs n = refl

pub off_tail : (xs : Elements) (len n : ℕ) → len ≡ length xs → n ≤ length xs → remove_range xs (len - n) len ≡ without Tail n xs
off_tail xs len n size h =
    let front : len - n ≡ length xs - n = omega (arith, size) in
    ap (λ l. take (len - n) xs ++ l) (drop_all len xs (omega (arith, size))) ∙ nothing (take (len - n) xs) ∙ ap (λ k. take k xs) front ∙ sym (without_last xs n h)

-- no more than all go
drop_min : (xs : Elements) (n : ℕ) → drop (min n (length xs)) xs ≡ drop n xs
drop_min xs n = elim (cases_lt (length xs) n) [
  | inl past ↦ drop_all (min n (length xs)) xs (omega (arith, past)) ∙ sym (drop_all n xs (omega (arith, past)))
  | inr within ↦ (let same : min n (length xs) ≡ n = omega (arith, within) in ap (λ k. drop k xs) same)
]

pub without_min : (end : ListEnd) (xs : Elements) (n : ℕ) → without end (min n (length xs)) xs ≡ without end n xs
without_min Head xs n = drop_min xs n
without_min Tail xs n = ap (λ k. reverse (drop (min n k) (reverse xs))) (sym (length-reverse xs)) ∙ ap reverse (drop_min (reverse xs) n)

pub tail_taken : {X : Type 0} (before after : Blocks) (old new : Chain) (end : ListEnd) (len n : ℕ) → end ≡ Tail → len ≡ length (elements before old) → n ≤ length (elements before old)
    → (result : Result (Unit {0}) X) → OnOk result (IsChanged before after old new (remove_range (elements before old) (len - n) len))
    → OnOk result (elements after new ≡ without end n (elements before old))
tail_taken before after old new end len n is size h (Err e) p = tt
tail_taken before after old new end len n is size h (Ok u) p = p.list_is ∙ off_tail (elements before old) len n size h ∙ ap (λ e. without e n (elements before old)) (sym is)

-- where the element stands that is met there
pub index_head : (end : ListEnd) → end ≡ Head → (len i : ℕ) → index_from end len i ≡ i
index_head end is len i = ap (λ e. index_from e len i) is

pub index_tail : (end : ListEnd) → end ≡ Tail → (len i : ℕ) → index_from end len i ≡ len - suc i
index_tail end is len i = ap (λ e. index_from e len i) is

pub index_none : (end : ListEnd) (len : ℕ) → len ≤ index_from end len 0 → len ≤ 0
index_none Head len h = h
index_none Tail len h = omega (arith, h)

-- ---- what was popped

pub met_min : (end : ListEnd) (xs : Elements) (n : ℕ) → take (min n (length xs)) (from_end end xs) ≡ take n (from_end end xs)
met_min end xs n = ap (λ k. take (min n k) (from_end end xs)) (sym (met_length end xs)) ∙ take_min n (from_end end xs)

pub pops_many : (end : ListEnd) (n count : ℕ) (parts : List Part) (old new : Elements) (from form : Form) → count ≡ min n (length old) → parts ≡ listed (take count (from_end end old))
    → new ≡ without end count old → form ≡ from
    → PopsMany end n parts old from new form
pops_many end n count parts old new from form many told is same = record {
  told = ap listed (sym (met_min end old n)) ∙ ap (λ k. listed (take k (from_end end old))) (sym many) ∙ sym told;
  is = is ∙ ap (λ k. without end k old) many ∙ without_min end old n;
  form_is = same;
}
