-- Elements of a list that follow one another.
use Rattle.std.proofs.Common.{◌≡◌, ℕ, ◌+◌, ◌-◌, ◌<◌, ◌≤◌, List, [], ◌∷◌, ◌++◌, length, take, drop, map, min, get_or, sym, ap, ◌∙◌, subst, inl, inr, arith}
use Rattle.std.specs.Prelude.{ℤ}
use Rattle.std.proofs.lemmas.Bool.{cases_lt}
use Rattle.std.proofs.lemmas.List.{append_assoc, map-append, take_more, get_or-drop, length-drop, length-take-le, take_min, drop_all}
use Rattle.std.proofs.Math.Seq.{take-nil}
use Rattle.plain_world.specs.Parts.{AreReplies, IsReply}
use Rattle.plain_world.specs.declared.reply.Part.{Part}
use Rattle.plain_world.specs.declared.reply.Part.TheVariants.{Bulk, Array}
use Rattle.plain_model.specs.ListSteps.{Elements, listed, range_start, range_end, list_range}

-- one element more
pub one_more : (xs : Elements) (from k : ℕ) (first parts new : List Part) (x : List ℕ) → from + k < length xs → parts ≡ first ++ map Bulk (take k (drop from xs))
    → x ≡ get_or xs (from + k) [] → new ≡ parts ++ Bulk x ∷ []
    → new ≡ first ++ map Bulk (take (k + 1) (drop from xs))
one_more xs from k first parts new x h so_far is pushed =
    let rest = drop from xs in
    let e : take (k + 1) rest ≡ take k rest ++ x ∷ [] =
    take_more rest k [] (omega (arith, h, length-drop from xs)) ∙ ap (λ y. take k rest ++ y ∷ []) (get_or-drop from xs k [] ∙ sym is) in
    pushed ∙ ap (λ l. l ++ Bulk x ∷ []) so_far ∙ append_assoc first (map Bulk (take k rest)) (Bulk x ∷ [])
    ∙ ap (λ l. first ++ l) (sym (ap (map Bulk) e ∙ map-append Bulk (take k rest) (x ∷ [])))

-- a range ends with its list
pub range_is : (xs : Elements) (first end : ℕ) → take (min end (length xs) - first) (drop (min first (length xs)) xs) ≡ take (end - first) (drop first xs)
range_is xs first end = elim (cases_lt (length xs) first) [
  | inl past ↦
      ap (take (min end (length xs) - first)) (drop_all (min first (length xs)) xs (omega (arith, past))) ∙ take-nil (min end (length xs) - first)
      ∙ sym (ap (take (end - first)) (drop_all first xs (omega (arith, past))) ∙ take-nil (end - first))
  | inr within ↦
      let start : min first (length xs) ≡ first = omega (arith, within) in
      let size = length-drop first xs in
      let many : min end (length xs) - first ≡ min (end - first) (length (drop first xs)) = omega (arith, within, size) in
      ap (λ i. take (min end (length xs) - first) (drop i xs)) start ∙ ap (λ n. take n (drop first xs)) many ∙ take_min (end - first) (drop first xs)
]

-- elements are so many replies
elements_are_replies : (list : Elements) → AreReplies (length list) (map Bulk list)
elements_are_replies [] = tt
elements_are_replies (element ∷ list) = let e : length list + 0 ≡ length list = omega arith in subst (λ n. AreReplies n (map Bulk list)) (sym e) (elements_are_replies list)

-- an array of elements is one reply
pub listed_is_reply : (list : Elements) → IsReply (listed list)
listed_is_reply list = let e : 0 + length list ≡ length list = omega arith in subst (λ n. AreReplies n (map Bulk list)) (sym e) (elements_are_replies list)

-- the head of an array, and the elements behind it
pub listed_parts : (list : Elements) (count : ℕ) (head new : List Part) → count ≡ length list → head ≡ Array count ∷ [] → new ≡ head ++ map Bulk list → new ≡ listed list
listed_parts list count head new size is h = h ∙ ap (λ l. l ++ map Bulk list) is ∙ ap (λ n. Array n ∷ map Bulk list) size

-- how many elements a range has of a list of this length, and where it begins
pub reach_is : (xs : Elements) (a b : ℤ) (len first end start stop count : ℕ) → length xs ≡ len → first ≡ range_start len a → end ≡ range_end len b → start ≡ min first len
    → stop ≡ min end len → count ≡ stop - first
    → take count (drop start xs) ≡ list_range xs a b
reach_is xs a b len first end start stop count size f e s t n =
    let from : start ≡ min first (length xs) = omega (arith, s, size) in
    let many : count ≡ min end (length xs) - first = omega (arith, n, t, size) in
    ap (λ n. take n (drop start xs)) many ∙ ap (λ i. take (min end (length xs) - first) (drop i xs)) from ∙ range_is xs first end
    ∙ ap (λ n. take (n - first) (drop first xs)) (e ∙ ap (λ n. range_end n b) (sym size)) ∙ ap (λ i. take (range_end (length xs) b - i) (drop i xs)) (f ∙ ap (λ n. range_start n a) (sym size))

-- the head of an array, and the elements of a range behind it
pub range_listed : (xs : Elements) (a b : ℤ) (start count : ℕ) (head new : List Part) → start + count ≤ length xs → take count (drop start xs) ≡ list_range xs a b
    → head ≡ Array count ∷ [] → new ≡ head ++ map Bulk (take count (drop start xs)) → new ≡ listed (list_range xs a b)
range_listed xs a b start count head new inside range is h =
    let size : count ≡ length (take count (drop start xs)) = sym (length-take-le count (drop start xs) (omega (arith, inside, length-drop start xs))) in
    listed_parts (take count (drop start xs)) count head new size is h ∙ ap listed range
