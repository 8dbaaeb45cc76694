-- Elements as they are met from an end, and which of them equal one.
use Rattle.std.proofs.Common.{◌≡◌, ℕ, zero, suc, ◌+◌, ◌-◌, ◌<◌, ◌≤◌, List, [], ◌∷◌, ◌++◌, length, take, drop, map, get_or, Option, Some, None, Bool, true, false, refl, sym, ap, ◌∙◌, subst}
use Rattle.std.proofs.Common.{arith, length-append, append-nil, take-take}
use Rattle.std.specs.Prelude.{ℤ, pos, MatchOption, bytes_eq, if◌then◌else◌}
use Rattle.std.proofs.lemmas.List.{map-append, take_more, get_or-reverse, length-reverse, length-map, length-drop, length-take-le, drop_all, take_all, take-append-drop, take-append-le, drop-append-le}
use Rattle.std.proofs.Math.Seq.{take-nil}
use Rattle.blocks.specs.Blocks.{Blocks}
use Rattle.quicklist.specs.declared.cursor.Cursor.{Cursor}
use Rattle.quicklist.specs.Chain.{Chain, IsQuick, elements}
use Rattle.quicklist.specs.Cursor.{IsCursor}
use Rattle.quicklist.proofs.Cursors.{index_inside}
use Rattle.plain_world.specs.Parts.{AreReplies, IsReply}
use Rattle.plain_world.specs.declared.reply.Part.{Part}
use Rattle.plain_world.specs.declared.reply.Part.TheVariants.{Number, Array}
use Rattle.plain_model.specs.ListSteps.{Elements, from_end, index_from, places, at_most, matches, end_of_rank, before_rank}
use Rattle.plain_model.specs.declared.list_command.ListEnd.{ListEnd}
use Rattle.plain_model.specs.declared.list_command.ListEnd.TheVariants.{Head, Tail}
use Rattle.cmd_lists.specs.Met.{MeetsAt, IsMet}

-- ---- cursors from an end

pub first_head : (m : Blocks) (q : Chain) (place : Option Cursor) → IsQuick m q → MatchOption place (length (elements m q) ≤ 0) (λ cursor. IsCursor m q cursor × (cursor.index ≡ 0))
    → IsMet Head m q 0 place
first_head m q None s h = h
first_head m q (Some to) s h = record { inside = omega (arith, h.1, index_inside m q to.index to.node h.0.among s h.0.place); place = h.0; index_is = h.1 }

pub first_tail : (m : Blocks) (q : Chain) (last : ℕ) (place : Option Cursor) → IsQuick m q → last ≡ length (elements m q) - 1
    → MatchOption place (length (elements m q) ≤ last) (λ cursor. IsCursor m q cursor × (cursor.index ≡ last)) → IsMet Tail m q 0 place
first_tail m q last None s e h = omega (arith, e, h)
first_tail m q last (Some to) s e h = record { inside = omega (arith, h.1, index_inside m q to.index to.node h.0.among s h.0.place); place = h.0; index_is = omega (arith, e, h.1) }

pub behind_head : (m : Blocks) (q : Chain) (k : ℕ) (cursor : Cursor) (place : Option Cursor) → IsQuick m q → MeetsAt Head m q k cursor
    → MatchOption place (cursor.index + 1 ≡ length (elements m q)) (λ to. IsCursor m q to × (to.index ≡ cursor.index + 1)) → IsMet Head m q (k + 1) place
behind_head m q k cursor None s meets h = let e : cursor.index ≡ k = meets.index_is in omega (arith, e, h)
behind_head m q k cursor (Some to) s meets h =
    let e : cursor.index ≡ k = meets.index_is in
    record { inside = omega (arith, e, h.1, index_inside m q to.index to.node h.0.among s h.0.place); place = h.0; index_is = omega (arith, e, h.1) }

pub behind_tail : (m : Blocks) (q : Chain) (k : ℕ) (cursor : Cursor) (place : Option Cursor) → IsQuick m q → MeetsAt Tail m q k cursor
    → MatchOption place (cursor.index ≡ 0) (λ to. IsCursor m q to × (to.index + 1 ≡ cursor.index)) → IsMet Tail m q (k + 1) place
behind_tail m q k cursor None s meets h = let e : cursor.index ≡ length (elements m q) - suc k = meets.index_is in omega (arith, e, h)
behind_tail m q k cursor (Some to) s meets h =
    let e : cursor.index ≡ length (elements m q) - suc k = meets.index_is in
    record { inside = omega (arith, e, h.1); place = h.0; index_is = omega (arith, e, h.1) }

-- the element that is met
pub met_at : (end : ListEnd) (xs : Elements) (k index : ℕ) → k < length xs → index ≡ index_from end (length xs) k → get_or xs index [] ≡ get_or (from_end end xs) k []
met_at Head xs k index h is = ap (λ i. get_or xs i []) is
met_at Tail xs k index h is =
    let e : index ≡ length xs - 1 - k = omega (arith, is) in ap (λ i. get_or xs i []) e ∙ sym (get_or-reverse xs k [] h)

pub met_size : (end : ListEnd) (xs : Elements) → length (from_end end xs) ≡ length xs
met_size Head xs = refl
met_size Tail xs = length-reverse xs

-- ---- places

-- a place, where it is one
abbrev one_place : Bool → ℕ → List ℕ
one_place b n = if b then n ∷ [] else []

front_place : (b : Bool) (n : ℕ) (rest more : List ℕ) → (if b then n ∷ (rest ++ more) else rest ++ more) ≡ (if b then n ∷ rest else rest) ++ more
front_place true n rest more = refl
front_place false n rest more = refl

places_append : (n : ℕ) (text : List ℕ) (xs ys : Elements) → places n text (xs ++ ys) ≡ places n text xs ++ places (n + length xs) text ys
places_append n text [] ys = let e : n ≡ n + length {A = List ℕ} [] = omega arith in ap (λ (k : ℕ). places k text ys) e
places_append n text (x ∷ xs) ys =
    let e : suc n + length xs ≡ n + length (x ∷ xs) = omega arith in
    ap (λ (l : List ℕ). if bytes_eq x text then n ∷ l else l) (places_append (suc n) text xs ys ∙ ap (λ (k : ℕ). places (suc n) text xs ++ places k text ys) e)
    ∙ front_place (bytes_eq x text) n (places (suc n) text xs) (places (n + length (x ∷ xs)) text ys)

-- one element more
places_more : (text : List ℕ) (xs : Elements) (k : ℕ) (x : List ℕ) → k < length xs → x ≡ get_or xs k [] → places 0 text (take (k + 1) xs) ≡ places 0 text (take k xs) ++ one_place (bytes_eq x text) k
places_more text xs k x h is =
    let e : 0 + length (take k xs) ≡ k = omega (arith, length-take-le k xs (omega (arith, h))) in
    ap (places 0 text) (take_more xs k [] h ∙ ap (λ (y : List ℕ). take k xs ++ y ∷ []) (sym is)) ∙ places_append 0 text (take k xs) (x ∷ [])
    ∙ ap (λ (n : ℕ). places 0 text (take k xs) ++ one_place (bytes_eq x text) n) e

pub place_other : (text : List ℕ) (xs : Elements) (k : ℕ) (x : List ℕ) → k < length xs → x ≡ get_or xs k [] → bytes_eq x text ≡ false → places 0 text (take (k + 1) xs) ≡ places 0 text (take k xs)
place_other text xs k x h is other = places_more text xs k x h is ∙ ap (λ b. places 0 text (take k xs) ++ one_place b k) other ∙ append-nil (places 0 text (take k xs))

pub place_same : (text : List ℕ) (xs : Elements) (k : ℕ) (x : List ℕ) → k < length xs → x ≡ get_or xs k [] → bytes_eq x text ≡ true
    → places 0 text (take (k + 1) xs) ≡ places 0 text (take k xs) ++ k ∷ []
place_same text xs k x h is same = places_more text xs k x h is ∙ ap (λ b. places 0 text (take k xs) ++ one_place b k) same

-- ---- matches from a rank on

one_longer : (old new : List ℕ) (k : ℕ) → new ≡ old ++ k ∷ [] → length new ≡ length old + 1
one_longer old new k e = ap length e ∙ length-append old (k ∷ [])

module _ (f : ℕ → ℕ) (first k skipped : ℕ) (old new found : List ℕ) (more : new ≡ old ++ k ∷ []) (skips : skipped ≡ first - length old) (finds : found ≡ map f (drop first old)) where
  -- one that comes before the rank
  pub skipped_one : 0 < skipped → skipped - 1 ≡ first - length new
  skipped_one some = omega (arith, skips, some, one_longer old new k more)

  pub none_found : 0 < skipped → found ≡ map f (drop first new)
  none_found some =
      finds ∙ ap (map f) (drop_all first old (omega (arith, skips, some)) ∙ sym (drop_all first new (omega (arith, skips, some, one_longer old new k more))))

  -- one from the rank on
  pub skipped_none : skipped ≡ 0 → skipped ≡ first - length new
  skipped_none none = omega (arith, skips, none, one_longer old new k more)

  pub one_found : (after : List ℕ) → skipped ≡ 0 → after ≡ found ++ f k ∷ [] → after ≡ map f (drop first new)
  one_found after none e =
      e ∙ ap (λ l. l ++ f k ∷ []) finds
      ∙ sym (ap (λ l. map f (drop first l)) more ∙ ap (map f) (drop-append-le first old (k ∷ []) (omega (arith, skips, none))) ∙ map-append f (drop first old) (k ∷ []))

-- the next element that is met, of those from an end
module _ (end : ListEnd) (m : Blocks) (q : Chain) (k first skipped : ℕ) (cursor : Cursor) (x text found : List ℕ) (meets : MeetsAt end m q k cursor) (is : x ≡ get_or (elements m q) cursor.index [])
    (skips : skipped ≡ first - length (places 0 text (take k (from_end end (elements m q)))))
    (finds : found ≡ map (index_from end (length (elements m q))) (drop first (places 0 text (take k (from_end end (elements m q)))))) where
  -- what is seen behind it
  abbrev seen_behind : List ℕ
  seen_behind = places 0 text (take (k + 1) (from_end end (elements m q)))

  -- these indexes are found, where so many matches still come before the rank
  abbrev Found : ℕ → List ℕ → Type 0
  Found left indexes = (left ≡ first - length seen_behind) × (indexes ≡ map (index_from end (length (elements m q))) (drop first seen_behind))

  inside_met : k < length (from_end end (elements m q))
  inside_met = omega (arith, meets.inside, met_size end (elements m q))

  met_is : x ≡ get_or (from_end end (elements m q)) k []
  met_is = is ∙ met_at end (elements m q) k cursor.index meets.inside meets.index_is

  same_place : bytes_eq x text ≡ true → seen_behind ≡ places 0 text (take k (from_end end (elements m q))) ++ k ∷ []
  same_place same = place_same text (from_end end (elements m q)) k x inside_met met_is same

  -- it is another text
  pub found_other : bytes_eq x text ≡ false → Found skipped found
  found_other other =
      let e = place_other text (from_end end (elements m q)) k x inside_met met_is other in
      (skips ∙ ap (λ l. first - length l) (sym e), finds ∙ ap (λ l. map (index_from end (length (elements m q))) (drop first l)) (sym e))

  -- it is the text, before the rank
  pub found_before : bytes_eq x text ≡ true → 0 < skipped → Found (skipped - 1) found
  found_before same some = (
    skipped_one (index_from end (length (elements m q))) first k skipped _ seen_behind found (same_place same) skips finds some,
    none_found (index_from end (length (elements m q))) first k skipped _ seen_behind found (same_place same) skips finds some,
  )

  -- it is the text, from the rank on
  pub found_more : (index : ℕ) (after : List ℕ) → bytes_eq x text ≡ true → skipped ≡ 0 → index ≡ cursor.index → after ≡ found ++ index ∷ [] → Found skipped after
  found_more index after same none at more = (
    skipped_none (index_from end (length (elements m q))) first k skipped _ seen_behind found (same_place same) skips finds none,
    one_found (index_from end (length (elements m q))) first k skipped _ seen_behind found (same_place same) skips finds after none (more ∙ ap (λ i. found ++ i ∷ []) (at ∙ meets.index_is)),
  )

at_most_some : (n : ℕ) (l : List ℕ) → 0 < n → at_most n l ≡ take n l
at_most_some zero l h = absurd (omega (arith, h))
at_most_some (suc n) l h = refl

-- all are told where fewer are there than are wanted
pub all_told : (n : ℕ) (l : List ℕ) → (0 < n → length l < n) → l ≡ at_most n l
all_told zero l h = refl
all_told (suc n) l h = let few = h (omega arith) in sym (take_all (suc n) l (omega (arith, few)))

-- as many are told as are wanted where so many are found
pub enough_told : (f : ℕ → ℕ) (text : List ℕ) (xs : Elements) (first n looked wanted : ℕ) (found : List ℕ) → n ≤ looked → n ≤ length xs
    → found ≡ map f (drop first (places 0 text (take n xs))) → 0 < length found → length found ≡ wanted
    → found ≡ at_most wanted (map f (drop first (places 0 text (take looked xs))))
enough_told f text xs first n looked wanted found within inside finds some enough =
    let old = places 0 text (take n xs) in
    let rest = drop n (take looked xs) in
    let more = places (0 + length (take n xs)) text rest in
    let long = ap length finds ∙ length-map (drop first old) f ∙ length-drop first old in
    let all : places 0 text (take looked xs) ≡ old ++ more =
    ap (places 0 text) (sym (take-append-drop n (take looked xs)) ∙ ap (λ l. l ++ rest) (take-take n looked xs within)) ∙ places_append 0 text (take n xs) rest in
    let cut : map f (drop first (places 0 text (take looked xs))) ≡ found ++ map f more =
    ap (λ l. map f (drop first l)) all ∙ ap (map f) (drop-append-le first old more (omega (arith, long, some))) ∙ map-append f (drop first old) more ∙ ap (λ l. l ++ map f more) (sym finds) in
    sym (ap (at_most wanted) cut ∙ at_most_some wanted (found ++ map f more) (omega (arith, some, enough))
    ∙ take-append-le wanted found (map f more) (omega (arith, enough)) ∙ take_all wanted found (omega (arith, enough)))

pub matches_are : (rank : ℤ) (most : ℕ) (text : List ℕ) (xs : Elements) (end : ListEnd) (first looked : ℕ) → end ≡ end_of_rank rank → first ≡ before_rank rank
    → take looked (from_end end xs) ≡ at_most most (from_end end xs)
    → map (index_from end (length xs)) (drop first (places 0 text (take looked (from_end end xs)))) ≡ matches rank most text xs
matches_are rank most text xs end first looked e f l =
    ap (λ l. map (index_from end (length xs)) (drop first (places 0 text l))) l
    ∙ ap (λ n. map (index_from end (length xs)) (drop n (places 0 text (at_most most (from_end end xs))))) f
    ∙ ap (λ e. map (index_from e (length xs)) (drop (before_rank rank) (places 0 text (at_most most (from_end e xs))))) e

-- an empty list has none
none_met : (end : ListEnd) → from_end end [] ≡ []
none_met Head = refl
none_met Tail = refl

none_of_most : (n : ℕ) → at_most {A = List ℕ} n [] ≡ []
none_of_most zero = refl
none_of_most (suc n) = take-nil (suc n)

no_match : (rank : ℤ) (most : ℕ) (text : List ℕ) → matches rank most text [] ≡ []
no_match rank most text =
    let end = end_of_rank rank in
    ap (λ l. map (index_from end 0) (drop (before_rank rank) (places 0 text l))) (ap (at_most most) (none_met end) ∙ none_of_most most)
    ∙ ap (map (index_from end 0)) (drop_all (before_rank rank) [] (omega arith))

none_of : (n : ℕ) → at_most {A = ℕ} n [] ≡ []
none_of zero = refl
none_of (suc n) = take-nil (suc n)

pub none_told : (n : ℕ) (rank : ℤ) (most : ℕ) (text : List ℕ) → [] ≡ at_most n (matches rank most text [])
none_told n rank most text = sym (ap (at_most n) (no_match rank most text) ∙ none_of n)

-- ---- replies

numbers_are_replies : (list : List ℕ) → AreReplies (length list) (map (λ index. Number (pos index)) list)
numbers_are_replies [] = tt
numbers_are_replies (index ∷ list) = let e : length list + 0 ≡ length list = omega arith in subst (λ n. AreReplies n (map (λ index. Number (pos index)) list)) (sym e) (numbers_are_replies list)

-- the head of an array, and the numbers behind it
pub numbers_reply : (list : List ℕ) (head new : List Part) → head ≡ Array (length list) ∷ [] → new ≡ head ++ map (λ index. Number (pos index)) list → IsReply new
numbers_reply list head new is h =
    let P : List Part → Type 0 = IsReply in
    let size : 0 + length list ≡ length list = omega arith in
    subst P (sym (h ∙ ap (λ l. l ++ map (λ index. Number (pos index)) list) is))
    (subst (λ n. AreReplies n (map (λ index. Number (pos index)) list)) (sym size) (numbers_are_replies list))
