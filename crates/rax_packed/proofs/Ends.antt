-- The first and the last entry, and the nearest to a key.
use Rattle.std.proofs.Common.{◌≡◌, ◌∙◌, ℕ, zero, suc, ◌<◌, ◌≤◌, Bool, true, false, not, List, [], ◌∷◌, ◌++◌, length, take, drop, map, Option, Some, None, refl, sym, ap, arith, append_assoc}
use Rattle.std.proofs.lemmas.List.{append-nil}
use Rattle.std.specs.List.{filter, flat_map}
use Rattle.std.specs.Prelude.{slice_get}
use Rattle.std.specs.Option.{option_map}
use Rattle.std.specs.Ordering.{is_lt, is_gt}
use Rattle.std.specs.declared.cmp.Ordering.{Ordering}
use Rattle.std.specs.declared.cmp.Ordering.TheVariants.{Less, Greater}
use Rattle.std.proofs.lemmas.List.Elements.{filter-append}
use Rattle.std.proofs.lemmas.List.Concat.{flat_map-append}
use Rattle.rax_packed.specs.Nodes.{Link}
use Rattle.rax_packed.specs.Trees.{Entry, under}
use Rattle.rax_packed.specs.Ways.{beside}
use Rattle.rax_packed.specs.Packed.{order, or_else, first_of, last_of, end_of, nearest}
use Rattle.rax_packed.proofs.Entries.{All, keeps, drops, filter_under}

pub or_else-none : {X : Type 0} (x : Option X) → or_else x None ≡ x
or_else-none None = refl
or_else-none (Some x) = refl

or_else_assoc : {X : Type 0} (x y z : Option X) → or_else (or_else x y) z ≡ or_else x (or_else y z)
or_else_assoc None y z = refl
or_else_assoc (Some x) y z = refl

pub or_else_map : {X Y : Type 0} (f : X → Y) (x y : Option X) → option_map f (or_else x y) ≡ or_else (option_map f x) (option_map f y)
or_else_map f None y = refl
or_else_map f (Some x) y = refl

pub first_of_append : (xs ys : List Entry) → first_of (xs ++ ys) ≡ or_else (first_of xs) (first_of ys)
first_of_append [] ys = refl
first_of_append (x ∷ xs) ys = refl

pub last_of-append : (xs ys : List Entry) → last_of (xs ++ ys) ≡ or_else (last_of ys) (last_of xs)
last_of-append [] ys = sym (or_else-none (last_of ys))
last_of-append (x ∷ xs) ys = ap (λ o. or_else o (Some x)) (last_of-append xs ys) ∙ or_else_assoc (last_of ys) (last_of xs) (Some x)

last_of_under : (begin : List ℕ) (es : List Entry) → last_of (map (under begin) es) ≡ option_map (under begin) (last_of es)
last_of_under begin [] = refl
last_of_under begin (e ∷ es) = ap (λ o. or_else o (Some (under begin e))) (last_of_under begin es) ∙ sym (or_else_map (under begin) (last_of es) (Some e))

pub end_of_under : (up : Bool) (begin : List ℕ) (es : List Entry) → end_of up (map (under begin) es) ≡ option_map (under begin) (end_of up es)
end_of_under true begin [] = refl
end_of_under true begin (e ∷ es) = refl
end_of_under false begin es = last_of_under begin es

-- the entries before the middle, or behind it
abbrev pub side_of : Bool → List Entry → List Entry → List Entry
side_of true before after = after
side_of false before after = before

pub nearest_parts : (up : Bool) (key : List ℕ) (before middle after : List Entry) → All Less key before → All Greater key after
    → nearest up (before ++ (middle ++ after)) key ≡ or_else (nearest up middle key) (end_of up (side_of up before after))
unfolding nearest
nearest_parts true key before middle after less more =
    let test : Ordering → Bool = λ o. not (is_lt o) in
    let f : Entry → Bool = λ e. test (order e.key key) in
    ap first_of
    (filter-append f before (middle ++ after) ∙ ap (λ xs. xs ++ filter f (middle ++ after)) (drops test Less key before refl less) ∙ filter-append f middle after
    ∙ ap (λ xs. filter f middle ++ xs) (keeps test Greater key after refl more))
    ∙ first_of_append (filter f middle) after
nearest_parts false key before middle after less more =
    let test : Ordering → Bool = λ o. not (is_gt o) in
    let f : Entry → Bool = λ e. test (order e.key key) in
    ap last_of
    (filter-append f before (middle ++ after) ∙ ap (λ xs. xs ++ filter f (middle ++ after)) (keeps test Less key before refl less)
    ∙ ap (λ xs. before ++ xs) (filter-append f middle after ∙ ap (λ xs. filter f middle ++ xs) (drops test Greater key after refl more) ∙ append-nil (filter f middle)))
    ∙ last_of-append before (filter f middle)

pub nearest_under : (up : Bool) (begin key : List ℕ) (es : List Entry) → nearest up (map (under begin) es) (begin ++ key) ≡ option_map (under begin) (nearest up es key)
unfolding nearest
nearest_under true begin key es =
    let test : Ordering → Bool = λ o. not (is_lt o) in
    ap first_of (filter_under test begin key es) ∙ end_of_under true begin (filter (λ e. test (order e.key key)) es)
nearest_under false begin key es =
    let test : Ordering → Bool = λ o. not (is_gt o) in
    ap last_of (filter_under test begin key es) ∙ end_of_under false begin (filter (λ e. test (order e.key key)) es)

pub nearest_empty : (up : Bool) (key : List ℕ) → nearest up [] key ≡ None
unfolding nearest
nearest_empty true key = refl
nearest_empty false key = refl

-- where all keys stand on one side
pub nearest_less : (up : Bool) (key : List ℕ) (es : List Entry) → All Less key es → nearest up es key ≡ end_of up (side_of up es [])
nearest_less up key es less = ap (λ xs. nearest up xs key) (sym (append-nil es)) ∙ nearest_parts up key es [] [] less tt ∙ ap (λ o. or_else o (end_of up (side_of up es []))) (nearest_empty up key)

pub nearest_greater : (up : Bool) (key : List ℕ) (es : List Entry) → All Greater key es → nearest up es key ≡ end_of up (side_of up [] es)
nearest_greater up key es more = nearest_parts up key [] [] es tt more ∙ ap (λ o. or_else o (end_of up (side_of up [] es))) (nearest_empty up key)

-- the links on one side of a place
abbrev pub side_links : Bool → ℕ → List Link → List Link
side_links true place links = drop place links
side_links false place links = take place links

-- from the place of a link on, the link is the first one
pub drop_from : (links : List Link) (k : ℕ) (link : Link) → slice_get links k ≡ Some link → drop k links ≡ link ∷ drop (suc k) links
drop_from [] k link h = cc
drop_from (l ∷ links) zero link h = let same : l ≡ link = cc in ap (λ x. x ∷ links) same
drop_from (l ∷ links) (suc k) link h = drop_from links k link h

take_upto : (links : List Link) (k : ℕ) (link : Link) → slice_get links k ≡ Some link → take (suc k) links ≡ take k links ++ link ∷ []
take_upto [] k link h = cc
take_upto (l ∷ links) zero link h = let same : l ≡ link = cc in ap (λ x. x ∷ []) same
take_upto (l ∷ links) (suc k) link h = ap (λ xs. l ∷ xs) (take_upto links k link h)

-- the end of the entries below the links on one side stands below the next link, if anything does
pub side_end : (up : Bool) (prefix : List ℕ) (entries : Link → List Entry) (links : List Link) (place : ℕ) (link : Link) → beside up links place ≡ Some link
    → (other : Option Entry) ×
    (end_of up (flat_map (λ l. map (under (prefix ++ l.edge ∷ [])) (entries l)) (side_links up place links)) ≡ or_else
    (option_map (under (prefix ++ link.edge ∷ [])) (end_of up (entries link))) other)
side_end true prefix entries links place link is =
    let f : Link → List Entry = λ l. map (under (prefix ++ l.edge ∷ [])) (entries l) in (
      first_of (flat_map f (drop (suc place) links)),
      ap (λ ls. first_of (flat_map f ls)) (drop_from links place link is) ∙ first_of_append (f link) (flat_map f (drop (suc place) links))
          ∙ ap (λ o. or_else o (first_of (flat_map f (drop (suc place) links)))) (end_of_under true (prefix ++ link.edge ∷ []) (entries link)),
    )
side_end false prefix entries links zero link is = cc
side_end false prefix entries links (suc place) link is =
    let f : Link → List Entry = λ l. map (under (prefix ++ l.edge ∷ [])) (entries l) in (
      last_of (flat_map f (take place links)),
      ap (λ ls. last_of (flat_map f ls)) (take_upto links place link is)
          ∙ ap last_of (flat_map-append f (take place links) (link ∷ []) ∙ ap (λ xs. flat_map f (take place links) ++ xs) (append-nil (f link)))
          ∙ last_of-append (flat_map f (take place links)) (f link)
          ∙ ap (λ o. or_else o (last_of (flat_map f (take place links)))) (end_of_under false (prefix ++ link.edge ∷ []) (entries link)),
    )

-- no link on that side
pub side_none : (up : Bool) (links : List Link) (place : ℕ) → place ≤ length links → beside up links place ≡ None → side_links up place links ≡ []
side_none true [] zero h is = refl
side_none true [] (suc place) h is = refl
side_none true (l ∷ links) zero h is = cc
side_none true (l ∷ links) (suc place) h is = side_none true links place (omega arith) is
side_none false links zero h is = refl
side_none false [] (suc place) h is = absurd (omega arith)
side_none false (l ∷ links) (suc zero) h is = cc
side_none false (l ∷ links) (suc (suc place)) h is = absurd (by_get links place (omega arith) is)
  where
    by_get : (xs : List Link) (k : ℕ) → k < length xs → slice_get xs k ≡ None → ⊥
    by_get [] k h e = absurd (omega arith)
    by_get (x ∷ xs) zero h e = cc
    by_get (x ∷ xs) (suc k) h e = by_get xs k (omega arith) e

-- what is found below, behind the bytes that lead there
pub found_under : (front begin : List ℕ) (k : List ℕ) (o other : Option Entry) → Some k ≡ option_map (λ e. (front ++ begin) ++ e.key) o
    → Some k ≡ option_map (λ e. front ++ e.key) (or_else (option_map (under begin) o) other)
found_under front begin k None other h = cc
found_under front begin k (Some e) other h = h ∙ ap Some (append_assoc front begin e.key)
