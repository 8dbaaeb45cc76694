-- What is told of members one after the other.
use Rattle.std.proofs.Common.{◌≡◌, ℕ, zero, suc, ◌+◌, ◌-◌, ◌*◌, ◌<◌, ◌≤◌, Bool, true, false, List, [], ◌∷◌, ◌++◌, length, take, drop, map, reverse, get_or, ℤ, pos, Option, Some, None}
use Rattle.std.proofs.Common.{MatchOption, slice_get, refl, sym, ap, subst, ◌∙◌, arith}
use Rattle.std.specs.FinMap.{get}
use Rattle.std.proofs.lemmas.Grind.{flat_map-append}
use Rattle.std.proofs.Math.Seq.{take-append_seam, drop-append_seam}
use Rattle.std.proofs.lemmas.List.{append_assoc, append-nil, take_more, take-append-drop, get_or-drop, length-drop, length-take-le, length-reverse, reverse-append, get_or-reverse}
use Rattle.int_text.specs.Decimal.{canonical}
use Rattle.plain_world.specs.Parts.{AreReplies, IsReply, following}
use Rattle.plain_world.specs.declared.reply.Part.{Part}
use Rattle.plain_world.specs.declared.reply.Part.TheVariants.{Bulk, Array}
use Rattle.plain_model.specs.ZsetSteps.{Scores, Scored, met, listed, score_or_null}
use Rattle.plain_model.specs.declared.zset_command.Direction.{Direction}
use Rattle.plain_model.specs.declared.zset_command.Direction.TheVariants.{Rising, Falling}
use Rattle.cmd_zsets.specs.declared.spans.Span.{Span}
use Rattle.cmd_zsets.specs.Spans.{in_span, rank_of, told, told_all, sized, scores_told}

-- ---- replies

again : (parts : List Part) (n : ℕ) → AreReplies n parts → AreReplies (n + 0) parts
again parts n h = let e : n ≡ n + 0 = omega arith in subst (λ k. AreReplies k parts) e h

-- what is told of members are so many replies
told_replies : (w : Bool) (list : List Scored) → AreReplies (sized w (length list)) (told_all w list)
told_replies false [] = tt
told_replies false (x ∷ xs) = again (told_all false xs) (length xs) (told_replies false xs)
told_replies true [] = tt
told_replies true (x ∷ xs) =
    let e : suc (suc (2 * length xs)) ≡ 2 * suc (length xs) = omega arith in
    subst (λ k. AreReplies k (told_all true (x ∷ xs))) e
    (again (Bulk (canonical x.0) ∷ told_all true xs) (suc (2 * length xs)) (again (told_all true xs) (2 * length xs) (told_replies true xs)))

single : (list : List Scored) → map (λ (s : Scored). Bulk s.1) list ≡ told_all false list
single [] = refl
single (x ∷ xs) = ap (λ l. Bulk x.1 ∷ l) (single xs)

-- a list is told by a head and what is told of each member
listed_is : (w : Bool) (list : List Scored) → listed w list ≡ Array (sized w (length list)) ∷ told_all w list
listed_is false list = ap (λ l. Array (length list) ∷ l) (single list)
listed_is true list = refl

-- an array of members is one reply
pub listed_reply : (w : Bool) (list : List Scored) → IsReply (listed w list)
listed_reply w list =
    let e : sized w (length list) ≡ 0 + sized w (length list) = omega arith in
    subst IsReply (sym (listed_is w list)) (subst (λ n. AreReplies n (told_all w list)) e (told_replies w list))

-- the head of an array, and what is told of members behind it
pub span_listed : (w : Bool) (list : List Scored) (count : ℕ) (head new : List Part) → count ≡ length list → head ≡ Array (sized w count) ∷ [] → new ≡ head ++ told_all w list
    → new ≡ listed w list
span_listed w list count head new long is rest =
    rest ∙ ap (λ l. l ++ told_all w list) is ∙ ap (λ n. Array (sized w n) ∷ told_all w list) long ∙ sym (listed_is w list)

-- a member more, with its score behind it
pub with_score : (first mid new : List Part) (a b : Part) → mid ≡ first ++ a ∷ [] → new ≡ mid ++ b ∷ [] → new ≡ first ++ a ∷ b ∷ []
with_score first mid new a b p q = q ∙ ap (λ l. l ++ b ∷ []) p ∙ append_assoc first (a ∷ []) (b ∷ [])

-- ---- places

pub no_scored : Scored
no_scored = (pos 0, [])

pub at_some : (xs : List Scored) (n : ℕ) (d : Scored) → n < length xs → slice_get xs n ≡ Some (get_or xs n d)
at_some [] n d lt = absurd (omega (arith, lt))
at_some (x ∷ xs) zero d lt = refl
at_some (x ∷ xs) (suc n) d lt = at_some xs n d (omega (arith, lt))

-- what is found is told in other words
pub match_as : {A N M : Type 0} {F G : A → Type 0} (o : Option A) → (N → M) → ((a : A) → F a → G a) → MatchOption o N F → MatchOption o M G
match_as None n f h = n h
match_as (Some a) n f h = f a h

pub none_long : (xs : List Scored) → length xs ≡ 0 → xs ≡ []
none_long [] e = refl
none_long (x ∷ xs) e = absurd (omega (arith, e))

-- what is found is one
pub some_scored : (a b : Scored) → Some a ≡ Some b → a ≡ b
some_scored a b e = cc

pub some_at : (xs : List Scored) (n : ℕ) (x d : Scored) → slice_get xs n ≡ Some x → (n < length xs) × (get_or xs n d ≡ x)
some_at [] n x d e = cc
some_at (y ∷ ys) zero x d e = (omega arith, some_scored y x e)
some_at (y ∷ ys) (suc n) x d e = (let p = some_at ys n x d e in (omega (arith, p.0), p.1))

pub met_long : (from : Direction) (list : List Scored) → length (met from list) ≡ length list
met_long Rising list = refl
met_long Falling list = length-reverse list

-- the member that is met at a place stands at its rank
pub met_get : (from : Direction) (list : List Scored) (place : ℕ) → place < length list → slice_get (met from list) place ≡ slice_get list (rank_of from (length list) place)
met_get Rising list place lt = refl
met_get Falling list place lt =
    let long = length-reverse list in
    let same : length list - 1 - place ≡ length list - suc place = omega (arith, lt) in
    at_some (reverse list) place (pos 0, []) (omega (arith, lt, long)) ∙ ap Some (get_or-reverse list place (pos 0, []) lt) ∙ ap (λ n. Some (get_or list n (pos 0, []))) same
    ∙ sym (at_some list (length list - suc place) (pos 0, []) (omega (arith, lt)))

-- so many members are in a span
pub span_long : (span : Span) (list : List Scored) → span.start + span.count ≤ length list → span.count ≡ length (in_span span list)
span_long span list inside =
    let all = met span.from list in
    let long = met_long span.from list in
    sym (length-take-le span.count (drop span.start all) (omega (arith, inside, long, length-drop span.start all)))

-- one member more
pub one_more : (w : Bool) (xs : List Scored) (start k : ℕ) (first parts new : List Part) (x : Scored) → slice_get xs (start + k) ≡ Some x → parts ≡ first
    ++ told_all w (take k (drop start xs)) → new ≡ parts ++ told w x
    → new ≡ first ++ told_all w (take (k + 1) (drop start xs))
one_more w xs start k first parts new x at so_far pushed =
    let d : Scored = (pos 0, []) in
    let there = some_at xs (start + k) x d at in
    let rest = drop start xs in
    let e : take (k + 1) rest ≡ take k rest ++ x ∷ [] =
    take_more rest k d (omega (arith, there.0, length-drop start xs)) ∙ ap (λ (y : Scored). take k rest ++ y ∷ []) (get_or-drop start xs k d ∙ there.1) in
    pushed ∙ ap (λ l. l ++ told w x) so_far ∙ append_assoc first (told_all w (take k rest)) (told w x)
    ∙ ap (λ l. first ++ l) (ap (λ l. told_all w (take k rest) ++ l) (sym (append-nil (told w x))) ∙ sym (flat_map-append (told w) (take k rest) (x ∷ [])) ∙ ap (told_all w) (sym e))

-- ---- walks

-- the place behind a member that was met
pub met_next : {C : Type 0} (F : C → Type 0) (o : Option C) (rank start index count : ℕ) (at : C → ℕ) → rank ≡ start + index
    → MatchOption o (rank + 1 ≡ count) (λ to. F to × (at to ≡ rank + 1)) → MatchOption o (count ≤ start + (index + 1)) (λ to. F to × (at to ≡ start + (index + 1)))
met_next F None rank start index count at is h = omega (arith, is, h)
met_next F (Some to) rank start index count at is h = (h.0, omega (arith, is, h.1))

-- one member more was met
pub more_met : (xs met : List Scored) (start k : ℕ) (x : Scored) → slice_get xs (start + k) ≡ Some x → met ≡ take k (drop start xs) → met ++ x ∷ [] ≡ take (k + 1) (drop start xs)
more_met xs met start k x at so_far =
    let d : Scored = (pos 0, []) in
    let there = some_at xs (start + k) x d at in
    let rest = drop start xs in
    ap (λ l. l ++ x ∷ []) so_far
    ∙ sym (take_more rest k d (omega (arith, there.0, length-drop start xs)) ∙ ap (λ (y : Scored). take k rest ++ y ∷ []) (get_or-drop start xs k d ∙ there.1))

-- one member more is told from the last one back
pub one_back : (w : Bool) (first parts new : List Part) (left front : List Scored) (x : Scored) → left ≡ front ++ x ∷ [] → new ≡ parts ++ told w x → parts
    ++ told_all w (reverse left) ≡ first → new ++ told_all w (reverse front) ≡ first
one_back w first parts new left front x is pushed so_far =
    ap (λ l. l ++ told_all w (reverse front)) pushed
    ∙ append_assoc parts (told w x) (told_all w (reverse front))
    ∙ ap (λ l. parts ++ told_all w l) (sym (ap reverse is ∙ reverse-append front (x ∷ [])))
    ∙ so_far

-- a part of a list is met from the end as the part so far from the start, backwards
pub met_back : (list : List Scored) (start count : ℕ) → start + count ≤ length list → take count (drop start (reverse list)) ≡ reverse (take count (drop (length list - start - count) list))
met_back list start count inside =
    let low = length list - start - count in
    let a = take low list in
    let rest = drop low list in
    let b = take count rest in
    let c = drop count rest in
    let long_rest : length rest ≡ count + start = omega (arith, inside, length-drop low list) in
    let long_c : length (reverse c) ≡ start = omega (arith, length-reverse c, length-drop count rest, long_rest) in
    let long_b : length (reverse b) ≡ count = length-reverse b ∙ length-take-le count rest (omega (arith, long_rest)) in
    let whole : reverse list ≡ reverse c ++ (reverse b ++ reverse a) =
    ap reverse (sym (ap (λ l. a ++ l) (take-append-drop count rest) ∙ take-append-drop low list)) ∙ reverse-append a (b ++ c) ∙ ap (λ l. l ++ reverse a) (reverse-append b c)
    ∙ append_assoc (reverse c) (reverse b) (reverse a) in
    let behind : drop start (reverse list) ≡ reverse b ++ reverse a =
    ap (drop start) whole ∙ ap (λ n. drop n (reverse c ++ (reverse b ++ reverse a))) (sym long_c) ∙ drop-append_seam (reverse c) (reverse b ++ reverse a) in
    ap (take count) behind ∙ ap (λ n. take n (reverse b ++ reverse a)) (sym long_b) ∙ take-append_seam (reverse b) (reverse a)

-- ---- scores

none_follows : (o : Option ℤ) (n : ℕ) → n + following (score_or_null o) ≡ n
none_follows None n = omega arith
none_follows (Some score) n = omega arith

scores_are_replies : (scores : Scores) (members : List (List ℕ)) → AreReplies (length members) (scores_told scores members)
scores_are_replies scores [] = tt
scores_are_replies scores (member ∷ members) = subst (λ n. AreReplies n (scores_told scores members)) (sym (none_follows (get scores member) (length members))) (scores_are_replies scores members)

-- the head of an array and the scores behind it
pub scores_parts : (scores : Scores) (members : List (List ℕ)) (head new : List Part) → head ≡ Array (length members) ∷ [] → new ≡ head ++ scores_told scores members
    → new ≡ Array (length members) ∷ scores_told scores members
scores_parts scores members head new is h = h ∙ ap (λ l. l ++ scores_told scores members) is

pub scores_reply : (scores : Scores) (members : List (List ℕ)) (head new : List Part) → head ≡ Array (length members) ∷ [] → new ≡ head ++ scores_told scores members → IsReply new
scores_reply scores members head new is h =
    let one : length members ≡ 0 + length members = omega arith in
    subst IsReply (sym (scores_parts scores members head new is h)) (subst (λ n. AreReplies n (scores_told scores members)) one (scores_are_replies scores members))
