-- All members of a set, each once.
use Rattle.std.proofs.Common.{◌≡◌, inl, inr, ℕ, suc, ◌+◌, ◌<◌, ◌≤◌, Bool, true, false, cond, List, [], ◌∷◌, ◌++◌, length, map, take, get_or, Option, None, Some, Result, Ok, Err, IfOk}
use Rattle.std.proofs.Common.{refl, sym, ap, ◌∙◌, subst, arith}
use Rattle.std.specs.Prelude.{bytes_eq, MatchOption}
use Rattle.std.specs.List.{Contains, count_by}
use Rattle.std.specs.FinMap.{empty, len}
use Rattle.std.proofs.lemmas.Bool.{cond-true, cond-false, cases_Bool}
use Rattle.std.proofs.lemmas.List.{append_assoc, map-append, take_more, take_all}
use Rattle.std.proofs.lemmas.Slice.Eq.{bytes_eq-Decides}
use Rattle.blocks.specs.Blocks.{Blocks}
use Rattle.blocks.proofs.Sums.{count_cons}
use Rattle.set_object.specs.declared.members.Members as object
use Rattle.set_object.specs.Members as object_of
use Rattle.set_object.specs.Strings.{IsOnce, set_of}
use Rattle.set_object.proofs.Sets.{among, has_among, once_parts, tied, tied_true, tied_same, two_ways}
use Rattle.set_object.proofs.Listed.{arranged}
use Rattle.plain_world.specs.Worlds.{World, Entry, look}
use Rattle.plain_world.specs.Parts.{AreReplies, IsReply}
use Rattle.plain_world.specs.declared.refusal.Refusal.TheVariants.{WrongType}
use Rattle.plain_world.specs.declared.reply.Part.{Part}
use Rattle.plain_world.specs.declared.reply.Part.TheVariants.{Array, Bulk, Refused}
use Rattle.plain_model.specs.OfType.{set_in, may_tell, may_tell_of}
use Rattle.plain_model.specs.Scans.{Lists, listed}
use Rattle.plain_model.specs.SetSteps.{Members, IsMember, AreMembers, may_sets}
use Rattle.plain_model.specs.declared.set_command.SetCommand.TheVariants as sets
use Rattle.plain_world.proofs.Containing.{contains_first, contains_later, contains_cases}
use Rattle.cmd_sets.specs.Found.{FoundSet, FoundOther}

-- ---- a list in which no string stands twice lists the members of its set

stands : (x : List ℕ) (list : List (List ℕ)) → Contains list x → among x list ≡ true
stands x [] c = (let below : c.0 < 0 = c.1 in absurd (omega arith))
stands x (y ∷ list) c = elim (cases_Bool (tied x y)) [
  | inl t ↦ cond-true _ _ _ t
  | inr f ↦ elim (contains_cases y x list c) [
    | inl same ↦ absurd (two_ways (tied x y) (tied_same x y (sym same)) f)
    | inr more ↦ cond-false _ _ _ f ∙ stands x list more
  ]
]

contained : (x : List ℕ) (list : List (List ℕ)) → among x list ≡ true → Contains list x
contained x [] h = absurd cc
contained x (y ∷ list) h = elim (cases_Bool (tied x y)) [
  | inl t ↦ subst (λ (k : List ℕ). Contains (y ∷ list) k) (sym (tied_true x y t)) (contains_first y list)
  | inr f ↦ contains_later y x list (contained x list (sym (cond-false _ _ _ f) ∙ h))
]

-- a string that is no other is counted behind it
passed : (x y : List ℕ) (list : List (List ℕ)) → bytes_eq x y ≡ false → count_by (bytes_eq x) (y ∷ list) ≡ count_by (bytes_eq x) list
passed x y list differ = let none : cond {A = ℕ} (bytes_eq x y) 1 0 ≡ 0 = ap (λ (b : Bool). cond b 1 0) differ in omega (arith, count_cons (bytes_eq x) y list, none)

met : (x y : List ℕ) (list : List (List ℕ)) → bytes_eq x y ≡ true → count_by (bytes_eq x) (y ∷ list) ≡ suc (count_by (bytes_eq x) list)
met x y list same = let one : cond {A = ℕ} (bytes_eq x y) 1 0 ≡ 1 = ap (λ (b : Bool). cond b 1 0) same in omega (arith, count_cons (bytes_eq x) y list, one)

none_counted : (x : List ℕ) (list : List (List ℕ)) → among x list ≡ false → count_by (bytes_eq x) list ≡ 0
none_counted x [] h = refl
none_counted x (y ∷ list) h = elim (cases_Bool (bytes_eq x y)) [
  | inl same ↦ absurd (two_ways (among x (y ∷ list)) (cond-true _ _ _ (tied_same x y ((bytes_eq-Decides x y).0 same))) h)
  | inr differ ↦ elim (cases_Bool (tied x y)) [
    | inl t ↦ absurd (two_ways (among x (y ∷ list)) (cond-true _ _ _ t) h)
    | inr f ↦ passed x y list differ ∙ none_counted x list (sym (cond-false _ _ _ f) ∙ h)
  ]
]

once_counted : (x : List ℕ) (list : List (List ℕ)) → IsOnce list → count_by (bytes_eq x) list ≤ 1
once_counted x [] once = omega arith
once_counted x (y ∷ list) once = elim (cases_Bool (bytes_eq x y)) [
  | inl same ↦
      (let none : among x list ≡ false = ap (λ k. among k list) ((bytes_eq-Decides x y).0 same) ∙ (once_parts y list once).0 in
      omega (arith, met x y list same, none_counted x list none))
  | inr differ ↦ omega (arith, passed x y list differ, once_counted x list (once_parts y list once).1)
]

pub lists_set : (list : List (List ℕ)) → IsOnce list → Lists (IsMember (set_of list)) (IsMember (set_of list)) list
lists_set list once = record {
  once = λ x. once_counted x list once;
  real = λ x c. has_among list x ∙ stands x list c;
  whole = λ x h. contained x list (sym (has_among list x) ∙ h);
}

-- the members of a set in its own order
pub are_members : (m : Blocks) (set : object.Members) → object_of.IsMembers m set → (reply : List Part) → reply ≡ listed (object_of.listed m set) → AreMembers (Some (object_of.members m set)) reply
are_members m set sound reply is =
    let a = arranged m set sound in
    let list = object_of.listed m set in
    (list, subst (λ (s : Members). Lists (IsMember s) (IsMember s) list) a.listed_are (lists_set list a.once), is)

-- as many as are counted
pub count_is : (m : Blocks) (set : object.Members) → object_of.IsMembers m set → (count : ℕ) → count ≡ len (object_of.members m set) → count ≡ length (object_of.listed m set)
count_is m set sound count is = let a = arranged m set sound in is ∙ ap len (sym a.listed_are) ∙ a.once

-- ---- how they are written

-- what stands at a place, where there is one
pub match_as : {A P R : Type 0} {Q S : A → Type 0} (o : Option A) → (P → R) → ((x : A) → Q x → S x) → MatchOption o P Q → MatchOption o R S
match_as None f g h = f h
match_as (Some x) f g h = g x h

-- one member more
pub one_more : (list : List (List ℕ)) (k : ℕ) (first parts new : List Part) (x : List ℕ) → k < length list → parts ≡ first ++ map Bulk (take k list) → x ≡ get_or list k [] → new ≡ parts ++ Bulk x ∷ []
    → new ≡ first ++ map Bulk (take (k + 1) list)
one_more list k first parts new x h so_far is pushed =
    let e : take (k + 1) list ≡ take k list ++ x ∷ [] = take_more list k [] h ∙ ap (λ y. take k list ++ y ∷ []) (sym is) in
    pushed ∙ ap (λ l. l ++ Bulk x ∷ []) so_far ∙ append_assoc first (map Bulk (take k list)) (Bulk x ∷ [])
    ∙ ap (λ l. first ++ l) (sym (ap (map Bulk) e ∙ map-append Bulk (take k list) (x ∷ [])))

-- all members
pub all_told : (list : List (List ℕ)) (k : ℕ) (first parts : List Part) → length list ≤ k → parts ≡ first ++ map Bulk (take k list) → parts ≡ first ++ map Bulk list
all_told list k first parts h so_far = so_far ∙ ap (λ l. first ++ map Bulk l) (take_all k list h)

strings_are_replies : (list : List (List ℕ)) → AreReplies (length list) (map Bulk list)
strings_are_replies [] = tt
strings_are_replies (x ∷ list) = let e : length list + 0 ≡ length list = omega arith in subst (λ n. AreReplies n (map Bulk list)) (sym e) (strings_are_replies list)

-- an array of them is one reply
pub listed_is_reply : (list : List (List ℕ)) → IsReply (listed list)
listed_is_reply list = let e : 0 + length list ≡ length list = omega arith in subst (λ n. AreReplies n (map Bulk list)) (sym e) (strings_are_replies list)

-- the head of an array, and what is listed behind it
pub listed_parts : (list : List (List ℕ)) (count : ℕ) (first mid new : List Part) → first ≡ [] → count ≡ length list → mid ≡ first ++ Array count ∷ [] → new ≡ mid ++ map Bulk list → new ≡ listed list
listed_parts list count first mid new e n f h =
    h ∙ ap (λ l. l ++ map Bulk list) (f ∙ ap (λ l. l ++ Array count ∷ []) e) ∙ ap (λ n. Array n ∷ map Bulk list) n

-- ---- what SMEMBERS may tell of what stands at a key

-- where nothing stands, an empty set is told
pub none_listed : {E : Type 0} (seed : ℕ) (old : World) (key : List ℕ) (set : Members) (result : Result (List Part) E) → look old key ≡ None → set ≡ empty
    → IfOk result (λ reply. AreMembers (Some set) reply)
    → IfOk result (λ reply. may_sets seed old (sets.SMembers key) reply old)
none_listed seed old key set (Ok reply) none is told =
    let all : AreMembers None reply = subst (λ (s : Members). AreMembers (Some s) reply) is told in
    subst (λ (o : Option Entry). may_tell set_in old o AreMembers reply old) (sym none) (all, refl)
none_listed seed old key set (Err x) none is told = tt

pub set_listed : {E : Type 0} (seed : ℕ) (old : World) (m : Blocks) (key : List ℕ) (set : object.Members) (result : Result (List Part) E) → FoundSet old m key set
    → IfOk result (λ reply. AreMembers (Some (object_of.members m set)) reply)
    → IfOk result (λ reply. may_sets seed old (sets.SMembers key) reply old)
set_listed seed old m key set (Ok reply) found told = subst (λ (o : Option Entry). may_tell set_in old o AreMembers reply old) (sym found.stands) (told, refl)
set_listed seed old m key set (Err x) found told = tt

pub other_refused : {E : Type 0} (seed : ℕ) (old : World) (key : List ℕ) (result : Result (List Part) E) → FoundOther old key → IfOk result (λ reply. reply ≡ Refused WrongType ∷ [])
    → IfOk result (λ reply. may_sets seed old (sets.SMembers key) reply old)
other_refused seed old key (Ok reply) found is =
    subst (λ (o : Option Entry). may_tell set_in old o AreMembers reply old) (sym found.stands)
    (subst (λ (o : Option Members). may_tell_of old o AreMembers reply old) (sym found.other) (is, refl))
other_refused seed old key (Err x) found is = tt
