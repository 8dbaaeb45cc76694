-- All fields of a hash, each once, and what is told of them.
use Rattle.std.proofs.Common.{◌≡◌, inl, inr, ℕ, suc, ◌+◌, ◌*◌, ◌<◌, ◌≤◌, Bool, true, false, cond, List, [], ◌∷◌, ◌++◌, length, map, take, get_or, flat_map, is_some, Option, None, Some}
use Rattle.std.proofs.Common.{Result, Ok, Err, IfOk, refl, sym, ap, ◌∙◌, subst, arith}
use Rattle.std.specs.Prelude.{bytes_eq, MatchOption}
use Rattle.std.specs.List.{Contains, count_by}
use Rattle.std.specs.declared.cmp.Ordering.{Ordering}
use Rattle.std.specs.declared.cmp.Ordering.TheVariants.{Less, Equal, Greater}
use Rattle.std.specs.Ordering.{nat_cmp, eq_by_cmp, is_eq}
use Rattle.std.specs.Cmp.{eq_by_cmp_equiv}
use Rattle.std.specs.Cmp.Lexicographic.{slice_cmp, nat_list_cmp_total}
use Rattle.std.specs.FinMap.{empty, find, from_entries, get, len, len-empty, len-insert, get-from_entries, slice_cmp-IsAntisymmetric, nat_cmp-IsAntisymmetric}
use Rattle.std.proofs.lemmas.Bool.{cond-true, cond-false, cases_Bool}
use Rattle.std.proofs.lemmas.List.{take_more, take_all, flat_map_more, length-map}
use Rattle.std.proofs.lemmas.Slice.Eq.{bytes_eq-Decides}
use Rattle.blocks.specs.Blocks.{Blocks}
use Rattle.blocks.proofs.Sums.{count_cons}
use Rattle.hash_object.specs.declared.fields.Fields as object
use Rattle.hash_object.specs.Fields as object_of
use Rattle.hash_object.proofs.Listed.{arranged}
use Rattle.plain_world.specs.Worlds.{World, Entry, look}
use Rattle.plain_world.specs.Parts.{AreReplies, IsReply}
use Rattle.plain_world.specs.declared.refusal.Refusal.TheVariants.{WrongType}
use Rattle.plain_world.specs.declared.reply.Part.{Part}
use Rattle.plain_world.specs.declared.reply.Part.TheVariants.{Array, Bulk, Refused}
use Rattle.plain_model.specs.OfType.{hash_in, may_tell, may_tell_of}
use Rattle.plain_model.specs.Scans.{Lists}
use Rattle.plain_model.specs.HashSteps.{Fields, IsField, TellsFields, value_or_null}
use Rattle.plain_world.proofs.Containing.{contains_first, contains_later, contains_cases}
use Rattle.cmd_hashes.specs.declared.listing.Told.{Told}
use Rattle.cmd_hashes.specs.declared.listing.Told.TheVariants.{OnlyFields, OnlyValues, Both}
use Rattle.cmd_hashes.specs.Found.{FoundHash, FoundOther}
use Rattle.cmd_hashes.specs.Listed.{told_of, replies_of, telling}

-- fields with their values
abbrev pub Pairs : Type 0
Pairs = List (List ℕ × List ℕ)

abbrev pub names_of : Pairs → List (List ℕ)
names_of list = map (λ (p : List ℕ × List ℕ). p.0) list

abbrev value_in : List ℕ → Pairs → Option (List ℕ)
value_in name list = find (slice_cmp nat_cmp) name list

-- no field stands twice
abbrev pub Once : Pairs → Type 0
Once [] = Unit {0}
Once (p ∷ rest) = (value_in p.0 rest ≡ None) × Once rest

-- both are the same bytes
abbrev tied : List ℕ → List ℕ → Bool
tied q k = eq_by_cmp (slice_cmp nat_cmp) q k

tied_true : (q k : List ℕ) → tied q k ≡ true → q ≡ k
tied_true q k h = slice_cmp-IsAntisymmetric nat_cmp-IsAntisymmetric q k (equal (slice_cmp nat_cmp q k) h)
  where
    equal : (o : Ordering) → is_eq o ≡ true → o ≡ Equal
    equal Less h = cc
    equal Equal h = refl
    equal Greater h = cc

tied_same : (q k : List ℕ) → q ≡ k → tied q k ≡ true
tied_same q k is = ap (tied q) (sym is) ∙ (eq_by_cmp_equiv nat_list_cmp_total).refl q

two_ways : (b : Bool) → b ≡ true → b ≡ false → ⊥
two_ways b h k = cc

some_none : (o : Option (List ℕ)) (x : List ℕ) → o ≡ Some x → o ≡ None → ⊥
some_none o x h k = cc

map_gets : (list : Pairs) (name : List ℕ) → get (from_entries {R = slice_cmp nat_cmp} list) name ≡ value_in name list
map_gets list name = get-from_entries nat_list_cmp_total list name

-- ---- a list in which no field stands twice lists the fields of its map

stands : (x : List ℕ) (list : Pairs) → Contains (names_of list) x → is_some (value_in x list) ≡ true
stands x [] c = (let below : c.0 < 0 = c.1 in absurd (omega arith))
stands x (p ∷ list) c = elim (cases_Bool (tied x p.0)) [
  | inl t ↦ ap is_some (cond-true _ _ _ t)
  | inr f ↦ elim (contains_cases p.0 x (names_of list) c) [
    | inl same ↦ absurd (two_ways (tied x p.0) (tied_same x p.0 (sym same)) f)
    | inr more ↦ ap is_some (cond-false _ _ _ f) ∙ stands x list more
  ]
]

contained : (x : List ℕ) (list : Pairs) → is_some (value_in x list) ≡ true → Contains (names_of list) x
contained x [] h = absurd cc
contained x (p ∷ list) h = elim (cases_Bool (tied x p.0)) [
  | inl t ↦ subst (λ (k : List ℕ). Contains (names_of (p ∷ list)) k) (sym (tied_true x p.0 t)) (contains_first p.0 (names_of list))
  | inr f ↦ contains_later p.0 x (names_of list) (contained x list (ap is_some (sym (cond-false _ _ _ f)) ∙ h))
]

passed : (x y : List ℕ) (names : List (List ℕ)) → bytes_eq x y ≡ false → count_by (bytes_eq x) (y ∷ names) ≡ count_by (bytes_eq x) names
passed x y names differ = let none : cond {A = ℕ} (bytes_eq x y) 1 0 ≡ 0 = ap (λ (b : Bool). cond b 1 0) differ in omega (arith, count_cons (bytes_eq x) y names, none)

met : (x y : List ℕ) (names : List (List ℕ)) → bytes_eq x y ≡ true → count_by (bytes_eq x) (y ∷ names) ≡ suc (count_by (bytes_eq x) names)
met x y names same = let one : cond {A = ℕ} (bytes_eq x y) 1 0 ≡ 1 = ap (λ (b : Bool). cond b 1 0) same in omega (arith, count_cons (bytes_eq x) y names, one)

none_counted : (x : List ℕ) (list : Pairs) → value_in x list ≡ None → count_by (bytes_eq x) (names_of list) ≡ 0
none_counted x [] h = refl
none_counted x (p ∷ list) h = elim (cases_Bool (tied x p.0)) [
  | inl t ↦ absurd (some_none (value_in x (p ∷ list)) p.1 (cond-true _ _ _ t) h)
  | inr f ↦ elim (cases_Bool (bytes_eq x p.0)) [
    | inl same ↦ absurd (two_ways (tied x p.0) (tied_same x p.0 ((bytes_eq-Decides x p.0).0 same)) f)
    | inr differ ↦ passed x p.0 (names_of list) differ ∙ none_counted x list (sym (cond-false _ _ _ f) ∙ h)
  ]
]

once_counted : (x : List ℕ) (list : Pairs) → Once list → count_by (bytes_eq x) (names_of list) ≤ 1
once_counted x [] once = omega arith
once_counted x (p ∷ list) once = elim (cases_Bool (bytes_eq x p.0)) [
  | inl same ↦
      (let none : value_in x list ≡ None = ap (λ k. value_in k list) ((bytes_eq-Decides x p.0).0 same) ∙ once.0 in
      omega (arith, met x p.0 (names_of list) same, none_counted x list none))
  | inr differ ↦ omega (arith, passed x p.0 (names_of list) differ, once_counted x list once.1)
]

lists_map : (list : Pairs) → Once list → Lists (IsField (from_entries list)) (IsField (from_entries list)) (names_of list)
lists_map list once = record {
  once = λ x. once_counted x list once;
  real = λ x c. ap is_some (map_gets list x) ∙ stands x list c;
  whole = λ x h. contained x list (ap is_some (sym (map_gets list x)) ∙ h);
}

-- ---- each field with its value

-- these are the values of the fields
abbrev pub AreValues : (List ℕ → Option (List ℕ)) → Pairs → Type 0
AreValues find_value [] = Unit {0}
AreValues find_value (p ∷ rest) = (find_value p.0 ≡ Some p.1) × AreValues find_value rest

-- they stay so behind another field
behind : (p : List ℕ × List ℕ) (rest tail : Pairs) → value_in p.0 rest ≡ None → AreValues (λ name. value_in name rest) tail → AreValues (λ name. value_in name (p ∷ rest)) tail
behind p rest [] lacks are = tt
behind p rest (q ∷ tail) lacks are = (
  elim (cases_Bool (tied q.0 p.0)) [
    | inl t ↦ absurd (some_none (value_in q.0 rest) q.1 are.0 (ap (λ k. value_in k rest) (tied_true q.0 p.0 t) ∙ lacks))
    | inr f ↦ cond-false _ _ _ f ∙ are.0
  ],
  behind p rest tail lacks are.1,
)

values_in : (list : Pairs) → Once list → AreValues (λ name. value_in name list) list
values_in [] once = tt
values_in (p ∷ rest) once = (cond-true _ _ _ (tied_same p.0 p.0 refl), behind p rest rest once.0 (values_in rest once.1))

values_alike : (f g : List ℕ → Option (List ℕ)) (list : Pairs) → ((name : List ℕ) → f name ≡ g name) → AreValues g list → AreValues f list
values_alike f g [] same are = tt
values_alike f g (p ∷ rest) same are = (same p.0 ∙ are.0, values_alike f g rest same are.1)

values_map : (list : Pairs) → Once list → AreValues (λ name. get (from_entries {R = slice_cmp nat_cmp} list) name) list
values_map list once = values_alike (λ name. get (from_entries {R = slice_cmp nat_cmp} list) name) (λ name. value_in name list) list (map_gets list) (values_in list once)

-- ---- how they are written

only_fields : (list : Pairs) → flat_map (told_of OnlyFields) list ≡ map Bulk (names_of list)
only_fields [] = refl
only_fields (p ∷ rest) = ap (λ l. Bulk p.0 ∷ l) (only_fields rest)

only_values : (fields : Fields) (list : Pairs) → AreValues (λ name. get fields name) list → flat_map (told_of OnlyValues) list ≡ map (λ name. value_or_null (get fields name)) (names_of list)
only_values fields [] are = refl
only_values fields (p ∷ rest) are = ap (λ l. Bulk p.1 ∷ l) (only_values fields rest are.1) ∙ ap (λ o. value_or_null o ∷ map (λ name. value_or_null (get fields name)) (names_of rest)) (sym are.0)

both : (fields : Fields) (list : Pairs) → AreValues (λ name. get fields name) list → flat_map (told_of Both) list ≡ flat_map (λ name. Bulk name ∷ value_or_null (get fields name) ∷ []) (names_of list)
both fields [] are = refl
both fields (p ∷ rest) are =
    ap (λ l. Bulk p.0 ∷ Bulk p.1 ∷ l) (both fields rest are.1)
    ∙ ap (λ o. Bulk p.0 ∷ value_or_null o ∷ flat_map (λ name. Bulk name ∷ value_or_null (get fields name) ∷ []) (names_of rest)) (sym are.0)

-- the head of an array and what is told behind it
pub telling_is : (told : Told) (fields : Fields) (list : Pairs) → AreValues (λ name. get fields name) list → Array (replies_of told (length list))
    ∷ flat_map (told_of told) list ≡ telling told fields (names_of list)
telling_is OnlyFields fields list are =
    ap (λ l. Array (length list) ∷ l) (only_fields list) ∙ ap (λ n. Array n ∷ map Bulk (names_of list)) (sym (length-map list (λ (p : List ℕ × List ℕ). p.0)))
telling_is OnlyValues fields list are =
    ap (λ l. Array (length list) ∷ l) (only_values fields list are)
    ∙ ap (λ n. Array n ∷ map (λ name. value_or_null (get fields name)) (names_of list)) (sym (length-map list (λ (p : List ℕ × List ℕ). p.0)))
telling_is Both fields list are =
    ap (λ l. Array (2 * length list) ∷ l) (both fields list are)
    ∙ ap (λ n. Array (2 * n) ∷ flat_map (λ name. Bulk name ∷ value_or_null (get fields name) ∷ []) (names_of list)) (sym (length-map list (λ (p : List ℕ × List ℕ). p.0)))

-- what is told are so many replies
told_are_replies : (told : Told) (list : Pairs) → AreReplies (replies_of told (length list)) (flat_map (told_of told) list)
told_are_replies OnlyFields [] = tt
told_are_replies OnlyValues [] = tt
told_are_replies Both [] = tt
told_are_replies OnlyFields (p ∷ list) = let e : length list + 0 ≡ length list = omega arith in
    subst (λ n. AreReplies n (flat_map (told_of OnlyFields) list)) (sym e) (told_are_replies OnlyFields list)
told_are_replies OnlyValues (p ∷ list) = let e : length list + 0 ≡ length list = omega arith in
    subst (λ n. AreReplies n (flat_map (told_of OnlyValues) list)) (sym e) (told_are_replies OnlyValues list)
told_are_replies Both (p ∷ list) =
    let n = 2 * length list in
    let parts = flat_map (told_of Both) list in
    let last : n + 0 ≡ n = omega arith in
    let more : suc n + 0 ≡ suc n = omega arith in
    let twice : 2 * suc (length list) ≡ suc (suc n) = omega arith in
    let behind_both : AreReplies (suc n) (Bulk p.1 ∷ parts) = subst (λ k. AreReplies k parts) (sym last) (told_are_replies Both list) in
    let from_both : AreReplies (suc (suc n)) (Bulk p.0 ∷ Bulk p.1 ∷ parts) = subst (λ k. AreReplies k (Bulk p.1 ∷ parts)) (sym more) behind_both in
    subst (λ k. AreReplies k (Bulk p.0 ∷ Bulk p.1 ∷ parts)) (sym twice) from_both

-- an array of them is one reply
pub told_is_reply : (told : Told) (list : Pairs) → IsReply (Array (replies_of told (length list)) ∷ flat_map (told_of told) list)
told_is_reply told list =
    let n = replies_of told (length list) in
    let e : 0 + n ≡ n = omega arith in
    subst (λ k. AreReplies k (flat_map (told_of told) list)) (sym e) (told_are_replies told list)

-- what stands at a place, where there is one
pub match_as : {A P R : Type 0} {Q S : A → Type 0} (o : Option A) → (P → R) → ((x : A) → Q x → S x) → MatchOption o P Q → MatchOption o R S
match_as None f g h = f h
match_as (Some x) f g h = g x h

-- one field more
pub one_more : (told : Told) (list : Pairs) (k : ℕ) (first parts new : List Part) (p : List ℕ × List ℕ) → k < length list → parts ≡ first ++ flat_map (told_of told) (take k list)
    → p ≡ get_or list k ([], [])
    → new ≡ parts ++ told_of told p → new ≡ first ++ flat_map (told_of told) (take (k + 1) list)
one_more told list k first parts new p h so_far is pushed =
    let e : take (k + 1) list ≡ take k list ++ p ∷ [] = take_more list k ([], []) h ∙ ap (λ q. take k list ++ q ∷ []) (sym is) in
    pushed ∙ ap (λ l. l ++ told_of told p) so_far ∙ flat_map_more (told_of told) first (take k list) p ∙ ap (λ l. first ++ flat_map (told_of told) l) (sym e)

-- all fields
pub all_told : (told : Told) (list : Pairs) (k : ℕ) (first parts : List Part) → length list ≤ k → parts ≡ first ++ flat_map (told_of told) (take k list) → parts ≡ first ++ flat_map (told_of told) list
all_told told list k first parts h so_far = so_far ∙ ap (λ l. first ++ flat_map (told_of told) l) (take_all k list h)

-- the head of an array, and what is told behind it
pub told_parts : (told : Told) (list : Pairs) (len count : ℕ) (first mid new : List Part) → first ≡ [] → len ≡ length list → count ≡ replies_of told len → mid ≡ first ++ Array count ∷ []
    → new ≡ mid ++ flat_map (told_of told) list
    → new ≡ Array (replies_of told (length list)) ∷ flat_map (told_of told) list
told_parts told list len count first mid new e l n f h =
    h ∙ ap (λ ps. ps ++ flat_map (told_of told) list) (f ∙ ap (λ ps. ps ++ Array count ∷ []) e) ∙ ap (λ k. Array k ∷ flat_map (told_of told) list) (n ∙ ap (replies_of told) l)

-- ---- the fields of a hash in its own order

pub tells_fields : (told : Told) (m : Blocks) (hash : object.Fields) → object_of.IsFields m hash → (reply : List Part) → reply ≡ Array (replies_of told (length (object_of.listed m hash)))
    ∷ flat_map (told_of told) (object_of.listed m hash)
    → TellsFields (telling told) (Some (object_of.fields m hash)) reply
tells_fields told m hash sound reply is =
    let a = arranged m hash sound in
    let list = object_of.listed m hash in
    let lists = subst (λ (f : Fields). Lists (IsField f) (IsField f) (names_of list)) a.listed_are (lists_map list a.once) in
    let values = subst (λ (f : Fields). AreValues (λ name. get f name) list) a.listed_are (values_map list a.once) in
    (names_of list, lists, is ∙ telling_is told (object_of.fields m hash) list values)

-- as many as are counted
once_len : (list : Pairs) → Once list → len (from_entries {R = slice_cmp nat_cmp} list) ≡ length list
once_len [] once = len-empty (slice_cmp nat_cmp) (List ℕ)
once_len (p ∷ rest) once =
    let lacks : is_some (get (from_entries {R = slice_cmp nat_cmp} rest) p.0) ≡ false = ap is_some (map_gets rest p.0 ∙ once.0) in
    let more : len (from_entries {R = slice_cmp nat_cmp} (p ∷ rest)) ≡ len (from_entries {R = slice_cmp nat_cmp} rest) + 1 =
    len-insert nat_list_cmp_total (from_entries {R = slice_cmp nat_cmp} rest) p.0 p.1 ∙ cond-false _ _ _ lacks in
    omega (arith, more, once_len rest once.1)

pub count_is : (m : Blocks) (hash : object.Fields) → object_of.IsFields m hash → (count : ℕ) → count ≡ len (object_of.fields m hash) → count ≡ length (object_of.listed m hash)
count_is m hash sound count is = let a = arranged m hash sound in is ∙ ap len (sym a.listed_are) ∙ once_len (object_of.listed m hash) a.once

-- ---- what may be told of what stands at a key

-- where nothing stands, an empty hash is told
pub none_told : {E : Type 0} (told : Told) (old : World) (key : List ℕ) (fields : Fields) (result : Result (List Part) E) → look old key ≡ None → fields ≡ empty
    → IfOk result (λ reply. TellsFields (telling told) (Some fields) reply)
    → IfOk result (λ reply. may_tell hash_in old (look old key) (TellsFields (telling told)) reply old)
none_told told old key fields (Ok reply) none is tells =
    let all : TellsFields (telling told) None reply = subst (λ (f : Fields). TellsFields (telling told) (Some f) reply) is tells in
    subst (λ (o : Option Entry). may_tell hash_in old o (TellsFields (telling told)) reply old) (sym none) (all, refl)
none_told told old key fields (Err x) none is tells = tt

pub hash_told : {E : Type 0} (told : Told) (old : World) (m : Blocks) (key : List ℕ) (hash : object.Fields) (result : Result (List Part) E) → FoundHash old m key hash
    → IfOk result (λ reply. TellsFields (telling told) (Some (object_of.fields m hash)) reply)
    → IfOk result (λ reply. may_tell hash_in old (look old key) (TellsFields (telling told)) reply old)
hash_told told old m key hash (Ok reply) found tells = subst (λ (o : Option Entry). may_tell hash_in old o (TellsFields (telling told)) reply old) (sym found.stands) (tells, refl)
hash_told told old m key hash (Err x) found tells = tt

pub other_told : {E : Type 0} (told : Told) (old : World) (key : List ℕ) (result : Result (List Part) E) → FoundOther old key → IfOk result (λ reply. reply ≡ Refused WrongType ∷ [])
    → IfOk result (λ reply. may_tell hash_in old (look old key) (TellsFields (telling told)) reply old)
other_told told old key (Ok reply) found is =
    subst (λ (o : Option Entry). may_tell hash_in old o (TellsFields (telling told)) reply old) (sym found.stands)
    (subst (λ (o : Option Fields). may_tell_of old o (TellsFields (telling told)) reply old) (sym found.other) (is, refl))
other_told told old key (Err x) found is = tt
