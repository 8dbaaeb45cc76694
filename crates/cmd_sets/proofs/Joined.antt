-- Joins of the sets at keys.
use Rattle.std.proofs.Common.{◌≡◌, ◌<◌, ℕ, zero, suc, Bool, true, false, not, List, [], ◌∷◌, length, get_or, Option, None, Some, is_some, Result, Ok, Err, IfOk, pos, refl, sym, ap, subst, ◌∙◌, arith}
use Rattle.std.specs.Prelude.{◌&&◌, ◌||◌}
use Rattle.std.specs.FinMap.{empty, len}
use Rattle.std.proofs.lemmas.Bool.{and_parts}
use Rattle.blocks.specs.Blocks.{Blocks}
use Rattle.set_object.specs.declared.members.Members as object
use Rattle.set_object.specs.Members as object_of
use Rattle.set_object.specs.Strings.{set_of, IsOnce}
use Rattle.set_object.proofs.Listed.{arranged}
use Rattle.set_object.proofs.Sets.{set_nil, has_empty, once_nil}
use Rattle.plain_world.specs.Worlds.{World, Entry, look}
use Rattle.plain_world.specs.declared.refusal.Refusal.TheVariants.{WrongType}
use Rattle.plain_world.specs.declared.reply.Part.{Part}
use Rattle.plain_world.specs.declared.reply.Part.TheVariants.{Refused, Number}
use Rattle.plain_model.specs.OfType.{set_in, source, with_source, or_no_sources, may_tell_of, may_do_of}
use Rattle.plain_model.specs.SetSteps.{Members, AreMembers, or_no_members, has, in_any, in_all, is_joined, IsJoin, sets_at, store_set, TellsJoin, CountsJoin, StoresJoin, may_sets}
use Rattle.plain_model.specs.declared.set_command.SetCommand.TheVariants as sets
use Rattle.plain_model.specs.declared.set_command.SetJoin.{SetJoin}
use Rattle.plain_model.specs.declared.set_command.SetJoin.TheVariants.{Inter, Union, Diff}
use Rattle.keyspace.specs.Forms.{set_at}
use Rattle.keyspace.specs.declared.value.Value.{Value}
use Rattle.keyspace.specs.Databases.{Bases}
use Rattle.keyspace.specs.Forms as forms
use Rattle.cmd_sets.specs.Found.{FoundSet, FoundOther}
use Rattle.cmd_sets.specs.Joined.{sets_here, IsCounted}
use Rattle.cmd_sets.proofs.Gathered.{or_false, and_not_false}

-- ---- the sets at keys

-- what stands at a key is the set that it gives to a join
source_is : (entry : Option Entry) → is_some (source set_in empty entry) ≡ true → source set_in empty entry ≡ Some (forms.set_of entry)
source_is None there = refl
source_is (Some entry) there = known (set_in entry.value) there
  where
    known : (o : Option Members) → is_some o ≡ true → o ≡ Some (or_no_members o)
    known None h = cc
    known (Some m) h = refl

both : (a : Option Members) (b : Option (List Members)) → is_some (with_source a b) ≡ (is_some a && is_some b)
both None None = refl
both None (Some b) = refl
both (Some a) None = refl
both (Some a) (Some b) = refl

pub sets_are : (world : World) (keys : List (List ℕ)) → is_some (sets_at world keys) ≡ true → sets_at world keys ≡ Some (sets_here world keys)
sets_are world [] there = refl
sets_are world (key ∷ keys) there =
    let parts = and_parts (is_some (source set_in empty (look world key))) (is_some (sets_at world keys)) (sym (both (source set_in empty (look world key)) (sets_at world keys)) ∙ there) in
    ap (λ (o : Option Members). with_source o (sets_at world keys)) (source_is (look world key) parts.0) ∙ ap (with_source (Some (set_at world key))) (sets_are world keys parts.1)

-- a key without a value, or with a set, leaves it to the others
set_passes : (world : World) (key : List ℕ) (keys : List (List ℕ)) → is_some (source set_in empty (look world key)) ≡ true → is_some (sets_at world keys) ≡ is_some (sets_at world (key ∷ keys))
set_passes world key keys there = sym (both (source set_in empty (look world key)) (sets_at world keys) ∙ ap (λ b. b && is_some (sets_at world keys)) there)

pub missing_passes : (world : World) (key : List ℕ) (keys : List (List ℕ)) → look world key ≡ None → is_some (sets_at world keys) ≡ is_some (sets_at world (key ∷ keys))
missing_passes world key keys none = set_passes world key keys (ap (λ (o : Option Entry). is_some (source set_in empty o)) none)

pub found_passes : (world : World) (m : Blocks) (key : List ℕ) (keys : List (List ℕ)) (set : object.Members) → FoundSet world m key set
    → is_some (sets_at world keys) ≡ is_some (sets_at world (key ∷ keys))
found_passes world m key keys set found = set_passes world key keys (ap (λ (o : Option Entry). is_some (source set_in empty o)) found.stands)

pub other_stops : (world : World) (key : List ℕ) (keys : List (List ℕ)) → FoundOther world key → is_some (sets_at world (key ∷ keys)) ≡ false
other_stops world key keys found =
    both (source set_in empty (look world key)) (sets_at world keys)
    ∙ ap (λ b. b && is_some (sets_at world keys)) (ap (λ (o : Option Entry). is_some (source set_in empty o)) found.stands ∙ ap is_some found.other)

-- the set at a key
pub missing_at : (world : World) (key : List ℕ) → look world key ≡ None → set_at world key ≡ empty
missing_at world key none = ap forms.set_of none

pub other_at : (world : World) (key : List ℕ) → FoundOther world key → set_at world key ≡ empty
other_at world key found = ap forms.set_of found.stands ∙ ap or_no_members found.other

pub found_at : (world : World) (m : Blocks) (key : List ℕ) (set : object.Members) → FoundSet world m key set → set_at world key ≡ object_of.members m set
found_at world m key set found = ap forms.set_of found.stands

-- its names
pub no_names : (set : Members) (names : List (List ℕ)) → set ≡ empty → names ≡ [] → set_of names ≡ set
no_names set names is none = ap set_of none ∙ set_nil ∙ sym is

pub all_names : (world : World) (m : Blocks) (key : List ℕ) (set : object.Members) (names : List (List ℕ)) → FoundSet world m key set → names ≡ object_of.listed m set → set_of names ≡ set_at world key
all_names world m key set names found is = ap set_of is ∙ (arranged m set found.sound).listed_are ∙ sym (found_at world m key set found)

pub no_once : (names : List (List ℕ)) → names ≡ [] → IsOnce names
no_once names none = subst IsOnce (sym none) once_nil

pub has_none : (q : List ℕ) (names : List (List ℕ)) → names ≡ [] → has (set_of names) q ≡ false
has_none q names none = ap (λ (l : List (List ℕ)). has (set_of l) q) none ∙ ap (λ (s : Members). has s q) set_nil ∙ has_empty q

-- ---- one key more

pub more_any : (a b r : Bool) → ((a || b) || r) ≡ (a || (b || r))
more_any true b r = refl
more_any false b r = refl

pub more_none : (a b r : Bool) → ((a && not b) && not r) ≡ (a && not (b || r))
more_none true true r = refl
more_none true false r = refl
more_none false b r = refl

-- ---- joins

pub union_is : (own : List Members) (m : Members) → ((q : List ℕ) → has m q ≡ in_any own q) → IsJoin Union own m
union_is [] m h q = h q
union_is (set ∷ own) m h q = h q

-- the sets have what all of them have
pub each_has : (world : World) (keys : List (List ℕ)) (i : ℕ) (key q : List ℕ) → i < length keys → key ≡ get_or keys i key → in_all (sets_here world keys) q ≡ true → has (set_at world key) q ≡ true
each_has world [] i key q inside is all = absurd (omega (arith, inside))
each_has world (k ∷ keys) zero key q inside is all = ap (λ x. has (set_at world x) q) is ∙ (and_parts (has (set_at world k) q) (in_all (sets_here world keys) q) all).0
each_has world (k ∷ keys) (suc i) key q inside is all = each_has world keys i key q (omega (arith, inside)) is (and_parts (has (set_at world k) q) (in_all (sets_here world keys) q) all).1

pub within : (a b : Bool) → (b ≡ true → a ≡ true) → (a && b) ≡ b
within true true so = refl
within true false so = refl
within false true so = let e : false ≡ true = so refl in cc
within false false so = refl

pub inter_is : (world : World) (keys : List (List ℕ)) (i : ℕ) (key : List ℕ) (names m : Members) → i < length keys → key ≡ get_or keys i key → names ≡ set_at world key
    → ((q : List ℕ) → has m q ≡ (has names q && in_all (sets_here world keys) q)) → IsJoin Inter (sets_here world keys) m
inter_is world [] i key names m inside is same h q = absurd (omega (arith, inside))
inter_is world (k ∷ keys) i key names m inside is same h q =
    h q ∙ within (has names q) (in_all (sets_here world (k ∷ keys)) q) (λ all. ap (λ (s : Members). has s q) same ∙ each_has world (k ∷ keys) i key q inside is all)

pub inter_of : (world : World) (keys : List (List ℕ)) (m : Members) → 0 < length keys → ((q : List ℕ) → has m q ≡ in_all (sets_here world keys) q) → IsJoin Inter (sets_here world keys) m
inter_of world [] m some h = absurd (omega (arith, some))
inter_of world (k ∷ keys) m some h = λ q. h q

pub none_join : (how : SetJoin) (m : Members) → ((q : List ℕ) → has m q ≡ false) → IsJoin how [] m
none_join how m h q = h q

pub diff_is : (set : Members) (own : List Members) (m : Members) → ((q : List ℕ) → has m q ≡ (has set q && not (in_any own q))) → IsJoin Diff (set ∷ own) m
diff_is set own m h q = h q

-- ---- what is answered

none_of : {A : Type 0} (o : Option A) → is_some o ≡ false → o ≡ None
none_of None h = refl
none_of (Some x) h = cc

tells_join : (how : SetJoin) (own : List Members) (joined : Members) (reply : List Part) → IsJoin how own joined → AreMembers (Some joined) reply → TellsJoin how (Some own) reply
tells_join how own joined reply is told = (
  told.0,
  record {
    once = told.1.once;
    real = λ x c. sym (is x) ∙ told.1.real x c;
    whole = λ x h. told.1.whole x (is x ∙ h);
  },
  told.2,
)

pub join_told : {E : Type 0} (seed : ℕ) (old : World) (how : SetJoin) (keys : List (List ℕ)) (joined : Members) (result : Result (List Part) E) → is_some (sets_at old keys) ≡ true
    → IsJoin how (sets_here old keys) joined → IfOk result (λ reply. AreMembers (Some joined) reply)
    → IfOk result (λ reply. may_sets seed old (sets.SJoin how keys) reply old)
join_told seed old how keys joined (Ok reply) there is told =
    subst (λ (o : Option (List Members)). may_tell_of old o (TellsJoin how) reply old) (sym (sets_are old keys there)) (tells_join how (sets_here old keys) joined reply is told, refl)
join_told seed old how keys joined (Err x) there is told = tt

pub join_refused : {E : Type 0} (seed : ℕ) (old : World) (how : SetJoin) (keys : List (List ℕ)) (result : Result (List Part) E) → is_some (sets_at old keys) ≡ false
    → IfOk result (λ reply. reply ≡ Refused WrongType ∷ [])
    → IfOk result (λ reply. may_sets seed old (sets.SJoin how keys) reply old)
join_refused seed old how keys (Ok reply) other is = subst (λ (o : Option (List Members)). may_tell_of old o (TellsJoin how) reply old) (sym (none_of (sets_at old keys) other)) (is, refl)
join_refused seed old how keys (Err x) other is = tt

pub count_told : {E : Type 0} (seed : ℕ) (old : World) (keys : List (List ℕ)) (limit n : ℕ) (result : Result (List Part) E) → is_some (sets_at old keys) ≡ true → IsCounted limit (sets_here old keys) n
    → IfOk result (λ reply. reply ≡ Number (pos n) ∷ []) → IfOk result (λ reply. may_sets seed old (sets.SInterCard keys limit) reply old)
count_told seed old keys limit n (Ok reply) there counted told =
    subst (λ (o : Option (List Members)). may_tell_of old o (CountsJoin limit) reply old) (sym (sets_are old keys there)) ((counted.0, counted.1, told ∙ ap (λ k. Number (pos k) ∷ []) counted.2), refl)
count_told seed old keys limit n (Err x) there counted told = tt

pub count_refused : {E : Type 0} (seed : ℕ) (old : World) (keys : List (List ℕ)) (limit : ℕ) (result : Result (List Part) E) → is_some (sets_at old keys) ≡ false
    → IfOk result (λ reply. reply ≡ Refused WrongType ∷ [])
    → IfOk result (λ reply. may_sets seed old (sets.SInterCard keys limit) reply old)
count_refused seed old keys limit (Ok reply) other is = subst (λ (o : Option (List Members)). may_tell_of old o (CountsJoin limit) reply old) (sym (none_of (sets_at old keys) other)) (is, refl)
count_refused seed old keys limit (Err x) other is = tt

pub stored_told : {E : Type 0} (seed : ℕ) (old new : World) (how : SetJoin) (to : List ℕ) (keys : List (List ℕ)) (n : ℕ) (joined : Members) (result : Result (List Part) E)
    → is_some (sets_at old keys) ≡ true → IsJoin how (sets_here old keys) joined
    → n ≡ len joined → new ≡ store_set old to joined → IfOk result (λ reply. reply ≡ Number (pos n) ∷ []) → IfOk result (λ reply. may_sets seed old (sets.SJoinStore how to keys) reply new)
stored_told seed old new how to keys n joined (Ok reply) there is counted world told =
    subst (λ (o : Option (List Members)). may_do_of old o (StoresJoin old to how) reply new) (sym (sets_are old keys there)) (joined, is, (told ∙ ap (λ k. Number (pos k) ∷ []) counted, world))
stored_told seed old new how to keys n joined (Err x) there is counted world told = tt

pub stored_refused : {E : Type 0} (seed : ℕ) (old : World) (how : SetJoin) (to : List ℕ) (keys : List (List ℕ)) (result : Result (List Part) E) → is_some (sets_at old keys) ≡ false
    → IfOk result (λ reply. reply ≡ Refused WrongType ∷ [])
    → IfOk result (λ reply. may_sets seed old (sets.SJoinStore how to keys) reply old)
stored_refused seed old how to keys (Ok reply) other is = subst (λ (o : Option (List Members)). may_do_of old o (StoresJoin old to how) reply old) (sym (none_of (sets_at old keys) other)) (is, refl)
stored_refused seed old how to keys (Err x) other is = tt

-- ---- steps over keys

pub added_key : (world : World) (list others : List (List ℕ)) (key : List ℕ) (old new set : Members) → list ≡ key ∷ others → set ≡ set_at world key
    → ((q : List ℕ) → has new q ≡ (has old q || has set q))
    → (q : List ℕ) → (has new q || in_any (sets_here world others) q) ≡ (has old q || in_any (sets_here world list) q)
added_key world list others key old new set is same h q =
    ap (λ b. b || in_any (sets_here world others) q) (h q ∙ ap (λ (s : Members). has old q || has s q) same)
    ∙ more_any (has old q) (has (set_at world key) q) (in_any (sets_here world others) q)
    ∙ ap (λ (l : List (List ℕ)). has old q || in_any (sets_here world l) q) (sym is)

pub added_keys : (world : World) (list : List (List ℕ)) (all : Members) → list ≡ [] → (q : List ℕ) → has all q ≡ (has all q || in_any (sets_here world list) q)
added_keys world list all none q = sym (ap (λ (l : List (List ℕ)). has all q || in_any (sets_here world l) q) none ∙ or_false (has all q))

pub dropped_key : (world : World) (list others : List (List ℕ)) (key : List ℕ) (old new set : Members) → list ≡ key ∷ others → set ≡ set_at world key
    → ((q : List ℕ) → has new q ≡ (has old q && not (has set q)))
    → (q : List ℕ) → (has new q && not (in_any (sets_here world others) q)) ≡ (has old q && not (in_any (sets_here world list) q))
dropped_key world list others key old new set is same h q =
    ap (λ b. b && not (in_any (sets_here world others) q)) (h q ∙ ap (λ (s : Members). has old q && not (has s q)) same)
    ∙ more_none (has old q) (has (set_at world key) q) (in_any (sets_here world others) q)
    ∙ ap (λ (l : List (List ℕ)). has old q && not (in_any (sets_here world l) q)) (sym is)

pub dropped_keys : (world : World) (list : List (List ℕ)) (all : Members) → list ≡ [] → (q : List ℕ) → has all q ≡ (has all q && not (in_any (sets_here world list) q))
dropped_keys world list all none q = sym (ap (λ (l : List (List ℕ)). has all q && not (in_any (sets_here world l) q)) none ∙ and_not_false (has all q))

-- the set at a key has a member, or lacks it
pub here : (world : World) (list others : List (List ℕ)) (key q : List ℕ) → list ≡ key ∷ others → has (set_at world key) q ≡ true → in_all (sets_here world others) q ≡ in_all (sets_here world list) q
here world list others key q is h = sym (ap (λ (l : List (List ℕ)). in_all (sets_here world l) q) is ∙ ap (λ b. b && in_all (sets_here world others) q) h)

pub lacking : (world : World) (list others : List (List ℕ)) (key q : List ℕ) → list ≡ key ∷ others → has (set_at world key) q ≡ false → in_all (sets_here world list) q ≡ false
lacking world list others key q is h = ap (λ (l : List (List ℕ)). in_all (sets_here world l) q) is ∙ ap (λ b. b && in_all (sets_here world others) q) h

pub missing_lacks : (world : World) (key q : List ℕ) → look world key ≡ None → has (set_at world key) q ≡ false
missing_lacks world key q none = ap (λ (s : Members). has s q) (missing_at world key none) ∙ has_empty q

pub other_lacks : (world : World) (key q : List ℕ) → FoundOther world key → has (set_at world key) q ≡ false
other_lacks world key q found = ap (λ (s : Members). has s q) (other_at world key found) ∙ has_empty q

pub found_has : (world : World) (m : Blocks) (key q : List ℕ) (set : object.Members) → FoundSet world m key set → has (set_at world key) q ≡ has (object_of.members m set) q
found_has world m key q set found = ap (λ (s : Members). has s q) (found_at world m key set found)

-- ---- which join it is

pub none_joined : (how : SetJoin) (world : World) (keys : List (List ℕ)) (m : Members) → length keys ≡ 0 → ((q : List ℕ) → has m q ≡ false) → IsJoin how (sets_here world keys) m
none_joined how world [] m none h = none_join how m h
none_joined how world (k ∷ keys) m none h = absurd (omega (arith, none))

pub diff_of : (world : World) (keys others : List (List ℕ)) (key : List ℕ) (names m : Members) → keys ≡ key ∷ others → names ≡ set_at world key
    → ((q : List ℕ) → has m q ≡ (has names q && not (in_any (sets_here world others) q)))
    → IsJoin Diff (sets_here world keys) m
diff_of world keys others key names m is same h =
    subst (λ (l : List (List ℕ)). IsJoin Diff (sets_here world l) m) (sym is)
    (diff_is (set_at world key) (sets_here world others) m (λ q. h q ∙ ap (λ (s : Members). has s q && not (in_any (sets_here world others) q)) same))

-- a set that has just the members of a join is encoded as one
pub stored_form : (world : World) (how : SetJoin) (keys : List (List ℕ)) (joined : Members) (old : Bases) (value : Value) → is_some (sets_at world keys) ≡ true
    → IsJoin how (sets_here world keys) joined → forms.IsNewSet (has joined) old value
    → forms.IsNewSet (is_joined how (or_no_sources (sets_at world keys))) old value
stored_form world how keys joined old value there is n = record {
  members = n.members;
  form = n.form;
  all = λ q. n.all q ∙ is q ∙ ap (λ (o : Option (List Members)). is_joined how (or_no_sources o) q) (sym (sets_are world keys there));
  is = n.is;
  least = n.least;
}
