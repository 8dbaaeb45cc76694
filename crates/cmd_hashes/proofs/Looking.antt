-- What is found at a key, and what commands on hashes give of it.
use Rattle.std.proofs.Common.{◌≡◌, refl, Bool, true, false, ℕ, List, [], ◌∷◌, Option, Some, None, Result, Ok, Err, IfOk, sym, ap, subst, ◌∙◌, ◌+◌, ◌++◌, length, arith}
use Rattle.std.specs.Ordering.{nat_cmp}
use Rattle.std.specs.Cmp.Lexicographic.{slice_cmp}
use Rattle.std.specs.FinMap.{get, empty, len, get-empty, len-empty}
use Rattle.blocks.specs.Blocks.{Blocks}
use Rattle.std.specs.Prelude.{MatchOption}
use Rattle.listpack.specs.declared.encoding.Element.{Element}
use Rattle.listpack.specs.Element.{element_text}
use Rattle.hash_object.specs.Fields as object
use Rattle.hash_object.specs.declared.fields.Fields as kept
use Rattle.plain_world.specs.Worlds.{World, look}
use Rattle.plain_world.specs.Parts.{AreReplies, IsReply, following}
use Rattle.plain_model.specs.Outcomes.{Outcome, leaves, tells}
use Rattle.plain_model.specs.OfType.{hash_in, of_type, on_type}
use Rattle.plain_model.specs.HashSteps.{Fields, on_hash, tell_hash, or_no_fields, value_or_null}
use Rattle.plain_model.specs.declared.ctx.Ctx.{Ctx}
use Rattle.plain_world.specs.declared.refusal.Refusal.TheVariants.{WrongType}
use Rattle.plain_world.specs.declared.reply.Part.{Part}
use Rattle.plain_world.specs.declared.reply.Part.TheVariants.{Refused, Array}
use Rattle.keyspace.specs.declared.value.Value.{Value}
use Rattle.keyspace.specs.declared.value.Value.TheVariants as kinds
use Rattle.keyspace.specs.Values.{value_of}
use Rattle.keyspace.specs.Databases.{Bases}
use Rattle.keyspace.specs.Calls.{Found}
use Rattle.keyspace.specs.Commands.{seen}
use Rattle.cmd_hashes.specs.Found.{FoundHash, FoundOther, text_of, values_of}

-- whatever would be made of a hash, a value of another type is refused
pub refused_other : {E : Type 0} (old : World) (key : List ℕ) (answer : Option Fields → Outcome) (result : Result (List Part) E) → FoundOther old key
    → IfOk result (λ reply. reply ≡ Refused WrongType ∷ [])
    → IfOk result (λ reply. on_hash old key answer ≡ leaves reply old)
refused_other old key answer (Ok reply) found is =
    ap (λ o. on_type hash_in old o answer) found.stands ∙ ap (λ o. of_type old o answer) found.other ∙ ap (λ r. leaves r old) (sym is)
refused_other old key answer (Err x) found is = tt

-- what is told where nothing stands
pub told_none : {E : Type 0} (old : World) (key : List ℕ) (told : Fields → List Part) (parts : List Part) (result : Result (List Part) E) → look old key ≡ None → told empty ≡ parts
    → IfOk result (λ reply. reply ≡ parts)
    → IfOk result (λ reply. tell_hash old key told ≡ leaves reply old)
told_none old key told parts (Ok reply) none same is = ap (λ o. on_type hash_in old o (λ before. tells (told (or_no_fields before)) old)) none ∙ ap (λ r. leaves r old) (same ∙ sym is)
told_none old key told parts (Err x) none same is = tt

-- a hash without a field has no value
pub no_value : (field : List ℕ) → get (empty {X = List ℕ} {R = slice_cmp nat_cmp}) field ≡ None
no_value field = get-empty (slice_cmp nat_cmp) field

pub no_field : len (empty {X = List ℕ} {R = slice_cmp nat_cmp}) ≡ 0
no_field = len-empty (slice_cmp nat_cmp) (List ℕ)

-- what is told of a hash that was found
pub told_hash : {E : Type 0} (old : World) (blocks : Blocks) (key : List ℕ) (hash : kept.Fields) (told : Fields → List Part) (result : Result (List Part) E) → FoundHash old blocks key hash
    → IfOk result (λ reply. reply ≡ told (object.fields blocks hash)) → IfOk result (λ reply. tell_hash old key told ≡ leaves reply old)
told_hash old blocks key hash told (Ok reply) found is =
    ap (λ o. on_type hash_in old o (λ before. tells (told (or_no_fields before)) old)) found.stands ∙ ap (λ r. leaves r old) (sym is)
told_hash old blocks key hash told (Err x) found is = tt

-- whether a value is a hash
abbrev pub is_hash : Value → Bool
is_hash (kinds.Hash b) = true
is_hash other = false

-- a value that is no hash means none
no_hash : (m : Blocks) (value : Value) → is_hash value ≡ false → hash_in (value_of m value) ≡ None
no_hash m (kinds.Text text) is = refl
no_hash m (kinds.List b) is = refl
no_hash m (kinds.Set b) is = refl
no_hash m (kinds.Hash b) is = cc
no_hash m (kinds.Zset b) is = refl
no_hash m (kinds.Stream b) is = refl

pub found_other : (bases : Bases) (m : Blocks) (at : Ctx) (key : List ℕ) (value : Value) → is_hash value ≡ false → Found bases m at.db key at.moment value → FoundOther (seen at bases m) key
found_other bases m at key value other found = record { entry = record { value = value_of m value; deadline = found.deadline }; stands = found.stands; other = no_hash m value other }

-- no part follows a value or null
none_follows : (o : Option (List ℕ)) (n : ℕ) → n + following (value_or_null o) ≡ n
none_follows None n = omega arith
none_follows (Some value) n = omega arith

-- values are so many replies
values_are_replies : (fields : Fields) (others : List (List ℕ)) → AreReplies (length others) (values_of fields others)
values_are_replies fields [] = tt
values_are_replies fields (other ∷ others) = subst (λ n. AreReplies n (values_of fields others)) (sym (none_follows (get fields other) (length others))) (values_are_replies fields others)

values_are_one : (fields : Fields) (others : List (List ℕ)) → IsReply (Array (length others) ∷ values_of fields others)
values_are_one fields others = let e : 0 + length others ≡ length others = omega arith in subst (λ n. AreReplies n (values_of fields others)) (sym e) (values_are_replies fields others)

-- the head of an array and the values behind it
pub values_parts : (fields : Fields) (others : List (List ℕ)) (first mid new : List Part) → first ≡ [] → mid ≡ first ++ Array (length others) ∷ [] → new ≡ mid ++ values_of fields others
    → new ≡ Array (length others) ∷ values_of fields others
values_parts fields others first mid new e f h = h ∙ ap (λ l. l ++ values_of fields others) (f ∙ ap (λ l. l ++ Array (length others) ∷ []) e)

pub values_reply : (fields : Fields) (others : List (List ℕ)) (first mid new : List Part) → first ≡ [] → mid ≡ first ++ Array (length others) ∷ [] → new ≡ mid ++ values_of fields others → IsReply new
values_reply fields others first mid new e f h = subst IsReply (sym (values_parts fields others first mid new e f h)) (values_are_one fields others)

-- what a hash answered of a field is its value
pub match_text : (value : Option (List ℕ)) (o : Option Element) → MatchOption o (value ≡ None) (λ element. value ≡ Some (element_text element)) → value ≡ text_of o
match_text value None h = h
match_text value (Some element) h = h
