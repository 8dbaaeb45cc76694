-- A stream whose groups became others, and what is told of it.
use Rattle.std.proofs.Common.{◌≡◌, Bool, true, false, ℕ, List, [], ◌∷◌, Option, None, Some, is_some, Result, Ok, Err, IfOk, sym, ap, subst, ◌∙◌}
use Rattle.std.specs.Prelude.{pos}
use Rattle.std.specs.FinMap.{contains_key}
use Rattle.std.specs.FinMap as finite
use Rattle.std.proofs.lemmas.Bool.{cond-true, cond-false}
use Rattle.blocks.specs.Blocks.{Blocks, Changes}
use Rattle.stream_groups.specs.Groups.{Id, Groups, created, name_cmp}
use Rattle.stream_object.specs.Streams.{IsStream, refs, stream_of}
use Rattle.stream_object.specs.declared.stream.Stream.{Stream as Log}
use Rattle.plain_world.specs.Streams.{Stream}
use Rattle.plain_world.specs.Worlds.{World, look}
use Rattle.plain_world.specs.declared.refusal.Refusal.{Refusal}
use Rattle.plain_world.specs.declared.refusal.Refusal.TheVariants.{NoSuchKey, GroupExists}
use Rattle.plain_world.specs.declared.reply.Part.{Part}
use Rattle.plain_world.specs.declared.reply.Part.TheVariants.{Number, Refused}
use Rattle.plain_model.specs.Outcomes.{Outcome, IsRefusal, leaves, refused}
use Rattle.plain_model.specs.StringSteps.{ok}
use Rattle.plain_model.specs.StreamSteps.{from_id, keep_stream, on_stream, or_no_stream}
use Rattle.plain_model.specs.GroupSteps.{create, create_in, destroy, regrouped}
use Rattle.keyspace.specs.Databases.{Keyspace}
use Rattle.keyspace.specs.Scopes.{Scope}
use Rattle.keyspace.specs.Commands.{KeepsTo, KeepsOrRefuses}
use Rattle.keyspace.proofs.Running.{calm}
use Rattle.cmd_streams.specs.Changed.{HasStream, IsBefore}
use Rattle.cmd_streams.specs.Found.{FoundStream}
use Rattle.cmd_streams.proofs.Gone.{on_before, same_before}
use Rattle.cmd_streams.proofs.Rests.{same_changes}

-- ---- in place

-- other groups leave a stream sound
pub regrouped_sound : (m : Blocks) (old new : Log) (others : Groups) → IsStream m old → new ≡ record old { groups = others } → IsStream m new
regrouped_sound m old new others sound is = subst (IsStream m) (sym is) (record { parts = sound.parts; counted = sound.counted; fits = sound.fits; upto = sound.upto; kept = sound.kept })

-- and change no block
pub regrouped_changes : (m : Blocks) (old new : Log) (others : Groups) → IsStream m old → new ≡ record old { groups = others } → Changes m m (refs m old) (refs m new)
regrouped_changes m old new others sound is = subst (λ (s : Log). Changes m m (refs m old) (refs m s)) (sym is) (same_changes m old sound)

pub regrouped_is : (m : Blocks) (old new : Log) (others : Groups) → new ≡ record old { groups = others } → stream_of m new ≡ regrouped (stream_of m old) others
regrouped_is m old new others is = ap (stream_of m) is

-- ---- what was found

pub has_found : (world : World) (m : Blocks) (key : List ℕ) (stream : Log) → FoundStream world m key stream → HasStream world key (stream_of m stream)
has_found world m key stream found = record { deadline = found.deadline; stands = found.stands }

-- whatever stands there is the stream that was found
pub found_is : (world : World) (m : Blocks) (key : List ℕ) (stream : Log) → FoundStream world m key stream → (before : Option Stream) → IsBefore world key before
    → or_no_stream before ≡ stream_of m stream
found_is world m key stream found before is = ap or_no_stream (same_before world key before (Some (stream_of m stream)) is (has_found world m key stream found))

-- a refusal is told
pub told_refused : {X : Type 0} (old : World) (outcome : Outcome) (refusal : Refusal) → outcome ≡ refused refusal old → (result : Result (List Part) X)
    → IfOk result (λ reply. reply ≡ Refused refusal ∷ []) → IfOk result (λ reply. outcome ≡ leaves reply old)
told_refused old outcome refusal is (Ok reply) told = is ∙ ap (λ r. leaves r old) (sym told)
told_refused old outcome refusal is (Err x) told = tt

-- a reply is told, and the world that it leaves
pub told_reply : {X : Type 0} (new : World) (outcome : Outcome) (parts : List Part) → outcome ≡ leaves parts new → (result : Result (List Part) X) → IfOk result (λ reply. reply ≡ parts)
    → IfOk result (λ reply. outcome ≡ leaves reply new)
told_reply new outcome parts is (Ok reply) told = is ∙ ap (λ r. leaves r new) (sym told)
told_reply new outcome parts is (Err x) told = tt

-- ---- groups that are made

-- no stream has no group
pub none_free : (world : World) (key name : List ℕ) → look world key ≡ None → (before : Option Stream) → IsBefore world key before → contains_key (or_no_stream before).groups name ≡ false
none_free world key name none before is = subst (λ o. contains_key (or_no_stream o).groups name ≡ false) (same_before world key None before none is) (ap is_some (finite.get-empty name_cmp name))

pub found_free : (world : World) (m : Blocks) (key name : List ℕ) (stream : Log) → FoundStream world m key stream → contains_key stream.groups name ≡ false → (before : Option Stream)
    → IsBefore world key before → contains_key (or_no_stream before).groups name ≡ false
found_free world m key name stream found free before is = ap (λ (s : Stream). contains_key s.groups name) (found_is world m key stream found before is) ∙ free

-- a group is made, and OK is told
pub made_told : {X : Type 0} (old new : World) (key name : List ℕ) (id : Option Id) (was : Option Stream) (now : Stream) → IsBefore old key was
    → contains_key (or_no_stream was).groups name ≡ false → now ≡ regrouped (or_no_stream was) (created (or_no_stream was).groups name (from_id (or_no_stream was) id))
    → new ≡ keep_stream old key now
    → (result : Result (List Part) X) → IfOk result (λ reply. reply ≡ ok ∷ [])
    → IfOk result (λ reply. (before : Option Stream) → IsBefore old key before → create_in old key name id (or_no_stream before) ≡ leaves reply new)
made_told old new key name id was now stands free made world (Err x) told = tt
made_told old new key name id was now stands free made world (Ok reply) told = λ before is.
    ap (λ o. create_in old key name id (or_no_stream o)) (same_before old key before was is stands)
    ∙ cond-false _ _ _ free
    ∙ ap (λ (s : Stream). leaves (ok ∷ []) (keep_stream old key s)) (sym made)
    ∙ ap (leaves (ok ∷ [])) (sym world)
    ∙ ap (λ r. leaves r new) (sym told)

-- OK is no refusal
pub ok_calm : {S X : Type 0} (blocks : S → Blocks) (step : S → S → Type 0) (scope : Scope) (old new : Keyspace S) (result : Result (List Part) X) → IfOk result (λ reply. reply ≡ ok ∷ [])
    → KeepsTo blocks step scope old new → KeepsOrRefuses blocks step scope old new result
ok_calm blocks step scope old new (Err x) told held = calm blocks step scope old new (Err x) tt held
ok_calm blocks step scope old new (Ok reply) told held = calm blocks step scope old new (Ok reply) (λ refused. subst IsRefusal told refused) held

-- a group of a new stream
pub new_made : {X : Type 0} (old new : World) (key name : List ℕ) (id : Option Id) (make : Bool) → make ≡ true → look old key ≡ None → (result : Result (List Part) X)
    → IfOk result (λ reply. (before : Option Stream) → IsBefore old key before → create_in old key name id (or_no_stream before) ≡ leaves reply new)
    → IfOk result (λ reply. on_stream old key (create old key name id make) ≡ leaves reply new)
new_made old new key name id make may none (Err x) gives = tt
new_made old new key name id make may none (Ok reply) gives = on_before old key None (create old key name id make) none ∙ cond-true _ _ _ may ∙ gives None none

-- or of the one that was found
pub group_made : {X : Type 0} (old new : World) (m : Blocks) (key name : List ℕ) (id : Option Id) (make : Bool) (stream : Log) → FoundStream old m key stream
    → (result : Result (List Part) X) → IfOk result (λ reply. (before : Option Stream) → IsBefore old key before → create_in old key name id (or_no_stream before) ≡ leaves reply new)
    → IfOk result (λ reply. on_stream old key (create old key name id make) ≡ leaves reply new)
group_made old new m key name id make stream found (Err x) gives = tt
group_made old new m key name id make stream found (Ok reply) gives =
    let has = has_found old m key stream found in
    on_before old key (Some (stream_of m stream)) (create old key name id make) has ∙ gives (Some (stream_of m stream)) has

-- what no key or a group that is there answers
pub no_key : (old : World) (key name : List ℕ) (id : Option Id) (make : Bool) → make ≡ false → look old key ≡ None → on_stream old key (create old key name id make) ≡ refused NoSuchKey old
no_key old key name id make forbids none = on_before old key None (create old key name id make) none ∙ cond-false _ _ _ forbids

pub group_there : (old : World) (m : Blocks) (key name : List ℕ) (id : Option Id) (make : Bool) (stream : Log) → FoundStream old m key stream → contains_key stream.groups name ≡ true
    → on_stream old key (create old key name id make) ≡ refused GroupExists old
group_there old m key name id make stream found there = on_before old key (Some (stream_of m stream)) (create old key name id make) (has_found old m key stream found) ∙ cond-true _ _ _ there

-- ---- groups that are taken out

pub no_group : (old : World) (m : Blocks) (key name : List ℕ) (stream : Log) → FoundStream old m key stream → contains_key stream.groups name ≡ false
    → on_stream old key (destroy old key name) ≡ leaves (Number (pos 0) ∷ []) old
no_group old m key name stream found none = on_before old key (Some (stream_of m stream)) (destroy old key name) (has_found old m key stream found) ∙ cond-false _ _ _ none

pub destroyed : (old new : World) (m : Blocks) (key name : List ℕ) (stream : Log) (was : Option Stream) (now : Stream) → FoundStream old m key stream
    → contains_key stream.groups name ≡ true → IsBefore old key was → now ≡ regrouped (or_no_stream was) (finite.remove (or_no_stream was).groups name) → new ≡ keep_stream old key now
    → on_stream old key (destroy old key name) ≡ leaves (Number (pos 1) ∷ []) new
destroyed old new m key name stream was now found there stands made world =
    on_before old key (Some (stream_of m stream)) (destroy old key name) (has_found old m key stream found)
    ∙ cond-true _ _ _ there
    ∙ ap (λ (s : Stream). leaves (Number (pos 1) ∷ []) (keep_stream old key (regrouped s (finite.remove s.groups name)))) (sym (found_is old m key stream found was stands))
    ∙ ap (λ (s : Stream). leaves (Number (pos 1) ∷ []) (keep_stream old key s)) (sym made)
    ∙ ap (leaves (Number (pos 1) ∷ [])) (sym world)
