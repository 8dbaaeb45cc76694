-- What is told of what was handed out.
use Rattle.std.proofs.Common.{◌≡◌, ℕ, suc, ◌+◌, ◌==◌, true, false, List, [], ◌∷◌, ◌++◌, length, map, drop, flat_map, is_some, Option, None, Some, Result, Ok, Err, IfOk, OnOk, refl, sym}
use Rattle.std.proofs.Common.{ap, subst, ◌∙◌, arith}
use Rattle.std.specs.List.{Contains}
use Rattle.std.proofs.lemmas.List.{append_assoc}
use Rattle.blocks.specs.Blocks.{Blocks}
use Rattle.object_codec.specs.declared.form.Form.TheVariants as forms
use Rattle.stream_object.specs.Handing.{told}
use Rattle.stream_object.specs.Ranges.{taken}
use Rattle.stream_object.specs.declared.again.Again.{Again as Entry}
use Rattle.held.proofs.Written.{written_then}
use Rattle.plain_world.specs.Streams.{StreamEntry}
use Rattle.plain_world.specs.declared.reply.Part.{Part}
use Rattle.plain_world.specs.Worlds.{World, look}
use Rattle.plain_world.specs.declared.refusal.Refusal.{Refusal}
use Rattle.plain_world.specs.declared.reply.Part.TheVariants.{Bulk, NullArray, Array, Refused}
use Rattle.plain_model.specs.IdTexts.{id_text}
use Rattle.plain_model.specs.Outcomes.{IsRefusal, leaves}
use Rattle.plain_model.specs.StreamSteps.{Asked, all_listed, listed}
use Rattle.plain_model.specs.GroupSteps.{Reader, Waits, first_refusal, hand_out, or_else, read_group, refusal_at, unless_refused, waits_listed, waits_parts}
use Rattle.stream_groups.specs.Groups.{Id}
use Rattle.keyspace.specs.Databases.{Keyspace}
use Rattle.keyspace.specs.Values.{value_refs, OfForm, encoding_of}
use Rattle.keyspace.specs.declared.value.Value.{Value}
use Rattle.keyspace.specs.Forms.{Log, Formed}
use Rattle.keyspace.specs.Scopes.{Scope, asked_keys, one_key, some_keys}
use Rattle.keyspace.specs.Commands.{KeepsTo, KeepsOrRefuses}
use Rattle.keyspace.proofs.Running.{calm, held_in_wider}
use Rattle.cmd_streams.specs.declared.delivering.Handed.{Handed}
use Rattle.cmd_streams.specs.declared.delivering.Handed.TheVariants.{Fresh, Again}
use Rattle.cmd_streams.specs.declared.delivering.KeyHanded.{KeyHanded}
use Rattle.cmd_streams.specs.Handed.{again_parts, key_parts, parts_of}
use Rattle.cmd_streams.proofs.Replies.{Many, single, array, one_behind, each, entry_one, listed_one}

-- ---- replies

waits_one : (id : Id) (entry : Option StreamEntry) → Many 1 (waits_parts id entry)
waits_one id None = array 2 (Bulk (id_text id) ∷ NullArray ∷ []) (one_behind 1 (Bulk (id_text id) ∷ []) (NullArray ∷ []) (single (Bulk (id_text id)) refl) (single NullArray refl))
waits_one id (Some e) = entry_one e

waiting_one : (list : List Waits) → Many 1 (waits_listed list)
waiting_one list = array (length list) (flat_map (λ (one : Waits). waits_parts one.0 one.1) list) (each (λ (one : Waits). waits_parts one.0 one.1) (λ one. waits_one one.0 one.1) list)

parts_one : (key : List ℕ) (handed : Handed) → Many 1 (parts_of key handed)
parts_one key (Fresh list) =
    let own = listed (map taken list.items) in
    array 2 (Bulk key ∷ own) (one_behind 1 (Bulk key ∷ []) own (single (Bulk key) refl) (listed_one (map taken list.items)))
parts_one key (Again list) =
    let own = waits_listed (map told list.items) in
    array 2 (Bulk key ∷ own) (one_behind 1 (Bulk key ∷ []) own (single (Bulk key) refl) (waiting_one (map told list.items)))

told_map : (found : List KeyHanded) → flat_map (λ (parts : List Part). parts) (map key_parts found) ≡ flat_map key_parts found
told_map [] = refl
told_map (k ∷ found) = ap (λ l. key_parts k ++ l) (told_map found)

map_long : (found : List KeyHanded) → length (map key_parts found) ≡ length found
map_long [] = refl
map_long (k ∷ found) = ap suc (map_long found)

pub handed_told : (found : List KeyHanded) → (length found == 0) ≡ false → all_listed (map key_parts found) ≡ Array (length found) ∷ flat_map key_parts found
handed_told [] some = cc
handed_told (k ∷ found) some = ap (λ n. Array n ∷ flat_map (λ (parts : List Part). parts) (map key_parts (k ∷ found))) (map_long (k ∷ found))
    ∙ ap (λ l. Array (length (k ∷ found)) ∷ l) (told_map (k ∷ found))

pub handed_one : (found : List KeyHanded) → Many 1 (Array (length found) ∷ flat_map key_parts found)
handed_one found = array (length found) (flat_map key_parts found) (each key_parts (λ k. parts_one k.key.now k.handed) found)

-- ids that are told, one after the other
pub again_told : (list : List Entry) → flat_map again_parts list ≡ flat_map (λ (one : Waits). waits_parts one.0 one.1) (map told list)
again_told [] = refl
again_told (a ∷ list) = ap (λ l. again_parts a ++ l) (again_told list)

pub again_long : (list : List Entry) → length (map told list) ≡ length list
again_long [] = refl
again_long (a ∷ list) = ap suc (again_long list)

pub waiting_told : {X : Type 0} (result : Result (Unit {0}) X) (first mid new : List Part) (list : List Entry) → mid ≡ first ++ Array (length list) ∷ []
    → OnOk result (new ≡ mid ++ flat_map again_parts list) → OnOk result (new ≡ first ++ waits_listed (map told list))
waiting_told (Err x) first mid new list p q = tt
waiting_told (Ok u) first mid new list p q =
    q ∙ ap (λ l. l ++ flat_map again_parts list) p ∙ append_assoc first (Array (length list) ∷ []) (flat_map again_parts list)
    ∙ ap (λ l. first ++ Array (length list) ∷ l) (again_told list)
    ∙ ap (λ n. first ++ Array n ∷ flat_map (λ (one : Waits). waits_parts one.0 one.1) (map told list)) (sym (again_long list))

-- an array of what is told of keys is no refusal
pub listed_calm : (parts : List (List Part)) → IsRefusal (all_listed parts) → ⊥
listed_calm [] refused = refused
listed_calm (one ∷ more) refused = refused

-- ---- what may be changed, and how

-- each key of some that are asked for is one of others
abbrev pub AreAsked : List Asked → List Asked → Type 0
AreAsked part asked = (key : List ℕ) → Contains (asked_keys part) key → Contains (asked_keys asked) key

module _ (one : Asked) (others asked : List Asked) (part : AreAsked (one ∷ others) asked) where
  pub first_asked : Contains (asked_keys asked) one.0
  first_asked = part one.0 (0, omega arith, refl)

  pub rest_asked : AreAsked others asked
  rest_asked key there = part key (suc there.0, omega (arith, there.1), there.2)

-- ---- keys that are refused

module _ (world : World) (name : List ℕ) (asked : List Asked) (i : ℕ) (one : Asked) (rest : drop i asked ≡ one ∷ drop (i + 1) asked) where
  pub none_refused : (refusal : Option Refusal) → refusal ≡ refusal_at name (look world one.0) → is_some refusal ≡ false
      → first_refusal world name (drop i asked) ≡ first_refusal world name asked → first_refusal world name (drop (i + 1) asked) ≡ first_refusal world name asked
  none_refused None is none so_far = ap (λ o. or_else o (first_refusal world name (drop (i + 1) asked))) is ∙ sym (ap (first_refusal world name) rest) ∙ so_far
  none_refused (Some refusal) is none so_far = cc

  pub one_refused : (refusal : Option Refusal) → refusal ≡ refusal_at name (look world one.0) → is_some refusal ≡ true
      → first_refusal world name (drop i asked) ≡ first_refusal world name asked → refusal ≡ first_refusal world name asked
  one_refused None is some so_far = cc
  one_refused (Some refusal) is some so_far = ap (λ o. or_else o (first_refusal world name (drop (i + 1) asked))) is ∙ sym (ap (first_refusal world name) rest) ∙ so_far

-- ---- what is given

pub refused_told : {X : Type 0} (old : World) (who : Reader) (asked : List Asked) (refusal : Refusal) (first : Option Refusal) → first ≡ first_refusal old who.group asked
    → first ≡ Some refusal → (result : Result (List Part) X) → IfOk result (λ reply. reply ≡ Refused refusal ∷ []) → IfOk result (λ reply. read_group old who asked ≡ leaves reply old)
refused_told old who asked refusal first is some (Ok reply) told = ap (λ o. unless_refused old o (hand_out old who asked)) (sym is ∙ some) ∙ ap (λ r. leaves r old) (sym told)
refused_told old who asked refusal first is some (Err x) told = tt

pub handed_out : {X : Type 0} (old new : World) (who : Reader) (asked : List Asked) (first : Option Refusal) (told : List (List Part)) → first ≡ first_refusal old who.group asked
    → first ≡ None → told ≡ (hand_out old who asked).0 → new ≡ (hand_out old who asked).1 → (result : Result (List Part) X) → IfOk result (λ reply. reply ≡ all_listed told)
    → IfOk result (λ reply. read_group old who asked ≡ leaves reply new)
handed_out old new who asked first told is none same world (Ok reply) replied =
    ap (λ o. unless_refused old o (hand_out old who asked)) (sym is ∙ none)
    ∙ ap (λ l. leaves (all_listed l) (hand_out old who asked).1) (sym same)
    ∙ ap (λ r. leaves r (hand_out old who asked).1) (sym replied)
    ∙ ap (leaves reply) (sym world)
handed_out old new who asked first told is none same world (Err x) replied = tt

pub handed_calm : {S X : Type 0} (blocks : S → Blocks) (step : S → S → Type 0) (scope : Scope) (old new : Keyspace S) (told : List (List Part)) (result : Result (List Part) X)
    → IfOk result (λ reply. reply ≡ all_listed told) → KeepsTo blocks step scope old new → KeepsOrRefuses blocks step scope old new result
handed_calm blocks step scope old new told (Err x) is held = calm blocks step scope old new (Err x) tt held
handed_calm blocks step scope old new told (Ok reply) is held = calm blocks step scope old new (Ok reply) (λ refused. listed_calm told (subst IsRefusal is refused)) held

-- ---- what is held

-- what is held to one key is held to those that it is one of
pub held_wider : {S : Type 0} (blocks : S → Blocks) (step : S → S → Type 0) (db : ℕ) (key : List ℕ) (keys : List (List ℕ)) → Contains keys key → (old new : Keyspace S)
    → KeepsTo blocks step (one_key db key) old new → KeepsTo blocks step (some_keys db keys) old new
held_wider blocks step db key keys there old new held =
    held_in_wider blocks step (one_key db key) (some_keys db keys) old new (λ number here. here)
    (λ number other named. (named.0, subst (Contains keys) (sym named.1) there)) (λ number no. no) held

-- streams that are written one after the other are encoded as any stream
pub log_then : {S : Type 0} (blocks : S → Blocks) (a b c : Keyspace S) → Formed blocks Log a b → Formed blocks Log b c → Formed blocks Log a c
log_then blocks a b c p q = written_then value_refs (λ (value : Value). encoding_of value ≡ OfForm forms.Stream) a.bases b.bases c.bases (blocks a.store) (blocks b.store) (blocks c.store) p q
