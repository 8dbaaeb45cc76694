-- Values that were written anew stay encoded so, and so is what is put.
use Rattle.std.proofs.Common.{◌≡◌, inl, inr, ℕ, ◌≤◌, ◌+◌, List, [], ◌∷◌, Option, Some, Result, Ok, Err, OnOk, refl, sym, ap, subst, ◌∙◌, arith}
use Rattle.std.specs.FinMap.{get, get-empty}
use Rattle.std.specs.Ordering.{nat_cmp}
use Rattle.std.specs.Cmp.Lexicographic.{slice_cmp}
use Rattle.blocks.specs.declared.BlockRef.{BlockRef}
use Rattle.blocks.specs.Blocks.{Blocks, Changes, Owned, no_blocks, ref_eq, times, bytes_at}
use Rattle.blocks.proofs.Change.{one_if}
use Rattle.blocks.proofs.Refs.{ref_eq_refl}
use Rattle.std.proofs.lemmas.Bool.{cond-true}
use Rattle.rehash_dict.proofs.Keys.{live_bytes}
use Rattle.plain_world.specs.Worlds.{World, Entry, new_world, look, put}
use Rattle.plain_world.specs.Worlds as model
use Rattle.plain_world.proofs.Lives.{look_put}
use Rattle.held.specs.Calls.{HasOnly, AreParts}
use Rattle.held.specs.Scopes.{untouched}
use Rattle.held.specs.Written as held
use Rattle.held.proofs.Calls.{look_stands}
use Rattle.held.proofs.Timing.{some_none}
use Rattle.held.proofs.Within.{within_store}
use Rattle.held.proofs.Written.{one_settled, written_within, written_named}
use Rattle.held.specs.Table.{item}
use Rattle.keyspace.specs.declared.value.Value.{Value}
use Rattle.keyspace.specs.Databases.{Bases, means, table_at}
use Rattle.keyspace.specs.Sound.{IsArranged, IsIntact, IsIntactWith, Sound, SoundBeside}
use Rattle.keyspace.specs.Scopes.{one_key, Within}
use Rattle.keyspace.specs.Values.{value_of, value_refs, value_own, encoding_of, IsSound}
use Rattle.keyspace.proofs.Uses.{sound_is_intact, changed_sound_in_uses, changed_means}
use Rattle.rdb_reader.specs.Loads.{any_key}
use Rattle.rdb_reader.specs.Forms.{IsNewAs, IsNew, AreNew}

-- what was new stays so, and so is what is written
new_on : (old new : Bases) (m after : Blocks) → new.limits ≡ old.limits → held.Written value_refs (IsNew new.limits after) old new m after → AreNew old m → AreNew new after
new_on old new m after same written news db at e found = elim (written db at e found) [
  | inl stayed ↦
      let alike : value_of after e.value ≡ value_of m e.value = value_own.means m after e.value (λ r owns. stayed.bytes r (omega (arith, owns))) in
      subst (λ l. IsNewAs l (value_of after e.value) (encoding_of e.value)) (sym same) (subst (λ v. IsNewAs old.limits v (encoding_of e.value)) (sym alike) (news db at e stayed.stood))
  | inr is ↦ is
]

some_is : {A : Type 0} (x y : A) → Some x ≡ Some y → x ≡ y
some_is x y e = cc

-- a value is put that is encoded as one written anew
pub put_new : {E : Type 0} (db : ℕ) (key : List ℕ) (value : Value) (means_this : model.Value) (deadline : Option ℕ) (old new : Bases) (m after : Blocks)
    → IsNewAs old.limits means_this (encoding_of value) → new.limits ≡ old.limits → Within (one_key db key) old new m after → IsArranged new after
    → (result : Result (Unit {0}) E) → OnOk result (means db new after ≡ put (means db old m) key (record { value = means_this; deadline = deadline }))
    → OnOk result (HasOnly new after db key value) → OnOk result (AreNew old m → AreNew new after)
put_new db key value means_this deadline old new m after is same within arranged (Ok u) world only =
    new_on old new m after same (
    written_named value_refs (IsNew new.limits after) (one_key db key) (one_settled db key) old new m after within arranged
    (λ number at e other found bytes named.
    let here : item (table_at new db) at ≡ Some e = subst (λ n. item (table_at new n) at ≡ Some e) named.0 found in
    let mine : after e.key ≡ Some key = bytes ∙ ap Some named.1 in
    let stands = look_stands value_refs value_of value_own new db after arranged key at e here mine _ refl in
    let told : look (means db new after) key ≡ Some (record { value = means_this; deadline = deadline }) = ap (λ (w : World). look w key) world
    ∙ look_put (means db old m) key (record { value = means_this; deadline = deadline }) in
    let alike : value_of after e.value ≡ means_this = ap (λ (x : Entry). x.value) (some_is _ _ (sym stands ∙ told)) in
    let own : e.value ≡ value = only at e here mine in
    subst (λ l. IsNewAs l (value_of after e.value) (encoding_of e.value)) (sym same)
    (subst (λ v. IsNewAs old.limits v (encoding_of e.value)) (sym alike)
    (subst (λ (v : Value). IsNewAs old.limits means_this (encoding_of v)) (sym own) is))))
put_new db key value means_this deadline old new m after is same within arranged (Err e) world only = tt

-- where no key is, each is new
pub none_new : (bases : Bases) (m : Blocks) → IsArranged bases m → means 0 bases m ≡ new_world → AreNew bases m
none_new bases m arranged empty db at e found =
    let bytes = live_bytes m e.key ((arranged.keyed db).live at e found) in
    let there = look_stands value_refs value_of value_own bases db m arranged (bytes_at m e.key) at e found bytes _ refl in
    let nothing = ap (λ (w : World). get (w.bases db) (bytes_at m e.key)) empty ∙ get-empty (slice_cmp nat_cmp) (bytes_at m e.key) in
    some_none _ _ there nothing

-- ---- a value is made or given back beside the databases

module _ (bases : Bases) (m after : Blocks) (out xs ys : List BlockRef) (sound : SoundBeside bases m out) (p : Changes m after xs ys) (part : (r : BlockRef) → times r xs ≤ times r out) where
  -- the databases stay
  pub store_within : Within any_key bases bases m after
  store_within = within_store value_refs value_of value_own any_key bases m after out xs ys (sound_is_intact bases m out sound) p part

  pub store_new : AreNew bases m → AreNew bases after
  store_new news =
      new_on bases bases m after refl (
      written_within value_refs (IsNew bases.limits after) untouched (λ db key none. none) bases bases m after
      (within_store value_refs value_of value_own untouched bases m after out xs ys (sound_is_intact bases m out sound) p part)) news

-- what is owned is a part of itself
pub whole_part : (xs : List BlockRef) (r : BlockRef) → times r xs ≤ times r xs
whole_part xs r = omega arith

pub none_left : (xs : List BlockRef) (r : BlockRef) → times r [] + times r xs ≡ times r xs + times r []
none_left xs r = omega arith

-- the blocks of a value beside the databases are given back
module _ (bases : Bases) (m after : Blocks) (out : List BlockRef) (sound : SoundBeside bases m out) (p : Changes m after out []) where
  pub given_sound : Sound bases after
  given_sound = changed_sound_in_uses bases m after out [] out [] sound p (whole_part out) (none_left out)

  pub given_means : (db : ℕ) → means db bases after ≡ means db bases m
  given_means = changed_means bases m after out [] out [] sound p (whole_part out)

  pub given_within : Within any_key bases bases m after
  given_within = store_within bases m after out out [] sound p (whole_part out)

  pub given_new : AreNew bases m → AreNew bases after
  given_new = store_new bases m after out out [] sound p (whole_part out)

-- ---- a value beside the databases

module _ (bases : Bases) (m : Blocks) (value : Value) (sound : SoundBeside bases m (value_refs m value)) where
  pub beside_intact : IsIntact bases m []
  beside_intact = record { owned = λ r. omega (arith, sound.owns r); arranged = sound.arranged }

  pub beside_with : IsSound bases.limits bases.seed m value → IsIntactWith bases m value
  beside_with own = record { owned = λ r. omega (arith, sound.owns r); arranged = sound.arranged; sound = own }

  pub beside_owned : Owned (value_refs m value) m
  beside_owned r = omega (arith, sound.owns r)

pub all_parts : (xs : List BlockRef) → AreParts xs xs []
all_parts xs r = omega arith

-- what is owned without a block is nothing
pub refs_none : (xs : List BlockRef) → Owned xs no_blocks → xs ≡ []
refs_none [] own = refl
refs_none (x ∷ xs) own = absurd (let itself : one_if (ref_eq x x) ≡ 1 = cond-true _ _ _ (ref_eq_refl x) in omega (arith, itself, own x))

pub none_owned : (m : Blocks) → Owned [] m
none_owned m r = omega arith
