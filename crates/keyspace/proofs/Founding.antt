-- A value is made of one that owns no block, and put at a key.
use Rattle.std.proofs.Common.{◌≡◌, ℕ, List, [], Option, None, Some, IfSome, IfNone, Result, Ok, Err, OnOk, OnErr, refl, sym, subst, ◌∙◌, arith}
use Rattle.std.proofs.lemmas.Bool.{cond-true}
use Rattle.blocks.specs.declared.BlockRef.{BlockRef}
use Rattle.blocks.specs.Blocks.{Blocks, Changes, ref_eq}
use Rattle.blocks.proofs.Change.{one_if, changes_then}
use Rattle.blocks.proofs.Refs.{ref_eq_refl}
use Rattle.plain_world.specs.Worlds.{put}
use Rattle.plain_model.specs.declared.ctx.Ctx.{Ctx}
use Rattle.held.specs.declared.seeking.Sought.{Sought}
use Rattle.rehash_dict.specs.Grown.{Grown}
use Rattle.rehash_dict.specs.Keyed.{hash_of}
use Rattle.stored.specs.Owning.{no_tables}
use Rattle.held.specs.Calls.{Seeks, HasOnly}
use Rattle.held.specs.Written.{KeepBytes}
use Rattle.held.specs.Table.{Element, item, Stands, Lacks}
use Rattle.held.proofs.Bases.{kept_inside, table_owned}
use Rattle.held.proofs.Tables.{named_in}
use Rattle.held.proofs.Within.{within_store}
use Rattle.keyspace.specs.declared.value.Value.{Value}
use Rattle.keyspace.specs.Databases.{Bases, Keyspace, table_at, means}
use Rattle.keyspace.specs.Sound.{IsArranged, IsIntactWith, Sound, SoundBeside}
use Rattle.keyspace.specs.Scopes.{Scope, untouched, one_key, Within}
use Rattle.keyspace.specs.Insides.{Insides}
use Rattle.keyspace.proofs.Insides.{insides_put, insides_unwritten}
use Rattle.keyspace.specs.Calls.{AreParts}
use Rattle.keyspace.specs.Commands.{seen}
use Rattle.keyspace.specs.Values.{value_refs, value_of, value_own, value_tables, IsSound}
use Rattle.keyspace.specs.Edits.{Shape, shape, MakesNew}
use Rattle.keyspace.proofs.Uses.{sound_is_intact, changed_sound_in_uses, made_intact, put_sound_in_uses, put_within_in_uses, put_means_in_uses}

-- what was found of a key stands over a store where a value was made
pub kept_seeks : (bases : Bases) (m after : Blocks) (db : ℕ) (key : List ℕ) (sought : Sought) (ys : List BlockRef) → Sound bases m → Changes m after [] ys → Seeks bases m db key sought
    → Seeks bases after db key sought
kept_seeks bases m after db key sought ys sound p s = record {
  hashed = s.hashed;
  stands = stands sought.item s.stands;
  lacks = lacks sought.item s.lacks;
}
  where
    same : (at : ℕ) (e : Element Value) → item (table_at bases db) at ≡ Some e → after e.key ≡ m e.key
    same at e found =
        kept_inside value_refs value_of value_own bases m after [] [] ys (sound_is_intact bases m [] sound) p (λ r. omega arith) e.key
        (let itself : one_if (ref_eq e.key e.key) ≡ 1 = cond-true _ _ _ (ref_eq_refl e.key) in
        omega (arith, itself, named_in (value_refs m) (table_at bases db) at e e.key found, table_owned (value_refs m) bases db e.key))

    stands : (o : Option ℕ) → IfSome o (λ at. Stands m (table_at bases db) at key) → IfSome o (λ at. Stands after (table_at bases db) at key)
    stands None h = tt
    stands (Some at) h = record { element = h.element; found = h.found; bytes = same at h.element h.found ∙ h.bytes }

    lacks : (o : Option ℕ) → IfNone o (Lacks m (table_at bases db) key) → IfNone o (Lacks after (table_at bases db) key)
    lacks None h = record { each = λ at e found is. h.each at e found (sym (same at e found) ∙ is) }
    lacks (Some at) h = tt

module _ (at : Ctx) (old : Bases) (m after : Blocks) (key : List ℕ) (fresh value : Value) (sound : Sound old m) (blank : value_refs m fresh ≡ [])
    (p : Changes m after (value_refs m fresh) (value_refs after value)) where
  made : Changes m after [] (value_refs after value)
  made = subst (λ xs. Changes m after xs (value_refs after value)) blank p

  pub new_intact : IsSound old.limits old.seed after value → IsIntactWith old after value
  new_intact is_sound = made_intact old m after value sound made is_sound

  -- from the clauses of `put_sought`, and that the tables of what is put come from none
  pub new_insides : {E : Type 0} → IsSound old.limits old.seed after value → Grown (hash_of old.seed) no_tables (value_tables after value) → (new : Bases) (later : Blocks)
      → IsArranged new later → Within (one_key at.db key) old new after later → (result : Result (Unit {0}) E) → OnOk result (HasOnly new later at.db key value)
      → OnOk result (KeepBytes after later (value_refs after value)) → OnErr result ((number : ℕ) → table_at new number ≡ table_at old number)
      → OnErr result (Changes after later (value_refs after value) []) → Insides (one_key at.db key) old new m later
  new_insides is_sound grown new later arranged within result only kept keys gone =
      insides_put at.db key value old new m after later sound made is_sound grown arranged within result only kept keys gone

  pub new_seeks : (sought : Sought) → Seeks old m at.db key sought → Seeks old after at.db key sought
  new_seeks sought seeks = kept_seeks old m after at.db key sought (value_refs after value) sound made seeks

  module _ (new : Bases) (later : Blocks) where
    pub new_sound : ((all out : List BlockRef) → SoundBeside old after all → AreParts all (value_refs after value) out → SoundBeside new later out) → Sound new later
    new_sound clause = put_sound_in_uses old m after value sound made new later clause

    pub new_within : (scope : Scope) → Within scope old new after later → Within scope old new m later
    new_within scope clause = put_within_in_uses old m after value sound made new later scope clause

    pub new_means : means at.db new later ≡ put (means at.db old after) key (record { value = value_of after value; deadline = None })
        → seen at new later ≡ put (seen at old m) key (record { value = value_of after value; deadline = None })
    new_means clause = put_means_in_uses old m after value sound made new later at.db at.moment key _ clause

  -- the value is released again
  module _ (later : Blocks) (q : Changes after later (value_refs after value) []) where
    gone : Changes m later [] []
    gone = changes_then m after later [] (value_refs after value) [] made q

    pub undone_sound : Sound old later
    undone_sound = changed_sound_in_uses old m later [] [] [] [] sound gone (λ r. omega arith) (λ r. omega arith)

    pub undone_insides : (scope : Scope) → Insides scope old old m later
    undone_insides scope = insides_unwritten scope untouched (λ number named no. no) old old m later sound.arranged
        (within_store value_refs value_of value_own untouched old m later [] [] [] (sound_is_intact old m [] sound) gone (λ r. omega arith))

    pub undone_within : (scope : Scope) → Within scope old old m later
    undone_within scope = within_store value_refs value_of value_own scope old m later [] [] [] (sound_is_intact old m [] sound) gone (λ r. omega arith)

-- from the clauses of `put_sought`
pub makes_new : {S E F : Type 0} (makes : E → E → Shape → Shape → Type 0) (first last : E) (blocks : S → Blocks) (old new : Keyspace S) (at : Ctx) (key : List ℕ) (fresh value : Value) (after : Blocks)
    → (sound : Sound old.bases (blocks old.store)) → (blank : value_refs (blocks old.store) fresh ≡ [])
    → (p : Changes (blocks old.store) after (value_refs (blocks old.store) fresh) (value_refs after value))
    → makes first last (shape (blocks old.store) fresh) (shape after value) → (result : Result (Unit {0}) F)
    → OnOk result (means at.db new.bases (blocks new.store) ≡ put (means at.db old.bases after) key (record { value = value_of after value; deadline = None }))
    → OnOk result (HasOnly new.bases (blocks new.store) at.db key value)
    → OnOk result (MakesNew makes first last blocks old new at key fresh)
makes_new makes first last blocks old new at key fresh value after sound blank p makes_it (Ok u) clause only = record {
  now = value;
  is = shape after value;
  encoded = refl;
  made = makes_it;
  world = new_means at old.bases (blocks old.store) after key fresh value sound blank p new.bases (blocks new.store) clause;
  only = only;
}
makes_new makes first last blocks old new at key fresh value after sound blank p makes_it (Err e) clause only = tt
