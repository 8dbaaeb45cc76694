use Rattle.std.proofs.Common.{ℕ, List, [], refl, sym, ap, ◌∙◌, subst}
use Rattle.blocks.specs.declared.BlockRef.{BlockRef}
use Rattle.blocks.specs.Blocks.{Changes, Owned, no_step}
use Rattle.blocks.proofs.Change.{changes_owned}
use Rattle.blocks.proofs.Serve.{served_then}
use Rattle.object_codec.specs.Limits.{AreInRange}
use Rattle.object_codec.specs.declared.limits.Limits.{Limits}
use Rattle.plain_world.specs.Worlds.{World, Entry}
use Rattle.plain_world.specs.Worlds as model
use Rattle.keyspace.specs.Databases.{means}
use Rattle.keyspace.specs.Values.{value_of, value_refs, IsSound}
use Rattle.keyspace.proofs.Serving.{unmoved, further}
use Rattle.keyspace.proofs.Uses.{made_sound, made_means}
use Rattle.rdb_grammar.specs.Layouts.{laid_on}
use Rattle.rdb_grammar.specs.Places.{Stands}
use Rattle.rdb_grammar.specs.Views.{text_of}
use Rattle.rdb_reader.specs.Loads.{Puts, any_key}
use Rattle.rdb_grammar.specs.declared.values.Collection.{Collection}
use Rattle.rdb_grammar.specs.Elements.{without_any}
use Rattle.rdb_reader.specs.Forms.{IsNew, IsOf}
use Rattle.rdb_reader.proofs.Anew.{none_owned, whole_part, store_within, store_new, given_sound, given_within}
use Rattle.rdb_reader.proofs.Elements.{unfilled}
use Rattle.rdb_reader.proofs.collections.put_collection.Goals as goal

pub begin-requires : goal.begin-requires
begin-requires g c = subst AreInRange (sym c.limits.ensures) c.requires.sound.arranged.limits

pub returns-in-Err-clause-sound : goal.returns-in-Err-clause-sound
returns-in-Err-clause-sound g c = c.requires.sound

pub returns-in-Err-clause-served : goal.returns-in-Err-clause-served
returns-in-Err-clause-served g c = no_step

pub returns-in-Err-clause-settings : goal.returns-in-Err-clause-settings
returns-in-Err-clause-settings g c = record { limits = refl; seed = refl; turn = refl }

pub returns-in-Err-clause-within : goal.returns-in-Err-clause-within
returns-in-Err-clause-within g c = unmoved any_key c.args.keyspace.now.bases (g.B.BlockStore.blocks c.args.keyspace.now.store)

pub read_laid-requires-clause-sound : goal.read_laid-requires-clause-sound
read_laid-requires-clause-sound g c = (c.limits.result, c.seed.result, c.in-Ok.ensures.sound (g.B.BlockStore.blocks c.args.keyspace.now.store))

pub read_laid-requires-clause-owned : goal.read_laid-requires-clause-owned
read_laid-requires-clause-owned g c =
    let m = g.B.BlockStore.blocks c.args.keyspace.now.store in
    let bases = c.args.keyspace.now.bases in
    subst (λ (xs : List BlockRef). Owned xs m) (sym (c.in-Ok.ensures.refs m)) (none_owned m)

pub read_laid-requires-clause-kind : goal.read_laid-requires-clause-kind
read_laid-requires-clause-kind g c = subst (λ (type : Collection). IsOf type c.in-Ok.made) c.kind_of.ensures c.in-Ok.ensures.kind

pub read_laid-requires-clause-begun : goal.read_laid-requires-clause-begun
read_laid-requires-clause-begun g c = c.in-Ok.ensures.means (g.B.BlockStore.blocks c.args.keyspace.now.store) ∙ ap without_any c.kind_of.ensures

pub read_laid-requires-clause-at : goal.read_laid-requires-clause-at
read_laid-requires-clause-at g c = c.requires.at

pub release-requires-clause-owned : goal.release-requires-clause-owned
release-requires-clause-owned g c = changes_owned _ _ _ _ c.read_laid.ensures.changes

pub release-requires-clause-sound : goal.release-requires-clause-sound
release-requires-clause-sound g c =
    let m = g.B.BlockStore.blocks c.args.keyspace.now.store in
    let bases = c.args.keyspace.now.bases in
    let own = c.read_laid.ensures.sound c.limits.result c.seed.result (c.in-Ok.ensures.sound m) in
    (c.limits.result, c.seed.result, own)

pub returns-in-Err-read_laid-clause-reads : goal.returns-in-Err-read_laid-clause-reads
returns-in-Err-read_laid-clause-reads g c =
    let m = g.B.BlockStore.blocks c.args.keyspace.now.store in
    let bases = c.args.keyspace.now.bases in
    let mid = g.B.BlockStore.blocks c.read_laid.new.store in
    let after = g.B.BlockStore.blocks c.release.new.store in
    unfilled c.args.bytes.now c.args.moment (means c.args.db bases m) (means c.args.db bases after) (text_of c.args.name.now) c.args.layout c.args.at c.args.deadline
    (value_of m c.in-Ok.made) (value_of mid c.read_laid.new.value) (c.in-Ok.ensures.means m ∙ ap without_any c.kind_of.ensures) c.in-Err-read_laid.fault
    c.in-Err-read_laid.ensures.fills

pub returns-in-Err-read_laid-clause-sound : goal.returns-in-Err-read_laid-clause-sound
returns-in-Err-read_laid-clause-sound g c =
    let m = g.B.BlockStore.blocks c.args.keyspace.now.store in
    let bases = c.args.keyspace.now.bases in
    let mid = g.B.BlockStore.blocks c.read_laid.new.store in
    let made = c.read_laid.new.value in
    let changes = subst (λ (xs : List BlockRef). Changes m mid xs (value_refs mid made)) (c.in-Ok.ensures.refs m) c.read_laid.ensures.changes in
    given_sound bases mid (g.B.BlockStore.blocks c.release.new.store) (value_refs mid made) (made_sound bases m mid made c.requires.sound changes) c.release.ensures.changes

pub returns-in-Err-read_laid-clause-served : goal.returns-in-Err-read_laid-clause-served
returns-in-Err-read_laid-clause-served g c = served_then _ _ _ c.read_laid.ensures.served c.release.ensures.served

pub returns-in-Err-read_laid-clause-settings : goal.returns-in-Err-read_laid-clause-settings
returns-in-Err-read_laid-clause-settings g c = record { limits = refl; seed = refl; turn = refl }

pub returns-in-Err-read_laid-clause-within : goal.returns-in-Err-read_laid-clause-within
returns-in-Err-read_laid-clause-within g c =
    let m = g.B.BlockStore.blocks c.args.keyspace.now.store in
    let bases = c.args.keyspace.now.bases in
    let mid = g.B.BlockStore.blocks c.read_laid.new.store in
    let made = c.read_laid.new.value in
    let changes = subst (λ (xs : List BlockRef). Changes m mid xs (value_refs mid made)) (c.in-Ok.ensures.refs m) c.read_laid.ensures.changes in
    let after = g.B.BlockStore.blocks c.release.new.store in
    further any_key bases bases bases m mid after (store_within bases m mid [] [] (value_refs mid made) c.requires.sound changes (whole_part []))
    (given_within bases mid after (value_refs mid made) (made_sound bases m mid made c.requires.sound changes) c.release.ensures.changes)

pub put_made-requires-clause-db : goal.put_made-requires-clause-db
put_made-requires-clause-db g c = c.requires.db

pub put_made-requires-clause-latest : goal.put_made-requires-clause-latest
put_made-requires-clause-latest g c = c.requires.latest

pub put_made-requires-clause-beside : goal.put_made-requires-clause-beside
put_made-requires-clause-beside g c =
    let m = g.B.BlockStore.blocks c.args.keyspace.now.store in
    let bases = c.args.keyspace.now.bases in
    let mid = g.B.BlockStore.blocks c.read_laid.new.store in
    let made = c.read_laid.new.value in
    let changes = subst (λ (xs : List BlockRef). Changes m mid xs (value_refs mid made)) (c.in-Ok.ensures.refs m) c.read_laid.ensures.changes in
    made_sound bases m mid made c.requires.sound changes

pub put_made-requires-clause-own : goal.put_made-requires-clause-own
put_made-requires-clause-own g c =
    let m = g.B.BlockStore.blocks c.args.keyspace.now.store in
    let bases = c.args.keyspace.now.bases in
    let mid = g.B.BlockStore.blocks c.read_laid.new.store in
    let made = c.read_laid.new.value in
    let changes = subst (λ (xs : List BlockRef). Changes m mid xs (value_refs mid made)) (c.in-Ok.ensures.refs m) c.read_laid.ensures.changes in
    let own = c.read_laid.ensures.sound c.limits.result c.seed.result (c.in-Ok.ensures.sound m) in
    subst (λ (l : Limits). IsSound l bases.seed mid made) c.limits.ensures (subst (λ (s : ℕ). IsSound c.limits.result s mid made) c.seed.ensures own)

pub returns-in-Ok-put_made-clause-reads : goal.returns-in-Ok-put_made-clause-reads
returns-in-Ok-put_made-clause-reads g c =
    let m = g.B.BlockStore.blocks c.args.keyspace.now.store in
    let bases = c.args.keyspace.now.bases in
    let mid = g.B.BlockStore.blocks c.read_laid.new.store in
    let made = c.read_laid.new.value in
    let changes = subst (λ (xs : List BlockRef). Changes m mid xs (value_refs mid made)) (c.in-Ok.ensures.refs m) c.read_laid.ensures.changes in
    let entry : Entry = record { value = value_of mid made; deadline = c.args.deadline } in
    let new = means c.args.db c.put_made.new.keyspace.bases (g.B.BlockStore.blocks c.put_made.new.keyspace.store) in
    record {
      value = value_of mid made;
      stands = subst (λ (v : model.Value). Stands (laid_on c.args.layout v) (value_of mid made) c.args.bytes.now c.args.at c.in-Ok-read_laid.next)
          (c.in-Ok.ensures.means m ∙ ap without_any c.kind_of.ensures) c.in-Ok-read_laid.ensures.fills;
      puts = subst (λ (name : List ℕ). Puts c.args.moment (means c.args.db bases m) new name entry c.in-Ok-put_made.put) c.text-name.ensures
          (subst (λ (w : World). Puts c.args.moment w new c.text-name.result.now entry c.in-Ok-put_made.put) (made_means bases m mid made c.requires.sound changes c.args.db)
          c.in-Ok-put_made.ensures.puts);
    }

pub returns-in-Ok-put_made-clause-sound : goal.returns-in-Ok-put_made-clause-sound
returns-in-Ok-put_made-clause-sound g c = c.put_made.ensures.sound

pub returns-in-Ok-put_made-clause-served : goal.returns-in-Ok-put_made-clause-served
returns-in-Ok-put_made-clause-served g c = served_then _ _ _ c.read_laid.ensures.served c.put_made.ensures.served

pub returns-in-Ok-put_made-clause-settings : goal.returns-in-Ok-put_made-clause-settings
returns-in-Ok-put_made-clause-settings g c = c.put_made.ensures.settings

pub returns-in-Ok-put_made-clause-within : goal.returns-in-Ok-put_made-clause-within
returns-in-Ok-put_made-clause-within g c =
    let m = g.B.BlockStore.blocks c.args.keyspace.now.store in
    let bases = c.args.keyspace.now.bases in
    let mid = g.B.BlockStore.blocks c.read_laid.new.store in
    let made = c.read_laid.new.value in
    let changes = subst (λ (xs : List BlockRef). Changes m mid xs (value_refs mid made)) (c.in-Ok.ensures.refs m) c.read_laid.ensures.changes in
    further any_key bases bases c.put_made.new.keyspace.bases m mid (g.B.BlockStore.blocks c.put_made.new.keyspace.store)
    (store_within bases m mid [] [] (value_refs mid made) c.requires.sound changes (whole_part [])) c.put_made.ensures.within

pub returns-in-Err-put_made-clause-sound : goal.returns-in-Err-put_made-clause-sound
returns-in-Err-put_made-clause-sound g c = c.put_made.ensures.sound

pub returns-in-Err-put_made-clause-served : goal.returns-in-Err-put_made-clause-served
returns-in-Err-put_made-clause-served g c = served_then _ _ _ c.read_laid.ensures.served c.put_made.ensures.served

pub returns-in-Err-put_made-clause-settings : goal.returns-in-Err-put_made-clause-settings
returns-in-Err-put_made-clause-settings g c = c.put_made.ensures.settings

pub returns-in-Err-put_made-clause-within : goal.returns-in-Err-put_made-clause-within
returns-in-Err-put_made-clause-within g c =
    let m = g.B.BlockStore.blocks c.args.keyspace.now.store in
    let bases = c.args.keyspace.now.bases in
    let mid = g.B.BlockStore.blocks c.read_laid.new.store in
    let made = c.read_laid.new.value in
    let changes = subst (λ (xs : List BlockRef). Changes m mid xs (value_refs mid made)) (c.in-Ok.ensures.refs m) c.read_laid.ensures.changes in
    further any_key bases bases c.put_made.new.keyspace.bases m mid (g.B.BlockStore.blocks c.put_made.new.keyspace.store)
    (store_within bases m mid [] [] (value_refs mid made) c.requires.sound changes (whole_part [])) c.put_made.ensures.within

pub returns-in-Ok-put_made-clause-form : goal.returns-in-Ok-put_made-clause-form
returns-in-Ok-put_made-clause-form g c = λ news.
    let m = g.B.BlockStore.blocks c.args.keyspace.now.store in
    let bases = c.args.keyspace.now.bases in
    let mid = g.B.BlockStore.blocks c.read_laid.new.store in
    let made = c.read_laid.new.value in
    let changes = subst (λ (xs : List BlockRef). Changes m mid xs (value_refs mid made)) (c.in-Ok.ensures.refs m) c.read_laid.ensures.changes in
    let is = subst (λ (l : Limits). IsNew l mid made) c.limits.ensures (c.in-Ok-read_laid.ensures.form c.limits.result c.seed.result (c.in-Ok.ensures.sound m) (c.in-Ok.ensures.form m)) in
    c.in-Ok-put_made.ensures.form is (store_new bases m mid [] [] (value_refs mid made) c.requires.sound changes (whole_part []) news)
