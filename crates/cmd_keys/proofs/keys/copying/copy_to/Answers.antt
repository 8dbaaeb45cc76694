use Rattle.std.proofs.Common.{[], ap, sym, arith, ◌∙◌}
use Rattle.blocks.proofs.Serve.{served_then}
use Rattle.plain_world.specs.Worlds.{deadline_of}
use Rattle.keyspace.specs.Values.{value_refs}
use Rattle.keyspace.proofs.Calls.{settings_then}
use Rattle.keyspace.proofs.Insides.{insides_put_out}
use Rattle.keyspace.proofs.Uses.{sound_is_intact}
use Rattle.cmd_keys.proofs.Copying.{copied_put, copied_within, copied_insides, first_within, first_insides, on_ok_so}
use Rattle.keyspace.specs.Forms.{AsAt}
use Rattle.keyspace.proofs.Forming.{formed_copied}
use Rattle.cmd_keys.proofs.keys.copying.copy_to.Goals as goal

pub returns-in-Ok-clause-world : goal.returns-in-Ok-clause-world
returns-in-Ok-clause-world g c =
    let blocks = g.B.BlockStore.blocks in
    on_ok_so c.put.result (λ clause entry stands.
    copied_put c.args.at.now c.args.keyspace.now.bases c.copy_value.new.keyspace.bases c.put.new.self.bases (blocks c.args.keyspace.now.store) (blocks c.copy_value.new.keyspace.store)
    (blocks c.put.new.self.store)
    c.args.number c.args.to.now c.args.from.now c.in-Ok.value c.args.deadline entry stands c.copy_value.ensures.world (c.in-Ok.ensures.value entry stands)
    (ap deadline_of (sym c.requires.until.stands ∙ stands)) clause) c.put.ensures.means

pub returns-in-Ok-clause-held : goal.returns-in-Ok-clause-held
returns-in-Ok-clause-held g c = record {
  sound = c.put.ensures.sound (value_refs (g.B.BlockStore.blocks c.copy_value.new.keyspace.store) c.in-Ok.value) [] c.in-Ok.ensures.sound (λ r. omega arith);
  served = served_then _ _ _ c.copy_value.ensures.served c.put.ensures.served;
  settings = settings_then c.args.keyspace.now.bases c.copy_value.new.keyspace.bases c.put.new.self.bases c.copy_value.ensures.settings c.put.ensures.settings;
  within = copied_within c.args.at.now.db c.args.from.now c.args.number c.args.to.now c.args.keyspace.now.bases c.copy_value.new.keyspace.bases c.put.new.self.bases
      (g.B.BlockStore.blocks c.args.keyspace.now.store) (g.B.BlockStore.blocks c.copy_value.new.keyspace.store) (g.B.BlockStore.blocks c.put.new.self.store) c.copy_value.ensures.within
      c.put.ensures.within;
  insides =
      let own = g.B.BlockStore.blocks c.copy_value.new.keyspace.store in
      let later = g.B.BlockStore.blocks c.put.new.self.store in
      let mid = c.copy_value.new.keyspace.bases in
      let new = c.put.new.self.bases in
      copied_insides c.args.at.now.db c.args.from.now c.args.number c.args.to.now c.args.keyspace.now.bases mid new (g.B.BlockStore.blocks c.args.keyspace.now.store) own later
      c.copy_value.ensures.settings.seed c.copy_value.ensures.insides
      (insides_put_out c.args.number c.args.to.now c.in-Ok.value mid new own later (sound_is_intact mid own (value_refs own c.in-Ok.value) c.in-Ok.ensures.sound) c.in-Ok.ensures.kind
      c.in-Ok.ensures.grown (c.put.ensures.sound (value_refs own c.in-Ok.value) [] c.in-Ok.ensures.sound (λ r. omega arith)).arranged c.put.ensures.within c.put.result c.put.ensures.has
      c.put.ensures.value_blocks c.put.ensures.err_keys c.put.ensures.err_blocks);
}

pub returns-in-Err-clause-held : goal.returns-in-Err-clause-held
returns-in-Err-clause-held g c = record {
  sound = c.in-Err.ensures.err;
  served = c.copy_value.ensures.served;
  settings = c.copy_value.ensures.settings;
  within = first_within c.args.at.now.db c.args.from.now c.args.number c.args.to.now c.args.keyspace.now.bases c.copy_value.new.keyspace.bases
      (g.B.BlockStore.blocks c.args.keyspace.now.store) (g.B.BlockStore.blocks c.copy_value.new.keyspace.store) c.copy_value.ensures.within;
  insides = first_insides c.args.at.now.db c.args.from.now c.args.number c.args.to.now c.args.keyspace.now.bases c.copy_value.new.keyspace.bases
      (g.B.BlockStore.blocks c.args.keyspace.now.store) (g.B.BlockStore.blocks c.copy_value.new.keyspace.store) c.copy_value.ensures.insides;
}

pub returns-in-Ok-clause-forms : goal.returns-in-Ok-clause-forms
returns-in-Ok-clause-forms g c =
    formed_copied (AsAt c.args.at.now.db c.args.from.now) c.args.number c.args.to.now c.in-Ok.value c.args.keyspace.now.bases c.copy_value.new.keyspace.bases c.put.new.self.bases _ _ _
    c.in-Ok.ensures.form c.in-Ok.ensures.forms c.put.ensures.within
    (c.put.ensures.sound (value_refs (g.B.BlockStore.blocks c.copy_value.new.keyspace.store) c.in-Ok.value) [] c.in-Ok.ensures.sound (λ r. omega arith)).arranged c.put.result c.put.ensures.has

pub put-requires-clause-intact : goal.put-requires-clause-intact
put-requires-clause-intact g c = record { owned = λ r. omega (arith, c.in-Ok.ensures.sound.owns r); arranged = c.in-Ok.ensures.sound.arranged; sound = c.in-Ok.ensures.kind }
