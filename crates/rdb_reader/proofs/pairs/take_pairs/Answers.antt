use Rattle.std.proofs.Common.{Bool, Ok, ap, ◌∙◌}
use Rattle.blocks.proofs.Serve.{served_then}
use Rattle.listpack.specs.Pack.{texts}
use Rattle.hash_object.specs.Fields.{fields}
use Rattle.rdb_reader.proofs.AtOnce.{told_at_once}
use Rattle.rdb_reader.proofs.pairs.take_pairs.Goals as goal

pub returns-in-Ok-true : goal.returns-in-Ok-true
returns-in-Ok-true g c =
    let taken = c.in-Ok-true.is ∙ ap (λ (b : Bool). Ok b) c.in-Ok-true.field-0-test in
    let can = c.in-Ok-true.ensures.taken.0 c.in-Ok-true.field-0-test in
    let changed = c.take_pack.ensures.set taken in
    record {
      makes = told_at_once c.args.fields.now.limits (texts c.args.pack.now.bytes.now) (fields (g.B.BlockStore.blocks c.args.store.now) c.args.fields.now)
          (fields (g.B.BlockStore.blocks c.take_pack.new.store) c.take_pack.new.self) can.fresh can.packable changed.fields_are;
      sound = changed.sound;
      settings = changed.settings;
      form = λ least. c.take_pack.ensures.form taken;
      changes = changed.changes;
      served = c.take_pack.ensures.served;
    }

pub set_pairs-requires : goal.set_pairs-requires
set_pairs-requires g c =
    let refused = c.in-Ok-false.is ∙ ap (λ (b : Bool). Ok b) c.in-Ok-false.field-0-test in
    rw (c.take_pack.ensures.same_fields refused, c.take_pack.ensures.same_blocks refused) c.requires

pub returns-in-Ok-false : goal.returns-in-Ok-false
returns-in-Ok-false g c =
    let refused = c.in-Ok-false.is ∙ ap (λ (b : Bool). Ok b) c.in-Ok-false.field-0-test in
    let same_fields = c.take_pack.ensures.same_fields refused in
    let same_blocks = c.take_pack.ensures.same_blocks refused in
    let e = c.set_pairs.ensures in
    record {
      makes = rw (same_fields, same_blocks) at e.makes;
      sound = e.sound;
      settings = rw same_fields at e.settings;
      form = rw (same_fields, same_blocks) at e.form;
      changes = rw (same_fields, same_blocks) at e.changes;
      served = served_then _ _ _ c.take_pack.ensures.served e.served;
    }
