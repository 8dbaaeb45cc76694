use Rattle.std.proofs.Common.{Bool, List, ℕ, Ok, ap, ◌∙◌, sym, subst}
use Rattle.blocks.proofs.Serve.{served_then}
use Rattle.listpack.specs.Pack.{texts}
use Rattle.object_codec.specs.Forms.{FitsList, IsLeast}
use Rattle.quicklist.specs.Chain.{elements}
use Rattle.quicklist.specs.Nodes.{pack_len}
use Rattle.rdb_reader.proofs.Rising.{appended_least}
use Rattle.rdb_reader.proofs.Unpacked.{list_all}
use Rattle.rdb_reader.proofs.nodes.take_texts.Goals as goal

pub returns-in-Ok-true : goal.returns-in-Ok-true
returns-in-Ok-true g c =
    let taken = c.in-Ok-true.is ∙ ap (λ (b : Bool). Ok b) c.in-Ok-true.field-0-test in
    let written = c.take_pack.ensures.taken taken in
    let old = elements (g.B.BlockStore.blocks c.args.store.now) c.args.list.now in
    let new = c.take_pack.new.self in
    let list = texts c.args.pack.now.bytes.now in
    record {
      makes = list_all old list (elements (g.B.BlockStore.blocks c.take_pack.new.store) new) written.list_is;
      sound = written.quick;
      form = λ least. subst (λ (ys : List (List ℕ)). IsLeast (FitsList (pack_len ys)) new.form) (sym written.list_is) (appended_least old list c.args.list.now.form new.form least written.form);
      changes = written.changes;
      served = c.take_pack.ensures.served;
    }

pub push_texts-requires : goal.push_texts-requires
push_texts-requires g c =
    let refused = c.in-Ok-false.is ∙ ap (λ (b : Bool). Ok b) c.in-Ok-false.field-0-test in
    rw (c.take_pack.ensures.same_list refused, c.take_pack.ensures.same_blocks refused) c.requires

pub returns-in-Ok-false : goal.returns-in-Ok-false
returns-in-Ok-false g c =
    let refused = c.in-Ok-false.is ∙ ap (λ (b : Bool). Ok b) c.in-Ok-false.field-0-test in
    let same_list = c.take_pack.ensures.same_list refused in
    let same_blocks = c.take_pack.ensures.same_blocks refused in
    let e = c.push_texts.ensures in
    record {
      makes = rw (same_list, same_blocks) at e.makes;
      sound = e.sound;
      form = rw (same_list, same_blocks) at e.form;
      changes = rw (same_list, same_blocks) at e.changes;
      served = served_then _ _ _ c.take_pack.ensures.served e.served;
    }
