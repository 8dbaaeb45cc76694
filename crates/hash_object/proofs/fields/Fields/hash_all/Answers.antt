use Rattle.std.proofs.Common.{sym, subst}
use Rattle.blocks.specs.Blocks.{no_step}
use Rattle.hash_object.specs.declared.fields.Body.{Body}
use Rattle.hash_object.specs.Hashed.{IsHashed, no_fields}
use Rattle.hash_object.specs.Fields.{fields_of}
use Rattle.hash_object.proofs.Tables.{new_is, new_hashed}
use Rattle.hash_object.proofs.fields.Fields.hash_all.Goals as goal

pub returns-in_err-bytes-in-Pack-clause-served : goal.returns-in_err-bytes-in-Pack-clause-served
returns-in_err-bytes-in-Pack-clause-served g c = no_step

pub returns-in-Empty-clause-hashed : goal.returns-in-Empty-clause-hashed
returns-in-Empty-clause-hashed g c =
    let m = g.B.BlockStore.blocks c.args.store.now in
    let seed = c.args.self.now.seed in
    let h = c.new.ensures in
    subst (λ (b : Body). IsHashed m m (no_fields seed) c.new.result (fields_of m b)) (sym c.in-Empty.is)
    (new_hashed m c.new.result seed (new_is c.new.result seed h.empty h.older h.newer h.position h.seed h.top) (h.keyed m))

pub returns-in-Empty-clause-served : goal.returns-in-Empty-clause-served
returns-in-Empty-clause-served g c = no_step
