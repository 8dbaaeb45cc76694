use Rattle.std.proofs.Common.{sym, ◌∙◌}
use Rattle.hash_object.specs.Fields.{fields}
use Rattle.hash_object.proofs.Whole.{counted_none}
use Rattle.hash_object.proofs.fields.Fields.is_fresh.Goals as goal

pub returns-in-Listpack : goal.returns-in-Listpack
returns-in-Listpack c = λ m sound.
    let both = counted_none c.len.result (fields m c.args.self.now) (c.len.ensures m sound) in
    (λ h. (sym c.form.ensures ∙ c.in-Listpack.is, both.0 h), λ w. both.1 w.1)
