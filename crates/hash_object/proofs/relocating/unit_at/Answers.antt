use Rattle.std.proofs.Common.{ℕ, add-one, ◌∙◌, cond, is_some, sym, ap}
use Rattle.hash_object.specs.declared.fields.Body.TheVariants.{Table}
use Rattle.hash_object.specs.Relocation.{units_in}
use Rattle.hash_object.proofs.Marks.{byte_is, unit_even, unit_odd}
use Rattle.hash_object.proofs.relocating.unit_at.Goals as goal

pub returns-then-mark-eq0 : goal.returns-then-mark-eq0
returns-then-mark-eq0 c = sym (ap (units_in (Table c.args.table.now) c.args.mark) (add-one c.args.mark) ∙ unit_even c.args.table.now c.args.mark c.if-mark-eq0.true c.requires.below)

pub returns : goal.returns
returns c =
    c.from.ensures ∙ byte_is c.is_some.result ∙ ap (λ b. cond {A = ℕ} b 1 0) (c.is_some.ensures ∙ ap is_some c.block_at.ensures)
    ∙ sym (ap (units_in (Table c.args.table.now) c.args.mark) (add-one c.args.mark) ∙ unit_odd c.args.table.now c.args.mark c.if-mark-eq0.false)
