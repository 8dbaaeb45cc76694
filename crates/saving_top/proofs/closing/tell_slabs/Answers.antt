use Rattle.std.proofs.Common.{◌∙◌, inl, inr}
use Rattle.saving_top.proofs.Left.{lines_are, told_some, told_none}
use Rattle.saving_top.proofs.closing.tell_slabs.Goals as goal

pub returns-then-is_empty : goal.returns-then-is_empty
returns-then-is_empty g c =
    let is = c.as_slice-lines.ensures.value ∙ lines_are c.args.engine.now c.keyspace.result.now _ _ c.keyspace.ensures.keyspace (c.deref.ensures.value ∙ c.in_ok-rows.ensures.rows) c.in_ok-text.ensures in
    told_none _ c.as_slice-lines.result.now _ c.is_empty.result is c.is_empty.ensures c.if-is_empty.true

pub returns-in-Ok : goal.returns-in-Ok
returns-in-Ok g c =
    let is = c.as_slice-lines.ensures.value ∙ lines_are c.args.engine.now c.keyspace.result.now _ _ c.keyspace.ensures.keyspace (c.deref.ensures.value ∙ c.in_ok-rows.ensures.rows) c.in_ok-text.ensures in
    told_some _ _ c.as_slice-lines.result.now _ c.is_empty.result is c.is_empty.ensures c.if-is_empty.false (inl c.in-Ok.ensures)

pub returns : goal.returns
returns g c =
    let is = c.as_slice-lines.ensures.value ∙ lines_are c.args.engine.now c.keyspace.result.now _ _ c.keyspace.ensures.keyspace (c.deref.ensures.value ∙ c.in_ok-rows.ensures.rows) c.in_ok-text.ensures in
    told_some _ _ c.as_slice-lines.result.now _ c.is_empty.result is c.is_empty.ensures c.if-is_empty.false (inr c.in-Err.ensures)
