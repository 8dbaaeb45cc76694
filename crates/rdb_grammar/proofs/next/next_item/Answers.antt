use Rattle.std.proofs.Common.{ℕ, List}
use Rattle.rdb_grammar.specs.Returns.{OfItem, OfSum, IsPartAt, IsItemAt}
use Rattle.rdb_grammar.specs.Views.{text_of, key_of}
use Rattle.rdb_grammar.specs.declared.values.FileValue.{FileValue}
use Rattle.rdb_grammar.specs.declared.values.FileValue.TheVariants as values
use Rattle.rdb_grammar.proofs.next.next_item.Goals as goal

-- a key is no end of the items
key_stands : (bytes : List ℕ) (at next : ℕ) (name : List ℕ) (value : FileValue) → IsPartAt bytes at next (key_of name value) → IsItemAt bytes at next (key_of name value)
key_stands bytes at next name (values.Text chunk) stands = stands
key_stands bytes at next name (values.Laid layout) stands = stands

pub returns-in-Err-clause-fault : goal.returns-in-Err-clause-fault
returns-in-Err-clause-fault c = rw c.refused.ensures (OfItem c.in-Err.ensures.fault)

pub returns-in-Ok-check_sum-clause-item : goal.returns-in-Ok-check_sum-clause-item
returns-in-Ok-check_sum-clause-item c =
    (c.in-Ok.item.next, c.in-Ok-check_sum.ensures.summed.0, rw c.in-End.is at c.in-Ok.ensures.item, c.in-Ok-check_sum.ensures.summed.1)

pub returns-in-Err-check_sum-clause-fault : goal.returns-in-Err-check_sum-clause-fault
returns-in-Err-check_sum-clause-fault c = rw c.refused-in-Err-check_sum.ensures (OfSum c.in-Ok.item.next (rw c.in-End.is at c.in-Ok.ensures.item) c.in-Err-check_sum.ensures.fault)

pub returns-in-Key-clause-item : goal.returns-in-Key-clause-item
returns-in-Key-clause-item c =
    rw c.in-Key.is (key_stands c.args.bytes.now c.args.at c.in-Ok.item.next (text_of c.in-Key.name) c.in-Key.value (rw c.in-Key.is at c.in-Ok.ensures.item))
