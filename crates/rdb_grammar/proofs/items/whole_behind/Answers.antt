use Rattle.std.proofs.Common.{rules, ◌≡◌, ℕ, false, refl, sym, subst}
use Rattle.std.specs.Prelude.{◌==◌, ◌||◌}
use Rattle.rdb_grammar.specs.Codes as code
use Rattle.rdb_grammar.specs.Format.{Branch, branch_read, turned}
use Rattle.rdb_grammar.specs.Items.{Item, Whole, keyed, whole_behind}
use Rattle.rdb_grammar.specs.Values.{value_behind}
use Rattle.rdb_grammar.specs.Returns.{Returns}
use Rattle.rdb_grammar.specs.Views.{part_said}
use Rattle.rdb_grammar.proofs.items.whole_behind.Goals as goal

-- a byte that is no opcode
record NoOpcode (b : ℕ) : Type 0 where
  functions : (b == code.function || b == code.old_function) ≡ false
  module_data : (b == code.module_data) ≡ false
  idle : (b == code.idle) ≡ false
  frequency : (b == code.frequency) ≡ false
  auxiliary : (b == code.auxiliary) ≡ false
  sizes : (b == code.sizes) ≡ false
  deadline_ms : (b == code.deadline_ms) ≡ false
  deadline : (b == code.deadline) ≡ false
  select_db : (b == code.select_db) ≡ false
  eof : (b == code.eof) ≡ false

-- is the type of a value
is_type : (b : ℕ) → NoOpcode b → whole_behind b ≡ keyed (value_behind b)
is_type b n =
    rw n.functions (rw n.module_data (rw n.idle (rw n.frequency (rw n.auxiliary (rw n.sizes (rw n.deadline_ms (rw n.deadline (rw n.select_db (rw n.eof refl)))))))))

pub returns-in_default : goal.returns-in_default
returns-in_default c =
    let none : NoOpcode c.args.first = search rules in
    let R : Branch Item → Type 0 = λ branch. Returns (λ x. (part_said x.0, x.1.now)) c.value_behind.result (branch_read (turned Whole branch) c.args.rest.now) in
    subst R (sym (is_type c.args.first none)) c.value_behind.ensures
