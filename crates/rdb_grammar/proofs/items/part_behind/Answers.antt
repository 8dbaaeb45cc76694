use Rattle.std.proofs.Common.{rules, ◌≡◌, ℕ, false, refl, sym, subst}
use Rattle.std.specs.Prelude.{◌==◌}
use Rattle.rdb_grammar.specs.Codes as code
use Rattle.rdb_grammar.specs.Format.{Branch, branch_read, turned}
use Rattle.rdb_grammar.specs.Items.{Part, Whole, whole_behind, part_behind}
use Rattle.rdb_grammar.specs.Returns.{Returns}
use Rattle.rdb_grammar.specs.Views.{part_said}
use Rattle.rdb_grammar.proofs.items.part_behind.Goals as goal

-- a byte that is no type of a collection
record NoCollection (b : ℕ) : Type 0 where
  list : (b == code.list) ≡ false
  set : (b == code.set) ≡ false
  hash : (b == code.hash) ≡ false
  sorted_set : (b == code.sorted_set) ≡ false
  intset : (b == code.intset) ≡ false
  packed_set : (b == code.packed_set) ≡ false
  packed_hash : (b == code.packed_hash) ≡ false
  packed_sorted_set : (b == code.packed_sorted_set) ≡ false
  list_of_nodes : (b == code.list_of_nodes) ≡ false
  stream : (b == code.stream) ≡ false
  second_stream : (b == code.second_stream) ≡ false
  third_stream : (b == code.third_stream) ≡ false

-- begins what has no other parts
is_whole : (b : ℕ) → NoCollection b → part_behind b ≡ turned Whole (whole_behind b)
is_whole b n =
    rw n.list (rw n.set (rw n.hash (rw n.sorted_set (rw n.intset (rw n.packed_set (rw n.packed_hash (rw n.packed_sorted_set (rw n.list_of_nodes (rw n.stream (rw n.second_stream
    (rw n.third_stream refl)))))))))))

pub returns-in_default : goal.returns-in_default
returns-in_default c =
    let none : NoCollection c.args.first = search rules in
    let R : Branch Part → Type 0 = λ branch. Returns (λ x. (part_said x.0, x.1.now)) c.whole_behind.result (branch_read branch c.args.rest.now) in
    subst R (sym (is_whole c.args.first none)) c.whole_behind.ensures
