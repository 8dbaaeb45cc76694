use Rattle.std.proofs.Common.{◌≡◌, ℕ, List, Ok, Err, refl, subst}
use Rattle.stream_node.specs.Views.{entries}
use Rattle.rdb_grammar.specs.declared.fault.LoadKind.TheVariants as kinds
use Rattle.rdb_grammar.specs.StreamParts.{stored_in}
use Rattle.rdb_grammar.proofs.NodesRead.{is_read, no_pack, no_node}
use Rattle.rdb_grammar.proofs.stream_nodes.node_of.Goals as goal

pub returns-in-Err-clause-fault : goal.returns-in-Err-clause-fault
returns-in-Err-clause-fault c = no_pack c.args.key c.args.payload.now c.in-Err.field-0 c.in-Err.ensures.fault

pub returns-in-Ok-check-clause-found : goal.returns-in-Ok-check-clause-found
returns-in-Ok-check-clause-found c =
    let bytes = c.in-Ok.pack.bytes.now in
    let es = entries c.in-Ok-check.node in
    subst (λ (x : List ℕ). (stored_in c.args.key).found x ≡ Ok es) c.in-Ok.ensures.bytes
    (is_read c.args.key bytes es c.in-Ok.pack.packed (c.in-Ok-check.ensures.ok.0 refl) c.in-Ok-check.ensures.entries)

pub returns-in-Err-check-clause-fault : goal.returns-in-Err-check-clause-fault
returns-in-Err-check-clause-fault c =
    let bytes = c.in-Ok.pack.bytes.now in
    subst (λ (x : List ℕ). (stored_in c.args.key).found x ≡ Err kinds.StreamShape) c.in-Ok.ensures.bytes
    (no_node c.args.key bytes c.in-Err-check.field-0 c.in-Ok.pack.packed c.in-Err-check.ensures.fault)
