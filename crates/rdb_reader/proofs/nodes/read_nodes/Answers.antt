use Rattle.std.proofs.Common.{sym, ap, subst, ◌∙◌}
use Rattle.object_codec.specs.Forms.{IsLeast, FitsList}
use Rattle.plain_world.specs.Worlds.{ListOf}
use Rattle.plain_world.specs.Worlds as model
use Rattle.quicklist.specs.Chain as chain
use Rattle.quicklist.specs.Nodes.{pack_len}
use Rattle.keyspace.specs.declared.value.Value.{Value}
use Rattle.keyspace.specs.Values.{value_of}
use Rattle.rdb_grammar.specs.Format.{in_turn}
use Rattle.rdb_grammar.specs.Layouts.{with_node}
use Rattle.rdb_reader.specs.Building.{Reads}
use Rattle.rdb_reader.specs.Forms.{IsNew}
use Rattle.rdb_reader.proofs.Elements.{on_ok}
use Rattle.rdb_reader.proofs.nodes.read_nodes.Goals as goal

pub returns-clause-fills : goal.returns-clause-fills
returns-clause-fills g c =
    let m = g.B.BlockStore.blocks c.args.store.now in
    let was = ap (value_of m) c.in-List.is ∙ ap (λ x. ListOf (chain.elements m x)) (sym c.deref_mut.ensures.value) in
    subst
    (λ (v : model.Value). Reads (in_turn with_node c.args.count v) c.args.bytes.now c.args.at
    (ListOf (chain.elements (g.B.BlockStore.blocks c.read_list.new.store) c.read_list.new.list)) c.read_list.result) (sym was) c.read_list.ensures.fills

pub returns-clause-form : goal.returns-clause-form
returns-clause-form g c = on_ok c.read_list.result (λ rises. λ limits seed sound news.
    let m = g.B.BlockStore.blocks c.args.store.now in
    let same = c.deref_mut.ensures.value in
    let least = subst (λ (v : Value). IsNew limits m v) c.in-List.is news in
    rises (subst (λ x. IsLeast (FitsList (pack_len (chain.elements m x))) x.form) (sym same) least)) c.read_list.ensures.form
