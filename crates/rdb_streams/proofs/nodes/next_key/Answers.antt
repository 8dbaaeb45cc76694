use Rattle.std.proofs.Common.{◌≡◌, ◌∙◌, sym, ap, length, false}
use Rattle.std.specs.Prelude.{◌==◌}
use Rattle.stream_node.specs.Ids.{key_id}
use Rattle.rdb_grammar.specs.Views.{text_of}
use Rattle.rdb_streams.proofs.NodeParts.{key_stands, key_refused, key_fails}
use Rattle.rdb_streams.proofs.nodes.next_key.Goals as goal

pub returns-in-Err-clause-fault : goal.returns-in-Err-clause-fault
returns-in-Err-clause-fault c = key_fails c.args.bytes.now c.args.at c.in-Err.fault.kind c.in-Err.fault.at c.requires c.in-Err.ensures.fault

pub returns-in-Some-clause-key : goal.returns-in-Some-clause-key
returns-in-Some-clause-key c =
    let text = text_of c.in-Ok.read.0 in
    let long : length text ≡ 16 = ap length (sym c.text.ensures) ∙ c.in-Some.ensures.some.0 in
    let is : c.in-Some.key ≡ key_id text = c.in-Some.ensures.some.1 ∙ ap key_id c.text.ensures in
    key_stands c.args.bytes.now c.args.at c.in-Ok.read.1 text c.in-Some.key c.in-Ok.ensures.string long is

pub returns-in-None-clause-fault : goal.returns-in-None-clause-fault
returns-in-None-clause-fault c =
    let text = text_of c.in-Ok.read.0 in
    let short : (length text == 16) ≡ false = ap (λ x. length x == 16) (sym c.text.ensures) ∙ c.in-None.ensures.none in
    key_refused c.args.bytes.now c.args.at c.in-Ok.read.1 text c.requires c.in-Ok.ensures.string short
