use Rattle.std.proofs.Common.{ap, ◌∙◌, sym, subst, List, ℕ, Err}
use Rattle.plain_world.specs.Worlds.{ListOf}
use Rattle.quicklist.specs.Chain.{elements}
use Rattle.rdb_grammar.specs.Payloads.{texts_on}
use Rattle.rdb_grammar.specs.Strings.{string}
use Rattle.rdb_grammar.specs.Views.{text_of}
use Rattle.rdb_grammar.proofs.PackedExact.{texts_on_decided}
use Rattle.rdb_grammar.proofs.PayloadsExact.{inside_exact}
use Rattle.rdb_grammar.proofs.StringsExact.{string_exact}
use Rattle.rdb_reader.specs.Building.{Makes}
use Rattle.rdb_reader.proofs.Unpacked.{string_fails, payload_stands, payload_broken}
use Rattle.rdb_reader.proofs.nodes.read_elements.Goals as goal

pub returns-in-Err-clause-fills : goal.returns-in-Err-clause-fills
returns-in-Err-clause-fills g c =
    let made = ListOf (elements (g.B.BlockStore.blocks c.args.store.now) c.args.list.now) in
    rw c.refused.ensures
    (string_fails c.args.bytes.now c.args.at (texts_on made) (inside_exact string (texts_on made) string_exact (texts_on_decided made)) c.in-Err.fault.kind c.in-Err.fault.at
    c.in-Err.ensures.fault)

pub returns-in-Ok-unpack_texts-clause-fills : goal.returns-in-Ok-unpack_texts-clause-fills
returns-in-Ok-unpack_texts-clause-fills g c =
    let made = ListOf (elements (g.B.BlockStore.blocks c.args.store.now) c.args.list.now) in
    let new = ListOf (elements (g.B.BlockStore.blocks c.unpack_texts.new.store) c.unpack_texts.new.list) in
    payload_stands c.args.bytes.now c.args.at (texts_on made) (inside_exact string (texts_on made) string_exact (texts_on_decided made)) c.in-Ok.read.1 (text_of c.in-Ok.read.0)
    c.in-Ok.ensures.string new
    (ap ((texts_on made).found) (sym c.text.ensures) ∙ c.in-Ok-unpack_texts.ensures.makes)

pub returns-in-Err-unpack_texts-clause-fills : goal.returns-in-Err-unpack_texts-clause-fills
returns-in-Err-unpack_texts-clause-fills g c =
    let made = ListOf (elements (g.B.BlockStore.blocks c.args.store.now) c.args.list.now) in
    let new = ListOf (elements (g.B.BlockStore.blocks c.unpack_texts.new.store) c.unpack_texts.new.list) in
    payload_broken c.args.bytes.now c.args.at (texts_on made) (inside_exact string (texts_on made) string_exact (texts_on_decided made)) c.in-Ok.read.1 (text_of c.in-Ok.read.0)
    c.in-Ok.ensures.string new c.in-Err-unpack_texts.fault
    (subst (λ (t : List ℕ). Makes ((texts_on made).found t) c.args.at new (Err c.in-Err-unpack_texts.fault)) c.text.ensures c.in-Err-unpack_texts.ensures.makes)
