use Rattle.std.proofs.Common.{List, ℕ, subst, refl}
use Rattle.plain_world.specs.Worlds.{ListOf}
use Rattle.quicklist.specs.Chain.{elements}
use Rattle.rdb_grammar.specs.Payloads.{texts_on}
use Rattle.rdb_reader.specs.Building.{Makes}
use Rattle.rdb_reader.proofs.Unpacked.{makes_as, texts_made, no_texts}
use Rattle.rdb_reader.proofs.nodes.unpack_texts.Goals as goal

pub returns-in-Ok-clause-makes : goal.returns-in-Ok-clause-makes
returns-in-Ok-clause-makes g c =
    let made = ListOf (elements (g.B.BlockStore.blocks c.args.store.now) c.args.list.now) in
    let new = ListOf (elements (g.B.BlockStore.blocks c.take_texts.new.store) c.take_texts.new.list) in
    let told = texts_made c.in-Ok.pack.bytes.now made c.in-Ok.pack.packed in
    subst (λ (bytes : List ℕ). Makes ((texts_on made).found bytes) c.args.at new c.take_texts.result) c.in-Ok.ensures.bytes
    (makes_as ((texts_on made).found c.in-Ok.pack.bytes.now) _ c.args.at new c.take_texts.result told c.take_texts.ensures.makes)

pub returns-in-Err-clause-makes : goal.returns-in-Err-clause-makes
returns-in-Err-clause-makes g c =
    let made = ListOf (elements (g.B.BlockStore.blocks c.args.store.now) c.args.list.now) in
    rw c.no_payload.ensures (no_texts c.args.payload.now made _ c.in-Err.ensures.fault, refl)
