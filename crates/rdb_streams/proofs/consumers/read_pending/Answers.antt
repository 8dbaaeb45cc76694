use Rattle.std.proofs.Common.{◌≡◌, true, false, not, sym, ap, subst, ◌∙◌}
use Rattle.std.specs.Prelude.{is_none}
use Rattle.std.specs.FinMap.{get}
use Rattle.rdb_grammar.specs.Places.{Stands}
use Rattle.rdb_grammar.specs.StreamParts.{Begun, with_unclaimed}
use Rattle.rdb_grammar.specs.Views.{pair_of, handed_of}
use Rattle.rdb_streams.specs.Claims.{Claims}
use Rattle.rdb_streams.proofs.Claimed.{none_some, pending_twice, handed_fails, pending_put}
use Rattle.rdb_streams.proofs.consumers.read_pending.Goals as goal

pub returns-then-contains : goal.returns-then-contains
returns-then-contains c group =
    let made : Begun = record { group = group; unclaimed = c.args.unclaimed.now } in
    let id = pair_of c.in-Ok.read.0 in
    let old : is_none (get made.unclaimed id) ≡ false = none_some _ c.contains.result c.contains.ensures ∙ ap not c.if-contains.true in
    rw c.no_group.ensures (pending_twice c.args.bytes.now c.args.at made c.in-Ok.read.1 id c.in-Ok.ensures.id old)

pub returns-in-Err-next_handed : goal.returns-in-Err-next_handed
returns-in-Err-next_handed c group =
    let made : Begun = record { group = group; unclaimed = c.args.unclaimed.now } in
    let id = pair_of c.in-Ok.read.0 in
    let new : is_none (get made.unclaimed id) ≡ true = none_some _ c.contains.result c.contains.ensures ∙ ap not c.if-contains.false in
    let fault = c.in-Err-next_handed.fault in
    rw c.refused-in-Err-next_handed.ensures (handed_fails c.args.bytes.now c.args.at made c.in-Ok.read.1 id c.in-Ok.ensures.id new fault.kind fault.at c.in-Err-next_handed.ensures.fault)

pub returns-in-Ok-put : goal.returns-in-Ok-put
returns-in-Ok-put c group =
    let made : Begun = record { group = group; unclaimed = c.args.unclaimed.now } in
    let id = pair_of c.in-Ok.read.0 in
    let new : is_none (get made.unclaimed id) ≡ true = none_some _ c.contains.result c.contains.ensures ∙ ap not c.if-contains.false in
    let last = c.in-Ok-next_handed.read.1 in
    subst (λ (u : Claims). Stands (with_unclaimed made) (record { group = group; unclaimed = u }) c.args.bytes.now c.args.at last) (sym c.in-Ok-put.ensures.ok)
    (pending_put c.args.bytes.now c.args.at made c.in-Ok.read.1 id c.in-Ok.ensures.id new (handed_of c.in-Ok-next_handed.read.0) last c.in-Ok-next_handed.ensures.handed)
