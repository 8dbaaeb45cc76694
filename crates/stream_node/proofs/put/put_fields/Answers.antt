use Rattle.std.proofs.Common.{◌∷◌, [], List, ℕ, sym, subst, ◌∙◌, ap, arith}
use Rattle.std.specs.List.{flat_map}
use Rattle.std.proofs.lemmas.List.{take_all}
use Rattle.stream_node.specs.Written.{Extends, HasRoom}
use Rattle.stream_node.proofs.Written.{none_put, pair_room, pair_put, field_texts, fields_are}
use Rattle.stream_node.proofs.put.put_fields.Goals as goal

pub loop-index-init : goal.loop-index-init
loop-index-init c = none_put c.args.pack.now.items c.requires.packed

pub put_text-requires-clause-room : goal.put_text-requires-clause-room
put_text-requires-clause-room c =
    let old = c.args.pack.now.items in
    let mid = c.loop-index.pack.items in
    let room = pair_room field_texts c.args.pairs.now old mid c.loop-index.index c.requires.packed (subst (HasRoom old) (sym (fields_are c.args.pairs.now)) c.requires.room)
    c.loop-index.invariant (omega arith) in
    subst (λ (x : List ℕ). HasRoom mid (x ∷ [])) (sym c.field.ensures) room

pub loop-index-preserved : goal.loop-index-preserved
loop-index-preserved c =
    let old = c.args.pack.now.items in
    let mid = c.loop-index.pack.items in
    let new = c.put_text.new.pack.items in
    pair_put field_texts c.args.pairs.now old mid new c.loop-index.index (omega arith) c.loop-index.invariant
    (subst (λ (x : List ℕ). Extends mid new (x ∷ [])) c.field.ensures c.in_ok-put_text.ensures)

pub returns : goal.returns
returns c =
    let old = c.args.pack.now.items in
    let new = c.loop-index.pack.items in
    subst (Extends old new) (ap (flat_map field_texts) (take_all c.loop-index.index c.args.pairs.now (omega arith)) ∙ fields_are c.args.pairs.now) c.loop-index.invariant
