use Rattle.std.proofs.Common.{◌≡◌, List, ℕ, [], Option, Some, IsSome, slice_get, unwrap_or, sym, ap, ◌∙◌, subst}
use Rattle.blocks.specs.Blocks.{Owned}
use Rattle.pack_pairs.specs.Pairs.{Pair, pairs}
use Rattle.hash_object.specs.declared.fields.Body.{Body}
use Rattle.hash_object.specs.Fields.{IsBody, refs_of_body}
use Rattle.hash_object.specs.Items.{pair_in}
use Rattle.hash_object.proofs.Tables.{value_live}
use Rattle.collection_walk.proofs.Lists.{get_is}
use Rattle.hash_object.proofs.fields.Fields.at.Goals as goal

pub bytes-requires : goal.bytes-requires
bytes-requires g c =
    let self = c.args.self.now in
    (subst (IsBody (g.B.BlockStore.blocks c.args.store.now) self.limits self.seed) c.in-Table.is c.requires.sound.body).keyed.live c.args.item _ c.entry.ensures.found

pub bytes-requires-in-Table : goal.bytes-requires-in-Table
bytes-requires-in-Table g c =
    let m = g.B.BlockStore.blocks c.args.store.now in
    value_live m c.in-Table.table c.args.item _ (subst (λ (b : Body). Owned (refs_of_body b) m) c.in-Table.is c.requires.sound.owned) c.entry.ensures.found

pub returns-in-Pack : goal.returns-in-Pack
returns-in-Pack g c =
    let m = g.B.BlockStore.blocks c.args.store.now in
    let at = c.args.item in
    let is : pair_in m c.args.self.now.body at ≡ slice_get (pairs c.bytes-bytes.result.now) at =
    ap (λ (b : Body). pair_in m b at) c.in-Pack.is ∙ ap (λ (o : Option (List ℕ)). slice_get (pairs (unwrap_or o [])) at) c.bytes-bytes.ensures in
    is ∙ get_is (pairs c.bytes-bytes.result.now) at ([], []) (subst (λ (o : Option Pair). IsSome o) is c.requires.entry) ∙ ap (λ (p : Pair). Some p) (sym (c.pair_from.ensures at c.seek.ensures))
