use Rattle.std.proofs.Common.{◌≡◌, ℕ, List, ◌∷◌, length, flat_map, is_some, IfOk, ap, subst}
use Rattle.std.specs.Prelude.{IsSome}
use Rattle.hash_object.specs.Fields.{IsFields}
use Rattle.hash_object.specs.Items.{pair_at}
use Rattle.picking.proofs.Elements.{are_real}
use Rattle.plain_world.specs.declared.reply.Part.TheVariants.{Array}
use Rattle.cmd_hashes.specs.declared.listing.Told.{Told}
use Rattle.cmd_hashes.specs.Listed.{told_of, replies_of}
use Rattle.cmd_hashes.specs.Picked.{pairs_of, first_told}
use Rattle.cmd_hashes.proofs.Picking.{one_told, many_told}
use Rattle.cmd_hashes.proofs.random.random_reply.Goals as goal

pub returns-in-None : goal.returns-in-None
returns-in-None g c =
    let m = g.B.BlockStore.blocks c.args.store.now in
    let hash = c.args.hash.now in
    one_told m hash c.requires.sound c.args.n c.args.with_values c.in_ok-items.items.items c.in_ok-items.ensures c.first_reply.result c.in-None.is
    (subst (λ (l : List ℕ). IfOk c.first_reply.result (λ reply. reply ≡ first_told (pairs_of (λ at. pair_at m hash at) l))) c.deref.ensures.value c.first_reply.ensures)

pub returns : goal.returns
returns g c =
    let m = g.B.BlockStore.blocks c.args.store.now in
    let hash = c.args.hash.now in
    let items = c.in_ok-items.items.items in
    let real = are_real (λ blocks. IsFields blocks hash) (λ blocks at. IsSome (pair_at blocks hash at)) c.args.n items c.in_ok-items.ensures m c.requires.sound in
    many_told m hash c.requires.sound c.args.n c.args.with_values items c.in_ok-items.ensures c.items_reply.result (ap is_some c.in-Some.is) real
    (subst (λ (t : Told). IfOk c.items_reply.result (λ reply. reply ≡ Array (replies_of t (length items)) ∷ flat_map (told_of t) (pairs_of (λ at. pair_at m hash at) items))) c.told_of_picks.ensures
    (subst
    (λ (l : List ℕ). IfOk c.items_reply.result
    (λ reply. reply ≡ Array (replies_of c.told_of_picks.result (length l)) ∷ flat_map (told_of c.told_of_picks.result) (pairs_of (λ at. pair_at m hash at) l)))
    c.deref-in-Some.ensures.value c.items_reply.ensures))
