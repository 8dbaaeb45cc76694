use Rattle.std.proofs.Common.{◌≡◌, refl, sym, subst}
use Rattle.rehash_dict.specs.Table.{Table, item}
use Rattle.rehash_dict.specs.Placed.{IsPlaced}
use Rattle.rehash_dict.specs.ScanPlaces.{place_in}
use Rattle.rev_cursor.specs.Span.{Span}
use Rattle.scan_cursor.specs.Page.{scan_list}
use Rattle.keyspace.specs.Shown.{PassesAt, Sifted, move_at, after}
use Rattle.keyspace.proofs.PageParts.{if_ok}
use Rattle.plain_model.specs.Scans.{keys_sought}
use Rattle.cmd_keys.proofs.Paging.{paged_listed}
use Rattle.cmd_keys.proofs.keys.scanning.scan.Goals as goal

pub returns-clause-page : goal.returns-clause-page
returns-clause-page g c =
    let m = g.B.BlockStore.blocks c.args.keyspace.now.store in
    let P = PassesAt c.args.keyspace.now.bases m c.args.at.now (keys_sought c.args.at.now.db c.args.options.now) in
    let sifted = subst (λ l. Sifted P l c.in_ok-names.names.items) c.as_slice.ensures.value c.in_ok-names.ensures in
    let span = c.in_ok-met.ensures.span (λ i. place_in (item c.table.result.now i))
    (record { placed = subst (λ (t : Table _). IsPlaced t) (sym c.table.ensures) (c.requires.ready.sound.arranged.keyed c.args.at.now.db).placed; places = λ i. refl }) in
    if_ok _ _ c.page_reply.result
    (λ reply is. (
      c.in_ok-met.met.next,
      c.in_ok-names.names.items,
      paged_listed c.args.keyspace.now.bases m c.args.at.now c.requires.ready.db c.requires.ready.sound c.args.options.now c.args.cursor c.in_ok-met.met.next c.in_ok-met.met.items.items
          c.in_ok-names.names.items c.page_reply.ensures.fits
          (subst (λ (t : Table _). Span (λ i. place_in (item t i)) c.args.cursor c.in_ok-met.met.next c.in_ok-met.met.items.items) c.table.ensures span) sifted,
      is,
    ))
    c.page_reply.ensures.is

pub returns-clause-table : goal.returns-clause-table
returns-clause-table g c =
    let m = g.B.BlockStore.blocks c.args.keyspace.now.store in
    let P = PassesAt c.args.keyspace.now.bases m c.args.at.now (keys_sought c.args.at.now.db c.args.options.now) in
    if_ok _ _ c.page_reply.result
    (λ reply is. record {
      items = c.in_ok-met.met.items.items;
      next = c.in_ok-met.met.next;
      names = c.in_ok-names.names.items;
      moves = subst (λ (t : Table _). scan_list (move_at t) (after t) c.args.cursor c.args.options.now.count ≡ (c.in_ok-met.met.items.items, c.in_ok-met.met.next)) c.table.ensures
          c.in_ok-met.ensures.list;
      sifted = subst (λ l. Sifted P l c.in_ok-names.names.items) c.as_slice.ensures.value c.in_ok-names.ensures;
      is = is;
    })
    c.page_reply.ensures.is
