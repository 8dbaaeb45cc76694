use Rattle.std.proofs.Common.{subst, ap, ◌∙◌}
use Rattle.plain_model.specs.Scans.{paged}
use Rattle.keyspace.specs.Sifted.{Sifted, PassesOf}
use Rattle.keyspace.proofs.PageParts.{if_ok}
use Rattle.keyspace.proofs.paging.page_of.Goals as goal

pub returns : goal.returns
returns g c =
    let m = g.B.BlockStore.blocks c.args.keyspace.now.store in
    let P = PassesOf (g.P.Paged.name_at m c.args.target.now) c.args.options.now.pattern in
    let sifts = c.in_ok-words.ensures in
    if_ok _ _ c.page_reply.result
    (λ reply is. record {
      items = c.in_ok-met.met.items.items;
      next = c.in_ok-met.met.next;
      elements = sifts.names;
      fits = c.page_reply.ensures.fits;
      moves = c.in_ok-met.ensures.list;
      span = c.in_ok-met.ensures.span;
      sifted = subst (λ l. Sifted P l sifts.names) c.as_slice-items.ensures.value sifts.sifted;
      is = is ∙ ap (paged c.in_ok-met.met.next) sifts.are;
    })
    c.page_reply.ensures.is
