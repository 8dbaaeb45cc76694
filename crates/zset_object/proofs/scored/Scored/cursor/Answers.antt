use Rattle.std.proofs.Common.{List, [], ℕ, Option, unwrap_or, refl, sym, ap, subst, arith}
use Rattle.pack_pairs.specs.Pairs.{IsPairAt}
use Rattle.zset_object.specs.declared.scored.Body.{Body}
use Rattle.zset_object.specs.declared.cursor.Place.TheVariants.{Packed}
use Rattle.zset_object.specs.Items.{IsPlace}
use Rattle.zset_object.proofs.Bodies.{empty_len, pack_len}
use Rattle.zset_object.proofs.Placing.{pack_read}
use Rattle.zset_object.proofs.scored.Scored.cursor.Goals as goal

pub seek-requires-clause-inside : goal.seek-requires-clause-inside
seek-requires-clause-inside g c =
    let m = g.B.BlockStore.blocks c.args.store.now in
    let self = c.args.self.now in
    let many = pack_len m self.limits self.seed self.body c.in-Pack.packed c.in-Pack.is c.requires.body in
    let old = pack_read m self.limits self.body c.in-Pack.packed c.bytes.result.now c.in-Pack.is c.bytes.ensures self.seed c.requires.body in
    omega (arith, many, old.counted, c.len.ensures m c.requires, c.if-rank-len.false)

pub returns-in-Empty : goal.returns-in-Empty
returns-in-Empty g c =
    let m = g.B.BlockStore.blocks c.args.store.now in
    omega (arith, empty_len m c.args.self.now.body c.in-Empty.is, c.len.ensures m c.requires, c.if-rank-len.false)

pub returns-in-Pack : goal.returns-in-Pack
returns-in-Pack g c =
    let m = g.B.BlockStore.blocks c.args.store.now in (
      subst (λ (b : Body). IsPlace m b c.args.rank (Packed c.seek.result)) (sym c.in-Pack.is)
          (subst (λ (bs : List ℕ). IsPairAt bs c.args.rank c.seek.result) (sym (ap (λ (o : Option (List ℕ)). unwrap_or o []) c.bytes.ensures)) c.seek.ensures),
      refl,
    )
