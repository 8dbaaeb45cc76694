use Rattle.std.proofs.Common.{◌≡◌, None, ap, sym, rules}
use Rattle.std.specs.FinMap.{remove}
use Rattle.blocks.specs.Blocks.{no_step}
use Rattle.expiry.specs.Timed.{moments}
use Rattle.expiry.specs.Timed.{Grows, KeepsCursor}
use Rattle.held.specs.Databases.{Bases, deadlines_at}
use Rattle.held.specs.Table.{Keyed}
use Rattle.held.proofs.Maps.{same_deadline}
use Rattle.held.proofs.Tables.{in_place}
use Rattle.held.proofs.Timing.{moments_lack}
use Rattle.held.proofs.databases.Databases.clear_deadline.Goals as goal

pub returns-else-not-has_no_deadline-clause-moments : goal.returns-else-not-has_no_deadline-clause-moments
returns-else-not-has_no_deadline-clause-moments g c =
    let m = g.B.BlockStore.blocks c.args.store.now in
    sym (same_deadline (moments m (deadlines_at c.args.self.now c.args.db)) c.args.key.now None
    (moments_lack m (deadlines_at c.args.self.now c.args.db) c.args.key.now c.requires.keyed (c.has_no_deadline.ensures (search rules) m c.args.key.now c.requires.keyed)))

pub returns-else-not-has_no_deadline-clause-grown : goal.returns-else-not-has_no_deadline-clause-grown
returns-else-not-has_no_deadline-clause-grown g c = no_step

pub returns-then-not-has_no_deadline-clause-grown : goal.returns-then-not-has_no_deadline-clause-grown
returns-then-not-has_no_deadline-clause-grown g c =
    let m = g.B.BlockStore.blocks c.args.store.now in
    in_place c.self.inside.bases.items c.args.self.now c.args.db c.index_mut.result.now _ (λ old new. Grows m old.deadlines new.deadlines)
    (ap (λ (b : Bases _). b.bases) c.self.view_is) c.requires.db c.index_mut.ensures.value c.clear_hashed-was.ensures.grown

pub returns-then-not-has_no_deadline-clause-cursor : goal.returns-then-not-has_no_deadline-clause-cursor
returns-then-not-has_no_deadline-clause-cursor g c =
    let m = g.B.BlockStore.blocks c.args.store.now in
    in_place c.self.inside.bases.items c.args.self.now c.args.db c.index_mut.result.now _ (λ old new. KeepsCursor old.deadlines new.deadlines)
    (ap (λ (b : Bases _). b.bases) c.self.view_is) c.requires.db c.index_mut.ensures.value c.clear_hashed-was.ensures.cursor

pub returns-then-not-has_no_deadline-clause-moments : goal.returns-then-not-has_no_deadline-clause-moments
returns-then-not-has_no_deadline-clause-moments g c =
    let m = g.B.BlockStore.blocks c.args.store.now in
    in_place c.self.inside.bases.items c.args.self.now c.args.db c.index_mut.result.now _ (λ old new. moments m new.deadlines ≡ remove (moments m old.deadlines) c.args.key.now)
    (ap (λ (b : Bases _). b.bases) c.self.view_is) c.requires.db c.index_mut.ensures.value c.clear_hashed-was.ensures.moments

pub returns-then-not-has_no_deadline-clause-keyed : goal.returns-then-not-has_no_deadline-clause-keyed
returns-then-not-has_no_deadline-clause-keyed g c =
    let m = g.B.BlockStore.blocks c.args.store.now in
    in_place c.self.inside.bases.items c.args.self.now c.args.db c.index_mut.result.now _ (λ old new. Keyed m new.deadlines.table)
    (ap (λ (b : Bases _). b.bases) c.self.view_is) c.requires.db c.index_mut.ensures.value c.clear_hashed-was.ensures.keyed
