use Rattle.stored.specs.Owning.{IsBlank}
use Rattle.std.proofs.Common.{refl, ap, ◌∙◌, sym, subst}
use Rattle.held.proofs.Calls.{lifts, lifted_sound}
use Rattle.held.specs.Scopes.{one_key}
use Rattle.held.proofs.Within.{within_swaps}
use Rattle.held.proofs.Tables.{some_bytes}
use Rattle.held.proofs.Calls.{swapped_key}
use Rattle.held.proofs.keyspace.Keyspace.lift_at.Goals as goal

pub returns-clause-lifts : goal.returns-clause-lifts
returns-clause-lifts g c key moment there =
    lifts g.V.Stored.refs_of g.V.Stored.value_of g.met.V.Stored.reads_own c.args.self.now.bases c.swap_value-value.new.self c.args.db (g.B.BlockStore.blocks c.args.self.now.store)
    c.swap_value-value.ensures.changes c.args.at c.swap_value-value.result c.zero.result
    (subst (IsBlank g.V.Stored.refs_of g.V.Stored.IsSound) (sym c.zero.ensures) g.met.V.Stored.is_blank) g.V.Stored.vacant c.zero.ensures c.swap_value-value.ensures.swaps
    (c.swap_value-value.ensures.keyed (g.B.BlockStore.blocks c.args.self.now.store) (c.requires.intact.arranged.keyed c.args.db))
    c.requires.intact key moment there _ refl

pub returns-clause-sound : goal.returns-clause-sound
returns-clause-sound g c key moment there =
    lifted_sound g.V.Stored.refs_of g.V.Stored.value_of g.met.V.Stored.reads_own c.args.self.now.bases c.swap_value-value.new.self c.args.db (g.B.BlockStore.blocks c.args.self.now.store)
    c.swap_value-value.ensures.changes c.args.at c.swap_value-value.result c.zero.result
    (subst (IsBlank g.V.Stored.refs_of g.V.Stored.IsSound) (sym c.zero.ensures) g.met.V.Stored.is_blank) g.V.Stored.vacant c.zero.ensures c.swap_value-value.ensures.swaps
    (c.swap_value-value.ensures.keyed (g.B.BlockStore.blocks c.args.self.now.store) (c.requires.intact.arranged.keyed c.args.db))
    c.requires.intact key moment there

pub returns-clause-within : goal.returns-clause-within
returns-clause-within g c key moment there =
    within_swaps g.V.Stored.refs_of (one_key c.args.db key) c.args.self.now.bases c.swap_value-value.new.self (g.B.BlockStore.blocks c.args.self.now.store) c.args.db refl
    c.swap_value-value.ensures.changes c.args.at c.swap_value-value.result c.zero.result c.swap_value-value.ensures.swaps
    (c.swap_value-value.ensures.tables (g.B.BlockStore.blocks c.args.self.now.store)) (
      refl,
      some_bytes (g.B.BlockStore.blocks c.args.self.now.store) c.swap_value-value.ensures.swaps.key key
          (swapped_key g.V.Stored.refs_of g.V.Stored.value_of g.met.V.Stored.reads_own c.args.self.now.bases c.swap_value-value.new.self c.args.db
          (g.B.BlockStore.blocks c.args.self.now.store) c.swap_value-value.ensures.changes c.args.at c.swap_value-value.result c.zero.result c.swap_value-value.ensures.swaps
          (c.swap_value-value.ensures.keyed (g.B.BlockStore.blocks c.args.self.now.store) (c.requires.intact.arranged.keyed c.args.db)) c.requires.intact.arranged key there.stands),
    )
