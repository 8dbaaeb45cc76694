use Rattle.stored.specs.Owning.{IsBlank}
use Rattle.std.proofs.Common.{ap, ◌∙◌, sym, subst}
use Rattle.held.proofs.Relocating.{out_owned, value_relocates, value_passes}
use Rattle.held.proofs.keyspace.Keyspace.pass_value.Goals as goal

pub relocate_part-moved-requires-clause-owned : goal.relocate_part-moved-requires-clause-owned
relocate_part-moved-requires-clause-owned g c =
    out_owned g.V.Stored.refs_of g.V.Stored.value_of g.met.V.Stored.reads_own c.args.self.now.bases c.swap_value-value.new.self c.args.db c.args.at
    (g.B.BlockStore.blocks c.args.self.now.store) c.requires.intact
    c.swap_value-value.ensures.changes c.swap_value-value.result c.zero.result (subst (IsBlank g.V.Stored.refs_of g.V.Stored.IsSound) (sym c.zero.ensures) g.met.V.Stored.is_blank)
    c.swap_value-value.ensures.swaps
    (c.swap_value-value.ensures.keyed (g.B.BlockStore.blocks c.args.self.now.store) (c.requires.intact.arranged.keyed c.args.db))

pub relocate_part-moved-requires-clause-sound : goal.relocate_part-moved-requires-clause-sound
relocate_part-moved-requires-clause-sound g c = (
  c.args.self.now.bases.limits,
  c.args.self.now.bases.seed,
  c.requires.intact.arranged.values c.args.db c.args.at
      (record { key = c.swap_value-value.ensures.swaps.key; hash = c.swap_value-value.ensures.swaps.hash; value = c.swap_value-value.result }) c.swap_value-value.ensures.swaps.found,
)

pub returns-clause-relocates : goal.returns-clause-relocates
returns-clause-relocates g c =
    value_relocates g.V.Stored.refs_of g.V.Stored.value_of g.met.V.Stored.reads_own c.args.self.now.bases c.swap_value-value.new.self c.args.db c.args.at
    (g.B.BlockStore.blocks c.args.self.now.store) c.requires.intact
    c.swap_value-value.ensures.changes c.swap_value-value.result c.zero.result (subst (IsBlank g.V.Stored.refs_of g.V.Stored.IsSound) (sym c.zero.ensures) g.met.V.Stored.is_blank)
    c.swap_value-value.ensures.swaps
    (c.swap_value-value.ensures.keyed (g.B.BlockStore.blocks c.args.self.now.store) (c.requires.intact.arranged.keyed c.args.db))
    c.swap_value-zero.new.self (g.B.BlockStore.blocks c.relocate_part-moved.new.store) c.relocate_part-moved.new.self c.swap_value-zero.result c.swap_value-zero.ensures.changes
    c.swap_value-zero.ensures.swaps
    (c.swap_value-zero.ensures.keyed (g.B.BlockStore.blocks c.relocate_part-moved.new.store)) (c.swap_value-value.ensures.tables (g.B.BlockStore.blocks c.args.self.now.store))
    (c.swap_value-zero.ensures.tables (g.B.BlockStore.blocks c.relocate_part-moved.new.store))
    c.relocate_part-moved.ensures.changes c.relocate_part-moved.ensures.means c.relocate_part-moved.ensures.sound

pub returns-clause-passes : goal.returns-clause-passes
returns-clause-passes g c =
    value_passes g.V.Stored.refs_of g.V.Stored.value_of g.met.V.Stored.reads_own c.args.self.now.bases c.swap_value-value.new.self c.args.db c.args.at
    (g.B.BlockStore.blocks c.args.self.now.store) c.requires.intact
    c.swap_value-value.ensures.changes c.swap_value-value.result c.zero.result (subst (IsBlank g.V.Stored.refs_of g.V.Stored.IsSound) (sym c.zero.ensures) g.met.V.Stored.is_blank)
    c.swap_value-value.ensures.swaps
    (c.swap_value-value.ensures.keyed (g.B.BlockStore.blocks c.args.self.now.store) (c.requires.intact.arranged.keyed c.args.db))
    c.swap_value-zero.new.self (g.B.BlockStore.blocks c.relocate_part-moved.new.store) c.relocate_part-moved.new.self c.swap_value-zero.result c.swap_value-zero.ensures.changes
    c.swap_value-zero.ensures.swaps
    (c.swap_value-zero.ensures.keyed (g.B.BlockStore.blocks c.relocate_part-moved.new.store)) (c.swap_value-value.ensures.tables (g.B.BlockStore.blocks c.args.self.now.store))
    (c.swap_value-zero.ensures.tables (g.B.BlockStore.blocks c.relocate_part-moved.new.store))
    c.relocate_part-moved.ensures.changes c.relocate_part-moved.ensures.means c.relocate_part-moved.ensures.sound
    g.V.Stored.marks g.V.Stored.tables g.V.Stored.encoding (g.B.BlockStore.heap c.args.self.now.store) (g.B.BlockStore.heap c.relocate_part-moved.new.store) c.args.from c.args.room
    c.relocate_part-moved.result c.relocate_part-moved.ensures
