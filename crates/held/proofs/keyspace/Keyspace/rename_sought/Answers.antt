use Rattle.stored.specs.Owning.{IsBlank}
use Rattle.std.proofs.Common.{is_some, refl, sym, ap, ◌∙◌, subst}
use Rattle.blocks.specs.Blocks.{no_step}
use Rattle.blocks.proofs.Serve.{served_then}
use Rattle.blocks.proofs.Change.{changes_then}
use Rattle.held.proofs.Timing.{some_none}
use Rattle.held.proofs.Calls.{look_lacks, look_stands, deadline_seen}
use Rattle.held.proofs.Renaming.{deadline_late, moved_writes, back_items, out_with, out_look, moved_means, moved_sound, moved_changes, refused_world, refused_sound, refused_same, refused_owns}
use Rattle.held.specs.Scopes.{two_keys}
use Rattle.held.specs.Written.{Carried}
use Rattle.held.proofs.Within.{within_none, within_then}
use Rattle.held.proofs.SoughtKeys.{kept_sought}
use Rattle.held.proofs.Written.{written_none}
use Rattle.held.proofs.Renaming.{placed_within, left_within, back_within}
use Rattle.held.proofs.keyspace.Keyspace.rename_sought.Goals as goal

pub returns-in_default-clause-answer : goal.returns-in_default-clause-answer
returns-in_default-clause-answer g c = ap is_some
    (sym
    (look_lacks g.V.Stored.refs_of g.V.Stored.value_of g.met.V.Stored.reads_own c.args.self.now.bases c.args.db (g.B.BlockStore.blocks c.args.self.now.store) c.requires.intact.arranged
    c.args.from.now (rw c.in_default.is at c.requires.seeks.lacks)))

pub returns-in_default-clause-means : goal.returns-in_default-clause-means
returns-in_default-clause-means g c apart entry is = some_none _ entry is
    (look_lacks g.V.Stored.refs_of g.V.Stored.value_of g.met.V.Stored.reads_own c.args.self.now.bases c.args.db (g.B.BlockStore.blocks c.args.self.now.store) c.requires.intact.arranged
    c.args.from.now (rw c.in_default.is at c.requires.seeks.lacks))

pub returns-in_default-clause-served : goal.returns-in_default-clause-served
returns-in_default-clause-served g c = no_step

pub returns-then-eq-clause-answer : goal.returns-then-eq-clause-answer
returns-then-eq-clause-answer g c = ap is_some
    (sym
    (look_stands g.V.Stored.refs_of g.V.Stored.value_of g.met.V.Stored.reads_own c.args.self.now.bases c.args.db (g.B.BlockStore.blocks c.args.self.now.store) c.requires.intact.arranged
    c.args.from.now c.in-Some.at (rw c.in-Some.is at c.requires.seeks.stands).element (rw c.in-Some.is at c.requires.seeks.stands).found (rw c.in-Some.is at c.requires.seeks.stands).bytes
    _ refl))

pub returns-then-eq-clause-served : goal.returns-then-eq-clause-served
returns-then-eq-clause-served g c = no_step

pub place_sought-requires-clause-latest : goal.place_sought-requires-clause-latest
place_sought-requires-clause-latest g c = deadline_late g.V.Stored.refs_of g.V.Stored.value_of g.met.V.Stored.reads_own c.args.self.now.bases c.args.db
    (g.B.BlockStore.blocks c.args.self.now.store) c.requires.intact.arranged c.args.from.now c.args.found.deadline
    (deadline_seen g.V.Stored.refs_of g.V.Stored.value_of g.met.V.Stored.reads_own c.args.self.now.bases c.args.db (g.B.BlockStore.blocks c.args.self.now.store) c.requires.intact.arranged
    c.args.from.now ∙ sym c.requires.lasts)

pub place_sought-requires-clause-seeks : goal.place_sought-requires-clause-seeks
place_sought-requires-clause-seeks g c =
    kept_sought c.args.self.now.bases c.swap_value-value.new.self c.args.db c.in-Some.at c.swap_value-value.result c.zero.result
    (g.B.BlockStore.blocks c.args.self.now.store) c.swap_value-value.ensures.changes c.swap_value-value.ensures.swaps c.args.to_db c.args.to.now c.args.place c.requires.place

pub place_sought-requires-clause-intact : goal.place_sought-requires-clause-intact
place_sought-requires-clause-intact g c =
    out_with g.V.Stored.refs_of g.V.Stored.value_of g.met.V.Stored.reads_own c.args.self.now.bases c.swap_value-value.new.self c.args.db (g.B.BlockStore.blocks c.args.self.now.store)
    c.requires.intact c.args.from.now c.in-Some.at (rw c.in-Some.is at c.requires.seeks.stands) c.args.found.deadline
    (deadline_seen g.V.Stored.refs_of g.V.Stored.value_of g.met.V.Stored.reads_own c.args.self.now.bases c.args.db (g.B.BlockStore.blocks c.args.self.now.store)
    c.requires.intact.arranged c.args.from.now ∙ sym c.requires.lasts) c.swap_value-value.ensures.changes c.swap_value-value.result c.zero.result
    (subst (IsBlank g.V.Stored.refs_of g.V.Stored.IsSound) (sym c.zero.ensures) g.met.V.Stored.is_blank) c.swap_value-value.ensures.swaps
    (c.swap_value-value.ensures.keyed (g.B.BlockStore.blocks c.args.self.now.store) (c.requires.intact.arranged.keyed c.args.db))

pub returns-in-Ok-clause-absent : goal.returns-in-Ok-clause-absent
returns-in-Ok-clause-absent g c is = some_none _ _
    (out_look g.V.Stored.refs_of g.V.Stored.value_of g.met.V.Stored.reads_own c.args.self.now.bases c.swap_value-value.new.self c.args.db (g.B.BlockStore.blocks c.args.self.now.store)
    c.requires.intact c.args.from.now c.in-Some.at (rw c.in-Some.is at c.requires.seeks.stands) c.args.found.deadline
    (deadline_seen g.V.Stored.refs_of g.V.Stored.value_of g.met.V.Stored.reads_own c.args.self.now.bases c.args.db (g.B.BlockStore.blocks c.args.self.now.store) c.requires.intact.arranged
    c.args.from.now ∙ sym c.requires.lasts) c.swap_value-value.ensures.changes c.swap_value-value.result c.zero.result
    (subst (IsBlank g.V.Stored.refs_of g.V.Stored.IsSound) (sym c.zero.ensures) g.met.V.Stored.is_blank) c.swap_value-value.ensures.swaps
    (c.swap_value-value.ensures.keyed (g.B.BlockStore.blocks c.args.self.now.store) (c.requires.intact.arranged.keyed c.args.db))) is

pub returns-in-Err-clause-absent : goal.returns-in-Err-clause-absent
returns-in-Err-clause-absent g c is = some_none _ _
    (out_look g.V.Stored.refs_of g.V.Stored.value_of g.met.V.Stored.reads_own c.args.self.now.bases c.swap_value-value.new.self c.args.db (g.B.BlockStore.blocks c.args.self.now.store)
    c.requires.intact c.args.from.now c.in-Some.at (rw c.in-Some.is at c.requires.seeks.stands) c.args.found.deadline
    (deadline_seen g.V.Stored.refs_of g.V.Stored.value_of g.met.V.Stored.reads_own c.args.self.now.bases c.args.db (g.B.BlockStore.blocks c.args.self.now.store) c.requires.intact.arranged
    c.args.from.now ∙ sym c.requires.lasts) c.swap_value-value.ensures.changes c.swap_value-value.result c.zero.result
    (subst (IsBlank g.V.Stored.refs_of g.V.Stored.IsSound) (sym c.zero.ensures) g.met.V.Stored.is_blank) c.swap_value-value.ensures.swaps
    (c.swap_value-value.ensures.keyed (g.B.BlockStore.blocks c.args.self.now.store) (c.requires.intact.arranged.keyed c.args.db))) is

pub returns-in-Ok-clause-answer : goal.returns-in-Ok-clause-answer
returns-in-Ok-clause-answer g c = ap is_some
    (sym
    (out_look g.V.Stored.refs_of g.V.Stored.value_of g.met.V.Stored.reads_own c.args.self.now.bases c.swap_value-value.new.self c.args.db (g.B.BlockStore.blocks c.args.self.now.store)
    c.requires.intact c.args.from.now c.in-Some.at (rw c.in-Some.is at c.requires.seeks.stands) c.args.found.deadline
    (deadline_seen g.V.Stored.refs_of g.V.Stored.value_of g.met.V.Stored.reads_own c.args.self.now.bases c.args.db (g.B.BlockStore.blocks c.args.self.now.store) c.requires.intact.arranged
    c.args.from.now ∙ sym c.requires.lasts) c.swap_value-value.ensures.changes c.swap_value-value.result c.zero.result
    (subst (IsBlank g.V.Stored.refs_of g.V.Stored.IsSound) (sym c.zero.ensures) g.met.V.Stored.is_blank) c.swap_value-value.ensures.swaps
    (c.swap_value-value.ensures.keyed (g.B.BlockStore.blocks c.args.self.now.store) (c.requires.intact.arranged.keyed c.args.db))))

pub returns-in-Ok-clause-means : goal.returns-in-Ok-clause-means
returns-in-Ok-clause-means g c =
    moved_means g.V.Stored.refs_of g.V.Stored.value_of g.met.V.Stored.reads_own c.args.self.now.bases c.swap_value-value.new.self c.args.db (g.B.BlockStore.blocks c.args.self.now.store)
    c.requires.intact c.args.from.now c.in-Some.at (rw c.in-Some.is at c.requires.seeks.stands) c.args.found.deadline
    (deadline_seen g.V.Stored.refs_of g.V.Stored.value_of g.met.V.Stored.reads_own c.args.self.now.bases c.args.db (g.B.BlockStore.blocks c.args.self.now.store)
    c.requires.intact.arranged c.args.from.now ∙ sym c.requires.lasts) c.swap_value-value.ensures.changes c.swap_value-value.result c.zero.result
    (subst (IsBlank g.V.Stored.refs_of g.V.Stored.IsSound) (sym c.zero.ensures) g.met.V.Stored.is_blank) c.swap_value-value.ensures.swaps
    (c.swap_value-value.ensures.keyed (g.B.BlockStore.blocks c.args.self.now.store) (c.requires.intact.arranged.keyed c.args.db))
    c.args.to_db c.args.to.now c.place_sought.new.self.bases (g.B.BlockStore.blocks c.place_sought.new.self.store) c.in-Ok.ensures.changes c.in-Ok.ensures.arranged
    c.in-Ok.ensures.means c.drop_hashed-there.new.self.bases (g.B.BlockStore.blocks c.drop_hashed-there.new.self.store) c.drop_hashed-there.ensures.means

pub returns-in-Ok-clause-sound : goal.returns-in-Ok-clause-sound
returns-in-Ok-clause-sound g c out sound =
    c.drop_hashed-there.ensures.sound out
    (moved_sound g.V.Stored.refs_of g.V.Stored.value_of g.met.V.Stored.reads_own c.args.self.now.bases c.swap_value-value.new.self c.args.db
    (g.B.BlockStore.blocks c.args.self.now.store) c.requires.intact c.args.from.now c.in-Some.at (rw c.in-Some.is at c.requires.seeks.stands) c.args.found.deadline
    (deadline_seen g.V.Stored.refs_of g.V.Stored.value_of g.met.V.Stored.reads_own c.args.self.now.bases c.args.db (g.B.BlockStore.blocks c.args.self.now.store)
    c.requires.intact.arranged c.args.from.now ∙ sym c.requires.lasts) c.swap_value-value.ensures.changes c.swap_value-value.result c.zero.result
    (subst (IsBlank g.V.Stored.refs_of g.V.Stored.IsSound) (sym c.zero.ensures) g.met.V.Stored.is_blank) c.swap_value-value.ensures.swaps
    (c.swap_value-value.ensures.keyed (g.B.BlockStore.blocks c.args.self.now.store) (c.requires.intact.arranged.keyed c.args.db))
    c.args.to_db c.args.to.now c.place_sought.new.self.bases (g.B.BlockStore.blocks c.place_sought.new.self.store) c.in-Ok.ensures.changes c.in-Ok.ensures.arranged out sound)

pub returns-in-Ok-clause-changes : goal.returns-in-Ok-clause-changes
returns-in-Ok-clause-changes g c =
    changes_then (g.B.BlockStore.blocks c.args.self.now.store) (g.B.BlockStore.blocks c.place_sought.new.self.store) (g.B.BlockStore.blocks c.drop_hashed-there.new.self.store) _ _ _
    (moved_changes g.V.Stored.refs_of g.V.Stored.value_of g.met.V.Stored.reads_own c.args.self.now.bases c.swap_value-value.new.self c.args.db
    (g.B.BlockStore.blocks c.args.self.now.store) c.requires.intact c.args.from.now c.in-Some.at (rw c.in-Some.is at c.requires.seeks.stands) c.args.found.deadline
    (deadline_seen g.V.Stored.refs_of g.V.Stored.value_of g.met.V.Stored.reads_own c.args.self.now.bases c.args.db (g.B.BlockStore.blocks c.args.self.now.store)
    c.requires.intact.arranged c.args.from.now ∙ sym c.requires.lasts) c.swap_value-value.ensures.changes c.swap_value-value.result c.zero.result
    (subst (IsBlank g.V.Stored.refs_of g.V.Stored.IsSound) (sym c.zero.ensures) g.met.V.Stored.is_blank) c.swap_value-value.ensures.swaps
    (c.swap_value-value.ensures.keyed (g.B.BlockStore.blocks c.args.self.now.store) (c.requires.intact.arranged.keyed c.args.db))
    c.args.to_db c.args.to.now c.place_sought.new.self.bases (g.B.BlockStore.blocks c.place_sought.new.self.store) c.in-Ok.ensures.changes c.in-Ok.ensures.arranged) c.drop_hashed-there.ensures.changes

pub returns-in-Ok-clause-served : goal.returns-in-Ok-clause-served
returns-in-Ok-clause-served g c = served_then _ _ _ c.place_sought.ensures.served c.drop_hashed-there.ensures.served

pub returns-in-Err-clause-err : goal.returns-in-Err-clause-err
returns-in-Err-clause-err g c =
    refused_world g.V.Stored.refs_of g.V.Stored.value_of g.met.V.Stored.reads_own c.args.self.now.bases c.swap_value-value.new.self c.args.db (g.B.BlockStore.blocks c.args.self.now.store)
    c.requires.intact c.args.from.now c.in-Some.at (rw c.in-Some.is at c.requires.seeks.stands) c.args.found.deadline
    (deadline_seen g.V.Stored.refs_of g.V.Stored.value_of g.met.V.Stored.reads_own c.args.self.now.bases c.args.db (g.B.BlockStore.blocks c.args.self.now.store)
    c.requires.intact.arranged c.args.from.now ∙ sym c.requires.lasts) c.swap_value-value.ensures.changes c.swap_value-value.result c.zero.result
    (subst (IsBlank g.V.Stored.refs_of g.V.Stored.IsSound) (sym c.zero.ensures) g.met.V.Stored.is_blank) c.swap_value-value.ensures.swaps
    (c.swap_value-value.ensures.keyed (g.B.BlockStore.blocks c.args.self.now.store) (c.requires.intact.arranged.keyed c.args.db))
    c.args.to_db c.place_sought.new.self.bases (g.B.BlockStore.blocks c.place_sought.new.self.store) c.in-Err.ensures.err_blocks c.in-Err.ensures.err_keys c.in-Err.ensures.err_owned
    c.in-Err.ensures.arranged c.in-Err.ensures.kept c.swap_value-zero.new.self c.in-Err.value c.in-Err.ensures.value_returned c.place_sought.ensures.settings
    c.swap_value-zero.ensures.changes c.swap_value-zero.result c.swap_value-zero.ensures.swaps
    (c.swap_value-zero.ensures.keyed (g.B.BlockStore.blocks c.place_sought.new.self.store) (c.in-Err.ensures.arranged.keyed c.args.db))

pub returns-in-Err-clause-sound : goal.returns-in-Err-clause-sound
returns-in-Err-clause-sound g c =
    refused_sound g.V.Stored.refs_of g.V.Stored.value_of g.met.V.Stored.reads_own c.args.self.now.bases c.swap_value-value.new.self c.args.db (g.B.BlockStore.blocks c.args.self.now.store)
    c.requires.intact c.args.from.now c.in-Some.at (rw c.in-Some.is at c.requires.seeks.stands) c.args.found.deadline
    (deadline_seen g.V.Stored.refs_of g.V.Stored.value_of g.met.V.Stored.reads_own c.args.self.now.bases c.args.db (g.B.BlockStore.blocks c.args.self.now.store)
    c.requires.intact.arranged c.args.from.now ∙ sym c.requires.lasts) c.swap_value-value.ensures.changes c.swap_value-value.result c.zero.result
    (subst (IsBlank g.V.Stored.refs_of g.V.Stored.IsSound) (sym c.zero.ensures) g.met.V.Stored.is_blank) c.swap_value-value.ensures.swaps
    (c.swap_value-value.ensures.keyed (g.B.BlockStore.blocks c.args.self.now.store) (c.requires.intact.arranged.keyed c.args.db))
    c.args.to_db c.place_sought.new.self.bases (g.B.BlockStore.blocks c.place_sought.new.self.store) c.in-Err.ensures.err_blocks c.in-Err.ensures.err_keys c.in-Err.ensures.err_owned
    c.in-Err.ensures.arranged c.in-Err.ensures.kept c.swap_value-zero.new.self c.in-Err.value c.in-Err.ensures.value_returned c.place_sought.ensures.settings
    c.swap_value-zero.ensures.changes c.swap_value-zero.result c.swap_value-zero.ensures.swaps
    (c.swap_value-zero.ensures.keyed (g.B.BlockStore.blocks c.place_sought.new.self.store) (c.in-Err.ensures.arranged.keyed c.args.db))

pub returns-in-Err-clause-changes : goal.returns-in-Err-clause-changes
returns-in-Err-clause-changes g c =
    refused_same g.V.Stored.refs_of g.V.Stored.value_of g.met.V.Stored.reads_own c.args.self.now.bases c.swap_value-value.new.self c.args.db (g.B.BlockStore.blocks c.args.self.now.store)
    c.requires.intact c.args.from.now c.in-Some.at (rw c.in-Some.is at c.requires.seeks.stands) c.args.found.deadline
    (deadline_seen g.V.Stored.refs_of g.V.Stored.value_of g.met.V.Stored.reads_own c.args.self.now.bases c.args.db (g.B.BlockStore.blocks c.args.self.now.store)
    c.requires.intact.arranged c.args.from.now ∙ sym c.requires.lasts) c.swap_value-value.ensures.changes c.swap_value-value.result c.zero.result
    (subst (IsBlank g.V.Stored.refs_of g.V.Stored.IsSound) (sym c.zero.ensures) g.met.V.Stored.is_blank) c.swap_value-value.ensures.swaps
    (c.swap_value-value.ensures.keyed (g.B.BlockStore.blocks c.args.self.now.store) (c.requires.intact.arranged.keyed c.args.db))
    c.args.to_db c.place_sought.new.self.bases (g.B.BlockStore.blocks c.place_sought.new.self.store) c.in-Err.ensures.err_blocks c.in-Err.ensures.err_keys c.in-Err.ensures.err_owned
    c.in-Err.ensures.arranged c.in-Err.ensures.kept c.swap_value-zero.new.self c.in-Err.value c.in-Err.ensures.value_returned c.place_sought.ensures.settings
    c.swap_value-zero.ensures.changes c.swap_value-zero.result c.swap_value-zero.ensures.swaps
    (c.swap_value-zero.ensures.keyed (g.B.BlockStore.blocks c.place_sought.new.self.store) (c.in-Err.ensures.arranged.keyed c.args.db))

pub returns-in_default-clause-within : goal.returns-in_default-clause-within
returns-in_default-clause-within g c = within_none g.V.Stored.refs_of (two_keys c.args.db c.args.from.now c.args.to_db c.args.to.now) c.args.self.now.bases
    (g.B.BlockStore.blocks c.args.self.now.store)

pub returns-then-eq-clause-within : goal.returns-then-eq-clause-within
returns-then-eq-clause-within g c = within_none g.V.Stored.refs_of (two_keys c.args.db c.args.from.now c.args.to_db c.args.to.now) c.args.self.now.bases (g.B.BlockStore.blocks c.args.self.now.store)

pub returns-in-Ok-clause-within : goal.returns-in-Ok-clause-within
returns-in-Ok-clause-within g c =
    within_then g.V.Stored.refs_of (two_keys c.args.db c.args.from.now c.args.to_db c.args.to.now) c.args.self.now.bases c.place_sought.new.self.bases c.drop_hashed-there.new.self.bases
    (g.B.BlockStore.blocks c.args.self.now.store) (g.B.BlockStore.blocks c.place_sought.new.self.store) (g.B.BlockStore.blocks c.drop_hashed-there.new.self.store)
    (placed_within g.V.Stored.refs_of g.V.Stored.value_of g.met.V.Stored.reads_own c.args.self.now.bases c.swap_value-value.new.self c.args.db (g.B.BlockStore.blocks c.args.self.now.store)
    c.requires.intact c.args.from.now c.in-Some.at (rw c.in-Some.is at c.requires.seeks.stands) c.args.found.deadline
    (deadline_seen g.V.Stored.refs_of g.V.Stored.value_of g.met.V.Stored.reads_own c.args.self.now.bases c.args.db (g.B.BlockStore.blocks c.args.self.now.store)
    c.requires.intact.arranged c.args.from.now ∙ sym c.requires.lasts) c.swap_value-value.ensures.changes c.swap_value-value.result c.zero.result
    (subst (IsBlank g.V.Stored.refs_of g.V.Stored.IsSound) (sym c.zero.ensures) g.met.V.Stored.is_blank) c.swap_value-value.ensures.swaps
    (c.swap_value-value.ensures.keyed (g.B.BlockStore.blocks c.args.self.now.store) (c.requires.intact.arranged.keyed c.args.db))
    (c.swap_value-value.ensures.tables (g.B.BlockStore.blocks c.args.self.now.store)) c.args.to_db c.args.to.now c.place_sought.new.self.bases
    (g.B.BlockStore.blocks c.place_sought.new.self.store) c.place_sought.ensures.within)
    (left_within g.V.Stored.refs_of g.V.Stored.value_of g.met.V.Stored.reads_own c.args.self.now.bases c.swap_value-value.new.self c.args.db (g.B.BlockStore.blocks c.args.self.now.store)
    c.requires.intact c.args.from.now c.in-Some.at (rw c.in-Some.is at c.requires.seeks.stands) c.args.found.deadline
    (deadline_seen g.V.Stored.refs_of g.V.Stored.value_of g.met.V.Stored.reads_own c.args.self.now.bases c.args.db (g.B.BlockStore.blocks c.args.self.now.store)
    c.requires.intact.arranged c.args.from.now ∙ sym c.requires.lasts) c.swap_value-value.ensures.changes c.swap_value-value.result c.zero.result
    (subst (IsBlank g.V.Stored.refs_of g.V.Stored.IsSound) (sym c.zero.ensures) g.met.V.Stored.is_blank) c.swap_value-value.ensures.swaps
    (c.swap_value-value.ensures.keyed (g.B.BlockStore.blocks c.args.self.now.store) (c.requires.intact.arranged.keyed c.args.db)) c.args.to_db c.args.to.now
    c.place_sought.new.self.bases c.drop_hashed-there.new.self.bases (g.B.BlockStore.blocks c.place_sought.new.self.store) (g.B.BlockStore.blocks c.drop_hashed-there.new.self.store)
    c.drop_hashed-there.ensures.within)

pub returns-in-Err-clause-within : goal.returns-in-Err-clause-within
returns-in-Err-clause-within g c =
    within_then g.V.Stored.refs_of (two_keys c.args.db c.args.from.now c.args.to_db c.args.to.now) c.args.self.now.bases c.place_sought.new.self.bases c.swap_value-zero.new.self
    (g.B.BlockStore.blocks c.args.self.now.store) (g.B.BlockStore.blocks c.place_sought.new.self.store) (g.B.BlockStore.blocks c.place_sought.new.self.store)
    (placed_within g.V.Stored.refs_of g.V.Stored.value_of g.met.V.Stored.reads_own c.args.self.now.bases c.swap_value-value.new.self c.args.db (g.B.BlockStore.blocks c.args.self.now.store)
    c.requires.intact c.args.from.now c.in-Some.at (rw c.in-Some.is at c.requires.seeks.stands) c.args.found.deadline
    (deadline_seen g.V.Stored.refs_of g.V.Stored.value_of g.met.V.Stored.reads_own c.args.self.now.bases c.args.db (g.B.BlockStore.blocks c.args.self.now.store)
    c.requires.intact.arranged c.args.from.now ∙ sym c.requires.lasts) c.swap_value-value.ensures.changes c.swap_value-value.result c.zero.result
    (subst (IsBlank g.V.Stored.refs_of g.V.Stored.IsSound) (sym c.zero.ensures) g.met.V.Stored.is_blank) c.swap_value-value.ensures.swaps
    (c.swap_value-value.ensures.keyed (g.B.BlockStore.blocks c.args.self.now.store) (c.requires.intact.arranged.keyed c.args.db))
    (c.swap_value-value.ensures.tables (g.B.BlockStore.blocks c.args.self.now.store)) c.args.to_db c.args.to.now c.place_sought.new.self.bases
    (g.B.BlockStore.blocks c.place_sought.new.self.store) c.place_sought.ensures.within)
    (back_within g.V.Stored.refs_of g.V.Stored.value_of g.met.V.Stored.reads_own c.args.self.now.bases c.swap_value-value.new.self c.args.db (g.B.BlockStore.blocks c.args.self.now.store)
    c.requires.intact c.args.from.now c.in-Some.at (rw c.in-Some.is at c.requires.seeks.stands) c.args.found.deadline
    (deadline_seen g.V.Stored.refs_of g.V.Stored.value_of g.met.V.Stored.reads_own c.args.self.now.bases c.args.db (g.B.BlockStore.blocks c.args.self.now.store)
    c.requires.intact.arranged c.args.from.now ∙ sym c.requires.lasts) c.swap_value-value.ensures.changes c.swap_value-value.result c.zero.result
    (subst (IsBlank g.V.Stored.refs_of g.V.Stored.IsSound) (sym c.zero.ensures) g.met.V.Stored.is_blank) c.swap_value-value.ensures.swaps
    (c.swap_value-value.ensures.keyed (g.B.BlockStore.blocks c.args.self.now.store) (c.requires.intact.arranged.keyed c.args.db)) c.args.to_db c.place_sought.new.self.bases
    (g.B.BlockStore.blocks c.place_sought.new.self.store) c.in-Err.ensures.err_blocks c.in-Err.ensures.err_keys c.in-Err.ensures.err_owned c.in-Err.ensures.arranged
    c.in-Err.ensures.kept c.swap_value-zero.new.self c.in-Err.value c.in-Err.ensures.value_returned c.place_sought.ensures.settings c.swap_value-zero.ensures.changes
    c.swap_value-zero.result c.swap_value-zero.ensures.swaps
    (c.swap_value-zero.ensures.keyed (g.B.BlockStore.blocks c.place_sought.new.self.store) (c.in-Err.ensures.arranged.keyed c.args.db))
    (c.swap_value-zero.ensures.tables (g.B.BlockStore.blocks c.place_sought.new.self.store)) c.args.to.now)

pub returns-in_default-clause-writes : goal.returns-in_default-clause-writes
returns-in_default-clause-writes g c out sound = written_none g.V.Stored.refs_of
    (Carried g.V.Stored.refs_of c.args.self.now.bases (g.B.BlockStore.blocks c.args.self.now.store) (g.B.BlockStore.blocks c.args.self.now.store) c.args.db c.args.from.now)
    c.args.self.now.bases (g.B.BlockStore.blocks c.args.self.now.store)

pub returns-then-eq-clause-writes : goal.returns-then-eq-clause-writes
returns-then-eq-clause-writes g c out sound = written_none g.V.Stored.refs_of
    (Carried g.V.Stored.refs_of c.args.self.now.bases (g.B.BlockStore.blocks c.args.self.now.store) (g.B.BlockStore.blocks c.args.self.now.store) c.args.db c.args.from.now)
    c.args.self.now.bases (g.B.BlockStore.blocks c.args.self.now.store)

pub returns-in-Ok-clause-writes : goal.returns-in-Ok-clause-writes
returns-in-Ok-clause-writes g c out sound =
    moved_writes g.V.Stored.refs_of g.V.Stored.value_of g.met.V.Stored.reads_own c.args.self.now.bases c.swap_value-value.new.self c.args.db (g.B.BlockStore.blocks c.args.self.now.store)
    c.requires.intact c.args.from.now c.in-Some.at (rw c.in-Some.is at c.requires.seeks.stands) c.args.found.deadline
    (deadline_seen g.V.Stored.refs_of g.V.Stored.value_of g.met.V.Stored.reads_own c.args.self.now.bases c.args.db (g.B.BlockStore.blocks c.args.self.now.store)
    c.requires.intact.arranged c.args.from.now ∙ sym c.requires.lasts) c.swap_value-value.ensures.changes c.swap_value-value.result c.zero.result
    (subst (IsBlank g.V.Stored.refs_of g.V.Stored.IsSound) (sym c.zero.ensures) g.met.V.Stored.is_blank) c.swap_value-value.ensures.swaps
    (c.swap_value-value.ensures.keyed (g.B.BlockStore.blocks c.args.self.now.store) (c.requires.intact.arranged.keyed c.args.db))
    c.args.to_db c.args.to.now c.place_sought.new.self.bases c.drop_hashed-there.new.self.bases (g.B.BlockStore.blocks c.place_sought.new.self.store)
    (g.B.BlockStore.blocks c.drop_hashed-there.new.self.store) c.in-Ok.ensures.has c.in-Ok.ensures.value_blocks c.drop_hashed-there.ensures.within c.drop_hashed-there.ensures.means
    (returns-in-Ok-clause-within g c) (returns-in-Ok-clause-sound g c out sound).arranged

pub returns-in-Err-clause-err_owned : goal.returns-in-Err-clause-err_owned
returns-in-Err-clause-err_owned g c =
    refused_owns g.V.Stored.refs_of g.V.Stored.value_of g.met.V.Stored.reads_own c.args.self.now.bases c.swap_value-value.new.self c.args.db (g.B.BlockStore.blocks c.args.self.now.store)
    c.requires.intact c.args.from.now c.in-Some.at (rw c.in-Some.is at c.requires.seeks.stands) c.args.found.deadline
    (deadline_seen g.V.Stored.refs_of g.V.Stored.value_of g.met.V.Stored.reads_own c.args.self.now.bases c.args.db (g.B.BlockStore.blocks c.args.self.now.store)
    c.requires.intact.arranged c.args.from.now ∙ sym c.requires.lasts) c.swap_value-value.ensures.changes c.swap_value-value.result c.zero.result
    (subst (IsBlank g.V.Stored.refs_of g.V.Stored.IsSound) (sym c.zero.ensures) g.met.V.Stored.is_blank) c.swap_value-value.ensures.swaps
    (c.swap_value-value.ensures.keyed (g.B.BlockStore.blocks c.args.self.now.store) (c.requires.intact.arranged.keyed c.args.db))
    c.args.to_db c.place_sought.new.self.bases (g.B.BlockStore.blocks c.place_sought.new.self.store) c.in-Err.ensures.err_blocks c.in-Err.ensures.err_keys c.in-Err.ensures.err_owned
    c.in-Err.ensures.arranged c.in-Err.ensures.kept c.swap_value-zero.new.self c.in-Err.value c.in-Err.ensures.value_returned c.place_sought.ensures.settings
    c.swap_value-zero.ensures.changes c.swap_value-zero.result c.swap_value-zero.ensures.swaps
    (c.swap_value-zero.ensures.keyed (g.B.BlockStore.blocks c.place_sought.new.self.store) (c.in-Err.ensures.arranged.keyed c.args.db))

pub returns-in-Err-clause-err_items : goal.returns-in-Err-clause-err_items
returns-in-Err-clause-err_items g c =
    back_items g.V.Stored.refs_of g.V.Stored.value_of g.met.V.Stored.reads_own c.args.self.now.bases c.swap_value-value.new.self c.args.db (g.B.BlockStore.blocks c.args.self.now.store)
    c.requires.intact c.args.from.now c.in-Some.at (rw c.in-Some.is at c.requires.seeks.stands) c.args.found.deadline
    (deadline_seen g.V.Stored.refs_of g.V.Stored.value_of g.met.V.Stored.reads_own c.args.self.now.bases c.args.db (g.B.BlockStore.blocks c.args.self.now.store)
    c.requires.intact.arranged c.args.from.now ∙ sym c.requires.lasts) c.swap_value-value.ensures.changes c.swap_value-value.result c.zero.result
    (subst (IsBlank g.V.Stored.refs_of g.V.Stored.IsSound) (sym c.zero.ensures) g.met.V.Stored.is_blank) c.swap_value-value.ensures.swaps
    (c.swap_value-value.ensures.keyed (g.B.BlockStore.blocks c.args.self.now.store) (c.requires.intact.arranged.keyed c.args.db))
    c.args.to_db c.place_sought.new.self.bases (g.B.BlockStore.blocks c.place_sought.new.self.store) c.in-Err.ensures.err_blocks c.in-Err.ensures.err_keys c.in-Err.ensures.err_owned
    c.in-Err.ensures.arranged c.in-Err.ensures.kept c.swap_value-zero.new.self c.in-Err.value c.in-Err.ensures.value_returned c.place_sought.ensures.settings
    c.swap_value-zero.ensures.changes c.swap_value-zero.result c.swap_value-zero.ensures.swaps
    (c.swap_value-zero.ensures.keyed (g.B.BlockStore.blocks c.place_sought.new.self.store) (c.in-Err.ensures.arranged.keyed c.args.db))
