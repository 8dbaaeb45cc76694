use Rattle.std.proofs.Common.{refl, rules, ap, ◌∙◌}
use Rattle.std.specs.Prelude.{max, ◌+◌, ◌==◌, length, if◌then◌else◌}
use Rattle.keyspace.specs.Commands.{seen}
use Rattle.cmd_values.proofs.StringLemmas.{put_there, range_none, range_some}
use Rattle.keyspace.proofs.Running.{unchanged, calm, held_then}
use Rattle.keyspace.specs.Scopes.{one_key}
use Rattle.keyspace.specs.Forms.{Raw}
use Rattle.keyspace.proofs.Forming.{unformed, formed_ok, formed_key}
use Rattle.cmd_values.proofs.strings.changing.setrange.Goals as goal
use Rattle.plain_world.specs.declared.refusal.Refusal.TheVariants.{WrongType}
use Rattle.keyspace.specs.Forms.{Unwritten, placed_at}
use Rattle.keyspace.proofs.Forming.{formed_refused}
use Rattle.cmd_values.proofs.Placing.{no_piece, some_piece}

pub change_there-requires-clause-there : goal.change_there-requires-clause-there
change_there-requires-clause-there g c = (
  _,
  put_there (seen c.args.at.now c.args.keyspace.now.bases (g.B.BlockStore.blocks c.args.keyspace.now.store))
      (seen c.args.at.now c.put_string.new.keyspace.bases (g.B.BlockStore.blocks c.put_string.new.keyspace.store))
      c.args.key.now _ c.in_ok-put_string-in-Missing.ensures.world,
)

pub returns-in_ok-change_there-in-Missing-clause-gives : goal.returns-in_ok-change_there-in-Missing-clause-gives
returns-in_ok-change_there-in-Missing-clause-gives g c =
    range_none c.args.at.now.moment (seen c.args.at.now c.args.keyspace.now.bases (g.B.BlockStore.blocks c.args.keyspace.now.store))
    (seen c.args.at.now c.put_string.new.keyspace.bases (g.B.BlockStore.blocks c.put_string.new.keyspace.store)) _ c.args.key.now c.args.piece.now c.args.place _
    c.length_reply-in-Missing.result
    c.in-Missing.ensures c.in_ok-put_string-in-Missing.ensures.world (search rules) refl c.in_ok-change_there-in-Missing.ensures.becomes c.length_reply-in-Missing.ensures

pub returns-in_ok-change_there-in-There-clause-gives : goal.returns-in_ok-change_there-in-There-clause-gives
returns-in_ok-change_there-in-There-clause-gives g c =
    let there = c.in-There.ensures in
    let e = ap (λ n. max n (c.args.place + length c.args.piece.now)) there.2 in
    range_some c.args.at.now.moment _ _ c.args.key.now c.args.piece.now there.0 c.args.place c.max.result c.length_reply-in-There.result there.1 (search rules) (c.max.ensures ∙ e)
    c.in_ok-change_there-in-There.ensures.becomes c.length_reply-in-There.ensures

pub returns-then-is_empty-clause-kept : goal.returns-then-is_empty-clause-kept
returns-then-is_empty-clause-kept g c =
    unchanged g.B.BlockStore.blocks g.B.BlockStore.step (one_key c.args.at.now.db c.args.key.now) c.args.keyspace.now _ c.requires.ready.sound

pub returns-then-is_empty-2-clause-kept : goal.returns-then-is_empty-2-clause-kept
returns-then-is_empty-2-clause-kept g c =
    unchanged g.B.BlockStore.blocks g.B.BlockStore.step (one_key c.args.at.now.db c.args.key.now) c.args.keyspace.now _ c.requires.ready.sound

pub returns-in_err-change_there-in-Missing-clause-kept : goal.returns-in_err-change_there-in-Missing-clause-kept
returns-in_err-change_there-in-Missing-clause-kept g c =
    calm g.B.BlockStore.blocks g.B.BlockStore.step (one_key c.args.at.now.db c.args.key.now) c.args.keyspace.now c.change_there.new.keyspace _ (search rules)
    (held_then g.B.BlockStore.blocks g.B.BlockStore.step (one_key c.args.at.now.db c.args.key.now) c.args.keyspace.now c.put_string.new.keyspace c.change_there.new.keyspace
    c.put_string.ensures.held c.change_there.ensures.held)

pub returns-in_ok-change_there-in-Missing-clause-kept : goal.returns-in_ok-change_there-in-Missing-clause-kept
returns-in_ok-change_there-in-Missing-clause-kept g c =
    calm g.B.BlockStore.blocks g.B.BlockStore.step (one_key c.args.at.now.db c.args.key.now) c.args.keyspace.now c.change_there.new.keyspace _ (search rules)
    (held_then g.B.BlockStore.blocks g.B.BlockStore.step (one_key c.args.at.now.db c.args.key.now) c.args.keyspace.now c.put_string.new.keyspace c.change_there.new.keyspace
    c.put_string.ensures.held c.change_there.ensures.held)

pub returns-in-Other-clause-kept : goal.returns-in-Other-clause-kept
returns-in-Other-clause-kept g c =
    unchanged g.B.BlockStore.blocks g.B.BlockStore.step (one_key c.args.at.now.db c.args.key.now) c.args.keyspace.now _ c.requires.ready.sound

pub returns-then-is_empty-clause-forms : goal.returns-then-is_empty-clause-forms
returns-then-is_empty-clause-forms g c =
    no_piece c.args.at.now.db c.args.key.now g.B.BlockStore.blocks c.args.keyspace.now (length c.args.piece.now) _ (search rules)

pub returns-then-is_empty-2-clause-forms : goal.returns-then-is_empty-2-clause-forms
returns-then-is_empty-2-clause-forms g c =
    no_piece c.args.at.now.db c.args.key.now g.B.BlockStore.blocks c.args.keyspace.now (length c.args.piece.now) _ (search rules)

pub returns-in_ok-change_there-in-Missing-clause-forms : goal.returns-in_ok-change_there-in-Missing-clause-forms
returns-in_ok-change_there-in-Missing-clause-forms g c =
    let held = held_then g.B.BlockStore.blocks g.B.BlockStore.step (one_key c.args.at.now.db c.args.key.now) c.args.keyspace.now c.put_string.new.keyspace c.change_there.new.keyspace
    c.put_string.ensures.held c.change_there.ensures.held in
    let raw = c.in_ok-change_there-in-Missing.ensures.raw in
    some_piece c.args.at.now.db c.args.key.now g.B.BlockStore.blocks c.args.keyspace.now c.change_there.new.keyspace (length c.args.piece.now) c.length_reply-in-Missing.result (search rules)
    (formed_key Raw c.args.at.now.db c.args.key.now c.args.keyspace.now.bases c.change_there.new.keyspace.bases _ _ held.within held.sound.arranged raw) raw

pub returns-in_ok-change_there-in-There-clause-forms : goal.returns-in_ok-change_there-in-There-clause-forms
returns-in_ok-change_there-in-There-clause-forms g c =
    let held = c.change_there-in-There.ensures.held in
    let raw = c.in_ok-change_there-in-There.ensures.raw in
    some_piece c.args.at.now.db c.args.key.now g.B.BlockStore.blocks c.args.keyspace.now c.change_there-in-There.new.keyspace (length c.args.piece.now) c.length_reply-in-There.result (search rules)
    (formed_key Raw c.args.at.now.db c.args.key.now c.args.keyspace.now.bases c.change_there-in-There.new.keyspace.bases _ _ held.within held.sound.arranged raw) raw

pub returns-in-Other-clause-forms : goal.returns-in-Other-clause-forms
returns-in-Other-clause-forms g c =
    formed_refused g.B.BlockStore.blocks (if length c.args.piece.now == 0 then Unwritten else Raw)
    (placed_at c.args.at.now.db c.args.key.now (if length c.args.piece.now == 0 then Unwritten else Raw)) c.args.keyspace.now WrongType _ c.refused.ensures
