use Rattle.std.proofs.Common.{arith, IfOk}
use Rattle.cmd_values.proofs.StringLemmas.{append_some}
use Rattle.keyspace.proofs.Running.{unchanged}
use Rattle.keyspace.specs.Scopes.{one_key}
use Rattle.std.proofs.Common.{Option, sym, subst}
use Rattle.std.specs.Prelude.{is_some, if◌then◌else◌}
use Rattle.plain_world.specs.Worlds.{Entry, look}
use Rattle.keyspace.specs.Commands.{visible}
use Rattle.keyspace.specs.Forms.{Whole, Raw, Formed}
use Rattle.keyspace.proofs.Forming.{unformed, formed_ok, formed_key}
use Rattle.cmd_values.proofs.strings.changing.append.Goals as goal
use Rattle.plain_world.specs.declared.refusal.Refusal.TheVariants.{ValueOutOfRange, WrongType}
use Rattle.keyspace.specs.Forms.{placed_at, Placed}
use Rattle.keyspace.proofs.Forming.{formed_refused}
use Rattle.cmd_values.proofs.Placing.{wrote_whole, wrote_raw}

pub returns-in_ok-change_there-in-There-clause-gives : goal.returns-in_ok-change_there-in-There-clause-gives
returns-in_ok-change_there-in-There-clause-gives g c =
    let there = c.in-There.ensures in
    append_some c.args.at.now.moment _ _ c.args.key.now c.args.tail.now there.0 _ c.length_reply-in-There.result there.1 (omega (arith, there.2))
    (omega (arith, c.if-length-gt-LONGEST.false)) c.in_ok-change_there-in-There.ensures.becomes c.length_reply-in-There.ensures

pub returns-then-tail-gt-LONGEST-clause-kept : goal.returns-then-tail-gt-LONGEST-clause-kept
returns-then-tail-gt-LONGEST-clause-kept g c =
    unchanged g.B.BlockStore.blocks g.B.BlockStore.step (one_key c.args.at.now.db c.args.key.now) c.args.keyspace.now _ c.requires.ready.sound

pub returns-then-length-gt-LONGEST-clause-kept : goal.returns-then-length-gt-LONGEST-clause-kept
returns-then-length-gt-LONGEST-clause-kept g c =
    unchanged g.B.BlockStore.blocks g.B.BlockStore.step (one_key c.args.at.now.db c.args.key.now) c.args.keyspace.now _ c.requires.ready.sound

pub returns-in-Other-clause-kept : goal.returns-in-Other-clause-kept
returns-in-Other-clause-kept g c =
    unchanged g.B.BlockStore.blocks g.B.BlockStore.step (one_key c.args.at.now.db c.args.key.now) c.args.keyspace.now _ c.requires.ready.sound

pub returns-then-tail-gt-LONGEST-clause-forms : goal.returns-then-tail-gt-LONGEST-clause-forms
returns-then-tail-gt-LONGEST-clause-forms g c =
    formed_refused g.B.BlockStore.blocks (if is_some (look (visible g.B.BlockStore.blocks c.args.keyspace.now c.args.at.now) c.args.key.now) then Raw else Whole)
    (placed_at c.args.at.now.db c.args.key.now (if is_some (look (visible g.B.BlockStore.blocks c.args.keyspace.now c.args.at.now) c.args.key.now) then Raw else Whole)) c.args.keyspace.now
    ValueOutOfRange _ c.refused-then-tail-gt-LONGEST.ensures

pub returns-then-length-gt-LONGEST-clause-forms : goal.returns-then-length-gt-LONGEST-clause-forms
returns-then-length-gt-LONGEST-clause-forms g c =
    formed_refused g.B.BlockStore.blocks (if is_some (look (visible g.B.BlockStore.blocks c.args.keyspace.now c.args.at.now) c.args.key.now) then Raw else Whole)
    (placed_at c.args.at.now.db c.args.key.now (if is_some (look (visible g.B.BlockStore.blocks c.args.keyspace.now c.args.at.now) c.args.key.now) then Raw else Whole)) c.args.keyspace.now
    ValueOutOfRange _ c.refused-then-length-gt-LONGEST.ensures

pub returns-in_ok-put_string-in-Missing-clause-forms : goal.returns-in_ok-put_string-in-Missing-clause-forms
returns-in_ok-put_string-in-Missing-clause-forms g c =
    subst (λ (o : Option Entry). IfOk c.length_reply.result (λ reply. Formed g.B.BlockStore.blocks (if is_some o then Raw else Whole) c.args.keyspace.now c.put_string.new.keyspace
    × Placed g.B.BlockStore.blocks (placed_at c.args.at.now.db c.args.key.now (if is_some o then Raw else Whole)) reply c.args.keyspace.now c.put_string.new.keyspace)) (sym c.in-Missing.ensures)
    (wrote_whole c.args.at.now.db c.args.key.now g.B.BlockStore.blocks c.args.keyspace.now c.put_string.new.keyspace c.length_reply.result c.in_ok-put_string-in-Missing.ensures.forms
    c.in_ok-put_string-in-Missing.ensures.whole)

pub returns-in_ok-change_there-in-There-clause-forms : goal.returns-in_ok-change_there-in-There-clause-forms
returns-in_ok-change_there-in-There-clause-forms g c =
    let held = c.change_there.ensures.held in
    let raw = c.in_ok-change_there-in-There.ensures.raw in
    subst (λ (o : Option Entry). IfOk c.length_reply-in-There.result (λ reply. Formed g.B.BlockStore.blocks (if is_some o then Raw else Whole) c.args.keyspace.now c.change_there.new.keyspace
    × Placed g.B.BlockStore.blocks (placed_at c.args.at.now.db c.args.key.now (if is_some o then Raw else Whole)) reply c.args.keyspace.now c.change_there.new.keyspace))
    (sym c.in-There.ensures.1.stands)
    (wrote_raw c.args.at.now.db c.args.key.now g.B.BlockStore.blocks c.args.keyspace.now c.change_there.new.keyspace c.length_reply-in-There.result
    (formed_key Raw c.args.at.now.db c.args.key.now c.args.keyspace.now.bases c.change_there.new.keyspace.bases _ _ held.within held.sound.arranged raw) raw)

pub returns-in-Other-clause-forms : goal.returns-in-Other-clause-forms
returns-in-Other-clause-forms g c =
    formed_refused g.B.BlockStore.blocks (if is_some (look (visible g.B.BlockStore.blocks c.args.keyspace.now c.args.at.now) c.args.key.now) then Raw else Whole)
    (placed_at c.args.at.now.db c.args.key.now (if is_some (look (visible g.B.BlockStore.blocks c.args.keyspace.now c.args.at.now) c.args.key.now) then Raw else Whole)) c.args.keyspace.now
    WrongType _ c.refused.ensures
