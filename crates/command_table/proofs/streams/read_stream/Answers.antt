use Rattle.std.proofs.Common.{[], ◌∷◌, drop, Ok, None, refl, rules}
use Rattle.plain_model.specs.Shapes.{Plain, FirstId, LastId, with_options, by_second}
use Rattle.plain_model.specs.StreamWords.{at_most, count_option, trim_words, group_rows, no_options}
use Rattle.plain_model.specs.declared.command.Command.TheVariants.{Streams}
use Rattle.plain_model.specs.declared.zset_command.Direction.TheVariants.{Rising, Falling}
use Rattle.plain_model.specs.declared.stream_command.StreamCommand.TheVariants as streams
use Rattle.command_words.proofs.Lifted.{lifted}
use Rattle.command_table.proofs.Arms.{fixed_made}
use Rattle.command_table.proofs.streams.read_stream.Goals as goal

pub returns-in-XAdd : goal.returns-in-XAdd
returns-in-XAdd c = rw c.in-XAdd.is c.append.ensures

pub returns-in-XLen : goal.returns-in-XLen
returns-in-XLen c = rw c.in-XLen.is
    (fixed_made Streams (Plain ∷ []) (λ a. (a, tt)) (λ a. Ok (streams.XLen a.0)) streams.XLen (λ a. refl) c.args.request.now c.one.result _ c.one.ensures (search rules))

pub returns-in-XRange : goal.returns-in-XRange
returns-in-XRange c = rw c.in-XRange.is
    (lifted Streams (with_options (Plain ∷ FirstId ∷ LastId ∷ []) (count_option at_most ∷ []) None (λ a o. Ok (streams.XRange a.0 a.1.0 a.1.1.0 Rising o)) (drop 1 c.args.request.now))
    c.rising.result c.rising.ensures)

pub returns-in-XRevRange : goal.returns-in-XRevRange
returns-in-XRevRange c = rw c.in-XRevRange.is
    (lifted Streams (with_options (Plain ∷ LastId ∷ FirstId ∷ []) (count_option at_most ∷ []) None (λ a o. Ok (streams.XRange a.0 a.1.1.0 a.1.0 Falling o)) (drop 1 c.args.request.now))
    c.falling.result c.falling.ensures)

pub returns-in-XDel : goal.returns-in-XDel
returns-in-XDel c = rw c.in-XDel.is c.delete.ensures

pub returns-in-XTrim : goal.returns-in-XTrim
returns-in-XTrim c = rw c.in-XTrim.is (lifted Streams (trim_words (drop 1 c.args.request.now)) c.trim.result c.trim.ensures)

pub returns-in-XRead : goal.returns-in-XRead
returns-in-XRead c = rw c.in-XRead.is c.read.ensures

pub returns-in-XGroup : goal.returns-in-XGroup
returns-in-XGroup c = rw c.in-XGroup.is (lifted Streams (by_second 3 group_rows (drop 1 c.args.request.now)) c.group.result c.group.ensures)

pub returns-in-XReadGroup : goal.returns-in-XReadGroup
returns-in-XReadGroup c = rw c.in-XReadGroup.is c.read_group.ensures

pub returns-in-XAck : goal.returns-in-XAck
returns-in-XAck c = rw c.in-XAck.is c.ack.ensures

pub returns-in-XPending : goal.returns-in-XPending
returns-in-XPending c = rw c.in-XPending.is
    (lifted Streams (with_options (Plain ∷ Plain ∷ []) no_options tt (λ a o. Ok (streams.XPending a.0 a.1.0)) (drop 1 c.args.request.now)) c.pending.result c.pending.ensures)
