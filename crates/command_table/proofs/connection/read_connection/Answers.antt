use Rattle.std.proofs.Common.{[], ◌∷◌, drop, Ok, refl, rules}
use Rattle.plain_model.specs.Shapes.{Plain, Database, by_second, fixed}
use Rattle.plain_model.specs.ConnectionWords.{ping_words, flush_words, memory_rows, debug_rows}
use Rattle.plain_model.specs.declared.command.Command.TheVariants.{Connection}
use Rattle.plain_model.specs.declared.connection.ConnectionCommand.TheVariants as connections
use Rattle.command_words.proofs.Lifted.{lifted}
use Rattle.command_table.proofs.Arms.{fixed_made}
use Rattle.command_table.proofs.connection.read_connection.Goals as goal

pub returns-in-Ping : goal.returns-in-Ping
returns-in-Ping c = rw c.in-Ping.is (lifted Connection (ping_words (drop 1 c.args.request.now)) c.ping.result c.ping.ensures)

pub returns-in-Echo : goal.returns-in-Echo
returns-in-Echo c = rw c.in-Echo.is
    (fixed_made Connection (Plain ∷ []) (λ a. (a, tt)) (λ a. Ok (connections.Echo a.0)) connections.Echo (λ a. refl) c.args.request.now c.one.result _ c.one.ensures (search rules))

pub returns-in-Select : goal.returns-in-Select
returns-in-Select c = rw c.in-Select.is (lifted Connection (fixed (Database ∷ []) (λ a. Ok (connections.Select a.0)) (drop 1 c.args.request.now)) c.select.result c.select.ensures)

pub returns-in-DbSize : goal.returns-in-DbSize
returns-in-DbSize c = rw c.in-DbSize.is (lifted Connection (fixed [] (λ a. Ok connections.DbSize) (drop 1 c.args.request.now)) c.alone.result c.alone.ensures)

pub returns-in-FlushDb : goal.returns-in-FlushDb
returns-in-FlushDb c = rw c.in-FlushDb.is (lifted Connection (flush_words connections.FlushDb (drop 1 c.args.request.now)) c.flush.result c.flush.ensures)

pub returns-in-FlushAll : goal.returns-in-FlushAll
returns-in-FlushAll c = rw c.in-FlushAll.is (lifted Connection (flush_words connections.FlushAll (drop 1 c.args.request.now)) c.flush-in-FlushAll.result c.flush-in-FlushAll.ensures)

pub returns-in-Memory : goal.returns-in-Memory
returns-in-Memory c = rw c.in-Memory.is (lifted Connection (by_second 1 memory_rows (drop 1 c.args.request.now)) c.memory.result c.memory.ensures)

pub returns-in-Debug : goal.returns-in-Debug
returns-in-Debug c = rw c.in-Debug.is (lifted Connection (by_second 2 debug_rows (drop 1 c.args.request.now)) c.debug.result c.debug.ensures)
