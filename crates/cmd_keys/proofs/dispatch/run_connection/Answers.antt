use Rattle.std.proofs.Common.{ap, sym, ◌∙◌}
use Rattle.plain_model.specs.declared.connection.ConnectionCommand.TheVariants as commands
use Rattle.cmd_keys.proofs.KeyLemmas.{served_connection, told_connection}
use Rattle.cmd_keys.proofs.dispatch.run_connection.Goals as goal

pub returns-in-Ping : goal.returns-in-Ping
returns-in-Ping g c = told_connection g.B.BlockStore.blocks g.B.BlockStore.step c.args.keyspace.now c.args.at.now c.args.command.now _ c.ping.result c.in-Ping.is c.requires.common
    c.ping.ensures c.requires.ready (λ reply. tt)

pub returns-in-Echo : goal.returns-in-Echo
returns-in-Echo g c =
    told_connection g.B.BlockStore.blocks g.B.BlockStore.step c.args.keyspace.now c.args.at.now c.args.command.now (commands.Echo c.as_slice.result.now) c.echo.result
    (c.in-Echo.is ∙ ap commands.Echo (sym c.as_slice.ensures)) c.requires.common c.echo.ensures c.requires.ready (λ reply. tt)

pub returns-in-Quit : goal.returns-in-Quit
returns-in-Quit g c = told_connection g.B.BlockStore.blocks g.B.BlockStore.step c.args.keyspace.now c.args.at.now c.args.command.now commands.Quit c.quit.result c.in-Quit.is
    c.requires.common c.quit.ensures c.requires.ready (λ reply. tt)

pub returns-in-DbSize : goal.returns-in-DbSize
returns-in-DbSize g c =
    served_connection g.B.BlockStore.blocks g.B.BlockStore.step c.args.keyspace.now c.dbsize.new.keyspace c.args.at.now c.args.command.now commands.DbSize c.dbsize.result c.in-DbSize.is
    c.requires.common c.dbsize.ensures.gives c.dbsize.ensures.kept (λ reply. c.dbsize.ensures.purged)

pub returns-in-FlushDb : goal.returns-in-FlushDb
returns-in-FlushDb g c =
    served_connection g.B.BlockStore.blocks g.B.BlockStore.step c.args.keyspace.now c.flushdb.new.keyspace c.args.at.now c.args.command.now commands.FlushDb c.flushdb.result
    c.in-FlushDb.is c.requires.common c.flushdb.ensures.gives c.flushdb.ensures.kept (λ reply. c.flushdb.ensures.emptied)

pub returns-in-FlushAll : goal.returns-in-FlushAll
returns-in-FlushAll g c =
    served_connection g.B.BlockStore.blocks g.B.BlockStore.step c.args.keyspace.now c.flushall.new.keyspace c.args.at.now c.args.command.now commands.FlushAll c.flushall.result
    c.in-FlushAll.is c.requires.common c.flushall.ensures.gives c.flushall.ensures.kept (λ reply. c.flushall.ensures.emptied)
