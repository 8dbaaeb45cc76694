use Rattle.std.proofs.Common.{inl}
use Rattle.keyspace.specs.Scopes.{anything}
use Rattle.rdb_reader.specs.Loads.{any_key}
use Rattle.program_top.specs.Engines.{world_of}
use Rattle.program_top.proofs.Starts.{file_loaded, fault_ends, first_then, last_is, host_counts, file_taken}
use Rattle.program_top.proofs.starting.load_file.Goals as goal

pub load-requires : goal.load-requires
load-requires g c = record { empty = inl c.requires.new.empty }

pub returns-in-Ok-clause-loads : goal.returns-in-Ok-clause-loads
returns-in-Ok-clause-loads g c =
    file_loaded _ c.args.limit c.args.name.now (world_of c.load.new.self) _ c.args.moment (last_is c.args.engine.now.last _ c.args.moment c.requires.new.last c.in-Ok.ensures.moment) _
    (c.in-Ok.ensures.loads c.requires.new.alive)

pub returns-in-Ok-clause-first : goal.returns-in-Ok-clause-first
returns-in-Ok-clause-first g c = first_then c.args.engine.now c.load.new.self c.args.engine.now.bases.seed c.args.engine.now.bases.limits c.requires.first c.in-Ok.ensures.keeps
    c.in-Ok.ensures.served c.in-Ok.ensures.walk any_key c.in-Ok.ensures.within (c.in-Ok.ensures.form c.requires.new.alive)

pub returns-in-Ok-clause-moment : goal.returns-in-Ok-clause-moment
returns-in-Ok-clause-moment g c = last_is c.args.engine.now.last _ c.args.moment c.requires.new.last c.in-Ok.ensures.moment

pub returns-in-Ok-clause-host : goal.returns-in-Ok-clause-host
returns-in-Ok-clause-host g c = c.in-Ok.ensures.counts

pub returns-in-Err-clause-loads : goal.returns-in-Err-clause-loads
returns-in-Err-clause-loads g c =
    fault_ends _ c.args.limit c.args.name.now (world_of c.load.new.self) _ c.args.moment (last_is c.args.engine.now.last _ c.args.moment c.requires.new.last c.in-Err.ensures.moment)
    c.in-Err.fault _ c.not_loaded.ensures (c.in-Err.ensures.loads c.requires.new.alive)

pub returns-in-Err-clause-first : goal.returns-in-Err-clause-first
returns-in-Err-clause-first g c = first_then c.args.engine.now c.load.new.self c.args.engine.now.bases.seed c.args.engine.now.bases.limits c.requires.first c.in-Err.ensures.keeps
    c.in-Err.ensures.served c.in-Err.ensures.walk anything c.in-Err.ensures.within (c.in-Err.ensures.form c.requires.new.alive)

pub returns-in-Err-clause-moment : goal.returns-in-Err-clause-moment
returns-in-Err-clause-moment g c = last_is c.args.engine.now.last _ c.args.moment c.requires.new.last c.in-Err.ensures.moment

pub returns-in-Err-clause-host : goal.returns-in-Err-clause-host
returns-in-Err-clause-host g c = host_counts (g.H.Host.seen c.args.host.now) (g.H.Host.seen c.load.new.host) c.args.name.now c.in-Err.fault _ c.not_loaded.ensures c.in-Err.ensures.counts

pub returns-in-Ok-clause-few : goal.returns-in-Ok-clause-few
returns-in-Ok-clause-few g c = c.in-Ok.ensures.few c.requires.new.alive

pub returns-in-Err-clause-few : goal.returns-in-Err-clause-few
returns-in-Err-clause-few g c = file_taken _ c.args.name.now c.args.limit _ c.in-Err.fault _ c.not_loaded.ensures (c.in-Err.ensures.few c.requires.new.alive)
