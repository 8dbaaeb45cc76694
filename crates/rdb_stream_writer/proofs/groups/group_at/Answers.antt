use Rattle.rdb_stream_writer.proofs.Places.{no_key, no_value, key_with_value}
use Rattle.rdb_stream_writer.proofs.groups.group_at.Goals as goal

pub returns-in-None : goal.returns-in-None
returns-in-None c = no_key c.args.stream.now.groups c.args.index c.in-None.ensures

pub returns-in-None-group_at : goal.returns-in-None-group_at
returns-in-None-group_at c = no_value c.args.stream.now.groups c.args.index c.in-None-group_at.ensures

pub returns-in-Some-group_at : goal.returns-in-Some-group_at
returns-in-Some-group_at c = key_with_value c.args.stream.now.groups c.args.index c.in-Some.name.now c.in-Some-group_at.group.now c.in-Some.ensures c.in-Some-group_at.ensures
