use Rattle.std.proofs.Common.{sym, ap, ◌∙◌}
use Rattle.std.specs.List.{filter}
use Rattle.stream_object.specs.Streams.{entries}
use Rattle.plain_model.specs.StreamSteps.{up_to}
use Rattle.plain_model.specs.declared.zset_command.Direction.TheVariants.{Rising}
use Rattle.cmd_streams.proofs.Ranging.{all_wanted}
use Rattle.cmd_streams.proofs.several.most_of.Goals as goal

pub returns-in-None : goal.returns-in-None
returns-in-None c = λ m is test.
    all_wanted Rising test (entries m c.args.stream.now) c.len.result (c.len.ensures m is)
    ∙ sym (ap (λ l. up_to l (filter test (entries m c.args.stream.now))) c.in-None.is)
