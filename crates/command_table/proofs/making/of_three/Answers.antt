use Rattle.command_table.proofs.making.of_three.Goals as goal

pub make-requires : goal.make-requires
make-requires g c = c.requires (c.in-Ok.a, c.in-Ok.b, c.in-Ok.c) c.in-Ok.is
