use Rattle.command_table.proofs.making.of_four.Goals as goal

pub make-requires : goal.make-requires
make-requires g c = c.requires (c.in-Ok.a, c.in-Ok.b, c.in-Ok.c, c.in-Ok.d) c.in-Ok.is
