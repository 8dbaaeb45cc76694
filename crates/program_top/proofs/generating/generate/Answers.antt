use Rattle.program_top.proofs.Generations.{wrote_all, wrote_front}
use Rattle.program_top.proofs.generating.generate.Goals as goal

pub returns-in-Ok-put_all : goal.returns-in-Ok-put_all
returns-in-Ok-put_all g c = wrote_all _ _ _ _ _ c.in-Ok.ensures c.deref.ensures.value c.in-Ok-put_all.ensures

pub returns : goal.returns
returns g c = wrote_front _ _ _ _ _ c.in-Ok.ensures c.deref.ensures.value c.in-Err-put_all.ensures
