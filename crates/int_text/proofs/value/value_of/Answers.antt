use Rattle.int_text.proofs.ValueRead.{value_read}
use Rattle.int_text.proofs.value.value_of.Goals as goal

pub returns : goal.returns
returns c power is =
    value_read c.args.whole.now c.args.fraction.now c.args.exponent.divides power c.args.exponent.power c.places_before.result c.value_at.result
    c.requires.whole c.requires.fraction c.requires.room is c.places_before.ensures c.value_at.ensures
