-- What stands at a key, as it was read out.
use Rattle.std.specs.Prelude.{Option}
use Rattle.std.specs.Option.{option_map}
use Rattle.plain_world.specs.Worlds as model
use Rattle.told_values.specs.declared.entry.Entry.{Entry}

-- the plain world's entry, or none
abbrev pub entry_told : Option Entry → Option model.Entry
entry_told read = option_map (λ entry. record { value = entry.value; deadline = entry.deadline }) read
