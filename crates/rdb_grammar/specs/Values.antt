-- Values of a file, by their type (RDB file format, "Value type" and "Value encodings").
use Rattle.std.specs.Prelude.{ℕ, Bool, ◌==◌, ◌||◌}
use Rattle.plain_world.specs.Worlds.{Value, Str}
use Rattle.rdb_grammar.specs.declared.fault.LoadKind.TheVariants as kinds
use Rattle.rdb_grammar.specs.Codes as code
use Rattle.rdb_grammar.specs.Format.{Format, give, followed, Branch, Goes, Refuses, pick}
use Rattle.rdb_grammar.specs.Strings.{string}

abbrev pub string_value : Format Value
string_value = followed string λ text. give (Str text)

-- sorted sets with scores as text, and the packed forms that came before listpacks
abbrev pub is_old : ℕ → Bool
is_old b =
    b == code.old_sorted_set || b == code.hash_zipmap || b == code.list_ziplist || b == code.sorted_set_ziplist
    || b == code.hash_ziplist || b == code.list_of_ziplists

-- the value of a type, behind the key
abbrev pub value_behind : ℕ → Branch Value
value_behind b =
    pick (b == code.string) (Goes string_value)
    (pick (is_old b) (Refuses kinds.OldKind)
    (pick (b == code.old_module || b == code.module_value) (Refuses kinds.Module) (Refuses kinds.Kind)))
