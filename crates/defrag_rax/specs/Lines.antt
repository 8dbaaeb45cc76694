-- The line of a row.
use Rattle.std.specs.Prelude.{ℕ, List, [], ◌∷◌, ◌++◌, codes}
use Rattle.std.specs.Fmt.{decimal}
use Rattle.defrag_rax.specs.declared.rows.AuditRow.{AuditRow}

-- LF
abbrev pub line_feed : List ℕ
line_feed = 10 ∷ []

-- `class S slabs N needed M tree T other O`
abbrev pub row_line : AuditRow → List ℕ
row_line row =
    codes "class " ++ decimal row.size ++ codes " slabs " ++ decimal row.slabs ++ codes " needed " ++ decimal row.needed
    ++ codes " tree " ++ decimal row.tree ++ codes " other " ++ decimal row.other ++ line_feed
