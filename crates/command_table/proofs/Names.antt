-- What the words of a request mean, by the row of its name.
use Rattle.std.proofs.Common.{◌≡◌, ℕ, ◌<◌, List, [], ◌∷◌, length, drop, Result, Ok, Err, refl, sym, ap, subst, ◌∙◌}
use Rattle.std.specs.Prelude.{IfOk}
use Rattle.std.specs.Char.{to_ascii_lowercase}
use Rattle.std.proofs.lemmas.Str.Ascii.{lowercase-lowercase}
use Rattle.plain_world.specs.Words.{Words, IsRequest, in_lower_case}
use Rattle.plain_model.specs.Meant.{rows, read_by, meant, IsAsked}
use Rattle.plain_model.specs.declared.command.Command.{Command}
use Rattle.plain_world.specs.declared.refusal.Refusal.{Refusal}
use Rattle.command_words.specs.declared.fault.ReadingFault.{ReadingFault}
use Rattle.command_words.specs.Readings.{word_at, ReadsAs, ReadsCommand}
use Rattle.command_words.proofs.Shapes.{from_place}
use Rattle.command_table.specs.declared.table.Name.{Name}
use Rattle.command_table.specs.Families.{by_family}
use Rattle.command_table.specs.Rows.{name_of}
use Rattle.command_table.proofs.Families.{family_means}

lower_twice : (word : List ℕ) → in_lower_case (in_lower_case word) ≡ in_lower_case word
lower_twice [] = refl
lower_twice (c ∷ word) = ap (λ d. d ∷ in_lower_case (in_lower_case word)) (lowercase-lowercase c) ∙ ap (λ l. to_ascii_lowercase c ∷ l) (lower_twice word)

-- a request means what the row of its name says
by_name : (words : Words) (name : List ℕ) → 0 < length words → in_lower_case (word_at words 0) ≡ name → meant words ≡ meant (name ∷ drop 1 words)
by_name words name some e =
    let twice : in_lower_case (word_at words 0) ≡ in_lower_case name = sym (lower_twice (word_at words 0)) ∙ ap in_lower_case e in
    ap meant (from_place words 0 some) ∙ ap (λ l. read_by rows l (drop 1 words)) twice

pub reads_by_name : (words : Words) (name : Name) (answer : Result Command ReadingFault) → 0 < length words → in_lower_case (word_at words 0) ≡ name_of name
    → ReadsAs (λ command. command) (by_family name (drop 1 words)) answer → ReadsCommand words answer
reads_by_name words name answer some e h =
    let P : Result Command Refusal → Type 0 = λ means. ReadsAs (λ command. command) means answer in
    subst P (sym (by_name words (name_of name) some e ∙ family_means name (drop 1 words))) h

-- a command that is read is asked
pub asked : (words : Words) (answer : Result Command ReadingFault) → IsRequest words → ReadsCommand words answer → IfOk answer (λ command. IsAsked command)
asked words (Ok command) request h = record { words = words; request = request; means = h }
asked words (Err fault) request h = tt
