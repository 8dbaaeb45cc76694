-- The words of requests, as the code has them.
use Rattle.std.specs.Prelude.{ℕ, List, ◌++◌}
use Rattle.std.specs.Fmt.{decimal}
use Rattle.generator.specs.declared.requests.Word.{Word}
use Rattle.generator.specs.declared.requests.Word.TheVariants as words

abbrev pub word_bytes : Word → List ℕ
word_bytes (words.Text text) = text.now
word_bytes (words.Named text number) = text.now ++ decimal number
word_bytes (words.Number number) = decimal number
