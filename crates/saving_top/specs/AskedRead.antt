-- What the code reads of the words, as what is asked for.
use Rattle.std.specs.Prelude.{option_map}
use Rattle.program_top.specs.WordsRead.{AreTaken, AreUsable, given_read, options_read}
use Rattle.saving_top.specs.Asked.{Asked, Plain, Closed, Closing}
use Rattle.saving_top.specs.declared.words as words
use Rattle.saving_top.specs.declared.words.Asked.TheVariants as read

abbrev pub closing_read : words.Closing.Closing → Closing
closing_read closing = record {
  audit = closing.audit;
  save = option_map (λ s. s.now) closing.save;
}

abbrev pub asked_read : words.Asked.Asked → Asked
asked_read (read.Plain given) = Plain (given_read given)
asked_read (read.Closed options closing) = Closed (options_read options) (closing_read closing)

-- what is read of words is in range
abbrev pub AreAsked : words.Asked.Asked → Type 0
AreAsked (read.Plain given) = AreTaken given
AreAsked (read.Closed options closing) = AreUsable options
