-- What a request asks of its session, as the code tells it.
use Rattle.std.specs.Prelude.{◌≡◌, drop, Option, None, Some, true, false}
use Rattle.plain_world.specs.Words.{Words}
use Rattle.plain_world.specs.declared.refusal.Refusal.{Refusal}
use Rattle.plain_model.specs.Meant.{meant, asks_to_quit}
use Rattle.plain_sessions.specs.Transactions as asked
use Rattle.plain_sessions.specs.Transactions.{Asked, wrong_words}
use Rattle.session_desk.specs.declared.asking.Asks.{Asks}
use Rattle.session_desk.specs.declared.asking.Asks.TheVariants as told
use Rattle.session_desk.specs.declared.asking.Queueing.{Queueing}
use Rattle.session_desk.specs.declared.asking.Queueing.TheVariants as queueing

-- what is told of these words
abbrev pub asked_as : Asks → Words → Asked
asked_as told.Multi words = asked.Multi
asked_as told.Exec words = asked.Exec
asked_as told.Discard words = asked.Discard
asked_as told.Watch words = asked.Watch (drop 1 words)
asked_as told.Misnumbered words = asked.Misnumbered
asked_as told.Common words = asked.Common

-- the refusal of wrong words that is told
abbrev pub wrong_told : Queueing → Option Refusal
wrong_told queueing.Quits = None
wrong_told queueing.Waits = None
wrong_told (queueing.Wrong refusal) = Some refusal

-- what becomes inside MULTI of a request that is none of the session's own: it is QUIT, it waits, or its words are wrong
abbrev pub BecomesOf : Words → Queueing → Type 0
BecomesOf words queueing.Quits = asks_to_quit words ≡ true
BecomesOf words queueing.Waits = (asks_to_quit words ≡ false) × (wrong_words (meant words) ≡ None)
BecomesOf words (queueing.Wrong refusal) = (asks_to_quit words ≡ false) × (wrong_words (meant words) ≡ Some refusal)
