-- A stream behind its key.
use Rattle.std.proofs.Common.{ℕ, List, [], ◌∷◌, Result, Ok, Err, OnOk, refl, sym}
use Rattle.std.proofs.lemmas.List.{append-nil}
use Rattle.outside.specs.Files.{ShelfSeen}
use Rattle.plain_world.specs.Streams.{Stream}
use Rattle.plain_world.specs.Worlds.{StreamOf}
use Rattle.fit_worlds.specs.Fit.{IsShort}
use Rattle.rdb_grammar.specs.declared.values.Layout.TheVariants as layouts
use Rattle.rdb_grammar.specs.declared.values.StreamType.TheVariants as types
use Rattle.rdb_grammar.specs.Codes as code
use Rattle.rdb_grammar.specs.Items.{Key, Opens, item}
use Rattle.rdb_parts.specs.declared.pen.Pen.{Pen}
use Rattle.rdb_parts.specs.Pens.{Adds, Writes, WritesSome}
use Rattle.rdb_parts.specs.Words.{string_word, key_word}
use Rattle.rdb_parts.proofs.Penned.{adds_then, lost_then}
use Rattle.rdb_parts.proofs.Spelled.{string_spelled}
use Rattle.rdb_stream_writer.specs.Streams.{SpellsStream}

stream_spelled : (name : List ℕ) (stream : Stream) (word : List ℕ) → IsShort name → SpellsStream stream word → item.Spells (Key name (StreamOf stream)) (key_word code.third_stream name word)
stream_spelled name stream word short spelled =
    let a = string_word name in (
      Opens name (layouts.Stream types.Third),
      code.third_stream ∷ a,
      word,
      refl,
      (code.third_stream, a, refl, (name, a, [], sym (append-nil a), string_spelled name short, (refl, refl))),
      (StreamOf stream, word, [], sym (append-nil word), spelled, (refl, refl)),
    )

-- a key's type and name, and the stream's bytes
pub stream_written : {T E : Type 0} (o m n : ShelfSeen) (b c d : Pen) (name : List ℕ) (stream : Stream) (word : List ℕ) (r : Result T E) → IsShort name
    → Adds o m b c (code.third_stream ∷ string_word name) → Writes m n c d word r → OnOk r (SpellsStream stream word)
    → WritesSome o n b d (λ x w. item.Spells (Key name (StreamOf stream)) w) r
stream_written o m n b c d name stream word (Ok x) short first p spelled =
    (key_word code.third_stream name word, adds_then o m n b c d (code.third_stream ∷ string_word name) word first p, stream_spelled name stream word short spelled)
stream_written o m n b c d name stream word (Err e) short first p spelled = lost_then o m n b c (code.third_stream ∷ string_word name) first p
