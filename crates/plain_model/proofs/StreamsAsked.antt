-- What the words of a request tell of a command on streams: an entry that is added has pairs, and no more than the words of
-- the request, and they aren't too long.
use Rattle.std.proofs.Common.{◌≡◌, ℕ, zero, suc, ◌*◌, ◌<◌, ◌≤◌, ◌==◌, ◌%◌, List, [], ◌∷◌, ◌++◌, map, length, drop, Bool, true, false, Result, Ok, Err, None, refl, arith}
use Rattle.std.specs.Prelude.{◌&&◌, nat_le, bytes_eq, codes, if◌then◌else◌}
use Rattle.std.specs.List.{AllByRecursion}
use Rattle.std.proofs.lemmas.Bool.{leb-true}
use Rattle.plain_world.specs.Words.{Words, IsRequest, in_lower_case, most_words}
use Rattle.plain_model.specs.Shapes.{Row, Plain, EntryId, IdOr, ForEntry, FirstId, LastId, told, and_then}
use Rattle.plain_model.specs.StringWords.{pairs_of, string_rows}
use Rattle.plain_model.specs.KeyWords.{key_rows}
use Rattle.plain_model.specs.ListWords.{list_rows}
use Rattle.plain_model.specs.SetWords.{set_rows}
use Rattle.plain_model.specs.HashWords.{hash_rows}
use Rattle.plain_model.specs.ZsetWords.{zset_rows}
use Rattle.plain_model.specs.StreamWords.{no_append_options, is_option, own_of, behind_options, append_options, longest_entry, pairs_len, entry_of, entry_words, is_entry, append_words}
use Rattle.plain_model.specs.StreamWords.{trim_words, trim_of, trim_to, own_words, read_words, streams_read, group_read, read_group_words, count_option, at_most, each_told, group_rows}
use Rattle.plain_model.specs.StreamWords.{create_options, no_options, stream_rows}
use Rattle.plain_model.specs.ConnectionWords.{connection_rows}
use Rattle.plain_model.specs.Meant.{of_family, rows, read_by, meant}
use Rattle.plain_model.specs.declared.command.Command.{Command}
use Rattle.plain_model.specs.declared.command.Command.TheVariants.{Strings, Lists, Sets, Hashes, Zsets, Streams, Keys, Connection}
use Rattle.plain_model.specs.declared.stream_command.AppendOptions.{AppendOptions}
use Rattle.plain_model.specs.declared.stream_command.StreamCommand.{StreamCommand}
use Rattle.plain_model.specs.declared.stream_command.StreamCommand.TheVariants as streams
use Rattle.plain_world.specs.declared.refusal.Refusal.{Refusal}
use Rattle.plain_world.specs.declared.refusal.Refusal.TheVariants.{WrongNumberOfArguments, Syntax, ValueOutOfRange}
use Rattle.plain_model.specs.declared.zset_command.Direction.TheVariants.{Rising, Falling}
use Rattle.plain_model.proofs.Told.{then_told, if_has, if_true, never, made, fixed_fits, by_second_fits, repeated_fits, with_options_fits}

-- an entry that is added has a pair at least, so many words at most, and not too many bytes
pub record IsEntry (most : ℕ) (pairs : List (List ℕ × List ℕ)) : Type 0 where
  pub some : 0 < length pairs
  pub few : 2 * length pairs ≤ most
  pub short : pairs_len pairs ≤ longest_entry

-- the entry that a command adds is one
abbrev pub FitsStreams : ℕ → StreamCommand → Type 0
FitsStreams most (streams.XAdd key options id pairs) = IsEntry most pairs
FitsStreams most other = Unit {0}

module _ (most : ℕ) where
  -- nothing is asked of a command on other values
  abbrev FitsAll : Command → Type 0
  FitsAll (Streams c) = FitsStreams most c
  FitsAll other = Unit {0}

  -- whatever a row makes of so many words at most has the property
  abbrev RowFits : {A : Type 0} → (A → Type 0) → Row A → Type 0
  RowFits {A} P row = (words : Words) (c : A) → length words ≤ most → row.read words ≡ Ok c → P c

  -- two words make a pair, and there are no more pairs than pairs of words
  counted : (fields : Words) → 2 * length (pairs_of fields) ≤ length fields
  counted [] = omega arith
  counted (field ∷ []) = omega arith
  counted (field ∷ value ∷ fields) = omega (arith, counted fields)

  one_at_least : (fields : Words) → 2 ≤ length fields → 0 < length (pairs_of fields)
  one_at_least [] h = absurd (omega (arith, h))
  one_at_least (field ∷ []) h = absurd (omega (arith, h))
  one_at_least (field ∷ value ∷ fields) h = omega arith

  both : (a b : Bool) → (a && b) ≡ true → a ≡ true
  both true b e = refl
  both false b e = cc

  entry_fits : (key : List ℕ) (behind : Words) (options : AppendOptions) (c : StreamCommand) → 3 ≤ length behind → length behind ≤ most → entry_words key behind options ≡ Ok c → FitsStreams most c
  entry_fits key [] options c many few e = cc
  entry_fits key (word ∷ fields) options c many few e =
      let P = FitsStreams most in
      let pairs = pairs_of fields in
      then_told P (told ForEntry word) (entry_of key options pairs) (λ id is b f.
      if_true P (nat_le (pairs_len pairs) longest_entry) (Ok (streams.XAdd key options id pairs)) ValueOutOfRange (λ short x g.
      made P (streams.XAdd key options id pairs) x (record {
        some = one_at_least fields (omega (arith, many));
        few = omega (arith, few, counted fields);
        short = leb-true (pairs_len pairs) longest_entry short;
      }) g) b f) c e

  -- behind the options there are no more words
  not_more : (skip : ℕ) (words : Words) → length (behind_options skip words) ≤ length words
  not_more skip [] = omega arith
  not_more (suc skip) (word ∷ words) = omega (arith, not_more skip words)
  not_more zero (word ∷ words) =
      elim (is_option word) as (λ b. length (if b then behind_options (own_of word words) words else word ∷ words) ≤ length (word ∷ words)) [
        | true ↦ omega (arith, not_more (own_of word words) words)
        | false ↦ omega arith
      ]

  append_fits : (words : Words) (c : StreamCommand) → length words ≤ most → append_words words ≡ Ok c → FitsStreams most c
  append_fits [] c few e = cc
  append_fits (key ∷ words) c few e =
      let P = FitsStreams most in
      let behind = behind_options 0 words in
      let options = append_options no_append_options 0 words in
      if_true P (is_entry behind) (and_then options (entry_words key behind)) WrongNumberOfArguments (λ whole b f.
      then_told P options (entry_words key behind) (λ o is x g.
      entry_fits key behind o x (leb-true 3 (length behind) (both (nat_le 3 (length behind)) (length behind % 2 == 1) whole)) (omega (arith, few, not_more 0 words)) g) b f) c e

  -- the rows of other commands on streams add no entry
  abbrev AddsNone : (Words → Result StreamCommand Refusal) → Type 0
  AddsNone read = (words : Words) (c : StreamCommand) → read words ≡ Ok c → FitsStreams most c

  trim_fits : AddsNone trim_words
  trim_fits [] c e = cc
  trim_fits (key ∷ []) c e = cc
  trim_fits (key ∷ name ∷ words) c e =
      let P = FitsStreams most in
      let trim = trim_of (in_lower_case name) words in
      if_has P (nat_le 1 (length words) && nat_le (length words) 2) (and_then trim (trim_to key words)) (Err WrongNumberOfArguments)
      (then_told P trim (trim_to key words) (λ t is.
      if_has P (length words == own_words words) (Ok (streams.XTrim key t)) (Err Syntax) (λ b. made P (streams.XTrim key t) b tt) (never P Syntax)))
      (never P WrongNumberOfArguments) c e

  read_fits : AddsNone read_words
  read_fits words =
      let P = FitsStreams most in
      let list = streams_read (codes "$") None words in
      if_has P (nat_le 3 (length words)) (and_then list (λ read. Ok (streams.XRead read.0 read.1))) (Err WrongNumberOfArguments)
      (then_told P list (λ read. Ok (streams.XRead read.0 read.1)) (λ read is b. made P (streams.XRead read.0 read.1) b tt)) (never P WrongNumberOfArguments)

  group_fits : AddsNone group_read
  group_fits [] c e = cc
  group_fits (word ∷ []) c e = cc
  group_fits (word ∷ group ∷ []) c e = cc
  group_fits (word ∷ group ∷ consumer ∷ words) c e =
      let P = FitsStreams most in
      let list = streams_read (codes ">") None words in
      if_has P (bytes_eq (in_lower_case word) (codes "group")) (and_then list (λ read. Ok (streams.XReadGroup group consumer read.0 read.1))) (Err Syntax)
      (then_told P list (λ read. Ok (streams.XReadGroup group consumer read.0 read.1)) (λ read is b. made P (streams.XReadGroup group consumer read.0 read.1) b tt)) (never P Syntax) c e

  read_group_fits : AddsNone read_group_words
  read_group_fits words =
      if_has (FitsStreams most) (nat_le 6 (length words)) (group_read words) (Err WrongNumberOfArguments) (group_fits words) (never (FitsStreams most) WrongNumberOfArguments)

  rest_fit : (own : List (Row StreamCommand)) → AllByRecursion (λ row. AddsNone row.read) own → AllByRecursion (RowFits (FitsStreams most)) own
  rest_fit [] h = tt
  rest_fit (row ∷ own) h = (λ words c few e. h.0 words c e, rest_fit own h.1)

  stream_rows_fit : AllByRecursion (RowFits (FitsStreams most)) stream_rows
  stream_rows_fit =
      let P = FitsStreams most in (
        append_fits,
        rest_fit (drop 1 stream_rows) (
          fixed_fits P (Plain ∷ []) (λ a. Ok (streams.XLen a.0)) (λ a keeps c. made P (streams.XLen a.0) c tt),
          (
            with_options_fits P (Plain ∷ FirstId ∷ LastId ∷ []) (count_option at_most ∷ []) None (λ a o. Ok (streams.XRange a.0 a.1.0 a.1.1.0 Rising o)) (λ o. Unit {0})
                ((λ own o keeps q. tt, tt), tt) (λ a keeps o q c. made P (streams.XRange a.0 a.1.0 a.1.1.0 Rising o) c tt),
            (
              with_options_fits P (Plain ∷ LastId ∷ FirstId ∷ []) (count_option at_most ∷ []) None (λ a o. Ok (streams.XRange a.0 a.1.1.0 a.1.0 Falling o)) (λ o. Unit {0})
                  ((λ own o keeps q. tt, tt), tt) (λ a keeps o q c. made P (streams.XRange a.0 a.1.1.0 a.1.0 Falling o) c tt),
              (
                repeated_fits P (Plain ∷ []) 1 (λ a own. and_then (each_told EntryId own) (λ ids. Ok (streams.XDel a.0 ids)))
                    (λ a own c. then_told P (each_told EntryId own) (λ ids. Ok (streams.XDel a.0 ids)) (λ ids is b. made P (streams.XDel a.0 ids) b tt) c),
                (
                  trim_fits,
                  (
                    read_fits,
                    (
                      by_second_fits P 3 group_rows (
                        with_options_fits P (Plain ∷ Plain ∷ IdOr (codes "$") ∷ []) create_options false (λ a o. Ok (streams.XGroupCreate a.0 a.1.0 a.1.1.0 o)) (λ o. Unit {0})
                            ((λ own o keeps q. tt, tt), tt) (λ a keeps o q c. made P (streams.XGroupCreate a.0 a.1.0 a.1.1.0 o) c tt),
                        (fixed_fits P (Plain ∷ Plain ∷ []) (λ a. Ok (streams.XGroupDestroy a.0 a.1.0)) (λ a keeps c. made P (streams.XGroupDestroy a.0 a.1.0) c tt), tt),
                      ),
                      (
                        read_group_fits,
                        (
                          repeated_fits P (Plain ∷ Plain ∷ []) 1 (λ a own. and_then (each_told EntryId own) (λ ids. Ok (streams.XAck a.0 a.1.0 ids)))
                              (λ a own c. then_told P (each_told EntryId own) (λ ids. Ok (streams.XAck a.0 a.1.0 ids)) (λ ids is b. made P (streams.XAck a.0 a.1.0 ids) b tt) c),
                          (
                            with_options_fits P (Plain ∷ Plain ∷ []) no_options tt (λ a o. Ok (streams.XPending a.0 a.1.0)) (λ o. Unit {0}) (tt, tt)
                                (λ a keeps o q c. made P (streams.XPending a.0 a.1.0) c tt),
                            tt,
                          ),
                        ),
                      ),
                    ),
                  ),
                ),
              ),
            ),
          ),
        ),
      )

  -- a family's rows and the others behind them make only entries that are ones, if both parts do
  family_fits : {A : Type 0} (family : A → Command) (P : A → Type 0) → ((a : A) → P a → FitsAll (family a)) → (own : List (Row A)) → AllByRecursion (RowFits P) own
      → (others : List (Row Command)) → AllByRecursion (RowFits FitsAll) others → AllByRecursion (RowFits FitsAll) (map (of_family family) own ++ others)
  family_fits family P fits [] h others k = k
  family_fits family P fits (row ∷ own) h others k = (
    λ words c few e. then_told FitsAll (row.read words) (λ command. Ok (family command)) (λ a is b f. made FitsAll (family a) b (fits a (h.0 words a few is)) f) c e,
    family_fits family
        P fits own h.1 others k,
  )

  -- the rows of commands on other values
  others_fit : {A : Type 0} (family : A → Command) → ((a : A) → FitsAll (family a)) → (own : List (Row A)) (others : List (Row Command)) → AllByRecursion (RowFits FitsAll) others
      → AllByRecursion (RowFits FitsAll) (map (of_family family) own ++ others)
  others_fit family fits [] others k = k
  others_fit family fits (row ∷ own) others k =
      (λ words c few e. then_told FitsAll (row.read words) (λ command. Ok (family command)) (λ a is b f. made FitsAll (family a) b (fits a) f) c e, others_fit family fits own others k)

  last_fit : {A : Type 0} (family : A → Command) → ((a : A) → FitsAll (family a)) → (own : List (Row A)) → AllByRecursion (RowFits FitsAll) (map (of_family family) own)
  last_fit family fits [] = tt
  last_fit family fits (row ∷ own) =
      (λ words c few e. then_told FitsAll (row.read words) (λ command. Ok (family command)) (λ a is b f. made FitsAll (family a) b (fits a) f) c e, last_fit family fits own)

  rows_fit : AllByRecursion (RowFits FitsAll) rows
  rows_fit =
      let last = map (of_family Connection) connection_rows in
      let keys = map (of_family Keys) key_rows ++ last in
      let streams = map (of_family Streams) stream_rows ++ keys in
      let zsets = map (of_family Zsets) zset_rows ++ streams in
      let hashes = map (of_family Hashes) hash_rows ++ zsets in
      let sets = map (of_family Sets) set_rows ++ hashes in
      let lists = map (of_family Lists) list_rows ++ sets in
      others_fit Strings (λ a. tt) string_rows lists
      (others_fit Lists (λ a. tt) list_rows sets
      (others_fit Sets (λ a. tt) set_rows hashes
      (others_fit Hashes (λ a. tt) hash_rows zsets
      (others_fit Zsets (λ a. tt) zset_rows streams
      (family_fits Streams (FitsStreams most) (λ a h. h) stream_rows stream_rows_fit keys
      (others_fit Keys (λ a. tt) key_rows last
      (last_fit Connection (λ a. tt) connection_rows)))))))

  found_fits : (all : List (Row Command)) → AllByRecursion (RowFits FitsAll) all → (name : List ℕ) (words : Words) (c : Command) → length words ≤ most → read_by all name words ≡ Ok c → FitsAll c
  found_fits [] h name words c few e = cc
  found_fits (row ∷ all) h name words c few e = if_has FitsAll (bytes_eq name row.name) (row.read words) (read_by all name words) (λ b f. h.0 words b few f)
      (λ b f. found_fits all h.1 name words b few f) c e

-- what a command on streams keeps that a request means
pub streams_fit : (words : Words) (c : StreamCommand) → IsRequest words → meant words ≡ Ok (Streams c) → FitsStreams most_words c
streams_fit [] c request e = cc
streams_fit (name ∷ words) c request e =
    let few : length (name ∷ words) ≤ most_words = request.few in
    found_fits most_words rows (rows_fit most_words) (in_lower_case name) words (Streams c) (omega (arith, few)) e
