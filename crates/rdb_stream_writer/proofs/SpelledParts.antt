-- Ids, lengths and repeated parts are spelled.
use Rattle.std.proofs.Common.{ℕ, suc, ◌<◌, ◌^◌, List, [], ◌++◌, length, refl, sym}
use Rattle.std.specs.Prelude.{flat_map}
use Rattle.std.specs.Int.{w64, to_be_bytes, to_le_bytes}
use Rattle.std.proofs.lemmas.List.{append-nil}
use Rattle.std.proofs.lemmas.Nat.{from_be_bytes-to_be_bytes_8, from_le_bytes-to_le_bytes_8}
use Rattle.stream_groups.specs.Groups.{Id}
use Rattle.rdb_grammar.specs.Format.{Format, in_turn}
use Rattle.rdb_grammar.specs.Lengths.{number, number_le}
use Rattle.rdb_grammar.specs.StreamParts.{two_lengths, sixteen_bytes, counted}
use Rattle.rdb_parts.specs.Words.{length_word}
use Rattle.rdb_parts.proofs.Spelled.{length_spelled, number_le_spelled}
use Rattle.rdb_stream_writer.specs.Ids.{id_word, lengths_word, counted_by, IsStoredId}

number_spelled : (n : ℕ) → n < 2 ^ 64 → (number w64).Spells n (to_be_bytes w64 n)
number_spelled n fits = (to_be_bytes w64 n, to_be_bytes w64 n, [], sym (append-nil (to_be_bytes w64 n)), (refl, refl), (sym (from_be_bytes-to_be_bytes_8 n fits), refl))

pub low_number_spelled : (n : ℕ) → n < 2 ^ 64 → (number_le w64).Spells n (to_le_bytes w64 n)
low_number_spelled n fits = number_le_spelled w64 n (to_le_bytes w64 n) refl (sym (from_le_bytes-to_le_bytes_8 n fits))

pub id_spelled : (id : Id) → IsStoredId id → sixteen_bytes.Spells id (id_word id)
id_spelled id fits =
    let second = to_be_bytes w64 (id.1) in
    (id.0, to_be_bytes w64 (id.0), second, refl, number_spelled (id.0) fits.0, (id.1, second, [], sym (append-nil second), number_spelled (id.1) fits.1, (refl, refl)))

pub lengths_spelled : (id : Id) → IsStoredId id → two_lengths.Spells id (lengths_word id)
lengths_spelled id fits =
    let second = length_word (id.1) in
    (id.0, length_word (id.0), second, refl, length_spelled (id.0) fits.0, (id.1, second, [], sym (append-nil second), length_spelled (id.1) fits.1, (refl, refl)))

module _ {S : Type 0} (one : S → Format S) where
  pub turns_none : (made : S) → (in_turn one 0 made).Spells made []
  unfolding in_turn
  turns_none made = (refl, refl)

  pub turns_more : (n : ℕ) (made more final : S) (front back : List ℕ) → (one made).Spells more front → (in_turn one n more).Spells final back → (in_turn one (suc n) made).Spells final (front ++ back)
  unfolding in_turn
  turns_more n made more final front back s t = (more, front, back, refl, s, t)

  pub counted_spelled : {A : Type 0} (word_of : A → List ℕ) (xs : List A) (made final : S) → length xs < 2 ^ 64 → (in_turn one (length xs) made).Spells final (flat_map word_of xs)
      → (counted one made).Spells final (counted_by word_of xs)
  counted_spelled word_of xs made final few s = (length xs, length_word (length xs), flat_map word_of xs, refl, length_spelled (length xs) few, s)
