-- Elements put in the place of others.
use Rattle.std.proofs.Common.{◌≡◌, ℕ, suc, ◌+◌, ◌<◌, ◌^◌, List, ◌∷◌, length, take, drop, ap, arith}
use Rattle.std.specs.Prelude.{slice_set}
use Rattle.std.specs.List.{remove}
use Rattle.std.proofs.lemmas.List.{length-append, set_split}
use Rattle.std.proofs.lemmas.List.Concat.{flat_map-append}
use Rattle.listpack.specs.Entry.{entry_of}
use Rattle.listpack.specs.Pack.{IsPack, entries, spellings_of, texts}
use Rattle.listpack.specs.Writing.{spelling, entry}
use Rattle.listpack.specs.Edits.{IsEdited}
use Rattle.listpack.proofs.Offsets.{length_texts}
use Rattle.stream_node.specs.Appended.{pack_len}
use Rattle.stream_node.proofs.Lists.{Texts}
use Rattle.stream_node.proofs.Written.{length_pack}

-- how many bytes it takes to put an entry in the place of another
pub exchanged_len : (ss : Texts) (i : ℕ) (s : List ℕ) → i < length ss → length (entries (slice_set ss i s)) ≡ length (entries (remove ss i)) + length (entry_of s)
exchanged_len ss i s inside =
    omega (
      arith,
      ap (λ (x : Texts). length (entries x)) (set_split ss i s inside),
      ap length (flat_map-append entry_of (take i ss) (s ∷ drop (suc i) ss)),
      length-append (entries (take i ss)) (entries (s ∷ drop (suc i) ss)),
      length-append (entry_of s) (entries (drop (suc i) ss)),
      ap length (flat_map-append entry_of (take i ss) (drop (suc i) ss)),
      length-append (entries (take i ss)) (entries (drop (suc i) ss)),
    )

pub first_room : (old without text due : List ℕ) (count : ℕ) → IsPack old → 0 < length (texts old) → IsEdited without (remove (spellings_of old) 0) count → text ≡ due
    → pack_len (slice_set (spellings_of old) 0 (spelling due)) < 2 ^ 32 → length without + length (entry text) < 2 ^ 32
first_room old without text due count p some gone same room =
    omega (
      arith,
      room,
      length_pack without gone.pack,
      ap (λ (x : Texts). length (entries x)) gone.entries,
      exchanged_len (spellings_of old) 0 (spelling due) (omega (arith, some, length_texts old)),
      ap (λ (x : List ℕ). length (entry x)) same,
    )
