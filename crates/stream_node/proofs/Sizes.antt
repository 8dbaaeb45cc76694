-- How many elements there are at most.
use Rattle.std.proofs.Common.{◌≡◌, ℕ, ◌-◌, ◌<◌, ◌≤◌, ◌^◌, List, [], ◌∷◌, length, arith}
use Rattle.std.specs.List.{All}
use Rattle.std.proofs.lemmas.List.{length-drop}
use Rattle.std.proofs.lemmas.List.Elements.{All-head, All-tail}
use Rattle.listpack.specs.Entry.{IsSpelling}
use Rattle.listpack.specs.Pack.{entries, IsPack, spellings_of, texts}
use Rattle.listpack.specs.View.{list_of}
use Rattle.listpack.proofs.Offsets.{length_texts, length_offset}
use Rattle.listpack.proofs.Regions.{length_entry}
use Rattle.stream_node.specs.declared.rest.Rest.{Rest}
use Rattle.stream_node.specs.Rest.{rest_of}

-- an entry has a byte at least
length-entries : (ss : List (List ℕ)) → All IsSpelling ss → length ss ≤ length (entries ss)
length-entries [] all = omega arith
length-entries (s ∷ ss) all = omega (arith, length-entries ss (All-tail IsSpelling s ss all), length_entry s (entries ss) (All-head IsSpelling s ss all))

pub few_texts : (bytes : List ℕ) → IsPack bytes → length bytes < 2 ^ 32 → length (texts bytes) < 2 ^ 32
few_texts bytes p small =
    omega (arith, small, length_texts bytes, length-entries (spellings_of bytes) p.each, length_offset bytes 0 p)

pub length_rest : (r : Rest) → length (rest_of r) ≡ r.left
length_rest r = omega (arith, length-drop (length (list_of r.pack) - r.left) (list_of r.pack), r.few)

pub few_left : (r : Rest) → length (rest_of r) < 2 ^ 32
few_left r = omega (arith, length_rest r, r.small)
