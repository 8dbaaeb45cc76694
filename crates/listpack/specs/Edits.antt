-- What an edit leaves.
use Rattle.std.specs.Prelude.{◌≡◌, ℕ, ◌+◌, ◌-◌, min, List, ◌==◌, if◌then◌else◌}
use Rattle.listpack.specs.Pack.{IsPack, spellings_of, told}

-- The header's count after one element more, or so many less: told as far as 65,534, and not told anew once it is not.
abbrev pub one_more : ℕ → ℕ
one_more count = min (count + 1) 65535

abbrev pub fewer : ℕ → ℕ → ℕ
fewer count removed = if count == 65535 then count else count - removed

-- The bytes are a listpack whose entries have these spellings and whose header has this count.
pub record IsEdited (bytes : List ℕ) (spellings : List (List ℕ)) (count : ℕ) : Type 0 where
  pub pack : IsPack bytes
  pub entries : spellings_of bytes ≡ spellings
  pub count_is : told bytes ≡ count
