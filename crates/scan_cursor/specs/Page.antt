-- A page of a scan, as a SCAN command with COUNT makes it.
use Rattle.std.specs.Prelude.{zero, suc, ◌+◌, ◌-◌, ◌*◌, ◌==◌, ◌||◌, ◌++◌, nat_le, ℕ, List, length, if◌then◌else◌}

-- up to so many further moves, until the cursor is 0 or enough elements were met
unfoldable pub scan_from : (ℕ → List ℕ) → (ℕ → ℕ) → ℕ → ℕ → List ℕ → ℕ → List ℕ × ℕ
scan_from move after zero count met at = (met, at)
scan_from move after (suc moves) count met at =
    if (at == 0) || nat_le count (length met) then (met, at)
    else scan_from move after moves count (met ++ move at) (after at)

-- The elements met and the next cursor: moves are made until the cursor is 0, until `count` elements or more were met,
-- or until ten times as many moves were made.
abbrev pub scan_list : (ℕ → List ℕ) → (ℕ → ℕ) → ℕ → ℕ → List ℕ × ℕ
scan_list move after cursor count = scan_from move after (count * 10 - 1) count (move cursor) (after cursor)
