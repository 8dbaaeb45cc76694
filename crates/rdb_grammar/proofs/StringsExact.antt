-- Lengths, numbers and strings are exact, and so are parts in turn.
use Rattle.std.proofs.Common.{ℕ, zero, suc}
use Rattle.std.specs.Int.{Width, w8, w32, w64, byte_len}
use Rattle.rdb_grammar.specs.declared.fault.LoadKind.{LoadKind}
use Rattle.rdb_grammar.specs.declared.fault.LoadKind.TheVariants as kinds
use Rattle.rdb_grammar.specs.Format.{Format, in_turn}
use Rattle.rdb_grammar.specs.Lengths.{number, number_le, length_behind, a_length}
use Rattle.rdb_grammar.specs.Strings.{Head, Len, Num, head_behind, head, is_short, body, string}
use Rattle.rdb_grammar.proofs.Exactly.{Exact, BranchExact, goes_exact, refuses_exact, give_exact, some_bytes_exact, followed_exact, checked_exact, pick_exact, turned_exact, by_first_exact}

pub number_exact : (w : Width) → Exact (number w)
number_exact w = followed_exact _ _ (some_bytes_exact _) λ bytes. give_exact _

pub number_le_exact : (w : Width) → Exact (number_le w)
number_le_exact w = followed_exact _ _ (some_bytes_exact _) λ bytes. give_exact _

pub length_behind_exact : (refused : LoadKind) (b : ℕ) → BranchExact (length_behind refused b)
length_behind_exact refused b =
    pick_exact _ _ _ (goes_exact _ (give_exact _))
    (pick_exact _ _ _ (goes_exact _ (followed_exact _ _ (number_exact w8) λ low. give_exact _))
    (pick_exact _ _ _ (goes_exact _ (number_exact w32)) (pick_exact _ _ _ (goes_exact _ (number_exact w64)) (refuses_exact _))))

pub a_length_exact : Exact a_length
a_length_exact = by_first_exact _ (length_behind_exact kinds.Length)

head_behind_exact : (b : ℕ) → BranchExact (head_behind b)
head_behind_exact b =
    search (pick_exact, goes_exact, refuses_exact, give_exact, turned_exact, length_behind_exact) depth 16 fits 2000

pub head_exact : Exact head
head_exact = by_first_exact head_behind head_behind_exact

pub body_exact : (h : Head) → Exact (body h)
body_exact (Len n) = some_bytes_exact n
body_exact (Num w) = followed_exact _ _ (some_bytes_exact (byte_len w)) λ bytes. give_exact _

pub string_exact : Exact string
string_exact = followed_exact _ _ (checked_exact kinds.TooLong 0 is_short head head_exact) body_exact

-- parts in turn are exact, if each is
pub in_turn_exact : {S : Type 0} (one : S → Format S) → ((made : S) → Exact (one made)) → (n : ℕ) (made : S) → Exact (in_turn one n made)
unfolding in_turn
in_turn_exact one e zero made = give_exact made
in_turn_exact one e (suc n) made = followed_exact (one made) (λ more. in_turn one n more) (e made) λ more. in_turn_exact one e n more
