-- One entry of a stream node. (Redis source, t_stream.c: the entries of a stream's listpack.)
use Rattle.std.specs.Prelude.{◌≡◌, ◌⊎◌, ℕ, ◌+◌, ◌%◌, ◌^◌, ◌<◌, Bool, true, false, List, [], ◌∷◌, ◌++◌, length, map, ℤ, pos, FitsSigned, if◌then◌else◌}
use Rattle.std.specs.List.{flat_map}
use Rattle.std.specs.Int.{w64, cast_unsigned}
use Rattle.int_text.specs.Decimal.{canonical}
use Rattle.stream_node.specs.declared.id.Id.{Id}

-- a field and its value
abbrev pub Pair : Type 0
Pair = List ℕ × List ℕ

-- what an entry is: its id, whether it is marked deleted, its fields and values
pub record Stored : Type 0 where
  pub id : Id
  pub deleted : Bool
  pub pairs : List Pair

-- by milliseconds, then by sequence number
abbrev pub IsBelow : Id → Id → Type 0
IsBelow a b = (a.ms < b.ms) ⊎ ((a.ms ≡ b.ms) × (a.seq < b.seq))

-- a number, as its canonical text
abbrev pub number : ℕ → List ℕ
number n = canonical (pos n)

-- a part of an id, by its signed difference from the node's key, modulo 2^64
abbrev pub moved : ℕ → ℤ → ℕ
moved part difference = (part + cast_unsigned w64 difference) % 2 ^ 64

-- 1 for a deleted entry, and 2 for one whose fields are the node's
abbrev pub flags : Bool → Bool → ℕ
flags deleted same = (if deleted then 1 else 0) + (if same then 2 else 0)

-- The list begins with the flags and the two differences of an entry, and the rest follows.
pub record IsStart (key : Id) (list : List (List ℕ)) (deleted : Bool) (same : Bool) (id : Id) (rest : List (List ℕ))
    : Type 0 where
  pub ms : ℤ
  pub seq : ℤ
  pub ms_fits : FitsSigned w64 ms
  pub seq_fits : FitsSigned w64 seq
  pub elements : list ≡ number (flags deleted same) ∷ canonical ms ∷ canonical seq ∷ rest
  pub ms_is : id.ms ≡ moved key.ms ms
  pub seq_is : id.seq ≡ moved key.seq seq

abbrev pub fields_of : List Pair → List (List ℕ)
fields_of pairs = map (λ (p : Pair). p.0) pairs

-- Where the fields are the node's, the values alone; else the number of pairs, and fields and values alternating.
abbrev pub body : Bool → List Pair → List (List ℕ)
body true pairs = map (λ (p : Pair). p.1) pairs
body false pairs = number (length pairs) ∷ flat_map (λ (p : Pair). p.0 ∷ p.1 ∷ []) pairs

abbrev pub HasFields : Bool → List (List ℕ) → List Pair → Type 0
HasFields true master pairs = fields_of pairs ≡ master
HasFields false master pairs = (0 < length pairs) × (length pairs < 2 ^ 63)

-- how many elements an entry has before its last one, which tells this
abbrev pub size : List (List ℕ) → ℕ
size middle = 3 + length middle

-- The list begins with these pairs and the entry's last element, and the rest follows.
pub record IsBody (same : Bool) (master : List (List ℕ)) (list : List (List ℕ)) (pairs : List Pair)
    (rest : List (List ℕ)) : Type 0 where
  pub fields : HasFields same master pairs
  pub elements : list ≡ body same pairs ++ number (size (body same pairs)) ∷ rest

-- The list begins with the elements of this entry, and the rest follows.
pub record IsEntry (key : Id) (master : List (List ℕ)) (list : List (List ℕ)) (entry : Stored) (rest : List (List ℕ))
    : Type 0 where
  pub same : Bool
  pub behind : List (List ℕ)
  pub start : IsStart key list entry.deleted same entry.id behind
  pub pairs : IsBody same master behind entry.pairs rest
