-- A format says which bytes spell a value, which bytes have which first fault, and how both are found from left to
-- right.
use Rattle.std.specs.Prelude.{◌≡◌, ◌⊎◌, ℕ, zero, suc, ◌-◌, ◌<◌, Bool, true, false, List, [], ◌∷◌, ◌++◌, length, take, drop, Result, Ok, Err, nat_lt, if◌then◌else◌}
use Rattle.rdb_grammar.specs.declared.fault.LoadKind.{LoadKind}
use Rattle.rdb_grammar.specs.declared.fault.LoadKind.TheVariants.{Ended}

-- a kind, and how many bytes are left from the byte that it names on
abbrev pub Fault : Type 0
Fault = LoadKind × ℕ

infixl 10 ◌>>=◌
abbrev pub ◌>>=◌ : {A B : Type 0} → Result A Fault → (A → Result B Fault) → Result B Fault
(Ok x) >>= f = f x
(Err e) >>= f = Err e

-- the second step, where the first gave an answer
abbrev pub next_found : {A B : Type 0} → Result A LoadKind → (A → Result B LoadKind) → Result B LoadKind
next_found (Ok x) f = f x
next_found (Err kind) f = Err kind

-- an answer with the bytes behind it, or a fault with so many bytes left
abbrev pub placed : {A : Type 0} → Result A LoadKind → ℕ → List ℕ → Result (A × List ℕ) Fault
placed (Ok x) left rest = Ok (x, rest)
placed (Err kind) left rest = Err (kind, left)

pub record Format (A : Type 0) : Type 1 where
  pub read : List ℕ → Result (A × List ℕ) Fault
  -- these bytes, all of them, spell the value
  pub Spells : A → List ℕ → Type 0
  -- the first fault of bytes that begin with no spelling
  pub Faulty : List ℕ → LoadKind → ℕ → Type 0

-- a part needs a byte past the end
abbrev pub IsEnded : LoadKind → ℕ → Type 0
IsEnded kind left = (kind ≡ Ended) × (left ≡ 0)

-- nothing at all
abbrev pub give : {A : Type 0} → A → Format A
give x = record {
  read = λ bytes. Ok (x, bytes);
  Spells = λ y word. (y ≡ x) × (word ≡ []);
  Faulty = λ bytes kind left. ⊥;
}

-- so many bytes
abbrev pub some_bytes : ℕ → Format (List ℕ)
some_bytes n = record {
  read = λ bytes. if nat_lt (length bytes) n then Err (Ended, 0) else Ok (take n bytes, drop n bytes);
  Spells = λ text word. (word ≡ text) × (length text ≡ n);
  Faulty = λ bytes kind left. (length bytes < n) × IsEnded kind left;
}

-- one format, and behind it the one that its value asks for
abbrev pub followed : {A B : Type 0} → Format A → (A → Format B) → Format B
followed {A = A} one next = record {
  read = λ bytes. one.read bytes >>= λ x. (next x.0).read x.1;
  Spells = λ y word. (x : A) × (front : List ℕ) × (back : List ℕ) × (word ≡ front ++ back) × one.Spells x front
      × (next x).Spells y back;
  Faulty = λ bytes kind left. one.Faulty bytes kind left
      ⊎ ((x : A) × (front : List ℕ) × (back : List ℕ) × (bytes ≡ front ++ back) × one.Spells x front
      × (next x).Faulty back kind left);
}

-- what must pass a test, else it is a fault so many bytes after its start
abbrev pub checked : {A : Type 0} → LoadKind → ℕ → (A → Bool) → Format A → Format A
checked {A = A} kind skip test one = record {
  read = λ bytes. one.read bytes >>= λ x. if test x.0 then Ok x else Err (kind, length bytes - skip);
  Spells = λ x word. one.Spells x word × (test x ≡ true);
  Faulty = λ bytes other left. one.Faulty bytes other left
      ⊎ ((x : A) × (front : List ℕ) × (back : List ℕ) × (bytes ≡ front ++ back) × one.Spells x front
      × (test x ≡ false) × (other ≡ kind) × (left ≡ length bytes - skip));
}

-- so many parts one behind the other, each by what those before it made
unfoldable pub in_turn : {S : Type 0} → (S → Format S) → ℕ → S → Format S
in_turn one zero made = give made
in_turn one (suc n) made = followed (one made) λ more. in_turn one n more

-- how it goes on behind a first byte, or that this byte is refused
pub data Branch (A : Type 0) : Type 1 where
  Goes : Format A → Branch A
  Refuses : LoadKind → Branch A

-- if the test holds the one, else the other
abbrev pub pick : {A : Type 0} → Bool → Branch A → Branch A → Branch A
pick true one other = one
pick false one other = other

-- a branch whose value is seen as another
abbrev pub turned : {A B : Type 0} → (A → B) → Branch A → Branch B
turned of (Goes one) = Goes (followed one λ x. give (of x))
turned of (Refuses is) = Refuses is

abbrev pub branch_read : {A : Type 0} → Branch A → List ℕ → Result (A × List ℕ) Fault
branch_read (Goes one) rest = one.read rest
branch_read (Refuses is) rest = Err (is, suc (length rest))

abbrev pub BranchSpells : {A : Type 0} → Branch A → A → List ℕ → Type 0
BranchSpells (Goes one) x word = one.Spells x word
BranchSpells (Refuses is) x word = ⊥

abbrev pub BranchFaulty : {A : Type 0} → Branch A → List ℕ → LoadKind → ℕ → Type 0
BranchFaulty (Goes one) rest kind left = one.Faulty rest kind left
BranchFaulty (Refuses is) rest kind left = (kind ≡ is) × (left ≡ suc (length rest))

abbrev pub first_read : {A : Type 0} → (ℕ → Branch A) → List ℕ → Result (A × List ℕ) Fault
first_read by [] = Err (Ended, 0)
first_read by (b ∷ rest) = branch_read (by b) rest

-- a byte that says what follows
abbrev pub by_first : {A : Type 0} → (ℕ → Branch A) → Format A
by_first by = record {
  read = first_read by;
  Spells = λ x word. (b : ℕ) × (rest : List ℕ) × (word ≡ b ∷ rest) × BranchSpells (by b) x rest;
  Faulty = λ bytes kind left. ((bytes ≡ []) × IsEnded kind left)
      ⊎ ((b : ℕ) × (rest : List ℕ) × (bytes ≡ b ∷ rest) × BranchFaulty (by b) rest kind left);
}

-- ---- what stands packed inside a part

-- What something is as a payload, as a string's text: what it means, or why it means nothing.
pub record Payload (T A : Type 0) : Type 1 where
  pub found : T → Result A LoadKind
  pub Means : T → A → Type 0
  -- the first fault of what means nothing
  pub Breaks : T → LoadKind → Type 0

-- what a function tells
abbrev pub told : {T A : Type 0} → (T → Result A LoadKind) → Payload T A
told {T = T} {A = A} by = record {
  found = by;
  Means = λ t x. by t ≡ Ok x;
  Breaks = λ t kind. by t ≡ Err kind;
}

-- one payload, and what its meaning is as another: the faults of the one come first
abbrev pub refined : {T A B : Type 0} → Payload T A → Payload A B → Payload T B
refined {A = A} one other = record {
  found = λ t. next_found (one.found t) other.found;
  Means = λ t y. (x : A) × one.Means t x × other.Means x y;
  Breaks = λ t kind. one.Breaks t kind ⊎ ((x : A) × one.Means t x × other.Breaks x kind);
}

-- a payload inside a part: any fault of it stands at the part's first byte
abbrev pub inside : {T A : Type 0} → Format T → Payload T A → Format A
inside {T = T} one payload = record {
  read = λ bytes. one.read bytes >>= λ x. placed (payload.found x.0) (length bytes) x.1;
  Spells = λ y word. (t : T) × one.Spells t word × payload.Means t y;
  Faulty = λ bytes kind left. one.Faulty bytes kind left
      ⊎ ((t : T) × (front : List ℕ) × (back : List ℕ) × (bytes ≡ front ++ back) × one.Spells t front
      × payload.Breaks t kind × (left ≡ length bytes));
}
