-- What a format spells has a property, if what its parts spell makes it so.
use Rattle.std.proofs.Common.{◌≡◌, ℕ, zero, suc, Bool, List, Result, Ok, Err, refl, sym, subst}
use Rattle.rdb_grammar.specs.declared.fault.LoadKind.{LoadKind}
use Rattle.rdb_grammar.specs.Format.{Format, Payload, give, followed, checked, in_turn, refined, inside, next_found}
use Rattle.rdb_grammar.specs.StreamParts.{counted}
use Rattle.rdb_grammar.specs.Lengths.{a_length}

-- whatever is spelled has the property
abbrev pub Says : {A : Type 0} → Format A → (A → Type 0) → Type 0
Says {A} one P = (x : A) (word : List ℕ) → one.Spells x word → P x

-- whatever such a payload means has the property
abbrev pub MeansOnly : {T A : Type 0} → (T → Type 0) → Payload T A → (A → Type 0) → Type 0
MeansOnly {T} {A} Is payload P = (t : T) → Is t → (x : A) → payload.Means t x → P x

pub gives : {A : Type 0} (P : A → Type 0) (x : A) → P x → Says (give x) P
gives P x h y word s = subst P (sym s.0) h

pub follows : {A B : Type 0} (P : A → Type 0) (Q : B → Type 0) (one : Format A) (next : A → Format B) → Says one P → ((x : A) → P x → Says (next x) Q) → Says (followed one next) Q
follows P Q one next h k y word s = k s.0 (h s.0 s.1 s.4) y s.2 s.5

pub checks : {A : Type 0} (P : A → Type 0) (fault : LoadKind) (skip : ℕ) (test : A → Bool) (one : Format A) → Says one P → Says (checked fault skip test one) P
checks P fault skip test one h x word s = h x word s.0

-- anything that is spelled
pub anything : {A : Type 0} (one : Format A) → Says one (λ x. Unit {0})
anything one x word s = tt

pub turns : {S : Type 0} (P : S → Type 0) (one : S → Format S) → ((made : S) → P made → Says (one made) P) → (n : ℕ) (made : S) → P made → Says (in_turn one n made) P
unfolding in_turn
turns P one h zero made is = gives P made is
turns P one h (suc n) made is = follows P P (one made) (λ more. in_turn one n more) (h made is) (λ more is. turns P one h n more is)

pub counts : {S : Type 0} (P : S → Type 0) (one : S → Format S) → ((made : S) → P made → Says (one made) P) → (made : S) → P made → Says (counted one made) P
counts P one h made is = follows (λ n. Unit {0}) P a_length (λ n. in_turn one n made) (anything a_length) (λ n t. turns P one h n made is)

pub lies_in : {T A : Type 0} (Is : T → Type 0) (P : A → Type 0) (one : Format T) (payload : Payload T A) → Says one Is → MeansOnly Is payload P → Says (inside one payload) P
lies_in Is P one payload h k y word s = k s.0 (h s.0 word s.1) y s.2

pub refines : {T A B : Type 0} (Is : T → Type 0) (P : A → Type 0) (Q : B → Type 0) (one : Payload T A) (other : Payload A B) → MeansOnly Is one P → MeansOnly P other Q
    → MeansOnly Is (refined one other) Q
refines Is P Q one other h k t is y m = k m.0 (h t is m.0 m.1) y m.2

-- what is found, and what is made of it
pub then_found : {A B : Type 0} (P : A → Type 0) (Q : B → Type 0) (r : Result A LoadKind) (make : A → Result B LoadKind) → ((a : A) → r ≡ Ok a → P a) → ((a : A) → P a → (b : B) → make a ≡ Ok b → Q b)
    → (b : B) → next_found r make ≡ Ok b → Q b
then_found P Q (Ok a) make h k b e = k a (h a refl) b e
then_found P Q (Err fault) make h k b e = cc

-- an answer that isn't a fault
abbrev ok : {B : Type 0} → B → Result B LoadKind
ok b = Ok b

pub found_is : {B : Type 0} (P : B → Type 0) (x b : B) → P x → ok x ≡ ok b → P b
found_is P x b h e = let same : x ≡ b = cc in subst P same h
