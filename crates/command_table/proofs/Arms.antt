-- What reading answers, from what the words of a shape tell. One lemma for each shape, whatever is made of the words.
use Rattle.std.proofs.Common.{◌≡◌, ℕ, List, [], ◌∷◌, length, drop, Bool, true, false, Option, Some, Result, Ok, Err, refl, sym, ap, subst, ◌∙◌}
use Rattle.std.specs.Prelude.{ℤ, ◌==◌, ◌&&◌, ◌-◌, ◌%◌, nat_le, nat_lt, if◌then◌else◌}
use Rattle.std.specs.Result.{MatchResult, IsOkAnd}
use Rattle.plain_world.specs.Words.{Words}
use Rattle.plain_model.specs.Shapes.{Kind, Plain, Whole, Amount, told, AllTold, all_told, and_then, fixed, repeated, with_amount, with_options, NamedOption, options_read}
use Rattle.plain_model.specs.KeyWords.{expire_words, expire_of, clash, expire_options, no_expire_options}
use Rattle.plain_model.specs.declared.command.Command.{Command}
use Rattle.plain_model.specs.declared.command.Command.TheVariants.{Keys}
use Rattle.plain_model.specs.declared.keys.KeyCommand.{KeyCommand}
use Rattle.plain_model.specs.declared.keys.ExpireOptions.{ExpireOptions}
use Rattle.plain_world.specs.declared.refusal.Refusal.{Refusal}
use Rattle.plain_world.specs.declared.refusal.Refusal.TheVariants.{WrongNumberOfArguments, Syntax}
use Rattle.command_words.specs.declared.fault.ReadingFault.{ReadingFault}
use Rattle.command_words.specs.declared.fault.ReadingFault.TheVariants.{Refused, Memory}
use Rattle.command_words.specs.Readings.{Tells, TellsAs, Gathers, just, and_options, one_and_amount, expire_parts, keeps_list, ReadsAs}

-- what a row makes is made of what its words tell

then_all : {T B : Type 0} (r : Result T Refusal) (make : T → Result B Refusal) → and_then r make ≡ and_then (and_then r (λ a. Ok a)) make
then_all (Ok a) make = refl
then_all (Err refusal) make = refl

fixed_if : {T B : Type 0} (b : Bool) (r : Result T Refusal) (make : T → Result B Refusal)
    → (if b then and_then r make else Err WrongNumberOfArguments) ≡ and_then (if b then and_then r (λ a. Ok a) else Err WrongNumberOfArguments) make
fixed_if true r make = then_all r make
fixed_if false r make = refl

-- of just these words
pub fixed_then : {B : Type 0} (kinds : List Kind) (make : AllTold kinds → Result B Refusal) (words : Words) → fixed kinds make words ≡ and_then (fixed kinds (λ a. Ok a) words) make
fixed_then kinds make words = fixed_if (length words == length kinds) (all_told kinds words) make

module _ {T C B : Type 0} (make : T → C → Result B Refusal) where
  abbrev pair_with : T → C → Result (T × C) Refusal
  pair_with first c = Ok (first, c)

  with_both : (first : T) (options : Result C Refusal) → and_then options (make first) ≡ and_then (and_then options (pair_with first)) (λ r. make r.0 r.1)
  with_both first (Ok c) = refl
  with_both first (Err refusal) = refl

  options_after : (r : Result T Refusal) (options : Result C Refusal)
      → and_then r (λ first. and_then options (make first)) ≡ and_then (and_then r (λ first. and_then options (pair_with first))) (λ r. make r.0 r.1)
  options_after (Ok first) options = with_both first options
  options_after (Err refusal) options = refl

  options_if : (b : Bool) (r : Result T Refusal) (options : Result C Refusal)
      → (if b then and_then r (λ first. and_then options (make first)) else Err WrongNumberOfArguments) ≡ and_then
      (if b then and_then r (λ first. and_then options (pair_with first)) else Err WrongNumberOfArguments) (λ r. make r.0 r.1)
  options_if true r options = options_after r options
  options_if false r options = refl

-- of these words and options
pub options_then : {C B : Type 0} (kinds : List Kind) (named : List (NamedOption C)) (none : C) (make : AllTold kinds → C → Result B Refusal) (words : Words)
    → with_options kinds named none make words ≡ and_then (with_options kinds named none (pair_with make) words) (λ r. make r.0 r.1)
options_then kinds named none make words = options_if make (nat_le (length kinds) (length words)) (all_told kinds words) (options_read named none 0 (drop (length kinds) words))

module _ {A T C : Type 0} (family : C → Command) (whole : A → T) (make : T → Result C Refusal) (f : A → C) (right : (a : A) → make (whole a) ≡ Ok (f a)) where
  made_ok : (means : Result T Refusal) (a : A) (answer : Result C ReadingFault) → means ≡ Ok (whole a) → IsOkAnd answer (λ b. b ≡ f a)
      → ReadsAs family (and_then (and_then means make) (λ c. Ok (family c))) answer
  made_ok means a (Ok b) e h = ap (λ r. and_then (and_then r make) (λ c. Ok (family c))) e ∙ ap (λ r. and_then r (λ c. Ok (family c))) (right a) ∙ ap (λ c. Ok (family c)) (sym h)
  made_ok means a (Err fault) e h = absurd h

  made_err : (means : Result T Refusal) (fault : ReadingFault) (answer : Result C ReadingFault) → TellsAs whole means (Err fault) → answer ≡ Err fault
      → ReadsAs family (and_then (and_then means make) (λ c. Ok (family c))) answer
  made_err means (Refused refusal) answer h e = subst (ReadsAs family (and_then (and_then means make) (λ c. Ok (family c)))) (sym e) (ap (λ r. and_then (and_then r make) (λ c. Ok (family c))) h)
  made_err means Memory answer h e = absurd h

  -- what `map` makes of what was told
  pub made : (means : Result T Refusal) (first : Result A ReadingFault) (answer : Result C ReadingFault) → TellsAs whole means first
      → MatchResult first (λ a. IsOkAnd answer (λ b. b ≡ f a)) (λ e. answer ≡ Err e) → ReadsAs family (and_then (and_then means make) (λ c. Ok (family c))) answer
  made means (Ok a) answer h m = made_ok means a answer h m
  made means (Err fault) answer h m = made_err means fault answer h m

-- a row of just these words
pub fixed_made : {A C : Type 0} (family : C → Command) (kinds : List Kind) (whole : A → AllTold kinds) (make : AllTold kinds → Result C Refusal) (f : A → C)
    (right : (a : A) → make (whole a) ≡ Ok (f a)) (words : Words) (first : Result A ReadingFault) (answer : Result C ReadingFault) → TellsAs whole (just kinds words) first
    → MatchResult first (λ a. IsOkAnd answer (λ b. b ≡ f a)) (λ e. answer ≡ Err e) → ReadsAs family (and_then (fixed kinds make (drop 1 words)) (λ command. Ok (family command))) answer
fixed_made family kinds whole make f right words first answer h m =
    subst (λ r. ReadsAs family (and_then r (λ c. Ok (family c))) answer) (sym (fixed_then kinds make (drop 1 words))) (made family whole make f right (just kinds words) first answer h m)

-- a row of these words, and then options
pub options_made : {A C O : Type 0} (family : C → Command) (kinds : List Kind) (named : List (NamedOption O)) (none : O) (whole : A → AllTold kinds × O)
    (make : AllTold kinds → O → Result C Refusal) (f : A → C) (right : (a : A) → make (whole a).0 (whole a).1 ≡ Ok (f a)) (words : Words) (first : Result A ReadingFault)
    (answer : Result C ReadingFault) → TellsAs whole (and_options kinds named none words) first → MatchResult first (λ a. IsOkAnd answer (λ b. b ≡ f a)) (λ e. answer ≡ Err e)
    → ReadsAs family (and_then (with_options kinds named none make (drop 1 words)) (λ command. Ok (family command))) answer
options_made family kinds named none whole make f right words first answer h m =
    subst (λ r. ReadsAs family (and_then r (λ c. Ok (family c))) answer) (sym (options_then kinds named none make (drop 1 words)))
    (made family whole (λ r. make r.0 r.1) f right (and_options kinds named none words) first answer h m)

-- the row of EXPIRE and its like
module _ (make : List ℕ → ℤ → ExpireOptions → KeyCommand) where
  abbrev Parts : Type 0
  Parts = AllTold (Plain ∷ Whole ∷ []) × ExpireOptions

  abbrev unless_clash : AllTold (Plain ∷ Whole ∷ []) → ExpireOptions → Result Parts Refusal
  unless_clash a o = if clash o then Err Syntax else Ok (a, o)

  abbrev command : Parts → Result KeyCommand Refusal
  command r = Ok (make r.0.0 r.0.1.0 r.1)

  by_clash : (b : Bool) (a : AllTold (Plain ∷ Whole ∷ [])) (o : ExpireOptions) → (if b then Err Syntax else command (a, o)) ≡ and_then (if b then Err Syntax else Ok (a, o)) command
  by_clash true a o = refl
  by_clash false a o = refl

  after_clash : (r : Result Parts Refusal) → and_then r (λ p. expire_of make p.0.0 p.0.1.0 p.1) ≡ and_then (and_then r (λ p. unless_clash p.0 p.1)) command
  after_clash (Ok p) = by_clash (clash p.1) p.0 p.1
  after_clash (Err refusal) = refl

  expire_then : (words : Words) → expire_words make (drop 1 words) ≡ and_then (expire_parts words) command
  expire_then words =
      let both = and_options (Plain ∷ Whole ∷ []) expire_options no_expire_options words in
      options_then (Plain ∷ Whole ∷ []) expire_options no_expire_options (λ a o. expire_of make a.0 a.1.0 o) (drop 1 words)
      ∙ after_clash both
      ∙ ap (λ r. and_then r command) (sym (options_then (Plain ∷ Whole ∷ []) expire_options no_expire_options unless_clash (drop 1 words)))

  pub expire_made : {A : Type 0} (whole : A → Parts) (f : A → KeyCommand) (right : (a : A) → command (whole a) ≡ Ok (f a)) (words : Words) (first : Result A ReadingFault)
      (answer : Result KeyCommand ReadingFault) → TellsAs whole (expire_parts words) first → MatchResult first (λ a. IsOkAnd answer (λ b. b ≡ f a)) (λ e. answer ≡ Err e)
      → ReadsAs Keys (and_then (expire_words make (drop 1 words)) (λ command. Ok (Keys command))) answer
  expire_made whole f right words first answer h m =
      subst (λ r. ReadsAs Keys (and_then r (λ c. Ok (Keys c))) answer) (sym (expire_then words)) (made Keys whole command f right (expire_parts words) first answer h m)

-- where these words and options are refused
pub options_refused : {C B : Type 0} (kinds : List Kind) (named : List (NamedOption C)) (none : C) (make : AllTold kinds → C → Result B Refusal) (words : Words) (fault : ReadingFault)
    → Tells (and_options kinds named none words) (Err fault) → Tells (with_options kinds named none make (drop 1 words)) (Err fault)
options_refused kinds named none make words (Refused refusal) h = options_then kinds named none make (drop 1 words) ∙ ap (λ r. and_then r (λ r. make r.0 r.1)) h
options_refused kinds named none make words Memory h = absurd h

-- a row of one or more groups of words, which are kept in a list
module _ {L C : Type 0} (family : C → Command) (size : ℕ) (own : Words → L) (make : L → C) (keeps : (list : L) → keeps_list (family (make list)) ≡ true) where
  abbrev list_of : Bool → Words → Result L Refusal
  list_of b words = if b then Ok (own words) else Err WrongNumberOfArguments

  abbrev command_of : Bool → Words → Result Command Refusal
  command_of b words = and_then (if b then Ok (make (own words)) else Err WrongNumberOfArguments) (λ c. Ok (family c))

  command_list : (b : Bool) (words : Words) → command_of b words ≡ and_then (list_of b words) (λ list. Ok (family (make list)))
  command_list true words = refl
  command_list false words = refl

  gathered_ok : (b : Bool) (words : Words) (list : L) (answer : Result C ReadingFault) → list_of b words ≡ Ok list → IsOkAnd answer (λ c. c ≡ make list) → ReadsAs family (command_of b words) answer
  gathered_ok b words list (Ok c) e h = command_list b words ∙ ap (λ r. and_then r (λ list. Ok (family (make list)))) e ∙ ap (λ c. Ok (family c)) (sym h)
  gathered_ok b words list (Err fault) e h = absurd h

  gathered_err : (b : Bool) (words : Words) (fault : ReadingFault) (answer : Result C ReadingFault) → Gathers (list_of b words) (Err fault) → answer ≡ Err fault
      → ReadsAs family (command_of b words) answer
  gathered_err b words (Refused refusal) answer h e = subst (ReadsAs family (command_of b words)) (sym e) (command_list b words ∙ ap (λ r. and_then r (λ list. Ok (family (make list)))) h)
  gathered_err true words Memory answer h e = subst (ReadsAs family (command_of true words)) (sym e) (keeps (own words))
  gathered_err false words Memory answer h e = cc

  pub gathered : (words : Words) (first : Result L ReadingFault) (answer : Result C ReadingFault) → Gathers (repeated [] size (λ a w. Ok (own w)) (drop 1 words)) first
      → MatchResult first (λ a. IsOkAnd answer (λ b. b ≡ make a)) (λ e. answer ≡ Err e)
      → ReadsAs family (and_then (repeated [] size (λ a w. Ok (make (own w))) (drop 1 words)) (λ command. Ok (family command))) answer
  gathered words (Ok list) answer h m = gathered_ok _ _ list answer h m
  gathered words (Err fault) answer h m = gathered_err _ _ fault answer h m

-- a command that keeps a list, from what its reader gathers
module _ {L C : Type 0} (family : C → Command) (make : L → C) (keeps : (list : L) → keeps_list (family (make list)) ≡ true) where
  abbrev wrapped : L → Result Command Refusal
  wrapped list = Ok (family (make list))

  kept_ok : (means : Result L Refusal) (list : L) (answer : Result C ReadingFault) → means ≡ Ok list → IsOkAnd answer (λ c. c ≡ make list) → ReadsAs family (and_then means wrapped) answer
  kept_ok means list (Ok c) e h = ap (λ r. and_then r wrapped) e ∙ ap (λ c. Ok (family c)) (sym h)
  kept_ok means list (Err fault) e h = absurd h

  kept_err : (means : Result L Refusal) (fault : ReadingFault) (answer : Result C ReadingFault) → Gathers means (Err fault) → answer ≡ Err fault → ReadsAs family (and_then means wrapped) answer
  kept_err means (Refused refusal) answer h e = subst (ReadsAs family (and_then means wrapped)) (sym e) (ap (λ r. and_then r wrapped) h)
  kept_err means Memory answer h e = subst (ReadsAs family (and_then means wrapped)) (sym e) (subst (λ r. IsOkAnd (and_then r wrapped) (λ command. keeps_list command ≡ true)) (sym h.1) (keeps h.0))

  pub kept : (means : Result L Refusal) (first : Result L ReadingFault) (answer : Result C ReadingFault) → Gathers means first
      → MatchResult first (λ a. IsOkAnd answer (λ b. b ≡ make a)) (λ e. answer ≡ Err e) → ReadsAs family (and_then means wrapped) answer
  kept means (Ok list) answer h m = kept_ok means list answer h m
  kept means (Err fault) answer h m = kept_err means fault answer h m

-- a key, and one or more groups of words behind it, which are kept in a list
module _ {L C : Type 0} (family : C → Command) (size : ℕ) (own : Words → L) (make : List ℕ → L → C) where
  abbrev keyed : List ℕ × L → Result Command Refusal
  keyed parts = Ok (family (make parts.0 parts.1))

  keyed_if : (b : Bool) (key : List ℕ) (rest : Words) → and_then (if b then Ok (make key (own rest)) else Err WrongNumberOfArguments) (λ c. Ok (family c)) ≡ and_then
      (if b then Ok (key, own rest) else Err WrongNumberOfArguments) keyed
  keyed_if true key rest = refl
  keyed_if false key rest = refl

  keyed_then : (words : Words) → and_then (repeated (Plain ∷ []) size (λ a w. Ok (make a.0 (own w))) words) (λ c. Ok (family c)) ≡ and_then
      (repeated (Plain ∷ []) size (λ a w. Ok (a.0, own w)) words) keyed
  keyed_then [] = refl
  keyed_then (key ∷ rest) = keyed_if (nat_lt 1 (length (key ∷ rest)) && ((length (key ∷ rest) - 1) % size == 0)) key rest

  pub keyed_made : (keeps : (key : List ℕ) (list : L) → keeps_list (family (make key list)) ≡ true) (words : Words) (first : Result (List ℕ × L) ReadingFault)
      (answer : Result C ReadingFault) → Gathers (repeated (Plain ∷ []) size (λ a w. Ok (a.0, own w)) (drop 1 words)) first
      → MatchResult first (λ a. IsOkAnd answer (λ b. b ≡ make a.0 a.1)) (λ e. answer ≡ Err e)
      → ReadsAs family (and_then (repeated (Plain ∷ []) size (λ a w. Ok (make a.0 (own w))) (drop 1 words)) (λ c. Ok (family c))) answer
  keyed_made keeps words first answer h m =
      subst (λ r. ReadsAs family r answer) (sym (keyed_then (drop 1 words)))
      (kept family (λ (parts : List ℕ × L). make parts.0 parts.1) (λ parts. keeps parts.0 parts.1) (repeated (Plain ∷ []) size (λ a w. Ok (a.0, own w)) (drop 1 words)) first answer h
      m)

-- a key, and a number or none
module _ {C : Type 0} (family : C → Command) (make : List ℕ → Option ℕ → C) where
  abbrev popping : List ℕ × Option ℕ → Result C Refusal
  popping parts = Ok (make parts.0 parts.1)

  pop_told : (key : List ℕ) (r : Result ℕ Refusal) → and_then r (λ a. Ok (make key (Some a))) ≡ and_then (and_then r (λ a. Ok (key, Some a))) popping
  pop_told key (Ok n) = refl
  pop_told key (Err refusal) = refl

  pop_then : (words : Words) → with_amount make words ≡ and_then (one_and_amount words) popping
  pop_then [] = refl
  pop_then (key ∷ []) = refl
  pop_then (key ∷ n ∷ []) = pop_told key (told Amount n)
  pop_then (key ∷ n ∷ more ∷ words) = refl

  pub popped_made : (words : Words) (first : Result (List ℕ × Option ℕ) ReadingFault) (answer : Result C ReadingFault) → Tells (one_and_amount (drop 1 words)) first
      → MatchResult first (λ a. IsOkAnd answer (λ b. b ≡ make a.0 a.1)) (λ e. answer ≡ Err e) → ReadsAs family (and_then (with_amount make (drop 1 words)) (λ c. Ok (family c))) answer
  popped_made words first answer h m =
      subst (λ r. ReadsAs family (and_then r (λ c. Ok (family c))) answer) (sym (pop_then (drop 1 words)))
      (made family (λ (a : List ℕ × Option ℕ). a) popping (λ a. make a.0 a.1) (λ a. refl) (one_and_amount (drop 1 words)) first answer h m)
