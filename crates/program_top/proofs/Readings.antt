-- What is read of an option's text.
use Rattle.std.proofs.Common.{◌≡◌, ◌<◌, ◌≤◌, ◌^◌, ℕ, List, [], ◌∷◌, Option, Some, None, Bool, true, false, length, refl, sym, ap, subst, ◌∙◌, inl, inr, arith}
use Rattle.std.specs.Prelude.{◌&&◌, IfSome, IfNone, option_map, nat_lt}
use Rattle.std.specs.Borrow.{Bor}
use Rattle.std.specs.List.{list_all}
use Rattle.std.specs.Option.{option_map_or}
use Rattle.std.specs.Char.{digit_value}
use Rattle.std.specs.Str.Parse.{AllDigits, IsNumeral, digits_value}
use Rattle.std.proofs.lemmas.Bool.{eqb-true, ltb-true, leb-true, lt-ltb, le-leb}
use Rattle.clap.specs.Faults.{fault_of, is_simple_and_free}
use Rattle.clap.specs.Kinds.{Kinds, IsAmong, HasKind}
use Rattle.clap.specs.Matches.{found_of}
use Rattle.clap.specs.Simple.{App, HasMatchesOf, matches_of}
use Rattle.clap.specs.Values.{kind_of}
use Rattle.clap.specs.Walk.{Row, Text, first_of, rows_of, is_empty}
use Rattle.clap.specs.declared.error.Error.{Error}
use Rattle.clap.specs.declared.error.kind.ErrorKind.{ErrorKind}
use Rattle.clap.specs.declared.error.kind.ErrorKind.TheVariants as kind
use Rattle.clap.specs.declared.parser.matches.ArgMatches.{ArgMatches}
use Rattle.int_text.specs.Decimal.{IsU64Text}
use Rattle.object_codec.specs.declared.limits.Limits.{Limits}
use Rattle.program_top.specs.Given as given
use Rattle.program_top.specs.WordsRead.{IsPlainCommand, Matches, Refuses}
use Rattle.program_top.specs.Given.{Number, Options, Wrong, command, given_by, given_of, is_number, is_right, limits_of, load, options_of, value_of}

both : (a b : Bool) → (a && b) ≡ true → (a ≡ true) × (b ≡ true)
both true b e = (refl, e)
both false b e = cc

not_true : (b : Bool) → (b ≡ true → ⊥) → b ≡ false
not_true true n = absurd (n refl)
not_true false n = refl

digits_pass : (digits : List ℕ) → AllDigits 10 digits → list_all (λ d. nat_lt (digit_value d) 10) digits ≡ true
digits_pass [] h = refl
digits_pass (d ∷ digits) h = rw (lt-ltb (digit_value d) 10 h.0) (digits_pass digits h.1)

all_digits : (digits : List ℕ) → list_all (λ d. nat_lt (digit_value d) 10) digits ≡ true → AllDigits 10 digits
all_digits [] e = tt
all_digits (d ∷ digits) e = let parts = both _ _ e in (ltb-true _ _ parts.0, all_digits digits parts.1)

module _ (number : Number) (text : List ℕ) where
  -- a number in the range
  pub number_passes : IsNumeral 10 text → number.least ≤ digits_value 10 text → digits_value 10 text ≤ number.most → is_number number text ≡ true
  number_passes numeral least most = rw (lt-ltb 0 (length text) numeral.0, digits_pass text numeral.1, le-leb _ _ least, le-leb _ _ most) refl

  number_fits : number.most < 2 ^ 64 → is_number number text ≡ true → IsU64Text text × (number.least ≤ digits_value 10 text) × (digits_value 10 text ≤ number.most)
  number_fits most e =
      let a = both _ _ e in
      let b = both _ _ a.0 in
      let c = both _ _ a.1 in
      let high = leb-true _ _ c.1 in
      (((ltb-true _ _ b.0, all_digits text b.1), omega (arith, high, most)), leb-true _ _ c.0, high)

  -- other texts
  pub no_number : number.most < 2 ^ 64 → (IsU64Text text → ⊥) → is_number number text ≡ false
  no_number most unlike = not_true (is_number number text) (λ e. unlike (number_fits most e).0)

  pub below : number.most < 2 ^ 64 → digits_value 10 text < number.least → is_number number text ≡ false
  below most low = not_true (is_number number text) (λ e. omega (arith, (number_fits most e).1, low))

  pub above : number.most < 2 ^ 64 → number.most < digits_value 10 text → is_number number text ≡ false
  above most high = not_true (is_number number text) (λ e. omega (arith, (number_fits most e).2, high))

module _ (rows : List Row) (number : Number) where
  -- what the words don't say is right and usual
  pub unsaid : None ≡ first_of number.name rows → number.usual ≤ number.most → (is_right rows number ≡ true) × (number.usual ≡ value_of rows number) × (number.usual ≤ number.most)
  unsaid none le = (sym (ap (λ o. option_map_or (is_number number) o true) none), ap (λ o. option_map_or (digits_value 10) o number.usual) none, le)

  module _ (text : List ℕ) (said : Some text ≡ first_of number.name rows) where
    right_is : is_number number text ≡ is_right rows number
    right_is = ap (λ o. option_map_or (is_number number) o true) said

    value_is : digits_value 10 text ≡ value_of rows number
    value_is = ap (λ o. option_map_or (digits_value 10) o number.usual) said

    -- what they say is as its text
    pub said_some : (result : Option ℕ) → IfSome result (λ n. (is_number number text ≡ true) × (n ≡ digits_value 10 text) × (n ≤ number.most))
        → IfSome result (λ n. (is_right rows number ≡ true) × (n ≡ value_of rows number) × (n ≤ number.most))
    said_some None h = tt
    said_some (Some n) h = (sym right_is ∙ h.0, h.1 ∙ value_is, h.2)

    pub said_none : (result : Option ℕ) → IfNone result (is_number number text ≡ false) → IfNone result (is_right rows number ≡ false)
    said_none None h = sym right_is ∙ h
    said_none (Some n) h = tt

-- the text that an option lends
pub lent : (name : Option (Bor (List ℕ))) → (elim name [ None ↦ None | Some text ↦ Some text.now ]) ≡ option_map (λ s. s.now) name
lent None = refl
lent (Some text) = refl

pub options_are : (rows : List Row) (file : Option (List ℕ)) (seed effort max_input : ℕ) (limits : Limits) → file ≡ first_of load rows → seed ≡ value_of rows given.seed
    → effort ≡ value_of rows given.effort → limits ≡ limits_of rows → max_input ≡ value_of rows given.max_input
    → record { file = file; seed = seed; effort = effort; limits = limits; max_input = max_input } ≡ options_of rows
options_are rows file seed effort max_input limits a b d e f =
    ap (λ x. record { file = x; seed = seed; effort = effort; limits = limits; max_input = max_input }) a
    ∙ ap (λ x. record { file = first_of load rows; seed = x; effort = effort; limits = limits; max_input = max_input }) b
    ∙ ap (λ x. record { file = first_of load rows; seed = value_of rows given.seed; effort = x; limits = limits; max_input = max_input }) d
    ∙ ap (λ x. record { file = first_of load rows; seed = value_of rows given.seed; effort = value_of rows given.effort; limits = x; max_input = max_input }) e
    ∙ ap (λ x. record { file = first_of load rows; seed = value_of rows given.seed; effort = value_of rows given.effort; limits = limits_of rows; max_input = x }) f

-- what holds of what is found
pub found_some : {A : Type 0} (P : A → Type 0) (found : Option A) (a : A) → found ≡ Some a → IfSome found P → P a
found_some P found a is h = let Q : Option _ → Type 0 = λ o. IfSome o P in subst Q is h

-- what holds where nothing is found
pub found_none : {A : Type 0} (P : Type 0) (found : Option A) → found ≡ None → IfNone found P → P
found_none P found is h = let Q : Option _ → Type 0 = λ o. IfNone o P in subst Q is h

-- ---- what a command takes

-- it is known of the command what it takes
pub plain_command : IsPlainCommand command
plain_command = record { simple = refl; free = refl }

some_kind : (k : ErrorKind) (kinds : Kinds) → IsAmong k kinds → is_empty kinds ≡ false
some_kind k [] e = absurd e
some_kind k (x ∷ kinds) e = not_true (is_empty (x ∷ kinds)) (λ t. omega (arith, eqb-true _ _ t))

-- what a command matched, and that it refused
module _ (app : App) (words : List Text) (plain : IsPlainCommand app) where
  pub app_matches : (m : ArgMatches) → HasMatchesOf app words m → (is_simple_and_free app ≡ true → fault_of app words ≡ []) → Matches app words (rows_of (found_of m))
  app_matches m matches passes = record { takes = ap is_empty (passes plain.free); are = (matches plain.simple).0 }

  pub app_refuses : (e : Error) → (is_simple_and_free app ≡ true → HasKind (fault_of app words) e) → (kind_of e ≡ kind.OutOfMemory → ⊥) → Refuses app words
  app_refuses e fails memory = elim (fails plain.free) [ inl wants ↦ absurd (memory wants) | inr among ↦ some_kind (kind_of e) (fault_of app words) among ]

module _ (app : App) (words : List Text) (is : app ≡ command) where
  pub given_taken : (rows : List Row) → Matches app words rows → given_by words ≡ given_of rows
  unfolding given_by
  given_taken rows m =
      let same : rows ≡ matches_of command words = m.are ∙ ap (λ a. matches_of a words) is in
      let none : is_empty (fault_of command words) ≡ true = ap (λ a. is_empty (fault_of a words)) (sym is) ∙ m.takes in
      rw (none) (ap given_of (sym same))

  pub given_refused : Refuses app words → given_by words ≡ Wrong
  unfolding given_by
  given_refused refuses =
      let some : is_empty (fault_of command words) ≡ false = ap (λ a. is_empty (fault_of a words)) (sym is) ∙ refuses in
      rw (some) refl
