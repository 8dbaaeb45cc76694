-- Options, read one by one.
use Rattle.std.proofs.Common.{◌≡◌, ℕ, zero, suc, ◌+◌, ◌<◌, ◌≤◌, List, [], ◌∷◌, length, drop, Bool, true, false, Result, Ok, Err, Option, Some, None, refl, ap, subst, ◌∙◌}
use Rattle.std.proofs.lemmas.List.{drop-drop}
use Rattle.std.specs.Prelude.{nat_le, if◌then◌else◌}
use Rattle.std.proofs.lemmas.Bool.{leb-true}
use Rattle.plain_world.specs.Words.{Words, in_lower_case}
use Rattle.plain_model.specs.Shapes.{Kind, AllTold, all_told, and_then, NamedOption, option_of, read_option, options_read}
use Rattle.plain_world.specs.declared.refusal.Refusal.{Refusal}
use Rattle.plain_world.specs.declared.refusal.Refusal.TheVariants.{Syntax}
use Rattle.command_words.specs.declared.fault.ReadingFault.{ReadingFault}
use Rattle.command_words.specs.declared.fault.ReadingFault.TheVariants.{Refused, Memory}
use Rattle.command_words.specs.Readings.{Tells, word_at, own_word}
use Rattle.command_words.proofs.Shapes.{from_place}

module _ {A : Type 0} (named : List (NamedOption A)) where
  -- the words that are an option's own are passed over
  pub skips : (before : A) (n : ℕ) (words : Words) → options_read named before n words ≡ options_read named before 0 (drop n words)
  skips before zero words = refl
  skips before (suc n) [] = refl
  skips before (suc n) (word ∷ words) = skips before n words

  -- an option is read
  pub options_read_on : (before after : A) (own : ℕ) (words : Words) (i : ℕ) → i < length words
      → read_option before (option_of named (in_lower_case (word_at words i))) (drop (i + 1) words) ≡ Ok (after, own)
      → options_read named before 0 (drop i words) ≡ options_read named after 0 (drop (i + 1 + own) words)
  options_read_on before after own words i h e =
      let rest = drop (i + 1) words in
      ap (options_read named before 0) (from_place words i h)
      ∙ ap (λ r. and_then r (λ read. options_read named read.0 read.1 rest)) e
      ∙ skips after own rest
      ∙ ap (options_read named after 0) (drop-drop own (i + 1) words)

  abbrev set_by : (option : NamedOption A) → A → AllTold option.kinds → Result (A × ℕ) Refusal
  set_by option before own = Ok (option.sets own before, length option.kinds)

  made_within : (option : NamedOption A) (before after : A) (own : ℕ) (words : Words) (r : Result (AllTold option.kinds) Refusal) → length option.kinds ≤ length words
      → and_then r (set_by option before) ≡ Ok (after, own) → own ≤ length words
  made_within option before after own words (Ok a) h f = let both : ◌≡◌ {A = A × ℕ} (option.sets a before, length option.kinds) (after, own) = cc in
      subst (λ n. n ≤ length words) (ap (λ p. p.1) both) h
  made_within option before after own words (Err refusal) h f = cc

  -- the words of an option are there
  read_option_within : (before after : A) (own : ℕ) (option : Option (NamedOption A)) (words : Words) → read_option before option words ≡ Ok (after, own) → own ≤ length words
  read_option_within before after own None words e = cc
  read_option_within before after own (Some option) words e =
      elim (nat_le (length option.kinds) (length words)) as
      (λ b. nat_le (length option.kinds) (length words) ≡ b → (if b then and_then (all_told option.kinds words) (set_by option before) else Err Syntax) ≡ Ok (after, own)
      → own ≤ length words) [
        | true ↦ λ t. made_within option before after own words (all_told option.kinds words) (leb-true (length option.kinds) (length words) t)
        | false ↦ λ t f. cc
      ] refl e

  pub own_within : (before after : A) (own : ℕ) (words : Words) (i : ℕ) → read_option before (option_of named (in_lower_case (word_at words i))) (drop (i + 1) words) ≡ Ok (after, own)
      → own ≤ length (drop (i + 1) words)
  own_within before after own words i e = read_option_within before after own (option_of named (in_lower_case (word_at words i))) (drop (i + 1) words) e

-- an option whose one word is refused is refused
module _ {A : Type 0} (before : A) (kind : Kind) (sets : AllTold (kind ∷ []) → A → A) where
  fails : (b : Bool) (x : Result (AllTold (kind ∷ [])) Refusal) (refusal : Refusal) → (if b then and_then x (λ own. Ok own.0) else Err Syntax) ≡ Err refusal
      → (if b then and_then {B = A × ℕ} x (λ own. Ok (sets own before, 1)) else Err Syntax) ≡ Err refusal
  fails true (Ok a) refusal e = absurd (cc e)
  fails true (Err q) refusal e = let same : q ≡ refusal = cc in ap Err same
  fails false x refusal e = let same : Syntax ≡ refusal = cc in ap Err same

  pub one_word_refused : (named : List (NamedOption A)) (name lower : List ℕ) (words : Words) (fault : ReadingFault)
      → option_of named lower ≡ Some (record { name = name; kinds = kind ∷ []; sets = sets }) → Tells (own_word kind words) (Err fault)
      → Tells (read_option before (option_of named lower) words) (Err fault)
  one_word_refused named name lower words (Refused refusal) e h = ap (λ o. read_option before o words) e ∙ fails (nat_le 1 (length words)) (all_told (kind ∷ []) words) refusal h
  one_word_refused named name lower words Memory e h = absurd h
