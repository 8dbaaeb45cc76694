-- A word, two words of these kinds, and options behind them: what they tell together, from what each tells.
use Rattle.std.proofs.Common.{◌≡◌, ◌≤◌, List, [], ◌∷◌, length, drop, Result, Ok, ap, ◌∙◌, arith, length-drop}
use Rattle.std.proofs.lemmas.Bool.{le-leb}
use Rattle.std.proofs.lemmas.List.{drop-drop}
use Rattle.plain_world.specs.Words.{Words}
use Rattle.plain_model.specs.Shapes.{Kind, Plain, Told, told, AllTold, and_then, NamedOption, options_read}
use Rattle.plain_world.specs.declared.refusal.Refusal.{Refusal}
use Rattle.command_words.specs.Readings.{word_at, and_options}
use Rattle.command_words.proofs.Shapes.{with_options_at}

module _ {C : Type 0} (one other : Kind) (named : List (NamedOption C)) (none : C) (words : Words) (many : 4 ≤ length words) where
  abbrev Own : Type 0
  Own = AllTold (Plain ∷ one ∷ other ∷ [])

  abbrev means : Result (Own × C) Refusal
  means = and_options (Plain ∷ one ∷ other ∷ []) named none words

  abbrev own_of : Result (Told one) Refusal → Result (Told other) Refusal → Result Own Refusal
  own_of r s =
      and_then (and_then r (λ a. and_then (and_then s (λ b. Ok (b, tt))) (λ rest. Ok (a, rest)))) (λ rest. Ok (word_at words 1, rest))

  abbrev with_all : Result Own Refusal → Result C Refusal → Result (Own × C) Refusal
  with_all r options = and_then r (λ first. and_then options (λ c. Ok (first, c)))

  abbrev first : Result (Told one) Refusal
  first = told one (word_at words 2)

  abbrev second : Result (Told other) Refusal
  second = told other (word_at words 3)

  abbrev options : Result C Refusal
  options = options_read named none 0 (drop 4 words)

  all_at : means ≡ with_all (own_of first second) options
  all_at =
      with_options_at (Plain ∷ one ∷ other ∷ []) words 1 named none (λ a c. Ok (a, c)) (le-leb 3 (length (drop 1 words)) (omega (arith, many, length-drop 1 words)))
      ∙ ap (λ own. with_all (own_of first second) (options_read named none 0 own)) (drop-drop 3 1 words)

  pub all_told : (a : Told one) (b : Told other) (o : C) → first ≡ Ok a → second ≡ Ok b → options ≡ Ok o → means ≡ Ok ((word_at words 1, (a, (b, tt))), o)
  all_told a b o e f h =
      all_at
      ∙ ap (λ r. with_all (own_of r second) options) e
      ∙ ap (λ r. with_all (own_of (Ok a) r) options) f
      ∙ ap (λ r. with_all (own_of (Ok a) (Ok b)) r) h
