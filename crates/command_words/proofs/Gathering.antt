-- Words of one kind that are gathered in a list, one by one.
use Rattle.std.proofs.Common.{◌≡◌, ℕ, ◌+◌, ◌<◌, ◌≤◌, List, [], ◌∷◌, ◌++◌, length, drop, Result, Ok, Err, refl, sym, ap, ◌∙◌}
use Rattle.std.proofs.lemmas.List.{append_assoc, drop_all}
use Rattle.std.specs.Prelude.{Option, IfOk}
use Rattle.plain_world.specs.Words.{Words}
use Rattle.plain_model.specs.Shapes.{Kind, IdOr, Told, told, and_then}
use Rattle.plain_model.specs.StreamWords.{each_told, keyed}
use Rattle.plain_world.specs.declared.refusal.Refusal.{Refusal}
use Rattle.command_words.specs.declared.fault.ReadingFault.{ReadingFault}
use Rattle.command_words.specs.declared.fault.ReadingFault.TheVariants.{Refused, Memory}
use Rattle.command_words.specs.Readings.{word_at, Gathers, HasMore, Tells}
use Rattle.command_words.proofs.Shapes.{from_place}

module _ {A : Type 0} where
  -- this list stands in front of another one
  abbrev pub in_front : List A → Result (List A) Refusal → Result (List A) Refusal
  in_front list r = and_then r (λ rest. Ok (list ++ rest))

  pub nothing_in_front : (r : Result (List A) Refusal) → r ≡ in_front [] r
  nothing_in_front (Ok rest) = refl
  nothing_in_front (Err refusal) = refl

  append_none : (l : List A) → l ++ [] ≡ l
  append_none [] = refl
  append_none (a ∷ l) = ap (λ m. a ∷ m) (append_none l)

  -- nothing is left
  pub all_in_front : (list : List A) → in_front list (Ok []) ≡ Ok list
  all_in_front list = ap Ok (append_none list)

  shifted : (list : List A) (a : A) (r : Result (List A) Refusal) → in_front list (and_then r (λ rest. Ok (a ∷ rest))) ≡ in_front (list ++ a ∷ []) r
  shifted list a (Ok rest) = ap Ok (sym (append_assoc list (a ∷ []) rest))
  shifted list a (Err refusal) = refl

  -- one more
  pub one_in_front : {T : Type 0} (list : List A) (first : Result T Refusal) (make : T → A) (t : T) (r : Result (List A) Refusal) → first ≡ Ok t
      → in_front list (and_then first (λ t. and_then r (λ rest. Ok (make t ∷ rest)))) ≡ in_front (list ++ make t ∷ []) r
  one_in_front list first make t r e = ap (λ f. in_front list (and_then f (λ t. and_then r (λ rest. Ok (make t ∷ rest))))) e ∙ shifted list (make t) r

  pub refused_in_front : {T : Type 0} (list : List A) (first : Result T Refusal) (make : T → A) (r : Result (List A) Refusal) (refusal : Refusal) → first ≡ Err refusal
      → in_front list (and_then first (λ t. and_then r (λ rest. Ok (make t ∷ rest)))) ≡ Err refusal
  refused_in_front list first make r refusal e = ap (λ f. in_front list (and_then f (λ t. and_then r (λ rest. Ok (make t ∷ rest))))) e

-- ---- words of one kind

module _ (kind : Kind) (words : Words) where
  pub each_on : (list : List (Told kind)) (i : ℕ) (a : Told kind) → i < length words → told kind (word_at words i) ≡ Ok a
      → in_front list (each_told kind (drop i words)) ≡ in_front (list ++ a ∷ []) (each_told kind (drop (i + 1) words))
  each_on list i a within e =
      ap (λ w. in_front list (each_told kind w)) (from_place words i within) ∙ one_in_front list (told kind (word_at words i)) (λ t. t) a (each_told kind (drop (i + 1) words)) e

  each_refused : (list : List (Told kind)) (i : ℕ) (refusal : Refusal) → i < length words → told kind (word_at words i) ≡ Err refusal → in_front list (each_told kind (drop i words)) ≡ Err refusal
  each_refused list i refusal within e =
      ap (λ w. in_front list (each_told kind w)) (from_place words i within) ∙ refused_in_front list (told kind (word_at words i)) (λ t. t) (each_told kind (drop (i + 1) words)) refusal e

  pub each_fails : (list : List (Told kind)) (i : ℕ) (fault : ReadingFault) (means : Result (List (Told kind)) Refusal) → means ≡ in_front list (each_told kind (drop i words))
      → i < length words → Tells (told kind (word_at words i)) (Err fault) → Gathers means (Err fault)
  each_fails list i (Refused refusal) means h within e = h ∙ each_refused list i refusal within e
  each_fails list i Memory means h within e = absurd e

  pub each_done : (list : List (Told kind)) (i : ℕ) → length words ≤ i → in_front list (each_told kind (drop i words)) ≡ Ok list
  each_done list i over = ap (λ w. in_front list (each_told kind w)) (drop_all i words over) ∙ all_in_front list

-- ---- ids, each with its key

module _ (sign : List ℕ) (words : Words) where
  pub keyed_on : (list : List (List ℕ × Option (ℕ × ℕ))) (i j : ℕ) (id : Option (ℕ × ℕ)) → i < length words → j < length words → told (IdOr sign) (word_at words j) ≡ Ok id
      → in_front list (keyed sign (drop i words) (drop j words)) ≡ in_front (list ++ (word_at words i, id) ∷ []) (keyed sign (drop (i + 1) words) (drop (j + 1) words))
  keyed_on list i j id key within e =
      ap (λ k. in_front list (keyed sign k (drop j words))) (from_place words i key)
      ∙ ap (λ w. in_front list (keyed sign (word_at words i ∷ drop (i + 1) words) w)) (from_place words j within)
      ∙ one_in_front list (told (IdOr sign) (word_at words j)) (λ t. (word_at words i, t)) id (keyed sign (drop (i + 1) words) (drop (j + 1) words)) e

  keyed_refused : (list : List (List ℕ × Option (ℕ × ℕ))) (i j : ℕ) (refusal : Refusal) → i < length words → j < length words → told (IdOr sign) (word_at words j) ≡ Err refusal
      → in_front list (keyed sign (drop i words) (drop j words)) ≡ Err refusal
  keyed_refused list i j refusal key within e =
      ap (λ k. in_front list (keyed sign k (drop j words))) (from_place words i key)
      ∙ ap (λ w. in_front list (keyed sign (word_at words i ∷ drop (i + 1) words) w)) (from_place words j within)
      ∙ refused_in_front list (told (IdOr sign) (word_at words j)) (λ t. (word_at words i, t)) (keyed sign (drop (i + 1) words) (drop (j + 1) words)) refusal e

  pub keyed_fails : (list : List (List ℕ × Option (ℕ × ℕ))) (i j : ℕ) (fault : ReadingFault) (means : Result (List (List ℕ × Option (ℕ × ℕ))) Refusal)
      → means ≡ in_front list (keyed sign (drop i words) (drop j words)) → i < length words → j < length words → Tells (told (IdOr sign) (word_at words j)) (Err fault)
      → Gathers means (Err fault)
  keyed_fails list i j (Refused refusal) means h key within e = h ∙ keyed_refused list i j refusal key within e
  keyed_fails list i j Memory means h key within e = absurd e

  pub keyed_done : (list : List (List ℕ × Option (ℕ × ℕ))) (i j : ℕ) → length words ≤ j → in_front list (keyed sign (drop i words) (drop j words)) ≡ Ok list
  keyed_done list i j over = ap (λ w. in_front list (keyed sign (drop i words) w)) (drop_all j words over) ∙ all_in_front list

-- ---- a list that is kept as long as there is memory

pub more_kept : {A E : Type 0} (list new : Result (List A) E) (kept : List A) (a : A) → IfOk list (λ l. l ≡ kept) → HasMore list a new → IfOk new (λ l. l ≡ kept ++ a ∷ [])
more_kept list (Err fault) kept a h m = tt
more_kept (Ok before) (Ok more) kept a h m = m ∙ ap (λ l. l ++ a ∷ []) h
more_kept (Err fault) (Ok more) kept a h m = absurd m
