-- The elements of a list, one behind the other.
use Rattle.std.proofs.Common.{◌≡◌, ℕ, ◌<◌, ◌^◌, List, [], ◌∷◌, ◌++◌, length, refl, sym, subst}
use Rattle.std.proofs.lemmas.List.{append-nil}
use Rattle.std.specs.List.{AllByRecursion}
use Rattle.plain_world.specs.Worlds.{ListOf}
use Rattle.fit_worlds.specs.Fit.{IsShort, AreShort}
use Rattle.rdb_grammar.specs.declared.values.Collection.TheVariants as of
use Rattle.rdb_grammar.specs.Codes as code
use Rattle.rdb_grammar.specs.Elements.{with_one}
use Rattle.rdb_grammar.specs.Items.{Key, item}
use Rattle.rdb_parts.specs.Words.{string_word, counted_word, key_word}
use Rattle.rdb_parts.proofs.Spelled.{string_spelled}
use Rattle.rdb_writer.proofs.Spelling.{turns_spelled, collection_spelled}

-- what holds of each element holds of one between others
middle_all : {A : Type 0} (P : A → Type 0) (front : List A) (x : A) (back : List A) → AllByRecursion P (front ++ (x ∷ back)) → P x
middle_all P [] x back all = all.0
middle_all P (y ∷ ys) x back all = middle_all P ys x back all.1

-- a key with a list
pub list_spelled : (name : List ℕ) (texts : List (List ℕ)) → IsShort name → AreShort texts → length texts < 2 ^ 64 → item.Spells (Key name (ListOf texts)) (key_word code.list name (counted_word texts))
list_spelled name texts short each few = collection_spelled code.list of.List name (length texts) (ListOf texts) _ short few (λ rest s. s) (turns_spelled string_word ListOf texts one)
  where
    one : (front : List (List ℕ)) (x : List ℕ) (back : List (List ℕ)) → front ++ (x ∷ back) ≡ texts → (with_one (ListOf front)).Spells (ListOf (front ++ x ∷ [])) (string_word x)
    one front x back is =
        let fits : IsShort x = middle_all IsShort front x back (subst AreShort (sym is) each) in
        (x, string_word x, [], sym (append-nil (string_word x)), string_spelled x fits, (refl, refl))
