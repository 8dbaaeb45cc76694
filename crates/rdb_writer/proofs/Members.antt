-- The members of a set, one behind the other.
use Rattle.std.proofs.Common.{◌≡◌, ℕ, ◌<◌, ◌^◌, true, false, List, [], ◌∷◌, ◌++◌, length, Option, Some, None, is_some, refl, sym, ap, subst, ◌∙◌}
use Rattle.std.proofs.lemmas.List.{append-nil}
use Rattle.std.specs.Prelude.{is_none}
use Rattle.std.specs.FinMap.{get, len, empty}
use Rattle.blocks.specs.Blocks.{Blocks}
use Rattle.plain_world.specs.Worlds.{SetOf}
use Rattle.fit_worlds.specs.Fit.{IsShort, IsFitValue}
use Rattle.rdb_grammar.specs.declared.values.Collection.TheVariants as of
use Rattle.rdb_grammar.specs.Codes as code
use Rattle.rdb_grammar.specs.Format.{in_turn}
use Rattle.rdb_grammar.specs.Elements.{with_one}
use Rattle.rdb_grammar.specs.Items.{Key, item}
use Rattle.set_object.specs.Strings.{set_of, IsOnce}
use Rattle.set_object.specs.declared.members.Members.{Members}
use Rattle.set_object.specs.Members.{IsMembers, listed, members}
use Rattle.set_object.proofs.Depends.{members_laws_hold}
use Rattle.set_object.proofs.Sets.{among, has_among, stands_at, set_push, set_nil, once_before}
use Rattle.rdb_parts.specs.Words.{string_word, strings_word, counted_word, key_word}
use Rattle.rdb_parts.proofs.Spelled.{string_spelled}
use Rattle.rdb_writer.proofs.Spelling.{middle_inside, middle_is, middle_front, turns_spelled, collection_spelled}

none_there : (o : Option (Unit {0})) → is_some o ≡ false → is_none o ≡ true
none_there None e = refl
none_there (Some x) e = absurd cc

there_is : (o : Option (Unit {0})) → is_some o ≡ true → o ≡ Some tt
there_is None e = absurd cc
there_is (Some x) e = refl

module _ (all : List (List ℕ)) (once : IsOnce all) (each : (x : List ℕ) (nothing : Unit {0}) → get (set_of all) x ≡ Some nothing → IsShort x) where
  module _ (front : List (List ℕ)) (x : List ℕ) (back : List (List ℕ)) (is : front ++ (x ∷ back) ≡ all) where
    short : IsShort x
    short =
        let there : among x (front ++ (x ∷ back)) ≡ true = ap (λ y. among y (front ++ (x ∷ back))) (sym (middle_is front x back [])) ∙ stands_at (front ++ (x ∷ back)) (length front) (middle_inside front x back []) in
        each x tt (there_is (get (set_of all) x) (has_among all x ∙ ap (among x) (sym is) ∙ there))

    fresh : is_none (get (set_of front) x) ≡ true
    fresh =
        let apart : among x front ≡ false =
        (λ i. among (sym (middle_is front x back []) i) (sym (middle_front front x back []) i))
        ∙ once_before (front ++ (x ∷ back)) (length front) (subst IsOnce (sym is) once) (middle_inside front x back []) in
        none_there (get (set_of front) x) (has_among front x ∙ apart)

    one : (with_one (SetOf (set_of front))).Spells (SetOf (set_of (front ++ x ∷ []))) (string_word x)
    one = (x, string_word x, [], sym (append-nil (string_word x)), (string_spelled x short, fresh), (ap SetOf (set_push front x), refl))

  all_spelled : (in_turn with_one (length all) (SetOf empty)).Spells (SetOf (set_of all)) (strings_word all)
  all_spelled = subst (λ m. (in_turn with_one (length all) (SetOf m)).Spells (SetOf (set_of all)) (strings_word all)) set_nil (turns_spelled string_word (λ l. SetOf (set_of l)) all one)

-- so many members stand in the set's own order
pub listed_count : (m : Blocks) (set : Members) → IsMembers m set → length (listed m set) ≡ len (members m set)
listed_count m set sound = let a = members_laws_hold.arranged m set sound in sym a.once ∙ ap len a.listed_are

-- a key with a set
pub set_spelled : (m : Blocks) (set : Members) (name : List ℕ) → IsMembers m set → IsShort name → IsFitValue (SetOf (members m set)) → length (listed m set) < 2 ^ 64
    → item.Spells (Key name (SetOf (members m set))) (key_word code.set name (counted_word (listed m set)))
set_spelled m set name sound short fit few =
    let a = members_laws_hold.arranged m set sound in
    let texts = listed m set in
    let each : (x : List ℕ) (nothing : Unit {0}) → get (set_of texts) x ≡ Some nothing → IsShort x = λ x nothing is. fit.1 x nothing (ap (λ s. get s x) (sym a.listed_are) ∙ is) in
    subst (λ s. item.Spells (Key name (SetOf s)) (key_word code.set name (counted_word texts))) a.listed_are
    (collection_spelled code.set of.Set name (length texts) (SetOf (set_of texts)) (strings_word texts) short few (λ rest s. s) (all_spelled texts a.once each))
