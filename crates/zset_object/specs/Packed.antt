-- A listpack of members and scores, in order.
use Rattle.std.specs.Prelude.{◌≡◌, ℕ, ℤ, pos, List, [], ◌∷◌, map, Option, None, unwrap_or, MatchOption}
use Rattle.int_text.specs.Decimal.{IsI64Text, number_of}
use Rattle.pack_pairs.specs.Pairs.{Pair, IsPairPack, IsOnce, IsFirst, pairs, second_of}
use Rattle.score_list.specs.Sorted.{Key}
use Rattle.score_table.specs.Ranking.{ScoreMap, IsOrdered}
use Rattle.zset_object.specs.Orders.{entry_of, map_of_keys, longest_member}

-- the score that a canonical text tells
unfoldable pub score_of_text : List ℕ → ℤ
score_of_text text = unwrap_or (number_of text) (pos 0)

-- a member and the text of its score as a score and its member
abbrev pub key_of_pair : Pair → Key
key_of_pair p = (score_of_text p.1, p.0)

-- the scores with their members
abbrev pub keys_of : List Pair → List Key
keys_of list = map key_of_pair list

-- those of a listpack
abbrev pub keys_in : List ℕ → List Key
keys_in bytes = keys_of (pairs bytes)

-- the scores of the members of a listpack
abbrev pub scores_in : List ℕ → ScoreMap
scores_in bytes = map_of_keys (keys_in bytes)

-- the length of the longest member of a listpack
abbrev pub longest_in : List ℕ → ℕ
longest_in bytes = longest_member (map entry_of (keys_in bytes))

-- each second text is that of a score
abbrev pub AreScores : List Pair → Type 0
AreScores [] = Unit {0}
AreScores (p ∷ rest) = IsI64Text p.1 × AreScores rest

-- The bytes are a listpack as the writer makes it of members and the texts of their scores, each member once and all in
-- order.
pub record IsScorePack (bytes : List ℕ) : Type 0 where
  pub pack : IsPairPack bytes
  pub once : IsOnce (pairs bytes)
  pub scores : AreScores (pairs bytes)
  pub ordered : IsOrdered (keys_in bytes)

-- the pair of the member stands at the index, or there is none
abbrev pub IsIndex : List Pair → List ℕ → Option ℕ → Type 0
IsIndex list member index = MatchOption index (second_of member list ≡ None) (λ i. IsFirst member list i)
