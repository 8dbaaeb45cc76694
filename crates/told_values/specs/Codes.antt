-- Values as data.
use Rattle.std.specs.Prelude.{◌≡◌, ℕ, ℤ, List, ◌⊎◌, refl}
use Rattle.std.proofs.Common.{inl, inr}
use Rattle.std.specs.Coded.{Coded, code_by, coded×, coded⊎, coded_ℕ, coded_ℤ, coded_list}
use base.Stored.{coded_unit}
use Rattle.std.specs.FinMap as map
use Rattle.std.specs.FinMap.{FinMap}
use Rattle.std.specs.Ordering.{nat_cmp}
use Rattle.std.specs.Cmp.Lexicographic.{slice_cmp}
use Rattle.stream_groups.specs.Groups.{Id, Groups}
use Rattle.stream_groups.specs.GroupsCode.{groups_code}
use Rattle.plain_world.specs.Streams.{Stream, StreamEntry}
use Rattle.plain_world.specs.Worlds.{Value, Str, ListOf, SetOf, HashOf, SortedOf, StreamOf}

abbrev text_code : Coded (List ℕ)
text_code = coded_list coded_ℕ

abbrev id_code : Coded Id
id_code = coded× coded_ℕ coded_ℕ

abbrev pub entry_code : Coded StreamEntry
entry_code = code_by (Id × (List (List ℕ × List ℕ))) (coded× id_code (coded_list (coded× text_code text_code)))
    (λ e. (e.id, e.pairs)) (λ p. record { id = p.0; pairs = p.1 }) (λ _. refl)

abbrev pub stream_code : Coded Stream
stream_code = code_by (List StreamEntry × (Id × (Id × (ℕ × Groups))))
    (coded× (coded_list entry_code) (coded× id_code (coded× id_code (coded× coded_ℕ groups_code))))
    (λ s. (s.entries, (s.last, (s.deleted, (s.added, s.groups)))))
    (λ p. record { entries = p.0; last = p.1.0; deleted = p.1.1.0; added = p.1.1.1.0; groups = p.1.1.1.1 }) (λ _. refl)

-- a value as one of six
abbrev Cases : Type 0
Cases = List ℕ ⊎ (List (List ℕ) ⊎ (FinMap (slice_cmp nat_cmp) (Unit {0}) ⊎ (FinMap (slice_cmp nat_cmp) (List ℕ)
    ⊎ (FinMap (slice_cmp nat_cmp) ℤ ⊎ Stream))))

abbrev case_of : Value → Cases
case_of (Str text) = inl text
case_of (ListOf texts) = inr (inl texts)
case_of (SetOf members) = inr (inr (inl members))
case_of (HashOf fields) = inr (inr (inr (inl fields)))
case_of (SortedOf scores) = inr (inr (inr (inr (inl scores))))
case_of (StreamOf stream) = inr (inr (inr (inr (inr stream))))

abbrev of_case : Cases → Value
of_case (inl text) = Str text
of_case (inr (inl texts)) = ListOf texts
of_case (inr (inr (inl members))) = SetOf members
of_case (inr (inr (inr (inl fields)))) = HashOf fields
of_case (inr (inr (inr (inr (inl scores))))) = SortedOf scores
of_case (inr (inr (inr (inr (inr stream))))) = StreamOf stream

pub back : (value : Value) → of_case (case_of value) ≡ value
back (Str text) = refl
back (ListOf texts) = refl
back (SetOf members) = refl
back (HashOf fields) = refl
back (SortedOf scores) = refl
back (StreamOf stream) = refl

abbrev pub value_code : Coded Value
value_code = code_by Cases
    (coded⊎ text_code (coded⊎ (coded_list text_code) (coded⊎ (map.code text_code coded_unit) (coded⊎ (map.code text_code text_code)
    (coded⊎ (map.code text_code coded_ℤ) stream_code)))))
    case_of of_case back
