-- Groups as data.
use Rattle.std.specs.Prelude.{ℕ, List, refl}
use Rattle.std.specs.Coded.{Coded, code_by, coded×, coded_ℕ, coded_list}
use Rattle.std.specs.FinMap as map
use Rattle.std.specs.FinMap.{FinMap}
use Rattle.std.specs.FinSet as set
use Rattle.stream_groups.specs.Groups.{Id, Names, Pending, Pendings, Group, Groups, id_cmp}
use Rattle.stream_groups.specs.Index.{IdSet, Index}

abbrev pub names_code : Coded Names
names_code = set.code (coded_list coded_ℕ)

abbrev pub pending_code : Coded Pending
pending_code = code_by (List ℕ × (ℕ × ℕ)) (coded× (coded_list coded_ℕ) (coded× coded_ℕ coded_ℕ))
    (λ p. (p.consumer, (p.moment, p.count)))
    (λ p. record { consumer = p.0; moment = p.1.0; count = p.1.1 }) (λ _. refl)

abbrev pub group_code : Coded Group
group_code = code_by (Id × (Names × FinMap id_cmp Pending))
    (coded× (coded× coded_ℕ coded_ℕ) (coded× names_code (map.code (coded× coded_ℕ coded_ℕ) pending_code)))
    (λ g. (g.last, (g.consumers, g.pending)))
    (λ p. record { last = p.0; consumers = p.1.0; pending = p.1.1 }) (λ _. refl)

abbrev pub groups_code : Coded Groups
groups_code = map.code (coded_list coded_ℕ) group_code

abbrev pub pendings_code : Coded Pendings
pendings_code = map.code (coded× coded_ℕ coded_ℕ) pending_code

abbrev pub id_set_code : Coded IdSet
id_set_code = set.code (coded× coded_ℕ coded_ℕ)

abbrev pub index_code : Coded Index
index_code = map.code (coded_list coded_ℕ) id_set_code
