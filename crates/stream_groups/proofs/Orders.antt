-- The orders of names and of ids.
use Rattle.std.proofs.Common.{◌≡◌, refl}
use Rattle.std.specs.declared.cmp.Ordering.{Ordering}
use Rattle.std.specs.declared.cmp.Ordering.TheVariants.{Less, Equal, Greater}
use Rattle.std.specs.Ordering.{nat_cmp, ordering_then}
use Rattle.std.specs.Cmp.{IsTotalOrder, nat_cmp_total, on_total, then_total}
use Rattle.std.specs.Cmp.Lexicographic.{nat_list_cmp_total}
use Rattle.std.specs.FinMap.{IsAntisymmetric, nat_cmp-IsAntisymmetric, slice_cmp-IsAntisymmetric}
use Rattle.stream_groups.specs.Groups.{Id, id_cmp, name_cmp}

pub name_total : IsTotalOrder name_cmp
name_total = nat_list_cmp_total

pub name_same : IsAntisymmetric name_cmp
name_same = slice_cmp-IsAntisymmetric nat_cmp-IsAntisymmetric

pub id_total : IsTotalOrder id_cmp
id_total = then_total (on_total (λ (t : Id). t.0) nat_cmp_total) (on_total (λ (t : Id). t.1) nat_cmp_total)

-- both parts tie
parts : (a b : Ordering) → ordering_then a b ≡ Equal → (a ≡ Equal) × (b ≡ Equal)
parts Less b e = (e, cc)
parts Equal b e = (refl, e)
parts Greater b e = (e, cc)

-- ids that tie are the same
pub id_same : IsAntisymmetric id_cmp
id_same x y e =
    let both : (nat_cmp x.0 y.0 ≡ Equal) × (nat_cmp x.1 y.1 ≡ Equal) = parts _ _ e in
    λ i. (nat_cmp-IsAntisymmetric x.0 y.0 both.0 i, nat_cmp-IsAntisymmetric x.1 y.1 both.1 i)
