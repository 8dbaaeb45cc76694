-- Sets over blocks that others change.
use Rattle.collection_walk.proofs.Replaced.{still_owned, beside}
use Rattle.std.proofs.Common.{◌≡◌, [], ◌∷◌, length, Some, None, unwrap_or, flat_map, refl, sym, ap, ◌∙◌, arith}
use Rattle.blocks.specs.declared.BlockRef.{BlockRef}
use Rattle.blocks.specs.Blocks.{Blocks, IsIn, bytes_at}
use Rattle.set_object.specs.declared.members.Body.{Body}
use Rattle.set_object.specs.declared.members.Body.TheVariants.{Empty, Numbers, Pack, Table}
use Rattle.set_object.specs.declared.members.Members.{Members}
use Rattle.set_object.specs.Strings.{set_of}
use Rattle.set_object.specs.Members.{IsMembers, members_of, refs, refs_of, tables, key_in}
use Rattle.set_object.specs.Relocation.{marks_in}
use Rattle.collection_walk.proofs.Numbered.{items_marked, names}
use Rattle.set_object.specs.Laws.{MembersLaws}
use Rattle.set_object.proofs.Listed.{Slots, table_listed, arranged}
use Rattle.set_object.proofs.Bodies.{body_kept}
use Rattle.collection_walk.proofs.Named.{self}

module _ (a b : Blocks) where
  keys_same : (items : Slots) → ((r : BlockRef) → IsIn r (flat_map names items) → b r ≡ a r) → flat_map (key_in b) items ≡ flat_map (key_in a) items
  keys_same [] same = refl
  keys_same (None ∷ items) same = keys_same items same
  keys_same (Some e ∷ items) same =
      ap (λ o. unwrap_or o [] ∷ flat_map (key_in b) items) (same e.key (omega (arith, self e.key)))
      ∙ ap (λ ks. bytes_at a e.key ∷ ks) (keys_same items (λ r isin. same r (omega (arith, isin))))

  own_body : (body : Body) → ((r : BlockRef) → IsIn r (refs_of body) → b r ≡ a r) → members_of b body ≡ members_of a body
  own_body Empty same = refl
  own_body (Numbers p) same = ap (λ o. members_of (λ _. o) (Numbers p)) (same p.at (omega (arith, self p.at)))
  own_body (Pack p) same = ap (λ o. members_of (λ _. o) (Pack p)) (same p.at (omega (arith, self p.at)))
  own_body (Table t) same = table_listed b t ∙ ap set_of (keys_same t.items same) ∙ sym (table_listed a t)

  sound : (m : Members) → ((r : BlockRef) → IsIn r (refs m) → b r ≡ a r) → IsMembers a m → IsMembers b m × (tables b m ≡ tables a m)
  sound m same s = (let kept = body_kept a b m.limits m.seed m.body s.body same in
      (record { limits = s.limits; owned = still_owned a b (refs m) same s.owned; body = kept.0 }, kept.2))

marked : (body : Body) → length (marks_in body) ≡ length (refs_of body)
marked Empty = refl
marked (Numbers p) = refl
marked (Pack p) = refl
marked (Table t) = items_marked 0 t.items

pub members_laws_hold : MembersLaws
members_laws_hold = record {
  own = λ a b m same. own_body a b m.body same;
  sound = sound;
  others = λ a b m old new o p. own_body a b m.body (beside a b (refs m) old new o p);
  stays = λ a b m old new o p s. (sound a b m (beside a b (refs m) old new o p) s).0;
  marked = λ m. marked m.body;
  arranged = arranged;
}
