-- Hashes over blocks that others change.
use Rattle.collection_walk.proofs.Replaced.{still_owned, beside}
use Rattle.std.proofs.Common.{◌≡◌, ℕ, suc, [], ◌∷◌, length, Some, None, unwrap_or, flat_map, refl, sym, ap, ◌∙◌, arith}
use Rattle.blocks.specs.declared.BlockRef.{BlockRef}
use Rattle.blocks.specs.Blocks.{Blocks, IsIn, bytes_at}
use Rattle.pack_pairs.specs.Pairs.{map_of_pairs}
use Rattle.hash_object.specs.declared.fields.Body.{Body}
use Rattle.hash_object.specs.declared.fields.Body.TheVariants.{Empty, Pack, Table}
use Rattle.hash_object.specs.declared.fields.Fields.{Fields}
use Rattle.hash_object.specs.Fields.{IsFields, fields_of, refs, refs_of_body, tables}
use Rattle.hash_object.specs.Relocation.{marks_from, marks_in}
use Rattle.hash_object.specs.Laws.{FieldsLaws}
use Rattle.hash_object.proofs.Tables.{names}
use Rattle.collection_walk.proofs.Named.{self}
use Rattle.hash_object.proofs.Listed.{Slots, slot_pairs, table_listed, arranged}
use Rattle.hash_object.proofs.Bodies.{body_kept}

module _ (a b : Blocks) where
  pairs_same : (items : Slots) → ((r : BlockRef) → IsIn r (flat_map names items) → b r ≡ a r) → slot_pairs b items ≡ slot_pairs a items
  pairs_same [] same = refl
  pairs_same (None ∷ items) same = pairs_same items same
  pairs_same (Some e ∷ items) same =
      ap (λ o. (unwrap_or o [], bytes_at b e.value) ∷ slot_pairs b items) (same e.key (omega (arith, self e.key)))
      ∙ ap (λ o. (bytes_at a e.key, unwrap_or o []) ∷ slot_pairs b items) (same e.value (omega (arith, self e.value)))
      ∙ ap (λ ps. (bytes_at a e.key, bytes_at a e.value) ∷ ps) (pairs_same items (λ r isin. same r (omega (arith, isin))))

  own_body : (body : Body) → ((r : BlockRef) → IsIn r (refs_of_body body) → b r ≡ a r) → fields_of b body ≡ fields_of a body
  own_body Empty same = refl
  own_body (Pack p) same = ap (λ o. fields_of (λ _. o) (Pack p)) (same p.at (omega (arith, self p.at)))
  own_body (Table t) same = table_listed b t ∙ ap map_of_pairs (pairs_same t.items same) ∙ sym (table_listed a t)

  sound : (f : Fields) → ((r : BlockRef) → IsIn r (refs f) → b r ≡ a r) → IsFields a f → IsFields b f × (tables b f ≡ tables a f)
  sound f same s = (let kept = body_kept a b f.limits f.seed f.body s.body same in
      (record { limits = s.limits; owned = still_owned a b (refs f) same s.owned; body = kept.0 }, kept.2))

items_marked : (n : ℕ) (items : Slots) → length (marks_from n items) ≡ length (flat_map names items)
items_marked n [] = refl
items_marked n (None ∷ items) = items_marked (suc n) items
items_marked n (Some e ∷ items) = ap (λ k. suc (suc k)) (items_marked (suc n) items)

marked : (body : Body) → length (marks_in body) ≡ length (refs_of_body body)
marked Empty = refl
marked (Pack p) = refl
marked (Table t) = items_marked 0 t.items

pub fields_laws_hold : FieldsLaws
fields_laws_hold = record {
  own = λ a b f same. own_body a b f.body same;
  sound = sound;
  others = λ a b f old new o p. own_body a b f.body (beside a b (refs f) old new o p);
  stays = λ a b f old new o p s. (sound a b f (beside a b (refs f) old new o p) s).0;
  marked = λ f. marked f.body;
  arranged = arranged;
}
