-- Places of members in the order of a sorted set.
use Rattle.std.proofs.Common.{◌≡◌, ℕ, ◌+◌, ◌≤◌, List, [], length, Option, Some, unwrap_or, sym, ap, ◌∙◌, subst, arith}
use Rattle.std.specs.Prelude.{MatchOption, slice_get}
use Rattle.std.specs.FinMap.{len}
use Rattle.blocks.specs.Blocks.{Blocks}
use Rattle.object_codec.specs.declared.limits.Limits.{Limits}
use Rattle.object_codec.specs.Limits.{AreInRange}
use Rattle.pack_pairs.specs.Pairs.{IsPairAt, pairs}
use Rattle.pack_pairs.proofs.Packs.{pair_inside}
use Rattle.score_list.specs.Linked.{Element}
use Rattle.score_list.specs.Cursor.{IsCursor as IsLinkedCursor}
use Rattle.score_table.specs.declared.table.ScoreTable.{ScoreTable}
use Rattle.score_table.specs.Scored as table
use Rattle.score_table.proofs.Ranked.{counted, rank_names}
use Rattle.zset_object.specs.declared.scored.Packed.{Packed as Pack_of}
use Rattle.zset_object.specs.declared.scored.Body.{Body}
use Rattle.zset_object.specs.declared.scored.Body.TheVariants.{Pack, Table}
use Rattle.zset_object.specs.declared.cursor.Place.{Place}
use Rattle.zset_object.specs.declared.cursor.Place.TheVariants.{Packed, Linked}
use Rattle.zset_object.specs.Scored.{IsBody, IsMemberTable, scores_of, ranked_of}
use Rattle.zset_object.specs.Items.{IsPlace}
use Rattle.zset_object.proofs.Bodies.{pack_len}
use Rattle.zset_object.proofs.Placing.{pack_read}

module _ (m : Blocks) (limits : Limits) (seed : ℕ) (body : Body) (rank : ℕ) (place : Place) (is : IsBody m limits seed body) (at : IsPlace m body rank place) where
  module _ (p : Pack_of) (bytes : List ℕ) (to : ℕ) (body_is : body ≡ Pack p) (place_is : place ≡ Packed to) (read : m p.at ≡ Some bytes) where
    pub packed_at : IsPairAt bytes rank to
    packed_at =
        subst (λ (bs : List ℕ). IsPairAt bs rank to) (ap (λ (o : Option (List ℕ)). unwrap_or o []) read)
        (subst (λ (q : Place). IsPlace m (Pack p) rank q) place_is (subst (λ (b : Body). IsPlace m b rank place) body_is at))

    pub packed_few : AreInRange limits → rank + 1 ≤ 4096
    packed_few range =
        let old = pack_read m limits body p bytes body_is read seed is in
        omega (arith, pair_inside bytes rank to old.pack.pack packed_at, old.counted, old.few, range.zset_entries)

    pub packed_last : rank + 1 ≡ length (pairs bytes) → rank + 1 ≡ len (scores_of m body)
    packed_last last = omega (arith, last, (pack_read m limits body p bytes body_is read seed is).counted, pack_len m limits seed body p body_is is)

  module _ (t : ScoreTable) (link : List Element × ℕ) (body_is : body ≡ Table t) (place_is : place ≡ Linked link) where
    pub linked_at : IsLinkedCursor link t.list rank
    linked_at = subst (λ (q : Place). IsPlace m (Table t) rank q) place_is (subst (λ (b : Body). IsPlace m b rank place) body_is at)

    table_is : IsMemberTable m seed t
    table_is = subst (IsBody m limits seed) body_is is

    pub linked_last : link.1 + 1 ≡ length link.0 → rank + 1 ≡ len (scores_of m body)
    linked_last last =
        omega (
          arith,
          last,
          ap (λ (c : List Element × ℕ). c.1) linked_at.0,
          ap (λ (c : List Element × ℕ). length c.0) linked_at.0,
          counted m t table_is.sound,
          ap
              (λ (b : Body). len (scores_of m b)) body_is,
        )

    pub linked_names : (pair : Element) → slice_get link.0 link.1 ≡ Some pair → table.Names m pair (slice_get (ranked_of m body) rank)
    linked_names pair there =
        let here : slice_get t.list rank ≡ Some pair = ap (λ (c : List Element × ℕ). slice_get c.0 c.1) (sym linked_at.0) ∙ there in
        let names : table.Names m pair (slice_get (table.ranked m t) rank) =
        subst (λ (o : Option Element). MatchOption o (len (table.scores m t) ≤ rank) (λ pair. table.Names m pair (slice_get (table.ranked m t) rank))) here (rank_names m t rank table_is.sound) in
        subst (λ (b : Body). table.Names m pair (slice_get (ranked_of m b) rank)) (sym body_is) names
