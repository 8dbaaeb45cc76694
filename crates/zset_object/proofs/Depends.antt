-- What a sorted set depends on, and the one list of its members.
use Rattle.std.proofs.Common.{◌≡◌, ℕ, ◌<◌, ℤ, List, [], length, Option, Some, None, IsSome, unwrap_or, refl, sym, ap, ◌∙◌, arith}
use Rattle.std.specs.FinMap.{get, get-empty, len, len-empty}
use Rattle.std.specs.Ordering.{nat_cmp}
use Rattle.std.specs.Cmp.Lexicographic.{slice_cmp}
use Rattle.blocks.specs.declared.BlockRef.{BlockRef}
use Rattle.blocks.specs.Blocks.{Blocks, IsIn, bytes_at}
use Rattle.object_codec.specs.declared.limits.Limits.{Limits}
use Rattle.pack_pairs.specs.Pairs.{pairs}
use Rattle.collection_walk.proofs.Replaced.{still_owned, beside}
use Rattle.score_table.specs.Ranking.{IsRanking}
use Rattle.score_table.proofs.Depends.{score_table_laws_hold}
use Rattle.zset_object.specs.declared.scored.Body.{Body}
use Rattle.zset_object.specs.declared.scored.Body.TheVariants.{Empty, Pack, Table}
use Rattle.zset_object.specs.declared.scored.Scored.{Scored}
use Rattle.zset_object.specs.Packed.{keys_in, scores_in}
use Rattle.zset_object.specs.Scored.{IsScored, IsBody, scores_of, ranked, ranked_of, refs, refs_of_body, tables}
use Rattle.zset_object.specs.Items.{pair_in, top_in}
use Rattle.zset_object.specs.Laws.{ScoredLaws}
use Rattle.zset_object.proofs.Bodies.{body_kept}
use Rattle.collection_walk.proofs.Named.{self}
use Rattle.zset_object.proofs.Keys.{once_len, keys_len}
use Rattle.zset_object.proofs.Marks.{all_marked}
use Rattle.zset_object.proofs.Listed.{pack_found, pack_has, pack_apart, pack_ranking, empty_ranking}
use Rattle.collection_walk.proofs.Lists.{get_below}

own_scores : (a b : Blocks) (body : Body) → ((r : BlockRef) → IsIn r (refs_of_body body) → b r ≡ a r) → scores_of b body ≡ scores_of a body
own_scores a b Empty same = refl
own_scores a b (Pack p) same = ap (λ o. scores_in (unwrap_or o [])) (same p.at (omega (arith, self p.at)))
own_scores a b (Table t) same = score_table_laws_hold.own a b t same

kept : (a b : Blocks) (s : Scored) → ((r : BlockRef) → IsIn r (refs s) → b r ≡ a r) → IsScored a s → IsScored b s × (ranked b s ≡ ranked a s) × (tables b s ≡ tables a s)
kept a b s same is =
    let k = body_kept a b s.limits s.seed s.body is.body same in
    (record { limits = is.limits; owned = still_owned a b (refs s) same is.owned; body = k.0 }, k.2, k.3)

ranking_of : (m : Blocks) (limits : Limits) (seed : ℕ) (body : Body) → IsBody m limits seed body → IsRanking (scores_of m body) (ranked_of m body)
ranking_of m limits seed Empty is = empty_ranking (scores_of m Empty) (λ k. get-empty (slice_cmp nat_cmp) k)
ranking_of m limits seed (Pack p) is = pack_ranking (bytes_at m p.at) is.pack
ranking_of m limits seed (Table t) is = score_table_laws_hold.ranking m t is.sound

pub counted_of : (m : Blocks) (limits : Limits) (seed : ℕ) (body : Body) → IsBody m limits seed body → length (ranked_of m body) ≡ len (scores_of m body)
counted_of m limits seed Empty is = sym (len-empty (slice_cmp nat_cmp) ℤ)
counted_of m limits seed (Pack p) is = keys_len (pairs (bytes_at m p.at)) ∙ sym (once_len (pairs (bytes_at m p.at)) is.pack.once)
counted_of m limits seed (Table t) is = score_table_laws_hold.counted m t is.sound

module _ (m : Blocks) (limits : Limits) (seed : ℕ) where
  found_of : (body : Body) → IsBody m limits seed body → (v : ℤ) (k : List ℕ) → get (scores_of m body) k ≡ Some v → (at : ℕ) × (pair_in m body at ≡ Some (v, k))
  found_of Empty is v k h = absurd (never (get (scores_of m Empty) k) v h (get-empty (slice_cmp nat_cmp) k))
    where
      never : (o : Option ℤ) (x : ℤ) → o ≡ Some x → o ≡ None → ⊥
      never o x h g = cc
  found_of (Pack p) is v k h = pack_found (bytes_at m p.at) is.pack v k h
  found_of (Table t) is v k h = (score_table_laws_hold.arranged m t is.sound).found v k h

  has_of : (body : Body) → IsBody m limits seed body → (at : ℕ) (v : ℤ) (k : List ℕ) → pair_in m body at ≡ Some (v, k) → get (scores_of m body) k ≡ Some v
  has_of Empty is at v k h = absurd cc
  has_of (Pack p) is at v k h = pack_has (bytes_at m p.at) is.pack at v k h
  has_of (Table t) is at v k h = (score_table_laws_hold.arranged m t is.sound).pair at v k h

  apart_of : (body : Body) → IsBody m limits seed body → (at other : ℕ) (v w : ℤ) (k : List ℕ) → pair_in m body at ≡ Some (v, k) → pair_in m body other ≡ Some (w, k) → at ≡ other
  apart_of Empty is at other v w k h g = absurd cc
  apart_of (Pack p) is at other v w k h g = pack_apart (bytes_at m p.at) is.pack at other v w k h g
  apart_of (Table t) is at other v w k h g = (score_table_laws_hold.arranged m t is.sound).apart at other v w k h g

  pub below_of : (body : Body) → IsBody m limits seed body → (at : ℕ) → IsSome (pair_in m body at) → at < top_in body
  below_of Empty is at h = cc
  below_of (Pack p) is at h = omega (arith, get_below (keys_in (bytes_at m p.at)) at h, keys_len (pairs (bytes_at m p.at)), is.counted)
  below_of (Table t) is at h = (score_table_laws_hold.arranged m t is.sound).below at h

pub scored_laws_hold : ScoredLaws
scored_laws_hold = record {
  own = λ a b s same. own_scores a b s.body same;
  sound = kept;
  others = λ a b s old new o p. own_scores a b s.body (beside a b (refs s) old new o p);
  stays = λ a b s old new o p is. (kept a b s (beside a b (refs s) old new o p) is).0;
  marked = λ s. all_marked s.body;
  ranking = λ m s is. ranking_of m s.limits s.seed s.body is.body;
  counted = λ m s is. counted_of m s.limits s.seed s.body is.body;
  unique = score_table_laws_hold.unique;
  arranged = λ m s is. record {
    found = found_of m s.limits s.seed s.body is.body;
    pair = has_of m s.limits s.seed s.body is.body;
    apart = apart_of m s.limits s.seed s.body is.body;
    below = below_of m s.limits s.seed s.body is.body;
  };
}
