-- The members of a source, met one after the other.
use Rattle.std.proofs.Common.{◌≡◌, ◌<◌, ◌+◌, inl, inr, ℕ, ℤ, pos, true, false, cond, List, [], ◌∷◌, map, Option, None, Some, is_some, IsSome, refl, sym, ap, subst, ◌∙◌, arith}
use Rattle.std.specs.Prelude.{◌*ℤ◌, IsTrue}
use Rattle.std.specs.Ordering.{nat_cmp}
use Rattle.std.specs.Cmp.Lexicographic.{slice_cmp, nat_list_cmp_total}
use Rattle.std.specs.FinMap.{empty, entries, find, get, get-empty, get-entries, get-from_entries, get-insert}
use Rattle.std.proofs.lemmas.Bool.{cond-false, cases_Bool, cases_eq}
use Rattle.blocks.specs.Blocks.{Blocks}
use Rattle.set_object.specs.declared.members.Members as set_type
use Rattle.set_object.specs.Members.{IsMembers, members}
use Rattle.set_object.specs.Items as set_items
use Rattle.set_object.specs.Strings.{Strings}
use Rattle.set_object.proofs.Sets.{tied, tied_true, tied_same}
use Rattle.set_object.proofs.Listed.{arranged}
use Rattle.zset_object.specs.declared.scored.Scored as zset_type
use Rattle.zset_object.specs.Scored.{IsScored, scores}
use Rattle.zset_object.specs.Items as zset_items
use Rattle.zset_object.proofs.Depends.{scored_laws_hold}
use Rattle.plain_world.proofs.Maps.{get_inserted}
use Rattle.plain_model.specs.ZsetSteps.{Scores, Scored, one_each, weighted}
use Rattle.plain_model.specs.declared.zset_command.ScoreJoin.{ScoreJoin}
use Rattle.plain_model.specs.declared.zset_command.ScoreJoin.TheVariants.{Inter, Union}
use Rattle.plain_model.specs.declared.zset_command.Aggregate.{Aggregate}
use Rattle.cmd_zsets.specs.Joined.{IsFresh, asked_of, met_with, put_if}

-- each member of a source has exactly one number, and its score there
pub record Numbers (at : ℕ → Option Scored) (top : ℕ) (source : Scores) : Type 0 where
  pub found : (score : ℤ) (member : List ℕ) → get source member ≡ Some score → (i : ℕ) × (at i ≡ Some (score, member))
  pub pair : (i : ℕ) (score : ℤ) (member : List ℕ) → at i ≡ Some (score, member) → get source member ≡ Some score
  pub apart : (i j : ℕ) (score other : ℤ) (member : List ℕ) → at i ≡ Some (score, member) → at j ≡ Some (other, member) → i ≡ j
  pub below : (i : ℕ) → IsSome (at i) → i < top

-- ---- the two kinds of sources

pub zset_numbers : (m : Blocks) (z : zset_type.Scored) → IsScored m z → Numbers (zset_items.pair_at m z) (zset_items.top_of z) (scores m z)
zset_numbers m z sound =
    let all = scored_laws_hold.arranged m z sound in
    record { found = all.found; pair = all.pair; apart = all.apart; below = all.below }

abbrev name_of : Option Scored → List ℕ
name_of None = []
name_of (Some scored) = scored.1

abbrev score_of : Option Scored → ℤ
score_of None = pos 0
score_of (Some scored) = scored.0

-- a member with the score 1
abbrev pub with_one : Option (List ℕ) → Option Scored
with_one None = None
with_one (Some member) = Some (pos 1, member)

abbrev pub one_at : Blocks → set_type.Members → ℕ → Option Scored
one_at m s i = with_one (set_items.member_at m s i)

abbrev one_if : Option (Unit {0}) → Option ℤ
one_if None = None
one_if (Some u) = Some (pos 1)

find_one : (q : List ℕ) (es : List (List ℕ × Unit {0})) → find (slice_cmp nat_cmp) q (map (λ (e : List ℕ × Unit {0}). (e.0, pos 1)) es) ≡ one_if (find (slice_cmp nat_cmp) q es)
find_one q [] = refl
find_one q (e ∷ es) = elim (tied q e.0) as
    (λ t. cond t (Some (pos 1)) (find (slice_cmp nat_cmp) q (map (λ (e : List ℕ × Unit {0}). (e.0, pos 1)) es)) ≡ one_if (cond t (Some e.1) (find (slice_cmp nat_cmp) q es))) [
      | true ↦ refl
      | false ↦ find_one q es
    ]

get_one : (own : Strings) (q : List ℕ) → get (one_each own) q ≡ one_if (get own q)
get_one own q =
    get-from_entries nat_list_cmp_total (map (λ (e : List ℕ × Unit {0}). (e.0, pos 1)) (entries own)) q ∙ find_one q (entries own) ∙ ap one_if (sym (get-entries own q))

one_there : (o : Option (Unit {0})) → is_some o ≡ true → one_if o ≡ Some (pos 1)
one_there None h = cc
one_there (Some u) h = refl

there_one : (o : Option (Unit {0})) (score : ℤ) → one_if o ≡ Some score → is_some o ≡ true
there_one None score h = cc
there_one (Some u) score h = refl

is_one : (o : Option (Unit {0})) (score : ℤ) → one_if o ≡ Some score → score ≡ pos 1
is_one None score h = cc
is_one (Some u) score h = cc

member_of : (o : Option (List ℕ)) (score : ℤ) (member : List ℕ) → with_one o ≡ Some (score, member) → o ≡ Some member
member_of None score member h = cc
member_of (Some x) score member h = ap Some (ap name_of h)

one_of : (o : Option (List ℕ)) (score : ℤ) (member : List ℕ) → with_one o ≡ Some (score, member) → score ≡ pos 1
one_of None score member h = cc
one_of (Some x) score member h = sym (ap score_of h)

some_of : (o : Option (List ℕ)) → IsSome (with_one o) → IsSome o
some_of None h = h
some_of (Some x) h = refl

pub set_numbers : (m : Blocks) (s : set_type.Members) → IsMembers m s → Numbers (one_at m s) (set_items.top_of s) (one_each (members m s))
set_numbers m s sound =
    let all = arranged m s sound in
    let own = members m s in
    record {
      found = λ score member e.
          let is = sym (get_one own member) ∙ e in
          let at = all.found member (there_one (get own member) score is) in
          (at.0, ap with_one at.1 ∙ ap (λ (n : ℤ). Some (n, member)) (sym (is_one (get own member) score is)));
      pair = λ i score member e.
          let o = set_items.member_at m s i in
          get_one own member ∙ one_there (get own member) (all.member i member (member_of o score member e)) ∙ ap Some (sym (one_of o score member e));
      apart = λ i j score other member e f. all.apart i j member (member_of (set_items.member_at m s i) score member e) (member_of (set_items.member_at m s j) other member f);
      below = λ i is. all.below i (some_of (set_items.member_at m s i) is);
    }

-- nothing is where none is told to be
pub none_there : {A : Type 0} (o : Option A) → (IsSome o → IsTrue false) → o ≡ None
none_there None h = refl
none_there (Some x) h = absurd (let e : false ≡ true = h refl in cc)

-- ---- one member after the other

module _ (join : ScoreJoin) (how : Aggregate) where
  -- what is written of a member is what the join has of it
  put_got : (before : Option ℤ) (score : ℤ) (now : Scores) (member : List ℕ) → get now member ≡ met_with join how before None
      → get (put_if now member (met_with join how before (Some score))) member ≡ met_with join how before (Some score)
  put_got before score now member was = by_join join before was
    where
      by_join : (j : ScoreJoin) (b : Option ℤ) → get now member ≡ met_with j how b None → get (put_if now member (met_with j how b (Some score))) member ≡ met_with j how b (Some score)
      by_join Union None h = get_inserted now member _
      by_join Union (Some x) h = get_inserted now member _
      by_join Inter None h = h
      by_join Inter (Some x) h = get_inserted now member _

  put_other : (o : Option ℤ) (now : Scores) (member q : List ℕ) → tied q member ≡ false → get (put_if now member o) q ≡ get now q
  put_other None now member q apart = refl
  put_other (Some v) now member q apart = get-insert nat_list_cmp_total now member v q ∙ cond-false _ _ _ apart

  fresh_left : (before first : Scores) (member : List ℕ) → IsFresh join first → get first member ≡ met_with join how (get (asked_of join before first) member) None
  fresh_left before first member fresh = by_join join fresh
    where
      by_join : (j : ScoreJoin) → IsFresh j first → get first member ≡ met_with j how (get (asked_of j before first) member) None
      by_join Union f = refl
      by_join Inter f = ap (λ (s : Scores). get s member) f ∙ get-empty (slice_cmp nat_cmp) member

  asked_left : (before first now : Scores) (member : List ℕ) → get now member ≡ met_with join how (get (asked_of join before first) member) None
      → get (asked_of join before now) member ≡ get (asked_of join before first) member
  asked_left before first now member left = by_join join left
    where
      by_join : (j : ScoreJoin) → get now member ≡ met_with j how (get (asked_of j before first) member) None → get (asked_of j before now) member ≡ get (asked_of j before first) member
      by_join Union l = l
      by_join Inter l = refl

  -- the members with numbers below this one were met, and the others not yet
  pub record IsSoFar (at : ℕ → Option Scored) (weight : ℤ) (before first now : Scores) (i : ℕ) : Type 0 where
    pub met : (j : ℕ) (score : ℤ) (member : List ℕ) → j < i → at j ≡ Some (score, member) → get now member ≡ met_with join how (get (asked_of join before first) member) (Some (weight *ℤ score))
    pub left : (member : List ℕ) → ((j : ℕ) (score : ℤ) → j < i → at j ≡ Some (score, member) → ⊥) → get now member ≡ met_with join how (get (asked_of join before first) member) None

  module _ (at : ℕ → Option Scored) (weight : ℤ) (before first : Scores) where
    pub none_met : IsFresh join first → IsSoFar at weight before first first 0
    none_met fresh = record {
      met = λ j score member below is. absurd (omega (arith, below));
      left = λ member none. fresh_left before first member fresh;
    }

    -- no member has the number
    pub passes_on : (now : Scores) (i : ℕ) → at i ≡ None → IsSoFar at weight before first now i → IsSoFar at weight before first now (i + 1)
    passes_on now i nothing so = record {
      met = λ j score member below is. elim (cases_eq j i) [
        | inl here ↦ absurd (let e : Some (score, member) ≡ None = sym is ∙ ap at here ∙ nothing in cc)
        | inr other ↦ so.met j score member (omega (arith, below, other)) is
      ];
      left = λ member none. so.left member (λ j score below is. none j score (omega (arith, below)) is);
    }

    module _ (top : ℕ) (source : Scores) (all : Numbers at top source) where
      -- the member of the number is met
      pub goes_on : (now new : Scores) (i : ℕ) (score : ℤ) (member : List ℕ) → at i ≡ Some (score, member)
          → new ≡ put_if now member (met_with join how (get (asked_of join before now) member) (Some (weight *ℤ score)))
          → IsSoFar at weight before first now i → IsSoFar at weight before first new (i + 1)
      goes_on now new i score member here is so =
          let none : (j : ℕ) (s : ℤ) → j < i → at j ≡ Some (s, member) → ⊥ = λ j s below e. (let same : i ≡ j = all.apart i j score s member here e in omega (arith, same, below)) in
          let was = so.left member none in
          let asked = get (asked_of join before first) member in
          let made : new ≡ put_if now member (met_with join how asked (Some (weight *ℤ score))) = is
          ∙ ap (λ o. put_if now member (met_with join how o (Some (weight *ℤ score)))) (asked_left before first now member was) in
          let others : (q : List ℕ) → tied q member ≡ false → get new q ≡ get now q = λ q apart. ap (λ (s : Scores). get s q) made
          ∙ put_other (met_with join how asked (Some (weight *ℤ score))) now member q apart in
          record {
            met = λ j s q below e. elim (cases_Bool (tied q member)) [
              | inl t ↦
                  let same : q ≡ member = tied_true q member t in
                  let as_one : Some s ≡ Some score = sym (all.pair j s q e) ∙ ap (get source) same ∙ all.pair i score member here in
                  ap (get new) same ∙ ap (λ (n : Scores). get n member) made ∙ put_got asked (weight *ℤ score) now member was
                  ∙ ap (λ (o : Option ℤ). met_with join how asked (weighted weight o)) (sym as_one)
                  ∙ ap (λ (k : List ℕ). met_with join how (get (asked_of join before first) k) (Some (weight *ℤ s))) (sym same)
              | inr f ↦ elim (cases_eq j i) [
                | inl at_i ↦
                    let pairs : Some (s, q) ≡ Some (score, member) = sym e ∙ ap at at_i ∙ here in
                    let same : q ≡ member = ap name_of pairs in
                    absurd (let b : true ≡ false = sym (tied_same q member same) ∙ f in cc)
                | inr other ↦ others q f ∙ so.met j s q (omega (arith, below, other)) e
              ]
            ];
            left = λ q nowhere. elim (cases_Bool (tied q member)) [
              | inl t ↦ absurd (nowhere i score (omega arith) (here ∙ ap (λ (k : List ℕ). Some (score, k)) (sym (tied_true q member t))))
              | inr f ↦ others q f ∙ so.left q (λ j s below e. nowhere j s (omega (arith, below)) e)
            ];
          }

      -- all members were met
      pub all_met : (now : Scores) → IsSoFar at weight before first now top → (q : List ℕ) → get now q ≡ met_with join how (get (asked_of join before first) q) (weighted weight (get source q))
      all_met now so q =
          elim (get source q) as (λ o. get source q ≡ o → get now q ≡ met_with join how (get (asked_of join before first) q) (weighted weight o)) [
            | None ↦ λ e. so.left q (λ j score below is. (let none : Some score ≡ None = sym (all.pair j score q is) ∙ e in cc))
            | Some score ↦ λ e. (let there = all.found score q e in so.met there.0 score q (all.below there.0 (subst (λ (o : Option Scored). IsSome o) (sym there.1) refl)) there.1)
          ] refl

-- a source without a member is met
pub none_more : (join : ScoreJoin) (how : Aggregate) (weight : ℤ) (before first old source : Scores) → IsFresh join first → asked_of join before first ≡ old → source ≡ empty
    → (q : List ℕ) → get first q ≡ met_with join how (get old q) (weighted weight (get source q))
none_more join how weight before first old source fresh is none q =
    fresh_left join how before first q fresh ∙ ap (λ (s : Scores). met_with join how (get s q) None) is
    ∙ ap (λ (o : Option ℤ). met_with join how (get old q) (weighted weight o)) (sym (ap (λ (s : Scores). get s q) none ∙ get-empty (slice_cmp nat_cmp) q))
