-- Members that were picked by chance.
use Rattle.std.proofs.Common.{◌≡◌, ℕ, ◌*◌, Bool, true, false, List, [], ◌∷◌, length, map, ℤ, Option, None, Some, is_some, Result, Ok, Err, IfOk, refl, sym, ap, ◌∙◌, subst}
use Rattle.std.specs.Prelude.{IsSome}
use Rattle.std.specs.List.{Contains, flat_map}
use Rattle.std.specs.FinMap.{empty, get, len}
use Rattle.std.proofs.lemmas.List.{length-map}
use Rattle.blocks.specs.Blocks.{Blocks}
use Rattle.int_text.specs.Decimal.{canonical}
use Rattle.zset_object.specs.declared.scored.Scored as object
use Rattle.zset_object.specs.Scored as object_of
use Rattle.zset_object.specs.Items.{pair_at, IsArranged}
use Rattle.zset_object.proofs.Depends.{scored_laws_hold}
use Rattle.picking.specs.Picks.{IsPick}
use Rattle.picking.specs.Elements.{elements_of, AreArranged}
use Rattle.picking.specs.Elements as elements
use Rattle.picking.proofs.Elements.{are_picked}
use Rattle.plain_world.specs.Worlds.{World, Entry, look}
use Rattle.plain_world.specs.declared.refusal.Refusal.TheVariants.{WrongType}
use Rattle.plain_world.specs.declared.reply.Part.{Part}
use Rattle.plain_world.specs.declared.reply.Part.TheVariants.{Array, Bulk, Refused}
use Rattle.plain_world.specs.Picks.{ArePicked, picks_told}
use Rattle.plain_model.specs.OfType.{zset_in, may_tell, may_tell_of}
use Rattle.plain_model.specs.ZsetSteps.{Scores, Scored, PicksMembers, listed, members_listed, score_or_null, may_zsets}
use Rattle.plain_model.specs.declared.zset_command.ZsetCommand.TheVariants as zsets
use Rattle.plain_world.proofs.Containing.{contains_first, contains_later}
use Rattle.keyspace.specs.Pages.{member_of}
use Rattle.cmd_zsets.specs.Found.{FoundZset, FoundOther}
use Rattle.cmd_zsets.specs.Spans.{told}
use Rattle.cmd_zsets.specs.Picked.{or_empty, pairs_of, first_told}

some_of : {A : Type 0} (o : Option A) → is_some o ≡ true → (v : A) × (o ≡ Some v)
some_of None h = absurd cc
some_of (Some v) h = (v, refl)

pair_from : (o : Option Scored) (x : List ℕ) → member_of o ≡ Some x → (score : ℤ) × (o ≡ Some (score, x))
pair_from None x h = absurd cc
pair_from (Some p) x h = let same : p.1 ≡ x = cc in (p.0, ap (λ (k : List ℕ). Some (p.0, k)) same)

has_member : (o : Option Scored) → IsSome o → IsSome (member_of o)
has_member None h = absurd cc
has_member (Some p) h = refl

has_pair : (o : Option Scored) → IsSome (member_of o) → IsSome o
has_pair None h = absurd cc
has_pair (Some p) h = refl

is_there : (o : Option Scored) → IsSome o → o ≡ Some ((or_empty o).0, (or_empty o).1)
is_there None h = absurd cc
is_there (Some p) h = refl

abbrev names_of : List Scored → List (List ℕ)
names_of list = map (λ (p : Scored). p.1) list

-- each member has its score
abbrev HaveScores : Scores → List Scored → Type 0
HaveScores scores [] = Unit {0}
HaveScores scores (p ∷ rest) = (get scores p.1 ≡ Some p.0) × HaveScores scores rest

module _ (m : Blocks) (zset : object.Scored) (sound : object_of.IsScored m zset) where
  stands : IsArranged m zset
  stands = scored_laws_hold.arranged m zset sound

  -- each member is that of one item number
  zset_arranged : AreArranged (object_of.scores m zset) (λ at. member_of (pair_at m zset at))
  zset_arranged = record {
    found = λ x h. (let v = some_of (get (object_of.scores m zset) x) h in let at = stands.found v.0 x v.1 in (at.0, ap member_of at.1));
    member = λ at x h. (let p = pair_from (pair_at m zset at) x h in ap is_some (stands.pair at p.0 x p.1));
    apart = λ at other x h k. (let p = pair_from (pair_at m zset at) x h in let q = pair_from (pair_at m zset other) x k in stands.apart at other p.0 q.0 x p.1 q.1);
  }

  -- item numbers that were picked are those of members that were picked
  members_picked : (n : Option ℤ) (items : List ℕ) → IsPick (λ blocks. object_of.IsScored blocks zset) (λ blocks at. IsSome (pair_at blocks zset at)) n items
      → ArePicked (λ member. is_some (get (object_of.scores m zset) member)) (len (object_of.scores m zset)) n (elements_of (λ at. member_of (pair_at m zset at)) items)
  members_picked n items p = are_picked (object_of.scores m zset) (λ at. member_of (pair_at m zset at)) zset_arranged (λ blocks. object_of.IsScored blocks zset)
      (λ blocks at. IsSome (pair_at blocks zset at)) m sound (λ at h. has_member (pair_at m zset at) h) (λ at h. has_pair (pair_at m zset at) h) n items p

  scores_are : (items : List ℕ) → ((at : ℕ) → Contains items at → IsSome (pair_at m zset at)) → HaveScores (object_of.scores m zset) (pairs_of (λ at. pair_at m zset at) items)
  scores_are [] real = tt
  scores_are (at ∷ items) real =
      let p = or_empty (pair_at m zset at) in
      (stands.pair at p.0 p.1 (is_there (pair_at m zset at) (real at (contains_first at items))), scores_are items (λ other c. real other (contains_later at other items c)))

-- the members of the pairs
one_name : (o : Option Scored) → (or_empty o).1 ≡ elements.or_empty (member_of o)
one_name None = refl
one_name (Some p) = refl

names_are : (f : ℕ → Option Scored) (items : List ℕ) → names_of (pairs_of f items) ≡ elements_of (λ at. member_of (f at)) items
names_are f [] = refl
names_are f (at ∷ items) = ap (λ (l : List (List ℕ)). (or_empty (f at)).1 ∷ l) (names_are f items) ∙ ap (λ (x : List ℕ). x ∷ elements_of (λ i. member_of (f i)) items) (one_name (f at))

first_is : (tell : List (List ℕ) → List Part) (pairs : List Scored) → first_told pairs ≡ picks_told tell None (names_of pairs)
first_is tell [] = refl
first_is tell (p ∷ pairs) = refl

counted : (tell : List (List ℕ) → List Part) (k : Option ℤ) (names : List (List ℕ)) → is_some k ≡ true → tell names ≡ picks_told tell k names
counted tell None names h = absurd cc
counted tell (Some k) names h = refl

only_members : (list : List Scored) → map (λ (p : Scored). Bulk p.1) list ≡ map Bulk (names_of list)
only_members [] = refl
only_members (p ∷ list) = ap (λ l. Bulk p.1 ∷ l) (only_members list)

with_scores_each : (scores : Scores) (list : List Scored) → HaveScores scores list
    → flat_map (λ (p : Scored). Bulk p.1 ∷ Bulk (canonical p.0) ∷ []) list ≡ flat_map (λ member. Bulk member ∷ score_or_null (get scores member) ∷ []) (names_of list)
with_scores_each scores [] have = refl
with_scores_each scores (p ∷ list) have =
    ap (λ l. Bulk p.1 ∷ Bulk (canonical p.0) ∷ l) (with_scores_each scores list have.1)
    ∙ ap (λ o. Bulk p.1 ∷ score_or_null o ∷ flat_map (λ member. Bulk member ∷ score_or_null (get scores member) ∷ []) (names_of list)) (sym have.0)

-- pairs are told as their members are
listed_is : (with_scores : Bool) (scores : Scores) (list : List Scored) → HaveScores scores list → listed with_scores list ≡ members_listed with_scores scores (names_of list)
listed_is false scores list have = ap (λ l. Array (length list) ∷ l) (only_members list) ∙ ap (λ n. Array n ∷ map Bulk (names_of list)) (sym (length-map list (λ (p : Scored). p.1)))
listed_is true scores list have =
    ap (λ l. Array (2 * length list) ∷ l) (with_scores_each scores list have)
    ∙ ap (λ n. Array (2 * n) ∷ flat_map (λ member. Bulk member ∷ score_or_null (get scores member) ∷ []) (names_of list)) (sym (length-map list (λ (p : Scored). p.1)))

-- how many pairs there are
pub pairs_long : (f : ℕ → Option Scored) (items : List ℕ) → length items ≡ length (pairs_of f items)
pairs_long f items = sym (length-map items (λ at. or_empty (f at)))

module _ {E : Type 0} (m : Blocks) (zset : object.Scored) (sound : object_of.IsScored m zset) (n : Option ℤ) (with_scores : Bool) (items : List ℕ)
    (p : IsPick (λ blocks. object_of.IsScored blocks zset) (λ blocks at. IsSome (pair_at blocks zset at)) n items) where
  pub first_picked : n ≡ None → (result : Result (List Part) E) → IfOk result (λ reply. reply ≡ first_told (pairs_of (λ at. pair_at m zset at) items))
      → IfOk result (λ reply. PicksMembers n with_scores (Some (object_of.scores m zset)) reply)
  first_picked none (Ok reply) is = (
    elements_of (λ at. member_of (pair_at m zset at)) items,
    members_picked m zset sound n items p,
    is ∙ first_is (members_listed with_scores (object_of.scores m zset)) (pairs_of (λ at. pair_at m zset at) items)
        ∙ ap (picks_told (members_listed with_scores (object_of.scores m zset)) None) (names_are (λ at. pair_at m zset at) items)
        ∙ ap (λ (k : Option ℤ). picks_told (members_listed with_scores (object_of.scores m zset)) k (elements_of (λ at. member_of (pair_at m zset at)) items)) (sym none),
  )
  first_picked none (Err x) is = tt

  pub many_picked : is_some n ≡ true → ((at : ℕ) → Contains items at → IsSome (pair_at m zset at)) → (result : Result (List Part) E)
      → IfOk result (λ reply. reply ≡ listed with_scores (pairs_of (λ at. pair_at m zset at) items))
      → IfOk result (λ reply. PicksMembers n with_scores (Some (object_of.scores m zset)) reply)
  many_picked some real (Ok reply) is = (
    elements_of (λ at. member_of (pair_at m zset at)) items,
    members_picked m zset sound n items p,
    is ∙ listed_is with_scores (object_of.scores m zset) (pairs_of (λ at. pair_at m zset at) items) (scores_are m zset sound items real)
        ∙ ap (members_listed with_scores (object_of.scores m zset)) (names_are (λ at. pair_at m zset at) items)
        ∙ counted (members_listed with_scores (object_of.scores m zset)) n (elements_of (λ at. member_of (pair_at m zset at)) items) some,
  )
  many_picked some real (Err x) is = tt

-- ---- what ZRANDMEMBER may tell of what stands at a key

pub none_random : {E : Type 0} (seed : ℕ) (n : Option ℤ) (with_scores : Bool) (old : World) (key : List ℕ) (scores : Scores) (result : Result (List Part) E) → look old key ≡ None → scores ≡ empty
    → IfOk result (λ reply. PicksMembers n with_scores (Some scores) reply) → IfOk result (λ reply. may_zsets seed old (zsets.ZRandMember key n with_scores) reply old)
none_random seed n with_scores old key scores (Ok reply) none is told =
    let all : PicksMembers n with_scores None reply = subst (λ (s : Scores). PicksMembers n with_scores (Some s) reply) is told in
    subst (λ (o : Option Entry). may_tell zset_in old o (PicksMembers n with_scores) reply old) (sym none) (all, refl)
none_random seed n with_scores old key scores (Err x) none is told = tt

pub zset_random : {E : Type 0} (seed : ℕ) (n : Option ℤ) (with_scores : Bool) (old : World) (m : Blocks) (key : List ℕ) (zset : object.Scored) (result : Result (List Part) E)
    → FoundZset old m key zset
    → IfOk result (λ reply. PicksMembers n with_scores (Some (object_of.scores m zset)) reply) → IfOk result (λ reply. may_zsets seed old (zsets.ZRandMember key n with_scores) reply old)
zset_random seed n with_scores old m key zset (Ok reply) found told = subst (λ (o : Option Entry). may_tell zset_in old o (PicksMembers n with_scores) reply old) (sym found.stands) (told, refl)
zset_random seed n with_scores old m key zset (Err x) found told = tt

pub other_random : {E : Type 0} (seed : ℕ) (n : Option ℤ) (with_scores : Bool) (old : World) (key : List ℕ) (result : Result (List Part) E) → FoundOther old key
    → IfOk result (λ reply. reply ≡ Refused WrongType ∷ [])
    → IfOk result (λ reply. may_zsets seed old (zsets.ZRandMember key n with_scores) reply old)
other_random seed n with_scores old key (Ok reply) found is =
    subst (λ (o : Option Entry). may_tell zset_in old o (PicksMembers n with_scores) reply old) (sym found.stands)
    (subst (λ (o : Option Scores). may_tell_of old o (PicksMembers n with_scores) reply old) (sym found.other) (is, refl))
other_random seed n with_scores old key (Err x) found is = tt
