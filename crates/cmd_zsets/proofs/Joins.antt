-- Joins of what stands at keys, and what is answered.
use Rattle.std.proofs.Common.{◌≡◌, ℕ, ℤ, pos, Bool, true, false, List, [], ◌∷◌, length, Option, None, Some, is_some, Result, Ok, Err, IfOk, refl, sym, ap, subst, ◌∙◌, arith}
use Rattle.std.specs.Prelude.{◌&&◌, ◌*ℤ◌, if◌then◌else◌}
use Rattle.std.specs.Ordering.{nat_cmp}
use Rattle.std.specs.Cmp.Lexicographic.{slice_cmp}
use Rattle.std.specs.FinMap.{empty, entries, get, get-empty, len}
use Rattle.std.proofs.lemmas.Bool.{and_parts, cond-true, cond-false}
use Rattle.blocks.specs.Blocks.{Blocks}
use Rattle.set_object.specs.declared.members.Members as set_type
use Rattle.set_object.specs.Members.{members}
use Rattle.zset_object.specs.declared.scored.Scored as zset_type
use Rattle.zset_object.specs.Scored as zset_of
use Rattle.plain_world.specs.Worlds.{World, Value, Str, ListOf, SetOf, HashOf, SortedOf, StreamOf, Entry, look}
use Rattle.plain_world.specs.declared.refusal.Refusal.TheVariants.{WrongType, NotAWholeScore}
use Rattle.plain_world.specs.declared.reply.Part.{Part}
use Rattle.plain_world.specs.declared.reply.Part.TheVariants.{Refused, Number}
use Rattle.plain_model.specs.Outcomes.{Outcome, IsOutcome, refused}
use Rattle.plain_model.specs.OfType.{zset_in, set_in, source, with_source, or_no_sources, may_do_of}
use Rattle.plain_model.specs.ListSteps.{tells_number}
use Rattle.plain_model.specs.ZsetSteps.{Scores, Scored, or_no_scores, scores_in, one_each, weighted, score_with, score_from, have_all, joined_score, IsJoin, are_scores, weights_of}
use Rattle.plain_model.specs.ZsetSteps.{zsets_at, store_zset, store_scores, StoresScores, aggregated, may_zsets}
use Rattle.plain_model.specs.declared.zset_command.ZsetCommand.TheVariants as zsets
use Rattle.plain_model.specs.declared.zset_command.ScoreJoin.{ScoreJoin}
use Rattle.plain_model.specs.declared.zset_command.ScoreJoin.TheVariants.{Inter, Union}
use Rattle.plain_model.specs.declared.zset_command.Aggregate.{Aggregate}
use Rattle.keyspace.specs.declared.value.Value as kinds
use Rattle.keyspace.specs.declared.value.Value.TheVariants as values
use Rattle.keyspace.specs.Values.{value_of}
use Rattle.keyspace.specs.Calls.{Found}
use Rattle.keyspace.specs.Commands.{seen}
use Rattle.keyspace.specs.Databases.{Bases}
use Rattle.keyspace.specs.Forms as forms
use Rattle.plain_model.specs.declared.ctx.Ctx.{Ctx}
use Rattle.cmd_zsets.specs.Found.{FoundZset, FoundOther}
use Rattle.cmd_zsets.specs.Joined.{FoundSet, FoundNoSet, met_with, met_each, scores_at, scores_here}

-- ---- a value that is no set

abbrev pub is_set : kinds.Value → Bool
is_set (values.Set b) = true
is_set other = false

no_set : (m : Blocks) (value : kinds.Value) → is_set value ≡ false → set_in (value_of m value) ≡ None
no_set m (values.Text text) is = refl
no_set m (values.List b) is = refl
no_set m (values.Set b) is = cc
no_set m (values.Hash b) is = refl
no_set m (values.Zset b) is = refl
no_set m (values.Stream b) is = refl

pub found_no_set : (bases : Bases) (m : Blocks) (at : Ctx) (key : List ℕ) (value : kinds.Value) → is_set value ≡ false → Found bases m at.db key at.moment value → FoundNoSet (seen at bases m) key
found_no_set bases m at key value other found = record { entry = record { value = value_of m value; deadline = found.deadline }; stands = found.stands; other = no_set m value other }

-- ---- what a key gives

pub missing_source : (world : World) (key : List ℕ) → look world key ≡ None → is_some (source scores_in empty (look world key)) ≡ true
missing_source world key none = ap (λ (o : Option Entry). is_some (source scores_in empty o)) none

pub zset_source : (world : World) (m : Blocks) (key : List ℕ) (z : zset_type.Scored) → FoundZset world m key z → is_some (source scores_in empty (look world key)) ≡ true
zset_source world m key z found = ap (λ (o : Option Entry). is_some (source scores_in empty o)) found.stands

pub set_source : (world : World) (m : Blocks) (key : List ℕ) (s : set_type.Members) → FoundSet world m key s → is_some (source scores_in empty (look world key)) ≡ true
set_source world m key s found = ap (λ (o : Option Entry). is_some (source scores_in empty o)) found.stands

-- a value that is neither gives nothing
neither : (v : Value) → zset_in v ≡ None → set_in v ≡ None → scores_in v ≡ None
neither (Str bytes) a b = refl
neither (ListOf list) a b = refl
neither (SetOf members) a b = cc
neither (HashOf fields) a b = refl
neither (SortedOf scores) a b = cc
neither (StreamOf stream) a b = refl

abbrev zset_found : Option Entry → Option Scores
zset_found None = None
zset_found (Some entry) = zset_in entry.value

pub other_gives : (world : World) (key : List ℕ) → FoundOther world key → FoundNoSet world key → source scores_in empty (look world key) ≡ None
other_gives world key no_zset other =
    let same : zset_in other.entry.value ≡ None = ap zset_found (sym other.stands ∙ no_zset.stands) ∙ no_zset.other in
    ap (source scores_in empty) other.stands ∙ neither other.entry.value same other.other

pub other_source : (world : World) (key : List ℕ) → FoundOther world key → FoundNoSet world key → is_some (source scores_in empty (look world key)) ≡ false
other_source world key no_zset other = ap is_some (other_gives world key no_zset other)

pub missing_scores : (world : World) (key : List ℕ) → look world key ≡ None → scores_at world key ≡ empty
missing_scores world key none = ap (λ (o : Option Entry). or_no_scores (source scores_in empty o)) none

pub other_scores : (world : World) (key : List ℕ) → FoundOther world key → FoundNoSet world key → scores_at world key ≡ empty
other_scores world key no_zset other = ap or_no_scores (other_gives world key no_zset other)

pub zset_scores : (world : World) (m : Blocks) (key : List ℕ) (z : zset_type.Scored) → FoundZset world m key z → scores_at world key ≡ zset_of.scores m z
zset_scores world m key z found = ap (λ (o : Option Entry). or_no_scores (source scores_in empty o)) found.stands

pub set_scores : (world : World) (m : Blocks) (key : List ℕ) (s : set_type.Members) → FoundSet world m key s → scores_at world key ≡ one_each (members m s)
set_scores world m key s found = ap (λ (o : Option Entry). or_no_scores (source scores_in empty o)) found.stands

-- ---- what keys give

known : (o : Option Scores) → is_some o ≡ true → o ≡ Some (or_no_scores o)
known None h = cc
known (Some s) h = refl

both : (a : Option Scores) (b : Option (List Scores)) → is_some (with_source a b) ≡ (is_some a && is_some b)
both None None = refl
both None (Some b) = refl
both (Some a) None = refl
both (Some a) (Some b) = refl

pub sources_are : (world : World) (keys : List Scored) → is_some (zsets_at world keys) ≡ true → zsets_at world keys ≡ Some (scores_here world keys)
sources_are world [] there = refl
sources_are world (key ∷ keys) there =
    let own = source scores_in empty (look world key.1) in
    let parts = and_parts (is_some own) (is_some (zsets_at world keys)) (sym (both own (zsets_at world keys)) ∙ there) in
    ap (λ (o : Option Scores). with_source o (zsets_at world keys)) (known own parts.0) ∙ ap (with_source (Some (scores_at world key.1))) (sources_are world keys parts.1)

-- a source leaves it to the others, and another value decides it
pub source_passes : (world : World) (list others : List Scored) (key : Scored) → list ≡ key ∷ others → is_some (source scores_in empty (look world key.1)) ≡ true
    → is_some (zsets_at world others) ≡ is_some (zsets_at world list)
source_passes world list others key is there =
    sym (ap (λ (l : List Scored). is_some (zsets_at world l)) is ∙ both (source scores_in empty (look world key.1)) (zsets_at world others) ∙ ap (λ b. b && is_some (zsets_at world others)) there)

pub other_stops : (world : World) (list others : List Scored) (key : Scored) → list ≡ key ∷ others → is_some (source scores_in empty (look world key.1)) ≡ false → is_some (zsets_at world list) ≡ false
other_stops world list others key is none =
    ap (λ (l : List Scored). is_some (zsets_at world l)) is ∙ both (source scores_in empty (look world key.1)) (zsets_at world others) ∙ ap (λ b. b && is_some (zsets_at world others)) none

-- ---- one key after the other

module _ (world : World) (join : ScoreJoin) (how : Aggregate) where
  pub one_key_more : (list others : List Scored) (key : Scored) (old new : Scores) (q : List ℕ) → list ≡ key ∷ others
      → get new q ≡ met_with join how (get old q) (weighted key.0 (get (scores_at world key.1) q))
      → met_each join how (get new q) (weights_of others) (scores_here world others) q ≡ met_each join how (get old q) (weights_of list) (scores_here world list) q
  one_key_more list others key old new q is h =
      ap (λ (o : Option ℤ). met_each join how o (weights_of others) (scores_here world others) q) h
      ∙ ap (λ (l : List Scored). met_each join how (get old q) (weights_of l) (scores_here world l) q) (sym is)

  pub no_key_more : (list : List Scored) (all : Scores) (q : List ℕ) → list ≡ [] → get all q ≡ met_each join how (get all q) (weights_of list) (scores_here world list) q
  no_key_more list all q none = sym (ap (λ (l : List Scored). met_each join how (get all q) (weights_of l) (scores_here world l) q) none)

module _ (world : World) (how : Aggregate) (q : List ℕ) where
  union_each : (keys : List Scored) (before : Option ℤ) → met_each Union how before (weights_of keys) (scores_here world keys) q ≡ score_from how before (weights_of keys) (scores_here world keys) q
  union_each [] before = refl
  union_each (key ∷ keys) before = union_each keys (score_with how before (weighted key.0 (get (scores_at world key.1) q)))

  none_with : (o : Option ℤ) → met_with Inter how None o ≡ None
  none_with None = refl
  none_with (Some v) = refl

  none_each : (keys : List Scored) → met_each Inter how None (weights_of keys) (scores_here world keys) q ≡ None
  none_each [] = refl
  none_each (key ∷ keys) =
      ap (λ (o : Option ℤ). met_each Inter how o (weights_of keys) (scores_here world keys) q) (none_with (weighted key.0 (get (scores_at world key.1) q))) ∙ none_each keys

  inter_each : (keys : List Scored) (before : ℤ) → met_each Inter how (Some before) (weights_of keys) (scores_here world keys) q ≡
      (if have_all (scores_here world keys) q then score_from how (Some before) (weights_of keys) (scores_here world keys) q else None)
  inter_each [] before = refl
  inter_each (key ∷ keys) before =
      let own = scores_here world keys in
      elim (get (scores_at world key.1) q) as
      (λ o. met_each Inter how (met_with Inter how (Some before) (weighted key.0 o)) (weights_of keys) own q ≡
      (if is_some o && have_all own q then score_from how (score_with how (Some before) (weighted key.0 o)) (weights_of keys) own q else None)) [
        | None ↦ none_each keys
        | Some v ↦ inter_each keys (aggregated how before (key.0 *ℤ v))
      ]

  joined : (join : ScoreJoin) (first : Scored) (others : List Scored)
      → met_each join how (score_with how None (weighted first.0 (get (scores_at world first.1) q))) (weights_of others) (scores_here world others) q
      ≡ joined_score join how (weights_of (first ∷ others)) (scores_here world (first ∷ others)) q
  joined Union first others = union_each others (score_with how None (weighted first.0 (get (scores_at world first.1) q)))
  joined Inter first others =
      let own = scores_here world others in
      elim (get (scores_at world first.1) q) as
      (λ o. met_each Inter how (score_with how None (weighted first.0 o)) (weights_of others) own q ≡
      (if is_some o && have_all own q then score_from how (score_with how None (weighted first.0 o)) (weights_of others) own q else None)) [
        | None ↦ none_each others
        | Some v ↦ inter_each others (first.0 *ℤ v)
      ]

  none_joined : (join : ScoreJoin) → None ≡ joined_score join how [] [] q
  none_joined Union = refl
  none_joined Inter = refl

pub no_join : (world : World) (join : ScoreJoin) (how : Aggregate) (keys : List Scored) (all : Scores) → length keys ≡ 0 → all ≡ empty → IsJoin join how (weights_of keys) (scores_here world keys) all
no_join world join how [] all none is q = ap (λ (s : Scores). get s q) is ∙ get-empty (slice_cmp nat_cmp) q ∙ none_joined world how q join
no_join world join how (key ∷ keys) all none is q = absurd (omega (arith, none))

pub some_join : (world : World) (join : ScoreJoin) (how : Aggregate) (keys others : List Scored) (first : Scored) (start mid all : Scores) → keys ≡ first ∷ others → start ≡ empty
    → ((q : List ℕ) → get mid q ≡ met_with Union how (get start q) (weighted first.0 (get (scores_at world first.1) q)))
    → ((q : List ℕ) → get all q ≡ met_each join how (get mid q) (weights_of others) (scores_here world others) q)
    → IsJoin join how (weights_of keys) (scores_here world keys) all
some_join world join how keys others first start mid all is none one rest q =
    let own = weighted first.0 (get (scores_at world first.1) q) in
    rest q
    ∙ ap (λ (o : Option ℤ). met_each join how o (weights_of others) (scores_here world others) q)
    (one q ∙ ap (λ (o : Option ℤ). score_with how o own) (ap (λ (s : Scores). get s q) none ∙ get-empty (slice_cmp nat_cmp) q))
    ∙ joined world how q join first others
    ∙ ap (λ (l : List Scored). joined_score join how (weights_of l) (scores_here world l) q) (sym is)

-- ---- what is answered

none_of : {A : Type 0} (o : Option A) → is_some o ≡ false → o ≡ None
none_of None h = refl
none_of (Some x) h = cc

module _ (seed : ℕ) (old : World) (join : ScoreJoin) (how : Aggregate) (to : List ℕ) (keys : List Scored) where
  pub stored_refused : {E : Type 0} (result : Result (List Part) E) → is_some (zsets_at old keys) ≡ false → IfOk result (λ reply. reply ≡ Refused WrongType ∷ [])
      → IfOk result (λ reply. may_zsets seed old (zsets.ZJoinStore join to keys how) reply old)
  stored_refused (Ok reply) other is = subst (λ (o : Option (List Scores)). may_do_of old o (StoresScores old to join how (weights_of keys)) reply old)
      (sym (none_of (zsets_at old keys) other)) (is, refl)
  stored_refused (Err x) other is = tt

  pub stored_told : {E : Type 0} (new : World) (n : ℕ) (scores : Scores) (result : Result (List Part) E) → is_some (zsets_at old keys) ≡ true
      → IsJoin join how (weights_of keys) (scores_here old keys) scores → are_scores (entries scores) ≡ true
      → n ≡ len scores → new ≡ store_zset old to scores → IfOk result (λ reply. reply ≡ Number (pos n) ∷ []) → IfOk result (λ reply. may_zsets seed old (zsets.ZJoinStore join to keys how) reply new)
  stored_told new n scores (Ok reply) there is range counted world told =
      let outcome : store_scores old to scores ≡ tells_number (pos (len scores)) (store_zset old to scores) = cond-true _ _ _ range in
      subst (λ (o : Option (List Scores)). may_do_of old o (StoresScores old to join how (weights_of keys)) reply new) (sym (sources_are old keys there))
      (scores, is, subst (λ (o : Outcome). IsOutcome o reply new) (sym outcome) (told ∙ ap (λ k. Number (pos k) ∷ []) counted, world))
  stored_told new n scores (Err x) there is range counted world told = tt

  pub stored_out : {E : Type 0} (scores : Scores) (result : Result (List Part) E) → is_some (zsets_at old keys) ≡ true → IsJoin join how (weights_of keys) (scores_here old keys) scores
      → are_scores (entries scores) ≡ false
      → IfOk result (λ reply. reply ≡ Refused NotAWholeScore ∷ []) → IfOk result (λ reply. may_zsets seed old (zsets.ZJoinStore join to keys how) reply old)
  stored_out scores (Ok reply) there is range told =
      let outcome : store_scores old to scores ≡ refused NotAWholeScore old = cond-false _ _ _ range in
      subst (λ (o : Option (List Scores)). may_do_of old o (StoresScores old to join how (weights_of keys)) reply old) (sym (sources_are old keys there))
      (scores, is, subst (λ (o : Outcome). IsOutcome o reply old) (sym outcome) (told, refl))
  stored_out scores (Err x) there is range told = tt

module _ (old : World) (join : ScoreJoin) (how : Aggregate) (keys : List Scored) where
  -- a sorted set that has just the scores of a join is encoded as one
  pub stored_form : (scores : Scores) (bases : Bases) (value : kinds.Value) → is_some (zsets_at old keys) ≡ true → IsJoin join how (weights_of keys) (scores_here old keys) scores
      → forms.IsNewZset (get scores) bases value
      → forms.IsNewZset (joined_score join how (weights_of keys) (or_no_sources (zsets_at old keys))) bases value
  stored_form scores bases value there is n = record {
    scores = n.scores;
    form = n.form;
    all = λ q. n.all q ∙ is q ∙ ap (λ (o : Option (List Scores)). joined_score join how (weights_of keys) (or_no_sources o) q) (sym (sources_are old keys there));
    is = n.is;
    least = n.least;
  }
