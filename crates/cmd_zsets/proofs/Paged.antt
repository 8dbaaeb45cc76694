-- What a page of a sorted set tells.
use Rattle.std.proofs.Common.{◌≡◌, ◌<◌, ℕ, true, pos, List, [], ◌∷◌, Option, None, Result, Ok, IfOk, refl, sym, ap, subst, ◌∙◌}
use Rattle.std.specs.Prelude.{ℤ, unwrap_or}
use Rattle.std.specs.FinMap.{get}
use Rattle.std.specs.Global.{Box}
use Rattle.int_text.specs.Decimal.{canonical}
use Rattle.blocks.specs.Blocks.{Blocks}
use Rattle.zset_object.specs.Scan as scan
use Rattle.zset_object.specs.declared.scored.Scored as object
use Rattle.zset_object.specs.Scored.{scores}
use Rattle.zset_object.specs.Items.{pair_at}
use Rattle.zset_object.proofs.Depends.{scored_laws_hold}
use Rattle.plain_world.specs.declared.reply.Part.{Part}
use Rattle.plain_world.specs.declared.reply.Part.TheVariants.{Bulk}
use Rattle.plain_world.specs.declared.refusal.Refusal.TheVariants.{WrongType}
use Rattle.plain_world.specs.declared.reply.Part.TheVariants.{Refused}
use Rattle.plain_world.specs.Worlds.{look}
use Rattle.plain_model.specs.OfType.{zset_in}
use Rattle.plain_model.specs.ZsetSteps.{Scores, or_no_scores, score_or_null, scores_listed}
use Rattle.plain_model.specs.Coverage.{TellsPage}
use Rattle.plain_model.specs.Scans.{paged, paged_as}
use Rattle.plain_model.specs.declared.ctx.Ctx.{Ctx}
use Rattle.plain_model.specs.declared.keys.ScanOptions.{ScanOptions}
use Rattle.plain_model.specs.Meant.{IsAsked}
use Rattle.plain_model.specs.declared.command.Command.TheVariants.{Zsets}
use Rattle.plain_model.specs.declared.zset_command.ZsetCommand.{ZsetCommand}
use Rattle.plain_model.specs.declared.zset_command.ZsetCommand.TheVariants as zsets
use Rattle.plain_model.proofs.Asked.{zsets_fit}
use Rattle.keyspace.specs.declared.value.Value.{Value}
use Rattle.keyspace.specs.declared.value.Value.TheVariants as kinds
use Rattle.keyspace.specs.Calls.{Found}
use Rattle.keyspace.specs.Commands.{seen}
use Rattle.keyspace.specs.Databases.{Bases}
use Rattle.keyspace.specs.Pages.{IsPageOf, member_of, PassesIn}
use Rattle.keyspace.specs.Sound.{Sound}
use Rattle.keyspace.proofs.HeldPages.{member_pair, listed_both, Tells, tells_nothing, tells_other, tells_page}
use Rattle.keyspace.proofs.Uses.{has_sound}
use Rattle.cmd_zsets.specs.Found.{FoundOther}

-- how a page is told
abbrev tells : Option Scores → List (List ℕ) → List Part
tells before = scores_listed (or_no_scores before)

-- what is told of a member
abbrev told_of : Scores → List ℕ → Part
told_of scores member = score_or_null (get scores member)

pub telling : (before : Option Scores) (next : ℕ) (elements : List (List ℕ)) (reply : List Part) → reply ≡ paged_as next (tells before elements) → TellsPage true next elements reply
telling before next elements reply is = (told_of (or_no_scores before), is)

-- the words that tell of one
abbrev words : Blocks → object.Scored → List ℕ → List (List ℕ)
words m b member = member ∷ canonical (unwrap_or (get (scores m b) member) (pos 0)) ∷ []

module _ {E : Type 0} (bases : Bases) (m : Blocks) (at : Ctx) (key : List ℕ) (cursor : ℕ) (options : ScanOptions) (result : Result (List Part) E) where
  abbrev pub Told : List Part → Type 0
  Told reply = Tells zset_in tells true telling bases m at key cursor options reply

  pub none_paged : look (seen at bases m) key ≡ None → IfOk result (λ reply. reply ≡ paged 0 []) → IfOk result Told
  none_paged none is = tells_nothing zset_in tells true telling bases m at key cursor options result none refl is

  pub other_refused : FoundOther (seen at bases m) key → IfOk result (λ reply. reply ≡ Refused WrongType ∷ []) → IfOk result Told
  other_refused found is = tells_other zset_in tells true telling bases m at key cursor options result found.entry found.stands found.other is

  here : (value : Value) (b : Box object.Scored) → value ≡ kinds.Zset b → Found bases m at.db key at.moment value → Found bases m at.db key at.moment (kinds.Zset b)
  here value b is found = subst (λ (v : Value). Found bases m at.db key at.moment v) is found

  -- the page of a sorted set
  abbrev PageOf : object.Scored → List Part → Type 0
  PageOf own reply = IsPageOf (scan.CanStand own.body) (λ c. (scan.moved own.body c).0) (λ c. (scan.moved own.body c).1) (λ i. member_of (pair_at m own i)) (words m own) cursor options reply

  pub zset_paged : (value : Value) (b : Box object.Scored) (own : object.Scored) → value ≡ kinds.Zset b → own ≡ b.value → Found bases m at.db key at.moment value → Sound bases m
      → IfOk result (PageOf own) → IfOk result Told
  zset_paged value b own is same found sound page =
      tells_page zset_in tells true telling bases m at key cursor options (kinds.Zset b) (scores m b.value) refl (here value b is found) sound (words m b.value)
      (listed_both (told_of (scores m b.value)) (λ member. canonical (unwrap_or (get (scores m b.value) member) (pos 0))) (λ i member. PassesIn m (kinds.Zset b) options.pattern i member)
      (λ i member p.
      (let pair = member_pair (pair_at m b.value i) member p.stands in
      let got = (scored_laws_hold.arranged m b.value (has_sound bases m at.db key (kinds.Zset b) sound.arranged (here value b is found).has).0).pair i pair.0 member pair.1 in
      ap (λ (o : Option ℤ). Bulk (canonical (unwrap_or o (pos 0)))) got ∙ sym (ap score_or_null got))))
      result (subst (λ (o : object.Scored). IfOk result (PageOf o)) same page)

-- a request asks for a page of one element at least
pub asked_page : (command : ZsetCommand) (key : List ℕ) (cursor : ℕ) (options : ScanOptions) → IsAsked (Zsets command) → command ≡ zsets.ZScan key cursor options → 0 < options.count
asked_page command key cursor options asked is = (zsets_fit asked.words (zsets.ZScan key cursor options) (asked.means ∙ ap (λ c. Ok (Zsets c)) is)).0
