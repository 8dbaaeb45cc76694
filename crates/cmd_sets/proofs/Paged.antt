-- What a page of a set tells.
use Rattle.std.proofs.Common.{◌≡◌, ◌<◌, ℕ, false, List, [], ◌∷◌, Option, None, Result, Ok, IfOk, refl, ap, subst, ◌∙◌}
use Rattle.std.specs.Global.{Box}
use Rattle.blocks.specs.Blocks.{Blocks}
use Rattle.set_object.specs.Scan as scan
use Rattle.set_object.specs.declared.members.Members as object
use Rattle.set_object.specs.Items as set_items
use Rattle.set_object.specs.Members.{members}
use Rattle.plain_world.specs.declared.reply.Part.{Part}
use Rattle.plain_world.specs.declared.refusal.Refusal.TheVariants.{WrongType}
use Rattle.plain_world.specs.declared.reply.Part.TheVariants.{Refused}
use Rattle.plain_world.specs.Worlds.{look}
use Rattle.plain_model.specs.OfType.{set_in}
use Rattle.plain_model.specs.SetSteps.{Members}
use Rattle.plain_model.specs.Coverage.{TellsPage}
use Rattle.plain_model.specs.Scans.{listed, paged, paged_as}
use Rattle.plain_model.specs.declared.ctx.Ctx.{Ctx}
use Rattle.plain_model.specs.declared.keys.ScanOptions.{ScanOptions}
use Rattle.plain_model.specs.Meant.{IsAsked}
use Rattle.plain_model.specs.declared.command.Command.TheVariants.{Sets}
use Rattle.plain_model.specs.declared.set_command.SetCommand.{SetCommand}
use Rattle.plain_model.specs.declared.set_command.SetCommand.TheVariants as sets
use Rattle.plain_model.proofs.Asked.{sets_fit}
use Rattle.keyspace.specs.declared.value.Value.{Value}
use Rattle.keyspace.specs.declared.value.Value.TheVariants as kinds
use Rattle.keyspace.specs.Calls.{Found}
use Rattle.keyspace.specs.Commands.{seen}
use Rattle.keyspace.specs.Databases.{Bases}
use Rattle.keyspace.specs.Pages.{IsPageOf}
use Rattle.keyspace.specs.Sound.{Sound}
use Rattle.keyspace.proofs.HeldPages.{listed_alone, Tells, tells_nothing, tells_other, tells_page}
use Rattle.cmd_sets.specs.Found.{FoundOther}

-- how a page is told
abbrev tells : Option Members → List (List ℕ) → List Part
tells before = listed

pub telling : (before : Option Members) (next : ℕ) (elements : List (List ℕ)) (reply : List Part) → reply ≡ paged_as next (tells before elements) → TellsPage false next elements reply
telling before next elements reply is = is

-- the words that tell of one
abbrev words : Blocks → object.Members → List ℕ → List (List ℕ)
words m b member = member ∷ []

module _ {E : Type 0} (bases : Bases) (m : Blocks) (at : Ctx) (key : List ℕ) (cursor : ℕ) (options : ScanOptions) (result : Result (List Part) E) where
  abbrev pub Told : List Part → Type 0
  Told reply = Tells set_in tells false telling bases m at key cursor options reply

  pub none_paged : look (seen at bases m) key ≡ None → IfOk result (λ reply. reply ≡ paged 0 []) → IfOk result Told
  none_paged none is = tells_nothing set_in tells false telling bases m at key cursor options result none refl is

  pub other_refused : FoundOther (seen at bases m) key → IfOk result (λ reply. reply ≡ Refused WrongType ∷ []) → IfOk result Told
  other_refused found is = tells_other set_in tells false telling bases m at key cursor options result found.entry found.stands found.other is

  here : (value : Value) (b : Box object.Members) → value ≡ kinds.Set b → Found bases m at.db key at.moment value → Found bases m at.db key at.moment (kinds.Set b)
  here value b is found = subst (λ (v : Value). Found bases m at.db key at.moment v) is found

  -- the page of a set
  abbrev PageOf : object.Members → List Part → Type 0
  PageOf own reply = IsPageOf (scan.CanStand own.body) (λ c. (scan.moved own.body c).0) (λ c. (scan.moved own.body c).1) (set_items.member_at m own) (words m own) cursor options reply

  pub set_paged : (value : Value) (b : Box object.Members) (own : object.Members) → value ≡ kinds.Set b → own ≡ b.value → Found bases m at.db key at.moment value → Sound bases m
      → IfOk result (PageOf own) → IfOk result Told
  set_paged value b own is same found sound page =
      tells_page set_in tells false telling bases m at key cursor options (kinds.Set b) (members m b.value) refl (here value b is found) sound (words m b.value)
      (λ next items elements s. listed_alone next elements)
      result (subst (λ (o : object.Members). IfOk result (PageOf o)) same page)

-- a request asks for a page of one element at least
pub asked_page : (command : SetCommand) (key : List ℕ) (cursor : ℕ) (options : ScanOptions) → IsAsked (Sets command) → command ≡ sets.SScan key cursor options → 0 < options.count
asked_page command key cursor options asked is = (sets_fit asked.words (sets.SScan key cursor options) (asked.means ∙ ap (λ c. Ok (Sets c)) is)).0
