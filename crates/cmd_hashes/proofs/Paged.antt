-- What a page of a hash tells.
use Rattle.std.proofs.Common.{◌≡◌, ◌<◌, ℕ, true, List, [], ◌∷◌, Option, None, Result, Ok, IfOk, refl, sym, ap, subst, ◌∙◌}
use Rattle.std.specs.Prelude.{unwrap_or}
use Rattle.std.specs.FinMap.{get}
use Rattle.std.specs.Global.{Box}
use Rattle.blocks.specs.Blocks.{Blocks}
use Rattle.hash_object.specs.Scan as scan
use Rattle.hash_object.specs.declared.fields.Fields as object
use Rattle.hash_object.specs.Fields.{fields}
use Rattle.hash_object.specs.Items.{pair_at}
use Rattle.hash_object.proofs.Depends.{fields_laws_hold}
use Rattle.plain_world.specs.declared.reply.Part.{Part}
use Rattle.plain_world.specs.declared.reply.Part.TheVariants.{Bulk}
use Rattle.plain_world.specs.declared.refusal.Refusal.TheVariants.{WrongType}
use Rattle.plain_world.specs.declared.reply.Part.TheVariants.{Refused}
use Rattle.plain_world.specs.Worlds.{look}
use Rattle.plain_model.specs.OfType.{hash_in}
use Rattle.plain_model.specs.HashSteps.{Fields, or_no_fields, value_or_null, pairs_listed}
use Rattle.plain_model.specs.Coverage.{TellsPage}
use Rattle.plain_model.specs.Scans.{paged, paged_as}
use Rattle.plain_model.specs.declared.ctx.Ctx.{Ctx}
use Rattle.plain_model.specs.declared.keys.ScanOptions.{ScanOptions}
use Rattle.plain_model.specs.Meant.{IsAsked}
use Rattle.plain_model.specs.declared.command.Command.TheVariants.{Hashes}
use Rattle.plain_model.specs.declared.hash_command.HashCommand.{HashCommand}
use Rattle.plain_model.specs.declared.hash_command.HashCommand.TheVariants as hashes
use Rattle.plain_model.proofs.Asked.{hashes_fit}
use Rattle.keyspace.specs.declared.value.Value.{Value}
use Rattle.keyspace.specs.declared.value.Value.TheVariants as kinds
use Rattle.keyspace.specs.Calls.{Found}
use Rattle.keyspace.specs.Commands.{seen}
use Rattle.keyspace.specs.Databases.{Bases}
use Rattle.keyspace.specs.Pages.{IsPageOf, field_of, PassesIn}
use Rattle.keyspace.specs.Sound.{Sound}
use Rattle.keyspace.proofs.HeldPages.{field_pair, listed_both, Tells, tells_nothing, tells_other, tells_page}
use Rattle.keyspace.proofs.Uses.{has_sound}
use Rattle.cmd_hashes.specs.Found.{FoundOther}

-- how a page is told
abbrev tells : Option Fields → List (List ℕ) → List Part
tells before = pairs_listed (or_no_fields before)

-- what is told of a field
abbrev told_of : Fields → List ℕ → Part
told_of fields field = value_or_null (get fields field)

pub telling : (before : Option Fields) (next : ℕ) (elements : List (List ℕ)) (reply : List Part) → reply ≡ paged_as next (tells before elements) → TellsPage true next elements reply
telling before next elements reply is = (told_of (or_no_fields before), is)

-- the words that tell of one
abbrev words : Blocks → object.Fields → List ℕ → List (List ℕ)
words m b field = field ∷ unwrap_or (get (fields m b) field) [] ∷ []

module _ {E : Type 0} (bases : Bases) (m : Blocks) (at : Ctx) (key : List ℕ) (cursor : ℕ) (options : ScanOptions) (result : Result (List Part) E) where
  abbrev pub Told : List Part → Type 0
  Told reply = Tells hash_in tells true telling bases m at key cursor options reply

  pub none_paged : look (seen at bases m) key ≡ None → IfOk result (λ reply. reply ≡ paged 0 []) → IfOk result Told
  none_paged none is = tells_nothing hash_in tells true telling bases m at key cursor options result none refl is

  pub other_refused : FoundOther (seen at bases m) key → IfOk result (λ reply. reply ≡ Refused WrongType ∷ []) → IfOk result Told
  other_refused found is = tells_other hash_in tells true telling bases m at key cursor options result found.entry found.stands found.other is

  here : (value : Value) (b : Box object.Fields) → value ≡ kinds.Hash b → Found bases m at.db key at.moment value → Found bases m at.db key at.moment (kinds.Hash b)
  here value b is found = subst (λ (v : Value). Found bases m at.db key at.moment v) is found

  -- the page of a hash
  abbrev PageOf : object.Fields → List Part → Type 0
  PageOf own reply = IsPageOf (scan.CanStand own.body) (λ c. (scan.moved own.body c).0) (λ c. (scan.moved own.body c).1) (λ i. field_of (pair_at m own i)) (words m own) cursor options reply

  pub hash_paged : (value : Value) (b : Box object.Fields) (own : object.Fields) → value ≡ kinds.Hash b → own ≡ b.value → Found bases m at.db key at.moment value → Sound bases m
      → IfOk result (PageOf own) → IfOk result Told
  hash_paged value b own is same found sound page =
      tells_page hash_in tells true telling bases m at key cursor options (kinds.Hash b) (fields m b.value) refl (here value b is found) sound (words m b.value)
      (listed_both (told_of (fields m b.value)) (λ field. unwrap_or (get (fields m b.value) field) []) (λ i field. PassesIn m (kinds.Hash b) options.pattern i field)
      (λ i field p.
      (let pair = field_pair (pair_at m b.value i) field p.stands in
      let got = (fields_laws_hold.arranged m b.value (has_sound bases m at.db key (kinds.Hash b) sound.arranged (here value b is found).has).0).pair i field pair.0 pair.1 in
      ap (λ (o : Option (List ℕ)). Bulk (unwrap_or o [])) got ∙ sym (ap value_or_null got))))
      result (subst (λ (o : object.Fields). IfOk result (PageOf o)) same page)

-- a request asks for a page of one element at least
pub asked_page : (command : HashCommand) (key : List ℕ) (cursor : ℕ) (options : ScanOptions) → IsAsked (Hashes command) → command ≡ hashes.HScan key cursor options → 0 < options.count
asked_page command key cursor options asked is = (hashes_fit asked.words (hashes.HScan key cursor options) (asked.means ∙ ap (λ c. Ok (Hashes c)) is)).0
