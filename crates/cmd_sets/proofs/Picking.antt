-- Members that were picked by chance.
use Rattle.std.proofs.Common.{◌≡◌, ℕ, ℤ, pos, ◌≤◌, Bool, true, false, List, [], ◌∷◌, length, Option, None, Some, is_some, Result, Ok, Err, IfOk, refl, sym, ap, ◌∙◌, subst, arith}
use Rattle.std.specs.Prelude.{unwrap_or}
use Rattle.std.specs.FinMap.{empty, len}
use Rattle.blocks.specs.Blocks.{Blocks}
use Rattle.object_codec.specs.declared.form.Form.{Form}
use Rattle.set_object.specs.declared.members.Members as object
use Rattle.set_object.specs.Members as object_of
use Rattle.set_object.specs.Items.{member_at}
use Rattle.set_object.proofs.Listed.{arranged}
use Rattle.picking.specs.Picks.{ArePicks, IsPick}
use Rattle.picking.specs.Elements.{elements_of, AreArranged}
use Rattle.picking.proofs.Elements.{are_picked}
use Rattle.plain_world.specs.Worlds.{World, Entry, look}
use Rattle.plain_world.specs.declared.refusal.Refusal.TheVariants.{WrongType}
use Rattle.plain_world.specs.declared.reply.Part.{Part}
use Rattle.plain_world.specs.declared.reply.Part.TheVariants.{Refused}
use Rattle.plain_world.specs.Picks.{ArePicked, picks_told, as_number}
use Rattle.plain_model.specs.Scans.{listed}
use Rattle.plain_model.specs.Outcomes.{IsRefusal}
use Rattle.plain_model.specs.OfType.{set_in, may_tell, may_tell_of, may_do}
use Rattle.plain_model.specs.SetSteps.{Members, has, or_no_members, keep_set, TellsMembers, PopsMembers, may_sets}
use Rattle.plain_model.specs.declared.set_command.SetCommand.TheVariants as sets
use Rattle.cmd_sets.specs.Found.{FoundSet, FoundOther}
use Rattle.cmd_sets.specs.Changed.{HasSet}
use Rattle.cmd_sets.specs.Picked.{Pops}

-- each member is that of one item number
pub set_arranged : (m : Blocks) (set : object.Members) → object_of.IsMembers m set → AreArranged (object_of.members m set) (λ at. member_at m set at)
set_arranged m set sound = let a = arranged m set sound in record { found = a.found; member = a.member; apart = a.apart }

-- item numbers that were picked are those of members that were picked
pub members_picked : (m : Blocks) (set : object.Members) → object_of.IsMembers m set → (n : Option ℤ) (items : List ℕ)
    → IsPick (λ blocks. object_of.IsMembers blocks set) (λ blocks at. is_some (member_at blocks set at) ≡ true) n items
    → ArePicked (has (object_of.members m set)) (len (object_of.members m set)) n (elements_of (λ at. member_at m set at) items)
members_picked m set sound n items p = are_picked (object_of.members m set) (λ at. member_at m set at) (set_arranged m set sound) (λ blocks. object_of.IsMembers blocks set)
    (λ blocks at. is_some (member_at blocks set at) ≡ true) m sound (λ at h. h) (λ at h. h) n items p

-- without a number one is picked at most
pub one_at_most : {is : List ℕ → Bool} {size : ℕ} (n : Option ℤ) (elements : List (List ℕ)) → ArePicked is size n elements → is_some n ≡ false → length elements ≤ 1
one_at_most None elements p none = let many = p.many in omega (arith, many)
one_at_most (Some n) elements p none = absurd cc

-- what was picked is told
pub picks_tell : {E : Type 0} (n : Option ℤ) (counted : Bool) (set : Members) (names elements : List (List ℕ)) → ArePicked (has set) (len set) n elements → names ≡ elements
    → counted ≡ is_some n → (result : Result (List Part) E)
    → IfOk result (λ reply. (k : Option ℤ) → is_some k ≡ counted → reply ≡ picks_told listed k names) → IfOk result (λ reply. TellsMembers n (Some set) reply)
picks_tell n counted set names elements p same counts (Ok reply) told = (elements, p, told n (sym counts) ∙ ap (picks_told listed n) same)
picks_tell n counted set names elements p same counts (Err x) told = tt

-- ---- what SRANDMEMBER may tell of what stands at a key

pub none_random : {E : Type 0} (seed : ℕ) (n : Option ℤ) (old : World) (key : List ℕ) (set : Members) (result : Result (List Part) E) → look old key ≡ None → set ≡ empty
    → IfOk result (λ reply. TellsMembers n (Some set) reply)
    → IfOk result (λ reply. may_sets seed old (sets.SRandMember key n) reply old)
none_random seed n old key set (Ok reply) none is told =
    let all : TellsMembers n None reply = subst (λ (s : Members). TellsMembers n (Some s) reply) is told in
    subst (λ (o : Option Entry). may_tell set_in old o (TellsMembers n) reply old) (sym none) (all, refl)
none_random seed n old key set (Err x) none is told = tt

pub set_random : {E : Type 0} (seed : ℕ) (n : Option ℤ) (old : World) (m : Blocks) (key : List ℕ) (set : object.Members) (result : Result (List Part) E) → FoundSet old m key set
    → IfOk result (λ reply. TellsMembers n (Some (object_of.members m set)) reply)
    → IfOk result (λ reply. may_sets seed old (sets.SRandMember key n) reply old)
set_random seed n old m key set (Ok reply) found told = subst (λ (o : Option Entry). may_tell set_in old o (TellsMembers n) reply old) (sym found.stands) (told, refl)
set_random seed n old m key set (Err x) found told = tt

pub other_random : {E : Type 0} (seed : ℕ) (n : Option ℤ) (old : World) (key : List ℕ) (result : Result (List Part) E) → FoundOther old key → IfOk result (λ reply. reply ≡ Refused WrongType ∷ [])
    → IfOk result (λ reply. may_sets seed old (sets.SRandMember key n) reply old)
other_random seed n old key (Ok reply) found is =
    subst (λ (o : Option Entry). may_tell set_in old o (TellsMembers n) reply old) (sym found.stands)
    (subst (λ (o : Option Members). may_tell_of old o (TellsMembers n) reply old) (sym found.other) (is, refl))
other_random seed n old key (Err x) found is = tt

-- ---- members that are taken out

-- so many are picked as were asked for
pub as_many : (sound : Blocks → Type 0) (is : Blocks → ℕ → Type 0) (n : Option ℕ) (most : ℕ) (items : List ℕ) → most ≡ unwrap_or n 1 → ArePicks sound is most items
    → IsPick sound is (as_number n) items
as_many sound is None most items same p = subst (λ (k : ℕ). ArePicks sound is k items) same p
as_many sound is (Some n) most items same p = subst (λ (k : ℕ). ArePicks sound is k items) same p

number_given : (n : Option ℕ) → is_some (as_number n) ≡ is_some n
number_given None = refl
number_given (Some n) = refl

-- what was taken out is told and gone
pub popped_reply : {E : Type 0} (seed : ℕ) (n : Option ℕ) (counted : Bool) (old new : World) (key : List ℕ) (gone : List (List ℕ)) (set now : Members) (before : Option Members)
    (from form : Form) → HasSet old key set → before ≡ Some set
    → Pops (as_number n) gone (or_no_members before) from now form → new ≡ keep_set old key now → counted ≡ is_some n → (result : Result (List Part) E)
    → IfOk result (λ reply. (k : Option ℤ) → is_some k ≡ counted → reply ≡ picks_told listed k gone) → IfOk result (λ reply. may_sets seed old (sets.SPop key n) reply new)
popped_reply seed n counted old new key gone set now before from form stands there p world counts (Err x) told = tt
popped_reply seed n counted old new key gone set now before from form stands there p world counts (Ok reply) told =
    let q : Pops (as_number n) gone set from now form = subst (λ (b : Option Members). Pops (as_number n) gone (or_no_members b) from now form) there p in
    let does : PopsMembers old key n (Some set) reply new = (gone, q.picked, told (as_number n) (number_given n ∙ sym counts), world ∙ ap (keep_set old key) q.is) in
    subst (λ (o : Option Entry). may_do set_in old o (PopsMembers old key n) reply new) (sym stands.stands) does

-- which is no refusal
no_refusal : (counted : Bool) (gone : List (List ℕ)) (reply : List Part) → ((k : Option ℤ) → is_some k ≡ counted → reply ≡ picks_told listed k gone) → IsRefusal reply → ⊥
no_refusal true gone reply told refused = absurd (subst IsRefusal (told (Some (pos 0)) refl) refused)
no_refusal false [] reply told refused = absurd (subst IsRefusal (told None refl) refused)
no_refusal false (x ∷ gone) reply told refused = absurd (subst IsRefusal (told None refl) refused)

pub picks_calm : {E : Type 0} (counted : Bool) (gone : List (List ℕ)) (result : Result (List Part) E)
    → IfOk result (λ reply. (k : Option ℤ) → is_some k ≡ counted → reply ≡ picks_told listed k gone) → IfOk result (λ reply. IsRefusal reply → ⊥)
picks_calm counted gone (Ok reply) told = no_refusal counted gone reply told
picks_calm counted gone (Err x) told = tt
