-- A member that moves from one set to another.
use Rattle.std.proofs.Common.{◌≡◌, inl, inr, ℕ, Bool, true, false, List, [], ◌∷◌, Option, None, Some, refl, sym, ap, subst, ◌∙◌, arith}
use Rattle.std.specs.Prelude.{◌==◌, ◌<◌, ◌&&◌, not, unwrap_or, pos, bytes_eq, is_some, IfSome, IfNone, if◌then◌else◌}
use Rattle.std.specs.FinMap.{empty, len, insert}
use Rattle.std.specs.FinMap as finite
use Rattle.std.proofs.lemmas.Bool.{cond-true, cond-false, cases_Bool}
use Rattle.std.proofs.lemmas.Slice.Eq.{bytes_eq-Decides}
use Rattle.blocks.specs.declared.BlockRef.{BlockRef}
use Rattle.blocks.specs.Blocks.{Blocks, bytes_at, times, ref_eq}
use Rattle.blocks.proofs.Change.{one_if}
use Rattle.blocks.proofs.Refs.{ref_eq_refl}
use Rattle.object_codec.specs.declared.form.Form.{Form}
use Rattle.object_codec.specs.declared.limits.Limits.{Limits}
use Rattle.set_object.specs.Strings.{FitsMembers}
use Rattle.plain_world.specs.Worlds.{World, Entry, SetOf, look, deadline_of}
use Rattle.plain_world.specs.declared.refusal.Refusal.TheVariants.{WrongType}
use Rattle.plain_model.specs.Outcomes.{Outcome, refused}
use Rattle.plain_model.specs.OfType.{set_in, of_type, on_type}
use Rattle.plain_model.specs.ListSteps.{tells_number}
use Rattle.plain_model.specs.SetSteps.{Members, on_set, or_no_members, keep_set, has, move_to, move_from, set_outcome}
use Rattle.plain_model.specs.declared.ctx.Ctx.{Ctx}
use Rattle.plain_model.specs.declared.set_command.SetCommand.TheVariants as sets
use Rattle.held.specs.declared.seeking.SoughtAt.{SoughtAt}
use Rattle.held.specs.Calls.{HasValue, AllAt, StandsAt, HasUntil}
use Rattle.held.proofs.Timing.{some_none}
use Rattle.held.proofs.Written.{written_then}
use Rattle.keyspace.specs.declared.value.Value.{Value}
use Rattle.keyspace.specs.Values.{value_refs}
use Rattle.keyspace.specs.Databases.{Bases, Keyspace}
use Rattle.keyspace.specs.Scopes.{one_key, two_keys, Within}
use Rattle.keyspace.specs.Seeking.{Sees}
use Rattle.keyspace.specs.Forms.{Unwritten, AsAt, Either, HasForm, Formed, ArePlaced, placed_between, RisesWith, IsSourceForm, set_of, set_at, set_with, set_passed, set_form, is_moved}
use Rattle.keyspace.specs.Commands.{KeepsTo, seen, visible}
use Rattle.keyspace.proofs.Forming.{stayed_at, placed_two}
use Rattle.keyspace.proofs.Running.{held_then, held_in_wider}
use Rattle.keyspace.proofs.Absent.{look_put_other, look_remove_other}
use Rattle.cmd_sets.specs.Found.{FoundOther}
use Rattle.cmd_sets.specs.Changed.{HasSet, IsBefore, IsSetThere}
use Rattle.cmd_sets.specs.Edited.{Adds, Drops}
use Rattle.cmd_sets.specs.Moves.{IsMove}
use Rattle.cmd_sets.proofs.Telling.{on_before, before_is, set_before}

-- ---- what is to be done

-- where the set of the member stands, and what stands at the other key
from_there : (old : World) (from to member : List ℕ) (set : Members) → HasSet old from set → set_outcome old (sets.SMove from to member) ≡ on_set old to (move_to old from to member set)
from_there old from to member set stands = on_before old from (Some set) (move_from old from to member) stands

both_there : (old : World) (from to member : List ℕ) (set : Members) (target : Option Members) → HasSet old from set → IsBefore old to target
    → set_outcome old (sets.SMove from to member) ≡ move_to old from to member set target
both_there old from to member set target stands other = from_there old from to member set stands ∙ on_before old to target (move_to old from to member set) other

-- no set stands there
pub none_moves : (old : World) (from to member : List ℕ) → look old from ≡ None → set_outcome old (sets.SMove from to member) ≡ tells_number (pos 0) old
none_moves old from to member none = on_before old from None (move_from old from to member) none

refuses : (old : World) (key : List ℕ) (answer : Option Members → Outcome) → FoundOther old key → on_set old key answer ≡ refused WrongType old
refuses old key answer found = ap (λ (o : Option Entry). on_type set_in old o answer) found.stands ∙ ap (λ (o : Option Members). of_type old o answer) found.other

pub from_refuses : (old : World) (from to member : List ℕ) → FoundOther old from → set_outcome old (sets.SMove from to member) ≡ refused WrongType old
from_refuses old from to member found = refuses old from (move_from old from to member) found

pub to_refuses : (old : World) (from to member : List ℕ) (set : Members) → HasSet old from set → FoundOther old to → set_outcome old (sets.SMove from to member) ≡ refused WrongType old
to_refuses old from to member set stands found = from_there old from to member set stands ∙ refuses old to (move_to old from to member set) found

-- the member isn't there
pub lacks_moves : (old : World) (from to member : List ℕ) (set : Members) (target : Option Members) → HasSet old from set → IsBefore old to target → has set member ≡ false
    → set_outcome old (sets.SMove from to member) ≡ tells_number (pos 0) old
lacks_moves old from to member set target stands other lacks = both_there old from to member set target stands other ∙ cond-false _ _ _ lacks

-- both are one set
pub same_moves : (old : World) (from to member : List ℕ) (set : Members) (target : Option Members) → HasSet old from set → IsBefore old to target → has set member ≡ true
    → bytes_eq from to ≡ true → set_outcome old (sets.SMove from to member) ≡ tells_number (pos 1) old
same_moves old from to member set target stands other there same = both_there old from to member set target stands other ∙ cond-true _ _ _ there ∙ cond-true _ _ _ same

-- the member goes
pub goes_moves : (old : World) (from to member : List ℕ) (move : IsMove old from to member)
    → set_outcome old (sets.SMove from to member) ≡ tells_number (pos 1)
    (keep_set (keep_set old from (finite.remove move.members member)) to (insert (or_no_members move.before) member tt))
goes_moves old from to member move = both_there old from to member move.members move.before move.stands move.target ∙ cond-true _ _ _ move.there ∙ cond-false _ _ _ move.apart

-- ---- the other key

pub differ : (from to : List ℕ) → bytes_eq from to ≡ false → to ≡ from → ⊥
differ from to apart same = let both : true ≡ false = sym ((bytes_eq-Decides from to).1 (sym same)) ∙ apart in cc

pub look_kept : (old new : World) (from to : List ℕ) (set : Members) → (to ≡ from → ⊥) → new ≡ keep_set old from set → look new to ≡ look old to
look_kept old new from to set apart is = ap (λ (w : World). look w to) is ∙ elim (cases_Bool (len set == 0)) [
  | inl none ↦ ap (λ (w : World). look w to) (cond-true _ _ _ none) ∙ look_remove_other old from to apart
  | inr some ↦ ap (λ (w : World). look w to) (cond-false _ _ _ some) ∙ look_put_other old from to (record { value = SetOf set; deadline = deadline_of (look old from) }) apart
]

pub before_stays : (old new : World) (key : List ℕ) (before : Option Members) → look new key ≡ look old key → IsBefore old key before → IsBefore new key before
before_stays old new key None same is = same ∙ is
before_stays old new key (Some set) same is = record { deadline = is.deadline; stands = same ∙ is.stands }

pub one_before : (world : World) (key : List ℕ) (a b : Option Members) → IsBefore world key a → IsBefore world key b → a ≡ b
one_before world key None None p q = refl
one_before world key None (Some set) p q = some_none _ _ q.stands p
one_before world key (Some set) None p q = some_none _ _ p.stands q
one_before world key (Some set) (Some other) p q = before_is world key (Some set) other p q

-- the item number of a set that was sought
found_item : (bases : Bases) (m : Blocks) (at : Ctx) (key : List ℕ) (deadline : Option ℕ) (before : Option Members) → IsBefore (seen at bases m) key before → (o : Option ℕ)
    → IfSome o (λ item. StandsAt bases m at.db key at.moment item) → IfSome o (λ item. HasUntil (seen at bases m) key deadline) → IfNone o (look (seen at bases m) key ≡ None)
    → IsSetThere (seen at bases m) bases m at.db key at.moment o
found_item bases m at key deadline before is None there until gone = gone
found_item bases m at key deadline None is (Some item) there until gone = some_none _ _ until.stands is
found_item bases m at key deadline (Some set) is (Some item) there until gone = record { there = there; members = set; has = is }

pub sought_item : {S : Type 0} (blocks : S → Blocks) (keyspace : Keyspace S) (at : Ctx) (key : List ℕ) (found : SoughtAt) (before : Option Members) → Sees blocks keyspace at key found
    → IsBefore (visible blocks keyspace at) key before → IsSetThere (visible blocks keyspace at) keyspace.bases (blocks keyspace.store) at.db key at.moment found.there
sought_item blocks keyspace at key found before sees is = found_item keyspace.bases (blocks keyspace.store) at key found.deadline before is found.there sees.there sees.until sees.gone

-- the one set without the member, and the other one with it
pub moved_is : (limits : Limits) (old mid new : World) (from to member : List ℕ) (move : IsMove old from to member) (word : List ℕ) → word ≡ member
    → (before : Option Members) (source form : Form) (many : ℕ) (now : Members) → IsBefore old from before → Drops (word ∷ []) many (or_no_members before) source now form → mid ≡ keep_set old from now
    → (target : Option Members) (other_source other_form : Form) (more : ℕ) (other : Members) → IsBefore mid to target
    → Adds limits (word ∷ []) more (or_no_members target) other_source other other_form → new ≡ keep_set mid to other
    → set_outcome old (sets.SMove from to member) ≡ tells_number (pos 1) new
moved_is limits old mid new from to member move word same before source form many now stands p first target other_source other_form more other met q second =
    let left : now ≡ finite.remove move.members member =
    p.is ∙ ap (λ (b : Option Members). finite.remove (or_no_members b) word) (before_is old from before move.members stands move.stands) ∙ ap (finite.remove move.members) same in
    let stays = before_stays old mid to move.before (look_kept old mid from to now (differ from to move.apart) first) move.target in
    let full : other ≡ insert (or_no_members move.before) member tt =
    q.is ∙ ap (λ (b : Option Members). insert (or_no_members b) word tt) (one_before mid to target move.before met stays) ∙ ap (λ (w : List ℕ). insert (or_no_members move.before) w tt) same in
    let world : new ≡ keep_set (keep_set old from (finite.remove move.members member)) to (insert (or_no_members move.before) member tt) =
    second ∙ ap (keep_set mid to) full ∙ ap (λ (w : World). keep_set w to (insert (or_no_members move.before) member tt)) (first ∙ ap (keep_set old from) left) in
    goes_moves old from to member move ∙ ap (tells_number (pos 1)) (sym world)

-- ---- one set after the other

module _ {S : Type 0} (blocks : S → Blocks) (step : S → S → Type 0) (db : ℕ) (from to : List ℕ) where
  pub held_from : (old new : Keyspace S) → KeepsTo blocks step (one_key db from) old new → KeepsTo blocks step (two_keys db from db to) old new
  held_from old new p =
      held_in_wider blocks step (one_key db from) (two_keys db from db to) old new (λ number here. inl here) (λ number key named. inl named) (λ number no. no) p

  held_to : (old new : Keyspace S) → KeepsTo blocks step (one_key db to) old new → KeepsTo blocks step (two_keys db from db to) old new
  held_to old new p =
      held_in_wider blocks step (one_key db to) (two_keys db from db to) old new (λ number here. inr here) (λ number key named. inr named) (λ number no. no) p

  pub held_both : (old mid new : Keyspace S) → KeepsTo blocks step (one_key db from) old mid → KeepsTo blocks step (one_key db to) mid new → KeepsTo blocks step (two_keys db from db to) old new
  held_both old mid new p q = held_then blocks step (two_keys db from db to) old mid new (held_from old mid p) (held_to mid new q)

-- the bytes of a block that is live
bytes_are : (m : Blocks) (r : BlockRef) (key : List ℕ) → m r ≡ Some key → bytes_at m r ≡ key
bytes_are m r key is = ap (λ (o : Option (List ℕ)). unwrap_or o []) is

among_own : (r : BlockRef) (rest : List BlockRef) → 0 < times r (r ∷ rest)
among_own r rest = let itself : one_if (ref_eq r r) ≡ 1 = cond-true _ _ _ (ref_eq_refl r) in omega (arith, itself)

-- a value that stands at another key than the written one stood there before
had_before : (old mid : Bases) (m after : Blocks) (db : ℕ) (from to : List ℕ) (value : Value) → (to ≡ from → ⊥) → Within (one_key db from) old mid m after → HasValue mid after db to value
    → HasValue old m db to value
had_before old mid m after db from to value apart within has =
    let bytes = has.bytes in
    let stayed = within.stayed db has.at has.element has.found (λ named. apart (sym (bytes_are after has.element.key to bytes) ∙ named.1)) in
    record { at = has.at; element = has.element; found = stayed.stood; bytes = sym (stayed.bytes has.element.key (among_own has.element.key (value_refs m has.element.value))) ∙ bytes; is = has.is }

source_before : (there : Bool) (limits : Limits) (old mid : Bases) (m after : Blocks) (db : ℕ) (from to : List ℕ) (form : Form) → (to ≡ from → ⊥) → Within (one_key db from) old mid m after
    → IsSourceForm there (FitsMembers limits empty) mid after db to form → IsSourceForm there (FitsMembers limits empty) old m db to form
source_before true limits old mid m after db from to form apart within is = (is.0, had_before old mid m after db from to is.0 apart within is.1, is.2)
source_before false limits old mid m after db from to form apart within is = is

module _ {S : Type 0} (blocks : S → Blocks) (step : S → S → Type 0) (old mid new : Keyspace S) (at : Ctx) (from to member : List ℕ) (p : KeepsTo blocks step (one_key at.db from) old mid)
    (q : KeepsTo blocks step (one_key at.db to) mid new)
    (apart : to ≡ from → ⊥) (same : look (visible blocks mid at) to ≡ look (visible blocks old at) to) where
  -- what rose over the databases between rose over those before
  risen_before : (value : Value) → HasForm (set_with at.db (visible blocks mid at) to (member ∷ [])) mid.bases (blocks mid.store) value
      → HasForm (set_with at.db (visible blocks old at) to (member ∷ [])) old.bases (blocks old.store) value
  risen_before value risen = record {
    from = risen.from;
    form = risen.form;
    at = source_before (is_some (look (visible blocks old at) to)) old.bases.limits old.bases mid.bases (blocks old.store) (blocks mid.store) at.db from to risen.from apart p.within
        (subst (λ (l : Limits). IsSourceForm (is_some (look (visible blocks old at) to)) (FitsMembers l empty) mid.bases (blocks mid.store) at.db to risen.from) p.settings.limits
        (subst (λ (o : Option Entry). IsSourceForm (is_some o) (FitsMembers mid.bases.limits empty) mid.bases (blocks mid.store) at.db to risen.from) same risen.at));
    is = risen.is;
    risen = subst (λ (l : Limits). RisesWith l risen.from (set_at (visible blocks old at) to) (member ∷ []) risen.form) p.settings.limits
        (subst (λ (o : Option Entry). RisesWith mid.bases.limits risen.from (set_of o) (member ∷ []) risen.form) same risen.risen);
  }

  pub formed_both : Formed blocks (AsAt at.db from) old mid → Formed blocks (set_with at.db (visible blocks mid at) to (member ∷ [])) mid new
      → Formed blocks (set_passed at.db (visible blocks old at) from to member) old new
  formed_both first second =
      written_then value_refs (HasForm (Either (AsAt at.db from) (set_with at.db (visible blocks old at) to (member ∷ []))) old.bases (blocks old.store)) old.bases mid.bases new.bases
      (blocks old.store) (blocks mid.store) (blocks new.store)
      (λ number i e found. elim (first number i e found) [ inl stayed ↦ inl stayed | inr is ↦ inr (inl is) ])
      (λ number i e found. elim (second number i e found) [ inl stayed ↦ inl stayed | inr is ↦ inr (inr (risen_before e.value is)) ])

  -- each key has its own form
  pub placed_both : bytes_eq from to ≡ false → AllAt (HasForm (AsAt at.db from) old.bases (blocks old.store)) mid.bases (blocks mid.store) at.db from
      → AllAt (HasForm (set_with at.db (visible blocks mid at) to (member ∷ [])) mid.bases (blocks mid.store)) new.bases (blocks new.store) at.db to
      → ArePlaced (placed_between at.db from to (set_passed at.db (visible blocks old at) from to member)) old.bases new.bases (blocks old.store) (blocks new.store)
  placed_both other first second =
      placed_two at.db from to (AsAt at.db from) (set_with at.db (visible blocks old at) to (member ∷ [])) old.bases new.bases (blocks old.store) (blocks new.store) other (
        stayed_at (HasForm (AsAt at.db from) old.bases (blocks old.store)) (one_key at.db to) at.db from (λ named. apart (sym named.1)) mid.bases new.bases (blocks mid.store)
            (blocks new.store) q.within first,
        (λ number e found bytes. risen_before e.value (second number e found bytes), tt),
      )

-- ---- whether a member moves

-- one that isn't there stays
pub lacks_stays : (world : World) (from to member : List ℕ) → has (set_at world from) member ≡ false → is_moved world from to member ≡ false
lacks_stays world from to member lacks = ap (λ (b : Bool). b && not (bytes_eq from to)) lacks

and_not : (b : Bool) → (b && not true) ≡ false
and_not true = refl
and_not false = refl

-- and so does one of which both keys are one
pub same_stays : (world : World) (from to member : List ℕ) → bytes_eq from to ≡ true → is_moved world from to member ≡ false
same_stays world from to member same = ap (λ (b : Bool). has (set_at world from) member && not b) same ∙ and_not (has (set_at world from) member)

-- the rule by what is so
pub form_moved : (db : ℕ) (world : World) (from to member : List ℕ) → is_moved world from to member ≡ true
    → set_form db world (sets.SMove from to member) ≡ set_passed db world from to member
form_moved db world from to member is = ap (λ (b : Bool). if b then set_passed db world from to member else Unwritten) is

pub form_stays : (db : ℕ) (world : World) (from to member : List ℕ) → is_moved world from to member ≡ false → set_form db world (sets.SMove from to member) ≡ Unwritten
form_stays db world from to member is = ap (λ (b : Bool). if b then set_passed db world from to member else Unwritten) is

-- a member that is moved is in the first set, and the keys differ
pub moves_on : (world : World) (from to member : List ℕ) → IsMove world from to member → is_moved world from to member ≡ true
moves_on world from to member m =
    let there = ap (λ (s : Members). has s member) (set_before world from (Some m.members) m.stands) ∙ m.there in
    ap (λ b. b && not (bytes_eq from to)) there ∙ ap not m.apart
