-- Commands on strings as steps of the model.
use Rattle.std.proofs.Common.{◌≡◌, ℕ, ◌<◌, ◌≤◌, refl, length-append, ◌+◌, ◌++◌, length, arith, List, [], ◌∷◌, Option, Some, None, Result, Ok, Err, IfOk, OnOk, sym, ap, subst, ◌∙◌}
use Rattle.blocks.specs.Blocks.{Blocks, Changes}
use Rattle.string_object.specs.declared.text.Text.{Text}
use Rattle.string_object.specs.Text.{text_bytes, text_refs}
use Rattle.plain_world.specs.Worlds.{World, Value, Str, Entry, look, put, remove, live, stand, deadline_of}
use Rattle.plain_world.specs.Parts.{following, AreReplies, IsReply}
use Rattle.plain_model.specs.Steps.{may}
use Rattle.plain_model.specs.declared.command.Command.{Command}
use Rattle.plain_model.specs.declared.command.Command.TheVariants.{Strings}
use Rattle.plain_model.specs.declared.command.StringCommand.{StringCommand}
use Rattle.plain_world.specs.declared.reply.Part.{Part}
use Rattle.plain_world.specs.declared.reply.Part.TheVariants.{Refused, Number, Bulk, Array, Null}
use Rattle.plain_model.specs.declared.command.Condition.{Condition}
use Rattle.std.specs.Prelude.{Bool}
use Rattle.plain_model.specs.StringSteps.{string_outcome, on_string, or_null, string_part, string_or_null, replace}
use Rattle.keyspace.proofs.Running.{outcome_is, unchanged, nothing_shown}
use Rattle.keyspace.specs.Shown.{Shows}
use Rattle.keyspace.specs.Forms.{Formed, FormedString, FormedBy, Place, string_form, string_places}
use Rattle.keyspace.proofs.Forming.{formed_ok, formed_scope, unformed, formed_both, nowhere_placed}
use Rattle.plain_model.specs.declared.ctx.Ctx.{Ctx}
use Rattle.keyspace.specs.declared.value.Value.TheVariants as values
use Rattle.keyspace.specs.Databases.{Bases, means}
use Rattle.keyspace.specs.Worlds.{without}
use Rattle.plain_model.specs.Outcomes.{leaves}
use Rattle.plain_model.specs.declared.command.StringCommand.TheVariants as strings
use Rattle.keyspace.specs.Sound.{Sound}
use Rattle.keyspace.specs.Databases.{Keyspace}
use Rattle.keyspace.specs.Scopes.{string_scope, scope_of}
use Rattle.keyspace.specs.Commands.{seen, visible, Ready, KeepsOrRefuses, Runs}
use Rattle.std.specs.Prelude.{ℤ, pos, max, nat_le, ◌==◌, true, false, if◌then◌else◌, FitsSigned}
use Rattle.std.specs.Int.{w64}
use Rattle.std.proofs.lemmas.Bool.{le-leb, ne_eqb}
use Rattle.int_text.specs.Decimal.{canonical, Reads}
use Rattle.plain_model.proofs.Asked.{meant_fits}
use Rattle.plain_model.specs.Meant.{IsAsked}
use Rattle.std.specs.Prelude.{is_some, IfSome}
use Rattle.held.specs.Calls.{StandsAt}
use Rattle.keyspace.specs.declared.value.Value as kinds
use Rattle.keyspace.specs.Calls.{Found}
use Rattle.int_text.proofs.NumberOf.{reads_number_of, fits_to, no_fit}
use Rattle.plain_model.specs.Outcomes.{Outcome, tells, refused}
use Rattle.plain_model.specs.StringSteps.{or_empty, append, set_range, change, written_over, plain, counted as count_to, count, count_on, number_at, set, set_outcome, set_for, allows, ok}
use Rattle.plain_world.specs.Words.{longest}
use Rattle.plain_world.specs.declared.refusal.Refusal.TheVariants.{ValueOutOfRange, Overflow, NotAnInteger, InvalidExpireTime}
use Rattle.int_text.specs.Decimal.{is_i64}
use Rattle.plain_model.specs.declared.times.Time.{Time}
use Rattle.plain_model.specs.Deadlines.{due, with_due, from_zero, lasts_until}
use Rattle.plain_model.specs.declared.times.TimeUnit.{TimeUnit}
use Rattle.plain_model.specs.declared.times.TimeOrigin.TheVariants.{Now}
use Rattle.cmd_values.proofs.Ranges.{written_length}
use Rattle.plain_world.proofs.Lives.{live_put_in_time, live_remove}
use Rattle.plain_world.proofs.Lives.{look_put, put_twice}
use Rattle.keyspace.proofs.Uses.{put_means_in_uses}
use Rattle.plain_model.specs.StringSteps.{with_string}
use Rattle.plain_world.specs.declared.refusal.Refusal.TheVariants.{WrongType}
use Rattle.keyspace.specs.Values.{value_of, IsText}
use Rattle.cmd_values.specs.Found.{GivesIn, Gives, FoundText, FoundOther, IsNoString, IsString, IsThere, Becomes, IsStringBefore, OldValue, HasNumber, IsSetReply, value_at, values_at}

-- what a command gives is a step of the model
pub step_of : {E : Type 0} (seed moment : ℕ) (old new : World) (command : Command) (own same : StringCommand) (result : Result (List Part) E)
    → command ≡ Strings own → own ≡ same → GivesIn moment old same new result → IfOk result (λ reply. may seed old moment command reply new)
step_of seed moment old new command own same (Ok reply) e f given =
    subst (λ c. may seed old moment c reply new) (sym (e ∙ ap Strings f)) (outcome_is (string_outcome moment old same) reply new given)
step_of seed moment old new command own same (Err x) e f given = tt

-- what is so of a reply follows from what else is so of it
pub given : {E : Type 0} {P Q : List Part → Type 0} (result : Result (List Part) E) → ((reply : List Part) → P reply → Q reply) → IfOk result P → IfOk result Q
given (Ok reply) f p = f reply p
given (Err x) f p = tt

-- a string that stands at a key
pub some_before : (world : World) (key bytes : List ℕ) (deadline : Option ℕ) → look world key ≡ Some (record { value = Str bytes; deadline = deadline }) → IsStringBefore world key (Some bytes)
some_before world key bytes deadline e = λ answer. ap (λ o. on_string world o answer) e

-- a value of another type is refused, whatever would be made of a string
with_other : (old : World) (value : Value) (answer : List ℕ → Outcome) → IsNoString value → with_string old value answer ≡ refused WrongType old
with_other old (Str bytes) answer is = absurd is
with_other old other answer is = refl

pub on_other : (old : World) (key : List ℕ) (answer : Option (List ℕ) → Outcome) → FoundOther old key → on_string old (look old key) answer ≡ refused WrongType old
on_other old key answer found = ap (λ o. on_string old o answer) found.stands ∙ with_other old found.entry.value (λ bytes. answer (Some bytes)) found.other

pub refused_other : {E : Type 0} (old : World) (key : List ℕ) (answer : Option (List ℕ) → Outcome) (result : Result (List Part) E) → FoundOther old key
    → IfOk result (λ reply. reply ≡ Refused WrongType ∷ []) → IfOk result (λ reply. on_string old (look old key) answer ≡ leaves reply old)
refused_other old key answer (Ok reply) found is = on_other old key answer found ∙ ap (λ r. leaves r old) (sym is)
refused_other old key answer (Err x) found is = tt

-- MGET answers null for it
null_for : (value : Value) → IsNoString value → string_part value ≡ Null
null_for (Str bytes) is = absurd is
null_for other is = refl

pub null_other : (old : World) (key : List ℕ) → FoundOther old key → Null ≡ value_at old key
null_other old key found = sym (ap string_or_null found.stands ∙ null_for found.entry.value found.other)

-- a value that is no string means none
pub other_found : (bases : Bases) (m : Blocks) (at : Ctx) (key : List ℕ) (value : kinds.Value) → (IsText value → ⊥) → Found bases m at.db key at.moment value → FoundOther (seen at bases m) key
other_found bases m at key value off found = record { entry = record { value = value_of m value; deadline = found.deadline }; stands = found.stands; other = none value off }
  where
    none : (value : kinds.Value) → (IsText value → ⊥) → IsNoString (value_of m value)
    none (kinds.TheVariants.Text text) off = absurd (off tt)
    none (kinds.TheVariants.List b) off = tt
    none (kinds.TheVariants.Set b) off = tt
    none (kinds.TheVariants.Hash b) off = tt
    none (kinds.TheVariants.Zset b) off = tt
    none (kinds.TheVariants.Stream b) off = tt

-- the old value as a reply
pub old_some : (world : World) (blocks : Blocks) (key : List ℕ) (text : Text) (bytes : List ℕ) (reply : List Part)
    → FoundText world blocks key text → bytes ≡ text_bytes blocks text → reply ≡ Bulk bytes ∷ [] → OldValue world key reply
old_some world blocks key text bytes reply found same is = record {
  before = Some (text_bytes blocks text);
  is = some_before world key (text_bytes blocks text) found.deadline found.stands;
  reply_is = is ∙ ap (λ b. Bulk b ∷ []) same;
}

pub old_none : (world : World) (key : List ℕ) (reply : List Part) → look world key ≡ None → reply ≡ Null ∷ [] → OldValue world key reply
old_none world key reply none is = record { before = None; is = λ answer. ap (λ o. on_string world o answer) none; reply_is = is }

-- the old value is the reply, and this world is left
pub old_value_then : (old new : World) (key : List ℕ) (reply : List Part) (left : World) → OldValue old key reply → new ≡ left
    → on_string old (look old key) (λ before. leaves (or_null before ∷ []) left) ≡ leaves reply new
old_value_then old new key reply left o is =
    o.is (λ before. leaves (or_null before ∷ []) left) ∙ ap (λ r. leaves r left) (sym o.reply_is) ∙ ap (leaves reply) (sym is)

-- a deadline that 64 bits with a sign hold
pub due_fits : (old : World) (moment : ℕ) (time : Time) (n : ℤ) (answer : ℤ → Outcome) → n ≡ due moment time → FitsSigned w64 n → with_due old moment time answer ≡ answer n
due_fits old moment time n answer is fits =
    ap (λ d. if is_i64 d then answer d else refused InvalidExpireTime old) (sym is)
    ∙ ap (λ b. if b then answer n else refused InvalidExpireTime old) (fits_to n fits)

-- a string is written that lasts until then
pub set_lasting : {E : Type 0} (old new : World) (moment : ℕ) (key value : List ℕ) (unit : TimeUnit) (n : ℤ) (d : ℤ) (deadline : ℕ) (line : Part) (result : Result (List Part) E)
    → d ≡ due moment (record { unit = unit; from = Now; n = n }) → FitsSigned w64 d → deadline ≡ from_zero d
    → new ≡ stand old moment key (record { value = Str value; deadline = Some deadline }) → line ≡ ok → IfOk result (λ reply. reply ≡ line ∷ [])
    → IfOk result (λ reply. set_for old moment key unit n value ≡ leaves reply new)
set_lasting old new moment key value unit n d deadline line (Ok reply) is fits from world same told =
    due_fits old moment (record { unit = unit; from = Now; n = n }) d (λ due. leaves (ok ∷ []) (stand old moment key (lasts_until (Str value) (from_zero due)))) is fits
    ∙ ap (λ t. leaves (ok ∷ []) (stand old moment key (lasts_until (Str value) t))) (sym from)
    ∙ ap (leaves (ok ∷ [])) (sym world) ∙ ap (λ r. leaves r new) (sym (told ∙ ap (λ x. x ∷ []) same))
set_lasting old new moment key value unit n d deadline line (Err x) is fits from world same told = tt

-- a string that was made is put at a key
pub replaced : {E : Type 0} (at : Ctx) (bases : Bases) (m after : Blocks) (text : Text) (sound : Sound bases m) (p : Changes m after [] (text_refs text)) (new : Bases) (later : Blocks)
    (key value : List ℕ) (deadline : Option ℕ)
    → text_bytes after text ≡ value → (result : Result (Unit {0}) E)
    → OnOk result (means at.db new later ≡ put (means at.db bases after) key (record { value = Str (text_bytes after text); deadline = deadline }))
    → OnOk result (seen at new later ≡ stand (seen at bases m) at.moment key (record { value = Str value; deadline = deadline }))
replaced at bases m after text sound p new later key value deadline is (Ok u) h =
    put_means_in_uses bases m after (values.Text text) sound p new later at.db at.moment key _ h
    ∙ ap (λ b. stand (seen at bases m) at.moment key (record { value = Str b; deadline = deadline })) is
replaced at bases m after text sound p new later key value deadline is (Err x) h = tt

-- no reply is due behind the string of a value, or the null for another type
none_in : (value : Value) (n : ℕ) → n + following (string_part value) ≡ n
none_in (Str bytes) n = omega arith
none_in other n = omega arith

-- no reply is due behind the string at a key, or the null where none stands
none_follows : (entry : Option Entry) (n : ℕ) → n + following (string_or_null entry) ≡ n
none_follows None n = omega arith
none_follows (Some entry) n = none_in entry.value n

-- an array's values are so many replies
pub values_are_replies : (world : World) (keys : List (List ℕ)) → AreReplies (length keys) (values_at world keys)
values_are_replies world [] = tt
values_are_replies world (key ∷ keys) = subst (λ n. AreReplies n (values_at world keys)) (sym (none_follows (look world key) (length keys))) (values_are_replies world keys)

-- the head of an array and the strings or nulls at its keys are one whole reply
values_are_one : (world : World) (keys : List (List ℕ)) → IsReply (Array (length keys) ∷ values_at world keys)
values_are_one world keys = let e : 0 + length keys ≡ length keys = omega arith in subst (λ n. AreReplies n (values_at world keys)) (sym e) (values_are_replies world keys)

-- a head and the values behind it are one reply
pub values_reply : (world : World) (keys : List (List ℕ)) (first mid new : List Part) → first ≡ [] → mid ≡ first ++ Array (length keys) ∷ [] → new ≡ mid ++ values_at world keys → IsReply new
values_reply world keys first mid new e f h =
    let P : List Part → Type 0 = IsReply in
    subst P (sym (h ∙ ap (λ l. l ++ values_at world keys) (f ∙ ap (λ l. l ++ Array (length keys) ∷ []) e))) (values_are_one world keys)

-- what stood at a key is answered, and removed
pub removed : (at : Ctx) (bases new : Bases) (m later : Blocks) (key : List ℕ) (reply : List Part)
    → OldValue (seen at bases m) key reply → means at.db new later ≡ without (means at.db bases m) key
    → string_outcome at.moment (seen at bases m) (strings.GetDel key) ≡ leaves reply (seen at new later)
removed at bases new m later key reply old h =
    let world : seen at new later ≡ remove (seen at bases m) key = ap (λ w. live w at.moment) h ∙ live_remove (means at.db bases m) at.moment key in
    old.is (λ before. leaves (or_null before ∷ []) (remove (seen at bases m) key))
    ∙ ap (λ r. leaves r (remove (seen at bases m) key)) (sym old.reply_is) ∙ ap (leaves reply) (sym world)

-- ---- APPEND and SETRANGE

-- where these bytes are the string at a key, whatever is made of the string there is made of them
there_before : (world : World) (key bytes : List ℕ) → IsThere world key bytes → IsStringBefore world key (Some bytes)
there_before world key bytes t = some_before world key bytes t.deadline t.stands

-- a string that is there is appended to
pub append_some : {E : Type 0} (moment : ℕ) (old new : World) (key tail bytes : List ℕ) (n : ℕ) (result : Result (List Part) E)
    → IsThere old key bytes → n ≡ length bytes + length tail → n ≤ 536870912 → Becomes old key (λ b. b ++ tail) new
    → IfOk result (λ reply. reply ≡ Number (pos n) ∷ []) → GivesIn moment old (strings.Append key tail) new result
append_some moment old new key tail bytes n (Ok reply) there long few becomes is =
    let len : length (bytes ++ tail) ≡ n = length-append bytes tail ∙ sym long in
    let fits : nat_le (length (bytes ++ tail)) longest ≡ true = le-leb (length (bytes ++ tail)) longest (omega arith) in
    there_before old key bytes there (append old key tail)
    ∙ ap (λ b. if b then leaves (Number (pos (length (bytes ++ tail))) ∷ []) (change old key (bytes ++ tail)) else refused ValueOutOfRange old) fits
    ∙ ap (λ k. leaves (Number (pos k) ∷ []) (change old key (bytes ++ tail))) len
    ∙ ap (λ r. leaves r (change old key (bytes ++ tail))) (sym is) ∙ ap (leaves reply) (sym (becomes bytes there))
append_some moment old new key tail bytes n (Err x) there long few becomes is = tt

-- a piece is written into the string that counts as being there
written_reply : {E : Type 0} (moment : ℕ) (old new : World) (key piece bytes : List ℕ) (at n : ℕ) (result : Result (List Part) E) (before : Option (List ℕ))
    → IsStringBefore old key before → or_empty before ≡ bytes → 0 < length piece → n ≡ max (length bytes) (at + length piece) → new ≡ change old key (written_over bytes at piece)
    → IfOk result (λ reply. reply ≡ Number (pos n) ∷ []) → GivesIn moment old (strings.SetRange key at piece) new result
written_reply moment old new key piece bytes at n (Ok reply) before was same some long becomes is =
    let none : (length piece == 0) ≡ false = ne_eqb (length piece) 0 (λ e. omega arith) in
    let outcome : List ℕ → Outcome = λ b. leaves (Number (pos (length (written_over b at piece))) ∷ []) (change old key (written_over b at piece)) in
    was (set_range old key at piece)
    ∙ ap (λ b. if b then tells (Number (pos (length (or_empty before))) ∷ []) old else outcome (or_empty before)) none
    ∙ ap outcome same
    ∙ ap (λ k. leaves (Number (pos k) ∷ []) (change old key (written_over bytes at piece))) (written_length bytes at piece ∙ sym long)
    ∙ ap (λ r. leaves r (change old key (written_over bytes at piece))) (sym is) ∙ ap (leaves reply) (sym becomes)
written_reply moment old new key piece bytes at n (Err x) before was same some long becomes is = tt

-- SETRANGE of a piece with a byte into the string that stands at a key answers the new length
pub range_some : {E : Type 0} (moment : ℕ) (old new : World) (key piece bytes : List ℕ) (at n : ℕ) (result : Result (List Part) E)
    → IsThere old key bytes → 0 < length piece → n ≡ max (length bytes) (at + length piece) → Becomes old key (λ b. written_over b at piece) new
    → IfOk result (λ reply. reply ≡ Number (pos n) ∷ []) → GivesIn moment old (strings.SetRange key at piece) new result
range_some moment old new key piece bytes at n result there some long becomes is =
    written_reply moment old new key piece bytes at n result (Some bytes) (there_before old key bytes there) refl some long (becomes bytes there) is

-- the empty string was put first
pub range_none : {E : Type 0} (moment : ℕ) (old mid new : World) (key piece : List ℕ) (at n : ℕ) (result : Result (List Part) E)
    → look old key ≡ None → mid ≡ replace old key [] → 0 < length piece → n ≡ at + length piece → Becomes mid key (λ b. written_over b at piece) new
    → IfOk result (λ reply. reply ≡ Number (pos n) ∷ []) → GivesIn moment old (strings.SetRange key at piece) new result
range_none moment old mid new key piece at n result none put_first some long becomes is =
    let empty : Entry = plain [] in
    let stands : look mid key ≡ Some empty = ap (λ w. look w key) put_first ∙ look_put old key empty in
    let written = written_over [] at piece in
    let world : new ≡ change old key written =
    becomes [] (record { deadline = None; stands = stands })
    ∙ ap (λ d. put mid key (record { value = Str written; deadline = d })) (ap deadline_of stands)
    ∙ ap (λ w. put w key (plain written)) put_first ∙ put_twice old key empty (plain written)
    ∙ ap (λ d. put old key (record { value = Str written; deadline = d })) (sym (ap deadline_of none)) in
    written_reply moment old new key piece [] at n result None (λ answer. ap (λ o. on_string old o answer) none) refl some (omega arith) world is

-- ---- numbers

-- a fact that holds anyway holds where a call succeeds
pub on_ok : {A E P : Type 0} (result : Result A E) → P → OnOk result P
on_ok (Ok a) h = h
on_ok (Err e) h = tt

-- the text of a number is put where nothing stood
pub number_put : {E : Type 0} (at : Ctx) (bases new : Bases) (m later : Blocks) (key : List ℕ) (n : ℤ) (result : Result (Unit {0}) E)
    → look (seen at bases m) key ≡ None → OnOk result (means at.db new later ≡ put (means at.db bases m) key (plain (canonical n)))
    → OnOk result (seen at new later ≡ change (seen at bases m) key (canonical n))
number_put at bases new m later key n (Ok u) none h =
    ap (λ w. live w at.moment) h ∙ live_put_in_time (means at.db bases m) at.moment key (plain (canonical n)) refl
    ∙ ap (λ d. put (seen at bases m) key (record { value = Str (canonical n); deadline = d })) (sym (ap deadline_of none))
number_put at bases new m later key n (Err e) none h = tt

-- the string that was there is a number now, and keeps its deadline
pub number_lowered : {A E : Type 0} (old new : World) (key text : List ℕ) (n : ℤ) (result : Result A E) (deadline : Option ℕ)
    → look old key ≡ Some (record { value = Str text; deadline = deadline }) → Becomes old key (λ _. canonical n) new → OnOk result (new ≡ change old key (canonical n))
number_lowered old new key text n result deadline stands becomes = on_ok result (becomes text (record { deadline = deadline; stands = stands }))

-- where a key was found there is one
pub item_there : (bases : Bases) (m : Blocks) (db moment : ℕ) (key : List ℕ) (there : Option ℕ) → IfSome there (λ at. StandsAt bases m db key moment at)
    → IfSome there (λ at. (own : List ℕ) × StandsAt bases m db own moment at)
item_there bases m db moment key None h = tt
item_there bases m db moment key (Some at) h = (key, h)

-- a value that is a string stands at a key
pub found_text : (bases : Bases) (m : Blocks) (at : Ctx) (key : List ℕ) (value : kinds.Value) (text : Text) → value ≡ kinds.TheVariants.Text text → Found bases m at.db key at.moment value
    → FoundText (seen at bases m) m key text
found_text bases m at key value text is found =
    let own = subst (Found bases m at.db key at.moment) is found in
    record { deadline = own.deadline; stands = own.stands; owned = own.owned }

-- the number at a key, from the text there
pub number_read : (world : World) (blocks : Blocks) (key : List ℕ) (text : Text) (answer : Option ℤ) → FoundText world blocks key text → Reads (text_bytes blocks text) answer
    → HasNumber world key answer
number_read world blocks key text answer found reads = record {
  before = Some (text_bytes blocks text);
  is = some_before world key (text_bytes blocks text) found.deadline found.stands;
  number_is = reads_number_of (text_bytes blocks text) answer reads;
  string = λ entry stands. subst IsString (ap value_in (sym found.stands ∙ stands)) tt;
}
  where
    value_in : Option Entry → Value
    value_in None = Str []
    value_in (Some entry) = entry.value

-- where nothing stands the number is 0
pub number_none : (world : World) (key : List ℕ) → look world key ≡ None → HasNumber world key (Some (pos 0))
number_none world key none = record { before = None; is = λ answer. ap (λ o. on_string world o answer) none; number_is = refl; string = λ entry stands. cc }

-- a count that fits
pub counted_on : (old : World) (key : List ℕ) (n : ℤ) → FitsSigned w64 n → count_to old key n ≡ leaves (Number n ∷ []) (change old key (canonical n))
counted_on old key n fits = ap (λ b. if b then leaves (Number n ∷ []) (change old key (canonical n)) else refused Overflow old) (fits_to n fits)

-- a new number that 64 bits with a sign don't hold is refused, and the world stays
pub not_counted : (old : World) (key : List ℕ) (n : ℤ) → ¬ (FitsSigned w64 n) → count_to old key n ≡ refused Overflow old
not_counted old key n large = ap (λ b. if b then leaves (Number n ∷ []) (change old key (canonical n)) else refused Overflow old) (no_fit n large)

-- a number is counted on, and the new one is written
pub counted : {E : Type 0} (old new : World) (key : List ℕ) (n m : ℤ) (next : ℤ → ℤ) (result : Result (List Part) E) → HasNumber old key (Some n) → FitsSigned w64 m → m ≡ next n
    → IfOk result (λ reply. reply ≡ Number m ∷ []) → OnOk result (new ≡ change old key (canonical m)) → IfOk result (λ reply. count old key next ≡ leaves reply new)
counted old new key n m next (Ok reply) at fits is told world =
    at.is (λ before. count_on old key next (number_at before)) ∙ ap (count_on old key next) at.number_is ∙ ap (count_to old key) (sym is) ∙ counted_on old key m fits
    ∙ ap (λ r. leaves r (change old key (canonical m))) (sym told) ∙ ap (leaves reply) (sym world)
counted old new key n m next (Err x) at fits is told world = tt

-- what SET answers and leaves
pub set_given : (old new : World) (moment : ℕ) (key : List ℕ) (entry : Entry) (condition : Condition) (get written : Bool) (reply : List Part)
    → written ≡ allows condition (is_some (look old key)) → IsSetReply old key get written (Some reply)
    → new ≡ (if written then stand old moment key entry else old) → set_outcome old moment key entry condition get ≡ leaves reply new
set_given old new moment key entry condition true written reply is told world =
    old_value_then old new key reply (set old moment key entry condition) told (world ∙ ap (λ b. if b then stand old moment key entry else old) is)
set_given old new moment key entry condition false written reply is told world =
    sym (ap (λ b. leaves ((if b then ok else Null) ∷ []) (if b then stand old moment key entry else old)) is)
    ∙ ap (λ r. leaves r (if written then stand old moment key entry else old)) (sym told) ∙ ap (leaves reply) (sym world)

-- SET with GET of a value of another type is refused
pub set_other : (old : World) (moment : ℕ) (key : List ℕ) (entry : Entry) (condition : Condition) (get written : Bool) → IsSetReply old key get written None
    → set_outcome old moment key entry condition get ≡ refused WrongType old
set_other old moment key entry condition true written told = on_other old key (λ before. leaves (or_null before ∷ []) (set old moment key entry condition)) told
set_other old moment key entry condition false written told = absurd told

-- no number stands at the key
pub not_number : {E : Type 0} (old : World) (key : List ℕ) (next : ℤ → ℤ) (result : Result (List Part) E) → HasNumber old key None → IfOk result (λ reply. reply ≡ Refused NotAnInteger ∷ [])
    → IfOk result (λ reply. count old key next ≡ leaves reply old)
not_number old key next (Ok reply) at is =
    at.is (λ before. count_on old key next (number_at before)) ∙ ap (count_on old key next) at.number_is ∙ ap (λ r. leaves r old) (sym is)
not_number old key next (Err x) at is = tt

-- the new number doesn't fit
pub overflowed : {E : Type 0} (old : World) (key : List ℕ) (n : ℤ) (next : ℤ → ℤ) (result : Result (List Part) E) → HasNumber old key (Some n) → ¬ (FitsSigned w64 (next n))
    → IfOk result (λ reply. reply ≡ Refused Overflow ∷ [])
    → IfOk result (λ reply. count old key next ≡ leaves reply old)
overflowed old key n next (Ok reply) at large is =
    at.is (λ before. count_on old key next (number_at before)) ∙ ap (count_on old key next) at.number_is ∙ not_counted old key (next n) large ∙ ap (λ r. leaves r old) (sym is)
overflowed old key n next (Err x) at large is = tt

-- a command on strings ran
pub ran_strings : {S E : Type 0} (blocks : S → Blocks) (step : S → S → Type 0) (old new : Keyspace S) (at : Ctx) (command : Command) (own same : StringCommand) (result : Result (List Part) E)
    → command ≡ Strings own → own ≡ same → Gives blocks old new at same result → KeepsOrRefuses blocks step (string_scope at.db same) old new result
    → IfOk result (λ reply. FormedString blocks at.db (visible blocks old at) same reply old new) → Runs blocks step old new at command result
ran_strings blocks step old new at command own same result e f given kept forms =
    record {
      answers = step_of old.bases.seed at.moment (visible blocks old at) (visible blocks new at) command own same result e f given;
      kept = subst (λ x. KeepsOrRefuses blocks step (scope_of at.db x) old new result) (sym e) (subst (λ x. KeepsOrRefuses blocks step (string_scope at.db x) old new result) (sym f) kept);
      shows = subst (λ x. IfOk result (λ reply. Shows blocks old new at x reply)) (sym e) (nothing_shown result);
      forms = subst (λ x. IfOk result (λ reply. FormedBy blocks at.db (visible blocks old at) x reply old new)) (sym e)
          (subst (λ x. IfOk result (λ reply. FormedString blocks at.db (visible blocks old at) x reply old new)) (sym f) forms);
    }

-- a command on strings that writes none
pub removed_strings : {S E : Type 0} (blocks : S → Blocks) (step : S → S → Type 0) (old new : Keyspace S) (at : Ctx) (command : Command) (own same : StringCommand) (result : Result (List Part) E)
    → ((db : ℕ) (key : List ℕ) → (string_scope at.db same).writes db key → ⊥) → command ≡ Strings own → own ≡ same → Gives blocks old new at same result
    → KeepsOrRefuses blocks step (string_scope at.db same) old new result → string_places at.db (visible blocks old at) same ≡ [] → Runs blocks step old new at command result
removed_strings blocks step old new at command own same result none e f given kept nowhere =
    ran_strings blocks step old new at command own same result e f given kept
    (formed_both blocks (string_form (visible blocks old at) same) (string_places at.db (visible blocks old at) same) old new result
    (formed_ok blocks (string_form (visible blocks old at) same) old new result
    (formed_scope (string_form (visible blocks old at) same) (string_scope at.db same) none old.bases new.bases (blocks old.store) (blocks new.store) kept.held.within))
    (nowhere_placed blocks (string_places at.db (visible blocks old at) same) old new result nowhere))

-- a command on strings only looked
pub looked_strings : {S E : Type 0} (blocks : S → Blocks) (step : S → S → Type 0) (keyspace : Keyspace S) (at : Ctx) (command : Command) (own same : StringCommand) (result : Result (List Part) E)
    → command ≡ Strings own → own ≡ same → Gives blocks keyspace keyspace at same result → Ready blocks keyspace at → string_places at.db (visible blocks keyspace at) same ≡ [] → Runs blocks
    step keyspace keyspace at command result
looked_strings blocks step keyspace at command own same result e f given ready nowhere =
    ran_strings blocks step keyspace keyspace at command own same result e f given (unchanged blocks step (string_scope at.db same) keyspace result ready.sound)
    (formed_both blocks (string_form (visible blocks keyspace at) same) (string_places at.db (visible blocks keyspace at) same) keyspace keyspace result
    (unformed blocks (string_form (visible blocks keyspace at) same) keyspace result)
    (nowhere_placed blocks (string_places at.db (visible blocks keyspace at) same) keyspace keyspace result nowhere))

-- what was put stands there
pub put_there : (old mid : World) (key bytes : List ℕ) → mid ≡ replace old key bytes → IsThere mid key bytes
put_there old mid key bytes e = record { deadline = None; stands = ap (λ w. look w key) e ∙ look_put old key (plain bytes) }

-- the piece of a request's SETRANGE ends at the greatest length at most
pub asked_fits : (command : Command) (own : StringCommand) (key piece : List ℕ) (at : ℕ) → IsAsked command → command ≡ Strings own → own ≡ strings.SetRange key at piece → 0 < length piece
    → at + length piece ≤ 536870912
asked_fits command own key piece at asked e f = meant_fits asked.words (strings.SetRange key at piece) (asked.means ∙ ap Ok (e ∙ ap Strings f))
