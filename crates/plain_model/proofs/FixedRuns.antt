-- The bytes of a run's replies fix the run.
use Rattle.std.proofs.Common.{◌≡◌, ℕ, ◌+◌, List, [], ◌∷◌, map, length, Bool, Option, Some, None, Result, Ok, Err, refl, sym, ap, subst, ◌∙◌, arith}
use Rattle.std.specs.Prelude.{ℤ, min, is_some}
use Rattle.std.proofs.lemmas.Grind.{common_steps}
use Rattle.std.specs.FinMap.{get, len, same_map, slice_cmp-IsAntisymmetric, nat_cmp-IsAntisymmetric}
use Rattle.std.specs.Cmp.Lexicographic.{nat_list_cmp_total}
use Rattle.std.specs.List.{AllByRecursion}
use Rattle.plain_world.specs.Words.{Words}
use Rattle.plain_world.specs.Worlds.{World, Value, Entry, look, live}
use Rattle.plain_model.specs.Meant.{meant}
use Rattle.plain_model.specs.Steps.{may, step}
use Rattle.plain_model.specs.OfType.{may_tell, may_tell_of, may_do, may_do_of, or_no_sources}
use Rattle.plain_model.specs.SetSteps.{Members, has, drop_all, keep_set, PopsMembers, sets_at, store_set, StoresJoin, may_sets}
use Rattle.plain_model.specs.SetSteps as sets
use Rattle.plain_model.specs.HashSteps.{may_hashes}
use Rattle.plain_model.specs.ZsetSteps.{Scores, zsets_at, weights_of, store_scores, StoresScores, may_zsets}
use Rattle.plain_world.specs.Picks.{ArePicked, picks_told, as_number}
use Rattle.plain_model.specs.Scans.{listed}
use Rattle.plain_model.proofs.Bulks.{bulks_same}
use Rattle.plain_model.proofs.Led.{Leads, led}
use Rattle.plain_model.specs.declared.set_command.SetJoin.{SetJoin}
use Rattle.plain_model.specs.declared.zset_command.ZsetCommand.{ZsetCommand}
use Rattle.plain_model.specs.declared.zset_command.ZsetCommand.TheVariants as zsets
use Rattle.plain_model.specs.declared.zset_command.ScoreJoin.{ScoreJoin}
use Rattle.plain_model.specs.declared.zset_command.Aggregate.{Aggregate}
use Rattle.plain_model.specs.declared.set_command.SetCommand.{SetCommand}
use Rattle.plain_model.specs.declared.set_command.SetCommand.TheVariants as set_commands
use Rattle.plain_model.specs.declared.hash_command.HashCommand.{HashCommand}
use Rattle.plain_model.specs.declared.hash_command.HashCommand.TheVariants as hashes
use Rattle.plain_model.specs.KeySteps.{may_keys}
use Rattle.plain_model.specs.ConnectionSteps.{may_connection}
use Rattle.plain_model.specs.declared.connection.ConnectionCommand.{ConnectionCommand}
use Rattle.plain_model.specs.declared.connection.ConnectionCommand.TheVariants as connection
use Rattle.plain_model.specs.declared.keys.KeyCommand.{KeyCommand}
use Rattle.plain_model.specs.declared.keys.KeyCommand.TheVariants as keys
use Rattle.plain_model.specs.Runs.{Call, Turn, calls_of, replies_of, run}
use Rattle.plain_world.specs.Laws.{IsHeld}
use Rattle.plain_world.specs.Spelling.{spelled}
use Rattle.plain_model.specs.declared.command.Command.{Command}
use Rattle.plain_model.specs.declared.command.Command.TheVariants.{Strings, Lists, Sets, Hashes, Zsets, Streams, Keys, Connection}
use Rattle.plain_world.specs.declared.refusal.Refusal.{Refusal}
use Rattle.plain_world.specs.declared.reply.Part.{Part}
use Rattle.plain_world.specs.declared.reply.Part.TheVariants.{Bulk}
use Rattle.plain_world.proofs.Apart.{spellings_apart}

-- the new world is fixed by the old one, the moment, the command and the reply

-- what may be told of a value leaves the world
told_of_fixed : {A : Type 0} (old : World) (own : Option A) (told : Option A → List Part → Type 0) (r : List Part) (new other : World) → may_tell_of old own told r new
    → may_tell_of old own told r other → new ≡ other
told_of_fixed old None told r new other a b = a.1 ∙ sym b.1
told_of_fixed old (Some own) told r new other a b = a.1 ∙ sym b.1

told_fixed : {A : Type 0} (in_value : Value → Option A) (old : World) (entry : Option Entry) (told : Option A → List Part → Type 0) (r : List Part) (new other : World)
    → may_tell in_value old entry told r new → may_tell in_value old entry told r other → new ≡ other
told_fixed in_value old None told r new other a b = a.1 ∙ sym b.1
told_fixed in_value old (Some entry) told r new other a b = told_of_fixed old (in_value entry.value) told r new other a b

-- what is done to a value leaves one world, if it does so to whatever stands there
module _ {A : Type 0} (old : World) (does : Option A → List Part → World → Type 0)
    (fixed : (own : Option A) (r : List Part) (new other : World) → does own r new → does own r other → new ≡ other) where
  done_of_fixed : (own : Option A) (r : List Part) (new other : World) → may_do_of old own does r new → may_do_of old own does r other → new ≡ other
  done_of_fixed None r new other a b = a.1 ∙ sym b.1
  done_of_fixed (Some own) r new other a b = fixed (Some own) r new other a b

  done_fixed : (in_value : Value → Option A) (entry : Option Entry) (r : List Part) (new other : World) → may_do in_value old entry does r new → may_do in_value old entry does r other → new ≡ other
  done_fixed in_value None r new other a b = fixed None r new other a b
  done_fixed in_value (Some entry) r new other a b = done_of_fixed (in_value entry.value) r new other a b

-- what was picked is told

none_left : (xs : List (List ℕ)) (size : ℕ) → length xs + 1 ≡ min 1 size → xs ≡ []
none_left [] size e = refl
none_left (x ∷ xs) size e = absurd (grind (arith, common_steps, e))

one_same : (size : ℕ) (xs ys : List (List ℕ)) → length xs ≡ min 1 size → length ys ≡ min 1 size → picks_told listed None xs ≡ picks_told listed None ys → xs ≡ ys
one_same size [] [] few few' e = refl
one_same size [] (y ∷ ys) few few' e = absurd (cc e)
one_same size (x ∷ xs) [] few few' e = absurd (cc e)
one_same size (x ∷ xs) (y ∷ ys) few few' e =
    let first : x ≡ y = cc in
    let left = none_left xs size (omega (arith, few)) in
    let right = none_left ys size (omega (arith, few')) in
    ap (λ l. x ∷ l) left ∙ ap (λ z. z ∷ []) first ∙ ap (λ l. y ∷ l) (sym right)

listed_same : (xs ys : List (List ℕ)) → listed xs ≡ listed ys → xs ≡ ys
listed_same xs ys e = let bulks : map Bulk xs ≡ map Bulk ys = cc in bulks_same xs ys bulks

picks_same : (has : List ℕ → Bool) (size : ℕ) (n : Option ℤ) (xs ys : List (List ℕ)) → ArePicked has size n xs → ArePicked has size n ys → picks_told listed n xs ≡ picks_told listed n ys → xs ≡ ys
picks_same has size None xs ys p q e = one_same size xs ys p.many q.many e
picks_same has size (Some n) xs ys p q e = listed_same xs ys e

pops_fixed : (old : World) (key : List ℕ) (n : Option ℕ) (own : Option Members) (r : List Part) (new other : World) → PopsMembers old key n own r new → PopsMembers old key n own r other → new ≡ other
pops_fixed old key n None r new other a b = a.1 ∙ sym b.1
pops_fixed old key n (Some members) r new other a b =
    let same = picks_same (has members) (len members) (as_number n) a.0 b.0 a.1 b.1 (sym a.2 ∙ b.2) in
    a.3 ∙ ap (λ gone. keep_set old key (drop_all members gone)) same ∙ sym b.3

-- a join is one map

unit_same : (a b : Option (Unit {0})) → is_some a ≡ is_some b → a ≡ b
unit_same None None e = refl
unit_same None (Some u) e = absurd (cc e)
unit_same (Some u) None e = absurd (cc e)
unit_same (Some u) (Some v) e = refl

set_join_same : (how : SetJoin) (own : List Members) (a b : Members) → sets.IsJoin how own a → sets.IsJoin how own b → a ≡ b
set_join_same how own a b p q = same_map nat_list_cmp_total (slice_cmp-IsAntisymmetric nat_cmp-IsAntisymmetric) a b (λ x. unit_same (get a x) (get b x) (p x ∙ sym (q x)))

set_store_fixed : (old : World) (to : List ℕ) (how : SetJoin) (own : Option (List Members)) (r : List Part) (new other : World) → StoresJoin old to how own r new
    → StoresJoin old to how own r other → new ≡ other
set_store_fixed old to how own r new other a b =
    let same = set_join_same how (or_no_sources own) a.0 b.0 a.1 b.1 in
    a.2.1 ∙ ap (λ members. store_set old to members) same ∙ sym b.2.1

score_store_fixed : (old : World) (to : List ℕ) (join : ScoreJoin) (how : Aggregate) (weights : List ℤ) (own : Option (List Scores)) (r : List Part) (new other : World)
    → StoresScores old to join how weights own r new → StoresScores old to join how weights own r other → new ≡ other
score_store_fixed old to join how weights own r new other a b =
    let same = same_map nat_list_cmp_total (slice_cmp-IsAntisymmetric nat_cmp-IsAntisymmetric) a.0 b.0 (λ x. a.1 x ∙ sym (b.1 x)) in
    a.2.1 ∙ ap (λ scores. (store_scores old to scores).world) same ∙ sym b.2.1

sets_fixed : (seed : ℕ) (old : World) (c : SetCommand) (r : List Part) (new other : World) → may_sets seed old c r new → may_sets seed old c r other → new ≡ other
sets_fixed seed old (set_commands.SMembers key) r new other a b = told_fixed _ old (look old key) _ r new other a b
sets_fixed seed old (set_commands.SPop key n) r new other a b = done_fixed old (PopsMembers old key n) (pops_fixed old key n) _ (look old key) r new other a b
sets_fixed seed old (set_commands.SRandMember key n) r new other a b = told_fixed _ old (look old key) _ r new other a b
sets_fixed seed old (set_commands.SJoin how keys) r new other a b = told_of_fixed old (sets_at old keys) _ r new other a b
sets_fixed seed old (set_commands.SJoinStore how to keys) r new other a b = done_of_fixed old (StoresJoin old to how) (set_store_fixed old to how) (sets_at old keys) r new other a b
sets_fixed seed old (set_commands.SInterCard keys limit) r new other a b = told_of_fixed old (sets_at old keys) _ r new other a b
sets_fixed seed old (set_commands.SScan key cursor options) r new other a b = told_fixed _ old (look old key) _ r new other a b
sets_fixed seed old c r new other a b = a.1 ∙ sym b.1

hashes_fixed : (seed : ℕ) (old : World) (c : HashCommand) (r : List Part) (new other : World) → may_hashes seed old c r new → may_hashes seed old c r other → new ≡ other
hashes_fixed seed old (hashes.HKeys key) r new other a b = told_fixed _ old (look old key) _ r new other a b
hashes_fixed seed old (hashes.HVals key) r new other a b = told_fixed _ old (look old key) _ r new other a b
hashes_fixed seed old (hashes.HGetAll key) r new other a b = told_fixed _ old (look old key) _ r new other a b
hashes_fixed seed old (hashes.HRandField key n more) r new other a b = told_fixed _ old (look old key) _ r new other a b
hashes_fixed seed old (hashes.HScan key cursor options) r new other a b = told_fixed _ old (look old key) _ r new other a b
hashes_fixed seed old c r new other a b = a.1 ∙ sym b.1

zsets_fixed : (seed : ℕ) (old : World) (c : ZsetCommand) (r : List Part) (new other : World) → may_zsets seed old c r new → may_zsets seed old c r other → new ≡ other
zsets_fixed seed old (zsets.ZRandMember key n more) r new other a b = told_fixed _ old (look old key) _ r new other a b
zsets_fixed seed old (zsets.ZJoinStore join to keys how) r new other a b =
    done_of_fixed old (StoresScores old to join how (weights_of keys)) (score_store_fixed old to join how (weights_of keys)) (zsets_at old keys) r new other a b
zsets_fixed seed old (zsets.ZScan key cursor options) r new other a b = told_fixed _ old (look old key) _ r new other a b
zsets_fixed seed old c r new other a b = a.1 ∙ sym b.1

-- the first line of this and of the next takes the commands apart: the last one is checked for each
keys_fixed : (seed : ℕ) (old : World) (moment : ℕ) (c : KeyCommand) (r : List Part) (new other : World) → may_keys seed old moment c r new → may_keys seed old moment c r other → new ≡ other
keys_fixed seed old moment keys.RandomKey r new other a b = a.1 ∙ sym b.1
keys_fixed seed old moment c r new other a b = a.1 ∙ sym b.1

connection_fixed : (old : World) (moment : ℕ) (c : ConnectionCommand) (r : List Part) (new other : World) → may_connection old moment c r new → may_connection old moment c r other → new ≡ other
connection_fixed old moment connection.MemorySlabs r new other a b = a.1 ∙ sym b.1
connection_fixed old moment c r new other a b = a.1 ∙ sym b.1

may_fixed : (seed : ℕ) (old : World) (moment : ℕ) (c : Command) (r : List Part) (new other : World) → may seed old moment c r new → may seed old moment c r other → new ≡ other
may_fixed seed old moment (Strings c) r new other a b = a.1 ∙ sym b.1
may_fixed seed old moment (Lists c) r new other a b = a.1 ∙ sym b.1
may_fixed seed old moment (Sets c) r new other a b = sets_fixed seed old c r new other a b
may_fixed seed old moment (Hashes c) r new other a b = hashes_fixed seed old c r new other a b
may_fixed seed old moment (Zsets c) r new other a b = zsets_fixed seed old c r new other a b
may_fixed seed old moment (Streams c) r new other a b = a.1 ∙ sym b.1
may_fixed seed old moment (Keys c) r new other a b = keys_fixed seed old moment c r new other a b
may_fixed seed old moment (Connection c) r new other a b = connection_fixed old moment c r new other a b

meant_fixed : (seed : ℕ) (old : World) (moment : ℕ) (m : Result Command Refusal) (r : List Part) (new other : World) → Leads seed old moment r new m → Leads seed old moment r other m → new ≡ other
meant_fixed seed old moment (Ok c) r new other a b = may_fixed seed old moment c r new other a b
meant_fixed seed old moment (Err e) r new other a b = a.1 ∙ sym b.1

pub step_fixed : (seed : ℕ) (old : World) (moment : ℕ) (words : Words) (r : List Part) (new other : World) → step seed old moment words r new → step seed old moment words r other → new ≡ other
step_fixed seed old moment words r new other a b =
    meant_fixed seed (live old moment) moment (meant words) r new other (led seed (live old moment) moment (meant words) r new a) (led seed (live old moment) moment (meant words) r other b)

same_turn : (x y : Turn) → x.call ≡ y.call → x.seen ≡ y.seen → x.reply ≡ y.reply → x ≡ y
same_turn x y call seen reply =
    let C : Call → Turn = λ c. record { call = c; seen = x.seen; reply = x.reply } in
    let S : World → Turn = λ w. record { call = y.call; seen = w; reply = x.reply } in
    let R : List Part → Turn = λ r. record { call = y.call; seen = y.seen; reply = r } in
    ap C call ∙ ap S seen ∙ ap R reply

pub run_fixed : (seed : ℕ) (old : World) (turns others : List Turn) (new other : World) → AllByRecursion IsHeld (replies_of turns) → AllByRecursion IsHeld (replies_of others)
    → run seed old turns new → run seed old others other → calls_of turns ≡ calls_of others → spelled (replies_of turns) ≡ spelled (replies_of others) → (turns ≡ others) × (new ≡ other)
run_fixed seed old [] [] new other h k a b calls e = (refl, a ∙ sym b)
run_fixed seed old [] (y ∷ s) new other h k a b calls e = absurd (cc calls)
run_fixed seed old (x ∷ r) [] new other h k a b calls e = absurd (cc calls)
run_fixed seed old (x ∷ r) (y ∷ s) new other h k a b calls e =
    let call : x.call ≡ y.call = cc in
    let later : calls_of r ≡ calls_of s = cc in
    let seen : x.seen ≡ y.seen = a.0 ∙ ap (λ c. live old c.moment) call ∙ sym b.0 in
    let same = spellings_apart x.reply y.reply (spelled (replies_of r)) (spelled (replies_of s)) h.0 k.0 e in
    let P : List Part → Type 0 = λ z. step seed old x.call.moment x.call.words z b.1 in
    let C : Call → Type 0 = λ c. step seed old c.moment c.words y.reply b.1 in
    let mid : a.1 ≡ b.1 = step_fixed seed old x.call.moment x.call.words x.reply a.1 b.1 a.2 (subst P (sym same.0) (subst C (sym call) b.2)) in
    let Q : World → Type 0 = λ w. run seed w s other in
    let rest = run_fixed seed a.1 r s new other h.1 k.1 a.3 (subst Q (sym mid) b.3) later same.1 in
    (ap (λ z. z ∷ r) (same_turn x y call seen same.0) ∙ ap (λ z. y ∷ z) rest.0, rest.1)
