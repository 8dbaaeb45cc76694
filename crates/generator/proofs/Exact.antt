-- Each generated command has one answer.
use Rattle.std.proofs.Common.{◌≡◌, ℕ, ◌+◌, ◌*◌, ◌/◌, ◌%◌, List, [], ◌∷◌, ◌++◌, zero, suc, length, take, drop, Bool, true, false, Result, Ok, Err, refl, sym, ap, subst, ◌∙◌}
use Rattle.std.specs.Prelude.{MatchResult, ℤ, codes, if◌then◌else◌, nat_le}
use Rattle.std.specs.List.{AllByRecursion}
use Rattle.std.specs.Fmt.{decimal}
use Rattle.plain_model.specs.Meant.{meant}
use Rattle.plain_model.specs.Runs.{Call, Turn, calls_of, run}
use Rattle.plain_model.specs.Shapes.{AllTold, Plain, Whole, all_told, and_then, fixed, options_read}
use Rattle.plain_model.specs.StreamWords.{append_words}
use Rattle.plain_model.proofs.Led.{Leads, led}
use Rattle.plain_model.specs.declared.zset_command.AddOptions.{AddOptions}
use Rattle.plain_model.specs.ZsetWords.{add_of, add_breaks, add_options, add_words, no_add_options, no_range_options, options_in_front, range_words, rank_range_of, scores_read}
use Rattle.plain_model.specs.declared.command.Command.{Command}
use Rattle.plain_model.specs.declared.command.Command.TheVariants.{Strings, Lists, Zsets, Streams}
use Rattle.plain_model.specs.declared.command.StringCommand.{StringCommand}
use Rattle.plain_model.specs.declared.command.StringCommand.TheVariants as strings
use Rattle.plain_model.specs.declared.list_command.ListCommand.{ListCommand}
use Rattle.plain_model.specs.declared.list_command.ListCommand.TheVariants as lists
use Rattle.plain_model.specs.declared.stream_command.StreamCommand.{StreamCommand}
use Rattle.plain_model.specs.declared.zset_command.ZsetCommand.{ZsetCommand}
use Rattle.plain_model.specs.declared.zset_command.ZsetCommand.TheVariants as zsets
use Rattle.plain_world.specs.Words.{Words}
use Rattle.plain_world.specs.Worlds.{World, live}
use Rattle.plain_world.specs.declared.refusal.Refusal.{Refusal}
use Rattle.plain_world.specs.declared.refusal.Refusal.TheVariants.{WrongNumberOfArguments}
use Rattle.plain_world.specs.declared.reply.Part.{Part}
use Rattle.generator.specs.Commands.{words_of, kind_of, word, commands_after}
use Rattle.generator.specs.Laws.{numbered, RunsAreOne}
use Rattle.generator.specs.declared.commands.Kind.{Kind}
use Rattle.generator.specs.declared.commands.Kind.TheVariants as kinds

-- what is meant has one answer
abbrev One : Result Command Refusal → Type 0
One m = (seed moment : ℕ) (old : World) (r s : List Part) (new other : World) → Leads seed old moment r new m → Leads seed old moment s other m → (r ≡ s) × (new ≡ other)

strings_one : (m : Result StringCommand Refusal) → One (and_then m (λ c. Ok (Strings c)))
strings_one (Ok c) seed moment old r s new other a b = (a.0 ∙ sym b.0, a.1 ∙ sym b.1)
strings_one (Err e) seed moment old r s new other a b = (a.0 ∙ sym b.0, a.1 ∙ sym b.1)

lists_one : (m : Result ListCommand Refusal) → One (and_then m (λ c. Ok (Lists c)))
lists_one (Ok c) seed moment old r s new other a b = (a.0 ∙ sym b.0, a.1 ∙ sym b.1)
lists_one (Err e) seed moment old r s new other a b = (a.0 ∙ sym b.0, a.1 ∙ sym b.1)

streams_one : (m : Result StreamCommand Refusal) → One (and_then m (λ c. Ok (Streams c)))
streams_one (Ok c) seed moment old r s new other a b = (a.0 ∙ sym b.0, a.1 ∙ sym b.1)
streams_one (Err e) seed moment old r s new other a b = (a.0 ∙ sym b.0, a.1 ∙ sym b.1)

-- a command on sorted sets that has one answer
abbrev IsExact : ZsetCommand → Type 0
IsExact (zsets.ZRandMember key n more) = ⊥
IsExact (zsets.ZJoinStore join to keys how) = ⊥
IsExact (zsets.ZScan key cursor options) = ⊥
IsExact c = Unit {0}

exact_one : (c : ZsetCommand) → IsExact c → One (Ok (Zsets c))
exact_one (zsets.ZRandMember key n more) e seed moment old r s new other a b = absurd e
exact_one (zsets.ZJoinStore join to keys how) e seed moment old r s new other a b = absurd e
exact_one (zsets.ZScan key cursor options) e seed moment old r s new other a b = absurd e
exact_one c e seed moment old r s new other a b = (a.0 ∙ sym b.0, a.1 ∙ sym b.1)

abbrev AreExact : Result ZsetCommand Refusal → Type 0
AreExact m = MatchResult m IsExact (λ e. Unit {0})

zsets_one : (m : Result ZsetCommand Refusal) → AreExact m → One (and_then m (λ c. Ok (Zsets c)))
zsets_one (Ok c) x seed moment old r s new other a b = exact_one c x seed moment old r s new other a b
zsets_one (Err e) x seed moment old r s new other a b = (a.0 ∙ sym b.0, a.1 ∙ sym b.1)

then_exact : {A : Type 0} (r : Result A Refusal) (f : A → Result ZsetCommand Refusal) → ((a : A) → AreExact (f a)) → AreExact (and_then r f)
then_exact (Ok a) f h = h a
then_exact (Err e) f h = tt

if_exact : (t : Bool) (x y : Result ZsetCommand Refusal) → AreExact x → AreExact y → AreExact (if t then x else y)
if_exact true x y a b = a
if_exact false x y a b = b

add_exact : (key : List ℕ) (options : AddOptions) (pairs : List (ℤ × List ℕ)) → AreExact (add_of key options pairs)
add_exact key options [] = tt
add_exact key options (pair ∷ pairs) = if_exact (add_breaks options pairs) _ _ tt (if_exact options.incr _ _ tt tt)

add_words_exact : (key : List ℕ) (words : Words) → AreExact (add_words (key ∷ words))
add_words_exact key words =
    let read : Result AddOptions Refusal = options_read add_options no_add_options 0 (take (options_in_front words) words) in
    let scores : Result (List (ℤ × List ℕ)) Refusal = scores_read (drop (options_in_front words) words) in
    let makes : AddOptions → Result ZsetCommand Refusal = λ options. and_then scores (add_of key options) in
    if_exact (nat_le 2 (length words)) (and_then read makes) (Err WrongNumberOfArguments) (then_exact read makes (λ options. then_exact scores (add_of key options) (add_exact key options))) tt

range_exact : (key : List ℕ) (a b : List ℕ) → AreExact (range_words (key ∷ a ∷ b ∷ []))
range_exact key a b =
    let told : Result (AllTold (Plain ∷ Whole ∷ Whole ∷ [])) Refusal = all_told (Plain ∷ Whole ∷ Whole ∷ []) (key ∷ a ∷ b ∷ []) in
    then_exact told (λ first. rank_range_of first.0 first.1.0 first.1.1.0 no_range_options) (λ first. tt)

-- each kind of command
kind_one : (kind : Kind) (k x : ℕ) → One (meant (words_of kind k x))
kind_one kinds.Set k x = λ seed moment old r s new other a b. (a.0 ∙ sym b.0, a.1 ∙ sym b.1)
kind_one kinds.Get k x = λ seed moment old r s new other a b. (a.0 ∙ sym b.0, a.1 ∙ sym b.1)
kind_one kinds.IncrBy k x = strings_one (fixed (Plain ∷ Whole ∷ []) (λ a. Ok (strings.IncrBy a.0 a.1.0)) ((codes "n:" ++ decimal k) ∷ decimal (x % 1000) ∷ []))
kind_one kinds.RPush k x = λ seed moment old r s new other a b. (a.0 ∙ sym b.0, a.1 ∙ sym b.1)
kind_one kinds.LRange k x = lists_one (fixed (Plain ∷ Whole ∷ Whole ∷ []) (λ a. Ok (lists.LRange a.0 a.1.0 a.1.1.0)) ((codes "l:" ++ decimal k) ∷ decimal 0 ∷ decimal 9 ∷ []))
kind_one kinds.SAdd k x = λ seed moment old r s new other a b. (a.0 ∙ sym b.0, a.1 ∙ sym b.1)
kind_one kinds.SIsMember k x = λ seed moment old r s new other a b. (a.0 ∙ sym b.0, a.1 ∙ sym b.1)
kind_one kinds.HSet k x = λ seed moment old r s new other a b. (a.0 ∙ sym b.0, a.1 ∙ sym b.1)
kind_one kinds.HGet k x = λ seed moment old r s new other a b. (a.0 ∙ sym b.0, a.1 ∙ sym b.1)
kind_one kinds.ZAdd k x =
    let key = codes "z:" ++ decimal k in
    let words = decimal (x % 1000) ∷ (codes "m" ++ decimal (x % 64)) ∷ [] in
    zsets_one (add_words (key ∷ words)) (add_words_exact key words)
kind_one kinds.ZRange k x =
    let key = codes "z:" ++ decimal k in
    zsets_one (range_words (key ∷ decimal 0 ∷ decimal 9 ∷ [])) (range_exact key (decimal 0) (decimal 9))
kind_one kinds.XAdd k x = streams_one (append_words ((codes "x:" ++ decimal k) ∷ codes "*" ∷ codes "f" ∷ decimal x ∷ []))
kind_one kinds.Del k x = λ seed moment old r s new other a b. (a.0 ∙ sym b.0, a.1 ∙ sym b.1)

-- each call has one answer
abbrev HasOne : Call → Type 0
HasOne call = One (meant call.words)

all_one : (seed before n : ℕ) → AllByRecursion HasOne (numbered before (commands_after seed before n))
all_one seed before zero = tt
all_one seed before (suc n) = (kind_one (kind_of (word seed (2 * before))) (word seed (2 * before) / 16 % 1000) (word seed (2 * before + 1)), all_one seed (suc before) n)

same_turn : (x y : Turn) → x.call ≡ y.call → x.seen ≡ y.seen → x.reply ≡ y.reply → x ≡ y
same_turn x y call seen reply =
    let C : Call → Turn = λ c. record { call = c; seen = x.seen; reply = x.reply } in
    let S : World → Turn = λ w. record { call = y.call; seen = w; reply = x.reply } in
    let R : List Part → Turn = λ r. record { call = y.call; seen = y.seen; reply = r } in
    ap C call ∙ ap S seen ∙ ap R reply

runs_same : (calls : List Call) (seed : ℕ) (old : World) (turns others : List Turn) (new other : World) → AllByRecursion HasOne calls → calls_of turns ≡ calls → calls_of others ≡ calls
    → run seed old turns new → run seed old others other → (turns ≡ others) × (new ≡ other)
runs_same [] seed old [] [] new other h p q a b = (refl, a ∙ sym b)
runs_same [] seed old [] (y ∷ s) new other h p q a b = absurd (cc q)
runs_same [] seed old (x ∷ r) others new other h p q a b = absurd (cc p)
runs_same (c ∷ calls) seed old [] others new other h p q a b = absurd (cc p)
runs_same (c ∷ calls) seed old (x ∷ r) [] new other h p q a b = absurd (cc q)
runs_same (c ∷ calls) seed old (x ∷ r) (y ∷ s) new other h p q a b =
    let first : x.call ≡ c = cc in
    let second : y.call ≡ c = cc in
    let later : calls_of r ≡ calls = cc in
    let after : calls_of s ≡ calls = cc in
    let X : Call → Type 0 = λ d. Leads seed (live old d.moment) d.moment x.reply a.1 (meant d.words) in
    let Y : Call → Type 0 = λ d. Leads seed (live old d.moment) d.moment y.reply b.1 (meant d.words) in
    let left = led seed (live old x.call.moment) x.call.moment (meant x.call.words) x.reply a.1 a.2 in
    let right = led seed (live old y.call.moment) y.call.moment (meant y.call.words) y.reply b.1 b.2 in
    let one = h.0 seed c.moment (live old c.moment) x.reply y.reply a.1 b.1 (subst X first left) (subst Y second right) in
    let W : World → Type 0 = λ w. run seed w s other in
    let rest = runs_same calls seed a.1 r s new other h.1 later after a.3 (subst W (sym one.1) b.3) in
    let call : x.call ≡ y.call = first ∙ sym second in
    let L : Call → World = λ d. live old d.moment in
    let seen : x.seen ≡ y.seen = a.0 ∙ ap L call ∙ sym b.0 in
    let F : Turn → List Turn = λ z. z ∷ r in
    let G : List Turn → List Turn = λ l. y ∷ l in
    (ap F (same_turn x y call seen one.0) ∙ ap G rest.0, rest.1)

pub runs_one : RunsAreOne
runs_one n seed old turns others new other p q a b = runs_same (numbered 0 (commands_after seed 0 n)) seed old turns others new other (all_one seed 0 n) p q a b
