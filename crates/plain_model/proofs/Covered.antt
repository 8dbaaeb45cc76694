-- Complete scans of a run cover what stayed.
use Rattle.std.proofs.Common.{◌≡◌, ℕ, ◌<◌, ◌≤◌, ◌^◌, ◌-◌, List, [], ◌∷◌, ◌++◌, map, Bool, Result, Ok, Err, Option, Some, None, refl, sym, subst, ◌∙◌, arith, ◌⊎◌, inl, inr}
use Rattle.std.specs.Prelude.{true, false, nat_lt}
use Rattle.std.proofs.Common.{ltb-true, ltb-false}
use Rattle.digests.specs.Siphash.{sip}
use Rattle.std.specs.List.{AllByRecursion, Contains}
use Rattle.std.specs.Fmt.{decimal}
use Rattle.std.proofs.lemmas.Fmt.{decimal_injective}
use Rattle.rev_cursor.specs.Place.{place, end_of, reversed}
use Rattle.rev_cursor.proofs.Walks.{end_of_more_in_walks, end_of_zero}
use Rattle.rev_cursor.proofs.Reversal.{reversed_below}
use Rattle.plain_world.specs.Worlds.{World, Value, Entry, live, look}
use Rattle.plain_world.specs.declared.refusal.Refusal.{Refusal}
use Rattle.plain_world.specs.declared.refusal.Refusal.TheVariants.{WrongType}
use Rattle.plain_world.specs.declared.reply.Part.{Part}
use Rattle.plain_world.specs.declared.reply.Part.TheVariants.{Bulk, Refused}
use Rattle.plain_world.proofs.Containing.{contains_first, contains_later, contains_cases}
use Rattle.plain_model.specs.Meant.{meant}
use Rattle.plain_model.specs.Steps.{may, step}
use Rattle.plain_model.specs.Runs.{Turn, run}
use Rattle.plain_model.specs.Scans.{Sought, Passes, is_in, place_of, Page, keys_sought, held_sought, listed, listed_with, paged_as, paged}
use Rattle.plain_model.specs.OfType.{set_in, hash_in, zset_in, may_tell, may_tell_of}
use Rattle.plain_model.proofs.Bulks.{bulks_same, followed, pairs_same}
use Rattle.plain_model.proofs.Led.{Leads, led}
use Rattle.plain_model.specs.Coverage.{ScanCall, key_scan, set_scan, hash_scan, zset_scan, scan_asked, TellsPage, Reports, Chain, between, more, last, IsReported}
use Rattle.plain_model.specs.Laws.{RunsAreCovered}
use Rattle.plain_model.specs.declared.command.Command.{Command}
use Rattle.plain_model.specs.declared.command.Command.TheVariants.{Strings, Lists, Sets, Hashes, Zsets, Streams, Keys, Connection}
use Rattle.plain_model.specs.declared.keys.KeyCommand.{KeyCommand}
use Rattle.plain_model.specs.declared.keys.KeyCommand.TheVariants as keys
use Rattle.plain_model.specs.declared.set_command.SetCommand.{SetCommand}
use Rattle.plain_model.specs.declared.set_command.SetCommand.TheVariants as sets
use Rattle.plain_model.specs.declared.hash_command.HashCommand.{HashCommand}
use Rattle.plain_model.specs.declared.hash_command.HashCommand.TheVariants as hashes
use Rattle.plain_model.specs.declared.zset_command.ZsetCommand.{ZsetCommand}
use Rattle.plain_model.specs.declared.zset_command.ZsetCommand.TheVariants as zsets

true_not_false : true ≡ false → ⊥
true_not_false e = cc

-- ---- a reply tells its page

pages_same : (next other : ℕ) (xs ys : List (List ℕ)) → next < 2 ^ 64 → other < 2 ^ 64 → paged next xs ≡ paged other ys → (next ≡ other) × (xs ≡ ys)
pages_same next other xs ys fits fits' e =
    let text : decimal next ≡ decimal other = cc in
    let bulks : map Bulk xs ≡ map Bulk ys = cc in
    (decimal_injective next other fits fits' text, bulks_same xs ys bulks)

pair_pages_same : (next other : ℕ) (f g : List ℕ → Part) (xs ys : List (List ℕ)) → next < 2 ^ 64 → other < 2 ^ 64 → paged_as next (listed_with f xs) ≡ paged_as other (listed_with g ys)
    → (next ≡ other) × (xs ≡ ys)
pair_pages_same next other f g xs ys fits fits' e =
    let text : decimal next ≡ decimal other = cc in
    let pairs : followed f xs ≡ followed g ys = cc in
    (decimal_injective next other fits fits' text, pairs_same f g xs ys pairs)

tells_same : (pairs : Bool) (next other : ℕ) (xs ys : List (List ℕ)) (reply : List Part) → next < 2 ^ 64 → other < 2 ^ 64 → TellsPage pairs next xs reply → TellsPage pairs other ys reply
    → (next ≡ other) × (xs ≡ ys)
tells_same false next other xs ys reply fits fits' a b = pages_same next other xs ys fits fits' (sym a ∙ b)
tells_same true next other xs ys reply fits fits' a b = pair_pages_same next other a.0 b.0 xs ys fits fits' (sym a.1 ∙ b.1)

-- a reply that tells a page is that page
page_told : (seed : ℕ) (world : World) (sought : Sought) (cursor next other : ℕ) (xs ys : List (List ℕ)) (pairs : Bool) (reply : List Part) → next < 2 ^ 64
    → Page seed world sought cursor other ys → TellsPage pairs other ys reply → TellsPage pairs next xs reply
    → Page seed world sought cursor next xs
page_told seed world sought cursor next other xs ys pairs reply fits page e f =
    let same = tells_same pairs other next ys xs reply page.fits fits e f in
    let P : ℕ → Type 0 = λ n. Page seed world sought cursor n ys in
    let Q : List (List ℕ) → Type 0 = λ l. Page seed world sought cursor next l in
    subst Q same.1 (subst P same.0 page)

-- a refusal tells no page
no_refusal : (pairs : Bool) (next : ℕ) (xs : List (List ℕ)) (reply : List Part) (refusal : Refusal) → reply ≡ Refused refusal ∷ [] → TellsPage pairs next xs reply → ⊥
no_refusal false next xs reply refusal e told = cc
no_refusal true next xs reply refusal e told = let is = told.1 in cc

call_of : {c d : ScanCall} → Some c ≡ Some d → c ≡ d
call_of e = cc

-- what is asked and told of a page
module _ (seed : ℕ) (world : World) (asked : Option ScanCall) (reply : List Part) (sought : Sought) (cursor next : ℕ) (xs : List (List ℕ)) (pairs : Bool)
    (same : asked ≡ Some (record { cursor = cursor; sought = sought; pairs = pairs })) (fits : next < 2 ^ 64) (told : TellsPage pairs next xs reply) where
  -- a call that is answered by a page
  call_page : (call : ScanCall) → asked ≡ Some call → (other : ℕ) (ys : List (List ℕ)) → Page seed world call.sought call.cursor other ys → TellsPage call.pairs other ys reply
      → Page seed world sought cursor next xs
  call_page call is other ys page e =
      let one = call_of (sym is ∙ same) in
      let P : ScanCall → Type 0 = λ c. TellsPage c.pairs next xs reply → Page seed world c.sought c.cursor next xs in
      subst P one (page_told seed world call.sought call.cursor next other xs ys call.pairs reply fits page e) told

  no_page : {A : Type 0} (refusal : Refusal) → reply ≡ Refused refusal ∷ [] → A
  no_page refusal e = absurd (no_refusal pairs next xs reply refusal e told)

  told_of_page : {A : Type 0} (own : Option A) (tells : Option A → List Part → Type 0) (new : World) → may_tell_of world own tells reply new
      → ((before : Option A) → tells before reply → Page seed world sought cursor next xs) → Page seed world sought cursor next xs
  told_of_page None tells new may page = no_page WrongType may.0
  told_of_page (Some own) tells new may page = page (Some own) may.0

  held_page : {A : Type 0} (in_value : Value → Option A) (entry : Option Entry) (tells : Option A → List Part → Type 0) (new : World) → may_tell in_value world entry tells reply new
      → ((before : Option A) → tells before reply → Page seed world sought cursor next xs) → Page seed world sought cursor next xs
  held_page in_value None tells new may page = page None may.0
  held_page in_value (Some entry) tells new may page = told_of_page (in_value entry.value) tells new may page

key_page : (seed : ℕ) (world : World) (moment : ℕ) (c : KeyCommand) (reply : List Part) (new : World) (sought : Sought) (cursor next : ℕ) (xs : List (List ℕ)) (pairs : Bool)
    → may seed world moment (Keys c) reply new
    → key_scan world.selected c ≡ Some (record { cursor = cursor; sought = sought; pairs = pairs }) → next < 2 ^ 64 → TellsPage pairs next xs reply → Page seed world sought cursor next xs
key_page seed world moment (keys.Scan from options) reply new sought cursor next xs pairs may asked fits told =
    call_page seed world (key_scan world.selected (keys.Scan from options)) reply sought cursor next xs pairs asked fits told
    (record { cursor = from; sought = keys_sought world.selected options; pairs = false }) refl may.0.0 may.0.1 may.0.2 may.0.3
key_page seed world moment c reply new sought cursor next xs pairs may asked fits told = absurd (cc asked)

set_page : (seed : ℕ) (world : World) (moment : ℕ) (c : SetCommand) (reply : List Part) (new : World) (sought : Sought) (cursor next : ℕ) (xs : List (List ℕ)) (pairs : Bool)
    → may seed world moment (Sets c) reply new
    → set_scan world.selected c ≡ Some (record { cursor = cursor; sought = sought; pairs = pairs }) → next < 2 ^ 64 → TellsPage pairs next xs reply → Page seed world sought cursor next xs
set_page seed world moment (sets.SScan key from options) reply new sought cursor next xs pairs may asked fits told =
    held_page seed world (set_scan world.selected (sets.SScan key from options)) reply sought cursor next xs pairs asked fits told set_in (look world key) _ new may
    (λ before is. call_page seed world (set_scan world.selected (sets.SScan key from options)) reply sought cursor next xs pairs asked fits told
    (record { cursor = from; sought = held_sought world.selected key options; pairs = false }) refl is.0 is.1 is.2 is.3)
set_page seed world moment c reply new sought cursor next xs pairs may asked fits told = absurd (cc asked)

hash_page : (seed : ℕ) (world : World) (moment : ℕ) (c : HashCommand) (reply : List Part) (new : World) (sought : Sought) (cursor next : ℕ) (xs : List (List ℕ)) (pairs : Bool)
    → may seed world moment (Hashes c) reply new
    → hash_scan world.selected c ≡ Some (record { cursor = cursor; sought = sought; pairs = pairs }) → next < 2 ^ 64 → TellsPage pairs next xs reply → Page seed world sought cursor next xs
hash_page seed world moment (hashes.HScan key from options) reply new sought cursor next xs pairs may asked fits told =
    held_page seed world (hash_scan world.selected (hashes.HScan key from options)) reply sought cursor next xs pairs asked fits told hash_in (look world key) _ new may
    (λ before is. call_page seed world (hash_scan world.selected (hashes.HScan key from options)) reply sought cursor next xs pairs asked fits told
    (record { cursor = from; sought = held_sought world.selected key options; pairs = true }) refl is.0 is.1 is.2 (_, is.3))
hash_page seed world moment c reply new sought cursor next xs pairs may asked fits told = absurd (cc asked)

zset_page : (seed : ℕ) (world : World) (moment : ℕ) (c : ZsetCommand) (reply : List Part) (new : World) (sought : Sought) (cursor next : ℕ) (xs : List (List ℕ)) (pairs : Bool)
    → may seed world moment (Zsets c) reply new
    → zset_scan world.selected c ≡ Some (record { cursor = cursor; sought = sought; pairs = pairs }) → next < 2 ^ 64 → TellsPage pairs next xs reply → Page seed world sought cursor next xs
zset_page seed world moment (zsets.ZScan key from options) reply new sought cursor next xs pairs may asked fits told =
    held_page seed world (zset_scan world.selected (zsets.ZScan key from options)) reply sought cursor next xs pairs asked fits told zset_in (look world key) _ new may
    (λ before is. call_page seed world (zset_scan world.selected (zsets.ZScan key from options)) reply sought cursor next xs pairs asked fits told
    (record { cursor = from; sought = held_sought world.selected key options; pairs = true }) refl is.0 is.1 is.2 (_, is.3))
zset_page seed world moment c reply new sought cursor next xs pairs may asked fits told = absurd (cc asked)

meant_page : (seed : ℕ) (old : World) (moment : ℕ) (m : Result Command Refusal) (reply : List Part) (new : World) (sought : Sought) (cursor next : ℕ) (xs : List (List ℕ)) (pairs : Bool)
    → Leads seed (live old moment) moment reply new m
    → scan_asked old.selected m ≡ Some (record { cursor = cursor; sought = sought; pairs = pairs }) → next < 2 ^ 64 → TellsPage pairs next xs reply → Page seed (live old moment) sought cursor next xs
meant_page seed old moment (Ok (Strings c)) reply new sought cursor next xs pairs l asked fits told = absurd (cc asked)
meant_page seed old moment (Ok (Lists c)) reply new sought cursor next xs pairs l asked fits told = absurd (cc asked)
meant_page seed old moment (Ok (Sets c)) reply new sought cursor next xs pairs l asked fits told = set_page seed (live old moment) moment c reply new sought cursor next xs pairs l asked fits told
meant_page seed old moment (Ok (Hashes c)) reply new sought cursor next xs pairs l asked fits told = hash_page seed (live old moment) moment c reply new sought cursor next xs pairs l asked fits told
meant_page seed old moment (Ok (Zsets c)) reply new sought cursor next xs pairs l asked fits told = zset_page seed (live old moment) moment c reply new sought cursor next xs pairs l asked fits told
meant_page seed old moment (Ok (Streams c)) reply new sought cursor next xs pairs l asked fits told = absurd (cc asked)
meant_page seed old moment (Ok (Keys c)) reply new sought cursor next xs pairs l asked fits told = key_page seed (live old moment) moment c reply new sought cursor next xs pairs l asked fits told
meant_page seed old moment (Ok (Connection c)) reply new sought cursor next xs pairs l asked fits told = absurd (cc asked)
meant_page seed old moment (Err refusal) reply new sought cursor next xs pairs l asked fits told = absurd (cc asked)

-- ---- each call of a run is answered by a page

abbrev IsPaged : ℕ → Sought → Turn → Type 0
IsPaged seed sought turn = (cursor next : ℕ) (page : List (List ℕ)) → Reports sought cursor turn next page → Page seed turn.seen sought cursor next page

turn_paged : (seed : ℕ) (sought : Sought) (old : World) (turn : Turn) (new : World) → turn.seen ≡ live old turn.call.moment → step seed old turn.call.moment turn.call.words turn.reply new
    → IsPaged seed sought turn
turn_paged seed sought old turn new seen done cursor next page r =
    let P : World → Type 0 = λ w. Page seed w sought cursor next page in
    let A : World → Type 0 = λ w. scan_asked w.selected (meant turn.call.words) ≡ Some (record { cursor = cursor; sought = sought; pairs = r.pairs }) in
    let asked = subst A seen r.asked in
    let answered = led seed (live old turn.call.moment) turn.call.moment (meant turn.call.words) turn.reply new done in
    subst P (sym seen) (meant_page seed old turn.call.moment (meant turn.call.words) turn.reply new sought cursor next page r.pairs answered asked r.fits r.reply)

run_paged : (seed : ℕ) (sought : Sought) (old : World) (turns : List Turn) (new : World) → run seed old turns new → AllByRecursion (IsPaged seed sought) turns
run_paged seed sought old [] new r = tt
run_paged seed sought old (turn ∷ turns) new r = (turn_paged seed sought old turn r.1 r.0 r.2, run_paged seed sought r.1 turns new r.3)

behind : (P : Turn → Type 0) (before rest : List Turn) → AllByRecursion P (before ++ rest) → AllByRecursion P rest
behind P [] rest h = h
behind P (turn ∷ before) rest h = behind P before rest h.1

front : (P : Turn → Type 0) (stretch after : List Turn) → AllByRecursion P (stretch ++ after) → AllByRecursion P stretch
front P [] after h = tt
front P (turn ∷ stretch) after h = (h.0, front P stretch after h.1)

-- ---- a scan from a cursor on

passed_on : {pages : List (List (List ℕ))} {element : List ℕ} (page : List (List ℕ)) → IsReported pages element → IsReported (page ∷ pages) element
passed_on {pages} page r = record { page = r.page; one = contains_later page r.page pages r.one; lists = r.lists }

reported_first : (page : List (List ℕ)) (pages : List (List (List ℕ))) (element : List ℕ) → Contains page element → IsReported (page ∷ pages) element
reported_first page pages element c = record { page = page; one = contains_first page pages; lists = c }

-- either the page lists the element, or it lies behind the page
listed_or_behind : (seed : ℕ) (world : World) (sought : Sought) (cursor next : ℕ) (page : List (List ℕ)) (element : List ℕ) → Page seed world sought cursor next page
    → Passes world sought element → place cursor ≤ place_of seed element
    → Contains page element ⊎ (end_of next ≤ place_of seed element)
listed_or_behind seed world sought cursor next page element p passes from =
    elim (nat_lt (place_of seed element) (end_of next)) as (λ b. nat_lt (place_of seed element) (end_of next) ≡ b → Contains page element ⊎ (end_of next ≤ place_of seed element)) [
      | true ↦ λ below. inl (p.lists.whole element (record { passes = passes; from = from; below = ltb-true (place_of seed element) (end_of next) below }))
      | false ↦ λ behind. inr (ltb-false (place_of seed element) (end_of next) behind)
    ] refl

abbrev hashed : ℕ → List ℕ → ℕ
hashed seed element = sip 1 2 seed (2 ^ 64 - 1 - seed) element

-- every place lies from cursor 0 on
first_place : place 0 ≡ 0
unfolding reversed
first_place = refl

from_first : (seed : ℕ) (element : List ℕ) → place 0 ≤ place_of seed element
from_first seed element = subst (λ (n : ℕ). n ≤ place_of seed element) (sym first_place) (omega arith)

not_listed : {seed : ℕ} {world : World} {sought : Sought} {cursor next : ℕ} {page : List (List ℕ)} {element : List ℕ} → Page seed world sought cursor next page
    → is_in world sought.target element ≡ false → Contains page element → ⊥
not_listed {element = element} p absent listed = true_not_false (sym (p.lists.real element listed).there ∙ absent)

-- what stayed and lies from the cursor on is reported
all_reported : (seed : ℕ) (sought : Sought) (cursor : ℕ) (stretch : List Turn) (pages : List (List (List ℕ))) → AllByRecursion (IsPaged seed sought) stretch → Chain sought cursor stretch pages
    → (element : List ℕ) → AllByRecursion (λ (turn : Turn). Passes turn.seen sought element) stretch → place cursor ≤ place_of seed element → IsReported pages element
all_reported seed sought _ _ _ each (between cursor turn turns pages chain) element stayed from = all_reported seed sought cursor turns pages each.1 chain element stayed.1 from
all_reported seed sought _ _ _ each (more cursor next turn turns page rest reports on chain) element stayed from =
    elim (listed_or_behind seed turn.seen sought cursor next page element (each.0 cursor next page reports) stayed.0 from) [
      | inl listed ↦ reported_first page rest element listed
      | inr behind ↦ passed_on page (all_reported seed sought next turns rest each.1 chain element stayed.1 (subst (λ (n : ℕ). n ≤ place_of seed element) (end_of_more_in_walks next on) behind))
    ]
all_reported seed sought _ _ _ each (last cursor turn page reports) element stayed from =
    elim (listed_or_behind seed turn.seen sought cursor 0 page element (each.0 cursor 0 page reports) stayed.0 from) [
      | inl listed ↦ reported_first page [] element listed
      | inr behind ↦ absurd (let below = reversed_below 64 (hashed seed element) in let end = end_of_zero in omega arith)
    ]

-- what was absent is reported by no page
none_reported : (seed : ℕ) (sought : Sought) (cursor : ℕ) (stretch : List Turn) (pages : List (List (List ℕ))) → AllByRecursion (IsPaged seed sought) stretch → Chain sought cursor stretch pages
    → (element : List ℕ) → AllByRecursion (λ (turn : Turn). is_in turn.seen sought.target element ≡ false) stretch → IsReported pages element → ⊥
none_reported seed sought _ _ _ each (between cursor turn turns pages chain) element absent r = none_reported seed sought cursor turns pages each.1 chain element absent.1 r
none_reported seed sought _ _ _ each (more cursor next turn turns page rest reports on chain) element absent r =
    elim (contains_cases page r.page rest r.one) [
      | inl same ↦ not_listed (each.0 cursor next page reports) absent.0 (subst (λ (l : List (List ℕ)). Contains l element) (sym same) r.lists)
      | inr later ↦ none_reported seed sought next turns rest each.1 chain element absent.1 (record { page = r.page; one = later; lists = r.lists })
    ]
none_reported seed sought _ _ _ each (last cursor turn page reports) element absent r =
    elim (contains_cases page r.page [] r.one) [
      | inl same ↦ not_listed (each.0 cursor 0 page reports) absent.0 (subst (λ (l : List (List ℕ)). Contains l element) (sym same) r.lists)
      | inr later ↦ (let lt : later.0 < 0 = later.1 in absurd (omega arith))
    ]

pub runs_covered : RunsAreCovered
runs_covered seed old turns new r before stretch after sought pages split chain =
    let all = run_paged seed sought old turns new r in
    let P : List Turn → Type 0 = λ l. AllByRecursion (IsPaged seed sought) l in
    let own = front (IsPaged seed sought) stretch after (behind (IsPaged seed sought) before (stretch ++ after) (subst P split all)) in
    record {
      whole = λ element stayed. all_reported seed sought 0 stretch pages own chain element stayed (from_first seed element);
      real = λ element absent r. none_reported seed sought 0 stretch pages own chain element absent r;
    }
