-- What is looked at behind a request.
use Rattle.std.proofs.Common.{◌≡◌, inl, inr, ℕ, ◌<◌, max, List, length, get_or, set, refl, sym, ap, ◌∙◌, subst, arith, zero, suc, [], ◌∷◌}
use Rattle.std.specs.List.{All}
use Rattle.std.proofs.lemmas.List.Elements.{All-head, All-tail}
use Rattle.std.proofs.lemmas.Bool.{cases_eq, eq-eqb, ne_eqb, cond-true, cond-false}
use Rattle.std.proofs.lemmas.List.{length-map, get_or-map, map-set, get_or-set_same, get_or-set_other}
use Rattle.std.specs.Prelude.{Option, Bool}
use Rattle.outside.specs.declared.pacing.Plan.{Plan}
use Rattle.plain_world.specs.Words.{Words}
use Rattle.plain_world.specs.Worlds.{Entry}
use Rattle.plain_world.specs.declared.reply.Part.{Part}
use Rattle.session_desk.specs.Engines.{View, IsModelled, seen as seen_in}
use Rattle.session_desk.specs.Kept.{Look, no_look, Kept, new_kept, watching, with_kept, session_at, looks, kept_of, all_kept}
use Rattle.session_desk.specs.declared.session.Session.{Session}
use Rattle.session_desk.specs.Watching.{Each, Reviews, AreReviewed, IsSilent}
use Rattle.session_desk.specs.Passing.{Passed, left, seen}
use Rattle.written_keys.specs.Written.{Place}
use Rattle.written_keys.specs.declared.emptying.Emptied.{Emptied}
use Rattle.session_desk.specs.Answered.{RanQueue}
use Rattle.session_desk.specs.Writing.{IsIn, MayHaveWritten}
use Rattle.session_desk.specs.declared.answering.Ran.{Ran}
use Rattle.session_desk.specs.declared.answering.Ran.TheVariants as rans
use Rattle.session_desk.specs.Desks.{Glances, left_out, looked, AnswersOf, Serves}
use Rattle.session_desk.proofs.Lists.{each_at}
use Rattle.session_desk.proofs.Passing.{passed_weaker}
use Rattle.session_desk.proofs.Untouched.{untouched, queue_stays}

-- a session that watches nothing
blank : (R : Look → Look → Type 0) → Reviews R new_kept new_kept
blank R = record { db = refl; queue = refl; spoilt = refl; many = refl; each = λ k below. absurd (omega (arith, below)) }

-- what is related in one way is so in another
weaker : (R S : Look → Look → Type 0) → ((one new : Look) → R one new → S one new) → (s new : Kept) → Reviews R s new → Reviews S s new
weaker R S f s new r = record { db = r.db; queue = r.queue; spoilt = r.spoilt; many = r.many; each = λ k below. f _ _ (r.each k below) }

-- of sessions that were gone over one by one
pub reviewed_each : (R : Look → Look → Type 0) (olds news : List Kept) → Each new_kept (Reviews R) olds news → AreReviewed R olds news
reviewed_each R olds news e other = each_at new_kept (Reviews R) olds news other (blank R) e

-- sessions that watch nothing
silent_at : {T : Type 0} (told : T → Option Entry) (items : List (Session T)) (other : ℕ) → All IsSilent items → (session_at (all_kept told items) other).watched ≡ []
silent_at told [] other none = refl
silent_at told (s ∷ items) zero none = ap (looks told) (All-head IsSilent s items none)
silent_at told (s ∷ items) (suc other) none = silent_at told items other (All-tail IsSilent s items none)

pub reviewed_none : {T : Type 0} (told : T → Option Entry) (R : Look → Look → Type 0) (items : List (Session T)) → All IsSilent items → AreReviewed R (all_kept told items) (all_kept told items)
reviewed_none told R items none other = record {
  db = refl;
  queue = refl;
  spoilt = refl;
  many = refl;
  each = λ k below. let long = ap length (silent_at told items other none) in absurd (omega (arith, below, long));
}

module _ {E : Type 0} (v : View E) (executes : ℕ → E → Words → List Part → E → Type 0) (works : ℕ → Plan → E → E → Type 0) (quits : Words → Bool) (modelled : IsModelled v executes works quits)
    (moment : ℕ) (old new : E) (words : Words) (reply : List Part) where
  abbrev before : ℕ → List ℕ → Option Entry
  before = seen_in v (max (v.last old) moment) old

  abbrev after : ℕ → List ℕ → Option Entry
  after = seen_in v (max (v.last new) moment) new

  -- what was run
  pub record Told (ran : Ran) (db : ℕ) (queue : Option (List (List ℕ))) : Type 0 where
    pub nothing : ran ≡ rans.Nothing → new ≡ old
    pub request : ran ≡ rans.Request → executes moment (v.choose old db) words reply new
    pub queued : ran ≡ rans.Queue → RanQueue v executes moment old queue new

  -- what needn't be looked at stands as it stood
  glanced : (ran : Ran) (db : ℕ) (queue : Option (List (List ℕ))) → Told ran db queue → (one one' : Look)
      → Passed (MayHaveWritten ran db words queue one.db one.key) after one one' → Glances before after one one'
  glanced ran db queue t one one' (seen l) = looked l
  glanced rans.Nothing db queue t one one' (left off is) = left_out (ap (λ (e : E). seen_in v (max (v.last e) moment) e one.db one.key) (t.nothing refl)) is
  glanced rans.Request db queue t one one' (left off is) = left_out (untouched v executes works quits modelled moment old new db words reply (t.request refl) one.db one.key off) is
  glanced rans.Queue db queue t one one' (left off is) = left_out (queue_stays v executes works quits modelled moment old new queue (t.queued refl) one.db one.key off) is

  -- watched keys are looked at where something may have been written
  pub serves_passed : (sessions : ℕ → Kept) (mids news : List Kept) (number : ℕ) (ran : Ran) (db : ℕ) (queue : Option (List (List ℕ)))
      → AnswersOf v executes moment old new sessions (session_at mids) number words reply → Told ran db queue
      → AreReviewed (λ one one'. Passed (MayHaveWritten ran db words queue one.db one.key) after one one') mids news
      → Serves v executes moment old new sessions (session_at news) number words reply
  serves_passed sessions mids news number ran db queue a t passed = record {
    request = a.request;
    kept = a.kept;
    answers = a.answers;
    reviews = λ other. subst (λ (s : Kept). Reviews (Glances before after) s (session_at news other)) (a.are other)
        (weaker (λ one one'. Passed (MayHaveWritten ran db words queue one.db one.key) after one one') (Glances before after) (glanced ran db queue t) (session_at mids other) (session_at news other)
        (passed other));
  }

-- sessions of which nothing needs a look
pub reviewed_left : (sees : ℕ → List ℕ → Option Entry) (kept : List Kept) → AreReviewed (λ one new. Passed ⊥ sees one new) kept kept
reviewed_left sees kept other = record { db = refl; queue = refl; spoilt = refl; many = refl; each = λ k below. left (λ n. n) refl }

-- fewer of them need a look
pub all_weaker : (sees : ℕ → List ℕ → Option Entry) (N M : Look → Type 0) → ((one : Look) → M one → N one) → (olds news : List Kept)
    → AreReviewed (λ one new. Passed (N one) sees one new) olds news → AreReviewed (λ one new. Passed (M one) sees one new) olds news
all_weaker sees N M f olds news r other =
    weaker (λ one new. Passed (N one) sees one new) (λ one new. Passed (M one) sees one new) (λ one new. passed_weaker sees (N one) (M one) one new (f one)) (session_at olds other) (session_at news other) (r other)

-- the same places
pub among_is : (list list' : List Place) (emptied emptied' : Emptied) (selected selected' db : ℕ) (key : List ℕ) → list ≡ list' → emptied ≡ emptied' → selected ≡ selected'
    → IsIn list emptied selected db key → IsIn list' emptied' selected' db key
among_is list list' emptied emptied' selected selected' db key same_list same_emptied same_selected i =
    subst (λ n. IsIn list' emptied' n db key) same_selected (subst (λ e. IsIn list' e selected db key) same_emptied (subst (λ l. IsIn l emptied selected db key) same_list i))

-- what is watched of a session was gone over
pub reviewed_watched : (R : Look → Look → Type 0) (s new : Kept) → new ≡ watching s new.watched → length new.watched ≡ length s.watched
    → ((k : ℕ) → k < length s.watched → R (get_or s.watched k no_look) (get_or new.watched k no_look)) → Reviews R s new
reviewed_watched R s new is many each = record {
  db = ap (λ (k : Kept). k.db) is;
  queue = ap (λ (k : Kept). k.queue) is;
  spoilt = ap (λ (k : Kept). k.spoilt) is;
  many = many;
  each = each;
}

-- one of the sessions is put in its place
module _ {T : Type 0} (told : T → Option Entry) (items : List (Session T)) (olds : List Kept) (number : ℕ) (x y : Session T) (here : number < length items) (is : x ≡ get_or items number x)
    (kept : (other : ℕ) → session_at (all_kept told items) other ≡ session_at olds other) where
  pub own_at : kept_of told x ≡ session_at olds number
  own_at = ap (kept_of told) is ∙ sym (get_or-map (kept_of told) items number x new_kept here) ∙ kept number

  pub others_at : (other : ℕ) → session_at (all_kept told (set items number y)) other ≡ with_kept (session_at olds) number (kept_of told y) other
  others_at other = ap (λ l. session_at l other) (map-set (kept_of told) items number y) ∙ elim (cases_eq other number) [
    | inl same ↦ ap (session_at (set (all_kept told items) number (kept_of told y))) same
        ∙ get_or-set_same (all_kept told items) number (kept_of told y) new_kept within
        ∙ sym (cond-true _ _ _ (eq-eqb other number same))
    | inr elsewhere ↦ get_or-set_other (all_kept told items) number other (kept_of told y) new_kept elsewhere ∙ kept other ∙ sym (cond-false _ _ _ (ne_eqb other number elsewhere))
  ]
    where
      within : number < length (all_kept told items)
      within = let long = length-map items (kept_of told) in omega (arith, here, long)
