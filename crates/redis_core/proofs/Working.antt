-- The work of a plan: what was done one after the other is done.
use Rattle.std.proofs.Common.{◌≡◌, Option, ℕ, ◌≤◌, max, refl, arith, sym, ap, subst, ◌∙◌}
use Rattle.outside.specs.declared.pacing.Plan.{Plan}
use Rattle.blocks.specs.Blocks.{Blocks, Served}
use Rattle.blocks.specs.Slabs.{Heap}
use Rattle.std.specs.Prelude.{◌↔◌}
use Rattle.defrag.specs.Ways.{shapes, SameShapes, Goes}
use Rattle.defrag.specs.declared.walk.Visit.{Visit}
use Rattle.defrag.specs.declared.walk.Visit.TheVariants.{More, Done}
use Rattle.defrag.specs.declared.walk.Walk.{Walk}
use Rattle.held.specs.Relocation.{Relocates}
use Rattle.held.specs.Expiry.{Expired}
use Rattle.held.specs.Rehash.{Rehashed}
use Rattle.plain_world.specs.Worlds.{live}
use Rattle.keyspace.specs.Databases.{Bases, Keyspace, SameSettings, means}
use Rattle.keyspace.specs.Sound.{Sound}
use Rattle.keyspace.specs.Values.{value_tables, IsSound, value_of, value_refs, value_marks, encoding_of}
use Rattle.keyspace.proofs.Calls.{settings_then}
use Rattle.redis_core.specs.Walking.{left_open, IsSweptTo, HasLeastSlabs, Opens, WalksOn, Packs}
use Rattle.redis_core.specs.Background.{DoesPlan, EngineRests}
use Rattle.redis_core.specs.Walking.{Packs as packs}
use Rattle.redis_core.specs.Engines.{State, keyspace_of}
use Rattle.redis_core.specs.declared.background.StepsDone.{StepsDone}

module _ {S : Type 0} (blocks : S → Blocks) (heap : S → Heap) (old mid new : Keyspace S) (before : Option Walk) (from to : Walk) (visit : Visit)
    (opens : Opens blocks heap old mid before from) (bases : mid.bases ≡ old.bases) (same : blocks mid.store ≡ blocks old.store) where
  -- a keyspace over which a walk was opened is the same
  pub opened_sound : Sound old.bases (blocks old.store) → Sound mid.bases (blocks mid.store)
  opened_sound sound = subst (λ (b : Bases). Sound b (blocks mid.store)) (sym bases) (subst (Sound old.bases) (sym same) sound)

  pub walked_means : Relocates value_refs value_of IsSound mid.bases new.bases (blocks mid.store) (blocks new.store) → (number : ℕ)
      → means number new.bases (blocks new.store) ≡ means number old.bases (blocks old.store)
  walked_means r number = r.means number ∙ ap (λ (b : Bases). means number b (blocks mid.store)) bases ∙ ap (means number old.bases) same

  pub walked_settings : Relocates value_refs value_of IsSound mid.bases new.bases (blocks mid.store) (blocks new.store) → SameSettings old.bases new.bases
  walked_settings r = subst (λ (b : Bases). SameSettings b new.bases) bases r.settings

  -- one step of the walk
  pub walked : Sound old.bases (blocks old.store) → Relocates value_refs value_of IsSound mid.bases new.bases (blocks mid.store) (blocks new.store)
      → SameShapes encoding_of encoding_of mid.bases new.bases → SameShapes (value_tables (blocks mid.store)) (value_tables (blocks new.store)) mid.bases new.bases
      → Goes (shapes (value_marks (blocks mid.store)) mid.bases) from to visit → (visit ≡ Done) ↔ (to.database ≡ 16)
      → (visit ≡ More → IsSweptTo blocks heap mid from → IsSweptTo blocks heap new to)
      → (visit ≡ Done → Sound mid.bases (blocks mid.store) → IsSweptTo blocks heap mid from → HasLeastSlabs blocks heap new)
      → (after : Option Walk) → after ≡ left_open visit to → WalksOn blocks heap old new before after
  walked sound r encodings tables goes ended swept least after left = record {
    mid = mid;
    from = from;
    to = to;
    visit = visit;
    opens = opens;
    relocates = r;
    encodings = encodings;
    tables = tables;
    goes = goes;
    ended = ended;
    left = left;
    swept = swept;
    least = λ is s. least is (opened_sound sound) s;
  }

module _ {S : Type 0} (blocks : S → Blocks) (heap : S → Heap) (step_of : S → S → Type 0) (moment : ℕ) (plan : Plan) (old thinned mid new : Keyspace S) (before after : Option Walk)
    (done : StepsDone) where
  -- expiry steps, then rehash steps, then steps of the walk
  pub worked : Expired value_refs moment old.bases (blocks old.store) plan.expire done.expired thinned.bases (blocks thinned.store) → (plan.expire ≡ 0 → thinned ≡ old)
      → ((number later : ℕ) → moment ≤ later → live (means number thinned.bases (blocks thinned.store)) later ≡ live (means number old.bases (blocks old.store)) later)
      → Served step_of old.store thinned.store → thinned.bases.limits ≡ old.bases.limits → thinned.bases.seed ≡ old.bases.seed
      → Rehashed (blocks thinned.store) plan.rehash done.rehash thinned.bases mid.bases → mid.store ≡ thinned.store
      → ((number : ℕ) → means number mid.bases (blocks thinned.store) ≡ means number thinned.bases (blocks thinned.store)) → SameSettings thinned.bases mid.bases
      → Packs blocks heap mid before done.defrag new after → done.defrag ≡ plan.defrag
      → ((number : ℕ) → means number new.bases (blocks new.store) ≡ means number mid.bases (blocks mid.store)) → Sound new.bases (blocks new.store) → SameSettings mid.bases new.bases
      → DoesPlan blocks heap step_of moment plan old new before after done
  worked expired unthinned stays served limits seed rehashed store world settings packed all packs sound settings' =
      let both = settings_then thinned.bases mid.bases new.bases settings settings' in
      record {
        thinned = thinned;
        expired = expired;
        unthinned = unthinned;
        served = served;
        mid = mid;
        rehashed = rehashed;
        store = store;
        packed = packed;
        all_packed = all;
        stays = λ number later late. ap (λ w. live w later) (packs number) ∙ ap (λ (s : S). live (means number mid.bases (blocks s)) later) store ∙ ap (λ w. live w later) (world number)
            ∙ stays number later late;
        sound = sound;
        settings = both;
        limits = both.limits ∙ limits;
        seed = both.seed ∙ seed;
      }

-- an engine does the work that its keyspace does, at the moment that it used
pub rests : {S : Type 0} (blocks : S → Blocks) (heap : S → Heap) (step_of : S → S → Type 0) (engine inside : State S) (moment : ℕ) (plan : Plan) (bases : Bases) (store : S)
    (walk : Option Walk) (done : StepsDone) → inside ≡ record engine { last = max engine.last moment }
    → DoesPlan blocks heap step_of inside.last plan (record { bases = inside.bases; store = inside.store }) (record { bases = bases; store = store }) inside.walk walk done
    → EngineRests blocks heap step_of moment plan engine (record inside { bases = bases; store = store; walk = walk }) done
rests {S = S} blocks heap step_of engine inside moment plan bases store walk done e w = record {
  last = ap (λ x. x.last) e;
  works = subst (λ (x : State S). DoesPlan blocks heap step_of inside.last plan (keyspace_of x) (record { bases = bases; store = store }) x.walk walk done) e w;
  selected = ap (λ x. x.selected) e;
  alive = ap (λ x. x.is_spent) e;
}

-- no step of the walk leaves all
pub unpacked : {S : Type 0} (blocks : S → Blocks) (heap : S → Heap) (steps : ℕ) → steps ≡ 0 → (old : Keyspace S) (before : Option Walk) (new : Keyspace S) (after : Option Walk)
    → Packs blocks heap old before steps new after → (new ≡ old) × (after ≡ before)
unpacked blocks heap _ none old before _ _ packs.start = (refl, refl)
unpacked blocks heap _ none old before _ _ (packs.more steps mid new walk after p w) = absurd (omega (arith, none))

-- where no expiry step is planned the turn stays, and without a step of the walk the store and the walk stay
pub record Stills {S : Type 0} (step_of : S → S → Type 0) (old new : State S) : Type 0 where
  pub turn : new.bases.turn ≡ old.bases.turn
  pub walk : new.walk ≡ old.walk
  pub served : Served step_of old.store new.store

pub rests_still : {S : Type 0} (blocks : S → Blocks) (heap : S → Heap) (step_of : S → S → Type 0) (moment : ℕ) (plan : Plan) (old new : State S) (done : StepsDone) → plan.expire ≡ 0
    → plan.defrag ≡ 0 → EngineRests blocks heap step_of moment plan old new done → Stills step_of old new
rests_still {S = S} blocks heap step_of moment plan old new done none still r =
    let w = r.works in
    let u = unpacked blocks heap done.defrag (w.all_packed ∙ still) w.mid old.walk (keyspace_of new) new.walk w.packed in
    record {
      turn = w.settings.turn ∙ ap (λ (k : Keyspace S). k.bases.turn) (w.unthinned none);
      walk = u.1;
      served = subst (λ (s : S). Served step_of old.store s) (sym (ap (λ (k : Keyspace S). k.store) u.0 ∙ w.store)) w.served;
    }
