-- A stream at a key that was changed, or put there.
use Rattle.std.proofs.Common.{◌≡◌, false, ℕ, List, Option, None, Some, Result, Ok, Err, OnOk, refl, sym, ap, subst, ◌∙◌}
use Rattle.blocks.specs.Blocks.{Blocks}
use Rattle.object_codec.specs.declared.form.Form.TheVariants as forms
use Rattle.stream_object.specs.Streams as object
use Rattle.stream_object.specs.declared.stream.Stream as kept
use Rattle.plain_world.specs.Streams.{Stream}
use Rattle.plain_world.specs.Worlds.{World, Entry, StreamOf, look, put, deadline_of}
use Rattle.plain_world.specs.Worlds as model
use Rattle.plain_model.specs.OfType.{stream_in}
use Rattle.plain_model.specs.StreamSteps.{or_no_stream, no_stream}
use Rattle.plain_model.specs.declared.ctx.Ctx.{Ctx}
use Rattle.held.specs.Calls.{StandsAt}
use Rattle.held.proofs.Written.{written_key}
use Rattle.keyspace.specs.declared.value.Value.{Value}
use Rattle.keyspace.specs.declared.value.Value.TheVariants as kinds
use Rattle.keyspace.specs.Calls.{Found}
use Rattle.std.specs.Global.{Box}
use Rattle.keyspace.specs.Sound.{Sound}
use Rattle.keyspace.specs.Values.{OfForm, value_of, value_refs, IsSound}
use Rattle.keyspace.specs.Databases.{Bases, Keyspace}
use Rattle.keyspace.specs.Scopes.{one_key}
use Rattle.keyspace.specs.Forms.{Log, HasForm, Formed}
use Rattle.keyspace.specs.Commands.{KeepsTo, seen, visible}
use Rattle.keyspace.specs.Edits.{Shape, shape, Edits, MakesNew}
use Rattle.cmd_streams.specs.Changed.{HasStream, StreamItem, IsStreamThat, Made, MakesStream, StreamChanged}
use Rattle.cmd_streams.specs.Found.{FoundStream}
use Rattle.cmd_streams.proofs.Looking.{is_stream}

pub not_stream : (value : Value) → ((box : Box kept.Stream) → value ≡ kinds.Stream box → ⊥) → is_stream value ≡ false
not_stream (kinds.Text text) other = refl
not_stream (kinds.Stream box) other = absurd (other box refl)
not_stream (kinds.Set box) other = refl
not_stream (kinds.List box) other = refl
not_stream (kinds.Hash box) other = refl
not_stream (kinds.Zset box) other = refl

-- the stream that was found at a key
pub stream_item : (bases : Bases) (m : Blocks) (at : Ctx) (key : List ℕ) (number : ℕ) (value : Value) (box : Box kept.Stream) → value ≡ kinds.Stream box
    → StandsAt bases m at.db key at.moment number → Found bases m at.db key at.moment value → StreamItem (seen at bases m) bases m at.db key at.moment number
stream_item bases m at key number value box is there found = record {
  there = there;
  stream = object.stream_of m box.value;
  has = record { deadline = found.deadline; stands = found.stands ∙ ap (λ (v : Value). Some (record { value = value_of m v; deadline = found.deadline })) is };
}

-- the value that was found at a key is a stream
pub found_stream : (bases : Bases) (m : Blocks) (at : Ctx) (key : List ℕ) (value : Value) (box : Box kept.Stream) → value ≡ kinds.Stream box → Sound bases m
    → Found bases m at.db key at.moment value → FoundStream (seen at bases m) m key box.value
found_stream bases m at key value box is sound found =
    let own = subst (Found bases m at.db key at.moment) is found in
    record {
      deadline = own.deadline;
      stands = own.stands;
      sound = subst (IsSound bases.limits bases.seed m) own.has.is (sound.arranged.values at.db own.has.at own.has.element own.has.found);
    }

-- what holds of the value that stands at a key, where one does
abbrev HoldsThere : (Stream → Type 0) → Option Entry → Type 0
HoldsThere Is None = Unit {0}
HoldsThere Is (Some entry) = IsStreamThat Is entry.value

pub takes_there : (Is : Stream → Type 0) (world : World) (key : List ℕ) (stream : Stream) → HasStream world key stream → Is stream → (entry : Entry) → look world key ≡ Some entry
    → IsStreamThat Is entry.value
takes_there Is world key stream has holds entry is = subst (HoldsThere Is) (sym has.stands ∙ is) holds

module _ {S T X : Type 0} (makes : T → T → Shape → Shape → Type 0) (own : Made) (first last : T) (blocks : S → Blocks) (old new : Keyspace S) (at : Ctx) (key : List ℕ)
    (same : (o n : Shape) → makes first last o n → MakesStream own o n) where
  pub stream_new : (fresh : Value) → value_of (blocks old.store) fresh ≡ StreamOf no_stream → look (visible blocks old at) key ≡ None
      → (result : Result (Unit {0}) X) → OnOk result (MakesNew makes first last blocks old new at key fresh) → OnOk result (StreamChanged own blocks old new at key)
  stream_new fresh blank none (Err e) p = tt
  stream_new fresh blank none (Ok u) p =
      let q = same (shape (blocks old.store) fresh) p.is p.made in
      let nothing : q.stream ≡ no_stream = ap (λ (v : model.Value). or_no_stream (stream_in v)) (sym q.was ∙ blank) in
      record {
        before = None;
        stands = none;
        now = q.now;
        made = subst (λ (s : Stream). own s q.now) nothing q.made;
        world = p.world ∙ ap (λ (v : model.Value). put (visible blocks old at) key (record { value = v; deadline = None })) q.is
            ∙ ap (λ (d : Option ℕ). put (visible blocks old at) key (record { value = StreamOf q.now; deadline = d })) (sym (ap deadline_of none));
        value = p.now;
        only = p.only;
        encoded = p.encoded ∙ q.is_form;
      }

  pub stream_changed : (result : Result (Unit {0}) X) → OnOk result (Edits makes first last blocks old new at key) → OnOk result (StreamChanged own blocks old new at key)
  stream_changed (Err e) p = tt
  stream_changed (Ok u) p =
      let q = same (shape (blocks old.store) p.was) (shape (blocks new.store) p.now) p.made in
      record {
        before = Some q.stream;
        stands = record { deadline = p.deadline; stands = p.stands ∙ ap (λ (v : model.Value). Some (record { value = v; deadline = p.deadline })) q.was };
        now = q.now;
        made = q.made;
        world = p.world ∙ ap (λ (v : model.Value). put (visible blocks old at) key (record { value = v; deadline = p.deadline })) q.is
            ∙ ap (λ (d : Option ℕ). put (visible blocks old at) key (record { value = StreamOf q.now; deadline = d })) (sym (ap deadline_of p.stands));
        value = p.now;
        only = p.only;
        encoded = q.is_form;
      }

-- the stream that was written is encoded as any stream
pub formed_log : {S : Type 0} (own : Made) (blocks : S → Blocks) (step : S → S → Type 0) (old new : Keyspace S) (at : Ctx) (key : List ℕ) (p : StreamChanged own blocks old new at key)
    → KeepsTo blocks step (one_key at.db key) old new → Formed blocks Log old new
formed_log own blocks step old new at key p held =
    written_key value_refs (HasForm Log old.bases (blocks old.store)) at.db key p.value p.encoded old.bases new.bases (blocks old.store) (blocks new.store) held.within held.sound.arranged p.only

-- what an edit makes of a stream, it makes of the value
pub made_stream : {X : Type 0} (own : Made) (old new : Shape) (s t : Stream) → old.means ≡ StreamOf s → new.means ≡ StreamOf t → new.encoding ≡ OfForm forms.Stream
    → (result : Result (Unit {0}) X) → OnOk result (own s t) → OnOk result (MakesStream own old new)
made_stream own old new s t was is form (Ok u) made = record { stream = s; now = t; was = was; is = is; is_form = form; made = made }
made_stream own old new s t was is form (Err e) made = tt
