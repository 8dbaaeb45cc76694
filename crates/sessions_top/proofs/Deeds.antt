-- What is answered on a desk's way is a history.
use Rattle.std.proofs.Common.{◌≡◌, ℕ, max, Bool, List, [], ◌∷◌, ◌++◌, Option, refl, sym, ap, ◌∙◌, subst, arith}
use Rattle.std.specs.Prelude.{min}
use Rattle.outside.specs.Clocks.{Answers as ClockAnswers, Tells}
use Rattle.outside.specs.declared.pacing.Plan.{Plan}
use Rattle.plain_world.specs.Words.{Words}
use Rattle.plain_world.specs.Worlds.{latest}
use Rattle.plain_world.specs.declared.reply.Part.{Part}
use Rattle.plain_sessions.specs.Arrivals.{Said, Asks, Breaks, Arrival, arrival}
use Rattle.plain_sessions.specs.Histories.{Room, Deed, Does, history, arrivals_of, Times}
use Rattle.plain_sessions.specs.Histories as histories
use Rattle.plain_sessions.specs.Units.{unit, unit_of, units_of, told_of}
use Rattle.serving.specs.Timed.{Timed}
use Rattle.session_desk.proofs.Rooming.{is_deed, is_broken, still_stands}
use Rattle.session_desk.specs.Desks.{DeskAnswers, DeskRests}
use Rattle.session_desk.specs.Engines.{View, IsModelled}
use Rattle.session_desk.specs.Kept.{DeskSeen, turned}
use Rattle.session_desk.specs.Rooms.{StandsAs}
use Rattle.sessions.specs.Way.{Told, arrivals_in, unit_told, units_told, DoesSaid, DoesCut, way, CutWay, whole, at_last}

module _ {E : Type 0} (v : View E) (executes : ℕ → E → Words → List Part → E → Type 0) (works : ℕ → Plan → E → E → Type 0) (quits : Words → Bool) (modelled : IsModelled v executes works quits)
    (seed : ℕ) where
  abbrev pub turns : ℕ → DeskSeen E → DeskSeen E → Type 0
  turns session old new = new ≡ turned old session

  abbrev pub answers : ℕ → DeskSeen E → Words → List Part → DeskSeen E → Type 0
  answers moment old words reply new = DeskAnswers v executes moment old words reply new

  abbrev pub rests : ℕ → Plan → DeskSeen E → DeskSeen E → Type 0
  rests moment plan old new = DeskRests works moment plan old new

  -- a desk stands as a room at the last moment that its engine used
  pub record Stands (last : ℕ) (desk : DeskSeen E) (room : Room) : Type 0 where
    pub at : v.last desk.engine ≡ last
    pub alike : StandsAs v last desk room
    pub seed_is : v.seed desk.engine ≡ seed

  -- one arrival is one deed
  record OneDeed (last : ℕ) (clock : Option ClockAnswers) (room : Room) (told : Told) (last' : ℕ) (clock' : Option ClockAnswers) (desk : DeskSeen E) : Type 0 where
    deed : Deed
    room' : Room
    is : deed.arrival ≡ told.arrival
    reply_is : deed.left.reply ≡ told.reply
    moment_is : deed.moment ≡ last'
    times : Times last clock deed.arrival.said deed.moment clock'
    does : Does seed room deed room'
    alike : StandsAs v last' desk room'

  -- ... a request, behind which nothing was planned yet
  asks_deed : (last given : ℕ) (clock clock' : Option ClockAnswers) (now : ℕ) (room : Room) (session : ℕ) (words : Words) (old mid : DeskSeen E) (reply : List Part) → Stands last old room
      → Tells clock now clock' → given ≡ min now latest
      → answers given (turned old session) words reply mid
      → OneDeed last clock room (record { arrival = arrival session (Asks words); reply = reply }) (max last given) clock' mid × (max (v.last mid.engine) given ≡ max last given) × (v.seed mid.engine ≡ seed)
  asks_deed last given clock clock' now room session words old mid reply st tells is a =
      let desk : DeskSeen E = turned old session in
      let alike : StandsAs v last desk room = record { late = st.alike.late; holds = st.alike.holds; sessions = st.alike.sessions } in
      let d = is_deed v executes works quits modelled last given (max last given) desk room words reply mid (omega arith) (ap (λ l. max l given) st.at) alike a in (
        record {
          deed = d.deed;
          room' = d.room';
          is = d.is;
          reply_is = d.reply_is;
          moment_is = d.moment_is;
          times = subst (λ (said : Said). Times last clock said d.deed.moment clock') (sym (ap (λ (x : Arrival). x.said) d.is)) (now, tells, d.moment_is ∙ ap (max last) is);
          does = subst (λ s. Does s room d.deed d.room') st.seed_is d.does;
          alike = d.stands;
        },
        d.at,
        d.seed ∙ st.seed_is,
      )

  -- the deeds of a way, and what stands behind them
  pub record Seen (last : ℕ) (clock : Option ClockAnswers) (room : Room) (tolds : List Told) (new : Timed (DeskSeen E)) : Type 0 where
    pub deeds : List Deed
    pub are : arrivals_of deeds ≡ arrivals_in tolds
    pub units_are : units_told tolds ≡ units_of deeds
    pub last' : ℕ
    pub timed : histories.Timed last clock deeds last' new.clock
    pub room' : Room
    pub ran : history seed room deeds room'
    pub alike : StandsAs v last' new.engine room'

  -- the unit of a deed is that of what is told
  unit_is : (deed : Deed) (told : Told) → deed.arrival ≡ told.arrival → deed.left.reply ≡ told.reply → unit_told told ≡ unit_of deed
  unit_is deed told is same = ap (λ (a : Arrival). unit a.session (told_of a.said told.reply)) (sym is) ∙ ap (λ reply. unit deed.arrival.session (told_of deed.arrival.said reply)) (sym same)

  -- one deed and those behind it
  first_seen : (last mid : ℕ) (clock clock' : Option ClockAnswers) (room : Room) (told : Told) (tolds : List Told) (desk : DeskSeen E) (new : Timed (DeskSeen E))
      → (d : OneDeed last clock room told mid clock' desk) → Seen mid clock' d.room' tolds new → Seen last clock room (told ∷ tolds) new
  first_seen last mid clock clock' room told tolds desk new d s = record {
    deeds = d.deed ∷ s.deeds;
    are = ap (λ (a : Arrival). a ∷ arrivals_of s.deeds) d.is ∙ ap (λ l. told.arrival ∷ l) s.are;
    units_are = ap (λ u. u ++ units_told tolds) (unit_is d.deed told d.is d.reply_is) ∙ ap (λ l. unit_of d.deed ++ l) s.units_are;
    last' = s.last';
    timed = (clock', d.times, subst (λ m. histories.Timed m clock' s.deeds s.last' new.clock) (sym d.moment_is) s.timed);
    room' = s.room';
    ran = (d.room', d.does, s.ran);
    alike = s.alike;
  }

  none_seen : (last : ℕ) (room : Room) (old new : Timed (DeskSeen E)) → StandsAs v last old.engine room → new ≡ old → Seen last old.clock room [] new
  none_seen last room old new alike same = record {
    deeds = [];
    are = refl;
    units_are = refl;
    last' = last;
    timed = (refl, ap (λ (t : Timed (DeskSeen E)). t.clock) same);
    room' = room;
    ran = refl;
    alike = subst (λ (t : Timed (DeskSeen E)). StandsAs v last t.engine room) (sym same) alike;
  }

  -- a request that is answered, with what is planned behind it
  record Next (last : ℕ) (clock : Option ClockAnswers) (room : Room) (told : Told) (mid : Timed (DeskSeen E)) : Type 0 where
    after : ℕ
    deed : OneDeed last clock room told after mid.clock mid.engine
    stands : Stands after mid.engine deed.room'

  next_of : (last : ℕ) (room : Room) (session : ℕ) (said : Said) (reply : List Part) (old mid : Timed (DeskSeen E)) → Stands last old.engine room
      → DoesSaid turns answers rests session said old reply mid → Next last old.clock room (record { arrival = arrival session said; reply = reply }) mid
  next_of last room session (Asks words) reply old mid st a =
      let from : answers a.moment (turned old.engine session) words reply a.behind = subst (λ (d : DeskSeen E). answers a.moment d words reply a.behind) a.turning a.answers in
      let one = asks_deed last a.moment old.clock mid.clock a.read.now room session words old.engine a.behind reply st a.read.read a.read.is from in
      let alike = still_stands v executes works quits modelled a.moment (max last a.moment) a.rests.plan a.behind mid.engine one.0.room' one.1 one.0.alike a.rests.done in
      let rest = modelled.rests a.moment a.rests.plan a.behind.engine mid.engine.engine a.rests.done.works in
      record {
        after = max last a.moment;
        deed = record { deed = one.0.deed; room' = one.0.room'; is = one.0.is; reply_is = one.0.reply_is; moment_is = one.0.moment_is; times = one.0.times; does = one.0.does; alike = alike };
        stands = record { at = rest.at ∙ one.1; alike = alike; seed_is = rest.same_seed ∙ one.2 };
      }
  next_of last room session (Breaks rule at) reply old mid st a =
      let b = is_broken v executes works quits modelled last old.engine room session rule at st.alike in
      let desk_is : mid.engine ≡ old.engine = ap (λ (t : Timed (DeskSeen E)). t.engine) a.1 in
      let alike : StandsAs v last mid.engine b.room' = subst (λ (d : DeskSeen E). StandsAs v last d b.room') (sym desk_is) b.stands in
      record {
        after = last;
        deed = record {
          deed = b.deed;
          room' = b.room';
          is = b.is;
          reply_is = b.reply_is ∙ sym a.0;
          moment_is = b.moment_is;
          times = subst (λ (said : Said). Times last old.clock said b.deed.moment mid.clock) (sym (ap (λ (x : Arrival). x.said) b.is)) (b.moment_is, ap (λ (t : Timed (DeskSeen E)). t.clock) a.1);
          does = b.does seed;
          alike = alike;
        };
        stands = record { at = ap (λ (d : DeskSeen E). v.last d.engine) desk_is ∙ st.at; alike = alike; seed_is = ap (λ (d : DeskSeen E). v.seed d.engine) desk_is ∙ st.seed_is };
      }

  -- a way from a desk that stands as a room is a history of the room
  pub way_seen : (last : ℕ) (room : Room) (tolds : List Told) (old new : Timed (DeskSeen E)) → Stands last old.engine room → way turns answers rests old tolds new
      → Seen last old.clock room tolds new
  way_seen last room [] old new st w = none_seen last room old new st.alike w
  way_seen last room (told ∷ tolds) old new st w =
      let n = next_of last room told.arrival.session told.arrival.said told.reply old w.0 st w.1 in
      first_seen last n.after old.clock w.0.clock room told tolds w.0.engine new n.deed (way_seen n.after n.deed.room' tolds w.0 new n.stands w.2)

  -- where the last step may be cut off
  last_seen : (last : ℕ) (room : Room) (session : ℕ) (said : Said) (reply : List Part) (old new : Timed (DeskSeen E)) → Stands last old.engine room
      → DoesCut turns answers rests session said old reply new → Seen last old.clock room (record { arrival = arrival session said; reply = reply } ∷ []) new
  last_seen last room session (Asks words) reply old new st a =
      let from : answers a.moment (turned old.engine session) words reply new.engine = subst (λ (d : DeskSeen E). answers a.moment d words reply new.engine) a.turning a.answers in
      let one = asks_deed last a.moment old.clock new.clock a.read.now room session words old.engine new.engine reply st a.read.read a.read.is from in
      let told : Told = record { arrival = arrival session (Asks words); reply = reply } in
      first_seen last (max last a.moment) old.clock new.clock room told [] new.engine new one.0 (none_seen (max last a.moment) one.0.room' new new one.0.alike refl)
  last_seen last room session (Breaks rule at) reply old new st a =
      let n = next_of last room session (Breaks rule at) reply old new st a in
      let told : Told = record { arrival = arrival session (Breaks rule at); reply = reply } in
      first_seen last n.after old.clock new.clock room told [] new.engine new n.deed (none_seen n.after n.deed.room' new new n.deed.alike refl)

  -- more behind a way
  then_last : (last : ℕ) (room : Room) (front : List Told) (told : Told) (old mid new : Timed (DeskSeen E)) → Stands last old.engine room → way turns answers rests old front mid
      → DoesCut turns answers rests told.arrival.session told.arrival.said mid told.reply new → Seen last old.clock room (front ++ told ∷ []) new
  then_last last room [] told old mid new st w d =
      let D : Timed (DeskSeen E) → Type 0 = λ t. DoesCut turns answers rests told.arrival.session told.arrival.said t told.reply new in
      last_seen last room told.arrival.session told.arrival.said told.reply old new st (subst D w d)
  then_last last room (one ∷ front) told old mid new st w d =
      let n = next_of last room one.arrival.session one.arrival.said one.reply old w.0 st w.1 in
      first_seen last n.after old.clock w.0.clock room one (front ++ told ∷ []) w.0.engine new n.deed (then_last n.after n.deed.room' front told w.0 mid new n.stands w.2 d)

  pub cut_seen : (last : ℕ) (room : Room) (tolds : List Told) (old new : Timed (DeskSeen E)) → Stands last old.engine room → CutWay turns answers rests old tolds new
      → Seen last old.clock room tolds new
  cut_seen last room tolds old new st (whole w) = way_seen last room tolds old new st w
  cut_seen last room tolds old new st (at_last front told mid is w d) =
      subst (λ l. Seen last old.clock room l new) (sym is) (then_last last room front told old mid new st w d)
