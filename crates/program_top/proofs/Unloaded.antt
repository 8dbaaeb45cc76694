-- What a run comes to whose file can't be loaded, whatever is served otherwise.
use Rattle.std.proofs.Common.{◌≡◌, ◌<◌, ◌≤◌, ℕ, List, Option, Some, None, length, refl, sym, ap, subst, ◌∙◌, inl, inr, arith}
use Rattle.std.specs.Prelude.{◌⊎◌, IsSome}
use Rattle.outside.specs.Clocks.{Answers}
use Rattle.outside.specs.Files.{Files, IsListed}
use Rattle.outside.specs.Streams.{SinkSeen}
use Rattle.plain_world.specs.Worlds.{World}
use Rattle.rdb_grammar.specs.Files.{IsFile, IsFault}
use Rattle.rdb_grammar.specs.declared.fault.LoadKind.{LoadKind}
use Rattle.rdb_grammar.proofs.OneWorld.{exactly_one}
use Rattle.rdb_reader.specs.Named.{IsFileOf}
use Rattle.serving.specs.Timed.{ReadsMoment}
use Rattle.program_top.specs.Given.{Options, Given, Run, Outside}
use Rattle.program_top.specs.Headline.{CanBegin, IsTold, IsAbsent, AtFirst, Excused, HostStops, IsRefused, OfFiles}
use Rattle.program_top.specs.Notes.{Notes, refused_line, line_of}
use Rattle.program_top.specs.Running.{Fails}
use Rattle.program_top.specs.Starting.{Standing, IsLoaded, BeginsWith, Begins, NotLoaded, NotBegun, UsesHost, is_host}
use Rattle.program_top.specs.Statuses.{status_of}
use Rattle.program_top.specs.declared.ending.Ending.{Ending}
use Rattle.program_top.specs.declared.ending.Ending.TheVariants as endings
use Rattle.program_top.proofs.Counted.{six_is_host, host_stops}

-- ---- the bytes of a file that is told

-- the bytes of a name's file are those that the host tells
told_file : (files : Files) (name bytes other : List ℕ) → IsTold files name bytes → IsFileOf files name other → other ≡ bytes
told_file None name bytes other t o = absurd t
told_file (Some all) name bytes other t o = cc

-- where the host tells that a name has no file it has no bytes
no_file : (files : Files) (name bytes : List ℕ) → IsAbsent files name → IsFileOf files name bytes → ⊥
no_file None name bytes none p = absurd none
no_file (Some all) name bytes none p = cc

-- a name whose bytes the host tells has a file
pub is_listed : (files : Files) (name bytes : List ℕ) → IsTold files name bytes → IsListed files name
is_listed None name bytes t = absurd t
is_listed (Some all) name bytes t = let P : Option (List ℕ) → Type 0 = λ o. IsSome o in subst P (sym t) refl

-- the same bytes aren't both a file of a world and at fault at one moment
not_both : (a b : List ℕ) (moment : ℕ) (world : World) (what : LoadKind) (at : ℕ) → a ≡ b → IsFile a moment world → IsFault b moment what at → ⊥
not_both a b moment world what at e file fault = let P : List ℕ → Type 0 = λ x. IsFile x moment world in (exactly_one b moment).not_both world what at (subst P e file) fault

-- ---- a file that is not loaded

module _ (files : Files) (limit : ℕ) (name : List ℕ) (moment : ℕ) where
  -- where a file that can be loaded isn't loaded the host failed or memory wanted
  loadable_excused : (bytes : List ℕ) (world : World) → IsTold files name bytes → length bytes ≤ limit → IsFile bytes moment world → (ending : Ending)
      → NotLoaded files limit name moment ending → Excused (status_of ending)
  loadable_excused bytes world t few file endings.Host n = inl refl
  loadable_excused bytes world t few file (endings.Refused what at) n = absurd (not_both bytes n.bytes moment world what at (sym (told_file files name bytes n.bytes t n.is)) file n.fault)
  loadable_excused bytes world t few file endings.Limit n = absurd (omega (arith, ap length (told_file files name bytes n.bytes t n.is), few, n.long))
  loadable_excused bytes world t few file endings.Memory n = inr refl
  loadable_excused bytes world t few file endings.Whole n = absurd n
  loadable_excused bytes world t few file endings.Quit n = absurd n
  loadable_excused bytes world t few file endings.Usage n = absurd n
  loadable_excused bytes world t few file (endings.Protocol rule at) n = absurd n
  loadable_excused bytes world t few file endings.Cut n = absurd n
  loadable_excused bytes world t few file endings.ReadFault n = absurd n
  loadable_excused bytes world t few file endings.WriteFault n = absurd n

  -- where the name has no file to be loaded the host failed or memory wanted
  absent_excused : IsAbsent files name → (ending : Ending) → NotLoaded files limit name moment ending → Excused (status_of ending)
  absent_excused none endings.Host n = inl refl
  absent_excused none (endings.Refused what at) n = absurd (no_file files name n.bytes none n.is)
  absent_excused none endings.Limit n = absurd (no_file files name n.bytes none n.is)
  absent_excused none endings.Memory n = inr refl
  absent_excused none endings.Whole n = absurd n
  absent_excused none endings.Quit n = absurd n
  absent_excused none endings.Usage n = absurd n
  absent_excused none (endings.Protocol rule at) n = absurd n
  absent_excused none endings.Cut n = absurd n
  absent_excused none endings.ReadFault n = absurd n
  absent_excused none endings.WriteFault n = absurd n

  -- a file longer than the limit that isn't loaded gives status 9, unless the host failed or memory wanted
  long_ends : (bytes : List ℕ) → IsTold files name bytes → limit < length bytes → (ending : Ending) → NotLoaded files limit name moment ending → (status_of ending ≡ 9)
      ⊎ ((status_of ending ≡ 8) ⊎ (status_of ending ≡ 6))
  long_ends bytes t long endings.Host n = inr (inr refl)
  long_ends bytes t long (endings.Refused what at) n = absurd (omega (arith, ap length (told_file files name bytes n.bytes t n.is), n.few))
  long_ends bytes t long endings.Limit n = inl refl
  long_ends bytes t long endings.Memory n = inr (inl refl)
  long_ends bytes t long endings.Whole n = absurd n
  long_ends bytes t long endings.Quit n = absurd n
  long_ends bytes t long endings.Usage n = absurd n
  long_ends bytes t long (endings.Protocol rule at) n = absurd n
  long_ends bytes t long endings.Cut n = absurd n
  long_ends bytes t long endings.ReadFault n = absurd n
  long_ends bytes t long endings.WriteFault n = absurd n

  module _ (noted noted' : SinkSeen) where
    -- the line of a fault is that of the file's one fault
    line_is : (a b : List ℕ) (k l : LoadKind) (m n : ℕ) → a ≡ b → IsFault a moment k m → IsFault b moment l n → Notes noted noted' (refused_line k m) → Notes noted noted' (refused_line l n)
    line_is a b k l m n e f g h =
        let F : List ℕ → Type 0 = λ x. IsFault x moment k m in
        let one = (exactly_one b moment).one_fault k l m n (subst F e f) g in
        let P : LoadKind → Type 0 = λ x. Notes noted noted' (refused_line x m) in
        let Q : ℕ → Type 0 = λ x. Notes noted noted' (refused_line l x) in
        subst Q one.1 (subst P one.0 h)

    -- a file within the limit with a fault gives status 7 and its line, unless the host failed or memory wanted
    refused_ends : (bytes : List ℕ) (what : LoadKind) (at : ℕ) → IsTold files name bytes → length bytes ≤ limit → IsFault bytes moment what at → (ending : Ending)
        → NotLoaded files limit name moment ending → Notes noted noted' (line_of ending)
        → Excused (status_of ending) ⊎ ((status_of ending ≡ 7) × Notes noted noted' (refused_line what at))
    refused_ends bytes what at t few fault endings.Host n w = inl (inl refl)
    refused_ends bytes what at t few fault (endings.Refused k m) n w = inr (refl, line_is n.bytes bytes k what m at (told_file files name bytes n.bytes t n.is) n.fault fault w)
    refused_ends bytes what at t few fault endings.Limit n w = absurd (omega (arith, ap length (told_file files name bytes n.bytes t n.is), n.long))
    refused_ends bytes what at t few fault endings.Memory n w = inl (inr refl)
    refused_ends bytes what at t few fault endings.Whole n w = absurd n
    refused_ends bytes what at t few fault endings.Quit n w = absurd n
    refused_ends bytes what at t few fault endings.Usage n w = absurd n
    refused_ends bytes what at t few fault (endings.Protocol rule at') n w = absurd n
    refused_ends bytes what at t few fault endings.Cut n w = absurd n
    refused_ends bytes what at t few fault endings.ReadFault n w = absurd n
    refused_ends bytes what at t few fault endings.WriteFault n w = absurd n

-- ---- a run and its status

module _ (before after : Outside) where
  -- where a run that can begin doesn't begin the host failed or memory wanted
  pub excuse : (options : Options) (file : Option (List ℕ)) (why : Ending) (moment : ℕ) (clock : Option Answers) → CanBegin before options file → ReadsMoment before.clock clock moment
      → NotBegun before.host.files options.max_input file moment why → Excused (status_of why)
  excuse options None why moment clock can at n = inr (ap status_of n)
  excuse options (Some name) why moment clock can at n =
      let file = can.file moment clock at in
      loadable_excused before.host.files options.max_input name moment can.bytes file.0 can.is can.few file.1 why n

  -- the file is this one
  loaded_as : (options : Options) (name : List ℕ) (first : Standing) → options.file ≡ Some name → Begins options before first → IsLoaded before.host.files options.max_input name first.last first.world
  loaded_as options name first is b = let P : Option (List ℕ) → Type 0 = λ o. BeginsWith before.host.files options.max_input o first.last first.world in subst P is b.world

  module _ (status : ℕ) where
    -- a run with these options began, or it didn't and ended so
    pub data Came (options : Options) : Type 0 where
      began : (first : Standing) → Begins options before first → (status ≡ 7 → ⊥) → Came options
      failed : (why : Ending) → Fails options before after why → status ≡ status_of why → Notes before.notes after.notes (line_of why) → Came options

    -- a run that doesn't begin didn't load the file that its options name
    not_loaded_as : (options : Options) (name : List ℕ) (why : Ending) → options.file ≡ Some name → (f : Fails options before after why)
        → NotLoaded before.host.files options.max_input name f.moment why
    not_loaded_as options name why is f = let P : Option (List ℕ) → Type 0 = λ o. NotBegun before.host.files options.max_input o f.moment why in subst P is f.why

    -- a file within the limit that has a fault ends with status 7 and its line, or the host failed or memory wanted
    refused : (options : Options) → Came options → (name bytes : List ℕ) (what : LoadKind) (at : ℕ) → options.file ≡ Some name → IsTold before.host.files name bytes
        → length bytes ≤ options.max_input → AtFirst before.clock (λ moment. IsFault bytes moment what at)
        → Excused status ⊎ ((status ≡ 7) × Notes before.notes after.notes (refused_line what at))
    refused options (began first b not) name bytes what at file t few fault =
        let l = loaded_as options name first file b in
        absurd (not_both l.bytes bytes first.last first.world what at (told_file before.host.files name bytes l.bytes t l.is) l.file (fault first.last first.clock b.moment))
    refused options (failed why f is line) name bytes what at file t few fault =
        let P : ℕ → Type 0 = λ s. Excused s ⊎ ((s ≡ 7) × Notes before.notes after.notes (refused_line what at)) in
        subst P (sym is) (refused_ends before.host.files options.max_input name f.moment before.notes after.notes bytes what at t few (fault f.moment after.clock f.read) why
        (not_loaded_as options name why file f) line)

    module _ (given : Given) (options : Options) (given_is : given ≡ Run options) where
      -- the file that a refusal is of
      refusal : (why : Ending) (f : Fails options before after why) (file : Option (List ℕ)) → options.file ≡ file → NotBegun before.host.files options.max_input file f.moment why
          → Notes before.notes after.notes (line_of why) → status_of why ≡ 7 → IsRefused given before after
      refusal why f None is n line seven = absurd (omega (arith, ap status_of n, seven))
      refusal (endings.Refused what at) f (Some name) is n line seven = record {
        options = options;
        name = name;
        given_is = given_is;
        file_is = is;
        what = what;
        at = at;
        moment = f.moment;
        clock = after.clock;
        read = f.read;
        refused = n;
        line = line;
      }
      refusal endings.Host f (Some name) is n line seven = absurd (omega (arith, seven))
      refusal endings.Limit f (Some name) is n line seven = absurd (omega (arith, seven))
      refusal endings.Memory f (Some name) is n line seven = absurd (omega (arith, seven))
      refusal endings.Whole f (Some name) is n line seven = absurd (omega (arith, seven))
      refusal endings.Quit f (Some name) is n line seven = absurd (omega (arith, seven))
      refusal endings.Usage f (Some name) is n line seven = absurd (omega (arith, seven))
      refusal (endings.Protocol rule at) f (Some name) is n line seven = absurd (omega (arith, seven))
      refusal endings.Cut f (Some name) is n line seven = absurd (omega (arith, seven))
      refusal endings.ReadFault f (Some name) is n line seven = absurd (omega (arith, seven))
      refusal endings.WriteFault f (Some name) is n line seven = absurd (omega (arith, seven))

      -- status 7 comes only of a file that is refused
      refused_alone : Came options → status ≡ 7 → IsRefused given before after
      refused_alone (began first b not) seven = absurd (not seven)
      refused_alone (failed why f is line) seven = refusal why f options.file refl f.why line (sym is ∙ seven)

    -- a file of more bytes than the limit ends the run with status 9, unless memory wanted or the host failed before
    long : (options : Options) → Came options → (name bytes : List ℕ) → options.file ≡ Some name → IsTold before.host.files name bytes → options.max_input < length bytes
        → (status ≡ 9) ⊎ ((status ≡ 8) ⊎ HostStops before after options.max_input name status)
    long options (began first b not) name bytes file t h = let l = loaded_as options name first file b in
        absurd (omega (arith, ap length (told_file before.host.files name bytes l.bytes t l.is), l.few, h))
    long options (failed why f is line) name bytes file t h =
        let P : ℕ → Type 0 = λ s. (s ≡ 9) ⊎ ((s ≡ 8) ⊎ HostStops before after options.max_input name s) in
        subst P (sym is) (by (long_ends before.host.files options.max_input name f.moment bytes t h why (not_loaded_as options name why file f)))
      where
        used : UsesHost options.max_input (Some name) before.host after.host (is_host why)
        used = let H : Option (List ℕ) → Type 0 = λ o. UsesHost options.max_input o before.host after.host (is_host why) in subst H file f.host

        by : (status_of why ≡ 9) ⊎ ((status_of why ≡ 8) ⊎ (status_of why ≡ 6)) → (status_of why ≡ 9)
            ⊎ ((status_of why ≡ 8) ⊎ HostStops before after options.max_input name (status_of why))
        by (inl nine) = inl nine
        by (inr (inl eight)) = inr (inl eight)
        by (inr (inr six)) = inr (inr (six, host_stops options.max_input before.host after.host name (is_host why) used (six_is_host why six)))

    -- a run whose name has no file ends by a fault of the host, or by want of memory
    absent : (options : Options) → Came options → (name : List ℕ) → options.file ≡ Some name → IsAbsent before.host.files name → Excused status
    absent options (began first b not) name file none = let l = loaded_as options name first file b in absurd (no_file before.host.files name l.bytes none l.is)
    absent options (failed why f is line) name file none =
        subst Excused (sym is) (absent_excused before.host.files options.max_input name f.moment none why (not_loaded_as options name why file f))

    -- what a file comes to that can't be loaded, of a run that came so to its status
    pub files_of : (given : Given) → ((options : Options) → given ≡ Run options → Came options) → (status ≡ 7 → (options : Options) × (given ≡ Run options)) → OfFiles given before after status
    files_of given came seven_runs = record {
      refused = λ options name bytes what at e. refused options (came options e) name bytes what at;
      refused_alone = λ seven. let r = seven_runs seven in refused_alone given r.0 r.1 (came r.0 r.1) seven;
      long = λ options name bytes e. long options (came options e) name bytes;
      absent = λ options name e. absent options (came options e) name;
    }

    -- and where memory wanted
    pub eight_files : (given : Given) → status ≡ 8 → OfFiles given before after status
    eight_files given eight = record {
      refused = λ options name bytes what at e f t few fault. inl (inr eight);
      refused_alone = λ seven. absurd (omega (arith, seven, eight));
      long = λ options name bytes e f t h. inr (inl eight);
      absent = λ options name e f none. inr eight;
    }
