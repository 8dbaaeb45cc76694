-- Which status a fault has, and that it is counted there.
use Rattle.std.proofs.Common.{◌≡◌, ◌==◌, ◌<◌, ℕ, List, Option, Some, None, Bool, true, false, refl, sym, ap, ◌∙◌, arith, inl, inr}
use Rattle.std.specs.Prelude.{if◌then◌else◌}
use Rattle.outside.specs.Counts.{Rose}
use Rattle.outside.specs.Files.{Files, HostSeen, IsListed}
use Rattle.outside.specs.Streams.{SourceSeen, SinkSeen}
use Rattle.rdb_reader.specs.Taken.{TakesFile}
use Rattle.serving.specs.Served.{CountsReads, CountsWrites}
use Rattle.serving.specs.declared.ending.Ended.{Ended}
use Rattle.serving.specs.declared.ending.Ended.TheVariants as served
use Rattle.program_top.specs.Headline.{RoseAt}
use Rattle.program_top.specs.Starting.{NotLoaded, NotBegun, UsesHost, is_host}
use Rattle.program_top.specs.Statuses.{status_of, ending_of}
use Rattle.program_top.specs.declared.ending.Ending.{Ending}
use Rattle.program_top.specs.declared.ending.Ending.TheVariants as endings

-- a count that stayed, where another status came
pub stayed : (which status before after : ℕ) → (status ≡ which → ⊥) → after ≡ before → RoseAt which status before after
stayed which status before after not same = record { came = λ e. absurd (not e); other = λ n. same }

rose : (which before after : ℕ) → Rose before after → RoseAt which which before after
rose which before after r = record { came = λ e. r; other = λ n. absurd (n refl) }

module _ (i i1 : SourceSeen) where
  pub reads_at : (ended : Ended) → CountsReads i i1 ended → RoseAt 4 (status_of (ending_of ended)) i.faults i1.faults
  reads_at served.ReadFault c = rose 4 i.faults i1.faults c.0
  reads_at served.Whole c = stayed 4 0 i.faults i1.faults (λ e. omega (arith, e)) c
  reads_at served.Quit c = stayed 4 0 i.faults i1.faults (λ e. omega (arith, e)) c
  reads_at (served.Protocol rule at) c = stayed 4 2 i.faults i1.faults (λ e. omega (arith, e)) c
  reads_at served.Cut c = stayed 4 3 i.faults i1.faults (λ e. omega (arith, e)) c
  reads_at served.WriteFault c = stayed 4 5 i.faults i1.faults (λ e. omega (arith, e)) c
  reads_at served.Memory c = stayed 4 8 i.faults i1.faults (λ e. omega (arith, e)) c
  reads_at served.Limit c = stayed 4 9 i.faults i1.faults (λ e. omega (arith, e)) c

  pub reads_surely : (ended : Ended) → CountsReads i i1 ended → i.sure ≡ true → status_of (ending_of ended) ≡ 4 → ⊥
  reads_surely served.ReadFault c sure e = c.1 sure
  reads_surely served.Whole c sure e = omega (arith, e)
  reads_surely served.Quit c sure e = omega (arith, e)
  reads_surely (served.Protocol rule at) c sure e = omega (arith, e)
  reads_surely served.Cut c sure e = omega (arith, e)
  reads_surely served.WriteFault c sure e = omega (arith, e)
  reads_surely served.Memory c sure e = omega (arith, e)
  reads_surely served.Limit c sure e = omega (arith, e)

pub writes_at : (o o1 : SinkSeen) (ended : Ended) → CountsWrites o o1 ended → RoseAt 5 (status_of (ending_of ended)) o.faults o1.faults
writes_at o o1 served.WriteFault c = rose 5 o.faults o1.faults c
writes_at o o1 served.Whole c = stayed 5 0 o.faults o1.faults (λ e. omega (arith, e)) c
writes_at o o1 served.Quit c = stayed 5 0 o.faults o1.faults (λ e. omega (arith, e)) c
writes_at o o1 (served.Protocol rule at) c = stayed 5 2 o.faults o1.faults (λ e. omega (arith, e)) c
writes_at o o1 served.Cut c = stayed 5 3 o.faults o1.faults (λ e. omega (arith, e)) c
writes_at o o1 served.ReadFault c = stayed 5 4 o.faults o1.faults (λ e. omega (arith, e)) c
writes_at o o1 served.Memory c = stayed 5 8 o.faults o1.faults (λ e. omega (arith, e)) c
writes_at o o1 served.Limit c = stayed 5 9 o.faults o1.faults (λ e. omega (arith, e)) c

-- the statuses of a run that was served
abbrev pub is_served : ℕ → Bool
is_served status = if status == 1 then false else (if status == 6 then false else (if status == 7 then false else true))

pub served_status : (ended : Ended) → is_served (status_of (ending_of ended)) ≡ true
served_status served.Whole = refl
served_status served.Quit = refl
served_status (served.Protocol rule at) = refl
served_status served.Cut = refl
served_status served.ReadFault = refl
served_status served.WriteFault = refl
served_status served.Memory = refl
served_status served.Limit = refl

pub not_served : (ended : Ended) (n : ℕ) → is_served n ≡ false → status_of (ending_of ended) ≡ n → ⊥
not_served ended n is e = let a : is_served n ≡ true = ap is_served (sym e) ∙ served_status ended in cc

-- ---- a run that doesn't begin

loaded_status : (files : Files) (limit : ℕ) (name : List ℕ) (moment : ℕ) (ending : Ending) → NotLoaded files limit name moment ending → 5 < status_of ending
loaded_status files limit name moment endings.Host n = omega arith
loaded_status files limit name moment (endings.Refused what at) n = omega arith
loaded_status files limit name moment endings.Limit n = omega arith
loaded_status files limit name moment endings.Memory n = omega arith
loaded_status files limit name moment endings.Whole n = absurd n
loaded_status files limit name moment endings.Quit n = absurd n
loaded_status files limit name moment endings.Usage n = absurd n
loaded_status files limit name moment (endings.Protocol rule at) n = absurd n
loaded_status files limit name moment endings.Cut n = absurd n
loaded_status files limit name moment endings.ReadFault n = absurd n
loaded_status files limit name moment endings.WriteFault n = absurd n

pub not_begun_status : (files : Files) (limit : ℕ) (file : Option (List ℕ)) (moment : ℕ) (ending : Ending) → NotBegun files limit file moment ending → 5 < status_of ending
not_begun_status files limit None moment ending n = omega (arith, ap status_of n)
not_begun_status files limit (Some name) moment ending n = loaded_status files limit name moment ending n

pub six_is_host : (ending : Ending) → status_of ending ≡ 6 → is_host ending ≡ true
six_is_host endings.Host e = refl
six_is_host (endings.Refused what at) e = absurd (omega (arith, e))
six_is_host endings.Limit e = absurd (omega (arith, e))
six_is_host endings.Memory e = absurd (omega (arith, e))
six_is_host endings.Whole e = absurd (omega (arith, e))
six_is_host endings.Quit e = absurd (omega (arith, e))
six_is_host endings.Usage e = absurd (omega (arith, e))
six_is_host (endings.Protocol rule at) e = absurd (omega (arith, e))
six_is_host endings.Cut e = absurd (omega (arith, e))
six_is_host endings.ReadFault e = absurd (omega (arith, e))
six_is_host endings.WriteFault e = absurd (omega (arith, e))

other_is_not : (ending : Ending) → (status_of ending ≡ 6 → ⊥) → is_host ending ≡ false
other_is_not endings.Host n = absurd (n refl)
other_is_not (endings.Refused what at) n = refl
other_is_not endings.Limit n = refl
other_is_not endings.Memory n = refl
other_is_not endings.Whole n = refl
other_is_not endings.Quit n = refl
other_is_not endings.Usage n = refl
other_is_not (endings.Protocol rule at) n = refl
other_is_not endings.Cut n = refl
other_is_not endings.ReadFault n = refl
other_is_not endings.WriteFault n = refl

module _ (limit : ℕ) (h h1 : HostSeen) where
  host_rose : (file : Option (List ℕ)) (fails : Bool) → UsesHost limit file h h1 fails → fails ≡ true → Rose h.reading.faults h1.reading.faults
  host_rose None fails u e = let a : false ≡ true = sym u.1 ∙ e in cc
  host_rose (Some name) true u e = u.0.0
  host_rose (Some name) false u e = cc

  pub host_same : (file : Option (List ℕ)) (fails : Bool) → UsesHost limit file h h1 fails → fails ≡ false → h1.reading.faults ≡ h.reading.faults
  host_same None fails u e = ap (λ s. s.reading.faults) u.0
  host_same (Some name) true u e = cc
  host_same (Some name) false u e = u.0

  pub host_at : (file : Option (List ℕ)) (ending : Ending) → UsesHost limit file h h1 (is_host ending) → RoseAt 6 (status_of ending) h.reading.faults h1.reading.faults
  host_at file ending u = record {
    came = λ e. host_rose file (is_host ending) u (six_is_host ending e);
    other = λ n. host_same file (is_host ending) u (other_is_not ending n);
  }

  -- a host that surely doesn't fail
  pub host_surely : (name : List ℕ) (fails : Bool) → UsesHost limit (Some name) h h1 fails → h.reading.sure ≡ true → IsListed h.files name → fails ≡ true → ⊥
  host_surely name true u sure listed e = u.0.1 (sure, listed)
  host_surely name false u sure listed e = cc

  -- a host that failed was taken from no further than the limit
  pub host_stops : (name : List ℕ) (fails : Bool) → UsesHost limit (Some name) h h1 fails → fails ≡ true → TakesFile h.files name limit h1 true
  host_stops name true u e = elim u.1 [ inl taken ↦ taken | inr none ↦ absurd (cc none.1) ]
  host_stops name false u e = cc

  pub host_alone : (fails : Bool) → UsesHost limit None h h1 fails → h1 ≡ h
  host_alone fails u = u.0
