-- The bytes of a file, taken piece by piece.
use Rattle.std.proofs.Common.{◌≡◌, ℕ, ◌+◌, ◌<◌, ◌≤◌, List, [], ◌++◌, Option, Some, None, Ok, Err, Bool, true, false, length, refl, sym, ap, subst, ◌∙◌, arith, length-append}
use Rattle.std.specs.Prelude.{IsSome}
use Rattle.std.specs.Global.{Vec}
use Rattle.std.specs.Io.KnownBytes.{Consumes}
use Rattle.std.proofs.KnownBytes.{Consumes-nil}
use Rattle.outside.specs.Streams.{SourceSeen, TakesAll, TakesNone}
use Rattle.outside.specs.Files.{Files, HostSeen, HasLeft, IsListed, Begins}
use Rattle.outside.specs.declared.faults.HostFault.{HostFault}
use Rattle.outside.proofs.Takings.{takes_then, takes_none}
use Rattle.rdb_reader.specs.Named.{IsFileOf, IsLongFile}
use Rattle.rdb_reader.specs.Taken.{TakesUpTo, TakesFile, begun, not_begun, most_of}
use Rattle.rdb_reader.specs.Fetching.{IsAll, IsLong, TakesPiece, Counts, Fetches, FetchesFile}
use Rattle.outside.specs.Counts.{Rose}
use Rattle.rdb_reader.specs.declared.fault.LoadFault.{LoadFault}
use Rattle.rdb_reader.specs.declared.fault.LoadFault.TheVariants as faults

-- more is taken than so much
pub long_taken : (a b : Option (List ℕ)) (x : List ℕ) (limit : ℕ) → Consumes a b x → limit < length x → IsLong a limit
long_taken None b x limit p h = record { all = x; whole = tt; long = h }
long_taken (Some xs) None x limit p h = absurd p
long_taken (Some xs) (Some ys) x limit p h = record { all = xs; whole = refl; long = omega (arith, ap length p, length-append x ys) }

-- the file that was begun
pub file_is : (files : Files) (name bytes : List ℕ) (left : Option (List ℕ)) → HasLeft files name left → IsAll left bytes → IsFileOf files name bytes
file_is None name bytes left b all = tt
file_is (Some files) name bytes None b all = let e : files name ≡ None = sym b.1 in let some : IsSome (files name) = b.0 in cc
file_is (Some files) name bytes (Some xs) b all = sym b.1 ∙ ap Some all

pub long_file : (files : Files) (name : List ℕ) (left : Option (List ℕ)) (limit : ℕ) → HasLeft files name left → IsLong left limit → IsLongFile files name limit
long_file files name left limit b l = record { bytes = l.all; is = file_is files name l.all left b l.whole; long = l.long }

-- a piece leads past the limit
pub long_more : (a b c : SourceSeen) (x y : List ℕ) (limit most : ℕ) → TakesAll a b x → TakesPiece b c most x y → limit < length y → IsLong a.told limit
long_more a b c x y limit most p t h = long_taken a.told c.told y limit (let P : List ℕ → Type 0 = λ l. Consumes a.told c.told l in subst P (sym t.kept) (takes_then a b c x t.piece p t.took).told) h

-- ---- how far a file is taken

module _ (a b c : SourceSeen) (x : List ℕ) (limit : ℕ) (p : TakesAll a b x) (within : length x ≤ limit) where
  -- one piece more is taken, of one byte more than is left at most
  pub taken_on : (piece : List ℕ) (most : ℕ) → TakesAll b c piece → length piece ≤ most → length x + most ≤ limit + 1 → TakesUpTo a.told c.told (limit + 1)
  taken_on piece most t few below = record { taken = x ++ piece; took = (takes_then a b c x piece p t).told; few = omega (arith, length-append x piece, few, below) }

  -- nothing more is taken, as that fails
  pub taken_so_far : TakesNone b c → TakesUpTo a.told c.told limit
  taken_so_far t = record { taken = x; took = takes_none a b c x p t.told; few = within }

-- a call that fails isn't one that is sure
pub not_sure : (let b : Bool = false in b) ≡ true → ⊥
not_sure h = cc

-- a file isn't begun
pub none_begun : (old mid : HostSeen) (name : List ℕ) (limit : ℕ) (e : HostFault) → Begins {E = HostFault} old mid name (Err e) → TakesFile old.files name limit mid true
none_begun old mid name limit e b = not_begun b.begun refl

module _ (old mid : HostSeen) (name : List ℕ) (limit : ℕ) (x : Unit {0}) (b : Begins {E = HostFault} old mid name (Ok x)) where
  has_left : HasLeft old.files name mid.reading.told
  has_left = let P : Files → Type 0 = λ f. HasLeft f name mid.reading.told in subst P b.same b.left

  -- so much of the file is taken
  pub taken_of : (new : HostSeen) (failed : Bool) → new.begun ≡ mid.begun → TakesUpTo mid.reading.told new.reading.told (most_of limit failed) → TakesFile old.files name limit new failed
  taken_of new failed same t = begun mid.reading.told (same ∙ b.begun) has_left t

  -- nothing of it is taken yet
  pub none_taken : TakesFile old.files name limit mid false
  none_taken = begun mid.reading.told b.begun has_left (record { taken = []; took = Consumes-nil mid.reading.told; few = omega arith })

  pub fetched : (bytes : List ℕ) → IsAll mid.reading.told bytes → IsFileOf old.files name bytes
  fetched bytes all = file_is old.files name bytes mid.reading.told has_left all

  -- a fault of the taking is one of the fetching
  pub not_fetched : (bytes : List ℕ) (fault : LoadFault) → Fetches mid.reading.told limit bytes (Err fault) → FetchesFile old.files name limit (Err fault)
  not_fetched bytes (faults.Refused what at) f = absurd f
  not_fetched bytes faults.Host f = tt
  not_fetched bytes faults.Limit f = long_file old.files name mid.reading.told limit has_left f
  not_fetched bytes faults.Memory f = tt

  -- the counts of both
  pub counts_both : (after : ℕ) (fault : LoadFault) → Counts {A = Unit {0}} mid.reading.faults after (mid.reading.sure ≡ true) (Err fault)
      → Counts {A = Vec ℕ} old.reading.faults after ((old.reading.sure ≡ true) × IsListed old.files name) (Err fault)
  counts_both after (faults.Refused what at) f = f ∙ b.tally.ok
  counts_both after faults.Host f = (subst (λ n. Rose n after) b.tally.ok f.0, λ h. f.1 (b.sure h.0))
  counts_both after faults.Limit f = f ∙ b.tally.ok
  counts_both after faults.Memory f = f ∙ b.tally.ok
