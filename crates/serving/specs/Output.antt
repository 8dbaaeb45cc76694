-- What is written, and what is pending behind it.
use Rattle.std.specs.Prelude.{◌≡◌, ℕ, List, [], ◌++◌, take, Result, Ok, Err, Bool, true, false}
use Rattle.outside.specs.Streams.{SinkSeen}
use Rattle.resp_frames.specs.Puts.{PutsAll, PutsFront}
use Rattle.serving.specs.declared.pending.Pending.{Pending}

-- the bytes that are pending
abbrev pub pending_bytes : Pending → List ℕ
pending_bytes pending = take pending.len pending.room.items

-- Bytes come behind what was pending: a front of both is written, and the rest is pending.
pub record Onward (old new : SinkSeen) (pending pending' bytes : List ℕ) : Type 0 where
  pub written : List ℕ
  pub put : PutsAll old new written
  pub order : written ++ pending' ≡ pending ++ bytes

-- the same, or a front of both is written where that failed
abbrev pub Writes : {T E : Type 0} → SinkSeen → SinkSeen → List ℕ → List ℕ → List ℕ → Result T E → Type 0
Writes old new pending pending' bytes (Ok x) = Onward old new pending pending' bytes
Writes old new pending pending' bytes (Err e) = PutsFront old new (pending ++ bytes)

-- A reply's bytes come behind those that are pending: they are pending too; or those before are written, and they are
-- pending or written themselves. So what is written ends with a whole reply where it did before.
pub data WritesWhole (old new : SinkSeen) (pending pending' bytes : List ℕ) : Type 0 where
  AllPending : new ≡ old → pending' ≡ pending ++ bytes → WritesWhole old new pending pending' bytes
  OnePending : PutsAll old new pending → pending' ≡ bytes → WritesWhole old new pending pending' bytes
  NonePending : PutsAll old new (pending ++ bytes) → pending' ≡ [] → WritesWhole old new pending pending' bytes

-- the same, or a front of both is written where that failed
abbrev pub WritesReply : {T E : Type 0} → SinkSeen → SinkSeen → List ℕ → List ℕ → List ℕ → Result T E → Type 0
WritesReply old new pending pending' bytes (Ok x) = WritesWhole old new pending pending' bytes
WritesReply old new pending pending' bytes (Err e) = PutsFront old new (pending ++ bytes)

-- bytes are pending behind the others, or nothing changes
abbrev pub Gathers : List ℕ → List ℕ → List ℕ → Bool → Type 0
Gathers pending pending' bytes true = pending' ≡ pending ++ bytes
Gathers pending pending' bytes false = pending' ≡ pending
