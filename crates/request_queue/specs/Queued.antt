-- What a queue keeps of requests, and what running it comes to (Redis documentation, "Transactions", "Usage").
use Rattle.std.specs.Prelude.{◌≡◌, ℕ, List, ◌++◌, map, flat_map, length}
use Rattle.std.specs.List.{AllByRecursion}
use Rattle.plain_world.specs.Words.{Words, IsRequest}
use Rattle.plain_world.specs.Parts.{AreReplies}
use Rattle.plain_world.specs.declared.reply.Part.{Part}
use Rattle.plain_sessions.specs.Transactions.{array_of}
use Rattle.resp_frames.specs.Frames.{request_bytes}
use Rattle.serving.specs.Path.{path}

-- the bytes are those of these requests
pub record AreQueued (kept : List (List ℕ)) (asked : List Words) : Type 0 where
  pub are : kept ≡ map request_bytes asked
  pub each : AllByRecursion IsRequest asked

-- on an engine of which it is said how a request may be answered
module _ {E : Type 0} (executes : E → Words → List Part → E → Type 0) where
  -- The requests whose bytes are these were run one behind the other, with nothing between them, and their replies are the
  -- array that was answered.
  pub record RunsQueued (old : E) (kept : List (List ℕ)) (reply : List Part) (new : E) : Type 0 where
    pub replies : List (List Part)
    pub is : reply ≡ array_of replies
    pub way : (asked : List Words) → AreQueued kept asked → path executes old asked replies new

  -- the same, and their replies were put behind these parts
  pub record RunsBehind (old : E) (kept : List (List ℕ)) (parts parts' : List Part) (new : E) : Type 0 where
    pub replies : List (List Part)
    pub are : parts' ≡ parts ++ flat_map (λ (reply : List Part). reply) replies
    pub many : length replies ≡ length kept
    pub whole : AreReplies (length replies) (flat_map (λ (reply : List Part). reply) replies)
    pub way : (asked : List Words) → AreQueued kept asked → path executes old asked replies new
