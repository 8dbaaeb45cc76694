-- The parts of one reply (RESP2, "Arrays": the head tells how many replies follow).
use Rattle.std.specs.Prelude.{ℕ, ◌+◌, List, [], ◌∷◌, zero, suc}
use Rattle.plain_world.specs.declared.reply.Part.{Part}
use Rattle.plain_world.specs.declared.reply.Part.TheVariants.{Simple, Refused, Number, Bulk, Null, NullArray, Array}

-- how many replies follow a part
abbrev pub following : Part → ℕ
following (Simple line) = 0
following (Refused refusal) = 0
following (Number n) = 0
following (Bulk bytes) = 0
following Null = 0
following NullArray = 0
following (Array n) = n

-- the parts are so many whole replies
abbrev pub AreReplies : ℕ → List Part → Type 0
AreReplies zero [] = Unit {0}
AreReplies zero (part ∷ parts) = ⊥
AreReplies (suc n) [] = ⊥
AreReplies (suc n) (part ∷ parts) = AreReplies (n + following part) parts

-- the parts are one whole reply
abbrev pub IsReply : List Part → Type 0
IsReply parts = AreReplies 1 parts
