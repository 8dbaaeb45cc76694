-- The output of several sessions, in units (for each session RESP2, "RESP protocol description"; the head of a unit is
-- this project's own).
use Rattle.std.specs.Prelude.{ℕ, List, ◌++◌, length, flat_map}
use Rattle.byteorder.specs.Endian.{little_bytes}
use Rattle.plain_world.specs.Spelling.{spelling}
use Rattle.plain_world.specs.declared.reply.Part.{Part}
use Rattle.resp_frames.specs.FaultLines.{fault_line}
use Rattle.plain_sessions.specs.Arrivals.{Said, Asks, Breaks}
use Rattle.plain_sessions.specs.Histories.{Deed}

-- a unit: the number of its session in two bytes, the length modulo 2^64 in eight, the lowest first, and what is told
abbrev pub unit : ℕ → List ℕ → List ℕ
unit session told = little_bytes 2 session ++ (little_bytes 8 (length told) ++ told)

-- what is told of what was said: the bytes of the reply, or the line of the broken rule
abbrev pub told_of : Said → List Part → List ℕ
told_of (Asks words) reply = spelling reply
told_of (Breaks rule at) reply = fault_line rule at

-- the unit of an arrival
abbrev pub unit_of : Deed → List ℕ
unit_of deed = unit deed.arrival.session (told_of deed.arrival.said deed.left.reply)

-- the units, one after the other
abbrev pub units_of : List Deed → List ℕ
units_of deeds = flat_map unit_of deeds
