use Rattle.std.proofs.Common.{◌≡◌, ◌++◌, map, take}
use Rattle.written_keys.specs.Written.{key_of}
use Rattle.session_desk.specs.Writing.{texts_of}
use Rattle.session_desk.proofs.naming.push_keys.Given as goal

abbrev pub invariant-loop-place : goal.invariant-loop-place
invariant-loop-place l = texts_of l.keys.items ≡ texts_of l.initial.keys.items ++ map key_of (take l.place-index l.places)
