use Rattle.blocks.specs.Blocks.{no_step}
use Rattle.keyspace.proofs.value.Value.copy.Goals as goal

pub returns-in_err-room-in-List-clause-served : goal.returns-in_err-room-in-List-clause-served
returns-in_err-room-in-List-clause-served g c = no_step

pub returns-in_err-room-in-Set-clause-served : goal.returns-in_err-room-in-Set-clause-served
returns-in_err-room-in-Set-clause-served g c = no_step

pub returns-in_err-room-in-Hash-clause-served : goal.returns-in_err-room-in-Hash-clause-served
returns-in_err-room-in-Hash-clause-served g c = no_step

pub returns-in_err-room-in-Zset-clause-served : goal.returns-in_err-room-in-Zset-clause-served
returns-in_err-room-in-Zset-clause-served g c = no_step

pub returns-in_err-room-in-Stream-clause-served : goal.returns-in_err-room-in-Stream-clause-served
returns-in_err-room-in-Stream-clause-served g c = no_step

pub returns-in_ok-copy-in-Text-clause-grown : goal.returns-in_ok-copy-in-Text-clause-grown
returns-in_ok-copy-in-Text-clause-grown g c limits seed sound = no_step

pub returns-in_ok-room-in-List-2-clause-grown : goal.returns-in_ok-room-in-List-2-clause-grown
returns-in_ok-room-in-List-2-clause-grown g c limits seed sound = no_step

pub returns-in_ok-room-in-Stream-2-clause-grown : goal.returns-in_ok-room-in-Stream-2-clause-grown
returns-in_ok-room-in-Stream-2-clause-grown g c limits seed sound = no_step
