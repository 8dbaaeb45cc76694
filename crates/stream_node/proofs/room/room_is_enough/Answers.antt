use Rattle.stream_node.proofs.Rooms.{room_enough}
use Rattle.stream_node.proofs.room.room_is_enough.Goals as goal

pub returns : goal.returns
returns c = room_enough
