use Rattle.store.proofs.Rooms.{as_much_memory_has_room}
use Rattle.store.proofs.laws.as_much_memory_has_room.Goals as goal

pub returns : goal.returns
returns c = as_much_memory_has_room
