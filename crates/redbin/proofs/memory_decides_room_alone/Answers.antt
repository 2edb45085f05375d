use Rattle.redbin.proofs.Meant.{decides_room_alone}
use Rattle.redbin.proofs.memory_decides_room_alone.Goals as goal

pub returns : goal.returns
returns c = decides_room_alone
