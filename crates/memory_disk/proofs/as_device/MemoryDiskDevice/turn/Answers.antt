use Rattle.tickets.specs.Open.{places_of}
use Rattle.memory_disk.specs.SoundFacts.{kept_of}
use Rattle.memory_disk.proofs.TurnFacts.{turn_turns, turn_oldest, turn_spares}
use Rattle.memory_disk.proofs.as_device.MemoryDiskDevice.turn.Goals as goal

pub returns : goal.returns
returns c =
    let f = c.args.self.now.front in
    let ps = places_of f in
    let row = c.args.self.now.row.bytes.now in
    let h = c.args.self.now.holds in
    let k = kept_of c.args.self.now in
    let e = c.serve_oldest.ensures in
    record {
      keeps = λ k. k;
      turns = λ _. rw (e.ticks, e.shape.size, e.shape.capacity, e.shape.named, e.places, e.bytes) (turn_turns f.size f.capacity f.named ps row h k);
      did = λ _. record {
        ticks = e.ticks;
        tickets = rw (e.shape.size, e.shape.named, e.places, e.bytes) (turn_oldest f.size f.capacity f.named ps row h k);
        bytes = e.bytes;
        spares = rw e.bytes (turn_spares f.size f.capacity f.named ps row h k);
      };
    }
