use Rattle.std.proofs.Common.{ap, arith}
use mathlib.Core.Path.{fun_ext}
use Rattle.sectors.specs.Shown.{bad_of}
use Rattle.tickets.specs.Meant.{disk_over}
use Rattle.tickets.specs.Open.{places_of}
use Rattle.drive.specs.Turn.{entries_of, row_of}
use Rattle.drive.specs.SoundFacts.{fits_of, kept_of}
use Rattle.drive.proofs.Laws.{some_out}
use Rattle.drive.proofs.Turning.{turn_turns, turn_oldest}
use Rattle.drive.proofs.Sparing.{turn_spares, turn_flushes}
use Rattle.drive.proofs.as_device.DriveDevice.turn.Goals as goal

pub returns : goal.returns
returns c =
    let d = c.args.self.now in
    let f = d.front in
    let ps = places_of f in
    let es = entries_of d in
    let row = row_of d in
    let e = c.serve_oldest.ensures in
    let k = kept_of d in
    let fits = fits_of d in
    record {
      keeps = λ k. k;
      turns = λ _. rw (e.ticks, e.shape.size, e.shape.capacity, e.shape.named, e.places, e.entries, e.bytes) (turn_turns f.size f.capacity f.named ps d.arm es row d.holds fits k d.reach);
      did = λ _. record {
        ticks = e.ticks;
        tickets = rw (e.shape.size, e.shape.named, e.places, e.entries, e.bytes) (turn_oldest f.size f.capacity f.named ps d.arm es row d.holds fits k);
        arm = e.arm;
        buffer = e.entries;
        bytes = e.bytes;
        spares = rw e.bytes (turn_spares f.size f.capacity f.named ps d.arm es row d.holds fits k);
        pushing_out_keeps = λ n. ap (disk_over (bad_of f.size f.named) ps) (fun_ext (some_out f.size f.named n es row fits d.holds));
        flush_reaches_the_medium = λ t. rw (e.shape.size, e.shape.named, e.places, e.entries, e.bytes)
            (λ s g. turn_flushes f.size f.capacity f.named d.arm es row d.holds fits ps k (omega (arith, f.within, d.one)) t s);
      };
    }
