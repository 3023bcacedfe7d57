use Rattle.std.proofs.Common.{sym, ◌∙◌}
use Rattle.mirror.proofs.Tickets.{shows}
use Rattle.mirror.proofs.as_device.MirrorDevice.byte_count.Goals as goal

pub returns : goal.returns
returns g c = λ k.
    let d = c.args.self.now in
    let s = shows d.shut d.shut (g.L.Device.sound d.left k.0) (g.R.Device.sound d.right k.1) k.2 in
    c.byte_count.ensures k.0 ∙ sym (s.bytes c.args.tag)
