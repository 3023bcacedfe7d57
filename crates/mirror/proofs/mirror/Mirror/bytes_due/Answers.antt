use Rattle.std.proofs.Common.{◌≡◌, ◌≤◌, rules, arith, ◌∙◌}
use Rattle.mirror.proofs.Tickets.{short_bytes}
use Rattle.mirror.proofs.mirror.Mirror.bytes_due.Goals as goal

-- no run is longer than fits
pub returns-else-space-n-clause-answers : goal.returns-else-space-n-clause-answers
returns-else-space-n-clause-answers g c = λ k.
    let d = c.args.self.now in
    let short : c.byte_count-n.result ≤ 1024
    = rw (c.byte_count-n.ensures k) (short_bytes d.shut d.shut c.args.tag (g.L.Device.sound d.left k.0) (g.R.Device.sound d.right k.1) k.2) in
    let whole : c.min.result ≡ c.byte_count-n.result = omega (arith, c.min.ensures) in
    let same = whole ∙ c.byte_count-n.ensures k in
    let ready = c.state.ensures k in
    search (rules, same, ready)
