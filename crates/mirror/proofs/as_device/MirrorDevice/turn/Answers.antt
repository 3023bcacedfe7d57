use Rattle.std.proofs.Common.{max, true, sym, refl, subst}
use Rattle.device.specs.Turns.{Turned}
use Rattle.device.proofs.TurnFacts.{idle_turned}
use Rattle.dry.proofs.DryFacts.{dried}
use Rattle.gate.specs.Means.{gated}
use Rattle.mirror.specs.Means.{mirrored, Level}
use Rattle.mirror.proofs.Turns.{BothTurn, turns_both}
use Rattle.mirror.proofs.as_device.MirrorDevice.turn.Goals.{After-run_dry-2}
use Rattle.mirror.proofs.as_device.MirrorDevice.turn.Goals as goal

pub returns-then-self-clause-turns : goal.returns-then-self-clause-turns
returns-then-self-clause-turns g c = λ _.
    let a = g.L.Device.meaning c.args.self.now.left in
    let b = g.R.Device.meaning c.args.self.now.right in
    subst (λ s. Turned (mirrored (gated s a) (gated s b)) (mirrored (gated s a) (gated s b)) 0) (sym c.if-self.true) (idle_turned (mirrored (gated true a) (gated true b)) refl refl)

-- an open mirror turns both sides dry
turned : (g : _) (c : After-run_dry-2 g) → let d = c.args.self.now in
    (g.L.Device.kept d.left × g.R.Device.kept d.right × Level (gated d.shut (g.L.Device.meaning d.left)) (gated d.shut (g.R.Device.meaning d.right)))
    → BothTurn (g.L.Device.meaning d.left) (g.R.Device.meaning d.right) (g.L.Device.meaning c.run_dry.new.device) (g.R.Device.meaning c.run_dry-2.new.device) (max c.run_dry.result c.run_dry-2.result)
turned g c k =
    let d = c.args.self.now in
    turns_both (g.L.Device.meaning d.left) (g.R.Device.meaning d.right) (subst (λ s. Level (gated s (g.L.Device.meaning d.left)) (gated s (g.R.Device.meaning d.right))) c.if-self.false k.2)
    (dried g.L.Device.meaning g.L.Device.does c.args.tick (c.run_dry.ensures.dries k.0) (g.L.Device.sound d.left k.0).flush_order)
    (dried g.R.Device.meaning g.R.Device.does c.args.tick (c.run_dry-2.ensures.dries k.1) (g.R.Device.sound d.right k.1).flush_order)

pub returns-clause-keeps : goal.returns-clause-keeps
returns-clause-keeps g c = λ k.
    let a = g.L.Device.meaning c.run_dry.new.device in
    let b = g.R.Device.meaning c.run_dry-2.new.device in (
      c.run_dry.ensures.keeps k.0,
      c.run_dry-2.ensures.keeps k.1,
      subst (λ s. Level (gated s a) (gated s b)) (sym c.if-self.false) (turned g (goal.at.returns-clause-keeps g c).After-run_dry-2 k).level,
    )

pub returns-clause-turns : goal.returns-clause-turns
returns-clause-turns g c = λ k.
    let d = c.args.self.now in
    let a = g.L.Device.meaning d.left in
    let b = g.R.Device.meaning d.right in
    let a' = g.L.Device.meaning c.run_dry.new.device in
    let b' = g.R.Device.meaning c.run_dry-2.new.device in
    rw c.max.ensures
    (subst (λ s. Turned (mirrored (gated s a) (gated s b)) (mirrored (gated s a') (gated s b')) (max c.run_dry.result c.run_dry-2.result)) (sym c.if-self.false)
    (turned g (goal.at.returns-clause-turns g c).After-run_dry-2 k).turned)
