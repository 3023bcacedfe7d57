use Rattle.std.proofs.Common.{◌≡◌, rules, tests}
use Rattle.std.specs.Option.{MatchOption}
use Rattle.deadline.specs.declared.dispatch.Run.{Run}
use Rattle.deadline.specs.Settings.{settings_of}
use Rattle.scheduler.proofs.Joining.{meets_end, meets_front, apart_is, joined_is}
use Rattle.scheduler.proofs.state.Scheduler.run_for.Goals as goal

pub returns-then-conflicts : goal.returns-then-conflicts
returns-then-conflicts c = apart_is (settings_of c.args.self.now.settings) c.args.self.now.waiting.tickets.items c.args.x.now c.if-conflicts.ensures

pub returns : goal.returns
returns c =
    let st = settings_of c.args.self.now.settings in
    let ws = c.args.self.now.waiting.tickets.items in
    let behind = c.first_run-behind.ensures (meets_end ws c.args.x.now) (λ x r f k. search (rules, tests)) in
    let in_front = c.first_run-in_front.ensures (meets_front st ws c.args.x.now) (λ x r f k. search (rules, tests)) in
    let named : MatchOption c.or.result (c.map_or.result ≡ c.args.x.now.tag) (λ (r : Run). c.map_or.result ≡ r.name) = search (rules, tests) in
    joined_is st ws c.args.x.now c.map_or.result c.or.result c.if-conflicts.ensures named (cc (behind, in_front, c.or.ensures))
