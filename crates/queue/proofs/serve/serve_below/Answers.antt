use Rattle.std.proofs.Common.{◌≡◌, take, arith}
use Rattle.std.proofs.lemmas.List.{take_min}
use Rattle.queue.specs.Serve.{sent, Tried}
use Rattle.queue.proofs.Served.{serves_tried, calls_tried}
use Rattle.queue.proofs.serve.serve_below.Goals as goal

pub returns : goal.returns
returns g c =
    let k = c.args.kind in
    let before = c.args.buffer.now in
    let given : take c.min-given.result before ≡ sent k c.args.count before = grind (arith, take_min) in
    let tried : g.D.Device.kept c.args.below.now → Tried g.D.Device.meaning g.D.Device.does c.args.below.now c.collect.new.self k c.args.first c.args.count before c.collect.new.buffer c.args.tick c.turn-ticks.result c.unwrap_or-mask.result
    = λ b.
    let e = c.submit.ensures.keeps b in
    let t = c.turn-ticks.ensures.keeps e in
    record {
      entered = c.submit.new.self;
      turned = c.turn-ticks.new.self;
      accepts = c.submit.result;
      gives = c.collect.result;
      submit_answers = rw (c.from.ensures, given) at c.submit.ensures.answers b;
      submit_leaves = rw (c.from.ensures, given) at c.submit.ensures.leaves b;
      submits = rw (c.from.ensures, given) at c.submit.ensures.did b;
      turn_leaves = c.turn-ticks.ensures.turns e;
      turns = c.turn-ticks.ensures.did e;
      collect_answers = c.collect.ensures.answers t;
      collect_hands = c.collect.ensures.hands t;
      collect_leaves = c.collect.ensures.leaves t;
      collects = c.collect.ensures.did t;
      mask_or_none = c.unwrap_or-mask.ensures;
    } in
    record {
      keeps = λ b. c.collect.ensures.keeps (c.turn-ticks.ensures.keeps (c.submit.ensures.keeps b));
      tries = tried;
      serves = λ b. serves_tried (tried b);
      calls = λ b. calls_tried (tried b);
    }
