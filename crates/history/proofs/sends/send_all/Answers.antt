use Rattle.std.proofs.Common.{rules, refl, sym, ◌∙◌}
use Rattle.std.proofs.lemmas.List.{nil_from_length}
use Rattle.std.proofs.lemmas.Result.{err_from_is_err_and}
use Rattle.history.proofs.LogFacts.{none_sent, one_sent, all_sent, some_sent}
use Rattle.history.proofs.sends.send_all.Goals as goal

pub loop-call-init : goal.loop-call-init
loop-call-init g c = search (rules, none_sent)

pub loop-call-preserved : goal.loop-call-preserved
loop-call-preserved g c = (
  tt,
  tt,
  λ k.
      let i = c.loop-call.invariant.2 k in
      let s = c.in_ok-send.ensures.sends i.0 in
      (c.send.ensures.keeps i.0, one_sent _ _ c.in_ok-send.field-0 c.in_ok-push.ensures.items i.1 c.in-Some.ensures.steps.0 s.0 s.1),
)

-- no memory for the answer: the call was not sent
pub returns-in_err-send : goal.returns-in_err-send
returns-in_err-send g c = record {
  keeps = λ k. c.send.ensures.keeps (c.loop-call.invariant.2 k).0;
  heard = λ k.
      let i = c.loop-call.invariant.2 k in
      let p = err_from_is_err_and c.from_residual.result c.from_residual.ensures.1 in
      rw (p.1, c.in_err-send.ensures.sends i.0) (some_sent _ _ (g.D.Device.sound c.args.device.now k).disk i.1);
}

-- no memory for the log: the call was sent
pub returns-in_err-push : goal.returns-in_err-push
returns-in_err-push g c = record {
  keeps = λ k. c.send.ensures.keeps (c.loop-call.invariant.2 k).0;
  heard = λ k.
      let i = c.loop-call.invariant.2 k in
      let p = err_from_is_err_and c.from_residual-in_err-push.result c.from_residual-in_err-push.ensures.1 in
      let s = c.in_ok-send.ensures.sends i.0 in
      rw p.1 (some_sent _ _ (g.D.Device.sound c.args.device.now k).disk (one_sent _ _ c.in_ok-send.field-0 refl i.1 c.in-Some.ensures.steps.0 s.0 s.1));
}

pub returns : goal.returns
returns g c = record {
  keeps = λ k. (c.loop-call.invariant.2 k).0;
  heard = λ k. all_sent _ _ (g.D.Device.sound c.args.device.now k).disk (c.loop-call.invariant.2 k).1 (nil_from_length _ (sym c.loop-call.call-iterator.rest.ok.0 ∙ c.in-None.ensures.steps.0));
}
