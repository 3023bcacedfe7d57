use Rattle.std.proofs.Common.{true, false, sym, refl, ◌∙◌}
use Rattle.std.proofs.lemmas.Bool.{eq-eqb, ne_eqb}
use Rattle.mirror.proofs.Admission.{admitted_asked}
use Rattle.mirror.proofs.mirror.Mirror.admit.Goals as goal

pub returns-then-ne : goal.returns-then-ne
returns-then-ne g c = λ k.
    admitted_asked _ c.args.request c.args.given c.in_ok-kind.kind true _ (c.size.ensures k) c.examine.ensures c.in_ok-kind.was (c.state.ensures k) (sym c.ne.ensures ∙ c.if-ne.true) refl

pub returns-then-open_tickets-capacity : goal.returns-then-open_tickets-capacity
returns-then-open_tickets-capacity g c = λ k.
    admitted_asked _ c.args.request c.args.given c.in_ok-kind.kind false true (c.size.ensures k) c.examine.ensures c.in_ok-kind.was (c.state.ensures k) (sym c.ne.ensures ∙ c.if-ne.false)
    (eq-eqb _ _ (sym (c.open_tickets.ensures k) ∙ (c.if-open_tickets-capacity.true ∙ c.capacity.ensures k)))

pub returns : goal.returns
returns g c = λ k.
    admitted_asked _ c.args.request c.args.given c.in_ok-kind.kind false false (c.size.ensures k) c.examine.ensures c.in_ok-kind.was (c.state.ensures k) (sym c.ne.ensures ∙ c.if-ne.false)
    (ne_eqb _ _ (λ e. c.if-open_tickets-capacity.false (c.open_tickets.ensures k ∙ (e ∙ sym (c.capacity.ensures k)))))
