-- Serving the oldest waiting place readies the oldest waiting ticket.
use Rattle.std.proofs.Common.{◌≡◌, ℕ, ◌+◌, Bool, true, false, cond, not, List, [], ◌∷◌, get_or, set, Some, None, sym, refl, ap, ◌∙◌}
use Rattle.std.proofs.lemmas.Bool.{cond-true, cond-false}
use Rattle.std.proofs.lemmas.Option.{none-some}
use Rattle.device.specs.Meaning.{Contents}
use Rattle.device.specs.Turns.{made_ready}
use Rattle.tickets.specs.declared.place.Place.{Place}
use Rattle.tickets.specs.Meant.{after, ticket, tickets_over}
use Rattle.tickets.specs.Oldest.{ready_oldest}
use Rattle.tickets.proofs.Stands.{Oldest, waiting_from}
use Rattle.tickets.proofs.MeantFacts.{after_ready, ready_ticket}

module _ (bad : ℕ → Bool) where
  pub oldest_serve : {i : ℕ} {ps : List Place} → Oldest ps i → (q d : Place) (base base' : Contents) → q.ready ≡ true → base' ≡ after bad (get_or ps i d) base
      → ticket base' q ≡ made_ready (ticket base (get_or ps i d)) → tickets_over bad (set ps i q) base' ≡ ready_oldest (tickets_over bad ps base)
  oldest_serve (Oldest.first {p} {ps} h) q d base base' r e m =
      ap (λ t. t ∷ tickets_over bad ps (after bad q base')) m
      ∙ (ap (λ b. made_ready (ticket base p) ∷ tickets_over bad ps b) (after_ready bad q base' r ∙ e)
      ∙ sym (cond-false p.ready (ticket base p ∷ ready_oldest (tickets_over bad ps (after bad p base))) (made_ready (ticket base p) ∷ tickets_over bad ps (after bad p base)) h))
  oldest_serve (Oldest.later {p} {ps} {j} h s) q d base base' r e m =
      ap (λ b. ticket base' p ∷ tickets_over bad (set ps j q) b) (after_ready bad p base' h)
      ∙ (ap (λ t. t ∷ tickets_over bad (set ps j q) base') (sym (ready_ticket base base' p h))
      ∙ (ap (λ ts. ticket base p ∷ ts) (oldest_serve s q d base base' r e m)
      ∙ (ap (λ b. ticket base p ∷ ready_oldest (tickets_over bad ps b)) (sym (after_ready bad p base h))
      ∙ sym (cond-true p.ready (ticket base p ∷ ready_oldest (tickets_over bad ps (after bad p base))) (made_ready (ticket base p) ∷ tickets_over bad ps (after bad p base)) h))))

  none_by : (n : ℕ) (p : Place) (ps : List Place) (base : Contents) → (waiting_from (n + 1) ps ≡ None → ready_oldest (tickets_over bad ps (after bad p base)) ≡ tickets_over bad ps (after bad p base)) → (b : Bool)
      → cond (not b) (Some n) (waiting_from (n + 1) ps) ≡ None
      → cond b (ticket base p ∷ ready_oldest (tickets_over bad ps (after bad p base))) (made_ready (ticket base p) ∷ tickets_over bad ps (after bad p base)) ≡ ticket base p ∷ tickets_over bad ps (after bad p base)
  none_by n p ps base ih true e = ap (λ ts. ticket base p ∷ ts) (ih e)
  none_by n p ps base ih false e = absurd (none-some n (sym e))

  -- where none waits, there is none to ready
  pub oldest_none : (n : ℕ) (ps : List Place) (base : Contents) → waiting_from n ps ≡ None → ready_oldest (tickets_over bad ps base) ≡ tickets_over bad ps base
  oldest_none n [] base e = refl
  oldest_none n (p ∷ ps) base e = none_by n p ps base (oldest_none (n + 1) ps (after bad p base)) p.ready e
