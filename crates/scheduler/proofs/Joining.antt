-- The run that a new ticket joins is the one of the deadline rules.
use Rattle.std.proofs.Common.{◌≡◌, ℕ, Bool, true, false, cond, ◌&&◌, List, [], ◌∷◌, ◌++◌, Option, ap, ◌∙◌, subst, eqb}
use Rattle.std.specs.Option.{MatchOption, option_or}
use Rattle.deadline.specs.declared.dispatch.Queued.{Queued}
use Rattle.deadline.specs.declared.dispatch.Run.{Run}
use Rattle.deadline.specs.Settings.{Settings}
use Rattle.deadline.specs.Waiting.{any, those, conflict, end, ends, runs}
use Rattle.deadline.specs.Joining.{has_room, joinable, name_of_first, run_for}
use Rattle.scheduler.specs.Found.{oldest_of}

-- x ends at the run's first sector, and front merges are on; the run ends at x's
abbrev pub meets_front : Settings → List Queued → Queued → Run → Bool
meets_front st ws x r = has_room ws x r && (st.front_merges && eqb (end x) r.begins)

abbrev pub meets_end : List Queued → Queued → Run → Bool
meets_end ws x r = has_room ws x r && eqb (ends r) x.first

-- the name of the first of two runs that there is, or the own
name_is : (n own : ℕ) (o : Option Run) → MatchOption o (n ≡ own) (λ r. n ≡ r.name) → (ps qs : List Run) → o ≡ option_or (oldest_of ps) (oldest_of qs) →
    n ≡ name_of_first (ps ++ qs) own
name_is n own o h [] [] e = subst (λ o. MatchOption o (n ≡ own) (λ r. n ≡ r.name)) e h
name_is n own o h [] (q ∷ qs) e = subst (λ o. MatchOption o (n ≡ own) (λ r. n ≡ r.name)) e h
name_is n own o h (p ∷ ps) qs e = subst (λ o. MatchOption o (n ≡ own) (λ r. n ≡ r.name)) e h

module _ (st : Settings) (ws : List Queued) (x : Queued) where
  pub apart_is : true ≡ any (conflict x) ws → x.tag ≡ run_for st ws x
  unfolding run_for joinable conflict
  apart_is e = ap (λ b. cond b x.tag (name_of_first (joinable st ws x) x.tag)) e

  pub joined_is : (n : ℕ) (o : Option Run) → false ≡ any (conflict x) ws → MatchOption o (n ≡ x.tag) (λ r. n ≡ r.name) →
      o ≡ option_or (oldest_of (those (meets_end ws x) (runs ws))) (oldest_of (those (meets_front st ws x) (runs ws))) → n ≡ run_for st ws x
  unfolding run_for joinable conflict
  joined_is n o c h e =
      name_is n x.tag o h (those (meets_end ws x) (runs ws)) (those (meets_front st ws x) (runs ws)) e ∙
      ap (λ b. cond b x.tag (name_of_first (joinable st ws x) x.tag)) c
