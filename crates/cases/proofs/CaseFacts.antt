-- The cases, by computation.
use Rattle.std.proofs.Common.{◌≡◌, ℕ, ◌/◌, min, List, [], length, replicate, sym, refl, ap, ◌∙◌, subst}
use lib.ListN.{length-replicate}
use Rattle.device.specs.Meaning.{Meaning, zeros}
use Rattle.drive.specs.Means as drive
use Rattle.deadline.specs.Waiting.{conflict, run_of, runs, free, free_runs}
use Rattle.deadline.specs.Joining.{joinable, run_for, once_runs_touch}
use Rattle.deadline.specs.Turn.{taken, submitted, new_batch, choice, after, turned}
use Rattle.cases.specs.Cases.{bad_sectors, zeroed, the_drive, CasesOn, CasesHold}

-- the drive has 512 sectors
abbrev of_512 : Meaning
of_512 = drive.meant 512 1 bad_sectors [] [] zeroed

sized : the_drive ≡ of_512
unfolding zeroed
sized = ap (λ n. drive.meant (min (n / 128) 65536) 1 bad_sectors [] [] zeroed) (length-replicate {A = ℕ} 65536 0)

on_512 : CasesOn of_512
unfolding zeroed zeros conflict run_of runs free free_runs joinable run_for once_runs_touch taken submitted new_batch choice after turned
on_512 = (refl, refl, refl, refl, refl, refl, refl, refl, refl, refl, refl, refl, refl, refl, refl)

pub cases : CasesHold
cases = subst CasesOn (sym sized) on_512
