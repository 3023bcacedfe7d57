-- What the calls of such a device answer and leave, by what it keeps to.
use Rattle.std.proofs.Common.{◌≡◌, ℕ, List, length, sym}
use Rattle.device.specs.declared.interface.Request.{Request}
use Rattle.device.specs.Meaning.{Meaning, Contents, Ticket}
use Rattle.device.specs.Submit.{submitted, submit_answer}
use Rattle.device.specs.Questions.{tag_at, state_of, byte_count}
use Rattle.sectors.specs.Shown.{bad_of}
use Rattle.tickets.specs.declared.place.Place.{Place}
use Rattle.tickets.specs.Places.{tag_of}
use Rattle.tickets.specs.Meant.{tickets_over, place_of}
use Rattle.tickets.specs.Front.{admitted_to, answer_as, put_in, state_place, count_place}
use Rattle.tickets.specs.Device.{meant_over}
use Rattle.tickets.proofs.MeantFacts as over
use Rattle.tickets.proofs.CallFacts as calls
use Rattle.tickets.proofs.CallFacts.{Kept}

module _ {size most : ℕ} {named : List ℕ} {ps : List Place} {base medium : Contents} (k : Kept size most named ps base medium) where
  abbrev device : Meaning
  device = meant_over size most named ps base medium

  abbrev tickets : List Ticket
  tickets = tickets_over (bad_of size named) ps base

  pub length_kept : length ps ≡ length tickets
  length_kept = sym (over.length_over (bad_of size named) ps base)

  pub tag_kept : (i : ℕ) → tag_of i ps ≡ tag_at i tickets
  tag_kept i = sym (over.tag_over (bad_of size named) i ps base)

  pub state_kept : (t : ℕ) → state_place (place_of t ps) ≡ state_of t tickets
  state_kept t = calls.state_same size most named ps base medium k t

  pub count_kept : (t : ℕ) → count_place (place_of t ps) ≡ byte_count t tickets
  count_kept t = calls.count_same size most named ps base medium k t

  pub record Submits (q : Request) (d : List ℕ) : Type 0 where
    pub answers : answer_as (admitted_to size most ps q (length d)) ≡ submit_answer device q (length d)
    pub leaves : meant_over size most named (put_in (admitted_to size most ps q (length d)) ps named q d) base medium ≡ submitted device q d

  pub submits_kept : (q : Request) (d : List ℕ) → Submits q d
  submits_kept q d = record {
    answers = calls.submit_answers size most named ps base medium q (length d);
    leaves = calls.submit_leaves size most named ps base medium q d;
  }

  pub collects_kept : (t : ℕ) (buffer : List ℕ) → calls.Collects size most named ps base medium k t buffer
  collects_kept t buffer = calls.collects size most named ps base medium k t buffer
