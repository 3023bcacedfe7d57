-- The calls of a device at another height, by what the device below does.
use Rattle.std.proofs.Common.{◌≡◌, ℕ, List, length, Ok, Err, Result, refl, ap, ◌∙◌}
use Rattle.device.specs.declared.interface.Kind.{Kind}
use Rattle.device.specs.declared.interface.Kind.TheVariants.{Read, Write, Flush}
use Rattle.device.specs.declared.interface.Cause.{Cause}
use Rattle.device.specs.declared.interface.Request.{Request}
use Rattle.device.specs.Meaning.{Meaning, Ticket}
use Rattle.device.specs.Submit.{form, admitted_as, admitted, submitted_as, submitted, submit_answer_as, submit_answer}
use Rattle.device.specs.Collect.{due, collect_answer_as, collect_answer, collected_as, collected}
use Rattle.device.specs.Turns.{Turned}
use Rattle.offset.proofs.OffsetCalls.{at_height}
use Rattle.stacks.specs.Tall.{raised}

module _ (h : ℕ) (m : Meaning) where
  admitted_by : (r : Result Kind Cause) (t : ℕ) → admitted_as r m t ≡ admitted_as r (raised h m) t
  admitted_by (Ok k) t = refl
  admitted_by (Err c) t = refl

  answer_by : (r : Result Kind Cause) → at_height h (submit_answer_as r m) ≡ submit_answer_as r (raised h m)
  answer_by (Ok k) = refl
  answer_by (Err c) = refl

  leaves_by : (r : Result Kind Cause) (q : Request) (d : List ℕ) → raised h (submitted_as r m q d) ≡ submitted_as r (raised h m) q d
  leaves_by (Ok Read) q d = refl
  leaves_by (Ok Write) q d = refl
  leaves_by (Ok Flush) q d = refl
  leaves_by (Err c) q d = refl

  pub submit_answers : (q : Request) (n : ℕ) → at_height h (submit_answer m q n) ≡ submit_answer (raised h m) q n
  submit_answers q n = answer_by (admitted m q n) ∙ ap (λ r. submit_answer_as r (raised h m)) (admitted_by (form m.size q n) q.tag)

  pub submit_leaves : (q : Request) (d : List ℕ) → raised h (submitted m q d) ≡ submitted (raised h m) q d
  submit_leaves q d = leaves_by (admitted m q (length d)) q d ∙ ap (λ r. submitted_as r (raised h m) q d) (admitted_by (form m.size q (length d)) q.tag)

  due_by : (r : Result Ticket Cause) → at_height h (collect_answer_as r m) ≡ collect_answer_as r (raised h m)
  due_by (Ok x) = refl
  due_by (Err c) = refl

  collected_by : (r : Result Ticket Cause) (t : ℕ) → raised h (collected_as r m t) ≡ collected_as r (raised h m) t
  collected_by (Ok x) t = refl
  collected_by (Err c) t = refl

  pub collect_answers : (t n : ℕ) → at_height h (collect_answer m t n) ≡ collect_answer (raised h m) t n
  collect_answers t n = due_by (due m t n)

  pub collect_leaves : (t n : ℕ) → raised h (collected m t n) ≡ collected (raised h m) t n
  collect_leaves t n = collected_by (due m t n) t

pub turn_raised : (h : ℕ) (m m' : Meaning) (n : ℕ) → Turned m m' n → Turned (raised h m) (raised h m') n
turn_raised h m m' n t = record {
  shape = record { size = t.shape.size; capacity = t.shape.capacity; height = refl; bad = t.shape.bad; home = t.shape.home };
  disk = t.disk;
  idle = λ z. (ap (raised h) (t.idle z).0, (t.idle z).1);
  progress = t.progress;
  readied = t.readied;
  flush_order = t.flush_order;
  settled = t.settled;
  flushed = t.flushed;
  bounded = t.bounded;
}
