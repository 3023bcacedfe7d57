-- What a scheduler means: a state of the deadline rules.
use Rattle.std.specs.Prelude.{vec_items}
use Rattle.deadline.specs.Turn.{State}
use Rattle.scheduler.specs.declared.state.Scheduler.{Scheduler}

-- what the scheduler remembers, as the rules have it
abbrev pub state_of : Scheduler → State
state_of s = record {
  latest = s.latest;
  batch = s.batch;
  read_position = s.read_position;
  write_position = s.write_position;
  passed_over = s.passed_over;
  waiting = vec_items s.waiting.tickets;
}
