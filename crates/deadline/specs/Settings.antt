-- The settings of the deadline rules: their limits, and what five numbers make.
use Rattle.std.specs.Prelude.{ℕ, ◌≤◌, max, Bool, true, cond, ◌&&◌, Ok, Err, Result, ◌==◌, nat_le}
use Rattle.device.specs.declared.interface.Kind.{Kind}
use Rattle.device.specs.declared.interface.Kind.TheVariants.{Read, Write, Flush}
use Rattle.deadline.specs.declared.settings.Settings as made
use Rattle.deadline.specs.declared.settings.SettingsCause.{SettingsCause}
use Rattle.deadline.specs.declared.settings.SettingsCause.TheVariants.{BeyondLimits}

pub record Settings : Type 0 where
  -- the ticks after which a waiting read, a waiting write, is expired
  pub read_expire : ℕ
  pub write_expire : ℕ
  -- how many read batches may begin while a free write waits
  pub writes_starved : ℕ
  -- how many runs a batch serves at most
  pub fifo_batch : ℕ
  -- whether a request may join a run in front of its first sector
  pub front_merges : Bool

abbrev pub from_1_to : ℕ → ℕ → Bool
from_1_to most n = nat_le 1 n && nat_le n most

-- 1 to 60,000 ticks, 1 to 16 read batches, 1 to 64 runs, and 0 or 1 for front merges
abbrev pub in_limits : (read_expire write_expire writes_starved fifo_batch front_merges : ℕ) → Bool
in_limits r w n f m = from_1_to 60000 r && (from_1_to 60000 w && (from_1_to 16 n && (from_1_to 64 f && nat_le m 1)))

-- the settings that five numbers make, or the cause that makes none
abbrev pub settings_from : (read_expire write_expire writes_starved fifo_batch front_merges : ℕ) → Result Settings SettingsCause
settings_from r w n f m =
    cond (in_limits r w n f m)
    (Ok (record { read_expire = r; write_expire = w; writes_starved = n; fifo_batch = f; front_merges = (m == 1) }))
    (Err BeyondLimits)

abbrev pub cause_number : SettingsCause → ℕ
cause_number BeyondLimits = 10

-- what settings that were made stand for
abbrev pub settings_of : made.Settings → Settings
settings_of s = record {
  read_expire = s.read_expire;
  write_expire = s.write_expire;
  writes_starved = s.writes_starved;
  fifo_batch = s.fifo_batch;
  front_merges = s.front_merges;
}

abbrev pub made_from : Result made.Settings SettingsCause → Result Settings SettingsCause
made_from (Ok s) = Ok (settings_of s)
made_from (Err c) = Err c

-- the settings of an elevator for which none are chosen
abbrev pub usual : Settings
usual = record { read_expire = 500; write_expire = 5000; writes_starved = 2; fifo_batch = 16; front_merges = true }

-- the period of a kind: a run of it is expired once it has waited that long
abbrev pub period : Settings → Kind → ℕ
period st Read = st.read_expire
period st Write = st.write_expire
period st Flush = 0

abbrev pub longer_period : Settings → ℕ
longer_period st = max st.read_expire st.write_expire

-- what the laws ask of settings; every `Settings` of the code meets it
pub record WithinLimits (st : Settings) : Type 0 where
  pub some_passed_over : 1 ≤ st.writes_starved
  pub some_run : 1 ≤ st.fifo_batch
