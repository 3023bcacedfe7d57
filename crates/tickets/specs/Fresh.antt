-- The place of a request that was just accepted.
use Rattle.std.specs.Prelude.{ℕ, false, List, ◌++◌, length, drop, replicate}
use Rattle.device.specs.declared.interface.Kind.{Kind}
use Rattle.device.specs.declared.interface.Request.{Request}
use Rattle.device.specs.Meaning.{run_bytes}
use Rattle.tickets.specs.declared.place.Place.{Place}

-- the place of a waiting ticket with the bytes given
abbrev pub placed : Request → Kind → ℕ → List ℕ → Place
placed q k mask bytes = record {
  tag = q.tag;
  kind = k;
  first = q.first;
  count = q.count;
  mask = mask;
  ready = false;
  bytes = bytes;
}

-- with the bytes given at the front of its room, and zeros behind them
abbrev pub fresh : Request → Kind → ℕ → List ℕ → Place
fresh q k mask given = placed q k mask (given ++ drop (length given) (replicate run_bytes 0))
