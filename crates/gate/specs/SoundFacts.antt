-- A lemma, no definition to believe: a gate over a sound device is sound. It stands here because the gate's ghost member can cite
-- this crate's lemmas only from specs/.
use Rattle.std.specs.Prelude.{Bool, true, false, refl}
use Rattle.std.proofs.Common.{arith}
use Rattle.device.specs.Meaning.{Meaning}
use Rattle.device.specs.Sound.{Sound}
use Rattle.gate.specs.Means.{gated}

pub gated_sound : (shut : Bool) (m : Meaning) → Sound m → Sound (gated shut m)
gated_sound false m s = s
gated_sound true m s = record {
  size = s.size;
  capacity = omega arith;
  height = s.height;
  room = omega arith;
  tags = refl;
  tickets = tt;
  flush_order = refl;
  bad_inside = s.bad_inside;
  bad_disk = s.bad_disk;
  bad_medium = s.bad_medium;
  disk = s.disk;
  medium = s.medium;
}
