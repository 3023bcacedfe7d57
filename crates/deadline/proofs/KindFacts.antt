-- Kinds of requests.
use Rattle.std.proofs.Common.{◌≡◌, true, sym, refl}
use Rattle.std.proofs.lemmas.Bool.{true≢false}
use Rattle.device.specs.declared.interface.Kind.{Kind}
use Rattle.device.specs.declared.interface.Kind.TheVariants.{Read, Write, Flush}
use Rattle.deadline.specs.Waiting.{same}

pub same_is : (j k : Kind) → same j k ≡ true → j ≡ k
same_is Read Read h = refl
same_is Read Write h = absurd (true≢false (sym h))
same_is Read Flush h = absurd (true≢false (sym h))
same_is Write Read h = absurd (true≢false (sym h))
same_is Write Write h = refl
same_is Write Flush h = absurd (true≢false (sym h))
same_is Flush Read h = absurd (true≢false (sym h))
same_is Flush Write h = absurd (true≢false (sym h))
same_is Flush Flush h = refl

pub same_self : (k : Kind) → same k k ≡ true
same_self Read = refl
same_self Write = refl
same_self Flush = refl

pub is_same : (j k : Kind) → j ≡ k → same j k ≡ true
is_same j k e = rw e (same_self k)
