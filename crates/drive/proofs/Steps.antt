-- The step of the loop over a run's sectors.
use Rattle.std.proofs.Common.{◌≡◌, ℕ, ◌+◌, cond, List, refl, add-one}
use Rattle.device.specs.Meaning.{part}
use Rattle.sectors.specs.Memory.{listed}
use Rattle.drive.specs.declared.buffer.Entry.{Entry}
use Rattle.drive.specs.Buffer.{brought_in, put_out, brought_run, put_out_run}

-- the next sector of a run is brought in
module _ (first i : ℕ) (bytes x named named' : List ℕ) (es es' : List Entry) (row row' : List ℕ)
    (n : named' ≡ named) (p : x ≡ part bytes i) (a : es' ≡ brought_run named first i bytes es) (b : row' ≡ put_out_run named first i bytes es row) where
  pub run_in : cond (listed (first + i) named') es' (brought_in (first + i) x es') ≡ brought_run named first (i + 1) bytes es
  run_in = rw (add-one, n, p, a) refl

  pub run_out : cond (listed (first + i) named') row' (put_out named' (first + i) es' row') ≡ put_out_run named first (i + 1) bytes es row
  run_out = rw (add-one, n, a, b) refl
