-- A line that was handed to a sink.
use Rattle.std.proofs.Common.{◌≡◌, ℕ, List, length, take, Option, Result, Ok, Err, OnOk, OnErr, refl}
use Rattle.std.proofs.Math.Seq.{take-length}
use Rattle.mj_terms.specs.Causes.{HasCause}
use Rattle.mj_io.specs.declared.sink.Failed.{Failed}
use Rattle.mj_io.specs.Grown.{grown}
use Rattle.mj_engine.specs.Ends.{GrowsByLine}

-- whichever way the call went, a front of it was written, and all of it unless the count rose
pub grows_by_line : (result : Result (Unit {0}) Failed) (old new : Option (List ℕ)) (before now : ℕ) (line : List ℕ)
    → OnOk result (new ≡ grown old line) → OnErr result ((k : ℕ) × (new ≡ grown old (take k line))) → HasCause (record {}) before now result
    → GrowsByLine old new before now line
grows_by_line (Ok done) old new before now line ok err cause = (length line, rw (take-length line) ok, λ sure. take-length line)
grows_by_line (Err failed) old new before now line ok err cause = (err.0, err.1, λ sure. absurd (sure (cause.failed refl)))
