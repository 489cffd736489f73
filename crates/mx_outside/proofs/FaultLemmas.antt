-- An answer that did not fail leaves the count of faults.
use Rattle.std.proofs.Common.{◌≡◌, ℕ, false, Result, Ok, Err, refl, arith}
use Rattle.mx_outside.specs.declared.fault.FilesFault.{FilesFault}
use Rattle.mx_outside.specs.declared.fault.FilesFault.TheVariants.{Failed, Absent, TooLong, Memory}
use Rattle.mx_outside.specs.Causes.{HasReadCause}
use Rattle.mx_outside.specs.Memory.{is_failed}

pub unfailed-cause : {T : Type 0} (n : ℕ) (r : Result T FilesFault) → is_failed r ≡ false → HasReadCause n n r
unfailed-cause n (Ok x) e = record { later = omega arith; cause = refl }
unfailed-cause n (Err Failed) e = cc
unfailed-cause n (Err Absent) e = record { later = omega arith; cause = refl }
unfailed-cause n (Err TooLong) e = record { later = omega arith; cause = refl }
unfailed-cause n (Err (Memory m)) e = record { later = omega arith; cause = refl }
