-- A write changes no right.
use Rattle.std.proofs.Common.{◌≡◌, ℕ, List, Result, Ok, Err, None, OnErr}
use Rattle.tso_memory.specs.declared.access.Denied.{Denied}
use Rattle.tso_memory.specs.declared.access.Access.TheVariants.{Store}
use Rattle.tso_memory.specs.Memory.{Memory, first_denied, put_bytes, refusal}
use Rattle.tso_memory.proofs.LawLemmas.{may-put_bytes}
use Rattle.lib_table.specs.Outcome.{unwritable}

pub unwritable-put : (m : Memory) (a : ℕ) (bs : List ℕ) (b n : ℕ) → unwritable (put_bytes m a bs) b n ≡ unwritable m b n
unwritable-put m a bs b n = λ i. first_denied (λ x. may-put_bytes m a x bs Store i) b n

-- where nothing is refused, no answer is an error
pub never_err : {A : Type 0} (r : Result A Denied) (P : Type 0) → refusal r ≡ None → OnErr r P
never_err (Ok v) P e = tt
never_err (Err d) P e = absurd cc
