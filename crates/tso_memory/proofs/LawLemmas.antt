-- The laws of the definitions.
use Rattle.std.proofs.Common.{◌≡◌, ℕ, zero, suc, ◌+◌, ◌-◌, ◌<◌, ◌≤◌, Bool, true, false, cond, List, [], ◌∷◌, ◌++◌, length, Option, Some, None, refl, ap, ◌∙◌, inl, inr, arith}
use Rattle.std.specs.FinMap.{get}
use Rattle.std.specs.Int.{byte_at}
use Rattle.std.proofs.lemmas.Bool.{cases_eq}
use Rattle.tso_memory.specs.declared.access.Access.{Access}
use Rattle.tso_memory.specs.declared.access.Access.TheVariants.{Load, Store, Locked}
use Rattle.tso_memory.specs.declared.write.PendingWrite.{PendingWrite}
use Rattle.tso_memory.specs.Buffer.{covers, seen}
use Rattle.tso_memory.specs.Memory.{Cell, Memory, first_denied, may, permits, put_bytes, written}
use Rattle.tso_memory.proofs.MemoryLemmas.{get-put_bytes, put_at-in, put_at-out, where_is}

permits-written : (access : Access) (o : Option Cell) (b : ℕ) → permits access (written o b) ≡ permits access o
permits-written access None b = refl
permits-written Load (Some c) b = refl
permits-written Store (Some c) b = refl
permits-written Locked (Some c) b = refl

pub may-put_bytes : (m : Memory) (a x : ℕ) (bs : List ℕ) (access : Access) → may (put_bytes m a bs) access x ≡ may m access x
may-put_bytes m a x bs access = ap (permits access) (get-put_bytes bs m a x) ∙ elim (where_is a (length bs) x) [
  | inl in_it ↦ ap (permits access) (put_at-in a bs x (get m x) in_it.0 in_it.1) ∙ permits-written access (get m x) _
  | inr out ↦ ap (permits access) (put_at-out a bs x (get m x) out)
]

allowed_step : (test : ℕ → Bool) (a n : ℕ) → (first_denied test (a + 1) n ≡ None → (x : ℕ) → a + 1 ≤ x → x < a + 1 + n → test x ≡ true) → (b : Bool) → test a ≡ b → cond b (first_denied test (a + 1) n) (Some a) ≡ None → (x : ℕ) → a ≤ x → x < a + suc n → test x ≡ true
allowed_step test a n rest true t e x from to = elim (cases_eq x a) [ inl same ↦ rw same t | inr ne ↦ rest e x (omega arith) (omega arith) ]
allowed_step test a n rest false t e x from to = cc

pub allowed_each : (test : ℕ → Bool) (a n : ℕ) → first_denied test a n ≡ None → (x : ℕ) → a ≤ x → x < a + n → test x ≡ true
unfolding first_denied
allowed_each test a zero e x from to = absurd (omega arith)
allowed_each test a (suc n) e x from to = allowed_step test a n (λ h. allowed_each test (a + 1) n h) (test a) refl e x from to

pub seen-push : (ps : List PendingWrite) (p : PendingWrite) (x b : ℕ) → seen (ps ++ p ∷ []) x b ≡ cond (covers p x) (byte_at (x - p.at) p.value) (seen ps x b)
unfolding seen
seen-push [] p x b = refl
seen-push (q ∷ ps) p x b = seen-push ps p x (cond (covers q x) (byte_at (x - q.at) q.value) b)

pub seen-own : (ps : List PendingWrite) (p : PendingWrite) (x b : ℕ) → covers p x ≡ true → seen (ps ++ p ∷ []) x b ≡ byte_at (x - p.at) p.value
seen-own ps p x b t = seen-push ps p x b ∙ (rw t refl)

pub seen-others : (ps : List PendingWrite) (p : PendingWrite) (x b : ℕ) → covers p x ≡ false → seen (ps ++ p ∷ []) x b ≡ seen ps x b
seen-others ps p x b t = seen-push ps p x b ∙ (rw t refl)
