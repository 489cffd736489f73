-- The workers of a run, made one by one.
use Rattle.std.proofs.Common.{◌≡◌, ℕ, ◌+◌, ◌<◌, List, [], ◌∷◌, ◌++◌, length, slice_index_or, refl, sym, subst, ap, ◌∙◌, arith, length-append}
use Rattle.atomic_table.specs.Seated.{TableId}
use Rattle.turn_lock.specs.declared.pass.Pass.{Pass}
use Rattle.turn_lock.specs.Words.{pass_number}
use Rattle.thread_step.specs.declared.guest.Guest.{Guest}
use Rattle.thread_step.specs.Context.{HallOf, IsContext}
use Rattle.thread_step.specs.Guest.{guest_slot}
use Rattle.worker_runner.specs.declared.round.Worker.{Worker}
use Rattle.worker_runner.specs.Counts.{AreFresh, IsFresh}
use Rattle.worker_runner.specs.Rounds.{AreReady, IsReadyAt}
use Rattle.worker_runner.specs.Workers.{AreFirstGuests, AreFirstPasses, IsFirstGuest, IsFirstPass, IsWorkerOf}
use Rattle.worker_runner.proofs.Coupling.{back_front, back_last, each_head, each_none, each_snoc, each_tail, front_from, last_from}

-- one guest more
pub guests_none : (h : HallOf) → AreFirstGuests h []
guests_none h k j d less is = absurd (omega (arith, less))

pub guests_next : (h : HallOf) (guests : List Guest) (g : Guest) (slot : ℕ) → length guests + slot ≡ 63 → AreFirstGuests h guests → IsFirstGuest h slot g → AreFirstGuests h (guests ++ g ∷ [])
guests_next h guests g slot is each new = λ k j d less sum.
    each_snoc (λ i x. (n : ℕ) → i + n ≡ 63 → IsFirstGuest h n x) guests g (λ i e low n m. each i n e low m) (λ n m. subst (λ i. IsFirstGuest h i g) (omega (arith, is, m)) new) k d less j sum

-- as many guests are left as passes, and 64 workers there will be
pub record InStep {N : Type 0} (guests : List Guest) (passes : List (Pass HallOf)) (workers : List (Worker N)) : Type 0 where
  pub left : length guests ≡ length passes
  pub made : length workers + length passes ≡ 64

module _ {N : Type 0} (key : TableId) (h : HallOf) where
  -- so many workers were made, of the last guests and the first passes
  pub record Mid (guests : List Guest) (passes : List (Pass HallOf)) (workers : List (Worker N)) : Type 0 where
    pub left : length guests ≡ length passes
    pub made : length workers + length passes ≡ 64
    pub guests_are : AreFirstGuests h guests
    pub passes_are : AreFirstPasses key h (length workers) passes
    pub workers_are : (k : ℕ) (d : Worker N) → k < length workers → IsReadyAt key h.case k (slice_index_or workers k d).ctx
    pub fresh : AreFresh h workers

  pub mid_none : (guests : List Guest) (passes : List (Pass HallOf)) (workers : List (Worker N)) → workers ≡ [] → length guests ≡ 64 → length passes ≡ 64 → AreFirstGuests h guests → AreFirstPasses key h 0 passes → Mid guests passes workers
  mid_none guests passes workers none few many gs ps = record {
    left = few ∙ sym many;
    made = let z = ap length none in omega (arith, many, z);
    guests_are = gs;
    passes_are = subst (λ n. AreFirstPasses key h n passes) (let z = ap length none in omega (arith, z)) ps;
    workers_are = subst (λ (ws : List (Worker N)). (k : ℕ) (d : Worker N) → k < length ws → IsReadyAt key h.case k (slice_index_or ws k d).ctx) (sym none) (each_none (λ k (w : Worker N). IsReadyAt key h.case k w.ctx));
    fresh = subst (AreFresh h) (sym none) (each_none (λ k (w : Worker N). IsFresh h w.ctx));
  }

  module _ (guests left : List Guest) (passes rest : List (Pass HallOf)) (workers more : List (Worker N)) (guest : Guest) (pass : Pass HallOf) (m : Mid guests passes workers) (guests_is : guests ≡ left ++ guest ∷ []) (passes_is : passes ≡ pass ∷ rest) where
    pub its_guest : IsFirstGuest h (length workers) guest
    its_guest =
        let len = length-append left (guest ∷ []) in
        let n = ap length guests_is in
        let made = m.made in
        let same = m.left in
        back_last (λ j g. IsFirstGuest h j g) left guest (length workers) (omega (arith, len, n, made, same)) (subst (AreFirstGuests h) guests_is m.guests_are)

    pub its_pass : IsFirstPass key h (length workers) pass
    its_pass = each_head (λ j p. IsFirstPass key h j p) (length workers) pass rest (subst (AreFirstPasses key h (length workers)) passes_is m.passes_are)

    pub same_number : pass_number pass ≡ guest_slot guest
    same_number = its_pass.number ∙ sym its_guest.slot_is

    ready_there : {engine : N} (w : Worker N) → IsWorkerOf guest pass engine w → IsReadyAt key h.case (length workers) w.ctx
    ready_there w is = record {
      hall = h;
      context = subst (λ k. IsContext k w.ctx h) its_pass.lock (is.context h its_pass.saw its_guest.ready);
      case = refl;
      its = is.slot ∙ its_guest.slot_is;
    }

    pub mid_next : {engine : N} (w : Worker N) → IsWorkerOf guest pass engine w → more ≡ workers ++ w ∷ [] → Mid left rest more
    mid_next w is more_is =
        let len = length-append left (guest ∷ []) in
        let len2 = length-append workers (w ∷ []) in
        let n = ap length guests_is in
        let n2 = ap length more_is in
        let n3 = ap length passes_is in
        let made = m.made in
        let same = m.left in
        record {
          left = omega (arith, len, n, n3, same);
          made = omega (arith, len2, n2, n3, made);
          guests_are = back_front (λ j g. IsFirstGuest h j g) left guest (subst (AreFirstGuests h) guests_is m.guests_are);
          passes_are = each_tail (λ j p. IsFirstPass key h j p) (length workers) (length more) pass rest (omega (arith, len2, n2)) (subst (AreFirstPasses key h (length workers)) passes_is m.passes_are);
          workers_are = subst (λ (ws : List (Worker N)). (k : ℕ) (d : Worker N) → k < length ws → IsReadyAt key h.case k (slice_index_or ws k d).ctx) (sym more_is) (each_snoc (λ k (v : Worker N). IsReadyAt key h.case k v.ctx) workers w m.workers_are (ready_there w is));
          fresh = subst (AreFresh h) (sym more_is) (each_snoc (λ k (v : Worker N). IsFresh h v.ctx) workers w m.fresh (record { pass = pass; there = is.pass_is; saw = its_pass.saw; none = is.steps ∙ its_guest.told }));
        }

  pub mid_all : (guests : List Guest) (passes : List (Pass HallOf)) (workers : List (Worker N)) → length passes ≡ 0 → Mid guests passes workers → AreReady key h.case workers
  mid_all guests passes workers none m = ((let made = m.made in omega (arith, none, made)), m.workers_are)

-- the driver's pass is the last one
pub split_passes : (key : TableId) (h : HallOf) (dealt front : List (Pass HallOf)) (driver : Pass HallOf) → dealt ≡ front ++ driver ∷ [] → length dealt ≡ 65 → AreFirstPasses key h 0 dealt → AreFirstPasses key h 0 front × IsFirstPass key h 64 driver
split_passes key h dealt front driver is many all =
    let these = subst (AreFirstPasses key h 0) is all in
    let len = length-append front (driver ∷ []) in
    let n = ap length is in
    (front_from (λ j p. IsFirstPass key h j p) 0 front driver these, subst (λ n. IsFirstPass key h n driver) (omega (arith, len, n, many)) (last_from (λ j p. IsFirstPass key h j p) 0 front driver these))
