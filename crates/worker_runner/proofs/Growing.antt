-- A state after entries of the run: its outputs grew, and an ending stays.
use Rattle.std.proofs.Common.{◌≡◌, ◌≤◌, List, ◌++◌, length, subst, ap, arith, ◌∙◌, length-append}
use Rattle.journal_pack.specs.declared.entry.Entry.{Entry}
use Rattle.machine_model.specs.Gated.{Leads, begin}
use Rattle.machine_model.proofs.Gates.{halfway, leads_same}
use Rattle.hall_core.specs.Hall.{both}
use Rattle.ir_runner.proofs.JournalOutputs.{leads_write}
use Rattle.thread_step.specs.Context.{HallOf}
use Rattle.worker_runner.specs.declared.watch.Place.{Place}
use Rattle.worker_runner.specs.Watched.{Grew, IsPlace, library_of}

pub onward : (h n : HallOf) (entries : List Entry) → n.case ≡ h.case → n.journal ≡ h.journal ++ entries → Leads h.case (begin h.case) h.journal (both h) → Leads n.case (begin n.case) n.journal (both n) → Leads h.case (both h) entries (both n)
onward h n entries case journal before after =
    let whole = subst (λ c. Leads c (begin c) n.journal (both n)) case after in
    let half = halfway h.case (begin h.case) (both n) h.journal entries (subst (λ j. Leads h.case (begin h.case) j (both n)) journal whole) in
    subst (λ b. Leads h.case b entries (both n)) (leads_same h.case (begin h.case) half.middle (both h) h.journal half.before before) half.after

pub grew : (h n : HallOf) (entries : List Entry) → n.case ≡ h.case → n.journal ≡ h.journal ++ entries → Leads h.case (begin h.case) h.journal (both h) → Leads n.case (begin n.case) n.journal (both n) → Grew h n
grew h n entries case journal before after =
    let w = leads_write h.case (both h) (both n) entries (onward h n entries case journal before after) in
    record { first = w.more1; first_is = w.out1; second = w.more2; second_is = w.out2 }

-- what was written of a state is there in one that grew from it
pub longer : (h n : HallOf) (at : Place) → Grew h n → IsPlace at h → (at.first ≤ length (library_of n).out1) × (at.second ≤ length (library_of n).out2)
longer h n at g p =
    let a = ap length g.first_is ∙ length-append (library_of h).out1 g.first in
    let b = ap length g.second_is ∙ length-append (library_of h).out2 g.second in
    let first = p.first in
    let second = p.second in
    (omega (arith, a, first), omega (arith, b, second))
