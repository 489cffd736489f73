-- What an entry does to a control of pthread_once.
use Rattle.std.proofs.Common.{◌≡◌, ◌≢◌, ℕ, true, false, cond, List, [], ◌∷◌, ◌++◌, Option, Some, None, refl, sym, ap, ◌∙◌, subst, arith, inl, inr, ◌==◌}
use Rattle.std.specs.Prelude.{option_and_then}
use Rattle.std.specs.Ordering.{nat_cmp}
use Rattle.std.specs.FinMap.{FinMap, get, insert, get-insert}
use Rattle.std.specs.Cmp.{unsigned_tied, nat_cmp_total}
use Rattle.std.proofs.lemmas.Bool.{cases_eq}
use Rattle.std.proofs.lemmas.Option.{none-some}
use Rattle.address_space.specs.Slots.{slot_of}
use Rattle.callbacks.specs.declared.Frame.{Frame}
use Rattle.elf_image.specs.declared.place.Function.{Function}
use Rattle.journal_pack.specs.declared.entry.Entry.{Entry}
use Rattle.journal_pack.specs.declared.entry.Entry.TheVariants.{Ev}
use Rattle.lib_table.specs.declared.answer.Called.{Called}
use Rattle.lib_table.specs.declared.answer.Called.TheVariants.{Back, Probe, Over, Stay}
use Rattle.lib_table.specs.declared.ask.Asked.{Asked}
use Rattle.lib_table.specs.declared.ask.Asked.TheVariants.{Lib, EndDoor, CallDoor}
use Rattle.lib_table.specs.Library.{LibraryData}
use Rattle.sync_more.specs.declared.state.Control.{Control}
use Rattle.sync_more.specs.declared.state.Control.TheVariants.{Running, Done}
use Rattle.machine_model.specs.CaseData.{CaseData}
use Rattle.machine_model.specs.Frames.{AreCalls, Calls, ControlsBegun, ControlsDone, SameControls}
use Rattle.machine_model.specs.Gated.{Both, Leads, Spot, Stand, advance, begin}
use Rattle.machine_model.specs.Own.{IsMade, IsWhole, frames_at}
use Rattle.machine_model.specs.State.{Core}
use Rattle.machine_model.specs.Step.{ask_of, called, core_with, without_top}
use Rattle.machine_model.proofs.Calls.{calls_played, calls_stay}
use Rattle.machine_model.proofs.Costs.{came}
use Rattle.machine_model.proofs.Gates.{leads_play}
use Rattle.machine_model.proofs.Own.{made_of, whole_from, whole_stays}
use Rattle.machine_model.proofs.OwnKinds.{call_own}
use Rattle.machine_model.proofs.RowLives.{row_stays}
use Rattle.machine_model.proofs.Settled.{live_slot}
use Rattle.machine_laws.specs.Controls.{ControlGoes, Stays, Entered, Left, control_of, innermost_control}
use Rattle.machine_laws.specs.Lives.{Requests}
use Rattle.machine_laws.proofs.Effects.{Effect, IsQuiet, IsServed, Served, effect_of}
use Rattle.machine_laws.proofs.Goes.{entered_of}
use Rattle.machine_laws.proofs.Leaving.{library_by}

-- ---- one control of those that there are

get_inserted : (m : FinMap nat_cmp Control) (x y : ℕ) (v : Control) → get (insert m x v) y ≡ cond (y == x) (Some v) (get m y)
get_inserted m x y v = get-insert nat_cmp_total m x v y ∙ ap (λ t. cond t (Some v) (get m y)) (unsigned_tied y x)

set_here : (m : FinMap nat_cmp Control) (x y : ℕ) (v : Control) → y ≡ x → get (insert m x v) y ≡ Some v
set_here m x y v e = get_inserted m x y v ∙ ap (λ b. cond b (Some v) (get m y)) (let r : (y == x) ≡ true = grind (arith, e) in r)

set_elsewhere : (m : FinMap nat_cmp Control) (x y : ℕ) (v : Control) → y ≢ x → get (insert m x v) y ≡ get m y
set_elsewhere m x y v ne = get_inserted m x y v ∙ ap (λ b. cond b (Some v) (get m y)) (let r : (y == x) ≡ false = grind (arith, ne) in r)

-- ---- a request that was served

module _ (c : CaseData) (b n : Both) (t k : ℕ) (d : Stand) (spot : Spot) (whole : IsWhole b) (calls : AreCalls b.machine) (p : advance c b (Ev t k) ≡ Some n) (is : IsMade c b (Ev t k) d n.machine spot) (h : Served c b.machine n.machine t k d.cpu) (x : ℕ) where
  abbrev the_core : Core
  the_core = core_with b.machine t d.cpu

  lib : n.machine.library ≡ h.after
  lib = library_by c b.machine n.machine t k d.cpu h

  requests : (what : Asked) → h.what ≡ what → Requests c b (Ev t k) t what
  requests what e = record { k = k; event = refl; stand = d; ahead = is.ahead; asks = h.asks ∙ ap (λ y. Some y) e }

  frames_by : (what : Asked) (answer : Called) → h.what ≡ what → h.answer ≡ answer → frames_at n t ≡ (called the_core what answer).frames
  frames_by what answer w a =
      let left = entered_of c b n t k d spot is in
      (call_own c b n t k d left.0 h.what h.after h.memory h.answer whole p is.ahead left.1 h.asks h.row (live_slot b.machine t is.live)).0.frames
      ∙ ap (λ y. (called the_core y h.answer).frames) w ∙ ap (λ y. (called the_core what y).frames) a

  control_by : (m : FinMap nat_cmp Control) → h.after.rooms.controls ≡ m → control_of n x ≡ get m x
  control_by m e = ap (λ (l : LibraryData). get l.rooms.controls x) lib ∙ ap (λ y. get y x) e

  stays : SameControls b.machine.library h.after → ControlGoes c b n (Ev t k) x
  stays e = Stays (control_by b.machine.library.rooms.controls e)

  other_stays : (y : ℕ) (v : Control) → x ≢ y → h.after.rooms.controls ≡ insert b.machine.library.rooms.controls y v → ControlGoes c b n (Ev t k) x
  other_stays y v ne e = Stays (control_by _ e ∙ set_elsewhere b.machine.library.rooms.controls y x v ne)

  left_by : (y : ℕ) → h.what ≡ CallDoor → innermost_control b t ≡ Some y → frames_at n t ≡ without_top (frames_at b t) → h.after.rooms.controls ≡ insert b.machine.library.rooms.controls y Done → ControlGoes c b n (Ev t k) x
  left_by y door top frames e = elim (cases_eq x y) [
    | inl here ↦
        let own : innermost_control b t ≡ Some x = top ∙ ap (λ z. Some z) (sym here) in
        Left (record {
          before = calls.running (slot_of t) _ x own;
          after = control_by _ e ∙ set_here b.machine.library.rooms.controls y x Done here;
          thread = t;
          call = requests CallDoor door;
          innermost = own;
          frames = frames;
        })
    | inr ne ↦ other_stays y Done ne e
  ]

  entered_by : (f : Function) (y : ℕ) (frame : Frame) → h.what ≡ Lib f → frame.control ≡ Some y → frames_at n t ≡ frames_at b t ++ frame ∷ [] → get b.machine.library.rooms.controls y ≡ None → h.after.rooms.controls ≡ insert b.machine.library.rooms.controls y (Running t) → ControlGoes c b n (Ev t k) x
  entered_by f y frame what control frames new e = elim (cases_eq x y) [
    | inl here ↦ Entered (record {
      before = ap (λ z. control_of b z) here ∙ new;
      thread = t;
      after = control_by _ e ∙ set_here b.machine.library.rooms.controls y x (Running t) here;
      function = f;
      call = requests (Lib f) what;
      frame = frame;
      control = control ∙ ap (λ z. Some z) (sym here);
      frames = frames;
    })
    | inr ne ↦ other_stays y (Running t) ne e
  ]

  goes_by : (what : Asked) (answer : Called) → h.what ≡ what → h.answer ≡ answer → Calls what b.machine.library h.after t (ask_of the_core what) answer → ControlGoes c b n (Ev t k) x
  goes_by what (Back rax rsp rip false) w a says = stays says
  goes_by what (Back rax rsp rip true) w a says = returned says.frame.control refl
    where
      returned : (o : Option ℕ) → says.frame.control ≡ o → ControlGoes c b n (Ev t k) x
      returned None e = stays (subst (λ o. ControlsDone o b.machine.library h.after) e says.controls)
      returned (Some y) e = left_by y (w ∙ says.door) (ap (option_and_then (λ (f : Frame). f.control)) says.top ∙ e) (frames_by what (Back rax rsp rip true) w a) (subst (λ o. ControlsDone o b.machine.library h.after) e says.controls)
  goes_by (Lib f) (Probe frame place) w a says = begun frame.control refl
    where
      begun : (o : Option ℕ) → frame.control ≡ o → ControlGoes c b n (Ev t k) x
      begun None e = stays (subst (λ o. ControlsBegun o b.machine.library h.after t) e says.controls)
      begun (Some y) e =
          let new = subst (λ o. ControlsBegun o b.machine.library h.after t) e says.controls in
          entered_by f y frame w e (frames_by (Lib f) (Probe frame place) w a) new.0 new.1
  goes_by CallDoor (Probe frame place) w a says = stays says.controls
  goes_by EndDoor (Probe frame place) w a says = absurd says
  goes_by what Stay w a says = stays says
  goes_by what Over w a says = stays says

  served_goes : ControlGoes c b n (Ev t k) x
  served_goes = goes_by h.what h.answer refl refl (row_stays b.machine.library h.after b.machine.tso.memory h.memory t 0 (ask_of the_core h.what) h.answer whole.machine.slots h.row).calls

by_effect : (c : CaseData) (b n : Both) (e : Entry) (x : ℕ) (d : Stand) (spot : Spot) → IsWhole b → AreCalls b.machine → advance c b e ≡ Some n → IsMade c b e d n.machine spot → Effect c b.machine n.machine e d.cpu → ControlGoes c b n e x
by_effect c b n e x d spot whole calls p is (IsQuiet q) = Stays (ap (λ (l : LibraryData). get l.rooms.controls x) q.library)
by_effect c b n e x d spot whole calls p is (IsServed t k event h) =
    subst (λ y. ControlGoes c b n y x) (sym event) (served_goes c b n t k d spot whole calls (subst (λ y. advance c b y ≡ Some n) event p) (subst (λ y. IsMade c b y d n.machine spot) event is) h x)

control_goes : (c : CaseData) (b n : Both) (e : Entry) (x : ℕ) → IsWhole b → AreCalls b.machine → advance c b e ≡ Some n → ControlGoes c b n e x
control_goes c b n e x whole calls p =
    let m = made_of c b n e p in
    by_effect c b n e x m.stand m.spot whole calls p m.is (effect_of c b.machine n.machine e m.stand.cpu m.is.made)

-- ---- many entries

one_done : (c : CaseData) (b n : Both) (e : Entry) (x : ℕ) → ControlGoes c b n e x → control_of b x ≡ Some Done → control_of n x ≡ Some Done
one_done c b n e x (Stays same) h = same ∙ h
one_done c b n e x (Entered is) h = absurd (none-some Done (sym is.before ∙ h))
one_done c b n e x (Left is) h = is.after

done_on : (c : CaseData) (b n : Both) (es : List Entry) (x : ℕ) → IsWhole b → AreCalls b.machine → Leads c b es n → control_of b x ≡ Some Done → control_of n x ≡ Some Done
unfolding Leads
done_on c b n [] x whole calls p h = ap (λ y. control_of y x) (sym p) ∙ h
done_on c b n (e ∷ es) x whole calls p h =
    done_on c p.0 n es x (whole_stays c b p.0 e whole p.1) (calls_stay c b.machine p.0.machine e whole.machine calls (came c b p.0 e p.1).stepped) p.3 (one_done c b p.0 e x (control_goes c b p.0 e x whole calls p.1) h)

-- ---- as the laws have it

pub calls_from : (c : CaseData) (journal : List Entry) (b : Both) → Leads c (begin c) journal b → AreCalls b.machine
calls_from c journal b p = calls_played c journal b.machine (leads_play c b journal p)

pub entry_law : (c : CaseData) (journal : List Entry) (b n : Both) (e : Entry) (x : ℕ) → Leads c (begin c) journal b → advance c b e ≡ Some n → ControlGoes c b n e x
entry_law c journal b n e x leads p = control_goes c b n e x (whole_from c b journal leads) (calls_from c journal b leads) p

pub done_law : (c : CaseData) (before after : List Entry) (b n : Both) (x : ℕ) → Leads c (begin c) before b → Leads c b after n → control_of b x ≡ Some Done → control_of n x ≡ Some Done
done_law c before after b n x p q h = done_on c b n after x (whole_from c b before p) (calls_from c before b p) q h
