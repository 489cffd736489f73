-- What the entry of a call of the library, or of a return to a door, leaves of a guest and its thread.
use Rattle.std.proofs.Common.{◌≡◌, ◌≢◌, ℕ, ◌+◌, ◌-◌, ◌%◌, ◌^◌, ◌<◌, ◌⊎◌, inl, inr, true, false, cond, List, [], Option, Some, None, refl, sym, ap, ◌∙◌, subst, arith, ◌&&◌, ◌==◌, nat_lt, length, length-set, slice_index, slice_set}
use Rattle.std.specs.Prelude.{is_none}
use Rattle.std.proofs.lemmas.Bool.Decides.{nat_tests}
use Rattle.std.proofs.lemmas.List.{get_or-set_same}
use Rattle.std.proofs.lemmas.Option.{none-some, same_Some}
use Rattle.address_space.specs.Slots.{generation_of, slot_of}
use Rattle.address_space.proofs.Numbers.{slot_below}
use Rattle.elf_image.specs.declared.place.Function.{Function}
use Rattle.elf_image.specs.declared.place.Function.TheVariants as function
use Rattle.elf_image.specs.Layout.{ImageData, function_at}
use Rattle.guest_state.specs.declared.virtual_state.Virtual.{Virtual}
use Rattle.x86_forms.specs.declared.instructions.Instr.{Instr}
use Rattle.x86_model.specs.declared.cpu.Cpu.{Cpu}
use Rattle.x86_model.specs.declared.want.Door.{Door}
use Rattle.x86_model.specs.declared.want.Want.{Want}
use Rattle.x86_model.specs.declared.want.Want.TheVariants as wants
use Rattle.x86_model.specs.Want.{door_at, standing, want}
use Rattle.lift_table.specs.Follow.{Agrees}
use Rattle.lift_table.proofs.LiftNumbers.{set_below}
use Rattle.tso_memory.specs.Memory.{Memory}
use Rattle.tso_memory.specs.Tso.{is_none_waiting}
use Rattle.lib_table.specs.declared.answer.BadKind.{BadKind}
use Rattle.lib_table.specs.declared.answer.Called.{Called}
use Rattle.lib_table.specs.declared.answer.Called.TheVariants.{Back, Probe, Over, Stay}
use Rattle.lib_table.specs.declared.ask.Ask.{Ask}
use Rattle.lib_table.specs.declared.ask.Asked.{Asked}
use Rattle.lib_table.specs.declared.ask.Asked.TheVariants.{Lib, EndDoor, CallDoor}
use Rattle.lib_table.specs.declared.life.Life.TheVariants.{Ended}
use Rattle.lib_table.specs.declared.slot.Slot.{Slot}
use Rattle.lib_table.specs.Library as lib
use Rattle.lib_table.specs.Library.{LibraryData, life_in, live_number, new_slot, number_at, slot_at, with_life}
use Rattle.lib_table.specs.Outcome.{RowResult, Done, Waits, Bad}
use Rattle.lib_table.specs.Row.{asked_row, is_waiting, row, waits}
use Rattle.lib_table.specs.Searches.{probe_rsp}
use Rattle.journal_pack.specs.declared.entry.Entry.TheVariants.{Ev}
use Rattle.basic_blocks.specs.Places.{is_code_place}
use Rattle.machine_model.specs.CaseData.{CaseData}
use Rattle.machine_model.specs.State.{Core, Machine, is_live}
use Rattle.machine_model.specs.Step.{ask_of, asked_by, called as core_after, called_with, carried_out, core_with, exit_by, later, privately, row_at, served, serving, waits_for}
use Rattle.machine_model.specs.Gated.{Both, Stand, advance, between_blocks, entered, gated_steps, onward, within_block}
use Rattle.machine_model.specs.Own.{frames_at, writes_at}
use Rattle.machine_model.specs.Serial.{AtEvent, rule_at}
use Rattle.machine_model.proofs.Own.{whole_stays}
use Rattle.machine_model.proofs.OwnKinds.{call_bad, call_own}
use Rattle.machine_model.proofs.Settled.{live_slot}
use Rattle.guest_parts.specs.Standing.{StandsBetween, StandsIn}
use Rattle.guest_parts.specs.Requests.{stand_by}
use Rattle.guest_parts.specs.Guest.{GuestData, IsGoing, IsWith, LeavesEnded, LeavesWith}
use Rattle.guest_parts.specs.Points.{point_at}
use Rattle.guest_parts.specs.Calls.{AsksWith, FitsRegisters, HasKey, IsAtCall, LeavesGone, asked_in, asked_of, frames_after, goes_on, guest_after, place_after, regs_after, request_by, request_of}
use Rattle.guest_parts.proofs.Entries.{event_comes, some_of}
use Rattle.guest_parts.proofs.Rows.{row_tells}
use Rattle.guest_parts.proofs.Turns.{at_event, not_missing}

-- ---- what stands at an address

asked_standing : (d : Option Door) (f : Option Function) (i : Option (Instr × ℕ)) (s : Cpu) (what : Asked) → asked_of d f ≡ Some what → asked_by (standing d f i s) ≡ Some what
asked_standing (Some d) f i s what e = e
asked_standing None (Some f) i s what e = e
asked_standing None None i s what e = absurd (none-some what e)

asks_there : (image : ImageData) (s : Cpu) (what : Asked) → asked_in image s.rip ≡ Some what → asked_by (want image s) ≡ Some what
unfolding want
asks_there image s what e = asked_standing (door_at s.rip) (function_at s.rip image.entries) _ s what e

no_code : (d : Option Door) (f : Option Function) (what : Asked) → asked_of d f ≡ Some what → (is_none d && is_none f) ≡ false
no_code (Some d) f what e = refl
no_code None (Some f) what e = refl
no_code None None what e = absurd (none-some what e)

between_none : (image : ImageData) (grown : List ℕ) (rip : ℕ) (left : List ℕ) → is_code_place image rip ≡ false → left ≡ [] → entered image grown rip left ≡ Some []
between_none image grown rip left code none = ap (λ x. cond x (within_block image grown rip left) (between_blocks left)) code ∙ ap between_blocks none

-- ---- what is asked

not_private : (w : Want) (what : Asked) → asked_by w ≡ Some what → privately w ≡ None
not_private (wants.Private next) what e = absurd (none-some what e)
not_private (wants.Load a x) what e = refl
not_private (wants.Store a x value next) what e = refl
not_private (wants.Fence next) what e = refl
not_private (wants.Locked a x change) what e = refl
not_private (wants.Call f) what e = refl
not_private (wants.Door d) what e = refl
not_private (wants.Bad kind) what e = refl

serves_asked : (m : Machine) (t : ℕ) (cpu : Cpu) (w : Want) (what : Asked) → asked_by w ≡ Some what → carried_out w m t cpu ≡ serving m t (core_with m t cpu) what
serves_asked m t cpu (wants.Private next) what e = absurd (none-some what e)
serves_asked m t cpu (wants.Load a x) what e = absurd (none-some what e)
serves_asked m t cpu (wants.Store a x value next) what e = absurd (none-some what e)
serves_asked m t cpu (wants.Fence next) what e = absurd (none-some what e)
serves_asked m t cpu (wants.Locked a x change) what e = absurd (none-some what e)
serves_asked m t cpu (wants.Call f) what e = ap (serving m t (core_with m t cpu)) (let same : Lib f ≡ what = same_Some (Lib f) what e in same)
serves_asked m t cpu (wants.Door d) what e = ap (serving m t (core_with m t cpu)) (same_Some _ what e)
serves_asked m t cpu (wants.Bad kind) what e = absurd (none-some what e)

served_some : (m : Machine) (t : ℕ) (core : Core) (what : Asked) (r : RowResult) → is_waiting r ≡ false → (n : Machine) × (served m t core what r ≡ Some n)
served_some m t core what (Done l y called) e = (_, refl)
served_some m t core what Waits e = absurd (let h : true ≡ false = e in cc)
served_some m t core what (Bad kind) e = (_, refl)

-- ---- registers after an answer

called_count : (o : Option ℕ) (regs : List ℕ) (key place : ℕ) → length (called_with o regs key place) ≡ length regs
called_count None regs key place = length-set {A = ℕ} (slice_set regs 7 key) 6 place ∙ length-set {A = ℕ} regs 7 key
called_count (Some control) regs key place = refl

called_below : (o : Option ℕ) (regs : List ℕ) (key place : ℕ) → key < 2 ^ 64 → place < 2 ^ 64 → ((r : ℕ) → slice_index regs r < 2 ^ 64) → (r : ℕ) → slice_index (called_with o regs key place) r < 2 ^ 64
called_below None regs key place k p each r = set_below (slice_set regs 7 key) 6 place (2 ^ 64) p (set_below regs 7 key (2 ^ 64) k each) r
called_below (Some control) regs key place k p each r = each r

after_count : (called : Called) (regs : List ℕ) → length (regs_after called regs) ≡ length regs
after_count (Back rax rsp rip popped) regs = length-set {A = ℕ} (slice_set regs 0 rax) 4 rsp ∙ length-set {A = ℕ} regs 0 rax
after_count (Probe frame place) regs = length-set {A = ℕ} (called_with frame.control regs frame.key place) 4 (probe_rsp frame) ∙ called_count frame.control regs frame.key place
after_count Stay regs = refl
after_count Over regs = refl

below_word : (x : ℕ) → x % 2 ^ 64 < 2 ^ 64
below_word x = omega arith

after_below : (called : Called) (regs : List ℕ) → FitsRegisters called → ((r : ℕ) → slice_index regs r < 2 ^ 64) → (r : ℕ) → slice_index (regs_after called regs) r < 2 ^ 64
after_below (Back rax rsp rip popped) regs fits each r = set_below (slice_set regs 0 rax) 4 rsp (2 ^ 64) fits.1 (set_below regs 0 rax (2 ^ 64) fits.0 each) r
after_below (Probe frame place) regs fits each r = set_below (called_with frame.control regs frame.key place) 4 (probe_rsp frame) (2 ^ 64) (below_word (frame.rsp + (2 ^ 64 - 16))) (called_below frame.control regs frame.key place fits.0 fits.1 each) r
after_below Stay regs fits each r = each r
after_below Over regs fits each r = each r

-- what the thread works on then
core_regs : (core : Core) (what : Asked) (called : Called) → (core_after core what called).cpu ≡ record core.cpu { regs = regs_after called core.cpu.regs; rip = place_after called core.cpu.rip }
core_regs core what (Back rax rsp rip false) = refl
core_regs core what (Back rax rsp rip true) = refl
core_regs core what (Probe frame place) = refl
core_regs core what Stay = refl
core_regs core what Over = refl

core_frames : (core : Core) (what : Asked) (called : Called) → (core_after core what called).frames ≡ frames_after what called core.frames
core_frames core what (Back rax rsp rip false) = refl
core_frames core what (Back rax rsp rip true) = refl
core_frames core what (Probe frame place) = refl
core_frames core what Stay = refl
core_frames core what Over = refl

onward_none : (mid : Option ℕ) → onward mid [] ≡ []
onward_none None = refl
onward_none (Some v) = refl

stands_after : (called : Called) (a last : ℕ) (v : Virtual) (d : Stand) → StandsBetween a last v d → FitsRegisters called → StandsBetween (place_after called a) last (record v { regs = regs_after called v.regs }) (stand_by (record d.cpu { regs = regs_after called d.cpu.regs; rip = place_after called d.cpu.rip }) (onward d.cpu.mid []))
stands_after called a last v d s fits =
    let h : Agrees None v d.cpu = s.agrees.1 in
    record {
      left = onward_none d.cpu.mid;
      agrees = (
        ap (place_after called) s.agrees.0,
        record {
          regs = ap (regs_after called) h.regs;
          flags = h.flags;
          mid = h.mid;
          count = after_count called d.cpu.regs ∙ h.count;
          each = after_below called d.cpu.regs fits h.each;
          temps = h.temps;
        },
      );
      finished = s.finished;
    }

-- ---- lives

exit_function : (core : Core) (f : Function) (l after : LibraryData) (m n : Memory) (t : ℕ) (ask : Ask) (called : Called) → asked_row (Lib f) l m t ask ≡ Done after n called → goes_on called ≡ true → exit_by core (Lib f) ≡ None
exit_function core function.Exit l after m n t ask called e goes = absurd (let same : Over ≡ called = ap answer_in e in let clash : false ≡ true = ap goes_on same ∙ goes in cc)
  where
    answer_in : RowResult → Called
    answer_in (Done x y z) = z
    answer_in Waits = Over
    answer_in (Bad kind) = Over
exit_function core f l after m n t ask called e goes = refl

no_exit : (core : Core) (what : Asked) (l after : LibraryData) (m n : Memory) (t : ℕ) (ask : Ask) (called : Called) → asked_row what l m t ask ≡ Done after n called → goes_on called ≡ true → exit_by core what ≡ None
no_exit core (Lib f) l after m n t ask called e goes = exit_function core f l after m n t ask called e goes
no_exit core EndDoor l after m n t ask called e goes = refl
no_exit core CallDoor l after m n t ask called e goes = refl

row_asked : (l : LibraryData) (m : Memory) (t : ℕ) (ask : Ask) → row l m t ask ≡ asked_row ask.what l m t ask
unfolding row
row_asked l m t ask = refl

ended_slot : (g value : ℕ) → life_in (record { generation = g; life = Ended value }) g ≡ Ended value
unfolding life_in
ended_slot g value = let less : nat_lt g g ≡ false = grind (arith, nat_tests) in let same : (g == g) ≡ true = grind (arith, nat_tests) in rw (less, same) refl

ended_in : (l : LibraryData) (t value : ℕ) → length l.slots ≡ 64 → slot_at (with_life l t (Ended value)) (slot_of t) ≡ record { generation = generation_of t; life = Ended value }
ended_in l t value sized =
    let low = slot_below t in
    let lt : slot_of t < length l.slots = omega (arith, low, sized) in
    get_or-set_same l.slots (slot_of t) (record { generation = generation_of t; life = Ended value }) new_slot lt

not_live : (l : LibraryData) (t value : ℕ) → length l.slots ≡ 64 → lib.is_live (with_life l t (Ended value)) t ≡ false
not_live l t value sized = ap (λ x. lib.is_running (life_in x (generation_of t))) (ended_in l t value sized) ∙ ap lib.is_running (ended_slot (generation_of t) value)

none_there : (l : LibraryData) (t value : ℕ) → length l.slots ≡ 64 → lib.thread_in (with_life l t (Ended value)) (slot_of t) ≡ None
none_there l t value sized = ap (λ (x : Slot). live_number (number_at (with_life l t (Ended value)) (slot_of t)) x.life) (ended_in l t value sized)

-- ---- a guest at a call

module _ (c : CaseData) (b : Both) (t : ℕ) (g : GuestData) (d : Stand) (a : ℕ) (what : Asked) (w : IsWith c b t g d) (at : IsAtCall c g a what) where
  there : StandsBetween a g.last g.state d
  there = subst (λ z. StandsIn c.image b.gate.grown z g.last g.state d) at.0 w.stands

  pub asks_with : AsksWith c b t g d a what
  asks_with =
      let s = there in
      let rip : d.cpu.rip ≡ a = sym s.agrees.0 in
      let stands : asked_in c.image d.cpu.rip ≡ Some what = ap (asked_in c.image) rip ∙ at.1 in
      let code : is_code_place c.image d.cpu.rip ≡ false = no_code (door_at d.cpu.rip) (function_at d.cpu.rip c.image.entries) what stands in
      let asked : asked_by (want c.image d.cpu) ≡ Some what = asks_there c.image d.cpu what stands in
      let asks : ask_of (core_with b.machine t d.cpu) what ≡ request_of g what = ap (λ x. request_by x (frames_at b t) what) (sym s.agrees.1.regs) ∙ ap (λ x. request_by g.state.regs x what) w.frames in
      record {
        rip = rip;
        enters = between_none c.image b.gate.grown d.cpu.rip d.left code s.left;
        wants = asked;
        asks = asks;
        waits = ap (waits_for b.machine t (core_with b.machine t d.cpu)) asked ∙ ap (λ x. waits b.machine.library b.machine.tso.memory t x) asks;
      }

  pub call_stops : b.machine.steps + g.k < c.limit → g.k ≢ 4096 → rule_at c b (point_at g.k d) ≡ AtEvent
  call_stops room few =
      let x = asks_with in
      at_event c b (point_at g.k d) room (not_missing c.image b.gate.grown d [] x.enters) few (not_private (want c.image d.cpu) what x.wants)

  pub answers_fit : IsGoing b t → t < 2 ^ 32 → HasKey (request_of g what).top → (library : LibraryData) (memory : Memory) (called : Called) → row b.machine.library b.machine.tso.memory t (request_of g what) ≡ Done library memory called → FitsRegisters called
  answers_fit h low key library memory called e =
      let s : StandsBetween a g.last g.state d = there in
      let each : (r : ℕ) → slice_index g.state.regs r < 2 ^ 64 = λ r. subst (λ xs. slice_index xs r < 2 ^ 64) (sym s.agrees.1.regs) (s.agrees.1.each r) in
      let tells = row_tells b.machine.library library b.machine.tso.memory memory t (request_of g what) called h.whole.machine.slots (live_slot b.machine t h.live) e in
      tells.fits (record { number = low; first = each 7; second = each 6; key = key })

  module _ (h : IsGoing b t) (room : b.machine.steps + g.k < c.limit) (none : is_none_waiting (writes_at b t) ≡ true) where
    pub call_comes : waits b.machine.library b.machine.tso.memory t (request_of g what) ≡ false → (n : Both) × (advance c b (Ev t g.k) ≡ Some n)
    call_comes free =
        let x = asks_with in
        let before = later b.machine (g.k + 1) in
        let asked : is_waiting (row_at b.machine t (core_with b.machine t d.cpu) what) ≡ false = ap (λ z. waits b.machine.library b.machine.tso.memory t z) x.asks ∙ free in
        let m = served_some before t (core_with b.machine t d.cpu) what (row_at b.machine t (core_with b.machine t d.cpu) what) asked in
        let carried : carried_out (want c.image d.cpu) before t d.cpu ≡ Some m.0 = serves_asked before t d.cpu (want c.image d.cpu) what x.wants ∙ ap (λ z. cond z (served before t (core_with b.machine t d.cpu) what (row_at b.machine t (core_with b.machine t d.cpu) what)) None) none ∙ m.1 in
        event_comes c b t g d h w [] m.0 room x.enters carried

    module _ (library : LibraryData) (memory : Memory) where
      pub call_answers : (called : Called) → row b.machine.library b.machine.tso.memory t (request_of g what) ≡ Done library memory called → goes_on called ≡ true → FitsRegisters called → LeavesWith c b t (Ev t g.k) (guest_after g a what called)
      unfolding gated_steps
      call_answers called e goes fits =
          let x = asks_with in
          let q = call_comes (ap is_waiting e) in
          let n = q.0 in
          let live = live_slot b.machine t h.live in
          let here = core_with b.machine t d.cpu in
          let own = call_own c b n t g.k d [] what library memory called h.whole q.1 w.ahead x.enters x.wants (ap (row b.machine.library b.machine.tso.memory t) x.asks ∙ e) live in
          let tells = row_tells b.machine.library library b.machine.tso.memory memory t (request_of g what) called h.whole.machine.slots live e in
          let exit : exit_by here what ≡ None = no_exit here what b.machine.library library b.machine.tso.memory memory t (request_of g what) called (sym (row_asked b.machine.library b.machine.tso.memory t (request_of g what)) ∙ e) goes in
          let lives : is_live n.machine t ≡ true = ap (λ l. lib.is_live l t) own.1.library ∙ ap (λ (z : Slot). lib.is_running (life_in z (generation_of t))) (tells.slot goes) ∙ h.live in
          let cpu = core_regs here what called in
          let stands = stands_after called a g.last g.state d there fits in
          record {
            next = n;
            comes = q.1;
            going = record { whole = whole_stays c b n (Ev t g.k) h.whole q.1; going = own.1.ending ∙ exit; live = lives };
            told = refl;
            with = record {
              ahead = refl;
              few = omega arith;
              stands = subst (λ z. StandsBetween (place_after called a) g.last (record g.state { regs = regs_after called g.state.regs }) z) (sym (own.0.stand ∙ ap (λ z. stand_by z (onward z.mid [])) cpu)) stands;
              frames = own.0.frames ∙ core_frames here what called ∙ ap (frames_after what called) w.frames;
              ages = w.ages ∙ sym (ap length own.0.writes);
            };
            grown = own.2;
          }

      pub call_ends : row b.machine.library b.machine.tso.memory t (request_of g what) ≡ Done library memory Over → ((what ≡ Lib function.Exit) × LeavesEnded c b (Ev t g.k)) ⊎ ((what ≡ EndDoor) × LeavesGone c b t (Ev t g.k))
      call_ends e =
          let x = asks_with in
          let q = call_comes (ap is_waiting e) in
          let n = q.0 in
          let live = live_slot b.machine t h.live in
          let here = core_with b.machine t d.cpu in
          let sized = h.whole.machine.slots in
          let own = call_own c b n t g.k d [] what library memory Over h.whole q.1 w.ahead x.enters x.wants (ap (row b.machine.library b.machine.tso.memory t) x.asks ∙ e) live in
          let tells = row_tells b.machine.library library b.machine.tso.memory memory t (request_of g what) Over sized live e in
          elim (tells.over refl) [
            | inl is ↦ inl (is, record { next = n; comes = q.1; ended = some_of n.machine.ending _ (own.1.ending ∙ ap (exit_by here) is) })
            | inr is ↦
                let l : n.machine.library ≡ with_life b.machine.library t (Ended (request_of g what).rax) = own.1.library ∙ is.1 in
                inr (
                  is.0,
                  record {
                    next = n;
                    comes = q.1;
                    whole = whole_stays c b n (Ev t g.k) h.whole q.1;
                    going = own.1.ending ∙ ap (exit_by here) is.0;
                    gone = ap (λ z. lib.is_live z t) l ∙ not_live b.machine.library t (request_of g what).rax sized;
                    free = ap (λ z. lib.thread_in z (slot_of t)) l ∙ none_there b.machine.library t (request_of g what).rax sized;
                    grown = own.2;
                  },
                )
          ]

    pub call_faults : (kind : BadKind) → row b.machine.library b.machine.tso.memory t (request_of g what) ≡ Bad kind → LeavesEnded c b (Ev t g.k)
    call_faults kind e =
        let x = asks_with in
        let q = call_comes (ap is_waiting e) in
        let clock = call_bad c b q.0 t g.k d [] what kind q.1 w.ahead x.enters x.wants (ap (row b.machine.library b.machine.tso.memory t) x.asks ∙ e) in
        record { next = q.0; comes = q.1; ended = some_of q.0.machine.ending _ clock.ending }
