-- What each kind of entry leaves of a guest and its thread.
use Rattle.std.proofs.Common.{◌≡◌, ℕ, zero, suc, ◌+◌, ◌^◌, ◌<◌, ◌≤◌, Bool, true, false, cond, List, [], ◌∷◌, ◌++◌, Option, Some, None, refl, sym, ap, ◌∙◌, subst, arith, ◌&&◌, nat_lt, length, not, ◌==◌, ◌||◌, inl, inr}
use Rattle.std.proofs.lemmas.Bool.Decides.{nat_tests}
use Rattle.std.proofs.lemmas.List.{length-append}
use Rattle.std.proofs.lemmas.Option.{none-some, same_Some}
use Rattle.std.specs.Prelude.{option_and_then, IsSome}
use Rattle.address_space.specs.Slots.{slot_of}
use Rattle.guest_state.specs.declared.virtual_state.Virtual.{Virtual}
use Rattle.ir_meaning.specs.Does.{answered as answer_of}
use Rattle.ir_syntax.specs.declared.block.Block.{Block}
use Rattle.ir_syntax.specs.declared.block.Part.{Part}
use Rattle.x86_forms.specs.Widths.{bits_in}
use Rattle.x86_forms.specs.declared.operands.Width.{Width}
use Rattle.x86_model.specs.declared.cpu.Cpu.{Cpu}
use Rattle.x86_model.specs.declared.want.BadStep.{BadStep}
use Rattle.x86_model.specs.declared.want.Change.{Change}
use Rattle.x86_model.specs.declared.want.Want.{Want}
use Rattle.x86_model.specs.declared.want.Want.TheVariants as wants
use Rattle.x86_model.specs.Want.{want}
use Rattle.tso_memory.specs.declared.access.Access.TheVariants as access
use Rattle.tso_memory.specs.declared.write.PendingWrite.{PendingWrite}
use Rattle.tso_memory.specs.Buffer.{pending, size_of}
use Rattle.tso_memory.specs.Memory.{number_from}
use Rattle.tso_memory.specs.Tso as tso
use Rattle.tso_memory.specs.Tso.{is_none_waiting, memory_number, seen_by}
use Rattle.lib_table.specs.Library.{LibraryData}
use Rattle.lib_table.specs.Library as library
use Rattle.journal_pack.specs.declared.entry.Entry.{Entry}
use Rattle.journal_pack.specs.declared.entry.Entry.TheVariants.{Ev, Tick, Flush, Over, Wait, Miss, Grow, Full}
use Rattle.machine_model.specs.Conversions.{memory_change_of, memory_width_of}
use Rattle.elf_image.specs.Layout.{ImageData}
use Rattle.machine_model.specs.declared.ending.RunEnd.TheVariants as end
use Rattle.machine_model.specs.CaseData.{CaseData}
use Rattle.machine_model.specs.State.{Machine, is_live}
use Rattle.machine_model.specs.Step.{answered, carried_out, cpu_at, exchanged, missed, refused, waits_at, later, with_cpu, ended, flushed, step_from}
use Rattle.machine_model.specs.Gated.{Both, Growing, Latest, Missed, Other, is_between, may_miss, most_grown, Stand, advance, entered, gated_steps, onward, rest_of, spot_at, spot_last, spot_with, stand_at}
use Rattle.machine_model.specs.Own.{Clock, IsAhead, Standing, frames_at, miss_end, refusal, writes_at}
use Rattle.machine_model.specs.Ready.{HasGrown}
use Rattle.machine_model.specs.Serial.{is_missing}
use Rattle.basic_blocks.specs.Places.{is_code_place}
use Rattle.basic_blocks.specs.Reach.{is_among}
use Rattle.machine_model.proofs.Prefixes.{flush_ahead, grow_ahead}
use Rattle.guest_parts.proofs.Turns.{missing}
use Rattle.guest_parts.specs.Entries.{Misses}
use Rattle.machine_model.proofs.Own.{advance_made, le_test, lt_test, whole_stays}
use Rattle.machine_model.proofs.OwnKinds.{bad_own, fence_own, grow_own, flush_own, load_own, load_refused, locked_own, locked_refused, over_own, store_own, miss_own, store_refused, tick_own, wait_own}
use Rattle.guest_parts.specs.Standing.{Position, Between, Inside, StandsBetween, StandsIn, StandsInside}
use Rattle.guest_parts.specs.Requests.{GoesOnWith, stand_by}
use Rattle.guest_parts.specs.Guest.{GuestData, IsGoing, IsWith, LeavesEnded, LeavesFlushed, LeavesGrown, LeavesWith}

pub some_of : {A : Type 0} (o : Option A) (x : A) → o ≡ Some x → IsSome o
some_of None x e = absurd (none-some x e)
some_of (Some y) x e = refl

-- ---- what an entry leaves

still_live : (m n : Machine) (t : ℕ) → n.library ≡ m.library → is_live m t ≡ true → is_live n t ≡ true
still_live m n t e h = ap (λ l. library.is_live l t) e ∙ h

first_write : (ps : List PendingWrite) → 0 < length ps → (w : PendingWrite) × (ws : List PendingWrite) × (ps ≡ w ∷ ws)
first_write [] lt = absurd (omega arith)
first_write (w ∷ ws) lt = (w, ws, refl)

fewer_ages : (ages : List ℕ) (xs : List PendingWrite) → length ages ≡ suc (length xs) → length (rest_of ages) ≡ length xs
fewer_ages [] xs e = absurd (omega arith)
fewer_ages (a ∷ ages) xs e = omega arith

same_test : (a b : ℕ) → a ≡ b → (a == b) ≡ true
same_test a b e = grind (arith, nat_tests)

may_by : (latest : Latest) (k : ℕ) → 0 < k → may_miss latest k ≡ true
may_by Other k lt = refl
may_by (Missed a) k lt = lt_test 0 k lt
may_by (Growing a) k lt = lt_test 0 k lt

-- a thread that isn't right after a miss of its own may miss
may_miss_now : (c : CaseData) (b : Both) (t k : ℕ) (d : Stand) → HasGrown c.image b (slot_of t) → IsAhead c b (slot_of t) k d → is_missing c.image b.gate.grown d ≡ true → may_miss (spot_at b.gate (slot_of t)).latest k ≡ true
unfolding gated_steps
may_miss_now c b t k d (inl other) ahead there = ap (λ z. may_miss z k) other
may_miss_now c b t zero d (inr not_there) ahead there =
    let at : stand_at b (slot_of t) ≡ d = same_Some _ d ahead in
    absurd (let clash : true ≡ false = sym there ∙ ap (is_missing c.image b.gate.grown) (sym at) ∙ not_there in cc)
may_miss_now c b t (suc k) d (inr not_there) ahead there = may_by (spot_at b.gate (slot_of t)).latest (suc k) (omega arith)

among_more : (grown : List ℕ) (a x : ℕ) → is_among grown x ≡ true → is_among (a ∷ grown) x ≡ true
among_more grown a x h = rw h (or_true (a == x))
  where
    or_true : (b : Bool) → (b || true) ≡ true
    or_true true = refl
    or_true false = refl

stands_grows : (image : ImageData) (old new : List ℕ) (at : Position) (last : ℕ) (v : Virtual) (d : Stand) → ((x : ℕ) → is_among old x ≡ true → is_among new x ≡ true) → StandsIn image old at last v d → StandsIn image new at last v d
stands_grows image old new (Between a) last v d more h = h
stands_grows image old new (Inside b n) last v d more h = record {
  inside = h.inside;
  lifted = h.lifted;
  grown_place = more b.at h.grown_place;
  matches = h.matches;
  left = h.left;
  finished = h.finished;
  typed = h.typed;
}

module _ (c : CaseData) (b : Both) (t : ℕ) (g : GuestData) (d : Stand) (h : IsGoing b t) (w : IsWith c b t g d) where
  goes_on : (n : Both) (e : Entry) (steps : ℕ) → advance c b e ≡ Some n → Clock n steps None b.machine.library → IsGoing n t
  goes_on n e steps p clock = record { whole = whole_stays c b n e h.whole p; going = clock.ending; live = still_live b.machine n.machine t clock.library h.live }

  with_at : (n : Both) (at : Stand) (writes : List PendingWrite) (lately : Latest) (next : GuestData) → Standing n (slot_of t) at (frames_at b t) writes lately → n.gate.grown ≡ b.gate.grown → next.k ≡ 0 → next.frames ≡ g.frames → length next.ages ≡ length writes → StandsIn c.image b.gate.grown next.at next.last next.state at → IsWith c n t next (stand_at n (slot_of t))
  unfolding gated_steps
  with_at n at writes lately next s grown told frames ages stands = record {
    ahead = ap (λ k. gated_steps c.image n.gate.grown k (stand_at n (slot_of t))) told;
    few = omega (arith, told);
    stands = subst (λ x. StandsIn c.image n.gate.grown next.at next.last next.state x) (sym s.stand) (subst (λ x. StandsIn c.image x next.at next.last next.state at) (sym grown) stands);
    frames = s.frames ∙ w.frames ∙ sym frames;
    ages = ages ∙ sym (ap length s.writes);
  }

  leaves : (e : Entry) (n : Both) (at : Stand) (writes : List PendingWrite) (lately : Latest) (steps : ℕ) (next : GuestData) → advance c b e ≡ Some n → Standing n (slot_of t) at (frames_at b t) writes lately × Clock n steps None b.machine.library × (n.gate.grown ≡ b.gate.grown) → next.k ≡ 0 → next.frames ≡ g.frames → length next.ages ≡ length writes → StandsIn c.image b.gate.grown next.at next.last next.state at → LeavesWith c b t e next
  leaves e n at writes lately steps next p own told frames ages stands = record {
    next = n;
    comes = p;
    going = goes_on n e steps p own.1;
    told = told;
    with = with_at n at writes lately next own.0 own.2 told frames ages stands;
    grown = own.2;
  }

  -- ---- entries that are no events

  told_ages : length g.ages ≡ length (writes_at b t)
  told_ages = w.ages

  pub tick_leaves : 0 < g.k → b.machine.steps + g.k < c.limit → LeavesWith c b t (Tick t g.k) (record g { k = 0 })
  tick_leaves some room =
      let test : (nat_lt 0 g.k && nat_lt (b.machine.steps + g.k) c.limit) ≡ true = rw (lt_test 0 g.k some, lt_test (b.machine.steps + g.k) c.limit room) refl in
      let m = later (with_cpu b.machine (slot_of t) d.cpu) g.k in
      let made : step_from c b.machine (Tick t g.k) d.cpu ≡ Some m = ap (λ x. cond x (Some m) None) test in
      let p = advance_made c b (Tick t g.k) d m (spot_with d.left Other) (record { going = h.going; live = h.live; few = w.few; ahead = w.ahead; made = made; last = refl }) in
      leaves (Tick t g.k) _ d (writes_at b t) Other _ (record g { k = 0 }) p (tick_own c b _ t g.k d h.whole p w.ahead) refl refl w.ages w.stands

  pub wait_leaves : 0 < g.k → b.machine.steps + g.k < c.limit → is_none_waiting (writes_at b t) ≡ true → waits_at c.image b.machine t d.cpu ≡ true → LeavesWith c b t (Wait t g.k) (record g { k = 0 })
  wait_leaves some room none waits =
      let test : (nat_lt 0 g.k && nat_lt (b.machine.steps + g.k) c.limit && is_none_waiting (writes_at b t) && waits_at c.image b.machine t d.cpu) ≡ true = rw (lt_test 0 g.k some, lt_test (b.machine.steps + g.k) c.limit room, none, waits) refl in
      let m = later (with_cpu b.machine (slot_of t) d.cpu) g.k in
      let made : step_from c b.machine (Wait t g.k) d.cpu ≡ Some m = ap (λ x. cond x (Some m) None) test in
      let p = advance_made c b (Wait t g.k) d m (spot_with d.left Other) (record { going = h.going; live = h.live; few = w.few; ahead = w.ahead; made = made; last = refl }) in
      leaves (Wait t g.k) _ d (writes_at b t) Other _ (record g { k = 0 }) p (wait_own c b _ t g.k d h.whole p w.ahead) refl refl w.ages w.stands

  flush_by : (x : PendingWrite) (xs : List PendingWrite) → writes_at b t ≡ x ∷ xs → LeavesFlushed c b t g d
  unfolding gated_steps
  flush_by x xs list =
      let m = record b.machine { tso = tso.flushed b.machine.tso (slot_of t) (x ∷ xs) } in
      let made : step_from c b.machine (Flush t) (cpu_at b.machine (slot_of t)) ≡ Some m = ap (flushed b.machine (slot_of t)) list in
      let p = advance_made c b (Flush t) (stand_at b (slot_of t)) m _ (record { going = h.going; live = h.live; few = omega arith; ahead = refl; made = made; last = refl }) in
      let own = flush_own c b _ t x xs h.whole p list in
      let fewer = ap length list in
      let one = w.ages in
      record {
        next = _;
        comes = p;
        going = goes_on _ (Flush t) _ p own.1;
        with = record {
          ahead = flush_ahead c b _ t g.k d h.whole p w.ahead;
          few = w.few;
          stands = subst (λ z. StandsIn c.image z g.at g.last g.state d) (sym own.2) w.stands;
          frames = own.0.frames ∙ w.frames;
          ages = fewer_ages g.ages xs (one ∙ fewer) ∙ sym (ap length own.0.writes);
        };
        grown = own.2;
        steps = own.1.steps;
      }

  pub flush_leaves : 0 < length (writes_at b t) → LeavesFlushed c b t g d
  flush_leaves some = let f = first_write (writes_at b t) some in flush_by f.0 f.1 f.2

  miss_comes : (a : ℕ) → b.machine.steps + g.k < c.limit → Misses c b t g a → (n : Both) × (advance c b (Miss t g.k g.last a) ≡ Some n)
  unfolding gated_steps
  miss_comes a room x =
      let s : StandsBetween a g.last g.state d = subst (λ at. StandsIn c.image b.gate.grown at g.last g.state d) x.0 w.stands in
      let rip : d.cpu.rip ≡ a = sym s.agrees.0 in
      let new : is_among b.gate.grown a ≡ false = x.2 in
      let there : is_missing c.image b.gate.grown d ≡ true = missing c.image b.gate.grown d (ap (is_code_place c.image) rip ∙ x.1) s.left (ap (is_among b.gate.grown) rip ∙ new) in
      let may = may_miss_now c b t g.k d x.3 w.ahead there in
      let test : (nat_lt (b.machine.steps + g.k) c.limit && d.cpu.last == g.last && d.cpu.rip == a && is_code_place c.image a) ≡ true = rw (lt_test (b.machine.steps + g.k) c.limit room, same_test d.cpu.last g.last s.finished, same_test d.cpu.rip a rip, x.1) refl in
      let m = missed c.strict (later (with_cpu b.machine (slot_of t) d.cpu) (g.k + 1)) (record { thread = t; source = g.last; target = a }) in
      let made : step_from c b.machine (Miss t g.k g.last a) d.cpu ≡ Some m = ap (λ z. cond z (Some m) None) test in
      let gate : (is_between d.left && not (is_among b.gate.grown a) && may_miss (spot_at b.gate (slot_of t)).latest g.k) ≡ true = rw (s.left, new, may) refl in
      let last : spot_last c.image b.gate.grown (Miss t g.k g.last a) (cpu_at m (slot_of t)) (spot_at b.gate (slot_of t)) d ≡ Some (spot_with [] (Growing a)) = ap (λ z. cond z (Some (spot_with [] (Growing a))) None) gate in
      (_, advance_made c b (Miss t g.k g.last a) d m _ (record { going = h.going; live = h.live; few = w.few; ahead = w.ahead; made = made; last = last }))

  pub miss_tells : (a : ℕ) → b.machine.steps + g.k < c.limit → Misses c b t g a → c.strict ≡ false → LeavesWith c b t (Miss t g.k g.last a) (record g { k = 0 })
  miss_tells a room x additive =
      let q = miss_comes a room x in
      let own = miss_own c b q.0 t g.k g.last a d h.whole q.1 w.ahead in
      let s : StandsBetween a g.last g.state d = subst (λ at. StandsIn c.image b.gate.grown at g.last g.state d) x.0 w.stands in
      let clock : Clock q.0 (b.machine.steps + (g.k + 1)) None b.machine.library = record { steps = own.1.steps; ending = own.1.ending ∙ ap (λ z. miss_end z (record { thread = t; source = g.last; target = a })) additive; library = own.1.library } in
      let on : StandsBetween a g.last g.state (record { cpu = d.cpu; left = [] }) = record { left = refl; agrees = s.agrees; finished = s.finished } in
      leaves (Miss t g.k g.last a) q.0 _ (writes_at b t) (Growing a) _ (record g { k = 0 }) q.1 (own.0, clock, own.2) refl refl w.ages (subst (λ at. StandsIn c.image b.gate.grown at g.last g.state (record { cpu = d.cpu; left = [] })) (sym x.0) on)

  pub miss_ends : (a : ℕ) → b.machine.steps + g.k < c.limit → Misses c b t g a → c.strict ≡ true → LeavesEnded c b (Miss t g.k g.last a)
  miss_ends a room x strict =
      let q = miss_comes a room x in
      let own = miss_own c b q.0 t g.k g.last a d h.whole q.1 w.ahead in
      record { next = q.0; comes = q.1; ended = some_of _ _ (own.1.ending ∙ ap (λ z. miss_end z (record { thread = t; source = g.last; target = a })) strict) }

  pub grow_leaves : (a : ℕ) → c.strict ≡ false → is_code_place c.image a ≡ true → is_among b.gate.grown a ≡ false → length b.gate.grown < most_grown → LeavesGrown c b t a g d
  unfolding gated_steps
  grow_leaves a additive code new few =
      let test : (not c.strict && is_code_place c.image a) ≡ true = rw (additive, code) refl in
      let made : step_from c b.machine (Grow t a) (cpu_at b.machine (slot_of t)) ≡ Some b.machine = ap (λ x. cond x (Some b.machine) None) test in
      let gate : (not (is_among b.gate.grown a) && nat_lt (length b.gate.grown) most_grown) ≡ true = rw (new, lt_test (length b.gate.grown) most_grown few) refl in
      let spot = spot_at b.gate (slot_of t) in
      let last : spot_last c.image b.gate.grown (Grow t a) (cpu_at b.machine (slot_of t)) spot (stand_at b (slot_of t)) ≡ Some spot = ap (λ x. cond x (Some spot) None) gate in
      let p = advance_made c b (Grow t a) (stand_at b (slot_of t)) b.machine spot (record { going = h.going; live = h.live; few = omega arith; ahead = refl; made = made; last = last }) in
      let own = grow_own c b _ t a h.whole p in
      record {
        next = _;
        comes = p;
        going = record { whole = whole_stays c b _ (Grow t a) h.whole p; going = h.going; live = h.live };
        with = record {
          ahead = grow_ahead c b _ t a g.k d h.whole p w.ahead;
          few = w.few;
          stands = subst (λ z. StandsIn c.image z g.at g.last g.state d) (sym own.2) (stands_grows c.image b.gate.grown (a ∷ b.gate.grown) g.at g.last g.state d (λ x q. among_more b.gate.grown a x q) w.stands);
          frames = w.frames;
          ages = w.ages;
        };
        grown = own.2;
        machine = own.0;
      }

  pub full_leaves : (a : ℕ) → g.k ≡ 0 → g.at ≡ Between a → c.strict ≡ false → is_code_place c.image a ≡ true → is_among b.gate.grown a ≡ false → length b.gate.grown ≡ most_grown → LeavesEnded c b (Full t)
  unfolding gated_steps
  full_leaves a told at additive code new all =
      let here : stand_at b (slot_of t) ≡ d = same_Some (stand_at b (slot_of t)) d (ap (λ k. gated_steps c.image b.gate.grown k (stand_at b (slot_of t))) (sym told) ∙ w.ahead) in
      let s : StandsBetween a g.last g.state d = subst (λ z. StandsIn c.image b.gate.grown z g.last g.state d) at w.stands in
      let rip : d.cpu.rip ≡ a = sym s.agrees.0 in
      let test : (not c.strict && is_code_place c.image d.cpu.rip) ≡ true = rw (additive, rip, code) refl in
      let m = ended b.machine (end.Full t d.cpu.rip) in
      let made : step_from c b.machine (Full t) d.cpu ≡ Some m = ap (λ x. cond x (Some m) None) test in
      let gate : (length b.gate.grown == most_grown && is_between d.left && not (is_among b.gate.grown d.cpu.rip)) ≡ true = rw (same_test (length b.gate.grown) most_grown all, s.left, rip, new) refl in
      let last : spot_last c.image b.gate.grown (Full t) (cpu_at m (slot_of t)) (spot_at b.gate (slot_of t)) d ≡ Some (spot_with [] Other) = ap (λ x. cond x (Some (spot_with [] Other)) None) gate in
      let p = advance_made c b (Full t) d m (spot_with [] Other) (record { going = h.going; live = h.live; few = omega arith; ahead = ap (λ x. Some x) here; made = made; last = last }) in
      record { next = _; comes = p; ended = some_of _ (end.Full t d.cpu.rip) refl }

  pub over_leaves : c.limit ≤ b.machine.steps + g.k → LeavesEnded c b (Over t g.k)
  over_leaves over =
      let m = ended (later (with_cpu b.machine (slot_of t) d.cpu) g.k) _ in
      let made : step_from c b.machine (Over t g.k) d.cpu ≡ Some m = ap (λ x. cond x (Some m) None) (le_test c.limit (b.machine.steps + g.k) over) in
      let p = advance_made c b (Over t g.k) d m (spot_with d.left Other) (record { going = h.going; live = h.live; few = w.few; ahead = w.ahead; made = made; last = refl }) in
      record { next = _; comes = p; ended = some_of _ _ (over_own c b _ t g.k d h.whole p w.ahead).1.ending }

  -- ---- events

  pub event_comes : (left : List ℕ) (m : Machine) → b.machine.steps + g.k < c.limit → entered c.image b.gate.grown d.cpu.rip d.left ≡ Some left → carried_out (want c.image d.cpu) (later b.machine (g.k + 1)) t d.cpu ≡ Some m → (n : Both) × (advance c b (Ev t g.k) ≡ Some n)
  event_comes left m room enters carried =
      let made : step_from c b.machine (Ev t g.k) d.cpu ≡ Some m = ap (λ x. cond x (carried_out (want c.image d.cpu) (later b.machine (g.k + 1)) t d.cpu) None) (lt_test (b.machine.steps + g.k) c.limit room) ∙ carried in
      let after = cpu_at m (slot_of t) in
      let last : spot_last c.image b.gate.grown (Ev t g.k) after (spot_at b.gate (slot_of t)) d ≡ Some (spot_with (onward after.mid left) Other) = ap (option_and_then (λ l. Some (spot_with (onward after.mid l) Other))) enters in
      (_, advance_made c b (Ev t g.k) d m _ (record { going = h.going; live = h.live; few = w.few; ahead = w.ahead; made = made; last = last }))

  carry : (z : Want) (m : Option Machine) → want c.image d.cpu ≡ z → carried_out z (later b.machine (g.k + 1)) t d.cpu ≡ m → carried_out (want c.image d.cpu) (later b.machine (g.k + 1)) t d.cpu ≡ m
  carry z m e q = ap (λ x. carried_out x (later b.machine (g.k + 1)) t d.cpu) e ∙ q

  module _ (room : b.machine.steps + g.k < c.limit) (blk : Block) (n : ℕ) (p : Part) where
    pub load_leaves : (a : ℕ) (u : Virtual) (width : Width) (left : List ℕ) (x : ℕ) → want c.image d.cpu ≡ wants.Load a width → entered c.image b.gate.grown d.cpu.rip d.left ≡ Some left → GoesOnWith c.image b.gate.grown p blk n g.last (bits_in width) left u d → refusal b access.Load a width ≡ None → x ≡ number_from (seen_by b.machine.tso (slot_of t)) (size_of (memory_width_of width)) a → x < 2 ^ bits_in width
        → LeavesWith c b t (Ev t g.k) (record g { state = answer_of p.end x u; at = Inside blk (n + 1); k = 0 })
    load_leaves a u width left x e enters on may value fits =
        let q = event_comes left _ room enters (carry (wants.Load a width) _ e refl) in
        let own = load_own c b q.0 t g.k a width d left h.whole q.1 w.ahead enters e may in
        let at : stand_by (answered d.cpu x) left ≡ stand_by (answered d.cpu (number_from (seen_by b.machine.tso (slot_of t)) (size_of (memory_width_of width)) a)) left = ap (λ v. stand_by (answered d.cpu v) left) value in
        leaves (Ev t g.k) q.0 _ (writes_at b t) Other _ _ q.1 own refl refl w.ages (subst (λ z. StandsInside c.image b.gate.grown blk (n + 1) g.last (answer_of p.end x u) z) at (on.stands x fits))

    pub locked_leaves : (a : ℕ) (u : Virtual) (width : Width) (change : Change) (left : List ℕ) (x : ℕ) → want c.image d.cpu ≡ wants.Locked a width change → entered c.image b.gate.grown d.cpu.rip d.left ≡ Some left → GoesOnWith c.image b.gate.grown p blk n g.last (bits_in width) left u d → is_none_waiting (writes_at b t) ≡ true → refusal b access.Locked a width ≡ None → x ≡ memory_number b.machine.tso (size_of (memory_width_of width)) a → x < 2 ^ bits_in width
        → LeavesWith c b t (Ev t g.k) (record g { state = answer_of p.end x u; at = Inside blk (n + 1); k = 0 })
    locked_leaves a u width change left x e enters on none may value fits =
        let before = later b.machine (g.k + 1) in
        let m = exchanged before t d.cpu a (size_of (memory_width_of width)) (memory_change_of change) (refused before access.Locked a (size_of (memory_width_of width))) in
        let q = event_comes left m room enters (carry (wants.Locked a width change) (Some m) e (ap (λ z. cond z (Some m) None) none)) in
        let own = locked_own c b q.0 t g.k a width change d left h.whole q.1 w.ahead enters e may in
        let at : stand_by (answered d.cpu x) left ≡ stand_by (answered d.cpu (memory_number b.machine.tso (size_of (memory_width_of width)) a)) left = ap (λ v. stand_by (answered d.cpu v) left) value in
        leaves (Ev t g.k) q.0 _ (writes_at b t) Other _ _ q.1 own refl refl w.ages (subst (λ z. StandsInside c.image b.gate.grown blk (n + 1) g.last (answer_of p.end x u) z) at (on.stands x fits))

  module _ (room : b.machine.steps + g.k < c.limit) where
    pub load_ends : (a x : ℕ) (width : Width) (left : List ℕ) → want c.image d.cpu ≡ wants.Load a width → entered c.image b.gate.grown d.cpu.rip d.left ≡ Some left → refusal b access.Load a width ≡ Some x → LeavesEnded c b (Ev t g.k)
    load_ends a x width left e enters no_right =
        let q = event_comes left _ room enters (carry (wants.Load a width) _ e refl) in
        record { next = q.0; comes = q.1; ended = some_of _ _ (load_refused c b q.0 t g.k a x width d left q.1 w.ahead enters e no_right).ending }

    pub locked_ends : (a x : ℕ) (width : Width) (change : Change) (left : List ℕ) → want c.image d.cpu ≡ wants.Locked a width change → entered c.image b.gate.grown d.cpu.rip d.left ≡ Some left → is_none_waiting (writes_at b t) ≡ true → refusal b access.Locked a width ≡ Some x → LeavesEnded c b (Ev t g.k)
    locked_ends a x width change left e enters none no_right =
        let before = later b.machine (g.k + 1) in
        let m = exchanged before t d.cpu a (size_of (memory_width_of width)) (memory_change_of change) (refused before access.Locked a (size_of (memory_width_of width))) in
        let q = event_comes left m room enters (carry (wants.Locked a width change) (Some m) e (ap (λ z. cond z (Some m) None) none)) in
        record { next = q.0; comes = q.1; ended = some_of _ _ (locked_refused c b q.0 t g.k a x width change d left q.1 w.ahead enters e no_right).ending }

    pub store_ends : (a value x : ℕ) (width : Width) (next : Cpu) (left : List ℕ) → want c.image d.cpu ≡ wants.Store a width value next → entered c.image b.gate.grown d.cpu.rip d.left ≡ Some left → refusal b access.Store a width ≡ Some x → LeavesEnded c b (Ev t g.k)
    store_ends a value x width next left e enters no_right =
        let q = event_comes left _ room enters (carry (wants.Store a width value next) _ e refl) in
        record { next = q.0; comes = q.1; ended = some_of _ _ (store_refused c b q.0 t g.k a value x width next d left q.1 w.ahead enters e no_right).ending }

  pub bad_ends : (left : List ℕ) (kind : BadStep) → b.machine.steps + g.k < c.limit → want c.image d.cpu ≡ wants.Bad kind → entered c.image b.gate.grown d.cpu.rip d.left ≡ Some left → LeavesEnded c b (Ev t g.k)
  bad_ends left kind room e enters =
      let q = event_comes left _ room enters (carry (wants.Bad kind) _ e refl) in
      record { next = q.0; comes = q.1; ended = some_of _ _ (bad_own c b q.0 t g.k d left kind q.1 w.ahead enters e).ending }

  -- a store or a fence, after which the guest is at a position and in a state
  module _ (room : b.machine.steps + g.k < c.limit) (at : Position) (last : ℕ) (u : Virtual) where
    pub store_leaves : (a value : ℕ) (width : Width) (next : Cpu) (left : List ℕ) → want c.image d.cpu ≡ wants.Store a width value next → entered c.image b.gate.grown d.cpu.rip d.left ≡ Some left → StandsIn c.image b.gate.grown at last u (stand_by next (onward next.mid left)) → refusal b access.Store a width ≡ None
        → LeavesWith c b t (Ev t g.k) (record g { state = u; at = at; last = last; k = 0; ages = g.ages ++ 0 ∷ [] })
    store_leaves a value width next left e enters stands may =
        let q = event_comes left _ room enters (carry (wants.Store a width value next) _ e refl) in
        let own = store_own c b q.0 t g.k a value width next d left h.whole q.1 w.ahead enters e may in
        let one = w.ages in
        let more : length (g.ages ++ 0 ∷ []) ≡ length (writes_at b t ++ pending a (memory_width_of width) value ∷ []) = omega (arith, one, length-append g.ages (0 ∷ []), length-append (writes_at b t) (pending a (memory_width_of width) value ∷ [])) in
        leaves (Ev t g.k) q.0 _ _ Other _ _ q.1 own refl refl more stands

    pub fence_leaves : (next : Cpu) (left : List ℕ) → want c.image d.cpu ≡ wants.Fence next → entered c.image b.gate.grown d.cpu.rip d.left ≡ Some left → StandsIn c.image b.gate.grown at last u (stand_by next (onward next.mid left)) → is_none_waiting (writes_at b t) ≡ true
        → LeavesWith c b t (Ev t g.k) (record g { state = u; at = at; last = last; k = 0 })
    fence_leaves next left e enters stands none =
        let m = with_cpu (later b.machine (g.k + 1)) (slot_of t) next in
        let q = event_comes left m room enters (carry (wants.Fence next) (Some m) e (ap (λ z. cond z (Some m) None) none)) in
        let own = fence_own c b q.0 t g.k next d left h.whole q.1 w.ahead enters e in
        leaves (Ev t g.k) q.0 _ (writes_at b t) Other _ _ q.1 own refl refl w.ages stands
