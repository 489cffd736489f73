-- No write waits for more turns than there were.
use Rattle.std.proofs.Common.{◌≡◌, ℕ, zero, suc, ◌+◌, ◌-◌, ◌^◌, ◌<◌, ◌≤◌, get_or, length, Bool, true, false, List, [], ◌∷◌, ◌++◌, Option, Some, None, subst, arith}
use Rattle.std.specs.Prelude.{map}
use Rattle.std.proofs.lemmas.List.Elements.{All-cons, All-head, All-nil, All-tail}
use Rattle.std.proofs.lemmas.Option.{none-some, option_and_then_some, same_Some}
use Rattle.journal_pack.specs.declared.entry.Entry.{Entry}
use Rattle.journal_pack.specs.declared.entry.Entry.TheVariants.{Ev, Tick, Flush, Wait, Miss, Grow, Over, Full}
use Rattle.x86_model.specs.declared.want.Want.{Want}
use Rattle.x86_model.specs.declared.want.Want.TheVariants as wants
use Rattle.x86_model.specs.Want.{want}
use Rattle.machine_model.specs.declared.ending.RunEnd.{RunEnd}
use Rattle.machine_model.specs.CaseData.{CaseData}
use Rattle.machine_model.specs.Gated.{rest_of}
use Rattle.machine_model.specs.Serial as serial
use Rattle.machine_model.specs.Serial.{Point, Reaches, Rule, AtEvent, AtLimit, AtMiss, AtMost, Rules, Turn, act, after_miss, event_by, flush, flush_if, flush_old, flush_some, full_or, grow_all, grow_if, grow_reach, is_over, make, miss, point_of, rule_at, settle, stop_from, settled, told_waiting, turn, turn_from, unless_over, with_new}
use Rattle.machine_model.proofs.SerialGated.{made}
use Rattle.serial_plain.specs.PlainSerial.{AreYoung}

young_rest : (b : ℕ) (ages : List ℕ) → AreYoung b ages → AreYoung b (rest_of ages)
young_rest b [] h = h
young_rest b (a ∷ ages) h = All-tail (λ x. x ≤ b) a ages h

young_new : (b : ℕ) (ages : List ℕ) → AreYoung b ages → AreYoung b (ages ++ 0 ∷ [])
young_new b [] h = All-cons (λ x. x ≤ b) 0 [] (omega arith) (All-nil (λ x. x ≤ b))
young_new b (a ∷ ages) h = All-cons (λ x. x ≤ b) a (ages ++ 0 ∷ []) (All-head (λ x. x ≤ b) a ages h) (young_new b ages (All-tail (λ x. x ≤ b) a ages h))

young_with : (b : ℕ) (w : Want) (ages : List ℕ) → AreYoung b ages → AreYoung b (with_new w ages)
young_with b (wants.Private next) ages h = h
young_with b (wants.Load a w) ages h = h
young_with b (wants.Store a w value next) ages h = young_new b ages h
young_with b (wants.Fence next) ages h = h
young_with b (wants.Locked a w change) ages h = h
young_with b (wants.Call f) ages h = h
young_with b (wants.Door d) ages h = h
young_with b (wants.Bad kind) ages h = h

young_older : (b : ℕ) (ages : List ℕ) → AreYoung b ages → AreYoung (b + 1) (map (λ a. a + 1) ages)
young_older b [] h = All-nil (λ x. x ≤ b + 1)
young_older b (a ∷ ages) h = All-cons (λ x. x ≤ b + 1) (a + 1) (map (λ x. x + 1) ages) (let le = All-head (λ x. x ≤ b) a ages h in omega arith) (young_older b ages (All-tail (λ x. x ≤ b) a ages h))

pub young_more : (b n : ℕ) (ages : List ℕ) → b ≤ n → AreYoung b ages → AreYoung n ages
young_more b n ages le h i d lt = let p = h i d lt in omega arith

module _ (c : CaseData) (t b : ℕ) where
  abbrev Now : Turn → Type 0
  Now s = AreYoung b s.ages

  one_more : (e : Entry) (s x : Turn) → Now s → make c e s ≡ Some x → Now x
  one_more e s x h p = let m = made c e s x p in subst Now m.is h

  flush_on : (s x : Turn) → Now s → flush c t s ≡ Some x → Now x
  flush_on s x h p = one_more (Flush t) (record s { ages = rest_of s.ages }) x (young_rest b s.ages h) p

  flush_some_on : (n : ℕ) (s x : Turn) → Now s → flush_some c t n s ≡ Some x → Now x
  unfolding flush_some
  flush_some_on zero s x h p = subst Now (same_Some s x p) h
  flush_some_on (suc n) s x h p = option_and_then_some (flush_some c t n) (flush c t s) x p (λ y q r. flush_some_on n y x (flush_on s y h q) r)

  told_on : (k : ℕ) (s x : Turn) → Now s → told_waiting c t k s ≡ Some x → Now x
  told_on zero s x h p = subst Now (same_Some _ x p) h
  told_on (suc k) s x h p = one_more (Wait t (suc k)) (record s { waiting = true }) x h p

  event_on : (p : Point) (s x : Turn) (waits : Bool) → Now s → event_by c t p s waits ≡ Some x → Now x
  event_on p s x true h q = told_on p.k s x h q
  event_on p s x false h q = one_more (Ev t p.k) (record s { ages = with_new (want c.image p.stand.cpu) s.ages }) x (young_with b (want c.image p.stand.cpu) s.ages h) q

  grow_all_on : (places : List ℕ) (s x : Turn) → Now s → grow_all c t places s ≡ Some x → Now x
  unfolding grow_all
  grow_all_on [] s x h p = subst Now (same_Some s x p) h
  grow_all_on (a ∷ more) s x h p = option_and_then_some (grow_all c t more) (make c (Grow t a) s) x p (λ y q r. grow_all_on more y x (one_more (Grow t a) s y h q) r)

  grow_if_on : (more : List ℕ) (s x : Turn) (fits : Bool) → Now s → grow_if c t more s fits ≡ Some x → Now x
  grow_if_on more s x true h p = grow_all_on more s x h p
  grow_if_on more s x false h p = subst Now (same_Some s x p) h

  grow_reach_on : (places : List ℕ) (s x : Turn) → Now s → grow_reach c t places s ≡ Some x → Now x
  grow_reach_on places s x h p = grow_if_on _ s x _ h p

  full_on : (reach : Reaches) (g : ℕ) (s x : Turn) (full : Bool) → Now s → full_or c reach t g s full ≡ Some x → Now x
  full_on reach g s x true h p = one_more (Full t) s x h p
  full_on reach g s x false h p = option_and_then_some (grow_reach c t (reach g)) (make c (Grow t g) s) x p (λ y q r. grow_reach_on (reach g) y x (one_more (Grow t g) s y h q) r)

  after_miss_on : (reach : Reaches) (g : ℕ) (strict : Bool) (s x : Turn) → Now s → after_miss c reach t g strict s ≡ Some x → Now x
  after_miss_on reach g true s x h p = subst Now (same_Some s x p) h
  after_miss_on reach g false s x h p = full_on reach g s x _ h p

  miss_on : (reach : Reaches) (p : Point) (s x : Turn) → Now s → miss c reach t p s ≡ Some x → Now x
  miss_on reach p s x h q = option_and_then_some (after_miss c reach t p.stand.cpu.rip c.strict) (make c (Miss t p.k p.stand.cpu.last p.stand.cpu.rip) s) x q (λ y a r. after_miss_on reach p.stand.cpu.rip c.strict y x (one_more (Miss t p.k p.stand.cpu.last p.stand.cpu.rip) s y h a) r)

  act_on : (reach : Reaches) (p : Point) (s x : Turn) (rule : Rule) → Now s → act c reach t p s rule ≡ Some x → Now x
  act_on reach p s x AtLimit h q = one_more (Over t p.k) s x h q
  act_on reach p s x AtMiss h q = miss_on reach p s x h q
  act_on reach p s x AtMost h q = one_more (Tick t p.k) s x h q
  act_on reach p s x AtEvent h q = option_and_then_some (serial.event c t p) _ x q (λ y a r. event_on p y x _ (flush_some_on _ s y h a) r)
  act_on reach p s x serial.GoesOn h q = absurd (none-some x q)

  pub turn_from_young : (reach : Reaches) (n : ℕ) (p : Point) (s x : Turn) → Now s → turn_from c reach t n p s ≡ Some x → Now x
  unfolding turn_from
  turn_from_young reach zero p s x h q = subst Now (same_Some s x q) h
  turn_from_young reach (suc n) p s x h q =
      option_and_then_some (λ y. unless_over (λ z. turn_from c reach t n (point_of z.both t) z) y (is_over t y)) _ x q (λ y a r.
      over_on (is_over t y) y x (λ g. turn_from_young reach n (point_of y.both t) y x (act_on reach (stop_from c s.both (4096 - p.k) p) s y (rule_at c s.both (stop_from c s.both (4096 - p.k) p)) h a) g) (act_on reach (stop_from c s.both (4096 - p.k) p) s y (rule_at c s.both (stop_from c s.both (4096 - p.k) p)) h a) r)
    where
      over_on : (over : Bool) (y x : Turn) → (turn_from c reach t n (point_of y.both t) y ≡ Some x → Now x) → Now y → unless_over (λ z. turn_from c reach t n (point_of z.both t) z) y over ≡ Some x → Now x
      over_on true y x on h r = subst Now (same_Some y x r) h
      over_on false y x on h r = on r

  flush_if_on : (on : Turn → Option Turn) (old : Bool) (s x : Turn) → Now s → ((y : Turn) → Now y → on y ≡ Some x → Now x) → flush_if c t on s old ≡ Some x → Now x
  flush_if_on on true s x h goes q = option_and_then_some on (flush c t s) x q (λ y a r. goes y (flush_on s y h a) r)
  flush_if_on on false s x h goes q = subst Now (same_Some s x q) h

  flush_old_on : (hold : ℕ) (ages : List ℕ) (s x : Turn) → Now s → flush_old c t hold ages s ≡ Some x → Now x
  unfolding flush_old
  flush_old_on hold [] s x h p = subst Now (same_Some s x p) h
  flush_old_on hold (a ∷ ages) s x h p = flush_if_on (flush_old c t hold ages) _ s x h (λ y n q. flush_old_on hold ages y x n q) p

settled_young : (c : CaseData) (t b hold : ℕ) (s x : Turn) (end : Option RunEnd) → AreYoung b s.ages → settled c t hold s end ≡ Some x → AreYoung (b + 1) x.ages
settled_young c t b hold s x None h p = flush_old_on c t (b + 1) hold _ (serial.aged s) x (young_older b s.ages h) p
settled_young c t b hold s x (Some e) h p = young_more b (b + 1) x.ages (omega arith) (subst (λ y. AreYoung b y.ages) (same_Some s x p) h)

-- a turn makes each write one turn older at most
pub turn_young : (c : CaseData) (reach : Reaches) (r : Rules) (t b : ℕ) (p : Point) (s x : Turn) → AreYoung b s.ages → turn c reach r t p s ≡ Some x → AreYoung (b + 1) x.ages
unfolding turn
turn_young c reach r t b p s x h q = option_and_then_some (settle c t r.hold) (turn_from c reach t r.turn p s) x q (λ y a w. settled_young c t b r.hold y x y.both.machine.ending (turn_from_young c t b reach r.turn p s y h a) w)

-- an age that is young has one after it
pub young_fits : (ages : List ℕ) (i d : ℕ) → AreYoung (2 ^ 63) ages → i < length ages → get_or ages i d + 1 < 2 ^ 64
young_fits ages i d h lt = let le = h i d lt in omega arith
