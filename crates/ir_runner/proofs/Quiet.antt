-- A turn that doesn't come to a call that waits makes an entry.
use Rattle.std.proofs.Common.{◌≡◌, ℕ, zero, suc, ◌+◌, ◌-◌, ◌<◌, ◌≤◌, ◌⊎◌, inl, inr, Bool, true, false, List, [], ◌∷◌, Option, Some, None, sym, ap, ◌∙◌, arith, ◌||◌, length, length-append}
use Rattle.std.specs.Prelude.{is_none, not}
use Rattle.std.proofs.lemmas.Option.{none-some, option_and_then_some, same_Some}
use Rattle.address_space.specs.Slots.{slot_of}
use Rattle.x86_model.specs.Want.{want}
use Rattle.journal_pack.specs.declared.entry.Entry.{Entry}
use Rattle.journal_pack.specs.declared.entry.Entry.TheVariants.{Ev, Flush, Miss, Over, Tick, Wait}
use Rattle.machine_model.specs.declared.ending.RunEnd.{RunEnd}
use Rattle.machine_model.specs.CaseData.{CaseData}
use Rattle.machine_model.specs.State.{is_live, list_at}
use Rattle.machine_model.specs.Step.{waits_at}
use Rattle.machine_model.specs.Gated.{Both}
use Rattle.machine_model.specs.Serial.{AreReaches, AtEvent, AtLimit, AtMiss, AtMost, GoesOn, Point, Reaches, Rule, Rules, Turn, act, after_miss, aged, event, event_by, flush, flush_if, flush_old, flush_some, flushed_before, is_over, make, point_of, rule_at, settle, settled, stop_from, told_waiting, turn, turn_from, unless_over}
use Rattle.machine_model.proofs.SerialGated.{Follows, Origin, act_goes, after_miss_goes, flush_some_goes, follows_itself, made, miss_made, origin_of, settled_goes, spots_on, turn_from_goes, unless_over_goes}

-- it waits, or an entry was made
abbrev Works : Turn → Turn → Type 0
Works s x = (x.waiting ≡ true) ⊎ (length s.journal + 1 ≤ length x.journal)

made_longer : (c : CaseData) (e : Entry) (s x : Turn) → make c e s ≡ Some x → length s.journal + 1 ≤ length x.journal
made_longer c e s x p =
    let m = made c e s x p in
    let l = ap (λ (y : Turn). length y.journal) (sym m.is) ∙ length-append s.journal (e ∷ []) in
    omega (arith, l)

made_waits : (c : CaseData) (e : Entry) (s x : Turn) → make c e s ≡ Some x → x.waiting ≡ s.waiting
made_waits c e s x p = ap (λ (y : Turn). y.waiting) (sym (made c e s x p).is)

told_works : (c : CaseData) (t k : ℕ) (s x : Turn) → told_waiting c t k s ≡ Some x → x.waiting ≡ true
told_works c t zero s x p = ap (λ (y : Turn). y.waiting) (sym (same_Some _ x p))
told_works c t (suc k) s x p = made_waits c (Wait t (suc k)) _ x p

event_works : (c : CaseData) (t : ℕ) (q : Point) (s x : Turn) (b : Bool) → event_by c t q s b ≡ Some x → Works s x
event_works c t q s x true p = inl (told_works c t q.k s x p)
event_works c t q s x false p = inr (made_longer c (Ev t q.k) _ x p)

no_shorter : (c : CaseData) (o : Origin) (n : Both) (journal : List Entry) → Follows c o n journal → length o.journal ≤ length journal
no_shorter c o n journal h = let e = ap length h.added in let l = length-append o.journal h.more in omega (arith, e, l)

works_after : (s y x : Turn) → length s.journal ≤ length y.journal → Works y x → Works s x
works_after s y x le (inl w) = inl w
works_after s y x le (inr m) = inr (omega (arith, le, m))

act_works : (c : CaseData) (reach : Reaches) (t : ℕ) (q : Point) (s x : Turn) (r : Rule) → AreReaches c.image reach → length s.both.gate.spots ≡ 64 → act c reach t q s r ≡ Some x → Works s x
act_works c reach t q s x AtLimit right spots p = inr (made_longer c (Over t q.k) s x p)
act_works c reach t q s x AtMiss right spots p =
    let g = q.stand.cpu.rip in
    option_and_then_some (after_miss c reach t g c.strict) (make c (Miss t q.k q.stand.cpu.last g) s) x p (λ y m n.
    let one = made_longer c (Miss t q.k q.stand.cpu.last g) s y m in
    let v = miss_made c (origin_of s) t q.k q.stand.cpu.last g s y (follows_itself c s.both s.journal spots) m in
    let now = spots_on c s.both y.both v.along.more v.along.leads ∙ spots in
    let a = after_miss_goes c (origin_of y) reach t g c.strict y x right (record { along = follows_itself c y.both y.journal now; latest = v.latest }) n in
    let more = no_shorter c (origin_of y) x.both x.journal a in
    inr (omega (arith, one, more)))
act_works c reach t q s x AtMost right spots p = inr (made_longer c (Tick t q.k) s x p)
act_works c reach t q s x AtEvent right spots p =
    let n = flushed_before (want c.image q.stand.cpu) (length (list_at s.both.machine (slot_of t))) in
    option_and_then_some (event c t q) (flush_some c t n s) x p (λ y f e.
    let a = flush_some_goes c (origin_of s) t n s y (follows_itself c s.both s.journal spots) f in
    works_after s y x (no_shorter c (origin_of s) y.both y.journal a) (event_works c t q y x (waits_at c.image y.both.machine t q.stand.cpu) e))
act_works c reach t q s x GoesOn right spots p = absurd (none-some x p)

over_waits : (t : ℕ) (y : Turn) → y.waiting ≡ true → is_over t y ≡ true
over_waits t y w = ap (λ b. b || not (is_none y.both.machine.ending) || not (is_live y.both.machine t)) w

waits_then : (on : Turn → Option Turn) (t : ℕ) (y x : Turn) → y.waiting ≡ true → unless_over on y (is_over t y) ≡ Some x → x.waiting ≡ true
waits_then on t y x w p = ap (λ (z : Turn). z.waiting) (sym (same_Some y x (sym (ap (unless_over on y) (over_waits t y w)) ∙ p))) ∙ w

-- ---- the end of a turn

flush_if_waits : (c : CaseData) (t : ℕ) (on : Turn → Option Turn) (s x : Turn) (b : Bool) → ((y : Turn) → on y ≡ Some x → x.waiting ≡ y.waiting) → flush_if c t on s b ≡ Some x → x.waiting ≡ s.waiting
flush_if_waits c t on s x true goes p = option_and_then_some on (flush c t s) x p (λ y f q. goes y q ∙ made_waits c (Flush t) _ y f)
flush_if_waits c t on s x false goes p = ap (λ (z : Turn). z.waiting) (sym (same_Some s x p))

flush_old_waits : (c : CaseData) (t hold : ℕ) (ages : List ℕ) (s x : Turn) → flush_old c t hold ages s ≡ Some x → x.waiting ≡ s.waiting
unfolding flush_old
flush_old_waits c t hold [] s x p = ap (λ (z : Turn). z.waiting) (sym (same_Some s x p))
flush_old_waits c t hold (a ∷ ages) s x p = flush_if_waits c t (flush_old c t hold ages) s x _ (λ y q. flush_old_waits c t hold ages y x q) p

settled_waits : (c : CaseData) (t hold : ℕ) (s x : Turn) (end : Option RunEnd) → settled c t hold s end ≡ Some x → x.waiting ≡ s.waiting
settled_waits c t hold s x None p = flush_old_waits c t hold (aged s).ages (aged s) x p
settled_waits c t hold s x (Some e) p = ap (λ (z : Turn). z.waiting) (sym (same_Some s x p))

-- ---- a turn

from_works : (c : CaseData) (reach : Reaches) (t n : ℕ) (p : Point) (s x : Turn) → AreReaches c.image reach → length s.both.gate.spots ≡ 64 → turn_from c reach t (suc n) p s ≡ Some x → Works s x
unfolding turn_from
from_works c reach t n p s x right spots e =
    let q = stop_from c s.both (4096 - p.k) p in
    let on : Turn → Option Turn = λ y. turn_from c reach t n (point_of y.both t) y in
    option_and_then_some (λ y. unless_over on y (is_over t y)) (act c reach t q s (rule_at c s.both q)) x e (λ y a u.
    let goes = act_goes c (origin_of s) reach t q s y (rule_at c s.both q) right (follows_itself c s.both s.journal spots) a in
    let now = spots_on c s.both y.both goes.more goes.leads ∙ spots in
    let rest = unless_over_goes c (origin_of y) on y x (is_over t y) (λ z v b k. turn_from_goes c (origin_of y) reach t n (point_of z.both t) z v right b k) (follows_itself c y.both y.journal now) u in
    let more = no_shorter c (origin_of y) x.both x.journal rest in
    elim (act_works c reach t q s y (rule_at c s.both q) right spots a) [
      | inl w ↦ inl (waits_then on t y x w u)
      | inr l ↦ inr (omega (arith, l, more))
    ])

-- where a turn with a budget doesn't come to a call that waits, it makes an entry
pub turn_works : (c : CaseData) (reach : Reaches) (r : Rules) (t : ℕ) (p : Point) (s x : Turn) → AreReaches c.image reach → length s.both.gate.spots ≡ 64 → 0 < r.turn → turn c reach r t p s ≡ Some x → x.waiting ≡ false → length s.journal < length x.journal
unfolding turn
turn_works c reach r t p s x right spots some e awake =
    option_and_then_some (settle c t r.hold) (turn_from c reach t r.turn p s) x e (λ y a z.
    let less : r.turn ≡ suc (r.turn - 1) = omega (arith, some) in
    let w = from_works c reach t (r.turn - 1) p s y right spots (ap (λ k. turn_from c reach t k p s) (sym less) ∙ a) in
    let goes = turn_from_goes c (origin_of s) reach t r.turn p s y right (follows_itself c s.both s.journal spots) a in
    let now = spots_on c s.both y.both goes.more goes.leads ∙ spots in
    let rest = settled_goes c (origin_of y) t r.hold y x y.both.machine.ending (follows_itself c y.both y.journal now) z in
    let more = no_shorter c (origin_of y) x.both x.journal rest in
    elim w [
      | inl v ↦ absurd (let no : true ≡ false = sym v ∙ sym (settled_waits c t r.hold y x y.both.machine.ending z) ∙ awake in cc)
      | inr l ↦ let k : length s.journal < length x.journal = omega (arith, l, more) in k
    ])
