-- States that agree before a line agree after it.
use Rattle.std.proofs.Common.{◌≡◌, ℕ, ◌+◌, ◌*◌, ◌%◌, ◌^◌, ◌<◌, ◌≤◌, Bool, true, false, not, ◌&&◌, ◌||◌, ap, sym, subst, refl, ◌∙◌, eqb, eq-eqb, ⊎_elim, List, length, get_or, get_or-set_same, Option, Some, None, arith}
use Rattle.std.proofs.lemmas.Bool.{and_from, cases_eq, cases_lt, ne_eqb}
use Rattle.std.proofs.lemmas.List.{get_or-set_other, get_or_past, length-set}
use Rattle.std.specs.Int.{from_bool}
use Rattle.std.specs.Prelude.{if◌then◌else◌, slice_index, slice_set}
use Rattle.guest_state.specs.declared.virtual_state.Virtual.{Virtual}
use Rattle.guest_state.specs.declared.width.Width.{Width as StateWidth}
use Rattle.guest_state.specs.Register.{low_of, high_of, written, written_high}
use Rattle.guest_state.specs.Virtual.{get_of, get_high_of, put_of, put_high_of}
use Rattle.ir_syntax.specs.declared.cond.Flag.{Flag}
use Rattle.ir_syntax.specs.declared.cond.Flag.TheVariants.{Cf, Pf, Zf, Sf, Of}
use Rattle.ir_syntax.specs.declared.line.Family.{Family}
use Rattle.ir_syntax.specs.declared.line.Op.{Op}
use Rattle.ir_syntax.specs.declared.line.Op.TheVariants.{Get, GetHigh, Put, PutHigh, Const, Ea, Calc, FlagOf, FlagZero, Cond, Pick, Zext, Sext, Cut}
use Rattle.ir_syntax.specs.declared.line.PartEnd.{PartEnd}
use Rattle.ir_syntax.specs.declared.line.PartEnd.TheVariants.{Tick, Load, Store, StoreGo, Fence, Locked, LockedCmpxchg, Divide, Go, Branch, BadCode}
use Rattle.ir_syntax.specs.declared.line.Target.{Target}
use Rattle.ir_syntax.specs.declared.line.Target.TheVariants.{Place, Temp}
use Rattle.ir_syntax.specs.declared.request.Change.TheVariants.{Cmpxchg as to_cmpxchg}
use Rattle.ir_syntax.specs.declared.request.Request.TheVariants.{Load as ask_load, Store as ask_store, StoreGo as ask_storego, Locked as ask_locked, Go as ask_go}
use Rattle.ir_syntax.specs.declared.width.Width.{Width}
use Rattle.ir_syntax.specs.Width.{bits_of}
use Rattle.x86_flags.specs.declared.flags.Flags.{Flags}
use Rattle.x86_flags.specs.Numbers.{signed, low_bits}
use Rattle.ir_meaning.specs.Does.{did, second, register_or_zero, with_flag, with_temp, holds_now, flags_of, flag_in, ended, divided, quotient_of, place_of, change_of, answered}
use Rattle.ir_meaning.specs.Family.{result_of, flags_after}
use Rattle.ir_meaning.specs.Live.{flags_where, is_flag, op_reads, op_puts, end_reads, uses_carry, can_keep, live_before, live_before_end}
use Rattle.ir_meaning.specs.Needs.{is_operand, is_target_temp, op_reads_temp, op_writes_temp, end_reads_temp, end_writes_temp, needed_before, needed_before_end}
use Rattle.ir_meaning.specs.Width.{state_width}
use Rattle.dead_flags.specs.Alike.{Agrees}
use Rattle.dead_flags.proofs.FlagLemmas.{both, result_same, flag_after_same, test_same}

pub or_left : (x y : Bool) → x ≡ true → (x || y) ≡ true
or_left true y h = refl
or_left false y h = absurd (cc)

pub or_right : (x y : Bool) → y ≡ true → (x || y) ≡ true
or_right true y h = refl
or_right false y h = h

-- neither written nor read, and wanted after the line
pub or_kept : (x p n : Bool) → p ≡ false → n ≡ true → (x || (not p && n)) ≡ true
or_kept x true n h k = absurd (cc)
or_kept x false n h k = or_right x n k

self : (n : ℕ) → eqb n n ≡ true
self n = eq-eqb n n refl

pub flag_where : (g : Flag → Bool) (flag : Flag) → flag_in (flags_where g) flag ≡ g flag
flag_where g Cf = refl
flag_where g Pf = refl
flag_where g Zf = refl
flag_where g Sf = refl
flag_where g Of = refl

flag_self : (flag : Flag) → is_flag flag flag ≡ true
flag_self Cf = refl
flag_self Pf = refl
flag_self Zf = refl
flag_self Sf = refl
flag_self Of = refl

-- what agreement before a line says of all that the line reads, and of all that it leaves alone
record Between (reads puts : Flag → Bool) (reads_at writes_at : ℕ → Bool) (live : Flags) (need : ℕ → Bool) (v u : Virtual) : Type 0 where
  regs : v.regs ≡ u.regs
  room : length v.temps ≡ length u.temps
  read : (t : ℕ) → reads_at t ≡ true → slice_index v.temps t ≡ slice_index u.temps t
  left : (t : ℕ) → writes_at t ≡ false → need t ≡ true → slice_index v.temps t ≡ slice_index u.temps t
  flag_read : (flag : Flag) → reads flag ≡ true → flag_in (flags_of v) flag ≡ flag_in (flags_of u) flag
  flag_left : (flag : Flag) → puts flag ≡ false → flag_in live flag ≡ true → flag_in (flags_of v) flag ≡ flag_in (flags_of u) flag

between : (reads puts : Flag → Bool) (reads_at writes_at : ℕ → Bool) (live : Flags) (need : ℕ → Bool) (v u : Virtual) → Agrees (flags_where (λ f. reads f || (not (puts f) && flag_in live f))) (λ t. reads_at t || (not (writes_at t) && need t)) v u → Between reads puts reads_at writes_at live need v u
between reads puts reads_at writes_at live need v u a =
    let among = λ (f : Flag) (e : (reads f || (not (puts f) && flag_in live f)) ≡ true). a.flags f (flag_where (λ g. reads g || (not (puts g) && flag_in live g)) f ∙ e) in
    record {
      regs = a.regs;
      room = a.room;
      read = λ t h. a.temps t (or_left (reads_at t) _ h);
      left = λ t h n. a.temps t (or_kept (reads_at t) (writes_at t) (need t) h n);
      flag_read = λ f h. among f (or_left (reads f) _ h);
      flag_left = λ f h l. among f (or_kept (reads f) (puts f) (flag_in live f) h l);
    }

set_same : (xs ys : List ℕ) (s t x y : ℕ) → length xs ≡ length ys → x ≡ y → (eqb s t ≡ false → get_or xs s 0 ≡ get_or ys s 0) → get_or (slice_set xs t x) s 0 ≡ get_or (slice_set ys t y) s 0
set_same xs ys s t x y room same kept =
    ⊎_elim
    (λ (e : s ≡ t).
    subst (λ (k : ℕ). get_or (slice_set xs t x) k 0 ≡ get_or (slice_set ys t y) k 0) (sym e)
    (⊎_elim
    (λ (within : t < length xs).
    let within_too : t < length ys = omega arith in
    get_or-set_same xs t x 0 within ∙ same ∙ sym (get_or-set_same ys t y 0 within_too))
    (λ (past : length xs ≤ t).
    let past_set : length (slice_set xs t x) ≤ t = rw (length-set xs t x) past in
    let past_too : length (slice_set ys t y) ≤ t = rw (length-set ys t y, ← room) past in
    get_or_past (slice_set xs t x) t 0 past_set ∙ sym (get_or_past (slice_set ys t y) t 0 past_too))
    (cases_lt t (length xs))))
    (λ (other : s ≡ t → ⊥). get_or-set_other xs t s x 0 other ∙ kept (ne_eqb s t other) ∙ sym (get_or-set_other ys t s y 0 other))
    (cases_eq s t)

-- a temporary is written with the same number
temp_agrees : (live : Flags) (need : ℕ → Bool) (v u : Virtual) (t x y : ℕ) → v.regs ≡ u.regs → length v.temps ≡ length u.temps → ((s : ℕ) → eqb s t ≡ false → need s ≡ true → slice_index v.temps s ≡ slice_index u.temps s) → ((f : Flag) → flag_in live f ≡ true → flag_in (flags_of v) f ≡ flag_in (flags_of u) f) → x ≡ y → Agrees live need (with_temp v t x) (with_temp u t y)
temp_agrees live need v u t x y regs room temps flags same = record {
  regs = regs;
  room = length-set v.temps t x ∙ room ∙ sym (length-set u.temps t y);
  temps = λ s n. set_same v.temps u.temps s t x y room same (λ other. temps s other n);
  flags = flags;
}

put_agrees : (live : Flags) (need : ℕ → Bool) (v u : Virtual) (r : ℕ) (w : StateWidth) (x y : ℕ) → Agrees live need v u → x ≡ y → Agrees live need (put_of v r w x) (put_of u r w y)
unfolding put_of
put_agrees live need v u r w x y a same = record {
  regs = both (λ (l : List ℕ) (z : ℕ). slice_set l r (written w (slice_index l r) z)) a.regs same;
  room = a.room;
  temps = a.temps;
  flags = a.flags;
}

put_high_agrees : (live : Flags) (need : ℕ → Bool) (v u : Virtual) (r x y : ℕ) → Agrees live need v u → x ≡ y → Agrees live need (put_high_of v r x) (put_high_of u r y)
unfolding put_high_of
put_high_agrees live need v u r x y a same = record {
  regs = both (λ (l : List ℕ) (z : ℕ). slice_set l r (written_high (slice_index l r) z)) a.regs same;
  room = a.room;
  temps = a.temps;
  flags = a.flags;
}

get_same : (v u : Virtual) (r : ℕ) (w : StateWidth) → v.regs ≡ u.regs → get_of v r w ≡ get_of u r w
unfolding get_of
get_same v u r w e = ap (λ (l : List ℕ). low_of w (slice_index l r)) e

get_high_same : (v u : Virtual) (r : ℕ) → v.regs ≡ u.regs → get_high_of v r ≡ get_high_of u r
unfolding get_high_of
get_high_same v u r e = ap (λ (l : List ℕ). high_of (slice_index l r)) e

second_same : (b : Option ℕ) (xs ys : List ℕ) → ((s : ℕ) → is_operand b s ≡ true → slice_index xs s ≡ slice_index ys s) → second xs b ≡ second ys b
second_same None xs ys e = refl
second_same (Some b) xs ys e = e b (self b)

place_same : (to : Target) (xs ys : List ℕ) → ((s : ℕ) → is_target_temp to s ≡ true → slice_index xs s ≡ slice_index ys s) → place_of xs to ≡ place_of ys to
place_same (Place to) xs ys e = refl
place_same (Temp t) xs ys e = e t (self t)

pub put_flag_same : (flag f : Flag) (v u : Virtual) (x y : Bool) → x ≡ y → (is_flag flag f ≡ false → flag_in (flags_of v) f ≡ flag_in (flags_of u) f) → flag_in (flags_of (with_flag v flag x)) f ≡ flag_in (flags_of (with_flag u flag y)) f
put_flag_same Cf Cf v u x y same kept = same
put_flag_same Cf Pf v u x y same kept = kept refl
put_flag_same Cf Zf v u x y same kept = kept refl
put_flag_same Cf Sf v u x y same kept = kept refl
put_flag_same Cf Of v u x y same kept = kept refl
put_flag_same Pf Cf v u x y same kept = kept refl
put_flag_same Pf Pf v u x y same kept = same
put_flag_same Pf Zf v u x y same kept = kept refl
put_flag_same Pf Sf v u x y same kept = kept refl
put_flag_same Pf Of v u x y same kept = kept refl
put_flag_same Zf Cf v u x y same kept = kept refl
put_flag_same Zf Pf v u x y same kept = kept refl
put_flag_same Zf Zf v u x y same kept = same
put_flag_same Zf Sf v u x y same kept = kept refl
put_flag_same Zf Of v u x y same kept = kept refl
put_flag_same Sf Cf v u x y same kept = kept refl
put_flag_same Sf Pf v u x y same kept = kept refl
put_flag_same Sf Zf v u x y same kept = kept refl
put_flag_same Sf Sf v u x y same kept = same
put_flag_same Sf Of v u x y same kept = kept refl
put_flag_same Of Cf v u x y same kept = kept refl
put_flag_same Of Pf v u x y same kept = kept refl
put_flag_same Of Zf v u x y same kept = kept refl
put_flag_same Of Sf v u x y same kept = kept refl
put_flag_same Of Of v u x y same kept = same

-- a flag is put with the same value
flag_agrees : (flag : Flag) (live : Flags) (need : ℕ → Bool) (v u : Virtual) (x y : Bool) → v.regs ≡ u.regs → length v.temps ≡ length u.temps → ((t : ℕ) → need t ≡ true → slice_index v.temps t ≡ slice_index u.temps t) → ((f : Flag) → is_flag flag f ≡ false → flag_in live f ≡ true → flag_in (flags_of v) f ≡ flag_in (flags_of u) f) → x ≡ y → Agrees live need (with_flag v flag x) (with_flag u flag y)
flag_agrees Cf live need v u x y regs room temps flags same = record { regs = regs; room = room; temps = temps; flags = λ f l. put_flag_same Cf f v u x y same (λ other. flags f other l) }
flag_agrees Pf live need v u x y regs room temps flags same = record { regs = regs; room = room; temps = temps; flags = λ f l. put_flag_same Pf f v u x y same (λ other. flags f other l) }
flag_agrees Zf live need v u x y regs room temps flags same = record { regs = regs; room = room; temps = temps; flags = λ f l. put_flag_same Zf f v u x y same (λ other. flags f other l) }
flag_agrees Sf live need v u x y regs room temps flags same = record { regs = regs; room = room; temps = temps; flags = λ f l. put_flag_same Sf f v u x y same (λ other. flags f other l) }
flag_agrees Of live need v u x y regs room temps flags same = record { regs = regs; room = room; temps = temps; flags = λ f l. put_flag_same Of f v u x y same (λ other. flags f other l) }

value_same : (family : Family) (n : ℕ) (a b c d : ℕ) (f g : Flags) → a ≡ c → b ≡ d → (uses_carry family ≡ true → f.cf ≡ g.cf) → result_of family n a b f ≡ result_of family n c d g
value_same family n a b c d f g first other carry = both (λ (x y : ℕ). result_of family n x y f) first other ∙ result_same family n c d f g carry

flag_value_same : (family : Family) (flag : Flag) (n : ℕ) (a b c d : ℕ) (f g : Flags) → a ≡ c → b ≡ d → (uses_carry family ≡ true → f.cf ≡ g.cf) → (can_keep family flag ≡ true → flag_in f flag ≡ flag_in g flag) → flag_in (flags_after family n a b f) flag ≡ flag_in (flags_after family n c d g) flag
flag_value_same family flag n a b c d f g first other carry kept = both (λ (x y : ℕ). flag_in (flags_after family n x y f) flag) first other ∙ flag_after_same family flag n c d f g carry kept

picked_same : (c d a x b y : ℕ) → c ≡ d → a ≡ x → b ≡ y → (if eqb c 1 then a else b) ≡ (if eqb d 1 then x else y)
picked_same c d a x b y e f g = cc

abbrev BetweenOp : Op → Flags → (ℕ → Bool) → Virtual → Virtual → Type 0
BetweenOp o = Between (op_reads o) (op_puts o) (op_reads_temp o) (op_writes_temp o)

op_agrees : (o : Op) (live : Flags) (need : ℕ → Bool) (v u : Virtual) → BetweenOp o live need v u → Agrees live need (did o v) (did o u)
op_agrees (Get w t r) live need v u k = temp_agrees live need v u t _ _ k.regs k.room k.left (λ f l. k.flag_left f refl l) (get_same v u r (state_width w) k.regs)
op_agrees (GetHigh t r) live need v u k = temp_agrees live need v u t _ _ k.regs k.room k.left (λ f l. k.flag_left f refl l) (get_high_same v u r k.regs)
op_agrees (Put w r t) live need v u k = put_agrees live need v u r (state_width w) _ _ (record { regs = k.regs; room = k.room; temps = λ s n. k.left s refl n; flags = λ f l. k.flag_left f refl l }) (k.read t (self t))
op_agrees (PutHigh r t) live need v u k = put_high_agrees live need v u r _ _ (record { regs = k.regs; room = k.room; temps = λ s n. k.left s refl n; flags = λ f l. k.flag_left f refl l }) (k.read t (self t))
op_agrees (Const w t n) live need v u k = temp_agrees live need v u t _ _ k.regs k.room k.left (λ f l. k.flag_left f refl l) refl
op_agrees (Ea t base index scale n) live need v u k = temp_agrees live need v u t _ _ k.regs k.room k.left (λ f l. k.flag_left f refl l) (ap (λ (l : List ℕ). (register_or_zero l base + register_or_zero l index * scale + n) % 2 ^ 64) k.regs)
op_agrees (Calc family w t a b) live need v u k = temp_agrees live need v u t _ _ k.regs k.room k.left (λ f l. k.flag_left f refl l) (value_same family (bits_of w) _ _ _ _ (flags_of v) (flags_of u) (k.read a (or_left _ _ (self a))) (second_same b v.temps u.temps (λ s h. k.read s (or_right (eqb s a) _ h))) (λ h. k.flag_read Cf (and_from _ _ h refl)))
op_agrees (FlagOf flag family w a b) live need v u k = flag_agrees flag live need v u _ _ k.regs k.room (λ s n. k.left s refl n) k.flag_left (flag_value_same family flag (bits_of w) _ _ _ _ (flags_of v) (flags_of u) (k.read a (or_left _ _ (self a))) (second_same b v.temps u.temps (λ s h. k.read s (or_right (eqb s a) _ h))) (λ h. k.flag_read Cf (or_left _ _ (and_from _ _ h refl))) (λ h. k.flag_read flag (or_right _ _ (and_from (can_keep family flag) (is_flag flag flag) h (flag_self flag)))))
op_agrees (FlagZero flag) live need v u k = flag_agrees flag live need v u false false k.regs k.room (λ s n. k.left s refl n) k.flag_left refl
op_agrees (Cond t c) live need v u k = temp_agrees live need v u t _ _ k.regs k.room k.left (λ f l. k.flag_left f refl l) (ap from_bool (test_same c (holds_now v) (holds_now u) k.flag_read))
op_agrees (Pick w t c a b) live need v u k = temp_agrees live need v u t _ _ k.regs k.room k.left (λ f l. k.flag_left f refl l) (picked_same _ _ _ _ _ _ (k.read c (or_left _ _ (self c))) (k.read a (or_right (eqb a c) _ (or_left _ _ (self a)))) (k.read b (or_right (eqb b c) _ (or_right (eqb b a) _ (self b)))))
op_agrees (Zext from w t a) live need v u k = temp_agrees live need v u t _ _ k.regs k.room k.left (λ f l. k.flag_left f refl l) (k.read a (self a))
op_agrees (Sext from w t a) live need v u k = temp_agrees live need v u t _ _ k.regs k.room k.left (λ f l. k.flag_left f refl l) (ap (λ (p : ℕ). low_bits (bits_of w) (signed from p)) (k.read a (self a)))
op_agrees (Cut from w t a) live need v u k = temp_agrees live need v u t _ _ k.regs k.room k.left (λ f l. k.flag_left f refl l) (ap (λ (p : ℕ). p % 2 ^ bits_of w) (k.read a (self a)))

-- a line that both sides run
pub did_agrees : (o : Op) (live : Flags) (need : ℕ → Bool) (v u : Virtual) → Agrees (live_before o live) (needed_before o need) v u → Agrees live need (did o v) (did o u)
did_agrees o live need v u a = op_agrees o live need v u (between (op_reads o) (op_puts o) (op_reads_temp o) (op_writes_temp o) live need v u a)

quotient_same : (signed : Bool) (w : Width) (v u : Virtual) (p q : ℕ) → v.regs ≡ u.regs → p ≡ q → quotient_of signed w v p ≡ quotient_of signed w u q
quotient_same signed w v u p q regs same =
    let high = get_same v u 2 (state_width w) regs in
    let low = get_same v u 0 (state_width w) regs in
    cc

divided_asks : (w : Width) (q : Option (ℕ × ℕ)) (v u : Virtual) → (divided w v q).request ≡ (divided w u q).request
divided_asks w None v u = refl
divided_asks w (Some q) v u = refl

divided_agrees : (w : Width) (q : Option (ℕ × ℕ)) (live : Flags) (need : ℕ → Bool) (v u : Virtual) → Agrees live need v u → Agrees live need (divided w v q).state (divided w u q).state
divided_agrees w None live need v u a = a
divided_agrees w (Some q) live need v u a = put_agrees live need _ _ 2 (state_width w) q.1 q.1 (put_agrees live need v u 0 (state_width w) q.0 q.0 a refl) refl

abbrev BetweenEnd : PartEnd → Flags → (ℕ → Bool) → Virtual → Virtual → Type 0
BetweenEnd end = Between (end_reads end) (λ _. false) (end_reads_temp end) (end_writes_temp end)

end_asks : (end : PartEnd) (live : Flags) (need : ℕ → Bool) (v u : Virtual) → BetweenEnd end live need v u → (ended end v).request ≡ (ended end u).request
end_asks Tick live need v u k = refl
end_asks (Load w t a) live need v u k = ap (λ (x : ℕ). ask_load x w) (k.read a (self a))
end_asks (Store w a t) live need v u k = both (λ (x y : ℕ). ask_store x w y) (k.read a (or_left _ _ (self a))) (k.read t (or_right (eqb t a) _ (self t)))
end_asks (StoreGo a t to) live need v u k = let first = k.read a (or_left _ _ (self a)) in let stored = k.read t (or_right (eqb t a) _ (or_left _ _ (self t))) in let place = place_same to v.temps u.temps (λ s h. k.read s (or_right (eqb s a) _ (or_right (eqb s t) _ h))) in both (λ (x y : ℕ). ask_storego x y (place_of v.temps to)) first stored ∙ ap (λ (x : ℕ). ask_storego (slice_index u.temps a) (slice_index u.temps t) x) place
end_asks Fence live need v u k = refl
end_asks (Locked kind w t a b) live need v u k = both (λ (x y : ℕ). ask_locked x w (change_of kind y)) (k.read a (or_left _ _ (self a))) (k.read b (or_right (eqb b a) _ (self b)))
end_asks (LockedCmpxchg w t a c b) live need v u k = let first = k.read a (or_left _ _ (self a)) in let wanted = k.read c (or_right (eqb c a) _ (or_left _ _ (self c))) in let new = k.read b (or_right (eqb b a) _ (or_right (eqb b c) _ (self b))) in both (λ (x y : ℕ). ask_locked x w (to_cmpxchg y (slice_index v.temps b))) first wanted ∙ ap (λ (x : ℕ). ask_locked (slice_index u.temps a) w (to_cmpxchg (slice_index u.temps c) x)) new
end_asks (Divide signed w t) live need v u k = ap (λ (q : Option (ℕ × ℕ)). (divided w v q).request) (quotient_same signed w v u _ _ k.regs (k.read t (self t))) ∙ divided_asks w (quotient_of signed w u (slice_index u.temps t)) v u
end_asks (Go to) live need v u k = ap (λ (x : ℕ). ask_go x) (place_same to v.temps u.temps k.read)
end_asks (Branch c taken other) live need v u k = ap (λ (x : Bool). ask_go (if x then taken else other)) (test_same c (holds_now v) (holds_now u) k.flag_read)
end_asks BadCode live need v u k = refl

end_agrees : (end : PartEnd) (live : Flags) (need : ℕ → Bool) (v u : Virtual) (x : ℕ) → BetweenEnd end live need v u → Agrees live need (answered end x (ended end v).state) (answered end x (ended end u).state)
end_agrees Tick live need v u x k = record { regs = k.regs; room = k.room; temps = λ s n. k.left s refl n; flags = λ f l. k.flag_left f refl l }
end_agrees (Load w t a) live need v u x k = temp_agrees live need v u t x x k.regs k.room k.left (λ f l. k.flag_left f refl l) refl
end_agrees (Store w a t) live need v u x k = record { regs = k.regs; room = k.room; temps = λ s n. k.left s refl n; flags = λ f l. k.flag_left f refl l }
end_agrees (StoreGo a t to) live need v u x k = record { regs = k.regs; room = k.room; temps = λ s n. k.left s refl n; flags = λ f l. k.flag_left f refl l }
end_agrees Fence live need v u x k = record { regs = k.regs; room = k.room; temps = λ s n. k.left s refl n; flags = λ f l. k.flag_left f refl l }
end_agrees (Locked kind w t a b) live need v u x k = temp_agrees live need v u t x x k.regs k.room k.left (λ f l. k.flag_left f refl l) refl
end_agrees (LockedCmpxchg w t a c b) live need v u x k = temp_agrees live need v u t x x k.regs k.room k.left (λ f l. k.flag_left f refl l) refl
end_agrees (Divide signed w t) live need v u x k = subst (λ (q : Option (ℕ × ℕ)). Agrees live need (divided w v (quotient_of signed w v (slice_index v.temps t))).state (divided w u q).state) (quotient_same signed w v u _ _ k.regs (k.read t (self t))) (divided_agrees w (quotient_of signed w v (slice_index v.temps t)) live need v u (record { regs = k.regs; room = k.room; temps = λ s n. k.left s refl n; flags = λ f l. k.flag_left f refl l }))
end_agrees (Go to) live need v u x k = record { regs = k.regs; room = k.room; temps = λ s n. k.left s refl n; flags = λ f l. k.flag_left f refl l }
end_agrees (Branch c taken other) live need v u x k = record { regs = k.regs; room = k.room; temps = λ s n. k.left s refl n; flags = λ f l. k.flag_left f refl l }
end_agrees BadCode live need v u x k = record { regs = k.regs; room = k.room; temps = λ s n. k.left s refl n; flags = λ f l. k.flag_left f refl l }

-- the same end line on both sides: what it asks for, and the states once the answer is there
pub ended_asks : (end : PartEnd) (live : Flags) (need : ℕ → Bool) (v u : Virtual) → Agrees (live_before_end end live) (needed_before_end end need) v u → (ended end v).request ≡ (ended end u).request
ended_asks end live need v u a = end_asks end live need v u (between (end_reads end) (λ _. false) (end_reads_temp end) (end_writes_temp end) live need v u a)

pub ended_agrees : (end : PartEnd) (live : Flags) (need : ℕ → Bool) (v u : Virtual) (x : ℕ) → Agrees (live_before_end end live) (needed_before_end end need) v u → Agrees live need (answered end x (ended end v).state) (answered end x (ended end u).state)
ended_agrees end live need v u x a = end_agrees end live need v u x (between (end_reads end) (λ _. false) (end_reads_temp end) (end_writes_temp end) live need v u a)
