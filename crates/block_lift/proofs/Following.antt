-- The parts of a block without its dead puts follow a thread through the block's instructions.
use Rattle.std.proofs.Common.{◌≡◌, ℕ, ◌<◌, ◌^◌, Bool, true, false, length, ap, sym, subst, refl, ◌∙◌, List, [], ◌∷◌, ◌++◌, Option, Some, None}
use Rattle.std.specs.Prelude.{if◌then◌else◌, slice_index}
use Rattle.guest_state.specs.declared.virtual_state.Virtual.{Virtual}
use Rattle.ir_syntax.specs.declared.block.Part.{Part}
use Rattle.ir_syntax.specs.declared.cond.Flag.{Flag}
use Rattle.ir_syntax.specs.declared.cond.Flag.TheVariants.{Cf, Pf, Zf, Sf, Of}
use Rattle.ir_syntax.specs.declared.line.Op.{Op}
use Rattle.ir_syntax.specs.declared.line.PartEnd.{PartEnd}
use Rattle.ir_syntax.specs.declared.line.PartEnd.TheVariants.{Tick, Load, Store, StoreGo, Fence, Locked, LockedCmpxchg, Divide, Go, Branch, BadCode}
use Rattle.ir_syntax.specs.declared.request.Request.{Request}
use Rattle.ir_syntax.specs.declared.width.Width.{Width}
use Rattle.ir_syntax.specs.Typed.{goes_on}
use Rattle.ir_syntax.specs.Width.{bits_of}
use Rattle.ir_meaning.specs.Does.{does, ended, answered, divided, quotient_of, did_all, flags_of, flag_in}
use Rattle.ir_meaning.specs.Live.{live_before_parts, live_before_end, all_flags, kept_ops, kept_parts}
use Rattle.x86_flags.specs.declared.flags.Flags.{Flags}
use Rattle.x86_model.specs.declared.cpu.Cpu.{Cpu}
use Rattle.x86_model.specs.declared.want.BadStep.TheVariants as bad_step
use Rattle.x86_model.specs.declared.want.Want.{Want}
use Rattle.x86_model.specs.declared.want.Want.TheVariants as want
use Rattle.x86_model.specs.Want.{want_of}
use Rattle.basic_blocks.specs.Placed.{Placed}
use Rattle.lift_table.specs.LiftTable.{lifted}
use Rattle.lift_table.specs.Follow.{Agrees, Follows, Lifts, Meets, Onward, having}
use Rattle.lift_table.specs.Faithful.{AreFaithful, Matches, MatchesAfter, MatchesWithin, PartFollows, answer_bits, left_after, lifted_all, no_temps, state_with, takes_answer, under_way}
use Rattle.lift_table.proofs.LiftWords.{same_bits}
use Rattle.dead_flags.specs.Alike.{AgreesBefore, AsksAlike}
use Rattle.dead_flags.proofs.AlikeLemmas.{strip_alike}

-- ---- end lines

-- an end line without an answer leaves the state as it is
unanswered : (end : PartEnd) (x : ℕ) (v : Virtual) → takes_answer end ≡ false → answered end x v ≡ v
unanswered Tick x v e = refl
unanswered (Load w t a) x v e = absurd (cc)
unanswered (Store w a t) x v e = refl
unanswered (StoreGo a t to) x v e = refl
unanswered Fence x v e = refl
unanswered (Locked kind w t a b) x v e = absurd (cc)
unanswered (LockedCmpxchg w t a c b) x v e = absurd (cc)
unanswered (Divide signed w t) x v e = refl
unanswered (Go to) x v e = refl
unanswered (Branch c taken other) x v e = refl
unanswered BadCode x v e = refl

-- what holds where an instruction ends, in place of something else
abbrev EndsAs : PartEnd → ℕ → (ℕ → Cpu → Type 0) → (ℕ → Cpu → Type 0) → Type 0
EndsAs end next done done2 = (a : ℕ) (t : Cpu) → takes_answer end ≡ false → (goes_on end ≡ true → a ≡ next) → done a t → done2 a t

-- what holds where an answer comes, in place of something else
abbrev AnswersAs : PartEnd → (ℕ → Type 0) → (ℕ → Type 0) → Type 0
AnswersAs end more more2 = (n : ℕ) → takes_answer end ≡ true → n ≡ answer_bits end → more n → more2 n

divided_meets : (signed : Bool) (w : Width) (t : ℕ) (v : Virtual) (q : Option (ℕ × ℕ)) (z : Want) (next : ℕ) (done done2 : ℕ → Cpu → Type 0) (more more2 : ℕ → Type 0) → EndsAs (Divide signed w t) next done done2 → Meets (divided w v q).request z next done more → Meets (divided w v q).request z next done2 more2
divided_meets signed w t v None (want.Bad bad_step.Divide) next done done2 more more2 d h = h
divided_meets signed w t v None z next done done2 more more2 d h = absurd h
divided_meets signed w t v (Some q) (want.Private s) next done done2 more more2 d h = d next s refl (λ _. refl) h
divided_meets signed w t v (Some q) z next done done2 more more2 d h = absurd h

ended_meets : (end : PartEnd) (v : Virtual) (z : Want) (next : ℕ) (done done2 : ℕ → Cpu → Type 0) (more more2 : ℕ → Type 0) → EndsAs end next done done2 → AnswersAs end more more2 → Meets (ended end v).request z next done more → Meets (ended end v).request z next done2 more2
ended_meets Tick v (want.Private s) next done done2 more more2 d m h = d next s refl (λ _. refl) h
ended_meets (Load w t a) v (want.Load at u) next done done2 more more2 d m h = (h.0, h.1, m _ refl (sym (ap bits_of h.1 ∙ same_bits u)) h.2)
ended_meets (Store w a t) v (want.Store at u x s) next done done2 more more2 d m h = (h.0, h.1, h.2, d next s refl (λ _. refl) h.3)
ended_meets (StoreGo a t to) v (want.Store at u x s) next done done2 more more2 d m h = (h.0, h.1, h.2, d _ s refl (λ e. absurd (cc)) h.3)
ended_meets Fence v (want.Fence s) next done done2 more more2 d m h = d next s refl (λ _. refl) h
ended_meets (Locked kind w t a b) v (want.Locked at u c) next done done2 more more2 d m h = (h.0, h.1, h.2, m _ refl (sym (ap bits_of h.1 ∙ same_bits u)) h.3)
ended_meets (LockedCmpxchg w t a c b) v (want.Locked at u k) next done done2 more more2 d m h = (h.0, h.1, h.2, m _ refl (sym (ap bits_of h.1 ∙ same_bits u)) h.3)
ended_meets (Divide signed w t) v z next done done2 more more2 d m h = divided_meets signed w t v (quotient_of signed w v (slice_index v.temps t)) z next done done2 more more2 d h
ended_meets (Go to) v (want.Private s) next done done2 more more2 d m h = d _ s refl (λ e. absurd (cc)) h
ended_meets (Branch c taken other) v (want.Private s) next done done2 more more2 d m h = d _ s refl (λ e. absurd (cc)) h
ended_meets BadCode v (want.Bad bad_step.Code) next done done2 more more2 d m h = h
ended_meets end v z next done done2 more more2 d m h = absurd h

-- what holds of the answer to an end line that takes one
more_of : (end : PartEnd) (v : Virtual) (z : Want) (next : ℕ) (done : ℕ → Cpu → Type 0) (more : ℕ → Type 0) → takes_answer end ≡ true → Meets (ended end v).request z next done more → more (answer_bits end)
more_of (Load w t a) v (want.Load at u) next done more e h = subst more (sym (ap bits_of h.1 ∙ same_bits u)) h.2
more_of (Locked kind w t a b) v (want.Locked at u c) next done more e h = subst more (sym (ap bits_of h.1 ∙ same_bits u)) h.3
more_of (LockedCmpxchg w t a c b) v (want.Locked at u k) next done more e h = subst more (sym (ap bits_of h.1 ∙ same_bits u)) h.3
more_of (Load w t a) v z next done more e h = absurd h
more_of (Locked kind w t a b) v z next done more e h = absurd h
more_of (LockedCmpxchg w t a c b) v z next done more e h = absurd h
more_of end v z next done more e h = let no : ⊥ = cc in absurd no

-- ---- states

abbrev flags_with : Bool → Bool → Bool → Bool → Bool → Flags
flags_with a b c d e = record { cf = a; pf = b; zf = c; sf = d; of = e }

five : (a b c d e k l m n o : Bool) → k ≡ a → l ≡ b → m ≡ c → n ≡ d → o ≡ e → flags_with a b c d e ≡ flags_with k l m n o
five a b c d e k l m n o p q r s t = cc

all_flags_agree : (v u : Virtual) → ((f : Flag) → flag_in all_flags f ≡ true → flag_in (flags_of u) f ≡ flag_in (flags_of v) f) → flags_of v ≡ flags_of u
all_flags_agree v u same = five v.cf v.pf v.zf v.sf v.of u.cf u.pf u.zf u.sf u.of (same Cf refl) (same Pf refl) (same Zf refl) (same Sf refl) (same Of refl)

-- where the instructions go on
abbrev GoesTo : List Placed → ℕ → Type 0
GoesTo [] a = Unit {0}
GoesTo (j ∷ js) a = a ≡ j.at

-- where an instruction ends, a state that agrees with one that goes on as the thread does matches the thread after it
after_matches : (is : List Placed) (a : ℕ) (v u : Virtual) (t : Cpu) → GoesTo is a → AgreesBefore (kept_parts (lifted_all is)) no_temps u v → Onward a u t → MatchesAfter is (kept_parts (lifted_all is)) a v t
after_matches [] a v u t to k o = (
  o.0,
  record {
    regs = sym k.regs ∙ o.1.regs;
    flags = all_flags_agree v u k.flags ∙ o.1.flags;
    mid = o.1.mid;
    count = o.1.count;
    each = o.1.each;
    temps = sym k.room ∙ o.1.temps;
  },
)
after_matches (j ∷ js) a v u t to k o = (
  to,
  record {
    stands = sym o.0 ∙ to;
    mid = o.1.mid;
    regs = sym k.regs ∙ o.1.regs;
    count = o.1.count;
    each = o.1.each;
    flags = λ f l. sym (k.flags f l) ∙ ap (λ (x : Flags). flag_in x f) o.1.flags;
    temps = sym k.room ∙ o.1.temps;
  },
)

-- the thread's own registers and flags agree with it
own_agrees : (s : Cpu) (temps : List ℕ) → s.mid ≡ None → length s.regs ≡ 16 → ((r : ℕ) → slice_index s.regs r < 2 ^ 64) → length temps ≡ 8 → Agrees None (state_with s temps) s
own_agrees s temps mid count each room = record { regs = refl; flags = refl; mid = mid; count = count; each = each; temps = room }

-- a state that matches before an instruction agrees with the thread's own one as far as anything is live
matching_agrees : (parts : List Part) (at : ℕ) (loaded : Option ℕ) (v : Virtual) (s : Cpu) → Matches parts at loaded v s → AgreesBefore parts no_temps (state_with s v.temps) v
matching_agrees parts at loaded v s m = record { regs = sym m.regs; room = refl; temps = λ t e. refl; flags = λ f l. sym (m.flags f l) }

same_agrees : (parts : List Part) (v : Virtual) → AgreesBefore parts no_temps v v
same_agrees parts v = record { regs = refl; room = refl; temps = λ t e. refl; flags = λ f l. refl }

-- ---- the last part of an instruction

abbrev with_ops : Part → List Op → Part
with_ops p ops = record { ops = ops; end = p.end }

-- where the last part of an instruction leads
abbrev pub LeadsTo : PartEnd → ℕ → List Placed → Type 0
LeadsTo end next [] = Unit {0}
LeadsTo end next (j ∷ js) = (goes_on end ≡ true) × (next ≡ j.at)

leads : (end : PartEnd) (next a : ℕ) (is : List Placed) → LeadsTo end next is → (goes_on end ≡ true → a ≡ next) → GoesTo is a
leads end next a [] l h = tt
leads end next a (j ∷ js) l h = h l.0 ∙ l.1

-- from states that agree, the kept lines of a part that ends an instruction follow the thread as the part does
last_follows : (p : Part) (ops : List Op) (i : Placed) (is : List Placed) (z : Want) (u v : Virtual) (E : Type 0) (more : ℕ → Type 0) → AsksAlike p (with_ops p ops) (kept_parts (lifted_all is)) no_temps → takes_answer p.end ≡ false → LeadsTo p.end i.next is → AgreesBefore (with_ops p ops ∷ kept_parts (lifted_all is)) no_temps u v
    → Meets (does p u).request z i.next (λ a t. E × Onward a (does p u).state t) more
    → (s : Cpu) → Meets (does (with_ops p ops) v).request z i.next (λ a t. MatchesAfter is (kept_parts (lifted_all is)) a (does (with_ops p ops) v).state t) (λ n. (x : ℕ) → x < 2 ^ n → MatchesWithin (with_ops p ops) (kept_parts (lifted_all is)) i.at (answered p.end x (does (with_ops p ops) v).state) (having s x))
last_follows p ops i is z u v E more alike alone lead k h s =
    let rest = kept_parts (lifted_all is) in
    let q = with_ops p ops in
    let states : AgreesBefore rest no_temps (does p u).state (does q v).state =
    subst (λ (y : Virtual). AgreesBefore rest no_temps (does p u).state y) (unanswered p.end 0 (does q v).state alone)
    (subst (λ (y : Virtual). AgreesBefore rest no_temps y (answered p.end 0 (does q v).state)) (unanswered p.end 0 (does p u).state alone) (alike.again u v 0 k)) in
    subst (λ (r : Request). Meets r z i.next (λ a t. MatchesAfter is rest a (does q v).state t) (λ n. (x : ℕ) → x < 2 ^ n → MatchesWithin q rest i.at (answered p.end x (does q v).state) (having s x))) (alike.request u v k)
    (ended_meets p.end (did_all p.ops u) z i.next _ (λ a t. MatchesAfter is rest a (does q v).state t) more (λ n. (x : ℕ) → x < 2 ^ n → MatchesWithin q rest i.at (answered p.end x (does q v).state) (having s x))
    (λ a t e on o. after_matches is a (does q v).state (does p u).state t (leads p.end i.next a is lead on) states o.1)
    (λ n e same m. absurd (cc))
    h)

-- ---- an instruction of one part

-- at an address the thread wants what this instruction wants
abbrev pub WantsAt : (Cpu → Want) → Placed → Type 0
WantsAt wants i = (s : Cpu) → s.rip ≡ i.at → wants s ≡ want_of i.instr i.next s

-- these parts follow the thread through the instruction
abbrev pub Lift : Placed → List Part → Type 0
Lift i ls = (v : Virtual) (s : Cpu) → Agrees None v s → Follows i.instr i.next ls v s Onward

only_follows : (wants : Cpu → Want) (i : Placed) (is : List Placed) (p : Part) (ops : List Op) → WantsAt wants i → Lift i (p ∷ []) → AsksAlike p (with_ops p ops) (kept_parts (lifted_all is)) no_temps → takes_answer p.end ≡ false → LeadsTo p.end i.next is → PartFollows wants None i is (with_ops p ops) (kept_parts (lifted_all is))
only_follows wants i is p ops stands lift alike alone lead v s m =
    let rest = kept_parts (lifted_all is) in
    let q = with_ops p ops in
    let u = state_with s v.temps in
    let k : AgreesBefore (q ∷ rest) no_temps u v = matching_agrees (q ∷ rest) i.at None v s m in
    let h = lift u s (own_agrees s v.temps m.mid m.count m.each m.temps) in
    subst (λ (z : Want). Meets (does q v).request z i.next (λ a t. MatchesAfter is rest a (does q v).state t) (λ n. (x : ℕ) → x < 2 ^ n → MatchesWithin q rest i.at (answered p.end x (does q v).state) (having s x))) (sym (stands s m.stands))
    (last_follows p ops i is (want_of i.instr i.next s) u v _ _ alike alone lead k h s)

-- ---- an instruction of two parts

-- after the first part with its answer, the state matches within the instruction
within_matches : (p : Part) (ops : List Op) (parts : List Part) (at n x : ℕ) (v : Virtual) (s : Cpu) → AsksAlike p (with_ops p ops) parts no_temps → Matches (with_ops p ops ∷ parts) at None v s → n ≡ answer_bits p.end → x < 2 ^ n
    → Agrees (Some x) (answered p.end x (does p (state_with s v.temps)).state) (having s x) → MatchesWithin (with_ops p ops) parts at (answered p.end x (does (with_ops p ops) v).state) (having s x)
within_matches p ops parts at n x v s alike m bits below g =
    let q = with_ops p ops in
    let u = state_with s v.temps in
    let k = alike.again u v x (matching_agrees (q ∷ parts) at None v s m) in
    let own = alike.again u u x (same_agrees (q ∷ parts) u) in
    record {
      loaded = x;
      fits = subst (λ (b : ℕ). x < 2 ^ b) bits below;
      matches = record {
        stands = m.stands;
        mid = refl;
        regs = sym k.regs ∙ g.regs;
        count = m.count;
        each = m.each;
        flags = λ f l. sym (k.flags f l) ∙ ap (λ (y : Flags). flag_in y f) g.flags;
        temps = sym k.room ∙ g.temps;
      };
      before = v.temps;
      room = m.temps;
      holds = λ t e. sym (k.temps t e) ∙ own.temps t e;
    }

first_follows : (wants : Cpu → Want) (i : Placed) (is : List Placed) (p p2 : Part) (ops : List Op) (parts : List Part) → WantsAt wants i → Lift i (p ∷ p2 ∷ []) → AsksAlike p (with_ops p ops) parts no_temps → takes_answer p.end ≡ true → PartFollows wants None i is (with_ops p ops) parts
first_follows wants i is p p2 ops parts stands lift alike answer v s m =
    let q = with_ops p ops in
    let u = state_with s v.temps in
    let k : AgreesBefore (q ∷ parts) no_temps u v = matching_agrees (q ∷ parts) i.at None v s m in
    let h = lift u s (own_agrees s v.temps m.mid m.count m.each m.temps) in
    subst (λ (z : Want). Meets (does q v).request z i.next (λ a t. MatchesAfter is parts a (does q v).state t) (λ n. (x : ℕ) → x < 2 ^ n → MatchesWithin q parts i.at (answered p.end x (does q v).state) (having s x))) (sym (stands s m.stands))
    (subst (λ (r : Request). Meets r (want_of i.instr i.next s) i.next (λ a t. MatchesAfter is parts a (does q v).state t) (λ n. (x : ℕ) → x < 2 ^ n → MatchesWithin q parts i.at (answered p.end x (does q v).state) (having s x))) (alike.request u v k)
    (ended_meets p.end (did_all p.ops u) (want_of i.instr i.next s) i.next _ (λ a t. MatchesAfter is parts a (does q v).state t) _ (λ n. (x : ℕ) → x < 2 ^ n → MatchesWithin q parts i.at (answered p.end x (does q v).state) (having s x))
    (λ a t e on o. absurd (cc))
    (λ n e bits f. λ x below. within_matches p ops parts i.at n x v s alike m bits below (f x below).0)
    h))

-- a thread within an instruction, before it loaded anything
abbrev earlier : Cpu → Cpu
earlier s = record s { mid = None }

second_follows : (wants : Cpu → Want) (i : Placed) (is : List Placed) (p p2 : Part) (ops ops2 : List Op) → WantsAt wants i → Lift i (p ∷ p2 ∷ []) → AsksAlike p (with_ops p ops) (with_ops p2 ops2 ∷ kept_parts (lifted_all is)) no_temps → AsksAlike p2 (with_ops p2 ops2) (kept_parts (lifted_all is)) no_temps
    → takes_answer p.end ≡ true → takes_answer p2.end ≡ false → LeadsTo p2.end i.next is → PartFollows wants (Some (with_ops p ops)) i is (with_ops p2 ops2) (kept_parts (lifted_all is))
second_follows wants i is p p2 ops ops2 stands lift alike alike2 answer alone lead v s m =
    let rest = kept_parts (lifted_all is) in
    let q = with_ops p ops in
    let q2 = with_ops p2 ops2 in
    let u = state_with s m.before in
    let h = lift u (earlier s) (own_agrees (earlier s) m.before refl m.matches.count m.matches.each m.room) in
    let f = more_of p.end (did_all p.ops u) (want_of i.instr i.next (earlier s)) i.next _ _ answer h m.loaded m.fits in
    let u2 = answered p.end m.loaded (does p u).state in
    let here : having (earlier s) m.loaded ≡ s = ap (λ (d : Option ℕ). record s { mid = d }) (sym m.matches.mid) in
    let g : Agrees (Some m.loaded) u2 s = subst (λ (y : Cpu). Agrees (Some m.loaded) u2 y) here f.0 in
    let h2 : Follows i.instr i.next (p2 ∷ []) u2 s Onward = subst (λ (y : Cpu). Follows i.instr i.next (p2 ∷ []) u2 y Onward) here f.1 in
    let own = alike.again u u m.loaded (same_agrees (q ∷ q2 ∷ rest) u) in
    let k : AgreesBefore (q2 ∷ rest) no_temps u2 v = record {
      regs = g.regs ∙ sym m.matches.regs;
      room = g.temps ∙ sym m.matches.temps;
      temps = λ t e. own.temps t e ∙ sym (m.holds t e);
      flags = λ x l. ap (λ (y : Flags). flag_in y x) g.flags ∙ sym (m.matches.flags x l);
    } in
    subst (λ (z : Want). Meets (does q2 v).request z i.next (λ a t. MatchesAfter is rest a (does q2 v).state t) (λ n. (x : ℕ) → x < 2 ^ n → MatchesWithin q2 rest i.at (answered p2.end x (does q2 v).state) (having s x))) (sym (stands s m.matches.stands))
    (last_follows p2 ops2 i is (want_of i.instr i.next s) u2 v _ _ alike2 alone lead k h2 s)

-- ---- a block

-- An instruction has one part, or two of which the first takes an answer. The last one leads to the next instruction.
abbrev pub IsWhole : List Part → ℕ → List Placed → Type 0
IsWhole (p ∷ []) next is = (takes_answer p.end ≡ false) × LeadsTo p.end next is
IsWhole (p ∷ q ∷ []) next is = (takes_answer p.end ≡ true) × (takes_answer q.end ≡ false) × LeadsTo q.end next is
IsWhole _ next is = ⊥

-- the instructions that are left, faithfully lifted where no instruction is under way after a part
left_faithful : (wants : Cpu → Want) (i : Placed) (is : List Placed) (q : Part) (parts : List Part) → takes_answer q.end ≡ false → AreFaithful wants None is parts → AreFaithful wants (under_way q) (left_after q i is) parts
left_faithful wants i is q parts e h = subst (λ (b : Bool). AreFaithful wants (if b then Some q else None) (if b then i ∷ is else is) parts) (sym e) h

within_faithful : (wants : Cpu → Want) (i : Placed) (is : List Placed) (q : Part) (parts : List Part) → takes_answer q.end ≡ true → AreFaithful wants (Some q) (i ∷ is) parts → AreFaithful wants (under_way q) (left_after q i is) parts
within_faithful wants i is q parts e h = subst (λ (b : Bool). AreFaithful wants (if b then Some q else None) (if b then i ∷ is else is) parts) (sym e) h

instr_faithful : (wants : Cpu → Want) (i : Placed) (is : List Placed) (ls : List Part) → IsWhole ls i.next is → WantsAt wants i → Lift i ls → AreFaithful wants None is (kept_parts (lifted_all is)) → AreFaithful wants None (i ∷ is) (kept_parts (ls ++ lifted_all is))
instr_faithful wants i is [] whole stands lift h = absurd whole
instr_faithful wants i is (p ∷ []) whole stands lift h =
    let a = strip_alike (p ∷ lifted_all is) no_temps in
    (only_follows wants i is p _ stands lift a.0 whole.0 whole.1, left_faithful wants i is _ _ whole.0 h)
instr_faithful wants i is (p ∷ q ∷ []) whole stands lift h =
    let a = strip_alike (p ∷ q ∷ lifted_all is) no_temps in
    let rest = kept_parts (lifted_all is) in
    let first = with_ops p (kept_ops p.ops (live_before_end p.end (live_before_parts (q ∷ lifted_all is)))) in
    let last = with_ops q (kept_ops q.ops (live_before_end q.end (live_before_parts (lifted_all is)))) in
    let behind : AreFaithful wants (Some first) (i ∷ is) (last ∷ rest) = (second_follows wants i is p q _ _ stands lift a.0 a.1.0 whole.0 whole.1 whole.2, left_faithful wants i is last rest whole.1 h) in
    (first_follows wants i is p q _ _ stands lift a.0 whole.0, within_faithful wants i is first (last ∷ rest) whole.0 behind)
instr_faithful wants i is (p ∷ q ∷ r ∷ ls) whole stands lift h = absurd whole

-- each instruction is one that the thread wants at its address, is lifted as the thread does it, and leads to the next
abbrev pub AreRun : (Cpu → Want) → List Placed → Type 0
AreRun wants [] = Unit {0}
AreRun wants (i ∷ is) = WantsAt wants i × Lifts i.instr i.next × IsWhole (lifted i.instr i.next) i.next is × AreRun wants is

pub are_faithful : (wants : Cpu → Want) (is : List Placed) → AreRun wants is → AreFaithful wants None is (kept_parts (lifted_all is))
are_faithful wants [] h = (refl, refl)
are_faithful wants (i ∷ is) h = instr_faithful wants i is (lifted i.instr i.next) h.2 h.0 h.1 (are_faithful wants is h.3)
