-- A block without its dead puts asks for what the block asks for.
use Rattle.std.proofs.Common.{◌≡◌, ℕ, zero, suc, length, drop, Bool, true, false, not, ◌&&◌, ◌||◌, ap, sym, refl, ◌∙◌, ⊎_elim, List, [], ◌∷◌}
use Rattle.std.proofs.lemmas.Bool.{both_ways, cases_Bool, not-true}
use Rattle.std.proofs.lemmas.List.{ext_get_or}
use Rattle.std.specs.Prelude.{if◌then◌else◌, slice_index}
use Rattle.guest_state.specs.declared.virtual_state.Virtual.{Virtual}
use Rattle.ir_syntax.specs.declared.block.Part.{Part}
use Rattle.ir_syntax.specs.declared.cond.Flag.{Flag}
use Rattle.ir_syntax.specs.declared.cond.Flag.TheVariants.{Cf, Pf, Zf, Sf, Of}
use Rattle.ir_syntax.specs.declared.line.Op.{Op}
use Rattle.ir_syntax.specs.declared.line.Op.TheVariants.{Get, GetHigh, Put, PutHigh, Const, Ea, Calc, FlagOf, FlagZero, Cond, Pick, Zext, Sext, Cut}
use Rattle.ir_syntax.specs.declared.line.PartEnd.{PartEnd}
use Rattle.x86_flags.specs.declared.flags.Flags.{Flags}
use Rattle.ir_meaning.specs.Does.{did, did_all, with_flag, flags_of, flag_in}
use Rattle.ir_meaning.specs.Live.{flags_where, is_flag, op_reads, op_puts, end_reads, live_before, live_before_end, live_before_ops, live_before_parts, is_dead, kept_ops, kept_parts}
use Rattle.ir_meaning.specs.Needs.{needed_before_end, needed_before_ops, needed_before_parts}
use Rattle.dead_flags.specs.Alike.{Agrees, AsksAlike, Alike, IsSame, AsksSame, StaysSame}
use Rattle.dead_flags.proofs.AgreeLemmas.{or_kept, flag_where, did_agrees, ended_asks, ended_agrees}

-- each flag of the first set is in the second
record Within (a b : Flags) : Type 0 where
  each : (flag : Flag) → flag_in a flag ≡ true → flag_in b flag ≡ true

more : (x p m n : Bool) → (m ≡ true → n ≡ true) → (x || (p && m)) ≡ true → (x || (p && n)) ≡ true
more true p m n h e = refl
more false true m n h e = h e
more false false m n h e = absurd (cc)

before_below : (reads puts : Flag → Bool) (a b : Flags) → Within a b → Within (flags_where (λ f. reads f || (not (puts f) && flag_in a f))) (flags_where (λ f. reads f || (not (puts f) && flag_in b f)))
before_below reads puts a b h = record {
  each = λ f l. flag_where (λ g. reads g || (not (puts g) && flag_in b g)) f ∙ more (reads f) (not (puts f)) (flag_in a f) (flag_in b f) (h.each f) (sym (flag_where (λ g. reads g || (not (puts g) && flag_in a g)) f) ∙ l);
}

flag_same : (flag f : Flag) → is_flag flag f ≡ true → flag ≡ f
flag_same Cf Cf e = refl
flag_same Cf Pf e = absurd (cc)
flag_same Cf Zf e = absurd (cc)
flag_same Cf Sf e = absurd (cc)
flag_same Cf Of e = absurd (cc)
flag_same Pf Cf e = absurd (cc)
flag_same Pf Pf e = refl
flag_same Pf Zf e = absurd (cc)
flag_same Pf Sf e = absurd (cc)
flag_same Pf Of e = absurd (cc)
flag_same Zf Cf e = absurd (cc)
flag_same Zf Pf e = absurd (cc)
flag_same Zf Zf e = refl
flag_same Zf Sf e = absurd (cc)
flag_same Zf Of e = absurd (cc)
flag_same Sf Cf e = absurd (cc)
flag_same Sf Pf e = absurd (cc)
flag_same Sf Zf e = absurd (cc)
flag_same Sf Sf e = refl
flag_same Sf Of e = absurd (cc)
flag_same Of Cf e = absurd (cc)
flag_same Of Pf e = absurd (cc)
flag_same Of Zf e = absurd (cc)
flag_same Of Sf e = absurd (cc)
flag_same Of Of e = refl

dead_puts : (o : Op) (live : Flags) (f : Flag) → is_dead o live ≡ true → op_puts o f ≡ true → flag_in live f ≡ false
dead_puts (Get w t r) live f dead e = absurd (cc)
dead_puts (GetHigh t r) live f dead e = absurd (cc)
dead_puts (Put w r t) live f dead e = absurd (cc)
dead_puts (PutHigh r t) live f dead e = absurd (cc)
dead_puts (Const w t n) live f dead e = absurd (cc)
dead_puts (Ea t base index scale n) live f dead e = absurd (cc)
dead_puts (Calc family w t a b) live f dead e = absurd (cc)
dead_puts (FlagOf flag family w a b) live f dead e = sym (ap (flag_in live) (flag_same flag f e)) ∙ not-true (flag_in live flag) dead
dead_puts (FlagZero flag) live f dead e = sym (ap (flag_in live) (flag_same flag f e)) ∙ not-true (flag_in live flag) dead
dead_puts (Cond t c) live f dead e = absurd (cc)
dead_puts (Pick w t c a b) live f dead e = absurd (cc)
dead_puts (Zext from w t a) live f dead e = absurd (cc)
dead_puts (Sext from w t a) live f dead e = absurd (cc)
dead_puts (Cut from w t a) live f dead e = absurd (cc)

-- a dead put puts no live flag
dead_kept : (o : Op) (live : Flags) (f : Flag) → is_dead o live ≡ true → flag_in live f ≡ true → op_puts o f ≡ false
dead_kept o live f dead l =
    ⊎_elim (λ (e : op_puts o f ≡ true). absurd (both_ways (flag_in live f) (dead_puts o live f dead e) l)) (λ (e : op_puts o f ≡ false). e) (cases_Bool (op_puts o f))

dead_below : (o : Op) (a b : Flags) → is_dead o b ≡ true → Within a b → Within a (live_before o b)
dead_below o a b dead h = record {
  each = λ f l. flag_where (λ g. op_reads o g || (not (op_puts o g) && flag_in b g)) f ∙ or_kept (op_reads o f) (op_puts o f) (flag_in b f) (dead_kept o b f dead (h.each f l)) (h.each f l);
}

-- what is live in the stripped lines is live in the lines: reads by lines that are taken out only add to those
line_below : (dead : Bool) (o : Op) (ks : List Op) (live after : Flags) → is_dead o live ≡ dead → Within (live_before_ops ks after) live → Within (live_before_ops (if dead then ks else o ∷ ks) after) (live_before o live)
line_below true o ks live after e h = dead_below o (live_before_ops ks after) live e h
line_below false o ks live after e h = before_below (op_reads o) (op_puts o) (live_before_ops ks after) live h

ops_below : (os : List Op) (live after : Flags) → Within after live → Within (live_before_ops (kept_ops os live) after) (live_before_ops os live)
ops_below [] live after h = h
ops_below (o ∷ os) live after h = line_below (is_dead o (live_before_ops os live)) o (kept_ops os live) (live_before_ops os live) after refl (ops_below os live after h)

end_below : (end : PartEnd) (a b : Flags) → Within a b → Within (live_before_end end a) (live_before_end end b)
end_below end a b h = before_below (end_reads end) (λ _. false) a b h

parts_below : (ps : List Part) → Within (live_before_parts (kept_parts ps)) (live_before_parts ps)
parts_below [] = record { each = λ f l. l }
parts_below (p ∷ ps) = ops_below p.ops (live_before_end p.end (live_before_parts ps)) (live_before_end p.end (live_before_parts (kept_parts ps))) (end_below p.end _ _ (parts_below ps))

other_flag : (flag f : Flag) (v : Virtual) (x : Bool) → is_flag flag f ≡ false → flag_in (flags_of (with_flag v flag x)) f ≡ flag_in (flags_of v) f
other_flag Cf Cf v x e = absurd (cc)
other_flag Cf Pf v x e = refl
other_flag Cf Zf v x e = refl
other_flag Cf Sf v x e = refl
other_flag Cf Of v x e = refl
other_flag Pf Cf v x e = refl
other_flag Pf Pf v x e = absurd (cc)
other_flag Pf Zf v x e = refl
other_flag Pf Sf v x e = refl
other_flag Pf Of v x e = refl
other_flag Zf Cf v x e = refl
other_flag Zf Pf v x e = refl
other_flag Zf Zf v x e = absurd (cc)
other_flag Zf Sf v x e = refl
other_flag Zf Of v x e = refl
other_flag Sf Cf v x e = refl
other_flag Sf Pf v x e = refl
other_flag Sf Zf v x e = refl
other_flag Sf Sf v x e = absurd (cc)
other_flag Sf Of v x e = refl
other_flag Of Cf v x e = refl
other_flag Of Pf v x e = refl
other_flag Of Zf v x e = refl
other_flag Of Sf v x e = refl
other_flag Of Of v x e = absurd (cc)

-- a flag that isn't live is put on one side alone
flag_alone : (flag : Flag) (live : Flags) (need : ℕ → Bool) (v u : Virtual) (x : Bool) → ((f : Flag) → flag_in live f ≡ true → is_flag flag f ≡ false) → Agrees live need v u → Agrees live need (with_flag v flag x) u
flag_alone Cf live need v u x other a = record { regs = a.regs; room = a.room; temps = a.temps; flags = λ f l. other_flag Cf f v x (other f l) ∙ a.flags f l }
flag_alone Pf live need v u x other a = record { regs = a.regs; room = a.room; temps = a.temps; flags = λ f l. other_flag Pf f v x (other f l) ∙ a.flags f l }
flag_alone Zf live need v u x other a = record { regs = a.regs; room = a.room; temps = a.temps; flags = λ f l. other_flag Zf f v x (other f l) ∙ a.flags f l }
flag_alone Sf live need v u x other a = record { regs = a.regs; room = a.room; temps = a.temps; flags = λ f l. other_flag Sf f v x (other f l) ∙ a.flags f l }
flag_alone Of live need v u x other a = record { regs = a.regs; room = a.room; temps = a.temps; flags = λ f l. other_flag Of f v x (other f l) ∙ a.flags f l }

-- a dead put on one side alone
dead_agrees : (o : Op) (live after : Flags) (need : ℕ → Bool) (v u : Virtual) → is_dead o live ≡ true → Within after live → Agrees after need v u → Agrees after need (did o v) u
dead_agrees (Get w t r) live after need v u dead h k = absurd (cc)
dead_agrees (GetHigh t r) live after need v u dead h k = absurd (cc)
dead_agrees (Put w r t) live after need v u dead h k = absurd (cc)
dead_agrees (PutHigh r t) live after need v u dead h k = absurd (cc)
dead_agrees (Const w t n) live after need v u dead h k = absurd (cc)
dead_agrees (Ea t base index scale n) live after need v u dead h k = absurd (cc)
dead_agrees (Calc family w t a b) live after need v u dead h k = absurd (cc)
dead_agrees (FlagOf flag family w a b) live after need v u dead h k = flag_alone flag after need v u _ (λ f l. dead_kept (FlagOf flag family w a b) live f dead (h.each f l)) k
dead_agrees (FlagZero flag) live after need v u dead h k = flag_alone flag after need v u false (λ f l. dead_kept (FlagZero flag) live f dead (h.each f l)) k
dead_agrees (Cond t c) live after need v u dead h k = absurd (cc)
dead_agrees (Pick w t c a b) live after need v u dead h k = absurd (cc)
dead_agrees (Zext from w t a) live after need v u dead h k = absurd (cc)
dead_agrees (Sext from w t a) live after need v u dead h k = absurd (cc)
dead_agrees (Cut from w t a) live after need v u dead h k = absurd (cc)

-- the lines from states that agree before the stripped ones; `rest` says it of those behind a line
abbrev OpsAgree : List Op → List Op → Flags → (ℕ → Bool) → Type 0
OpsAgree os ks after need = (v u : Virtual) → Agrees (live_before_ops ks after) (needed_before_ops ks need) v u → Agrees after need (did_all os v) (did_all ks u)

line_agrees : (dead : Bool) (o : Op) (os ks : List Op) (live after : Flags) (need : ℕ → Bool) → is_dead o live ≡ dead → Within (live_before_ops ks after) live → OpsAgree os ks after need → OpsAgree (o ∷ os) (if dead then ks else o ∷ ks) after need
line_agrees true o os ks live after need e h rest v u k = rest (did o v) u (dead_agrees o live (live_before_ops ks after) (needed_before_ops ks need) v u e h k)
line_agrees false o os ks live after need e h rest v u k = rest (did o v) (did o u) (did_agrees o (live_before_ops ks after) (needed_before_ops ks need) v u k)

ops_agree : (os : List Op) (live after : Flags) (need : ℕ → Bool) → Within after live → OpsAgree os (kept_ops os live) after need
ops_agree [] live after need h = λ v u k. k
ops_agree (o ∷ os) live after need h = line_agrees (is_dead o (live_before_ops os live)) o os (kept_ops os live) (live_before_ops os live) after need refl (ops_below os live after h) (ops_agree os live after need h)

part_alike : (p : Part) (ps : List Part) (need : ℕ → Bool) → AsksAlike p (record { ops = kept_ops p.ops (live_before_end p.end (live_before_parts ps)); end = p.end }) (kept_parts ps) need
part_alike p ps need =
    let live = live_before_parts (kept_parts ps) in
    let after = needed_before_parts (kept_parts ps) need in
    let lines = ops_agree p.ops (live_before_end p.end (live_before_parts ps)) (live_before_end p.end live) (needed_before_end p.end after) (end_below p.end _ _ (parts_below ps)) in
    record {
      request = λ v u k. ended_asks p.end live after _ _ (lines v u k);
      again = λ v u x k. ended_agrees p.end live after _ _ x (lines v u k);
    }

pub strip_alike : (ps : List Part) (need : ℕ → Bool) → Alike need ps (kept_parts ps)
strip_alike [] need = tt
strip_alike (p ∷ ps) need = (part_alike p ps need, strip_alike ps need)

-- what holds of two lists of parts holds from each part on
pub alike_from : (k : ℕ) (need : ℕ → Bool) (ps qs : List Part) → Alike need ps qs → Alike need (drop k ps) (drop k qs)
alike_from zero need ps qs h = h
alike_from (suc k) need [] [] h = h
alike_from (suc k) need [] (q ∷ qs) h = absurd h
alike_from (suc k) need (p ∷ ps) [] h = absurd h
alike_from (suc k) need (p ∷ ps) (q ∷ qs) h = alike_from k need ps qs h.1

-- the parts without dead puts from a part on
pub kept_parts-drop : (k : ℕ) (ps : List Part) → kept_parts (drop k ps) ≡ drop k (kept_parts ps)
kept_parts-drop zero ps = refl
kept_parts-drop (suc k) [] = refl
kept_parts-drop (suc k) (p ∷ ps) = kept_parts-drop k ps

-- the same registers and temporaries, and the same live flags
pub agrees_whole : (live : Flags) (need : ℕ → Bool) (v u : Virtual) → v.regs ≡ u.regs → v.temps ≡ u.temps → ((flag : Flag) → flag_in live flag ≡ true → flag_in (flags_of v) flag ≡ flag_in (flags_of u) flag) → Agrees live need v u
agrees_whole live need v u regs temps flags = record {
  regs = regs;
  room = ap (λ (l : List ℕ). length l) temps;
  temps = λ t n. ap (λ (l : List ℕ). slice_index l t) temps;
  flags = flags;
}

-- where all temporaries are needed
same_in_all : (live : Flags) (v u : Virtual) → Agrees live (λ _. true) v u → IsSame live v u
same_in_all live v u a = record { regs = a.regs; temps = ext_get_or 0 v.temps u.temps a.room (λ k lt. a.temps k refl); flags = a.flags }

part_same : (p : Part) (ps : List Part) → AsksSame p (record { ops = kept_ops p.ops (live_before_end p.end (live_before_parts ps)); end = p.end }) (kept_parts ps)
part_same p ps =
    let live = live_before_parts (kept_parts ps) in
    let all : ℕ → Bool = λ _. true in
    let lines = ops_agree p.ops (live_before_end p.end (live_before_parts ps)) (live_before_end p.end live) (needed_before_end p.end all) (end_below p.end _ _ (parts_below ps)) in
    record {
      request = λ v u k. ended_asks p.end live all _ _ (lines v u (agrees_whole _ _ v u k.regs k.temps k.flags));
      again = λ v u x k. same_in_all live _ _ (ended_agrees p.end live all _ _ x (lines v u (agrees_whole _ _ v u k.regs k.temps k.flags)));
    }

pub strip_same : (ps : List Part) → StaysSame ps (kept_parts ps)
strip_same [] = tt
strip_same (p ∷ ps) = (part_same p ps, strip_same ps)
