-- How the parts of an instruction are seen to follow a thread.
use Rattle.std.proofs.Common.{◌≡◌, ℕ, ◌<◌, ◌^◌, arith, ap, sym, ◌∙◌, refl, subst, Bool, true, false, List, [], ◌∷◌, ◌++◌, length, Option, Some, None, length-set}
use Rattle.std.specs.Prelude.{slice_index, ◌||◌, ⊤}
use Rattle.guest_state.specs.declared.virtual_state.Virtual.{Virtual}
use Rattle.ir_meaning.specs.Does.{did_all, does, answered}
use Rattle.ir_syntax.specs.declared.block.Part.{Part}
use Rattle.ir_syntax.specs.declared.line.Op.{Op}
use Rattle.ir_syntax.specs.declared.line.PartEnd.TheVariants as ends
use Rattle.x86_forms.specs.declared.operands.Width.{Width}
use Rattle.x86_forms.specs.declared.operands.Mem.{Mem}
use Rattle.x86_forms.specs.declared.operands.Operand.{Operand}
use Rattle.x86_forms.specs.declared.operands.Operand.TheVariants as operand
use Rattle.x86_forms.specs.declared.instructions.Instr.{Instr}
use Rattle.x86_forms.specs.declared.instructions.Instr.TheVariants.{Alu, Mov, Zx, Sx, Lea, One, Mul, Imul, Div, Shift, Widen, Spread, Xchg, Set, Cmov, Jcc, Jmp, JmpTo, Nop, Pause, Endbr}
use Rattle.x86_forms.specs.Groups.{is_memory, touches_memory}
use Rattle.x86_forms.specs.Limits.{OperandFits, PlaceFits}
use Rattle.x86_forms.specs.Widths.{bits_in}
use Rattle.x86_model.specs.declared.cpu.Cpu.{Cpu}
use Rattle.x86_model.specs.declared.want.Want.{Want}
use Rattle.x86_model.specs.declared.want.Want.TheVariants as want
use Rattle.x86_model.specs.Accesses.{first_access, memory_of, memory_in}
use Rattle.x86_model.specs.Finishing.{finished}
use Rattle.x86_model.specs.Operands.{address, assigned, given}
use Rattle.x86_model.specs.Registers.{reg, put, put_high, going_to}
use Rattle.x86_model.specs.Want.{want_of, begun}
use Rattle.x86_model.specs.declared.want.BadStep.TheVariants as bad_step
use Rattle.ir_syntax.specs.declared.request.BadKind.TheVariants as bad_kind
use Rattle.ir_syntax.specs.declared.request.Request.{Request}
use Rattle.ir_syntax.specs.declared.request.Request.TheVariants as ask
use Rattle.lift_table.specs.Follow.{Agrees, Follows, Meets, Onward, Lifts, having}
use Rattle.lift_table.specs.LiftLines.{loads, puts, alone, given_at}
use Rattle.lift_table.specs.LiftTable.{lifted}
use Rattle.lift_table.proofs.LiftNumbers.{written_lt, written_high_lt, set_below}
use Rattle.lift_table.proofs.LiftWords.{virtual, after, puts_do}

-- ---- registers

-- sixteen numbers of 64 bits
pub record Numbers (regs : List ℕ) : Type 0 where
  pub count : length regs ≡ 16
  pub each : (r : ℕ) → slice_index regs r < 2 ^ 64

pub assigned_numbers : (w : Width) (o : Operand) (x : ℕ) (s : Cpu) → x < 2 ^ bits_in w → Numbers s.regs → Numbers (assigned s w o x).regs
unfolding assigned put put_high
assigned_numbers w (operand.Reg r) x s l h = record { count = length-set s.regs r _ ∙ h.count; each = set_below s.regs r _ (2 ^ 64) (written_lt w (reg s r) x (h.each r) l) h.each }
assigned_numbers w (operand.High r) x s l h = record { count = length-set s.regs r _ ∙ h.count; each = set_below s.regs r _ (2 ^ 64) (written_high_lt (reg s r) x (h.each r)) h.each }
assigned_numbers w (operand.Mem m) x s l h = h
assigned_numbers w (operand.Imm n) x s l h = h

-- a write to a register changes nothing else
pub assigned_flags : (w : Width) (o : Operand) (x : ℕ) (s : Cpu) → (assigned s w o x).flags ≡ s.flags
unfolding assigned put put_high
assigned_flags w (operand.Reg r) x s = refl
assigned_flags w (operand.High r) x s = refl
assigned_flags w (operand.Mem m) x s = refl
assigned_flags w (operand.Imm n) x s = refl

-- ---- the end of an instruction

-- the thread goes on at an address
pub onward_agrees : (temps : List ℕ) (s : Cpu) (a : ℕ) → Numbers s.regs → length temps ≡ 8 → Agrees None (virtual s.regs temps s.flags) (going_to s a)
unfolding going_to
onward_agrees temps s a h room = record { regs = refl; flags = refl; mid = refl; count = h.count; each = h.each; temps = room }

pub goes_to : (s : Cpu) (a : ℕ) → a ≡ (going_to s a).rip
unfolding going_to
goes_to s a = refl

-- a part whose lines make what a private step makes
pub tick_follows : (i : Instr) (next : ℕ) (ops : List Op) (v u : Virtual) (s t : Cpu) → did_all ops v ≡ u → want_of i next s ≡ want.Private t → next ≡ t.rip → Agrees None u t → Follows i next (alone ops ends.Tick) v s Onward
tick_follows i next ops v u s t e d r h = rw d (refl, (r, subst (λ (z : Virtual). Agrees None z t) (sym e) h))

-- the same where the step ends at the next instruction with these temporaries
pub private_follows : (i : Instr) (next : ℕ) (ops : List Op) (v : Virtual) (s t : Cpu) (temps : List ℕ) → did_all ops v ≡ virtual t.regs temps t.flags → want_of i next s ≡ want.Private (going_to t next) → Numbers t.regs → length temps ≡ 8 → Follows i next (alone ops ends.Tick) v s Onward
private_follows i next ops v s t temps e d h room = tick_follows i next ops v (virtual t.regs temps t.flags) s (going_to t next) e d (goes_to t next) (onward_agrees temps t next h room)

-- t0 has the address of an operand in memory
abbrev pub IsAt : ℕ → Cpu → List ℕ → Operand → Type 0
IsAt next s temps (operand.Mem m) = slice_index temps 0 ≡ address s next m
IsAt next s temps (operand.Reg r) = ⊤
IsAt next s temps (operand.High r) = ⊤
IsAt next s temps (operand.Imm n) = ⊤

-- an address depends on registers alone
address_regs : (next : ℕ) (m : Mem) (s t : Cpu) → s.regs ≡ t.regs → address s next m ≡ address t next m
unfolding address
address_regs next m s t e = ap (λ regs. address (record s { regs = regs }) next m) e

pub is_at_same : (next : ℕ) (s t : Cpu) (xs ys : List ℕ) (o : Operand) → s.regs ≡ t.regs → slice_index ys 0 ≡ slice_index xs 0 → IsAt next s xs o → IsAt next t ys o
is_at_same next s t xs ys (operand.Mem m) e f h = f ∙ h ∙ address_regs next m s t e
is_at_same next s t xs ys (operand.Reg r) e f h = tt
is_at_same next s t xs ys (operand.High r) e f h = tt
is_at_same next s t xs ys (operand.Imm n) e f h = tt

put_follows : (i : Instr) (next : ℕ) (w : Width) (o : Operand) (k : ℕ) (ops : List Op) (v : Virtual) (s t : Cpu) (temps : List ℕ) → did_all ops v ≡ virtual t.regs temps t.flags → slice_index temps k < 2 ^ bits_in w → OperandFits w o → want_of i next s ≡ want.Private (going_to (assigned t w o (slice_index temps k)) next) → Numbers t.regs → length temps ≡ 8 → Follows i next (alone (ops ++ puts w o k) ends.Tick) v s Onward
put_follows i next w o k ops v s t temps e l fit d h room =
    let made : did_all (ops ++ puts w o k) v ≡ virtual (assigned t w o (slice_index temps k)).regs temps (assigned t w o (slice_index temps k)).flags =
    after ops (puts w o k) v (virtual t.regs temps t.flags) e ∙ puts_do w o k temps t.flags t fit l ∙ ap (virtual (assigned t w o (slice_index temps k)).regs temps) (sym (assigned_flags w o (slice_index temps k) t)) in
    private_follows i next (ops ++ puts w o k) v s (assigned t w o (slice_index temps k)) temps made d (assigned_numbers w o (slice_index temps k) t l h) room

-- a part whose lines make a result in temporary k, which goes to an operand
pub given_follows : (i : Instr) (next : ℕ) (w : Width) (dst : Operand) (k : ℕ) (ops : List Op) (v : Virtual) (s t : Cpu) (temps : List ℕ) → did_all ops v ≡ virtual t.regs temps t.flags → slice_index temps k < 2 ^ bits_in w → PlaceFits w dst → IsAt next t temps dst → want_of i next s ≡ given t next w dst (slice_index temps k) → Numbers t.regs → length temps ≡ 8 → Follows i next (given_at ops w dst k) v s Onward
unfolding given
given_follows i next w (operand.Reg r) k ops v s t temps e l fit at d h room = put_follows i next w (operand.Reg r) k ops v s t temps e l fit.fits d h room
given_follows i next w (operand.High r) k ops v s t temps e l fit at d h room = put_follows i next w (operand.High r) k ops v s t temps e l fit.fits d h room
given_follows i next w (operand.Imm n) k ops v s t temps e l fit at d h room = let no : ⊥ = cc in absurd no
given_follows i next w (operand.Mem m) k ops v s t temps e l fit at d h room =
    let made : did_all (ops ++ []) v ≡ virtual t.regs temps t.flags = after ops [] v (virtual t.regs temps t.flags) e in
    rw (d, made) (at, refl, refl, (refl, (goes_to t next, onward_agrees temps t next h room)))

-- ---- from what agrees

abbrev pub eight : ℕ → ℕ → ℕ → ℕ → ℕ → ℕ → ℕ → ℕ → List ℕ
eight a b c d e f g h = a ∷ b ∷ c ∷ d ∷ e ∷ f ∷ g ∷ h ∷ []

eight_of : (xs : List ℕ) → length xs ≡ 8 → (P : List ℕ → Type 0) → ((a b c d e f g h : ℕ) → P (eight a b c d e f g h)) → P xs
eight_of (a ∷ b ∷ c ∷ d ∷ e ∷ f ∷ g ∷ h ∷ []) room P at = at a b c d e f g h
eight_of xs room P at = let no : ⊥ = omega arith in absurd no

-- the table's parts follow from each state with these registers and flags
abbrev pub Core : Instr → ℕ → Type 0
Core i next = (a b c d e f g h : ℕ) (s : Cpu) → s.mid ≡ None → Numbers s.regs → Follows i next (lifted i next) (virtual s.regs (eight a b c d e f g h) s.flags) s Onward

pub lifts : (i : Instr) (next : ℕ) → Core i next → Lifts i next
lifts i next core v s agrees =
    let numbers : Numbers s.regs = record { count = agrees.count; each = agrees.each } in
    let P : List ℕ → Type 0 = λ xs. Follows i next (lifted i next) (virtual s.regs xs s.flags) s Onward in
    let at : P v.temps = eight_of v.temps agrees.temps P (λ a b c d e f g h. core a b c d e f g h s agrees.mid numbers) in
    let whole : virtual s.regs v.temps s.flags ≡ v = ap (λ r. virtual r v.temps s.flags) (sym agrees.regs) ∙ ap (virtual v.regs v.temps) (sym agrees.flags) in
    let Q : Virtual → Type 0 = λ z. Follows i next (lifted i next) z s Onward in
    subst Q whole at

-- ---- the first access

no_memory : (o : Operand) → is_memory o ≡ false → memory_of o ≡ None
no_memory (operand.Reg r) e = refl
no_memory (operand.High r) e = refl
no_memory (operand.Imm n) e = refl
no_memory (operand.Mem m) e = let no : ⊥ = cc in absurd no

pub no_loads : (next : ℕ) (w : Width) (o : Operand) (t : ℕ) → is_memory o ≡ false → loads next w o t ≡ []
no_loads next w (operand.Reg r) t e = refl
no_loads next w (operand.High r) t e = refl
no_loads next w (operand.Imm n) t e = refl
no_loads next w (operand.Mem m) t e = let no : ⊥ = cc in absurd no

pub is_at_none : (next : ℕ) (s : Cpu) (temps : List ℕ) (o : Operand) → is_memory o ≡ false → IsAt next s temps o
is_at_none next s temps (operand.Reg r) e = tt
is_at_none next s temps (operand.High r) e = tt
is_at_none next s temps (operand.Imm n) e = tt
is_at_none next s temps (operand.Mem m) e = let no : ⊥ = cc in absurd no

no_either : (a b : Operand) → (is_memory a || is_memory b) ≡ false → memory_in a b ≡ None
no_either (operand.Reg r) b e = no_memory b e
no_either (operand.High r) b e = no_memory b e
no_either (operand.Imm n) b e = no_memory b e
no_either (operand.Mem m) b e = let no : ⊥ = cc in absurd no

pub left_false : (a b : Bool) → (a || b) ≡ false → a ≡ false
left_false true b e = e
left_false false b e = refl

pub right_false : (a b : Bool) → (a || b) ≡ false → b ≡ false
right_false true b e = let no : ⊥ = cc in absurd no
right_false false b e = e

-- an instruction that touches no memory asks for nothing first
no_access : (i : Instr) (next : ℕ) (s : Cpu) → touches_memory i ≡ false → first_access i next s ≡ None
unfolding first_access
no_access (Alu op w dst src) next s e = rw (no_either dst src e)
no_access (Mov w dst src) next s e = rw (no_memory src (right_false (is_memory dst) (is_memory src) e))
no_access (Zx from w dst src) next s e = rw (no_memory src e)
no_access (Sx from w dst src) next s e = rw (no_memory src e)
no_access (One op w dst) next s e = rw (no_memory dst e)
no_access (Mul signed w src) next s e = rw (no_memory src e)
no_access (Imul w dst a b) next s e = rw (no_either a b e)
no_access (Div signed w src) next s e = rw (no_memory src e)
no_access (Shift op w dst count) next s e = rw (no_memory dst e)
no_access (Xchg w a b) next s e = rw (no_memory a (left_false (is_memory a) (is_memory b) e))
no_access (Cmov cc w dst src) next s e = rw (no_memory src e)
no_access (JmpTo src) next s e = rw (no_memory src e)
no_access (Lea w dst mem) next s e = refl
no_access (Widen w) next s e = refl
no_access (Spread w) next s e = refl
no_access (Set cc dst) next s e = refl
no_access (Jcc cc rel) next s e = refl
no_access (Jmp rel) next s e = refl
no_access Nop next s e = refl
no_access Pause next s e = refl
no_access Endbr next s e = refl
no_access _ next s e = let no : ⊥ = cc in absurd no

begun_none : (m : Option ℕ) (access : Option Want) (end : Want) → m ≡ None → access ≡ None → begun m access end ≡ end
begun_none None None end e f = refl
begun_none None (Some w) end e f = let no : ⊥ = cc in absurd no
begun_none (Some v) access end e f = let no : ⊥ = cc in absurd no

begun_some : (m : Option ℕ) (x : ℕ) (access : Option Want) (end : Want) → m ≡ Some x → begun m access end ≡ end
begun_some None x access end e = let no : ⊥ = cc in absurd no
begun_some (Some v) x access end e = refl

pub quiet : (i : Instr) (next : ℕ) (s : Cpu) → touches_memory i ≡ false → s.mid ≡ None → want_of i next s ≡ finished i next s
unfolding want_of
quiet i next s e m = begun_none s.mid (first_access i next s) (finished i next s) m (no_access i next s e)

-- an instruction that has loaded what it reads ends
pub resumed : (i : Instr) (next : ℕ) (s : Cpu) (x : ℕ) → s.mid ≡ Some x → want_of i next s ≡ finished i next s
unfolding want_of
resumed i next s x m = begun_some s.mid x (first_access i next s) (finished i next s) m

-- ---- a block

meets_map : (q : Request) (w : Want) (next : ℕ) (D E : ℕ → Cpu → Type 0) (M N : ℕ → Type 0) → ((a : ℕ) (t : Cpu) → D a t → E a t) → ((n : ℕ) → M n → N n) → Meets q w next D M → Meets q w next E N
meets_map ask.Tick (want.Private s) next D E M N f g h = f next s h
meets_map (ask.Go a) (want.Private s) next D E M N f g h = f a s h
meets_map (ask.Store a w v) (want.Store at u x s) next D E M N f g h = (h.0, h.1, h.2, f next s h.3)
meets_map (ask.StoreGo a v to) (want.Store at u x s) next D E M N f g h = (h.0, h.1, h.2, f to s h.3)
meets_map ask.Fence (want.Fence s) next D E M N f g h = f next s h
meets_map (ask.Load a w) (want.Load at u) next D E M N f g h = (h.0, h.1, g (bits_in u) h.2)
meets_map (ask.Locked a w c) (want.Locked at u d) next D E M N f g h = (h.0, h.1, h.2, g (bits_in u) h.3)
meets_map (ask.Bad bad_kind.Code) (want.Bad bad_step.Code) next D E M N f g h = h
meets_map (ask.Bad bad_kind.Divide) (want.Bad bad_step.Divide) next D E M N f g h = h
meets_map _ _ next D E M N f g h = absurd h

-- what holds after an instruction may be weakened
pub follow_map : (i : Instr) (next : ℕ) (ps : List Part) (v : Virtual) (s : Cpu) (T U : ℕ → Virtual → Cpu → Type 0) → ((a : ℕ) (u : Virtual) (t : Cpu) → T a u t → U a u t) → Follows i next ps v s T → Follows i next ps v s U
follow_map i next [] v s T U f h = absurd h
follow_map i next (p ∷ ps) v s T U f h =
    meets_map (does p v).request (want_of i next s) next
    (λ a t. (ps ≡ []) × T a (does p v).state t)
    (λ a t. (ps ≡ []) × U a (does p v).state t)
    (λ n. (x : ℕ) → x < 2 ^ n → Agrees (Some x) (answered p.end x (does p v).state) (having s x) × Follows i next ps (answered p.end x (does p v).state) (having s x) T)
    (λ n. (x : ℕ) → x < 2 ^ n → Agrees (Some x) (answered p.end x (does p v).state) (having s x) × Follows i next ps (answered p.end x (does p v).state) (having s x) U)
    (λ a t e. (e.0, f a (does p v).state t e.1))
    (λ n e x l. ((e x l).0, follow_map i next ps (answered p.end x (does p v).state) (having s x) T U f (e x l).1))
    h
