-- When the parts of a block do what its instructions do: from every state that matches a thread, also within an
-- instruction, each part asks for what the thread wants, and the results match again.
use Rattle.std.specs.Prelude.{◌≡◌, ℕ, ◌<◌, ◌^◌, Bool, true, false, if◌then◌else◌, List, [], ◌∷◌, ◌++◌, length, slice_index, Option, Some, None}
use Rattle.guest_state.specs.declared.virtual_state.Virtual.{Virtual}
use Rattle.ir_meaning.specs.Does.{does, answered, flags_of, flag_in}
use Rattle.ir_meaning.specs.Live.{live_before_parts, kept_parts}
use Rattle.ir_meaning.specs.Needs.{needed_before_parts}
use Rattle.ir_syntax.specs.declared.block.Part.{Part}
use Rattle.ir_syntax.specs.declared.cond.Flag.{Flag}
use Rattle.ir_syntax.specs.declared.line.PartEnd.{PartEnd}
use Rattle.ir_syntax.specs.declared.line.PartEnd.TheVariants as ends
use Rattle.ir_syntax.specs.Width.{bits_of}
use Rattle.x86_model.specs.declared.cpu.Cpu.{Cpu}
use Rattle.x86_model.specs.declared.want.Want.{Want}
use Rattle.basic_blocks.specs.Placed.{Placed}
use Rattle.lift_table.specs.LiftLines.{alone}
use Rattle.lift_table.specs.LiftTable.{lifted}
use Rattle.lift_table.specs.Follow.{Meets, Onward, having}

-- ---- the parts of a block

-- the table's parts of instructions, one after another
abbrev pub lifted_all : List Placed → List Part
lifted_all [] = []
lifted_all (p ∷ ps) = lifted p.instr p.next ++ lifted_all ps

-- the dead puts of a flag are taken out; where no instruction stands, the one part says so
abbrev pub block_parts : List Placed → List Part
block_parts [] = alone [] ends.BadCode
block_parts (p ∷ ps) = kept_parts (lifted_all (p ∷ ps))

-- ---- matching states

-- nothing is read after a block
abbrev pub no_temps : ℕ → Bool
no_temps t = false

-- Before these last parts of a block, the thread stands at this address and has loaded this, or nothing. The virtual
-- registers are its registers, and its flags as far as they are live there.
pub record Matches (parts : List Part) (at : ℕ) (loaded : Option ℕ) (v : Virtual) (s : Cpu) : Type 0 where
  pub stands : s.rip ≡ at
  pub mid : s.mid ≡ loaded
  pub regs : v.regs ≡ s.regs
  pub count : length s.regs ≡ 16
  pub each : (r : ℕ) → slice_index s.regs r < 2 ^ 64
  pub flags : (flag : Flag) → flag_in (live_before_parts parts) flag ≡ true → flag_in (flags_of v) flag ≡ flag_in s.flags flag
  pub temps : length v.temps ≡ 8

-- how many bits the answer to an end line has
abbrev pub answer_bits : PartEnd → ℕ
answer_bits (ends.Load w t a) = bits_of w
answer_bits (ends.Locked kind w t a b) = bits_of w
answer_bits (ends.LockedCmpxchg w t a c b) = bits_of w
answer_bits _ = 0

-- whether a part that ends so leaves its instruction under way
abbrev pub takes_answer : PartEnd → Bool
takes_answer (ends.Load w t a) = true
takes_answer (ends.Locked kind w t a b) = true
takes_answer (ends.LockedCmpxchg w t a c b) = true
takes_answer _ = false

-- a thread's registers and flags, with these temporaries
abbrev pub state_with : Cpu → List ℕ → Virtual
state_with s temps = record { regs = s.regs; temps = temps; cf = s.flags.cf; pf = s.flags.pf; zf = s.flags.zf; sf = s.flags.sf; of = s.flags.of }

-- what a part leaves in the temporaries from a thread's registers and flags, with its answer
abbrev pub left_by : Part → Cpu → List ℕ → ℕ → List ℕ
left_by p s temps x = (answered p.end x (does p (state_with s temps)).state).temps

-- Within an instruction, before its last part: the thread has loaded the answer to the first one, and the temporaries
-- that are needed from here on hold what the first one puts there, whatever temporaries were there before it.
pub record MatchesWithin (first : Part) (parts : List Part) (at : ℕ) (v : Virtual) (s : Cpu) : Type 0 where
  pub loaded : ℕ
  pub fits : loaded < 2 ^ answer_bits first.end
  pub matches : Matches parts at (Some loaded) v s
  pub before : List ℕ
  pub room : length before ≡ 8
  pub holds : (t : ℕ) → needed_before_parts parts no_temps t ≡ true → slice_index v.temps t ≡ slice_index (left_by first s before loaded) t

-- before an instruction, or within one whose first part is known
abbrev pub MatchesAt : Option Part → List Part → ℕ → Virtual → Cpu → Type 0
MatchesAt None parts at v s = Matches parts at None v s
MatchesAt (Some first) parts at v s = MatchesWithin first parts at v s

-- After an instruction the block goes on at this address: it is that of the next instruction, before which they match, or,
-- after the last one, the next place, and they agree in all registers and flags.
abbrev pub MatchesAfter : List Placed → List Part → ℕ → Virtual → Cpu → Type 0
MatchesAfter [] parts a v s = Onward a v s
MatchesAfter (i ∷ is) parts a v s = (a ≡ i.at) × Matches parts i.at None v s

-- ---- faithful parts

-- From all states that match before it, a part of an instruction asks for what the thread wants, and with every answer the
-- results match before the part or the instruction that comes next.
abbrev pub PartFollows : (Cpu → Want) → Option Part → Placed → List Placed → Part → List Part → Type 0
PartFollows wants under i is p ps =
    (v : Virtual) (s : Cpu) → MatchesAt under (p ∷ ps) i.at v s → Meets (does p v).request (wants s) i.next
    (λ a t. MatchesAfter is ps a (does p v).state t)
    (λ n. (x : ℕ) → x < 2 ^ n → MatchesWithin p ps i.at (answered p.end x (does p v).state) (having s x))

-- the part whose instruction is under way after it, if there is one
abbrev pub under_way : Part → Option Part
under_way p = if takes_answer p.end then Some p else None

-- the instructions that are left after a part of the first of them
abbrev pub left_after : Part → Placed → List Placed → List Placed
left_after p i is = if takes_answer p.end then i ∷ is else is

-- The parts belong in order to these instructions and follow a thread that wants this, where the first instruction may
-- be under way.
abbrev pub AreFaithful : (Cpu → Want) → Option Part → List Placed → List Part → Type 0
AreFaithful wants under is [] = (under ≡ None) × (is ≡ [])
AreFaithful wants under [] (p ∷ ps) = ⊥
AreFaithful wants under (i ∷ is) (p ∷ ps) = PartFollows wants under i is p ps × AreFaithful wants (under_way p) (left_after p i is) ps
