-- What a part's request is to the thread with which its guest stands, and where both are after it.
use Rattle.std.specs.Prelude.{◌≡◌, ℕ, ◌+◌, ◌<◌, ◌^◌, List, length, Some}
use Rattle.elf_image.specs.Layout.{ImageData}
use Rattle.guest_state.specs.declared.virtual_state.Virtual.{Virtual}
use Rattle.ir_meaning.specs.Does.{answered, does}
use Rattle.ir_meaning.specs.Ready.{Answers}
use Rattle.ir_syntax.specs.declared.block.Block.{Block}
use Rattle.ir_syntax.specs.declared.block.Part.{Part}
use Rattle.ir_syntax.specs.declared.request.BadKind.{BadKind}
use Rattle.ir_syntax.specs.declared.request.BadKind.TheVariants as bad
use Rattle.ir_syntax.specs.declared.request.Change.{Change as IrChange}
use Rattle.ir_syntax.specs.declared.request.Request.{Request}
use Rattle.ir_syntax.specs.declared.request.Request.TheVariants as ask
use Rattle.ir_syntax.specs.declared.width.Width.{Width as IrWidth}
use Rattle.ir_syntax.specs.declared.width.Width.TheVariants.{W64}
use Rattle.x86_forms.specs.declared.operands.Width.{Width}
use Rattle.x86_forms.specs.Widths.{bits_in}
use Rattle.x86_model.specs.declared.cpu.Cpu.{Cpu}
use Rattle.x86_model.specs.declared.want.BadStep.TheVariants as step
use Rattle.x86_model.specs.declared.want.Change.{Change}
use Rattle.x86_model.specs.declared.want.Want.{Want}
use Rattle.x86_model.specs.declared.want.Want.TheVariants as wants
use Rattle.x86_model.specs.Want.{want}
use Rattle.lift_table.specs.Follow.{having, ir_change}
use Rattle.lift_table.specs.LiftLines.{ir_width}
use Rattle.machine_model.specs.Gated.{Stand, entered, gated_step, onward}
use Rattle.machine_model.specs.Step.{privately}
use Rattle.guest_parts.specs.Standing.{StandsAfter, StandsInside, end_of, has_more}

-- a step that finishes an instruction leaves this as the address of the instruction finished last
abbrev pub Finishes : ℕ → Want → Type 0
Finishes a (wants.Private x) = x.last ≡ a
Finishes a (wants.Load at w) = Unit {0}
Finishes a (wants.Store at w v x) = x.last ≡ a
Finishes a (wants.Fence x) = x.last ≡ a
Finishes a (wants.Locked at w c) = Unit {0}
Finishes a (wants.Call f) = Unit {0}
Finishes a (wants.Door d) = Unit {0}
Finishes a (wants.Bad kind) = Unit {0}

abbrev pub stand_by : Cpu → List ℕ → Stand
stand_by cpu left = record { cpu = cpu; left = left }

-- After part n both stand together again: v is what the part left of the guest.
abbrev pub StandOn : ImageData → List ℕ → Block → ℕ → ℕ → ℕ → ℕ → Virtual → Stand → Type 0
StandOn image grown b n last rip to v d = StandsAfter (has_more b n) image grown b n last rip to v d

-- nothing is asked: the part is a private step of the thread
pub record IsPrivate (image : ImageData) (grown : List ℕ) (b : Block) (n last to : ℕ) (v : Virtual) (d : Stand) : Type 0 where
  pub next : Stand
  pub private : privately (want image d.cpu) ≡ Some next.cpu
  pub gated : gated_step image grown d ≡ Some next
  pub stands : StandOn image grown b n last d.cpu.rip to v next

-- the store that the thread wants
pub record IsStore (image : ImageData) (grown : List ℕ) (b : Block) (n last to a x : ℕ) (w : IrWidth) (v : Virtual) (d : Stand) : Type 0 where
  pub width : Width
  pub is_width : w ≡ ir_width width
  pub next : Cpu
  pub left : List ℕ
  pub wants : want image d.cpu ≡ wants.Store a width x next
  pub enters : entered image grown d.cpu.rip d.left ≡ Some left
  pub stands : StandOn image grown b n last d.cpu.rip to v (stand_by next (onward next.mid left))

-- the fence that the thread wants
pub record IsFence (image : ImageData) (grown : List ℕ) (b : Block) (n last to : ℕ) (v : Virtual) (d : Stand) : Type 0 where
  pub next : Cpu
  pub left : List ℕ
  pub wants : want image d.cpu ≡ wants.Fence next
  pub enters : entered image grown d.cpu.rip d.left ≡ Some left
  pub stands : StandOn image grown b n last d.cpu.rip to v (stand_by next (onward next.mid left))

-- an answer of so many bits goes to the temporary that the part names, and both stand before the next part
pub record GoesOnWith (image : ImageData) (grown : List ℕ) (p : Part) (b : Block) (n last bits : ℕ) (left : List ℕ) (v : Virtual) (d : Stand) : Type 0 where
  pub more : n + 1 < length b.parts
  pub takes : (x : ℕ) → x < 2 ^ bits → Answers p.end x
  pub stands : (x : ℕ) → x < 2 ^ bits → StandsInside image grown b (n + 1) last (answered p.end x v) (stand_by (having d.cpu x) left)

-- the load that the thread wants
pub record IsLoad (image : ImageData) (grown : List ℕ) (p : Part) (b : Block) (n last a : ℕ) (w : IrWidth) (v : Virtual) (d : Stand) : Type 0 where
  pub width : Width
  pub is_width : w ≡ ir_width width
  pub left : List ℕ
  pub wants : want image d.cpu ≡ wants.Load a width
  pub enters : entered image grown d.cpu.rip d.left ≡ Some left
  pub on : GoesOnWith image grown p b n last (bits_in width) left v d

-- the locked access that the thread wants
pub record IsLocked (image : ImageData) (grown : List ℕ) (p : Part) (b : Block) (n last a : ℕ) (w : IrWidth) (c : IrChange) (v : Virtual) (d : Stand) : Type 0 where
  pub width : Width
  pub is_width : w ≡ ir_width width
  pub change : Change
  pub is_change : c ≡ ir_change change
  pub left : List ℕ
  pub wants : want image d.cpu ≡ wants.Locked a width change
  pub enters : entered image grown d.cpu.rip d.left ≡ Some left
  pub on : GoesOnWith image grown p b n last (bits_in width) left v d

-- the thread can't make its step
pub record IsBadCode (image : ImageData) (grown : List ℕ) (d : Stand) : Type 0 where
  pub left : List ℕ
  pub wants : want image d.cpu ≡ wants.Bad step.Code
  pub enters : entered image grown d.cpu.rip d.left ≡ Some left

pub record IsBadDivide (image : ImageData) (grown : List ℕ) (d : Stand) : Type 0 where
  pub left : List ℕ
  pub wants : want image d.cpu ≡ wants.Bad step.Divide
  pub enters : entered image grown d.cpu.rip d.left ≡ Some left

abbrev pub IsBad : BadKind → ImageData → List ℕ → Stand → Type 0
IsBad bad.Code image grown d = IsBadCode image grown d
IsBad bad.Divide image grown d = IsBadDivide image grown d
IsBad (bad.Access a) image grown d = ⊥
IsBad bad.Depth image grown d = ⊥
IsBad bad.Door image grown d = ⊥

-- a request of part n of a block is what the thread wants, where v is what the part left of the guest
abbrev pub IsWanted : Request → ImageData → List ℕ → Part → Block → ℕ → ℕ → Virtual → Stand → Type 0
IsWanted ask.Tick image grown p b n last v d = IsPrivate image grown b n last (end_of b) v d
IsWanted (ask.Go a) image grown p b n last v d = IsPrivate image grown b n last a v d
IsWanted (ask.Store a w x) image grown p b n last v d = IsStore image grown b n last (end_of b) a x w v d
IsWanted (ask.StoreGo a x to) image grown p b n last v d = IsStore image grown b n last to a x W64 v d
IsWanted ask.Fence image grown p b n last v d = IsFence image grown b n last (end_of b) v d
IsWanted (ask.Load a w) image grown p b n last v d = IsLoad image grown p b n last a w v d
IsWanted (ask.Locked a w c) image grown p b n last v d = IsLocked image grown p b n last a w c v d
IsWanted (ask.Bad kind) image grown p b n last v d = IsBad kind image grown d

-- Before part p, which is the n-th, the guest stands with its thread: the part asks for what the thread wants, and after it
-- both stand together again.
abbrev pub FollowsItsThread : ImageData → List ℕ → Block → ℕ → ℕ → Part → Virtual → Stand → Type 0
FollowsItsThread image grown b n last p v d = IsWanted (does p v).request image grown p b n last (does p v).state d
