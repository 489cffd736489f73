-- What running the parts of a block comes to.
use Rattle.std.specs.Prelude.{◌≡◌, ℕ, ◌+◌, ◌^◌, ◌<◌, ◌≤◌, ◌⊎◌, ◌==◌, nat_lt, if◌then◌else◌, List, ◌∷◌, drop, length, slice_index, Option, Some, None}
use Rattle.elf_image.specs.Layout.{ImageData}
use Rattle.guest_state.specs.declared.virtual_state.Virtual.{Virtual}
use Rattle.ir_meaning.specs.Does.{does}
use Rattle.ir_syntax.specs.declared.block.Block.{Block}
use Rattle.ir_syntax.specs.declared.block.Part.{Part}
use Rattle.ir_syntax.specs.declared.request.Request.{Request}
use Rattle.ir_syntax.specs.declared.request.Request.TheVariants as ask
use Rattle.machine_model.specs.Gated.{Stand, gated_step, gated_steps}
use Rattle.guest_parts.specs.declared.block.Step.{Step}
use Rattle.guest_parts.specs.declared.block.Step.TheVariants as step
use Rattle.guest_parts.specs.declared.block.Stop.{Stop}
use Rattle.guest_parts.specs.declared.block.Stop.TheVariants as stop
use Rattle.guest_parts.specs.Standing.{IsTyped, StandsBetween, StandsInside, end_of, places_of}

-- ---- counts

-- a count that stops at its greatest number
abbrev pub one_more : ℕ → ℕ
one_more n = if n == 18446744073709551615 then n else n + 1

-- two counts together
abbrev pub sum_of : ℕ → ℕ → ℕ
sum_of a b = if nat_lt (a + b) 18446744073709551615 then a + b else 18446744073709551615

-- a count rose by so many at least, or can't rise any more
abbrev pub Rises : ℕ → ℕ → ℕ → Type 0
Rises old new n = (old + n ≤ new) ⊎ (18446744073709551615 ≤ new)

-- ---- requests

-- where a request that asks for nothing leads, from a block
abbrev pub leads_to : Block → Request → Option ℕ
leads_to b ask.Tick = Some (end_of b)
leads_to b (ask.Go a) = Some a
leads_to b (ask.Load a w) = None
leads_to b (ask.Store a w v) = None
leads_to b (ask.StoreGo a v to) = None
leads_to b ask.Fence = None
leads_to b (ask.Locked a w c) = None
leads_to b (ask.Bad kind) = None

-- part n was run from the state v and left u, and it asks for a step that isn't private
pub record Asking (b : Block) (n : ℕ) (request : Request) (v u : Virtual) : Type 0 where
  pub part : Part
  pub rest : List Part
  pub parts : drop n b.parts ≡ part ∷ rest
  pub request_is : request ≡ (does part v).request
  pub state_is : u ≡ (does part v).state
  pub public : leads_to b request ≡ None

-- ---- one part

-- a private step leads to where the guest stands before the next part
pub record StepsOn (image : ImageData) (grown : List ℕ) (b : Block) (n last : ℕ) (u : Virtual) (d : Stand) : Type 0 where
  pub next : Stand
  pub gated : gated_step image grown d ≡ Some next
  pub stands : StandsInside image grown b (n + 1) last u next

-- a private step leads out of the block
pub record StepsOut (image : ImageData) (grown : List ℕ) (b : Block) (n to : ℕ) (u : Virtual) (d : Stand) : Type 0 where
  pub next : Stand
  pub gated : gated_step image grown d ≡ Some next
  pub stands : StandsBetween to (slice_index (places_of image b) n) u next

abbrev pub StepIs : Step → ImageData → List ℕ → Block → ℕ → ℕ → Virtual → Stand → Type 0
StepIs step.On image grown b n last u d = StepsOn image grown b n last u d
StepIs (step.Leaves to) image grown b n last u d = StepsOut image grown b n to u d
StepIs (step.Asks request) image grown b n last u d = Unit {0}

-- what doesn't depend on the thread
abbrev pub Leaves : Step → Block → ℕ → Virtual → Virtual → Type 0
Leaves step.On b n v u = (n + 1 < length b.parts) × (n + 1 < 2 ^ 64) × IsTyped (drop (n + 1) b.parts) u
Leaves (step.Leaves to) b n v u = Unit {0}
Leaves (step.Asks request) b n v u = Asking b n request v u

-- ---- several parts

-- j private steps lead to where the guest stands before part n
pub record RunsIn (image : ImageData) (grown : List ℕ) (b : Block) (n j last : ℕ) (u : Virtual) (d : Stand) : Type 0 where
  pub next : Stand
  pub gated : gated_steps image grown j d ≡ Some next
  pub stands : StandsInside image grown b n last u next

-- and out of the block, after part n
pub record RunsOut (image : ImageData) (grown : List ℕ) (b : Block) (n j to : ℕ) (u : Virtual) (d : Stand) : Type 0 where
  pub next : Stand
  pub gated : gated_steps image grown j d ≡ Some next
  pub stands : StandsBetween to (slice_index (places_of image b) n) u next

abbrev pub StopIs : Stop → ImageData → List ℕ → Block → ℕ → ℕ → ℕ → Virtual → Stand → Type 0
StopIs stop.Most image grown b n j last u d = RunsIn image grown b n j last u d
StopIs (stop.Left to) image grown b n j last u d = RunsOut image grown b n j to u d
StopIs (stop.Asks request) image grown b n j last u d = (v : Virtual) × Asking b n request v u × RunsIn image grown b n j last v d

-- how many parts were run for so many steps
abbrev pub runs_for : Stop → ℕ → ℕ
runs_for stop.Most j = j
runs_for (stop.Left to) j = j
runs_for (stop.Asks request) j = j + 1

abbrev pub StopsBelow : Stop → ℕ → ℕ → Type 0
StopsBelow stop.Most k most = k ≡ most
StopsBelow (stop.Left to) k most = k ≤ most
StopsBelow (stop.Asks request) k most = k + 1 ≤ most

-- the last part of a block is a step, too
abbrev pub GoesFurther : Stop → ℕ → ℕ → Type 0
GoesFurther stop.Most old k = Unit {0}
GoesFurther (stop.Left to) old k = old < k
GoesFurther (stop.Asks request) old k = Unit {0}

abbrev pub StaysInside : Stop → Block → ℕ → Virtual → Type 0
StaysInside stop.Most b n u = (n + 1 ≤ length b.parts) × IsTyped (drop n b.parts) u
StaysInside (stop.Left to) b n u = n + 1 ≤ length b.parts
StaysInside (stop.Asks request) b n u = n + 1 ≤ length b.parts
