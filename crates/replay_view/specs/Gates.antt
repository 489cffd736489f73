-- What the walker keeps of where threads stand in their blocks.
use Rattle.std.specs.Prelude.{ℕ, List, [], ◌∷◌, map, Option, Some, None, ⊤}
use Rattle.elf_image.specs.Layout.{ImageData}
use Rattle.journal_pack.specs.declared.entry.Entry.{Entry}
use Rattle.journal_pack.specs.declared.entry.Entry.TheVariants.{Ev, Tick, Flush, Wait, Miss, Grow, Over, Full, Dead}
use Rattle.basic_blocks.specs.Reach.{IsReach}
use Rattle.basic_blocks.specs.Span.{block_up_to}
use Rattle.machine_model.specs.Gated.{Gate, Latest, Other, Missed, Growing, Spot, Stand, onward, spot_with}
use Rattle.replay_view.specs.declared.rest.Rest.{Rest}
use Rattle.replay_view.specs.declared.gate.Lately.{Lately}
use Rattle.replay_view.specs.declared.gate.Lately.TheVariants as kept
use Rattle.replay_view.specs.declared.gate.Position.{Position}
use Rattle.replay_view.specs.declared.gate.Stand.{Stand as KeptStand}
use Rattle.replay_view.specs.declared.gate.Gate.{Gate as KeptGate}
use Rattle.replay_view.specs.declared.reached.Reach.{Reach}

-- the addresses of at most so many instructions from an address on, up to the end of a block
abbrev pub addresses_from : ImageData → ℕ → ℕ → List ℕ
addresses_from image room a = map (λ p. p.at) (block_up_to image room a)

-- the addresses that are left of a block, as they are kept
abbrev pub left_of : ImageData → Rest → List ℕ
left_of image rest = addresses_from image rest.room rest.at

-- what a thread's entries were lately, as it is kept
abbrev pub latest_of : Lately → Latest
latest_of kept.Other = Other
latest_of (kept.Missed target) = Missed target
latest_of (kept.Growing target) = Growing target

-- a thread's position, what it works on in its block, and the whole gate, as they are kept
abbrev pub position_of : ImageData → Position → Spot
position_of image p = record { left = left_of image p.rest; latest = latest_of p.latest }

abbrev pub stand_of : ImageData → KeptStand → Stand
stand_of image s = record { cpu = s.cpu; left = left_of image s.rest }

abbrev pub gate_of : ImageData → KeptGate → Gate
gate_of image g = record { grown = g.grown; spots = map (position_of image) g.spots.items }

-- what an event leaves of a position where an instruction was begun, once that has loaded this or is finished
abbrev pub settled : Entry → Option ℕ → Spot → Spot
settled (Ev t k) mid spot = spot_with (onward mid spot.left) spot.latest
settled (Tick t k) mid spot = spot
settled (Flush t) mid spot = spot
settled (Wait t k) mid spot = spot
settled (Miss t k source target) mid spot = spot
settled (Grow t a) mid spot = spot
settled (Over t k) mid spot = spot
settled (Full t) mid spot = spot
settled Dead mid spot = spot

-- with the place of a growth, if there is one
abbrev pub with_grown : Option ℕ → List ℕ → List ℕ
with_grown None grown = grown
with_grown (Some a) grown = a ∷ grown

-- the reach that is kept, if one is
abbrev pub KeepsReach : ImageData → Option Reach → Type 0
KeepsReach image None = ⊤
KeepsReach image (Some kept) = IsReach image (kept.root ∷ []) kept.places.items
