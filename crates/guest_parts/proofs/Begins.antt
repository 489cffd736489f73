-- A guest begins a block.
use Rattle.std.proofs.Common.{◌≡◌, ℕ, true, List, [], ◌∷◌, None, refl, sym, ap, ◌∙◌, subst}
use Rattle.elf_image.specs.Layout.{ImageData}
use Rattle.guest_state.specs.declared.virtual_state.Virtual.{Virtual}
use Rattle.ir_meaning.specs.Does.{flag_in}
use Rattle.ir_syntax.specs.declared.block.Block.{Block}
use Rattle.ir_syntax.specs.declared.block.Part.{Part}
use Rattle.x86_model.specs.declared.cpu.Cpu.{Cpu}
use Rattle.basic_blocks.specs.Placed.{Placed}
use Rattle.basic_blocks.specs.Reach.{is_among}
use Rattle.basic_blocks.specs.Span.{block_at}
use Rattle.lift_table.specs.Block.{MatchesThere, StandsAt, place_in}
use Rattle.lift_table.specs.Faithful.{Matches}
use Rattle.lift_table.specs.Follow.{Onward}
use Rattle.machine_model.specs.Gated.{Stand}
use Rattle.guest_parts.specs.Standing.{IsLiftedAt, StandsBetween, StandsInside, last_in}
use Rattle.guest_parts.proofs.Places.{first_at}
use Rattle.guest_parts.proofs.Typing.{block_typed}

matches : (parts : List Part) (a : ℕ) (v : Virtual) (s : Cpu) → Onward a v s → Matches parts a None v s
matches parts a v s h = record {
  stands = sym h.0;
  mid = h.1.mid;
  regs = h.1.regs;
  count = h.1.count;
  each = h.1.each;
  flags = λ flag live. ap (λ x. flag_in x flag) h.1.flags;
  temps = h.1.temps;
}

matches_by : (b : Block) (v : Virtual) (s : Cpu) (is : List Placed) → ((i : Placed) (js : List Placed) → is ≡ i ∷ js → i.at ≡ b.at) → Onward b.at v s → MatchesThere b.at None is b.parts v s
matches_by b v s [] first h = matches b.parts b.at v s h
matches_by b v s (i ∷ is) first h = subst (λ a. Matches b.parts a None v s) (sym (first i is refl)) (matches b.parts b.at v s h)

stands : (image : ImageData) (b : Block) (v : Virtual) (s : Cpu) → Onward b.at v s → StandsAt image b 0 v s
unfolding place_in
stands image b v s h = matches_by b v s (block_at image b.at) (λ i js e. first_at image 63 b.at i js e) h

first_last : (last : ℕ) (is : List Placed) (parts : List Part) → last_in last is parts 0 ≡ last
unfolding last_in
first_last last is parts = refl

pub begins : (image : ImageData) (grown : List ℕ) (b : Block) (last : ℕ) (v : Virtual) (d : Stand) → IsLiftedAt image b.at b → is_among grown b.at ≡ true → StandsBetween b.at last v d → StandsInside image grown b 0 last v d
begins image grown b last v d lifted there h = record {
  inside = lifted.typed.0;
  lifted = lifted;
  grown_place = there;
  matches = stands image b v d.cpu h.agrees;
  left = h.left;
  finished = h.finished ∙ sym (first_last last (block_at image b.at) b.parts);
  typed = block_typed b v lifted.typed;
}
