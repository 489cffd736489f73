-- What a guest keeps of its thread, as `guest_parts` sees it.
use Rattle.std.specs.Prelude.{◌≡◌, ℕ, List, Option, ⊤}
use Rattle.elf_image.specs.Layout.{ImageData}
use Rattle.machine_model.specs.CaseData.{CaseData}
use Rattle.machine_model.specs.Gated.{Both, Stand}
use Rattle.guest_parts.specs.Standing as standing
use Rattle.guest_parts.specs.Guest.{GuestData, IsGoing, IsWith}
use Rattle.guest_steps.specs.declared.own.Own.{Own}
use Rattle.guest_steps.specs.declared.own.Position.{Position}
use Rattle.guest_steps.specs.declared.own.Position.TheVariants.{Between, Inside}
use Rattle.guest_steps.specs.Kept.{AreKept, KeptData}

abbrev pub position_of : Position → standing.Position
position_of (Between a) = standing.Between a
position_of (Inside kept part) = standing.Inside kept.block part

abbrev pub data_of : Own → GuestData
data_of own = record { state = own.state; at = position_of own.at; last = own.last; frames = own.frames.items; k = own.k; ages = own.ages }

-- a block under way is of this image
abbrev pub IsUnder : ImageData → Position → Type 0
IsUnder image (Between a) = ⊤
IsUnder image (Inside kept part) = kept.image ≡ image

-- Thread t lives, the run goes on, and the guest stands with its thread at d, some private steps past its last entry; its
-- blocks at hand are grown.
pub record Along (c : CaseData) (b : Both) (t : ℕ) (own : Own) (table : List (Option KeptData)) (d : Stand) : Type 0 where
  pub going : IsGoing b t
  pub with : IsWith c b t (data_of own) d
  pub under : IsUnder c.image own.at
  pub kept : AreKept c.image b.gate.grown table
