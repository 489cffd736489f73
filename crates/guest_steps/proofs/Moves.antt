-- A guest along its thread: it begins blocks, and makes private steps.
use Rattle.std.proofs.Common.{◌≡◌, ℕ, zero, suc, ◌+◌, ◌-◌, ◌≤◌, true, false, List, ◌∷◌, inl, inr, drop, length, Option, Some, refl, sym, subst, ap, arith, ◌∙◌}
use Rattle.std.specs.Prelude.{MatchOption, option_and_then}
use Rattle.std.proofs.lemmas.Option.{option_and_then_some}
use Rattle.address_space.specs.Slots.{slot_of}
use Rattle.elf_image.specs.Layout.{ImageData}
use Rattle.guest_state.specs.declared.virtual_state.Virtual.{Virtual}
use Rattle.ir_meaning.specs.Does.{does}
use Rattle.ir_syntax.specs.declared.block.Block.{Block}
use Rattle.ir_syntax.specs.declared.block.Part.{Part}
use Rattle.ir_syntax.specs.declared.request.BadKind.{BadKind as IrBadKind}
use Rattle.ir_syntax.specs.declared.request.BadKind.TheVariants as bad
use Rattle.ir_syntax.specs.declared.request.Request.{Request}
use Rattle.ir_syntax.specs.declared.request.Request.TheVariants as ask
use Rattle.x86_model.specs.Want.{want}
use Rattle.basic_blocks.specs.Reach.{is_among}
use Rattle.machine_model.specs.CaseData.{CaseData}
use Rattle.machine_model.specs.Gated.{Both, Stand, entered, gated_step, gated_steps, moved_on, stand_at}
use Rattle.machine_model.specs.Serial.{is_missing}
use Rattle.machine_model.specs.Step.{privately}
use Rattle.guest_parts.specs.Requests.{FollowsItsThread, IsWanted}
use Rattle.guest_parts.specs.Running.{Asking}
use Rattle.guest_parts.specs.Standing.{IsLiftedAt, StandsBetween, StandsIn, StandsInside}
use Rattle.guest_parts.proofs.Begins.{begins}
use Rattle.guest_parts.proofs.Runs.{some_part}
use Rattle.guest_parts.proofs.Turns.{not_missing}
use Rattle.guest_steps.specs.declared.own.Own.{Own}
use Rattle.guest_steps.specs.declared.own.Position.{Position}
use Rattle.guest_steps.specs.declared.own.Position.TheVariants.{Between, Inside}
use Rattle.guest_steps.specs.Kept.{AreKept, IsKept, KeptData}
use Rattle.guest_steps.specs.Own.{Along, IsUnder, position_of}
use Rattle.guest_steps.specs.Stretched.{AsksAt, Moved}

abbrev Table : Type 0
Table = List (Option KeptData)

-- ---- blocks begin

pub along_inside : (c : CaseData) (b : Both) (t : ℕ) (own : Own) (table new : Table) (d : Stand) (a : ℕ) (x : KeptData) → Along c b t own table d → own.at ≡ Between a → x.image ≡ c.image → x.block.at ≡ a → is_among b.gate.grown a ≡ true → IsLiftedAt x.image x.block.at x.block → AreKept c.image b.gate.grown new → Along c b t (record own { at = Inside x 0 }) new d
along_inside c b t own table new d a x h at same there grown lifted kept =
    let w = h.with in
    let between : StandsBetween a own.last own.state d = subst (λ (p : Position). StandsIn c.image b.gate.grown (position_of p) own.last own.state d) at w.stands in
    record {
      going = h.going;
      with = record {
        ahead = w.ahead;
        few = w.few;
        stands = begins c.image b.gate.grown x.block own.last own.state d (subst (λ i. IsLiftedAt i x.block.at x.block) same lifted) (subst (λ z. is_among b.gate.grown z ≡ true) (sym there) grown) (subst (λ z. StandsBetween z own.last own.state d) (sym there) between);
        frames = w.frames;
        ages = w.ages;
      };
      under = same;
      kept = kept;
    }

pub along_table : (c : CaseData) (b : Both) (t : ℕ) (own : Own) (table new : Table) (d : Stand) → Along c b t own table d → AreKept c.image b.gate.grown new → Along c b t own new d
along_table c b t own table new d h kept = record { going = h.going; with = h.with; under = h.under; kept = kept }

-- ---- private steps

pub steps_more : (image : ImageData) (grown : List ℕ) (k j m : ℕ) (s d e : Stand) → m ≡ k + j → gated_steps image grown k s ≡ Some d → gated_steps image grown j d ≡ Some e → gated_steps image grown m s ≡ Some e
unfolding gated_steps
steps_more image grown k zero m s d e same p q =
    let n : m ≡ k = omega arith in
    ap (λ i. gated_steps image grown i s) n ∙ p ∙ q
steps_more image grown k (suc j) m s d e same p q =
    option_and_then_some (gated_step image grown) (gated_steps image grown j d) e q (λ x r z.
    let n : m ≡ suc (k + j) = omega arith in
    ap (λ i. gated_steps image grown i s) n ∙ ap (option_and_then (gated_step image grown)) (steps_more image grown k j (k + j) s d x refl p r) ∙ z)

no_steps : (image : ImageData) (grown : List ℕ) (j : ℕ) (d : Stand) → j ≡ 0 → gated_steps image grown j d ≡ Some d
unfolding gated_steps
no_steps image grown j d e = ap (λ i. gated_steps image grown i d) e

module _ (c : CaseData) (b : Both) (t : ℕ) where
  pub stays : (own new : Own) (table left : Table) (d : Stand) → Along c b t new left d → new.k ≡ own.k → new.frames ≡ own.frames → new.ages ≡ own.ages → Moved c b t own new left d d
  stays own new table left d h k frames ages = record {
    gated = no_steps c.image b.gate.grown (new.k - own.k) d (omega (arith, k));
    along = h;
    later = omega (arith, k);
    below = inl k;
    frames = frames;
    ages = ages;
  }

  pub moves : (own new : Own) (table left : Table) (d e : Stand) (most : ℕ) → Along c b t own table d → gated_steps c.image b.gate.grown (new.k - own.k) d ≡ Some e → own.k ≤ new.k → new.k ≤ most → b.machine.steps + most ≤ c.limit → most ≤ 4096 → StandsIn c.image b.gate.grown (position_of new.at) new.last new.state e → IsUnder c.image new.at → AreKept c.image b.gate.grown left → new.frames ≡ own.frames → new.ages ≡ own.ages → Moved c b t own new left d e
  moves own new table left d e most h gated later few below small stands under kept frames ages = record {
    gated = gated;
    along = record {
      going = h.going;
      with = record {
        ahead = steps_more c.image b.gate.grown own.k (new.k - own.k) new.k (stand_at b (slot_of t)) d e (omega (arith, later)) h.with.ahead gated;
        few = omega (arith, few, small);
        stands = stands;
        frames = h.with.frames ∙ ap (λ f. f.items) (sym frames);
        ages = ap length ages ∙ h.with.ages;
      };
      under = under;
      kept = kept;
    };
    later = later;
    below = inr (omega (arith, few, below));
    frames = frames;
    ages = ages;
  }

  pub moves_on : (own mid new : Own) (table left : Table) (d e f : Stand) → Moved c b t own mid table d e → Moved c b t mid new left e f → Moved c b t own new left d f
  moves_on own mid new table left d e f h g = record {
    gated = steps_more c.image b.gate.grown (mid.k - own.k) (new.k - mid.k) (new.k - own.k) d e f (omega (arith, h.later, g.later)) h.gated g.gated;
    along = g.along;
    later = omega (arith, h.later, g.later);
    below = elim g.below [
      | inl same ↦ elim h.below [
        | inl even ↦ inl (same ∙ even)
        | inr le ↦ inr (omega (arith, le, same))
      ]
      | inr le ↦ inr le
    ];
    frames = g.frames ∙ h.frames;
    ages = g.ages ∙ h.ages;
  }

-- ---- where a thread is

-- a block under way isn't missing
entered_by_step : (image : ImageData) (grown : List ℕ) (d e : Stand) → gated_step image grown d ≡ Some e → is_missing image grown d ≡ false
entered_by_step image grown d e h = option_and_then_some (moved_on (privately (want image d.cpu))) (entered image grown d.cpu.rip d.left) e h (λ l p q. not_missing image grown d l p)

bad_there : (kind : IrBadKind) (image : ImageData) (grown : List ℕ) (p : Part) (b : Block) (n last : ℕ) (v : Virtual) (d : Stand) → IsWanted (ask.Bad kind) image grown p b n last v d → is_missing image grown d ≡ false
bad_there bad.Code image grown p b n last v d h = not_missing image grown d h.left h.enters
bad_there bad.Divide image grown p b n last v d h = not_missing image grown d h.left h.enters
bad_there (bad.Access a) image grown p b n last v d h = absurd h
bad_there bad.Depth image grown p b n last v d h = absurd h
bad_there bad.Door image grown p b n last v d h = absurd h

pub wanted_there : (r : Request) (image : ImageData) (grown : List ℕ) (p : Part) (b : Block) (n last : ℕ) (v : Virtual) (d : Stand) → IsWanted r image grown p b n last v d → is_missing image grown d ≡ false
wanted_there ask.Tick image grown p b n last v d h = entered_by_step image grown d h.next h.gated
wanted_there (ask.Go a) image grown p b n last v d h = entered_by_step image grown d h.next h.gated
wanted_there (ask.Store a w x) image grown p b n last v d h = not_missing image grown d h.left h.enters
wanted_there (ask.StoreGo a x to) image grown p b n last v d h = not_missing image grown d h.left h.enters
wanted_there ask.Fence image grown p b n last v d h = not_missing image grown d h.left h.enters
wanted_there (ask.Load a w) image grown p b n last v d h = not_missing image grown d h.left h.enters
wanted_there (ask.Locked a w c) image grown p b n last v d h = not_missing image grown d h.left h.enters
wanted_there (ask.Bad kind) image grown p b n last v d h = bad_there kind image grown p b n last v d h

-- what `parts_follow_their_thread` tells of parts
abbrev pub PartsFollow : Type 0
PartsFollow = (image : ImageData) (grown : List ℕ) (b : Block) (n last : ℕ) (p : Part) (ps : List Part) (v : Virtual) (d : Stand) → StandsInside image grown b n last v d → drop n b.parts ≡ p ∷ ps → FollowsItsThread image grown b n last p v d

pub inside_there : (image : ImageData) (grown : List ℕ) (b : Block) (n last : ℕ) (v : Virtual) (d : Stand) → PartsFollow → StandsInside image grown b n last v d → is_missing image grown d ≡ false
inside_there image grown b n last v d follow h =
    let s = some_part b.parts n h.inside in
    wanted_there (does s.0 v).request image grown s.0 b n last (does s.0 v).state d (follow image grown b n last s.0 s.1 v d h s.2)

-- a part that was run asks for what the thread wants
pub asks_for : (c : CaseData) (b : Both) (own : Own) (x : KeptData) (n : ℕ) (r : Request) (v : Virtual) (e : Stand) → PartsFollow → own.at ≡ Inside x n → StandsInside c.image b.gate.grown x.block n own.last v e → Asking x.block n r v own.state → AsksAt c b own r e
asks_for c b own x n r v e follow at stands h =
    let w = follow c.image b.gate.grown x.block n own.last h.part h.rest v e stands h.parts in
    record {
      kept = x;
      part = n;
      at = at;
      piece = h.part;
      rest = h.rest;
      there = h.parts;
      wanted = subst (λ q. IsWanted q c.image b.gate.grown h.part x.block n own.last own.state e) (sym h.request_is) (subst (λ u. IsWanted (does h.part v).request c.image b.gate.grown h.part x.block n own.last u e) (sym h.state_is) w);
      public = h.public;
    }

-- ---- a guest in a block

pub stands_inside : (c : CaseData) (b : Both) (t : ℕ) (own : Own) (table : Table) (d : Stand) (x : KeptData) (n : ℕ) → Along c b t own table d → own.at ≡ Inside x n → StandsInside c.image b.gate.grown x.block n own.last own.state d
stands_inside c b t own table d x n h at = subst (λ (p : Position). StandsIn c.image b.gate.grown (position_of p) own.last own.state d) at h.with.stands

pub is_under : (c : CaseData) (b : Both) (t : ℕ) (own : Own) (table : Table) (d : Stand) (x : KeptData) (n : ℕ) → Along c b t own table d → own.at ≡ Inside x n → x.image ≡ c.image
is_under c b t own table d x n h at = subst (IsUnder c.image) at h.under

pub is_kept : (c : CaseData) (b : Both) (t : ℕ) (own : Own) (table : Table) (d : Stand) (x : KeptData) (n : ℕ) → Along c b t own table d → own.at ≡ Inside x n → IsKept c.image b.gate.grown x
is_kept c b t own table d x n h at = record { same = is_under c b t own table d x n h at; there = (stands_inside c b t own table d x n h at).grown_place }

pub match_some : {A : Type 0} (o : Option A) (x : A) (P : Type 0) (Q : A → Type 0) → o ≡ Some x → MatchOption o P Q → Q x
match_some o x P Q e h = subst (λ z. MatchOption z P Q) e h
