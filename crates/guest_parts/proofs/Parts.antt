-- A part of a faithful block is what its thread wants.
use Rattle.std.proofs.Common.{◌≡◌, ℕ, zero, suc, ◌+◌, ◌%◌, ◌^◌, ◌<◌, ◌≤◌, Bool, true, false, cond, List, [], ◌∷◌, Option, Some, None, refl, sym, ap, ◌∙◌, subst, arith, length, drop, ◌==◌}
use Rattle.std.proofs.lemmas.Bool.Decides.{nat_tests}
use Rattle.std.specs.Prelude.{option_and_then, slice_index}
use Rattle.elf_image.specs.Layout.{ImageData}
use Rattle.guest_state.specs.declared.virtual_state.Virtual.{Virtual}
use Rattle.ir_meaning.specs.Does.{answered, divided, does, did_all, ended, quotient_of}
use Rattle.ir_meaning.specs.Ready.{Answers}
use Rattle.ir_syntax.specs.declared.block.Block.{Block}
use Rattle.ir_syntax.specs.declared.block.Part.{Part}
use Rattle.ir_syntax.specs.declared.line.PartEnd.{PartEnd}
use Rattle.ir_syntax.specs.declared.line.PartEnd.TheVariants.{Tick, Load, Store, StoreGo, Fence, Locked, LockedCmpxchg, Divide, Go, Branch, BadCode}
use Rattle.ir_syntax.specs.declared.request.BadKind.TheVariants as bad
use Rattle.ir_syntax.specs.declared.request.Request.{Request}
use Rattle.ir_syntax.specs.declared.request.Request.TheVariants as ask
use Rattle.ir_syntax.specs.Width.{bits_of}
use Rattle.x86_forms.specs.Widths.{bits_in}
use Rattle.x86_model.specs.declared.cpu.Cpu.{Cpu}
use Rattle.x86_model.specs.declared.want.BadStep.TheVariants as bad_step
use Rattle.x86_model.specs.declared.want.Want.{Want}
use Rattle.x86_model.specs.declared.want.Want.TheVariants as wants
use Rattle.x86_model.specs.Want.{running, want}
use Rattle.basic_blocks.specs.Bytes.{bytes_of}
use Rattle.basic_blocks.specs.Onward.{GoesOnAfterItsBytes, next_after}
use Rattle.basic_blocks.specs.Placed.{Placed}
use Rattle.basic_blocks.specs.Places.{instr_at, is_code_place}
use Rattle.basic_blocks.specs.Reach.{is_among}
use Rattle.basic_blocks.specs.Span.{block_at, span}
use Rattle.lift_table.specs.Block.{IsFaithfulTo, MatchesThere, left_of, place_in}
use Rattle.lift_table.specs.Faithful.{AreFaithful, MatchesAfter, MatchesAt, MatchesWithin, answer_bits, left_after, takes_answer, under_way}
use Rattle.lift_table.specs.Follow.{Meets, having}
use Rattle.lift_table.specs.LiftLines.{alone, ir_width}
use Rattle.lift_table.proofs.LiftWords.{same_bits}
use Rattle.machine_model.specs.Gated.{Stand, between_blocks, entered, gated_step, moved_on, onward, rest_of, within_block}
use Rattle.machine_model.specs.InBlocks.{addresses}
use Rattle.machine_model.specs.Step.{privately}
use Rattle.machine_model.proofs.Finishing.{want_code}
use Rattle.guest_parts.specs.Standing.{IsTyped, StandsAfter, StandsInside, end_of, has_more, last_after, last_before, left_before}
use Rattle.guest_parts.specs.Requests.{Finishes, FollowsItsThread, GoesOnWith, IsWanted, StandOn, stand_by}
use Rattle.guest_parts.proofs.Finish.{want_last}
use Rattle.guest_parts.proofs.Places.{AreCode, block_code, code_at, faithful_at, first_at, further, last_next, left_length, next_place, next_same, nil_cons, no_instr, none_left}
use Rattle.guest_parts.proofs.Typing.{part_takes, typed_answered, typed_on}

-- ---- requests and answers

-- a request that takes an answer
abbrev pub asks : Request → Bool
asks ask.Tick = false
asks (ask.Load a w) = true
asks (ask.Store a w v) = false
asks (ask.StoreGo a v to) = false
asks ask.Fence = false
asks (ask.Locked a w c) = true
asks (ask.Go a) = false
asks (ask.Bad kind) = false

divided_asks : (signed : Bool) (w : _) (v : Virtual) (q : Option (ℕ × ℕ)) → asks (divided w v q).request ≡ false
divided_asks signed w v None = refl
divided_asks signed w v (Some q) = refl

pub ended_asks : (end : PartEnd) (v : Virtual) → asks (ended end v).request ≡ takes_answer end
ended_asks Tick v = refl
ended_asks (Load w t a) v = refl
ended_asks (Store w a t) v = refl
ended_asks (StoreGo a t to) v = refl
ended_asks Fence v = refl
ended_asks (Locked kind w t a s) v = refl
ended_asks (LockedCmpxchg w t a c s) v = refl
ended_asks (Divide signed w t) v = divided_asks signed w v (quotient_of signed w v (slice_index v.temps t))
ended_asks (Go to) v = refl
ended_asks (Branch c taken other) v = refl
ended_asks BadCode v = refl

-- the width of a request that takes an answer is that of the answer
abbrev IsAsOf : Request → ℕ → Type 0
IsAsOf ask.Tick n = Unit {0}
IsAsOf (ask.Load a w) n = bits_of w ≡ n
IsAsOf (ask.Store a w v) n = Unit {0}
IsAsOf (ask.StoreGo a v to) n = Unit {0}
IsAsOf ask.Fence n = Unit {0}
IsAsOf (ask.Locked a w c) n = bits_of w ≡ n
IsAsOf (ask.Go a) n = Unit {0}
IsAsOf (ask.Bad kind) n = Unit {0}

divided_as : (w : _) (v : Virtual) (q : Option (ℕ × ℕ)) (n : ℕ) → IsAsOf (divided w v q).request n
divided_as w v None n = tt
divided_as w v (Some q) n = tt

ended_as : (end : PartEnd) (v : Virtual) → IsAsOf (ended end v).request (answer_bits end)
ended_as Tick v = tt
ended_as (Load w t a) v = refl
ended_as (Store w a t) v = tt
ended_as (StoreGo a t to) v = tt
ended_as Fence v = tt
ended_as (Locked kind w t a s) v = refl
ended_as (LockedCmpxchg w t a c s) v = refl
ended_as (Divide signed w t) v = divided_as w v _ _
ended_as (Go to) v = tt
ended_as (Branch c taken other) v = tt
ended_as BadCode v = tt

-- ---- the gate

within_first : (image : ImageData) (grown : List ℕ) (rip : ℕ) → is_among grown rip ≡ true → within_block image grown rip [] ≡ Some (span image rip)
within_first image grown rip e = ap (λ x. cond x (Some (span image rip)) None) e

within_next : (image : ImageData) (grown : List ℕ) (rip x : ℕ) (xs : List ℕ) → rip ≡ x → within_block image grown rip (x ∷ xs) ≡ Some (x ∷ xs)
within_next image grown rip x xs e = let same : (x == rip) ≡ true = grind (arith, nat_tests) in ap (λ b. cond b (Some (x ∷ xs)) None) same

at_code : (image : ImageData) (grown : List ℕ) (rip : ℕ) (left l : List ℕ) → is_code_place image rip ≡ true → within_block image grown rip left ≡ Some l → entered image grown rip left ≡ Some l
at_code image grown rip left l code e = ap (λ b. cond b (within_block image grown rip left) (between_blocks left)) code ∙ e

onward_on : (mid : Option ℕ) (left : List ℕ) → mid ≡ None → onward mid left ≡ rest_of left
onward_on mid left e = ap (λ x. onward x left) e

-- ---- where a guest is in a block

-- Before part p of a block, with the parts ps after it: the instruction i is under way or comes next.
pub record Here (image : ImageData) (b : Block) (n : ℕ) (p : Part) (ps : List Part) (v : Virtual) (s : Cpu) : Type 0 where
  pub under : Option Part
  pub instr : Placed
  pub rest : List Placed
  pub place : place_in None (block_at image b.at) b.parts n ≡ (under, instr ∷ rest)
  pub parts : drop n b.parts ≡ p ∷ ps
  pub faithful : AreFaithful (want image) under (instr ∷ rest) (p ∷ ps)
  pub matches : MatchesAt under (p ∷ ps) instr.at v s
  pub bytes : b.code ≡ bytes_of image (block_at image b.at)

here_by : (image : ImageData) (b : Block) (n : ℕ) (p : Part) (ps : List Part) (v : Virtual) (s : Cpu) (under : Option Part) (is : List Placed) → place_in None (block_at image b.at) b.parts n ≡ (under, is) → drop n b.parts ≡ p ∷ ps → AreFaithful (want image) under is (p ∷ ps) → MatchesThere b.at under is (p ∷ ps) v s → b.code ≡ bytes_of image (block_at image b.at) → Here image b n p ps v s
here_by image b n p ps v s under [] e q f m c = absurd f
here_by image b n p ps v s under (i ∷ is) e q f m c = record { under = under; instr = i; rest = is; place = e; parts = q; faithful = f; matches = m; bytes = c }

pub here_at : (image : ImageData) (b : Block) (n : ℕ) (p : Part) (ps : List Part) (v : Virtual) (s : Cpu) (i : Placed) (is : List Placed) → block_at image b.at ≡ i ∷ is → IsFaithfulTo image b (block_at image b.at) → drop n b.parts ≡ p ∷ ps → MatchesThere b.at (place_in None (block_at image b.at) b.parts n).0 (place_in None (block_at image b.at) b.parts n).1 (drop n b.parts) v s → Here image b n p ps v s
here_at image b n p ps v s i is e f q m =
    let there = place_in None (block_at image b.at) b.parts n in
    let g : IsFaithfulTo image b (i ∷ is) = subst (IsFaithfulTo image b) e f in
    let all : AreFaithful (want image) None (block_at image b.at) b.parts = subst (λ x. AreFaithful (want image) None x b.parts) (sym e) g.1 in
    let left = subst (λ x. AreFaithful (want image) there.0 there.1 x) q (faithful_at (want image) None (block_at image b.at) b.parts n all) in
    here_by image b n p ps v s there.0 there.1 refl q left (subst (λ x. MatchesThere b.at there.0 there.1 x v s) q m) (g.0 ∙ ap (bytes_of image) (sym e))

pub stands_at : (under : Option Part) (parts : List Part) (at : ℕ) (v : Virtual) (s : Cpu) → MatchesAt under parts at v s → s.rip ≡ at
stands_at None parts at v s m = m.stands
stands_at (Some first) parts at v s m = m.matches.stands

module _ (image : ImageData) (grown : List ℕ) (b : Block) (last : ℕ) (v : Virtual) (d : Stand) where
  left_now : (n : ℕ) (i : Placed) (is : List Placed) → (place_in None (block_at image b.at) b.parts n).1 ≡ i ∷ is → StandsInside image grown b n last v d → d.cpu.rip ≡ i.at → entered image grown d.cpu.rip d.left ≡ Some (addresses (i ∷ is))
  unfolding place_in
  left_now zero i is e h at =
      let begins : i.at ≡ b.at = first_at image 63 b.at i is e in
      let here : d.cpu.rip ≡ b.at = at ∙ begins in
      let code : is_code_place image d.cpu.rip ≡ true = ap (is_code_place image) here ∙ h.lifted.place in
      let grown_here : is_among grown d.cpu.rip ≡ true = ap (is_among grown) here ∙ h.grown_place in
      let whole : span image d.cpu.rip ≡ addresses (i ∷ is) = ap (span image) here ∙ ap addresses e in
      ap (entered image grown d.cpu.rip) h.left ∙ at_code image grown d.cpu.rip [] _ code (within_first image grown d.cpu.rip grown_here) ∙ ap (λ l. Some l) whole
  left_now (suc n) i is e h at =
      let codes = subst (AreCode image) e (code_at image None (block_at image b.at) b.parts (suc n) (block_code image 64 b.at)) in
      let code : is_code_place image d.cpu.rip ≡ true = ap (is_code_place image) at ∙ codes.0 in
      ap (entered image grown d.cpu.rip) (h.left ∙ ap addresses e) ∙ at_code image grown d.cpu.rip (i.at ∷ addresses is) _ code (within_next image grown d.cpu.rip i.at (addresses is) at)

  code_now : (n : ℕ) (i : Placed) (is : List Placed) → (place_in None (block_at image b.at) b.parts n).1 ≡ i ∷ is → d.cpu.rip ≡ i.at → is_code_place image d.cpu.rip ≡ true
  code_now n i is e at =
      let codes = subst (AreCode image) e (code_at image None (block_at image b.at) b.parts n (block_code image 64 b.at)) in
      ap (is_code_place image) at ∙ codes.0

-- ---- after a part that finishes its instruction

more_true : (b : Block) (n : ℕ) (ps : List Part) → drop n b.parts ≡ ps → 1 < length ps → has_more b n ≡ true
more_true b n ps e lt = let h = left_length b.parts ps n e in let below : n + 1 < length b.parts = omega (arith, h) in grind (arith, nat_tests)

more_false : (b : Block) (n : ℕ) (ps : List Part) → drop n b.parts ≡ ps → length ps ≡ 1 → has_more b n ≡ false
more_false b n ps e one = let h = left_length b.parts ps n e in let above : length b.parts ≤ n + 1 = omega (arith, h) in grind (arith, nat_tests)

module _ (image : ImageData) (grown : List ℕ) (b : Block) (n last : ℕ) (p : Part) (v : Virtual) (d : Stand) where
  place_next : (ps : List Part) (under : Option Part) (i : Placed) (is : List Placed) → drop n b.parts ≡ p ∷ ps → place_in None (block_at image b.at) b.parts n ≡ (under, i ∷ is) → place_in None (block_at image b.at) b.parts (n + 1) ≡ (under_way p, left_after p i is)
  place_next ps under i is q e =
      let k : n + 1 ≡ suc n = omega arith in
      ap (place_in None (block_at image b.at) b.parts) k ∙ next_place None (block_at image b.at) b.parts n p ps q ∙ ap (λ x. (under_way p, left_of p x.1)) e

  left_next : (ps : List Part) (under : Option Part) (i : Placed) (is : List Placed) → drop n b.parts ≡ p ∷ ps → place_in None (block_at image b.at) b.parts n ≡ (under, i ∷ is) → left_before image b (n + 1) ≡ addresses (left_after p i is)
  left_next ps under i is q e =
      let k : n + 1 ≡ suc n = omega arith in
      ap (left_before image b) k ∙ ap (λ x. addresses x.1) (next_place None (block_at image b.at) b.parts n p ps q ∙ ap (λ x. (under_way p, left_of p x.1)) e)

  last_step : (ps : List Part) (under : Option Part) (i : Placed) (is : List Placed) → drop n b.parts ≡ p ∷ ps → place_in None (block_at image b.at) b.parts n ≡ (under, i ∷ is) → last_before image b (n + 1) last ≡ last_after (takes_answer p.end) (last_before image b n last) i.at
  last_step ps under i is q e =
      let k : n + 1 ≡ suc n = omega arith in
      ap (λ m. last_before image b m last) k ∙ last_next last None (block_at image b.at) b.parts n p ps i is q (ap (λ x. x.1) e)

  parts_next : (ps : List Part) → drop n b.parts ≡ p ∷ ps → drop (n + 1) b.parts ≡ ps
  parts_next ps q = let k : n + 1 ≡ suc n = omega arith in ap (λ m. drop m b.parts) k ∙ further b.parts n p ps q

  -- what is left of the block after a part that takes plain answer
  abbrev Rest : List Placed → List Part → Type 0
  Rest is ps = AreFaithful (want image) None is ps

  goes_next : (q : Part) (ps : List Part) (under : Option Part) (i j : Placed) (is : List Placed) (a : ℕ) (t : Cpu) (to : ℕ) → StandsInside image grown b n last v d → drop n b.parts ≡ p ∷ q ∷ ps → place_in None (block_at image b.at) b.parts n ≡ (under, i ∷ j ∷ is) → takes_answer p.end ≡ false → t.last ≡ d.cpu.rip → d.cpu.rip ≡ i.at → MatchesAfter (j ∷ is) (q ∷ ps) a (does p v).state t
      → StandsInside image grown b (n + 1) last (does p v).state (stand_by t (onward t.mid (addresses (i ∷ j ∷ is))))
  goes_next q ps under i j is a t to h parts place plain fin at m =
      let l = left_length b.parts (p ∷ q ∷ ps) n parts in
      let next : place_in None (block_at image b.at) b.parts (n + 1) ≡ (None, j ∷ is) = place_next (q ∷ ps) under i (j ∷ is) parts place ∙ ap (λ x. (cond x (Some p) None, cond x (i ∷ j ∷ is) (j ∷ is))) plain in
      let rest : drop (n + 1) b.parts ≡ q ∷ ps = parts_next (q ∷ ps) parts in
      let typed = typed_on p (q ∷ ps) v plain (subst (λ x. IsTyped x v) parts h.typed) in
      record {
        inside = omega (arith, l);
        lifted = h.lifted;
        grown_place = h.grown_place;
        matches = subst (λ x. MatchesThere b.at x.0 x.1 (drop (n + 1) b.parts) (does p v).state t) (sym next) (subst (λ x. MatchesThere b.at None (j ∷ is) x (does p v).state t) (sym rest) m.1);
        left = onward_on t.mid (addresses (i ∷ j ∷ is)) m.1.mid ∙ sym (left_next (q ∷ ps) under i (j ∷ is) parts place ∙ ap (λ x. addresses (cond x (i ∷ j ∷ is) (j ∷ is))) plain);
        finished = fin ∙ at ∙ sym (last_step (q ∷ ps) under i (j ∷ is) parts place ∙ ap (λ x. last_after x (last_before image b n last) i.at) plain);
        typed = subst (λ x. IsTyped x (does p v).state) (sym rest) typed;
      }

  ends : (ps : List Part) (under : Option Part) (i : Placed) (is : List Placed) (a : ℕ) (t : Cpu) (to : ℕ) → StandsInside image grown b n last v d → drop n b.parts ≡ p ∷ ps → place_in None (block_at image b.at) b.parts n ≡ (under, i ∷ is) → Rest is ps → takes_answer p.end ≡ false → t.last ≡ d.cpu.rip → d.cpu.rip ≡ i.at → (ps ≡ [] → is ≡ [] → a ≡ to) → MatchesAfter is ps a (does p v).state t
      → StandOn image grown b n last d.cpu.rip to (does p v).state (stand_by t (onward t.mid (addresses (i ∷ is))))
  ends [] under i [] a t to h parts place f plain fin at goes m =
      let end = more_false b n (p ∷ []) parts refl in
      subst (λ x. StandsAfter x image grown b n last d.cpu.rip to (does p v).state (stand_by t (onward t.mid (addresses (i ∷ []))))) (sym end) (record {
        left = onward_on t.mid (addresses (i ∷ [])) m.1.mid;
        agrees = (sym (goes refl refl) ∙ m.0, m.1);
        finished = fin;
      })
  ends [] under i (j ∷ is) a t to h parts place f plain fin at goes m = absurd (nil_cons j is (sym f.1))
  ends (q ∷ ps) under i [] a t to h parts place f plain fin at goes m = absurd f
  ends (q ∷ ps) under i (j ∷ is) a t to h parts place f plain fin at goes m =
      let on = more_true b n (p ∷ q ∷ ps) parts (omega arith) in
      subst (λ x. StandsAfter x image grown b n last d.cpu.rip to (does p v).state (stand_by t (onward t.mid (addresses (i ∷ j ∷ is))))) (sym on) (goes_next q ps under i j is a t to h parts place plain fin at m)

  -- ---- after a part that takes an answer

  answers : (ps : List Part) (under : Option Part) (i : Placed) (is : List Placed) (bits : ℕ) → StandsInside image grown b n last v d → drop n b.parts ≡ p ∷ ps → place_in None (block_at image b.at) b.parts n ≡ (under, i ∷ is) → AreFaithful (want image) (Some p) (i ∷ is) ps → takes_answer p.end ≡ true → bits ≡ answer_bits p.end → ((x : ℕ) → x < 2 ^ bits → MatchesWithin p ps i.at (answered p.end x (does p v).state) (having d.cpu x))
      → GoesOnWith image grown p b n last bits (addresses (i ∷ is)) (does p v).state d
  answers [] under i is bits h parts place f taken same m = absurd (let none : Some p ≡ None = f.0 in cc)
  answers (q ∷ ps) under i is bits h parts place f taken same m =
      let l = left_length b.parts (p ∷ q ∷ ps) n parts in
      let next : place_in None (block_at image b.at) b.parts (n + 1) ≡ (Some p, i ∷ is) = place_next (q ∷ ps) under i is parts place ∙ ap (λ x. (cond x (Some p) None, cond x (i ∷ is) is)) taken in
      let rest : drop (n + 1) b.parts ≡ q ∷ ps = parts_next (q ∷ ps) parts in
      let typed = subst (λ x. IsTyped x v) parts h.typed in
      let takes : (x : ℕ) → x < 2 ^ bits → Answers p.end x = λ x lt. part_takes p (q ∷ ps) v x taken typed (subst (λ z. x < 2 ^ z) same lt) in
      record {
        more = omega (arith, l);
        takes = takes;
        stands = λ x lt. record {
          inside = omega (arith, l);
          lifted = h.lifted;
          grown_place = h.grown_place;
          matches = subst (λ z. MatchesThere b.at z.0 z.1 (drop (n + 1) b.parts) (answered p.end x (does p v).state) (having d.cpu x)) (sym next) (subst (λ z. MatchesThere b.at (Some p) (i ∷ is) z (answered p.end x (does p v).state) (having d.cpu x)) (sym rest) (m x lt));
          left = sym (left_next (q ∷ ps) under i is parts place ∙ ap (λ z. addresses (cond z (i ∷ is) is)) taken);
          finished = h.finished ∙ sym (last_step (q ∷ ps) under i is parts place ∙ ap (λ z. last_after z (last_before image b n last) i.at) taken);
          typed = subst (λ z. IsTyped z (answered p.end x (does p v).state)) (sym rest) (typed_answered p (q ∷ ps) v x (takes x lt) typed);
        };
      }

-- ---- requests

abbrev trap_part : Part
trap_part = record { ops = []; end = BadCode }

module _ (image : ImageData) (grown : List ℕ) (b : Block) (n last : ℕ) (p : Part) (v : Virtual) (d : Stand) where
  -- how both go on after part p of the instruction i
  record On (ps : List Part) (i : Placed) (is : List Placed) : Type 0 where
    pub enters : entered image grown d.cpu.rip d.left ≡ Some (addresses (i ∷ is))
    pub plain : (a : ℕ) (t : Cpu) (to : ℕ) → takes_answer p.end ≡ false → t.last ≡ d.cpu.rip → (ps ≡ [] → is ≡ [] → a ≡ to) → MatchesAfter is ps a (does p v).state t → StandOn image grown b n last d.cpu.rip to (does p v).state (stand_by t (onward t.mid (addresses (i ∷ is))))
    pub taken : (bits : ℕ) → takes_answer p.end ≡ true → bits ≡ answer_bits p.end → ((x : ℕ) → x < 2 ^ bits → MatchesWithin p ps i.at (answered p.end x (does p v).state) (having d.cpu x)) → GoesOnWith image grown p b n last bits (addresses (i ∷ is)) (does p v).state d
    pub ends : ps ≡ [] → is ≡ [] → i.next ≡ end_of b

  gated_on : (left : List ℕ) (s : Cpu) → entered image grown d.cpu.rip d.left ≡ Some left → want image d.cpu ≡ wants.Private s → gated_step image grown d ≡ Some (stand_by s (onward s.mid left))
  gated_on left s e w = ap (option_and_then (moved_on (privately (want image d.cpu)))) e ∙ ap (λ x. moved_on (privately x) left) w

  meets : (r : Request) (w : Want) (ps : List Part) (i : Placed) (is : List Placed) → On ps i is → want image d.cpu ≡ w → asks r ≡ takes_answer p.end → IsAsOf r (answer_bits p.end) → Finishes d.cpu.rip w
      → Meets r w i.next (λ a t. MatchesAfter is ps a (does p v).state t) (λ bits. (x : ℕ) → x < 2 ^ bits → MatchesWithin p ps i.at (answered p.end x (does p v).state) (having d.cpu x))
      → IsWanted r image grown p b n last (does p v).state d
  meets ask.Tick (wants.Private s) ps i is on e k c fin h = record { next = stand_by s (onward s.mid (addresses (i ∷ is))); private = ap privately e; gated = gated_on (addresses (i ∷ is)) s on.enters e; stands = on.plain i.next s (end_of b) (sym k) fin on.ends h }
  meets (ask.Go a) (wants.Private s) ps i is on e k c fin h = record { next = stand_by s (onward s.mid (addresses (i ∷ is))); private = ap privately e; gated = gated_on (addresses (i ∷ is)) s on.enters e; stands = on.plain a s a (sym k) fin (λ x y. refl) h }
  meets (ask.Store a w x) (wants.Store at u y s) ps i is on e k c fin h = let same : wants.Store at u y s ≡ wants.Store a u x s = cc in record { width = u; is_width = h.1; next = s; left = addresses (i ∷ is); wants = e ∙ same; enters = on.enters; stands = on.plain i.next s (end_of b) (sym k) fin on.ends h.3 }
  meets (ask.StoreGo a x to) (wants.Store at u y s) ps i is on e k c fin h = let same : wants.Store at u y s ≡ wants.Store a u x s = cc in record { width = u; is_width = ap ir_width h.1; next = s; left = addresses (i ∷ is); wants = e ∙ same; enters = on.enters; stands = on.plain to s to (sym k) fin (λ x y. refl) h.3 }
  meets ask.Fence (wants.Fence s) ps i is on e k c fin h = record { next = s; left = addresses (i ∷ is); wants = e; enters = on.enters; stands = on.plain i.next s (end_of b) (sym k) fin on.ends h }
  meets (ask.Load a w) (wants.Load at u) ps i is on e k c fin h =
      let same : wants.Load at u ≡ wants.Load a u = cc in
      let bits : bits_in u ≡ answer_bits p.end = sym (same_bits u) ∙ ap bits_of (sym h.1) ∙ c in
      record { width = u; is_width = h.1; left = addresses (i ∷ is); wants = e ∙ same; enters = on.enters; on = on.taken (bits_in u) (sym k) bits h.2 }
  meets (ask.Locked a w c) (wants.Locked at u q) ps i is on e k m fin h =
      let same : wants.Locked at u q ≡ wants.Locked a u q = cc in
      let bits : bits_in u ≡ answer_bits p.end = sym (same_bits u) ∙ ap bits_of (sym h.1) ∙ m in
      record { width = u; is_width = h.1; change = q; is_change = h.2; left = addresses (i ∷ is); wants = e ∙ same; enters = on.enters; on = on.taken (bits_in u) (sym k) bits h.3 }
  meets (ask.Bad bad.Code) (wants.Bad bad_step.Code) ps i is on e k c fin h = record { left = addresses (i ∷ is); wants = e; enters = on.enters }
  meets (ask.Bad bad.Divide) (wants.Bad bad_step.Divide) ps i is on e k c fin h = record { left = addresses (i ∷ is); wants = e; enters = on.enters }
  meets r w ps i is on e k c fin h = absurd h

  -- before a part of an instruction
  follows_here : (ps : List Part) → GoesOnAfterItsBytes → StandsInside image grown b n last v d → Here image b n p ps v d.cpu → FollowsItsThread image grown b n last p v d
  follows_here ps bytes h x =
      let at : d.cpu.rip ≡ x.instr.at = stands_at x.under (p ∷ ps) x.instr.at v d.cpu x.matches in
      let place1 : (place_in None (block_at image b.at) b.parts n).1 ≡ x.instr ∷ x.rest = ap (λ z. z.1) x.place in
      let code = code_now image grown b last v d n x.instr x.rest place1 at in
      let on : On ps x.instr x.rest = record {
        enters = left_now image grown b last v d n x.instr x.rest place1 h at;
        plain = λ a t to plain fin goes m. ends image grown b n last p v d ps x.under x.instr x.rest a t to h x.parts x.place (subst (λ z. AreFaithful (want image) (cond z (Some p) None) (cond z (x.instr ∷ x.rest) x.rest) ps) plain x.faithful.1) plain fin at goes m;
        taken = λ bits taken same m. answers image grown b n last p v d ps x.under x.instr x.rest bits h x.parts x.place (subst (λ z. AreFaithful (want image) (cond z (Some p) None) (cond z (x.instr ∷ x.rest) x.rest) ps) taken x.faithful.1) taken same m;
        ends = λ none over. ap (next_after b.at) (sym (ap (λ z. x.instr ∷ z) over)) ∙ sym (next_same b.at None (block_at image b.at) b.parts n x.instr x.rest place1) ∙ bytes image b.at h.lifted.address ∙ ap (λ z. (b.at + length z) % 2 ^ 64) (sym x.bytes);
      } in
      meets (does p v).request (want image d.cpu) ps x.instr x.rest on refl (ended_asks p.end (did_all p.ops v)) (ended_as p.end (did_all p.ops v)) (want_last image d.cpu code) (x.faithful.0 v d.cpu x.matches)

  -- in a block without an instruction
  follows_trap : (ps : List Part) → StandsInside image grown b n last v d → block_at image b.at ≡ [] → drop n b.parts ≡ p ∷ ps → FollowsItsThread image grown b n last p v d
  follows_trap ps h none parts =
      let f : IsFaithfulTo image b [] = subst (IsFaithfulTo image b) none h.lifted.faithful in
      let one : b.parts ≡ alone [] BadCode = ap (λ (x : Block). x.parts) f in
      let l = left_length b.parts (p ∷ ps) n parts in
      let k = ap length one in
      let first : n ≡ 0 = omega (arith, l, k) in
      let only : alone [] BadCode ≡ p ∷ ps = sym one ∙ ap (λ m. drop m b.parts) (sym first) ∙ parts in
      let there : (place_in None (block_at image b.at) b.parts n).1 ≡ [] = ap (λ is. (place_in None is b.parts n).1) none ∙ none_left None b.parts n in
      let at : d.cpu.rip ≡ b.at = (subst (λ is. MatchesThere b.at (place_in None (block_at image b.at) b.parts n).0 is (drop n b.parts) v d.cpu) there h.matches).stands in
      let code : is_code_place image d.cpu.rip ≡ true = ap (is_code_place image) at ∙ h.lifted.place in
      let grown_here : is_among grown d.cpu.rip ≡ true = ap (is_among grown) at ∙ h.grown_place in
      let bad : want image d.cpu ≡ wants.Bad bad_step.Code = want_code image d.cpu code ∙ ap (λ x. running x d.cpu) (ap (instr_at image) at ∙ no_instr image 63 b.at none) in
      let enters : entered image grown d.cpu.rip d.left ≡ Some (span image d.cpu.rip) = ap (entered image grown d.cpu.rip) (h.left ∙ ap (left_before image b) first) ∙ at_code image grown d.cpu.rip [] _ code (within_first image grown d.cpu.rip grown_here) in
      let same : trap_part ≡ p = cc in
      subst (λ x. FollowsItsThread image grown b n last x v d) same (record { left = span image d.cpu.rip; wants = bad; enters = enters })

-- the request of the part is what the thread wants
pub follows : (image : ImageData) (grown : List ℕ) (b : Block) (n last : ℕ) (p : Part) (ps : List Part) (v : Virtual) (d : Stand) → GoesOnAfterItsBytes → StandsInside image grown b n last v d → drop n b.parts ≡ p ∷ ps → FollowsItsThread image grown b n last p v d
follows image grown b n last p ps v d bytes h parts = by_block (block_at image b.at) refl
  where
    by_block : (is : List Placed) → block_at image b.at ≡ is → FollowsItsThread image grown b n last p v d
    by_block [] e = follows_trap image grown b n last p v d ps h e parts
    by_block (i ∷ is) e = follows_here image grown b n last p v d ps bytes h (here_at image b n p ps v d.cpu i is e h.lifted.faithful parts h.matches)
