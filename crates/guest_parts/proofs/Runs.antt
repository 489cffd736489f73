-- Parts that are run one after another.
use Rattle.std.proofs.Common.{◌≡◌, ℕ, zero, suc, ◌+◌, ◌<◌, ◌≤◌, Bool, true, false, cond, List, [], ◌∷◌, Some, None, refl, sym, ap, ◌∙◌, subst, arith, length, drop, get_or, inl, inr, ◌==◌}
use Rattle.std.proofs.lemmas.Bool.Decides.{nat_tests}
use Rattle.std.proofs.lemmas.Option.{none-some}
use Rattle.std.specs.Prelude.{option_and_then, slice_index}
use Rattle.elf_image.specs.Layout.{ImageData}
use Rattle.guest_state.specs.declared.virtual_state.Virtual.{Virtual}
use Rattle.ir_meaning.specs.Does.{did_all, does}
use Rattle.ir_meaning.specs.Ready.{IsReady}
use Rattle.ir_syntax.specs.declared.block.Block.{Block}
use Rattle.ir_syntax.specs.declared.block.Part.{Part}
use Rattle.ir_syntax.specs.declared.request.Request.{Request}
use Rattle.ir_syntax.specs.declared.request.Request.TheVariants as ask
use Rattle.basic_blocks.specs.Onward.{GoesOnAfterItsBytes}
use Rattle.basic_blocks.specs.Placed.{Placed}
use Rattle.basic_blocks.specs.Span.{block_at}
use Rattle.lift_table.specs.Block.{MatchesThere, place_in}
use Rattle.lift_table.specs.Faithful.{takes_answer}
use Rattle.machine_model.specs.Gated.{Stand, gated_step, gated_steps}
use Rattle.guest_parts.specs.Standing.{IsTyped, StandsAfter, StandsBetween, StandsInside, end_of, has_more, places_in, places_of}
use Rattle.guest_parts.specs.Requests.{IsPrivate, IsWanted}
use Rattle.guest_parts.specs.Running.{Asking, Rises, RunsIn, RunsOut, StepsOn, StepsOut, leads_to, one_more}
use Rattle.guest_parts.proofs.Places.{none_left, place_at, place_none}
use Rattle.guest_parts.proofs.Parts.{asks, ended_asks, follows, here_at, stands_at}
use Rattle.guest_parts.proofs.Typing.{ready, typed_on}

-- ---- the next part

pub next_parts : (qs : List Part) (n : ℕ) (p : Part) → n < length qs → p ≡ get_or qs n p → drop n qs ≡ p ∷ drop (suc n) qs
next_parts [] n p lt e = absurd (omega arith)
next_parts (q ∷ qs) zero p lt e = let h : p ≡ q = e in ap (λ x. x ∷ qs) (sym h)
next_parts (q ∷ qs) (suc n) p lt e = next_parts qs n p (omega arith) e

pub some_part : (qs : List Part) (n : ℕ) → n < length qs → (p : Part) × (ps : List Part) × (drop n qs ≡ p ∷ ps)
some_part [] n lt = absurd (omega arith)
some_part (q ∷ qs) zero lt = (q, qs, refl)
some_part (q ∷ qs) (suc n) lt = some_part qs n (omega arith)

pub ran_ready : (b : Block) (n : ℕ) (p : Part) (v : Virtual) → n < length b.parts → p ≡ get_or b.parts n p → IsTyped (drop n b.parts) v → IsReady p v
ran_ready b n p v lt e h = ready p _ v (subst (λ x. IsTyped x v) (next_parts b.parts n p lt e) h)

-- ---- where a part stands

-- the instruction of part n is where the thread is
pub here_rip : (image : ImageData) (grown : List ℕ) (b : Block) (n last : ℕ) (v : Virtual) (d : Stand) → StandsInside image grown b n last v d → slice_index (places_of image b) n ≡ d.cpu.rip
here_rip image grown b n last v d h = by_block (block_at image b.at) refl
  where
    by_block : (is : List Placed) → block_at image b.at ≡ is → slice_index (places_of image b) n ≡ d.cpu.rip
    by_block [] e =
        let there : (place_in None (block_at image b.at) b.parts n).1 ≡ [] = ap (λ is. (place_in None is b.parts n).1) e ∙ none_left None b.parts n in
        let at : d.cpu.rip ≡ b.at = (subst (λ is. MatchesThere b.at (place_in None (block_at image b.at) b.parts n).0 is (drop n b.parts) v d.cpu) there h.matches).stands in
        ap (λ is. slice_index (places_in b.at is b.parts) n) e ∙ place_none b.at b.parts n h.inside ∙ sym at
    by_block (i ∷ is) e =
        let q = some_part b.parts n h.inside in
        let x = here_at image b n q.0 q.1 v d.cpu i is e h.lifted.faithful q.2 h.matches in
        place_at b.at None (block_at image b.at) b.parts n q.0 q.1 x.instr x.rest q.2 (ap (λ z. z.1) x.place) ∙ sym (stands_at x.under (q.0 ∷ q.1) x.instr.at v d.cpu x.matches)

-- ---- one part

private_to : (image : ImageData) (grown : List ℕ) (p : Part) (b : Block) (n last to : ℕ) (r : Request) (u : Virtual) (d : Stand) → leads_to b r ≡ Some to → IsWanted r image grown p b n last u d → IsPrivate image grown b n last to u d
private_to image grown p b n last to ask.Tick u d e h = let same : Some (end_of b) ≡ Some to = e in let q : end_of b ≡ to = cc in subst (λ x. IsPrivate image grown b n last x u d) q h
private_to image grown p b n last to (ask.Go a) u d e h = let same : Some a ≡ Some to = e in let q : a ≡ to = cc in subst (λ x. IsPrivate image grown b n last x u d) q h
private_to image grown p b n last to (ask.Load a w) u d e h = absurd (none-some to e)
private_to image grown p b n last to (ask.Store a w x) u d e h = absurd (none-some to e)
private_to image grown p b n last to (ask.StoreGo a x t) u d e h = absurd (none-some to e)
private_to image grown p b n last to ask.Fence u d e h = absurd (none-some to e)
private_to image grown p b n last to (ask.Locked a w c) u d e h = absurd (none-some to e)
private_to image grown p b n last to (ask.Bad kind) u d e h = absurd (none-some to e)

not_asking : (b : Block) (r : Request) (to : ℕ) → leads_to b r ≡ Some to → asks r ≡ false
not_asking b ask.Tick to e = refl
not_asking b (ask.Go a) to e = refl
not_asking b (ask.Load a w) to e = absurd (none-some to e)
not_asking b (ask.Store a w x) to e = refl
not_asking b (ask.StoreGo a x t) to e = refl
not_asking b ask.Fence to e = refl
not_asking b (ask.Locked a w c) to e = absurd (none-some to e)
not_asking b (ask.Bad kind) to e = refl

pub ran_asks : (b : Block) (n : ℕ) (p : Part) (r : Request) (v u : Virtual) → n < length b.parts → p ≡ get_or b.parts n p → r ≡ (does p v).request → u ≡ (does p v).state → leads_to b r ≡ None → Asking b n r v u
ran_asks b n p r v u lt e f g h = record { part = p; rest = drop (suc n) b.parts; parts = next_parts b.parts n p lt e; request_is = f; state_is = g; public = h }

ran_private : (image : ImageData) (grown : List ℕ) (b : Block) (n last to : ℕ) (p : Part) (r : Request) (v u : Virtual) (d : Stand) → GoesOnAfterItsBytes → p ≡ get_or b.parts n p → r ≡ (does p v).request → u ≡ (does p v).state → leads_to b r ≡ Some to → StandsInside image grown b n last v d → IsPrivate image grown b n last to u d
ran_private image grown b n last to p r v u d bytes e f g h s =
    let w = follows image grown b n last p (drop (suc n) b.parts) v d bytes s (next_parts b.parts n p s.inside e) in
    let x = private_to image grown p b n last to (does p v).request (does p v).state d (ap (leads_to b) (sym f) ∙ h) w in
    subst (λ z. IsPrivate image grown b n last to z d) (sym g) x

pub ran_on : (image : ImageData) (grown : List ℕ) (b : Block) (n last to : ℕ) (p : Part) (r : Request) (v u : Virtual) (d : Stand) → GoesOnAfterItsBytes → p ≡ get_or b.parts n p → r ≡ (does p v).request → u ≡ (does p v).state → leads_to b r ≡ Some to → n + 1 < length b.parts → StandsInside image grown b n last v d → StepsOn image grown b n last u d
ran_on image grown b n last to p r v u d bytes e f g h lt s =
    let x = ran_private image grown b n last to p r v u d bytes e f g h s in
    let more : has_more b n ≡ true = grind (arith, nat_tests) in
    record { next = x.next; gated = x.gated; stands = subst (λ z. StandsAfter z image grown b n last d.cpu.rip to u x.next) more x.stands }

pub ran_out : (image : ImageData) (grown : List ℕ) (b : Block) (n last to : ℕ) (p : Part) (r : Request) (v u : Virtual) (d : Stand) → GoesOnAfterItsBytes → p ≡ get_or b.parts n p → r ≡ (does p v).request → u ≡ (does p v).state → leads_to b r ≡ Some to → length b.parts ≤ n + 1 → StandsInside image grown b n last v d → StepsOut image grown b n to u d
ran_out image grown b n last to p r v u d bytes e f g h le s =
    let x = ran_private image grown b n last to p r v u d bytes e f g h s in
    let more : has_more b n ≡ false = grind (arith, nat_tests) in
    let out : StandsBetween to d.cpu.rip u x.next = subst (λ z. StandsAfter z image grown b n last d.cpu.rip to u x.next) more x.stands in
    record { next = x.next; gated = x.gated; stands = subst (λ z. StandsBetween to z u x.next) (sym (here_rip image grown b n last v d s)) out }

pub ran_typed : (b : Block) (n to : ℕ) (p : Part) (r : Request) (v u : Virtual) → n < length b.parts → p ≡ get_or b.parts n p → r ≡ (does p v).request → u ≡ (does p v).state → leads_to b r ≡ Some to → IsTyped (drop n b.parts) v → IsTyped (drop (n + 1) b.parts) u
ran_typed b n to p r v u lt e f g h t =
    let plain : takes_answer p.end ≡ false = sym (ended_asks p.end (did_all p.ops v)) ∙ not_asking b (does p v).request to (ap (leads_to b) (sym f) ∙ h) in
    let k : suc n ≡ n + 1 = omega arith in
    let typed = typed_on p (drop (suc n) b.parts) v plain (subst (λ x. IsTyped x v) (next_parts b.parts n p lt e) t) in
    subst (λ m. IsTyped (drop m b.parts) u) k (subst (λ z. IsTyped (drop (suc n) b.parts) z) (sym g) typed)

-- ---- several parts

pub run_none : (image : ImageData) (grown : List ℕ) (b : Block) (n j last : ℕ) (v : Virtual) (d : Stand) → j ≡ 0 → StandsInside image grown b n last v d → RunsIn image grown b n j last v d
unfolding gated_steps
run_none image grown b n j last v d e h = record { next = d; gated = ap (λ k. gated_steps image grown k d) e; stands = h }

pub steps_one : (image : ImageData) (grown : List ℕ) (j k : ℕ) (s d e : Stand) → k ≡ j + 1 → gated_steps image grown j s ≡ Some d → gated_step image grown d ≡ Some e → gated_steps image grown k s ≡ Some e
unfolding gated_steps
steps_one image grown j k s d e same p q =
    let n : k ≡ suc j = omega arith in
    ap (λ i. gated_steps image grown i s) n ∙ ap (option_and_then (gated_step image grown)) p ∙ q

pub run_on : (image : ImageData) (grown : List ℕ) (b : Block) (n j k last : ℕ) (v u : Virtual) (d : Stand) → k ≡ j + 1 → (run : RunsIn image grown b n j last v d) → ((e : Stand) → StandsInside image grown b n last v e → StepsOn image grown b n last u e) → RunsIn image grown b (n + 1) k last u d
run_on image grown b n j k last v u d same run step =
    let x = step run.next run.stands in
    record { next = x.next; gated = steps_one image grown j k d run.next x.next same run.gated x.gated; stands = x.stands }

pub run_out : (image : ImageData) (grown : List ℕ) (b : Block) (n j k last to : ℕ) (v u : Virtual) (d : Stand) → k ≡ j + 1 → (run : RunsIn image grown b n j last v d) → ((e : Stand) → StandsInside image grown b n last v e → StepsOut image grown b n to u e) → RunsOut image grown b n k to u d
run_out image grown b n j k last to v u d same run step =
    let x = step run.next run.stands in
    record { next = x.next; gated = steps_one image grown j k d run.next x.next same run.gated x.gated; stands = x.stands }

-- ---- counts

pub rises_none : (a n : ℕ) → n ≡ 0 → Rises a a n
rises_none a n e = inl (omega arith)

more_by : (a b c n k : ℕ) (most : Bool) → (b == 18446744073709551615) ≡ most → k ≡ n + 1 → c ≡ cond most b (b + 1) → Rises a b n → Rises a c k
more_by a b c n k true t same e h = inr (let q : b ≡ 18446744073709551615 = grind (arith, nat_tests) in let r : c ≡ b = e in omega arith)
more_by a b c n k false t same e (inl le) = inl (let r : c ≡ b + 1 = e in omega arith)
more_by a b c n k false t same e (inr le) = inr (let r : c ≡ b + 1 = e in omega arith)

pub rises_more : (a b c n k : ℕ) → k ≡ n + 1 → c ≡ one_more b → Rises a b n → Rises a c k
rises_more a b c n k same e h = more_by a b c n k (b == 18446744073709551615) refl same e h

pub rises_on : (a b c n m k : ℕ) → k ≡ n + m → Rises a b n → Rises b c m → Rises a c k
rises_on a b c n m k same (inl p) (inl q) = inl (omega arith)
rises_on a b c n m k same (inr p) (inl q) = inr (omega arith)
rises_on a b c n m k same p (inr q) = inr q
