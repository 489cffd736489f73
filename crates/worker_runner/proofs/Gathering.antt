-- The passes of a run, gathered one by one.
use Rattle.std.proofs.Common.{◌≡◌, ℕ, suc, ◌+◌, ◌<◌, inl, inr, Bool, true, false, nat_lt, if◌then◌else◌, List, [], ◌∷◌, ◌++◌, length, slice_index_or, Some, refl, sym, subst, ap, ◌∙◌, arith, length-append}
use Rattle.std.proofs.Math.Seq.{get_or-append_seam}
use Rattle.std.proofs.lemmas.List.{get_or_append_left}
use Rattle.std.proofs.lemmas.Option.{same_Some}
use Rattle.atomic_table.specs.Seated.{TableId}
use Rattle.turn_lock.specs.declared.pass.Pass.{Pass}
use Rattle.turn_lock.specs.Journal as story
use Rattle.turn_lock.specs.Journal.{StartsWith}
use Rattle.turn_lock.specs.Words.{lock_of, pass_case, pass_number, pass_seen}
use Rattle.machine_model.specs.CaseData.{CaseData}
use Rattle.machine_model.specs.Gated.{Leads, begin}
use Rattle.hall_core.specs.Hall.{both}
use Rattle.machine_model.specs.Step.{slot_in}
use Rattle.guest_parts.specs.Running.{Rises, sum_of}
use Rattle.journal_pack.specs.declared.entry.Entry.{Entry}
use Rattle.thread_step.specs.Context.{GoesOn, HallOf, Saw, case_in, context_pass, context_steps, journal_in}
use Rattle.thread_step.specs.Counts.{slot_steps, slots_steps}
use Rattle.thread_step.proofs.Counting.{rises_less}
use Rattle.thread_step.proofs.Rising.{goes_steps}
use Rattle.thread_step.proofs.SlotCounts.{slot_begins}
use Rattle.thread_step.proofs.Staying.{goes_on}
use Rattle.worker_runner.specs.Counts.{AreCounted, AreFresh, AreKept, HasCounted}
use Rattle.worker_runner.specs.declared.round.Worker.{Worker}
use Rattle.worker_runner.specs.Ending.{AreBack, Goes, IsBack}
use Rattle.worker_runner.specs.Rounds.{AreHeld, IsHeldAt}
use Rattle.worker_runner.proofs.Coupling.{each_head, each_none, each_snoc, each_tail}

-- 64 passes there will be
pub record InStep {N : Type 0} (rest : List (Worker N)) (passes : List (Pass HallOf)) : Type 0 where
  pub made : length passes + length rest ≡ 64

module _ {N : Type 0} (key : TableId) (c : CaseData) where
  -- so many passes are back
  pub record MidBack (rest : List (Worker N)) (passes : List (Pass HallOf)) : Type 0 where
    pub made : length passes + length rest ≡ 64
    pub rest_are : (k : ℕ) (d : Worker N) → k < length rest → IsHeldAt key c (length passes + k) (slice_index_or rest k d).ctx
    pub passes_are : (k : ℕ) (d : Pass HallOf) → k < length passes → IsBack key c k (slice_index_or passes k d)

  pub back_none : (workers : List (Worker N)) (passes : List (Pass HallOf)) → passes ≡ [] → AreHeld key c workers → MidBack workers passes
  back_none workers passes none held =
      let z = ap length none in
      let many = held.0 in
      record {
        made = omega (arith, many, z);
        rest_are = λ k d less. subst (λ n. IsHeldAt key c n (slice_index_or workers k d).ctx) (omega (arith, z)) (held.1 k d less);
        passes_are = subst (λ (ps : List (Pass HallOf)). (k : ℕ) (d : Pass HallOf) → k < length ps → IsBack key c k (slice_index_or ps k d)) (sym none) (each_none (λ k p. IsBack key c k p));
      }

  module _ (workers rest : List (Worker N)) (passes more : List (Pass HallOf)) (w : Worker N) (m : MidBack workers passes) (workers_is : workers ≡ w ∷ rest) where
    pub its_held : IsHeldAt key c (length passes) w.ctx
    its_held = each_head (λ j (v : Worker N). IsHeldAt key c j v.ctx) (length passes) w rest (subst (λ (ws : List (Worker N)). (k : ℕ) (d : Worker N) → k < length ws → IsHeldAt key c (length passes + k) (slice_index_or ws k d).ctx) workers_is m.rest_are)

    its_back : (p : Pass HallOf) → context_pass w.ctx ≡ Some p → IsBack key c (length passes) p
    its_back p there =
        let h = its_held in
        let same : h.pass ≡ p = same_Some h.pass p (sym h.there ∙ there) in
        subst (IsBack key c (length passes)) same (record { lock = h.lock; number = h.number; hall = h.hall; saw = h.saw; case = h.case })

    pub back_next : (p : Pass HallOf) → context_pass w.ctx ≡ Some p → more ≡ passes ++ p ∷ [] → MidBack rest more
    back_next p there more_is =
        let len = length-append passes (p ∷ []) in
        let n = ap length workers_is in
        let n2 = ap length more_is in
        let made = m.made in
        record {
          made = omega (arith, len, n, n2, made);
          rest_are = each_tail (λ j (v : Worker N). IsHeldAt key c j v.ctx) (length passes) (length more) w rest (omega (arith, len, n2)) (subst (λ (ws : List (Worker N)). (k : ℕ) (d : Worker N) → k < length ws → IsHeldAt key c (length passes + k) (slice_index_or ws k d).ctx) workers_is m.rest_are);
          passes_are = subst (λ (ps : List (Pass HallOf)). (k : ℕ) (d : Pass HallOf) → k < length ps → IsBack key c k (slice_index_or ps k d)) (sym more_is) (each_snoc (λ k q. IsBack key c k q) passes p m.passes_are (its_back p there));
        }

  -- with the driver's
  pub back_all : (rest : List (Worker N)) (passes more : List (Pass HallOf)) (last : Pass HallOf) → length rest ≡ 0 → MidBack rest passes → IsBack key c 64 last → more ≡ passes ++ last ∷ [] → AreBack key c more
  back_all rest passes more last none m back is =
      let len = length-append passes (last ∷ []) in
      let n = ap length is in
      let made = m.made in
      let all : length passes ≡ 64 = omega (arith, none, made) in
      (omega (arith, len, n, all), subst (λ (ps : List (Pass HallOf)). (k : ℕ) (d : Pass HallOf) → k < length ps → IsBack key c k (slice_index_or ps k d)) (sym is) (each_snoc (λ k q. IsBack key c k q) passes last m.passes_are (subst (λ i. IsBack key c i last) (sym all) back)))

  pub back_last : (rest : List (Worker N)) (passes more : List (Pass HallOf)) (last d : Pass HallOf) → length rest ≡ 0 → MidBack rest passes → more ≡ passes ++ last ∷ [] → slice_index_or more 64 d ≡ last
  back_last rest passes more last d none m is =
      let made = m.made in
      let all : length passes ≡ 64 = omega (arith, none, made) in
      ap (λ ps. slice_index_or ps 64 d) is ∙ ap (λ i. slice_index_or (passes ++ last ∷ []) i d) (sym all) ∙ get_or-append_seam passes last [] d

-- the state in the lock went on from what the driver's pass saw
pub goes_by : (h n : HallOf) (last : Pass HallOf) → Saw last h → pass_case case_in last ≡ Some n.case → StartsWith n.journal (pass_seen journal_in last) → Leads n.case (begin n.case) n.journal (both n) → Goes h n
goes_by h n last saw case starts leads = record {
  case = same_Some n.case h.case (sym case ∙ saw.case);
  entries = starts.0;
  journal = starts.1 ∙ ap (λ j. j ++ starts.0) saw.journal;
  before = saw.leads;
  after = leads;
}

pub saw_back : (key : TableId) (h : HallOf) (last : Pass HallOf) → lock_of last ≡ key → pass_number last ≡ 64 → Saw last h → IsBack key h.case 64 last
saw_back key h last lock number saw = record { lock = lock; number = number; hall = h; saw = saw; case = refl }

-- ---- the engines' counts

rises_sum : (a b n x y : ℕ) → Rises a b x → Rises 0 n y → Rises a (sum_of b n) (x + y)
rises_sum a b n x y p q = by_sum a b n x y (nat_lt (b + n) 18446744073709551615) refl p q
  where
    by_sum : (a b n x y : ℕ) (less : Bool) → nat_lt (b + n) 18446744073709551615 ≡ less → Rises a b x → Rises 0 n y → Rises a (if less then b + n else 18446744073709551615) (x + y)
    by_sum a b n x y true e (inl p) (inl q) = inl (omega (arith, p, q))
    by_sum a b n x y true e (inl p) (inr q) = inr (omega (arith, q))
    by_sum a b n x y true e (inr p) q = inr (omega (arith, p))
    by_sum a b n x y false e p q = inr (omega arith)

module _ {N : Type 0} (count_of : N → ℕ) (key : TableId) (c : CaseData) where
  -- what the engines of the workers that are back counted went to one engine
  pub record MidCount (first now : ℕ) (rest : List (Worker N)) (passes : List (Pass HallOf)) (journal : List Entry) : Type 0 where
    pub counted : (k : ℕ) (d : Worker N) → k < length rest → HasCounted (count_of (slice_index_or rest k d).engine) (length passes + k) (slice_index_or rest k d).ctx
    pub rises : AreKept c journal passes → Rises first now (slots_steps c (length passes) journal)

  pub count_none : (first : ℕ) (workers : List (Worker N)) (passes : List (Pass HallOf)) (journal : List Entry) → passes ≡ [] → AreCounted count_of workers → MidCount first first workers passes journal
  unfolding slots_steps
  count_none first workers passes journal none counted = record {
    counted = λ k d less. subst (λ n. HasCounted (count_of (slice_index_or workers k d).engine) n (slice_index_or workers k d).ctx) (let z = ap length none in omega (arith, z)) (counted k d less);
    rises = λ kept. subst (λ (ps : List (Pass HallOf)). Rises first first (slots_steps c (length ps) journal)) (sym none) (inl (omega arith));
  }

  module _ (first now next : ℕ) (workers rest : List (Worker N)) (passes more : List (Pass HallOf)) (journal : List Entry) (w : Worker N) (p : Pass HallOf) (m : MidCount first now workers passes journal) (b : MidBack key c workers passes) (workers_is : workers ≡ w ∷ rest) (more_is : more ≡ passes ++ p ∷ []) (there : context_pass w.ctx ≡ Some p) (sum : next ≡ sum_of now (count_of w.engine)) where
    one_more : AreKept c journal (passes ++ p ∷ []) → Rises 0 (count_of w.engine) (slot_steps c (length passes) journal)
    one_more kept =
        let h = its_held key c workers rest passes more w b workers_is in
        let same : h.pass ≡ p = same_Some h.pass p (sym h.there ∙ there) in
        let saw = subst (λ q. Saw q h.hall) same h.saw in
        let had : HasCounted (count_of w.engine) (length passes) w.ctx = each_head (λ j (v : Worker N). HasCounted (count_of v.engine) j v.ctx) (length passes) w rest (subst (λ (ws : List (Worker N)). (k : ℕ) (d : Worker N) → k < length ws → HasCounted (count_of (slice_index_or ws k d).engine) (length passes + k) (slice_index_or ws k d).ctx) workers_is m.counted) in
        let len = length-append passes (p ∷ []) in
        let its = kept (length passes) p (omega (arith, len)) h.hall (subst (λ q. Saw q h.hall) (sym (get_or-append_seam passes p [] p)) saw) in
        rises_less 0 (count_of w.engine) (slot_steps h.hall.case (length passes) h.hall.journal + context_steps w.ctx) (slot_steps c (length passes) journal) (omega (arith, its)) (had h.hall p there saw)

    pub count_next : MidCount first next rest more journal
    unfolding slots_steps
    count_next =
        let len = length-append passes (p ∷ []) in
        let n2 = ap length more_is in
        record {
          counted = each_tail (λ j (v : Worker N). HasCounted (count_of v.engine) j v.ctx) (length passes) (length more) w rest (omega (arith, len, n2)) (subst (λ (ws : List (Worker N)). (k : ℕ) (d : Worker N) → k < length ws → HasCounted (count_of (slice_index_or ws k d).engine) (length passes + k) (slice_index_or ws k d).ctx) workers_is m.counted);
          rises = λ kept.
              let these = subst (AreKept c journal) more_is kept in
              let before : AreKept c journal passes = λ k d less h saw. these k d (omega (arith, less, len)) h (subst (λ q. Saw q h) (sym (get_or_append_left passes (p ∷ []) d k less)) saw) in
              let number : suc (length passes) ≡ length more = omega (arith, len, n2) in
              subst (λ n. Rises first n (slots_steps c (length more) journal)) (sym sum) (subst (λ n. Rises first (sum_of now (count_of w.engine)) (slots_steps c n journal)) number (rises_sum first now (count_of w.engine) (slots_steps c (length passes) journal) (slot_steps c (length passes) journal) (m.rises before) (one_more these)));
        }

  pub count_all : (first now : ℕ) (rest : List (Worker N)) (passes more : List (Pass HallOf)) (journal : List Entry) (last : Pass HallOf) → length rest ≡ 0 → MidBack key c rest passes → MidCount first now rest passes journal → more ≡ passes ++ last ∷ [] → AreKept c journal more → Rises first now (slots_steps c 64 journal)
  count_all first now rest passes more journal last none b m is kept =
      let len = length-append passes (last ∷ []) in
      let made = b.made in
      let all : length passes ≡ 64 = omega (arith, none, made) in
      let these = subst (AreKept c journal) is kept in
      subst (λ n. Rises first now (slots_steps c n journal)) all (m.rises (λ k d less h saw. these k d (omega (arith, less, len)) h (subst (λ q. Saw q h) (sym (get_or_append_left passes (last ∷ []) d k less)) saw)))

-- each pass saw all steps of its slot
pub kept_by : (key : TableId) (c : CaseData) (n : HallOf) (passes : List (Pass HallOf)) → AreBack key c passes → n.case ≡ c → Leads n.case (begin n.case) n.journal (both n) → ((k : ℕ) (d : Pass HallOf) → k < length passes → pass_case case_in (slice_index_or passes k d) ≡ Some n.case) → ((k : ℕ) (d : Pass HallOf) → k < length passes → StartsWith n.journal (pass_seen journal_in (slice_index_or passes k d))) → ((k : ℕ) (d : Pass HallOf) → k < length passes → story.own slot_in (pass_number (slice_index_or passes k d)) n.journal ≡ story.own slot_in (pass_number (slice_index_or passes k d)) (pass_seen journal_in (slice_index_or passes k d))) → AreKept n.case n.journal passes
kept_by key c n passes back case leads cases begins owns = λ k d less h saw.
    let b = back.1 k d less in
    let g = goes_on (slice_index_or passes k d) h n saw (cases k d less) (begins k d less) (owns k d less) leads in
    goes_steps k h n (subst (λ s. GoesOn s h n) b.number g)

-- nothing was counted before the first round
pub fresh_counted : {N : Type 0} (count_of : N → ℕ) (h : HallOf) (workers : List (Worker N)) → h.journal ≡ [] → AreFresh h workers → AreCounted count_of workers
fresh_counted count_of h workers none fresh = λ k d less n p there saw.
    let f = fresh k d less in
    let same : f.pass ≡ p = same_Some f.pass p (sym f.there ∙ there) in
    let journal : n.journal ≡ [] = sym saw.journal ∙ ap (λ q. pass_seen journal_in q) (sym same) ∙ f.saw.journal ∙ none in
    let zero = ap (slot_steps n.case k) journal ∙ slot_begins n.case k in
    let steps = f.none in
    inl (omega (arith, zero, steps))
