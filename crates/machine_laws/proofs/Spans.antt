-- Lives along journals: they go forward, a slot without a thread has nothing, and a thread without an entry is as it was born.
use Rattle.std.proofs.Common.{◌≡◌, ◌≢◌, ℕ, zero, suc, ◌<◌, ◌⊎◌, Bool, true, false, List, [], ◌∷◌, ◌++◌, Option, Some, None, refl, sym, ap, ◌∙◌, subst, arith, inl, inr, replicate}
use Rattle.std.specs.Prelude.{All, ⊤, is_some, slice_index_or}
use Rattle.std.proofs.lemmas.Bool.{cases_eq}
use Rattle.std.proofs.lemmas.List.{get_or-replicate, get_or-set_other, get_or-set_same, length-replicate}
use Rattle.std.proofs.lemmas.List.Elements.{All-head, All-tail}
use Rattle.std.proofs.lemmas.Option.{none-some}
use Rattle.address_space.specs.Slots.{slot_of, number_in}
use Rattle.address_space.proofs.Numbers.{number_back}
use Rattle.journal_pack.specs.declared.entry.Entry.{Entry}
use Rattle.journal_pack.specs.Entry.{thread_of}
use Rattle.lib_table.specs.declared.life.Life.{Life}
use Rattle.lib_table.specs.declared.life.Life.TheVariants.{Unborn, Live, Ended, Joined}
use Rattle.lib_table.specs.declared.slot.Slot.{Slot}
use Rattle.lib_table.specs.Library.{LibraryData, is_kept, is_running, life_at, live_number, new_slot, slot_at, thread_in}
use Rattle.lib_table.proofs.LifeLaws.{kept-next}
use Rattle.machine_model.specs.CaseData.{CaseData}
use Rattle.machine_model.specs.Gated.{Both, Leads, advance, begin, no_spot, spot_at}
use Rattle.machine_model.specs.Own.{IsWhole}
use Rattle.machine_model.specs.State.{Core, core_at, first_core, is_live, list_at, no_core, start}
use Rattle.machine_model.specs.Step.{is_in_use, lives, slot_in, slot_named}
use Rattle.machine_model.proofs.Gates.{halfway, leads_same}
use Rattle.machine_model.proofs.Own.{made_of, whole_stays}
use Rattle.machine_model.proofs.Settled.{live_slot}
use Rattle.machine_model.proofs.Slots.{lives_in}
use Rattle.machine_laws.specs.Lives.{Begun, Finished, LifeGoes, Stays, Taken, life_of}
use Rattle.machine_laws.specs.Others.{IsBorn, IsNew, IsSame, Leaves, starting_core}
use Rattle.machine_laws.proofs.Goes.{life_goes}
use Rattle.machine_laws.proofs.Leaving.{IsSteady, leaves_other, steady_begin, steady_from, steady_stays}
use Rattle.machine_laws.proofs.SlotMoves.{live_next, own_life}

clash : {P : Type 0} (b : Bool) → b ≡ true → b ≡ false → P
clash b p q = absurd (let e : true ≡ false = sym p ∙ q in cc)

-- ---- lives go forward

-- a life that is over
abbrev pub IsPast : ℕ → Life → Type 0
IsPast value life = (life ≡ Ended value) ⊎ (life ≡ Joined)

one_unborn : (c : CaseData) (b n : Both) (e : Entry) (u : ℕ) → LifeGoes c b n e u → life_of n u ≡ Unborn → life_of b u ≡ Unborn
one_unborn c b n e u (Stays same) h = sym same ∙ h
one_unborn c b n e u (Begun x) h = x.before
one_unborn c b n e u (Finished x) h = absurd (let q : Ended x.value ≡ Unborn = sym x.after ∙ h in cc)
one_unborn c b n e u (Taken x) h = absurd (let q : Joined ≡ Unborn = sym x.after ∙ h in cc)

one_joined : (c : CaseData) (b n : Both) (e : Entry) (u : ℕ) → LifeGoes c b n e u → life_of b u ≡ Joined → life_of n u ≡ Joined
one_joined c b n e u (Stays same) h = same ∙ h
one_joined c b n e u (Begun x) h = absurd (let q : Unborn ≡ Joined = sym x.before ∙ h in cc)
one_joined c b n e u (Finished x) h = clash (is_live b.machine u) x.before (ap is_running h)
one_joined c b n e u (Taken x) h = x.after

one_ended : (c : CaseData) (b n : Both) (e : Entry) (u value : ℕ) → LifeGoes c b n e u → life_of b u ≡ Ended value → IsPast value (life_of n u)
one_ended c b n e u value (Stays same) h = inl (same ∙ h)
one_ended c b n e u value (Begun x) h = absurd (let q : Unborn ≡ Ended value = sym x.before ∙ h in cc)
one_ended c b n e u value (Finished x) h = clash (is_live b.machine u) x.before (ap is_running h)
one_ended c b n e u value (Taken x) h = inr x.after

unborn_on : (c : CaseData) (b n : Both) (es : List Entry) (u : ℕ) → IsWhole b → Leads c b es n → life_of n u ≡ Unborn → life_of b u ≡ Unborn
unfolding Leads
unborn_on c b n [] u whole p h = ap (λ x. life_of x u) p ∙ h
unborn_on c b n (e ∷ es) u whole p h = one_unborn c b p.0 e u (life_goes c b p.0 e u whole p.1) (unborn_on c p.0 n es u (whole_stays c b p.0 e whole p.1) p.3 h)

joined_on : (c : CaseData) (b n : Both) (es : List Entry) (u : ℕ) → IsWhole b → Leads c b es n → life_of b u ≡ Joined → life_of n u ≡ Joined
unfolding Leads
joined_on c b n [] u whole p h = ap (λ x. life_of x u) (sym p) ∙ h
joined_on c b n (e ∷ es) u whole p h = joined_on c p.0 n es u (whole_stays c b p.0 e whole p.1) p.3 (one_joined c b p.0 e u (life_goes c b p.0 e u whole p.1) h)

ended_on : (c : CaseData) (b n : Both) (es : List Entry) (u value : ℕ) → IsWhole b → Leads c b es n → life_of b u ≡ Ended value → IsPast value (life_of n u)
unfolding Leads
ended_on c b n [] u value whole p h = inl (ap (λ x. life_of x u) (sym p) ∙ h)
ended_on c b n (e ∷ es) u value whole p h =
    elim (one_ended c b p.0 e u value (life_goes c b p.0 e u whole p.1) h) [
      | inl q ↦ ended_on c p.0 n es u value (whole_stays c b p.0 e whole p.1) p.3 q
      | inr q ↦ inr (joined_on c p.0 n es u (whole_stays c b p.0 e whole p.1) p.3 q)
    ]

-- ---- as the laws have it

pub unborn_before : (c : CaseData) (before after : List Entry) (b n : Both) (u : ℕ) → Leads c (begin c) before b → Leads c (begin c) (before ++ after) n → life_of n u ≡ Unborn → life_of b u ≡ Unborn
unborn_before c before after b n u p q h =
    let half = halfway c (begin c) n before after q in
    let same = leads_same c (begin c) half.middle b before half.before p in
    ap (λ x. life_of x u) (sym same) ∙ unborn_on c half.middle n after u (steady_from c half.middle before half.before).whole half.after h

pub joined_after : (c : CaseData) (before after : List Entry) (b n : Both) (u : ℕ) → Leads c (begin c) before b → Leads c b after n → life_of b u ≡ Joined → life_of n u ≡ Joined
joined_after c before after b n u p q h = joined_on c b n after u (steady_from c b before p).whole q h

pub ended_after : (c : CaseData) (before after : List Entry) (b n : Both) (u value : ℕ) → Leads c (begin c) before b → Leads c b after n → life_of b u ≡ Ended value → IsPast value (life_of n u)
ended_after c before after b n u value p q h = ended_on c b n after u value (steady_from c b before p).whole q h

-- ---- the thread in a slot

number_lives : (u : ℕ) (life : Life) → is_running life ≡ true → live_number u life ≡ Some u
number_lives u Unborn h = absurd (let e : false ≡ true = h in cc)
number_lives u (Live a b) h = refl
number_lives u (Ended v) h = absurd (let e : false ≡ true = h in cc)
number_lives u Joined h = absurd (let e : false ≡ true = h in cc)

-- a live thread is the one of its slot
pub live_there : (l : LibraryData) (u : ℕ) → is_running (life_at l u) ≡ true → thread_in l (slot_of u) ≡ Some u
live_there l u live =
    let next = live_next l u live in
    let runs : is_running (slot_at l (slot_of u)).life ≡ true = ap is_running (sym (own_life l u next)) ∙ live in
    number_lives _ (slot_at l (slot_of u)).life runs ∙ ap (λ g. Some (number_in (slot_of u) g)) next ∙ ap (λ x. Some x) (number_back u)

-- one that has ended is in its slot, and none lives there
ended_there : (l : LibraryData) (u value : ℕ) → life_at l u ≡ Ended value → thread_in l (slot_of u) ≡ None
ended_there l u value h =
    let next = kept-next l u (ap is_kept h) in
    ap (live_number _) (sym (own_life l u next) ∙ h)

-- where the thread of a slot made an entry, it is the slot's thread afterwards, or it ended
own_thread : (c : CaseData) (b n : Both) (e : Entry) (u : ℕ) → is_live b.machine u ≡ true → LifeGoes c b n e u → (thread_in n.machine.library (slot_of u) ≡ Some u) ⊎ (thread_in n.machine.library (slot_of u) ≡ None)
own_thread c b n e u live (Stays same) = inl (live_there n.machine.library u (ap is_running same ∙ live))
own_thread c b n e u live (Begun x) = clash (is_live b.machine u) live (ap is_running x.before)
own_thread c b n e u live (Finished x) = inr (ended_there n.machine.library u x.value x.after)
own_thread c b n e u live (Taken x) = clash (is_live b.machine u) live (ap is_running x.before)

-- the thread that an entry of a slot names
named : (b : Both) (e : Entry) (o : Option ℕ) (s : ℕ) → s < 64 → s ≡ slot_named o → thread_of e ≡ o → lives b.machine o ≡ true → (u : ℕ) × (thread_of e ≡ Some u) × (s ≡ slot_of u) × (is_live b.machine u ≡ true)
named b e None s low here is live = absurd (omega (arith, low, here))
named b e (Some u) s low here is live = (u, is, here, live)

-- ---- a thread without an entry

new_same : (c : CaseData) (b n : Both) (s : ℕ) → IsSame b n s → IsNew c b s → IsNew c n s
new_same c b n s p h = record {
  core = p.core ∙ h.core ∙ ap (starting_core c s) (sym p.birth);
  writes = p.writes ∙ h.writes;
  spot = p.spot ∙ h.spot;
}

new_born : (c : CaseData) (b n : Both) (s : ℕ) → IsBorn b n s → IsNew c n s
new_born c b n s p = record {
  core = p.core ∙ ap (starting_core c s) (sym p.birth);
  writes = p.writes;
  spot = p.spot;
}

-- the threads of which something holds are as they were born
abbrev AreNew : CaseData → Both → (ℕ → Type 0) → Type 0
AreNew c b Q = (s t : ℕ) → s < 64 → thread_in b.machine.library s ≡ Some t → Q t → IsNew c b s

new_other : (c : CaseData) (b n : Both) (Q : ℕ → Type 0) (s t : ℕ) → AreNew c b Q → s < 64 → thread_in n.machine.library s ≡ Some t → Q t → Leaves b n s → IsNew c n s
new_other c b n Q s t new low there q (inl same) = new_same c b n s same (new s t low (sym same.thread ∙ there) q)
new_other c b n Q s t new low there q (inr born) = new_born c b n s born

new_own : {P : Type 0} (c : CaseData) (b n : Both) (e : Entry) (s t u : ℕ) → s ≡ slot_of u → thread_of e ≡ Some u → thread_of e ≢ Some t → thread_in n.machine.library s ≡ Some t → (thread_in n.machine.library (slot_of u) ≡ Some u) ⊎ (thread_in n.machine.library (slot_of u) ≡ None) → P
new_own c b n e s t u here is apart there (inl q) = absurd (apart (is ∙ sym q ∙ ap (thread_in n.machine.library) (sym here) ∙ there))
new_own c b n e s t u here is apart there (inr q) = absurd (none-some t (sym q ∙ ap (thread_in n.machine.library) (sym here) ∙ there))

new_stays : (c : CaseData) (b n : Both) (e : Entry) (Q : ℕ → Type 0) → IsSteady c b → advance c b e ≡ Some n → AreNew c b Q → AreNew c n (λ t. Q t × (thread_of e ≢ Some t))
new_stays c b n e Q steady p new s t low there q =
    elim (cases_eq s (slot_in e)) [
      | inl same ↦
          let m = made_of c b n e p in
          let w = named b e (thread_of e) s low same refl m.is.live in
          new_own c b n e s t w.0 w.2 w.1 q.1 there (own_thread c b n e w.0 w.3 (life_goes c b n e w.0 steady.whole p))
      | inr other ↦ new_other c b n Q s t new low there q.0 (leaves_other c b n e s steady p low other)
    ]

new_on : (c : CaseData) (b n : Both) (es : List Entry) (Q : ℕ → Type 0) → IsSteady c b → Leads c b es n → AreNew c b Q → AreNew c n (λ t. Q t × All (λ e. thread_of e ≢ Some t) es)
unfolding Leads
new_on c b n [] Q steady p new s t low there q = subst (λ x. IsNew c x s) p (new s t low (ap (λ (x : Both). thread_in x.machine.library s) p ∙ there) q.0)
new_on c b n (e ∷ es) Q steady p new s t low there q =
    new_on c p.0 n es (λ u. Q u × (thread_of e ≢ Some u)) (steady_stays c b p.0 e steady p.1) p.3 (new_stays c b p.0 e Q steady p.1 new) s t low there ((q.0, All-head (λ x. thread_of x ≢ Some t) e es q.1), All-tail (λ x. thread_of x ≢ Some t) e es q.1)

-- ---- at the start

-- slot 0 has thread 0, and the others have none
abbrev first_slots : List Slot
first_slots = record { generation = 0; life = Live 0 0 } ∷ replicate 63 new_slot

rest_free : (k : ℕ) → k < 63 → slice_index_or first_slots (suc k) new_slot ≡ new_slot
rest_free k low = get_or-replicate 63 k new_slot new_slot low

first_alone : (c : CaseData) (s t : ℕ) → s < 64 → thread_in (start c).library s ≡ Some t → s ≡ 0
unfolding start
first_alone c zero t low there = refl
first_alone c (suc k) t low there = absurd (none-some t (sym (ap (λ (x : Slot). live_number (number_in (suc k) x.generation) x.life) (rest_free k (omega arith))) ∙ there))

first_new : (c : CaseData) → IsNew c (begin c) 0
unfolding begin start
first_new c = record {
  core = get_or-set_same (replicate 64 no_core) 0 (first_core c) no_core (omega (arith, length-replicate 64 no_core));
  writes = get_or-replicate 64 0 [] [] (omega arith);
  spot = get_or-replicate 64 0 no_spot no_spot (omega arith);
}

new_at_start : (c : CaseData) → AreNew c (begin c) (λ t. ⊤)
unfolding begin
new_at_start c s t low there q = subst (IsNew c (begin c)) (sym (first_alone c s t low there)) (first_new c)

-- a live thread that no entry names is as it was born
pub new_from : (c : CaseData) (journal : List Entry) (n : Both) (s t : ℕ) → Leads c (begin c) journal n → s < 64 → thread_in n.machine.library s ≡ Some t → All (λ e. thread_of e ≢ Some t) journal → IsNew c n s
new_from c journal n s t p low there none = new_on c (begin c) n journal (λ u. ⊤) (steady_begin c) p (new_at_start c) s t low there (tt, none)

-- ---- a slot without a thread

-- its core has no calls back
abbrev HasNone : Both → Type 0
HasNone b = (s : ℕ) → s < 64 → is_in_use b.machine.library s ≡ false → (core_at b.machine s).frames ≡ []

not_used : (l : LibraryData) (s : ℕ) → is_in_use l s ≡ false → thread_in l s ≡ None
not_used l s h = by (thread_in l s) (lives_in l s ∙ h)
  where
    by : (o : Option ℕ) → is_some o ≡ false → o ≡ None
    by None h = refl
    by (Some u) h = absurd (let e : true ≡ false = h in cc)

used_not : (l : LibraryData) (s : ℕ) → thread_in l s ≡ None → is_in_use l s ≡ false
used_not l s h = sym (lives_in l s) ∙ ap is_some h

none_other : (b n : Both) (s : ℕ) → HasNone b → s < 64 → is_in_use n.machine.library s ≡ false → Leaves b n s → (core_at n.machine s).frames ≡ []
none_other b n s all low dead (inl same) = ap (λ (x : Core). x.frames) same.core ∙ all s low (used_not b.machine.library s (sym same.thread ∙ not_used n.machine.library s dead))
none_other b n s all low dead (inr born) = absurd (none-some born.born.thread (sym (not_used n.machine.library s dead) ∙ born.thread))

none_own : (c : CaseData) (b n : Both) (e : Entry) (s u : ℕ) → s ≡ slot_of u → is_live b.machine u ≡ true → is_in_use n.machine.library s ≡ false → LifeGoes c b n e u → (core_at n.machine s).frames ≡ []
none_own c b n e s u here live dead (Stays same) = clash (is_in_use n.machine.library s) (ap (is_in_use n.machine.library) here ∙ live_slot n.machine u (ap is_running same ∙ live)) dead
none_own c b n e s u here live dead (Begun x) = clash (is_live b.machine u) live (ap is_running x.before)
none_own c b n e s u here live dead (Finished x) = ap (λ k. (core_at n.machine k).frames) here ∙ x.frames.1
none_own c b n e s u here live dead (Taken x) = clash (is_live b.machine u) live (ap is_running x.before)

none_stays : (c : CaseData) (b n : Both) (e : Entry) → IsSteady c b → advance c b e ≡ Some n → HasNone b → HasNone n
none_stays c b n e steady p all s low dead =
    elim (cases_eq s (slot_in e)) [
      | inl same ↦
          let m = made_of c b n e p in
          let w = named b e (thread_of e) s low same refl m.is.live in
          none_own c b n e s w.0 w.2 w.3 dead (life_goes c b n e w.0 steady.whole p)
      | inr other ↦ none_other b n s all low dead (leaves_other c b n e s steady p low other)
    ]

none_on : (c : CaseData) (b n : Both) (es : List Entry) → IsSteady c b → Leads c b es n → HasNone b → HasNone n
unfolding Leads
none_on c b n [] steady p all = subst HasNone p all
none_on c b n (e ∷ es) steady p all = none_on c p.0 n es (steady_stays c b p.0 e steady p.1) p.3 (none_stays c b p.0 e steady p.1 all)

none_at_start : (c : CaseData) → HasNone (begin c)
unfolding begin start
none_at_start c zero low dead = absurd (let e : true ≡ false = dead in cc)
none_at_start c (suc k) low dead =
    let other : suc k ≢ 0 = omega arith in
    ap (λ (x : Core). x.frames) (get_or-set_other (replicate 64 no_core) 0 (suc k) (first_core c) no_core other ∙ get_or-replicate 64 (suc k) no_core no_core low)

-- in a slot without a thread no call back is under way, no write waits, and its next thread begins between blocks
pub free_from : (c : CaseData) (journal : List Entry) (n : Both) (s : ℕ) → Leads c (begin c) journal n → n.machine.ending ≡ None → s < 64 → thread_in n.machine.library s ≡ None → ((core_at n.machine s).frames ≡ []) × (list_at n.machine s ≡ []) × (spot_at n.gate s ≡ no_spot)
free_from c journal n s p going low none =
    let dead = used_not n.machine.library s none in
    let settled = (steady_from c n journal p).settled going s low in
    (none_on c (begin c) n journal (steady_begin c) p (none_at_start c) s low dead, settled.empty dead, settled.free dead)

-- ---- slot 0

pub first_lives : (c : CaseData) (journal : List Entry) (n : Both) → Leads c (begin c) journal n → thread_in n.machine.library 0 ≡ Some 0
unfolding number_in
first_lives c journal n p = ap (λ (x : Slot). live_number (number_in 0 x.generation) x.life) (steady_from c n journal p).first

pub lives_go : (c : CaseData) (journal : List Entry) (b n : Both) (e : Entry) (u : ℕ) → Leads c (begin c) journal b → advance c b e ≡ Some n → LifeGoes c b n e u
lives_go c journal b n e u p q = life_goes c b n e u (steady_from c b journal p).whole q
