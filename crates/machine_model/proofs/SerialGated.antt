-- Every journal of the serial order is gated.
use Rattle.std.proofs.Common.{◌≡◌, ℕ, zero, suc, ◌+◌, ◌-◌, ◌*◌, ◌<◌, ◌≤◌, Bool, true, false, cond, List, [], ◌∷◌, ◌++◌, Option, Some, None, refl, sym, ap, ◌∙◌, subst, arith, ◌==◌, ◌||◌, not, nat_lt, nat_le, length, length-set, ◌⊎◌, inl, inr}
use Rattle.std.specs.Prelude.{option_and_then, filter, count_by}
use Rattle.std.proofs.lemmas.Bool.Decides.{nat_tests}
use Rattle.std.proofs.lemmas.List.{append-nil, append_assoc, get_or-set_same, length-replicate}
use Rattle.std.proofs.lemmas.List.Sums.{length-filter}
use Rattle.std.proofs.lemmas.Option.{option_and_then_some, none-some, same_Some, cond_some}
use Rattle.elf_image.specs.Layout.{ImageData}
use Rattle.address_space.specs.Slots.{slot_of}
use Rattle.address_space.proofs.Numbers.{slot_below}
use Rattle.x86_model.specs.declared.cpu.Cpu.{Cpu}
use Rattle.x86_model.specs.Want.{want}
use Rattle.basic_blocks.specs.Reach.{is_among, IsReach}
use Rattle.journal_pack.specs.declared.entry.Entry.{Entry}
use Rattle.journal_pack.specs.declared.entry.Entry.TheVariants.{Ev, Tick, Flush, Wait, Miss, Grow, Over, Full, Dead}
use Rattle.journal_pack.specs.Entry.{private_of}
use Rattle.machine_model.specs.declared.ending.RunEnd.{RunEnd}
use Rattle.machine_model.specs.CaseData.{CaseData}
use Rattle.machine_model.specs.State.{slots, list_at, thread_in}
use Rattle.machine_model.specs.Step.{cpu_at, slot_in, waits_at}
use Rattle.machine_model.specs.Play.{walk}
use Rattle.machine_model.specs.Gated.{Gate, Spot, Both, Stand, Latest, Growing, no_spot, spot_at, spot_last, spot_after, gate_with, gated_steps, pass, IsAllowed, IsGrowth, IsWithinReach, advance, begin, Leads, most_grown}
use Rattle.machine_model.specs.Serial.{Rules, Reaches, AreReaches, Turn, Point, point_of, with_entry, arrived, make, Rule, AtLimit, AtMiss, AtMost, AtEvent, GoesOn, rule_at, stop_from, flush, flush_some, flushed_before, told_waiting, event_by, event, grow_all, ungrown, grow_if, grow_reach, full_or, after_miss, miss, act, is_over, unless_over, turn_from, flush_if, flush_old, aged, settled, settle, turn, Run, turn_in, run_after, turn_of, turn_unless, one_turn, with_dead, dead_if, round, rounds_on, rounds, at_start, serial_by}
use Rattle.machine_model.proofs.Costs.{came}
use Rattle.machine_model.proofs.Gates.{leads_more, leads_on, not_grown_yet, grown_after}

-- ---- spots

pass_spots : (image : ImageData) (e : Entry) (before after : Cpu) (g n : Gate) → pass image e before after g ≡ Some n → length n.spots ≡ length g.spots
unfolding pass
pass_spots image e before after g n p =
    option_and_then_some (λ spot. Some (gate_with e g spot)) (spot_after image g.grown e before after (spot_at g (slot_in e))) n p
    (λ spot _ q. subst (λ x. length x.spots ≡ length g.spots) (same_Some _ n q) (length-set g.spots (slot_in e) spot))

pub spots_stay : (c : CaseData) (b n : Both) (e : Entry) → advance c b e ≡ Some n → length n.gate.spots ≡ length b.gate.spots
spots_stay c b n e p = pass_spots c.image e _ _ b.gate n.gate (came c b n e p).passed

pub spots_on : (c : CaseData) (b n : Both) (es : List Entry) → Leads c b es n → length n.gate.spots ≡ length b.gate.spots
unfolding Leads
spots_on c b n [] p = ap (λ (x : Both). length x.gate.spots) (sym p)
spots_on c b n (e ∷ es) p = spots_on c p.0 n es p.3 ∙ spots_stay c b p.0 e p.1

-- there is a spot for each slot
pub spots_from : (c : CaseData) (n : Both) (es : List Entry) → Leads c (begin c) es n → length n.gate.spots ≡ 64
unfolding begin
spots_from c n es p = spots_on c (begin c) n es p ∙ length-replicate 64 no_spot

-- what an entry leaves of its own thread's spot
pub record Spotted (c : CaseData) (b n : Both) (e : Entry) : Type 0 where
  pub stand : Stand
  pub spot : Spot
  pub ahead : gated_steps c.image b.gate.grown (private_of e) (record { cpu = cpu_at b.machine (slot_in e); left = (spot_at b.gate (slot_in e)).left }) ≡ Some stand
  pub last : spot_last c.image b.gate.grown e (cpu_at n.machine (slot_in e)) (spot_at b.gate (slot_in e)) stand ≡ Some spot
  pub same : n.gate ≡ gate_with e b.gate spot

pub spotted : (c : CaseData) (b n : Both) (e : Entry) → advance c b e ≡ Some n → Spotted c b n e
unfolding pass
spotted c b n e p =
    let after = cpu_at n.machine (slot_in e) in
    let own = spot_at b.gate (slot_in e) in
    let from : Stand = record { cpu = cpu_at b.machine (slot_in e); left = own.left } in
    option_and_then_some (λ spot. Some (gate_with e b.gate spot)) (spot_after c.image b.gate.grown e (cpu_at b.machine (slot_in e)) after own) n.gate (came c b n e p).passed (λ spot q r.
    option_and_then_some (spot_last c.image b.gate.grown e after own) (gated_steps c.image b.gate.grown (private_of e) from) spot q (λ s v w.
    record { stand = s; spot = spot; ahead = v; last = w; same = sym (same_Some _ n.gate r) }))

pub spot_then : (c : CaseData) (b n : Both) (e : Entry) (h : Spotted c b n e) → slot_in e < length b.gate.spots → spot_at n.gate (slot_in e) ≡ h.spot
spot_then c b n e h lt = ap (λ (g : Gate). spot_at g (slot_in e)) h.same ∙ get_or-set_same b.gate.spots (slot_in e) h.spot no_spot lt

-- ---- entries of a turn

-- the machine and the gate, and all entries so far, at some moment before
pub record Origin : Type 0 where
  pub both : Both
  pub journal : List Entry

-- further entries lead from there to here
pub record Follows (c : CaseData) (o : Origin) (n : Both) (journal : List Entry) : Type 0 where
  pub more : List Entry
  pub added : o.journal ++ more ≡ journal
  pub leads : Leads c o.both more n
  pub spots : length o.both.gate.spots ≡ 64

pub follows_itself : (c : CaseData) (b : Both) (journal : List Entry) → length b.gate.spots ≡ 64 → Follows c (record { both = b; journal = journal }) b journal
unfolding Leads
follows_itself c b journal spots = record { more = []; added = append-nil journal; leads = refl; spots = spots }

pub follows_more : (c : CaseData) (o : Origin) (m n : Both) (journal : List Entry) (e : Entry) → Follows c o m journal → advance c m e ≡ Some n → IsAllowed c.image m.gate e → Follows c o n (journal ++ e ∷ [])
follows_more c o m n journal e h p ok = record {
  more = h.more ++ e ∷ [];
  added = sym (append_assoc o.journal h.more (e ∷ [])) ∙ ap (λ j. j ++ e ∷ []) h.added;
  leads = leads_more c o.both m n h.more e h.leads p ok;
  spots = h.spots;
}

spots_now : (c : CaseData) (o : Origin) (n : Both) (journal : List Entry) → Follows c o n journal → length n.gate.spots ≡ 64
spots_now c o n journal h = spots_on c o.both n h.more h.leads ∙ h.spots

-- from the start a gated journal is one that follows
pub gated_follows : (c : CaseData) (o : Origin) (n : Both) (journal : List Entry) → Leads c (begin c) o.journal o.both → Follows c o n journal → Leads c (begin c) journal n
gated_follows c o n journal leads h = subst (λ j. Leads c (begin c) j n) h.added (leads_on c (begin c) o.both n o.journal h.more leads h.leads)

abbrev pub Along : CaseData → Origin → Turn → Type 0
Along c o s = Follows c o s.both s.journal

-- an entry was made
pub record Made (c : CaseData) (e : Entry) (s x : Turn) : Type 0 where
  pub both : Both
  pub came : advance c s.both e ≡ Some both
  pub is : with_entry e s both ≡ x

made_if : (c : CaseData) (e : Entry) (s x : Turn) (o : Option Both) → advance c s.both e ≡ o → arrived e s o ≡ Some x → Made c e s x
made_if c e s x None p q = absurd (none-some x q)
made_if c e s x (Some n) p q = record { both = n; came = p; is = same_Some (with_entry e s n) x q }

pub made : (c : CaseData) (e : Entry) (s x : Turn) → make c e s ≡ Some x → Made c e s x
unfolding make
made c e s x p = made_if c e s x (advance c s.both e) refl p

pub along_on : (c : CaseData) (o : Origin) (e : Entry) (s x : Turn) → IsAllowed c.image s.both.gate e → Along c o s → make c e s ≡ Some x → Along c o x
along_on c o e s x ok a p =
    let m = made c e s x p in
    subst (λ y. Along c o y) m.is (follows_more c o s.both m.both s.journal e a m.came ok)

flush_goes : (c : CaseData) (o : Origin) (t : ℕ) (s x : Turn) → Along c o s → flush c t s ≡ Some x → Along c o x
flush_goes c o t s x a p = along_on c o (Flush t) _ x tt a p

pub flush_some_goes : (c : CaseData) (o : Origin) (t n : ℕ) (s x : Turn) → Along c o s → flush_some c t n s ≡ Some x → Along c o x
unfolding flush_some
flush_some_goes c o t zero s x a p = subst (λ y. Along c o y) (same_Some s x p) a
flush_some_goes c o t (suc n) s x a p =
    option_and_then_some (flush_some c t n) (flush c t s) x p (λ y q r. flush_some_goes c o t n y x (flush_goes c o t s y a q) r)

told_goes : (c : CaseData) (o : Origin) (t k : ℕ) (s x : Turn) → Along c o s → told_waiting c t k s ≡ Some x → Along c o x
told_goes c o t zero s x a p = subst (λ y. Along c o y) (same_Some _ x p) a
told_goes c o t (suc k) s x a p = along_on c o (Wait t (suc k)) _ x tt a p

event_goes : (c : CaseData) (o : Origin) (t : ℕ) (p : Point) (s x : Turn) (b : Bool) → Along c o s → event_by c t p s b ≡ Some x → Along c o x
event_goes c o t p s x true a q = told_goes c o t p.k s x a q
event_goes c o t p s x false a q = along_on c o (Ev t p.k) _ x tt a q

-- ---- growth

le_of : (a b : ℕ) → nat_le a b ≡ true → a ≤ b
le_of a b h = grind (arith, nat_tests)

same_place : (a : ℕ) → (a == a) ≡ true
same_place a = grind arith

-- where a test is stronger, as many pass at most
kept_two : {X : Type 0} (x : X) (ps qs : List X) → length qs ≤ length ps → (a b : Bool) → (b ≡ true → a ≡ true) → length (cond b (x ∷ qs) qs) ≤ length (cond a (x ∷ ps) ps)
kept_two x ps qs le true true h = omega arith
kept_two x ps qs le true false h = omega arith
kept_two x ps qs le false true h = absurd (let e : false ≡ true = h refl in cc)
kept_two x ps qs le false false h = omega arith

kept_le : {X : Type 0} (p q : X → Bool) → ((x : X) → q x ≡ true → p x ≡ true) → (xs : List X) → length (filter q xs) ≤ length (filter p xs)
kept_le p q h [] = omega arith
kept_le p q h (x ∷ xs) = kept_two x (filter p xs) (filter q xs) (kept_le p q h xs) (p x) (q x) (h x)

-- fewer, where an element is lost
kept_less : {X : Type 0} (x : X) (ps qs : List X) (a b : Bool) → (b ≡ true → a ≡ true) → length qs + 1 ≤ length ps → length (cond b (x ∷ qs) qs) + 1 ≤ length (cond a (x ∷ ps) ps)
kept_less x ps qs true true h le = omega arith
kept_less x ps qs true false h le = omega arith
kept_less x ps qs false true h le = absurd (let e : false ≡ true = h refl in cc)
kept_less x ps qs false false h le = omega arith

fewer_here : (x a : ℕ) (ps qs xs : List ℕ) (p q : ℕ → Bool) (same : Bool) → (x == a) ≡ same → length qs ≤ length ps → (is_among xs a ≡ true → length qs + 1 ≤ length ps) → p a ≡ true → q a ≡ false → (q x ≡ true → p x ≡ true) → (same || is_among xs a) ≡ true → length (cond (q x) (x ∷ qs) qs) + 1 ≤ length (cond (p x) (x ∷ ps) ps)
fewer_here x a ps qs xs p q true e le more pa qa h m =
    let is : x ≡ a = grind (arith, nat_tests) in
    let px : p x ≡ true = ap p is ∙ pa in
    let qx : q x ≡ false = ap q is ∙ qa in
    rw (px, qx) (omega arith)
fewer_here x a ps qs xs p q false e le more pa qa h m = kept_less x ps qs (p x) (q x) h (more m)

pub fewer : (p q : ℕ → Bool) → ((x : ℕ) → q x ≡ true → p x ≡ true) → (a : ℕ) → p a ≡ true → q a ≡ false → (xs : List ℕ) → is_among xs a ≡ true → length (filter q xs) + 1 ≤ length (filter p xs)
fewer p q h a pa qa [] m = absurd (let e : false ≡ true = m in cc)
fewer p q h a pa qa (x ∷ xs) m =
    fewer_here x a (filter p xs) (filter q xs) xs p q (x == a) refl (kept_le p q h xs) (fewer p q h a pa qa xs) pa qa (h x) m

grown_less : (grown : List ℕ) (a x : ℕ) → not (is_among (a ∷ grown) x) ≡ true → not (is_among grown x) ≡ true
grown_less grown a x h = elim (a == x) as (λ b. not (b || is_among grown x) ≡ true → not (is_among grown x) ≡ true) [ true ↦ λ k. absurd (let e : false ≡ true = k in cc) | false ↦ λ k. k ] h

or_true : (b : Bool) → (b || true) ≡ true
or_true true = refl
or_true false = refl

-- one place more is grown, and one less of them isn't
ungrown_less : (grown places : List ℕ) (a : ℕ) → is_among grown a ≡ false → is_among places a ≡ true → length (ungrown (a ∷ grown) places) + 1 ≤ length (ungrown grown places)
ungrown_less grown places a out within =
    fewer (λ x. not (is_among grown x)) (λ x. not (is_among (a ∷ grown) x)) (grown_less grown a) a (ap not out) (ap (λ b. not (b || is_among grown a)) (same_place a)) places within

-- a thread whose latest entry is a miss of this target, with nothing but growth since
pub record Missing (c : CaseData) (o : Origin) (t g : ℕ) (s : Turn) : Type 0 where
  pub along : Along c o s
  pub latest : (spot_at s.both.gate (slot_of t)).latest ≡ Growing g

-- and the target is grown, and with all that is reached from it there are not too many
pub record Grows (c : CaseData) (o : Origin) (t g : ℕ) (places : List ℕ) (s : Turn) : Type 0 where
  pub along : Along c o s
  pub latest : (spot_at s.both.gate (slot_of t)).latest ≡ Growing g
  pub target : is_among s.both.gate.grown g ≡ true
  pub fits : length s.both.gate.grown + length (ungrown s.both.gate.grown places) ≤ most_grown

last_grow : (image : ImageData) (grown : List ℕ) (t a : ℕ) (after : Cpu) (spot next : Spot) (s : Stand) → spot_last image grown (Grow t a) after spot s ≡ Some next → spot ≡ next
last_grow image grown t a after spot next s p = (cond_some _ spot next p).1

-- growth keeps what the entries were lately
latest_grow : (c : CaseData) (b n : Both) (t a : ℕ) → length b.gate.spots ≡ 64 → advance c b (Grow t a) ≡ Some n → spot_at n.gate (slot_of t) ≡ spot_at b.gate (slot_of t)
latest_grow c b n t a count p =
    let h = spotted c b n (Grow t a) p in
    let low = slot_below t in
    let lt : slot_of t < length b.gate.spots = omega (arith, low, count) in
    spot_then c b n (Grow t a) h lt ∙ sym (last_grow c.image b.gate.grown t a (cpu_at n.machine (slot_of t)) (spot_at b.gate (slot_of t)) h.spot h.stand h.last)

is_growth : (image : ImageData) (grown : List ℕ) (a g : ℕ) (l : Latest) → l ≡ Growing g → ((a ≡ g) ⊎ ((is_among grown g ≡ true) × IsWithinReach image grown g a)) → IsGrowth image grown a l
is_growth image grown a g l e h = subst (λ x. IsGrowth image grown a x) (sym e) h

grow_one : (c : CaseData) (o : Origin) (t g a : ℕ) (places : List ℕ) (s x : Turn) → IsReach c.image (g ∷ []) places → is_among places a ≡ true → Grows c o t g places s → make c (Grow t a) s ≡ Some x → Grows c o t g places x
grow_one c o t g a places s x reach member h p =
    let m = made c (Grow t a) s x p in
    let grown = s.both.gate.grown in
    let few : length grown + count_by (λ q. not (is_among grown q)) places ≤ most_grown = subst (λ n. length grown + n ≤ most_grown) (length-filter (λ q. not (is_among grown q)) places) h.fits in
    let ok : IsAllowed c.image s.both.gate (Grow t a) = is_growth c.image grown a g _ h.latest (inr (h.target, record { places = places; reach = reach; member = member; fits = few })) in
    let after : m.both.gate.grown ≡ a ∷ grown = grown_after c s.both m.both (Grow t a) m.came in
    let less = ungrown_less grown places a (not_grown_yet c s.both m.both t a m.came) member in
    let spots = spots_now c o s.both s.journal h.along in
    subst (λ y. Grows c o t g places y) m.is (record {
      along = follows_more c o s.both m.both s.journal (Grow t a) h.along m.came ok;
      latest = ap (λ (z : Spot). z.latest) (latest_grow c s.both m.both t a spots m.came) ∙ h.latest;
      target = subst (λ y. is_among y g ≡ true) (sym after) (ap (λ b. (a == g) || b) h.target ∙ or_true (a == g));
      fits = subst (λ y. length y + length (ungrown y places) ≤ most_grown) (sym after) (omega (arith, less, h.fits));
    })

-- the elements of one list are among another
abbrev pub Among : List ℕ → List ℕ → Type 0
Among xs ys = (a : ℕ) → is_among xs a ≡ true → is_among ys a ≡ true

among_tail : (x : ℕ) (xs ys : List ℕ) → Among (x ∷ xs) ys → Among xs ys
among_tail x xs ys h a m = h a (ap (λ b. (x == a) || b) m ∙ or_true (x == a))

among_head : (x : ℕ) (xs ys : List ℕ) → Among (x ∷ xs) ys → is_among ys x ≡ true
among_head x xs ys h = h x (ap (λ b. b || is_among xs x) (same_place x))

among_kept : (p : ℕ → Bool) (x a : ℕ) (xs fs : List ℕ) (keeps : Bool) → (is_among fs a ≡ true → is_among xs a ≡ true) → is_among (cond keeps (x ∷ fs) fs) a ≡ true → is_among (x ∷ xs) a ≡ true
among_kept p x a xs fs true h m = elim (x == a) as (λ b. (b || is_among fs a) ≡ true → (b || is_among xs a) ≡ true) [ true ↦ λ k. refl | false ↦ λ k. h k ] m
among_kept p x a xs fs false h m = ap (λ b. (x == a) || b) (h m) ∙ or_true (x == a)

pub filter_among : (p : ℕ → Bool) (xs : List ℕ) → Among (filter p xs) xs
filter_among p [] a m = m
filter_among p (x ∷ xs) a m = among_kept p x a xs (filter p xs) (p x) (filter_among p xs a) m

pub grow_all_goes : (c : CaseData) (o : Origin) (t g : ℕ) (places more : List ℕ) (s x : Turn) → IsReach c.image (g ∷ []) places → Among more places → Grows c o t g places s → grow_all c t more s ≡ Some x → Along c o x
unfolding grow_all
grow_all_goes c o t g places [] s x reach members h p = subst (λ y. Along c o y) (same_Some s x p) h.along
grow_all_goes c o t g places (a ∷ more) s x reach members h p =
    option_and_then_some (grow_all c t more) (make c (Grow t a) s) x p (λ y q r.
    grow_all_goes c o t g places more y x reach (among_tail a more places members) (grow_one c o t g a places s y reach (among_head a more places members) h q) r)

grow_if_goes : (c : CaseData) (o : Origin) (t g : ℕ) (places : List ℕ) (s x : Turn) (b : Bool) → IsReach c.image (g ∷ []) places → Missing c o t g s → is_among s.both.gate.grown g ≡ true → nat_le (length s.both.gate.grown + length (ungrown s.both.gate.grown places)) most_grown ≡ b → grow_if c t (ungrown s.both.gate.grown places) s b ≡ Some x → Along c o x
grow_if_goes c o t g places s x true reach h target fits p =
    let few : length s.both.gate.grown + length (ungrown s.both.gate.grown places) ≤ most_grown = le_of _ _ fits in
    grow_all_goes c o t g places (ungrown s.both.gate.grown places) s x reach (filter_among _ places) (record { along = h.along; latest = h.latest; target = target; fits = few }) p
grow_if_goes c o t g places s x false reach h target fits p = subst (λ y. Along c o y) (same_Some s x p) h.along

-- the target of a miss is grown first
grow_target : (c : CaseData) (o : Origin) (t g : ℕ) (s x : Turn) → Missing c o t g s → make c (Grow t g) s ≡ Some x → Missing c o t g x × (is_among x.both.gate.grown g ≡ true)
grow_target c o t g s x h p =
    let m = made c (Grow t g) s x p in
    let ok : IsAllowed c.image s.both.gate (Grow t g) = is_growth c.image s.both.gate.grown g g _ h.latest (inl refl) in
    let after : m.both.gate.grown ≡ g ∷ s.both.gate.grown = grown_after c s.both m.both (Grow t g) m.came in
    let spots = spots_now c o s.both s.journal h.along in
    subst (λ y. Missing c o t g y × (is_among y.both.gate.grown g ≡ true)) m.is (
      record {
        along = follows_more c o s.both m.both s.journal (Grow t g) h.along m.came ok;
        latest = ap (λ (z : Spot). z.latest) (latest_grow c s.both m.both t g spots m.came) ∙ h.latest;
      },
      subst (λ y. is_among y g ≡ true) (sym after) (ap (λ b. b || is_among s.both.gate.grown g) (same_place g)),
    )

full_or_goes : (c : CaseData) (o : Origin) (reach : Reaches) (t g : ℕ) (s x : Turn) (b : Bool) → AreReaches c.image reach → Missing c o t g s → full_or c reach t g s b ≡ Some x → Along c o x
full_or_goes c o reach t g s x true right h p = along_on c o (Full t) s x tt h.along p
full_or_goes c o reach t g s x false right h p =
    option_and_then_some (grow_reach c t (reach g)) (make c (Grow t g) s) x p (λ y q r.
    let n = grow_target c o t g s y h q in
    grow_if_goes c o t g (reach g) y x (nat_le (length y.both.gate.grown + length (ungrown y.both.gate.grown (reach g))) most_grown) (right g) n.0 n.1 refl r)

pub after_miss_goes : (c : CaseData) (o : Origin) (reach : Reaches) (t g : ℕ) (strict : Bool) (s x : Turn) → AreReaches c.image reach → Missing c o t g s → after_miss c reach t g strict s ≡ Some x → Along c o x
after_miss_goes c o reach t g true s x right h p = subst (λ y. Along c o y) (same_Some s x p) h.along
after_miss_goes c o reach t g false s x right h p = full_or_goes c o reach t g s x (length s.both.gate.grown == most_grown) right h p

last_miss : (image : ImageData) (grown : List ℕ) (t k source target : ℕ) (after : Cpu) (spot next : Spot) (s : Stand) → spot_last image grown (Miss t k source target) after spot s ≡ Some next → next.latest ≡ Growing target
last_miss image grown t k source target after spot next s p = ap (λ (z : Spot). z.latest) (sym (cond_some _ _ next p).1)

pub miss_made : (c : CaseData) (o : Origin) (t k source target : ℕ) (s x : Turn) → Along c o s → make c (Miss t k source target) s ≡ Some x → Missing c o t target x
miss_made c o t k source target s x a p =
    let e = Miss t k source target in
    let m = made c e s x p in
    let h = spotted c s.both m.both e m.came in
    let low = slot_below t in
    let count = spots_now c o s.both s.journal a in
    let lt : slot_of t < length s.both.gate.spots = omega (arith, low, count) in
    subst (λ y. Missing c o t target y) m.is (record {
      along = follows_more c o s.both m.both s.journal e a m.came tt;
      latest = ap (λ (z : Spot). z.latest) (spot_then c s.both m.both e h lt) ∙ last_miss c.image s.both.gate.grown t k source target (cpu_at m.both.machine (slot_of t)) (spot_at s.both.gate (slot_of t)) h.spot h.stand h.last;
    })

miss_goes : (c : CaseData) (o : Origin) (reach : Reaches) (t : ℕ) (p : Point) (s x : Turn) → AreReaches c.image reach → Along c o s → miss c reach t p s ≡ Some x → Along c o x
miss_goes c o reach t p s x right a q =
    option_and_then_some (after_miss c reach t p.stand.cpu.rip c.strict) (make c (Miss t p.k p.stand.cpu.last p.stand.cpu.rip) s) x q (λ y r w.
    after_miss_goes c o reach t p.stand.cpu.rip c.strict y x right (miss_made c o t p.k p.stand.cpu.last p.stand.cpu.rip s y a r) w)

-- ---- turns

pub act_goes : (c : CaseData) (o : Origin) (reach : Reaches) (t : ℕ) (p : Point) (s x : Turn) (r : Rule) → AreReaches c.image reach → Along c o s → act c reach t p s r ≡ Some x → Along c o x
act_goes c o reach t p s x AtLimit right a q = along_on c o (Over t p.k) s x tt a q
act_goes c o reach t p s x AtMiss right a q = miss_goes c o reach t p s x right a q
act_goes c o reach t p s x AtMost right a q = along_on c o (Tick t p.k) s x tt a q
act_goes c o reach t p s x AtEvent right a q =
    let n = flushed_before (want c.image p.stand.cpu) (length (list_at s.both.machine (slot_of t))) in
    option_and_then_some (event c t p) (flush_some c t n s) x q (λ y r w.
    event_goes c o t p y x (waits_at c.image y.both.machine t p.stand.cpu) (flush_some_goes c o t n s y a r) w)
act_goes c o reach t p s x GoesOn right a q = absurd (none-some x q)

pub unless_over_goes : (c : CaseData) (o : Origin) (on : Turn → Option Turn) (s x : Turn) (b : Bool) → ((y z : Turn) → Along c o y → on y ≡ Some z → Along c o z) → Along c o s → unless_over on s b ≡ Some x → Along c o x
unless_over_goes c o on s x true h a p = subst (λ y. Along c o y) (same_Some s x p) a
unless_over_goes c o on s x false h a p = h s x a p

pub turn_from_goes : (c : CaseData) (o : Origin) (reach : Reaches) (t n : ℕ) (p : Point) (s x : Turn) → AreReaches c.image reach → Along c o s → turn_from c reach t n p s ≡ Some x → Along c o x
unfolding turn_from
turn_from_goes c o reach t zero p s x right a q = subst (λ y. Along c o y) (same_Some s x q) a
turn_from_goes c o reach t (suc n) p s x right a q =
    let stop = stop_from c s.both (4096 - p.k) p in
    let on : Turn → Option Turn = λ y. turn_from c reach t n (point_of y.both t) y in
    option_and_then_some (λ y. unless_over on y (is_over t y)) (act c reach t stop s (rule_at c s.both stop)) x q (λ y r w.
    unless_over_goes c o on y x (is_over t y) (λ u v b k. turn_from_goes c o reach t n (point_of u.both t) u v right b k) (act_goes c o reach t stop s y (rule_at c s.both stop) right a r) w)

flush_if_goes : (c : CaseData) (o : Origin) (t : ℕ) (on : Turn → Option Turn) (s x : Turn) (b : Bool) → ((y z : Turn) → Along c o y → on y ≡ Some z → Along c o z) → Along c o s → flush_if c t on s b ≡ Some x → Along c o x
flush_if_goes c o t on s x true h a p = option_and_then_some on (flush c t s) x p (λ y q r. h y x (flush_goes c o t s y a q) r)
flush_if_goes c o t on s x false h a p = subst (λ y. Along c o y) (same_Some s x p) a

flush_old_goes : (c : CaseData) (o : Origin) (t hold : ℕ) (ages : List ℕ) (s x : Turn) → Along c o s → flush_old c t hold ages s ≡ Some x → Along c o x
unfolding flush_old
flush_old_goes c o t hold [] s x a p = subst (λ y. Along c o y) (same_Some s x p) a
flush_old_goes c o t hold (age ∷ ages) s x a p = flush_if_goes c o t (flush_old c t hold ages) s x (nat_lt hold age) (λ y z b k. flush_old_goes c o t hold ages y z b k) a p

pub settled_goes : (c : CaseData) (o : Origin) (t hold : ℕ) (s x : Turn) (end : Option RunEnd) → Along c o s → settled c t hold s end ≡ Some x → Along c o x
settled_goes c o t hold s x None a p = flush_old_goes c o t hold (aged s).ages (aged s) x a p
settled_goes c o t hold s x (Some e) a p = subst (λ y. Along c o y) (same_Some s x p) a

-- one turn from a gated journal on gives a gated one
pub turn_goes : (c : CaseData) (o : Origin) (reach : Reaches) (r : Rules) (t : ℕ) (p : Point) (s x : Turn) → AreReaches c.image reach → Along c o s → turn c reach r t p s ≡ Some x → Along c o x
unfolding turn
turn_goes c o reach r t p s x right a q =
    option_and_then_some (settle c t r.hold) (turn_from c reach t r.turn p s) x q (λ y w v.
    settled_goes c o t r.hold y x y.both.machine.ending (turn_from_goes c o reach t r.turn p s y right a w) v)

-- ---- rounds

abbrev pub RunsAlong : CaseData → Origin → Run → Type 0
RunsAlong c o run = Follows c o run.both run.journal

turn_of_goes : (c : CaseData) (o : Origin) (reach : Reaches) (r : Rules) (run next : Run) (s : ℕ) (who : Option ℕ) → AreReaches c.image reach → RunsAlong c o run → turn_of c reach r run s who ≡ Some next → RunsAlong c o next
turn_of_goes c o reach r run next s None right a p = subst (λ y. RunsAlong c o y) (same_Some run next p) a
turn_of_goes c o reach r run next s (Some t) right a p =
    option_and_then_some (λ x. Some (run_after run s x)) (turn c reach r t (point_of run.both t) (turn_in run s)) next p (λ x q w.
    subst (λ y. RunsAlong c o y) (same_Some _ next w) (turn_goes c o reach r t (point_of run.both t) (turn_in run s) x right a q))

turn_unless_goes : (c : CaseData) (o : Origin) (reach : Reaches) (r : Rules) (run next : Run) (s : ℕ) (end : Option RunEnd) → AreReaches c.image reach → RunsAlong c o run → turn_unless c reach r run s end ≡ Some next → RunsAlong c o next
turn_unless_goes c o reach r run next s None right a p = turn_of_goes c o reach r run next s (thread_in run.both.machine s) right a p
turn_unless_goes c o reach r run next s (Some e) right a p = subst (λ y. RunsAlong c o y) (same_Some run next p) a

pub one_turn_goes : (c : CaseData) (o : Origin) (reach : Reaches) (r : Rules) (run next : Run) (s : ℕ) → AreReaches c.image reach → RunsAlong c o run → one_turn c reach r run s ≡ Some next → RunsAlong c o next
unfolding one_turn
one_turn_goes c o reach r run next s right a p = turn_unless_goes c o reach r run next s run.both.machine.ending right a p

pub walk_keeps : {S E : Type 0} (P : S → Type 0) (f : S → E → Option S) → ((s n : S) (e : E) → P s → f s e ≡ Some n → P n) → (s n : S) (es : List E) → P s → walk f s es ≡ Some n → P n
unfolding walk
walk_keeps P f h s n [] a p = subst P (same_Some s n p) a
walk_keeps P f h s n (e ∷ es) a p = option_and_then_some (λ x. walk f x es) (f s e) n p (λ x q r. walk_keeps P f h x n es (h s x e a q) r)

with_dead_goes : (c : CaseData) (o : Origin) (run next : Run) (then : Option Both) → advance c run.both Dead ≡ then → RunsAlong c o run → with_dead run then ≡ Some next → RunsAlong c o next
with_dead_goes c o run next None e a p = absurd (none-some next p)
with_dead_goes c o run next (Some n) e a p = subst (λ y. RunsAlong c o y) (same_Some _ next p) (follows_more c o run.both n run.journal Dead a e tt)

dead_if_goes : (c : CaseData) (o : Origin) (run next : Run) (b : Bool) → RunsAlong c o run → dead_if c run b ≡ Some next → RunsAlong c o next
dead_if_goes c o run next true a p = with_dead_goes c o run next (advance c run.both Dead) refl a p
dead_if_goes c o run next false a p = subst (λ y. RunsAlong c o y) (same_Some run next p) a

pub round_goes : (c : CaseData) (o : Origin) (reach : Reaches) (r : Rules) (run next : Run) → AreReaches c.image reach → RunsAlong c o run → round c reach r run ≡ Some next → RunsAlong c o next
unfolding round
round_goes c o reach r run next right a p =
    option_and_then_some (λ after. dead_if c after (length after.journal == length run.journal)) (walk (one_turn c reach r) run slots) next p (λ after q w.
    dead_if_goes c o after next (length after.journal == length run.journal) (walk_keeps (RunsAlong c o) (one_turn c reach r) (λ s n e b k. one_turn_goes c o reach r s n e right b k) run after slots a q) w)

rounds_on_goes : (c : CaseData) (o : Origin) (on : Run → Option Run) (run next : Run) (end : Option RunEnd) → ((z : Run) → on run ≡ Some z → RunsAlong c o z) → RunsAlong c o run → rounds_on on run end ≡ Some next → RunsAlong c o next
rounds_on_goes c o on run next None h a p = h next p
rounds_on_goes c o on run next (Some e) h a p = subst (λ y. RunsAlong c o y) (same_Some run next p) a

pub rounds_goes : (c : CaseData) (o : Origin) (reach : Reaches) (r : Rules) (n : ℕ) (run next : Run) → AreReaches c.image reach → RunsAlong c o run → rounds c reach r n run ≡ Some next → RunsAlong c o next
unfolding rounds
rounds_goes c o reach r zero run next right a p = subst (λ y. RunsAlong c o y) (same_Some run next p) a
rounds_goes c o reach r (suc n) run next right a p =
    rounds_on_goes c o (λ x. option_and_then (rounds c reach r n) (round c reach r x)) run next run.both.machine.ending (λ z q.
    option_and_then_some (rounds c reach r n) (round c reach r run) z q (λ x w v. rounds_goes c o reach r n x z right (round_goes c o reach r run x right a w) v)) a p

-- ---- what a turn and a run add is gated

abbrev pub origin_of : Turn → Origin
origin_of s = record { both = s.both; journal = s.journal }

-- entries that lead on, from wherever a gated journal leads
pub turn_from_follows : (c : CaseData) (reach : Reaches) (t n : ℕ) (p : Point) (s x : Turn) → AreReaches c.image reach → length s.both.gate.spots ≡ 64 → turn_from c reach t n p s ≡ Some x → Follows c (origin_of s) x.both x.journal
turn_from_follows c reach t n p s x right spots q = turn_from_goes c (origin_of s) reach t n p s x right (follows_itself c s.both s.journal spots) q

pub turn_follows : (c : CaseData) (reach : Reaches) (r : Rules) (t : ℕ) (p : Point) (s x : Turn) → AreReaches c.image reach → length s.both.gate.spots ≡ 64 → turn c reach r t p s ≡ Some x → Follows c (origin_of s) x.both x.journal
turn_follows c reach r t p s x right spots q = turn_goes c (origin_of s) reach r t p s x right (follows_itself c s.both s.journal spots) q

pub turn_from_gated : (c : CaseData) (reach : Reaches) (t n : ℕ) (p : Point) (s x : Turn) → AreReaches c.image reach → Leads c (begin c) s.journal s.both → turn_from c reach t n p s ≡ Some x → Leads c (begin c) x.journal x.both
turn_from_gated c reach t n p s x right a q = gated_follows c (origin_of s) x.both x.journal a (turn_from_follows c reach t n p s x right (spots_from c s.both s.journal a) q)

pub turn_gated : (c : CaseData) (reach : Reaches) (r : Rules) (t : ℕ) (p : Point) (s x : Turn) → AreReaches c.image reach → Leads c (begin c) s.journal s.both → turn c reach r t p s ≡ Some x → Leads c (begin c) x.journal x.both
turn_gated c reach r t p s x right a q = gated_follows c (origin_of s) x.both x.journal a (turn_follows c reach r t p s x right (spots_from c s.both s.journal a) q)

abbrev pub origin_at : Run → Origin
origin_at run = record { both = run.both; journal = run.journal }

pub starts : (c : CaseData) → Leads c (begin c) [] (begin c)
unfolding Leads
starts c = refl

-- the whole serial run is played and gated
pub serial_goes : (c : CaseData) (reach : Reaches) (r : Rules) (run : Run) → AreReaches c.image reach → serial_by c reach r ≡ Some run → Leads c (begin c) run.journal run.both
serial_goes c reach r run right p =
    let first = follows_itself c (begin c) [] (spots_from c (begin c) [] (starts c)) in
    gated_follows c (origin_at (at_start c)) run.both run.journal (starts c) (rounds_goes c (origin_at (at_start c)) reach r (2 * c.limit + 65537) (at_start c) run right first p)
