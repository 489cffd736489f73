-- Each round of the serial order without an ending makes an entry, so a serial run ends within its rounds.
use Rattle.std.proofs.Common.{◌≡◌, ◌≢◌, ℕ, zero, suc, ◌+◌, ◌*◌, ◌≤◌, Bool, true, false, List, [], ◌∷◌, Option, Some, None, refl, sym, ap, ◌∙◌, arith, ◌==◌, length, length-append}
use Rattle.std.specs.Prelude.{option_and_then, IsSome}
use Rattle.std.proofs.lemmas.Bool.Decides.{nat_tests}
use Rattle.std.proofs.lemmas.Option.{option_and_then_some, none-some, same_Some}
use Rattle.journal_pack.specs.declared.entry.Entry.{Entry}
use Rattle.journal_pack.specs.declared.entry.Entry.TheVariants.{Dead}
use Rattle.machine_model.specs.declared.ending.RunEnd.{RunEnd}
use Rattle.machine_model.specs.CaseData.{CaseData}
use Rattle.machine_model.specs.State.{start, slots}
use Rattle.machine_model.specs.Play.{walk}
use Rattle.machine_model.specs.Gated.{Both, Leads, advance, begin}
use Rattle.machine_model.specs.Serial.{AreReaches, Reaches, Rules, Run, at_start, dead_if, one_turn, round, rounds, rounds_on, serial_by, with_dead}
use Rattle.machine_model.proofs.Costs.{all_costs, left_of, open_by}
use Rattle.machine_model.proofs.SerialGated.{RunsAlong, follows_itself, one_turn_goes, origin_at, round_goes, serial_goes, spots_from, spots_on, starts, walk_keeps}

longer_dead : (run next : Run) (then : Option Both) → with_dead run then ≡ Some next → length next.journal ≡ length run.journal + 1
longer_dead run next None p = absurd (none-some next p)
longer_dead run next (Some n) p = ap (λ (x : Run). length x.journal) (sym (same_Some _ next p)) ∙ length-append run.journal (Dead ∷ [])

longer_by : (c : CaseData) (n : ℕ) (run next : Run) (b : Bool) → (length run.journal == n) ≡ b → n ≤ length run.journal → dead_if c run b ≡ Some next → n + 1 ≤ length next.journal
longer_by c n run next true e le p = let h = longer_dead run next (advance c run.both Dead) p in omega arith
longer_by c n run next false e le p =
    let ne : length run.journal ≢ n = grind (arith, nat_tests) in
    let same = ap (λ (x : Run). length x.journal) (same_Some run next p) in
    omega arith

follows_longer : (c : CaseData) (run next : Run) → RunsAlong c (origin_at run) next → length run.journal ≤ length next.journal
follows_longer c run next h =
    let n = ap length h.added in
    let m = length-append run.journal h.more in
    omega (arith, n, m)

-- a round without an ending makes an entry
pub round_longer : (c : CaseData) (reach : Reaches) (r : Rules) (run next : Run) → AreReaches c.image reach → length run.both.gate.spots ≡ 64 → round c reach r run ≡ Some next → length run.journal + 1 ≤ length next.journal
unfolding round
round_longer c reach r run next right spots p =
    option_and_then_some (λ after. dead_if c after (length after.journal == length run.journal)) (walk (one_turn c reach r) run slots) next p (λ after q w.
    let first = follows_itself c run.both run.journal spots in
    let along = walk_keeps (RunsAlong c (origin_at run)) (one_turn c reach r) (λ s n e b k. one_turn_goes c (origin_at run) reach r s n e right b k) run after slots first q in
    longer_by c (length run.journal) after next (length after.journal == length run.journal) refl (follows_longer c run after along) w)

some_not : (e : RunEnd) {P : Type 0} → Some e ≡ None → P
some_not e h = absurd (let q : Some e ≡ None = h in cc)

rounds_by : (c : CaseData) (on : Run → Option Run) (n : ℕ) (run next : Run) (end : Option RunEnd) → run.both.machine.ending ≡ end → ((z : Run) → on run ≡ Some z → z.both.machine.ending ≡ None → n ≤ length z.journal) → rounds_on on run end ≡ Some next → next.both.machine.ending ≡ None → n ≤ length next.journal
rounds_by c on n run next None e more p going = more next p going
rounds_by c on n run next (Some x) e more p going = some_not x (sym e ∙ ap (λ (z : Run). z.both.machine.ending) (same_Some run next p) ∙ going)

-- so many rounds without an ending make as many entries
rounds_longer : (c : CaseData) (reach : Reaches) (r : Rules) (n : ℕ) (run next : Run) → AreReaches c.image reach → length run.both.gate.spots ≡ 64 → rounds c reach r n run ≡ Some next → next.both.machine.ending ≡ None → length run.journal + n ≤ length next.journal
unfolding rounds
rounds_longer c reach r zero run next right spots p going = let e = ap (λ (x : Run). length x.journal) (same_Some run next p) in omega (arith, e)
rounds_longer c reach r (suc n) run next right spots p going =
    rounds_by c (λ x. option_and_then (rounds c reach r n) (round c reach r x)) (length run.journal + suc n) run next run.both.machine.ending refl (λ z q g.
    option_and_then_some (rounds c reach r n) (round c reach r run) z q (λ x w v.
    let one = round_longer c reach r run x right spots w in
    let first = follows_itself c run.both run.journal spots in
    let along = round_goes c (origin_at run) reach r run x right first w in
    let more = rounds_longer c reach r n x z right (spots_on c run.both x.both along.more along.leads ∙ spots) v g in
    omega (arith, one, more))) p going

start_due : (c : CaseData) → left_of c (begin c) ≤ 2 * c.limit + 65537
unfolding begin start
start_due c = omega arith

ended_by : (c : CaseData) (n : Both) (journal : List Entry) (end : Option RunEnd) → n.machine.ending ≡ end → Leads c (begin c) journal n → (n.machine.ending ≡ None → 2 * c.limit + 65537 ≤ length journal) → IsSome end
ended_by c n journal None e leads long =
    let all = all_costs c (begin c) n journal leads in
    let few = start_due c in
    let many = long e in
    let one = ap open_by e in
    absurd (omega arith)
ended_by c n journal (Some x) e leads long = refl

-- a serial run ends within its rounds
pub serial_ends : (c : CaseData) (reach : Reaches) (r : Rules) (run : Run) → AreReaches c.image reach → serial_by c reach r ≡ Some run → IsSome run.both.machine.ending
serial_ends c reach r run right p =
    let spots = spots_from c (begin c) [] (starts c) in
    ended_by c run.both run.journal run.both.machine.ending refl (serial_goes c reach r run right p) (λ going. let h = rounds_longer c reach r (2 * c.limit + 65537) (at_start c) run right spots p going in omega arith)
