-- The entries that a walker has taken.
use Rattle.std.proofs.Common.{◌≡◌, ℕ, ◌+◌, ◌*◌, ◌≤◌, ◌^◌, true, List, [], ◌∷◌, ◌++◌, Some, None, refl, sym, ap, ◌∙◌, subst, arith, length, length-append}
use Rattle.journal_pack.specs.declared.entry.Entry.{Entry}
use Rattle.machine_model.specs.CaseData.{CaseData}
use Rattle.machine_model.specs.State.{is_live}
use Rattle.machine_model.specs.Gated.{Both, Leads, begin}
use Rattle.machine_model.specs.Play.{play}
use Rattle.machine_model.proofs.Calls.{calls_played, can_ask}
use Rattle.machine_model.proofs.Counts.{numbers_played}
use Rattle.machine_model.proofs.Costs.{bounded}
use Rattle.machine_model.proofs.Gates.{leads_play}
use Rattle.replay_view.specs.Follow.{Follows, HasTaken, IsTaken, IsWalked, TakesOne, WalkData}
use Rattle.replay_machine.specs.Machines.{CanServe}
use Rattle.replay_view.specs.declared.view.View.{View}
use Rattle.replay_view.specs.Views.{IsViewAfter, view_of}

-- what is followed is gated
pub leads : (c : CaseData) (b n : Both) (es : List Entry) → Follows c b es n → Leads c b es n
unfolding Follows Leads
leads c b n [] p = p
leads c b n (e ∷ es) p = (p.0, p.1.comes.step, p.1.comes.allowed, leads c p.0 n es p.2)

pub follows_more : (c : CaseData) (b m n : Both) (es : List Entry) (e : Entry) → Follows c b es m → IsTaken c m e n → Follows c b (es ++ e ∷ []) n
unfolding Follows
follows_more c b m n [] e p t = (n, subst (λ x. IsTaken c x e n) (sym p) t, refl)
follows_more c b m n (x ∷ es) e p t = (p.0, p.1, follows_more c p.0 m n es e p.2 t)

pub at_start : (c : CaseData) (w : WalkData) → w.case ≡ c → w.both ≡ begin c → w.taken ≡ 0 → HasTaken w []
unfolding Follows
at_start c w case both taken = record { follows = ap begin case ∙ sym both; count = sym taken }

-- one entry more
pub one_more : (w n : WalkData) (entries : List Entry) (e : Entry) → HasTaken w entries → TakesOne w e n → HasTaken n (entries ++ e ∷ [])
one_more w n entries e h t = record {
  follows = subst (λ c. Follows c (begin c) (entries ++ e ∷ []) n.both) (sym t.case) (follows_more w.case (begin w.case) w.both n.both entries e h.follows t.taken);
  count = length-append entries (e ∷ []) ∙ ap (λ x. x + 1) h.count ∙ sym t.count;
}

pub walked_on : (w n : WalkData) (e : Entry) → IsWalked w → TakesOne w e n → IsWalked n
walked_on w n e h t = record { entries = h.entries ++ e ∷ []; taken = one_more w n h.entries e h.taken t; limit = subst (λ (c : CaseData). c.limit ≤ 2 ^ 27) (sym t.case) h.limit }

-- while the run goes on, whatever a live thread asks of the library can be asked
pub serves : (w : WalkData) → IsWalked w → w.both.machine.ending ≡ None → (t : ℕ) → is_live w.both.machine t ≡ true → CanServe w.both.machine t
serves w h going t live cpu what =
    let played : play w.case h.entries ≡ Some w.both.machine = leads_play w.case w.both h.entries (leads w.case (begin w.case) w.both h.entries h.taken.follows) in
    let n = numbers_played w.case h.entries w.both.machine h.limit played going in
    can_ask w.both.machine t cpu what (calls_played w.case h.entries w.both.machine played) live n.0 n.1

-- few entries are taken
pub few_taken : (w : WalkData) → IsWalked w → w.taken ≤ 268500993
few_taken w h =
    let n : length h.entries ≤ 2 * w.case.limit + 65537 = bounded w.case h.entries (w.both, leads w.case (begin w.case) w.both h.entries h.taken.follows) in
    let e : length h.entries ≡ w.taken = h.taken.count in
    let limit : w.case.limit ≤ 2 ^ 27 = h.limit in
    omega arith

pub walked_at_start : (c : CaseData) (w : WalkData) → w.case ≡ c → w.both ≡ begin c → w.taken ≡ 0 → c.limit ≤ 2 ^ 27 → IsWalked w
walked_at_start c w case both taken limit = record { entries = []; taken = at_start c w case both taken; limit = subst (λ (x : CaseData). x.limit ≤ 2 ^ 27) (sym case) limit }

-- what the walker shows is the view after the entries that it has taken
pub shown : (c : CaseData) (w : WalkData) (entries : List Entry) (view : View) → HasTaken w entries → w.case ≡ c → view ≡ view_of w.both → IsViewAfter c entries view
shown c w entries view h case shows =
    let follows : Follows c (begin c) entries w.both = subst (λ x. Follows x (begin x) entries w.both) case h.follows in
    record { both = w.both; follows = follows; machine = leads_play c w.both entries (leads c (begin c) w.both entries follows); shows = shows }
