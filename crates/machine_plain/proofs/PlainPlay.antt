-- A journal played entry by entry.
use Rattle.std.proofs.Common.{◌≡◌, ℕ, zero, suc, ◌+◌, ◌^◌, ◌<◌, ◌≤◌, true, List, [], ◌∷◌, ◌++◌, Option, Some, None, refl, sym, ap, ◌∙◌, arith, length, take, drop, get_or, add-one}
use Rattle.std.specs.Prelude.{option_and_then}
use Rattle.std.proofs.lemmas.List.{take_all as all_taken}
use Rattle.journal_pack.specs.declared.entry.Entry.{Entry}
use Rattle.machine_plain.specs.declared.machine.PlainFault.{PlainFault}
use Rattle.machine_plain.specs.declared.machine.PlainFault.TheVariants.{Lay, Crowded, Memory}
use Rattle.machine_model.specs.CaseData.{CaseData}
use Rattle.machine_model.specs.State.{Machine, is_live, start}
use Rattle.machine_model.specs.Step.{step}
use Rattle.machine_model.specs.Play.{walk, play}
use Rattle.machine_plain.specs.Plain.{CanServe, FaultsAtStart, FaultsIn, IsFull}
use Rattle.machine_model.proofs.Calls.{calls_played, can_ask}
use Rattle.machine_model.proofs.Counts.{numbers_played}
use Rattle.machine_model.proofs.Walks.{play_more, walk_append}

pub play_nothing : (c : CaseData) (journal : List Entry) (m : Machine) → m ≡ start c → play c (take 0 journal) ≡ Some m
unfolding play walk
play_nothing c [] m e = ap (λ x. Some x) (sym e)
play_nothing c (x ∷ journal) m e = ap (λ x. Some x) (sym e)

pub next_taken : (xs : List Entry) (i : ℕ) (d : Entry) → i < length xs → take (suc i) xs ≡ take i xs ++ get_or xs i d ∷ []
next_taken [] i d lt = absurd (omega arith)
next_taken (x ∷ xs) zero d lt = refl
next_taken (x ∷ xs) (suc i) d lt = ap (λ y. x ∷ y) (next_taken xs i d (omega arith))

pub split_at : (xs : List Entry) (i : ℕ) (d : Entry) → i < length xs → xs ≡ take i xs ++ get_or xs i d ∷ drop (suc i) xs
split_at [] i d lt = absurd (omega arith)
split_at (x ∷ xs) zero d lt = refl
split_at (x ∷ xs) (suc i) d lt = ap (λ y. x ∷ y) (split_at xs i d (omega arith))

pub play_next : (c : CaseData) (journal : List Entry) (i : ℕ) (m n : Machine) (d : Entry) → play c (take i journal) ≡ Some m → i < length journal → step c m (get_or journal i d) ≡ Some n → play c (take (i + 1) journal) ≡ Some n
play_next c journal i m n d p lt s =
    ap (λ x. play c (take x journal)) (add-one i)
    ∙ ap (play c) (next_taken journal i d lt)
    ∙ play_more c (take i journal) (get_or journal i d)
    ∙ ap (option_and_then (λ x. step c x (get_or journal i d))) p
    ∙ s

stuck_walk : {S E : Type 0} (f : S → E → Option S) (s m : S) (xs ys : List E) (e : E) → walk f s xs ≡ Some m → f m e ≡ None → walk f s (xs ++ e ∷ ys) ≡ None
unfolding walk
stuck_walk f s m xs ys e p q = walk_append f s xs (e ∷ ys) ∙ ap (option_and_then (λ n. walk f n (e ∷ ys))) p ∙ ap (option_and_then (λ n. walk f n ys)) q

pub play_stuck : (c : CaseData) (journal : List Entry) (i : ℕ) (m : Machine) (d : Entry) → play c (take i journal) ≡ Some m → i < length journal → step c m (get_or journal i d) ≡ None → play c journal ≡ None
unfolding play
play_stuck c journal i m d p lt s =
    ap (play c) (split_at journal i d lt)
    ∙ stuck_walk (step c) (start c) m (take i journal) (drop (suc i) journal) (get_or journal i d) p s

pub play_all : (c : CaseData) (journal : List Entry) (i : ℕ) (m : Machine) → play c (take i journal) ≡ Some m → length journal ≤ i → play c journal ≡ Some m
play_all c journal i m p le = ap (play c) (sym (all_taken i journal le)) ∙ p

pub fault_on_the_way : (c : CaseData) (journal : List Entry) (i : ℕ) (m : Machine) (t : ℕ) (fault : PlainFault) → play c (take i journal) ≡ Some m → IsFull m t fault → FaultsIn c journal fault
fault_on_the_way c journal i m t (Lay f) p h = absurd h
fault_on_the_way c journal i m t Crowded p h = record { entries = i; machine = m; thread = t; played = p; full = h }
fault_on_the_way c journal i m t (Memory e) p h = tt

pub fault_at_start : (c : CaseData) (journal : List Entry) (fault : PlainFault) → FaultsAtStart c fault → FaultsIn c journal fault
fault_at_start c journal (Lay f) h = h
fault_at_start c journal Crowded h = absurd h
fault_at_start c journal (Memory e) h = tt

-- while the run goes on, whatever a live thread asks of the library can be asked
pub played_serves : (c : CaseData) (journal : List Entry) (i : ℕ) (m : Machine) → play c (take i journal) ≡ Some m → c.limit ≤ 2 ^ 27 → m.ending ≡ None → (t : ℕ) → is_live m t ≡ true → CanServe m t
played_serves c journal i m p limit going t live cpu what =
    let n = numbers_played c (take i journal) m limit p going in
    can_ask m t cpu what (calls_played c (take i journal) m p) live n.0 n.1
