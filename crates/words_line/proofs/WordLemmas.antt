-- Words and what clap found.
use Rattle.std.proofs.Common.{◌≡◌, ℕ, ◌+◌, ◌<◌, ◌≤◌, Bool, true, false, List, [], ◌∷◌, ◌++◌, length, ltb, not, ◌&&◌, ◌||◌, cond, get_or, take, drop, Option, Some, None, Result, Ok, Err, String, string_bytes, zero, suc, add-one, refl, sym, ap, ◌∙◌, arith}
use Rattle.std.specs.List.{list_any}
use Rattle.std.proofs.lemmas.List.{drop-map, get_or-map, take_more, map-append, length-map}
use Rattle.std.proofs.lemmas.List.Sums.{position_or_len_is}
use Rattle.std.proofs.lemmas.Bool.{le-ltb, lt-ltb, ltb-false, ltb-true}
use Rattle.std.specs.Prelude.{slice_get}
use borrow.Author.Count.{below_more}
use Rattle.clap.proofs.WalkLemmas.{first_value-rows}
use Rattle.clap.specs.Words.{App, Text, fault_of, first_of, first_value, found_of, is_simple_and_free, matches_of, rows_of}
use Rattle.clap.specs.Walk.{is_empty}
use Rattle.clap.specs.declared.parser.matches.ArgMatches.{ArgMatches}
use Rattle.words_line.specs.declared.plan.Plan.{Plan}
use Rattle.words_line.specs.declared.plan.WordsFault.{WordsFault}
use Rattle.words_line.specs.declared.plan.WordsFault.TheVariants.{NoCommand, Line}
use Rattle.words_line.specs.declared.table.Kind.{Kind}
use Rattle.words_line.specs.declared.table.Kind.TheVariants as kinds
use Rattle.words_line.specs.declared.plan.WordsError.{WordsError}
use Rattle.words_line.specs.declared.plan.WordsError.TheVariants.{Fault, Memory}
use Rattle.words_line.specs.Commands.{AnswersBy, CommandRow, IsBadLine, command_of, dashes_at, is_dashes, is_refused, line_of, plan_by, plan_of, plan_or_unknown, row_of, texts}
use Rattle.words_line.specs.Plans.{given}

-- the first value of a name, by the rows
pub first_here : (m : ArgMatches) (id : Text) → first_value (found_of m) id ≡ first_of id (rows_of (found_of m))
first_here m id = first_value-rows (found_of m) id

-- the text of a word
pub word_at : {Y : Type 0} (words : List (String Y)) (i : ℕ) (w : String Y) → i < length words → get_or (texts words) i [] ≡ string_bytes (get_or words i w)
word_at words i w h = get_or-map (λ word. string_bytes word) words i w [] h

behind : {A : Type 0} (xs : List A) (i : ℕ) (x : A) (ys : List A) → drop i xs ≡ x ∷ ys → drop (suc i) xs ≡ ys
behind [] zero x ys e = absurd cc
behind [] (suc i) x ys e = absurd cc
behind (w ∷ ws) zero x ys e = cc
behind (w ∷ ws) (suc i) x ys e = behind ws i x ys e

-- the arguments behind a word
pub args_behind : {Y : Type 0} (words args : List (String Y)) (at : ℕ) (w : String Y) → drop at words ≡ w ∷ args → texts args ≡ drop (at + 1) (texts words)
args_behind words args at w e = sym (drop-map (λ word. string_bytes word) (at + 1) words ∙ ap texts (ap (λ (n : ℕ). drop n words) (add-one at) ∙ behind words at w args e))

-- one more word
pub more_texts : {Y : Type 0} (words copies new : List (String Y)) (i : ℕ) (copy w : String Y) → texts copies ≡ take i (texts words) → i < length words → new ≡ copies ++ copy ∷ []
    → w ≡ get_or words i w → string_bytes copy ≡ string_bytes w → texts new ≡ take (i + 1) (texts words)
more_texts {Y} words copies new i copy w so_far h pushed is same =
    let here : get_or (texts words) i [] ≡ string_bytes w = word_at words i w h ∙ ap (λ (x : String Y). string_bytes x) (sym is) in
    let one : string_bytes copy ∷ [] ≡ get_or (texts words) i [] ∷ [] = ap (λ (t : Text). t ∷ []) (same ∙ sym here) in
    ap texts pushed ∙ map-append (λ word. string_bytes word) copies (copy ∷ []) ∙ ap (λ (ts : List Text). ts ++ string_bytes copy ∷ []) so_far ∙ ap (λ (ts : List Text). take i (texts words) ++ ts) one
    ∙ sym (take_more (texts words) i [] (omega (arith, h, length-map words (λ word. string_bytes word))))

-- ---- the place of the first `--`

abbrev pub NoneBelow : List Text → ℕ → Type 0
NoneBelow words i = (k : ℕ) → k < i → is_dashes (get_or words k []) ≡ false

pub at_place : {Y : Type 0} (words : List (String Y)) (i : ℕ) (w : String Y) → i < length words → NoneBelow (texts words) i → w ≡ get_or words i w → is_dashes (string_bytes w) ≡ true → i ≡ dashes_at (texts words)
at_place {Y} words i w h none is found =
    let here : is_dashes (get_or (texts words) i []) ≡ true = ap is_dashes (word_at words i w h ∙ ap (λ (x : String Y). string_bytes x) (sym is)) ∙ found in
    sym (position_or_len_is is_dashes (texts words) i [] (omega (arith, h, length-map words (λ word. string_bytes word))) none (λ _. here))

pub not_at : {Y : Type 0} (words : List (String Y)) (i : ℕ) (w : String Y) → i < length words → NoneBelow (texts words) i → w ≡ get_or words i w → is_dashes (string_bytes w) ≡ false → NoneBelow (texts words) (i + 1)
not_at {Y} words i w h none is other =
    let here : is_dashes (get_or (texts words) i []) ≡ false = ap is_dashes (word_at words i w h ∙ ap (λ (x : String Y). string_bytes x) (sym is)) ∙ other in
    below_more (λ k. is_dashes (get_or (texts words) k []) ≡ false) i none here

pub at_end : {Y : Type 0} (words : List (String Y)) (i : ℕ) → length words ≤ i → NoneBelow (texts words) i → length words ≡ dashes_at (texts words)
at_end words i h none =
    let same = length-map words (λ word. string_bytes word) in
    sym (position_or_len_is is_dashes (texts words) (length words) [] (omega (arith, same)) (λ k lt. none k (omega (arith, lt, h))) (λ lt. absurd (omega (arith, lt, same))))

less_by : (a b : ℕ) (t : Bool) → ltb a b ≡ t → ltb (1 + a) (suc b) ≡ t
less_by a b true e = lt-ltb (1 + a) (suc b) (omega (arith, ltb-true a b e))
less_by a b false e = le-ltb (1 + a) (suc b) (omega (arith, ltb-false a b e))

by_less : (a b : ℕ) → ltb (1 + a) (suc b) ≡ ltb a b
by_less a b = less_by a b (ltb a b) refl

any_is : (words : List Text) → ltb (dashes_at words) (length words) ≡ list_any is_dashes words
any_is [] = refl
any_is (w ∷ ws) = by (is_dashes w) refl (any_is ws)
  where
    by : (t : Bool) → is_dashes w ≡ t → ltb (dashes_at ws) (length ws) ≡ list_any is_dashes ws → ltb (cond (not (is_dashes w)) (1 + dashes_at ws) 0) (suc (length ws)) ≡ (is_dashes w || list_any is_dashes ws)
    by true e r = rw e (lt-ltb 0 (suc (length ws)) (omega arith))
    by false e r = rw e (by_less (dashes_at ws) (length ws) ∙ r)

with_arguments : (h a : Bool) → h ≡ true → false ≡ (not h && a)
with_arguments true a e = refl
with_arguments false a e = absurd cc

pub not_refused : (row : CommandRow) (words : List Text) (h : Bool) → h ≡ row.has_arguments → h ≡ true → false ≡ is_refused row words
not_refused row words h is e = with_arguments row.has_arguments (list_any is_dashes words) (sym is ∙ e)

without_arguments : (h a : Bool) → h ≡ false → a ≡ (not h && a)
without_arguments true a e = absurd cc
without_arguments false a e = refl

pub refused_by : {Y : Type 0} (row : CommandRow) (words : List (String Y)) (at : ℕ) (h : Bool) → at ≡ dashes_at (texts words) → h ≡ row.has_arguments → h ≡ false → ltb at (length words) ≡ is_refused row (texts words)
refused_by row words at h place is e =
    (λ i. ltb (place i) (sym (length-map words (λ word. string_bytes word)) i)) ∙ any_is (texts words) ∙ without_arguments row.has_arguments (list_any is_dashes (texts words)) (sym is ∙ e)

-- ---- the plan of a line

pub plan_refused : (row : CommandRow) (words : List Text) → is_refused row words ≡ true → plan_by row words ≡ Err Line
plan_refused row words e = ap (λ (b : Bool). cond b (Err Line) (line_of row.app (take (dashes_at words) words) (row.plan (drop (dashes_at words + 1) words)))) e

pub plan_line : (row : CommandRow) (words : List Text) → is_refused row words ≡ false → plan_by row words ≡ line_of row.app (take (dashes_at words) words) (row.plan (drop (dashes_at words + 1) words))
plan_line row words e = ap (λ (b : Bool). cond b (Err Line) (line_of row.app (take (dashes_at words) words) (row.plan (drop (dashes_at words + 1) words)))) e

pub line_read : (app : App) (words : List Text) (plan : (Text → Option Text) → Plan) → fault_of app words ≡ [] → line_of app words plan ≡ Ok (plan (given (matches_of app words)))
line_read app words plan e = ap (λ (b : Bool). cond b (Ok (plan (given (matches_of app words)))) (Err Line)) (ap is_empty e)

pub line_bad : (app : App) (words : List Text) (plan : (Text → Option Text) → Plan) → is_empty (fault_of app words) ≡ false → line_of app words plan ≡ Err Line
line_bad app words plan e = ap (λ (b : Bool). cond b (Ok (plan (given (matches_of app words)))) (Err Line)) e

-- where clap refuses the line, the error is the line's, but for want of memory
pub bad_answer : (words : Result Plan WordsFault) (no_fault : Bool) (e : WordsError) → (no_fault ≡ false → words ≡ Err Line) → IsBadLine no_fault e → AnswersBy words (Err e)
bad_answer words no_fault (Fault f) line h = line h.1 ∙ ap (λ (g : WordsFault). Err g) (sym h.0)
bad_answer words no_fault (Memory m) line h = tt

-- clap's functions tell all of each command
pub each_simple : (kind : Kind) → is_simple_and_free (row_of kind).app ≡ true
each_simple kinds.Lift = refl
each_simple kinds.Run = refl
each_simple kinds.Gen = refl

-- ---- the plan of the words

pub none_first : {Y : Type 0} (words : List (String Y)) → slice_get words 0 ≡ None → plan_of (texts words) ≡ Err NoCommand
unfolding plan_of
none_first [] e = refl
none_first (w ∷ ws) e = absurd cc

pub some_first : {Y : Type 0} (words : List (String Y)) (w : String Y) → slice_get words 0 ≡ Some w → plan_of (texts words) ≡ plan_or_unknown (command_of (string_bytes w)) (texts words)
unfolding plan_of
some_first [] w e = absurd cc
some_first {Y} (v ∷ vs) w e = ap (λ (o : Option (String Y)). plan_first o (texts (v ∷ vs))) e
  where
    plan_first : Option (String Y) → List Text → Result Plan WordsFault
    plan_first None words = Err NoCommand
    plan_first (Some x) words = plan_or_unknown (command_of (string_bytes x)) words
